-- A session that sifts, if that is asked for, and then tells.
use Rattle.std.proofs.Common.{◌≡◌, ℕ, ◌≤◌, Bool, false, true, [], ◌∷◌, refl, sym, subst, arith}
use Rattle.std.proofs.lemmas.List.Elements.{All-cons, All-nil}
use Rattle.function_laws.specs.declared.history.Call.TheVariants as calls
use Rattle.function_laws.specs.declared.history.Name.{Name}
use Rattle.function_laws.specs.declared.history.Reply.TheVariants as replies
use Rattle.function_laws.specs.SessionEntries.{entry}
use Rattle.net_builds.specs.Handings.{IsWithin, Returns}
use Rattle.net_builds.specs.Shares.{SiftsIf}
use Rattle.net_builds.specs.Standings.{IsLive, Standing}
use Rattle.net_builds.proofs.Gathering.{returns_none}
use Rattle.net_builds.proofs.StandingLemmas.{still_live}

-- names stand for what they did, and there are no more rows
pub record Stays (old new : Standing) : Type 0 where
  pub vars_are : new.vars ≡ old.vars
  pub more : old.adds ≤ new.adds
  pub stands : (other : Name) → new.stands other ≡ old.stands other
  pub rows : new.rows ≤ old.rows

pub sift_stays : (sifts : Bool) (limit : ℕ) (old new : Standing) → SiftsIf sifts limit old new → Stays old new
sift_stays false limit old new same = subst (Stays old) (sym same) (record { vars_are = refl; more = omega arith; stands = λ other. refl; rows = omega arith })
sift_stays true limit old new ((place, sifts), counted) = record { vars_are = sifts.vars_are; more = omega (arith, sifts.adds_are); stands = sifts.kept; rows = sifts.rows }

pub stays_live : (old new : Standing) → Stays old new → (name : Name) → IsLive old name → IsLive new name
stays_live old new stays name live = still_live old new name stays.more (stays.stands name) live

pub sift_returns : (cell : ℕ) (sifts : Bool) (limit : ℕ) (old new : Standing) → SiftsIf sifts limit old new → Returns cell sifts old new
sift_returns cell false limit old new same = subst (Returns cell false old) (sym same) (returns_none cell false old)
sift_returns cell true limit old new ((place, sifts), counted) = record {
  vars_are = sifts.vars_are;
  number_is = sifts.number_is;
  gained = entry place old.number (calls.Sift sifts.told) replies.Done ∷ [];
  entries_are = sifts.entries_are;
  within = All-cons (IsWithin cell) (entry place old.number (calls.Sift sifts.told) replies.Done) [] (record { plain = refl; elsewhere = λ other apart. refl }) (All-nil (IsWithin cell));
  keeps = λ none. absurd (differs none);
  more = omega (arith, sifts.adds_are);
  kept = λ other below. sifts.kept other;
  rows = sifts.rows;
}
  where
    differs : true ≡ false → ⊥
    differs same = cc
