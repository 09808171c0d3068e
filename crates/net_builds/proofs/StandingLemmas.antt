-- What the calls of a session leave, one after another.
use Rattle.std.proofs.Common.{◌≡◌, ℕ, ◌≤◌, ◌^◌, Bool, List, [], ◌++◌, Some, refl, sym, ap, ◌∙◌, arith, append_assoc}
use Rattle.std.proofs.lemmas.List.{append-nil}
use Rattle.std.proofs.lemmas.List.Elements.{All-append, All-nil, All-weaker, Contains-append_left, Contains-append_right}
use Rattle.function_laws.specs.declared.history.Entry.{Entry}
use Rattle.function_laws.specs.declared.history.Function.TheVariants.{Bdd}
use Rattle.function_laws.specs.declared.history.Name.{Name}
use Rattle.function_laws.specs.Lists.{list_of}
use Rattle.function_laws.proofs.ListLemmas.{list_of-same}
use Rattle.net_builds.specs.declared.host.HostRefusal.{HostRefusal}
use Rattle.net_builds.specs.declared.host.HostRefusal.TheVariants as stops
use Rattle.net_builds.specs.Standings.{Gains, Holds, IsCaused, IsHeld, IsLive, KeepsAll, LetsGo, Makes, Note, Standing, values_of}

-- no call
unfoldable pub gains_none : (P : Entry → Type 0) (s : Standing) → Gains P s s
gains_none P s = record {
  vars_are = refl;
  number_is = refl;
  notes_are = refl;
  gained = [];
  entries_are = sym (append-nil s.entries);
  each = All-nil P;
  more = omega arith;
  behind = [];
  placed_are = sym (append-nil s.placed);
}

-- some calls, and then others
unfoldable pub gains_then : (P : Entry → Type 0) (old mid new : Standing) → Gains P old mid → Gains P mid new → Gains P old new
gains_then P old mid new first second = record {
  vars_are = second.vars_are ∙ first.vars_are;
  number_is = second.number_is ∙ first.number_is;
  notes_are = second.notes_are ∙ first.notes_are;
  gained = first.gained ++ second.gained;
  entries_are = second.entries_are ∙ ap (λ (es : List Entry). es ++ second.gained) first.entries_are ∙ append_assoc old.entries first.gained second.gained;
  each = All-append P first.gained second.gained first.each second.each;
  more = omega (arith, first.more, second.more);
  behind = first.behind ++ second.behind;
  placed_are = second.placed_are ∙ ap (λ (notes : List Note). notes ++ second.behind) first.placed_are ∙ append_assoc old.placed first.behind second.behind;
}

-- less may be said of the entries
pub gains_weaker : (P Q : Entry → Type 0) (old new : Standing) → ((e : Entry) → P e → Q e) → Gains P old new → Gains Q old new
gains_weaker P Q old new weaker gains = record {
  vars_are = gains.vars_are;
  number_is = gains.number_is;
  notes_are = gains.notes_are;
  gained = gains.gained;
  entries_are = gains.entries_are;
  each = All-weaker P Q weaker gains.gained gains.each;
  more = gains.more;
  behind = gains.behind;
  placed_are = gains.placed_are;
}

-- all names are kept by the one and by the other
pub keeps_then : (old mid new : Standing) → old.adds ≤ mid.adds → KeepsAll old mid → KeepsAll mid new → KeepsAll old new
keeps_then old mid new more first second = λ other below. second other (omega (arith, more, below)) ∙ first other below

-- a name that was given later was let go
pub keeps_gone : (old mid new : Standing) (gone : Name) → old.adds ≤ mid.adds → old.adds ≤ gone.generation → KeepsAll old mid → LetsGo mid new gone → KeepsAll old new
keeps_gone old mid new gone more newer kept goes = λ other below. goes.kept other (λ e. omega (arith, e, below, newer)) ∙ kept other below

-- what tells of a refusal is among more entries
pub caused_behind : {F : Type 0} (tells : F → Entry → Type 0) (before entries : List Entry) (refusal : HostRefusal F) → IsCaused tells entries refusal → IsCaused tells (before ++ entries) refusal
caused_behind tells before entries stops.Memory caused = tt
caused_behind tells before entries (stops.Full full) (e, among, told) = (e, Contains-append_right before entries e among, told)

pub caused_before : {F : Type 0} (tells : F → Entry → Type 0) (entries after : List Entry) (refusal : HostRefusal F) → IsCaused tells entries refusal → IsCaused tells (entries ++ after) refusal
caused_before tells entries after stops.Memory caused = tt
caused_before tells entries after (stops.Full full) (e, among, told) = (e, Contains-append_left entries after e among, told)

-- a name that stands for a function is held, and lives
pub holds_held : (s : Standing) (name : Name) (f : ℕ → Bool) → Holds s name f → IsHeld s name
holds_held s name f holds = (f, holds)

pub holds_live : (s : Standing) (name : Name) (f : ℕ → Bool) → Holds s name f → IsLive s name
holds_live s name f holds = (list_of (2 ^ s.vars) f, holds.stands, holds.given)

-- what a live name stands for
pub live_list : (s : Standing) (name : Name) → IsLive s name → (f : List Bool) × (s.stands name ≡ Some (Bdd f))
live_list s name live = (live.0, live.1)

-- a name that stands for what it stood for
module _ (old new : Standing) (name : Name) (more : old.adds ≤ new.adds) (same : new.stands name ≡ old.stands name) where
  pub still_holds : (f : ℕ → Bool) → new.vars ≡ old.vars → Holds old name f → Holds new name f
  still_holds f vars holds = record {
    stands = same ∙ holds.stands ∙ ap (λ n. values_of n f) (sym vars);
    given = omega (arith, more, holds.given);
  }

  pub still_live : IsLive old name → IsLive new name
  still_live live = (live.0, same ∙ live.1, omega (arith, more, live.2))

-- a live name, where all names are kept
pub kept_live : (old new : Standing) (name : Name) → old.adds ≤ new.adds → KeepsAll old new → IsLive old name → IsLive new name
kept_live old new name more kept live = still_live old new name more (kept name live.2) live

-- a row was made: an earlier name still holds its function
pub kept_holds : (old new : Standing) (made name : Name) (f g : ℕ → Bool) → Makes old new made f → Holds old name g → Holds new name g
kept_holds old new made name f g makes holds = still_holds old new name makes.works.more (makes.kept name holds.given) g makes.works.vars_are holds

-- another row was let go
pub left_holds : (old new : Standing) (gone name : Name) (f : ℕ → Bool) → LetsGo old new gone → (name.generation ≡ gone.generation → ⊥) → Holds old name f → Holds new name f
left_holds old new gone name f goes apart holds = still_holds old new name goes.works.more (goes.kept name apart) f goes.works.vars_are holds

-- two rows were made, and the first of them was let go
pub makes_over : (old mid late new : Standing) (a b : Name) (f g : ℕ → Bool) → Makes old mid a f → Makes mid late b g → LetsGo late new a → Makes old new b g
makes_over old mid late new a b f g first second gone = record {
  works = gains_then _ old late new (gains_then _ old mid late first.works second.works) gone.works;
  holds = left_holds late new a b g gone (λ e. absurd (omega (arith, e, second.newer, first.holds.given))) second.holds;
  newer = omega (arith, second.newer, first.works.more);
  kept = λ other given. gone.kept other (λ e. absurd (omega (arith, e, given, first.newer))) ∙ second.kept other (omega (arith, given, first.works.more)) ∙ first.kept other given;
  rows = omega (arith, first.rows, second.rows, gone.rows);
}

-- the function may be given by another that has its values
pub makes_same : (old new : Standing) (name : Name) (f g : ℕ → Bool) → Makes old new name f → ((k : ℕ) → f k ≡ g k) → Makes old new name g
makes_same old new name f g makes same = record {
  works = makes.works;
  holds = record {
    stands = makes.holds.stands ∙ ap (λ values. Some (Bdd values)) (list_of-same (2 ^ new.vars) f g (λ k below. same k));
    given = makes.holds.given;
  };
  newer = makes.newer;
  kept = makes.kept;
  rows = makes.rows;
}
