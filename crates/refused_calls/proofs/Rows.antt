-- What a session knows of its rows, and what a call that makes a row of others leaves of its manager.
use Rattle.std.proofs.Common.{◌≡◌, ℕ, ◌<◌, Bool, true, false, List, [], ◌∷◌, Result, Ok, Err, refl, ap, sym, subst, ◌∙◌, arith}
use Rattle.std.proofs.lemmas.List.Elements.{All-cons, All-nil}
use Rattle.edge_bits.specs.declared.edges.Kind.{Kind}
use Rattle.edge_bits.specs.declared.edges.Kind.TheVariants as kinds
use Rattle.function_laws.specs.declared.history.Call.{Call}
use Rattle.function_laws.specs.declared.history.Call.TheVariants as calls
use Rattle.function_laws.specs.declared.history.Name.{Name}
use Rattle.function_laws.specs.declared.making.Making.{Making}
use Rattle.function_laws.specs.Makings.{needs_nodes, pairs}
use Rattle.operator_calls.specs.Taking.{CanTake}
use Rattle.operator_calls.specs.declared.unmade.Unmade.{Unmade}
use Rattle.dd_session.specs.declared.answers.Placed.{Placed}
use Rattle.dd_session.specs.declared.answers.Refusal.{Refusal}
use Rattle.dd_session.specs.declared.answers.Refusal.TheVariants as refusals
use Rattle.dd_session.specs.MadeRows.{MakesOrTells, Refuses, TellsRow, chooses, with_why}
use Rattle.dd_session.specs.Sessions.{Denies, IsLive, IsLiveAs, Seen, elements_in, variables_in}

-- a live row is of the kind that it is told to be of
pub live_as_told : (s : Seen) (h : Name) (told k : Kind) → IsLive s h → ((j : Kind) → IsLiveAs j s h → told ≡ j) → told ≡ k → IsLiveAs k s h
live_as_told s h told k live is same = subst (λ (j : Kind). IsLiveAs j s h) (sym (is live.0 live.1) ∙ same) live.1

-- two rows may be put for the first two of three variables
pub two_pairs : (s : Seen) (first second : Name) → s.manager.vars ≡ 3 → IsLiveAs kinds.Bdd s first → IsLiveAs kinds.Bdd s second
    → CanTake (λ k a. IsLiveAs k s a) s.manager.vars (variables_in s) (elements_in s) (pairs ((0, first) ∷ (1, second) ∷ []))
two_pairs s first second three is_first is_second =
    let below : ℕ × Name → Type 0 = λ pair. pair.0 < variables_in s in
    let live : ℕ × Name → Type 0 = λ pair. IsLiveAs kinds.Bdd s pair.1 in (
      All-cons below (0, first) ((1, second) ∷ []) (omega arith) (All-cons below (1, second) [] (omega arith) (All-nil below)),
      All-cons live (0, first) ((1, second) ∷ []) is_first (All-cons live (1, second) [] is_second (All-nil live)),
      refl,
    )

module _ (old new : Seen) (making : Making Name (List ℕ) (List (ℕ × Name))) where
  abbrev call : Call
  call = calls.Makes making

  -- a refusal is denied, whether nodes may be needed or not
  denied : (needs : Bool) (refusal : Refusal) → Refuses needs old new call refusal → Denies old new call refusal
  denied true refusal refused = refused
  denied false refusal refused = refused.1

  denied_manager : (refusal : Refusal) → Denies old new call refusal → new.manager ≡ old.manager
  denied_manager refusals.Memory denies = ap (λ (s : Seen). s.manager) denies.0
  denied_manager (refusals.Full full) denies = denies.0.manager_is

  told_manager : (chosen : Bool) (told : Result Name Unmade) (place : ℕ) → TellsRow chosen old new call told place → new.manager ≡ old.manager
  told_manager true (Ok name) place tells = tells.1.manager_is
  told_manager true (Err why) place tells = tells.manager_is
  told_manager false told place tells = tells.manager_is

  pub same_manager : (made : Result (Placed (Result Name Unmade)) Refusal) → MakesOrTells old new making made → new.manager ≡ old.manager
  same_manager (Ok placed) makes = told_manager (chooses making) (with_why (λ why. why) placed.value) placed.place makes.told
  same_manager (Err refusal) makes = denied_manager refusal (denied (needs_nodes making) refusal makes.told)
