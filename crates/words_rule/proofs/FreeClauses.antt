-- The free list is given back, empty, and what was due is noted, with the clauses of a seat's step.
use Rattle.std.proofs.Common.{◌≡◌, ℕ, true, List, [], ◌∷◌, Some, ap, sym, ◌∙◌, subst}
use Rattle.std.specs.Prelude as std
use mathlib.Core.Option.{none}
use Rattle.atomic_table.specs.Table.{State, Me, rest, step, stepped, Allows}
use Rattle.edge_bits.specs.declared.edges.Kind.{Kind}
use Rattle.edge_bits.specs.declared.edges.Kind.TheVariants.{Add}
use Rattle.function_laws.specs.declared.history.Function.{Function}
use Rattle.function_laws.specs.Kinds.{Denoted, function_of}
use Rattle.function_laws.specs.Values.{constant}
use Rattle.node_store.specs.Views as views
use Rattle.node_store.specs.Views.{CanMake, node_values, values_at}
use Rattle.node_store.proofs.Parting.{same_kind}
use Rattle.step_store.specs.declared.job.Job as steps
use Rattle.step_store.specs.declared.job.Job.TheVariants as jobs
use Rattle.step_store.specs.Knowing.{IsDue, MayMake, risen}
use Rattle.words_rule.specs.declared.cell.Cell.{Cell}
use Rattle.words_rule.specs.declared.view.View.{View}
use Rattle.words_rule.specs.Rule.{Rule}
use Rattle.words_rule.specs.Plays.{empty_given}
use Rattle.words_rule.proofs.Lists.{set_at}
use Rattle.words_rule.proofs.Tabling.{gives_free_list, set_set}
use Rattle.words_rule.proofs.Working.{rule_work}
use Rattle.free_list.specs.FreeSlots.{FreeSlots}

some_denoted : (a b : Denoted) → Some a ≡ Some b → a ≡ b
some_denoted a b e = cc

-- what is due
abbrev pub due_of : (w : views.View) (job : steps.Job) → MayMake w job → Denoted
due_of w (jobs.Node v hi lo) may = function_of may.0 (node_values may.0 w v hi lo)
due_of w (jobs.Leaf x) may = function_of Add (constant x)

pub is_due : (w new : views.View) (job : steps.Job) (may : MayMake w job) → new.due ≡ Some (due_of w job may) → IsDue w new job
is_due w new (jobs.Node v hi lo) may is = λ k can.
    let same : may.0 ≡ k = same_kind may.0 k (values_at may.0 w hi) (values_at k w hi) (some_denoted _ _ (sym may.1.hi_is.is ∙ can.hi_is.is)) in
    is ∙ ap (λ (j : Kind). Some (function_of j (node_values j w v hi lo))) same
is_due w new (jobs.Leaf x) may is = is

module _ {S : Type 0} (board : S → List (std.Option Cell)) (free_slots : S → FreeSlots) (memo : S → List ℕ) where
  abbrev TheRule : State (std.Option S) View → Type 0
  TheRule = Rule board free_slots memo

  abbrev Sat : Type 0
  Sat = Me (std.Option S) View

  -- the free list goes back empty, and any function is noted as due
  pub step_give_empty : (slots id : ℕ) (me : Sat) (x : S) (due : std.Option Function) → me.0.draws.live ≡ true → me.1 ≡ (1, Some x) ∷ rest me.1 → me.0.hand.free ≡ Some [] → (free_slots x).slots ≡ [] → (free_slots x).room ≡ me.0.draws.slots
      → Allows TheRule slots id me 3 (λ _. 0) (empty_given due (step slots 3 0 0 none) me)
  step_give_empty slots id me x due live has free gave roomy s r long at small =
      let y = gives_free_list board free_slots memo slots id me [] x live has free gave roomy s r long at small in
      let u : View = y.0 in
      let w : View = record u { work = record me.0.work { fulls = risen me.0.work.fulls; due = due } } in
      let s1 : State (std.Option S) View = stepped s 3 0 id me.1 u y.1 in
      (w, y.1, y.2, subst (λ (l : List View). TheRule (record { words = s1.words; homes = s1.homes; views = l })) (set_set s.views id u w) (rule_work board free_slots memo s1 id u (set_at s.views id me.0 u at) w.work y.3), ap (λ (q : Sat). (record q.0 { work = w.work }, q.1)) y.4)
