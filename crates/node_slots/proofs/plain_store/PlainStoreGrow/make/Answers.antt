use Rattle.node_store.specs.Edges.{flip_if}
use Rattle.std.proofs.Common.{ℕ, refl, subst, sym, ap, arith, Bool, ap₂, ◌∙◌}
use Rattle.edge_bits.specs.declared.edges.Edge.{Edge}
use Rattle.edge_bits.specs.declared.edges.Kind.{Kind}
use Rattle.edge_bits.specs.declared.words.Node.{Node}
use Rattle.node_store.specs.Views.{CanMake, node_values}
use Rattle.node_slots.specs.Stores.{plain_view}
use Rattle.node_slots.specs.contracts.plain_store.PlainStore.{the_view}
use Rattle.node_slots.proofs.Making.{Stored, with_words, missing_node, refused-store}
use Rattle.node_slots.proofs.Answering.{variable_small, index_small, node_answer, node_known, node_refused, child_answer, child_known, due_answer}
use Rattle.node_slots.proofs.plain_store.PlainStoreGrow.make.Goals as goal
use Rattle.node_slots.proofs.plain_store.PlainStoreGrow.make.Goals.{After-new}

-- a node from its fields
abbrev node_of : ℕ → ℕ → Edge → Node
node_of v h l = record { var = v; hi = h; lo = l }

abbrev edge_of : ℕ → Bool → Edge
edge_of s b = record { index = s; complement = b }

pub returns-in-Some-clause-ok : goal.returns-in-Some-clause-ok
returns-in-Some-clause-ok c = λ k m. child_answer (the_view c.self.inside) c.args.self.now c.self.view_is c.self.invariant k c.args.var c.args.hi c.args.lo c.in-Some.child m c.in-Some.ensures.child

pub returns-in-Some-clause-exactly : goal.returns-in-Some-clause-exactly
returns-in-Some-clause-exactly c =
    let k = c.requires.0 in let m = c.requires.1 in
    child_known k c.args.self.now c.args.var c.args.hi c.args.lo c.in-Some.child m (child_answer (the_view c.self.inside) c.args.self.now c.self.view_is c.self.invariant k c.args.var c.args.hi c.args.lo c.in-Some.child m c.in-Some.ensures.child)

pub overflow_cast-word : goal.overflow_cast-word
overflow_cast-word c =
    let small = variable_small (the_view c.self.inside) c.args.self.now c.self.view_is c.self.invariant c.requires.0 c.args.var c.requires.1.in_range in omega arith

pub pack-requires : goal.pack-requires
pack-requires c =
    let q = the_view c.self.inside in let k = c.requires.0 in let m = c.requires.1 in (
      variable_small q c.args.self.now c.self.view_is c.self.invariant k c.args.var m.in_range,
      rw c.index.ensures (index_small q c.args.self.now c.self.view_is c.self.invariant k c.args.hi m.hi_is),
      rw c.flip_if.ensures (index_small q c.args.self.now c.self.view_is c.self.invariant k c.args.lo m.lo_is),
    )

pub place-requires-clause-range : goal.place-requires-clause-range
place-requires-clause-range c =
    let q = the_view c.self.inside in let k = c.requires.0 in let m = c.requires.1 in (
      variable_small q c.args.self.now c.self.view_is c.self.invariant k c.args.var m.in_range,
      rw c.index.ensures (index_small q c.args.self.now c.self.view_is c.self.invariant k c.args.hi m.hi_is),
      rw c.flip_if.ensures (index_small q c.args.self.now c.self.view_is c.self.invariant k c.args.lo m.lo_is),
    )

stored : (c : After-new) → (k : Kind) → CanMake k (plain_view c.args.self.now) c.args.var c.args.hi c.args.lo
    → Stored k c.args.self.now (with_words (the_view c.self.inside) c.place.new.self) c.new.result (node_values k (plain_view c.args.self.now) c.args.var c.args.hi c.args.lo)
stored c k m = node_answer (the_view c.self.inside) c.args.self.now c.self.view_is c.self.invariant k c.args.var c.args.hi c.args.lo m c.in_default.ensures.none
    _ (ap₂ (node_of c.args.var) c.index.ensures (c.flip_if.ensures ∙ ap (λ b. flip_if b c.args.lo) c.complement.ensures)) c.place.new.self c.in-Some-place.slot c.in-Some-place.ensures.placed c.new.result (c.new.ensures ∙ ap (edge_of c.in-Some-place.slot) c.complement-in-Some-place.ensures)

pub invariant_of-self : goal.invariant_of-self
invariant_of-self c = (stored c c.requires.0 c.requires.1).store

pub invariant_of-self-in-None : goal.invariant_of-self-in-None
invariant_of-self-in-None c =
    let q = the_view c.self.inside in
    let k = c.requires.0 in let v = c.args.var in let hi = c.args.hi in let lo = c.args.lo in
    let none = c.in-None.ensures.full in
    let m = subst (λ p. CanMake k (plain_view p) v hi lo) (sym c.self.view_is) c.requires.1 in
    let unknown = node_refused q q refl c.self.invariant v hi lo c.in_default.ensures.none _ (ap₂ (node_of c.args.var) c.index.ensures (c.flip_if.ensures ∙ ap (λ b. flip_if b c.args.lo) c.complement.ensures)) c.place.new.self none in
    rw none.same (refused-store q c.self.invariant c.risen-self-inside.result _ c.risen-self-inside.ensures.least none.full (missing_node q c.self.invariant k v hi lo m unknown.0))

pub returns-in-Some-place-clause-grown : goal.returns-in-Some-place-clause-grown
returns-in-Some-place-clause-grown c = (stored c c.requires.0 c.requires.1).grown

pub returns-in-Some-place-clause-ok : goal.returns-in-Some-place-clause-ok
returns-in-Some-place-clause-ok c = λ k m. (stored c k m).denotes

pub returns-in-Some-place-clause-made : goal.returns-in-Some-place-clause-made
returns-in-Some-place-clause-made c = (stored c c.requires.0 c.requires.1).made

pub returns-in-Some-place-clause-still_due : goal.returns-in-Some-place-clause-still_due
returns-in-Some-place-clause-still_due c = (stored c c.requires.0 c.requires.1).due

pub returns-in-Some-place-clause-exactly : goal.returns-in-Some-place-clause-exactly
returns-in-Some-place-clause-exactly c = node_known c.requires.0 _ _ _ _ _ _ c.requires.1 (stored c c.requires.0 c.requires.1)

pub returns-in-None-clause-due : goal.returns-in-None-clause-due
returns-in-None-clause-due c = λ is k m. due_answer (the_view c.self.inside) c.args.self.now c.self.view_is c.risen-self-inside.result c.place.new.self c.in-None.ensures.full.same k c.args.var c.args.hi c.args.lo m

pub returns-in-None-clause-exactly : goal.returns-in-None-clause-exactly
returns-in-None-clause-exactly c =
    let r = node_refused (the_view c.self.inside) c.args.self.now c.self.view_is c.self.invariant c.args.var c.args.hi c.args.lo c.in_default.ensures.none
    _ (ap₂ (node_of c.args.var) c.index.ensures (c.flip_if.ensures ∙ ap (λ b. flip_if b c.args.lo) c.complement.ensures)) c.place.new.self c.in-None.ensures.full in
    (λ h. r, λ h. refl)
