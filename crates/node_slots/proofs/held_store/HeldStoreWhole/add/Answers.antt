use Rattle.node_store.specs.Edges.{flip_if}
use Rattle.std.proofs.Common.{ℕ, ap, arith, Bool, ap₂, sym, subst, ◌∙◌}
use Rattle.edge_bits.specs.Reading.{slots_of}
use Rattle.held_slots.specs.Linked.{IsLinkedTo}
use Rattle.node_slots.specs.Stores.{slots}
use Rattle.node_slots.proofs.HeldMarks.{with_notes}
use Rattle.node_slots.proofs.HeldWalking.{words_read}
use Rattle.edge_bits.specs.declared.edges.Edge.{Edge}
use Rattle.edge_bits.specs.declared.words.Node.{Node}
use Rattle.edge_bits.specs.declared.edges.Kind.{Kind}
use Rattle.node_store.specs.Changes.{CanAdd}
use Rattle.node_slots.specs.Held.{held_view}
use Rattle.node_slots.specs.contracts.held_store.HeldStore.{the_view}
use Rattle.node_slots.proofs.HeldAdding.{Answered, adding, added_fits, child_added, no_place, noted_answer, placed_at, variable_fits}
use Rattle.node_slots.proofs.HeldRewriting.{with_words}
use Rattle.node_slots.proofs.held_store.HeldStoreWhole.add.Goals as goal
use Rattle.node_slots.proofs.held_store.HeldStoreWhole.add.Goals.{After-new}

-- a node from its fields
abbrev node_of : ℕ → ℕ → Edge → Node
node_of v h l = record { var = v; hi = h; lo = l }

abbrev edge_of : ℕ → Bool → Edge
edge_of s b = record { index = s; complement = b }

pub returns-in-Some : goal.returns-in-Some
returns-in-Some c = λ k can. child_added (the_view c.self.inside) c.args.self.now c.self.view_is c.self.invariant k c.args.var c.args.hi c.args.lo c.in-Some.child can c.in-Some.ensures.child

pub overflow_cast-word : goal.overflow_cast-word
overflow_cast-word c =
    let small = variable_fits (the_view c.self.inside) c.args.self.now c.self.view_is c.self.invariant c.requires.0 c.args.var c.args.hi c.args.lo c.requires.1 in omega arith

pub pack-requires : goal.pack-requires
pack-requires c = rw c.index.ensures (added_fits (the_view c.self.inside) c.args.self.now c.self.view_is c.self.invariant c.requires.0 c.args.var c.args.hi c.args.lo c.requires.1 c.flip_if.result (c.flip_if.ensures ∙ ap (λ b. flip_if b c.args.lo) c.complement.ensures))

pub place-requires-clause-range : goal.place-requires-clause-range
place-requires-clause-range c = rw c.index.ensures (added_fits (the_view c.self.inside) c.args.self.now c.self.view_is c.self.invariant c.requires.0 c.args.var c.args.hi c.args.lo c.requires.1 c.flip_if.result (c.flip_if.ensures ∙ ap (λ b. flip_if b c.args.lo) c.complement.ensures))

pub unreachable-requires : goal.unreachable-requires
unreachable-requires c = no_place (the_view c.self.inside) c.args.self.now c.self.view_is c.self.invariant c.args.var c.args.hi c.args.lo c.requires c.in_default.ensures.none
    _ (ap₂ (node_of c.args.var) c.index.ensures (c.flip_if.ensures ∙ ap (λ b. flip_if b c.args.lo) c.complement.ensures)) c.place.new.self c.in-None.ensures.full

answered : (c : After-new) → (k : Kind) → CanAdd k (held_view c.args.self.now) c.args.var c.args.hi c.args.lo
    → Answered k c.args.self.now (with_words (the_view c.self.inside) c.place.new.self (the_view c.self.inside).half) c.args.var c.args.hi c.args.lo c.new.result
answered c k can = adding (the_view c.self.inside) c.args.self.now c.self.view_is c.self.invariant k c.args.var c.args.hi c.args.lo can c.in_default.ensures.none
    _ (ap₂ (node_of c.args.var) c.index.ensures (c.flip_if.ensures ∙ ap (λ b. flip_if b c.args.lo) c.complement.ensures)) c.place.new.self c.in-Some-place.slot c.in-Some-place.ensures.placed c.new.result (c.new.ensures ∙ ap (edge_of c.in-Some-place.slot) c.complement-in-Some-place.ensures)

-- the links of the notes were kept beside the words
with_links : (c : After-new) (k : Kind) → CanAdd k (held_view c.args.self.now) c.args.var c.args.hi c.args.lo
    → Answered k c.args.self.now (with_notes (with_words (the_view c.self.inside) c.place.new.self (the_view c.self.inside).half) c.added.new.self) c.args.var c.args.hi c.args.lo c.new.result
with_links c k can =
    let q = the_view c.self.inside in
    let p = placed_at q.plain.words c.place.new.self _ c.in-Some-place.slot c.in-Some-place.ensures.placed in
    noted_answer k c.args.self.now (with_words q c.place.new.self q.half) c.args.var c.args.hi c.args.lo c.new.result (answered c k can) c.added.new.self
    (c.added.ensures.marks ∙ c.prepare.ensures.marks) (c.added.ensures.pins ∙ c.prepare.ensures.pins)
    (c.added.ensures.linked (slots q.plain) (slots_of c.place.new.self)
    (subst (λ w. IsLinkedTo w c.prepare.new.self.chain) (words_read q c.words.result.now c.words.ensures.words) c.prepare.ensures.linked) p.0 p.1 p.2)

pub prepare-requires-clause-linked : goal.prepare-requires-clause-linked
prepare-requires-clause-linked c = subst (λ w. IsLinkedTo w c.self.inside.notes.chain) (sym (words_read (the_view c.self.inside) c.words.result.now c.words.ensures.words)) c.self.invariant.linked

pub prepare-requires-clause-var : goal.prepare-requires-clause-var
prepare-requires-clause-var c = variable_fits (the_view c.self.inside) c.args.self.now c.self.view_is c.self.invariant c.requires.0 c.args.var c.args.hi c.args.lo c.requires.1

pub invariant_of-self : goal.invariant_of-self
invariant_of-self c = (with_links c c.requires.0 c.requires.1).held

pub returns : goal.returns
returns c = λ k can. (with_links c k can).added
