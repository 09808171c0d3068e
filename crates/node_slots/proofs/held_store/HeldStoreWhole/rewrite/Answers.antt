use Rattle.std.proofs.Common.{◌≡◌, Some, ap, sym, ◌∙◌, subst}
use Rattle.std.proofs.lemmas.List.{get_or-set_other}
use Rattle.edge_bits.specs.Reading.{slots_of}
use Rattle.held_slots.specs.Linked.{IsLinkedTo, variable_of}
use Rattle.node_store.specs.Changes.{rewritten}
use Rattle.node_slots.specs.Held.{held_view}
use Rattle.node_slots.proofs.HeldMarks.{with_notes}
use Rattle.node_slots.proofs.HeldWalking.{noted, words_read}
use Rattle.edge_bits.specs.declared.words.Word.TheVariants.{Inner}
use Rattle.edge_bits.specs.Words.{unpack_of}
use Rattle.node_slots.specs.Stores.{slots}
use Rattle.node_slots.specs.contracts.held_store.HeldStore.{the_view}
use Rattle.node_slots.proofs.HeldRewriting.{Becomes, node_fits, node_known, rewriting, with_words}
use Rattle.node_slots.proofs.held_store.HeldStoreWhole.rewrite.Goals as goal

pub half_with-half-requires-clause-was : goal.half_with-half-requires-clause-was
half_with-half-requires-clause-was c =
    let was : slots (the_view c.self.inside).plain c.args.slot ≡ Some (Inner c.in-Some-Inner.old) = sym (ap unpack_of c.word.ensures) ∙ sym c.unpack.ensures.value ∙ c.in-Some-Inner.is ∙ ap Some c.in-Some-Inner.field-0-is in
    node_known (the_view c.self.inside) c.args.self.now c.self.view_is c.self.invariant c.args.slot c.in-Some-Inner.old was

pub rewrite-requires-clause-range : goal.rewrite-requires-clause-range
rewrite-requires-clause-range c = rw c.index.ensures (node_fits (the_view c.self.inside) c.args.self.now c.self.view_is c.self.invariant c.args.slot c.args.var c.args.hi c.args.lo c.requires)

-- what stands in the slot at first
was_in : (c : goal.After-self-1) → slots (the_view c.self.inside).plain c.args.slot ≡ Some (Inner c.in-Some-Inner.old)
was_in c = sym (ap unpack_of c.word.ensures) ∙ sym c.unpack.ensures.value ∙ c.in-Some-Inner.is ∙ ap Some c.in-Some-Inner.field-0-is

pub prepare-requires-clause-linked : goal.prepare-requires-clause-linked
prepare-requires-clause-linked c = subst (λ w. IsLinkedTo w c.self.inside.notes.chain) (sym (words_read (the_view c.self.inside) c.words.result.now c.words.ensures.words)) c.self.invariant.linked

pub prepare-requires-2-clause-linked : goal.prepare-requires-2-clause-linked
prepare-requires-2-clause-linked c = subst (λ w. IsLinkedTo w c.prepare.new.self.chain) (words_read (the_view c.self.inside) c.words.result.now c.words.ensures.words ∙ sym (words_read (the_view c.self.inside) c.words-2.result.now c.words-2.ensures.words)) c.prepare.ensures.linked

done : (c : goal.After-self-1) → Becomes (rewritten (held_view c.args.self.now) c.args.slot c.args.var c.args.hi c.args.lo)
    (with_notes (with_words (the_view c.self.inside) c.rewrite.new.self (Some c.half_with-half.result)) c.moved.new.self)
done c =
    let q = the_view c.self.inside in
    let words = rewriting q c.args.self.now c.self.view_is c.self.invariant c.args.slot c.args.var c.args.hi c.args.lo c.requires c.in-Some-Inner.old (was_in c)
    c.rewrite.new.self _ c.rewrite.ensures.rewritten (rw c.index.ensures at c.rewrite.ensures.reads) c.half_with-half.result c.half_with-half.ensures in
    noted (rewritten (held_view c.args.self.now) c.args.slot c.args.var c.args.hi c.args.lo) (with_words q c.rewrite.new.self (Some c.half_with-half.result)) words c.moved.new.self
    (c.moved.ensures.marks ∙ c.prepare-2.ensures.marks ∙ c.prepare.ensures.marks) (c.moved.ensures.pins ∙ c.prepare-2.ensures.pins ∙ c.prepare.ensures.pins)
    (c.moved.ensures.linked (slots q.plain) (slots_of c.rewrite.new.self)
    (subst (λ w. IsLinkedTo w c.prepare-2.new.self.chain) (words_read q c.words-2.result.now c.words-2.ensures.words) c.prepare-2.ensures.linked)
    (λ s ne. ap (λ xs. slots_of xs s) c.rewrite.ensures.rewritten ∙ ap unpack_of (get_or-set_other q.plain.words c.args.slot s _ 0 ne)) (ap variable_of (was_in c)) (ap variable_of c.rewrite.ensures.reads))

pub invariant_of-self : goal.invariant_of-self
invariant_of-self c = (done c).held

pub returns : goal.returns
returns c = (done c).after
