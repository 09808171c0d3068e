use Rattle.std.proofs.Common.{◌≡◌, Some, None, ap, sym, ◌∙◌, subst}
use Rattle.edge_bits.specs.Words.{unpack_of}
use Rattle.node_store.specs.Views.{Is, Opens, Permanent, values_at}
use Rattle.node_slots.specs.Stores.{plain_view}
use Rattle.node_slots.specs.contracts.plain_store.PlainStore.{the_view}
use Rattle.node_slots.proofs.Calls.{opens_word, permanent_is}
use Rattle.node_slots.proofs.Answering.{edge_word}
use Rattle.node_slots.proofs.plain_store.PlainStoreGrow.open.Goals as goal

pub unreachable-requires : goal.unreachable-requires
unreachable-requires c =
    let w = edge_word (the_view c.self.inside) c.args.self.now c.self.view_is c.self.invariant c.requires.0 c.args.edge c.requires.1 in
    let e : None ≡ Some w.0 = sym c.in-None.is ∙ c.unpack.ensures.value ∙ ap unpack_of (rw c.index.ensures at c.word.ensures) ∙ w.1 in cc

pub returns-clause-opens : goal.returns-clause-opens
returns-clause-opens c = λ k d.
    let q = the_view c.self.inside in
    let is = sym (ap unpack_of (rw c.index.ensures at c.word.ensures)) ∙ sym c.unpack.ensures.value ∙ c.in-Some.is in
    subst (λ p. Is k (plain_view p) c.args.edge → Opens k (plain_view p) c.args.edge (values_at k (plain_view p) c.args.edge) c.opened.result) c.self.view_is
    (λ d. rw (c.opened.ensures, c.complement.ensures) (opens_word q c.self.invariant k c.args.edge c.in-Some.word d is)) d

pub returns-clause-permanent : goal.returns-clause-permanent
returns-clause-permanent c = subst (λ p. Permanent (plain_view p)) c.self.view_is (permanent_is (the_view c.self.inside) c.self.invariant)
