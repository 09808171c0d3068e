use Rattle.edge_bits.proofs.EdgeLemmas.{words_same}
use Rattle.std.proofs.Common.{◌∙◌}
use Rattle.node_slots.specs.contracts.plain_store.PlainStore.{the_view}
use Rattle.node_slots.proofs.Answering.{same_answer}
use Rattle.node_slots.proofs.plain_store.PlainStore.same.Goals as goal

pub returns : goal.returns
returns c = λ k two. same_answer (the_view c.self.inside) c.args.self.now c.self.view_is c.self.invariant c.eq.result c.args.f c.args.g (c.eq.ensures ∙ words_same c.args.f c.args.g) k two
