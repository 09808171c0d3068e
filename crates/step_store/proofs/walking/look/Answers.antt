use Rattle.std.proofs.Common.{ap, ◌∙◌}
use Rattle.node_store.specs.KindLaws.{flipped-some}
use Rattle.node_store.specs.Views.{values_at}
use Rattle.function_laws.specs.Kinds.{function_of}
use Rattle.step_store.proofs.walking.look.Goals as goal

pub load_word-requires-clause-met : goal.load_word-requires-clause-met
load_word-requires-clause-met g c =
    let w = g.S.Walks.sees c.args.seat.now in
    let k = c.requires.edge.0 in
    let s = flipped-some c.args.edge.complement (w.content c.args.edge.index) (function_of k (values_at k w c.args.edge)) c.requires.edge.1.is in
    (s.0, ap w.content c.index.ensures ∙ s.1)
