use Rattle.edge_bits.specs.declared.edges.Kind.TheVariants as kinds
use Rattle.call_times.proofs.Opened.{live_as_told}
use Rattle.call_times.proofs.calls.is_bdd.Goals as goal

pub returns-in-Bdd : goal.returns-in-Bdd
returns-in-Bdd c = λ yes. live_as_told c.args.session.now c.args.h c.kind.result kinds.Bdd (c.is_live.ensures.0 (search)) c.kind.ensures c.in-Bdd.is
