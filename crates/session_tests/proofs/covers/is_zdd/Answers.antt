use Rattle.edge_bits.specs.declared.edges.Kind.TheVariants as kinds
use Rattle.session_tests.proofs.Opened.{live_as_told}
use Rattle.session_tests.proofs.covers.is_zdd.Goals as goal

pub returns-in-Zdd : goal.returns-in-Zdd
returns-in-Zdd c = λ yes. live_as_told c.args.session.now c.args.h c.kind.result kinds.Zdd (c.is_live.ensures.0 (search)) c.kind.ensures c.in-Zdd.is
