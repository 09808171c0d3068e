use Rattle.std.proofs.Common.{subst, sym, List, ℕ}
use Rattle.dddmp_text.specs.Written.{AreInternals}
use Rattle.dddmp_text.proofs.writer.write.Goals as goal

pub put_nodes-requires-clause-internals : goal.put_nodes-requires-clause-internals
put_nodes-requires-clause-internals c =
    subst (λ (internals : List ℕ). AreInternals c.args.dump.now internals) (sym c.deref.ensures.value) c.in_ok-internals.ensures
