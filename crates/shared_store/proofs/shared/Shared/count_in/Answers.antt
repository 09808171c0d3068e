use Rattle.std.proofs.Common.{refl}
use Rattle.shared_store.proofs.Recounted.{recounted}
use Rattle.shared_store.proofs.shared.Shared.count_in.Goals as goal

pub returns-then-count_of-eq0-clause-rest : goal.returns-then-count_of-eq0-clause-rest
returns-then-count_of-eq0-clause-rest c = recounted c.args.self.now _ c.args.slot _ c.raise.ensures.rest c.raise.ensures.generation refl
