use Rattle.std.proofs.Common.{false, refl}
use Rattle.words_holder.proofs.holder.HolderHolds.take_memo.Goals as goal

pub returns-clause-taken : goal.returns-clause-taken
returns-clause-taken g c = λ is. ((λ _. false), refl)
