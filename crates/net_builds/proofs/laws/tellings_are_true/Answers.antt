-- The fetched functions have the values of the wanted ones.
use Rattle.std.proofs.Common.{List, ℕ, subst}
use Rattle.net_builds.specs.Builds.{FindingsOf}
use Rattle.net_builds.proofs.SameReports.{found_same}
use Rattle.net_builds.proofs.ToldLaws.{told_order, told_same, unsifted_order}
use Rattle.net_builds.proofs.laws.tellings_are_true.Goals as goal

pub returns-clause-told : goal.returns-clause-told
returns-clause-told c = λ n names patterns telling wanted sizes log old new cell found wide fresh history built.
    let Tells = FindingsOf n names patterns telling in (
      found_same n names patterns built.functions wanted (told_same Tells n wanted sizes log old new cell found wide fresh history built) built.note.order found telling built.tells,
      told_order Tells n wanted sizes log old new cell found wide fresh history built,
    )

pub returns-clause-unsifted : goal.returns-clause-unsifted
returns-clause-unsifted c = λ n names patterns telling wanted sizes log old new cell found all wide fresh unsifted history built.
    let Tells = FindingsOf n names patterns telling in
    subst (λ (order : List ℕ). Tells wanted order found) (unsifted_order Tells n wanted sizes log old new cell found wide fresh history built all unsifted)
    (found_same n names patterns built.functions wanted (told_same Tells n wanted sizes log old new cell found wide fresh history built) built.note.order found telling built.tells)
