-- What was told behind the sift is told under the sifted order, and the fetched functions have the values of the wanted ones.
use Rattle.std.proofs.Common.{List, ℕ, subst}
use Rattle.net_builds.specs.Builds.{FindingsOf}
use Rattle.net_builds.proofs.SameReports.{found_same}
use Rattle.net_builds.proofs.SiftedLaws.{sifted_told}
use Rattle.net_builds.proofs.ToldLaws.{told_same}
use Rattle.net_builds.proofs.laws.sifted_tellings_are_true.Goals as goal

pub returns : goal.returns
returns c = λ n names patterns telling wanted limit sizes log old new cell found all none wide fresh history behind.
    let Tells = FindingsOf n names patterns telling in
    let builds = behind.builds in
    subst (λ (order : List ℕ). Tells wanted order found)
    (sifted_told Tells n wanted limit sizes log old new cell found all none wide fresh history behind c.sifts_go_by_functions.ensures c.wholes_are_alike.ensures)
    (found_same n names patterns builds.functions wanted (told_same Tells n wanted sizes log old new cell found wide fresh history builds) builds.note.order found telling builds.tells)
