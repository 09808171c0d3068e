use Rattle.operator_calls.proofs.renaming.renamed_pairs.Goals as goal

pub returns-in-Bdd : goal.returns-in-Bdd
returns-in-Bdd g c = rw c.in-Bdd.is c.bdd_pairs.ensures
