use Rattle.std.proofs.Common.{◌∙◌}
use Rattle.std.specs.Prelude.{slice_get}
use Rattle.blif_formals.proofs.WordIndex.{last_place, there_already}
use Rattle.blif_formals.proofs.words.Words.number_of.Goals as goal

pub returns-in-Some-clause-words : goal.returns-in-Some-clause-words
returns-in-Some-clause-words c = there_already c.args.self.now c.in-Some.number c.args.word.now c.in-Some.ensures

pub returns-clause-number : goal.returns-clause-number
returns-clause-number c = (λ j. slice_get (c.in_ok-add.ensures j) (c.len-number.ensures.number j)) ∙ last_place c.args.self.now c.args.word.now
