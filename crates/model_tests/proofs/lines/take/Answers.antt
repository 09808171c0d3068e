use Rattle.blif_formals.specs.Formals.{words_in}
use Rattle.blif_drafts.specs.OpenDrafts.{with_outputs}
use Rattle.model_tests.proofs.lines.take.Goals as goal

pub returns-then-eq-3 : goal.returns-then-eq-3
returns-then-eq-3 c = λ some. record {
  before = some.before;
  model = with_outputs c.args.number (words_in c.args.words.now) some.model;
  are = (c.in_ok-add_outputs.ensures.ok c.args.number).after some.before some.model some.are;
}
