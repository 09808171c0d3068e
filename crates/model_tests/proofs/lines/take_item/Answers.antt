use Rattle.std.proofs.Common.{[]}
use Rattle.blif_formals.specs.Formals.{words_in}
use Rattle.blif_drafts.specs.OpenDrafts.{cover_at, with_item}
use Rattle.model_tests.proofs.lines.take_item.Goals as goal

pub returns-then-eq : goal.returns-then-eq
returns-then-eq c = λ some. record {
  before = some.before;
  model = with_item (cover_at c.args.number (words_in c.in_ok-last.others.now) c.in_ok-last.last.now.now []) some.model;
  are = (c.in_ok-add_cover.ensures.ok []).after some.before some.model some.are;
}
