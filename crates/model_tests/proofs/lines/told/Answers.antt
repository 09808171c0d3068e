use Rattle.std.proofs.Common.{[], None, refl}
use Rattle.blif_formals.specs.Formals.{words_in}
use Rattle.blif_drafts.specs.OpenDrafts.{bare_model, first_word}
use Rattle.model_tests.proofs.lines.told.Goals as goal

pub loop-line-init : goal.loop-line-init
loop-line-init c = record {
  number = refl;
  open_ones = record { before = []; model = bare_model 1 (first_word (words_in c.as_slice.result.now)); are = c.in_ok-begin_main.ensures.ok 1 (bare_model 0 None) c.new-models.ensures.begun };
}
