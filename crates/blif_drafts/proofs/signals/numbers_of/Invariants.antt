use Rattle.std.proofs.Common.{[], ◌∷◌, take}
use Rattle.blif_models.specs.Numberings.{AreNumbersOf}
use Rattle.blif_formals.specs.Actuals.{Keeps}
use Rattle.blif_formals.specs.Formals.{words_in}
use Rattle.blif_formals.specs.Words.{AddsOnly}
use Rattle.blif_drafts.proofs.signals.numbers_of.Given as goal

abbrev pub invariant-loop-word : goal.invariant-loop-word
invariant-loop-word l = record {
  names : Keeps l.initial.names l.names;
  added : AddsOnly l.initial.names (words_in (take l.word-index l.words)) l.names;
  numbers : AreNumbersOf (l.names ∷ []) 0 l.numbers (words_in (take l.word-index l.words));
}
