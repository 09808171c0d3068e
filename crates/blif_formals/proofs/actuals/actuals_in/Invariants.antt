use Rattle.std.proofs.Common.{map, take}
use Rattle.blif_models.specs.Models.{join_of}
use Rattle.blif_formals.specs.Actuals.{AreActuals, Keeps}
use Rattle.blif_formals.specs.Formals.{words_in}
use Rattle.blif_formals.specs.Words.{AddsOnly}
use Rattle.blif_formals.proofs.actuals.actuals_in.Given as goal

abbrev pub invariant-loop-word : goal.invariant-loop-word
invariant-loop-word l = record {
  names : Keeps l.initial.names l.names;
  added : AddsOnly l.initial.names (map (λ word. (join_of word).actual) (words_in (take l.word-index l.words))) l.names;
  actuals : AreActuals l.names (words_in (take l.word-index l.words)) l.actuals;
}
