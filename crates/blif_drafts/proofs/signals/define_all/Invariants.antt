use Rattle.std.proofs.Common.{take}
use Rattle.blif_formals.specs.Formals.{words_in}
use Rattle.blif_formals.specs.Words.{AddsOnly}
use Rattle.blif_drafts.specs.Signals.{Defines}
use Rattle.blif_drafts.proofs.signals.define_all.Given as goal

abbrev pub invariant-loop-word : goal.invariant-loop-word
invariant-loop-word l = record {
  defines : Defines l.initial.names l.initial.marks.items (words_in (take l.word-index l.words)) l.numbers l.names l.marks.items;
  added : AddsOnly l.initial.names (words_in (take l.word-index l.words)) l.names;
}
