use Rattle.net_jobs.proofs.LoopLemmas.{SaysUpTo}
use Rattle.net_jobs.proofs.section.say_all.Given as goal

abbrev pub invariant-loop-i : goal.invariant-loop-i
invariant-loop-i g l = record {
  up : SaysUpTo l.initial.session l.session l.commands l.script l.i;
}
