use Rattle.net_jobs.proofs.DropLemmas.{DropsUpTo}
use Rattle.net_jobs.proofs.section.drop_all.Given as goal

abbrev pub invariant-loop-a : goal.invariant-loop-a
invariant-loop-a g l = record {
  up : DropsUpTo l.initial.session l.session l.commands l.initial.script l.script l.a;
}
