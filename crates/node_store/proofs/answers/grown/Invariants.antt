use Rattle.node_store.specs.Remembering.{IsOf}
use Rattle.node_store.proofs.answers.grown.Given as goal

abbrev pub invariant-loop-answer : goal.invariant-loop-answer
invariant-loop-answer l = IsOf l.answers l.table.items
