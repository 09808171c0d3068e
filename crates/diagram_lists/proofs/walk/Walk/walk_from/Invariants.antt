use Rattle.diagram_lists.specs.Walks.{Extended, IsWalk, OnWay, next, steps_left}
use Rattle.diagram_lists.proofs.walk.Walk.walk_from.Given as goal

abbrev pub invariant-loop-slot : goal.invariant-loop-slot
invariant-loop-slot l = record {
  walk : IsWalk l.store l.self;
  extended : Extended l.fn.self l.self;
  way : OnWay l.store l.self (next l.fn.self.lines) l.root;
}

abbrev pub decreases-loop-slot : goal.decreases-loop-slot
decreases-loop-slot l = steps_left l.store l.self.numbers.items l.self.stack.items
