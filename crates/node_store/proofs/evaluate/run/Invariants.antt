use Rattle.std.proofs.Common.{◌≡◌, take, drop, length}
use Rattle.node_store.specs.States.{state_of}
use Rattle.node_store.specs.Stacks.{room_of}
use Rattle.node_store.specs.Steps.{Running, steps_of_run}
use Rattle.node_store.proofs.evaluate.run.Given as goal

abbrev pub invariant-steps : goal.invariant-steps
invariant-steps g l =
    let o = g.O.Operator in
    let height = o.depth l.op (state_of (g.G.Grow.view l.fn.store) l.fn.stack) l.fn.task in
    record {
      moved : o.moves l.op (state_of (g.G.Grow.view l.fn.store) l.fn.stack) (state_of (g.G.Grow.view l.store) l.stack);
      old : take l.base l.stack.frames ≡ l.fn.stack.frames;
      base : l.base ≡ length l.fn.stack.frames;
      room : room_of l.stack ≡ room_of l.fn.stack;
      runs : Running (o.due l.op) (o.answers l.op) (o.waits l.op) (o.depth l.op) (state_of (g.G.Grow.view l.store) l.stack) height l.fn.task (drop l.base l.stack.frames) l.step;
    }

abbrev pub decreases-steps : goal.decreases-steps
decreases-steps g l =
    steps_of_run (g.O.Operator.depth l.op (state_of (g.G.Grow.view l.fn.store) l.fn.stack) l.fn.task) (drop l.base l.stack.frames) l.step
