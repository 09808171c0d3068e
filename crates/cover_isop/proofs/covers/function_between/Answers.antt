use Rattle.std.proofs.Common.{arith}
use Rattle.cover_isop.specs.IsopLasts.{isop_work-back}
use Rattle.node_store.proofs.Running.{lasting, runs}
use Rattle.cover_isop.proofs.IsopRuns.{Function-root, Root-due, depth-most}
use Rattle.cover_isop.proofs.covers.function_between.Goals as goal

pub evaluate-requires-clause-due : goal.evaluate-requires-clause-due
evaluate-requires-clause-due g c = Root-due _ c.args.lower c.args.upper c.two.result c.requires.permanent c.requires.bounds c.two.ensures.f c.two.ensures.g

pub evaluate-requires-clause-room : goal.evaluate-requires-clause-room
evaluate-requires-clause-room g c = let a = depth-most (g.G.Grow.view c.args.store.now) c.two.result in let r = c.requires.room in omega (arith, a, r)

pub returns-clause-runs : goal.returns-clause-runs
returns-clause-runs g c =
    let r = c.evaluate.ensures in let m = r.moved.moves.grown in let d = c.requires.bounds in
    rw c.without_overflow.ensures (runs r.moved.moves d (λ F is. isop_work-back m F d.two is)
    (lasting _ _ c.evaluate.result (λ e a. Function-root _ _ c.args.lower c.args.upper c.two.result e m d.two c.two.ensures.f c.two.ensures.g a) r.answer) r.overflow r.memory r.full r.due)

pub returns-clause-scratch : goal.returns-clause-scratch
returns-clause-scratch g c = let r = c.evaluate.ensures in record { frames = r.frames; free = r.free; marks = r.moved.marks }
