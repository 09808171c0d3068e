use Rattle.std.proofs.Common.{Ok, Err, refl, subst, arith}
use Rattle.std.proofs.lemmas.Result.{err_from_is_err_and}
use Rattle.edge_bits.specs.declared.edges.Kind.TheVariants.{Bdd}
use Rattle.node_store.specs.Views.{Denotes}
use Rattle.node_store.specs.ViewLaws.{Grown-refl, Permanent-grown}
use Rattle.cover_isop.specs.Isops.{bounds_at, half_at, order_in}
use Rattle.cover_isop.specs.IsopLasts.{HasBounds-grown}
use Rattle.cover_isop.proofs.CallSteps.{lower-work}
use Rattle.cover_isop.proofs.DoesLaws.{after, failed, named, runs_do, value_does}
use Rattle.cover_isop.proofs.IsopRuns.{Half-has, Half-is, Half-work}
use Rattle.cover_isop.proofs.Rooms.{keeps_both, keeps_same}
use Rattle.cover_isop.proofs.covers.CoverWanted.function.Goals as goal

pub without-requires-clause-operands : goal.without-requires-clause-operands
without-requires-clause-operands g c = let h = c.requires.half in record { first = h.two.first; second = h.other_is }

pub without-requires-clause-permanent : goal.without-requires-clause-permanent
without-requires-clause-permanent g c = c.requires.half.permanent

pub without-requires-clause-room : goal.without-requires-clause-room
without-requires-clause-room g c = let a = c.requires.half.root.literals in let r = c.requires.room in omega (arith, a, r)

pub returns-in_err-lower-clause-does : goal.returns-in_err-lower-clause-does
returns-in_err-lower-clause-does g c =
    let o = c.args.self.now in let h = c.requires.half in let w = g.G.Grow.view c.args.store.now in let b = half_at w c.args.half.lower c.args.half.upper c.args.half.other in
    let one = value_does o.lower o.upper Bdd b.lower (Err _) h.root h.root (Grown-refl w) (lower-work w.vars w.elements (order_in w) (bounds_at w o.lower o.upper) b h.call) refl c.in_err-lower.ensures.runs in
    let q = err_from_is_err_and c.from_residual.result c.from_residual.ensures.1 in rw (q.1, q.2) (failed o.lower o.upper _ one)

pub returns-in_err-lower-clause-scratch : goal.returns-in_err-lower-clause-scratch
returns-in_err-lower-clause-scratch g c = keeps_same c.in_err-lower.ensures.stack

pub function_between-requires-clause-bounds : goal.function_between-requires-clause-bounds
function_between-requires-clause-bounds g c =
    let o = c.args.self.now in let h = c.args.half in let r = c.in_ok-lower.ensures.runs in
    Half-has o.lower o.upper _ h.lower h.upper h.other c.requires.half _ r.grown c.in_ok-lower.lower r.answer

pub function_between-requires-clause-permanent : goal.function_between-requires-clause-permanent
function_between-requires-clause-permanent g c = Permanent-grown c.in_ok-lower.ensures.runs.grown c.requires.half.permanent

pub function_between-requires-clause-room : goal.function_between-requires-clause-room
function_between-requires-clause-room g c =
    let a = c.requires.half.root.literals in let r = c.requires.room in let n = c.in_ok-lower.ensures.runs.grown.vars in let f = (keeps_same c.in_ok-lower.ensures.stack).free in omega (arith, a, r, n, f)

pub returns-clause-does : goal.returns-clause-does
returns-clause-does g c =
    let o = c.args.self.now in let h = c.requires.half in let w = g.G.Grow.view c.args.store.now in let a = c.args.half in let b = half_at w a.lower a.upper a.other in
    let one = value_does o.lower o.upper Bdd b.lower (Ok c.in_ok-lower.lower) h.root h.root (Grown-refl w) (lower-work w.vars w.elements (order_in w) (bounds_at w o.lower o.upper) b h.call) refl c.in_ok-lower.ensures.runs in
    let v = g.G.Grow.view c.without.new.store in
    after o.lower o.upper one.moved (named o.lower o.upper (λ e is. subst (Denotes Bdd (g.G.Grow.view c.function_between.new.store) e) (Half-is o.lower o.upper w a.lower a.upper a.other h v one.moved.grown c.in_ok-lower.lower one.answer) is)
    (runs_do o.lower o.upper c.function_between.result (HasBounds-grown one.moved.grown h.root) (Half-work o.lower o.upper w a.lower a.upper a.other h v one.moved.grown c.in_ok-lower.lower one.answer) c.function_between.ensures.runs))

pub returns-clause-scratch : goal.returns-clause-scratch
returns-clause-scratch g c = keeps_both (keeps_same c.in_ok-lower.ensures.stack) c.function_between.ensures.scratch
