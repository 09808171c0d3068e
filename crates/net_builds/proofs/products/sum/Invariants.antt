use Rattle.std.proofs.Common.{ℕ, Bool, false, take}
use Rattle.net_builds.specs.Factors.{GivesIf}
use Rattle.net_builds.specs.Products.{match_any}
use Rattle.net_builds.specs.Signals.{HaveValues}
use Rattle.net_builds.proofs.products.sum.Given as goal

abbrev pub invariant-loop-cube : goal.invariant-loop-cube
invariant-loop-cube g l = record {
  own : g.H.Host.has l.host l.session;
  up : (values : ℕ → ℕ → Bool) → HaveValues (g.H.Host.standing l.fn.session) l.rows values l.ins → GivesIf false (g.H.Host.standing l.fn.session) (g.H.Host.standing l.session) l.sum (match_any values l.ins (take l.cube-index l.cubes));
}
