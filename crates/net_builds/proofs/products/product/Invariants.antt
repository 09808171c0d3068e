use Rattle.std.proofs.Common.{ℕ, ◌≤◌, Bool, true, drop, length}
use Rattle.net_builds.specs.Factors.{GivesIf}
use Rattle.net_builds.specs.Products.{match_at}
use Rattle.net_builds.specs.Signals.{HaveValues}
use Rattle.net_builds.proofs.products.product.Given as goal

abbrev pub invariant-loop-at : goal.invariant-loop-at
invariant-loop-at g l = record {
  asked : l.at ≤ length l.literals;
  read : l.at ≤ length l.ins;
  own : g.H.Host.has l.host l.session;
  up : (values : ℕ → ℕ → Bool) → HaveValues (g.H.Host.standing l.fn.session) l.rows values l.ins → GivesIf true (g.H.Host.standing l.fn.session) (g.H.Host.standing l.session) l.product (match_at values (drop l.at l.ins) (drop l.at l.literals));
}

abbrev pub decreases-loop-at : goal.decreases-loop-at
decreases-loop-at g l = l.at
