use Rattle.std.proofs.Common.{ℕ, ◌<◌, ◌∙◌, subst, sym, arith}
use Rattle.edge_bits.specs.declared.edges.Kind.TheVariants.{Add}
use Rattle.node_store.specs.ViewLaws.{Denotes-grown}
use Rattle.step_times.proofs.Nodes.{two_leaves}
use Rattle.step_times.proofs.work.node_of.Goals as goal

pub make-requires : goal.make-requires
make-requires g c =
    let few = c.requires.var.1 in
    (Add, two_leaves _ c.args.var c.in_ok-hi.hi c.in_ok-lo.lo _ _ (subst (λ (n : ℕ). c.args.var < n) (sym (c.in_ok-lo.ensures.grown.vars ∙ c.in_ok-hi.ensures.grown.vars)) c.requires.var.0) (omega (arith, few)) (Denotes-grown Add c.in_ok-lo.ensures.grown c.in_ok-hi.ensures.ok) c.in_ok-lo.ensures.ok)
