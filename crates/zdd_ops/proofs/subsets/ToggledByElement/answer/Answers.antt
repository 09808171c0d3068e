use Rattle.std.proofs.Common.{Some, IfOk, ap, ◌∙◌, subst}
use Rattle.edge_bits.specs.declared.edges.Kind.TheVariants.{Zdd}
use Rattle.function_laws.specs.Kinds.{ZddFamily}
use Rattle.node_store.specs.Views.{Denotes}
use Rattle.zdd_ops.proofs.SubsetLaws.{Toggled-can, Toggled-is}
use Rattle.zdd_ops.proofs.subsets.ToggledByElement.answer.Goals as goal

pub make-requires : goal.make-requires
make-requires g c = (Zdd, Toggled-can _ c.args.var c.args.hi c.args.lo c.requires)

pub returns-clause-answer : goal.returns-clause-answer
returns-clause-answer g c =
    subst (λ f. IfOk c.make.result (λ e. Denotes Zdd (g.G.Grow.view c.make.new.self) e f)) (Toggled-is _ c.args.var c.args.hi c.args.lo c.requires)
    (c.make.ensures.ok Zdd (Toggled-can _ c.args.var c.args.hi c.args.lo c.requires))

pub returns-clause-due : goal.returns-clause-due
returns-clause-due g c = λ is.
    c.make.ensures.due is Zdd (Toggled-can _ c.args.var c.args.hi c.args.lo c.requires) ∙ ap (λ f. Some (ZddFamily f)) (Toggled-is _ c.args.var c.args.hi c.args.lo c.requires)
