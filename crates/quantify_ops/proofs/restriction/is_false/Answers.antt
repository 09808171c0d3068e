use Rattle.std.proofs.Common.{sym, ◌∙◌}
use Rattle.edge_bits.specs.declared.edges.Kind.TheVariants.{Bdd}
use Rattle.quantify_ops.proofs.RestrictLaws.{nowhere_leaf, somewhere_inner, somewhere_leaf}
use Rattle.quantify_ops.proofs.restriction.is_false.Goals as goal

pub returns-in-Inner-clause-no : goal.returns-in-Inner-clause-no
returns-in-Inner-clause-no g c = λ is.
    let e = c.in-Inner.ensures in somewhere_inner _ _ c.args.edge c.in-Inner.field-1 c.in-Inner.field-2 c.in-Inner.field-0 e.kept.grown c.requires (e.opens Bdd c.requires)

pub returns-in-Leaf-clause-yes : goal.returns-in-Leaf-clause-yes
returns-in-Leaf-clause-yes g c = λ flip. let e = c.in-Leaf.ensures in nowhere_leaf _ _ c.args.edge _ e.kept.grown c.requires (e.opens Bdd c.requires) (sym c.complement.ensures ∙ flip)

pub returns-in-Leaf-clause-no : goal.returns-in-Leaf-clause-no
returns-in-Leaf-clause-no g c = λ plain. let e = c.in-Leaf.ensures in somewhere_leaf _ _ c.args.edge _ e.kept.grown c.requires (e.opens Bdd c.requires) (sym c.complement.ensures ∙ plain)
