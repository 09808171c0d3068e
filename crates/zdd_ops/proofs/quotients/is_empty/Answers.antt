use Rattle.std.proofs.Common.{subst}
use Rattle.edge_bits.specs.declared.edges.Kind.TheVariants.{Zdd}
use Rattle.node_store.specs.ViewLaws.{values_at-grown}
use Rattle.zdd_ops.specs.Quotients.{HasMember}
use Rattle.zdd_ops.proofs.QuotientSteps.{leaf-empty, leaf-member, member-inner}
use Rattle.zdd_ops.proofs.quotients.is_empty.Goals as goal

pub returns-in-Inner-clause-no : goal.returns-in-Inner-clause-no
returns-in-Inner-clause-no g c = λ _.
    let m = c.in-Inner.ensures.kept.grown in let same = values_at-grown Zdd m c.requires in
    subst HasMember same (member-inner (g.G.Grow.view c.open.new.self) c.args.edge c.in-Inner.field-0 c.in-Inner.field-1 c.in-Inner.field-2 (rw same (c.in-Inner.ensures.opens Zdd c.requires)))

pub returns-in-Leaf-clause-yes : goal.returns-in-Leaf-clause-yes
returns-in-Leaf-clause-yes g c = λ is. leaf-empty c.args.edge _ c.in-Leaf.value (c.in-Leaf.ensures.opens Zdd c.requires).leaf is

pub returns-in-Leaf-clause-no : goal.returns-in-Leaf-clause-no
returns-in-Leaf-clause-no g c = λ is. leaf-member c.args.edge _ c.in-Leaf.value (c.in-Leaf.ensures.opens Zdd c.requires).leaf is
