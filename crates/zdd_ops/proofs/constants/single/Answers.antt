use Rattle.std.proofs.Common.{◌+◌, ap, ◌∙◌, Some}
use Rattle.edge_bits.specs.Permanent.{first_element}
use Rattle.edge_bits.specs.declared.edges.Kind.TheVariants.{Zdd}
use Rattle.function_laws.specs.Families.{single}
use Rattle.function_laws.specs.Kinds.{ZddFamily}
use Rattle.node_store.specs.Views.{CanMake}
use Rattle.node_store.proofs.Running.{stored_calls}
use Rattle.zdd_ops.proofs.Singles.{Single-can, Single-made, Single-values}
use Rattle.zdd_ops.proofs.constants.single.Goals as goal

pub make-requires : goal.make-requires
make-requires g c =
    let n = c.tell_permanent.ensures.kept.grown.elements in
    (Zdd, Single-can (g.G.Grow.view c.tell_permanent.new.store) c.args.e c.base_family.result c.empty_family.result (record { few = c.requires.few; in_range = rw n c.requires.in_range }) c.tell_permanent.ensures.permanent c.base_family.ensures c.empty_family.ensures)

pub returns : goal.returns
returns g c =
    let v = g.G.Grow.view c.args.store.now in let u = g.G.Grow.view c.tell_permanent.new.store in let w = g.G.Grow.view c.make.new.self in
    let l = c.tell_permanent.ensures in let e = c.make.ensures in let n = l.kept.grown.elements in
    let can : CanMake Zdd u (first_element + c.args.e) c.base_family.result c.empty_family.result =
    Single-can u c.args.e c.base_family.result c.empty_family.result (record { few = c.requires.few; in_range = rw n c.requires.in_range }) l.permanent c.base_family.ensures c.empty_family.ensures in
    stored_calls Zdd (single c.args.e) v u w c.make.result l.kept l.room e.grown e.room e.made
    (Single-made v u w c.args.e c.base_family.result c.empty_family.result c.make.result l.kept l.permanent c.base_family.ensures c.empty_family.ensures (e.ok Zdd can))
    e.memory e.full (λ is. e.due is Zdd can ∙ ap (λ h. Some (ZddFamily h)) (Single-values u c.args.e c.base_family.result c.empty_family.result l.permanent c.base_family.ensures c.empty_family.ensures))
