use Rattle.std.proofs.Common.{arith}
use Rattle.node_store.specs.Operands.{CanHalve}
use Rattle.node_store.specs.ViewLaws.{IsVariable-grown, level-grown, levels-grown, top-grown}
use Rattle.node_store.proofs.parts.parts.Goals as goal

pub look-operand-requires : goal.look-operand-requires
look-operand-requires g c = (c.requires.0, c.requires.1.edge)

pub returns-clause-parts : goal.returns-clause-parts
returns-clause-parts g c = λ k p.
    let e = c.look-operand.ensures in
    let m = e.kept.grown in
    let t = top-grown k m p.edge in let l = level-grown m c.args.var in let n = levels-grown k m in
    let a = p.above in let r = p.within in
    let can : CanHalve k (g.G.Grow.view c.look-operand.new.store) c.look-operand.result c.args.var = record {
      permanent = e.permanent;
      operand = e.operand k p.edge;
      in_range = IsVariable-grown k m c.args.var p.in_range;
      above = rw e.edge (omega arith);
      within = omega arith;
    } in
    let both = c.parts_of.ensures k (g.G.Grow.view c.look-operand.new.store) can in
    rw e.edge at both
