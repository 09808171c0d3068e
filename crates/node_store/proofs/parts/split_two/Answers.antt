use Rattle.std.proofs.Common.{sym, ◌∙◌, subst, arith}
use Rattle.std.proofs.lemmas.Grind.{common_steps}
use Rattle.edge_bits.specs.declared.edges.Edge.{Edge}
use Rattle.node_store.specs.Views.{IsLeaf, IsTop, PartsAt, values_at}
use Rattle.node_store.specs.ViewLaws.{Is-grown, Kept-trans}
use Rattle.node_store.specs.Operands.{CanHalve, leaf_value}
use Rattle.node_store.proofs.Operands.{IsOperand-grown, leaf_of, no_upper, upper_is, upper_level}
use Rattle.node_store.proofs.parts.split_two.Goals as goal

pub look-first-requires : goal.look-first-requires
look-first-requires g c = (c.requires.0, c.requires.1.first)

pub look-second-requires : goal.look-second-requires
look-second-requires g c = (c.requires.0, Is-grown c.requires.0 c.look-first.ensures.kept.grown c.requires.1.second)

pub returns-in_default-clause-split : goal.returns-in_default-clause-split
returns-in_default-clause-split g c = λ k two.
    let w = g.G.Grow.view c.look-second.new.store in
    let a = c.look-first.result in let b = c.look-second.result in
    let p = IsOperand-grown k c.look-second.ensures.kept.grown (c.look-first.ensures.operand k two.first) in
    let q = c.look-second.ensures.operand k (Is-grown k c.look-first.ensures.kept.grown two.second) in
    let none = no_upper a.top b.top (sym c.upper.ensures ∙ c.in_default.is) in
    rw c.leaves.ensures (
      subst (λ (x : Edge). IsLeaf k w x (values_at k w x) (leaf_value a.opened)) c.look-first.ensures.edge (leaf_of k w a p none.0),
      subst (λ (x : Edge). IsLeaf k w x (values_at k w x) (leaf_value b.opened)) c.look-second.ensures.edge (leaf_of k w b q none.1),
    )

pub returns-clause-split : goal.returns-clause-split
returns-clause-split g c = λ k two.
    let w = g.G.Grow.view c.look-second.new.store in
    let a = c.look-first.result in let b = c.look-second.result in
    let v = c.in-Some.top.var in
    let p = IsOperand-grown k c.look-second.ensures.kept.grown (c.look-first.ensures.operand k two.first) in
    let q = c.look-second.ensures.operand k (Is-grown k c.look-first.ensures.kept.grown two.second) in
    let is = sym c.upper.ensures ∙ c.in-Some.is in
    let top = upper_is k w a b p q c.in-Some.top is in
    let permanent = c.look-second.ensures.permanent in
    let can_first : CanHalve k w a v = record { permanent = permanent; operand = p; in_range = top.in_range; above = top.above_f; within = top.within } in
    let can_second : CanHalve k w b v = record { permanent = permanent; operand = q; in_range = top.in_range; above = top.above_g; within = top.within } in
    let named : IsTop k w c.args.f c.args.g v = subst (λ (x : Edge). IsTop k w x c.args.g v) c.look-first.ensures.edge (subst (λ (x : Edge). IsTop k w a.edge x v) c.look-second.ensures.edge top) in
    rw (c.two.ensures.f, c.two.ensures.g, c.two-2.ensures.f, c.two-2.ensures.g) (record {
      top = named;
      level = upper_level k w a b p q c.in-Some.top is;
      f = subst (λ (x : Edge). PartsAt k w x (values_at k w x) v c.parts_of-f1.result.0 c.parts_of-f1.result.1) c.look-first.ensures.edge (c.parts_of-f1.ensures k w can_first);
      g = subst (λ (x : Edge). PartsAt k w x (values_at k w x) v c.parts_of-g1.result.0 c.parts_of-g1.result.1) c.look-second.ensures.edge (c.parts_of-g1.ensures k w can_second);
    })

pub returns-clause-kept : goal.returns-clause-kept
returns-clause-kept g c = Kept-trans c.look-first.ensures.kept c.look-second.ensures.kept

pub returns-in_default-clause-kept : goal.returns-in_default-clause-kept
returns-in_default-clause-kept g c = grind (arith, common_steps)
