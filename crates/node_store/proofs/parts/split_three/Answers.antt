use Rattle.std.proofs.Common.{ap, sym, ◌∙◌, subst, arith}
use Rattle.std.specs.Prelude.{min}
use Rattle.edge_bits.specs.declared.edges.Edge.{Edge}
use Rattle.edge_bits.specs.declared.edges.Kind.TheVariants.{Bdd}
use Rattle.node_store.specs.Operands.{CanHalve}
use Rattle.node_store.specs.Three.{HasTop, IsTopAt, least_top}
use Rattle.node_store.specs.Views.{PartsAt, values_at}
use Rattle.node_store.specs.ViewLaws.{Grown-trans, Is-grown, Kept-trans}
use Rattle.node_store.proofs.Operands.{IsOperand-grown}
use Rattle.node_store.proofs.ThreeParts.{HasTop-bdd, HasTop-from, HasTop-upper, Three-halves, bdd_levels, bdd_variable, no_top}
use Rattle.node_store.proofs.parts.split_three.Goals as goal

pub look-first-requires : goal.look-first-requires
look-first-requires g c = (c.requires.0, Is-grown c.requires.0 c.look-condition.ensures.kept.grown c.requires.1.three.first)

pub look-second-requires : goal.look-second-requires
look-second-requires g c = (c.requires.0, Is-grown c.requires.0 (Grown-trans c.look-condition.ensures.kept.grown c.look-first.ensures.kept.grown) c.requires.1.three.second)

pub unreachable-requires : goal.unreachable-requires
unreachable-requires g c =
    let p = c.look-condition.ensures.operand Bdd c.requires.1.three.condition in
    let leaf = no_top _ c.look-condition.result.edge _ c.look-condition.result.top c.upper-below.result p.top (sym c.upper.ensures ∙ c.in_default.is) in
    c.requires.1.inner (ap (λ (x : Edge). x.index) (sym c.look-condition.ensures.edge) ∙ leaf)

pub returns-clause-kept : goal.returns-clause-kept
returns-clause-kept g c = Kept-trans c.look-condition.ensures.kept (Kept-trans c.look-first.ensures.kept c.look-second.ensures.kept)

pub returns-clause-split : goal.returns-clause-split
returns-clause-split g c = λ k s.
    let w = g.G.Grow.view c.look-second.new.store in
    let a = c.look-condition.result in let b = c.look-first.result in let d = c.look-second.result in
    let ea = c.look-condition.ensures.edge in let eb = c.look-first.ensures.edge in let ed = c.look-second.ensures.edge in
    let m1 = c.look-condition.ensures.kept.grown in let m2 = c.look-first.ensures.kept.grown in let m3 = c.look-second.ensures.kept.grown in
    let p = IsOperand-grown Bdd (Grown-trans m2 m3) (c.look-condition.ensures.operand Bdd s.three.condition) in
    let q = IsOperand-grown k m3 (c.look-first.ensures.operand k (Is-grown k m1 s.three.first)) in
    let r = c.look-second.ensures.operand k (Is-grown k (Grown-trans m1 m2) s.three.second) in
    let permanent = c.look-second.ensures.permanent in
    let v = c.in-Some.top.var in
    let below = HasTop-upper k w (w.top b.edge.index) (w.top d.edge.index) b.top d.top (HasTop-from k w b.edge _ b.top q.top) (HasTop-from k w d.edge _ d.top r.top) in
    let all = HasTop-upper k w (w.top a.edge.index) _ a.top _ (HasTop-bdd k s.on_variables w _ a.top (HasTop-from Bdd w a.edge _ a.top p.top)) below in
    let least = min (w.top a.edge.index) (min (w.top b.edge.index) (w.top d.edge.index)) in
    let found : HasTop k w least c.upper.result = rw (c.upper.ensures, c.upper-below.ensures) all in
    let opened : IsTopAt k w least c.in-Some.top = rw c.in-Some.is at found in
    let named : IsTopAt k w (least_top w c.args.task) c.in-Some.top = rw (sym ea, sym eb, sym ed) opened in
    let here = opened.here in let within = opened.within in
    let can_condition : CanHalve Bdd w a v = record { permanent = permanent; operand = p; in_range = bdd_variable k s.on_variables w v opened.in_range; above = omega arith; within = rw (sym (bdd_levels k s.on_variables w)) within } in
    let can_first : CanHalve k w b v = record { permanent = permanent; operand = q; in_range = opened.in_range; above = omega arith; within = within } in
    let can_second : CanHalve k w d v = record { permanent = permanent; operand = r; in_range = opened.in_range; above = omega arith; within = within } in
    Three-halves k s.on_variables w c.args.task _ named
    (subst (λ (x : Edge). PartsAt Bdd w x (values_at Bdd w x) v c.parts_of-f1.result.0 c.parts_of-f1.result.1) ea (c.parts_of-f1.ensures Bdd w can_condition))
    (subst (λ (x : Edge). PartsAt k w x (values_at k w x) v c.parts_of-g1.result.0 c.parts_of-g1.result.1) eb (c.parts_of-g1.ensures k w can_first))
    (subst (λ (x : Edge). PartsAt k w x (values_at k w x) v c.parts_of-h1.result.0 c.parts_of-h1.result.1) ed (c.parts_of-h1.ensures k w can_second))
