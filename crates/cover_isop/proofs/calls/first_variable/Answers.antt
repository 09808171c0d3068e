use Rattle.std.proofs.Common.{◌≡◌, sym, ◌∙◌, subst}
use Rattle.edge_bits.specs.declared.edges.Edge.{Edge}
use Rattle.edge_bits.specs.declared.edges.Kind.TheVariants.{Bdd}
use Rattle.function_laws.specs.Families.{base}
use Rattle.node_store.specs.ViewLaws.{Is-grown, Kept-trans}
use Rattle.node_store.proofs.Operands.{IsOperand-grown}
use Rattle.cover_isop.specs.Isops.{IsSplit, bounds_at, cover_in}
use Rattle.cover_isop.proofs.EdgeSteps.{First-none, First-split}
use Rattle.cover_isop.proofs.calls.first_variable.Goals as goal

pub look-lower-requires : goal.look-lower-requires
look-lower-requires g c = (Bdd, c.requires.bounds.two.first)

pub look-upper-requires : goal.look-upper-requires
look-upper-requires g c = (Bdd, Is-grown Bdd c.look-lower.ensures.kept.grown c.requires.bounds.two.second)

pub returns-clause-first : goal.returns-clause-first
returns-clause-first g c =
    let w = g.G.Grow.view c.look-upper.new.store in let a = c.look-lower in let b = c.look-upper in let t = c.args.task in let v = c.in_ok-top.top.var in
    let p = IsOperand-grown Bdd b.ensures.kept.grown (a.ensures.operand Bdd c.requires.bounds.two.first) in
    let q = b.ensures.operand Bdd (Is-grown Bdd a.ensures.kept.grown c.requires.bounds.two.second) in
    let split = First-split w a.result b.result p q (λ e. c.requires.some (sym a.ensures.edge ∙ e)) (λ e. c.requires.not_all (sym b.ensures.edge ∙ e)) t.h c.in_ok-top.top (sym c.upper_top.ensures ∙ c.in_ok-top.was) in
    subst (λ (e : Edge). IsSplit w (record { f = t.f; g = e; h = t.h }) v) b.ensures.edge (subst (λ (e : Edge). IsSplit w (record { f = e; g = b.result.edge; h = t.h }) v) a.ensures.edge split)

pub returns-in_err-top-clause-first : goal.returns-in_err-top-clause-first
returns-in_err-top-clause-first g c = rw c.from_residual.ensures (
    let w = g.G.Grow.view c.look-upper.new.store in let a = c.look-lower in let b = c.look-upper in let t = c.args.task in
    let p = IsOperand-grown Bdd b.ensures.kept.grown (a.ensures.operand Bdd c.requires.bounds.two.first) in
    let q = b.ensures.operand Bdd (Is-grown Bdd a.ensures.kept.grown c.requires.bounds.two.second) in
    let none = First-none w a.result b.result p q (λ e. c.requires.some (sym a.ensures.edge ∙ e)) (λ e. c.requires.not_all (sym b.ensures.edge ∙ e)) (sym c.upper_top.ensures ∙ c.in_err-top.was) in
    subst (λ (e : Edge). cover_in w (bounds_at w t.f e) ≡ base) b.ensures.edge (subst (λ (e : Edge). cover_in w (bounds_at w e b.result.edge) ≡ base) a.ensures.edge none))

pub returns-clause-kept : goal.returns-clause-kept
returns-clause-kept g c = Kept-trans c.look-lower.ensures.kept c.look-upper.ensures.kept

pub returns-in_err-top-clause-kept : goal.returns-in_err-top-clause-kept
returns-in_err-top-clause-kept g c = Kept-trans c.look-lower.ensures.kept c.look-upper.ensures.kept
