use Rattle.std.proofs.Common.{Some, ap, ◌∙◌, subst}
use Rattle.std.proofs.lemmas.Result.{err_from_is_err_and}
use Rattle.edge_bits.specs.declared.edges.Kind.TheVariants.{Zdd}
use Rattle.function_laws.specs.Kinds.{ZddFamily}
use Rattle.node_store.specs.Views.{Denotes}
use Rattle.node_store.specs.ViewLaws.{Grown-trans, Kept-trans, Permanent-grown}
use Rattle.node_store.specs.WorkLaws.{Moves-kept}
use Rattle.node_store.proofs.Frames.{other_err}
use Rattle.node_store.proofs.Stops.{full_stop}
use Rattle.zdd_ops.specs.Quotients.{quotient_work}
use Rattle.zdd_ops.proofs.QuotientSteps.{Above-can_later, Above-node_later, Both-answer, Both-meet, Divisor-can, Joined-answer, Joined-two_later, Made-due, Made-moved_later, Meet-moved, One-answer, Through}
use Rattle.zdd_ops.proofs.SubsetLaws.{Moves-refused}
use Rattle.zdd_ops.proofs.quotients.DivisionApply.join.Goals as goal

pub divisor_at-requires : goal.divisor_at-requires
divisor_at-requires g c = let b = c.requires.parts.1 in Divisor-can c.args.self.now.p c.args.self.now.q _ c.args.task _ _ c.args.var c.args.hi c.args.lo b.due b.splits b.hi_is b.lo_is

pub make-requires : goal.make-requires
make-requires g c = let b = c.requires.parts.1 in (Zdd, Above-can_later c.args.self.now.p c.args.self.now.q _ c.args.task _ _ c.args.var c.args.hi c.args.lo b.due b.splits b.hi_is b.lo_is _ c.in-Lacks.ensures.kept c.in-Lacks.ensures.divided)

pub returns-in_ok-make-in-Lacks-clause-answer : goal.returns-in_ok-make-in-Lacks-clause-answer
returns-in_ok-make-in-Lacks-clause-answer g c =
    let b = c.requires.parts.1 in let k = c.in-Lacks.ensures.kept in let l = c.in-Lacks.ensures.divided in let e = c.in_ok-make-in-Lacks.ensures in
    Joined-answer c.args.self.now.p c.args.self.now.q _ c.args.task _ _ c.args.var c.args.hi c.args.lo b.due b.splits b.hi_is b.lo_is _ c.in_ok-make-in-Lacks.field-0 _ (Grown-trans k.grown e.grown)
    (Above-node_later c.args.self.now.p c.args.self.now.q _ c.args.task _ _ c.args.var c.args.hi c.args.lo b.due b.splits b.hi_is b.lo_is _ k l) (e.ok Zdd (Above-can_later c.args.self.now.p c.args.self.now.q _ c.args.task _ _ c.args.var c.args.hi c.args.lo b.due b.splits b.hi_is b.lo_is _ k l))

pub returns-in_ok-make-in-Lacks-clause-moved : goal.returns-in_ok-make-in-Lacks-clause-moved
returns-in_ok-make-in-Lacks-clause-moved g c =
    let b = c.requires.parts.1 in let k = c.in-Lacks.ensures.kept in let l = c.in-Lacks.ensures.divided in let e = c.in_ok-make-in-Lacks.ensures in
    Made-moved_later c.args.self.now.p c.args.self.now.q _ c.args.task _ _ c.args.var c.args.hi c.args.lo b.due b.splits b.hi_is b.lo_is _ _ c.in_ok-make-in-Lacks.field-0 k e.grown e.made
    (subst (Denotes Zdd (g.G.Grow.view c.make.new.self) c.in_ok-make-in-Lacks.field-0) (Above-node_later c.args.self.now.p c.args.self.now.q _ c.args.task _ _ c.args.var c.args.hi c.args.lo b.due b.splits b.hi_is b.lo_is _ k l)
    (e.ok Zdd (Above-can_later c.args.self.now.p c.args.self.now.q _ c.args.task _ _ c.args.var c.args.hi c.args.lo b.due b.splits b.hi_is b.lo_is _ k l)))

pub returns-in_err-make-in-Lacks-clause-due : goal.returns-in_err-make-in-Lacks-clause-due
returns-in_err-make-in-Lacks-clause-due g c =
    let b = c.requires.parts.1 in let k = c.in-Lacks.ensures.kept in let l = c.in-Lacks.ensures.divided in let e = c.in_err-make-in-Lacks.ensures in
    let r = err_from_is_err_and c.from_residual.result c.from_residual.ensures.1 in rw (r.1, r.2) (λ full.
    Made-due c.args.self.now.p c.args.self.now.q _ c.args.task _ _ c.args.var c.args.hi c.args.lo b.due b.splits b.hi_is b.lo_is _ (Grown-trans k.grown e.grown)
    (e.due (full_stop _ full) Zdd (Above-can_later c.args.self.now.p c.args.self.now.q _ c.args.task _ _ c.args.var c.args.hi c.args.lo b.due b.splits b.hi_is b.lo_is _ k l)
    ∙ ap (λ f. Some (ZddFamily f)) (Above-node_later c.args.self.now.p c.args.self.now.q _ c.args.task _ _ c.args.var c.args.hi c.args.lo b.due b.splits b.hi_is b.lo_is _ k l)))

pub returns-then-is_empty-clause-moved : goal.returns-then-is_empty-clause-moved
returns-then-is_empty-clause-moved g c =
    Moves-kept _ (quotient_work c.args.self.now.p c.args.self.now.q) _ _ (Kept-trans c.in-Has.ensures.kept c.is_empty.ensures.kept)

pub returns-then-is_empty-clause-answer : goal.returns-then-is_empty-clause-answer
returns-then-is_empty-clause-answer g c =
    let b = c.requires.parts.1 in One-answer c.args.self.now.p c.args.self.now.q _ c.args.task _ _ c.args.var c.args.hi c.args.lo b.due b.splits b.hi_is b.lo_is _ _ c.in-Has.field-0 c.in-Has.without c.in-Has.ensures.kept c.is_empty.ensures.kept c.in-Has.ensures.divided (c.is_empty.ensures.yes c.if-is_empty.true)

pub meet-requires-clause-operands : goal.meet-requires-clause-operands
meet-requires-clause-operands g c =
    let b = c.requires.parts.1 in Joined-two_later c.args.self.now.p c.args.self.now.q _ c.args.task _ _ c.args.var c.args.hi c.args.lo b.due b.splits b.hi_is b.lo_is _ (Kept-trans c.in-Has.ensures.kept c.is_empty.ensures.kept)

pub meet-requires-clause-permanent : goal.meet-requires-clause-permanent
meet-requires-clause-permanent g c = let b = c.requires.parts.1 in Permanent-grown (Grown-trans c.in-Has.ensures.kept.grown c.is_empty.ensures.kept.grown) b.due.permanent

pub returns-in_ok-meet-in-Has-clause-moved : goal.returns-in_ok-meet-in-Has-clause-moved
returns-in_ok-meet-in-Has-clause-moved g c =
    let b = c.requires.parts.1 in let k = Kept-trans c.in-Has.ensures.kept c.is_empty.ensures.kept in let e = c.in_ok-meet-in-Has.ensures in
    Meet-moved c.args.self.now.p c.args.self.now.q _ c.args.task _ _ c.args.var c.args.hi c.args.lo b.due b.splits b.hi_is b.lo_is _ _ k e.runs.grown
    (Both-meet c.args.self.now.p c.args.self.now.q _ c.args.task _ _ c.args.var c.args.hi c.args.lo b.due b.splits b.hi_is b.lo_is _ c.in-Has.field-0 c.in-Has.without c.in-Has.ensures.kept c.in-Has.ensures.divided (c.is_empty.ensures.no c.if-is_empty.false)) e.runs.work

pub returns-in_ok-meet-in-Has-clause-answer : goal.returns-in_ok-meet-in-Has-clause-answer
returns-in_ok-meet-in-Has-clause-answer g c =
    let b = c.requires.parts.1 in let k = Kept-trans c.in-Has.ensures.kept c.is_empty.ensures.kept in let e = c.in_ok-meet-in-Has.ensures in
    Both-answer c.args.self.now.p c.args.self.now.q _ c.args.task _ _ c.args.var c.args.hi c.args.lo b.due b.splits b.hi_is b.lo_is _ _ c.in_ok-meet-in-Has.field-0 k e.runs.grown
    (Both-meet c.args.self.now.p c.args.self.now.q _ c.args.task _ _ c.args.var c.args.hi c.args.lo b.due b.splits b.hi_is b.lo_is _ c.in-Has.field-0 c.in-Has.without c.in-Has.ensures.kept c.in-Has.ensures.divided (c.is_empty.ensures.no c.if-is_empty.false)) e.runs.answer

pub returns-in_err-meet-in-Has-clause-moved : goal.returns-in_err-meet-in-Has-clause-moved
returns-in_err-meet-in-Has-clause-moved g c =
    let b = c.requires.parts.1 in let k = Kept-trans c.in-Has.ensures.kept c.is_empty.ensures.kept in let e = c.in_err-meet-in-Has.ensures in
    Meet-moved c.args.self.now.p c.args.self.now.q _ c.args.task _ _ c.args.var c.args.hi c.args.lo b.due b.splits b.hi_is b.lo_is _ _ k e.runs.grown
    (Both-meet c.args.self.now.p c.args.self.now.q _ c.args.task _ _ c.args.var c.args.hi c.args.lo b.due b.splits b.hi_is b.lo_is _ c.in-Has.field-0 c.in-Has.without c.in-Has.ensures.kept c.in-Has.ensures.divided (c.is_empty.ensures.no c.if-is_empty.false)) e.runs.work

pub returns-in_err-meet-in-Has-clause-due : goal.returns-in_err-meet-in-Has-clause-due
returns-in_err-meet-in-Has-clause-due g c =
    let b = c.requires.parts.1 in let k = Kept-trans c.in-Has.ensures.kept c.is_empty.ensures.kept in let e = c.in_err-meet-in-Has.ensures in
    let r = err_from_is_err_and c.from_residual-in_err-meet-in-Has.result c.from_residual-in_err-meet-in-Has.ensures.1 in rw (r.1, r.2) (λ full.
    Through c.args.self.now.p c.args.self.now.q _ c.args.task _ _ c.args.var c.args.hi c.args.lo b.due b.splits b.hi_is b.lo_is _ _ _ k.grown e.runs.grown
    (Both-meet c.args.self.now.p c.args.self.now.q _ c.args.task _ _ c.args.var c.args.hi c.args.lo b.due b.splits b.hi_is b.lo_is _ c.in-Has.field-0 c.in-Has.without c.in-Has.ensures.kept c.in-Has.ensures.divided (c.is_empty.ensures.no c.if-is_empty.false)) (e.runs.due (other_err _ _ full)))

pub returns-in_err-make-in-Lacks-clause-moved : goal.returns-in_err-make-in-Lacks-clause-moved
returns-in_err-make-in-Lacks-clause-moved g c = let e = c.in_err-make-in-Lacks.ensures in Moves-refused _ _ _ _ _ c.in-Lacks.ensures.kept e.grown e.made
