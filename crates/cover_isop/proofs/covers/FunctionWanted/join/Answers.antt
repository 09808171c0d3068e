use Rattle.std.proofs.Common.{Ok, Err, ◌∙◌, ap, subst}
use Rattle.std.proofs.lemmas.Result.{err_from_is_err_and}
use Rattle.std.specs.Prelude.{IfOk}
use Rattle.edge_bits.specs.declared.edges.Kind.TheVariants.{Bdd}
use Rattle.function_laws.specs.Kinds.{BddFunction}
use Rattle.node_store.specs.Views.{Denotes}
use Rattle.node_store.specs.ViewLaws.{Denotes-grown, Grown-trans, Permanent-grown}
use Rattle.std.proofs.Common.{Some}
use Rattle.cover_isop.specs.IsopLasts.{HasBounds-grown, isop_work-stays}
use Rattle.cover_isop.proofs.DoesLaws.{after, failed, make_does, named}
use Rattle.cover_isop.proofs.FunctionJoins.{Hi-does, Hi-two, Lo-does, Lo-two, Made-answer, Made-can, Made-is, Made-work}
use Rattle.cover_isop.proofs.Rooms.{keeps_both, keeps_same}
use Rattle.cover_isop.proofs.covers.FunctionWanted.join.Goals as goal

pub or-requires-clause-operands : goal.or-requires-clause-operands
or-requires-clause-operands g c =
    let o = c.args.self.now in Hi-two o.lower o.upper _ c.args._task c.args.var c.args.low c.args.high c.args.both c.requires.answered

pub or-requires-clause-permanent : goal.or-requires-clause-permanent
or-requires-clause-permanent g c = c.requires.answered.due.permanent

pub returns-in_err-hi-clause-does : goal.returns-in_err-hi-clause-does
returns-in_err-hi-clause-does g c =
    let o = c.args.self.now in let i = c.requires.answered in
    let hi = Hi-does o.lower o.upper _ c.args._task c.args.var c.args.low c.args.high c.args.both i (Err _) c.in_err-hi.ensures.runs in
    let q = err_from_is_err_and c.from_residual.result c.from_residual.ensures.1 in rw (q.1, q.2) (failed o.lower o.upper _ hi)

pub returns-in_err-hi-clause-scratch : goal.returns-in_err-hi-clause-scratch
returns-in_err-hi-clause-scratch g c = keeps_same c.in_err-hi.ensures.stack

pub or-requires-2-clause-operands : goal.or-requires-2-clause-operands
or-requires-2-clause-operands g c =
    let o = c.args.self.now in Lo-two o.lower o.upper _ c.args._task c.args.var c.args.low c.args.high c.args.both c.requires.answered _ c.in_ok-hi.ensures.runs.grown

pub or-requires-2-clause-permanent : goal.or-requires-2-clause-permanent
or-requires-2-clause-permanent g c = Permanent-grown c.in_ok-hi.ensures.runs.grown c.requires.answered.due.permanent

pub returns-in_err-lo-clause-does : goal.returns-in_err-lo-clause-does
returns-in_err-lo-clause-does g c =
    let o = c.args.self.now in let i = c.requires.answered in
    let hi = Hi-does o.lower o.upper _ c.args._task c.args.var c.args.low c.args.high c.args.both i (Ok c.in_ok-hi.hi) c.in_ok-hi.ensures.runs in
    let lo = Lo-does o.lower o.upper _ c.args._task c.args.var c.args.low c.args.high c.args.both i (g.G.Grow.view c.or.new.store) hi.moved.grown (Err _) c.in_err-lo.ensures.runs in
    let q = err_from_is_err_and c.from_residual-in_err-lo.result c.from_residual-in_err-lo.ensures.1 in rw (q.1, q.2) (after o.lower o.upper hi.moved (failed o.lower o.upper _ lo))

pub returns-in_err-lo-clause-scratch : goal.returns-in_err-lo-clause-scratch
returns-in_err-lo-clause-scratch g c = keeps_both (keeps_same c.in_ok-hi.ensures.stack) (keeps_same c.in_err-lo.ensures.stack)

pub make-requires : goal.make-requires
make-requires g c =
    let o = c.args.self.now in let i = c.requires.answered in
    let hi = Hi-does o.lower o.upper _ c.args._task c.args.var c.args.low c.args.high c.args.both i (Ok c.in_ok-hi.hi) c.in_ok-hi.ensures.runs in
    let lo = Lo-does o.lower o.upper _ c.args._task c.args.var c.args.low c.args.high c.args.both i (g.G.Grow.view c.or.new.store) hi.moved.grown (Ok c.in_ok-lo.lo) c.in_ok-lo.ensures.runs in
    (Bdd, Made-can o.lower o.upper _ c.args._task c.args.var c.args.low c.args.high c.args.both i (g.G.Grow.view c.or-2.new.store) (Grown-trans hi.moved.grown lo.moved.grown) c.in_ok-hi.hi c.in_ok-lo.lo (Denotes-grown Bdd lo.moved.grown hi.answer) lo.answer)

pub returns-clause-does : goal.returns-clause-does
returns-clause-does g c =
    let o = c.args.self.now in let i = c.requires.answered in let t = c.args._task in let w = g.G.Grow.view c.args.store.now in
    let hi = Hi-does o.lower o.upper w t c.args.var c.args.low c.args.high c.args.both i (Ok c.in_ok-hi.hi) c.in_ok-hi.ensures.runs in
    let lo = Lo-does o.lower o.upper w t c.args.var c.args.low c.args.high c.args.both i (g.G.Grow.view c.or.new.store) hi.moved.grown (Ok c.in_ok-lo.lo) c.in_ok-lo.ensures.runs in
    let v = g.G.Grow.view c.or-2.new.store in let m = Grown-trans hi.moved.grown lo.moved.grown in let e = c.make.ensures in
    let can = Made-can o.lower o.upper w t c.args.var c.args.low c.args.high c.args.both i v m c.in_ok-hi.hi c.in_ok-lo.lo (Denotes-grown Bdd lo.moved.grown hi.answer) lo.answer in
    let is = Made-is o.lower o.upper w t c.args.var c.args.low c.args.high c.args.both i v m c.in_ok-hi.hi c.in_ok-lo.lo (Denotes-grown Bdd lo.moved.grown hi.answer) lo.answer in
    after o.lower o.upper hi.moved (after o.lower o.upper lo.moved (named o.lower o.upper (λ x a. Made-answer o.lower o.upper w t c.args.var c.args.low c.args.high c.args.both i _ (Grown-trans m e.grown) x a)
    (make_does o.lower o.upper Bdd _ c.make.result (HasBounds-grown m i.due.root) (isop_work-stays m _ i.due.root.two (Made-work o.lower o.upper w t c.args.var c.args.low c.args.high c.args.both i)) e.grown e.made
    (subst (λ f. IfOk c.make.result (λ x. Denotes Bdd (g.G.Grow.view c.make.new.self) x f)) is (e.ok Bdd can)) e.memory e.full (λ full. e.due full Bdd can ∙ ap (λ f. Some (BddFunction f)) is))))

pub returns-clause-scratch : goal.returns-clause-scratch
returns-clause-scratch g c = keeps_both (keeps_same c.in_ok-hi.ensures.stack) (keeps_same c.in_ok-lo.ensures.stack)
