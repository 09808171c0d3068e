use Rattle.std.proofs.Common.{Ok, arith}
use Rattle.edge_bits.specs.declared.edges.Kind.TheVariants.{Bdd}
use Rattle.node_store.specs.Splits.{BothAnswered}
use Rattle.quantify_ops.specs.Quantified.{QuantifiedAnswers, QuantifiedDue, QuantifiedSplits}
use Rattle.std.proofs.lemmas.Result.{err_from_is_err_and}
use Rattle.node_store.proofs.Stops.{full_stop}
use Rattle.quantify_ops.proofs.QuantifiedLaws.{Quantified-none, BothAnswered-grown, quantified_value, choice_value, quantified_node, Quantified-answers, Quantified-node, Quantified-added, Quantified-due, Quantified-refused, moved_after}
use Rattle.quantify_ops.proofs.quantification.Quantification.join.Goals as goal
use Rattle.quantify_ops.proofs.quantification.Quantification.join.Goals.{After-rest_of}
use Rattle.quantify_ops.proofs.quantification.Quantification.join.Given as given

pub rest_of-requires-clause-cube : goal.rest_of-requires-clause-cube
rest_of-requires-clause-cube g c = c.requires.parts.1.due.operands.cube

pub rest_of-requires-clause-in_range : goal.rest_of-requires-clause-in_range
rest_of-requires-clause-in_range g c = c.requires.parts.1.splits.two.in_range

pub rest_of-requires-clause-above : goal.rest_of-requires-clause-above
rest_of-requires-clause-above g c = c.requires.parts.1.splits.above

-- both answers, after the look at the product
answered : (g : given.Over) (c : After-rest_of g) → BothAnswered (QuantifiedDue c.args.self.now.f c.args.self.now.g c.args.self.now.cube) QuantifiedAnswers QuantifiedSplits (g.G.Grow.view c.rest_of.new.store) c.args.task c.args.var c.args.hi c.args.lo
    c.requires.parts.0.0 c.requires.parts.0.1
answered g c =
    let o = c.args.self.now in let p = c.requires.parts in
    BothAnswered-grown o.f o.g o.cube _ _ c.args.task c.args.var c.args.hi c.args.lo p.0.0 p.0.1 c.rest_of.ensures.kept.grown p.1

pub or-requires-clause-operands : goal.or-requires-clause-operands
or-requires-clause-operands g c = let p = answered g (goal.at.or-requires-clause-operands g c).After-rest_of in record { first = p.hi_is.answer; second = p.lo_is.answer }

pub or-requires-clause-permanent : goal.or-requires-clause-permanent
or-requires-clause-permanent g c = (answered g (goal.at.or-requires-clause-permanent g c).After-rest_of).due.permanent

pub or-requires-clause-room : goal.or-requires-clause-room
or-requires-clause-room g c = let n = c.rest_of.ensures.kept.grown.vars in let room = c.requires.room in omega arith

pub make-requires : goal.make-requires
make-requires g c =
    let p = answered g (goal.at.make-requires g c).After-rest_of in let t = c.requires.parts.0 in
    (Bdd, quantified_node _ c.args.task t.0 t.1 c.args.var p.splits c.args.hi c.args.lo p.hi_is p.lo_is)

pub returns-in_err-or-in-Some-clause-moved : goal.returns-in_err-or-in-Some-clause-moved
returns-in_err-or-in-Some-clause-moved g c =
    let o = c.args.self.now in let p = answered g (goal.at.returns-in_err-or-in-Some-clause-moved g c).After-rest_of in let t = c.requires.parts.0 in
    let value = quantified_value _ c.args.task t.0 t.1 c.args.var p.splits c.args.hi c.args.lo c.in-Some.field-0 c.in-Some.ensures.rest p.hi_is p.lo_is in
    let e = c.in_err-or-in-Some.ensures.runs in
    moved_after o.f o.g o.cube _ _ _ c.rest_of.ensures.kept (Quantified-added o.f o.g o.cube _ _ c.args.task _ p.due e.grown value e.work)

pub returns-in_ok-or-in-Some-clause-moved : goal.returns-in_ok-or-in-Some-clause-moved
returns-in_ok-or-in-Some-clause-moved g c =
    let o = c.args.self.now in let p = answered g (goal.at.returns-in_ok-or-in-Some-clause-moved g c).After-rest_of in let t = c.requires.parts.0 in
    let value = quantified_value _ c.args.task t.0 t.1 c.args.var p.splits c.args.hi c.args.lo c.in-Some.field-0 c.in-Some.ensures.rest p.hi_is p.lo_is in
    let e = c.in_ok-or-in-Some.ensures.runs in
    moved_after o.f o.g o.cube _ _ _ c.rest_of.ensures.kept (Quantified-added o.f o.g o.cube _ _ c.args.task _ p.due e.grown value e.work)

pub returns-in_ok-or-in-Some-clause-answer : goal.returns-in_ok-or-in-Some-clause-answer
returns-in_ok-or-in-Some-clause-answer g c =
    let o = c.args.self.now in let p = answered g (goal.at.returns-in_ok-or-in-Some-clause-answer g c).After-rest_of in let t = c.requires.parts.0 in
    let value = quantified_value _ c.args.task t.0 t.1 c.args.var p.splits c.args.hi c.args.lo c.in-Some.field-0 c.in-Some.ensures.rest p.hi_is p.lo_is in
    let e = c.in_ok-or-in-Some.ensures.runs in
    Quantified-answers o.f o.g o.cube _ _ c.args.task _ p.due e.grown value (Ok c.in_ok-or-in-Some.field-0) e.answer

pub returns-in_err-or-in-Some-clause-due : goal.returns-in_err-or-in-Some-clause-due
returns-in_err-or-in-Some-clause-due g c =
    let o = c.args.self.now in let p = answered g (goal.at.returns-in_err-or-in-Some-clause-due g c).After-rest_of in let t = c.requires.parts.0 in
    let value = quantified_value _ c.args.task t.0 t.1 c.args.var p.splits c.args.hi c.args.lo c.in-Some.field-0 c.in-Some.ensures.rest p.hi_is p.lo_is in
    let e = c.in_err-or-in-Some.ensures.runs in
    let q = err_from_is_err_and c.from_residual.result c.from_residual.ensures.1 in rw (q.1, q.2) (λ is. Quantified-refused o.f o.g o.cube _ _ c.args.task _ p.due e.grown value (e.due is))

pub returns-in_ok-make-in-None-clause-moved : goal.returns-in_ok-make-in-None-clause-moved
returns-in_ok-make-in-None-clause-moved g c =
    let o = c.args.self.now in let p = answered g (goal.at.returns-in_ok-make-in-None-clause-moved g c).After-rest_of in let t = c.requires.parts.0 in
    let value = choice_value _ c.args.task t.0 t.1 c.args.var p.splits c.args.hi c.args.lo c.in-None.ensures.rest p.hi_is p.lo_is in
    let node = quantified_node _ c.args.task t.0 t.1 c.args.var p.splits c.args.hi c.args.lo p.hi_is p.lo_is in
    let e = c.in_ok-make-in-None.ensures in
    moved_after o.f o.g o.cube _ _ _ c.rest_of.ensures.kept (Quantified-node o.f o.g o.cube _ _ c.args.task _ p.due e.grown value (Ok c.in_ok-make-in-None.field-0) e.made (e.ok Bdd node))

pub returns-in_err-make-in-None-clause-moved : goal.returns-in_err-make-in-None-clause-moved
returns-in_err-make-in-None-clause-moved g c =
    let o = c.args.self.now in let p = answered g (goal.at.returns-in_err-make-in-None-clause-moved g c).After-rest_of in let t = c.requires.parts.0 in
    let value = choice_value _ c.args.task t.0 t.1 c.args.var p.splits c.args.hi c.args.lo c.in-None.ensures.rest p.hi_is p.lo_is in
    let node = quantified_node _ c.args.task t.0 t.1 c.args.var p.splits c.args.hi c.args.lo p.hi_is p.lo_is in
    let e = c.in_err-make-in-None.ensures in
    moved_after o.f o.g o.cube _ _ _ c.rest_of.ensures.kept (Quantified-none o.f o.g o.cube _ _ e.grown e.made)

pub returns-in_ok-make-in-None-clause-answer : goal.returns-in_ok-make-in-None-clause-answer
returns-in_ok-make-in-None-clause-answer g c =
    let o = c.args.self.now in let p = answered g (goal.at.returns-in_ok-make-in-None-clause-answer g c).After-rest_of in let t = c.requires.parts.0 in
    let value = choice_value _ c.args.task t.0 t.1 c.args.var p.splits c.args.hi c.args.lo c.in-None.ensures.rest p.hi_is p.lo_is in
    let node = quantified_node _ c.args.task t.0 t.1 c.args.var p.splits c.args.hi c.args.lo p.hi_is p.lo_is in
    let e = c.in_ok-make-in-None.ensures in
    Quantified-answers o.f o.g o.cube _ _ c.args.task _ p.due e.grown value (Ok c.in_ok-make-in-None.field-0) (e.ok Bdd node)

pub returns-in_err-make-in-None-clause-due : goal.returns-in_err-make-in-None-clause-due
returns-in_err-make-in-None-clause-due g c =
    let o = c.args.self.now in let p = answered g (goal.at.returns-in_err-make-in-None-clause-due g c).After-rest_of in let t = c.requires.parts.0 in
    let value = choice_value _ c.args.task t.0 t.1 c.args.var p.splits c.args.hi c.args.lo c.in-None.ensures.rest p.hi_is p.lo_is in
    let node = quantified_node _ c.args.task t.0 t.1 c.args.var p.splits c.args.hi c.args.lo p.hi_is p.lo_is in
    let e = c.in_err-make-in-None.ensures in
    let q = err_from_is_err_and c.from_residual-in_err-make-in-None.result c.from_residual-in_err-make-in-None.ensures.1 in rw (q.1, q.2) (λ is. Quantified-due o.f o.g o.cube _ _ c.args.task _ p.due e.grown value (e.due (full_stop _ is) Bdd node))
