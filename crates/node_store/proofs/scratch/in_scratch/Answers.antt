use Rattle.std.proofs.Common.{inl, inr, arith}
use Rattle.node_store.specs.ViewLaws.{Grown-trans, Kept-trans, levels-grown}
use Rattle.node_store.proofs.Running.{Adds-between, IsWork-between, lasting}
use Rattle.node_store.proofs.scratch.in_scratch.Goals as goal

pub run_prepared-outcome-requires-clause-asks : goal.run_prepared-outcome-requires-clause-asks
run_prepared-outcome-requires-clause-asks g c =
    g.met.O.Operation.asks_stay c.args.op _ _ (Grown-trans c.take_scratch-stack.ensures.kept.grown c.levels-levels.ensures.kept.grown) c.requires

pub returns : goal.returns
returns g c =
    let o = g.O.Operation in let m = g.met.O.Operation in let op = c.args.op in
    let taken = c.take_scratch-stack.ensures in let told = c.levels-levels.ensures in let given = c.give_scratch.ensures in
    let r = c.run_prepared-outcome.ensures.serves in
    let before = Kept-trans taken.kept told.kept in
    let n = told.levels in
    record {
      grown = Grown-trans before.grown (Grown-trans r.grown given.kept.grown);
      room = (let a = taken.room in let b = r.room in let d = given.room in omega arith);
      answer = lasting _ _ c.run_prepared-outcome.result (λ e is. m.answers_last op _ _ _ _ e before.grown given.kept.grown c.requires is) r.answer;
      overflow = λ is. m.overflows_back op _ _ before.grown c.requires (r.overflow is);
      work = Adds-between _ _ (λ f is. m.work_back op _ _ f before.grown c.requires is) _ _ _ _ before given.kept r.work;
      memory = λ is. elim (r.memory is) [ inl short ↦ inl (let a = taken.room in let l = levels-grown o.kind before.grown in let k = rw c.answer_kind.ensures at told.levels in omega (arith, short)) | inr may ↦ inr (before.grown.wants may) ];
      full = λ is. λ few. (let a = r.full is in let k = before.fulls in let l = given.kept.fulls in omega (arith, a));
      due = λ is. IsWork-between _ _ (λ f is. m.work_back op _ _ f before.grown c.requires is) _ _ given.kept (r.due is);
    }
