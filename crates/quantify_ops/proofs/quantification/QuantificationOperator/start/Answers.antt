use Rattle.std.proofs.Common.{refl, ap, Ok, arith, sym, ◌∙◌}
use Rattle.std.proofs.lemmas.Result.{err_from_is_err_and}
use Rattle.node_store.specs.Views.{bdd_at}
use Rattle.edge_bits.specs.declared.edges.Kind.TheVariants.{Bdd}
use Rattle.node_store.specs.TwoLaws.{AreTwo-grown}
use Rattle.node_store.specs.ViewLaws.{Denotes-truth, Kept-trans, Permanent-grown}
use Rattle.node_store.specs.WorkLaws.{Moves-kept}
use Rattle.node_store.proofs.Frames.{other_err}
use Rattle.node_store.proofs.Running.{Serves-memory}
use Rattle.function_laws.specs.Cubes.{IsExists}
use Rattle.quantify_ops.specs.Quantified.{both_at, AreQuantified, IsQuantifiedValue, QuantifiedDue}
use Rattle.quantify_ops.specs.QuantifiedLasts.{AreQuantified-grown, QuantifiedDue-stays}
use Rattle.quantify_ops.proofs.QuantifiedLaws.{known_answer, unquantified_value, Quantified-answers, Quantified-added, Quantified-refused, moved_after}
use Rattle.quantify_ops.proofs.quantification.QuantificationOperator.start.Goals as goal
use Rattle.quantify_ops.proofs.quantification.QuantificationOperator.start.Goals.{Then-index-eq-TRUE_SLOT}
use Rattle.quantify_ops.proofs.quantification.QuantificationOperator.start.Given as given

pub returns-in-Some-clause-next : goal.returns-in-Some-clause-next
returns-in-Some-clause-next g c =
    let d = c.requires.due in
    rw c.truth.ensures (known_answer _ c.args.task c.in-Some.value _ (rw c.in-Some.is at (c.known.ensures _ d.permanent d.operands.two)) (Denotes-truth _ d.permanent c.in-Some.value))

pub memo_get-requires : goal.memo_get-requires
memo_get-requires g c = let d = c.requires.due in (c.key_of.ensures _ d.permanent d.operands).is_key

pub returns-in-Some-memo_get-clause-moved : goal.returns-in-Some-memo_get-clause-moved
returns-in-Some-memo_get-clause-moved g c =
    let o = c.args.self.now in
    record { moves = Moves-kept (λ w. AreQuantified w o.f o.g o.cube) (IsQuantifiedValue o.f o.g o.cube) _ _ c.in-Some-memo_get.ensures.kept; known = refl; marks = refl }

pub returns-in-Some-memo_get-clause-next : goal.returns-in-Some-memo_get-clause-next
returns-in-Some-memo_get-clause-next g c =
    let d = c.requires.due in let e = c.in-Some-memo_get.ensures in let m = e.kept.grown in
    (c.key_of.ensures _ (Permanent-grown m d.permanent) (AreQuantified-grown m d.operands)).hit c.in-Some-memo_get.edge e.hit

pub and-requires-clause-operands : goal.and-requires-clause-operands
and-requires-clause-operands g c = AreTwo-grown Bdd c.in_default-memo_get.ensures.kept.grown c.requires.due.operands.two

pub and-requires-clause-permanent : goal.and-requires-clause-permanent
and-requires-clause-permanent g c = Permanent-grown c.in_default-memo_get.ensures.kept.grown c.requires.due.permanent

-- nothing is left to quantify
module _ (g : given.Over) (c : Then-index-eq-TRUE_SLOT g) where
  due : QuantifiedDue c.args.self.now.f c.args.self.now.g c.args.self.now.cube (g.G.Grow.view c.memo_get.new.self) c.args.task
  due = QuantifiedDue-stays c.args.self.now.f c.args.self.now.g c.args.self.now.cube _ _ c.args.task c.in_default-memo_get.ensures.kept.grown c.requires.due

  value : let now = g.G.Grow.view c.memo_get.new.self in let t = c.args.task in IsExists (bdd_at now t.h) (both_at now t.f t.g) (both_at now t.f t.g)
  value = unquantified_value _ due.permanent c.args.task c.args.task.f c.args.task.g (sym c.index.ensures ∙ c.if-index-eq-TRUE_SLOT.true) refl refl

pub returns-in_err-and-clause-moved : goal.returns-in_err-and-clause-moved
returns-in_err-and-clause-moved g c =
    let o = c.args.self.now in let e = c.in_err-and.ensures in let at = (goal.at.returns-in_err-and-clause-moved g c).Then-index-eq-TRUE_SLOT in
    record {
      moves = moved_after o.f o.g o.cube _ _ _ c.in_default-memo_get.ensures.kept (Quantified-added o.f o.g o.cube _ _ c.args.task _ (due g at) e.runs.grown (value g at) e.runs.work);
      known = ap (λ s. s.answers) e.stack;
      marks = ap (λ s. s.marks) e.stack;
    }

pub returns-in_err-and-clause-due : goal.returns-in_err-and-clause-due
returns-in_err-and-clause-due g c =
    let o = c.args.self.now in let e = c.in_err-and.ensures in let at = (goal.at.returns-in_err-and-clause-due g c).Then-index-eq-TRUE_SLOT in
    let q = err_from_is_err_and c.from_residual.result c.from_residual.ensures.1 in rw (q.1, q.2) (λ is.
    Quantified-refused o.f o.g o.cube _ _ c.args.task _ (due g at) e.runs.grown (value g at) (e.runs.due (other_err _ _ is)))

pub returns-in_err-and-clause-memory : goal.returns-in_err-and-clause-memory
returns-in_err-and-clause-memory g c =
    let q = err_from_is_err_and c.from_residual.result c.from_residual.ensures.1 in rw (q.1, q.2) (λ is. c.in_default-memo_get.ensures.kept.grown.wants (Serves-memory _ c.in_err-and.ensures.runs (other_err _ _ is)))

pub returns-in_err-and-clause-full : goal.returns-in_err-and-clause-full
returns-in_err-and-clause-full g c =
    let q = err_from_is_err_and c.from_residual.result c.from_residual.ensures.1 in rw (q.1, q.2) (λ is few. (let a = c.in_err-and.ensures.runs.full (other_err _ _ is) few in let k = c.in_default-memo_get.ensures.kept.fulls in omega arith))

pub returns-then-index-eq-TRUE_SLOT-clause-moved : goal.returns-then-index-eq-TRUE_SLOT-clause-moved
returns-then-index-eq-TRUE_SLOT-clause-moved g c =
    let o = c.args.self.now in let e = c.in_ok-and.ensures in let at = (goal.at.returns-then-index-eq-TRUE_SLOT-clause-moved g c).Then-index-eq-TRUE_SLOT in
    record {
      moves = moved_after o.f o.g o.cube _ _ _ c.in_default-memo_get.ensures.kept (Quantified-added o.f o.g o.cube _ _ c.args.task _ (due g at) e.runs.grown (value g at) e.runs.work);
      known = ap (λ s. s.answers) e.stack;
      marks = ap (λ s. s.marks) e.stack;
    }

pub returns-then-index-eq-TRUE_SLOT-clause-next : goal.returns-then-index-eq-TRUE_SLOT-clause-next
returns-then-index-eq-TRUE_SLOT-clause-next g c =
    let o = c.args.self.now in let e = c.in_ok-and.ensures in let at = (goal.at.returns-then-index-eq-TRUE_SLOT-clause-next g c).Then-index-eq-TRUE_SLOT in
    Quantified-answers o.f o.g o.cube _ _ c.args.task _ (due g at) e.runs.grown (value g at) (Ok c.in_ok-and.field-0) e.runs.answer

pub narrow-requires-clause-due : goal.narrow-requires-clause-due
narrow-requires-clause-due g c = let o = c.args.self.now in QuantifiedDue-stays o.f o.g o.cube _ _ c.args.task c.in_default-memo_get.ensures.kept.grown c.requires.due

pub narrow-requires-clause-inner : goal.narrow-requires-clause-inner
narrow-requires-clause-inner g c =
    let d = c.requires.due in let m = c.in_default-memo_get.ensures.kept.grown in
    rw c.in_default.is at (c.known.ensures _ (Permanent-grown m d.permanent) (AreTwo-grown Bdd m d.operands.two))

pub returns-in-Skip-clause-moved : goal.returns-in-Skip-clause-moved
returns-in-Skip-clause-moved g c =
    let o = c.args.self.now in
    record { moves = Moves-kept (λ w. AreQuantified w o.f o.g o.cube) (IsQuantifiedValue o.f o.g o.cube) _ _ (Kept-trans c.in_default-memo_get.ensures.kept c.narrow.ensures.kept); known = refl; marks = refl }

pub returns-in-Split-clause-moved : goal.returns-in-Split-clause-moved
returns-in-Split-clause-moved g c =
    let o = c.args.self.now in
    record { moves = Moves-kept (λ w. AreQuantified w o.f o.g o.cube) (IsQuantifiedValue o.f o.g o.cube) _ _ (Kept-trans c.in_default-memo_get.ensures.kept c.narrow.ensures.kept); known = refl; marks = refl }
