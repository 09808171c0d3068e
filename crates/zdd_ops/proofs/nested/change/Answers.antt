use Rattle.std.proofs.Common.{Some, IfOk, refl, ap, ◌∙◌, subst, arith}
use Rattle.edge_bits.specs.declared.edges.Kind.TheVariants.{Zdd}
use Rattle.function_laws.specs.Families.{change}
use Rattle.function_laws.specs.Kinds.{ZddFamily}
use Rattle.node_store.specs.RememberingLaws.{Knows-nothing}
use Rattle.node_store.specs.Views.{Denotes, family_at}
use Rattle.node_store.specs.ViewLaws.{Is-grown, IsVariable-grown, Permanent-grown}
use Rattle.node_store.specs.Work.{whole}
use Rattle.node_store.proofs.Running.{Serves-after, runs, same_answer}
use Rattle.zdd_ops.specs.Subsets.{SubsetAnswers, SubsetDue, subset_at-grown, subset_work-back}
use Rattle.zdd_ops.proofs.SubsetLaws.{Splits-can, here_is}
use Rattle.zdd_ops.proofs.SubsetRuns.{Subset-named, make_runs}
use Rattle.zdd_ops.proofs.nested.change.Goals as goal

pub answer-requires : goal.answer-requires
answer-requires g c =
    let h = c.in-Here.ensures in let u = g.G.Grow.view c.place.new.store in
    Splits-can u c.args.var (family_at u c.args.p) c.in-Here.hi c.in-Here.lo (IsVariable-grown Zdd h.kept.grown c.args.var c.requires.element) h.place

pub returns-in-Here-clause-runs : goal.returns-in-Here-clause-runs
returns-in-Here-clause-runs g c =
    let h = c.in-Here.ensures in let e = c.answer.ensures in
    let is = here_is change _ _ c.args.var c.args.p c.in-Here.hi c.in-Here.lo h.kept.grown c.requires.family h.place in
    Serves-after h.kept (make_runs _ c.answer.result e.grown e.made (subst (λ f. IfOk c.answer.result (λ x. Denotes Zdd (g.G.Grow.view c.answer.new.store) x f)) is e.answer) e.memory e.full (λ full. e.due full ∙ ap (λ f. Some (ZddFamily f)) is))

pub returns-in-Here-clause-scratch : goal.returns-in-Here-clause-scratch
returns-in-Here-clause-scratch g c = record { frames = refl; free = refl; marks = refl }

pub evaluate-requires-clause-due : goal.evaluate-requires-clause-due
evaluate-requires-clause-due g c =
    let p = c.args.p in let el = c.args.var in let m = c.in_default.ensures.kept.grown in let e = c.two.ensures in let d = Is-grown Zdd m c.requires.family in (
      record { permanent = Permanent-grown m c.requires.permanent; element = IsVariable-grown Zdd m el c.requires.element; of_root = d; family = rw e.f d; is_part = rw e.f whole },
      Knows-nothing (SubsetDue change el p) (SubsetAnswers change el) (g.G.Grow.view c.place.new.store) c.clear_table.new.self.answers c.clear_table.ensures.blank,
    )

pub evaluate-requires-clause-room : goal.evaluate-requires-clause-room
evaluate-requires-clause-room g c = let n = c.in_default.ensures.kept.grown.elements in let f = c.clear_table.ensures.free in let r = c.requires.room in omega (arith, n, f, r)

pub returns-clause-runs : goal.returns-clause-runs
returns-clause-runs g c =
    let p = c.args.p in let el = c.args.var in let k = c.in_default.ensures.kept in let r = c.evaluate.ensures in let m = r.moved.moves.grown in let d = Is-grown Zdd k.grown c.requires.family in
    rw c.without_overflow.ensures (Subset-named change el p c.evaluate.result k c.requires.family (λ bad. bad)
    (runs r.moved.moves d (λ F is. subset_work-back change el p _ _ F m (record { family = d; element = IsVariable-grown Zdd k.grown el c.requires.element }) is)
    (same_answer Zdd _ _ _ (subset_at-grown change el p _ _ m d) c.evaluate.result (rw c.two.ensures.f at r.answer)) r.overflow r.memory r.full r.due))

pub returns-clause-scratch : goal.returns-clause-scratch
returns-clause-scratch g c =
    let r = c.evaluate.ensures in let t = c.clear_table.ensures in record { frames = r.frames ∙ t.frames; free = r.free ∙ t.free; marks = r.moved.marks ∙ t.marks }
