use Rattle.edge_bits.specs.declared.edges.Kind.TheVariants.{Bdd, Zdd}
use Rattle.node_store.specs.ViewLaws.{Grown-trans, Is-grown, Permanent-grown}
use Rattle.node_store.specs.Work.{whole}
use Rattle.node_store.proofs.Running.{Serves-after, runs, same_answer, same_scratch}
use Rattle.cover_isop.specs.CoverLasts.{HasCover-grown, cover-grown, cover_work-back}
use Rattle.cover_isop.proofs.covering.cover.Goals as goal

pub evaluate-requires-clause-due : goal.evaluate-requires-clause-due
evaluate-requires-clause-due g c =
    let l = c.last_variable-last.ensures in let e = c.two.ensures in let m = l.kept.grown in record {
      permanent = Permanent-grown m c.requires.permanent;
      tells = l.last;
      root = HasCover-grown m c.requires.operands;
      family = rw e.f (Is-grown Zdd m c.requires.operands.family);
      part = rw e.f whole;
    }

pub returns-clause-runs : goal.returns-clause-runs
returns-clause-runs g c =
    let k = c.last_variable-last.ensures.kept in let r = c.evaluate.ensures in
    let m = Grown-trans k.grown r.moved.moves.grown in let d = c.requires.operands in let n = c.args.vars in
    Serves-after k (runs r.moved.moves (HasCover-grown k.grown d) (λ F is. cover_work-back n c.args.family _ _ F m d is)
    (same_answer Bdd _ _ _ (cover-grown n m d.family) c.evaluate.result (rw c.two.ensures.f at r.answer)) r.overflow r.memory r.full r.due)

pub returns-clause-stack : goal.returns-clause-stack
returns-clause-stack g c = let r = c.evaluate.ensures in same_scratch _ _ r.frames r.free r.moved.known r.moved.marks
