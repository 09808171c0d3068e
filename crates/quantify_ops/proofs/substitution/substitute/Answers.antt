use Rattle.std.proofs.lemmas.Result.{IfOk-weaker}
use Rattle.node_store.specs.Work.{whole}
use Rattle.node_store.specs.RememberingLaws.{Knows-nothing}
use Rattle.node_store.proofs.Running.{runs}
use Rattle.quantify_ops.specs.Substituted.{SubstituteAnswers, SubstituteDue}
use Rattle.quantify_ops.specs.SubstitutedLasts.{value_of_vector_compose-back}
use Rattle.quantify_ops.proofs.SubstitutionLaws.{root_answer}
use Rattle.quantify_ops.proofs.substitution.substitute.Goals as goal

pub evaluate-requires-clause-due : goal.evaluate-requires-clause-due
evaluate-requires-clause-due g c =
    let e = c.two.ensures in (
      record {
        permanent = c.requires.permanent;
        root = c.requires.operands;
        reach = c.requires.reach;
        edge = rw e.f c.requires.operands.edge;
        part = rw e.f whole;
      },
      Knows-nothing (SubstituteDue c.args.f c.args.pairs.now c.args.lowest) (SubstituteAnswers c.args.pairs.now) (g.G.Grow.view c.args.store.now) c.args.stack.now.answers c.requires.blank,
    )

pub returns-clause-runs : goal.returns-clause-runs
returns-clause-runs g c =
    let r = c.evaluate.ensures in let m = r.moved.moves.grown in
    runs r.moved.moves c.requires.operands (λ F is. value_of_vector_compose-back c.args.f c.args.pairs.now _ _ F m c.requires.operands is)
    (IfOk-weaker c.evaluate.result _ _ (λ e a. root_answer _ _ c.args.f c.args.pairs.now c.two.result e m c.requires.operands c.two.ensures.f a) r.answer) r.overflow r.memory r.full r.due
