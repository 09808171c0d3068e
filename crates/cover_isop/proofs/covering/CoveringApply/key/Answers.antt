use Rattle.cover_isop.proofs.CoverSteps.{Cover-kept, Cover-key}
use Rattle.cover_isop.proofs.covering.CoveringApply.key.Goals as goal

pub returns : goal.returns
returns g c = let o = c.args.self.now in λ w d. rw c.key_of.ensures (record {
  is_key = Cover-key o.vars w c.args.task.f o.last d.tells d.family;
  holds = λ e a. Cover-kept o.vars w c.args.task.f o.last d.tells e d.family a;
})
