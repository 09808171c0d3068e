use Rattle.net_jobs.specs.declared.status.Status.TheVariants as status
use Rattle.net_jobs.proofs.top.run.Goals as goal

pub returns-in-Ok-clause-cut_off : goal.returns-in-Ok-clause-cut_off
returns-in-Ok-clause-cut_off g c = λ e.
    let h = c.tell.ensures.cut_off e in
    (h.0, (status.Ok, c.deref.result.now, rw c.deref.ensures.value c.in-Ok.ensures.text, h.1))
