use Rattle.job_text.proofs.draft.Section.add_command.Goals as goal

pub after-requires : goal.after-requires
after-requires c = (c.args.self.now.scope.counts, rw c.replace-registers.ensures.value c.in_ok-act.ensures.ok)
