use Rattle.std.proofs.Common.{ap, sym, ◌∙◌, rules}
use Rattle.std.specs.Prelude.{is_some}
use Rattle.std.specs.List.{list_any}
use Rattle.job_text.specs.Places.{is_called}
use Rattle.job_text.proofs.NameIndex.{some_called}
use Rattle.job_text.proofs.RegisterLists.{fresh_from}
use Rattle.job_text.proofs.registers.Registers.is_assigned.Goals as goal

pub returns-clause-some : goal.returns-clause-some
returns-clause-some c =
    let w = c.args.word.now in
    c.contains_key.ensures ∙ ap is_some (c.self.invariant.0 w (search rules)) ∙ some_called (is_called w) c.self.inside.items.items ∙ ap (list_any (is_called w)) c.self.view_is

pub returns-clause-none : goal.returns-clause-none
returns-clause-none c =
    let w = c.args.word.now in
    let some = c.contains_key.ensures ∙ ap is_some (c.self.invariant.0 w (search rules)) ∙ some_called (is_called w) c.self.inside.items.items ∙ ap (list_any (is_called w)) c.self.view_is in
    λ h. fresh_from c.args.self.now w (sym some ∙ h)
