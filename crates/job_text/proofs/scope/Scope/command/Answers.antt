use Rattle.std.proofs.Common.{subst, ap, sym, ◌∙◌, option_map}
use Rattle.std.proofs.lemmas.Result.{err_from_is_err_and}
use Rattle.job_commands.specs.declared.acts.Act.{Act}
use Rattle.job_text.specs.Grammar.{Says}
use Rattle.job_commands.specs.Commands.{act_of}
use Rattle.job_commands.specs.Slots.{line_of, slots_of}
use Rattle.job_words.specs.Text.{split_words}
use Rattle.job_text.proofs.Filling.{no_command, of_line, ill_formed, command_stop}
use Rattle.job_text.proofs.Makings.{says_from}
use Rattle.job_text.proofs.scope.Scope.command.Goals as goal

pub returns-in_default-clause-stop : goal.returns-in_default-clause-stop
returns-in_default-clause-stop c = no_command c.args.self.now.counts c.args.self.now.registers (split_words c.args.words.now) c.command_line.result c.command_line.ensures c.in_default.is

pub returns-then-not-all_have_form-clause-stop : goal.returns-then-not-all_have_form-clause-stop
returns-then-not-all_have_form-clause-stop c =
    let n = c.args.self.now.counts in
    let rs = c.args.self.now.registers in
    of_line n rs (split_words c.args.words.now) c.command_line.result c.in-Some.line c.command_line.ensures c.in-Some.is
    ∙ ill_formed n rs (slots_of c.in-Some.line.slots) (sym c.all_have_form.ensures ∙ c.if-not-all_have_form.true)

pub operands-requires-clause-forms : goal.operands-requires-clause-forms
operands-requires-clause-forms c = sym c.all_have_form.ensures ∙ c.if-not-all_have_form.false

pub returns-in_err-operands-clause-stop : goal.returns-in_err-operands-clause-stop
returns-in_err-operands-clause-stop c =
    let p = err_from_is_err_and c.from_residual.result c.from_residual.ensures.1 in
    let n = c.args.self.now.counts in
    let rs = c.args.self.now.registers in
    rw (p.1, p.2)
    (command_stop n rs (split_words c.args.words.now) (slots_of c.in-Some.line.slots) _
    (of_line n rs (split_words c.args.words.now) c.command_line.result c.in-Some.line c.command_line.ensures c.in-Some.is) (sym c.all_have_form.ensures ∙ c.if-not-all_have_form.false) c.in_err-operands.ensures.stop)

pub returns-clause-ok : goal.returns-clause-ok
returns-clause-ok c =
    let n = c.args.self.now.counts in
    let rs = c.args.self.now.registers in
    let each = c.in_ok-operands.ensures.ok in
    subst (λ (act : Act). Says n rs (split_words c.args.words.now) act) (sym (c.in_ok-act.ensures ∙ ap (act_of c.in-Some.line.opcode) each.3))
    (says_from n rs (split_words c.args.words.now) c.in-Some.line.opcode (slots_of c.in-Some.line.slots) each.0 (sym c.command_line.ensures ∙ ap (option_map line_of) c.in-Some.is) each.1 each.2)
