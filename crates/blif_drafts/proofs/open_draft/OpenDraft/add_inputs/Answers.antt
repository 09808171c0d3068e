use Rattle.std.proofs.Common.{◌∙◌, ◌+◌, ◌++◌, ◌||◌, List, ℕ, ap, length, map, nat_lt, sym}
use Rattle.std.proofs.lemmas.List.{length-map}
use Rattle.std.proofs.lemmas.Result.{err_from_is_err_and}
use Rattle.edge_bits.specs.declared.limits.TheConstants.{MOST_SIGNALS, MOST_VARIABLES}
use Rattle.blif_formals.specs.Definitions.{defined}
use Rattle.blif_formals.specs.Formals.{words_in}
use Rattle.blif_drafts.proofs.Refusing.{inputs_stop, inputs_take, inputs_too_many}
use Rattle.blif_drafts.proofs.open_draft.OpenDraft.add_inputs.Goals as goal

pub returns-in_err-numbers-clause-stop : goal.returns-in_err-numbers-clause-stop
returns-in_err-numbers-clause-stop c =
    let p = err_from_is_err_and c.from_residual.result c.from_residual.ensures.1 in
    rw (p.1, p.2) (inputs_stop c.args.self.now (words_in c.args.words.now) c.in_err-numbers.field-0.0 c.in_err-numbers.ensures.stop)

pub returns-then-pass_limits-clause-stop : goal.returns-then-pass_limits-clause-stop
returns-then-pass_limits-clause-stop c =
    let many = length c.args.words.now in
    inputs_too_many c.args.self.now (words_in c.args.words.now) c.in_ok-numbers.numbers c.define_all.new.names c.define_all.new.marks.items many (sym (length-map c.args.words.now (λ word. word.now))) c.in_ok-numbers.ensures.ok
    (ap (λ n. nat_lt MOST_VARIABLES (n + many) || nat_lt MOST_SIGNALS (c.args.self.now.signals + many)) (sym c.len-inputs.ensures) ∙ sym c.pass_limits.ensures ∙ c.if-pass_limits.true)

pub returns-clause-ok : goal.returns-clause-ok
returns-clause-ok c =
    let many = length c.args.words.now in
    inputs_take c.args.self.now (words_in c.args.words.now) c.args.line c.in_ok-numbers.numbers c.define_all.new.names c.define_all.new.marks c.add_definitions.new.inputs c.push.new.self c.in_ok-self.field-0 many
    (sym (length-map c.args.words.now (λ word. word.now))) c.in_ok-numbers.ensures.ok
    (ap (λ n. nat_lt MOST_VARIABLES (n + many) || nat_lt MOST_SIGNALS (c.args.self.now.signals + many)) (sym c.len-inputs.ensures) ∙ sym c.pass_limits.ensures ∙ c.if-pass_limits.false)
    (c.in_ok-add_definitions.ensures ∙ ap (λ (ns : List ℕ). c.args.self.now.draft.inputs ++ map (defined c.args.line) ns) c.as_slice.ensures) c.in_ok-push.ensures.ok c.in_ok-self.ensures
