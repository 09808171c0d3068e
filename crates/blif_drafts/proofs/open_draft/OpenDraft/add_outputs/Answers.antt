use Rattle.std.proofs.Common.{◌∙◌, ◌+◌, ◌++◌, List, ℕ, ap, length, nat_lt, sym}
use Rattle.std.proofs.lemmas.List.{length-map}
use Rattle.edge_bits.specs.declared.limits.TheConstants.{MOST_OUTPUTS}
use Rattle.blif_formals.specs.Formals.{words_in}
use Rattle.blif_drafts.proofs.Refusing.{outputs_take, outputs_too_many}
use Rattle.blif_drafts.proofs.open_draft.OpenDraft.add_outputs.Goals as goal

pub returns-then-are_more-clause-stop : goal.returns-then-are_more-clause-stop
returns-then-are_more-clause-stop c =
    let many = length c.args.words.now in
    outputs_too_many c.args.self.now (words_in c.args.words.now) many (sym (length-map c.args.words.now (λ word. word.now))) (ap (λ n. nat_lt MOST_OUTPUTS (n + many)) (sym c.len.ensures) ∙ sym c.are_more.ensures ∙ c.if-are_more.true)

pub returns-clause-ok : goal.returns-clause-ok
returns-clause-ok c =
    let many = length c.args.words.now in
    λ line.
    outputs_take c.args.self.now (words_in c.args.words.now) many (sym (length-map c.args.words.now (λ word. word.now))) line c.in_ok-numbers.numbers c.numbers_of.new.names c.add_numbers.new.numbers
    (ap (λ n. nat_lt MOST_OUTPUTS (n + many)) (sym c.len.ensures) ∙ sym c.are_more.ensures ∙ c.if-are_more.false) c.in_ok-numbers.ensures.names c.in_ok-numbers.ensures.numbers
    (c.in_ok-add_numbers.ensures ∙ ap (λ (ns : List ℕ). c.args.self.now.draft.outputs ++ ns) c.as_slice.ensures)
