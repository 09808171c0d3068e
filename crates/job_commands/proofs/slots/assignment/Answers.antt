use Rattle.std.proofs.Common.{◌≡◌, cond, List, [], ◌∷◌, option_map, ap, sym, ◌∙◌}
use Rattle.job_words.specs.Text.{Word, split_words}
use Rattle.job_commands.specs.declared.commands.Opcode.{Opcode}
use Rattle.job_commands.specs.declared.commands.Place.{Place}
use Rattle.job_commands.specs.declared.commands.Place.TheVariants.{Fresh}
use Rattle.job_commands.specs.Commands.{assigning, filled, form_in, words_at}
use Rattle.job_commands.proofs.Filling.{filled_is}
use Rattle.job_commands.proofs.slots.assignment.Goals as goal
use Rattle.job_commands.proofs.slots.assignment.Goals.{then-is_at_word, else-is_at_word}

pub returns : goal.returns
returns c = λ command rest e.
    let own = c.in-Some.command in
    let places = own.places.now in
    let due = split_words c.if-is_at_word.due.now in
    let lines : c.in_ok-word.word.now ∷ split_words c.in_ok-word.behind.now ≡ command ∷ rest = sym c.in_ok-word.ensures.words ∙ e in
    let first : c.in_ok-word.word.now ≡ command = cc in
    let others : split_words c.in_ok-word.behind.now ≡ rest = cc in
    let at = c.is_at_word.ensures in
    let is : due ≡ words_at places command rest =
    elim c.if-is_at_word.branch [
      | then-is_at_word w ↦ ap (λ t. split_words t.now) w.due-is ∙ e ∙ ap (λ b. cond b (command ∷ rest) rest) (sym w.if-is_at_word.true ∙ at)
      | else-is_at_word w ↦ ap (λ t. split_words t.now) w.due-is ∙ others ∙ ap (λ b. cond b (command ∷ rest) rest) (sym w.if-is_at_word.false ∙ at)
    ] in
    c.filled.ensures
    ∙ ap (λ words. option_map {U = Opcode × List (Place × Word)} (λ slots. (own.opcode, (Fresh, c.args.r.now) ∷ slots)) (filled places own.repeated.now words)) is
    ∙ filled_is assigning ((Fresh, c.args.r.now) ∷ []) command (λ known. words_at known.places command rest) own (c.in-Some.ensures ∙ ap (form_in assigning) first)
