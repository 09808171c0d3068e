use Rattle.std.proofs.Common.{ap, ◌∙◌}
use Rattle.blif_formals.specs.Words.{with_word}
use Rattle.blif_formals.proofs.WordIndex.{stored_word, with_one}
use Rattle.blif_formals.proofs.words.Words.number_of_new.Goals as goal

pub returns-clause-words : goal.returns-clause-words
returns-clause-words c =
    with_one c.self.inside.index.keys c.insert_full.new.self.keys c.in_ok-key.key c.args.word.now c.in_ok-key.ensures.items c.in_ok-place.ensures.keys ∙ ap (λ words. with_word words c.args.word.now) c.self.view_is

pub returns-clause-number : goal.returns-clause-number
returns-clause-number c =
    let stored = c.in_ok-place.ensures.stored in
    stored_word c.insert_full.new.self.keys c.in_ok-place.place c.in_ok-key.key stored.0 c.args.word.now c.in_ok-key.ensures.items stored.1 stored.2
