use Rattle.std.proofs.Common.{◌≡◌, ◌∷◌, [], ◌++◌, List, false, ap, sym, ◌∙◌, subst}
use Rattle.job_words.specs.Text.{Word, is_among}
use Rattle.blif_formals.proofs.WordIndex.{added}
use Rattle.blif_formals.proofs.words.Words.add.Goals as goal

pub returns : goal.returns
returns c =
    added c.self.inside.index.keys c.insert.new.self.keys c.in_ok-key.key c.args.word.now (subst (λ (words : List Word). is_among words c.args.word.now ≡ false) (sym c.self.view_is) c.requires) c.in_ok-key.ensures.items
    c.in_ok-insert.ensures.keys
    ∙ ap (λ words. words ++ c.args.word.now ∷ []) c.self.view_is
