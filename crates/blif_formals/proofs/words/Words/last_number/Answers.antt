use Rattle.std.proofs.Common.{◌≡◌, List, Some, length, sym, ◌∙◌, subst}
use Rattle.std.specs.Prelude.{slice_get}
use Rattle.std.proofs.lemmas.Slice.Eq.{bytes_eq-Decides}
use Rattle.job_words.specs.Text.{Word}
use Rattle.blif_formals.proofs.WordIndex.{last_word}
use Rattle.blif_formals.proofs.words.Words.last_number.Goals as goal

pub returns-then-eq : goal.returns-then-eq
returns-then-eq c =
    let front = c.in_ok-last.before.now in
    let same : c.in_ok-last.last.now.items ≡ c.args.word.now = sym c.as_slice-2.ensures.value ∙ (bytes_eq-Decides c.as_slice-2.result.now c.args.word.now).0 (sym c.eq.ensures ∙ c.if-eq.true) in
    subst (λ (words : List Word). slice_get words (length front) ≡ Some c.args.word.now) c.self.view_is
    (last_word c.self.inside.index.keys front c.in_ok-last.last.now c.args.word.now (sym c.as_slice.ensures.keys ∙ c.in_ok-last.ensures.cases.0) same)
