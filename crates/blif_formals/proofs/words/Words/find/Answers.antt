use Rattle.std.proofs.Common.{◌≡◌, List, Some, false, sym, ◌∙◌, subst}
use Rattle.std.specs.Prelude.{slice_get}
use Rattle.job_words.specs.Text.{Word, is_among}
use Rattle.blif_formals.proofs.WordIndex.{found_none, found_number}
use Rattle.blif_formals.proofs.words.Words.find.Goals as goal

pub returns-in-Some-get_index_of : goal.returns-in-Some-get_index_of
returns-in-Some-get_index_of c =
    subst (λ (words : List Word). slice_get words c.in-Some-get_index_of.place ≡ Some c.args.word.now) c.self.view_is (found_number c.args.word.now c.self.inside.index.keys c.in-Some-get_index_of.place (sym c.in-Some-get_index_of.is ∙ c.get_index_of.ensures.index))

pub returns-in-None : goal.returns-in-None
returns-in-None c = subst (λ (words : List Word). is_among words c.args.word.now ≡ false) c.self.view_is (found_none c.args.word.now c.self.inside.index.keys (sym c.in-None.is ∙ c.get_index_of.ensures.index))
