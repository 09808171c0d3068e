use Rattle.std.proofs.Common.{◌≡◌, Bor, ◌++◌, ◌∷◌, [], ◌+◌, List, Some, ℕ, get_or, map, take, ap, subst, sym, ◌∙◌}
use Rattle.std.specs.Prelude.{slice_get}
use Rattle.std.proofs.lemmas.List.{map-append, take_more}
use Rattle.job_words.specs.Text.{Word}
use Rattle.blif_models.specs.Models.{join_of}
use Rattle.blif_models.specs.ModelFaults.{is_join}
use Rattle.blif_formals.specs.Actuals.{AreActuals, Keeps}
use Rattle.blif_formals.specs.Formals.{words_in}
use Rattle.blif_formals.specs.Words.{AddsOnly, with_word}
use Rattle.blif_formals.proofs.NewWords.{adds_of_some, adds_one, adds_then, taken_more}
use Rattle.blif_formals.proofs.Numbering.{actuals_kept, keeps_all, keeps_more, one_actual}
use Rattle.blif_formals.proofs.Parted.{one_fails}
use Rattle.blif_formals.proofs.actuals.actuals_in.Goals as goal

abbrev no_word : Bor (List ℕ)
no_word = record { ref_ptr = (0, 0); now = [] }

abbrev actual : Word → Word
actual word = (join_of word).actual

pub returns-in-None-clause-actuals : goal.returns-in-None-clause-actuals
returns-in-None-clause-actuals c = one_fails is_join (λ (w : Bor (List ℕ)). w.now) c.args.words.now c.loop-word.word-index no_word c.loop-word-test.true c.in-None.ensures

pub returns-in-None-clause-added : goal.returns-in-None-clause-added
returns-in-None-clause-added c = adds_of_some actual c.args.words.now c.loop-word.word-index c.args.names.now c.loop-word.names c.loop-word.invariant.added

pub loop-word-preserved : goal.loop-word-preserved
loop-word-preserved c =
    let i = c.loop-word.word-index in
    let ws = c.args.words.now in
    let before = c.loop-word.names in
    let after = c.number_of.new.self in
    let word : Word = (get_or ws i no_word).now in
    let front : List Word = words_in (take i ws) in
    let number = c.in_ok-number_of-in-Some.field-0 in
    let more : words_in (take (i + 1) ws) ≡ front ++ word ∷ [] = ap words_in (take_more ws i no_word c.loop-word-test.true) ∙ map-append (λ w. w.now) (take i ws) (get_or ws i no_word ∷ []) in
    let here : Keeps before after = keeps_more before before after c.in-Some.actual.now (keeps_all before) c.in_ok-number_of-in-Some.ensures.words in
    let at : slice_get after number ≡ Some (join_of word).actual = c.in_ok-number_of-in-Some.ensures.number ∙ ap Some (sym c.in-Some.ensures.2) in
    let step : AreActuals after (front ++ word ∷ []) (c.loop-word.actuals ++ number ∷ []) = one_actual after front c.loop-word.actuals word number (actuals_kept before after front c.loop-word.actuals here.stay c.loop-word.invariant.actuals) at in
    record {
      names = keeps_more c.args.names.now before after c.in-Some.actual.now c.loop-word.invariant.names c.in_ok-number_of-in-Some.ensures.words;
      added =
          subst (λ (t : List Word). AddsOnly c.args.names.now t after) (sym (taken_more actual ws i no_word c.loop-word-test.true))
          (adds_then c.args.names.now (map actual front) before (actual word ∷ []) after c.loop-word.invariant.added (adds_one before (actual word) after (c.in_ok-number_of-in-Some.ensures.words ∙ ap (with_word before) (sym c.in-Some.ensures.2))));
      actuals = subst (λ (t : List Word). AreActuals after t c.push.new.self) (sym more) (subst (AreActuals after (front ++ word ∷ [])) (sym c.in_ok-push-in-Some.ensures.ok) step);
    }
