use Rattle.std.proofs.Common.{◌≡◌, ◌∙◌, ◌+◌, ◌++◌, ◌∷◌, [], List, ap, sym, subst, take, get_or, Bor, ℕ}
use Rattle.std.proofs.lemmas.List.{map-append, take_more}
use Rattle.std.proofs.lemmas.Option.{get_or_from_slice_get, slice_get_within}
use Rattle.job_words.specs.Text.{Word}
use Rattle.blif_models.specs.Numberings.{AreNumbersOf}
use Rattle.blif_formals.specs.Actuals.{Keeps}
use Rattle.blif_formals.specs.Formals.{words_in}
use Rattle.blif_formals.specs.Words.{AddsOnly}
use Rattle.blif_formals.proofs.NewWords.{adds_one, adds_then}
use Rattle.blif_formals.proofs.Numbering.{keeps_all, keeps_more}
use Rattle.blif_drafts.proofs.Lasting.{append_numbers, keeps_both, numbers_kept}
use Rattle.blif_drafts.proofs.signals.numbers_of.Goals as goal

abbrev no_word : Bor (List ℕ)
no_word = record { ref_ptr = (0, 0); now = [] }

pub loop-word-preserved : goal.loop-word-preserved
loop-word-preserved c =
    let i = c.loop-word.word-index in
    let ws = c.args.words.now in
    let before = c.loop-word.names in
    let after = c.number_of.new.self in
    let word : Word = (get_or ws i no_word).now in
    let front : List Word = words_in (take i ws) in
    let number = c.in_ok-number_of.field-0 in
    let more : words_in (take (i + 1) ws) ≡ front ++ word ∷ [] = ap words_in (take_more ws i no_word c.loop-word-test.true) ∙ map-append (λ w. w.now) (take i ws) (get_or ws i no_word ∷ []) in
    let here : Keeps before after = keeps_more before before after word (keeps_all before) c.in_ok-number_of.ensures.words in
    let at = c.in_ok-number_of.ensures.number in
    let step : AreNumbersOf (after ∷ []) 0 (c.loop-word.numbers ++ number ∷ []) (front ++ word ∷ []) =
    append_numbers after c.loop-word.numbers front (numbers_kept before after here c.loop-word.numbers front c.loop-word.invariant.numbers) (number ∷ []) (word ∷ []) ((slice_get_within after number word at, get_or_from_slice_get after number word [] at), tt) in
    record {
      names = keeps_both c.args.names.now before after c.loop-word.invariant.names here;
      added =
          subst (λ (t : List Word). AddsOnly c.args.names.now t after) (sym more)
          (adds_then c.args.names.now front before (word ∷ []) after c.loop-word.invariant.added (adds_one before word after c.in_ok-number_of.ensures.words));
      numbers = subst (λ (t : List Word). AreNumbersOf (after ∷ []) 0 c.push.new.self t) (sym more) (subst (λ (ns : List ℕ). AreNumbersOf (after ∷ []) 0 ns (front ++ word ∷ [])) (sym c.in_ok-push.ensures.ok) step);
    }
