use Rattle.std.proofs.Common.{◌≡◌, ◌∙◌, ◌+◌, ◌++◌, ◌∷◌, [], List, ap, sym, subst, take, drop, get_or, add-one, Bor, ℕ}
use Rattle.std.proofs.Math.Seq.{drop-cons}
use Rattle.std.proofs.lemmas.List.{map-append, take_more, take-append-drop}
use Rattle.std.proofs.lemmas.Result.{err_from_is_err_and}
use Rattle.job_words.specs.Text.{Word}
use Rattle.blif_formals.specs.Formals.{words_in}
use Rattle.blif_formals.specs.Words.{AddsOnly}
use Rattle.blif_formals.proofs.NewWords.{adds_then}
use Rattle.blif_drafts.specs.Signals.{DefineStop, Defines}
use Rattle.blif_drafts.proofs.Marking.{both_define, later_stops}
use Rattle.blif_drafts.proofs.signals.define_all.Goals as goal

abbrev no_word : Bor (List ℕ)
no_word = record { ref_ptr = (0, 0); now = [] }

pub returns-in_err-number-clause-stop : goal.returns-in_err-number-clause-stop
returns-in_err-number-clause-stop c =
    let i = c.loop-word.word-index in
    let ws = c.args.words.now in
    let word : Word = (get_or ws i no_word).now in
    let front : List Word = words_in (take i ws) in
    let back : List Word = words_in (drop (i + 1) ws) in
    let cut : drop i ws ≡ get_or ws i no_word ∷ drop (i + 1) ws = rw add-one (drop-cons ws i no_word c.loop-word-test.true) in
    let all : words_in ws ≡ front ++ word ∷ back = ap words_in (sym (take-append-drop i ws)) ∙ map-append (λ w. w.now) (take i ws) (drop i ws) ∙ ap (λ (t : List (Bor (List ℕ))). front ++ words_in t) cut in
    let p = err_from_is_err_and c.from_residual.result c.from_residual.ensures.1 in
    rw (p.1, p.2)
    (subst (λ (t : List Word). DefineStop c.args.names.now c.args.marks.now.items t c.in_err-number.field-0.0) (sym all)
    (later_stops c.args.names.now c.loop-word.names c.args.marks.now.items c.loop-word.marks.items front (word ∷ []) back c.loop-word.numbers c.in_err-number.field-0.0 c.loop-word.invariant.defines c.in_err-number.ensures.stop))

pub loop-word-preserved : goal.loop-word-preserved
loop-word-preserved c =
    let i = c.loop-word.word-index in
    let ws = c.args.words.now in
    let word : Word = (get_or ws i no_word).now in
    let front : List Word = words_in (take i ws) in
    let more : words_in (take (i + 1) ws) ≡ front ++ word ∷ [] = ap words_in (take_more ws i no_word c.loop-word-test.true) ∙ map-append (λ w. w.now) (take i ws) (get_or ws i no_word ∷ []) in
    let number = c.in_ok-number.number in
    let step = both_define c.args.names.now c.loop-word.names c.define.new.names c.args.marks.now.items c.loop-word.marks.items c.define.new.marks.items front (word ∷ []) c.loop-word.numbers (number ∷ []) c.loop-word.invariant.defines c.in_ok-number.ensures.ok in
    record {
      defines =
          subst (λ (t : List Word). Defines c.args.names.now c.args.marks.now.items t c.push.new.self c.define.new.names c.define.new.marks.items) (sym more)
          (subst (λ (ns : List ℕ). Defines c.args.names.now c.args.marks.now.items (front ++ word ∷ []) ns c.define.new.names c.define.new.marks.items) (sym c.in_ok-push.ensures.ok) step);
      added =
          subst (λ (t : List Word). AddsOnly c.args.names.now t c.define.new.names) (sym more)
          (adds_then c.args.names.now front c.loop-word.names (word ∷ []) c.define.new.names c.loop-word.invariant.added c.in_ok-number.ensures.added);
    }
