use Rattle.std.proofs.Common.{◌≡◌, ◌+◌, ◌*◌, ◌/◌, ◌%◌, ◌^◌, IfSome, Some, ◌∙◌, ap, ap₂, arith, sym, subst, slice_index}
use Rattle.std.proofs.lemmas.Grind.{get_or_default_zero}
use Rattle.std.proofs.lemmas.Option.{IfSome_then}
use Rattle.edge_bits.specs.Words.{edge_of_word}
use Rattle.computed_cache.specs.Entries.{Kept, kept_at, place_at, place_of, places}
use Rattle.computed_cache.proofs.TableLemmas.{found}
use Rattle.computed_cache.proofs.memo.Memo.get.Goals as goal

pub returns-clause-some : goal.returns-clause-some
returns-clause-some c =
    let ws = c.self.inside.words.items in
    let n = c.self.inside.places in
    let p = c.place-at.result in
    let key = c.args.key.now in
    let first : slice_index ws (2 * p) ≡ c.index.result.now =
    sym (get_or_default_zero ws (2 * p) c.index.result.now (omega (arith, c.self.invariant.twice, c.place-at.ensures.within))) ∙ sym c.index.ensures in
    let second : slice_index ws (2 * p + 1) ≡ c.index-2.result.now =
    sym (get_or_default_zero ws (2 * p + 1) c.index-2.result.now (omega (arith, c.self.invariant.twice, c.place-at.ensures.within))) ∙ sym c.index-2.ensures in
    subst (λ x. IfSome c.answer_in.result (λ e. kept_at x (place_of key (places x)) ≡ Some (record { key = key; edge = e }))) c.self.view_is
    (IfSome_then c.answer_in.result c.answer_in.ensures.some (λ e is.
    found ws n p key c.requires c.self.invariant.twice (c.place-at.ensures.place ∙ ap₂ (λ a b. place_at a b n) c.key_word-first.ensures c.pack-h.ensures.bits)
    (first ∙ is.0 ∙ c.key_word-first.ensures) (ap (λ x. x / 2 ^ 24) second ∙ is.1 ∙ c.pack-h.ensures.bits)
    ∙ ap (λ e. Some (let x : Kept = record { key = key; edge = e } in x)) (sym (is.2 ∙ ap (λ x. edge_of_word (x % 2 ^ 24)) (sym second)))))
