use Rattle.std.proofs.Common.{◌≡◌, ℕ, Some, ◌+◌, ◌*◌, ◌∙◌, ap₂, subst, slice_set}
use Rattle.computed_cache.specs.Entries.{kept_at, place_at, place_of, places}
use Rattle.computed_cache.proofs.TableLemmas.{put_here, put_others}
use Rattle.computed_cache.proofs.memo.Memo.put.Goals as goal

pub returns-clause-put : goal.returns-clause-put
returns-clause-put c =
    let ws = c.self.inside.words.items in
    let n = c.self.inside.places in
    let p = c.place-at.result in
    let key = c.args.key in
    subst (λ x. kept_at (slice_set (slice_set ws (2 * p) c.key_word-first.result) (2 * p + 1) c.answer_word-second.result) (place_of key (places x)) ≡ Some (record { key = key; edge = c.args.edge })) c.self.view_is
    (rw (c.key_word-first.ensures, c.answer_word-second.ensures)
    (put_here ws n p key c.requires.key c.self.invariant.twice (c.place-at.ensures.place ∙ ap₂ (λ a b. place_at a b n) c.key_word-first.ensures c.pack.ensures.bits) c.args.edge c.requires.edge c.place-at.ensures.within))

pub returns-clause-others : goal.returns-clause-others
returns-clause-others c =
    let ws = c.self.inside.words.items in
    let n = c.self.inside.places in
    let p = c.place-at.result in
    let key = c.args.key in
    subst (λ x. (i : ℕ) → (i ≡ place_of key (places x) → ⊥) → kept_at (slice_set (slice_set ws (2 * p) c.key_word-first.result) (2 * p + 1) c.answer_word-second.result) i ≡ kept_at x i) c.self.view_is
    (rw (c.key_word-first.ensures, c.answer_word-second.ensures)
    (put_others ws n p key c.requires.key c.self.invariant.twice (c.place-at.ensures.place ∙ ap₂ (λ a b. place_at a b n) c.key_word-first.ensures c.pack.ensures.bits) c.args.edge c.requires.edge c.place-at.ensures.within))
