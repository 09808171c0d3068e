-- The freeing goes on to the next slot of a rank, and to the next rank.
use Rattle.std.proofs.Common.{◌≡◌, ℕ, ◌+◌, ◌<◌, ◌≤◌, inl, inr, Bool, true, false, Option, Some, None, refl, sym, ap, ◌∙◌, arith}
use Rattle.std.proofs.lemmas.Bool.{cases_lt, cases_eq}
use Rattle.edge_bits.specs.declared.words.Word.{Word}
use Rattle.node_store.specs.Contents.{Content}
use Rattle.node_store.specs.Changes.{After}
use Rattle.dead_sweep.specs.Marks.{rank_of, IsDone}
use Rattle.dead_sweep.specs.Frees.{Ready, Freed}
use Rattle.dead_sweep.proofs.FreedSlots.{freed_again}

module _ (others : (ℕ → ℕ) → (ℕ → ℕ) → Type 0)
    (both : (a b c : ℕ → ℕ) → others a b → others b c → others a c)
    (zero_stays : (a b : ℕ → ℕ) → others a b → (s : ℕ) → a s ≡ 0 → b s ≡ 0)
    (start v0 v1 : Content) (ready : Ready start) (rank from : ℕ) (a : After others v0 v1) (f : Freed others start v0 rank from)
    (passes : Option Word → Bool) (covers : (s : ℕ) (word : Word) → start.word s ≡ Some word → rank_of start.orders word ≡ rank → passes (Some word) ≡ true) where
  -- a slot of the rank that isn't done is there
  there : (s : ℕ) (word : Word) → start.word s ≡ Some word → rank_of start.orders word ≡ rank → from ≤ s → passes (v0.word s) ≡ true
  there s word h e le =
      let k = f.kept s word h (inr (λ d. elim d [ inl lt ↦ omega (arith, lt, e) | inr (_, lt) ↦ omega (arith, lt, le) ])) in
      ap passes (k.0 ∙ h) ∙ covers s word h e

  pub free_next : (slot : ℕ) → from ≤ slot → ((t : ℕ) → from ≤ t → t < slot → passes (v0.word t) ≡ true → ⊥) → Freed others start v1 rank slot
  free_next slot le none =
      freed_again others both zero_stays start v0 v1 ready rank from a f rank slot
      (λ s word h m d. elim d [
        | inl lt ↦ inl lt
        | inr (e, lt) ↦ elim (cases_lt s from) [ inl early ↦ inr (e, early) | inr late ↦ absurd (none s late lt (there s word h e late)) ]
      ])
      (λ s word h m d. elim d [ inl lt ↦ inl lt | inr (e, lt) ↦ inr (e, omega (arith, lt, le)) ])

  pub free_end : ((t : ℕ) → from ≤ t → passes (v0.word t) ≡ true → ⊥) → Freed others start v1 (rank + 1) 0
  free_end none =
      freed_again others both zero_stays start v0 v1 ready rank from a f (rank + 1) 0
      (λ s word h m d. elim d [
        | inr (e, lt) ↦ absurd (omega (arith, lt))
        | inl lt ↦ elim (cases_lt (rank_of start.orders word) rank) [
          | inl less ↦ inl less
          | inr le ↦ (
              let e : rank_of start.orders word ≡ rank = omega (arith, lt, le) in
              elim (cases_lt s from) [ inl early ↦ inr (e, early) | inr late ↦ absurd (none s late (there s word h e late)) ])
        ]
      ])
      (λ s word h m d. elim d [ inl lt ↦ inl (omega (arith, lt)) | inr (e, lt) ↦ inl (omega (arith, e)) ])

  -- a slot that passes was there at the start
  pub was_used : (s : ℕ) (word : Word) → v0.word s ≡ Some word → start.word s ≡ Some word
  was_used s word h = by_start (start.word s) refl
    where
      by_start : (o : Option Word) → start.word s ≡ o → start.word s ≡ Some word
      by_start None e = let c : None ≡ Some word = sym (f.free s e).0 ∙ h in cc
      by_start (Some x) e = by_mark (start.marked s) refl
        where
          by_mark : (b : Bool) → start.marked s ≡ b → start.word s ≡ Some word
          by_mark true m = sym (f.kept s x e (inl m)).0 ∙ h
          by_mark false m = elim (cases_lt (rank_of start.orders x) rank) [
            | inl lt ↦ gone (inl lt)
            | inr le ↦ elim (cases_eq (rank_of start.orders x) rank) [
              | inl same ↦ elim (cases_lt s from) [
                | inl early ↦ gone (inr (same, early))
                | inr late ↦ sym (f.kept s x e (inr (λ d. elim d [ inl less ↦ omega (arith, less, le) | inr (_, lt) ↦ omega (arith, lt, late) ]))).0 ∙ h
              ]
              | inr ne ↦ sym (f.kept s x e (inr (λ d. elim d [ inl less ↦ omega (arith, less, le) | inr (q, _) ↦ ne q ]))).0 ∙ h
            ]
          ]
            where
              gone : IsDone start.orders rank from s x → start.word s ≡ Some word
              gone d = let c : None ≡ Some word = sym (f.gone s x e m d).0 ∙ h in cc
