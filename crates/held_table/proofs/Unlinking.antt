-- A slot is taken off its chain: nobody else changes a chain then.
use Rattle.std.proofs.Common.{◌≡◌, ◌≢◌, inl, inr, ⊎_elim, ℕ, ◌<◌, Bool, true, false, List, [], ◌∷◌, ◌++◌, refl, sym, ap, ◌∙◌, subst}
use Rattle.node_store.specs.Changes.{put_at}
use Rattle.node_store.proofs.Rewriting.{put_at-same as put_here, put_at-other as put_else}
use Rattle.step_store.specs.Chains.{Lists, Along, Once, Chains}
use Rattle.step_store.proofs.Chaining.{same_or}

-- a link that is stored at a slot outside of the list
along_else : (next : ℕ → ℕ) (p x link : ℕ) (ss : List ℕ) → (Lists ss p → ⊥) → Along next link ss → Along (put_at next p x) link ss
along_else next p x link [] out is = is
along_else next p x link (t ∷ ts) out is =
    (is.0, subst (λ l. Along (put_at next p x) l ts) (sym (put_else next p t x (λ same. out (inl same)))) (along_else next p x (next t) ts (λ h. out (inr h)) is.1))

-- the slot behind p is passed over
along_cut : (next : ℕ → ℕ) (p s link : ℕ) (front ss : List ℕ) → Once (front ++ p ∷ s ∷ ss) → Along next link (front ++ p ∷ s ∷ ss) → Along (put_at next p (next s)) link (front ++ p ∷ ss)
along_cut next p s link [] ss once is =
    (is.0, subst (λ l. Along (put_at next p (next s)) l ss) (sym (put_here next p (next s))) (along_else next p (next s) (next s) ss (λ h. once.0 (inr h)) is.1.1))
along_cut next p s link (t ∷ front) ss once is =
    let ne : t ≢ p = λ same. once.0 (subst (Lists (front ++ p ∷ s ∷ ss)) (sym same) (there front)) in
    (is.0, subst (λ l. Along (put_at next p (next s)) l (front ++ p ∷ ss)) (sym (put_else next p t (next s) ne)) (along_cut next p s (next t) front ss once.1 is.1))
  where
    there : (front : List ℕ) → Lists (front ++ p ∷ s ∷ ss) p
    there [] = inl refl
    there (t ∷ front) = inr (there front)

-- the list with and without s has the same slots but s
less : (p s t : ℕ) (front ss : List ℕ) → t ≢ s → Lists (front ++ p ∷ s ∷ ss) t → Lists (front ++ p ∷ ss) t
less p s t [] ss ne is = ⊎_elim inl (λ rest. ⊎_elim (λ same. absurd (ne (sym same))) inr rest) is
less p s t (u ∷ front) ss ne is = ⊎_elim inl (λ rest. inr (less p s t front ss ne rest)) is

more : (p s t : ℕ) (front ss : List ℕ) → Lists (front ++ p ∷ ss) t → Lists (front ++ p ∷ s ∷ ss) t
more p s t [] ss is = ⊎_elim inl (λ rest. inr (inr rest)) is
more p s t (u ∷ front) ss is = ⊎_elim inl (λ rest. inr (more p s t front ss rest)) is

gone : (p s : ℕ) (front ss : List ℕ) → Once (front ++ p ∷ s ∷ ss) → Lists (front ++ p ∷ ss) s → ⊥
gone p s [] ss once is = ⊎_elim (λ same. once.0 (inl (sym same))) (λ rest. once.1.0 rest) is
gone p s (u ∷ front) ss once is = ⊎_elim (λ same. once.0 (subst (Lists (front ++ p ∷ s ∷ ss)) (sym same) (there front))) (λ rest. gone p s front ss once.1 rest) is
  where
    there : (front : List ℕ) → Lists (front ++ p ∷ s ∷ ss) s
    there [] = inr (inl refl)
    there (t ∷ front) = inr (there front)

once_still : (p s : ℕ) (front ss : List ℕ) → Once (front ++ p ∷ s ∷ ss) → Once (front ++ p ∷ ss)
once_still p s [] ss once = ((λ h. once.0 (inr h)), once.1.1)
once_still p s (u ∷ front) ss once = ((λ h. once.0 (more p s u front ss h)), once_still p s front ss once.1)

module _ (heads : ℕ) (head next head_of word : ℕ → ℕ) (on : ℕ → Bool) (chain : ℕ → List ℕ) (c : Chains heads head next head_of word on chain) (h s : ℕ) (below : h < heads) where
  off_else : (t : ℕ) → put_at on s false t ≡ true → (t ≢ s) × (on t ≡ true)
  off_else t is = ⊎_elim (λ same. absurd (let b : put_at on s false t ≡ false = ap (put_at on s false) same ∙ put_here on s false in cc)) (λ ne. (ne, sym (put_else on s t false ne) ∙ is)) (same_or t s)

  -- with a new list for the head, and a new head or link that leads along it
  module _ (head' next' : ℕ → ℕ) (l : List ℕ) (less' : (t : ℕ) → t ≢ s → Lists (chain h) t → Lists l t) (more' : (t : ℕ) → Lists l t → Lists (chain h) t) (gone' : Lists l s → ⊥)
      (there : (on s ≡ true) × (head_of (word s) ≡ h)) (once' : Once l) (along' : Along next' (head' h) l) (others : (k : ℕ) → k < heads → k ≢ h → Along next' (head' k) (chain k)) where
    abbrev chain' : ℕ → List ℕ
    chain' = put_at chain h l

    unlinked : Chains heads head' next' head_of word (put_at on s false) chain'
    unlinked = record {
      along = λ k lt. ⊎_elim
          (λ same. subst (λ j. Along next' (head' j) (chain' j)) (sym same) (subst (Along next' (head' h)) (sym (put_here chain h l)) along'))
          (λ ne. subst (Along next' (head' k)) (sym (put_else chain h k l ne)) (others k lt ne)) (same_or k h);
      listed = λ t is. let o = off_else t is in let old = c.listed t o.1 in (
        old.0,
        ⊎_elim (λ same. subst (λ (z : List ℕ). Lists z t) (sym (ap chain' same ∙ put_here chain h l)) (less' t o.0 (subst (λ j. Lists (chain j) t) same old.1)))
            (λ ne. subst (λ (z : List ℕ). Lists z t) (sym (put_else chain h (head_of (word t)) l ne)) old.1) (same_or (head_of (word t)) h),
      );
      only = λ k t lt is. ⊎_elim
          (λ same.
          let here : Lists l t = subst (λ (z : List ℕ). Lists z t) (ap chain' same ∙ put_here chain h l) is in
          let old = c.only h t below (more' t here) in
          (put_else on s t false (λ e. gone' (subst (Lists l) e here)) ∙ old.0, old.1 ∙ sym same))
          (λ ne.
          let old = c.only k t lt (subst (λ (z : List ℕ). Lists z t) (put_else chain h k l ne) is) in
          (put_else on s t false (λ e. ne (sym old.1 ∙ ap (λ u. head_of (word u)) e ∙ there.1)) ∙ old.0, old.1))
          (same_or k h);
      once = λ k lt. ⊎_elim (λ same. subst Once (sym (ap chain' same ∙ put_here chain h l)) once') (λ ne. subst Once (sym (put_else chain h k l ne)) (c.once k lt)) (same_or k h);
    }

  -- the first of the chain: the head takes its link
  pub unlinks_first : (ss : List ℕ) → chain h ≡ s ∷ ss → Chains heads (put_at head h (next s)) next head_of word (put_at on s false) (put_at chain h ss)
  unlinks_first ss is =
      let along = subst (Along next (head h)) is (c.along h below) in
      let once = subst Once is (c.once h below) in
      unlinked (put_at head h (next s)) next ss
      (λ t ne l. ⊎_elim (λ same. absurd (ne (sym same))) (λ rest. rest) (subst (λ (z : List ℕ). Lists z t) is l))
      (λ t l. subst (λ (z : List ℕ). Lists z t) (sym is) (inr l))
      once.0
      (c.only h s below (subst (λ (z : List ℕ). Lists z s) (sym is) (inl refl)))
      once.1
      (subst (λ k. Along next k ss) (sym (put_here head h (next s))) along.1)
      (λ k lt ne. subst (λ j. Along next j (chain k)) (sym (put_else head h k (next s) ne)) (c.along k lt))

  -- another: the one before it takes its link
  pub unlinks_later : (p : ℕ) (front ss : List ℕ) → chain h ≡ front ++ p ∷ s ∷ ss → Chains heads head (put_at next p (next s)) head_of word (put_at on s false) (put_at chain h (front ++ p ∷ ss))
  unlinks_later p front ss is =
      let once = subst Once is (c.once h below) in
      let in_front = c.only h p below (subst (λ (z : List ℕ). Lists z p) (sym is) (there_p front)) in
      unlinked head (put_at next p (next s)) (front ++ p ∷ ss)
      (λ t ne l. less p s t front ss ne (subst (λ (z : List ℕ). Lists z t) is l))
      (λ t l. subst (λ (z : List ℕ). Lists z t) (sym is) (more p s t front ss l))
      (gone p s front ss once)
      (c.only h s below (subst (λ (z : List ℕ). Lists z s) (sym is) (there_s front)))
      (once_still p s front ss once)
      (along_cut next p s (head h) front ss once (subst (Along next (head h)) is (c.along h below)))
      (λ k lt ne. along_else next p (next s) (head k) (chain k) (λ l. ne (sym (c.only k p lt l).1 ∙ in_front.1)) (c.along k lt))
    where
      there_p : (front : List ℕ) → Lists (front ++ p ∷ s ∷ ss) p
      there_p [] = inl refl
      there_p (t ∷ front) = inr (there_p front)

      there_s : (front : List ℕ) → Lists (front ++ p ∷ s ∷ ss) s
      there_s [] = inr (inl refl)
      there_s (t ∷ front) = inr (there_s front)
