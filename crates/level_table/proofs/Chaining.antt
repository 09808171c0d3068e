-- A place that is taken out of its chain, or put into one.
use Rattle.std.proofs.Common.{◌≡◌, ℕ, suc, ◌+◌, ◌-◌, ◌%◌, ◌^◌, ◌<◌, ◌≤◌, cond, List, [], ◌∷◌, ◌++◌, length, get_or, set, inl, inr, sym, ◌∙◌, ap, subst, refl, arith}
use Rattle.std.proofs.lemmas.Bool.{cases_eq, cases_lt, eq-eqb, ne_eqb}
use Rattle.std.proofs.lemmas.List.{length-set, length_push, get_or-set_same, get_or-set_other, get_or_append_left, get_or_push}
use Rattle.level_table.specs.Chains.{bucket_of, put, IsLatest, IsChained, AreChains}
use Rattle.level_table.proofs.Latest.{latest-here, latest-more, latest-elsewhere, latest-left, latest-entered, latest-fewer}

pub put-here : (at : ℕ → ℕ) (place b : ℕ) → put at place b place ≡ b
put-here at place b = ap (λ t. cond t b (at place)) (eq-eqb place place refl)

pub put-other : (at : ℕ → ℕ) (place b k : ℕ) → (k ≡ place → ⊥) → put at place b k ≡ at k
put-other at place b k ne = ap (λ t. cond t b (at k)) (ne_eqb k place ne)

pub bucket-within : (hashes : List ℕ) (buckets k : ℕ) → 0 < buckets → bucket_of hashes buckets k < buckets
bucket-within hashes buckets k some = omega arith

-- a list after a write, at the place of the write and elsewhere
pub at-set : (P : ℕ → ℕ → Type 0) (xs : List ℕ) (i x : ℕ) → i < length xs → P i x → ((k : ℕ) → (k ≡ i → ⊥) → k < length xs → P k (get_or xs k 0)) → (k : ℕ) → k < length xs → P k (get_or (set xs i x) k 0)
at-set P xs i x in' here others k lt = elim (cases_eq k i) [
  | inl is ↦ subst (λ j. P j (get_or (set xs i x) j 0)) (sym is) (subst (P i) (sym (get_or-set_same xs i x 0 in')) here)
  | inr ne ↦ subst (P k) (sym (get_or-set_other xs i k x 0 ne)) (others k ne lt)
]

-- out of its chain: `new` puts the place in no bucket, and its link takes the place of that to it
module _ (at new : ℕ → ℕ) (heads links : List ℕ) (place : ℕ) (same : (k : ℕ) → (k ≡ place → ⊥) → new k ≡ at k) (out : new place ≡ length heads) (in' : place < length links) (bucket : at place < length heads) (chained : IsChained at heads links) where
  left : (b p r : ℕ) → b < length heads → place < p → ((k : ℕ) → place < k → k < p → at k ≡ b → ⊥) → IsLatest at b place r → IsLatest new b p r
  left b p r lt gt above = latest-left at new place b p (λ k _. same k) r gt (λ e. omega arith) above

  kept : (b p r : ℕ) → b < length heads → (r ≡ suc place → ⊥) → IsLatest at b p r → IsLatest new b p r
  kept b p r lt was = latest-elsewhere at new place b p (λ k _. same k) r was (λ e _. absurd (omega arith))

  -- the links, where those that led to the place are others
  links_kept : (k : ℕ) → k < length links → new k < length heads → (place < k → at k ≡ at place → get_or links k 0 ≡ suc place → ⊥) → IsLatest new (new k) k (get_or links k 0)
  links_kept k lt in-bucket was =
      let ne : k ≡ place → ⊥ = λ is. (let e = ap new is in omega arith) in
      let e = same k ne in
      let bound : at k < length heads = omega arith in
      let old = chained.links_are k lt bound in
      subst (λ b. IsLatest new b k (get_or links k 0)) (sym e) (kept (at k) k (get_or links k 0) bound (λ is. (let w = old.within in was (omega arith) (sym (old.here place is)) is)) old)

  pub unlinked_after : (over : ℕ) → place < over → over < length links → at over ≡ at place → ((k : ℕ) → place < k → k < over → at k ≡ at place → ⊥) → IsChained new heads (set links over (get_or links place 0))
  unlinked_after over gt lt e above =
      let long = length-set links over (get_or links place 0) in
      record {
        heads_are = λ b below. subst (λ n. IsLatest new b n (get_or heads b 0)) (sym long)
            (let old = chained.heads_are b below in kept b (length links) (get_or heads b 0) below (λ is. old.none over (omega arith) lt (e ∙ old.here place is)) old);
        links_are = λ k in-list in-bucket.
            at-set (λ x r. new x < length heads → IsLatest new (new x) x r) links over (get_or links place 0) lt
            (λ _. (let ne : over ≡ place → ⊥ = λ is. omega arith in
            subst (λ b. IsLatest new b over (get_or links place 0)) (sym (same over ne ∙ e)) (left (at place) over (get_or links place 0) bucket gt above (chained.links_are place in' bucket))))
            (λ x ne x-in x-bucket. links_kept x x-in x-bucket (λ x-gt x-e is.
            elim (cases_lt x over) [
              | inl x-lt ↦ above x x-gt x-lt x-e
              | inr ge ↦ (let over-lt : over < x = omega arith in let x-bound : at x < length heads = omega arith in
                  (chained.links_are x x-in x-bound).none over (omega arith) over-lt (e ∙ sym x-e))
            ]))
            k (omega arith) in-bucket;
        fall = λ k in-list. at-set (λ x r. r ≤ x) links over (get_or links place 0) lt (let f = chained.fall place in' in omega arith) (λ x _ x-in. chained.fall x x-in) k (omega arith);
      }

-- into a chain: `at` puts the place in no bucket, and `new` in bucket b
module _ (at new : ℕ → ℕ) (heads links : List ℕ) (place b : ℕ) (same : (k : ℕ) → (k ≡ place → ⊥) → new k ≡ at k) (out : at place ≡ length heads) (into : new place ≡ b) (in' : place < length links) (bucket : b < length heads) (chained : IsChained at heads links) where
  kept' : (x p r : ℕ) → x < length heads → (x ≡ b → place < p → suc place ≤ r) → IsLatest at x p r → IsLatest new x p r
  kept' x p r lt comes old = latest-elsewhere at new place x p (λ k _. same k) r (λ is. (let h = old.here place is in omega arith)) (λ e gt. comes (sym e ∙ into) gt) old

  entered : (p : ℕ) → place < p → ((k : ℕ) → place < k → k < p → at k ≡ b → ⊥) → IsLatest new b p (suc place)
  entered p gt above = latest-entered at new place b p (λ k _. same k) gt into above

  -- the link that led past the place
  past : (p r : ℕ) → place < p → ((k : ℕ) → place < k → k < p → at k ≡ b → ⊥) → IsLatest at b p r → r ≤ place
  past p r gt above old = elim (cases_lt place r) [
    | inr le ↦ le
    | inl lt ↦ (let k : ℕ = r - 1 in let is : r ≡ suc k = omega arith in let e = old.here k is in
        elim (cases_eq k place) [
          | inl same' ↦ absurd (let e' = ap at same' in omega arith)
          | inr ne ↦ absurd (let w = old.within in above k (omega arith) (omega arith) e)
        ])
  ]

  at_place : (p r : ℕ) → place < p → ((k : ℕ) → place < k → k < p → at k ≡ b → ⊥) → IsLatest at b p r → IsLatest new (new place) place r
  at_place p r gt above old =
      subst (λ x. IsLatest new x place r) (sym into)
      (kept' b place r bucket (λ _ no. absurd (omega arith)) (latest-fewer at b p place r (past p r gt above old) (omega arith) old))

  links_kept' : (k : ℕ) → (k ≡ place → ⊥) → k < length links → new k < length heads → (place < k → at k ≡ b → suc place ≤ get_or links k 0) → IsLatest new (new k) k (get_or links k 0)
  links_kept' k ne lt in-bucket comes =
      let e = same k ne in
      let bound : at k < length heads = omega arith in
      subst (λ x. IsLatest new x k (get_or links k 0)) (sym e) (kept' (at k) k (get_or links k 0) bound (λ is gt. comes gt is) (chained.links_are k lt bound))

  pub linked_first : ((k : ℕ) → place < k → k < length links → at k ≡ b → ⊥) → IsChained new (set heads b (suc place)) (set links place (get_or heads b 0))
  linked_first above =
      let long = length-set links place (get_or heads b 0) in
      let wide = length-set heads b (suc place) in
      let head = chained.heads_are b bucket in
      record {
        heads_are = λ x lt. subst (λ n. IsLatest new x n (get_or (set heads b (suc place)) x 0)) (sym long)
            (at-set (λ y r. IsLatest new y (length links) r) heads b (suc place) bucket
            (entered (length links) in' above)
            (λ y ne below. kept' y (length links) (get_or heads y 0) below (λ is _. absurd (ne is)) (chained.heads_are y below))
            x (omega arith));
        links_are = λ k in-list in-bucket.
            at-set (λ y r. new y < length heads → IsLatest new (new y) y r) links place (get_or heads b 0) in'
            (λ _. at_place (length links) (get_or heads b 0) in' above head)
            (λ y ne y-in y-bucket. links_kept' y ne y-in y-bucket (λ gt e. absurd (above y gt y-in e)))
            k (omega arith) (omega arith);
        fall = λ k in-list. at-set (λ y r. r ≤ y) links place (get_or heads b 0) in' (past (length links) (get_or heads b 0) in' above head) (λ y _ y-in. chained.fall y y-in) k (omega arith);
      }

  pub linked_after : (over : ℕ) → place < over → over < length links → at over ≡ b → ((k : ℕ) → place < k → k < over → at k ≡ b → ⊥) → IsChained new heads (set (set links place (get_or links over 0)) over (suc place))
  linked_after over gt lt e above =
      let below = get_or links over 0 in
      let once = set links place below in
      let long : length (set once over (suc place)) ≡ length links = length-set once over (suc place) ∙ length-set links place below in
      let over-in : over < length once = (let l = length-set links place below in omega arith) in
      let over-bound : at over < length heads = omega arith in
      let old : IsLatest at b over below = subst (λ x. IsLatest at x over below) e (chained.links_are over lt over-bound) in
      record {
        heads_are = λ x x-lt. subst (λ n. IsLatest new x n (get_or heads x 0)) (sym long)
            (let was = chained.heads_are x x-lt in
            kept' x (length links) (get_or heads x 0) x-lt (λ is _. elim (cases_lt over (get_or heads x 0)) [ inl more ↦ omega arith | inr le ↦ absurd (was.none over le lt (e ∙ sym is)) ]) was);
        links_are = λ k in-list in-bucket.
            at-set (λ y r. new y < length heads → IsLatest new (new y) y r) once over (suc place) over-in
            (λ _. (let ne : over ≡ place → ⊥ = λ is. omega arith in subst (λ x. IsLatest new x over (suc place)) (sym (same over ne ∙ e)) (entered over gt above)))
            (λ y ne y-in y-bucket. at-set (λ z r. (z ≡ over → ⊥) → new z < length heads → IsLatest new (new z) z r) links place below in'
            (λ _ _. at_place over below gt above old)
            (λ z z-ne z-in not-over z-bucket. links_kept' z z-ne z-in z-bucket (λ z-gt z-e. elim (cases_lt z over) [
              | inl z-lt ↦ absurd (above z z-gt z-lt z-e)
              | inr ge ↦ (let over-lt : over < z = omega arith in let z-bound : at z < length heads = omega arith in
                  elim (cases_lt over (get_or links z 0)) [ inl more ↦ omega arith | inr le ↦ absurd ((chained.links_are z z-in z-bound).none over le over-lt (e ∙ sym z-e)) ])
            ]))
            y (let l = length-set links place below in omega arith) ne y-bucket)
            k (let l = length-set links place below in omega arith) in-bucket;
        fall = λ k in-list. at-set (λ y r. r ≤ y) once over (suc place) over-in (omega arith)
            (λ y _ y-in. at-set (λ z r. r ≤ z) links place below in' (past over below gt above old) (λ z _ z-in. chained.fall z z-in) y (let l = length-set links place below in omega arith))
            k (let l = length-set links place below in omega arith);
      }

-- a place more, at the end
module _ (hashes links heads : List ℕ) (hash : ℕ) (chains : AreChains hashes links heads) where
  same_below : (k : ℕ) → k < length hashes → bucket_of (hashes ++ hash ∷ []) (length heads) k ≡ bucket_of hashes (length heads) k
  same_below k lt = ap (λ h. h % length heads) (get_or_append_left hashes (hash ∷ []) 0 k lt)

  grown : (b p r : ℕ) → p ≤ length hashes → IsLatest (bucket_of hashes (length heads)) b p r → IsLatest (bucket_of (hashes ++ hash ∷ []) (length heads)) b p r
  grown b p r le old = latest-elsewhere (bucket_of hashes (length heads)) (bucket_of (hashes ++ hash ∷ []) (length heads)) (length hashes) b p
      (λ k lt _. same_below k (omega arith)) r (λ is. (let w = old.within in omega arith)) (λ _ lt. absurd (omega arith)) old

  pub pushed : length hashes + 1 < 2 ^ 32 → AreChains (hashes ++ hash ∷ []) (links ++ get_or heads (hash % length heads) 0 ∷ []) (set heads (hash % length heads) (length hashes + 1))
  pushed few =
      let b = hash % length heads in
      let v = get_or heads b 0 in
      let bound : b < length heads = (let some = chains.bucket in omega arith) in
      let wide = length-set heads b (length hashes + 1) in
      let long : length (links ++ v ∷ []) ≡ length hashes + 1 = length_push links v ∙ ap (λ k. k + 1) chains.as_long in
      let all = hashes ++ hash ∷ [] in
      let here : bucket_of all (length heads) (length hashes) ≡ b = ap (λ h. h % length heads) (get_or_push hashes hash 0 (length hashes) refl) in
      let head : IsLatest (bucket_of hashes (length heads)) b (length hashes) v = subst (λ k. IsLatest (bucket_of hashes (length heads)) b k v) chains.as_long (chains.chained.heads_are b bound) in
      let linked : (k : ℕ) → k < length hashes + 1 → IsLatest (bucket_of all (length heads)) (bucket_of all (length heads) k) k (get_or (links ++ v ∷ []) k 0) =
      (λ k lt. elim (cases_lt k (length hashes)) [
        | inl below ↦ (let below' : k < length links = (let l = chains.as_long in omega arith) in
            subst (λ r. IsLatest (bucket_of all (length heads)) (bucket_of all (length heads) k) k r) (sym (get_or_append_left links (v ∷ []) 0 k below'))
            (subst (λ x. IsLatest (bucket_of all (length heads)) x k (get_or links k 0)) (sym (same_below k below))
            (grown (bucket_of hashes (length heads) k) k (get_or links k 0) (omega arith) (chains.chained.links_are k below' (bucket-within hashes (length heads) k chains.bucket)))))
        | inr above ↦ (let is : length hashes ≡ k = omega arith in
            subst (λ r. IsLatest (bucket_of all (length heads)) (bucket_of all (length heads) k) k r) (sym (get_or_push links v 0 k (chains.as_long ∙ is)))
            (subst (λ j. IsLatest (bucket_of all (length heads)) (bucket_of all (length heads) j) j v) is
            (subst (λ x. IsLatest (bucket_of all (length heads)) x (length hashes) v) (sym here) (grown b (length hashes) v (omega arith) head))))
      ]) in
      record {
        as_long = long ∙ sym (length_push hashes hash);
        few = (let l = length_push hashes hash in omega arith);
        bucket = (let some = chains.bucket in omega arith);
        chained = subst (λ m. IsChained (bucket_of all m) (set heads b (length hashes + 1)) (links ++ v ∷ [])) (sym wide) (record {
          heads_are = λ x lt. subst (λ k. IsLatest (bucket_of all (length heads)) x k (get_or (set heads b (length hashes + 1)) x 0)) (sym long)
              (at-set (λ y r. IsLatest (bucket_of all (length heads)) y (length hashes + 1) r) heads b (length hashes + 1) bound
              (latest-here (bucket_of all (length heads)) b (length hashes) here)
              (λ y ne y-lt. latest-more (bucket_of all (length heads)) y (length hashes) (get_or heads y 0) (λ e. ne (sym e ∙ here))
              (grown y (length hashes) (get_or heads y 0) (omega arith) (subst (λ k. IsLatest (bucket_of hashes (length heads)) y k (get_or heads y 0)) chains.as_long (chains.chained.heads_are y y-lt))))
              x (omega arith));
          links_are = λ k lt _. linked k (omega arith);
          fall = λ k lt. (let l = linked k (omega arith) in l.within);
        });
      }

-- two buckets of one place that is in none of them
pub same_chains : (at new : ℕ → ℕ) (heads links : List ℕ) → ((k : ℕ) → at k ≡ new k) → IsChained at heads links → IsChained new heads links
same_chains at new heads links same = subst (λ a. IsChained a heads links) (λ i k. same k i)

-- a place that is put where it is
pub put-same : (at : ℕ → ℕ) (place b : ℕ) → at place ≡ b → (k : ℕ) → put at place b k ≡ at k
put-same at place b is k = elim (cases_eq k place) [
  | inl here ↦ ap (put at place b) here ∙ put-here at place b ∙ sym is ∙ ap at (sym here)
  | inr ne ↦ put-other at place b k ne
]
