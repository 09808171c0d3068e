-- Entries as a map from their keys to their slots.
use Rattle.std.proofs.Common.{◌≡◌, ℕ, zero, suc, ◌+◌, ◌-◌, ◌<◌, ◌≤◌, Bool, true, false, List, [], ◌∷◌, ◌++◌, length, get_or, set, take, map, find, option_map, swap_remove, Option, Some, None, ◌⊎◌, inl, inr, sym, ◌∙◌, ap, subst, refl, arith}
use Rattle.std.specs.Prelude.{AllPairs}
use Rattle.std.proofs.lemmas.Bool.{cases_eq, cases_lt, cases_Bool, cond-true, cond-false}
use Rattle.std.proofs.lemmas.List.{length-map, map-set, take-map, get_or-map}
use Rattle.level_table.specs.Chains.{IsLatest}

-- the test tells which entries are of a key, and entries of one key are of each other's
pub record AreKeys {E K : Type 0} (Of : K → E → Type 0) (test : K → E → Bool) (key : E → K) : Type 0 where
  pub true_of : (k : K) (e : E) → Of k e → test k e ≡ true
  pub of-true : (k : K) (e : E) → test k e ≡ true → Of k e
  pub shared : (k : K) (e f : E) → Of k e → Of k f → Of (key e) f
  pub turned : (e f : E) → Of (key e) f → Of (key f) e

abbrev pub IsMissing : {E K : Type 0} → (K → E → Type 0) → List E → K → Type 0
IsMissing {E} {K} Of es k = (i : ℕ) (d : E) → i < length es → Of k (get_or es i d) → ⊥

abbrev pub AreDistinct : {E K : Type 0} → (K → E → Type 0) → (E → K) → List E → Type 0
AreDistinct {E} {K} Of key es = AllPairs (λ e f. Of (key e) f → ⊥) es

module _ {E K : Type 0} (Of : K → E → Type 0) (test : K → E → Bool) (key : E → K) (slot : E → ℕ) (keys : AreKeys Of test key) where
  abbrev slot_for : List E → K → Option ℕ
  slot_for es k = option_map slot (find (test k) es)

  -- an entry of the key is the first, or it is not
  pub key-here : (k : K) (e : E) (es : List E) → Of k e → slot_for (e ∷ es) k ≡ Some (slot e)
  key-here k e es is = ap (option_map slot) (cond-true (test k e) (Some e) (find (test k) es) (keys.true_of k e is))

  pub key-later : (k : K) (e : E) (es : List E) → (Of k e → ⊥) → slot_for (e ∷ es) k ≡ slot_for es k
  key-later k e es other = ap (option_map slot) (cond-false (test k e) (Some e) (find (test k) es) (elim (cases_Bool (test k e)) [ inl t ↦ absurd (other (keys.of-true k e t)) | inr f ↦ f ]))

  distinct_rest : (e : E) (es : List E) → AreDistinct Of key (e ∷ es) → AreDistinct Of key es
  distinct_rest e es apart = λ i j d lt in'. apart (suc i) (suc j) d (omega arith) (omega arith)

  missing_rest : (e : E) (es : List E) (k : K) → IsMissing Of (e ∷ es) k → IsMissing Of es k
  missing_rest e es k absent = λ i d in'. absent (suc i) d (omega arith)

  -- the slot of an absent key, and of one that stands at a place
  pub key_absent : (es : List E) (k : K) → IsMissing Of es k → slot_for es k ≡ None
  key_absent [] k absent = refl
  key_absent (e ∷ es) k absent = key-later k e es (absent 0 e (omega arith)) ∙ key_absent es k (missing_rest e es k absent)

  pub key_found : (es : List E) (k : K) (i : ℕ) (d : E) → AreDistinct Of key es → i < length es → Of k (get_or es i d) → slot_for es k ≡ Some (slot (get_or es i d))
  key_found [] k i d apart in' is = absurd (omega arith)
  key_found (e ∷ es) k zero d apart in' is = key-here k e es is
  key_found (e ∷ es) k (suc i) d apart in' is =
      key-later k e es (λ here. apart 0 (suc i) d (omega arith) in' (keys.shared k e (get_or es i d) here is))
      ∙ key_found es k i d (distinct_rest e es apart) (omega arith) is

  -- one more entry, of another key
  pub key-push_other : (es : List E) (e : E) (k : K) → (Of k e → ⊥) → slot_for (es ++ e ∷ []) k ≡ slot_for es k
  key-push_other [] e k other = key-later k e [] other
  key-push_other (x ∷ es) e k other = elim (cases_Bool (test k x)) [
    | inl t ↦ key-here k x (es ++ e ∷ []) (keys.of-true k x t) ∙ sym (key-here k x es (keys.of-true k x t))
    | inr f ↦ (let before : Of k x → ⊥ = λ is. (let t = keys.true_of k x is in cc) in
        key-later k x (es ++ e ∷ []) before ∙ key-push_other es e k other ∙ sym (key-later k x es before))
  ]

  -- one of a key that was absent
  pub key-push_here : (es : List E) (e : E) (k : K) → IsMissing Of es k → Of k e → slot_for (es ++ e ∷ []) k ≡ Some (slot e)
  key-push_here [] e k absent is = key-here k e [] is
  key-push_here (x ∷ es) e k absent is = key-later k x (es ++ e ∷ []) (absent 0 x (omega arith)) ∙ key-push_here es e k (missing_rest x es k absent) is

  -- two places in any order
  distinct_any : (es : List E) → AreDistinct Of key es → (i j : ℕ) (d : E) → (i ≡ j → ⊥) → i < length es → j < length es → Of (key (get_or es i d)) (get_or es j d) → ⊥
  distinct_any es apart i j d ne i-in j-in is = elim (cases_lt i j) [
    | inl lt ↦ apart i j d lt j-in is
    | inr ge ↦ (let gt : j < i = omega arith in apart j i d gt i-in (keys.turned (get_or es i d) (get_or es j d) is))
  ]

  -- a key stands at a place, or it is absent
  seek : (es : List E) (k : K) → IsMissing Of es k ⊎ ((i : ℕ) × (i < length es) × ((d : E) → Of k (get_or es i d)))
  seek [] k = inl (λ i d in' is. absurd (omega arith))
  seek (e ∷ es) k = elim (cases_Bool (test k e)) [
    | inl t ↦ inr (0, omega arith, λ d. keys.of-true k e t)
    | inr f ↦ elim (seek es k) [
      | inl absent ↦ inl (none f absent)
      | inr found ↦ inr (suc (found.0), omega (arith, found.1), found.2)
    ]
  ]
    where
      none : test k e ≡ false → IsMissing Of es k → IsMissing Of (e ∷ es) k
      none f absent zero d in' is = (let t = keys.true_of k e is in cc)
      none f absent (suc i) d in' is = absent i d (omega arith) is

-- a walk over the places whose hash is that of the key
module _ {E K : Type 0} (Of : K → E → Type 0) (key : E → K) (hash : K → ℕ) (alike : (k : K) (e : E) → Of k e → hash (key e) ≡ hash k) (hashes : List ℕ) (es : List E) (k : K) (are : hashes ≡ map (λ e. hash (key e)) es) where
  hash_at : (i : ℕ) (d : E) → i < length es → Of k (get_or es i d) → get_or hashes i 0 ≡ hash k
  hash_at i d in' is = ap (λ hs. get_or hs i 0) are ∙ get_or-map (λ e. hash (key e)) es i d 0 in' ∙ alike k (get_or es i d) is

  -- none stands from the next candidate up to this place, and here neither
  pub key_none_on : (place next : ℕ) → get_or hashes place 0 ≡ hash k → IsLatest (λ i. get_or hashes i 0) (get_or hashes place 0) place next
      → ((d : E) → Of k (get_or es place d) → ⊥) → ((i : ℕ) (d : E) → suc place ≤ i → i < length es → Of k (get_or es i d) → ⊥)
      → (i : ℕ) (d : E) → next ≤ i → i < length es → Of k (get_or es i d) → ⊥
  key_none_on place next same latest here above i d from in' is = elim (cases_lt i place) [
    | inl lt ↦ latest.none i from lt (hash_at i d in' is ∙ sym same)
    | inr ge ↦ elim (cases_eq i place) [ inl e ↦ here d (subst (λ j. Of k (get_or es j d)) e is) | inr ne ↦ above i d (omega arith) in' is ]
  ]

  pub key_none_first : (n first : ℕ) → length es ≤ n → IsLatest (λ i. get_or hashes i 0) (hash k) n first
      → (i : ℕ) (d : E) → first ≤ i → i < length es → Of k (get_or es i d) → ⊥
  key_none_first n first long latest i d from in' is = latest.none i from (omega arith) (hash_at i d in' is)

-- the entries after one was removed and the last one took its place
module _ {E K : Type 0} (Of : K → E → Type 0) (test : K → E → Bool) (key : E → K) (slot : E → ℕ) (keys : AreKeys Of test key) (es new : List E) (place : ℕ) (in' : place < length es) (long : length new + 1 ≡ length es)
    (moved : (d : E) → place + 1 < length es → get_or new place d ≡ get_or es (length es - 1) d) (kept : (i : ℕ) (d : E) → (i ≡ place → ⊥) → i + 1 < length es → get_or new i d ≡ get_or es i d) where
  -- where an entry stood before
  from : (i : ℕ) → i < length new → (j : ℕ) × (j < length es) × (j ≡ place → ⊥) × ((i ≡ place) × (j + 1 ≡ length es) ⊎ ((i ≡ place → ⊥) × (j ≡ i))) × ((d : E) → get_or new i d ≡ get_or es j d)
  from i i-in = elim (cases_eq i place) [
    | inl is ↦ (length es - 1, omega arith, (λ e. omega arith), inl (is, omega arith), λ d. ap (λ n. get_or new n d) is ∙ moved d (omega arith))
    | inr ne ↦ (i, omega arith, ne, inr (ne, refl), λ d. kept i d ne (omega arith))
  ]

  pub distinct_without : AreDistinct Of key es → AreDistinct Of key new
  distinct_without apart i j d lt j-in is =
      let a = from i (omega arith) in
      let b = from j j-in in
      let ne : a.0 ≡ b.0 → ⊥ = (λ e. elim a.3 [
        | inl x ↦ elim b.3 [ inl y ↦ omega (arith, x.0, y.0) | inr y ↦ omega (arith, x.1, y.1) ]
        | inr x ↦ elim b.3 [ inl y ↦ omega (arith, x.1, y.1, lt, j-in) | inr y ↦ omega (arith, x.1, y.1) ]
      ]) in
      distinct_any Of test key slot keys es apart a.0 b.0 d ne a.1 b.1
      (subst (λ e. Of (key e) (get_or es b.0 d)) (a.4 d) (subst (Of (key (get_or new i d))) (b.4 d) is))

  pub missing_without : (k : K) → AreDistinct Of key es → ((d : E) → Of k (get_or es place d)) → IsMissing Of new k
  missing_without k apart here i d i-in is =
      let a = from i i-in in
      let there : Of k (get_or es a.0 d) = subst (Of k) (a.4 d) is in
      distinct_any Of test key slot keys es apart place a.0 d (λ e. a.2 (sym e)) in' a.1 (keys.shared k (get_or es place d) (get_or es a.0 d) (here d) there)

  -- another key has the slot that it had
  pub key_without : (nothing : E) (k : K) → AreDistinct Of key es → ((d : E) → Of k (get_or es place d) → ⊥) → option_map slot (find (test k) new) ≡ option_map slot (find (test k) es)
  key_without nothing k apart other = elim (seek Of test key slot keys es k) [
    | inl absent ↦ key_absent Of test key slot keys new k (λ i d i-in is. (let a = from i i-in in absent a.0 d a.1 (subst (Of k) (a.4 d) is))) ∙ sym (key_absent Of test key slot keys es k absent)
    | inr found ↦ elim (cases_lt (found.0 + 1) (length es)) [
      | inl before ↦ at found (found.0) (omega arith) (λ d. kept (found.0) d (elsewhere found) before)
      | inr ends ↦ (let in-old = found.1 in let last : found.0 ≡ length es - 1 = omega arith in let ne = elsewhere found in
          at found place (omega arith) (λ d. moved d (omega arith) ∙ ap (λ i. get_or es i d) (sym last)))
    ]
  ]
    where
      elsewhere : (found : (i : ℕ) × (i < length es) × ((d : E) → Of k (get_or es i d))) → found.0 ≡ place → ⊥
      elsewhere found e = other nothing (subst (λ i. Of k (get_or es i nothing)) e (found.2 nothing))

      at : (found : (i : ℕ) × (i < length es) × ((d : E) → Of k (get_or es i d))) (i : ℕ) → i < length new → ((d : E) → get_or new i d ≡ get_or es (found.0) d) → option_map slot (find (test k) new) ≡ option_map slot (find (test k) es)
      at found i i-in same =
          let e = same nothing in
          key_found Of test key slot keys new k i nothing (distinct_without apart) i-in (subst (Of k) (sym e) (found.2 nothing))
          ∙ ap (λ (x : E). Some (slot x)) e ∙ sym (key_found Of test key slot keys es k (found.0) nothing apart found.1 (found.2 nothing))

-- the hashes after the same
pub map-swap_remove : {E : Type 0} (f : E → ℕ) (es : List E) (place : ℕ) (d : E) (n : ℕ) → place < length es → map f (swap_remove es place d) ≡ swap_remove (map f es) place n
map-swap_remove f es place d n in' =
    let last : ℕ = length es - 1 in
    let long = length-map es f in
    sym (take-map f last (set es place (get_or es last d)))
    ∙ ap (take last) (map-set f es place (get_or es last d) ∙ ap (set (map f es) place) (sym (get_or-map f es last d n (omega arith))))
    ∙ ap (λ k. take (k - 1) (set (map f es) place (get_or (map f es) (k - 1) n))) (sym long)
