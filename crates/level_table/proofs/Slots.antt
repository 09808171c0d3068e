-- The slots that are found by their words, and where one is written to.
use Rattle.std.proofs.Common.{◌≡◌, ℕ, zero, suc, append_assoc, length-append, ◌+◌, ◌-◌, ◌^◌, ◌<◌, ◌≤◌, cond, ltb, List, [], ◌∷◌, ◌++◌, length, get_or, set, replicate, inl, inr, sym, ◌∙◌, ap, subst, refl, arith}
use Rattle.std.proofs.lemmas.Bool.{cases_eq, cases_lt, cond-true, cond-false}
use Rattle.std.proofs.lemmas.Bool.Decides.{nat_tests}
use Rattle.std.proofs.lemmas.List.{length-set, length_push, length-replicate, get_or_append_left, get_or-append_right, get_or_push, get_or_past, get_or-replicate, get_or-set_same, get_or-set_other, set-append_left}
use Rattle.level_table.specs.Chains.{put, IsLatest, IsChained}
use Rattle.level_table.specs.Slotted.{bucket_of_word, bucket_in, is_found, padded, AreSlots}
use Rattle.level_table.proofs.Chaining.{put-here, put-other, same_chains}
use Rattle.level_table.proofs.Latest.{latest-more}

-- the bucket of a slot, by its word
pub bucket-found : (words : List ℕ) (n s : ℕ) → 3 ≤ s → 0 < get_or words s 0 → bucket_in words n s ≡ bucket_of_word (get_or words s 0) n
unfolding bucket_in
bucket-found words n s high some = cond-true (is_found words s) (bucket_of_word (get_or words s 0) n) n (grind (arith, nat_tests))

pub bucket-low : (words : List ℕ) (n s : ℕ) → s < 3 → bucket_in words n s ≡ n
unfolding bucket_in
bucket-low words n s low = cond-false (is_found words s) (bucket_of_word (get_or words s 0) n) n (grind (arith, nat_tests))

pub bucket-free : (words : List ℕ) (n s : ℕ) → get_or words s 0 ≡ 0 → bucket_in words n s ≡ n
unfolding bucket_in
bucket-free words n s free = cond-false (is_found words s) (bucket_of_word (get_or words s 0) n) n (grind (arith, nat_tests))

-- slots with one word have one bucket
pub bucket_same : (words new : List ℕ) (n s : ℕ) → get_or new s 0 ≡ get_or words s 0 → bucket_in new n s ≡ bucket_in words n s
unfolding bucket_in
bucket_same words new n s same = rw same refl

-- a walk for a word, at this link
pub record IsSought (words : List ℕ) (buckets bits link : ℕ) : Type 0 where
  pub within : link ≤ length words
  pub here : (s : ℕ) → link ≡ suc s → bucket_in words buckets s ≡ bucket_of_word bits buckets
  pub none : (s : ℕ) → link ≤ s → 3 ≤ s → get_or words s 0 ≡ bits → ⊥

module _ (words links heads : List ℕ) (are : AreSlots words links heads) (bits : ℕ) (some : 0 < bits) (bound : bucket_of_word bits (length heads) < length heads) where
  own : (s : ℕ) → 3 ≤ s → get_or words s 0 ≡ bits → bucket_in words (length heads) s ≡ bucket_of_word bits (length heads)
  own s high is = bucket-found words (length heads) s high (omega (arith, is, some)) ∙ ap (λ w. bucket_of_word w (length heads)) is

  in_links : (s : ℕ) → get_or words s 0 ≡ bits → s < length links
  in_links s is = elim (cases_lt s (length words)) [
    | inl lt ↦ (let l = are.as_long in omega arith)
    | inr ge ↦ absurd (let none = get_or_past words s 0 ge in omega (arith, is, some, none))
  ]

  -- where the walk begins
  pub sought_first : IsSought words (length heads) bits (get_or heads (bucket_of_word bits (length heads)) 0)
  sought_first =
      let head = are.chained.heads_are (bucket_of_word bits (length heads)) bound in
      record {
        within = (let w = head.within in let l = are.as_long in omega arith);
        here = head.here;
        none = λ s from high is. head.none s from (in_links s is) (own s high is);
      }

  pub sought_here : (link s : ℕ) → IsSought words (length heads) bits link → suc s ≡ link → 3 ≤ s
  sought_here link s sought leads = elim (cases_lt s 3) [
    | inl low ↦ absurd (let b = sought.here s (sym leads) in let n = bucket-low words (length heads) s low in omega arith)
    | inr high ↦ high
  ]

  -- it leads to a slot with another word, and so to the next
  pub sought_on : (link s : ℕ) → IsSought words (length heads) bits link → suc s ≡ link → (get_or words s 0 ≡ bits → ⊥) → IsSought words (length heads) bits (get_or links s 0)
  sought_on link s sought leads other =
      let bucket = sought.here s (sym leads) in
      let lt : s < length links = (let w = sought.within in let l = are.as_long in omega arith) in
      let latest = are.chained.links_are s lt (omega arith) in
      record {
        within = (let w = latest.within in let v = sought.within in omega arith);
        here = λ k e. latest.here k e ∙ bucket;
        none = λ k from high is. elim (cases_lt k s) [
          | inl below ↦ latest.none k from below (own k high is ∙ sym bucket)
          | inr ge ↦ elim (cases_eq k s) [ inl same ↦ other (ap (λ j. get_or words j 0) (sym same) ∙ is) | inr ne ↦ sought.none k (omega arith) high is ]
        ];
      }

-- the other slots' buckets, where one is written to
pub bucket_other : (words : List ℕ) (n slot bits : ℕ) (s : ℕ) → (s ≡ slot → ⊥) → bucket_in (set words slot bits) n s ≡ bucket_in words n s
bucket_other words n slot bits s ne = bucket_same words (set words slot bits) n s (get_or-set_other words slot s bits 0 ne)

module _ (words : List ℕ) (n slot : ℕ) (in' : slot < length words) where
  -- the bucket of the slot that is written to
  pub bucket_put : (bits : ℕ) → 3 ≤ slot → 0 < bits → bucket_in (set words slot bits) n slot ≡ bucket_of_word bits n
  bucket_put bits high some =
      let here = get_or-set_same words slot bits 0 in' in
      bucket-found (set words slot bits) n slot high (omega (arith, here, some)) ∙ ap (λ w. bucket_of_word w n) here

  pub bucket_erased : bucket_in (set words slot 0) n slot ≡ n
  bucket_erased = bucket-free (set words slot 0) n slot (get_or-set_same words slot 0 0 in')

  -- a slot that isn't found is none where another word stands there, nor where none does
  pub unchained : (bits : ℕ) (heads links : List ℕ) → bucket_in words n slot ≡ n → bucket_in (set words slot bits) n slot ≡ n → IsChained (bucket_in words n) heads links → IsChained (bucket_in (set words slot bits) n) heads links
  unchained bits heads links before after = same_chains (bucket_in words n) (bucket_in (set words slot bits) n) heads links
      (λ s. elim (cases_eq s slot) [
        | inl is ↦ ap (bucket_in words n) is ∙ before ∙ sym (ap (bucket_in (set words slot bits) n) is ∙ after)
        | inr ne ↦ sym (bucket_other words n slot bits s ne)
      ])

  pub erased : (heads links : List ℕ) → IsChained (put (bucket_in words n) slot n) heads links → IsChained (bucket_in (set words slot 0) n) heads links
  erased heads links = same_chains (put (bucket_in words n) slot n) (bucket_in (set words slot 0) n) heads links
      (λ s. elim (cases_eq s slot) [
        | inl is ↦ ap (put (bucket_in words n) slot n) is ∙ put-here (bucket_in words n) slot n ∙ sym (ap (bucket_in (set words slot 0) n) is ∙ bucket_erased)
        | inr ne ↦ put-other (bucket_in words n) slot n s ne ∙ sym (bucket_other words n slot 0 s ne)
      ])

-- one slot more, which is free
read_more : (words : List ℕ) (s : ℕ) → get_or (words ++ 0 ∷ []) s 0 ≡ get_or words s 0
read_more words s = elim (cases_lt s (length words)) [
  | inl lt ↦ get_or_append_left words (0 ∷ []) 0 s lt
  | inr ge ↦ elim (cases_eq s (length words)) [
    | inl is ↦ get_or_push words 0 0 s (sym is) ∙ sym (get_or_past words s 0 ge)
    | inr ne ↦ get_or_past (words ++ 0 ∷ []) s 0 (let l = length_push words 0 in omega arith) ∙ sym (get_or_past words s 0 ge)
  ]
]

pub slots_more : (words links heads : List ℕ) → AreSlots words links heads → length words + 1 < 2 ^ 32 → AreSlots (words ++ 0 ∷ []) (links ++ 0 ∷ []) heads
slots_more words links heads are few =
    let n = length heads in
    let at = bucket_in words n in
    let long = length_push links 0 in
    let free : at (length links) ≡ n = bucket-free words n (length links) (get_or_past words (length links) 0 (let l = are.as_long in omega arith)) in
    record {
      as_long = long ∙ ap (λ k. k + 1) are.as_long ∙ sym (length_push words 0);
      few = (let l = length_push words 0 in omega arith);
      some = are.some;
      few_buckets = are.few_buckets;
      chained = same_chains at (bucket_in (words ++ 0 ∷ []) n) heads (links ++ 0 ∷ []) (λ s. sym (bucket_same words (words ++ 0 ∷ []) n s (read_more words s)))
          (record {
            heads_are = λ b lt. subst (λ k. IsLatest at b k (get_or heads b 0)) (sym long) (latest-more at b (length links) (get_or heads b 0) (λ e. omega arith) (are.chained.heads_are b lt));
            links_are = λ k lt bucket. elim (cases_lt k (length links)) [
              | inl below ↦ subst (λ r. IsLatest at (at k) k r) (sym (get_or_append_left links (0 ∷ []) 0 k below)) (are.chained.links_are k below bucket)
              | inr above ↦ absurd (let is : k ≡ length links = omega arith in let e = ap at is in omega arith)
            ];
            fall = λ k lt. elim (cases_lt k (length links)) [
              | inl below ↦ subst (λ r. r ≤ k) (sym (get_or_append_left links (0 ∷ []) 0 k below)) (are.chained.fall k below)
              | inr above ↦ (let is : length links ≡ k = omega arith in let e = get_or_push links 0 0 k is in omega arith)
            ];
          });
    }

-- so many times 0
abbrev zeros : ℕ → List ℕ
zeros n = replicate n 0

length-zeros : (n : ℕ) → length (zeros n) ≡ n
length-zeros n = length-replicate n 0

read_zeros : (n i : ℕ) → get_or (zeros n) i 0 ≡ zero
read_zeros n i = elim (cases_lt i n) [
  | inl lt ↦ get_or-replicate n i 0 0 lt
  | inr ge ↦ get_or_past (zeros n) i 0 (let l = length-zeros n in omega arith)
]

-- no slots, and empty buckets
pub no_slots : (buckets : ℕ) → 0 < buckets → buckets < 2 ^ 32 → AreSlots [] [] (replicate buckets 0)
no_slots buckets some few =
    let long = length-zeros buckets in
    record {
      as_long = refl;
      few = omega arith;
      some = omega arith;
      few_buckets = omega arith;
      chained = record {
        heads_are = λ b lt. subst (λ r. IsLatest (bucket_in [] (length (zeros buckets))) b 0 r) (sym (read_zeros buckets b))
            (record { within = omega arith; here = λ k e. absurd (omega arith); none = λ k from below. absurd (omega arith) });
        links_are = λ k lt. absurd (omega arith);
        fall = λ k lt. absurd (omega arith);
      };
    }

-- the words of all slots
pub read_padded : (slots : ℕ) (words : List ℕ) (s : ℕ) → get_or (padded slots words) s 0 ≡ get_or words s 0
read_padded slots words s = elim (cases_lt s (length words)) [
  | inl lt ↦ get_or_append_left words (zeros (slots - length words)) 0 s lt
  | inr ge ↦ get_or-append_right words (zeros (slots - length words)) (length words) s 0 refl ge ∙ read_zeros (slots - length words) (s - length words) ∙ sym (get_or_past words s 0 ge)
]

pub length-padded : (slots : ℕ) (words : List ℕ) → length words ≤ slots → length (padded slots words) ≡ slots
length-padded slots words within = let l = length-append words (zeros (slots - length words)) in let r = length-zeros (slots - length words) in omega arith

pub set-padded : (slots : ℕ) (words : List ℕ) (s x : ℕ) → s < length words → padded slots (set words s x) ≡ set (padded slots words) s x
set-padded slots words s x lt =
    ap (λ n. set words s x ++ zeros (slots - n)) (length-set words s x) ∙ sym (set-append_left words (zeros (slots - length words)) s x lt)

pub padded-more : (slots : ℕ) (words : List ℕ) → length words < slots → padded slots (words ++ 0 ∷ []) ≡ padded slots words
padded-more slots words lt =
    let rest : ℕ = slots - (length words + 1) in
    let next : suc rest ≡ slots - length words = omega arith in
    ap (λ n. (words ++ 0 ∷ []) ++ zeros (slots - n)) (length_push words 0)
    ∙ append_assoc words (0 ∷ []) (zeros rest)
    ∙ ap (λ n. words ++ zeros n) next

-- the buckets of the first slots, and none for the others
abbrev pub buckets_below : List ℕ → ℕ → ℕ → ℕ → ℕ
buckets_below words n i s = cond (ltb s i) (bucket_in words n s) n

module _ (words : List ℕ) (n : ℕ) where
  pub below-here : (i : ℕ) → buckets_below words n i i ≡ n
  below-here i = cond-false (ltb i i) (bucket_in words n i) n (grind (arith, nat_tests))

  below-low : (i k : ℕ) → k < i → buckets_below words n i k ≡ bucket_in words n k
  below-low i k lt = cond-true (ltb k i) (bucket_in words n k) n (grind (arith, nat_tests))

  below-high : (i k : ℕ) → i ≤ k → buckets_below words n i k ≡ n
  below-high i k le = cond-false (ltb k i) (bucket_in words n k) n (grind (arith, nat_tests))

  -- one slot more
  pub below-next : (i k : ℕ) → put (buckets_below words n i) i (bucket_in words n i) k ≡ buckets_below words n (i + 1) k
  below-next i k = elim (cases_eq k i) [
    | inl is ↦ ap (put (buckets_below words n i) i (bucket_in words n i)) is ∙ put-here (buckets_below words n i) i (bucket_in words n i)
        ∙ sym (ap (buckets_below words n (i + 1)) is ∙ below-low (i + 1) i (omega arith))
    | inr ne ↦ put-other (buckets_below words n i) i (bucket_in words n i) k ne ∙ elim (cases_lt k i) [
      | inl lt ↦ below-low i k lt ∙ sym (below-low (i + 1) k (omega (arith, lt)))
      | inr le ↦ below-high i k le ∙ sym (below-high (i + 1) k (omega (arith, le, ne)))
    ]
  ]

  -- all slots
  pub below-all : (k : ℕ) → buckets_below words n (length words) k ≡ bucket_in words n k
  below-all k = elim (cases_lt k (length words)) [
    | inl lt ↦ below-low (length words) k lt
    | inr le ↦ below-high (length words) k le ∙ sym (bucket-free words n k (get_or_past words k 0 le))
  ]

  -- empty buckets
  pub below-none : (heads links : List ℕ) → heads ≡ replicate n 0 → ((k : ℕ) → k < length links → get_or links k 0 ≤ k) → IsChained (buckets_below words n 0) heads links
  below-none heads links empty fall = rw empty (record {
    heads_are = λ b lt. subst (λ r. IsLatest (buckets_below words n 0) b (length links) r) (sym (read_zeros n b))
        (record { within = omega arith; here = λ k e. absurd (omega arith); none = λ k from below is. absurd (let h = below-high 0 k (omega arith) in let l = length-zeros n in omega (arith, h, is, lt, l)) });
    links_are = λ k lt in-bucket. absurd (let h = below-high 0 k (omega arith) in let l = length-zeros n in omega (arith, h, in-bucket, l));
    fall = fall;
  })
