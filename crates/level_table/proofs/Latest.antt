-- The latest place of a bucket, and what it is where one place comes, goes or changes.
use Rattle.std.proofs.Common.{◌≡◌, ℕ, suc, ◌+◌, ◌%◌, ◌<◌, ◌≤◌, List, slice_index, Option, MatchOption, inl, inr, sym, ◌∙◌, ap, arith}
use Rattle.std.proofs.lemmas.Bool.{cases_eq, cases_lt}
use Rattle.level_table.specs.Chains.{bucket_of, IsLatest}

-- the next place, which is put in the bucket or not
pub latest-here : (at : ℕ → ℕ) (b n : ℕ) → at n ≡ b → IsLatest at b (n + 1) (n + 1)
latest-here at b n e = record {
  within = omega arith;
  here = λ k same. (let is : k ≡ n = omega arith in ap at is ∙ e);
  none = λ k above below _. absurd (omega arith);
}

pub latest-more : (at : ℕ → ℕ) (b n r : ℕ) → (at n ≡ b → ⊥) → IsLatest at b n r → IsLatest at b (n + 1) r
latest-more at b n r other old = record {
  within = (let w = old.within in omega arith);
  here = old.here;
  none = λ k above below e. elim (cases_eq k n) [
    | inl is ↦ other (ap at (sym is) ∙ e)
    | inr not ↦ (let lt : k < n = omega arith in old.none k above lt e)
  ];
}

-- of fewer places, which still have the latest
pub latest-fewer : (at : ℕ → ℕ) (b n p r : ℕ) → r ≤ p → p ≤ n → IsLatest at b n r → IsLatest at b p r
latest-fewer at b n p r within fewer old = record {
  within = within;
  here = old.here;
  none = λ k above below e. (let lt : k < n = omega arith in old.none k above lt e);
}

-- where two ways to put places differ at one place alone
module _ (at new : ℕ → ℕ) (place : ℕ) (b n : ℕ) (same : (k : ℕ) → k < n → (k ≡ place → ⊥) → new k ≡ at k) where
  -- it was not the latest, and comes to be none that is later
  pub latest-elsewhere : (r : ℕ) → (r ≡ suc place → ⊥) → (new place ≡ b → place < n → suc place ≤ r) → IsLatest at b n r → IsLatest new b n r
  latest-elsewhere r was comes old = record {
    within = old.within;
    here = λ k e. (let w = old.within in let lt : k < n = omega arith in let ne : k ≡ place → ⊥ = λ is. was (e ∙ ap suc is) in same k lt ne ∙ old.here k e);
    none = λ k above below e. elim (cases_eq k place) [
      | inl is ↦ (let lt : place < n = omega arith in let c = comes (ap new (sym is) ∙ e) lt in absurd (omega arith))
      | inr ne ↦ old.none k above below (sym (same k below ne) ∙ e)
    ];
  }

  -- it leaves the bucket, and none stands there above it
  pub latest-left : (r : ℕ) → place < n → (new place ≡ b → ⊥) → ((k : ℕ) → place < k → k < n → at k ≡ b → ⊥) → IsLatest at b place r → IsLatest new b n r
  latest-left r in' leaves above old = record {
    within = (let w = old.within in omega arith);
    here = λ k e. (let w = old.within in let lt : k < n = omega arith in let ne : k ≡ place → ⊥ = λ is. omega arith in same k lt ne ∙ old.here k e);
    none = λ k from below e. elim (cases_eq k place) [
      | inl is ↦ leaves (ap new (sym is) ∙ e)
      | inr ne ↦ (let e' = sym (same k below ne) ∙ e in elim (cases_lt k place) [ inl lt ↦ old.none k from lt e' | inr ge ↦ (let gt : place < k = omega arith in above k gt below e') ])
    ];
  }

  -- it enters the bucket, and none stands there above it
  pub latest-entered : place < n → new place ≡ b → ((k : ℕ) → place < k → k < n → at k ≡ b → ⊥) → IsLatest new b n (suc place)
  latest-entered in' enters above = record {
    within = omega arith;
    here = λ k e. (let is : k ≡ place = omega arith in ap new is ∙ enters);
    none = λ k from below e. (let gt : place < k = omega arith in let ne : k ≡ place → ⊥ = λ is. omega arith in above k gt below (sym (same k below ne) ∙ e));
  }

-- the least place above this one that a walk down a bucket's chain has met, at this link
abbrev pub IsDownTo : (ℕ → ℕ) → ℕ → ℕ → ℕ → Option ℕ → ℕ → Type 0
IsDownTo at b n place above link = MatchOption above (IsLatest at b n link) (λ k. (place < k) × (k < n) × (at k ≡ b) × IsLatest at b k link)

-- a walk for the greatest place with a hash, at this link
pub record IsSought (hashes : List ℕ) (buckets hash n link : ℕ) : Type 0 where
  pub within : link ≤ n
  pub here : (k : ℕ) → link ≡ suc k → bucket_of hashes buckets k ≡ hash % buckets
  pub none : (k : ℕ) → link ≤ k → k < n → slice_index hashes k ≡ hash → ⊥

module _ (hashes : List ℕ) (buckets hash n link : ℕ) (sought : IsSought hashes buckets hash n link) where
  pub sought_none : link ≡ 0 → IsLatest (slice_index hashes) hash n 0
  sought_none end = record { within = omega arith; here = λ k e. absurd (omega arith); none = λ k _. sought.none k (omega arith) }

  -- the link leads to a place with the hash
  pub sought_here : (place : ℕ) → suc place ≡ link → slice_index hashes place ≡ hash → IsLatest (slice_index hashes) hash n (suc place)
  sought_here place leads is = record {
    within = (let w = sought.within in omega arith);
    here = λ k e. (let same : k ≡ place = omega arith in ap (slice_index hashes) same ∙ is);
    none = λ k above. sought.none k (omega arith);
  }

  -- it leads to one with another hash, and so to the next
  pub sought_on : (place next : ℕ) → suc place ≡ link → (slice_index hashes place ≡ hash → ⊥) → IsLatest (bucket_of hashes buckets) (bucket_of hashes buckets place) place next → IsSought hashes buckets hash n next
  sought_on place next leads other latest =
      let bucket = sought.here place (sym leads) in
      record {
        within = (let w = sought.within in let v = latest.within in omega arith);
        here = λ k e. latest.here k e ∙ bucket;
        none = λ k above below e. elim (cases_lt k place) [
          | inl lt ↦ latest.none k above lt (ap (λ h. h % buckets) e ∙ sym bucket)
          | inr ge ↦ elim (cases_eq k place) [ inl is ↦ other (ap (slice_index hashes) (sym is) ∙ e) | inr ne ↦ sought.none k (omega arith) below e ]
        ];
      }
