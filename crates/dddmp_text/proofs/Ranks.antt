-- Ranks tell places apart: the place of the rank of a place is that place.
use Rattle.std.proofs.Common.{◌≡◌, ◌≢◌, ℕ, zero, suc, ◌+◌, ◌<◌, ◌≤◌, ◌==◌, nat_lt, Bool, true, false, ◌&&◌, ◌||◌, List, Option, Some, Contains, length, get_or, refl, sym, ◌∙◌, ap, arith, if◌then◌else◌, add-one, inl, inr}
use Rattle.std.specs.Prelude.{◌⊎◌, find, slice_index, count_by}
use Rattle.std.specs.List.{range_with_len}
use Rattle.std.specs.Option.{unwrap_or}
use Rattle.std.proofs.lemmas.Bool.{eq-eqb, eqb-true}
use Rattle.std.proofs.lemmas.Bool.Decides.{nat_tests}
use Rattle.dddmp_text.specs.Ranks.{comes_before, place_of, rank_of, variable_of}
use Rattle.diagram_dumps.specs.Dumps.{place_among}
use Rattle.dddmp_text.proofs.Counting.{count-more, count-most}
use Rattle.dddmp_text.proofs.Lookups.{place_among-is}

abbrev pub count : (ℕ → Bool) → ℕ → ℕ
count p n = count_by p (range_with_len 0 n)

pub count-suc : (p : ℕ → Bool) (n : ℕ) → count p (suc n) ≡ count p n + (if p n then 1 else 0)
count-suc p n = ap (count p) (sym (add-one n)) ∙ count-more p n

pub bit-le : (a b : Bool) → (a ≡ true → b ≡ true) → (if a then 1 else 0) ≤ (if b then 1 else 0)
bit-le false b h = omega arith
bit-le true true h = omega arith
bit-le true false h = let e : false ≡ true = h refl in absurd cc

pub count-le : (p q : ℕ → Bool) (n : ℕ) → ((k : ℕ) → k < n → p k ≡ true → q k ≡ true) → count p n ≤ count q n
count-le p q zero h = omega arith
count-le p q (suc n) h =
    let before : count p n ≤ count q n = count-le p q n (λ k below. let next : k < suc n = omega arith in h k next) in
    let last : n < suc n = omega arith in
    omega (arith, before, count-suc p n, count-suc q n, bit-le (p n) (q n) (h n last))

-- more numbers pass, and one of them did not before
count-lt : (p q : ℕ → Bool) (n at : ℕ) → ((k : ℕ) → k < n → p k ≡ true → q k ≡ true) → at < n → p at ≡ false → q at ≡ true → count p n < count q n
count-lt p q zero at h within fails passes = omega arith
count-lt p q (suc n) at h within fails passes = by_last (nat_lt at n) refl (λ lower. count-lt p q n at below lower fails passes)
  where
    below : (k : ℕ) → k < n → p k ≡ true → q k ≡ true
    below k lower = let next : k < suc n = omega arith in h k next

    last : n < suc n
    last = omega arith

    by_last : (b : Bool) → nat_lt at n ≡ b → (at < n → count p n < count q n) → count p (suc n) < count q (suc n)
    by_last true e sooner =
        let lower : at < n = grind (arith, nat_tests) in
        omega (arith, sooner lower, count-suc p n, count-suc q n, bit-le (p n) (q n) (h n last))
    by_last false e sooner =
        let same : at ≡ n = grind (arith, nat_tests) in
        let without : ◌≡◌ {A = ℕ} (if p n then 1 else 0) 0 = ap (λ b. if b then 1 else 0) (ap p (sym same) ∙ fails) in
        let with : ◌≡◌ {A = ℕ} (if q n then 1 else 0) 1 = ap (λ b. if b then 1 else 0) (ap q (sym same) ∙ passes) in
        omega (arith, count-le p q n below, count-suc p n, count-suc q n, without, with)

-- an entry and its place come before those of another
abbrev pub before : ℕ → ℕ → ℕ → ℕ → Bool
before x i y j = nat_lt x y || (x == y && nat_lt i j)

before-self : (x i : ℕ) → before x i x i ≡ false
before-self x i = grind (arith, nat_tests)

before-trans : (x i y j z k : ℕ) → before x i y j ≡ true → before y j z k ≡ true → before x i z k ≡ true
before-trans x i y j z k first second = grind (arith, nat_tests)

pub before-total : (x i y j : ℕ) → i ≢ j → (before x i y j ≡ true) ⊎ (before y j x i ≡ true)
before-total x i y j apart = by_tests (before x i y j) (before y j x i) refl refl
  where
    by_tests : (a b : Bool) → before x i y j ≡ a → before y j x i ≡ b → (before x i y j ≡ true) ⊎ (before y j x i ≡ true)
    by_tests true b first second = inl first
    by_tests false true first second = inr second
    by_tests false false first second = absurd (grind (arith, nat_tests))

rank-lt : (entries : List ℕ) (i j : ℕ) → i < length entries → comes_before entries i j ≡ true → rank_of entries i < rank_of entries j
rank-lt entries i j within earlier =
    count-lt (λ k. comes_before entries k i) (λ k. comes_before entries k j) (length entries) i
    (λ k _ h. before-trans (slice_index entries k) k (slice_index entries i) i (slice_index entries j) j h earlier) within (before-self (slice_index entries i) i) earlier

-- a rank is below the number of entries
pub rank-below : (entries : List ℕ) (i : ℕ) → i < length entries → rank_of entries i < length entries
rank-below entries i within =
    omega (arith, count-most (λ _. true) (length entries), count-lt (λ k. comes_before entries k i) (λ _. true) (length entries) i (λ _ _ _. refl) within (before-self (slice_index entries i) i) refl)

pub rank-injective : (entries : List ℕ) (i j : ℕ) → i < length entries → j < length entries → rank_of entries i ≡ rank_of entries j → i ≡ j
rank-injective entries i j first second same = by_test (i == j) refl
  where
    by_test : (b : Bool) → (i == j) ≡ b → i ≡ j
    by_test true e = eqb-true i j e
    by_test false e =
        let apart : i ≢ j = grind (arith, nat_tests) in
        elim (before-total (slice_index entries i) i (slice_index entries j) j apart) [
          | inl h ↦ omega (arith, same, rank-lt entries i j first h)
          | inr h ↦ omega (arith, same, rank-lt entries j i second h)
        ]

-- the only number that passes is found
find-only : (p : ℕ → Bool) (a n i : ℕ) → a ≤ i → i < a + n → p i ≡ true → ((k : ℕ) → a ≤ k → k < a + n → p k ≡ true → k ≡ i) → find p (range_with_len a n) ≡ Some i
find-only p a zero i from to passes only = absurd (omega arith)
find-only p a (suc n) i from to passes only =
    by_first (p a) refl (λ beyond. find-only p (a + 1) n i beyond (omega arith) passes (λ k low high. only k (omega arith) (omega arith)))
  where
    first : a < a + suc n
    first = omega arith

    by_first : (b : Bool) → p a ≡ b → (a + 1 ≤ i → find p (range_with_len (a + 1) n) ≡ Some i) → (if b then Some a else find p (range_with_len (a + 1) n)) ≡ Some i
    by_first true e later = ap Some (only a (omega arith) first e)
    by_first false e later =
        let apart : a ≢ i = λ same. let bad : true ≡ false = sym passes ∙ ap p (sym same) ∙ e in cc in
        later (omega arith)

pub place_of-rank : (entries : List ℕ) (i : ℕ) → i < length entries → place_of entries (rank_of entries i) ≡ i
place_of-rank entries i within =
    ap (λ (o : Option ℕ). unwrap_or o 0)
    (find-only (λ k. rank_of entries k == rank_of entries i) 0 (length entries) i (omega arith) (omega arith) (eq-eqb (rank_of entries i) (rank_of entries i) refl)
    (λ k _ high h. let inside : k < length entries = omega arith in rank-injective entries k i inside within (eqb-true (rank_of entries k) (rank_of entries i) h)))

-- the variable of the internal index of a variable
pub variable_of-rank : (ids permids : List ℕ) (var : ℕ) → length permids ≡ length ids → Contains ids var → variable_of ids permids (rank_of permids (place_among ids var)) ≡ var
variable_of-rank ids permids var as_many has =
    let at = place_among-is ids var has in
    let within : place_among ids var < length permids = omega (arith, at.0) in
    ap (λ i. get_or ids i 0) (place_of-rank permids (place_among ids var) within) ∙ at.1
