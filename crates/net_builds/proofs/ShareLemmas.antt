-- What several workers get of a list.
use Rattle.std.proofs.Common.{◌≡◌, ℕ, zero, suc, pred, ◌+◌, ◌*◌, ◌%◌, ◌/◌, ◌<◌, ◌≤◌, List, [], ◌∷◌, length, map, refl, ap, ◌∙◌, arith, All}
use Rattle.std.specs.Prelude.{slice_get}
use Rattle.std.proofs.Math.Nat.{mod-add-div'}
use Rattle.std.proofs.lemmas.List.Elements.{All-cons, All-head, All-nil, All-tail}
use Rattle.net_builds.specs.Outputs.{share}

pub share_map : {X Y : Type 0} (f : X → Y) (k step : ℕ) (xs : List X) → share k step (map f xs) ≡ map f (share k step xs)
share_map f k step [] = refl
share_map f zero step (x ∷ xs) = ap (λ ys. f x ∷ ys) (share_map f (pred step) step xs)
share_map f (suc k) step (x ∷ xs) = share_map f k step xs

pub share_all : {X : Type 0} (P : X → Type 0) (k step : ℕ) (xs : List X) → All P xs → All P (share k step xs)
share_all P k step [] all = All-nil P
share_all P zero step (x ∷ xs) all = All-cons P x (share (pred step) step xs) (All-head P x xs all) (share_all P (pred step) step xs (All-tail P x xs all))
share_all P (suc k) step (x ∷ xs) all = share_all P k step xs (All-tail P x xs all)

pub share_long : {X : Type 0} (k step : ℕ) (xs : List X) → length (share k step xs) ≤ length xs
share_long k step [] = omega arith
share_long zero step (x ∷ xs) = (let rest = share_long (pred step) step xs in omega (arith, rest))
share_long (suc k) step (x ∷ xs) = (let rest = share_long k step xs in omega (arith, rest))

-- where worker k has its q-th
pub share_get : {X : Type 0} (k m q : ℕ) (xs : List X) → slice_get (share k (suc m) xs) q ≡ slice_get xs (k + q * suc m)
share_get k m q [] = refl
share_get zero m zero (x ∷ xs) = ap (slice_get (x ∷ xs)) (let same : zero ≡ 0 + 0 * suc m = omega arith in same)
share_get zero m (suc q) (x ∷ xs) = share_get m m q xs ∙ ap (slice_get (x ∷ xs)) (let same : suc (m + q * suc m) ≡ 0 + suc q * suc m = step in same)
  where
    step : suc (m + q * suc m) ≡ 0 + suc q * suc m
    step = omega arith
share_get (suc k) m q (x ∷ xs) = share_get k m q xs ∙ ap (slice_get (x ∷ xs)) (let same : suc (k + q * suc m) ≡ suc k + q * suc m = omega arith in same)

-- a worker from the length on has none
pub share_none : {X : Type 0} (k step : ℕ) (xs : List X) → length xs ≤ k → share k step xs ≡ []
share_none k step [] past = refl
share_none zero step (x ∷ xs) past = absurd (omega (arith, past))
share_none (suc k) step (x ∷ xs) past = share_none k step xs (omega (arith, past))

-- each is the one of some worker
pub share_at : {X : Type 0} (workers i : ℕ) (xs : List X) → 0 < workers → slice_get (share (i % workers) workers xs) (i / workers) ≡ slice_get xs i
share_at zero i xs some = absurd (omega (arith, some))
share_at (suc m) i xs some = share_get (i % suc m) m (i / suc m) xs ∙ ap (slice_get xs) (mod-add-div' i (suc m))
