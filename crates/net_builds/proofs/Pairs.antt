-- Two lists whose elements are so, place by place.
use Rattle.std.proofs.Common.{◌≡◌, ℕ, zero, suc, ◌+◌, ◌<◌, ◌≤◌, List, [], ◌∷◌, length, map, set, refl, ap, sym, ◌∙◌, subst, arith, Some, All}
use Rattle.std.specs.Prelude.{slice_get}
use Rattle.std.specs.List.{AllZip, Contains}
use Rattle.std.proofs.lemmas.List.Elements.{All-cons, All-head, All-nil, All-tail}
use Rattle.std.proofs.lemmas.Option.{none-some, same_Some}
use Rattle.net_builds.specs.Handings.{PairsFrom}

module _ {X : Type 0} (R : X → X → Type 0) where
  pub zip_same : ((x : X) → R x x) → (xs : List X) → AllZip R xs xs
  zip_same same [] = tt
  zip_same same (x ∷ xs) = (same x, zip_same same xs)

  pub zip_weaker : (S : X → X → Type 0) → ((x y : X) → R x y → S x y) → (xs ys : List X) → AllZip R xs ys → AllZip S xs ys
  zip_weaker S weaker [] [] all = tt
  zip_weaker S weaker [] (y ∷ ys) all = absurd all
  zip_weaker S weaker (x ∷ xs) [] all = absurd all
  zip_weaker S weaker (x ∷ xs) (y ∷ ys) all = (weaker x y all.0, zip_weaker S weaker xs ys all.1)

  pub zip_then : (S T : X → X → Type 0) → ((x y z : X) → R x y → S y z → T x z) → (xs ys zs : List X) → AllZip R xs ys → AllZip S ys zs → AllZip T xs zs
  zip_then S T and [] [] [] first second = tt
  zip_then S T and [] [] (z ∷ zs) first second = absurd second
  zip_then S T and [] (y ∷ ys) zs first second = absurd first
  zip_then S T and (x ∷ xs) [] zs first second = absurd first
  zip_then S T and (x ∷ xs) (y ∷ ys) [] first second = absurd second
  zip_then S T and (x ∷ xs) (y ∷ ys) (z ∷ zs) first second = (and x y z first.0 second.0, zip_then S T and xs ys zs first.1 second.1)

  -- one was changed, and each other one is as it was
  pub zip_set : ((x : X) → R x x) → (xs : List X) (i : ℕ) (x y : X) → slice_get xs i ≡ Some x → R x y → AllZip R xs (set xs i y)
  zip_set same [] i x y at is = absurd (none-some x at)
  zip_set same (w ∷ xs) zero x y at is = (subst (λ v. R v y) (sym (same_Some w x at)) is, zip_same same xs)
  zip_set same (w ∷ xs) (suc i) x y at is = (same w, zip_set same xs i x y at is)

  -- where an element went
  pub zip_contains : (xs ys : List X) (x : X) → AllZip R xs ys → Contains xs x → (y : X) × Contains ys y × R x y
  zip_contains [] ys x all (i, inside, is) = absurd (omega (arith, inside))
  zip_contains (w ∷ xs) [] x all there = absurd all
  zip_contains (w ∷ xs) (y ∷ ys) x all (zero, inside, is) = (y, (0, omega arith, refl), subst (λ v. R v y) is all.0)
  zip_contains (w ∷ xs) (y ∷ ys) x all (suc i, inside, is) =
      let rest = zip_contains xs ys x all.1 (i, omega (arith, inside), is) in
      (rest.0, (suc rest.1.0, omega (arith, rest.1.1), rest.1.2), rest.2)

  -- what holds of an element and of its partner
  pub zip_all : (P Q : X → Type 0) → ((x y : X) → R x y → P x → Q y) → (xs ys : List X) → AllZip R xs ys → All P xs → All Q ys
  zip_all P Q step [] [] all held = All-nil Q
  zip_all P Q step [] (y ∷ ys) all held = absurd all
  zip_all P Q step (x ∷ xs) [] all held = absurd all
  zip_all P Q step (x ∷ xs) (y ∷ ys) all held = All-cons Q y ys (step x y all.0 (All-head P x xs held)) (zip_all P Q step xs ys all.1 (All-tail P x xs held))

  pub zip_at : (xs ys : List X) (i : ℕ) (x y : X) → AllZip R xs ys → slice_get xs i ≡ Some x → slice_get ys i ≡ Some y → R x y
  zip_at [] ys i x y all at at' = absurd (none-some x at)
  zip_at (w ∷ xs) [] i x y all at at' = absurd all
  zip_at (w ∷ xs) (v ∷ ys) zero x y all at at' = subst (λ b. R x b) (same_Some v y at') (subst (λ a. R a v) (same_Some w x at) all.0)
  zip_at (w ∷ xs) (v ∷ ys) (suc i) x y all at at' = zip_at xs ys i x y all.1 at at'

module _ {X Y : Type 0} (R S : ℕ → X → Y → Type 0) where
  pub from_weaker : (k : ℕ) (xs : List X) (ys : List Y) → ((j : ℕ) (x : X) (y : Y) → k ≤ j → j < k + length xs → R j x y → S j x y) → PairsFrom R k xs ys → PairsFrom S k xs ys
  from_weaker k [] [] weaker all = tt
  from_weaker k [] (y ∷ ys) weaker all = absurd all
  from_weaker k (x ∷ xs) [] weaker all = absurd all
  from_weaker k (x ∷ xs) (y ∷ ys) weaker all = (
    weaker k x y (omega arith) (omega arith) all.0,
    from_weaker (suc k) xs ys (λ j a b low high. weaker j a b (omega (arith, low)) (omega (arith, high))) all.1,
  )

  -- one of the second list was changed
  pub from_set : (k : ℕ) (xs : List X) (ys : List Y) (i : ℕ) (y z : Y) → slice_get ys i ≡ Some y
      → ((x : X) → slice_get xs i ≡ Some x → R (k + i) x y → S (k + i) x z) → ((j : ℕ) (a : X) (b : Y) → k ≤ j → j < k + length xs → (j ≡ k + i → ⊥) → R j a b → S j a b)
      → PairsFrom R k xs ys → PairsFrom S k xs (set ys i z)
  from_set k [] [] i y z at here others all = absurd (none-some y at)
  from_set k [] (w ∷ ys) i y z at here others all = absurd all
  from_set k (x ∷ xs) [] i y z at here others all = absurd all
  from_set k (x ∷ xs) (w ∷ ys) zero y z at here others all =
      let same : k + 0 ≡ k = omega arith in (
        subst (λ j. S j x z) same (here x refl (subst (λ j. R j x y) (sym same) (subst (R k x) (same_Some w y at) all.0))),
        from_weaker (suc k) xs ys (λ j a b low high. others j a b (omega (arith, low)) (omega (arith, high)) (λ e. omega (arith, low, e))) all.1,
      )
  from_set k (x ∷ xs) (w ∷ ys) (suc i) y z at here others all =
      let same : k + suc i ≡ suc k + i = omega arith in (
        others k x w (omega arith) (omega arith) (λ e. omega (arith, e)) all.0,
        from_set (suc k) xs ys i y z at (λ a there r. subst (λ j. S j a z) same (here a there (subst (λ j. R j a y) (sym same) r)))
            (λ j a b low high apart. others j a b (omega (arith, low)) (omega (arith, high)) (λ e. apart (e ∙ same))) all.1,
      )

-- two lists of pairs, one behind the other
pub from_long : {X Y : Type 0} (R : ℕ → X → Y → Type 0) (k : ℕ) (xs : List X) (ys : List Y) → PairsFrom R k xs ys → length ys ≡ length xs
from_long R k [] [] all = refl
from_long R k [] (y ∷ ys) all = absurd all
from_long R k (x ∷ xs) [] all = absurd all
from_long R k (x ∷ xs) (y ∷ ys) all = omega (arith, from_long R (suc k) xs ys all.1)

pub from_at : {X Y : Type 0} (R : ℕ → X → Y → Type 0) (k : ℕ) (xs : List X) (ys : List Y) (i : ℕ) (x : X) (y : Y) → PairsFrom R k xs ys → slice_get xs i ≡ Some x → slice_get ys i ≡ Some y → R (k + i) x y
from_at R k [] ys i x y all at at' = absurd (none-some x at)
from_at R k (w ∷ xs) [] i x y all at at' = absurd all
from_at R k (w ∷ xs) (v ∷ ys) zero x y all at at' =
    subst (λ j. R j x y) (let same : k ≡ k + 0 = omega arith in same) (subst (R k x) (same_Some v y at') (subst (λ a. R k a v) (same_Some w x at) all.0))
from_at R k (w ∷ xs) (v ∷ ys) (suc i) x y all at at' = subst (λ j. R j x y) (let same : suc k + i ≡ k + suc i = omega arith in same) (from_at R (suc k) xs ys i x y all.1 at at')

pub from_zip : {X : Type 0} (R : ℕ → X → X → Type 0) (S : X → X → Type 0) → ((j : ℕ) (x y : X) → R j x y → S x y) → (k : ℕ) (xs ys : List X) → PairsFrom R k xs ys → AllZip S xs ys
from_zip R S each k [] [] all = tt
from_zip R S each k [] (y ∷ ys) all = absurd all
from_zip R S each k (x ∷ xs) [] all = absurd all
from_zip R S each k (x ∷ xs) (y ∷ ys) all = (each k x y all.0, from_zip R S each (suc k) xs ys all.1)

-- an element of a changed list
pub get_set_same : {X : Type 0} (xs : List X) (i : ℕ) (x y : X) → slice_get xs i ≡ Some x → slice_get (set xs i y) i ≡ Some y
get_set_same [] i x y at = absurd (none-some x at)
get_set_same (w ∷ xs) zero x y at = refl
get_set_same (w ∷ xs) (suc i) x y at = get_set_same xs i x y at

pub get_contains : {X : Type 0} (xs : List X) (i : ℕ) (x : X) → slice_get xs i ≡ Some x → Contains xs x
get_contains [] i x at = absurd (none-some x at)
get_contains (w ∷ xs) zero x at = (0, omega arith, same_Some w x at)
get_contains (w ∷ xs) (suc i) x at = let rest = get_contains xs i x at in (suc rest.0, omega (arith, rest.1), rest.2)

pub map_set : {X Y : Type 0} (f : X → Y) (xs : List X) (i : ℕ) (y : X) → map f (set xs i y) ≡ set (map f xs) i (f y)
map_set f [] i y = refl
map_set f (x ∷ xs) zero y = refl
map_set f (x ∷ xs) (suc i) y = ap (λ l. f x ∷ l) (map_set f xs i y)

-- the partner of an element of the second list
pub from_partner : {X Y : Type 0} (R : ℕ → X → Y → Type 0) (k : ℕ) (xs : List X) (ys : List Y) (i : ℕ) (y : Y) → PairsFrom R k xs ys → slice_get ys i ≡ Some y → (x : X) × (slice_get xs i ≡ Some x) × R (k + i) x y
from_partner R k [] [] i y all at = absurd (none-some y at)
from_partner R k [] (v ∷ ys) i y all at = absurd all
from_partner R k (w ∷ xs) [] i y all at = absurd all
from_partner R k (w ∷ xs) (v ∷ ys) zero y all at = (w, refl, subst (λ j. R j w y) (let same : k ≡ k + 0 = omega arith in same) (subst (R k w) (same_Some v y at) all.0))
from_partner R k (w ∷ xs) (v ∷ ys) (suc i) y all at =
    let rest = from_partner R (suc k) xs ys i y all.1 at in
    (rest.0, rest.1, subst (λ j. R j rest.0 y) (let same : suc k + i ≡ k + suc i = omega arith in same) rest.2)

-- pairs of a list with a second one, and of that with a third one
pub from_then : {X : Type 0} (R : ℕ → X → X → Type 0) (S : X → X → Type 0) (k : ℕ) (xs ys zs : List X) → PairsFrom R k xs ys → AllZip S ys zs → PairsFrom (λ j x z. (y : X) × R j x y × S y z) k xs zs
from_then R S k [] [] [] first second = tt
from_then R S k [] [] (z ∷ zs) first second = absurd second
from_then R S k [] (y ∷ ys) zs first second = absurd first
from_then R S k (x ∷ xs) [] zs first second = absurd first
from_then R S k (x ∷ xs) (y ∷ ys) [] first second = absurd second
from_then R S k (x ∷ xs) (y ∷ ys) (z ∷ zs) first second = ((y, first.0, second.0), from_then R S (suc k) xs ys zs first.1 second.1)
