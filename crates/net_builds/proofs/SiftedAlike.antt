-- The functions that a sift pinned and the wanted ones are alike, where each of either list is one with one of the other.
use Rattle.std.proofs.Common.{◌≡◌, ℕ, zero, suc, ◌<◌, ◌^◌, Bool, true, List, [], ◌∷◌, length, map, refl, inl, inr, arith, All}
use Rattle.std.specs.List.{Contains}
use Rattle.std.proofs.lemmas.List.Elements.{All-cons, All-nil}
use Rattle.std.proofs.lemmas.List.FromFn.{length-range_with_len}
use Rattle.function_laws.specs.declared.history.Function.{Function}
use Rattle.function_laws.specs.declared.history.Function.TheVariants.{Bdd}
use Rattle.function_laws.specs.declared.orders.Order.TheVariants.{Variables}
use Rattle.function_laws.specs.Kinds.{Denoted, BddFunction, AddFunction, ZddFamily}
use Rattle.function_laws.specs.Lists.{list_of}
use Rattle.function_laws.specs.SessionEntries.{Each}
use Rattle.function_laws.specs.SiftEntries.{AreOne, IsAmong}
use Rattle.function_laws.specs.SiftedOrders.{sifted}
use Rattle.function_laws.specs.Sizes.{Orders, is_one}
use Rattle.function_laws.proofs.OneFunctions.{is_one-sym}
use Rattle.sift_laws.specs.Alike.{AllAmong, FitsElements, SiftsGoByFunctions, WholesAreAlike, rising_orders, whole_block}
use Rattle.net_builds.specs.Sifting.{sifted_order}
use Rattle.net_builds.specs.Standings.{whole_in}

pub contains-later : {X : Type 0} (x y : X) (ys : List X) → Contains ys x → Contains (y ∷ ys) x
contains-later x y ys (k, inside, is) = (suc k, omega (arith, inside), is)

pub contains-map : {X Y : Type 0} (f : X → Y) (x : X) (xs : List X) → Contains xs x → Contains (map f xs) (f x)
contains-map f x [] (k, inside, is) = absurd (omega (arith, inside))
contains-map f x (y ∷ xs) (zero, inside, is) = (0, omega arith, λ k. f (is k))
contains-map f x (y ∷ xs) (suc k, inside, is) = contains-later (f x) (f y) (map f xs) (contains-map f x xs (k, omega (arith, inside), is))

-- the function is one with one of these
abbrev pub IsWanted : ℕ → List (ℕ → Bool) → Function → Type 0
IsWanted n wanted f = (g : ℕ → Bool) × Contains wanted g × AreOne f (Bdd (list_of (2 ^ n) g))

module _ (wholes : WholesAreAlike) (n : ℕ) (wanted : List (ℕ → Bool)) where
  abbrev orders : Orders
  orders = rising_orders n []

  wide : length orders.variables ≡ n
  wide = length-range_with_len 0 n

  wanted_one : (m : ℕ) (p : Denoted) → IsWanted n wanted (whole_in n m p) → (q : Denoted) × Contains (map BddFunction wanted) q × (is_one orders p q ≡ true)
  wanted_one m (BddFunction f) (g, among, one) = (BddFunction g, contains-map BddFunction g wanted among, wholes orders n f g wide one)
  wanted_one m (AddFunction f) (g, among, one) = absurd (cc one)
  wanted_one m (ZddFamily f) (g, among, one) = absurd (cc one)

  all_wanted : (m : ℕ) (pinned : List Denoted) → Each (IsWanted n wanted) (map (whole_in n m) pinned) → AllAmong orders pinned (map BddFunction wanted)
  all_wanted m [] each = All-nil (λ (f : Denoted). (g : Denoted) × Contains (map BddFunction wanted) g × (is_one orders f g ≡ true))
  all_wanted m (p ∷ pinned) each =
      All-cons (λ (f : Denoted). (g : Denoted) × Contains (map BddFunction wanted) g × (is_one orders f g ≡ true)) p pinned (wanted_one m p each.0) (all_wanted m pinned each.1)

  one_pinned : (m : ℕ) (p : Denoted) (g : ℕ → Bool) → AreOne (whole_in n m p) (Bdd (list_of (2 ^ n) g)) → is_one orders (BddFunction g) p ≡ true
  one_pinned m (BddFunction f) g one = is_one-sym orders (BddFunction f) (BddFunction g) (wholes orders n f g wide one)
  one_pinned m (AddFunction f) g one = absurd (cc one)
  one_pinned m (ZddFamily f) g one = absurd (cc one)

  some_pinned : (m : ℕ) (pinned : List Denoted) (g : ℕ → Bool) → IsAmong (map (whole_in n m) pinned) (Bdd (list_of (2 ^ n) g))
      → (p : Denoted) × Contains pinned p × (is_one orders (BddFunction g) p ≡ true)
  some_pinned m [] g among = absurd among
  some_pinned m (p ∷ pinned) g (inl one) = (p, (0, omega arith, refl), one_pinned m p g one)
  some_pinned m (p ∷ pinned) g (inr among) = let later = some_pinned m pinned g among in (later.0, contains-later later.0 p pinned later.1, later.2)

  all_pinned : (m : ℕ) (pinned : List Denoted) (gs : List (ℕ → Bool)) → All (λ (g : ℕ → Bool). IsAmong (map (whole_in n m) pinned) (Bdd (list_of (2 ^ n) g))) gs
      → AllAmong orders (map BddFunction gs) pinned
  all_pinned m pinned [] all = All-nil (λ (f : Denoted). (p : Denoted) × Contains pinned p × (is_one orders f p ≡ true))
  all_pinned m pinned (g ∷ gs) all =
      All-cons (λ (f : Denoted). (p : Denoted) × Contains pinned p × (is_one orders f p ≡ true)) (BddFunction g) (map BddFunction gs) (some_pinned m pinned g (all 0 g (omega arith)))
      (all_pinned m pinned gs (λ k d inside. all (suc k) d (omega (arith, inside))))

  fits : (p : Denoted) → FitsElements [] p
  fits (BddFunction f) = tt
  fits (AddFunction f) = tt
  fits (ZddFamily f) = All-nil (λ (e : ℕ). e < 0)

  -- so they are sifted alike
  pub sifted_alike : SiftsGoByFunctions → (limit m : ℕ) (pinned : List Denoted) → Each (IsWanted n wanted) (map (whole_in n m) pinned)
      → All (λ (g : ℕ → Bool). IsAmong (map (whole_in n m) pinned) (Bdd (list_of (2 ^ n) g))) wanted
      → (sifted orders Variables (whole_block n) limit pinned).order ≡ sifted_order limit n wanted
  sifted_alike by_functions limit m pinned each all =
      let same : sifted orders Variables (whole_block n) limit pinned ≡ sifted orders Variables (whole_block n) limit (map BddFunction wanted) =
      by_functions n [] limit pinned (map BddFunction wanted) (λ k d inside. fits _) (all_wanted m pinned each, all_pinned m pinned wanted all) in
      λ k. (same k).order
