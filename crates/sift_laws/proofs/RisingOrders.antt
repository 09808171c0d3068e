-- Functions under the variables 0, 1, 2, .. from the top.
use Rattle.std.proofs.Common.{◌≡◌, ℕ, zero, suc, ◌<◌, ◌⊎◌, inl, inr, Bool, true, List, [], ◌∷◌, length, map, sym, subst, arith}
use Rattle.std.specs.Prelude.{All, Contains, slice_index_or}
use Rattle.std.specs.List.{range_with_len}
use Rattle.std.proofs.lemmas.List.Elements.{All-contains, All-map}
use Rattle.std.proofs.lemmas.List.FromFn.{get_or-range_with_len, length-range_with_len}
use Rattle.function_laws.specs.declared.orders.Order.TheVariants.{Variables}
use Rattle.function_laws.specs.Kinds.{Denoted, BddFunction, AddFunction, ZddFamily}
use Rattle.function_laws.specs.Sizes.{Orders, is_one, order_of}
use Rattle.function_laws.proofs.DistinctLemmas.{In}
use Rattle.sift_laws.specs.Alike.{AllAmong, FitsElements, SiftsGoByFunctions, rising_orders, whole_block}
use Rattle.sift_laws.proofs.MatchedParts.{IsFit}
use Rattle.sift_laws.proofs.PartsAlike.{same_order}
use Rattle.sift_laws.proofs.AlikeLaws.{Paired, sifted_same}

-- between `In` and std's words
Contains-In : {X : Type 0} (xs : List X) (x : X) → Contains xs x → In x xs
Contains-In [] x h = absurd (let lt = h.1 in omega arith)
Contains-In (y ∷ ys) x h = by h.0 h.1 h.2 (λ k lt e. Contains-In ys x (k, lt, e))
  where
    by : (k : ℕ) → k < suc (length ys) → slice_index_or (y ∷ ys) k x ≡ x → ((j : ℕ) → j < length ys → slice_index_or ys j x ≡ x → In x ys) → (x ≡ y) ⊎ In x ys
    by zero lt e rest = inl (sym e)
    by (suc k) lt e rest = inr (rest k (omega arith) e)

All-In : {X : Type 0} (P : X → Type 0) (xs : List X) → All P xs → (x : X) → In x xs → P x
All-In P [] all x i = absurd i
All-In P (y ∷ ys) all x (inl e) = subst P (sym e) (all 0 y (omega arith))
All-In P (y ∷ ys) all x (inr i) = All-In P ys (λ k d lt. all (suc k) d (omega arith)) x i

range_below : (n : ℕ) → All (λ v. v < length (range_with_len 0 n)) (range_with_len 0 n)
range_below n k d lt =
    let long = length-range_with_len 0 n in
    subst (λ v. v < length (range_with_len 0 n)) (sym (get_or-range_with_len 0 n k d (omega arith))) (omega arith)

range_fit : (n : ℕ) → IsFit (range_with_len 0 n)
range_fit n = All-In (λ v. v < length (range_with_len 0 n)) (range_with_len 0 n) (range_below n)

-- functions under rising variables
module _ (n : ℕ) (elements : List ℕ) where
  fit_order : (f : Denoted) → FitsElements elements f → IsFit (order_of (rising_orders n elements) f)
  fit_order (BddFunction f) fits = range_fit n
  fit_order (AddFunction f) fits = range_fit n
  fit_order (ZddFamily p) fits = All-In (λ e. e < length elements) elements fits

  paired_there : (fs gs : List Denoted) → All (FitsElements elements) fs → AllAmong (rising_orders n elements) fs gs → Paired (rising_orders n elements) fs gs
  paired_there fs gs fits among f i =
      let g = All-In (λ (f : Denoted). (g : Denoted) × Contains gs g × (is_one (rising_orders n elements) f g ≡ true)) fs among f i in
      (g.0, Contains-In gs g.0 g.1, fit_order f (All-In (FitsElements elements) fs fits f i), g.2)

  paired_back : (fs gs : List Denoted) → All (FitsElements elements) fs → AllAmong (rising_orders n elements) gs fs → Paired (rising_orders n elements) gs fs
  paired_back fs gs fits among g i =
      let f = All-In (λ (g : Denoted). (f : Denoted) × Contains fs f × (is_one (rising_orders n elements) g f ≡ true)) gs among g i in
      let at : In f.0 fs = Contains-In fs f.0 f.1 in
      let fit : IsFit (order_of (rising_orders n elements) f.0) = fit_order f.0 (All-In (FitsElements elements) fs fits f.0 at) in
      (f.0, at, subst IsFit (sym (same_order (rising_orders n elements) g f.0 f.2)) fit, f.2)

pub sifts_by_functions : SiftsGoByFunctions
sifts_by_functions n elements limit fs gs fits alike =
    sifted_same (rising_orders n elements) Variables (range_fit n) fs gs (paired_there n elements fs gs fits alike.0) (paired_back n elements fs gs fits alike.1) (whole_block n) limit

-- Elements that are 0, 1, 2, .. fit, BDDs do, and functions of which each is one with one that does.
pub fits_rising : (m : ℕ) (fs : List Denoted) → All (FitsElements (range_with_len 0 m)) fs
fits_rising m fs k d lt = fits (slice_index_or fs k d)
  where
    fits : (f : Denoted) → FitsElements (range_with_len 0 m) f
    fits (BddFunction f) = tt
    fits (AddFunction f) = tt
    fits (ZddFamily p) = range_below m

pub fits_bdds : (elements : List ℕ) (fs : List (ℕ → Bool)) → All (FitsElements elements) (map BddFunction fs)
fits_bdds elements fs = All-map (FitsElements elements) BddFunction fs (λ k d lt. tt)

pub fits_among : (orders : Orders) (elements : List ℕ) (fs gs : List Denoted) → AllAmong orders fs gs → All (FitsElements elements) gs → All (FitsElements elements) fs
fits_among orders elements fs gs among fits k d lt =
    let g = among k d lt in fits_as (slice_index_or fs k d) g.0 g.2 (All-contains (FitsElements elements) gs g.0 fits g.1)
  where
    fits_as : (f g : Denoted) → is_one orders f g ≡ true → FitsElements elements g → FitsElements elements f
    fits_as (BddFunction f) g one h = tt
    fits_as (AddFunction f) g one h = tt
    fits_as (ZddFamily p) (BddFunction g) one h = cc
    fits_as (ZddFamily p) (AddFunction g) one h = cc
    fits_as (ZddFamily p) (ZddFamily q) one h = h
