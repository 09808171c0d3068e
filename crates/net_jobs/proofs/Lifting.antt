-- What stands behind the values of a list stands behind them in another order.
use Rattle.std.proofs.Common.{◌≡◌, ℕ, ◌<◌, List, [], ◌∷◌, map, length, get_or, set, refl, ap, sym, ◌∙◌, arith}
use Rattle.std.specs.List.{swap}
use Rattle.std.specs.List.Sorted.{IsPermutation}
use Rattle.std.proofs.lemmas.List.{get_or-map, length-map, map-set}
use Rattle.std.proofs.lemmas.List.Edits.{swap_is}
use Rattle.std.proofs.lemmas.List.Sorted.{IsPermutation-keeps, IsPermutation-refl, IsPermutation-swap, IsPermutation-trans}

module _ {Z X : Type 0} (f : Z → X) where
  map-swap : (zs : List Z) (i j : ℕ) → i < length zs → j < length zs → map f (swap zs i j) ≡ swap (map f zs) i j
  map-swap [] i j low high = absurd (omega (arith, low))
  map-swap (z ∷ zs) i j low high = by (z ∷ zs) z low high
    where
      by : (all : List Z) (d : Z) → i < length all → j < length all → map f (swap all i j) ≡ swap (map f all) i j
      by all d low high =
          let n = length-map all f in
          ap (map f) (sym (swap_is all i j d low high))
          ∙ map-set f (set all i (get_or all j d)) j (get_or all i d)
          ∙ ap (λ l. set l j (f (get_or all i d))) (map-set f all i (get_or all j d))
          ∙ ap (λ x. set (set (map f all) i x) j (f (get_or all i d))) (sym (get_or-map f all j d (f d) high))
          ∙ ap (λ x. set (set (map f all) i (get_or (map f all) j (f d))) j x) (sym (get_or-map f all i d (f d) low))
          ∙ swap_is (map f all) i j (f d) (omega (arith, low, n)) (omega (arith, high, n))

  -- a list with these values, in the other order
  pub lifted : (zs : List Z) (ys : List X) → IsPermutation (map f zs) ys → (ws : List Z) × (map f ws ≡ ys) × IsPermutation zs ws
  lifted zs ys permutes = IsPermutation-keeps (map f zs) (λ l. (ws : List Z) × (map f ws ≡ l) × IsPermutation zs ws) (zs, refl, IsPermutation-refl zs) step ys permutes
    where
      step : (l : List X) (i j : ℕ) → i < length l → j < length l → (ws : List Z) × (map f ws ≡ l) × IsPermutation zs ws → (ws : List Z) × (map f ws ≡ swap l i j) × IsPermutation zs ws
      step l i j low high (ws, is, permutes) =
          let n = length-map ws f in
          let same = ap length is in
          let below : i < length ws = omega (arith, low, n, same) in
          let above : j < length ws = omega (arith, high, n, same) in (
            swap ws i j,
            map-swap ws i j below above ∙ ap (λ m. swap m i j) is,
            IsPermutation-trans zs ws (swap ws i j) permutes (IsPermutation-swap ws (swap ws i j) i j below above refl),
          )
