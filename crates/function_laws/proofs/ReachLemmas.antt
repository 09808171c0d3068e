-- A loop that keeps the least size, the first least place and a count goes as the definition's list of places does.
use Rattle.std.proofs.Common.{◌≡◌, ℕ, zero, suc, ◌+◌, Bool, true, false, cond, min, List, [], ◌∷◌, length, refl, arith}
use Rattle.std.specs.Prelude.{nat_lt}
use Rattle.function_laws.specs.SiftedOrders.{Line, Met, met_at, reach, is_too_large, least_of, first_least}

-- where a loop in one direction stands
pub record Scan : Type 0 where
  pub place : ℕ
  pub least : ℕ
  pub best : Met
  pub count : ℕ

better : Met → Met → Met
better best m = cond (nat_lt m.size best.size) m best

-- after one move to a place
abbrev pub scanned : Line → ℕ → Scan → Scan
scanned line to s = record { place = to; least = min s.least (line.size_at to); best = cond (nat_lt (line.size_at to) s.best.size) (met_at line to) s.best; count = s.count + 1 }

-- the loop, at most so many moves
unfoldable pub scan : Line → (ℕ → ℕ) → ℕ → Scan → Scan
scan line next zero s = s
scan line next (suc steps) s =
    let to = next s.place in
    cond (line.has_room s.place to)
    (cond (is_too_large (line.size_at to) (min s.least (line.size_at to))) (scanned line to s) (scan line next steps (scanned line to s))) s

met_list : Line → (ℕ → ℕ) → ℕ → Scan → List Met
met_list line next steps s = reach line next steps s.place s.least

joins : (line : Line) (least : ℕ) (best : Met) (count to : ℕ) (room large : Bool) (s : Scan) → s.least ≡ least → s.best ≡ best → s.count ≡ count
    → (more : Scan) (rest : List Met)
    → (more.least ≡ least_of (scanned line to s).least rest) × (more.best ≡ first_least (scanned line to s).best rest) × (more.count ≡ (scanned line to s).count + length rest)
    → ((cond room (cond large (scanned line to s) more) s).least ≡ least_of s.least (cond room (met_at line to ∷ cond large [] rest) []))
    × ((cond room (cond large (scanned line to s) more) s).best ≡ first_least s.best (cond room (met_at line to ∷ cond large [] rest) []))
    × ((cond room (cond large (scanned line to s) more) s).count ≡ s.count + length (cond room (met_at line to ∷ cond large [] rest) []))
joins line least best count to false large s a b c more rest h = (refl, refl, omega arith)
joins line least best count to true true s a b c more rest h = (refl, refl, omega arith)
joins line least best count to true false s a b c more rest h = (h.0, h.1, omega (arith, h.2))

pub scan_is : (line : Line) (next : ℕ → ℕ) (steps : ℕ) (s : Scan)
    → ((scan line next steps s).least ≡ least_of s.least (reach line next steps s.place s.least))
    × ((scan line next steps s).best ≡ first_least s.best (reach line next steps s.place s.least))
    × ((scan line next steps s).count ≡ s.count + length (reach line next steps s.place s.least))
unfolding scan reach
scan_is line next zero s = (refl, refl, omega arith)
scan_is line next (suc steps) s =
    joins line s.least s.best s.count (next s.place) (line.has_room s.place (next s.place)) (is_too_large (line.size_at (next s.place)) (min s.least (line.size_at (next s.place))))
    s refl refl refl (scan line next steps (scanned line (next s.place) s))
    (reach line next steps (next s.place) (min s.least (line.size_at (next s.place)))) (scan_is line next steps (scanned line (next s.place) s))
