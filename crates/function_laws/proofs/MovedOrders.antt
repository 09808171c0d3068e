-- A swap of two neighbours moves what stands in one of them on by a place.
use Rattle.std.proofs.Common.{◌≡◌, ℕ, zero, suc, ◌+◌, ◌<◌, ◌≤◌, Bool, true, false, cond, List, [], ◌∷◌, length, refl, ap, ◌∙◌, subst, arith}
use Rattle.std.specs.Prelude.{slice_index, nat_lt}
use Rattle.std.specs.List.{swap, insert, remove}
use Rattle.std.proofs.lemmas.Bool.{ltb-true}
use Rattle.std.proofs.lemmas.List.Edits.{swap_is, length-insert, length-remove}
use Rattle.function_laws.specs.SiftedOrders.{Met, moved, first_least}

pub swap-cons : (z : ℕ) (l : List ℕ) (i j : ℕ) → i < length l → j < length l → swap (z ∷ l) (suc i) (suc j) ≡ z ∷ swap l i j
swap-cons z l i j hi hj = ap (λ x. z ∷ x) (swap_is l i j z hi hj)

down_one : (r : List ℕ) (q v : ℕ) → q < length r → swap (insert r q v) q (suc q) ≡ insert r (suc q) v
down_one [] q v lt = absurd (omega arith)
down_one (z ∷ zs) zero v lt = refl
down_one (z ∷ zs) (suc q) v lt =
    let n = length-insert zs q v (omega arith) in
    swap-cons z (insert zs q v) q (suc q) (omega (arith, n)) (omega (arith, n)) ∙ ap (λ x. z ∷ x) (down_one zs q v (omega arith))

up_one : (r : List ℕ) (q v : ℕ) → q < length r → swap (insert r (suc q) v) q (suc q) ≡ insert r q v
up_one [] q v lt = absurd (omega arith)
up_one (z ∷ zs) zero v lt = refl
up_one (z ∷ zs) (suc q) v lt =
    let n = length-insert zs (suc q) v (omega arith) in
    swap-cons z (insert zs (suc q) v) q (suc q) (omega (arith, n)) (omega (arith, n)) ∙ ap (λ x. z ∷ x) (up_one zs q v (omega arith))

pub moved_down : (order : List ℕ) (p q : ℕ) → p < length order → q + 1 < length order → swap (moved order p q) q (q + 1) ≡ moved order p (q + 1)
moved_down order p q hp hq =
    let n = length-remove order p hp in
    let e : suc q ≡ q + 1 = omega arith in
    subst (λ j. swap (moved order p q) q j ≡ moved order p j) e (down_one (remove order p) q (slice_index order p) (omega (arith, n)))

pub moved_up : (order : List ℕ) (p q : ℕ) → p < length order → q + 1 < length order → swap (moved order p (q + 1)) q (q + 1) ≡ moved order p q
moved_up order p q hp hq =
    let n = length-remove order p hp in
    let e : suc q ≡ q + 1 = omega arith in
    subst (λ j. swap (moved order p j) q j ≡ moved order p q) e (up_one (remove order p) q (slice_index order p) (omega (arith, n)))

pub moved_here : (order : List ℕ) (p : ℕ) → p < length order → moved order p p ≡ order
moved_here [] p lt = absurd (omega arith)
moved_here (z ∷ zs) zero lt = refl
moved_here (z ∷ zs) (suc p) lt = ap (λ x. z ∷ x) (moved_here zs p (omega arith))

-- the first place of the smallest size has no greater size than the one that it began with
pub first_least-least : (best : Met) (ms : List Met) → (first_least best ms).size ≤ best.size
first_least-least best [] = omega arith
first_least-least best (m ∷ ms) = at (nat_lt m.size best.size) refl (first_least-least m ms) (first_least-least best ms)
  where
    at : (b : Bool) → nat_lt m.size best.size ≡ b → (first_least m ms).size ≤ m.size → (first_least best ms).size ≤ best.size → (first_least (cond b m best) ms).size ≤ best.size
    at true e h other = let lt = ltb-true m.size best.size e in omega arith
    at false e h other = other
