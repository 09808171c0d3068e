-- A list and its inverse are an order, and where each of it stands.
use Rattle.std.proofs.Common.{◌≡◌, ℕ, zero, suc, ◌<◌, Bool, true, false, cond, List, [], ◌∷◌, length, eqb, eqb-true, eq-eqb, refl, ap, sym, ◌∙◌, arith}
use Rattle.std.specs.Prelude.{slice_index}
use Rattle.function_laws.specs.SiftedOrders.{place_of}
use Rattle.node_store.specs.Contents.{IsOrder}
use Rattle.node_slots.specs.Stores.{AreInverse}

-- what stands at one place alone
pub place_is : (xs : List ℕ) (v i : ℕ) → i < length xs → slice_index xs i ≡ v → ((j : ℕ) → j < length xs → slice_index xs j ≡ v → j ≡ i) → place_of v xs ≡ i
place_is [] v i lt here once = absurd (omega arith)
place_is (x ∷ xs) v zero lt here once = ap (λ b. cond b 0 (suc (place_of v xs))) (eq-eqb x v here)
place_is (x ∷ xs) v (suc i) lt here once =
    at (eqb x v) refl (place_is xs v i (omega arith) here (λ j less e. let s : suc j ≡ suc i = once (suc j) (omega arith) e in omega (arith, s)))
  where
    at : (b : Bool) → eqb x v ≡ b → place_of v xs ≡ i → cond b 0 (suc (place_of v xs)) ≡ suc i
    at true e h = absurd (let z : 0 ≡ suc i = once 0 (omega arith) (eqb-true x v e) in omega (arith, z))
    at false e h = ap suc h

-- the levels are those of an order
pub record IsOrderOf (levels at : List ℕ) : Type 0 where
  pub order : IsOrder at
  pub place : (v : ℕ) → v < length levels → place_of v at ≡ slice_index levels v

pub order_of_levels : (levels at : List ℕ) → AreInverse levels at → ((v : ℕ) → v < length levels → slice_index levels v < length levels)
    → ((u v : ℕ) → u < length levels → v < length levels → slice_index levels u ≡ slice_index levels v → u ≡ v) → IsOrderOf levels at
order_of_levels levels at inverse within alone = record {
  order = record {
    below = λ l lt. (let b = (inverse.each l lt).0 in omega (arith, b, long));
    once = λ l lt. (let e = inverse.each l lt in place (slice_index at l) e.0 ∙ e.1);
    stands = λ v lt. (let p = place v (omega (arith, lt, long)) in let w = within v (omega (arith, lt, long)) in omega (arith, p, w, long));
    there = λ v lt. (let less : v < length levels = omega (arith, lt, long) in ap (slice_index at) (place v less) ∙ at_level v less);
  };
  place = place;
}
  where
    long : length at ≡ length levels
    long = inverse.as_many

    at_level : (v : ℕ) → v < length levels → slice_index at (slice_index levels v) ≡ v
    at_level v lt =
        let w = within v lt in
        let e = inverse.each (slice_index levels v) (omega (arith, w, long)) in
        alone (slice_index at (slice_index levels v)) v e.0 lt e.1

    place : (v : ℕ) → v < length levels → place_of v at ≡ slice_index levels v
    place v lt = place_is at v (slice_index levels v) (let w = within v lt in omega (arith, w, long)) (at_level v lt)
        (λ j less e. sym ((inverse.each j less).1) ∙ ap (slice_index levels) e)
