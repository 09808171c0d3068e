-- One pair of a list settles whether its variable is put.
use Rattle.std.proofs.Common.{◌≡◌, ℕ, zero, suc, ◌<◌, ◌==◌, ◌||◌, Bool, true, false, List, [], ◌∷◌, map, length, get_or, refl, ap, ◌∙◌, arith, eq-eqb}
use Rattle.std.specs.List.{list_any}

or_true : (b : Bool) → (b || true) ≡ true
or_true true = refl
or_true false = refl

pub put-at : {X : Type 0} (pairs : List (ℕ × X)) (var i : ℕ) (d : ℕ × X) → i < length pairs → (get_or pairs i d).0 ≡ var → list_any (λ u. u == var) (map (λ pair. pair.0) pairs) ≡ true
put-at [] var i d less is = absurd (omega (arith, less))
put-at (pair ∷ pairs) var zero d less is = ap (λ b. b || list_any (λ u. u == var) (map (λ p. p.0) pairs)) (eq-eqb pair.0 var is)
put-at (pair ∷ pairs) var (suc i) d less is = ap (λ b. (pair.0 == var) || b) (put-at pairs var i d (omega (arith, less)) is) ∙ or_true (pair.0 == var)
