-- Cases of truth values.
use Rattle.std.proofs.Common.{◌≡◌, Bool, true, false, ◌&&◌, refl}

pub by_bool : {P : Type 0} (b : Bool) → (b ≡ true → P) → (b ≡ false → P) → P
by_bool true a b = a refl
by_bool false a b = b refl

pub both_true : (x y : Bool) → (x && y) ≡ true → (x ≡ true) × (y ≡ true)
both_true true true e = (refl, refl)
both_true true false e = cc
both_true false y e = cc
