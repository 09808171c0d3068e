-- Lists of four values.
use Rattle.std.proofs.Common.{◌≡◌, ℕ, ◌^◌, ◌<◌, sym, refl, subst, IsTrue}
use Rattle.std.proofs.Math.Pow.{pow-lt}
use Rattle.function_laws.specs.Lists.{is_size}

four : IsTrue (is_size 4)
unfolding is_size
four = refl

pub size_of_four : (n : ℕ) → n ≡ 4 → IsTrue (is_size n)
size_of_four n is = let P : ℕ → Type 0 = λ m. IsTrue (is_size m) in subst P (sym is) four

pub variable_of_four : (n var : ℕ) → n ≡ 4 → var < 2 → 2 ^ var < n
variable_of_four n var is below = let P : ℕ → Type 0 = λ m. 2 ^ var < m in subst P (sym is) (pow-lt below)
