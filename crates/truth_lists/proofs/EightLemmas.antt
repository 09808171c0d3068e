-- Lists of eight values.
use Rattle.std.proofs.Common.{◌≡◌, ℕ, ◌^◌, ◌<◌, List, get_or, sym, refl, subst, IsTrue}
use Rattle.std.proofs.Math.Pow.{pow-lt}
use Rattle.std.specs.List.{All}
use Rattle.function_laws.specs.Lists.{is_size}

eight : IsTrue (is_size 8)
unfolding is_size
eight = refl

pub size_of_eight : (n : ℕ) → n ≡ 8 → IsTrue (is_size n)
size_of_eight n is = let P : ℕ → Type 0 = λ m. IsTrue (is_size m) in subst P (sym is) eight

pub variable_of_eight : (n var : ℕ) → n ≡ 8 → var < 3 → 2 ^ var < n
variable_of_eight n var is below = let P : ℕ → Type 0 = λ m. 2 ^ var < m in subst P (sym is) (pow-lt below)

pub variables_of_eight : (n : ℕ) (vars : List ℕ) → n ≡ 8 → All (λ var. var < 3) vars → All (λ var. 2 ^ var < n) vars
variables_of_eight n vars is below k d within = variable_of_eight n (get_or vars k d) is (below k d within)
