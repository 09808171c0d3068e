-- A function that was noted when there were fewer variables or elements is followed in the table as one more comes.
use Rattle.std.proofs.Common.{◌≡◌, ℕ, zero, suc, ◌+◌, ◌-◌, ◌%◌, ◌^◌, ◌<◌, ◌≤◌, Bool, false, ⊎_elim, ◌++◌, length, replicate, refl, sym, ap, ap₂, ◌∙◌, arith, subst, add-one, length-append}
use Rattle.std.proofs.Math.Nat.{pow-suc, pow-le-pow_right, mul-add-mod_self_right, mod-eq_of_lt}
use Rattle.std.proofs.lemmas.Nat.{pow-add}
use Rattle.std.proofs.lemmas.Bool.{cases_lt}
use Rattle.std.proofs.lemmas.List.{get_or_append_left, get_or-append_right, get_or_past}
use Rattle.function_laws.specs.declared.history.Function.{Function}
use Rattle.function_laws.specs.declared.history.Function.TheVariants.{Bdd, Add, Zdd}
use Rattle.function_laws.specs.Lists.{list_of, truth, whole}
use Rattle.function_laws.specs.Tables.{Sizes, with_variable, with_element}
use Rattle.function_laws.proofs.ListLemmas.{list_of-filled, length-list_of, get_or-list_of, list_of-same, truth-list_of}
use Rattle.function_laws.specs.Values.{IsOf}
use Rattle.function_laws.proofs.BridgeLemmas.{list_of-element, list_of-variable}
use Rattle.function_laws.specs.Widening.{at_sizes, IsNotedAt}
use Rattle.function_laws.specs.Steps.{more_variables, more_elements}

twice : (n : ℕ) → 2 ^ (n + 1) ≡ 2 ^ n + 2 ^ n
twice n = rw add-one (omega (arith, pow-suc 2 n))

-- values that come again after 2 ^ n
list_of-again : {X : Type 0} (n : ℕ) (f : ℕ → X) → ((j : ℕ) → j < 2 ^ n → f (2 ^ n + j) ≡ f j) → list_of (2 ^ (n + 1)) f ≡ list_of (2 ^ n) f ++ list_of (2 ^ n) f
list_of-again n f again =
    sym (list_of-filled f (list_of (2 ^ n) f ++ list_of (2 ^ n) f) (2 ^ (n + 1)) (f 0)
    (length-append (list_of (2 ^ n) f) (list_of (2 ^ n) f) ∙ ap₂ (λ a b. a + b) (length-list_of (2 ^ n) f) (length-list_of (2 ^ n) f) ∙ sym (twice n))
    (λ k below. ⊎_elim
    (λ less. get_or_append_left (list_of (2 ^ n) f) (list_of (2 ^ n) f) (f 0) k (subst (λ m. k < m) (sym (length-list_of (2 ^ n) f)) less) ∙ get_or-list_of (2 ^ n) k f (f 0) less)
    (λ from. let rest : k - 2 ^ n < 2 ^ n = omega (arith, twice n) in
    let whole : 2 ^ n + (k - 2 ^ n) ≡ k = omega arith in
    get_or-append_right (list_of (2 ^ n) f) (list_of (2 ^ n) f) (2 ^ n) k (f 0) (length-list_of (2 ^ n) f) from
    ∙ get_or-list_of (2 ^ n) (k - 2 ^ n) f (f 0) rest
    ∙ sym (again (k - 2 ^ n) rest) ∙ ap f whole) (cases_lt k (2 ^ n))))

-- 2 ^ n is no more than a multiple of 2 ^ i
mod_again : (i n j : ℕ) → i ≤ n → (2 ^ n + j) % 2 ^ i ≡ j % 2 ^ i
mod_again i n j le =
    ap (λ m. (m + j) % 2 ^ i) (ap (λ m. 2 ^ m) (sym split) ∙ pow-add 2 (n - i) i) ∙ mul-add-mod_self_right (2 ^ (n - i)) (2 ^ i) j
  where
    split : n - i + i ≡ n
    split = omega (arith, le)

pub widens : (z : Sizes) (f : Function) → IsNotedAt z f → at_sizes (more_variables z) f ≡ with_variable (at_sizes z f)
widens z (Bdd f) h =
    ap Bdd (list_of-again z.variables (λ k. truth f (k % length f)) (λ j _. ap (truth f) (ap (λ m. (2 ^ z.variables + j) % m) h.2 ∙ mod_again h.0 z.variables j h.1 ∙ ap (λ m. j % m) (sym h.2))))
widens z (Add f) h =
    ap Add (list_of-again z.variables (λ k. whole f (k % length f)) (λ j _. ap (whole f) (ap (λ m. (2 ^ z.variables + j) % m) h.2 ∙ mod_again h.0 z.variables j h.1 ∙ ap (λ m. j % m) (sym h.2))))
widens z (Zdd p) h = refl

pub widens_element : (z : Sizes) (f : Function) → IsNotedAt z f → at_sizes (more_elements z) f ≡ with_element (at_sizes z f)
widens_element z (Bdd f) h = refl
widens_element z (Add f) h = refl
widens_element z (Zdd p) h =
    ap Zdd (list_of-element z.elements (truth p) (λ a from. get_or_past p a false (beyond a from))
    ∙ ap (λ k. list_of (2 ^ z.elements) (truth p) ++ replicate k false) (sym (length-list_of (2 ^ z.elements) (truth p))))
  where
    least : 2 ^ h.0 ≤ 2 ^ z.elements
    least = pow-le-pow_right (omega arith) h.1

    beyond : (a : ℕ) → 2 ^ z.elements ≤ a → length p ≤ a
    beyond a from = let e = h.2 in let l = least in omega (arith, e, l, from)

-- a function of i variables that was noted reads on as that function
pub reads_on : (z : Sizes) (i d : ℕ) (f : ℕ → Bool) → IsOf i f → at_sizes (record z { variables = i + d }) (Bdd (list_of (2 ^ i) f)) ≡ Bdd (list_of (2 ^ (i + d)) f)
reads_on z i zero f of =
    ap Bdd (ap (λ m. list_of (2 ^ m) (λ k. truth (list_of (2 ^ i) f) (k % length (list_of (2 ^ i) f)))) none
    ∙ list_of-same (2 ^ i) (λ k. truth (list_of (2 ^ i) f) (k % length (list_of (2 ^ i) f))) f
    (λ k below. ap (λ m. truth (list_of (2 ^ i) f) (k % m)) (length-list_of (2 ^ i) f) ∙ ap (truth (list_of (2 ^ i) f)) (mod-eq_of_lt below) ∙ truth-list_of (2 ^ i) k f below)
    ∙ ap (λ m. list_of (2 ^ m) f) (sym none))
  where
    none : i + 0 ≡ i
    none = omega arith
reads_on z i (suc d) f of =
    ap (λ n. at_sizes (record z { variables = n }) (Bdd (list_of (2 ^ i) f))) more
    ∙ widens (record z { variables = i + d }) (Bdd (list_of (2 ^ i) f)) (i, omega arith, length-list_of (2 ^ i) f)
    ∙ ap with_variable (reads_on z i d f of)
    ∙ ap Bdd (sym (list_of-variable (i + d) f (λ v le. of v (omega (arith, le)))))
    ∙ ap (λ n. Bdd (list_of (2 ^ n) f)) (sym more)
  where
    more : i + suc d ≡ i + d + 1
    more = omega arith
