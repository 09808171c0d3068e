-- Irredundant covers between functions, by their whole lists.
use Rattle.std.proofs.Common.{◌≡◌, ℕ, ◌^◌, ◌<◌, ◌≤◌, Bool, true, false, if◌then◌else◌, length, inl, inr, refl, ap₂, sym, subst, ◌∙◌, arith}
use Rattle.std.proofs.lemmas.Bool.{cases_lt, false≢true}
use Rattle.std.proofs.lemmas.List.{get_or_past}
use Rattle.function_laws.specs.Functions.{leq_of}
use Rattle.function_laws.specs.IrredundantCovers.{IsIrredundant}
use Rattle.function_laws.specs.Lists.{list_of, truth}
use Rattle.function_laws.specs.Values.{IsOf}
use Rattle.function_laws.proofs.BridgeLemmas.{leq_of-list_of}
use Rattle.function_laws.proofs.ListLemmas.{all_below-true, length-list_of, truth-list_of}
use Rattle.node_store.specs.Memo.{Implies}

-- a function below a number and false from there on is that of its list
past : (size k : ℕ) (f : ℕ → Bool) → size ≤ k → truth (list_of size f) k ≡ false
past size k f from = get_or_past (list_of size f) k false (subst (λ n. n ≤ k) (sym (length-list_of size f)) from)

-- where a family with members below a number alone has one, and where its list has
whole_family : (size : ℕ) (p : ℕ → Bool) → ((c : ℕ) → p c ≡ true → c < size) → truth (list_of size p) ≡ p
whole_family size p below = λ i c. at c i
  where
    none : (b : Bool) (c : ℕ) → p c ≡ b → size ≤ c → b ≡ false
    none false c is from = refl
    none true c is from = absurd (let b = below c is in omega (arith, b, from))

    at : (c : ℕ) → truth (list_of size p) c ≡ p c
    at c = elim (cases_lt c size) [ inl here ↦ truth-list_of size c p here | inr from ↦ past size c p from ∙ sym (none (p c) c refl from) ]

-- a cover between functions is one between their lists
pub irredundant-listed : (n m : ℕ) (f g p : ℕ → Bool) → IsIrredundant n m f g p → IsIrredundant n m (truth (list_of (2 ^ n) f)) (truth (list_of (2 ^ n) g)) (truth (list_of (2 ^ m) p))
irredundant-listed n m f g p is = subst (IsIrredundant n m (truth (list_of (2 ^ n) f)) (truth (list_of (2 ^ n) g))) (sym (whole_family (2 ^ m) p is.below)) (record {
  below = is.below;
  literals = is.literals;
  reaches = λ k below here. is.reaches k below (sym (truth-list_of (2 ^ n) k f below) ∙ here);
  stays = λ k below here. truth-list_of (2 ^ n) k g below ∙ is.stays k below here;
  consistent = is.consistent;
  needs_each = λ c member. let o = is.needs_each c member in (o.0, o.1, truth-list_of (2 ^ n) o.0 f o.1 ∙ o.2, o.3);
  needs_literals = λ c e member has. let o = is.needs_literals c e member has in (o.0, o.1, o.2, truth-list_of (2 ^ n) o.0 g o.1 ∙ o.3);
})

if_first : (a b : Bool) → (a ≡ true → b ≡ true) → (if a then b else true) ≡ true
if_first true b h = h refl
if_first false b h = refl

-- one function is true wherever another is
pub ordered : (n : ℕ) (f g : ℕ → Bool) → ((k : ℕ) → k < 2 ^ n → f k ≡ true → g k ≡ true) → leq_of (list_of (2 ^ n) f) (list_of (2 ^ n) g) ≡ true
ordered n f g implies = all_below-true (length (list_of (2 ^ n) f)) _ (λ k below.
    let within : k < 2 ^ n = subst (λ m. k < m) (length-list_of (2 ^ n) f) below in
    ap₂ (λ x y. if x then y else true) (truth-list_of (2 ^ n) k f within) (truth-list_of (2 ^ n) k g within) ∙ if_first (f k) (g k) (implies k within))

-- as it is where there is a cover between them
pub covered_ordered : (n m : ℕ) (f g p : ℕ → Bool) → IsIrredundant n m f g p → leq_of (list_of (2 ^ n) f) (list_of (2 ^ n) g) ≡ true
covered_ordered n m f g p is = ordered n f g (λ k below here. is.stays k below (is.reaches k below here))

-- and as it is not where they are apart
pub apart_listed : (n : ℕ) (f g : ℕ → Bool) → IsOf n f → IsOf n g → (Implies f g → ⊥) → leq_of (list_of (2 ^ n) f) (list_of (2 ^ n) g) ≡ false
apart_listed n f g of_f of_g apart = sym (leq_of-list_of n f g false of_f of_g ((λ e. absurd (false≢true e)), (λ implies. absurd (apart implies))))
