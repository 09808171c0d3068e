-- A function is had back from its whole list.
use Rattle.std.proofs.Common.{◌≡◌, ℕ, zero, suc, ◌+◌, ◌/◌, ◌%◌, ◌^◌, ◌<◌, ◌≤◌, inl, inr, Bool, true, false, List, [], ◌∷◌, length, ◌*◌, refl, ap, sym, ◌∙◌, subst, arith, true≢false, pow_mono}
use Rattle.std.proofs.lemmas.Bool.{cases_lt}
use Rattle.std.proofs.lemmas.Nat.{pow_pos}
use Rattle.std.proofs.Math.Nat.{mod-eq_of_lt, mod-lt, pow-suc}
use Rattle.std.proofs.Math.Pow.{mod-mod-pow, shr_mod}
use Rattle.std.specs.Int.{bit_at}
use Rattle.edge_bits.specs.declared.edges.Kind.{Kind}
use Rattle.edge_bits.specs.declared.edges.Kind.TheVariants.{Bdd, Add, Zdd}
use Rattle.edge_bits.specs.Permanent.{first_element}
use Rattle.edge_bits.specs.Assignments.{bit, set_bit}
use Rattle.edge_bits.specs.Words.{digit}
use Rattle.edge_bits.proofs.AssignmentLemmas.{below_from_bits, digit-bit}
use Rattle.function_laws.specs.Kinds.{BddFunction, AddFunction, ZddFamily, ValueOf, function_of, Lacks}
use Rattle.function_laws.specs.Values.{IsOf}
use Rattle.function_laws.specs.Families.{IsWithout}
use Rattle.function_laws.specs.Lists.{list_of, truth, whole}
use Rattle.function_laws.proofs.ListLemmas.{truth-list_of, whole-list_of, length-list_of}
use Rattle.function_laws.proofs.ValueLemmas.{everywhere}
use Rattle.words_rule.specs.Layout.{Shape}
use Rattle.words_rule.specs.Kept.{whole_of}
use Rattle.words_rule.specs.Known.{denoted_in}

below_power : (k : ℕ) → k < 2 ^ k
below_power zero = pow_pos 0
below_power (suc k) = omega (arith, below_power k, pow-suc 2 k)

clears : (k v : ℕ) → k < 2 ^ (1 + v) → set_bit k v false ≡ k % 2 ^ v
unfolding set_bit
clears k v lt = let e = shr_mod 1 v lt in let z : k / 2 ^ v / 2 ≡ 0 = omega (arith, e) in ap (λ (x : ℕ). (x * 2 + digit false) * 2 ^ v + k % 2 ^ v) z ∙ plain_sum (2 ^ v) (k % 2 ^ v)
  where
    plain_sum : (p r : ℕ) → (0 * 2 + digit false) * p + r ≡ r
    plain_sum p r = omega arith

module _ {X : Type 0} (n : ℕ) (f : ℕ → X) (of_f : IsOf n f) where
  lowered : (j k : ℕ) → k < 2 ^ (j + n) → f k ≡ f (k % 2 ^ n)
  lowered zero k lt = ap f (sym (mod-eq_of_lt (subst (λ m. k < 2 ^ m) (omega arith) lt)))
  lowered (suc j) k lt =
      let v : ℕ = j + n in
      sym (of_f v (omega arith) k false) ∙ ap f (clears k v (subst (λ m. k < 2 ^ m) (omega arith) lt)) ∙ lowered j (k % 2 ^ v) (mod-lt k (pow_pos v)) ∙ ap f (mod-mod-pow k j n)

  pub lowered_all : (k : ℕ) → f k ≡ f (k % 2 ^ n)
  lowered_all k = let high : 2 ^ k ≤ 2 ^ (k + n) = pow_mono (omega arith) in lowered k k (omega (arith, below_power k, high))

-- a family without the elements beyond has no member beyond
none_beyond : (m : ℕ) (p : ℕ → Bool) → ((e : ℕ) → m ≤ e → IsWithout p e) → (a : ℕ) → 2 ^ m ≤ a → p a ≡ false
none_beyond m p without a le = by (p a) refl
  where
    bit_zero : (e : ℕ) (b : Bool) → bit a e ≡ b → p a ≡ true → IsWithout p e → bit_at a e ≡ 0
    bit_zero e true is has lacks = absurd (true≢false (sym has ∙ lacks a is))
    bit_zero e false is has lacks = sym (digit-bit a e) ∙ ap digit is

    by : (b : Bool) → p a ≡ b → p a ≡ false
    by false is = is
    by true is = let lt = below_from_bits m a (λ i from. bit_zero i (bit a i) refl is (without i from)) in absurd (omega (arith, lt, le))

abbrev pub Beyond : Shape → Kind → ℕ → Type 0
Beyond z Bdd v = z.variables ≤ v
Beyond z Add v = z.variables ≤ v
Beyond z Zdd v = first_element + z.elements ≤ v

get_beyond : (l : List Bool) (k : ℕ) → length l ≤ k → truth l k ≡ false
get_beyond [] k le = refl
get_beyond (x ∷ xs) zero le = absurd (omega (arith, le))
get_beyond (x ∷ xs) (suc k) le = get_beyond xs k (omega (arith, le))

-- a function without the variables beyond, or a family without the elements beyond, is had back
pub decodes : (z : Shape) (k : Kind) (f : ℕ → ValueOf k) → ((v : ℕ) → Beyond z k v → Lacks k f v) → denoted_in z.variables (whole_of z (function_of k f)) ≡ function_of k f
decodes z Bdd f lacks = ap BddFunction (everywhere (λ k. truth (list_of (2 ^ z.variables) f) (k % 2 ^ z.variables)) f (λ k. truth-list_of (2 ^ z.variables) (k % 2 ^ z.variables) f (mod-lt k (pow_pos z.variables)) ∙ sym (lowered_all z.variables f lacks k)))
decodes z Add f lacks = ap AddFunction (everywhere (λ k. whole (list_of (2 ^ z.variables) f) (k % 2 ^ z.variables)) f (λ k. whole-list_of (2 ^ z.variables) (k % 2 ^ z.variables) f (mod-lt k (pow_pos z.variables)) ∙ sym (lowered_all z.variables f lacks k)))
decodes z Zdd p lacks = ap ZddFamily (everywhere (truth (list_of (2 ^ z.elements) p)) p (λ a. elim (cases_lt a (2 ^ z.elements)) [
  | inl lt ↦ truth-list_of (2 ^ z.elements) a p lt
  | inr le ↦ get_beyond (list_of (2 ^ z.elements) p) a (let l = length-list_of (2 ^ z.elements) p in omega (arith, l, le)) ∙ sym (none_beyond z.elements p (λ e from. subst (IsWithout p) (omega arith) (lacks (first_element + e) (omega (arith, from)))) a le)
]))
