-- Functions whose lists of values are equal, or one the other's complement, are one.
use Rattle.std.proofs.Common.{◌≡◌, ℕ, ◌^◌, ◌<◌, ◌⊎◌, inl, inr, Bool, true, false, not, ◌||◌, List, length, sym, ap, ◌∙◌, refl, subst}
use Rattle.std.proofs.lemmas.Bool.{or_left, or_right}
use Rattle.function_laws.specs.Functions.{not_of}
use Rattle.function_laws.specs.Lists.{list_of, truth}
use Rattle.function_laws.specs.Sizes.{agree}
use Rattle.function_laws.specs.Values.{differs, negation}
use Rattle.function_laws.proofs.ListLemmas.{all_below-true, length-list_of, same-list_of, truth-list_of}
use Rattle.sift_laws.specs.Alike.{WholesAreAlike}

bool_same : (a b : Bool) → a ≡ b → not (differs a b) ≡ true
bool_same true true h = refl
bool_same true false h = cc
bool_same false true h = cc
bool_same false false h = refl

not_same : (a b : Bool) → a ≡ not b → not a ≡ b
not_same true true h = cc
not_same true false h = refl
not_same false true h = refl
not_same false false h = cc

agree-lists : (n : ℕ) (f g : ℕ → Bool) → ((k : ℕ) → k < 2 ^ n → f k ≡ g k) → agree n f g ≡ true
agree-lists n f g same = all_below-true (2 ^ n) (λ k. not (differs (f k) (g k))) (λ k lt. bool_same (f k) (g k) (same k lt))

complement_at : (size k : ℕ) (f g : ℕ → Bool) → list_of size f ≡ not_of (list_of size g) → k < size → not (f k) ≡ g k
complement_at size k f g e lt =
    let long : length (list_of size g) ≡ size = length-list_of size g in
    not_same (f k) (g k) (sym (truth-list_of size k f lt) ∙ ap (λ (l : List Bool). truth l k) e
    ∙ truth-list_of (length (list_of size g)) k (negation (truth (list_of size g))) (subst (λ m. k < m) (sym long) lt)
    ∙ ap not (truth-list_of size k g lt))

agree-wholes : (n : ℕ) (f g : ℕ → Bool) → (list_of (2 ^ n) f ≡ list_of (2 ^ n) g) ⊎ (list_of (2 ^ n) f ≡ not_of (list_of (2 ^ n) g))
    → (agree n f g || agree n (negation f) g) ≡ true
agree-wholes n f g (inl e) = or_left (agree n f g) (agree n (negation f) g) (agree-lists n f g (λ k lt. same-list_of (2 ^ n) f g e k lt))
agree-wholes n f g (inr e) = or_right (agree n f g) (agree n (negation f) g) (agree-lists n (negation f) g (λ k lt. complement_at (2 ^ n) k f g e lt))

pub wholes_one : WholesAreAlike
wholes_one orders n f g long h = subst (λ m. (agree m f g || agree m (negation f) g) ≡ true) (sym long) (agree-wholes n f g h)
