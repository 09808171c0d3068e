-- What an order of numbers picks is a permutation of the covers, and all names stay apart.
use Rattle.std.proofs.Common.{◌≡◌, ℕ, zero, suc, ◌+◌, ◌==◌, ◌<◌, ◌≤◌, ◌||◌, Bool, true, false, List, [], ◌∷◌, ◌++◌, length, map, get_or, refl, ap, sym, ◌∙◌, subst, arith, append_assoc, length-append}
use Rattle.std.specs.Prelude.{IsPermutation}
use Rattle.std.specs.List.{AllByRecursion, IsDistinct, range_with_len}
use Rattle.std.specs.Str.{bytes_eq}
use Rattle.std.proofs.lemmas.Bool.{false≢true, or_from, or_parts}
use Rattle.std.proofs.lemmas.Bool.Decides.{nat_tests}
use Rattle.std.proofs.lemmas.List.Sorted.{IsPermutation-map, list_any-IsPermutation}
use Rattle.std.proofs.lemmas.Map.Keys.{IsDistinct-IsPermutation}
use Rattle.std.proofs.lemmas.Slice.Eq.{bytes_eq-Decides}
use Rattle.job_words.specs.Text.{Word, is_among}
use Rattle.blif_models.specs.Circuits.{Circuit, Cover, defined_in}
use Rattle.blif_order.specs.Orders.{Once, is_in}
use Rattle.blif_wholes.specs.Defined.{Once as Apart}
use Rattle.blif_wholes.proofs.Alone.{Alone}
use Rattle.blif_wholes.proofs.Networks.{blank, picked}
use Rattle.blif_wholes.proofs.Permutations.{range_once, same_numbers}
use Rattle.blif_wholes.proofs.Words.{once_from}

at_seam : (front back : List Cover) (x : Cover) → get_or (front ++ x ∷ back) (length front) blank ≡ x
at_seam [] back x = refl
at_seam (y ∷ front) back x = at_seam front back x

pick_back : (front back : List Cover) → map (λ c. get_or (front ++ back) c blank) (range_with_len (length front) (length back)) ≡ back
pick_back front [] = refl
pick_back front (x ∷ back) =
    ap (λ t. t ∷ map (λ c. get_or (front ++ x ∷ back) c blank) (range_with_len (length front + 1) (length back))) (at_seam front back x)
    ∙ ap (λ t. x ∷ t)
    (ap (λ (t : List Cover). map (λ c. get_or t c blank) (range_with_len (length front + 1) (length back))) (sym (append_assoc front (x ∷ []) back))
    ∙ ap (λ n. map (λ c. get_or ((front ++ x ∷ []) ++ back) c blank) (range_with_len n (length back))) (sym (length-append front (x ∷ [])))
    ∙ pick_back (front ++ x ∷ []) back)

in_range : (a n c : ℕ) → a ≤ c → c < a + n → is_in (range_with_len a n) c ≡ true
in_range a zero c h k = absurd (omega (arith, h, k))
in_range a (suc n) c h k = by_cases (a == c) refl (λ e. in_range (a + 1) n c (later a c h e) (omega (arith, k)))
  where
    later : (p q : ℕ) → p ≤ q → (p == q) ≡ false → p + 1 ≤ q
    later p q i e = grind (arith, nat_tests)

    by_cases : (b : Bool) → (a == c) ≡ b → ((a == c) ≡ false → is_in (range_with_len (a + 1) n) c ≡ true) → ((a == c) || is_in (range_with_len (a + 1) n) c) ≡ true
    by_cases true e more = ap (λ b. b || is_in (range_with_len (a + 1) n) c) e
    by_cases false e more = ap (λ b. b || is_in (range_with_len (a + 1) n) c) e ∙ more e

in_range_below : (a n c : ℕ) → is_in (range_with_len a n) c ≡ true → c < a + n
in_range_below a zero c h = absurd (false≢true h)
in_range_below a (suc n) c h = by_cases (a == c) refl h (λ e. in_range_below (a + 1) n c e)
  where
    same : (p q : ℕ) → (p == q) ≡ true → p ≡ q
    same p q e = grind (arith, nat_tests)

    by_cases : (b : Bool) → (a == c) ≡ b → (b || is_in (range_with_len (a + 1) n) c) ≡ true → (is_in (range_with_len (a + 1) n) c ≡ true → c < a + 1 + n) → c < a + suc n
    by_cases true e k more = omega (arith, same a c e)
    by_cases false e k more = omega (arith, more k)

both_ways : (p q : Bool) → (p ≡ true → q ≡ true) → (q ≡ true → p ≡ true) → p ≡ q
both_ways true q f g = sym (f refl)
both_ways false true f g = g refl
both_ways false false f g = refl

-- the covers that an order picks, each once
pub picked_once : (covers : List Cover) (order : List ℕ) → Once order → ((c : ℕ) → c < length covers → is_in order c ≡ true) → ((c : ℕ) → is_in order c ≡ true → c < length covers) → IsPermutation covers (picked covers order)
picked_once covers order once all within =
    subst (λ (t : List Cover). IsPermutation t (picked covers order)) (pick_back [] covers)
    (IsPermutation-map (λ c. get_or covers c blank) (range_with_len 0 (length covers)) order
    (same_numbers (range_with_len 0 (length covers)) order (range_once 0 (length covers)) once
    (λ c. both_ways (is_in (range_with_len 0 (length covers)) c) (is_in order c) (λ h. all c (below (length covers) c (in_range_below 0 (length covers) c h)))
    (λ h. in_range 0 (length covers) c (omega arith) (above (length covers) c (within c h))))))
  where
    below : (n c : ℕ) → c < 0 + n → c < n
    below n c h = omega (arith, h)

    above : (n c : ℕ) → c < n → c < 0 + n
    above n c h = omega (arith, h)

none_is : (z : Word) (words : List Word) → is_among words z ≡ false → AllByRecursion (λ y. bytes_eq z y ≡ false) words
none_is z [] h = tt
none_is z (word ∷ words) h = let both = or_parts (bytes_eq z word) (is_among words z) h in (both.0, none_is z words both.1)

is_none : (z : Word) (words : List Word) → AllByRecursion (λ y. bytes_eq z y ≡ false) words → is_among words z ≡ false
is_none z [] h = refl
is_none z (word ∷ words) h = or_from (bytes_eq z word) (is_among words z) h.0 (is_none z words h.1)

distinct : (words : List Word) → Apart words → IsDistinct bytes_eq words
unfolding IsDistinct
distinct [] h = tt
distinct (word ∷ words) h = (none_is word words h.0, distinct words h.1)

apart : (words : List Word) → IsDistinct bytes_eq words → Apart words
unfolding IsDistinct
apart [] h = tt
apart (word ∷ words) h = (is_none word words h.0, apart words h.1)

flips : (x y : Word) → bytes_eq x y ≡ bytes_eq y x
flips x y = both_ways (bytes_eq x y) (bytes_eq y x) (λ h. (bytes_eq-Decides y x).1 (sym ((bytes_eq-Decides x y).0 h))) (λ h. (bytes_eq-Decides x y).1 (sym ((bytes_eq-Decides y x).0 h)))

-- all names of a network whose gates are in some order
pub names_apart : (circuit : Circuit) (arranged : List Cover) → Alone circuit.inputs (defined_in circuit.covers) → IsPermutation circuit.covers arranged → Apart (circuit.inputs ++ defined_in arranged)
names_apart circuit arranged a p =
    let moved = IsPermutation-map (λ (cover : Cover). cover.name) circuit.covers arranged p in
    once_from circuit.inputs (defined_in arranged) a.inputs
    (apart (defined_in arranged) (IsDistinct-IsPermutation bytes_eq flips (defined_in circuit.covers) (defined_in arranged) moved (distinct (defined_in circuit.covers) a.covers)))
    (λ z e f. false≢true (sym (a.apart z e) ∙ list_any-IsPermutation (bytes_eq z) (defined_in circuit.covers) (defined_in arranged) moved ∙ f))
