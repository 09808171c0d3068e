-- The first line by which a signal is defined twice.
use Rattle.std.proofs.Common.{◌≡◌, ℕ, ◌==◌, ◌<◌, ◌≤◌, min, max, Bool, true, false, cond, List, [], ◌∷◌, ◌++◌, Option, Some, None, flat_map, map, filter, nat_lt, refl, ap, sym, ◌∙◌, arith, if◌then◌else◌}
use Rattle.std.specs.Option.{option_map}
use Rattle.std.proofs.lemmas.Bool.Decides.{nat_tests}
use Rattle.std.proofs.lemmas.Grind.{flat_map-append}
use Rattle.std.proofs.lemmas.List.{map-append}
use Rattle.std.proofs.lemmas.List.Elements.{filter-append}
use Rattle.blif_models.specs.ModelFaults.{least, lesser}
use Rattle.blif_formals.specs.declared.clashes.Definition.{Definition}
use Rattle.blif_formals.specs.Clashes.{clash_with, clashes, later, least_of}

-- the lines of the definitions of a name
abbrev pub lines_of : ℕ → List Definition → List ℕ
lines_of n ones = map (λ one. one.line) (filter (λ one. one.name == n) ones)

lesser_min : (a b : ℕ) → lesser a (Some b) ≡ min a b
lesser_min a b = by_test (nat_lt b a) refl
  where
    by_test : (t : Bool) → nat_lt b a ≡ t → (if t then b else a) ≡ min a b
    by_test true e = let lt : b < a = grind (arith, nat_tests) in omega (arith, lt)
    by_test false e = let le : a ≤ b = grind (arith, nat_tests) in omega (arith, le)

later_max : (a b : ℕ) → later a b ≡ max a b
later_max a b = by_test (nat_lt a b) refl
  where
    by_test : (t : Bool) → nat_lt a b ≡ t → (if t then b else a) ≡ max a b
    by_test true e = let lt : a < b = grind (arith, nat_tests) in omega (arith, lt)
    by_test false e = let le : b ≤ a = grind (arith, nat_tests) in omega (arith, le)

-- the lower one of two, where either may lack

pub turned : (a b : Option ℕ) → least_of a b ≡ least_of b a
turned None None = refl
turned None (Some b) = refl
turned (Some a) None = refl
turned (Some a) (Some b) = ap Some (omega (arith, lesser_min a b, lesser_min b a))

grouped : (a b c : Option ℕ) → least_of (least_of a b) c ≡ least_of a (least_of b c)
grouped None b c = refl
grouped (Some a) None c = refl
grouped (Some a) (Some b) None = refl
grouped (Some a) (Some b) (Some c) = ap Some (omega (arith, lesser_min (lesser a (Some b)) c, lesser_min a b, lesser_min a (lesser b (Some c)), lesser_min b c))

crossed : (a b c d : Option ℕ) → least_of (least_of a b) (least_of c d) ≡ least_of (least_of a c) (least_of b d)
crossed a b c d =
    grouped a b (least_of c d)
    ∙ ap (least_of a) (sym (grouped b c d) ∙ ap (λ o. least_of o d) (turned b c) ∙ grouped c b d)
    ∙ sym (grouped a c (least_of b d))

pub least_both : (xs ys : List ℕ) → least (xs ++ ys) ≡ least_of (least xs) (least ys)
least_both [] ys = refl
least_both (x ∷ xs) ys = ap (λ o. Some (lesser x o)) (least_both xs ys) ∙ sym (grouped (Some x) (least xs) (least ys))

-- the first line, where one more stands at the end that passes or does not
pub lines_last : {X : Type 0} (line : X → ℕ) (p : X → Bool) (xs : List X) (x : X) → least (map line (filter p (xs ++ x ∷ []))) ≡ (if p x then Some (lesser (line x) (least (map line (filter p xs)))) else least (map line (filter p xs)))
lines_last {X} line p xs x =
    ap (λ (ys : List X). least (map line ys)) (filter-append p xs (x ∷ [])) ∙ ap least (map-append line (filter p xs) (filter p (x ∷ []))) ∙ least_both (map line (filter p xs)) (map line (filter p (x ∷ []))) ∙ by_cases (p x)
  where
    by_cases : (t : Bool) → least_of (least (map line (filter p xs))) (least (map line (cond t (x ∷ []) []))) ≡ (if t then Some (lesser (line x) (least (map line (filter p xs)))) else least (map line (filter p xs)))
    by_cases true = turned (least (map line (filter p xs))) (Some (line x))
    by_cases false = turned (least (map line (filter p xs))) None

-- one definition more

with_last : List Definition → Definition → Option ℕ
with_last ones one = option_map (λ line. later line one.line) (least (lines_of one.name ones))

first_more : (x : Definition) (ones : List Definition) (one : Definition) → with_last (x ∷ ones) one ≡ least_of (least (clash_with x one ++ [])) (with_last ones one)
unfolding with_last
first_more x ones one = by_cases (x.name == one.name) (least (lines_of one.name ones)) refl
  where
    lower : (o : Option ℕ) → Some (later (lesser x.line o) one.line) ≡ Some (lesser (later x.line one.line) (option_map (λ line. later line one.line) o))
    lower None = refl
    lower (Some b) =
        ap Some (omega (arith, later_max (lesser x.line (Some b)) one.line, lesser_min x.line b, lesser_min (later x.line one.line) (later b one.line), later_max x.line one.line, later_max b one.line))

    by_cases : (t : Bool) (o : Option ℕ) → least (lines_of one.name ones) ≡ o
        → option_map (λ line. later line one.line) (least (map (λ (k : Definition). k.line) (cond t (x ∷ filter (λ k. k.name == one.name) ones) (filter (λ k. k.name == one.name) ones))))
        ≡ least_of (least ((if t then later x.line one.line ∷ [] else []) ++ [])) (option_map (λ line. later line one.line) (least (lines_of one.name ones)))
    by_cases true o e = lower (least (lines_of one.name ones))
    by_cases false o e = refl

last_clash : (ones : List Definition) (one : Definition) → least (clashes (ones ++ one ∷ [])) ≡ least_of (least (clashes ones)) (with_last ones one)
unfolding with_last
last_clash [] one = refl
last_clash (x ∷ ones) one =
    let split : least (flat_map (clash_with x) (ones ++ one ∷ [])) ≡ least_of (least (flat_map (clash_with x) ones)) (least (clash_with x one ++ [])) =
    ap least (flat_map-append (clash_with x) ones (one ∷ [])) ∙ least_both (flat_map (clash_with x) ones) (clash_with x one ++ []) in
    least_both (flat_map (clash_with x) (ones ++ one ∷ [])) (clashes (ones ++ one ∷ []))
    ∙ (λ j. least_of (split j) (last_clash ones one j))
    ∙ crossed (least (flat_map (clash_with x) ones)) (least (clash_with x one ++ [])) (least (clashes ones)) (with_last ones one)
    ∙ (λ j. least_of (sym (least_both (flat_map (clash_with x) ones) (clashes ones)) j) (sym (first_more x ones one) j))

pub clash_none : (ones : List Definition) (one : Definition) → least (lines_of one.name ones) ≡ None → least (clashes (ones ++ one ∷ [])) ≡ least (clashes ones)
unfolding with_last
clash_none ones one e = last_clash ones one ∙ ap (λ o. least_of (least (clashes ones)) (option_map (λ line. later line one.line) o)) e ∙ turned (least (clashes ones)) None

pub clash_some : (ones : List Definition) (one : Definition) (first : ℕ) → least (lines_of one.name ones) ≡ Some first → least (clashes (ones ++ one ∷ [])) ≡ Some (lesser (later first one.line) (least (clashes ones)))
unfolding with_last
clash_some ones one first e =
    last_clash ones one ∙ ap (λ o. least_of (least (clashes ones)) (option_map (λ line. later line one.line) o)) e ∙ turned (least (clashes ones)) (Some (later first one.line))

pub lines_more : (n : ℕ) (ones : List Definition) (one : Definition) → least (lines_of n (ones ++ one ∷ [])) ≡ (if one.name == n then Some (lesser one.line (least (lines_of n ones))) else least (lines_of n ones))
lines_more n ones one = lines_last (λ one. one.line) (λ one. one.name == n) ones one
