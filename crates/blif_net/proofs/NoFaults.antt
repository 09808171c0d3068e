-- Where no fault is told, and nothing fails a test.
use Rattle.std.proofs.Common.{◌≡◌, ℕ, zero, suc, ◌&&◌, Bool, true, false, not, cond, List, [], ◌∷◌, drop, filter, find, flat_map, map, Option, Some, None, option_map, refl, ap, sym, ◌∙◌}
use Rattle.std.specs.List.{list_all}
use Rattle.std.specs.Option.{option_or}
use Rattle.std.specs.Bool.{then_some}
use Rattle.std.proofs.lemmas.Bool.{and_from, and_parts}
use Rattle.std.proofs.lemmas.List.Folds.{list_all-append}
use Rattle.std.proofs.lemmas.Option.{same_Some}
use Rattle.blif_models.specs.ModelFaults.{least}

pub none_of : {X : Type 0} (a b : Option X) → option_or a b ≡ None → (a ≡ None) × (b ≡ None)
none_of None b h = (refl, h)
none_of (Some x) b h = cc

pub not_so : {X : Type 0} (b : Bool) (x : X) → then_some b x ≡ None → b ≡ false
not_so false x h = refl
not_so true x h = cc

pub no_map : {X Y : Type 0} (f : X → Y) (o : Option X) → option_map f o ≡ None → o ≡ None
no_map f None h = refl
no_map f (Some x) h = cc

-- no line is the least

pub no_lines : (ns : List ℕ) → least ns ≡ None → ns ≡ []
no_lines [] h = refl
no_lines (n ∷ ns) h = cc

map_empty : {X Y : Type 0} (f : X → Y) (xs : List X) → map f xs ≡ [] → xs ≡ []
map_empty f [] h = refl
map_empty f (x ∷ xs) h = cc

pub none_listed : {X : Type 0} (line : X → ℕ) (xs : List X) → least (map line xs) ≡ None → xs ≡ []
none_listed line xs h = map_empty line xs (no_lines (map line xs) h)

-- tests

pub none_found : {X : Type 0} (p : X → Bool) (xs : List X) → find (λ x. not (p x)) xs ≡ None → list_all p xs ≡ true
none_found p [] h = refl
none_found p (x ∷ xs) h = by_cases (p x) refl h (none_found p xs)
  where
    by_cases : (b : Bool) → p x ≡ b → cond (not b) (Some x) (find (λ y. not (p y)) xs) ≡ None → (find (λ y. not (p y)) xs ≡ None → list_all p xs ≡ true) → list_all p (x ∷ xs) ≡ true
    by_cases true e k more = and_from (p x) (list_all p xs) e (more k)
    by_cases false e k more = cc

pub none_failing : {X : Type 0} (p : X → Bool) (xs : List X) → list_all p xs ≡ true → find (λ x. not (p x)) xs ≡ None
none_failing p [] h = refl
none_failing p (x ∷ xs) h =
    let both = and_parts (p x) (list_all p xs) h in
    ap (λ b. cond (not b) (Some x) (find (λ y. not (p y)) xs)) both.0 ∙ none_failing p xs both.1

pub none_left : {X : Type 0} (p : X → Bool) (xs : List X) → filter (λ x. not (p x)) xs ≡ [] → list_all p xs ≡ true
none_left p [] h = refl
none_left p (x ∷ xs) h = by_cases (p x) refl h (none_left p xs)
  where
    by_cases : (b : Bool) → p x ≡ b → cond (not b) (x ∷ filter (λ y. not (p y)) xs) (filter (λ y. not (p y)) xs) ≡ [] → (filter (λ y. not (p y)) xs ≡ [] → list_all p xs ≡ true) → list_all p (x ∷ xs) ≡ true
    by_cases true e k more = and_from (p x) (list_all p xs) e (more k)
    by_cases false e k more = cc

pub filtered_none : {X : Type 0} (p : X → Bool) (xs : List X) → list_all p xs ≡ true → filter (λ x. not (p x)) xs ≡ []
filtered_none p [] h = refl
filtered_none p (x ∷ xs) h =
    let both = and_parts (p x) (list_all p xs) h in
    let rest = filtered_none p xs both.1 in
    λ j. cond (not (both.0 j)) (x ∷ rest j) (rest j)

pub all_flat : {X Y : Type 0} (q : Y → Bool) (f : X → List Y) (xs : List X) → list_all q (flat_map f xs) ≡ list_all (λ x. list_all q (f x)) xs
all_flat q f [] = refl
all_flat q f (x ∷ xs) = list_all-append q (f x) (flat_map f xs) ∙ ap (λ b. list_all q (f x) && b) (all_flat q f xs)

-- what passes one test passes a weaker one
pub all_weaker : {X : Type 0} (p q : X → Bool) (xs : List X) → ((x : X) → p x ≡ true → q x ≡ true) → list_all p xs ≡ true → list_all q xs ≡ true
all_weaker p q [] h all = refl
all_weaker p q (x ∷ xs) h all =
    let both = and_parts (p x) (list_all p xs) all in
    and_from (q x) (list_all q xs) (h x both.0) (all_weaker p q xs h both.1)

pub all_filtered : {X : Type 0} (p q : X → Bool) (xs : List X) → list_all p xs ≡ true → list_all p (filter q xs) ≡ true
all_filtered p q [] h = refl
all_filtered p q (x ∷ xs) h = by_cases (q x) (and_parts (p x) (list_all p xs) h).0 (all_filtered p q xs (and_parts (p x) (list_all p xs) h).1)
  where
    by_cases : (b : Bool) → p x ≡ true → list_all p (filter q xs) ≡ true → list_all p (cond b (x ∷ filter q xs) (filter q xs)) ≡ true
    by_cases true here more = and_from (p x) (list_all p (filter q xs)) here more
    by_cases false here more = more

pub all_behind : {X : Type 0} (p : X → Bool) (n : ℕ) (xs : List X) → list_all p xs ≡ true → list_all p (drop n xs) ≡ true
all_behind p zero xs h = h
all_behind p (suc n) [] h = h
all_behind p (suc n) (x ∷ xs) h = all_behind p n xs (and_parts (p x) (list_all p xs) h).1

pub all_two : {X : Type 0} (p q : X → Bool) (xs : List X) → list_all p xs ≡ true → list_all q xs ≡ true → list_all (λ x. p x && q x) xs ≡ true
all_two p q [] h k = refl
all_two p q (x ∷ xs) h k =
    let one = and_parts (p x) (list_all p xs) h in
    let other = and_parts (q x) (list_all q xs) k in
    and_from (p x && q x) (list_all (λ y. p y && q y) xs) (and_from (p x) (q x) one.0 other.0) (all_two p q xs one.1 other.1)

-- what is found passes what all pass
pub found_passes : {X : Type 0} (p q : X → Bool) (xs : List X) (x : X) → list_all p xs ≡ true → find q xs ≡ Some x → p x ≡ true
found_passes p q [] x h e = cc
found_passes p q (y ∷ xs) x h e =
    let both = and_parts (p y) (list_all p xs) h in
    by_cases (q y) e both.0 (found_passes p q xs x both.1)
  where
    by_cases : (b : Bool) → cond b (Some y) (find q xs) ≡ Some x → p y ≡ true → (find q xs ≡ Some x → p x ≡ true) → p x ≡ true
    by_cases true k here more = ap p (sym (same_Some y x k)) ∙ here
    by_cases false k here more = more k
