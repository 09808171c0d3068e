-- Words parted at their first `=`.
use Rattle.std.proofs.Common.{◌≡◌, ℕ, zero, suc, ◌+◌, ◌==◌, ◌<◌, ◌≤◌, ◌&&◌, ◌||◌, Bool, true, false, cond, not, List, [], ◌∷◌, ◌++◌, Option, Some, drop, get_or, length, map, nat_lt, refl, ap, subst, sym, ◌∙◌, arith, length-drop, length-take}
use Rattle.std.specs.Prelude.{All, MatchOption}
use Rattle.std.specs.Global.{Vec}
use Rattle.std.specs.List.{list_all, list_any, position_or_len}
use Rattle.std.proofs.lemmas.Bool.Decides.{nat_tests}
use Rattle.std.proofs.lemmas.Option.{MatchOption-at_some, get_or_from_slice_get, slice_get_within}
use Rattle.std.proofs.lemmas.List.Elements.{All-cons, All-nil}
use Rattle.job_words.specs.Text.{Word}
use Rattle.blif_models.specs.Models.{join_of}
use Rattle.blif_models.specs.ModelFaults.{is_join}
use Rattle.blif_models.specs.Numberings.{AreNumbersOf, words_at}
use Rattle.blif_formals.specs.declared.interface.Interface.{Interface}
use Rattle.blif_formals.specs.ByNames.{joins_one_of}
use Rattle.blif_formals.specs.Joining.{joins_well}
use Rattle.blif_formals.specs.Parting.{IsMisjoined, JoinNumbers, JoinsNumber}
use Rattle.blif_formals.proofs.ByNames.{formals_agree}

abbrev is_equals : ℕ → Bool
is_equals b = b == 61

within : (w : Word) → position_or_len is_equals w ≤ length w
within [] = omega arith
within (b ∷ w) = by_cases (is_equals b) (within w)
  where
    by_cases : (t : Bool) → position_or_len is_equals w ≤ length w → cond (not t) (1 + position_or_len is_equals w) 0 ≤ suc (length w)
    by_cases true le = omega arith
    by_cases false le = omega (arith, le)

any_place : (w : Word) → list_any is_equals w ≡ nat_lt (position_or_len is_equals w) (length w)
any_place [] = refl
any_place (b ∷ w) = by_cases (is_equals b) (any_place w)
  where
    onward : (k n : ℕ) → nat_lt k n ≡ nat_lt (1 + k) (suc n)
    onward k n = by_tests (nat_lt k n) refl (nat_lt (1 + k) (suc n)) refl
      where
        by_tests : (s : Bool) → nat_lt k n ≡ s → (t : Bool) → nat_lt (1 + k) (suc n) ≡ t → s ≡ t
        by_tests true e true f = refl
        by_tests false e false f = refl
        by_tests true e false f = let lt : k < n = grind (arith, nat_tests) in let le : suc n ≤ 1 + k = grind (arith, nat_tests) in absurd (omega (arith, lt, le))
        by_tests false e true f = let le : n ≤ k = grind (arith, nat_tests) in let lt : 1 + k < suc n = grind (arith, nat_tests) in absurd (omega (arith, lt, le))

    by_cases : (t : Bool) → list_any is_equals w ≡ nat_lt (position_or_len is_equals w) (length w) → (t || list_any is_equals w) ≡ nat_lt (cond (not t) (1 + position_or_len is_equals w) 0) (suc (length w))
    by_cases true more = sym (first (length w))
      where
        first : (n : ℕ) → nat_lt 0 (suc n) ≡ true
        first n = grind (arith, nat_tests)
    by_cases false more = more ∙ onward (position_or_len is_equals w) (length w)

formal_length : (w : Word) → length (join_of w).formal ≡ position_or_len is_equals w
formal_length w =
    let cut = length-take (position_or_len is_equals w) w in
    let le = within w in
    omega (arith, cut, le)

low_test : (a b : ℕ) → a < b → nat_lt a b ≡ true
low_test a b lt = grind (arith, nat_tests)

some_test : (n : ℕ) → 0 < n → (n == 0) ≡ false
some_test n lt = grind (arith, nat_tests)

right_false : (s : Bool) → (s && false) ≡ false
right_false true = refl
right_false false = refl

-- a word is a join where something stands before its first `=`, and two bytes at least from there on
pub joined : (w : Word) (k : ℕ) → k ≡ length (join_of w).formal → 0 < k → k + 2 ≤ length w → is_join w ≡ true
joined w k e some long =
    let place = formal_length w in
    let left = length-drop (length (join_of w).formal + 1) w in
    let equals : list_any is_equals w ≡ true = any_place w ∙ low_test (position_or_len is_equals w) (length w) (omega (arith, e, place, long)) in
    let formal : (length (join_of w).formal == 0) ≡ false = some_test (length (join_of w).formal) (omega (arith, e, some)) in
    let actual : (length (join_of w).actual == 0) ≡ false = some_test (length (join_of w).actual) (omega (arith, e, long, left)) in
    λ j. equals j && not (formal j) && not (actual j)

-- the numbers of formal names

pub one_number : (names words : List Word) (ns : List ℕ) (word : Word) (n : ℕ) → JoinNumbers names words ns → JoinsNumber names word n → JoinNumbers names (words ++ word ∷ []) (ns ++ n ∷ [])
one_number names [] [] word n a b = (b, tt)
one_number names [] (k ∷ ns) word n a b = absurd a
one_number names (w ∷ words) [] word n a b = absurd a
one_number names (w ∷ words) (k ∷ ns) word n a b = (a.0, one_number names words ns word n a.1 b)

-- one word that fails
pub one_fails : {X Y : Type 0} (p : Y → Bool) (f : X → Y) (xs : List X) (i : ℕ) (d : X) → i < length xs → p (f (get_or xs i d)) ≡ false → list_all p (map f xs) ≡ false
one_fails p f [] i d lt e = absurd (omega (arith, lt))
one_fails p f (x ∷ xs) zero d lt e = ap (λ b. b && list_all p (map f xs)) e
one_fails p f (x ∷ xs) (suc i) d lt e = ap (λ b. p (f x) && b) (one_fails p f xs i d (omega (arith, lt)) e) ∙ right_false (p (f x))

all_joins : (names words : List Word) (ns : List ℕ) → JoinNumbers names words ns → list_all is_join words ≡ true
all_joins names [] [] a = refl
all_joins names [] (n ∷ ns) a = absurd a
all_joins names (w ∷ words) [] a = absurd a
all_joins names (w ∷ words) (n ∷ ns) a = λ j. a.0.0 j && all_joins names words ns a.1 j

all_numbers : (all : List (List Word)) (m : ℕ) (words : List Word) (ns : List ℕ) → JoinNumbers (words_at all m) words ns → AreNumbersOf all m ns (map (λ join. join.formal) (map join_of words))
all_numbers all m [] [] a = tt
all_numbers all m [] (n ∷ ns) a = absurd a
all_numbers all m (w ∷ words) [] a = absurd a
all_numbers all m (w ∷ words) (n ∷ ns) a =
    ((slice_get_within (words_at all m) n (join_of w).formal a.0.1, get_or_from_slice_get (words_at all m) n (join_of w).formal [] a.0.1), all_numbers all m words ns a.1)

pub numbers_below : (names words : List Word) (ns : List ℕ) → JoinNumbers names words ns → All (λ n. n < length names) ns
numbers_below names [] [] a = All-nil (λ n. n < length names)
numbers_below names [] (n ∷ ns) a = absurd a
numbers_below names (w ∷ words) [] a = absurd a
numbers_below names (w ∷ words) (n ∷ ns) a = All-cons (λ n. n < length names) n ns (slice_get_within names n (join_of w).formal a.0.1) (numbers_below names words ns a.1)

-- what is told by numbers of formal names
pub told_by_numbers : (names : List Word) (interface : Interface) (words : List Word) (ns : List ℕ) (well : Bool) → JoinNumbers names words ns → well ≡ joins_well interface.inputs interface.outputs ns → IsMisjoined names interface words (not well)
told_by_numbers names interface words ns well a e all m model instance same is behind =
    let joins : JoinNumbers (words_at all m) (drop 1 instance.words) ns =
    subst (λ (ws : List Word). JoinNumbers (words_at all m) ws ns) (sym behind) (subst (λ (own : List Word). JoinNumbers own words ns) (sym same) a) in
    formals_agree.joined all m model interface instance ns is (all_joins (words_at all m) (drop 1 instance.words) ns joins) (all_numbers all m (drop 1 instance.words) ns joins) ∙ ap not (sym e)

pub told_unknown : (names : List Word) (interface : Interface) (words : List Word) → list_all (joins_one_of names) words ≡ false → IsMisjoined names interface words true
told_unknown names interface words e all m model instance same is behind =
    formals_agree.unknown all m model interface instance is ((λ j. list_all (joins_one_of (same j)) (behind j)) ∙ e)

-- what was found of words: the numbers of the formal names that they join, if each joins one of these names
abbrev pub AreFound : List Word → List Word → Option (Vec ℕ) → Type 0
AreFound names words found = MatchOption found (list_all (joins_one_of names) words ≡ false) (λ formals. JoinNumbers names words formals.items)

pub numbered : (names words : List Word) (found : Option (Vec ℕ)) (formals : Vec ℕ) → found ≡ Some formals → AreFound names words found → JoinNumbers names words formals.items
numbered names words found formals e h = MatchOption-at_some (list_all (joins_one_of names) words ≡ false) (λ (formals : Vec ℕ). JoinNumbers names words formals.items) formals e h
