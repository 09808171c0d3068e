-- Names as they are written are plain words, and those of different things differ.
use Rattle.std.proofs.Common.{◌≡◌, ℕ, zero, suc, ◌+◌, ◌-◌, ◌<◌, ◌≤◌, ◌^◌, ◌%◌, ◌==◌, ◌&&◌, ◌||◌, not, Bool, true, false, List, [], ◌∷◌, ◌++◌, length, map, replicate, Option, Some, None, refl, ap, sym, ◌∙◌, subst, arith, append_assoc}
use Rattle.std.specs.Prelude.{nat_eq, nat_le, slice_get}
use Rattle.std.specs.Fmt.{decimal}
use Rattle.std.specs.List.{ends_with, list_all, list_any, position_from}
use Rattle.std.specs.Str.{bytes_eq}
use Rattle.std.proofs.lemmas.Bool.{and_from, and_parts, both_ways, cond-false, cond-true, or_left, or_parts, or_right}
use Rattle.std.proofs.lemmas.Bool.Decides.{nat_tests}
use Rattle.std.proofs.lemmas.Fmt.{decimal_by_steps, decimal_injective}
use Rattle.std.proofs.lemmas.List.{append_cancel_left}
use Rattle.std.proofs.lemmas.List.Folds.{list_all-append, list_any-append}
use Rattle.std.proofs.lemmas.Option.{same_Some, slice_get_within}
use Rattle.std.proofs.lemmas.Slice.Eq.{bytes_eq-Decides}
use Rattle.job_words.specs.Classes.{has_bytes}
use Rattle.job_words.specs.Text.{Word, is_among}
use Rattle.blif_net.specs.Dumped.{is_name, is_name_byte}
use Rattle.blif_dump.specs.Names.{by_place, called, is_odd, mark_count, naming_of, node_name, place_in, prefix_for}
use Rattle.blif_dump.proofs.Prefixes.{begins_none, not_behind}
use Rattle.blif_net.proofs.Written.{is_plain, is_plain_word, no_end, plain_from}
use Rattle.blif_net.proofs.NoFaults.{all_weaker}

-- a byte that is plain wherever it stands
abbrev is_safe : ℕ → Bool
is_safe b = is_plain b && not (b == 92)

abbrev is_digit : ℕ → Bool
is_digit b = nat_le 48 b && nat_le b 57

safe_plain : (b : ℕ) → is_safe b ≡ true → is_plain b ≡ true
safe_plain b h = (and_parts (is_plain b) (not (b == 92)) h).0

digit_safe : (b : ℕ) → is_digit b ≡ true → is_safe b ≡ true
digit_safe b h = grind (arith, nat_tests)

one_digit : (n : ℕ) → n < 10 → is_digit (48 + n) ≡ true
one_digit n h = grind (arith, nat_tests)

last_digit : (n : ℕ) → is_digit (48 + n % 10) ≡ true
last_digit n = one_digit (n % 10) (omega arith)

pub digits_are : (n : ℕ) → n < 2 ^ 64 → list_all is_digit (decimal n) ≡ true
digits_are n h =
    decimal_by_steps (λ n digits. list_all is_digit digits ≡ true)
    (λ n below. and_from (is_digit (48 + n)) true (one_digit n below) refl)
    (λ n digits many e. list_all-append is_digit digits ((48 + n % 10) ∷ []) ∙ and_from (list_all is_digit digits) (is_digit (48 + n % 10) && true) e (and_from (is_digit (48 + n % 10)) true (last_digit n) refl)) n h

safe_decimal : (n : ℕ) → n < 2 ^ 64 → list_all is_safe (decimal n) ≡ true
safe_decimal n h = all_weaker is_digit is_safe (decimal n) digit_safe (digits_are n h)

safe_marks : (count : ℕ) → list_all is_safe (replicate count 95) ≡ true
safe_marks zero = refl
safe_marks (suc count) = safe_marks count

safe_front : (names : List Word) → list_all is_safe (prefix_for names) ≡ true
unfolding prefix_for
safe_front names = safe_marks (mark_count names)

front_bytes : (names : List Word) (rest : Word) → has_bytes (prefix_for names ++ rest) ≡ true
unfolding prefix_for
front_bytes names rest = some_bytes (length (replicate (mark_count names) 95 ++ rest))
  where
    some_bytes : (n : ℕ) → not (suc n == 0) ≡ true
    some_bytes n = grind (arith, nat_tests)

-- a prefix with safe bytes behind it is a plain word
pub front_plain : (names : List Word) (rest : Word) → list_all is_safe rest ≡ true → is_plain_word (prefix_for names ++ rest) ≡ true
front_plain names rest h =
    let all : list_all is_safe (prefix_for names ++ rest) ≡ true =
    list_all-append is_safe (prefix_for names) rest ∙ and_from (list_all is_safe (prefix_for names)) (list_all is_safe rest) (safe_front names) h in
    plain_from (prefix_for names ++ rest) (record {
      bytes = front_bytes names rest;
      plain = all_weaker is_safe is_plain (prefix_for names ++ rest) safe_plain all;
      ends = no_end is_safe 92 (prefix_for names ++ rest) all refl;
    })

pub node_plain : (names : List Word) (index : ℕ) → index < 2 ^ 64 → is_plain_word (node_name (prefix_for names) index) ≡ true
node_plain names index h = front_plain names (decimal index) (safe_decimal index h)

-- names of signals of different lines differ
pub nodes_apart : (front : Word) (i j : ℕ) → i < 2 ^ 64 → j < 2 ^ 64 → node_name front i ≡ node_name front j → i ≡ j
nodes_apart front i j h k e = decimal_injective i j h k (append_cancel_left front (decimal i) (decimal j) e)

-- a place where a name stands
pub placed_at : (name : Word) (n : ℕ) (names : List Word) (place : ℕ) → position_from (bytes_eq name) n names ≡ Some place → (n ≤ place) × (slice_get names (place - n) ≡ Some name)
placed_at name n [] place e = cc
placed_at name n (x ∷ names) place e = by_cases (bytes_eq name x) refl (λ rest. placed_at name (n + 1) names place rest)
  where
    here : n ≡ place → x ≡ name → (n ≤ place) × (slice_get (x ∷ names) (place - n) ≡ Some name)
    here at same =
        let back : place - n ≡ 0 = omega (arith, at) in
        (omega (arith, at), ap (λ i. slice_get (x ∷ names) i) back ∙ ap (λ t. Some t) same)

    later : (n + 1 ≤ place) × (slice_get names (place - (n + 1)) ≡ Some name) → (n ≤ place) × (slice_get (x ∷ names) (place - n) ≡ Some name)
    later rest =
        let back : place - n ≡ suc (place - (n + 1)) = omega (arith, rest.0) in
        (omega (arith, rest.0), ap (λ i. slice_get (x ∷ names) i) back ∙ rest.1)

    by_cases : (b : Bool) → bytes_eq name x ≡ b → (position_from (bytes_eq name) (n + 1) names ≡ Some place → (n + 1 ≤ place) × (slice_get names (place - (n + 1)) ≡ Some name))
        → (n ≤ place) × (slice_get (x ∷ names) (place - n) ≡ Some name)
    by_cases true f rest =
        here (same_Some n place (sym (cond-true (bytes_eq name x) (Some n) (position_from (bytes_eq name) (n + 1) names) f) ∙ e)) (sym ((bytes_eq-Decides name x).0 f))
    by_cases false f rest =
        later (rest (sym (cond-false (bytes_eq name x) (Some n) (position_from (bytes_eq name) (n + 1) names) f) ∙ e))

pub stands_at : (names : List Word) (name : Word) (place : ℕ) → place_in names name ≡ Some place → slice_get names place ≡ Some name
stands_at names name place e =
    let back : place - 0 ≡ place = omega arith in
    ap (λ i. slice_get names i) (sym back) ∙ (placed_at name 0 names place e).1

-- two names at one place are one
pub same_place : (names : List Word) (one other : Word) (place : ℕ) → place_in names one ≡ Some place → place_in names other ≡ Some place → one ≡ other
same_place names one other place e f = same_Some one other (sym (stands_at names one place e) ∙ stands_at names other place f)

-- a name stands where it is among the names
pub stands : (names : List Word) (n : ℕ) (name : Word) → is_among names name ≡ true → (place : ℕ) × (position_from (bytes_eq name) n names ≡ Some place)
stands [] n name h = cc
stands (x ∷ names) n name h = by_cases (bytes_eq name x) refl (λ e. stands names (n + 1) name e)
  where
    by_cases : (b : Bool) → bytes_eq name x ≡ b → (is_among names name ≡ true → (place : ℕ) × (position_from (bytes_eq name) (n + 1) names ≡ Some place))
        → (place : ℕ) × (position_from (bytes_eq name) n (x ∷ names) ≡ Some place)
    by_cases true e later = (n, cond-true (bytes_eq name x) (Some n) (position_from (bytes_eq name) (n + 1) names) e)
    by_cases false e later =
        let rest = later (sym (ap (λ b. b || is_among names name) e) ∙ h) in
        (rest.0, cond-false (bytes_eq name x) (Some n) (position_from (bytes_eq name) (n + 1) names) e ∙ rest.1)

pub stands_not : (names : List Word) (n : ℕ) (name : Word) → is_among names name ≡ false → position_from (bytes_eq name) n names ≡ None
stands_not [] n name h = refl
stands_not (x ∷ names) n name h =
    let both = or_parts (bytes_eq name x) (is_among names name) h in
    cond-false (bytes_eq name x) (Some n) (position_from (bytes_eq name) (n + 1) names) both.0 ∙ stands_not names (n + 1) name both.1

-- a name that stands as it is, without `#` or `\` at its end, is a plain word
all_both : (p q : ℕ → Bool) (xs : List ℕ) → list_all p xs ≡ true → list_any q xs ≡ false → list_all (λ b. p b && not (q b)) xs ≡ true
all_both p q [] h k = refl
all_both p q (x ∷ xs) h k =
    let own = and_parts (p x) (list_all p xs) h in
    let none = or_parts (q x) (list_any q xs) k in
    and_from (p x && not (q x)) (list_all (λ b. p b && not (q b)) xs) (and_from (p x) (not (q x)) own.0 (ap not none.0)) (all_both p q xs own.1 none.1)

byte_plain : (b : ℕ) → (is_name_byte b && not (b == 35)) ≡ true → is_plain b ≡ true
byte_plain b h = grind (arith, nat_tests)

name_plain : (name : Word) → is_name name ≡ true → is_odd name ≡ false → is_plain_word name ≡ true
name_plain name h odd =
    let own = and_parts (has_bytes name) (list_all is_name_byte name) h in
    let none = or_parts (list_any (λ b. b == 35) name) (ends_with nat_eq name (92 ∷ [])) odd in
    plain_from name (record {
      bytes = own.0;
      plain = all_weaker (λ b. is_name_byte b && not (b == 35)) is_plain name byte_plain (all_both is_name_byte (λ b. b == 35) name own.1 none.0);
      ends = none.1;
    })

-- how a name is written: as it is, or by its place
pub data Kind (inputs outputs : List Word) (name word : Word) : Type 0 where
  as_it_is : word ≡ name → is_odd name ≡ false → Kind inputs outputs name word
  by_input : (place : ℕ) → place < length inputs → place_in inputs name ≡ Some place → word ≡ prefix_for (inputs ++ outputs) ++ 105 ∷ decimal place → Kind inputs outputs name word
  by_output : (place : ℕ) → place < length outputs → place_in outputs name ≡ Some place → word ≡ prefix_for (inputs ++ outputs) ++ 111 ∷ decimal place → Kind inputs outputs name word

within : (names : List Word) (name : Word) (place : ℕ) → place_in names name ≡ Some place → place < length names
within names name place e = slice_get_within names place name (stands_at names name place e)

in_outputs : (inputs outputs : List Word) (name : Word) → is_among (inputs ++ outputs) name ≡ true → place_in inputs name ≡ None → is_among outputs name ≡ true
in_outputs inputs outputs name h none = by_cases (is_among inputs name) refl (is_among outputs name) refl
  where
    by_cases : (a : Bool) → is_among inputs name ≡ a → (b : Bool) → is_among outputs name ≡ b → is_among outputs name ≡ true
    by_cases true e b f =
        let found = stands inputs 0 name e in
        let wrong : Some found.0 ≡ None = sym found.1 ∙ none in cc
    by_cases false e true f = f
    by_cases false e false f =
        let wrong : true ≡ false = sym h ∙ list_any-append (bytes_eq name) inputs outputs ∙ ap (λ t. t || is_among outputs name) e ∙ f in cc

pub kind_of : (inputs outputs : List Word) (name : Word) → is_among (inputs ++ outputs) name ≡ true → Kind inputs outputs name (called (naming_of inputs outputs) name)
kind_of inputs outputs name h = by_odd (is_odd name) refl
  where
    odd_is : is_odd name ≡ true → called (naming_of inputs outputs) name ≡ by_place (prefix_for (inputs ++ outputs)) (place_in inputs name) (place_in outputs name)
    odd_is e = cond-true (is_odd name) (by_place (prefix_for (inputs ++ outputs)) (place_in inputs name) (place_in outputs name)) name e

    by_second : is_odd name ≡ true → place_in inputs name ≡ None → Kind inputs outputs name (called (naming_of inputs outputs) name)
    by_second e none =
        let found = stands outputs 0 name (in_outputs inputs outputs name h none) in
        by_output found.0 (within outputs name found.0 found.1) found.1
        (odd_is e ∙ ap (λ o. by_place (prefix_for (inputs ++ outputs)) o (place_in outputs name)) none ∙ ap (by_place (prefix_for (inputs ++ outputs)) None) found.1
        ∙ append_assoc (prefix_for (inputs ++ outputs)) (111 ∷ []) (decimal found.0))

    by_first : is_odd name ≡ true → (o : Option ℕ) → place_in inputs name ≡ o → Kind inputs outputs name (called (naming_of inputs outputs) name)
    by_first e None f = by_second e f
    by_first e (Some place) f =
        by_input place (within inputs name place f) f
        (odd_is e ∙ ap (λ o. by_place (prefix_for (inputs ++ outputs)) o (place_in outputs name)) f ∙ append_assoc (prefix_for (inputs ++ outputs)) (105 ∷ []) (decimal place))

    by_odd : (b : Bool) → is_odd name ≡ b → Kind inputs outputs name (called (naming_of inputs outputs) name)
    by_odd false e = as_it_is (cond-false (is_odd name) (by_place (prefix_for (inputs ++ outputs)) (place_in inputs name) (place_in outputs name)) name e) e
    by_odd true e = by_first e (place_in inputs name) refl

-- nothing that begins with the prefix is one of the names
free : (names : List Word) (name rest : Word) → is_among names name ≡ true → name ≡ prefix_for names ++ rest → ⊥
free names name rest h e =
    both_ways (is_among names name) (ap (is_among names) e ∙ not_behind names (prefix_for names) rest (begins_none names)) h

-- Of fewer than 2^64 inputs and outputs.
module _ (inputs outputs : List Word) (few_inputs : length inputs < 2 ^ 64) (few_outputs : length outputs < 2 ^ 64) where
  -- the word is plain
  pub kind_plain : (name word : Word) → Kind inputs outputs name word → is_name name ≡ true → is_plain_word word ≡ true
  kind_plain name word (as_it_is e odd) h = subst (λ (t : Word). is_plain_word t ≡ true) (sym e) (name_plain name h odd)
  kind_plain name word (by_input place low at e) h =
      subst (λ (t : Word). is_plain_word t ≡ true) (sym e) (front_plain (inputs ++ outputs) (105 ∷ decimal place) (safe_decimal place (omega (arith, low, few_inputs))))
  kind_plain name word (by_output place low at e) h =
      subst (λ (t : Word). is_plain_word t ≡ true) (sym e) (front_plain (inputs ++ outputs) (111 ∷ decimal place) (safe_decimal place (omega (arith, low, few_outputs))))

  -- it is no node line's name
  pub no_node : (name word : Word) (index : ℕ) → Kind inputs outputs name word → is_among (inputs ++ outputs) name ≡ true → index < 2 ^ 64 → word ≡ node_name (prefix_for (inputs ++ outputs)) index → ⊥
  no_node name word index (as_it_is e odd) h small f = free (inputs ++ outputs) name (decimal index) h (sym e ∙ f)
  no_node name word index (by_input place low at e) h small f =
      let same : 105 ∷ decimal place ≡ decimal index = append_cancel_left (prefix_for (inputs ++ outputs)) (105 ∷ decimal place) (decimal index) (sym e ∙ f) in
      both_ways (list_all is_digit (decimal index)) (ap (list_all is_digit) (sym same)) (digits_are index small)
  no_node name word index (by_output place low at e) h small f =
      let same : 111 ∷ decimal place ≡ decimal index = append_cancel_left (prefix_for (inputs ++ outputs)) (111 ∷ decimal place) (decimal index) (sym e ∙ f) in
      both_ways (list_all is_digit (decimal index)) (ap (list_all is_digit) (sym same)) (digits_are index small)

  -- and no other name's
  pub one_name : (name other word : Word) → Kind inputs outputs name word → Kind inputs outputs other word → is_among (inputs ++ outputs) name ≡ true → is_among (inputs ++ outputs) other ≡ true → name ≡ other
  one_name name other word (as_it_is e odd) (as_it_is f odd') h k = sym e ∙ f
  one_name name other word (as_it_is e odd) (by_input place low at f) h k = absurd (free (inputs ++ outputs) name (105 ∷ decimal place) h (sym e ∙ f))
  one_name name other word (as_it_is e odd) (by_output place low at f) h k = absurd (free (inputs ++ outputs) name (111 ∷ decimal place) h (sym e ∙ f))
  one_name name other word (by_input place low at e) (as_it_is f odd) h k = absurd (free (inputs ++ outputs) other (105 ∷ decimal place) k (sym f ∙ e))
  one_name name other word (by_output place low at e) (as_it_is f odd) h k = absurd (free (inputs ++ outputs) other (111 ∷ decimal place) k (sym f ∙ e))
  one_name name other word (by_input place low at e) (by_input place' low' at' f) h k =
      let same : 105 ∷ decimal place ≡ 105 ∷ decimal place' = append_cancel_left (prefix_for (inputs ++ outputs)) (105 ∷ decimal place) (105 ∷ decimal place') (sym e ∙ f) in
      let digits : decimal place ≡ decimal place' = cc in
      let one : place ≡ place' = decimal_injective place place' (omega (arith, low, few_inputs)) (omega (arith, low', few_inputs)) digits in
      same_place inputs name other place' (at ∙ ap (λ t. Some t) one) at'
  one_name name other word (by_output place low at e) (by_output place' low' at' f) h k =
      let same : 111 ∷ decimal place ≡ 111 ∷ decimal place' = append_cancel_left (prefix_for (inputs ++ outputs)) (111 ∷ decimal place) (111 ∷ decimal place') (sym e ∙ f) in
      let digits : decimal place ≡ decimal place' = cc in
      let one : place ≡ place' = decimal_injective place place' (omega (arith, low, few_outputs)) (omega (arith, low', few_outputs)) digits in
      same_place outputs name other place' (at ∙ ap (λ t. Some t) one) at'
  one_name name other word (by_input place low at e) (by_output place' low' at' f) h k =
      let same : 105 ∷ decimal place ≡ 111 ∷ decimal place' = append_cancel_left (prefix_for (inputs ++ outputs)) (105 ∷ decimal place) (111 ∷ decimal place') (sym e ∙ f) in
      let letter : ◌≡◌ {A = ℕ} 105 111 = cc in absurd (omega (arith, letter))
  one_name name other word (by_output place low at e) (by_input place' low' at' f) h k =
      let same : 111 ∷ decimal place ≡ 105 ∷ decimal place' = append_cancel_left (prefix_for (inputs ++ outputs)) (111 ∷ decimal place) (105 ∷ decimal place') (sym e ∙ f) in
      let letter : ◌≡◌ {A = ℕ} 111 105 = cc in absurd (omega (arith, letter))

-- words written for names
pub among_map : (w : Word → Word) (names : List Word) (z : Word) → is_among (map w names) z ≡ true → (name : Word) × (is_among names name ≡ true) × (z ≡ w name)
among_map w [] z h = cc
among_map w (x ∷ names) z h = by_cases (bytes_eq z (w x)) refl (λ e. among_map w names z e)
  where
    behind : (name : Word) × (is_among names name ≡ true) × (z ≡ w name) → (name : Word) × (is_among (x ∷ names) name ≡ true) × (z ≡ w name)
    behind (name, among, same) = (name, or_right (bytes_eq name x) (is_among names name) among, same)

    by_cases : (b : Bool) → bytes_eq z (w x) ≡ b → (is_among (map w names) z ≡ true → (name : Word) × (is_among names name ≡ true) × (z ≡ w name))
        → (name : Word) × (is_among (x ∷ names) name ≡ true) × (z ≡ w name)
    by_cases true e later = (x, or_left (bytes_eq x x) (is_among names x) ((bytes_eq-Decides x x).1 refl), (bytes_eq-Decides z (w x)).0 e)
    by_cases false e later = behind (later (sym (ap (λ b. b || is_among (map w names) z) e) ∙ h))

pub map_among : (w : Word → Word) (names : List Word) (name : Word) → is_among names name ≡ true → is_among (map w names) (w name) ≡ true
map_among w [] name h = h
map_among w (x ∷ names) name h = by_cases (bytes_eq name x) refl (λ e. map_among w names name e)
  where
    by_cases : (b : Bool) → bytes_eq name x ≡ b → (is_among names name ≡ true → is_among (map w names) (w name) ≡ true) → is_among (map w (x ∷ names)) (w name) ≡ true
    by_cases true e later = or_left (bytes_eq (w name) (w x)) (is_among (map w names) (w name)) ((bytes_eq-Decides (w name) (w x)).1 (ap w ((bytes_eq-Decides name x).0 e)))
    by_cases false e later = or_right (bytes_eq (w name) (w x)) (is_among (map w names) (w name)) (later (sym (ap (λ b. b || is_among names name) e) ∙ h))
