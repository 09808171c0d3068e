-- Where no instance turns back there is an order, and where there is an order none does.
use Rattle.std.proofs.Common.{◌≡◌, ℕ, zero, suc, ◌+◌, ◌==◌, ◌<◌, ◌≤◌, ◌&&◌, ◌||◌, Bool, true, false, cond, List, [], ◌∷◌, ◌++◌, Option, Some, None, length, append_assoc, append-nil, refl, ap, sym, ◌∙◌, subst, ⊎_elim, arith}
use Rattle.std.specs.Prelude.{All, find, nat_lt, slice_get}
use Rattle.std.specs.List.{list_all, list_any}
use Rattle.std.specs.Option.{option_map}
use Rattle.std.proofs.lemmas.Bool.{and_parts, false≢true, or_right}
use Rattle.std.proofs.lemmas.Bool.Decides.{nat_tests}
use Rattle.std.proofs.lemmas.List.{length-map}
use Rattle.std.proofs.lemmas.List.Elements.{All-cons, All-head, All-nil, All-tail}
use Rattle.blif_order.specs.Orders.{IsSmall, Once, Ordered, is_in, is_led, reads_of}
use Rattle.blif_order.proofs.Ends.{order_length}
use Rattle.blif_order.proofs.Walks.{or_cases, own, same_number}
use Rattle.blif_models.specs.declared.cycles.Holding.{Holding}
use Rattle.blif_models.specs.declared.numbered.Entry.{Entry}
use Rattle.blif_models.specs.declared.numbered.Entry.TheVariants as entries
use Rattle.blif_models.specs.declared.numbered.NumberedModel.{NumberedModel}
use Rattle.blif_models.specs.Arrangements.{holdings_by, holdings_from, turning_in}
use Rattle.blif_models.specs.Graphs.{AreWithin, is_reached, turns_back}
use Rattle.blif_models.specs.Layouts.{AreNumbered, EntryIs}
use Rattle.blif_models.specs.NumberedGraphs.{all_held, held_by}
use Rattle.blif_models.specs.Orderings.{place_in}
use Rattle.blif_models.proofs.Orderings.{places_are_ranks}
use Rattle.blif_models.proofs.Rankings.{holder_within, lower_is_passed}
use Rattle.blif_models.proofs.Searches.{reached_next, reached_up}

-- instances are found among those of all models

find_first : (p : Holding → Bool) (xs ys : List Holding) → find p (xs ++ ys) ≡ None → (find p xs ≡ None) × (find p ys ≡ None)
find_first p [] ys e = (refl, e)
find_first p (x ∷ xs) ys e = by_cases (p x) e (λ f. find_first p xs ys f)
  where
    by_cases : (b : Bool) → cond b (Some x) (find p (xs ++ ys)) ≡ None → (find p (xs ++ ys) ≡ None → (find p xs ≡ None) × (find p ys ≡ None)) → (cond b (Some x) (find p xs) ≡ None) × (find p ys ≡ None)
    by_cases true f more = cc
    by_cases false f more = more f

find_both : (p : Holding → Bool) (xs ys : List Holding) → find p xs ≡ None → find p ys ≡ None → find p (xs ++ ys) ≡ None
find_both p [] ys e f = f
find_both p (x ∷ xs) ys e f = by_cases (p x) e (λ g. find_both p xs ys g f)
  where
    by_cases : (b : Bool) → cond b (Some x) (find p xs) ≡ None → (find p xs ≡ None → find p (xs ++ ys) ≡ None) → cond b (Some x) (find p (xs ++ ys)) ≡ None
    by_cases true g more = cc
    by_cases false g more = more g

found_by : (p : Holding → Bool) (k n : ℕ) (others : List Entry) → find p (holdings_by k others) ≡ None → is_in (held_by others) n ≡ true → (one : Holding) × (one.by ≡ k) × (one.model ≡ n) × (p one ≡ false)
found_by p k n [] e f = absurd (false≢true f)
found_by p k n (entries.Cover one ∷ others) e f = found_by p k n others e f
found_by p k n (entries.Latch one ∷ others) e f = found_by p k n others e f
found_by p k n (entries.Instance one ∷ others) e f = by_cases (p here) refl e (λ g h. found_by p k n others g h)
  where
    here : Holding
    here = record { line = one.line; by = k; model = one.model }

    Found : Type 0
    Found = (one : Holding) × (one.by ≡ k) × (one.model ≡ n) × (p one ≡ false)

    by_cases : (b : Bool) → p here ≡ b → cond b (Some here) (find p (holdings_by k others)) ≡ None → (find p (holdings_by k others) ≡ None → is_in (held_by others) n ≡ true → Found) → Found
    by_cases true g h more = cc
    by_cases false g h more = ⊎_elim (λ same. (here, refl, same_number one.model n same, g)) (λ later. more h later) (or_cases (one.model == n) (is_in (held_by others) n) f)

found_from : (p : Holding → Bool) (k m n : ℕ) (models : List NumberedModel) → find p (holdings_from k models) ≡ None → is_in (reads_of (all_held models) m) n ≡ true → (one : Holding) × (one.by ≡ k + m) × (one.model ≡ n) × (p one ≡ false)
found_from p k m n [] e f = absurd (false≢true f)
found_from p k zero n (model ∷ models) e f =
    let one = found_by p k n model.entries (find_first p (holdings_by k model.entries) (holdings_from (suc k) models) e).0 f in
    (one.0, omega (arith, one.1), one.2, one.3)
found_from p k (suc m) n (model ∷ models) e f =
    let one = found_from p (suc k) m n models (find_first p (holdings_by k model.entries) (holdings_from (suc k) models) e).1 f in
    (one.0, omega (arith, one.1), one.2, one.3)

none_by : (p : Holding → Bool) (k : ℕ) (others : List Entry) → ((one : Holding) → one.by ≡ k → is_in (held_by others) one.model ≡ true → p one ≡ false) → find p (holdings_by k others) ≡ None
none_by p k [] h = refl
none_by p k (entries.Cover one ∷ others) h = none_by p k others h
none_by p k (entries.Latch one ∷ others) h = none_by p k others h
none_by p k (entries.Instance one ∷ others) h =
    let here : Holding = record { line = one.line; by = k; model = one.model } in
    ap (λ b. cond b (Some here) (find p (holdings_by k others))) (h here refl (ap (λ b. b || is_in (held_by others) one.model) (own one.model)))
    ∙ none_by p k others (λ other e f. h other e (or_right (one.model == other.model) (is_in (held_by others) other.model) f))

none_from : (p : Holding → Bool) (k : ℕ) (models : List NumberedModel) → ((m : ℕ) (one : Holding) → one.by ≡ k + m → is_in (reads_of (all_held models) m) one.model ≡ true → p one ≡ false) → find p (holdings_from k models) ≡ None
none_from p k [] h = refl
none_from p k (model ∷ models) h =
    find_both p (holdings_by k model.entries) (holdings_from (suc k) models) (none_by p k model.entries (λ one e f. h 0 one (omega (arith, e)) f)) (none_from p (suc k) models (λ m one e f. h (suc m) one (omega (arith, e)) f))

-- in an order none turns back
pub order_is_straight : (models : List NumberedModel) (order : List ℕ) → Ordered (all_held models) [] order → ((m : ℕ) → m < length (all_held models) → is_in order m ≡ true) → turning_in models ≡ None
order_is_straight models order o each = none_from (turns_back holds) 0 models (λ m one e f. by_one m one e f)
  where
    holds : List (List ℕ)
    holds = all_held models

    less : (m n : ℕ) → is_in (reads_of holds m) n ≡ true → place_in order n < place_in order m
    less m n f = places_are_ranks holds order o m n (each m (holder_within holds m n f)) f

    by_one : (m : ℕ) (one : Holding) → one.by ≡ 0 + m → is_in (reads_of holds m) one.model ≡ true → turns_back holds one ≡ false
    by_one m one e f =
        let same : m ≡ one.by = omega (arith, e) in
        lower_is_passed holds (place_in order) one (λ k n g. omega (arith, less k n g)) (less one.by one.model (subst (λ k. is_in (reads_of holds k) one.model ≡ true) same f))

-- where none turns back each is led back to models that hold none

all_from : (p : ℕ → Bool) (xs : List ℕ) → ((x : ℕ) → is_in xs x ≡ true → p x ≡ true) → list_all p xs ≡ true
all_from p [] h = refl
all_from p (x ∷ xs) h = ap (λ b. b && list_all p xs) (h x (ap (λ b. b || is_in xs x) (own x))) ∙ all_from p xs (λ y e. h y (or_right (x == y) (is_in xs y) e))

pub reached_self : (holds : List (List ℕ)) (levels m : ℕ) → is_reached holds levels m m ≡ true
unfolding is_reached
reached_self holds zero m = own m
reached_self holds (suc levels) m = ap (λ b. b || list_any (λ next. is_reached holds levels next m) (reads_of holds m)) (own m)

module _ (holds : List (List ℕ)) (small : (m n : ℕ) → is_in (reads_of holds m) n ≡ true → n < length holds) (straight : (m n : ℕ) → is_in (reads_of holds m) n ≡ true → is_reached holds (length holds) n m ≡ false) where
  led_by : (fuel : ℕ) (seen : List ℕ) (c : ℕ) → Once (c ∷ seen) → ((s : ℕ) → is_in (c ∷ seen) s ≡ true → s < length holds) → ((s : ℕ) → is_in (c ∷ seen) s ≡ true → is_reached holds (length seen) s c ≡ true) → length holds ≤ fuel + length seen
      → is_led holds fuel c ≡ true
  unfolding is_led
  led_by zero seen c once within reached enough = absurd (omega (arith, enough, order_length (c ∷ seen) (length holds) once within))
  led_by (suc fuel) seen c once within reached enough = all_from (is_led holds fuel) (reads_of holds c) (λ d e. led_by fuel (c ∷ seen) d (new d e (is_in (c ∷ seen) d) refl, once) (λ s f. inside d e s f) (λ s f. onward d e s f) (omega (arith, enough)))
    where
      short : length seen ≤ length holds
      short = omega (arith, order_length (c ∷ seen) (length holds) once within)

      new : (d : ℕ) → is_in (reads_of holds c) d ≡ true → (b : Bool) → is_in (c ∷ seen) d ≡ b → b ≡ false
      new d e false f = refl
      new d e true f = absurd (false≢true (sym (straight c d e) ∙ reached_up holds (length seen) (length holds) d c short (reached d f)))

      inside : (d : ℕ) → is_in (reads_of holds c) d ≡ true → (s : ℕ) → is_in (d ∷ (c ∷ seen)) s ≡ true → s < length holds
      inside d e s f = ⊎_elim (λ same. subst (λ k. k < length holds) (same_number d s same) (small c d e)) (λ more. within s more) (or_cases (d == s) (is_in (c ∷ seen) s) f)

      onward : (d : ℕ) → is_in (reads_of holds c) d ≡ true → (s : ℕ) → is_in (d ∷ (c ∷ seen)) s ≡ true → is_reached holds (suc (length seen)) s d ≡ true
      onward d e s f =
          ⊎_elim (λ same. subst (λ k. is_reached holds (suc (length seen)) k d ≡ true) (same_number d s same) (reached_self holds (suc (length seen)) d))
          (λ more. reached_next holds (length seen) s c d (reached s more) e)
          (or_cases (d == s) (is_in (c ∷ seen) s) f)

  led : (c : ℕ) → c < length holds → is_led holds (length holds) c ≡ true
  led c lt =
      led_by (length holds) [] c (refl, tt) (λ s f. ⊎_elim (λ same. subst (λ k. k < length holds) (same_number c s same) lt) (λ bad. absurd (false≢true bad)) (or_cases (c == s) false f))
      (λ s f. ⊎_elim (λ same. subst (λ k. is_reached holds 0 k c ≡ true) (same_number c s same) (reached_self holds 0 c)) (λ bad. absurd (false≢true bad)) (or_cases (c == s) false f)) (omega arith)

in_within : (n m : ℕ) (xs : List ℕ) → All (λ k. k < n) xs → is_in xs m ≡ true → m < n
in_within n m [] h e = absurd (false≢true e)
in_within n m (x ∷ xs) h e =
    ⊎_elim (λ same. subst (λ k. k < n) (same_number x m same) (All-head (λ k. k < n) x xs h)) (λ more. in_within n m xs (All-tail (λ k. k < n) x xs h) more) (or_cases (x == m) (is_in xs m) e)

pub held_within : (n m c : ℕ) (holds : List (List ℕ)) → AreWithin n holds → is_in (reads_of holds m) c ≡ true → c < n
held_within n m c [] h e = absurd (false≢true e)
held_within n zero c (held ∷ holds) h e = in_within n c held (All-head (λ (ks : List ℕ). All (λ k. k < n) ks) held holds h) e
held_within n (suc m) c (held ∷ holds) h e = held_within n m c holds (All-tail (λ (ks : List ℕ). All (λ k. k < n) ks) held holds h) e

-- so what is never led back has an instance that turns
pub some_turn : (models : List NumberedModel) (c : ℕ) → AreWithin (length (all_held models)) (all_held models) → c < length (all_held models) → is_led (all_held models) (length (all_held models)) c ≡ false → turning_in models ≡ None → ⊥
some_turn models c within lt not_led none =
    let holds = all_held models in
    false≢true
    (sym not_led
    ∙ led holds (λ m n e. held_within (length holds) m n holds within e)
    (λ m n e.
    let one = found_from (turns_back holds) 0 m n models none e in
    let by : (one.0).by ≡ m = omega (arith, one.1) in
    subst (λ k. is_reached holds (length holds) n k ≡ false) by (subst (λ k. is_reached holds (length holds) k (one.0).by ≡ false) one.2 one.3)) c lt)

-- the models of instances are there

held_numbers : (models : List NumberedModel) (names : ℕ) (others : List Entry) → All (EntryIs models names) others → All (λ m. m < length models) (held_by others)
held_numbers models names [] h = All-nil (λ m. m < length models)
held_numbers models names (entries.Cover one ∷ others) h = held_numbers models names others (All-tail (EntryIs models names) (entries.Cover one) others h)
held_numbers models names (entries.Latch one ∷ others) h = held_numbers models names others (All-tail (EntryIs models names) (entries.Latch one) others h)
held_numbers models names (entries.Instance one ∷ others) h =
    All-cons (λ m. m < length models) one.model (held_by others) (All-head (EntryIs models names) (entries.Instance one) others h).0 (held_numbers models names others (All-tail (EntryIs models names) (entries.Instance one) others h))

all_numbers : (models some : List NumberedModel) → All (λ (model : NumberedModel). All (EntryIs models model.names) model.entries) some → AreWithin (length models) (all_held some)
all_numbers models [] h = All-nil (λ (held : List ℕ). All (λ m. m < length models) held)
all_numbers models (model ∷ some) h =
    All-cons (λ (held : List ℕ). All (λ m. m < length models) held) (held_by model.entries) (all_held some) (held_numbers models model.names model.entries (All-head (λ (one : NumberedModel). All (EntryIs models one.names) one.entries) model some h))
    (all_numbers models some (All-tail (λ (one : NumberedModel). All (EntryIs models one.names) one.entries) model some h))

pub how_many : (models : List NumberedModel) → length (all_held models) ≡ length models
how_many models = length-map models (λ model. held_by model.entries)

pub numbers_within : (models : List NumberedModel) → AreNumbered models → AreWithin (length (all_held models)) (all_held models)
numbers_within models h = subst (λ n. AreWithin n (all_held models)) (sym (how_many models)) (all_numbers models models h)

-- and so of what instances tell
pub holdings_within : (n k : ℕ) (models : List NumberedModel) → k + length models ≤ n → AreWithin n (all_held models) → All (λ (one : Holding). one.by < n) (holdings_from k models) × All (λ (one : Holding). one.model < n) (holdings_from k models)
holdings_within n k [] le h = (All-nil (λ (one : Holding). one.by < n), All-nil (λ (one : Holding). one.model < n))
holdings_within n k (model ∷ models) le h =
    let rest = holdings_within n (suc k) models (omega (arith, le)) (All-tail (λ (held : List ℕ). All (λ m. m < n) held) (held_by model.entries) (all_held models) h) in
    let here = by_entries model.entries (All-head (λ (held : List ℕ). All (λ m. m < n) held) (held_by model.entries) (all_held models) h) rest in
    here
  where
    lower : k < n
    lower = omega (arith, le)

    by_entries : (others : List Entry) → All (λ m. m < n) (held_by others) → All (λ (one : Holding). one.by < n) (holdings_from (suc k) models) × All (λ (one : Holding). one.model < n) (holdings_from (suc k) models)
        → All (λ (one : Holding). one.by < n) (holdings_by k others ++ holdings_from (suc k) models) × All (λ (one : Holding). one.model < n) (holdings_by k others ++ holdings_from (suc k) models)
    by_entries [] g rest = rest
    by_entries (entries.Cover one ∷ others) g rest = by_entries others g rest
    by_entries (entries.Latch one ∷ others) g rest = by_entries others g rest
    by_entries (entries.Instance one ∷ others) g rest =
        let more = by_entries others (All-tail (λ m. m < n) one.model (held_by others) g) rest in
        let here : Holding = record { line = one.line; by = k; model = one.model } in
        let all = holdings_by k others ++ holdings_from (suc k) models in
        (All-cons (λ (one : Holding). one.by < n) here all lower more.0, All-cons (λ (one : Holding). one.model < n) here all (All-head (λ m. m < n) one.model (held_by others) g) more.1)

-- what arrange asks
in_slice : (xs : List ℕ) (j d : ℕ) → slice_get xs j ≡ Some d → is_in xs d ≡ true
in_slice [] j d e = cc
in_slice (x ∷ xs) zero d e = let same : x ≡ d = cc in ap (λ k. k == d || is_in xs d) same ∙ ap (λ b. b || is_in xs d) (own d)
in_slice (x ∷ xs) (suc j) d e = or_right (x == d) (is_in xs d) (in_slice xs j d e)

few_at : (holds : List (List ℕ)) (c : ℕ) → list_all (λ held. nat_lt (length held) 4294967295) holds ≡ true → length (reads_of holds c) < 4294967295
few_at [] c e = omega arith
few_at (held ∷ holds) zero e = let both = and_parts (nat_lt (length held) 4294967295) (list_all (λ ks. nat_lt (length ks) 4294967295) holds) e in grind (arith, nat_tests)
few_at (held ∷ holds) (suc c) e = let both = and_parts (nat_lt (length held) 4294967295) (list_all (λ ks. nat_lt (length ks) 4294967295) holds) e in few_at holds c both.1

pub is_small : (holds : List (List ℕ)) → AreWithin (length holds) holds → list_all (λ held. nat_lt (length held) 4294967295) holds ≡ true → length holds < 4294967296 → IsSmall holds
is_small holds within few many = record {
  below = λ c j d e. held_within (length holds) c d holds within (in_slice (reads_of holds c) j d e);
  few = λ c. few_at holds c few;
  many = many;
}

-- entries and models, one by one

pub holdings_more : (k : ℕ) (es : List Entry) (e : Entry) → holdings_by k (es ++ e ∷ []) ≡ holdings_by k es ++ holdings_by k (e ∷ [])
holdings_more k [] e = refl
holdings_more k (entries.Cover one ∷ es) e = holdings_more k es e
holdings_more k (entries.Latch one ∷ es) e = holdings_more k es e
holdings_more k (entries.Instance one ∷ es) e = ap (λ (hs : List Holding). record { line = one.line; by = k; model = one.model } ∷ hs) (holdings_more k es e)

pub no_holding : (k : ℕ) (e : Entry) → ((one : _) → e ≡ entries.Instance one → ⊥) → holdings_by k (e ∷ []) ≡ []
no_holding k (entries.Cover one) h = refl
no_holding k (entries.Latch one) h = refl
no_holding k (entries.Instance one) h = absurd (h one refl)

pub holdings_again : (k : ℕ) (models : List NumberedModel) (model : NumberedModel) → holdings_from k (models ++ model ∷ []) ≡ holdings_from k models ++ holdings_by (k + length models) model.entries
holdings_again k [] model = append-nil (holdings_by k model.entries) ∙ ap (λ n. holdings_by n model.entries) (omega arith)
holdings_again k (one ∷ models) model =
    ap (λ (hs : List Holding). holdings_by k one.entries ++ hs) (holdings_again (suc k) models model ∙ ap (λ n. holdings_from (suc k) models ++ holdings_by n model.entries) (omega arith))
    ∙ sym (append_assoc (holdings_by k one.entries) (holdings_from (suc k) models) (holdings_by (k + suc (length models)) model.entries))

pub nothing_mapped : (o : Option Holding) → option_map (λ one. one.line) o ≡ None → o ≡ None
nothing_mapped None e = refl
nothing_mapped (Some one) e = cc
