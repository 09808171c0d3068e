-- Registers by the index of their names.
use Rattle.std.proofs.Common.{◌≡◌, ℕ, zero, suc, ◌+◌, ◌<◌, ◌≤◌, ◌||◌, not, Bool, true, false, cond, List, [], ◌∷◌, ◌++◌, length, map, get_or, set, Option, Some, None, option_map, nat_lt, refl, ap, sym, ◌∙◌, arith}
use Rattle.std.specs.Prelude.{is_some, position}
use Rattle.std.specs.BTreeMap.{BTreeMap, UpdatesBy}
use Rattle.std.specs.Cmp.Lexicographic.{slice_cmp}
use Rattle.std.specs.Global.{Vec}
use Rattle.std.specs.List.{list_any, position_or_len}
use Rattle.std.specs.Ordering.{nat_cmp}
use Rattle.std.specs.Str.{bytes_eq}
use Rattle.std.proofs.lemmas.Bool.{false≢true, or_parts, or_from}
use Rattle.std.proofs.lemmas.Bool.Decides.{nat_tests}
use Rattle.std.proofs.lemmas.Map.Text.{is_eq-slice_cmp}
use Rattle.std.proofs.lemmas.Slice.Eq.{bytes_eq-Decides}
use Rattle.job_text.specs.declared.job.Register.{Register}
use Rattle.job_words.specs.Text.{Word}
use Rattle.job_text.specs.Places.{is_called}
use Rattle.job_text.specs.Grammar.{without}
use Rattle.job_text.specs.Names.{AreDistinct, IsIndex, found_by}
use Rattle.job_text.proofs.RegisterLists.{dropped_is, kept_is}

-- equal words are equal the other way round
turned : (a b : Word) → bytes_eq a b ≡ bytes_eq b a
turned a b = by_cases (bytes_eq a b) (bytes_eq b a) refl refl
  where
    by_cases : (s t : Bool) → bytes_eq a b ≡ s → bytes_eq b a ≡ t → bytes_eq a b ≡ bytes_eq b a
    by_cases true true e f = e ∙ sym f
    by_cases false false e f = e ∙ sym f
    by_cases true false e f = absurd (false≢true (sym f ∙ (bytes_eq-Decides b a).1 (sym ((bytes_eq-Decides a b).0 e))))
    by_cases false true e f = absurd (false≢true (sym e ∙ (bytes_eq-Decides a b).1 (sym ((bytes_eq-Decides b a).0 f))))

-- the place of the first that passes, from the front
next_place : (b : Bool) (k n : ℕ) → cond (nat_lt (cond (not b) (1 + k) 0) (suc n)) (Some (cond (not b) (1 + k) 0)) None ≡ cond b (Some 0) (option_map suc (cond (nat_lt k n) (Some k) None))
next_place true k n = grind (arith, nat_tests)
next_place false k n = by_cases (nat_lt k n) refl
  where
    by_cases : (t : Bool) → nat_lt k n ≡ t → cond (nat_lt (1 + k) (suc n)) (Some (1 + k)) None ≡ option_map suc (cond (nat_lt k n) (Some k) None)
    by_cases true e = grind (arith, nat_tests)
    by_cases false e = grind (arith, nat_tests)

position_next : (p : Register → Bool) (r : Register) (rs : List Register) → position p (r ∷ rs) ≡ cond (p r) (Some 0) (option_map suc (position p rs))
position_next p r rs = next_place (p r) (position_or_len p rs) (length rs)

some_next : (b : Bool) (o : Option ℕ) (later : Bool) → is_some o ≡ later → is_some (cond b (Some 0) (option_map suc o)) ≡ (b || later)
some_next true o later h = refl
some_next false None later h = h
some_next false (Some k) later h = h

-- a name is found where a register has it
pub some_called : (p : Register → Bool) (rs : List Register) → is_some (position p rs) ≡ list_any p rs
some_called p [] = refl
some_called p (r ∷ rs) = ap is_some (position_next p r rs) ∙ some_next (p r) (position p rs) (list_any p rs) (some_called p rs)

-- the place of a name, with one register more
place_of_other : (p : Register → Bool) (rs : List Register) (r : Register) → p r ≡ false → position p (rs ++ r ∷ []) ≡ position p rs
place_of_other p [] r h = position_next p r [] ∙ ap (λ b. cond b (Some 0) None) h
place_of_other p (x ∷ rs) r h = position_next p x (rs ++ r ∷ []) ∙ ap (λ t. cond (p x) (Some 0) (option_map suc t)) (place_of_other p rs r h) ∙ sym (position_next p x rs)

place_of_own : (p : Register → Bool) (rs : List Register) (r : Register) → p r ≡ true → list_any p rs ≡ false → position p (rs ++ r ∷ []) ≡ Some (length rs)
place_of_own p [] r h none = position_next p r [] ∙ ap (λ b. cond b (Some 0) None) h
place_of_own p (x ∷ rs) r h none =
    let both = or_parts (p x) (list_any p rs) none in
    position_next p x (rs ++ r ∷ []) ∙ ap (λ b. cond b (Some 0) (option_map suc (position p (rs ++ r ∷ [])))) both.0 ∙ ap (option_map suc) (place_of_own p rs r h both.1)

-- one more register of a new name
none_more : (w : Word) (rs : List Register) (r : Register) → list_any (is_called w) rs ≡ false → is_called w r ≡ false → list_any (is_called w) (rs ++ r ∷ []) ≡ false
none_more w [] r h e = or_from (is_called w r) false e refl
none_more w (x ∷ rs) r h e =
    let both = or_parts (is_called w x) (list_any (is_called w) rs) h in
    or_from (is_called w x) (list_any (is_called w) (rs ++ r ∷ [])) both.0 (none_more w rs r both.1 e)

pub distinct_more : (rs : List Register) (r : Register) → AreDistinct rs → list_any (is_called r.name) rs ≡ false → AreDistinct (rs ++ r ∷ [])
distinct_more [] r h new = (refl, tt)
distinct_more (x ∷ rs) r h new =
    let both = or_parts (is_called r.name x) (list_any (is_called r.name) rs) new in
    (none_more x.name rs r h.0 (turned r.name x.name ∙ both.0), distinct_more rs r h.1 both.1)

pub index_more : (old new : BTreeMap (Vec ℕ) ℕ) (rs : List Register) (r : Register) (name : Vec ℕ) (n : ℕ) → IsIndex old rs
    → UpdatesBy (λ (one other : Vec ℕ). slice_cmp nat_cmp one.items other.items) (λ (other : Vec ℕ). slice_cmp nat_cmp name.items other.items) old new (Some n)
    → name.items ≡ r.name → n ≡ length rs → list_any (is_called r.name) rs ≡ false → IsIndex new (rs ++ r ∷ [])
index_more old new rs r name n h updates same count none w few = by_cases (is_called w r) refl
  where
    found : found_by new w ≡ cond (is_called w r) (Some n) (found_by old w)
    found =
        updates.0 (record name { items = w; len = length w; cap = length w; ok = (refl, omega arith); small = few })
        ∙ ap (λ b. cond b (Some n) (found_by old w)) (is_eq-slice_cmp name.items w ∙ ap (λ t. bytes_eq t w) same)

    by_cases : (b : Bool) → is_called w r ≡ b → found_by new w ≡ position (is_called w) (rs ++ r ∷ [])
    by_cases true e =
        let own : r.name ≡ w = (bytes_eq-Decides r.name w).0 e in
        found ∙ ap (λ b. cond b (Some n) (found_by old w)) e ∙ ap (λ t. Some t) count
        ∙ sym (place_of_own (is_called w) rs r e (sym (ap (λ t. list_any (is_called t) rs) own) ∙ none))
    by_cases false e =
        found ∙ ap (λ b. cond b (Some n) (found_by old w)) e ∙ h w few ∙ sym (place_of_other (is_called w) rs r e)

-- the registers where one is dropped
same_after : (w x : Word) (rs : List Register) → list_any (is_called x) (map (without w) rs) ≡ list_any (is_called x) rs
same_after w x [] = refl
same_after w x (r ∷ rs) = ap (λ b. is_called x r || b) (same_after w x rs)

pub distinct_after : (w : Word) (rs : List Register) → AreDistinct rs → AreDistinct (map (without w) rs)
distinct_after w [] h = tt
distinct_after w (r ∷ rs) h = (same_after w r.name rs ∙ h.0, distinct_after w rs h.1)

place_after : (w x : Word) (rs : List Register) → position (is_called x) (map (without w) rs) ≡ position (is_called x) rs
place_after w x [] = refl
place_after w x (r ∷ rs) =
    position_next (is_called x) (without w r) (map (without w) rs) ∙ ap (λ t. cond (is_called x r) (Some 0) (option_map suc t)) (place_after w x rs) ∙ sym (position_next (is_called x) r rs)

pub index_after : (w : Word) (places : BTreeMap (Vec ℕ) ℕ) (rs : List Register) → IsIndex places rs → IsIndex places (map (without w) rs)
index_after w places rs h x few = h x few ∙ sym (place_after w x rs)

-- a drop changes the one register of the name
none_dropped : (w : Word) (rs : List Register) → list_any (is_called w) rs ≡ false → map (without w) rs ≡ rs
none_dropped w [] h = refl
none_dropped w (r ∷ rs) h =
    let both = or_parts (is_called w r) (list_any (is_called w) rs) h in
    ap (λ t. t ∷ map (without w) rs) (kept_is r w both.0) ∙ ap (λ t. r ∷ t) (none_dropped w rs both.1)

none_there : (w : Word) (rs : List Register) (i : ℕ) → i ≡ position_or_len (is_called w) rs → length rs ≤ i → list_any (is_called w) rs ≡ false
none_there w [] i e h = refl
none_there w (r ∷ rs) i e h = by_cases (is_called w r) refl (λ j f. none_there w rs j f)
  where
    by_cases : (b : Bool) → is_called w r ≡ b → ((j : ℕ) → j ≡ position_or_len (is_called w) rs → length rs ≤ j → list_any (is_called w) rs ≡ false) → list_any (is_called w) (r ∷ rs) ≡ false
    by_cases true f later =
        let at : i ≡ 0 = e ∙ ap (λ b. cond (not b) (1 + position_or_len (is_called w) rs) 0) f in
        absurd (omega (arith, at, h))
    by_cases false f later =
        let at : i ≡ 1 + position_or_len (is_called w) rs = e ∙ ap (λ b. cond (not b) (1 + position_or_len (is_called w) rs) 0) f in
        or_from (is_called w r) (list_any (is_called w) rs) f (later (position_or_len (is_called w) rs) refl (omega (arith, at, h)))

pub none_drops : (w : Word) (rs : List Register) (i : ℕ) → i ≡ position_or_len (is_called w) rs → length rs ≤ i → map (without w) rs ≡ rs
none_drops w rs i e h = none_dropped w rs (none_there w rs i e h)

pub one_drops : (w : Word) (rs : List Register) (i : ℕ) (q : Register) → AreDistinct rs → i ≡ position_or_len (is_called w) rs → i < length rs → q ≡ get_or rs i q
    → set rs i (record { name = q.name; live = false; kind = q.kind }) ≡ map (without w) rs
one_drops w [] i q h e lt at = absurd (omega (arith, lt))
one_drops w (r ∷ rs) zero q h e lt at = by_cases (is_called w r) refl
  where
    by_cases : (b : Bool) → is_called w r ≡ b → record { name = q.name; live = false; kind = q.kind } ∷ rs ≡ without w r ∷ map (without w) rs
    by_cases true f =
        let same : r.name ≡ w = (bytes_eq-Decides r.name w).0 f in
        ap (λ (t : Register). record { name = t.name; live = false; kind = t.kind } ∷ rs) at ∙ ap (λ t. t ∷ rs) (dropped_is r w f)
        ∙ ap (λ t. without w r ∷ t) (sym (none_dropped w rs (sym (ap (λ n. list_any (is_called n) rs) same) ∙ h.0)))
    by_cases false f =
        let first : 0 ≡ 1 + position_or_len (is_called w) rs = e ∙ ap (λ b. cond (not b) (1 + position_or_len (is_called w) rs) 0) f in
        absurd (omega (arith, first))
one_drops w (r ∷ rs) (suc i) q h e lt at = by_cases (is_called w r) refl (λ f. one_drops w rs i q h.1 f (omega (arith, lt)) at)
  where
    by_cases : (b : Bool) → is_called w r ≡ b → (i ≡ position_or_len (is_called w) rs → set rs i (record { name = q.name; live = false; kind = q.kind }) ≡ map (without w) rs)
        → r ∷ set rs i (record { name = q.name; live = false; kind = q.kind }) ≡ without w r ∷ map (without w) rs
    by_cases true f later =
        let first : suc i ≡ 0 = e ∙ ap (λ b. cond (not b) (1 + position_or_len (is_called w) rs) 0) f in
        absurd (omega (arith, first))
    by_cases false f later =
        let next : suc i ≡ 1 + position_or_len (is_called w) rs = e ∙ ap (λ b. cond (not b) (1 + position_or_len (is_called w) rs) 0) f in
        ap (λ t. t ∷ set rs i (record { name = q.name; live = false; kind = q.kind })) (sym (kept_is r w f)) ∙ ap (λ t. without w r ∷ t) (later (omega (arith, next)))
