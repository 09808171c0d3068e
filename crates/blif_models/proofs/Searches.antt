-- A search meets what is held, and what it has met at its end is what is reached.
use Rattle.std.proofs.Common.{◌≡◌, ℕ, zero, suc, ◌+◌, ◌-◌, ◌==◌, ◌<◌, ◌≤◌, ◌||◌, Bool, true, false, cond, List, [], ◌∷◌, ◌++◌, length, replicate, set, get_or, refl, ap, sym, ◌∙◌, subst, inl, inr, ⊎_elim, arith}
use Rattle.std.specs.Prelude.{◌⊎◌, All}
use Rattle.std.specs.List.{list_any}
use Rattle.std.proofs.lemmas.Bool.{false≢true, or_right}
use Rattle.std.proofs.lemmas.Bool.Decides.{nat_tests}
use Rattle.std.proofs.lemmas.List.{get_or-set_same, get_or-set_other, get_or_append_left, get_or_push, length-replicate, length-set, length_push}
use Rattle.std.proofs.lemmas.List.Elements.{All-cons, All-head, All-nil, All-push}
use Rattle.std.proofs.lemmas.List.Sums.{count_by-le-length, get_or-le-sum_by, sum_by-set}
use Rattle.blif_order.specs.Orders.{is_in, reads_of}
use Rattle.blif_order.proofs.Walks.{in_end, in_last, in_more, or_cases, own, same_number, same_or_not}
use Rattle.blif_models.specs.Graphs.{AreReached, IsSearch, Meets, is_met, is_reached, met_count}

-- reached through some levels, and so through more

any_more : (p q : ℕ → Bool) → ((x : ℕ) → p x ≡ true → q x ≡ true) → (xs : List ℕ) → list_any p xs ≡ true → list_any q xs ≡ true
any_more p q h [] e = absurd (false≢true e)
any_more p q h (x ∷ xs) e = ⊎_elim (λ here. ap (λ b. b || list_any q xs) (h x here)) (λ more. or_right (q x) (list_any q xs) (any_more p q h xs more)) (or_cases (p x) (list_any p xs) e)

reached_more : (holds : List (List ℕ)) (k from m : ℕ) → is_reached holds k from m ≡ true → is_reached holds (suc k) from m ≡ true
unfolding is_reached
reached_more holds zero from m e = ap (λ b. b || list_any (λ next. is_reached holds zero next m) (reads_of holds from)) e
reached_more holds (suc k) from m e =
    ⊎_elim (λ here. ap (λ b. b || list_any (λ next. is_reached holds (suc k) next m) (reads_of holds from)) here)
    (λ more. or_right (from == m) (list_any (λ next. is_reached holds (suc k) next m) (reads_of holds from))
    (any_more (λ next. is_reached holds k next m) (λ next. is_reached holds (suc k) next m) (λ next f. reached_more holds k next m f) (reads_of holds from) more))
    (or_cases (from == m) (list_any (λ next. is_reached holds k next m) (reads_of holds from)) e)

reached_by : (holds : List (List ℕ)) (d k from m : ℕ) → is_reached holds k from m ≡ true → is_reached holds (d + k) from m ≡ true
reached_by holds zero k from m e = let same : k ≡ 0 + k = omega arith in subst (λ n. is_reached holds n from m ≡ true) same e
reached_by holds (suc d) k from m e =
    let same : suc (d + k) ≡ suc d + k = omega arith in
    subst (λ n. is_reached holds n from m ≡ true) same (reached_more holds (d + k) from m (reached_by holds d k from m e))

pub reached_up : (holds : List (List ℕ)) (k l from m : ℕ) → k ≤ l → is_reached holds k from m ≡ true → is_reached holds l from m ≡ true
reached_up holds k l from m le e =
    let same : l - k + k ≡ l = omega (arith, le) in
    subst (λ n. is_reached holds n from m ≡ true) same (reached_by holds (l - k) k from m e)

pub reached_next : (holds : List (List ℕ)) (k from m c : ℕ) → is_reached holds k from m ≡ true → is_in (reads_of holds m) c ≡ true → is_reached holds (suc k) from c ≡ true
unfolding is_reached
reached_next holds zero from m c e f =
    or_right (from == c) (list_any (λ next. next == c) (reads_of holds from)) (subst (λ n. is_in (reads_of holds n) c ≡ true) (sym (same_number from m e)) f)
reached_next holds (suc k) from m c e f =
    or_right (from == c) (list_any (λ next. is_reached holds (suc k) next c) (reads_of holds from))
    (⊎_elim
    (λ here. any_more (λ next. next == c) (λ next. is_reached holds (suc k) next c) (λ next g. ap (λ b. b || list_any (λ n. is_reached holds k n c) (reads_of holds next)) g) (reads_of holds from)
    (subst (λ n. is_in (reads_of holds n) c ≡ true) (sym (same_number from m here)) f))
    (λ more. any_more (λ next. is_reached holds k next m) (λ next. is_reached holds (suc k) next c) (λ next g. reached_next holds k next m c g f) (reads_of holds from) more)
    (or_cases (from == m) (list_any (λ next. is_reached holds k next m) (reads_of holds from)) e))

-- what was met

met_within : (met : List Bool) (m : ℕ) → is_met met m ≡ true → m < length met
met_within [] m e = absurd (false≢true e)
met_within (b ∷ met) zero e = omega arith
met_within (b ∷ met) (suc m) e = omega (arith, met_within met m e)

counted : (b : Bool) → b ≡ true → 1 ≤ cond b 1 0
counted true e = omega arith
counted false e = absurd (false≢true e)

not_counted : (b : Bool) → b ≡ false → cond b 1 0 ≤ 0
not_counted true e = absurd (false≢true (sym e))
not_counted false e = omega arith

met_one : (met : List Bool) (m : ℕ) → is_met met m ≡ true → 1 ≤ met_count met
met_one met m e =
    omega (arith, counted (get_or met m false) e, get_or-le-sum_by (λ b. cond b 1 0) met m false (met_within met m e))

met_more : (met : List Bool) (m : ℕ) → m < length met → is_met met m ≡ false → met_count (set met m true) ≡ met_count met + 1
met_more met m lt e =
    omega (arith, not_counted (get_or met m false) e, sum_by-set (λ b. cond b 1 0) met m true false lt)

or_nothing : (a b : Bool) → b ≡ false → (a || b) ≡ a
or_nothing true b e = refl
or_nothing false b e = e

met_set : (met : List Bool) (m k : ℕ) → m < length met → is_met (set met m true) k ≡ (is_met met k || m == k)
met_set met m k lt = which (same_or_not k m)
  where
    which : (k ≡ m) ⊎ ((k == m) ≡ false) → is_met (set met m true) k ≡ (is_met met k || m == k)
    which (inl same) =
        ap (λ n. is_met (set met m true) n) same ∙ get_or-set_same met m true false lt
        ∙ sym (or_right (is_met met k) (m == k) (ap (λ n. m == n) same ∙ own m))
    which (inr apart) =
        get_or-set_other met m k true false (λ e. absurd (false≢true (sym apart ∙ ap (λ n. n == m) e ∙ own m)))
        ∙ sym (or_nothing (is_met met k) (m == k) (grind (arith, nat_tests)))

-- one model is met

pub meets_old : (met : List Bool) (left : List ℕ) (m : ℕ) → is_met met m ≡ true → Meets met left (m ∷ []) met left
meets_old met left m was = record {
  as_many = refl;
  stays = λ k e. e;
  kept = λ k e. e;
  added = λ k e new. absurd (false≢true (sym new ∙ e));
  origin = λ k e. inl e;
  each = λ k e. ⊎_elim (λ (same : (m == k) ≡ true). subst (λ n. is_met met n ≡ true) (same_number m k same) was) (λ bad. absurd (false≢true bad)) (or_cases (m == k) false e);
  more = omega arith;
  work = refl;
  within = λ n h k. h;
  sound = λ holds from levels le s r. s;
}

pub meets_new : (met : List Bool) (left : List ℕ) (m : ℕ) → m < length met → is_met met m ≡ false → Meets met left (m ∷ []) (set met m true) (left ++ m ∷ [])
meets_new met left m lt new = record {
  as_many = length-set met m true;
  stays = λ k e. met_set met m k lt ∙ ap (λ b. b || m == k) e;
  kept = λ k e. in_more left k m e;
  added = λ k e new. ⊎_elim (λ was. absurd (false≢true (sym new ∙ was))) (λ same. in_last left k m ∙ or_right (is_in left k) (m == k) same) (or_cases (is_met met k) (m == k) (sym (met_set met m k lt) ∙ e));
  origin = λ k e. ⊎_elim (λ was. inl was) (λ same. inr (met_set met m k lt ∙ or_right (is_met met k) (m == k) same)) (or_cases (is_in left k) (m == k) (sym (in_last left k m) ∙ e));
  each = λ k e. met_set met m k lt ∙ or_right (is_met met k) (m == k) (⊎_elim (λ (same : (m == k) ≡ true). same) (λ bad. absurd (false≢true bad)) (or_cases (m == k) false e));
  more = omega (arith, met_more met m lt new);
  work = omega (arith, met_more met m lt new, length_push left m);
  within = λ n h k. All-push (λ j. j < n) left m h (All-head (λ j. j < n) m [] k);
  sound = λ holds from levels le s r k e.
      ⊎_elim (λ was. reached_up holds (met_count met - 1) (met_count (set met m true) - 1) from k (omega (arith, met_more met m lt new)) (s k was))
      (λ same. reached_up holds levels (met_count (set met m true) - 1) from k (omega (arith, met_more met m lt new, le)) (r k (ap (λ b. b || false) same)))
      (or_cases (is_met met k) (m == k) (sym (met_set met m k lt) ∙ e));
}

pub meets_none : (met : List Bool) (left : List ℕ) → Meets met left [] met left
meets_none met left = record {
  as_many = refl;
  stays = λ k e. e;
  kept = λ k e. e;
  added = λ k e new. absurd (false≢true (sym new ∙ e));
  origin = λ k e. inl e;
  each = λ k e. absurd (false≢true e);
  more = omega arith;
  work = refl;
  within = λ n h k. h;
  sound = λ holds from levels le s r. s;
}

pub all_front : (n : ℕ) (xs : List ℕ) (x : ℕ) → All (λ m. m < n) (xs ++ x ∷ []) → All (λ m. m < n) xs
all_front n xs x h = λ i d lt. subst (λ k. k < n) (get_or_append_left xs (x ∷ []) d i lt) (h i d (omega (arith, lt, length_push xs x)))

pub last_within : (n : ℕ) (xs : List ℕ) (x : ℕ) → All (λ m. m < n) (xs ++ x ∷ []) → x < n
last_within n xs x h = subst (λ m. m < n) (get_or_push xs x 0 (length xs) refl) (h (length xs) 0 (omega (arith, length_push xs x)))

pub all_last : (n : ℕ) (xs : List ℕ) (x : ℕ) → All (λ m. m < n) (xs ++ x ∷ []) → All (λ m. m < n) (x ∷ [])
all_last n xs x h = All-cons (λ m. m < n) x [] (last_within n xs x h) (All-nil (λ m. m < n))

-- and one more
pub meets_more : (met met' met'' : List Bool) (left left' left'' held : List ℕ) (m : ℕ) → Meets met left held met' left' → Meets met' left' (m ∷ []) met'' left'' → Meets met left (held ++ m ∷ []) met'' left''
meets_more met met' met'' left left' left'' held m a b = record {
  as_many = b.as_many ∙ a.as_many;
  stays = λ k e. b.stays k (a.stays k e);
  kept = λ k e. b.kept k (a.kept k e);
  added = λ k e new. by_cases k (is_met met' k) refl e new;
  origin = λ k e. ⊎_elim (λ before. ⊎_elim (λ first. inl first) (λ was. inr (b.stays k was)) (a.origin k before)) (λ was. inr was) (b.origin k e);
  each = λ k e. ⊎_elim (λ among. b.stays k (a.each k among)) (λ same. b.each k (ap (λ t. t || false) same)) (or_cases (is_in held k) (m == k) (sym (in_last held k m) ∙ e));
  more = omega (arith, a.more, b.more);
  work = omega (arith, a.work, b.work);
  within = λ n h k. b.within n (a.within n h (all_front n held m k)) (all_last n held m k);
  sound = λ holds from levels le s r. b.sound holds from levels (omega (arith, le, a.more)) (a.sound holds from levels le s (λ k e. r k (in_more held k m e)))
      (λ k e. r k (in_last held k m ∙ or_right (is_in held k) (m == k) (⊎_elim (λ (same : (m == k) ≡ true). same) (λ bad. absurd (false≢true bad)) (or_cases (m == k) false e))));
}
  where
    by_cases : (k : ℕ) (t : Bool) → is_met met' k ≡ t → is_met met'' k ≡ true → is_met met k ≡ false → is_in left'' k ≡ true
    by_cases k true was e new = b.kept k (a.added k was new)
    by_cases k false was e new = b.added k e was

-- a search begins

none_met : (n k : ℕ) → is_met (replicate n false) k ≡ false
none_met zero k = refl
none_met (suc n) zero = refl
none_met (suc n) (suc k) = none_met n k

pub search_begins : (holds : List (List ℕ)) (from : ℕ) (none met : List Bool) (nothing left : List ℕ) → from < length holds → none ≡ replicate (length holds) false → nothing ≡ [] → Meets none nothing (from ∷ []) met left → IsSearch holds from met left
unfolding is_reached
search_begins holds from none met nothing left lt is_none is_nothing m = record {
  as_many = m.as_many ∙ ap length is_none ∙ length-replicate (length holds) false;
  start = m.each from (ap (λ b. b || false) (own from));
  closed = λ k c e new f. absurd (false≢true (sym new ∙ m.added k e (not_yet k)));
  within = m.within (length holds) (subst (λ (xs : List ℕ). All (λ j. j < length holds) xs) (sym is_nothing) (All-nil (λ j. j < length holds))) (All-cons (λ j. j < length holds) from [] lt (All-nil (λ j. j < length holds)));
  left_met = λ k e. ⊎_elim (λ (before : is_in nothing k ≡ true). absurd (false≢true (ap (λ (xs : List ℕ). is_in xs k) (sym is_nothing) ∙ before))) (λ was. was) (m.origin k e);
  sound = m.sound holds from 0 (omega arith) (λ k e. absurd (false≢true (sym (not_yet k) ∙ e))) (λ k e. ⊎_elim (λ (same : (from == k) ≡ true). same) (λ bad. absurd (false≢true bad)) (or_cases (from == k) false e));
}
  where
    not_yet : (k : ℕ) → is_met none k ≡ false
    not_yet k = ap (λ (xs : List Bool). is_met xs k) is_none ∙ none_met (length holds) k

-- a step of a search

pub search_step : (holds : List (List ℕ)) (from p : ℕ) (met met' : List Bool) (left left' : List ℕ) → IsSearch holds from met (left ++ p ∷ []) → Meets met left (reads_of holds p) met' left'
    → All (λ m. m < length holds) (reads_of holds p) → IsSearch holds from met' left'
search_step holds from p met met' left left' s m held = record {
  as_many = m.as_many ∙ s.as_many;
  start = m.stays from s.start;
  closed = λ k c e new f. by_met k c (is_met met k) refl e new f;
  within = m.within (length holds) (all_front (length holds) left p s.within) held;
  left_met = λ k e. ⊎_elim (λ before. m.stays k (s.left_met k (in_more left k p before))) (λ was. was) (m.origin k e);
  sound = m.sound holds from (met_count met) (omega arith) s.sound (λ k e.
      let here = s.left_met p (in_end left p) in
      let one = met_one met p here in
      reached_up holds (suc (met_count met - 1)) (met_count met) from k (omega (arith, one)) (reached_next holds (met_count met - 1) from p k (s.sound p here) e));
}
  where
    by_met : (k c : ℕ) (t : Bool) → is_met met k ≡ t → is_met met' k ≡ true → is_in left' k ≡ false → is_in (reads_of holds k) c ≡ true → is_met met' c ≡ true
    by_met k c false was e new f = absurd (false≢true (sym new ∙ m.added k e was))
    by_met k c true was e new f = by_left (is_in left k) refl (p == k) refl
      where
        by_left : (t : Bool) → is_in left k ≡ t → (u : Bool) → (p == k) ≡ u → is_met met' c ≡ true
        by_left true among u same = absurd (false≢true (sym new ∙ m.kept k among))
        by_left false among true same = m.each c (subst (λ n. is_in (reads_of holds n) c ≡ true) (sym (same_number p k same)) f)
        by_left false among false apart = m.stays c (s.closed k c was (in_last left k p ∙ ap (λ b. b || p == k) among ∙ apart) f)

-- where nothing is left, all that is reached was met

pub closed_over : (holds : List (List ℕ)) (met : List Bool) → ((m c : ℕ) → is_met met m ≡ true → is_in (reads_of holds m) c ≡ true → is_met met c ≡ true) → (levels from m : ℕ) → is_met met from ≡ true → is_reached holds levels from m ≡ true → is_met met m ≡ true
unfolding is_reached
closed_over holds met closed zero from m e f = subst (λ n. is_met met n ≡ true) (same_number from m f) e
closed_over holds met closed (suc levels) from m e f =
    ⊎_elim (λ same. subst (λ n. is_met met n ≡ true) (same_number from m same) e)
    (λ more. through (reads_of holds from) (λ c among. closed from c e among) (λ c was g. closed_over holds met closed levels c m was g) more)
    (or_cases (from == m) (list_any (λ next. is_reached holds levels next m) (reads_of holds from)) f)
  where
    through : (cs : List ℕ) → ((c : ℕ) → is_in cs c ≡ true → is_met met c ≡ true) → ((c : ℕ) → is_met met c ≡ true → is_reached holds levels c m ≡ true → is_met met m ≡ true) → list_any (λ next. is_reached holds levels next m) cs ≡ true → is_met met m ≡ true
    through [] each onward g = absurd (false≢true g)
    through (c ∷ cs) each onward g =
        ⊎_elim (λ here. onward c (each c (ap (λ b. b || is_in cs c) (own c))) here)
        (λ more. through cs (λ d among. each d (or_right (c == d) (is_in cs d) among)) onward more)
        (or_cases (is_reached holds levels c m) (list_any (λ next. is_reached holds levels next m) cs) g)

pub search_ends : (holds : List (List ℕ)) (from : ℕ) (met : List Bool) (left : List ℕ) → IsSearch holds from met left → left ≡ [] → AreReached holds from met
search_ends holds from met left s none = record {
  as_many = s.as_many;
  reached = λ m. by_cases m (is_met met m) refl (is_reached holds (length holds) from m) refl;
  however_far = λ levels m e. far levels m e;
}
  where
    closed : (m c : ℕ) → is_met met m ≡ true → is_in (reads_of holds m) c ≡ true → is_met met c ≡ true
    closed m c e f = s.closed m c e (ap (λ (t : List ℕ). is_in t m) none) f

    far : (levels m : ℕ) → is_reached holds levels from m ≡ true → is_met met m ≡ true
    far levels m e = closed_over holds met closed levels from m s.start e

    by_cases : (m : ℕ) (t : Bool) → is_met met m ≡ t → (u : Bool) → is_reached holds (length holds) from m ≡ u → is_met met m ≡ is_reached holds (length holds) from m
    by_cases m true e u f = e ∙ sym (reached_up holds (met_count met - 1) (length holds) from m (omega (arith, s.as_many, count_by-le-length (λ b. b) met)) (s.sound m e))
    by_cases m false e true f = absurd (false≢true (sym e ∙ far (length holds) m f))
    by_cases m false e false f = e ∙ sym f

-- how much is left to do
pub work_within : (met : List Bool) → met_count met ≤ length met
work_within met = count_by-le-length (λ b. b) met
