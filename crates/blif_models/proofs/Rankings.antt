-- A ranking lowers the ranks of what is held, and at its end no model holds one of a higher rank.
use Rattle.std.proofs.Common.{◌≡◌, ℕ, zero, suc, ◌==◌, ◌<◌, ◌≤◌, ◌||◌, Bool, true, false, cond, List, [], ◌∷◌, ◌++◌, length, replicate, set, get_or, nat_lt, refl, ap, sym, ◌∙◌, subst, inl, inr, ⊎_elim, arith}
use Rattle.std.specs.Prelude.{◌⊎◌, All}
use Rattle.std.specs.List.{list_any}
use Rattle.std.proofs.lemmas.Bool.{false≢true, or_right}
use Rattle.std.proofs.lemmas.Bool.Decides.{nat_tests}
use Rattle.std.proofs.lemmas.List.{get_or-set_same, get_or-set_other, length-set, length_push}
use Rattle.std.proofs.lemmas.List.Elements.{All-cons, All-head, All-nil, All-push}
use Rattle.std.proofs.lemmas.List.Sums.{sum_by-set}
use Rattle.blif_order.specs.Orders.{is_in, reads_of}
use Rattle.blif_order.proofs.Walks.{in_end, in_last, in_more, or_cases, own, same_number, same_or_not}
use Rattle.blif_models.specs.declared.cycles.Holding.{Holding}
use Rattle.blif_models.specs.Graphs.{is_reached, turns_back}
use Rattle.blif_models.specs.Ranks.{AreRanks, IsRanking, Lowers, rank_of}
use Rattle.blif_models.proofs.Searches.{all_front, all_last}

-- what is reached has no higher rank

pub reached_lower : (holds : List (List ℕ)) (rank : ℕ → ℕ) → ((m n : ℕ) → is_in (reads_of holds m) n ≡ true → rank n ≤ rank m) → (levels from m : ℕ) → is_reached holds levels from m ≡ true → rank m ≤ rank from
unfolding is_reached
reached_lower holds rank r zero from m e = let same = same_number from m e in subst (λ n. rank n ≤ rank from) same (omega arith)
reached_lower holds rank r (suc levels) from m e =
    ⊎_elim (λ here. let same = same_number from m here in subst (λ n. rank n ≤ rank from) same (omega arith))
    (λ more. through (reads_of holds from) (λ c among. r from c among) (λ c g. reached_lower holds rank r levels c m g) more)
    (or_cases (from == m) (list_any (λ next. is_reached holds levels next m) (reads_of holds from)) e)
  where
    through : (cs : List ℕ) → ((c : ℕ) → is_in cs c ≡ true → rank c ≤ rank from) → ((c : ℕ) → is_reached holds levels c m ≡ true → rank m ≤ rank c) → list_any (λ next. is_reached holds levels next m) cs ≡ true → rank m ≤ rank from
    through [] each onward g = absurd (false≢true g)
    through (c ∷ cs) each onward g =
        ⊎_elim (λ here. omega (arith, onward c here, each c (ap (λ b. b || is_in cs c) (own c))))
        (λ more. through cs (λ d among. each d (or_right (c == d) (is_in cs d) among)) onward more)
        (or_cases (is_reached holds levels c m) (list_any (λ next. is_reached holds levels next m) cs) g)

-- so a model that is ranked lower than its holder does not turn back
pub lower_is_passed : (holds : List (List ℕ)) (rank : ℕ → ℕ) (one : Holding) → ((m n : ℕ) → is_in (reads_of holds m) n ≡ true → rank n ≤ rank m) → rank one.model < rank one.by → turns_back holds one ≡ false
lower_is_passed holds rank one r lt = by_cases (turns_back holds one) refl
  where
    by_cases : (b : Bool) → turns_back holds one ≡ b → b ≡ false
    by_cases false e = refl
    by_cases true e = absurd (omega (arith, lt, reached_lower holds rank r (length holds) one.model one.by e))

-- one model is given a rank

counted : (b : Bool) → b ≡ true → 1 ≤ cond b 1 0
counted true e = omega arith
counted false e = absurd (false≢true e)

not_counted : (b : Bool) → b ≡ false → cond b 1 0 ≤ 0
not_counted true e = absurd (false≢true (sym e))
not_counted false e = omega arith

pub lowers_none : (rank : ℕ) (ranks left : List ℕ) → Lowers rank ranks left [] ranks left
lowers_none rank ranks left = record {
  as_many = refl;
  lower = λ k. omega arith;
  each = λ k e. absurd (false≢true e);
  steady = λ k e. refl;
  kept = λ k e. e;
  floor = λ h. h;
  work = omega arith;
  within = λ n h g. h;
}

pub lowers_old : (rank : ℕ) (ranks left : List ℕ) (m : ℕ) → rank_of ranks m ≤ rank → Lowers rank ranks left (m ∷ []) ranks left
lowers_old rank ranks left m low = record {
  as_many = refl;
  lower = λ k. omega arith;
  each = λ k e. ⊎_elim (λ (same : (m == k) ≡ true). subst (λ n. rank_of ranks n ≤ rank) (same_number m k same) low) (λ bad. absurd (false≢true bad)) (or_cases (m == k) false e);
  steady = λ k e. refl;
  kept = λ k e. e;
  floor = λ h. h;
  work = omega arith;
  within = λ n h g. h;
}

pub lowers_new : (rank : ℕ) (ranks left : List ℕ) (m : ℕ) → m < length ranks → rank < rank_of ranks m → Lowers rank ranks left (m ∷ []) (set ranks m rank) (left ++ m ∷ [])
lowers_new rank ranks left m lt high = record {
  as_many = length-set ranks m rank;
  lower = λ k. by_cases k (same_or_not k m);
  each = λ k e. ⊎_elim (λ (same : (m == k) ≡ true). subst (λ n. rank_of (set ranks m rank) n ≤ rank) (same_number m k same) here_low) (λ bad. absurd (false≢true bad)) (or_cases (m == k) false e);
  steady = λ k e. other k (not_it k (is_in left k) (m == k) refl (sym (in_last left k m) ∙ e));
  kept = λ k e. in_more left k m e;
  floor = λ h k e. on_floor h k (same_or_not k m) e;
  work = omega (arith, was, now, sum_by-set (λ r. cond (nat_lt rank r) 1 0) ranks m rank 0 lt, length_push left m);
  within = λ n h g. All-push (λ j. j < n) left m h (All-head (λ j. j < n) m [] g);
}
  where
    here : rank_of (set ranks m rank) m ≡ rank
    here = get_or-set_same ranks m rank 0 lt

    here_low : rank_of (set ranks m rank) m ≤ rank
    here_low = omega (arith, here)

    was : 1 ≤ cond (nat_lt rank (get_or ranks m 0)) 1 0
    was = counted (nat_lt rank (get_or ranks m 0)) (grind (arith, nat_tests, high))

    now : cond (nat_lt rank rank) 1 0 ≤ 0
    now = not_counted (nat_lt rank rank) (grind (arith, nat_tests))

    other : (k : ℕ) → (k == m) ≡ false → rank_of (set ranks m rank) k ≡ rank_of ranks k
    other k apart = get_or-set_other ranks m k rank 0 (λ e. absurd (false≢true (sym apart ∙ ap (λ n. n == m) e ∙ own m)))

    not_it : (k : ℕ) (a b : Bool) → (m == k) ≡ b → (a || b) ≡ false → (k == m) ≡ false
    not_it k true b e h = absurd (false≢true (sym h))
    not_it k false true e h = absurd (false≢true (sym h))
    not_it k false false e h = grind (arith, nat_tests)

    by_cases : (k : ℕ) → (k ≡ m) ⊎ ((k == m) ≡ false) → rank_of (set ranks m rank) k ≤ rank_of ranks k
    by_cases k (inl same) = subst (λ n. rank_of (set ranks m rank) n ≤ rank_of ranks n) (sym same) (omega (arith, here, high))
    by_cases k (inr apart) = omega (arith, other k apart)

    on_floor : ((k : ℕ) → is_in left k ≡ true → rank ≤ rank_of ranks k) → (k : ℕ) → (k ≡ m) ⊎ ((k == m) ≡ false) → is_in (left ++ m ∷ []) k ≡ true → rank ≤ rank_of (set ranks m rank) k
    on_floor h k (inl same) e = subst (λ n. rank ≤ rank_of (set ranks m rank) n) (sym same) (omega (arith, here))
    on_floor h k (inr apart) e = ⊎_elim (λ before. omega (arith, other k apart, h k before)) (λ (same : (m == k) ≡ true). absurd (false≢true (sym apart ∙ ap (λ n. n == m) (sym (same_number m k same)) ∙ own m))) (or_cases (is_in left k) (m == k) (sym (in_last left k m) ∙ e))

-- and one more
pub lowers_more : (rank : ℕ) (ranks ranks' ranks'' left left' left'' models : List ℕ) (m : ℕ) → Lowers rank ranks left models ranks' left' → Lowers rank ranks' left' (m ∷ []) ranks'' left'' → Lowers rank ranks left (models ++ m ∷ []) ranks'' left''
lowers_more rank ranks ranks' ranks'' left left' left'' models m a b = record {
  as_many = b.as_many ∙ a.as_many;
  lower = λ k. omega (arith, a.lower k, b.lower k);
  each = λ k e. ⊎_elim (λ among. omega (arith, b.lower k, a.each k among)) (λ same. b.each k (ap (λ t. t || false) same)) (or_cases (is_in models k) (m == k) (sym (in_last models k m) ∙ e));
  steady = λ k e. b.steady k e ∙ a.steady k (not_before k (is_in left' k) refl e);
  kept = λ k e. b.kept k (a.kept k e);
  floor = λ h. b.floor (a.floor h);
  work = omega (arith, a.work, b.work);
  within = λ n h g. b.within n (a.within n h (all_front n models m g)) (all_last n models m g);
}
  where
    not_before : (k : ℕ) (t : Bool) → is_in left' k ≡ t → is_in left'' k ≡ false → t ≡ false
    not_before k false e f = refl
    not_before k true e f = absurd (false≢true (sym f ∙ b.kept k e))

-- a ranking begins, goes on and ends

pub ranking_begins : (holds : List (List ℕ)) (rank m : ℕ) (ranks none ranks' left' : List ℕ) → length ranks ≡ length holds → none ≡ [] → AreRanks holds ranks → m < length holds → Lowers rank ranks none (m ∷ []) ranks' left' → IsRanking holds rank ranks' left'
ranking_begins holds rank m ranks none ranks' left' many nothing r lt l = record {
  as_many = l.as_many ∙ many;
  steps = λ k n apart e. omega (arith, l.steady k apart, l.lower n, r k n e);
  floor = l.floor (λ k e. absurd (false≢true (ap (λ (xs : List ℕ). is_in xs k) (sym nothing) ∙ e)));
  within = l.within (length holds) (subst (λ (xs : List ℕ). All (λ j. j < length holds) xs) (sym nothing) (All-nil (λ j. j < length holds))) (All-cons (λ j. j < length holds) m [] lt (All-nil (λ j. j < length holds)));
}

pub ranking_step : (holds : List (List ℕ)) (rank p : ℕ) (ranks left ranks' left' : List ℕ) → IsRanking holds rank ranks (left ++ p ∷ []) → Lowers rank ranks left (reads_of holds p) ranks' left' → All (λ m. m < length holds) (reads_of holds p) → IsRanking holds rank ranks' left'
ranking_step holds rank p ranks left ranks' left' s l held = record {
  as_many = l.as_many ∙ s.as_many;
  steps = λ k n apart e. by_cases k n (same_or_not k p) apart e;
  floor = l.floor (λ k e. s.floor k (in_more left k p e));
  within = l.within (length holds) (all_front (length holds) left p s.within) held;
}
  where
    not_before : (k : ℕ) (t : Bool) → is_in left k ≡ t → is_in left' k ≡ false → t ≡ false
    not_before k false e f = refl
    not_before k true e f = absurd (false≢true (sym f ∙ l.kept k e))

    by_cases : (k n : ℕ) → (k ≡ p) ⊎ ((k == p) ≡ false) → is_in left' k ≡ false → is_in (reads_of holds k) n ≡ true → rank_of ranks' n ≤ rank_of ranks' k
    by_cases k n (inl same) apart e =
        omega (arith, l.steady k apart, l.each n (subst (λ j. is_in (reads_of holds j) n ≡ true) same e), s.floor k (subst (λ j. is_in (left ++ p ∷ []) j ≡ true) (sym same) (in_end left p)))
    by_cases k n (inr other) apart e =
        let turned : (p == k) ≡ false = grind (arith, nat_tests) in
        let before : is_in (left ++ p ∷ []) k ≡ false = in_last left k p ∙ (λ j. not_before k (is_in left k) refl apart j || turned j) in
        omega (arith, l.steady k apart, l.lower n, s.steps k n before e)

pub ranking_ends : (holds : List (List ℕ)) (rank : ℕ) (ranks left : List ℕ) → IsRanking holds rank ranks left → left ≡ [] → AreRanks holds ranks
ranking_ends holds rank ranks left s none m n e = s.steps m n (ap (λ (xs : List ℕ). is_in xs m) none) e

-- equal ranks are ranks
pub equal_ranks : (holds : List (List ℕ)) (rank : ℕ) → ((m n : ℕ) → is_in (reads_of holds m) n ≡ true → m < length holds) → AreRanks holds (replicate (length holds) rank)
equal_ranks holds rank there m n e = omega (arith, among (length holds) m (there m n e), at_most (length holds) n)
  where
    among : (count k : ℕ) → k < count → rank ≤ get_or (replicate count rank) k 0
    among zero k lt = absurd (omega (arith, lt))
    among (suc count) zero lt = omega arith
    among (suc count) (suc k) lt = among count k (omega (arith, lt))

    at_most : (count k : ℕ) → get_or (replicate count rank) k 0 ≤ rank
    at_most zero k = omega arith
    at_most (suc count) zero = omega arith
    at_most (suc count) (suc k) = at_most count k

-- what holds a model is there
pub holder_within : (holds : List (List ℕ)) (m n : ℕ) → is_in (reads_of holds m) n ≡ true → m < length holds
holder_within [] m n e = absurd (false≢true e)
holder_within (held ∷ holds) zero n e = omega arith
holder_within (held ∷ holds) (suc m) n e = omega (arith, holder_within holds m n e)
