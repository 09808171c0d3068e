-- The first of the lines of models that are reached, by numbers and by names.
use Rattle.std.proofs.Common.{◌≡◌, ℕ, zero, suc, ◌==◌, ◌<◌, ◌≤◌, ◌||◌, Bool, true, false, List, [], ◌∷◌, ◌++◌, Option, Some, None, flat_map, get_or, length, option_to_list, refl, ap, sym, ◌∙◌, subst, ⊎_elim, arith, if◌then◌else◌}
use Rattle.std.specs.Prelude.{slice_get}
use Rattle.std.specs.List.{list_any}
use Rattle.std.proofs.lemmas.Bool.{false≢true, or_right}
use Rattle.std.proofs.lemmas.Bool.Decides.{nat_tests}
use Rattle.std.proofs.lemmas.Grind.{flat_map-append}
use Rattle.std.proofs.lemmas.List.Folds.{list_any-append}
use Rattle.std.proofs.lemmas.Option.{slice_get_within}
use Rattle.blif_order.specs.Orders.{is_in}
use Rattle.blif_order.proofs.Walks.{or_cases, or_none, own, same_number}
use Rattle.blif_models.specs.Agreement.{AreApart}
use Rattle.blif_models.specs.Graphs.{AreReached, is_met, is_reached}
use Rattle.blif_models.specs.Layouts.{up_to}
use Rattle.blif_models.specs.ModelFaults.{all_reached, is_model, least, lesser}
use Rattle.blif_models.specs.ModelGraphs.{IsGraph}
use Rattle.blif_models.specs.Models.{Model}
use Rattle.blif_models.proofs.HoldingThemselves.{agrees}
use Rattle.blif_models.proofs.TurningLines.{HaveNumbers, any_in, least_in, least_low, reached_number, some_model}
use Rattle.blif_formals.specs.Reached.{ReachedLinesAgree, line_met, lines_met}
use Rattle.blif_formals.specs.Clashes.{least_of}
use Rattle.blif_formals.proofs.Clashing.{least_both, turned}

-- one more model

abbrev pub first_of : Bool → Option ℕ → Option ℕ → Option ℕ
first_of false line before = before
first_of true None before = before
first_of true (Some line) before = Some (lesser line before)

pub first_more : (met : List Bool) (lines : List (Option ℕ)) (m : ℕ) → least (flat_map (line_met met lines) (up_to (suc m))) ≡ first_of (is_met met m) (get_or lines m None) (least (flat_map (line_met met lines) (up_to m)))
first_more met lines m =
    ap least (flat_map-append (line_met met lines) (up_to m) (m ∷ [])) ∙ least_both (flat_map (line_met met lines) (up_to m)) (line_met met lines m ++ [])
    ∙ by_cases (is_met met m) (get_or lines m None) (least (flat_map (line_met met lines) (up_to m)))
  where
    by_cases : (t : Bool) (line before : Option ℕ) → least_of before (least ((if t then option_to_list line else []) ++ [])) ≡ first_of t line before
    by_cases false line before = turned before None
    by_cases true None before = turned before None
    by_cases true (Some line) before = turned before (Some line)

-- lists of which each has a number that is as low as one of the other have one least
least_alike : (xs ys : List ℕ) → ((n : ℕ) → is_in xs n ≡ true → (k : ℕ) × (is_in ys k ≡ true) × (k ≤ n)) → ((n : ℕ) → is_in ys n ≡ true → (k : ℕ) × (is_in xs k ≡ true) × (k ≤ n)) → least xs ≡ least ys
least_alike xs ys h k = by_cases (least xs) refl (least ys) refl
  where
    by_cases : (a : Option ℕ) → least xs ≡ a → (b : Option ℕ) → least ys ≡ b → a ≡ b
    by_cases None e None f = refl
    by_cases (Some n) e None f = let low = h n (least_in xs n e) in let at = least_low ys low.0 low.1 in let bad : None ≡ Some at.0 = sym f ∙ at.1 in cc
    by_cases None e (Some m) f = let low = k m (least_in ys m f) in let at = least_low xs low.0 low.1 in let bad : None ≡ Some at.0 = sym e ∙ at.1 in cc
    by_cases (Some n) e (Some m) f =
        let one = h n (least_in xs n e) in
        let other = k m (least_in ys m f) in
        let low = least_low ys one.0 one.1 in
        let down = least_low xs other.0 other.1 in
        let first : Some m ≡ Some low.0 = sym f ∙ low.1 in
        let second : Some n ≡ Some down.0 = sym e ∙ down.1 in
        let a : m ≡ low.0 = cc in
        let b : n ≡ down.0 = cc in
        ap Some (omega (arith, a, b, one.2, other.2, low.2, down.2))

-- numbers in lists of lists

in_flat : (f : ℕ → List ℕ) (n : ℕ) (ms : List ℕ) (m : ℕ) → is_in ms m ≡ true → is_in (f m) n ≡ true → is_in (flat_map f ms) n ≡ true
in_flat f n [] m e g = absurd (false≢true e)
in_flat f n (k ∷ ms) m e g =
    list_any-append (λ x. x == n) (f k) (flat_map f ms)
    ∙ ⊎_elim (λ same. ap (λ b. b || is_in (flat_map f ms) n) (subst (λ x. is_in (f x) n ≡ true) (sym (same_number k m same)) g)) (λ rest. or_right (is_in (f k) n) (is_in (flat_map f ms) n) (in_flat f n ms m rest g))
    (or_cases (k == m) (is_in ms m) e)

of_flat : (f : ℕ → List ℕ) (n : ℕ) (ms : List ℕ) → is_in (flat_map f ms) n ≡ true → (m : ℕ) × (is_in ms m ≡ true) × (is_in (f m) n ≡ true)
of_flat f n [] e = absurd (false≢true e)
of_flat f n (k ∷ ms) e =
    ⊎_elim (λ here. (k, ap (λ b. b || is_in ms k) (own k), here)) (λ later. let rest = of_flat f n ms later in (rest.0, or_right (k == rest.0) (is_in ms rest.0) rest.1, rest.2))
    (or_cases (is_in (f k) n) (is_in (flat_map f ms) n) (sym (list_any-append (λ x. x == n) (f k) (flat_map f ms)) ∙ e))

below : (count m : ℕ) → is_in (up_to count) m ≡ true → m < count
below zero m e = absurd (false≢true e)
below (suc count) m e =
    ⊎_elim (λ before. let lt = below count m before in omega (arith, lt)) (λ last. let same = same_number count m (sym (or_none (count == m)) ∙ last) in omega (arith, same))
    (or_cases (is_in (up_to count) m) (is_in (count ∷ []) m) (sym (list_any-append (λ x. x == m) (up_to count) (count ∷ [])) ∙ e))

up_in : (count m : ℕ) → m < count → is_in (up_to count) m ≡ true
up_in zero m lt = absurd (omega (arith, lt))
up_in (suc count) m lt = list_any-append (λ x. x == m) (up_to count) (count ∷ []) ∙ by_cases (count == m) refl (up_in count m)
  where
    by_cases : (t : Bool) → (count == m) ≡ t → (m < count → is_in (up_to count) m ≡ true) → (is_in (up_to count) m || (t || false)) ≡ true
    by_cases true e before = or_right (is_in (up_to count) m) true refl
    by_cases false e before =
        let less : m < count = grind (arith, nat_tests) in
        ap (λ b. b || false) (before less)

module _ (models : List Model) (holds : List (List ℕ)) (met : List Bool) (lines : List (Option ℕ)) (told : Model → List ℕ) (main : ℕ) (model : Model) (graph : IsGraph models (λ m. true) holds) (apart : AreApart models (λ m. true))
    (many : length holds ≡ length models) (there : slice_get models main ≡ Some model) (is : AreReached holds main met) (lines_are : (m : ℕ) (one : Model) → slice_get models m ≡ Some one → is_met met m ≡ true → get_or lines m None ≡ least (told one)) where
  all_numbers : HaveNumbers models (λ m. true) holds graph apart (all_reached models model)
  all_numbers = ((main, refl, there), reached_number models (λ m. true) holds graph apart (length models) main model refl there)

  met_where : (m : ℕ) (one : Model) → slice_get models m ≡ Some one → list_any (is_model one) (all_reached models model) ≡ is_met met m
  met_where m one at = agrees models (λ m. true) holds graph apart (length models) main m model one refl refl there at ∙ ap (λ k. is_reached holds k main m) (sym many) ∙ sym (is.reached m)

  -- what is told of a reached model
  some_of : (n : ℕ) (ms : List Model) → HaveNumbers models (λ m. true) holds graph apart ms → is_in (flat_map told ms) n ≡ true
      → (m : ℕ) × (one : Model) × (slice_get models m ≡ Some one) × (list_any (is_model one) ms ≡ true) × (is_in (told one) n ≡ true)
  some_of n [] h e = absurd (false≢true e)
  some_of n (x ∷ ms) h e =
      ⊎_elim (λ here. ((h.0).0, x, (h.0).2, ap (λ b. b || list_any (is_model x) ms) (own x.line), here))
      (λ later. let rest = some_of n ms h.1 later in (rest.0, rest.1, rest.2, or_right (is_model rest.1 x) (list_any (is_model rest.1) ms) rest.3, rest.4))
      (or_cases (is_in (told x) n) (is_in (flat_map told ms) n) (sym (list_any-append (λ y. y == n) (told x) (flat_map told ms)) ∙ e))

  by_number : (n : ℕ) → is_in (flat_map told (all_reached models model)) n ≡ true → (k : ℕ) × (is_in (lines_met met lines) k ≡ true) × (k ≤ n)
  by_number n e =
      let found = some_of n (all_reached models model) all_numbers e in
      let m = found.0 in
      let is_in_it : is_met met m ≡ true = sym (met_where m found.1 found.2) ∙ found.3 in
      let low = least_low (told found.1) n found.4 in
      let line : get_or lines m None ≡ Some low.0 = lines_are m found.1 found.2 is_in_it ∙ low.1 in
      let within = slice_get_within models m found.1 found.2 in
      (low.0, in_flat (line_met met lines) low.0 (up_to (length met)) m (up_in (length met) m (omega (arith, within, is.as_many, many))) (here m low.0 is_in_it line), low.2)
    where
      here : (m line : ℕ) → is_met met m ≡ true → get_or lines m None ≡ Some line → is_in (line_met met lines m) line ≡ true
      here m line f g = (λ j. is_in (if f j then option_to_list (g j) else []) line) ∙ ap (λ b. b || false) (own line)

  by_name : (k : ℕ) → is_in (lines_met met lines) k ≡ true → (n : ℕ) × (is_in (flat_map told (all_reached models model)) n ≡ true) × (n ≤ k)
  by_name k e =
      let found = of_flat (line_met met lines) k (up_to (length met)) e in
      let lt = below (length met) found.0 found.1 in
      let one = some_model models found.0 (omega (arith, lt, is.as_many, many)) in
      by_cases found.0 one.0 one.1 (is_met met found.0) refl (get_or lines found.0 None) refl found.2
    where
      by_cases : (m : ℕ) (one : Model) → slice_get models m ≡ Some one → (t : Bool) → is_met met m ≡ t → (line : Option ℕ) → get_or lines m None ≡ line → is_in (if t then option_to_list line else []) k ≡ true
          → (n : ℕ) × (is_in (flat_map told (all_reached models model)) n ≡ true) × (n ≤ k)
      by_cases m one at false f line g h = absurd (false≢true h)
      by_cases m one at true f None g h = absurd (false≢true h)
      by_cases m one at true f (Some line) g h =
          let same : line ≡ k = same_number line k (sym (or_none (line == k)) ∙ h) in
          let told_it : is_in (told one) line ≡ true = least_in (told one) line (sym (lines_are m one at f) ∙ g) in
          (line, any_in models (λ m. true) holds graph apart told line one (m, refl, at) (all_reached models model) all_numbers (met_where m one at ∙ f) told_it, omega (arith, same))

pub reached_lines_agree : ReachedLinesAgree
reached_lines_agree models holds met lines told main model graph apart many there is lines_are =
    least_alike (lines_met met lines) (flat_map told (all_reached models model)) (by_name models holds met lines told main model graph apart many there is lines_are) (by_number models holds met lines told main model graph apart many there is lines_are)
