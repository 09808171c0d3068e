-- The first line by which a model holds itself, by numbers and by names.
use Rattle.std.proofs.Common.{◌≡◌, ℕ, zero, suc, ◌+◌, ◌==◌, ◌<◌, ◌≤◌, ◌||◌, Bool, true, false, cond, List, [], ◌∷◌, ◌++◌, Option, Some, None, length, map, flat_map, filter, option_to_list, append_assoc, nat_lt, refl, ap, sym, ◌∙◌, subst, ⊎_elim, arith, if◌then◌else◌}
use Rattle.std.specs.Prelude.{All, find, slice_get}
use Rattle.std.specs.List.{list_any}
use Rattle.std.specs.Option.{option_map}
use Rattle.std.proofs.lemmas.Bool.{false≢true, or_right}
use Rattle.std.proofs.lemmas.Bool.Decides.{nat_tests}
use Rattle.std.proofs.lemmas.List.Elements.{All-head, All-tail}
use Rattle.std.proofs.lemmas.List.Folds.{list_any-append}
use Rattle.job_words.specs.Text.{Word}
use Rattle.blif_order.specs.Orders.{is_in, reads_of}
use Rattle.blif_order.proofs.Walks.{or_cases, own, same_number}
use Rattle.blif_models.specs.declared.cycles.Holding.{Holding}
use Rattle.blif_models.specs.declared.expanding.Outcome.TheVariants as outcomes
use Rattle.blif_models.specs.declared.numbered.Entry.{Entry}
use Rattle.blif_models.specs.declared.numbered.Entry.TheVariants as entries
use Rattle.blif_models.specs.declared.numbered.NumberedModel.{NumberedModel}
use Rattle.blif_models.specs.Agreement.{AreApart, AreInLines, HoldingsFrom, HoldingsRise, IsMain, OutcomesAgree, TurningsAgree, entry_line}
use Rattle.blif_models.specs.Arrangements.{holdings_by, holdings_from, turning_in}
use Rattle.blif_models.specs.Graphs.{is_reached, turns_back}
use Rattle.blif_models.specs.Layouts.{model_at}
use Rattle.blif_models.specs.ModelFaults.{all_reached, holding_lines, holds_itself, instances_in, is_model, least, lesser, line_of, reached}
use Rattle.blif_models.specs.ModelGraphs.{IsGraph, held_models}
use Rattle.blif_models.specs.Models.{Model, Item, Instance, covered, latched, held, model_of}
use Rattle.blif_models.specs.NumberedGraphs.{all_held}
use Rattle.blif_models.specs.Numberings.{AreEntriesOf, IsNumbering}
use Rattle.blif_models.proofs.Agreeing.{expansions_agree}
use Rattle.blif_models.proofs.HoldingThemselves.{reached_agrees}
use Rattle.blif_models.proofs.NumberedGraphs.{numbered_are_graphs}

-- the least of some numbers

pub least_in : (xs : List ℕ) (n : ℕ) → least xs ≡ Some n → is_in xs n ≡ true
least_in [] n e = cc
least_in (x ∷ xs) n e = by_rest (least xs) refl e (λ b f. least_in xs b f)
  where
    by_test : (b : ℕ) → is_in xs b ≡ true → (t : Bool) → Some (if t then b else x) ≡ Some n → (x == n || is_in xs n) ≡ true
    by_test b among true f = let same : b ≡ n = cc in or_right (x == n) (is_in xs n) (subst (λ k. is_in xs k ≡ true) same among)
    by_test b among false f = let same : x ≡ n = cc in subst (λ k. (x == k || is_in xs k) ≡ true) same (ap (λ t. t || is_in xs x) (own x))

    by_rest : (o : Option ℕ) → least xs ≡ o → Some (lesser x o) ≡ Some n → ((b : ℕ) → least xs ≡ Some b → is_in xs b ≡ true) → (x == n || is_in xs n) ≡ true
    by_rest None f g more = let same : x ≡ n = cc in subst (λ k. (x == k || is_in xs k) ≡ true) same (ap (λ t. t || is_in xs x) (own x))
    by_rest (Some b) f g more = by_test b (more b f) (nat_lt b x) g

lesser_first : (x : ℕ) (o : Option ℕ) → lesser x o ≤ x
lesser_first x None = omega arith
lesser_first x (Some b) = by_test (nat_lt b x) refl
  where
    by_test : (t : Bool) → nat_lt b x ≡ t → (if t then b else x) ≤ x
    by_test true f = let lt : b < x = grind (arith, nat_tests) in omega (arith, lt)
    by_test false f = omega arith

lesser_other : (x b : ℕ) → lesser x (Some b) ≤ b
lesser_other x b = by_test (nat_lt b x) refl
  where
    by_test : (t : Bool) → nat_lt b x ≡ t → (if t then b else x) ≤ b
    by_test true f = omega arith
    by_test false f = let le : x ≤ b = grind (arith, nat_tests) in le

pub least_low : (xs : List ℕ) (k : ℕ) → is_in xs k ≡ true → (n : ℕ) × (least xs ≡ Some n) × (n ≤ k)
least_low [] k e = absurd (false≢true e)
least_low (x ∷ xs) k e = (
  lesser x (least xs),
  refl,
  ⊎_elim (λ same. subst (λ n. lesser x (least xs) ≤ n) (same_number x k same) (lesser_first x (least xs)))
      (λ more.
      let rest = least_low xs k more in
      let low : lesser x (least xs) ≤ rest.0 = subst (λ (o : Option ℕ). lesser x o ≤ rest.0) (sym rest.1) (lesser_other x rest.0) in
      omega (arith, low, rest.2))
      (or_cases (x == k) (is_in xs k) e),
)

-- lists of the same numbers have one least
least_same : (xs ys : List ℕ) → ((n : ℕ) → is_in xs n ≡ true → is_in ys n ≡ true) → ((n : ℕ) → is_in ys n ≡ true → is_in xs n ≡ true) → least xs ≡ least ys
least_same xs ys h k = by_cases (least xs) refl (least ys) refl
  where
    by_cases : (a : Option ℕ) → least xs ≡ a → (b : Option ℕ) → least ys ≡ b → a ≡ b
    by_cases None e None f = refl
    by_cases (Some n) e None f = let at = least_low ys n (h n (least_in xs n e)) in let bad : None ≡ Some at.0 = sym f ∙ at.1 in cc
    by_cases None e (Some m) f = let at = least_low xs m (k m (least_in ys m f)) in let bad : None ≡ Some at.0 = sym e ∙ at.1 in cc
    by_cases (Some n) e (Some m) f =
        let one = least_low ys n (h n (least_in xs n e)) in
        let other = least_low xs m (k m (least_in ys m f)) in
        let first : Some m ≡ Some one.0 = sym f ∙ one.1 in
        let second : Some n ≡ Some other.0 = sym e ∙ other.1 in
        let a : m ≡ one.0 = cc in
        let b : n ≡ other.0 = cc in
        ap Some (omega (arith, a, b, one.2, other.2))

-- instances on rising lines

from_all : (p : Holding → Bool) (n b : ℕ) (hs : List Holding) → HoldingsFrom n hs → is_in (map (λ one. one.line) (filter p hs)) b ≡ true → n ≤ b
from_all p n b [] h e = absurd (false≢true e)
from_all p n b (one ∷ hs) h e = by_cases (p one) e (λ f. from_all p n b hs h.1 f)
  where
    by_cases : (t : Bool) → is_in (map (λ (k : Holding). k.line) (cond t (one ∷ filter p hs) (filter p hs))) b ≡ true → (is_in (map (λ (k : Holding). k.line) (filter p hs)) b ≡ true → n ≤ b) → n ≤ b
    by_cases true f more = ⊎_elim (λ same. subst (λ k. n ≤ k) (same_number one.line b same) h.0) more (or_cases (one.line == b) (is_in (map (λ (k : Holding). k.line) (filter p hs)) b) f)
    by_cases false f more = more f

first_least : (p : Holding → Bool) (hs : List Holding) → HoldingsRise hs → least (map (λ one. one.line) (filter p hs)) ≡ option_map (λ one. one.line) (find p hs)
first_least p [] r = refl
first_least p (one ∷ hs) r = by_cases (p one) (first_least p hs r.1)
  where
    low : (o : Option ℕ) → least (map (λ (k : Holding). k.line) (filter p hs)) ≡ o → lesser one.line o ≡ one.line
    low None f = refl
    low (Some b) f =
        let above : suc one.line ≤ b = from_all p (suc one.line) b hs r.0 (least_in (map (λ (k : Holding). k.line) (filter p hs)) b f) in
        let test : nat_lt b one.line ≡ false = grind (arith, nat_tests) in
        ap (λ (t : Bool). if t then b else one.line) test

    by_cases : (t : Bool) → least (map (λ (k : Holding). k.line) (filter p hs)) ≡ option_map (λ (k : Holding). k.line) (find p hs)
        → least (map (λ (k : Holding). k.line) (cond t (one ∷ filter p hs) (filter p hs))) ≡ option_map (λ (k : Holding). k.line) (cond t (Some one) (find p hs))
    by_cases true more = ap Some (low (least (map (λ (k : Holding). k.line) (filter p hs))) refl)
    by_cases false more = more

-- the instances of all models that pass

module _ (p : Holding → Bool) where
  abbrev lines_by : ℕ → NumberedModel → List ℕ
  lines_by m model = map (λ one. one.line) (filter p (holdings_by m model.entries))

  both_lines : (xs ys : List Holding) → map (λ (one : Holding). one.line) (filter p (xs ++ ys)) ≡ map (λ (one : Holding). one.line) (filter p xs) ++ map (λ (one : Holding). one.line) (filter p ys)
  both_lines [] ys = refl
  both_lines (x ∷ xs) ys = by_cases (p x) (both_lines xs ys)
    where
      by_cases : (t : Bool) → map (λ (one : Holding). one.line) (filter p (xs ++ ys)) ≡ map (λ (one : Holding). one.line) (filter p xs) ++ map (λ (one : Holding). one.line) (filter p ys)
          → map (λ (one : Holding). one.line) (cond t (x ∷ filter p (xs ++ ys)) (filter p (xs ++ ys))) ≡ map (λ (one : Holding). one.line) (cond t (x ∷ filter p xs) (filter p xs)) ++ map (λ (one : Holding). one.line) (filter p ys)
      by_cases true more = ap (λ (ns : List ℕ). x.line ∷ ns) more
      by_cases false more = more

  among_all : (k n : ℕ) (model : NumberedModel) (models : List NumberedModel)
      → is_in (map (λ (one : Holding). one.line) (filter p (holdings_by k model.entries ++ holdings_from (suc k) models))) n ≡ (is_in (lines_by k model) n || is_in (map (λ (one : Holding). one.line) (filter p (holdings_from (suc k) models))) n)
  among_all k n model models =
      ap (λ (xs : List ℕ). is_in xs n) (both_lines (holdings_by k model.entries) (holdings_from (suc k) models))
      ∙ list_any-append (λ x. x == n) (lines_by k model) (map (λ (one : Holding). one.line) (filter p (holdings_from (suc k) models)))

  in_some : (k i n : ℕ) (models : List NumberedModel) → i < length models → is_in (lines_by (k + i) (model_at models i)) n ≡ true → is_in (map (λ (one : Holding). one.line) (filter p (holdings_from k models))) n ≡ true
  in_some k i n [] lt e = absurd (omega (arith, lt))
  in_some k zero n (model ∷ models) lt e =
      let same : k + 0 ≡ k = omega arith in
      among_all k n model models ∙ ap (λ b. b || is_in (map (λ (one : Holding). one.line) (filter p (holdings_from (suc k) models))) n) (sym (ap (λ m. is_in (lines_by m model) n) same) ∙ e)
  in_some k (suc i) n (model ∷ models) lt e =
      let same : k + suc i ≡ suc k + i = omega arith in
      among_all k n model models
      ∙ or_right (is_in (lines_by k model) n) (is_in (map (λ (one : Holding). one.line) (filter p (holdings_from (suc k) models))) n) (in_some (suc k) i n models (omega (arith, lt)) (sym (ap (λ m. is_in (lines_by m (model_at models i)) n) same) ∙ e))

  of_some : (k n : ℕ) (models : List NumberedModel) → is_in (map (λ (one : Holding). one.line) (filter p (holdings_from k models))) n ≡ true → (i : ℕ) × (i < length models) × (is_in (lines_by (k + i) (model_at models i)) n ≡ true)
  of_some k n [] e = absurd (false≢true e)
  of_some k n (model ∷ models) e =
      ⊎_elim (λ here. let same : k ≡ k + 0 = omega arith in (0, omega arith, sym (ap (λ m. is_in (lines_by m model) n) same) ∙ here))
      (λ later.
      let rest = of_some (suc k) n models later in
      let same : suc k + rest.0 ≡ k + suc rest.0 = omega arith in
      (suc rest.0, omega (arith, rest.1), sym (ap (λ m. is_in (lines_by m (model_at models rest.0)) n) same) ∙ rest.2))
      (or_cases (is_in (lines_by k model) n) (is_in (map (λ (one : Holding). one.line) (filter p (holdings_from (suc k) models))) n) (sym (among_all k n model models) ∙ e))

-- models that are reached have numbers

module _ (models : List Model) (among : ℕ → Bool) (holds : List (List ℕ)) (graph : IsGraph models among holds) (apart : AreApart models among) where
  abbrev pub HasNumber : Model → Type 0
  HasNumber x = (m : ℕ) × (among m ≡ true) × (slice_get models m ≡ Some x)

  abbrev pub HaveNumbers : List Model → Type 0
  HaveNumbers [] = Unit {0}
  HaveNumbers (x ∷ xs) = HasNumber x × HaveNumbers xs

  both_number : (xs ys : List Model) → HaveNumbers xs → HaveNumbers ys → HaveNumbers (xs ++ ys)
  both_number [] ys h k = k
  both_number (x ∷ xs) ys h k = (h.0, both_number xs ys h.1 k)

  each_number : (inside : Model → List Model) → ((m : ℕ) (x : Model) → among m ≡ true → slice_get models m ≡ Some x → HaveNumbers (inside x))
      → (ms : List Model) (numbers : List ℕ) → All (λ n. among n ≡ true) numbers → map (slice_get models) numbers ≡ map Some ms → HaveNumbers (flat_map inside ms)
  each_number inside h [] [] a e = tt
  each_number inside h [] (n ∷ numbers) a e = cc
  each_number inside h (m ∷ ms) [] a e = cc
  each_number inside h (m ∷ ms) (n ∷ numbers) a e =
      let here : slice_get models n ≡ Some m = cc in
      let rest : map (slice_get models) numbers ≡ map Some ms = cc in
      both_number (inside m) (flat_map inside ms) (h n m (All-head (λ k. among k ≡ true) n numbers a) here) (each_number inside h ms numbers (All-tail (λ k. among k ≡ true) n numbers a) rest)

  flat_both : (inside : Model → List Model) (xs ys : List Model) → flat_map inside (xs ++ ys) ≡ flat_map inside xs ++ flat_map inside ys
  flat_both inside [] ys = refl
  flat_both inside (x ∷ xs) ys = ap (λ (ms : List Model). inside x ++ ms) (flat_both inside xs ys) ∙ sym (append_assoc (inside x) (flat_map inside xs) (flat_map inside ys))

  flat_flat : (inside : Model → List Model) (found : Instance → List Model) (ones : List Instance) → flat_map (λ one. flat_map inside (found one)) ones ≡ flat_map inside (flat_map found ones)
  flat_flat inside found [] = refl
  flat_flat inside found (one ∷ ones) = ap (λ (ms : List Model). flat_map inside (found one) ++ ms) (flat_flat inside found ones) ∙ sym (flat_both inside (found one) (flat_map found ones))

  pub reached_number : (levels m : ℕ) (one : Model) → among m ≡ true → slice_get models m ≡ Some one → HaveNumbers (reached models levels one.items)
  unfolding reached
  reached_number zero m one i at = tt
  reached_number (suc levels) m one i at =
      let inside : Model → List Model = λ inner. inner ∷ reached models levels inner.items in
      subst HaveNumbers (sym (flat_flat inside (λ instance. option_to_list (model_of models instance)) (instances_in one.items)))
      (each_number inside (λ n inner k there. ((n, k, there), reached_number levels n inner k there)) (held_models models one.items) (reads_of holds m) (graph.closed m one i at) (graph.told m one i at))

  -- what stands in one of some lists
  some_in : (Goal : Type 0) (f : Model → List ℕ) (n : ℕ) (ms : List Model) → HaveNumbers ms → ((x : Model) → HasNumber x → is_in (f x) n ≡ true → Goal) → is_in (flat_map f ms) n ≡ true → Goal
  some_in Goal f n [] h k e = absurd (false≢true e)
  some_in Goal f n (x ∷ ms) h k e =
      ⊎_elim (λ here. k x h.0 here) (λ later. some_in Goal f n ms h.1 k later) (or_cases (is_in (f x) n) (is_in (flat_map f ms) n) (sym (list_any-append (λ y. y == n) (f x) (flat_map f ms)) ∙ e))

  pub any_in : (f : Model → List ℕ) (n : ℕ) (x : Model) → HasNumber x → (ms : List Model) → HaveNumbers ms → list_any (is_model x) ms ≡ true → is_in (f x) n ≡ true → is_in (flat_map f ms) n ≡ true
  any_in f n x number [] h e g = absurd (false≢true e)
  any_in f n x number (y ∷ ms) h e g =
      list_any-append (λ z. z == n) (f y) (flat_map f ms)
      ∙ ⊎_elim
      (λ same.
      let m = number.0 in
      let k = (h.0).0 in
      let line : x.line ≡ y.line = same_number x.line y.line same in
      let place : m ≡ k = apart m k x y number.1 (h.0).1 number.2 (h.0).2 line in
      let both : Some x ≡ Some y = sym number.2 ∙ ap (slice_get models) place ∙ (h.0).2 in
      let it : x ≡ y = cc in
      ap (λ b. b || is_in (flat_map f ms) n) (subst (λ (z : Model). is_in (f z) n ≡ true) it g))
      (λ later. or_right (is_in (f y) n) (is_in (flat_map f ms) n) (any_in f n x number ms h.1 later g))
      (or_cases (is_model x y) (list_any (is_model x) ms) e)

-- a model's lines

module _ (models : List Model) (among : ℕ → Bool) (words : List (List Word)) (numbered : List NumberedModel) (numbering : IsNumbering models among words numbered) (apart : AreApart models among) (many : length numbered ≡ length models) where
  abbrev turning_lines : Model → List ℕ
  turning_lines model = map (λ instance. instance.line) (filter (holds_itself models model) (instances_in model.items))

  same_lines : (m place : ℕ) (model : Model) → among m ≡ true → slice_get models m ≡ Some model → (items : List Item) (others : List Entry) → AreEntriesOf models among words m place items others → map line_of items ≡ map entry_line others
      → map (λ instance. instance.line) (filter (holds_itself models model) (instances_in items)) ≡ map (λ (one : Holding). one.line) (filter (turns_back (all_held numbered)) (holdings_by m others))
  same_lines m place model i at [] [] a e = refl
  same_lines m place model i at [] (one ∷ others) a e = absurd a
  same_lines m place model i at (one ∷ items) [] a e = absurd a
  same_lines m place model i at (covered cover ∷ items) (entries.Latch one ∷ others) a e = absurd a.0
  same_lines m place model i at (covered cover ∷ items) (entries.Instance one ∷ others) a e = absurd a.0
  same_lines m place model i at (latched latch ∷ items) (entries.Cover one ∷ others) a e = absurd a.0
  same_lines m place model i at (latched latch ∷ items) (entries.Instance one ∷ others) a e = absurd a.0
  same_lines m place model i at (held instance ∷ items) (entries.Cover one ∷ others) a e = absurd a.0
  same_lines m place model i at (held instance ∷ items) (entries.Latch one ∷ others) a e = absurd a.0
  same_lines m place model i at (covered cover ∷ items) (entries.Cover one ∷ others) a e =
      let rest : map line_of items ≡ map entry_line others = cc in
      same_lines m (place + 1) model i at items others a.1 rest
  same_lines m place model i at (latched latch ∷ items) (entries.Latch one ∷ others) a e =
      let rest : map line_of items ≡ map entry_line others = cc in
      same_lines m (place + 1) model i at items others a.1 rest
  same_lines m place model i at (held instance ∷ items) (entries.Instance one ∷ others) a e =
      let line : instance.line ≡ one.line = cc in
      let rest : map line_of items ≡ map entry_line others = cc in
      let found = a.0.1 in
      let test = reached_agrees.holds_itself models among words numbered numbering apart many m one.model model found.0 instance i a.0.0 at found.1 found.2 in
      ap (λ b. map (λ (k : Instance). k.line) (cond b (instance ∷ filter (holds_itself models model) (instances_in items)) (filter (holds_itself models model) (instances_in items)))) test
      ∙ by_cases (is_reached (all_held numbered) (length (all_held numbered)) one.model m) line (same_lines m (place + 1) model i at items others a.1 rest)
    where
      here : Holding
      here = record { line = one.line; by = m; model = one.model }

      by_cases : (b : Bool) → instance.line ≡ one.line
          → map (λ (k : Instance). k.line) (filter (holds_itself models model) (instances_in items)) ≡ map (λ (k : Holding). k.line) (filter (turns_back (all_held numbered)) (holdings_by m others))
          → map (λ (k : Instance). k.line) (cond b (instance ∷ filter (holds_itself models model) (instances_in items)) (filter (holds_itself models model) (instances_in items)))
          ≡ map (λ (k : Holding). k.line) (cond b (record { line = one.line; by = m; model = one.model } ∷ filter (turns_back (all_held numbered)) (holdings_by m others)) (filter (turns_back (all_held numbered)) (holdings_by m others)))
      by_cases true line more = λ j. line j ∷ more j
      by_cases false line more = more

pub some_model : (models : List Model) (m : ℕ) → m < length models → (x : Model) × (slice_get models m ≡ Some x)
some_model [] m lt = absurd (omega (arith, lt))
some_model (x ∷ models) zero lt = (x, refl)
some_model (x ∷ models) (suc m) lt = some_model models m (omega (arith, lt))

module _ (models : List Model) (among : ℕ → Bool) (words : List (List Word)) (numbered : List NumberedModel) (main : ℕ) (model : Model) (is : IsMain models among words numbered main model) (l : AreInLines models among numbered main) where
  graph : IsGraph models among (all_held numbered)
  graph = numbered_are_graphs.graph models among words numbered is.numbering

  abbrev all_lines : List ℕ
  all_lines = map (λ (one : Holding). one.line) (filter (turns_back (all_held numbered)) (holdings_from 0 numbered))

  all_numbers : HaveNumbers models among (all_held numbered) graph l.apart (all_reached models model)
  all_numbers = ((main, is.is_among, is.is_there), reached_number models among (all_held numbered) graph l.apart (length models) main model is.is_among is.is_there)

  one_model : (m : ℕ) (x : Model) → among m ≡ true → slice_get models m ≡ Some x → turning_lines models among words numbered is.numbering l.apart is.as_many x ≡ lines_by (turns_back (all_held numbered)) m (model_at numbered m)
  one_model m x i at = same_lines models among words numbered is.numbering l.apart is.as_many m 0 x i at x.items (model_at numbered m).entries (is.numbering.entries_are m x i at) (l.lines m x i at)

  names_in : (n : ℕ) → is_in (holding_lines models model) n ≡ true → is_in all_lines n ≡ true
  names_in n e =
      some_in models among (all_held numbered) graph l.apart (is_in all_lines n ≡ true) (turning_lines models among words numbered is.numbering l.apart is.as_many) n (all_reached models model) all_numbers
      (λ x number f.
      let m = number.0 in
      let same : 0 + m ≡ m = omega arith in
      in_some (turns_back (all_held numbered)) 0 m n numbered (is.within m number.1)
      (ap (λ k. is_in (lines_by (turns_back (all_held numbered)) k (model_at numbered m)) n) same ∙ sym (ap (λ (xs : List ℕ). is_in xs n) (one_model m x number.1 number.2)) ∙ f)) e

  numbers_in : (n : ℕ) → is_in all_lines n ≡ true → is_in (holding_lines models model) n ≡ true
  numbers_in n e =
      let at = of_some (turns_back (all_held numbered)) 0 n numbered e in
      let same : 0 + at.0 ≡ at.0 = omega arith in
      by_cases at.0 at.1 (sym (ap (λ k. is_in (lines_by (turns_back (all_held numbered)) k (model_at numbered at.0)) n) same) ∙ at.2) (among at.0) refl
    where
      by_cases : (m : ℕ) → m < length numbered → is_in (lines_by (turns_back (all_held numbered)) m (model_at numbered m)) n ≡ true → (b : Bool) → among m ≡ b → is_in (holding_lines models model) n ≡ true
      by_cases m lt f false i =
          absurd (false≢true (sym (ap (λ (others : List Entry). is_in (map (λ (one : Holding). one.line) (filter (turns_back (all_held numbered)) (holdings_by m others))) n) (l.others m i)) ∙ f))
      by_cases m lt f true i =
          let found = some_model models m (omega (arith, lt, is.as_many)) in
          let x = found.0 in
          let met : list_any (is_model x) (all_reached models model) ≡ true =
          reached_agrees.reached models among words numbered is.numbering l.apart (length models) main m model x is.is_among i is.is_there found.1
          ∙ ap (λ k. is_reached (all_held numbered) k main m) (sym is.as_many) ∙ l.reached m i in
          any_in models among (all_held numbered) graph l.apart (turning_lines models among words numbered is.numbering l.apart is.as_many) n x (m, i, found.1) (all_reached models model) all_numbers met
          (ap (λ (xs : List ℕ). is_in xs n) (one_model m x i found.1) ∙ f)

pub turnings_agree : TurningsAgree
turnings_agree models among words numbered main model is l =
    least_same (holding_lines models model) (map (λ (one : Holding). one.line) (filter (turns_back (all_held numbered)) (holdings_from 0 numbered))) (names_in models among words numbered main model is l) (numbers_in models among words numbered main model is l)
    ∙ first_least (turns_back (all_held numbered)) (holdings_from 0 numbered) l.rising

-- and so is all that comes of a main model

none_turns : (o : Option Holding) → o ≡ None → option_map (λ one. one.line) o ≡ None
none_turns None e = refl
none_turns (Some one) e = cc

pub outcomes_agree : OutcomesAgree
outcomes_agree models among words numbered main model (outcomes.Turning line) is l h = turnings_agree models among words numbered main model is l ∙ h
outcomes_agree models among words numbered main model (outcomes.TooMany line) is l (order, arranged, h) = (
  turnings_agree models among words numbered main model is l ∙ none_turns (turning_in numbered) arranged.straight,
  expansions_agree.limit models among words numbered main model order is arranged (l.lines main model is.is_among is.is_there) ∙ h,
)
outcomes_agree models among words numbered main model (outcomes.Expanded whole) is l (h, w) = (
  turnings_agree models among words numbered main model is l ∙ none_turns (turning_in numbered) w.arranged.straight,
  expansions_agree.limit models among words numbered main model w.order is w.arranged (l.lines main model is.is_among is.is_there) ∙ h,
  expansions_agree.whole models among words numbered main model whole is w,
)
