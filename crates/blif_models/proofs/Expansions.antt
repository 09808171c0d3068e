-- What is laid out of numbered models is what the models expand into.
use Rattle.std.proofs.Common.{◌≡◌, ℕ, zero, suc, ◌+◌, ◌==◌, ◌<◌, ◌≤◌, Bool, true, false, cond, List, [], ◌∷◌, ◌++◌, Some, codes, length, map, get_or, refl, ap, sym, ◌∙◌, inl, inr, arith, if◌then◌else◌}
use Rattle.std.specs.Prelude.{◌⊎◌, find, slice_get, sum_by}
use Rattle.std.specs.Str.{bytes_eq}
use Rattle.std.proofs.lemmas.Bool.{false≢true}
use Rattle.std.proofs.lemmas.Bool.Decides.{nat_tests}
use Rattle.std.specs.Option.{option_map}
use Rattle.std.proofs.lemmas.Slice.Eq.{bytes_eq-Decides}
use Rattle.std.proofs.lemmas.List.{get_or-map, get_or_append_left, get_or_push, map-append}
use Rattle.std.proofs.lemmas.List.Sums.{sum_by-cons}
use Rattle.job_words.specs.Text.{Word}
use Rattle.blif_order.proofs.Walks.{same_or_not, own}
use Rattle.blif_models.specs.declared.numbered.NumberedJoin.{NumberedJoin}
use Rattle.blif_models.specs.declared.numbered.NumberedInstance.{NumberedInstance}
use Rattle.blif_models.specs.declared.numbered.NumberedModel.{NumberedModel}
use Rattle.blif_models.specs.declared.numbered.Entry.{Entry}
use Rattle.blif_models.specs.declared.numbered.Entry.TheVariants as entries
use Rattle.blif_models.specs.declared.numbered.Spot.{Spot}
use Rattle.blif_models.specs.Models.{Join, Model, Item, Instance, actual_of, covered, latched, held, copies_within, expanded, items_in, joins_of, laid_out, model_of, name_by, name_within, numeral}
use Rattle.blif_models.specs.ModelFaults.{signals_by, signals_within}
use Rattle.blif_models.specs.Layouts.{Counted, IsRanked, Placed, copies_in, laid_by, laid_within, main_table, model_at, no_spot, spot, spot_at, spot_by, spot_within, table_within, unless_empty, up_to}
use Rattle.blif_models.proofs.GoingOn.{up_to_many}
use Rattle.blif_models.specs.Numberings.{AreEntriesOf, AreJoinsOf, AreNumbersOf, IsCounted, IsNumbering, IsNumberOf, LayoutsAreExpansions, cover_at, item_of, own_word, word_of, words_at}

-- a model without signals expands into nothing

nothing_inside : (copy : ℕ → Instance → List Item) (inside signals : Instance → ℕ) (rename : Word → Word) (copies : ℕ) (items : List Item) → ((number : ℕ) (instance : Instance) → signals instance ≡ 0 → copy number instance ≡ [])
    → sum_by (signals_by signals) items ≡ 0 → laid_out copy inside rename copies items ≡ []
nothing_inside copy inside signals rename copies [] h none = refl
nothing_inside copy inside signals rename copies (covered cover ∷ items) h none = absurd (omega (arith, none, sum_by-cons (signals_by signals) (covered cover) items))
nothing_inside copy inside signals rename copies (latched latch ∷ items) h none = absurd (omega (arith, none, sum_by-cons (signals_by signals) (latched latch) items))
nothing_inside copy inside signals rename copies (held instance ∷ items) h none =
    let both = sum_by-cons (signals_by signals) (held instance) items in
    let here : signals instance ≡ 0 = omega (arith, none, both) in
    let rest : sum_by (signals_by signals) items ≡ 0 = omega (arith, none, both) in
    λ j. h (suc copies) instance here j ++ nothing_inside copy inside signals rename (suc (copies + inside instance)) items h rest j

expanded_nothing : (models : List Model) (levels : ℕ) (rename : Word → Word) (copies : ℕ) (items : List Item) → signals_within models levels items ≡ 0 → expanded models levels rename copies items ≡ []
unfolding expanded signals_within
expanded_nothing models zero rename copies items none = nothing_inside (λ number instance. []) (λ instance. 0) (λ instance. 0) rename copies items (λ number instance h. refl) none
expanded_nothing models (suc levels) rename copies items none =
    nothing_inside (λ number instance. expanded models levels (name_within rename number (joins_of instance)) number (items_in (model_of models instance)))
    (λ instance. copies_within models levels (items_in (model_of models instance))) (λ instance. signals_within models levels (items_in (model_of models instance))) rename copies items
    (λ number instance h. expanded_nothing models levels (name_within rename number (joins_of instance)) number (items_in (model_of models instance)) h) none

-- the numbers of names, renamed

numbers_renamed : (words : List (List Word)) (m : ℕ) (rename : Word → Word) (table : List Spot) → ((n : ℕ) → n < length (words_at words m) → rename (own_word words m n) ≡ word_of words (spot_at table n))
    → (ns : List ℕ) (names : List Word) → AreNumbersOf words m ns names → map rename names ≡ map (word_of words) (map (spot_at table) ns)
numbers_renamed words m rename table h [] [] a = refl
numbers_renamed words m rename table h [] (name ∷ names) a = absurd a
numbers_renamed words m rename table h (n ∷ ns) [] a = absurd a
numbers_renamed words m rename table h (n ∷ ns) (name ∷ names) a = λ j. (ap rename (sym a.0.1) ∙ h n a.0.0) j ∷ numbers_renamed words m rename table h ns names a.1 j

number_renamed : (words : List (List Word)) (m : ℕ) (rename : Word → Word) (table : List Spot) → ((n : ℕ) → n < length (words_at words m) → rename (own_word words m n) ≡ word_of words (spot_at table n))
    → (n : ℕ) (name : Word) → IsNumberOf words m n name → rename name ≡ word_of words (spot_at table n)
number_renamed words m rename table h n name a = ap rename (sym a.1) ∙ h n a.0

-- the names of a copy

up_to_at : (k n : ℕ) → n < k → get_or (up_to k) n 0 ≡ n
up_to_at zero n lt = absurd (omega (arith, lt))
up_to_at (suc k) n lt = by_cases (same_or_not n k) (λ less. up_to_at k n less)
  where
    by_cases : (n ≡ k) ⊎ ((n == k) ≡ false) → (n < k → get_or (up_to k) n 0 ≡ n) → get_or (up_to k ++ k ∷ []) n 0 ≡ n
    by_cases (inl same) before = get_or_push (up_to k) k 0 n (up_to_many k ∙ sym same) ∙ sym same
    by_cases (inr apart) before =
        let less : n < k = grind (arith, nat_tests) in
        get_or_append_left (up_to k) (k ∷ []) 0 n (omega (arith, less, up_to_many k)) ∙ before less

tested : (words : List (List Word)) (inner n : ℕ) (one : NumberedJoin) (join : Join) → IsNumberOf words inner one.formal join.formal → n < length (words_at words inner)
    → ((i j : ℕ) → i < length (words_at words inner) → j < length (words_at words inner) → own_word words inner i ≡ own_word words inner j → i ≡ j) → bytes_eq join.formal (own_word words inner n) ≡ (one.formal == n)
tested words inner n one join formal lt apart = by_cases (bytes_eq join.formal (own_word words inner n)) refl (same_or_not one.formal n)
  where
    by_cases : (b : Bool) → bytes_eq join.formal (own_word words inner n) ≡ b → (one.formal ≡ n) ⊎ ((one.formal == n) ≡ false) → bytes_eq join.formal (own_word words inner n) ≡ (one.formal == n)
    by_cases true e (inl same) = e ∙ sym (ap (λ k. one.formal == k) (sym same) ∙ own one.formal)
    by_cases true e (inr other) =
        let equal : own_word words inner one.formal ≡ own_word words inner n = formal.1 ∙ (bytes_eq-Decides join.formal (own_word words inner n)).0 e in
        absurd (false≢true (sym other ∙ ap (λ k. k == n) (apart one.formal n formal.0 lt equal) ∙ own n))
    by_cases false e (inl same) = absurd (false≢true (sym e ∙ (bytes_eq-Decides join.formal (own_word words inner n)).1 (sym formal.1 ∙ ap (own_word words inner) same)))
    by_cases false e (inr other) = e ∙ sym other

module _ (words : List (List Word)) (m inner : ℕ) (rename : Word → Word) (table : List Spot) (outer : (n : ℕ) → n < length (words_at words m) → rename (own_word words m n) ≡ word_of words (spot_at table n))
    (apart : (i j : ℕ) → i < length (words_at words inner) → j < length (words_at words inner) → own_word words inner i ≡ own_word words inner j → i ≡ j) (n : ℕ) (lt : n < length (words_at words inner)) (its : Word) (own_spot : Spot)
    (same : its ≡ word_of words own_spot) where
  found : (numbers : List NumberedJoin) (joins : List Join) → AreJoinsOf words m inner numbers joins
      → name_by rename its (actual_of joins (own_word words inner n)) ≡ word_of words (spot_by table own_spot (find (λ one. one.formal == n) numbers))
  found [] [] a = same
  found [] (join ∷ joins) a = absurd a
  found (one ∷ numbers) [] a = absurd a
  found (one ∷ numbers) (join ∷ joins) a =
      by_cases one join (one.formal == n) refl (tested words inner n one join a.0 lt apart) (number_renamed words m rename table outer one.actual join.actual a.1) numbers joins (found numbers joins a.2)
    where
      by_cases : (one : NumberedJoin) (join : Join) (b : Bool) → (one.formal == n) ≡ b → bytes_eq join.formal (own_word words inner n) ≡ (one.formal == n) → rename join.actual ≡ word_of words (spot_at table one.actual)
          → (numbers : List NumberedJoin) (joins : List Join) → name_by rename its (actual_of joins (own_word words inner n)) ≡ word_of words (spot_by table own_spot (find (λ two. two.formal == n) numbers))
          → name_by rename its (actual_of (join ∷ joins) (own_word words inner n)) ≡ word_of words (spot_by table own_spot (find (λ two. two.formal == n) (one ∷ numbers)))
      by_cases one join true e test here numbers joins more =
          ap (λ b. name_by rename its (option_map (λ (two : Join). two.actual) (cond b (Some join) (find (λ (two : Join). bytes_eq two.formal (own_word words inner n)) joins)))) (test ∙ e)
          ∙ here
          ∙ sym (ap (λ b. word_of words (spot_by table own_spot (cond b (Some one) (find (λ (two : NumberedJoin). two.formal == n) numbers)))) e)
      by_cases one join false e test here numbers joins more =
          ap (λ b. name_by rename its (option_map (λ (two : Join). two.actual) (cond b (Some join) (find (λ (two : Join). bytes_eq two.formal (own_word words inner n)) joins)))) (test ∙ e)
          ∙ more
          ∙ sym (ap (λ b. word_of words (spot_by table own_spot (cond b (Some one) (find (λ (two : NumberedJoin). two.formal == n) numbers)))) e)

names_inside : (words : List (List Word)) (m inner : ℕ) (rename : Word → Word) (table : List Spot) → ((n : ℕ) → n < length (words_at words m) → rename (own_word words m n) ≡ word_of words (spot_at table n))
    → ((i j : ℕ) → i < length (words_at words inner) → j < length (words_at words inner) → own_word words inner i ≡ own_word words inner j → i ≡ j) → (number names : ℕ) → names ≡ length (words_at words inner)
    → (numbers : List NumberedJoin) (joins : List Join) → AreJoinsOf words m inner numbers joins
    → (n : ℕ) → n < length (words_at words inner) → name_within rename (suc number) joins (own_word words inner n) ≡ word_of words (spot_at (table_within table (suc number) inner numbers names) n)
names_inside words m inner rename table outer apart number names many numbers joins a n lt =
    let its = numeral (suc number) ++ codes "#" ++ own_word words inner n in
    let not_main : (suc number == 0) ≡ false = grind (arith, nat_tests) in
    let same : its ≡ word_of words (spot (suc number) inner n) = sym (ap (λ b. if b then own_word words inner n else its) not_main) in
    let within : n < names = omega (arith, lt, many) in
    found words m inner rename table outer apart n lt its (spot (suc number) inner n) same numbers joins a
    ∙ ap (word_of words) (sym (get_or-map (spot_within table (suc number) inner numbers) (up_to names) n 0 no_spot (omega (arith, within, up_to_many names)) ∙ ap (spot_within table (suc number) inner numbers) (up_to_at names n within)))

-- entries, one by one

-- each instance has a lower rank
Ranked : (ℕ → ℕ) → ℕ → List Entry → Type 0
Ranked rank r [] = Unit {0}
Ranked rank r (entries.Instance instance ∷ others) = (rank instance.model < r) × Ranked rank r others
Ranked rank r (_ ∷ others) = Ranked rank r others

ranked_all : (rank : ℕ → ℕ) (r : ℕ) (others : List Entry) → ((place : ℕ) (instance : NumberedInstance) → slice_get others place ≡ Some (entries.Instance instance) → rank instance.model < r) → Ranked rank r others
unfolding Ranked
ranked_all rank r [] h = tt
ranked_all rank r (entries.Cover cover ∷ others) h = ranked_all rank r others (λ place instance e. h (suc place) instance e)
ranked_all rank r (entries.Latch latch ∷ others) h = ranked_all rank r others (λ place instance e. h (suc place) instance e)
ranked_all rank r (entries.Instance one ∷ others) h = (h 0 one refl, ranked_all rank r others (λ place instance e. h (suc place) instance e))

-- an instance by names and by numbers
IsInstanceOf : List Model → (ℕ → Bool) → List (List Word) → ℕ → Instance → NumberedInstance → Type 0
IsInstanceOf models among words m instance numbers =
    (among numbers.model ≡ true) × ((model : Model) × (slice_get models numbers.model ≡ Some model) × (model_of models instance ≡ Some model)) × AreJoinsOf words m numbers.model numbers.joins (joins_of instance)

module _ (models : List Model) (among : ℕ → Bool) (words : List (List Word)) (rank : ℕ → ℕ) (m r : ℕ) (rename : Word → Word) (table : List Spot) (outer : (n : ℕ) → n < length (words_at words m) → rename (own_word words m n) ≡ word_of words (spot_at table n))
    (copy : ℕ → Instance → List Item) (inside : Instance → ℕ) (copy_laid : ℕ → List Spot → NumberedInstance → List Placed) (inside_laid : ℕ → ℕ)
    (same_copy : (number : ℕ) (instance : Instance) (numbers : NumberedInstance) → IsInstanceOf models among words m instance numbers → rank numbers.model < r → copy (suc number) instance ≡ map (item_of models words) (copy_laid (suc number) table numbers))
    (same_inside : (instance : Instance) (numbers : NumberedInstance) → IsInstanceOf models among words m instance numbers → rank numbers.model < r → inside instance ≡ inside_laid numbers.model) where
  laid_same : (place copies : ℕ) (items : List Item) (others : List Entry) → AreEntriesOf models among words m place items others → Ranked rank r others
      → laid_out copy inside rename copies items ≡ map (item_of models words) (laid_by copy_laid inside_laid table m copies place others)
  unfolding IsInstanceOf Ranked
  laid_same place copies [] [] a k = refl
  laid_same place copies [] (one ∷ others) a k = absurd a
  laid_same place copies (one ∷ items) [] a k = absurd a
  laid_same place copies (covered cover ∷ items) (entries.Latch one ∷ others) a k = absurd a.0
  laid_same place copies (covered cover ∷ items) (entries.Instance one ∷ others) a k = absurd a.0
  laid_same place copies (latched latch ∷ items) (entries.Cover one ∷ others) a k = absurd a.0
  laid_same place copies (latched latch ∷ items) (entries.Instance one ∷ others) a k = absurd a.0
  laid_same place copies (held instance ∷ items) (entries.Cover one ∷ others) a k = absurd a.0
  laid_same place copies (held instance ∷ items) (entries.Latch one ∷ others) a k = absurd a.0
  laid_same place copies (covered cover ∷ items) (entries.Cover one ∷ others) a k =
      let original : cover ≡ cover_at models m place = sym a.0.0 in
      let ins = numbers_renamed words m rename table outer one.ins cover.ins a.0.1 in
      let name = number_renamed words m rename table outer one.name cover.name a.0.2 in
      λ j. covered (record { line = (original j).line; ins = ins j; name = name j; rows = (original j).rows }) ∷ laid_same (place + 1) copies items others a.1 k j
  laid_same place copies (latched latch ∷ items) (entries.Latch one ∷ others) a k =
      let line = sym a.0.0 in
      let input = number_renamed words m rename table outer one.input latch.input a.0.1 in
      let output = number_renamed words m rename table outer one.output latch.output a.0.2 in
      λ j. latched (record { line = line j; input = input j; output = output j }) ∷ laid_same (place + 1) copies items others a.1 k j
  laid_same place copies (held instance ∷ items) (entries.Instance one ∷ others) a k =
      let on : suc copies ≡ copies + 1 = omega arith in
      let behind : suc (copies + inside instance) ≡ copies + 1 + inside_laid one.model = omega (arith, same_inside instance one a.0 k.0) in
      (λ j. (same_copy copies instance one a.0 k.0 ∙ ap (λ n. map (item_of models words) (copy_laid n table one)) on) j ++ (ap (λ n. laid_out copy inside rename n items) behind ∙ laid_same (place + 1) (copies + 1 + inside_laid one.model) items others a.1 k.1) j)
      ∙ sym (map-append (item_of models words) (copy_laid (copies + 1) table one) (laid_by copy_laid inside_laid table m (copies + 1 + inside_laid one.model) (place + 1) others))

-- level by level

module _ (models : List Model) (among : ℕ → Bool) (words : List (List Word)) (numbered : List NumberedModel) (rank : ℕ → ℕ) (counts : Counted) (numbering : IsNumbering models among words numbered) (ranks : IsRanked numbered rank) (counted : IsCounted models among rank counts) where
  expanded_same : (levels m : ℕ) (model : Model) (rename : Word → Word) (table : List Spot) (copies : ℕ) → among m ≡ true → slice_get models m ≡ Some model → rank m ≤ levels
      → ((n : ℕ) → n < length (words_at words m) → rename (own_word words m n) ≡ word_of words (spot_at table n))
      → expanded models levels rename copies model.items ≡ map (item_of models words) (laid_within numbered counts levels table m copies 0 (model_at numbered m).entries)
  unfolding expanded laid_within IsInstanceOf
  expanded_same zero m model rename table copies in_it at le outer =
      laid_same models among words rank m (rank m) rename table outer (λ number instance. []) (λ instance. 0) (λ number up instance. []) (copies_in counts)
      (λ number instance numbers a low. refl) (λ instance numbers a low. absurd (omega (arith, low, le))) 0 copies model.items (model_at numbered m).entries
      (numbering.entries_are m model in_it at) (ranked_all rank (rank m) (model_at numbered m).entries (λ place instance e. ranks m place instance e))
  expanded_same (suc levels) m model rename table copies in_it at le outer =
      laid_same models among words rank m (rank m) rename table outer
      (λ number instance. expanded models levels (name_within rename number (joins_of instance)) number (items_in (model_of models instance)))
      (λ instance. copies_within models levels (items_in (model_of models instance)))
      (λ number up instance.
      unless_empty counts instance.model
      (laid_within numbered counts levels (table_within up number instance.model instance.joins (model_at numbered instance.model).names) instance.model number 0 (model_at numbered instance.model).entries))
      (copies_in counts)
      (λ number instance numbers a low.
      let inner = numbers.model in
      let lower : rank inner ≤ levels = omega (arith, low, le) in
      let found = a.1 in
      let apart : (i j : ℕ) → i < length (words_at words inner) → j < length (words_at words inner) → own_word words inner i ≡ own_word words inner j → i ≡ j = λ i j p q e. numbering.apart inner i j a.0 p q e in
      let names = names_inside words m inner rename table outer apart number (model_at numbered inner).names (numbering.names_are inner a.0) numbers.joins (joins_of instance) a.2 in
      ap (λ o. expanded models levels (name_within rename (suc number) (joins_of instance)) (suc number) (items_in o)) found.2
      ∙ opened levels inner found.0 (name_within rename (suc number) (joins_of instance)) (suc number) (table_within table (suc number) inner numbers.joins (model_at numbered inner).names) a.0 found.1 lower
      (expanded_same levels inner found.0 (name_within rename (suc number) (joins_of instance)) (table_within table (suc number) inner numbers.joins (model_at numbered inner).names) (suc number) a.0 found.1 lower names))
      (λ instance numbers a low. let lower : rank numbers.model ≤ levels = omega (arith, low, le) in ap (λ o. copies_within models levels (items_in o)) a.1.2 ∙ sym (counted.copies levels numbers.model a.1.0 a.0 a.1.1 lower))
      0 copies model.items (model_at numbered m).entries (numbering.entries_are m model in_it at) (ranked_all rank (rank m) (model_at numbered m).entries (λ place instance e. ranks m place instance e))
    where
      opened : (levels inner : ℕ) (one : Model) (renamed : Word → Word) (number : ℕ) (up : List Spot) → among inner ≡ true → slice_get models inner ≡ Some one → rank inner ≤ levels
          → expanded models levels renamed number one.items ≡ map (item_of models words) (laid_within numbered counts levels up inner number 0 (model_at numbered inner).entries)
          → expanded models levels renamed number one.items ≡ map (item_of models words) (unless_empty counts inner (laid_within numbered counts levels up inner number 0 (model_at numbered inner).entries))
      opened levels inner one renamed number up in_it at lower same = by_cases (get_or counts.signals inner 0 == 0) refl
        where
          laid : List Placed
          laid = laid_within numbered counts levels up inner number 0 (model_at numbered inner).entries

          by_cases : (b : Bool) → (get_or counts.signals inner 0 == 0) ≡ b → expanded models levels renamed number one.items ≡ map (item_of models words) (unless_empty counts inner laid)
          by_cases true e =
              let none : get_or counts.signals inner 0 ≡ 0 = grind (arith, nat_tests) in
              expanded_nothing models levels renamed number one.items (counted.signals levels inner one in_it at lower none) ∙ sym (ap (λ b. map (item_of models words) (if b then [] else laid)) e)
          by_cases false e = same ∙ sym (ap (λ b. map (item_of models words) (if b then [] else laid)) e)

pub layouts_are_expansions : LayoutsAreExpansions
layouts_are_expansions models among words numbered rank counts levels m main numbering ranks counted in_it at le =
    expanded_same models among words numbered rank counts numbering ranks counted levels m main (λ name. name) (main_table m (model_at numbered m).names) 0 in_it at le
    (λ n lt.
    let names = (model_at numbered m).names in
    let within : n < names = omega (arith, lt, numbering.names_are m in_it) in
    ap (word_of words) (sym (get_or-map (spot 0 m) (up_to names) n 0 no_spot (omega (arith, within, up_to_many names)) ∙ ap (spot 0 m) (up_to_at names n within))))
