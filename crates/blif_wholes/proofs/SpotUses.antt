-- What uses no signal of a whole, by spots and by names.
use Rattle.std.proofs.Common.{◌≡◌, ℕ, ◌<◌, ◌==◌, ◌||◌, not, Bool, true, false, cond, List, [], ◌∷◌, ◌++◌, append_assoc, filter, flat_map, length, map, refl, ap, sym, ◌∙◌, subst}
use Rattle.std.specs.Prelude.{All, vec_len}
use Rattle.std.proofs.lemmas.List.{map-append}
use Rattle.std.proofs.lemmas.List.Elements.{All-append, All-cons, All-head, All-nil, All-tail, filter-append}
use Rattle.std.proofs.lemmas.List.Folds.{list_any-append}
use Rattle.job_words.specs.Text.{Word, is_among}
use Rattle.blif_order.specs.Orders.{is_in}
use Rattle.blif_models.specs.declared.layout.Whole.{Whole}
use Rattle.blif_models.specs.declared.numbered.Laid.{Laid}
use Rattle.blif_models.specs.declared.numbered.Laid.TheVariants as laid
use Rattle.blif_models.specs.declared.numbered.Spot.{Spot}
use Rattle.blif_models.specs.Circuits.{Cover, defined_in, is_signal}
use Rattle.blif_models.specs.Layouts.{placed_in, spot_at}
use Rattle.blif_models.specs.Lined.{IsLined}
use Rattle.blif_models.specs.ModelFaults.{least}
use Rattle.blif_models.specs.Models.{Latch, Model, Use, circuit_from, covers_among, latches_among, uses_of, uses_on}
use Rattle.blif_models.specs.Numberings.{cover_at, item_of, word_of}
use Rattle.blif_models.specs.Unfinished.{LaidIs}
use Rattle.blif_wholes.specs.declared.uses.SpotUse.{SpotUse}
use Rattle.blif_wholes.specs.Uses.{IsNamed, UndefinedAgrees, items_laid, name_at, signals_laid, use_named, uses_at, uses_laid}
use Rattle.blif_wholes.proofs.FirstLines.{least_after, least_swapped}
use Rattle.blif_wholes.proofs.SpotNames.{among_names}

-- covers and latches apart

abbrev latch_names : List Laid → List ℕ
latch_names [] = []
latch_names (laid.Cover cover model place ∷ all) = latch_names all
latch_names (laid.Latch latch ∷ all) = latch.output ∷ latch_names all

abbrev cover_names : List Laid → List ℕ
cover_names [] = []
cover_names (laid.Cover cover model place ∷ all) = cover.name ∷ cover_names all
cover_names (laid.Latch latch ∷ all) = cover_names all

abbrev latch_uses : List Laid → List SpotUse
latch_uses [] = []
latch_uses (laid.Cover cover model place ∷ all) = latch_uses all
latch_uses (laid.Latch latch ∷ all) = uses_at latch.line (latch.input ∷ []) ++ latch_uses all

abbrev cover_uses : List Laid → List SpotUse
cover_uses [] = []
cover_uses (laid.Cover cover model place ∷ all) = uses_at cover.line cover.ins ++ cover_uses all
cover_uses (laid.Latch latch ∷ all) = cover_uses all

-- both together stand among what is laid out

either_swapped : (a b c : Bool) → (a || (b || c)) ≡ (b || (a || c))
either_swapped true true c = refl
either_swapped true false c = refl
either_swapped false b c = refl

grouped : (a b c : Bool) → ((a || b) || c) ≡ (a || (b || c))
grouped true b c = refl
grouped false b c = refl

names_mixed : (all : List Laid) (n : ℕ) → (is_in (latch_names all) n || is_in (cover_names all) n) ≡ is_in (signals_laid all) n
names_mixed [] n = refl
names_mixed (laid.Cover cover model place ∷ all) n = either_swapped (is_in (latch_names all) n) (cover.name == n) (is_in (cover_names all) n) ∙ ap (λ b. (cover.name == n) || b) (names_mixed all n)
names_mixed (laid.Latch latch ∷ all) n = grouped (latch.output == n) (is_in (latch_names all) n) (is_in (cover_names all) n) ∙ ap (λ b. (latch.output == n) || b) (names_mixed all n)

abbrev pub lines_where : (SpotUse → Bool) → List SpotUse → List ℕ
lines_where p uses = map (λ one. one.line) (filter p uses)

pub lines_both : (p : SpotUse → Bool) (front back : List SpotUse) → lines_where p (front ++ back) ≡ lines_where p front ++ lines_where p back
lines_both p front back = ap (map (λ (one : SpotUse). one.line)) (filter-append p front back) ∙ map-append (λ (one : SpotUse). one.line) (filter p front) (filter p back)

uses_mixed : (p : SpotUse → Bool) (all : List Laid) → least (lines_where p (cover_uses all) ++ lines_where p (latch_uses all)) ≡ least (lines_where p (uses_laid all))
uses_mixed p [] = ap least (sym (lines_both p [] []))
uses_mixed p (laid.Cover cover model place ∷ all) =
    let own = uses_at cover.line cover.ins in
    ap (λ t. least (t ++ lines_where p (latch_uses all))) (lines_both p own (cover_uses all))
    ∙ ap least (append_assoc (lines_where p own) (lines_where p (cover_uses all)) (lines_where p (latch_uses all)))
    ∙ least_after (lines_where p own) (lines_where p (cover_uses all) ++ lines_where p (latch_uses all)) (lines_where p (uses_laid all)) (uses_mixed p all)
    ∙ ap least (sym (lines_both p own (uses_laid all)))
uses_mixed p (laid.Latch latch ∷ all) =
    let own = uses_at latch.line (latch.input ∷ []) in
    ap (λ t. least (lines_where p (cover_uses all) ++ t)) (lines_both p own (latch_uses all))
    ∙ least_swapped (lines_where p (cover_uses all)) (lines_where p own) (lines_where p (latch_uses all))
    ∙ least_after (lines_where p own) (lines_where p (cover_uses all) ++ lines_where p (latch_uses all)) (lines_where p (uses_laid all)) (uses_mixed p all)
    ∙ ap least (sym (lines_both p own (uses_laid all)))

-- the same by name

module _ (models : List Model) (words : List (List Word)) (spots : List Spot) where
  latches_named : (all : List Laid) → map (λ (latch : Latch). latch.output) (latches_among (map (item_of models words) (map (placed_in spots) all))) ≡ map (name_at words spots) (latch_names all)
  latches_named [] = refl
  latches_named (laid.Cover cover model place ∷ all) = latches_named all
  latches_named (laid.Latch latch ∷ all) = ap (λ t. name_at words spots latch.output ∷ t) (latches_named all)

  covers_named : (all : List Laid) → defined_in (covers_among (map (item_of models words) (map (placed_in spots) all))) ≡ map (name_at words spots) (cover_names all)
  covers_named [] = refl
  covers_named (laid.Cover cover model place ∷ all) = ap (λ t. name_at words spots cover.name ∷ t) (covers_named all)
  covers_named (laid.Latch latch ∷ all) = covers_named all

  ins_named : (line : ℕ) (ins : List ℕ) → uses_on line (map (word_of words) (map (spot_at spots) ins)) ≡ map (use_named words spots) (uses_at line ins)
  ins_named line [] = refl
  ins_named line (n ∷ ins) = ap (λ t. use_named words spots (record { spot = n; line = line }) ∷ t) (ins_named line ins)

  covers_used : (all : List Laid) → All (IsLined models) (map (placed_in spots) all)
      → flat_map (λ (cover : Cover). uses_on cover.line cover.ins) (covers_among (map (item_of models words) (map (placed_in spots) all))) ≡ map (use_named words spots) (cover_uses all)
  covers_used [] h = refl
  covers_used (laid.Cover cover model place ∷ all) h =
      let line : cover.line ≡ (cover_at models model place).line = All-head (IsLined models) (placed_in spots (laid.Cover cover model place)) (map (placed_in spots) all) h in
      let ins = map (word_of words) (map (spot_at spots) cover.ins) in
      (λ j. (ap (λ l. uses_on l ins) (sym line) ∙ ins_named cover.line cover.ins) j ++ covers_used all (All-tail (IsLined models) (placed_in spots (laid.Cover cover model place)) (map (placed_in spots) all) h) j)
      ∙ sym (map-append (use_named words spots) (uses_at cover.line cover.ins) (cover_uses all))
  covers_used (laid.Latch latch ∷ all) h = covers_used all (All-tail (IsLined models) (placed_in spots (laid.Latch latch)) (map (placed_in spots) all) h)

  latches_used : (all : List Laid) → flat_map (λ (latch : Latch). uses_on latch.line (latch.input ∷ [])) (latches_among (map (item_of models words) (map (placed_in spots) all))) ≡ map (use_named words spots) (latch_uses all)
  latches_used [] = refl
  latches_used (laid.Cover cover model place ∷ all) = latches_used all
  latches_used (laid.Latch latch ∷ all) = ap (λ t. use_named words spots (record { spot = latch.input; line = latch.line }) ∷ t) (latches_used all)

-- in range

module _ (count : ℕ) where
  at_within : (line : ℕ) (ins : List ℕ) → All (λ n. n < count) ins → All (λ (one : SpotUse). one.spot < count) (uses_at line ins)
  at_within line [] h = All-nil (λ (one : SpotUse). one.spot < count)
  at_within line (n ∷ ins) h =
      All-cons (λ (one : SpotUse). one.spot < count) (record { spot = n; line = line }) (uses_at line ins) (All-head (λ m. m < count) n ins h) (at_within line ins (All-tail (λ m. m < count) n ins h))

  -- What is laid out is in range.
  record AreWithin (all : List Laid) : Type 0 where
    of_latches : All (λ n. n < count) (latch_names all)
    of_covers : All (λ n. n < count) (cover_names all)
    of_latch_uses : All (λ (one : SpotUse). one.spot < count) (latch_uses all)
    of_cover_uses : All (λ (one : SpotUse). one.spot < count) (cover_uses all)

  all_within : (all : List Laid) → All (LaidIs count) all → AreWithin all
  all_within [] h = record {
    of_latches = All-nil (λ n. n < count);
    of_covers = All-nil (λ n. n < count);
    of_latch_uses = All-nil (λ (one : SpotUse). one.spot < count);
    of_cover_uses = All-nil (λ (one : SpotUse). one.spot < count);
  }
  all_within (laid.Cover cover model place ∷ all) h =
      let here = All-head (LaidIs count) (laid.Cover cover model place) all h in
      let rest = all_within all (All-tail (LaidIs count) (laid.Cover cover model place) all h) in
      record {
        of_latches = rest.of_latches;
        of_covers = All-cons (λ n. n < count) cover.name (cover_names all) here.1 rest.of_covers;
        of_latch_uses = rest.of_latch_uses;
        of_cover_uses = All-append (λ (one : SpotUse). one.spot < count) (uses_at cover.line cover.ins) (cover_uses all) (at_within cover.line cover.ins here.0) rest.of_cover_uses;
      }
  all_within (laid.Latch latch ∷ all) h =
      let here = All-head (LaidIs count) (laid.Latch latch) all h in
      let rest = all_within all (All-tail (LaidIs count) (laid.Latch latch) all h) in
      record {
        of_latches = All-cons (λ n. n < count) latch.output (latch_names all) here.1 rest.of_latches;
        of_covers = rest.of_covers;
        of_latch_uses = All-cons (λ (one : SpotUse). one.spot < count) (record { spot = latch.input; line = latch.line }) (latch_uses all) here.0 rest.of_latch_uses;
        of_cover_uses = rest.of_cover_uses;
      }

-- lines that are told by name are told by spot

lines_same : (p : Use → Bool) (q : SpotUse → Bool) (words : List (List Word)) (spots : List Spot) (count : ℕ)
    → ((n line : ℕ) → n < count → p (use_named words spots (record { spot = n; line = line })) ≡ q (record { spot = n; line = line })) → (uses : List SpotUse) → All (λ (one : SpotUse). one.spot < count) uses
    → map (λ (one : Use). one.line) (filter p (map (use_named words spots) uses)) ≡ lines_where q uses
lines_same p q words spots count h [] a = refl
lines_same p q words spots count h (one ∷ uses) a =
    let others = filter p (map (use_named words spots) uses) in
    ap (λ b. map (λ (two : Use). two.line) (cond b (use_named words spots one ∷ others) others)) (h one.spot one.line (All-head (λ (two : SpotUse). two.spot < count) one uses a))
    ∙ by_cases (q one) (lines_same p q words spots count h uses (All-tail (λ (two : SpotUse). two.spot < count) one uses a))
  where
    by_cases : (b : Bool) → map (λ (two : Use). two.line) (filter p (map (use_named words spots) uses)) ≡ lines_where q uses
        → map (λ (two : Use). two.line)
        (cond b (use_named words spots one ∷ filter p (map (use_named words spots) uses))
        (filter p (map (use_named words spots) uses)))
        ≡ map (λ (two : SpotUse). two.line) (cond b (one ∷ filter q uses) (filter q uses))
    by_cases true more = ap (λ t. one.line ∷ t) more
    by_cases false more = more

signal_same : (models : List Model) (words : List (List Word)) (main : Model) (whole : Whole) (inputs : List ℕ) (outputs : List SpotUse) → IsNamed models words main whole inputs outputs → (n : ℕ) → n < vec_len whole.spots
    → is_signal (circuit_from main (items_laid models words whole)) (name_at words whole.spots.items n) ≡ is_in (inputs ++ signals_laid whole.laid.items) n
signal_same models words main whole inputs outputs h n lt =
    let all = whole.laid.items in
    let spots = whole.spots.items in
    let f = name_at words spots in
    let latches = latch_names all in
    let covers = cover_names all in
    let within = all_within (vec_len whole.spots) all h.laid_out.within in
    let many : vec_len whole.spots ≡ length spots = (whole.spots.ok).0 in
    let names_are : map f ((inputs ++ latches) ++ covers) ≡ (circuit_from main (items_laid models words whole)).inputs ++ defined_in (circuit_from main (items_laid models words whole)).covers =
    map-append f (inputs ++ latches) covers ∙ (λ j. (map-append f inputs latches ∙ (λ k. h.inputs_are k ++ sym (latches_named models words spots all) k)) j ++ sym (covers_named models words spots all) j) in
    ap (λ ws. is_among ws (f n)) (sym names_are)
    ∙ among_names words spots h.plain h.one_number h.laid_out.one_spot h.laid_out.named n ((inputs ++ latches) ++ covers) (subst (λ m. n < m) many lt)
    (subst (λ m. All (λ k. k < m) ((inputs ++ latches) ++ covers)) many
    (All-append (λ k. k < vec_len whole.spots) (inputs ++ latches) covers (All-append (λ k. k < vec_len whole.spots) inputs latches h.inputs_within within.of_latches) within.of_covers))
    ∙ list_any-append (λ k. k == n) (inputs ++ latches) covers
    ∙ ap (λ b. b || is_in covers n) (list_any-append (λ k. k == n) inputs latches)
    ∙ grouped (is_in inputs n) (is_in latches n) (is_in covers n)
    ∙ ap (λ b. is_in inputs n || b) (names_mixed all n)
    ∙ sym (list_any-append (λ k. k == n) inputs (signals_laid all))

pub undefined_agrees : UndefinedAgrees
undefined_agrees models words main whole inputs outputs h =
    let all = whole.laid.items in
    let spots = whole.spots.items in
    let circuit = circuit_from main (items_laid models words whole) in
    let p = λ (one : Use). not (is_signal circuit one.word) in
    let q = λ (one : SpotUse). not (is_in (inputs ++ signals_laid all) one.spot) in
    let covers = cover_uses all in
    let latches = latch_uses all in
    let g = use_named words spots in
    let within = all_within (vec_len whole.spots) all h.laid_out.within in
    let uses_are : uses_of main (items_laid models words whole) ≡ map g ((outputs ++ covers) ++ latches) =
    (λ j. (sym h.outputs_are j ++ covers_used models words spots all h.lined j) ++ latches_used models words spots all j)
    ∙ sym (map-append g (outputs ++ covers) latches ∙ ap (λ t. t ++ map g latches) (map-append g outputs covers)) in
    ap (λ us. least (map (λ (one : Use). one.line) (filter p us))) uses_are
    ∙ ap least
    (lines_same p q words spots (vec_len whole.spots) (λ n line lt. ap not (signal_same models words main whole inputs outputs h n lt)) ((outputs ++ covers) ++ latches)
    (All-append (λ (one : SpotUse). one.spot < vec_len whole.spots) (outputs ++ covers) latches (All-append (λ (one : SpotUse). one.spot < vec_len whole.spots) outputs covers h.outputs_within within.of_cover_uses) within.of_latch_uses))
    ∙ ap least (lines_both q (outputs ++ covers) latches ∙ ap (λ t. t ++ lines_where q latches) (lines_both q outputs covers) ∙ append_assoc (lines_where q outputs) (lines_where q covers) (lines_where q latches))
    ∙ least_after (lines_where q outputs) (lines_where q covers ++ lines_where q latches) (lines_where q (uses_laid all)) (uses_mixed q all)
    ∙ ap least (sym (lines_both q outputs (uses_laid all)))
