-- Models whose lines rise.
use Rattle.std.proofs.Common.{◌≡◌, ℕ, zero, suc, ◌≤◌, ◌⊎◌, inl, inr, Bool, true, false, List, [], ◌∷◌, ◌++◌, Some, flat_map, length, map, refl, ap, sym, ◌∙◌, subst, arith}
use Rattle.std.specs.Prelude.{slice_get}
use Rattle.std.proofs.lemmas.Option.{get_or_from_slice_get, slice_get_within}
use Rattle.blif_models.specs.declared.cycles.Holding.{Holding}
use Rattle.blif_models.specs.declared.limits.Adding.{Adding}
use Rattle.blif_models.specs.declared.numbered.Entry.{Entry}
use Rattle.blif_models.specs.declared.numbered.Entry.TheVariants as entries
use Rattle.blif_models.specs.declared.numbered.NumberedModel.{NumberedModel}
use Rattle.blif_models.specs.Additions.{AreFrom, AreRising, lines_of}
use Rattle.blif_models.specs.Agreement.{AreInLines, HasLines, HoldingsFrom, HoldingsRise, entry_line}
use Rattle.blif_models.specs.Arrangements.{holdings_by, holdings_from}
use Rattle.blif_models.specs.Graphs.{is_reached}
use Rattle.blif_models.specs.Kept.{reached_models}
use Rattle.blif_models.specs.Layouts.{model_at}
use Rattle.blif_models.specs.ModelFaults.{adding_inputs, line_of}
use Rattle.blif_models.specs.Models.{Model, Named}
use Rattle.blif_models.specs.NumberedGraphs.{all_held}
use Rattle.blif_models.proofs.KeptModels.{kept_many}
use Rattle.blif_models.proofs.KeptReached.{kept_agree}
use Rattle.blif_models.proofs.TurningLines.{outcomes_agree}
use Rattle.blif_formals.specs.Lines.{AreRisingModels, HaveLines, LinesAgree, RiseFrom}

rise_lower : (lines : List ℕ) (low high : ℕ) → low ≤ high → RiseFrom high lines → RiseFrom low lines
rise_lower [] low high le h = tt
rise_lower (line ∷ lines) low high le h = (omega (arith, le, h.0), h.1)

rise_behind : (front rest : List ℕ) (n : ℕ) → RiseFrom n (front ++ rest) → RiseFrom n rest
rise_behind [] rest n h = h
rise_behind (line ∷ front) rest n h = let low = h.0 in rise_lower rest n (suc line) (omega (arith, low)) (rise_behind front rest (suc line) h.1)

-- models that begin on one line are one

line_above : (models : List Model) (n m : ℕ) (one : Model) → RiseFrom n (map (λ model. model.line) models) → slice_get models m ≡ Some one → n ≤ one.line
line_above [] n m one h at = cc
line_above (model ∷ models) n zero one h at =
    let same : model ≡ one = cc in
    subst (λ (x : Model). n ≤ x.line) same h.0
line_above (model ∷ models) n (suc m) one h at = let above = line_above models (suc model.line) m one h.1 at in let low = h.0 in omega (arith, above, low)

pub one_place : (models : List Model) (low m n : ℕ) (one other : Model) → RiseFrom low (map (λ model. model.line) models) → slice_get models m ≡ Some one → slice_get models n ≡ Some other → one.line ≡ other.line → m ≡ n
one_place [] low m n one other h at there same = cc
one_place (model ∷ models) low zero zero one other h at there same = refl
one_place (model ∷ models) low zero (suc n) one other h at there same =
    let first : model ≡ one = cc in
    let above = line_above models (suc model.line) n other h.1 there in
    let line : model.line ≡ one.line = ap (λ (x : Model). x.line) first in
    absurd (omega (arith, above, line, same))
one_place (model ∷ models) low (suc m) zero one other h at there same =
    let first : model ≡ other = cc in
    let above = line_above models (suc model.line) m one h.1 at in
    let line : model.line ≡ other.line = ap (λ (x : Model). x.line) first in
    absurd (omega (arith, above, line, same))
one_place (model ∷ models) low (suc m) (suc n) one other h at there same = ap suc (one_place models (suc model.line) m n one other h.1 at there same)

-- what lines add rises with them

adding_lower : (ones : List Adding) (low high : ℕ) → low ≤ high → AreFrom high ones → AreFrom low ones
adding_lower [] low high le h = tt
adding_lower (one ∷ ones) low high le h = (omega (arith, le, h.0), adding_lower ones low high le h.1)

adding_rise : (ones : List Adding) (n : ℕ) → RiseFrom n (map (λ one. one.line) ones) → AreFrom n ones × AreRising ones
adding_rise [] n h = (tt, tt)
adding_rise (one ∷ ones) n h =
    let low = h.0 in
    let both = adding_rise ones (suc one.line) h.1 in
    ((low, adding_lower ones n (suc one.line) (omega (arith, low)) both.0), both)

lines_alike : (ones : List Entry) → map entry_line ones ≡ map (λ one. one.line) (lines_of ones)
lines_alike [] = refl
lines_alike (entries.Cover cover ∷ ones) = λ j. cover.line ∷ lines_alike ones j
lines_alike (entries.Latch latch ∷ ones) = λ j. latch.line ∷ lines_alike ones j
lines_alike (entries.Instance instance ∷ ones) = λ j. instance.line ∷ lines_alike ones j

rise_before : (front rest : List ℕ) (n : ℕ) → RiseFrom n (front ++ rest) → RiseFrom n front
rise_before [] rest n h = tt
rise_before (line ∷ front) rest n h = (h.0, rise_before front rest (suc line) h.1)

in_model : (models : List Model) (n m : ℕ) (model : Model) → RiseFrom n (flat_map (λ model. map line_of model.items) models) → slice_get models m ≡ Some model → RiseFrom n (map line_of model.items)
in_model [] n m model h at = cc
in_model (x ∷ models) n zero model h at =
    let same : x ≡ model = cc in
    subst (λ (y : Model). RiseFrom n (map line_of y.items)) same (rise_before (map line_of x.items) (flat_map (λ (y : Model). map line_of y.items) models) n h)
in_model (x ∷ models) n (suc m) model h at = in_model models n m model (rise_behind (map line_of x.items) (flat_map (λ (y : Model). map line_of y.items) models) n h) at

entries_rise : (models : List Model) (numbered : List NumberedModel) (main : ℕ) (model : Model) → AreRisingModels models → slice_get models main ≡ Some model → HasLines model (model_at numbered main) → AreRising (lines_of (model_at numbered main).entries)
entries_rise models numbered main model rising at lines =
    (adding_rise (lines_of (model_at numbered main).entries) 0 (subst (RiseFrom 0) (lines ∙ lines_alike (model_at numbered main).entries) (in_model models 0 main model rising.items at))).1

inputs_alike : (ones : List Named) → map (λ one. one.line) ones ≡ map (λ one. one.line) (map adding_inputs ones)
inputs_alike [] = refl
inputs_alike (one ∷ ones) = λ j. one.line ∷ inputs_alike ones j

inputs_rise : (models : List Model) (main : ℕ) (model : Model) → AreRisingModels models → slice_get models main ≡ Some model → AreRising (map adding_inputs model.inputs)
inputs_rise models main model rising at =
    let own : RiseFrom 0 (map (λ one. one.line) model.inputs) =
    subst (λ (x : Model). RiseFrom 0 (map (λ one. one.line) x.inputs)) (get_or_from_slice_get models main model model at) (rising.inputs main model (slice_get_within models main model at)) in
    (adding_rise (map adding_inputs model.inputs) 0 (subst (RiseFrom 0) (inputs_alike model.inputs) own)).1

-- instances rise with the lines on which they stand

from_lower : (holdings : List Holding) (low high : ℕ) → low ≤ high → HoldingsFrom high holdings → HoldingsFrom low holdings
from_lower [] low high le h = tt
from_lower (one ∷ holdings) low high le h = (omega (arith, le, h.0), from_lower holdings low high le h.1)

own_rise : (m : ℕ) (ones : List Entry) (n : ℕ) (rest : List ℕ) (others : List Holding) → RiseFrom n (map entry_line ones ++ rest) → ((k : ℕ) → RiseFrom k rest → HoldingsFrom k others × HoldingsRise others)
    → HoldingsFrom n (holdings_by m ones ++ others) × HoldingsRise (holdings_by m ones ++ others)
own_rise m [] n rest others h more = more n h
own_rise m (entries.Cover cover ∷ ones) n rest others h more =
    let low = h.0 in
    let both = own_rise m ones (suc cover.line) rest others h.1 more in
    (from_lower (holdings_by m ones ++ others) n (suc cover.line) (omega (arith, low)) both.0, both.1)
own_rise m (entries.Latch latch ∷ ones) n rest others h more =
    let low = h.0 in
    let both = own_rise m ones (suc latch.line) rest others h.1 more in
    (from_lower (holdings_by m ones ++ others) n (suc latch.line) (omega (arith, low)) both.0, both.1)
own_rise m (entries.Instance instance ∷ ones) n rest others h more =
    let low = h.0 in
    let both = own_rise m ones (suc instance.line) rest others h.1 more in
    ((low, from_lower (holdings_by m ones ++ others) n (suc instance.line) (omega (arith, low)) both.0), both)

-- models have the lines of these, or no entries
AreLined : List Model → List NumberedModel → Type 0
AreLined [] [] = Unit {0}
AreLined (model ∷ models) (one ∷ numbered) = (HasLines model one ⊎ (one.entries ≡ [])) × AreLined models numbered
AreLined _ _ = ⊥

one_by_one : (models : List Model) (numbered : List NumberedModel) → length numbered ≡ length models → ((m : ℕ) (model : Model) → slice_get models m ≡ Some model → HasLines model (model_at numbered m) ⊎ ((model_at numbered m).entries ≡ [])) → AreLined models numbered
unfolding AreLined
one_by_one [] [] e h = tt
one_by_one [] (one ∷ numbered) e h = absurd (omega (arith, e))
one_by_one (model ∷ models) [] e h = absurd (omega (arith, e))
one_by_one (model ∷ models) (one ∷ numbered) e h = (h 0 model refl, one_by_one models numbered (omega (arith, e)) (λ m x at. h (suc m) x at))

all_rise : (models : List Model) (numbered : List NumberedModel) → AreLined models numbered → (m n : ℕ) → RiseFrom n (flat_map (λ model. map line_of model.items) models) → HoldingsFrom n (holdings_from m numbered) × HoldingsRise (holdings_from m numbered)
unfolding AreLined
all_rise [] [] a m n h = (tt, tt)
all_rise [] (one ∷ numbered) a m n h = absurd a
all_rise (model ∷ models) [] a m n h = absurd a
all_rise (model ∷ models) (one ∷ numbered) a m n h = by_cases a.0 (λ k r. all_rise models numbered a.1 (suc m) k r)
  where
    by_cases : HasLines model one ⊎ (one.entries ≡ []) → ((k : ℕ) → RiseFrom k (flat_map (λ (x : Model). map line_of x.items) models) → HoldingsFrom k (holdings_from (suc m) numbered) × HoldingsRise (holdings_from (suc m) numbered))
        → HoldingsFrom n (holdings_by m one.entries ++ holdings_from (suc m) numbered) × HoldingsRise (holdings_by m one.entries ++ holdings_from (suc m) numbered)
    by_cases (inl lines) more = own_rise m one.entries n (flat_map (λ (x : Model). map line_of x.items) models) (holdings_from (suc m) numbered) (subst (λ (ls : List ℕ). RiseFrom n (ls ++ flat_map (λ (x : Model). map line_of x.items) models)) lines h) more
    by_cases (inr none) more =
        subst (λ (es : List Entry). HoldingsFrom n (holdings_by m es ++ holdings_from (suc m) numbered) × HoldingsRise (holdings_by m es ++ holdings_from (suc m) numbered)) (sym none)
        (more n (rise_behind (map line_of model.items) (flat_map (λ (x : Model). map line_of x.items) models) n h))

-- what the main model reaches

module _ (models : List Model) (numbered : List NumberedModel) (main : ℕ) (many : length numbered ≡ length models) (rising : AreRisingModels models) (have : HaveLines models numbered main) where
  among : ℕ → Bool
  among = is_reached (all_held numbered) (length numbered) main

  kept_lines : (m : ℕ) (model : Model) → among m ≡ true → slice_get models m ≡ Some model → HasLines model (model_at (reached_models numbered main) m)
  unfolding among
  kept_lines m model i at = subst (HasLines model) (sym (kept_agree.same numbered main m i)) (have m model i at)

  lined : (m : ℕ) (model : Model) → slice_get models m ≡ Some model → HasLines model (model_at (reached_models numbered main) m) ⊎ ((model_at (reached_models numbered main) m).entries ≡ [])
  unfolding among
  lined m model at = by_cases (among m) refl
    where
      by_cases : (t : Bool) → among m ≡ t → HasLines model (model_at (reached_models numbered main) m) ⊎ ((model_at (reached_models numbered main) m).entries ≡ [])
      by_cases true i = inl (kept_lines m model i at)
      by_cases false o = inr (kept_agree.others numbered main m o)

  in_lines : AreInLines models among (reached_models numbered main) main
  unfolding among
  in_lines = record {
    apart = λ m n one other i j at there same. one_place models 0 m n one other rising.begins at there same;
    lines = kept_lines;
    reached = λ m i. kept_agree.reached numbered main m i;
    others = λ m o. kept_agree.others numbered main m o;
    rising = (all_rise models (reached_models numbered main) (one_by_one models (reached_models numbered main) (kept_many among 0 numbered ∙ many) lined) 0 0 rising.items).1;
  }

pub lines_agree : LinesAgree
unfolding among
lines_agree = record {
  entries = entries_rise;
  inputs = inputs_rise;
  in_lines = λ models numbered main many rising have. in_lines models numbered main many rising have;
  outcome = λ models words numbered main model outcome is rising have comes.
      outcomes_agree models (is_reached (all_held numbered) (length numbered) main) words (reached_models numbered main) main model outcome (kept_agree.named models words numbered main model is)
      (in_lines models numbered main is.as_many rising have) comes;
}
