-- Models of which only some have entries.
use Rattle.std.proofs.Common.{◌≡◌, ℕ, zero, suc, ◌+◌, ◌<◌, Bool, true, false, List, [], ◌∷◌, ◌++◌, length, set, take, drop, drop-cons, get_or, append_assoc, refl, ap, sym, ◌∙◌, arith, if◌then◌else◌}
use Rattle.std.specs.Prelude.{All}
use Rattle.std.proofs.lemmas.List.{length-take, take_more}
use Rattle.std.proofs.lemmas.List.Elements.{All-cons, All-head, All-nil, All-tail}
use Rattle.blif_models.specs.declared.numbered.Entry.{Entry}
use Rattle.blif_models.specs.declared.numbered.Entry.TheVariants as entries
use Rattle.blif_models.specs.declared.numbered.NumberedModel.{NumberedModel}
use Rattle.blif_models.specs.Kept.{emptied, kept_from}
use Rattle.blif_models.specs.Layouts.{AreNumbered, EntryIs, model_at}

-- one model more
pub kept_again : (among : ℕ → Bool) (k : ℕ) (models : List NumberedModel) (model : NumberedModel) → kept_from among k (models ++ model ∷ []) ≡ kept_from among k models ++ (if among (k + length models) then model else emptied model) ∷ []
kept_again among k [] model = ap (λ n. (if among n then model else emptied model) ∷ []) (omega arith)
kept_again among k (one ∷ models) model =
    ap (λ (ms : List NumberedModel). (if among k then one else emptied one) ∷ ms) (kept_again among (suc k) models model ∙ ap (λ n. kept_from among (suc k) models ++ (if among n then model else emptied model) ∷ []) (omega arith))

pub kept_many : (among : ℕ → Bool) (k : ℕ) (models : List NumberedModel) → length (kept_from among k models) ≡ length models
kept_many among k [] = refl
kept_many among k (one ∷ models) = ap suc (kept_many among (suc k) models)

-- the same ones are kept
pub kept_alike : (among others : ℕ → Bool) (k : ℕ) (models : List NumberedModel) → ((m : ℕ) → among m ≡ others m) → kept_from among k models ≡ kept_from others k models
kept_alike among others k [] h = refl
kept_alike among others k (one ∷ models) h = λ j. (if h k j then one else emptied one) ∷ kept_alike among others (suc k) models h j

-- at the seam of two lists

seam_set : (xs ys : List NumberedModel) (i : ℕ) (old new : NumberedModel) → length xs ≡ i → set (xs ++ old ∷ ys) i new ≡ xs ++ new ∷ ys
seam_set [] ys zero old new e = refl
seam_set [] ys (suc i) old new e = absurd (omega (arith, e))
seam_set (x ∷ xs) ys zero old new e = absurd (omega (arith, e))
seam_set (x ∷ xs) ys (suc i) old new e = ap (λ (ms : List NumberedModel). x ∷ ms) (seam_set xs ys i old new (omega (arith, e)))

seam_get : (xs ys : List NumberedModel) (i : ℕ) (old d : NumberedModel) → length xs ≡ i → get_or (xs ++ old ∷ ys) i d ≡ old
seam_get [] ys zero old d e = refl
seam_get [] ys (suc i) old d e = absurd (omega (arith, e))
seam_get (x ∷ xs) ys zero old d e = absurd (omega (arith, e))
seam_get (x ∷ xs) ys (suc i) old d e = seam_get xs ys i old d (omega (arith, e))

-- a step of the loop that empties: what is before the place is done
module _ (among : ℕ → Bool) (models now : List NumberedModel) (i : ℕ) (d : NumberedModel) (lt : i < length models) (is : now ≡ kept_from among 0 (take i models) ++ drop i models) where
  abbrev old : NumberedModel
  old = get_or models i d

  abbrev front : List NumberedModel
  front = kept_from among 0 (take i models)

  so_many : length front ≡ i
  so_many = omega (arith, kept_many among 0 (take i models), length-take i models, lt)

  here : now ≡ front ++ old ∷ drop (suc i) models
  here = is ∙ ap (λ (ms : List NumberedModel). front ++ ms) (drop-cons models i d lt)

  next : suc i ≡ i + 1
  next = omega arith

  last : front ++ (if among i then old else emptied old) ∷ [] ≡ kept_from among 0 (take (i + 1) models)
  last =
      ap (λ n. front ++ (if among n then old else emptied old) ∷ []) (omega (arith, length-take i models, lt))
      ∙ sym (kept_again among 0 (take i models) old)
      ∙ ap (kept_from among 0) (sym (take_more models i d lt))

  done : (new : NumberedModel) → new ≡ (if among i then old else emptied old) → front ++ new ∷ drop (suc i) models ≡ kept_from among 0 (take (i + 1) models) ++ drop (i + 1) models
  done new e =
      sym (append_assoc front (new ∷ []) (drop (suc i) models))
      ∙ (λ j. (front ++ e j ∷ []) ++ drop (next j) models)
      ∙ ap (λ (ms : List NumberedModel). ms ++ drop (i + 1) models) last

  pub kept_step : among i ≡ true → now ≡ kept_from among 0 (take (i + 1) models) ++ drop (i + 1) models
  kept_step keeps = here ∙ done old (ap (λ (b : Bool). if b then old else emptied old) (sym keeps))

  pub emptied_step : among i ≡ false → (x : NumberedModel) → x ≡ get_or now i x → (none : List Entry) → none ≡ [] → (after : List NumberedModel) → after ≡ set now i (record { names = x.names; entries = none }) → after ≡ kept_from among 0 (take (i + 1) models) ++ drop (i + 1) models
  emptied_step leaves x at none nothing after e =
      e
      ∙ (λ j. set (here j) i (record { names = (same j).names; entries = nothing j }))
      ∙ seam_set front (drop (suc i) models) i old (emptied old) so_many
      ∙ done (emptied old) (ap (λ (b : Bool). if b then old else emptied old) (sym leaves))
    where
      same : x ≡ old
      same = at ∙ (λ j. get_or (here j) i x) ∙ seam_get front (drop (suc i) models) i old x so_many

-- numbers stay those of names and models

pub kept_names : (among : ℕ → Bool) (k m : ℕ) (models : List NumberedModel) → (model_at (kept_from among k models) m).names ≡ (model_at models m).names
kept_names among k m [] = refl
kept_names among k zero (one ∷ models) = by_cases (among k)
  where
    by_cases : (b : Bool) → (if b then one else emptied one).names ≡ one.names
    by_cases true = refl
    by_cases false = refl
kept_names among k (suc m) (one ∷ models) = kept_names among (suc k) m models

entry_stays : (models kept : List NumberedModel) → length kept ≡ length models → ((m : ℕ) → (model_at kept m).names ≡ (model_at models m).names) → (names : ℕ) (entry : Entry) → EntryIs models names entry → EntryIs kept names entry
entry_stays models kept many same names (entries.Cover cover) h = h
entry_stays models kept many same names (entries.Latch latch) h = h
entry_stays models kept many same names (entries.Instance instance) h = (
  omega (arith, h.0, many),
  λ i d lt. ((h.1 i d lt).0, omega (arith, (h.1 i d lt).1, same instance.model)),
)

entries_stay : (models kept : List NumberedModel) → length kept ≡ length models → ((m : ℕ) → (model_at kept m).names ≡ (model_at models m).names) → (names : ℕ) (others : List Entry) → All (EntryIs models names) others → All (EntryIs kept names) others
entries_stay models kept many same names [] h = All-nil (EntryIs kept names)
entries_stay models kept many same names (entry ∷ others) h =
    All-cons (EntryIs kept names) entry others (entry_stays models kept many same names entry (All-head (EntryIs models names) entry others h)) (entries_stay models kept many same names others (All-tail (EntryIs models names) entry others h))

abbrev Keeps : List NumberedModel → NumberedModel → Type 0
Keeps models model = All (EntryIs models model.names) model.entries

numbered_by : (among : ℕ → Bool) (models kept : List NumberedModel) → length kept ≡ length models → ((m : ℕ) → (model_at kept m).names ≡ (model_at models m).names) → (k : ℕ) (some : List NumberedModel) → All (Keeps models) some → All (Keeps kept) (kept_from among k some)
numbered_by among models kept many same k [] h = All-nil (Keeps kept)
numbered_by among models kept many same k (one ∷ some) h =
    All-cons (Keeps kept) (if among k then one else emptied one) (kept_from among (suc k) some) (by_cases (among k)) (numbered_by among models kept many same (suc k) some (All-tail (Keeps models) one some h))
  where
    by_cases : (b : Bool) → Keeps kept (if b then one else emptied one)
    by_cases true = entries_stay models kept many same one.names one.entries (All-head (Keeps models) one some h)
    by_cases false = All-nil (EntryIs kept one.names)

pub kept_numbered : (among : ℕ → Bool) (models : List NumberedModel) → AreNumbered models → AreNumbered (kept_from among 0 models)
kept_numbered among models h = numbered_by among models (kept_from among 0 models) (kept_many among 0 models) (λ m. kept_names among 0 m models) 0 models h
