-- The circuit of a whole by spots has the inputs, outputs and covers of the one by names.
use Rattle.std.proofs.Common.{◌≡◌, ℕ, ◌<◌, ◌≤◌, List, [], ◌∷◌, ◌++◌, get_or, length, map, refl, ap, sym, ◌∙◌, subst, arith}
use Rattle.std.specs.Prelude.{All, IsPermutation}
use Rattle.std.specs.List.Sorted.{IsNonDecreasingBy}
use Rattle.std.proofs.lemmas.List.{get_or-map, length-map, map-append}
use Rattle.std.proofs.lemmas.List.Elements.{All-cons, All-get_or, All-head, All-nil, All-tail}
use Rattle.std.proofs.lemmas.List.Sorted.{All-permutation, IsPermutation-map}
use Rattle.job_words.specs.Text.{Word}
use Rattle.blif_models.specs.declared.numbered.Laid.{Laid}
use Rattle.blif_models.specs.declared.numbered.Laid.TheVariants as laid
use Rattle.blif_models.specs.declared.numbered.NumberedLatch.{NumberedLatch}
use Rattle.blif_models.specs.declared.numbered.Spot.{Spot}
use Rattle.blif_models.specs.Circuits.{Cover}
use Rattle.blif_models.specs.Layouts.{placed_in, spot_at}
use Rattle.blif_models.specs.Lined.{IsLined}
use Rattle.blif_models.specs.Models.{Latch, Model, covers_among, latches_among}
use Rattle.blif_models.specs.Numberings.{cover_at, item_of, word_of}
use Rattle.blif_wholes.specs.declared.parting.WholeCover.{WholeCover}
use Rattle.blif_wholes.specs.declared.uses.SpotUse.{SpotUse}
use Rattle.blif_wholes.specs.NamedCircuits.{CircuitsAreNamed, cover_named}
use Rattle.blif_wholes.specs.Parting.{covers_laid, latches_laid}
use Rattle.blif_wholes.specs.Uses.{name_at, use_named}
use Rattle.blif_wholes.proofs.Words.{words_by, words_named}

-- a cover stands on the line of the model's cover
abbrev pub HasLine : List Model → WholeCover → Type 0
HasLine models one = one.cover.line ≡ (cover_at models one.model one.place).line

no_whole : WholeCover
no_whole = record { cover = record { line = 0; ins = []; name = 0 }; model = 0; place = 0 }

module _ (models : List Model) (words : List (List Word)) (spots : List Spot) where
  names_twice : (ns : List ℕ) → map (word_of words) (map (spot_at spots) ns) ≡ map (name_at words spots) ns
  names_twice [] = refl
  names_twice (n ∷ ns) = ap (λ t. name_at words spots n ∷ t) (names_twice ns)

  covers_same : (all : List Laid) → covers_among (map (item_of models words) (map (placed_in spots) all)) ≡ map (cover_named models words spots) (covers_laid all)
  covers_same [] = refl
  covers_same (laid.Cover cover model place ∷ all) =
      λ j. record (cover_at models model place) { ins = names_twice cover.ins j; name = name_at words spots cover.name } ∷ covers_same all j
  covers_same (laid.Latch latch ∷ all) = covers_same all

  outputs_same : (all : List Laid) → map (λ (latch : Latch). latch.output) (latches_among (map (item_of models words) (map (placed_in spots) all))) ≡ map (name_at words spots) (map (λ (latch : NumberedLatch). latch.output) (latches_laid all))
  outputs_same [] = refl
  outputs_same (laid.Cover cover model place ∷ all) = outputs_same all
  outputs_same (laid.Latch latch ∷ all) = ap (λ t. name_at words spots latch.output ∷ t) (outputs_same all)

  inputs_same : (all : List Laid) → map (λ (latch : Latch). latch.input) (latches_among (map (item_of models words) (map (placed_in spots) all))) ≡ map (name_at words spots) (map (λ (latch : NumberedLatch). latch.input) (latches_laid all))
  inputs_same [] = refl
  inputs_same (laid.Cover cover model place ∷ all) = inputs_same all
  inputs_same (laid.Latch latch ∷ all) = ap (λ t. name_at words spots latch.input ∷ t) (inputs_same all)

  pub all_lined : (all : List Laid) → All (IsLined models) (map (placed_in spots) all) → All (HasLine models) (covers_laid all)
  all_lined [] h = All-nil (HasLine models)
  all_lined (laid.Cover cover model place ∷ all) h =
      All-cons (HasLine models) (record { cover = cover; model = model; place = place }) (covers_laid all) (All-head (IsLined models) (placed_in spots (laid.Cover cover model place)) (map (placed_in spots) all) h)
      (all_lined all (All-tail (IsLined models) (placed_in spots (laid.Cover cover model place)) (map (placed_in spots) all) h))
  all_lined (laid.Latch latch ∷ all) h = all_lined all (All-tail (IsLined models) (placed_in spots (laid.Latch latch)) (map (placed_in spots) all) h)

  named_line : (covers : List WholeCover) → All (HasLine models) covers → (i : ℕ) (d : Cover) → i < length covers → (get_or (map (cover_named models words spots) covers) i d).line ≡ (get_or covers i no_whole).cover.line
  named_line covers h i d lt = ap (λ (cover : Cover). cover.line) (get_or-map (cover_named models words spots) covers i no_whole d lt) ∙ sym (All-get_or (HasLine models) covers i no_whole lt h)

  still_rising : (covers : List WholeCover) → All (HasLine models) covers → IsNonDecreasingBy (λ (one : WholeCover). one.cover.line) covers → IsNonDecreasingBy (λ (cover : Cover). cover.line) (map (cover_named models words spots) covers)
  still_rising covers h rising = λ i j d le lt. by_lines i j d (rising i j no_whole le (within j lt)) (named_line covers h i d (before i j le (within j lt))) (named_line covers h j d (within j lt))
    where
      within : (j : ℕ) → j < length (map (cover_named models words spots) covers) → j < length covers
      within j lt = let many = length-map covers (cover_named models words spots) in omega (arith, many, lt)

      before : (i j : ℕ) → i ≤ j → j < length covers → i < length covers
      before i j le lt = omega (arith, le, lt)

      by_lines : (i j : ℕ) (d : Cover) → (get_or covers i no_whole).cover.line ≤ (get_or covers j no_whole).cover.line → (get_or (map (cover_named models words spots) covers) i d).line ≡ (get_or covers i no_whole).cover.line
          → (get_or (map (cover_named models words spots) covers) j d).line ≡ (get_or covers j no_whole).cover.line → (get_or (map (cover_named models words spots) covers) i d).line ≤ (get_or (map (cover_named models words spots) covers) j d).line
      by_lines i j d le one other = omega (arith, le, one, other)

-- the words of uses

spots_used : (words : List (List Word)) (spots : List Spot) (outputs : List SpotUse) → words_by (map (use_named words spots) outputs) ≡ map (name_at words spots) (map (λ one. one.spot) outputs)
spots_used words spots [] = refl
spots_used words spots (one ∷ outputs) = ap (λ t. name_at words spots one.spot ∷ t) (spots_used words spots outputs)

pub circuits_are_named : CircuitsAreNamed
circuits_are_named models words main whole inputs outputs covers h moved rising =
    let all = whole.laid.items in
    let spots = whole.spots.items in
    let f = name_at words spots in
    let lined = All-permutation (HasLine models) (covers_laid all) covers moved (all_lined models words spots all h.lined) in
    let shown = sym (spots_used words spots outputs) ∙ ap words_by h.outputs_are ∙ words_named main.outputs in
    record {
      inputs = map-append f inputs (map (λ (latch : NumberedLatch). latch.output) (latches_laid all)) ∙ (λ j. h.inputs_are j ++ sym (outputs_same models words spots all) j);
      outputs = map-append f (map (λ (one : SpotUse). one.spot) outputs) (map (λ (latch : NumberedLatch). latch.input) (latches_laid all)) ∙ (λ j. shown j ++ sym (inputs_same models words spots all) j);
      covers = subst (λ t. IsPermutation t (map (cover_named models words spots) covers)) (sym (covers_same models words spots all)) (IsPermutation-map (cover_named models words spots) (covers_laid all) covers moved);
      rising = still_rising models words spots covers lined rising;
    }
