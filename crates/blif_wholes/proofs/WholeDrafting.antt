-- A whole's draft is of its circuit.
use Rattle.std.proofs.Common.{◌≡◌, ℕ, zero, suc, ◌<◌, List, [], ◌∷◌, ◌++◌, Some, length, map, refl, ap, sym, ◌∙◌, subst, arith}
use Rattle.std.specs.Prelude.{All, IsPermutation, option_map, slice_get, vec_len}
use Rattle.std.specs.List.Sorted.{IsNonDecreasingBy}
use Rattle.std.proofs.lemmas.List.{map-append}
use Rattle.std.proofs.lemmas.List.Elements.{All-append, All-cons, All-head, All-nil, All-tail}
use Rattle.std.proofs.lemmas.List.Sorted.{All-permutation}
use Rattle.std.proofs.lemmas.Option.{same_Some, slice_get-get_or, slice_get-map}
use Rattle.job_words.specs.Text.{Word, is_among}
use Rattle.blif_models.specs.declared.layout.Whole.{Whole}
use Rattle.blif_models.specs.declared.numbered.Laid.{Laid}
use Rattle.blif_models.specs.declared.numbered.Laid.TheVariants as laid
use Rattle.blif_models.specs.declared.numbered.NumberedLatch.{NumberedLatch}
use Rattle.blif_models.specs.declared.numbered.Spot.{Spot}
use Rattle.blif_models.specs.Circuits.{defined_in}
use Rattle.blif_models.specs.Layouts.{no_spot, spot_at}
use Rattle.blif_models.specs.Models.{Model}
use Rattle.blif_models.specs.Numberings.{word_of, words_at}
use Rattle.blif_models.specs.Unfinished.{LaidIs}
use Rattle.blif_wholes.specs.declared.drafting.WholeDraft.{WholeDraft}
use Rattle.blif_wholes.specs.declared.parting.WholeCover.{WholeCover}
use Rattle.blif_wholes.specs.declared.roles.Role.{Role}
use Rattle.blif_wholes.specs.declared.roles.Role.TheVariants as roles
use Rattle.blif_wholes.specs.declared.uses.SpotUse.{SpotUse}
use Rattle.blif_wholes.specs.Drafting.{AreCoversBy, AreRolesBy, IsDraftOfWhole, IsRoleOfWord}
use Rattle.blif_wholes.specs.NamedCircuits.{circuit_named, cover_named}
use Rattle.blif_wholes.specs.Names.{IsSpotIn, WholeName, named_by, words_in}
use Rattle.blif_wholes.specs.Networks.{AreNumbers}
use Rattle.blif_wholes.specs.Parting.{covers_laid, latches_laid}
use Rattle.blif_wholes.specs.Roles.{IsRoleOf, role_at}
use Rattle.blif_wholes.specs.Uses.{IsNamed, name_at}
use Rattle.blif_wholes.proofs.NameSteps.{word_named}
use Rattle.blif_wholes.proofs.NamedCircuits.{HasLine, all_lined, circuits_are_named}
use Rattle.blif_wholes.proofs.SpotNames.{among_names}

-- the numbers of a cover of the whole are those of spots
abbrev pub IsWithin : ℕ → WholeCover → Type 0
IsWithin spots one = All (λ n. n < spots) one.cover.ins × (one.cover.name < spots)

covers_within : (spots : ℕ) (all : List Laid) → All (LaidIs spots) all → All (IsWithin spots) (covers_laid all)
covers_within spots [] h = All-nil (IsWithin spots)
covers_within spots (laid.Cover cover model place ∷ all) h =
    All-cons (IsWithin spots) (record { cover = cover; model = model; place = place }) (covers_laid all) (All-head (LaidIs spots) (laid.Cover cover model place) all h)
    (covers_within spots all (All-tail (LaidIs spots) (laid.Cover cover model place) all h))
covers_within spots (laid.Latch latch ∷ all) h = covers_within spots all (All-tail (LaidIs spots) (laid.Latch latch) all h)

outputs_within : (spots : ℕ) (all : List Laid) → All (LaidIs spots) all → All (λ n. n < spots) (map (λ (latch : NumberedLatch). latch.output) (latches_laid all))
outputs_within spots [] h = All-nil (λ n. n < spots)
outputs_within spots (laid.Cover cover model place ∷ all) h = outputs_within spots all (All-tail (LaidIs spots) (laid.Cover cover model place) all h)
outputs_within spots (laid.Latch latch ∷ all) h =
    All-cons (λ n. n < spots) latch.output (map (λ (one : NumberedLatch). one.output) (latches_laid all)) (All-head (LaidIs spots) (laid.Latch latch) all h).1
    (outputs_within spots all (All-tail (LaidIs spots) (laid.Latch latch) all h))

inputs_within : (spots : ℕ) (all : List Laid) → All (LaidIs spots) all → All (λ n. n < spots) (map (λ (latch : NumberedLatch). latch.input) (latches_laid all))
inputs_within spots [] h = All-nil (λ n. n < spots)
inputs_within spots (laid.Cover cover model place ∷ all) h = inputs_within spots all (All-tail (LaidIs spots) (laid.Cover cover model place) all h)
inputs_within spots (laid.Latch latch ∷ all) h =
    All-cons (λ n. n < spots) latch.input (map (λ (one : NumberedLatch). one.input) (latches_laid all)) (All-head (LaidIs spots) (laid.Latch latch) all h).0
    (inputs_within spots all (All-tail (LaidIs spots) (laid.Latch latch) all h))

uses_within : (spots : ℕ) (outputs : List SpotUse) → All (λ (one : SpotUse). one.spot < spots) outputs → All (λ n. n < spots) (map (λ (one : SpotUse). one.spot) outputs)
uses_within spots [] h = All-nil (λ n. n < spots)
uses_within spots (one ∷ outputs) h =
    All-cons (λ n. n < spots) one.spot (map (λ (other : SpotUse). other.spot) outputs) (All-head (λ (other : SpotUse). other.spot < spots) one outputs h)
    (uses_within spots outputs (All-tail (λ (other : SpotUse). other.spot < spots) one outputs h))

-- the name at a place
name_got : (words : List (List Word)) (spots : List Spot) (all : List Role) (n : ℕ) (name : WholeName) → slice_get (named_by words spots all) n ≡ Some name
    → (n < length spots) × (name.word ≡ name_at words spots n) × (name.role ≡ role_at all n)
name_got words [] [] n name e = cc
name_got words [] (role ∷ all) n name e = cc
name_got words (spot ∷ spots) [] n name e = cc
name_got words (spot ∷ spots) (role ∷ all) zero name e =
    let same = same_Some (record { word = word_of words spot; role = role }) name e in
    (omega arith, ap (λ (t : WholeName). t.word) (sym same), ap (λ (t : WholeName). t.role) (sym same))
name_got words (spot ∷ spots) (role ∷ all) (suc n) name e =
    let rest = name_got words spots all n name e in
    (omega (arith, rest.0), rest.1, rest.2)

each_role : (ins defined : List Word) (all : List WholeName) → ((n : ℕ) (name : WholeName) → slice_get all n ≡ Some name → IsRoleOfWord ins defined name.word name.role) → AreRolesBy ins defined all
each_role ins defined [] h = tt
each_role ins defined (name ∷ all) h = (h 0 name refl, each_role ins defined all (λ n other e. h (suc n) other e))

module _ (words : List (List Word)) (spots : List Spot) (all : List Role) (as_many : length all ≡ length spots) where
  got : (n : ℕ) → n < length spots → slice_get (words_in (named_by words spots all)) n ≡ Some (name_at words spots n)
  got n lt = word_named words spots all n (spot_at spots n) as_many (slice_get-get_or spots n no_spot lt)

  numbers : (ns : List ℕ) → All (λ n. n < length spots) ns → AreNumbers (words_in (named_by words spots all)) (map (name_at words spots) ns) ns
  numbers [] h = refl
  numbers (n ∷ ns) h =
      let here = got n (All-head (λ k. k < length spots) n ns h) in
      let rest = numbers ns (All-tail (λ k. k < length spots) n ns h) in
      λ j. here j ∷ rest j

  covers_by : (models : List Model) (covers : List WholeCover) → All (HasLine models) covers → All (IsWithin (length spots)) covers
      → AreCoversBy models (words_in (named_by words spots all)) (map (cover_named models words spots) covers) covers
  covers_by models [] lined within = tt
  covers_by models (one ∷ covers) lined within =
      let own = All-head (IsWithin (length spots)) one covers within in (
        record { line = All-head (HasLine models) one covers lined; ins = numbers one.cover.ins own.0; name = got one.cover.name own.1; rows = refl },
        covers_by models covers (All-tail (HasLine models) one covers lined) (All-tail (IsWithin (length spots)) one covers within),
      )

-- the names that covers define
names_defined : (models : List Model) (words : List (List Word)) (spots : List Spot) (covers : List WholeCover)
    → defined_in (map (cover_named models words spots) covers) ≡ map (name_at words spots) (map (λ (one : WholeCover). one.cover.name) covers)
names_defined models words spots [] = refl
names_defined models words spots (one ∷ covers) = ap (λ (t : List Word). name_at words spots one.cover.name ∷ t) (names_defined models words spots covers)

cover_names_within : (spots : ℕ) (covers : List WholeCover) → All (IsWithin spots) covers → All (λ n. n < spots) (map (λ (one : WholeCover). one.cover.name) covers)
cover_names_within spots [] h = All-nil (λ n. n < spots)
cover_names_within spots (one ∷ covers) h =
    All-cons (λ n. n < spots) one.cover.name (map (λ (other : WholeCover). other.cover.name) covers) (All-head (IsWithin spots) one covers h).1
    (cover_names_within spots covers (All-tail (IsWithin spots) one covers h))

-- what a spot is by number its name is by word
role_by : (models : List Model) (words : List (List Word)) (main : Model) (whole : Whole) (own : List ℕ) (outputs : List SpotUse) → IsNamed models words main whole own outputs
    → (inputs covers : List ℕ) → All (λ k. k < length whole.spots.items) inputs → All (λ k. k < length whole.spots.items) covers → (n : ℕ) (role : Role) → n < length whole.spots.items → IsRoleOf inputs covers n role
    → IsRoleOfWord (map (name_at words whole.spots.items) inputs) (map (name_at words whole.spots.items) covers) (name_at words whole.spots.items n) role
role_by models words main whole own outputs h inputs covers ins within n roles.Unknown lt none =
    let spots = whole.spots.items in
    let f = name_at words spots in
    ap (λ (t : List Word). is_among t (f n)) (sym (map-append f inputs covers))
    ∙ among_names words spots h.plain h.one_number h.laid_out.one_spot h.laid_out.named n (inputs ++ covers) lt (All-append (λ k. k < length spots) inputs covers ins within) ∙ none
role_by models words main whole own outputs h inputs covers ins within n (roles.Input i) lt is =
    let f = name_at words whole.spots.items in
    slice_get-map f inputs i ∙ ap (option_map f) is
role_by models words main whole own outputs h inputs covers ins within n (roles.Cover c) lt is =
    let f = name_at words whole.spots.items in
    slice_get-map f covers c ∙ ap (option_map f) is

-- each spot is that of a name
pub spots_are_names : (words : List (List Word)) (spots : List Spot) → ((i : ℕ) (one : Spot) → slice_get spots i ≡ Some one → (one.model < length words) × (one.name < length (words_at words one.model)))
    → All (IsSpotIn words) spots
spots_are_names words [] h = All-nil (IsSpotIn words)
spots_are_names words (spot ∷ spots) h =
    let own = h 0 spot refl in
    All-cons (IsSpotIn words) spot spots (record { model = own.0; name = own.1 }) (spots_are_names words spots (λ i one e. h (suc i) one e))

module _ (models : List Model) (words : List (List Word)) (main : Model) (whole : Whole) (own : List ℕ) (outputs : List SpotUse) (h : IsNamed models words main whole own outputs) where
  many : vec_len whole.spots ≡ length whole.spots.items
  many = (whole.spots.ok).0

  laid_within : All (LaidIs (length whole.spots.items)) whole.laid.items
  laid_within = subst (λ n. All (LaidIs n) whole.laid.items) many h.laid_out.within

  pub all_inputs_within : All (λ n. n < length whole.spots.items) (own ++ map (λ (latch : NumberedLatch). latch.output) (latches_laid whole.laid.items))
  all_inputs_within =
      let spots = length whole.spots.items in
      All-append (λ n. n < spots) own (map (λ (latch : NumberedLatch). latch.output) (latches_laid whole.laid.items)) (subst (λ m. All (λ n. n < m) own) many h.inputs_within)
      (outputs_within spots whole.laid.items laid_within)

  all_outputs_within : All (λ n. n < length whole.spots.items) (map (λ (one : SpotUse). one.spot) outputs ++ map (λ (latch : NumberedLatch). latch.input) (latches_laid whole.laid.items))
  all_outputs_within =
      let spots = length whole.spots.items in
      All-append (λ n. n < spots) (map (λ (one : SpotUse). one.spot) outputs) (map (λ (latch : NumberedLatch). latch.input) (latches_laid whole.laid.items))
      (uses_within spots outputs (subst (λ m. All (λ (one : SpotUse). one.spot < m) outputs) many h.outputs_within)) (inputs_within spots whole.laid.items laid_within)

  pub moved_within : (covers : List WholeCover) → IsPermutation (covers_laid whole.laid.items) covers → All (IsWithin (length whole.spots.items)) covers
  moved_within covers moved =
      let spots = length whole.spots.items in
      All-permutation (IsWithin spots) (covers_laid whole.laid.items) covers moved (covers_within spots whole.laid.items laid_within)

  pub draft_of_whole : (all : List Role) (covers : List WholeCover) (draft : WholeDraft) → length all ≡ length whole.spots.items → IsPermutation (covers_laid whole.laid.items) covers
      → IsNonDecreasingBy (λ (one : WholeCover). one.cover.line) covers
      → ((n : ℕ) → IsRoleOf (own ++ map (λ (latch : NumberedLatch). latch.output) (latches_laid whole.laid.items)) (map (λ (one : WholeCover). one.cover.name) covers) n (role_at all n))
      → draft.names ≡ named_by words whole.spots.items all → draft.inputs.items ≡ own ++ map (λ (latch : NumberedLatch). latch.output) (latches_laid whole.laid.items)
      → draft.outputs.items ≡ map (λ (one : SpotUse). one.spot) outputs ++ map (λ (latch : NumberedLatch). latch.input) (latches_laid whole.laid.items) → draft.covers.items ≡ covers
      → IsDraftOfWhole models words main whole draft
  draft_of_whole all covers draft as_many moved rising given names_are inputs_are outputs_are covers_are =
      let spots = whole.spots.items in
      let f = name_at words spots in
      let named = named_by words spots all in
      let ins = own ++ map (λ (latch : NumberedLatch). latch.output) (latches_laid whole.laid.items) in
      let outs = map (λ (one : SpotUse). one.spot) outputs ++ map (λ (latch : NumberedLatch). latch.input) (latches_laid whole.laid.items) in
      let within = moved_within covers moved in
      let circuit = circuit_named models words spots own outputs covers (latches_laid whole.laid.items) in
      let lined = All-permutation (HasLine models) (covers_laid whole.laid.items) covers moved (all_lined models words spots whole.laid.items h.lined) in
      let defined = map (λ (one : WholeCover). one.cover.name) covers in
      let by_word : AreRolesBy (map f ins) (map f defined) named =
      each_role (map f ins) (map f defined) named
      (λ n name e.
      let at = name_got words spots all n name e in
      subst (λ (word : Word). IsRoleOfWord (map f ins) (map f defined) word name.role) (sym at.1)
      (subst (λ (role : Role). IsRoleOfWord (map f ins) (map f defined) (f n) role) (sym at.2)
      (role_by models words main whole own outputs h ins defined all_inputs_within (cover_names_within (length spots) covers within) n (role_at all n) at.0 (given n)))) in
      record {
        circuit = circuit;
        draft_of = record {
          inputs = (λ j. map (slice_get (words_in (names_are j))) (inputs_are j)) ∙ numbers words spots all as_many ins all_inputs_within;
          outputs = (λ j. map (slice_get (words_in (names_are j))) (outputs_are j)) ∙ numbers words spots all as_many outs all_outputs_within;
          covers = subst (λ (t : List WholeName). AreCoversBy models (words_in t) circuit.covers draft.covers.items) (sym names_are)
              (subst (λ (t : List WholeCover). AreCoversBy models (words_in named) circuit.covers t) (sym covers_are) (covers_by words spots all as_many models covers lined within));
          roles = subst (λ (t : List WholeName). AreRolesBy circuit.inputs (defined_in circuit.covers) t) (sym names_are)
              (subst (λ (t : List Word). AreRolesBy (map f ins) t named) (sym (names_defined models words spots covers)) by_word);
        };
        by_line = circuits_are_named models words main whole own outputs covers h moved rising;
      }
