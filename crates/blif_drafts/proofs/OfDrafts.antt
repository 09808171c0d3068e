-- What drafts say of models, their parts say.
use Rattle.std.proofs.Common.{◌≡◌, ℕ, zero, suc, ◌<◌, true, not, Bor, List, [], ◌∷◌, ◌++◌, Some, flat_map, get_or, length, map, refl, ap, sym, ◌∙◌, subst, arith}
use Rattle.std.specs.Prelude.{All, slice_get}
use Rattle.std.proofs.lemmas.List.{length-map, map-append}
use Rattle.std.proofs.lemmas.List.Elements.{All-cons, All-nil}
use Rattle.std.proofs.lemmas.Option.{slice_get-get_or}
use Rattle.job_words.specs.Text.{Word}
use Rattle.blif_models.specs.declared.limits.Adding.{Adding}
use Rattle.blif_models.specs.ModelFaults.{adding_inputs, formal_inputs, instances_in}
use Rattle.blif_models.specs.Models.{Instance, Model, Named, Use, names_of, uses_on}
use Rattle.blif_models.specs.Numberings.{AreNumbersOf, IsNumberOf, words_at}
use Rattle.blif_formals.specs.declared.calls.Call.{Call}
use Rattle.blif_formals.specs.declared.clashes.Definition.{Definition}
use Rattle.blif_drafts.specs.declared.drafts.Draft.{Draft}
use Rattle.blif_drafts.specs.declared.drafts.DraftItem.{DraftItem}
use Rattle.blif_formals.specs.declared.interface.Interface.{Interface}
use Rattle.blif_drafts.specs.declared.parts.Parts.{Parts}
use Rattle.blif_formals.specs.ByNames.{AreApart, AreDefinitionsOf}
use Rattle.blif_formals.specs.Calls.{AreAllCallsOf, AreCallsOf}
use Rattle.blif_formals.specs.Definitions.{AreInterfacesOf, ports_at}
use Rattle.blif_drafts.specs.Drafts.{AreDrafts, AreItemsOf, IsDraftOf}
use Rattle.blif_formals.specs.Formals.{AreAllWordsOf, AreWordsOf}
use Rattle.blif_formals.specs.Joining.{IsInterface}
use Rattle.blif_drafts.specs.Parts.{AreInterfacesBy, ArePartsOf, IsInterfaceBy, IsPorted, names_by}
use Rattle.blif_formals.specs.Titles.{AreHeadingsOf}
use Rattle.blif_formals.specs.Twice.{input_definitions}
use Rattle.blif_formals.specs.Words.{HaveOneNumber}
use Rattle.blif_formals.proofs.ByNames.{once_again}

-- numbers of one draft's names are those of its model's among all

pub numbers_to : (all : List (List Word)) (m : ℕ) (names : List Word) → words_at all m ≡ names → (ns : List ℕ) (ws : List Word) → AreNumbersOf (names ∷ []) 0 ns ws → AreNumbersOf all m ns ws
numbers_to all m names e [] [] a = tt
numbers_to all m names e [] (w ∷ ws) a = absurd a
numbers_to all m names e (n ∷ ns) [] a = absurd a
numbers_to all m names e (n ∷ ns) (w ∷ ws) a = (subst (λ (own : List Word). (n < length own) × (get_or own n [] ≡ w)) (sym e) a.0, numbers_to all m names e ns ws a.1)

pub number_to : (all : List (List Word)) (m : ℕ) (names : List Word) → words_at all m ≡ names → (n : ℕ) (w : Word) → IsNumberOf (names ∷ []) 0 n w → IsNumberOf all m n w
number_to all m names e n w a = subst (λ (own : List Word). (n < length own) × (get_or own n [] ≡ w)) (sym e) a

pub definitions_to : (all : List (List Word)) (m : ℕ) (names : List Word) → words_at all m ≡ names → (ones : List Definition) (uses : List Use) → AreDefinitionsOf (names ∷ []) 0 ones uses → AreDefinitionsOf all m ones uses
definitions_to all m names e [] [] a = tt
definitions_to all m names e [] (one_use ∷ uses) a = absurd a
definitions_to all m names e (one ∷ ones) [] a = absurd a
definitions_to all m names e (one ∷ ones) (one_use ∷ uses) a = (number_to all m names e one.name one_use.word a.0, a.1, definitions_to all m names e ones uses a.2)

-- the names of definitions

defined_numbers : (all : List (List Word)) (m : ℕ) (ones : List Definition) (uses : List Use) → AreDefinitionsOf all m ones uses → AreNumbersOf all m (names_by ones) (map (λ (u : Use). u.word) uses)
defined_numbers all m [] [] a = tt
defined_numbers all m [] (one_use ∷ uses) a = absurd a
defined_numbers all m (one ∷ ones) [] a = absurd a
defined_numbers all m (one ∷ ones) (one_use ∷ uses) a = (a.0, defined_numbers all m ones uses a.2)

words_on : (line : ℕ) (words : List Word) → map (λ (u : Use). u.word) (uses_on line words) ≡ words
words_on line [] = refl
words_on line (w ∷ words) = ap (λ (ws : List Word). w ∷ ws) (words_on line words)

input_words : (lines : List Named) → map (λ (u : Use). u.word) (flat_map (λ (one : Named). uses_on one.line one.words) lines) ≡ names_of lines
input_words [] = refl
input_words (one ∷ lines) =
    map-append (λ (u : Use). u.word) (uses_on one.line one.words) (flat_map (λ (k : Named). uses_on k.line k.words) lines) ∙ (λ j. words_on one.line one.words j ++ input_words lines j)

pub input_numbers : (all : List (List Word)) (m : ℕ) (ones : List Definition) (model : Model) → AreDefinitionsOf all m ones (input_definitions model) → AreNumbersOf all m (names_by ones) (formal_inputs model)
input_numbers all m ones model a = subst (AreNumbersOf all m (names_by ones)) (input_words model.inputs) (defined_numbers all m ones (input_definitions model) a)

pub numbers_within : (all : List (List Word)) (m : ℕ) (ns : List ℕ) (ws : List Word) → AreNumbersOf all m ns ws → All (λ n. n < length (words_at all m)) ns
numbers_within all m [] [] a = All-nil (λ n. n < length (words_at all m))
numbers_within all m [] (w ∷ ws) a = absurd a
numbers_within all m (n ∷ ns) [] a = absurd a
numbers_within all m (n ∷ ns) (w ∷ ws) a = All-cons (λ n. n < length (words_at all m)) n ns (a.0).0 (numbers_within all m ns ws a.1)

pub apart_in : (all : List (List Word)) (m : ℕ) → HaveOneNumber (words_at all m) → AreApart all m
apart_in all m h i j lt below e = h i j (get_or (words_at all m) j []) (slice_get-get_or (words_at all m) i [] lt ∙ ap Some e) (slice_get-get_or (words_at all m) j [] below)

-- drafts one by one

module _ (titles : List Word) where
  pub heads : (models : List Model) (drafts : List Draft) → AreDrafts titles models drafts → AreHeadingsOf titles models (map (λ (d : Draft). d.heading) drafts)
  heads [] [] a = tt
  heads [] (d ∷ drafts) a = absurd a
  heads (x ∷ models) [] a = absurd a
  heads (x ∷ models) (d ∷ drafts) a = ((a.0).line, (a.0).title, heads models drafts a.1)

  pub all_calls : (models : List Model) (drafts : List Draft) → AreDrafts titles models drafts → AreAllCallsOf titles models (map (λ (d : Draft). d.calls) drafts)
  all_calls [] [] a = tt
  all_calls [] (d ∷ drafts) a = absurd a
  all_calls (x ∷ models) [] a = absurd a
  all_calls (x ∷ models) (d ∷ drafts) a = ((a.0).calls, all_calls models drafts a.1)

  pub all_words : (models : List Model) (drafts : List Draft) → AreDrafts titles models drafts → AreAllWordsOf models (map (λ (d : Draft). d.joined) drafts)
  all_words [] [] a = tt
  all_words [] (d ∷ drafts) a = absurd a
  all_words (x ∷ models) [] a = absurd a
  all_words (x ∷ models) (d ∷ drafts) a = ((a.0).joined, all_words models drafts a.1)

  pub many_drafts : (models : List Model) (drafts : List Draft) → AreDrafts titles models drafts → length drafts ≡ length models
  many_drafts [] [] a = refl
  many_drafts [] (d ∷ drafts) a = absurd a
  many_drafts (x ∷ models) [] a = absurd a
  many_drafts (x ∷ models) (d ∷ drafts) a = ap suc (many_drafts models drafts a.1)

  pub draft_at : (models : List Model) (drafts : List Draft) → AreDrafts titles models drafts → (m : ℕ) (model : Model) → slice_get models m ≡ Some model → (d : Draft) × (slice_get drafts m ≡ Some d) × IsDraftOf titles model d
  draft_at [] drafts a m model at = cc
  draft_at (x ∷ models) [] a m model at = absurd a
  draft_at (x ∷ models) (d ∷ drafts) a zero model at =
      let same : x ≡ model = cc in
      (d, refl, subst (λ (y : Model). IsDraftOf titles y d) same a.0)
  draft_at (x ∷ models) (d ∷ drafts) a (suc m) model at = draft_at models drafts a.1 m model at

  as_many_words : (instances : List Instance) (calls : List Call) (joined : List (List (Bor (List ℕ)))) → AreCallsOf titles instances calls → AreWordsOf instances joined → length joined ≡ length calls
  as_many_words [] [] [] a b = refl
  as_many_words [] [] (ws ∷ joined) a b = absurd b
  as_many_words [] (call ∷ calls) joined a b = absurd a
  as_many_words (one ∷ instances) [] joined a b = absurd a
  as_many_words (one ∷ instances) (call ∷ calls) [] a b = absurd b
  as_many_words (one ∷ instances) (call ∷ calls) (ws ∷ joined) a b = ap suc (as_many_words instances calls joined a.2 b.1)

  pub many_words : (models : List Model) (drafts : List Draft) → AreDrafts titles models drafts → map (λ (d : Draft). length d.joined) drafts ≡ map (λ (d : Draft). length d.calls) drafts
  many_words [] [] a = refl
  many_words [] (d ∷ drafts) a = absurd a
  many_words (x ∷ models) [] a = absurd a
  many_words (x ∷ models) (d ∷ drafts) a = λ j. as_many_words (instances_in x.items) d.calls d.joined (a.0).calls (a.0).joined j ∷ many_words models drafts a.1 j

  has_ports : (model : Model) (d : Draft) → IsDraftOf titles model d → IsPorted d
  has_ports model d is =
      let inputs = input_numbers (d.names ∷ []) 0 d.inputs model is.inputs in
      record {
        inputs_within = numbers_within (d.names ∷ []) 0 (names_by d.inputs) (formal_inputs model) inputs;
        once = sym (once_again (d.names ∷ []) 0 (apart_in (d.names ∷ []) 0 is.one_number) (names_by d.inputs) (formal_inputs model) inputs) ∙ ap not is.once;
        outputs_within = numbers_within (d.names ∷ []) 0 d.outputs (names_of model.outputs) is.outputs;
      }

  pub all_ported : (models : List Model) (drafts : List Draft) → AreDrafts titles models drafts → All IsPorted drafts
  all_ported [] [] a = All-nil IsPorted
  all_ported [] (d ∷ drafts) a = absurd a
  all_ported (x ∷ models) [] a = absurd a
  all_ported (x ∷ models) (d ∷ drafts) a = All-cons IsPorted d drafts (has_ports x d a.0) (all_ported models drafts a.1)

face_at : (drafts : List Draft) (interfaces : List Interface) → AreInterfacesBy drafts interfaces → (m : ℕ) (d : Draft) → slice_get drafts m ≡ Some d → (i : Interface) × (slice_get interfaces m ≡ Some i) × IsInterfaceBy d i
face_at [] interfaces a m d at = cc
face_at (x ∷ drafts) [] a m d at = absurd a
face_at (x ∷ drafts) (i ∷ interfaces) a zero d at =
    let same : x ≡ d = cc in
    (i, refl, subst (λ (y : Draft). IsInterfaceBy y i) same a.0)
face_at (x ∷ drafts) (i ∷ interfaces) a (suc m) d at = face_at drafts interfaces a.1 m d at

many_faces : (drafts : List Draft) (interfaces : List Interface) → AreInterfacesBy drafts interfaces → length interfaces ≡ length drafts
many_faces [] [] a = refl
many_faces [] (i ∷ interfaces) a = absurd a
many_faces (d ∷ drafts) [] a = absurd a
many_faces (d ∷ drafts) (i ∷ interfaces) a = ap suc (many_faces drafts interfaces a.1)

all_faces : (drafts : List Draft) (interfaces : List Interface) → AreInterfacesBy drafts interfaces → All IsInterface interfaces
all_faces [] [] a = All-nil IsInterface
all_faces [] (i ∷ interfaces) a = absurd a
all_faces (d ∷ drafts) [] a = absurd a
all_faces (d ∷ drafts) (i ∷ interfaces) a = All-cons IsInterface i interfaces (a.0).is (all_faces drafts interfaces a.1)

-- the ports of each name are told
face_ports : (drafts : List Draft) (interfaces : List Interface) → AreInterfacesBy drafts interfaces → (m : ℕ) → m < length drafts → length (ports_at interfaces m) ≡ length (words_at (map (λ (d : Draft). d.names) drafts) m)
face_ports [] [] a m lt = refl
face_ports [] (i ∷ interfaces) a m lt = absurd a
face_ports (d ∷ drafts) [] a m lt = absurd a
face_ports (d ∷ drafts) (i ∷ interfaces) a zero lt = (a.0).many
face_ports (d ∷ drafts) (i ∷ interfaces) a (suc m) lt = face_ports drafts interfaces a.1 m (omega (arith, lt))

at_part : {Y : Type 0} (f : Draft → Y) (drafts : List Draft) (m : ℕ) (d : Draft) (e : Y) → slice_get drafts m ≡ Some d → get_or (map f drafts) m e ≡ f d
at_part f [] m d e at = cc
at_part f (x ∷ drafts) zero d e at =
    let same : x ≡ d = cc in
    ap f same
at_part f (x ∷ drafts) (suc m) d e at = at_part f drafts m d e at

-- parts of drafts of models

module _ (titles : List Word) (models : List Model) (drafts : List Draft) (are : AreDrafts titles models drafts) (parts : Parts) (of : ArePartsOf drafts parts) where
  abbrev words : List (List Word)
  words = parts.names.items

  words_here : (m : ℕ) (d : Draft) → slice_get drafts m ≡ Some d → words_at words m ≡ d.names
  words_here m d at = ap (λ (ws : List (List Word)). get_or ws m []) of.names ∙ at_part (λ (d : Draft). d.names) drafts m d [] at

  pub headings_are : AreHeadingsOf titles models parts.headings.items
  headings_are = subst (AreHeadingsOf titles models) (sym of.headings) (heads titles models drafts are)

  pub calls_are : AreAllCallsOf titles models parts.calls.items
  calls_are = subst (AreAllCallsOf titles models) (sym of.calls) (all_calls titles models drafts are)

  pub joined_are : AreAllWordsOf models parts.joined.items
  joined_are = subst (AreAllWordsOf models) (sym of.joined) (all_words titles models drafts are)

  pub as_many_joined : map (λ ones. length ones) parts.joined.items ≡ map (λ ones. length ones) parts.calls.items
  as_many_joined =
      ap (map (λ ones. length ones)) of.joined ∙ map_map (λ (d : Draft). d.joined) drafts ∙ many_words titles models drafts are ∙ sym (ap (map (λ ones. length ones)) of.calls ∙ map_map (λ (d : Draft). d.calls) drafts)
    where
      map_map : {X : Type 0} (f : Draft → List X) (ds : List Draft) → map (λ ones. length ones) (map f ds) ≡ map (λ (d : Draft). length (f d)) ds
      map_map f [] = refl
      map_map f (d ∷ ds) = ap (λ (ns : List ℕ). length (f d) ∷ ns) (map_map f ds)

  pub many : length drafts ≡ length models
  many = many_drafts titles models drafts are

  pub many_names : length parts.names.items ≡ length models
  many_names = ap length of.names ∙ length-map drafts (λ (d : Draft). d.names) ∙ many

  pub many_headings : length parts.headings.items ≡ length models
  many_headings = ap length of.headings ∙ length-map drafts (λ (d : Draft). d.heading) ∙ many

  pub many_calls : length parts.calls.items ≡ length models
  many_calls = ap length of.calls ∙ length-map drafts (λ (d : Draft). d.calls) ∙ many

  pub many_joined : length parts.joined.items ≡ length models
  many_joined = ap length of.joined ∙ length-map drafts (λ (d : Draft). d.joined) ∙ many

  pub many_items : length parts.items.items ≡ length models
  many_items = ap length of.items ∙ length-map drafts (λ (d : Draft). d.items) ∙ many

  pub many_inputs : length parts.inputs.items ≡ length models
  many_inputs = ap length of.inputs ∙ length-map drafts (λ (d : Draft). d.inputs) ∙ many

  pub many_added : length parts.added.items ≡ length models
  many_added = ap length of.added ∙ length-map drafts (λ (d : Draft). d.added) ∙ many

  pub many_interfaces : length parts.interfaces.items ≡ length models
  many_interfaces = many_faces drafts parts.interfaces.items of.interfaces ∙ many

  pub faces_are : All IsInterface parts.interfaces.items
  faces_are = all_faces drafts parts.interfaces.items of.interfaces

  pub ports_are : (m : ℕ) → m < length models → length (ports_at parts.interfaces.items m) ≡ length (words_at words m)
  ports_are m lt = face_ports drafts parts.interfaces.items of.interfaces m (subst (λ n. m < n) (sym many) lt) ∙ ap (λ (ws : List (List Word)). length (words_at ws m)) (sym of.names)

  pub one_number : (m : ℕ) (model : Model) → slice_get models m ≡ Some model → HaveOneNumber (words_at words m)
  one_number m model at =
      let x = draft_at titles models drafts are m model at in
      subst HaveOneNumber (sym (words_here m x.0 x.1)) x.2.one_number

  pub inputs_are : (m : ℕ) (model : Model) → slice_get models m ≡ Some model → AreDefinitionsOf words m (get_or parts.inputs.items m []) (input_definitions model)
  inputs_are m model at =
      let x = draft_at titles models drafts are m model at in
      let here : get_or parts.inputs.items m [] ≡ x.0.inputs = ap (λ (ones : List (List Definition)). get_or ones m []) of.inputs ∙ at_part (λ (d : Draft). d.inputs) drafts m x.0 [] x.1 in
      subst (λ ones. AreDefinitionsOf words m ones (input_definitions model)) (sym here) (definitions_to words m x.0.names (words_here m x.0 x.1) x.0.inputs (input_definitions model) x.2.inputs)

  pub items_are : (m : ℕ) (model : Model) → slice_get models m ≡ Some model → AreItemsOf (words_at words m) model.items (get_or parts.items.items m [])
  items_are m model at =
      let x = draft_at titles models drafts are m model at in
      let here : get_or parts.items.items m [] ≡ x.0.items = ap (λ (ones : List (List DraftItem)). get_or ones m []) of.items ∙ at_part (λ (d : Draft). d.items) drafts m x.0 [] x.1 in
      subst (AreItemsOf (words_at words m) model.items) (sym here) (subst (λ names. AreItemsOf names model.items x.0.items) (sym (words_here m x.0 x.1)) x.2.items)

  pub calls_in : (m : ℕ) (model : Model) → slice_get models m ≡ Some model → AreCallsOf titles (instances_in model.items) (get_or parts.calls.items m [])
  calls_in m model at =
      let x = draft_at titles models drafts are m model at in
      subst (AreCallsOf titles (instances_in model.items)) (sym (ap (λ (ones : List (List Call)). get_or ones m []) of.calls ∙ at_part (λ (d : Draft). d.calls) drafts m x.0 [] x.1)) x.2.calls

  pub joined_in : (m : ℕ) (model : Model) → slice_get models m ≡ Some model → AreWordsOf (instances_in model.items) (get_or parts.joined.items m [])
  joined_in m model at =
      let x = draft_at titles models drafts are m model at in
      subst (AreWordsOf (instances_in model.items)) (sym (ap (λ (ones : List (List (List (Bor (List ℕ))))). get_or ones m []) of.joined ∙ at_part (λ (d : Draft). d.joined) drafts m x.0 [] x.1)) x.2.joined

  pub added_are : (m : ℕ) (model : Model) → slice_get models m ≡ Some model → get_or parts.added.items m [] ≡ map adding_inputs model.inputs
  added_are m model at =
      let x = draft_at titles models drafts are m model at in
      ap (λ (ones : List (List Adding)). get_or ones m []) of.added ∙ at_part (λ (d : Draft). d.added) drafts m x.0 [] x.1 ∙ x.2.added

  pub have_interfaces : AreInterfacesOf models (λ m. true) words parts.interfaces.items
  have_interfaces m model i at =
      let x = draft_at titles models drafts are m model at in
      let face = face_at drafts parts.interfaces.items of.interfaces m x.0 x.1 in
      let here = words_here m x.0 x.1 in (
        face.0,
        face.1,
        face.2.is,
        record {
          apart = apart_in words m (one_number m model at);
          inputs = subst (λ ns. AreNumbersOf words m ns (formal_inputs model)) (sym face.2.inputs)
              (input_numbers words m x.0.inputs model (definitions_to words m x.0.names here x.0.inputs (input_definitions model) x.2.inputs));
          outputs = subst (λ ns. AreNumbersOf words m ns (names_of model.outputs)) (sym face.2.outputs) (numbers_to words m x.0.names here x.0.outputs (names_of model.outputs) x.2.outputs);
        },
      )
