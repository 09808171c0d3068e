-- The first line of an instance that joins the formal names of its model wrongly, in the models that a main one reaches.
use Rattle.std.specs.Prelude.{◌≡◌, ℕ, ◌<◌, Bool, true, false, List, [], ◌∷◌, Option, Some, None, All, drop, length, map, slice_get, if◌then◌else◌}
use Rattle.std.specs.Borrow.{Bor}
use Rattle.job_words.specs.Text.{Word}
use Rattle.blif_models.specs.Agreement.{AreApart}
use Rattle.blif_models.specs.Graphs.{AreReached}
use Rattle.blif_models.specs.ModelFaults.{formal_lines, instances_in, least}
use Rattle.blif_models.specs.Models.{Instance, Model}
use Rattle.blif_models.specs.Numberings.{words_at}
use Rattle.blif_formals.specs.declared.calls.Call.{Call}
use Rattle.blif_formals.specs.declared.formals.Callees.{Callees}
use Rattle.blif_formals.specs.declared.interface.Interface.{Interface}
use Rattle.blif_formals.specs.declared.titles.Heading.{Heading}
use Rattle.blif_formals.specs.Calls.{AreNamed, held_by, model_by}
use Rattle.blif_formals.specs.Definitions.{AreInterfacesOf, ports_at}
use Rattle.blif_formals.specs.Joining.{IsInterface}
use Rattle.blif_formals.specs.Parting.{IsMisjoined}

-- A name's model is one of those that have names and interfaces, and each interface tells the port of each name.
pub record AreCallees (callees : Callees) : Type 0 where
  pub models : (n m : ℕ) → model_by callees.titles.now (Some n) ≡ Some m → m < length callees.names.now
  pub as_many : length callees.interfaces.now ≡ length callees.names.now
  pub interfaces : All IsInterface callees.interfaces.now
  pub ports : (m : ℕ) → m < length callees.names.now → length (ports_at callees.interfaces.now m) ≡ length (words_at callees.names.now m)

-- the words of an instance behind the name of its model
abbrev pub words_in : List (Bor (List ℕ)) → List Word
words_in words = map (λ word. word.now) words

-- these are told of instances of a model with these words
abbrev pub IsToldBy : Callees → Option ℕ → List Word → Bool → Type 0
IsToldBy callees None words told = told ≡ false
IsToldBy callees (Some m) words told = (interface : Interface) × (slice_get callees.interfaces.now m ≡ Some interface) × IsMisjoined (words_at callees.names.now m) interface words told

abbrev pub IsToldOf : Callees → Option ℕ → List (Bor (List ℕ)) → Bool → Type 0
IsToldOf callees title words told = IsToldBy callees (model_by callees.titles.now title) (words_in words) told

-- these are the lines of the instances that join wrongly
abbrev pub AreMisjoined : Callees → List Call → List (List (Bor (List ℕ))) → List ℕ → Type 0
AreMisjoined callees [] [] lines = lines ≡ []
AreMisjoined callees (call ∷ calls) (words ∷ joined) lines =
    (told : Bool) × (others : List ℕ) × IsToldOf callees call.title words told × (lines ≡ (if told then call.line ∷ others else others)) × AreMisjoined callees calls joined others
AreMisjoined callees _ _ lines = ⊥

-- this is the first of them
abbrev pub IsLineOf : Callees → List Call → List (List (Bor (List ℕ))) → Option ℕ → Type 0
IsLineOf callees calls joined line = (lines : List ℕ) × AreMisjoined callees calls joined lines × (line ≡ least lines)

-- and these are those of several models
abbrev pub AreLinesOf : Callees → List (List Call) → List (List (List (Bor (List ℕ)))) → List (Option ℕ) → Type 0
AreLinesOf callees [] [] [] = Unit {0}
AreLinesOf callees (ones ∷ calls) (words ∷ joined) (line ∷ lines) = IsLineOf callees ones words line × AreLinesOf callees calls joined lines
AreLinesOf callees _ _ _ = ⊥

-- these words stand behind the names of the models of instances
abbrev pub AreWordsOf : List Instance → List (List (Bor (List ℕ))) → Type 0
AreWordsOf [] [] = Unit {0}
AreWordsOf (instance ∷ instances) (words ∷ joined) = (drop 1 instance.words ≡ words_in words) × AreWordsOf instances joined
AreWordsOf _ _ = ⊥

-- and those of models
abbrev pub AreAllWordsOf : List Model → List (List (List (Bor (List ℕ)))) → Type 0
AreAllWordsOf [] [] = Unit {0}
AreAllWordsOf (model ∷ models) (words ∷ joined) = AreWordsOf (instances_in model.items) words × AreAllWordsOf models joined
AreAllWordsOf _ _ = ⊥

-- what is told is told of each models that have these names, calls, words and interfaces: the first line of a wrong join, by name, in
-- what the first model reaches
abbrev pub IsFormalLine : Callees → List (List Call) → List (List (List (Bor (List ℕ)))) → List Bool → Option ℕ → Type 0
IsFormalLine callees calls joined met line =
    (words : List Word) (models : List Model) (headings : List Heading) (main : Model) → AreNamed words models headings callees.titles.now calls → AreAllWordsOf models joined
    → AreInterfacesOf models (λ m. true) callees.names.now callees.interfaces.now → AreApart models (λ m. true) → slice_get models 0 ≡ Some main → AreReached (map (held_by callees.titles.now) calls) 0 met
    → least (formal_lines models main) ≡ line
