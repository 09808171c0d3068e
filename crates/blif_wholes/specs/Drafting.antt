-- A whole as the draft of a circuit: names by number, and what each is.
use Rattle.std.specs.Prelude.{◌≡◌, false, List, [], ◌∷◌, ◌++◌, Some, slice_get}
use Rattle.job_words.specs.Text.{Word, is_among}
use Rattle.blif_models.specs.declared.layout.Whole.{Whole}
use Rattle.blif_models.specs.Circuits.{Circuit, Cover, defined_in}
use Rattle.blif_models.specs.Models.{Model, circuit_from}
use Rattle.blif_models.specs.Numberings.{cover_at}
use Rattle.blif_wholes.specs.declared.drafting.WholeDraft.{WholeDraft}
use Rattle.blif_wholes.specs.declared.parting.WholeCover.{WholeCover}
use Rattle.blif_wholes.specs.declared.roles.Role.{Role}
use Rattle.blif_wholes.specs.declared.roles.Role.TheVariants as roles
use Rattle.blif_wholes.specs.NamedCircuits.{IsByLine}
use Rattle.blif_wholes.specs.Names.{WholeName, words_in}
use Rattle.blif_wholes.specs.Networks.{AreNumbers}
use Rattle.blif_wholes.specs.Uses.{items_laid}

-- The cover of a whole is this one by number; its rows are those of the model's cover.
pub record IsCoverBy (models : List Model) (names : List Word) (cover : Cover) (one : WholeCover) : Type 0 where
  pub line : one.cover.line ≡ cover.line
  pub ins : AreNumbers names cover.ins one.cover.ins
  pub name : slice_get names one.cover.name ≡ Some cover.name
  pub rows : cover.rows ≡ (cover_at models one.model one.place).rows

abbrev pub AreCoversBy : List Model → List Word → List Cover → List WholeCover → Type 0
AreCoversBy models names [] [] = Unit {0}
AreCoversBy models names (cover ∷ covers) (one ∷ others) = IsCoverBy models names cover one × AreCoversBy models names covers others
AreCoversBy models names _ _ = ⊥

-- the role is that of the word among these inputs and these names of covers
abbrev pub IsRoleOfWord : List Word → List Word → Word → Role → Type 0
IsRoleOfWord ins defined word roles.Unknown = is_among (ins ++ defined) word ≡ false
IsRoleOfWord ins defined word (roles.Input i) = slice_get ins i ≡ Some word
IsRoleOfWord ins defined word (roles.Cover c) = slice_get defined c ≡ Some word

abbrev pub AreRolesBy : List Word → List Word → List WholeName → Type 0
AreRolesBy ins defined [] = Unit {0}
AreRolesBy ins defined (name ∷ others) = IsRoleOfWord ins defined name.word name.role × AreRolesBy ins defined others

-- The draft is of the circuit.
pub record IsWholeDraft (models : List Model) (circuit : Circuit) (draft : WholeDraft) : Type 0 where
  pub inputs : AreNumbers (words_in draft.names) circuit.inputs draft.inputs.items
  pub outputs : AreNumbers (words_in draft.names) circuit.outputs draft.outputs.items
  pub covers : AreCoversBy models (words_in draft.names) circuit.covers draft.covers.items
  pub roles : AreRolesBy circuit.inputs (defined_in circuit.covers) draft.names

-- It is of the circuit into which the main model is expanded, whose covers it has in the order of lines.
pub record IsDraftOfWhole (models : List Model) (words : List (List Word)) (main : Model) (whole : Whole) (draft : WholeDraft) : Type 0 where
  pub circuit : Circuit
  pub draft_of : IsWholeDraft models circuit draft
  pub by_line : IsByLine circuit (circuit_from main (items_laid models words whole))
