-- Models part by part: what is kept of several drafts.
use Rattle.std.specs.Prelude.{◌≡◌, ℕ, List, [], ◌∷◌, length, map}
use Rattle.blif_formals.specs.declared.clashes.Definition.{Definition}
use Rattle.blif_drafts.specs.declared.drafts.Draft.{Draft}
use Rattle.blif_formals.specs.declared.interface.Interface.{Interface}
use Rattle.blif_drafts.specs.declared.parts.Parts.{Parts}
use Rattle.blif_drafts.specs.Drafts.{HasPorts}
use Rattle.blif_formals.specs.Joining.{IsInterface}

-- the names that definitions define
abbrev pub names_by : List Definition → List ℕ
names_by ones = map (λ one. one.name) ones

-- The interface is that of a draft.
pub record IsInterfaceBy (draft : Draft) (interface : Interface) : Type 0 where
  pub inputs : interface.inputs ≡ names_by draft.inputs
  pub outputs : interface.outputs ≡ draft.outputs
  pub many : length interface.ports.items ≡ length draft.names
  pub is : IsInterface interface

abbrev pub AreInterfacesBy : List Draft → List Interface → Type 0
AreInterfacesBy [] [] = Unit {0}
AreInterfacesBy (draft ∷ drafts) (interface ∷ interfaces) = IsInterfaceBy draft interface × AreInterfacesBy drafts interfaces
AreInterfacesBy _ _ = ⊥

-- a draft's inputs, each once, and its outputs are names of it
abbrev pub IsPorted : Draft → Type 0
IsPorted draft = HasPorts (length draft.names) (names_by draft.inputs) draft.outputs

-- The parts are those of drafts.
pub record ArePartsOf (drafts : List Draft) (parts : Parts) : Type 0 where
  pub headings : parts.headings.items ≡ map (λ draft. draft.heading) drafts
  pub names : parts.names.items ≡ map (λ draft. draft.names) drafts
  pub interfaces : AreInterfacesBy drafts parts.interfaces.items
  pub inputs : parts.inputs.items ≡ map (λ draft. draft.inputs) drafts
  pub added : parts.added.items ≡ map (λ draft. draft.added) drafts
  pub items : parts.items.items ≡ map (λ draft. draft.items) drafts
  pub calls : parts.calls.items ≡ map (λ draft. draft.calls) drafts
  pub joined : parts.joined.items ≡ map (λ draft. draft.joined) drafts
