-- The parts of a network as they are built of a whole.
use Rattle.std.specs.Prelude.{◌≡◌, ℕ, ◌+◌, List, [], Option, Some, get_or, length, map, slice_get, slice_index}
use Rattle.std.specs.Global.{Vec}
use Rattle.cover_nets.specs.declared.net.Cover.{Cover as Gate}
use Rattle.cover_nets.specs.declared.net.Net.{Net}
use Rattle.blif_wholes.specs.declared.bodies.CoverRows.{CoverRows}
use Rattle.blif_wholes.specs.declared.drafting.WholeDraft.{WholeDraft}
use Rattle.blif_wholes.specs.declared.parting.WholeCover.{WholeCover}
use Rattle.blif_wholes.specs.declared.roles.Role.{Role}
use Rattle.blif_wholes.specs.declared.roles.Role.TheVariants.{Unknown, Input, Cover}
use Rattle.blif_wholes.specs.Bodies.{rows_at}
use Rattle.blif_wholes.specs.Names.{words_in}

-- the signal of a name of this role, where covers have these signals
abbrev pub signal_in : List ℕ → Role → ℕ
signal_in covers Unknown = 0
signal_in covers (Input i) = i
signal_in covers (Cover c) = slice_index covers c

-- the gate of a cover, where names have these signals, and rows are kept so
abbrev pub gate_of : List (Vec (Option CoverRows)) → List ℕ → WholeCover → Gate
gate_of kept signals one =
    let body = rows_at kept one.model one.place in
    record { ins = map (slice_index signals) one.cover.ins; rows = body.rows; on = body.on }

-- a cover for a number that is none's
abbrev pub no_cover : WholeCover
no_cover = record { cover = record { line = 0; name = 0; ins = [] }; model = 0; place = 0 }

-- the signals of the names of a draft whose covers were put in this order
abbrev pub AreSignals : WholeDraft → List ℕ → List ℕ → Type 0
AreSignals draft order signals =
    (covers : List ℕ) × ((p c : ℕ) → slice_get order p ≡ Some c → slice_get covers c ≡ Some (length draft.inputs.items + p))
    × (signals ≡ map (signal_in covers) (map (λ name. name.role) draft.names))

-- The network was built of the draft, whose covers were put in this order.
pub record IsBuilt (kept : List (Vec (Option CoverRows))) (draft : WholeDraft) (order : List ℕ) (net : Net) : Type 0 where
  -- the signal of each name
  pub numbers : List ℕ
  pub placed : AreSignals draft order numbers
  pub inputs : map Some net.inputs ≡ map (slice_get (words_in draft.names)) draft.inputs.items
  pub names : map (λ output. Some output.name) net.outputs ≡ map (slice_get (words_in draft.names)) draft.outputs.items
  pub signals : map (λ output. output.signal) net.outputs ≡ map (slice_index numbers) draft.outputs.items
  pub gates : net.gates ≡ map (λ c. gate_of kept numbers (get_or draft.covers.items c no_cover)) order
