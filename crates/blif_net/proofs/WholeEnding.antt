-- What comes of a whole is what is wrong with it, or its network.
use Rattle.std.proofs.Common.{◌≡◌, ℕ, ◌==◌, Bool, true, false, not, ◌&&◌, ◌||◌, List, [], ◌∷◌, ◌++◌, length, map, Option, None, Some, option_map, refl, ap, sym, ◌∙◌, subst}
use Rattle.std.specs.Prelude.{IsPermutation, find}
use Rattle.std.specs.Bool.{then_some}
use Rattle.std.specs.Global.{Vec}
use Rattle.std.specs.List.{list_all, list_any}
use Rattle.std.specs.Option.{option_or}
use Rattle.std.specs.Str.{bytes_eq}
use Rattle.std.proofs.lemmas.List.{length-map}
use Rattle.std.proofs.lemmas.List.Sorted.{IsPermutation-append_right, IsPermutation-map, IsPermutation-trans, list_any-IsPermutation}
use Rattle.cover_nets.specs.declared.net.Net.{Net}
use Rattle.cover_nets.specs.declared.net.Output.{Output}
use Rattle.job_words.specs.Text.{Word}
use Rattle.blif_models.specs.declared.layout.Whole.{Whole}
use Rattle.blif_models.specs.Circuits.{Circuit, Cover, defined_in, is_settled, is_signal}
use Rattle.blif_models.specs.ModelFaults.{cyclic_line, undefined_line}
use Rattle.blif_models.specs.Models.{Item, Model, circuit_from, whole_items}
use Rattle.blif_text.specs.Text.{Line}
use Rattle.blif_wholes.specs.declared.bodies.CoverRows.{CoverRows}
use Rattle.blif_wholes.specs.declared.building.Built.{Built}
use Rattle.blif_wholes.specs.declared.building.Built.TheVariants as builts
use Rattle.blif_wholes.specs.declared.drafting.WholeDraft.{WholeDraft}
use Rattle.blif_wholes.specs.declared.uses.SpotUse.{SpotUse}
use Rattle.blif_wholes.specs.Bodies.{KeepRows}
use Rattle.blif_wholes.specs.Built.{BuiltIs, IsSound, first_cyclic}
use Rattle.blif_wholes.specs.Defined.{Once}
use Rattle.blif_wholes.specs.Drafting.{IsDraftOfWhole, IsWholeDraft}
use Rattle.blif_wholes.specs.LineOrder.{with_covers}
use Rattle.blif_wholes.specs.NamedCircuits.{IsByLine}
use Rattle.blif_wholes.specs.Networks.{AreGates, AreNumbers, IsNetOf}
use Rattle.blif_wholes.specs.Uses.{signals_laid, undefined_among, uses_laid}
use Rattle.blif_wholes.proofs.Alone.{alone}
use Rattle.blif_wholes.proofs.LineOrder.{cycles_by_line}
use Rattle.blif_wholes.proofs.Orders.{names_apart}
use Rattle.blif_wholes.proofs.SpotUses.{undefined_agrees}
use Rattle.blif_net.specs.declared.faults.BlifFault.{BlifFault}
use Rattle.blif_net.specs.declared.faults.FaultKind.TheVariants as kinds
use Rattle.blif_net.specs.Ending.{IsExpanded, IsNetOfWhole, whole_of}
use Rattle.blif_net.specs.Faults.{expanded_fault, fault_at, last_number, no_outputs}
use Rattle.blif_net.proofs.Sound.{reads_signals}

-- what all of a list pass all of its permutation pass

not_any : {X : Type 0} (p : X → Bool) (xs : List X) → list_all p xs ≡ not (list_any (λ x. not (p x)) xs)
not_any p [] = refl
not_any p (x ∷ xs) = ap (λ b. p x && b) (not_any p xs) ∙ turned (p x) (list_any (λ y. not (p y)) xs)
  where
    turned : (a b : Bool) → (a && not b) ≡ not (not a || b)
    turned true b = refl
    turned false b = refl

all_moved : {X : Type 0} (p : X → Bool) (xs ys : List X) → IsPermutation xs ys → list_all p xs ≡ list_all p ys
all_moved p xs ys moved = not_any p xs ∙ ap not (list_any-IsPermutation (λ x. not (p x)) xs ys moved) ∙ sym (not_any p ys)

-- a circuit whose covers stand in another order

module _ (circuit other : Circuit) (by : IsByLine circuit other) where
  same_signals : is_signal other ≡ is_signal circuit
  same_signals j z = (
      list_any-IsPermutation (bytes_eq z) (other.inputs ++ defined_in other.covers) (other.inputs ++ defined_in circuit.covers)
      (IsPermutation-append_right other.inputs (defined_in other.covers) (defined_in circuit.covers) (IsPermutation-map (λ (cover : Cover). cover.name) other.covers circuit.covers by.covers))
      ∙ ap (λ (ins : List Word). list_any (bytes_eq z) (ins ++ defined_in circuit.covers)) (sym by.inputs)
      ) j

  sound_by_line : IsSound other → IsSound circuit
  sound_by_line sound = record {
    once = subst (λ (ins : List Word). Once (ins ++ defined_in circuit.covers)) (sym by.inputs) (names_apart other circuit.covers (alone other sound) by.covers);
    reads =
        sym (all_moved (λ (cover : Cover). list_all (is_signal circuit) cover.ins) other.covers circuit.covers by.covers)
        ∙ ap (λ (p : Word → Bool). list_all (λ (cover : Cover). list_all p cover.ins) other.covers) (sym same_signals)
        ∙ sound.reads;
    shows = ap (list_all (is_signal circuit)) by.outputs ∙ ap (λ (p : Word → Bool). list_all p other.outputs) (sym same_signals) ∙ sound.shows;
  }

  net_by_line : (net : Net) → IsNetOf circuit net → IsNetOf other net
  net_by_line net n = record {
    inputs = n.inputs ∙ by.inputs;
    arranged = n.arranged;
    each_once = IsPermutation-trans other.covers circuit.covers n.arranged by.covers n.each_once;
    gates = subst (λ (ins : List Word). AreGates ins n.arranged net.gates) by.inputs n.gates;
    names = n.names ∙ by.outputs;
    signals =
        subst (λ (ins : List Word). AreNumbers (ins ++ map (λ (cover : Cover). cover.name) n.arranged) other.outputs (map (λ (output : Output). output.signal) net.outputs)) by.inputs
        (subst (λ (outs : List Word). AreNumbers (circuit.inputs ++ map (λ (cover : Cover). cover.name) n.arranged) outs (map (λ (output : Output). output.signal) net.outputs)) by.outputs n.signals);
  }

cyclic_by_line : (main : Model) (items : List Item) (circuit : Circuit) → IsByLine circuit (circuit_from main items) → cyclic_line main items ≡ option_map (λ cover. cover.line) (first_cyclic circuit)
cyclic_by_line main items circuit by =
    let same : with_covers (circuit_from main items) circuit.covers ≡ circuit = λ j. record { inputs = sym by.inputs j; outputs = sym by.outputs j; covers = circuit.covers } in
    cycles_by_line main items circuit.covers by.covers by.rising ∙ ap (λ (t : Circuit). option_map (λ (cover : Cover). cover.line) (find (λ (cover : Cover). not (is_settled t cover)) circuit.covers)) same

-- what is wrong with a whole, and its network

abbrev pub Builds : List (Vec (Option CoverRows)) → WholeDraft → Built → Type 0
Builds kept draft built = (models : List Model) (circuit : Circuit) → IsWholeDraft models circuit draft → IsSound circuit → KeepRows models kept → BuiltIs circuit built

module _ (models : List Model) (words : List (List Word)) (main : Model) (whole : Whole) (own : List ℕ) (outs : List SpotUse) (kept : List (Vec (Option CoverRows))) (e : IsExpanded models words main whole own outs kept) where
  abbrev by_spots : Option ℕ
  by_spots = undefined_among (own ++ signals_laid whole.laid.items) (outs ++ uses_laid whole.laid.items)

  abbrev items : List Item
  items = whole_items models main

  abbrev later_fault : List Line → Option ℕ → Option BlifFault → Option BlifFault
  later_fault lines cyclic rest = option_or (option_map (fault_at kinds.Cycle) cyclic) rest

  undefined_by_spots : undefined_line main items ≡ by_spots
  undefined_by_spots = ap (undefined_line main) e.items ∙ undefined_agrees models words main whole own outs e.named

  pub undefined_fault : (lines : List Line) (line : ℕ) → Some line ≡ by_spots → expanded_fault lines main items ≡ Some (fault_at kinds.Undefined line)
  undefined_fault lines line u j = option_or (option_map (fault_at kinds.Undefined) ((undefined_by_spots ∙ sym u) j)) (later_fault lines (cyclic_line main items) (no_outputs lines main items))

  module _ (u : None ≡ by_spots) (draft : WholeDraft) (d : IsDraftOfWhole models words main whole draft) where
    by_line : IsByLine d.circuit (whole_of models main)
    by_line = subst (λ (t : List Item). IsByLine d.circuit (circuit_from main t)) (sym e.items) d.by_line

    pub sound_whole : IsSound d.circuit
    sound_whole =
        let signals = reads_signals main items (undefined_by_spots ∙ sym u) in
        sound_by_line d.circuit (whole_of models main) by_line (record { once = e.once; reads = signals.0; shows = signals.1 })

    defined_fault : (lines : List Line) → expanded_fault lines main items ≡ later_fault lines (cyclic_line main items) (no_outputs lines main items)
    defined_fault lines j = option_or (option_map (fault_at kinds.Undefined) ((undefined_by_spots ∙ sym u) j)) (later_fault lines (cyclic_line main items) (no_outputs lines main items))

    module _ (built : Built) (builds : Builds kept draft built) where
      is_built : BuiltIs d.circuit built
      is_built = builds models d.circuit d.draft_of sound_whole e.kept

      pub cyclic_fault : (lines : List Line) (line : ℕ) → built ≡ builts.Cyclic line → expanded_fault lines main items ≡ Some (fault_at kinds.Cycle line)
      cyclic_fault lines line is =
          defined_fault lines
          ∙ ap (λ (o : Option ℕ). later_fault lines o (no_outputs lines main items)) (cyclic_by_line main items d.circuit by_line ∙ subst (BuiltIs d.circuit) is is_built)

      module _ (net : Net) (is : built ≡ builts.Network net) where
        is_net : (first_cyclic d.circuit ≡ None) × IsNetOf d.circuit net
        is_net = subst (BuiltIs d.circuit) is is_built

        shown_fault : (lines : List Line) → expanded_fault lines main items ≡ then_some (length net.outputs == 0) (fault_at kinds.NoOutputs (last_number lines))
        shown_fault lines =
            let led : cyclic_line main items ≡ None = cyclic_by_line main items d.circuit by_line ∙ ap (option_map (λ (cover : Cover). cover.line)) is_net.0 in
            let many : length (whole_of models main).outputs ≡ length net.outputs = sym (ap length (is_net.1.names ∙ by_line.outputs)) ∙ length-map net.outputs (λ (output : Output). output.name) in
            defined_fault lines ∙ (λ j. later_fault lines (led j) (then_some (many j == 0) (fault_at kinds.NoOutputs (last_number lines))))

        pub outputs_fault : (lines : List Line) → (length net.outputs == 0) ≡ true → expanded_fault lines main items ≡ Some (fault_at kinds.NoOutputs (last_number lines))
        outputs_fault lines none = shown_fault lines ∙ ap (λ (b : Bool). then_some b (fault_at kinds.NoOutputs (last_number lines))) none

        pub net_of_whole : (lines : List Line) → (length net.outputs == 0) ≡ false → IsNetOfWhole lines models main net
        net_of_whole lines some =
            (shown_fault lines ∙ ap (λ (b : Bool). then_some b (fault_at kinds.NoOutputs (last_number lines))) some, net_by_line d.circuit (whole_of models main) by_line net is_net.1)
