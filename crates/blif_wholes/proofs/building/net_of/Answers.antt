use Rattle.std.proofs.Common.{◌≡◌, ◌<◌, ℕ, List, ap, get_or, length, map, subst, sym, ◌∙◌}
use Rattle.std.specs.Prelude.{slice_get, slice_index}
use Rattle.std.specs.List.{All}
use Rattle.std.proofs.lemmas.List.{length-map}
use Rattle.blif_wholes.specs.declared.drafting.WholeDraft.{WholeDraft}
use Rattle.blif_wholes.specs.declared.parting.WholeCover.{WholeCover}
use Rattle.blif_wholes.specs.Arranged.{AreInRange}
use Rattle.blif_wholes.specs.Names.{WholeName, words_in}
use Rattle.blif_wholes.specs.Placing.{AreSignals, gate_of, no_cover, signal_in}
use Rattle.blif_wholes.proofs.CoverReads.{covers_in_range, numbers_in_range}
use Rattle.blif_wholes.proofs.building.net_of.Goals as goal

as_many : (draft : WholeDraft) (order signals : List ℕ) → AreSignals draft order signals → length signals ≡ length draft.names
as_many draft order signals are =
    let roles = map (λ (name : WholeName). name.role) draft.names in ap length are.2 ∙ length-map roles (signal_in are.0) ∙ length-map draft.names (λ (name : WholeName). name.role)

pub words_at-requires : goal.words_at-requires
words_at-requires c =
    let draft = c.args.draft.now in
    let h = c.requires.circuit in
    subst (All (λ k. k < length draft.names)) (sym c.deref.ensures.value) (numbers_in_range draft.names (h.1).inputs draft.inputs.items (h.2).inputs)

pub outputs_at-requires-clause-names : goal.outputs_at-requires-clause-names
outputs_at-requires-clause-names c =
    let draft = c.args.draft.now in
    let h = c.requires.circuit in
    subst (All (λ k. k < length draft.names)) (sym c.deref-3.ensures.value) (numbers_in_range draft.names (h.1).outputs draft.outputs.items (h.2).outputs)

pub gates-requires-clause-in_range : goal.gates-requires-clause-in_range
gates-requires-clause-in_range c =
    let draft = c.args.draft.now in
    let h = c.requires.circuit in
    subst (λ n. All (λ (one : WholeCover). All (λ k. k < n) one.cover.ins) c.deref-5.result.now) (sym (ap length c.deref-4.ensures.value ∙ as_many draft c.args.order.now c.in_ok-signals.signals.items c.in_ok-signals.ensures))
    (subst (AreInRange draft.names) (sym c.deref-5.ensures.value) (covers_in_range h.0 draft.names (h.1).covers draft.covers.items (h.2).covers))

pub returns : goal.returns
returns c =
    let draft = c.args.draft.now in
    let words = words_in draft.names in
    let order = c.args.order.now in
    record {
      numbers = c.in_ok-signals.signals.items;
      placed = c.in_ok-signals.ensures;
      inputs = c.in_ok-words_at.ensures ∙ ap (map (slice_get words)) c.deref.ensures.value;
      names = c.in_ok-outputs_at.ensures.names ∙ ap (map (slice_get words)) c.deref-3.ensures.value;
      signals = c.in_ok-outputs_at.ensures.signals ∙ ap (λ (t : List ℕ). map (slice_index t) c.deref-3.result.now) c.deref-2.ensures.value ∙ ap (map (slice_index c.in_ok-signals.signals.items)) c.deref-3.ensures.value;
      gates = c.in_ok-gates.ensures ∙ ap (λ (t : List ℕ). map (λ k. gate_of c.args.kept.now t (get_or c.deref-5.result.now k no_cover)) order) c.deref-4.ensures.value
          ∙ ap (λ (t : List WholeCover). map (λ k. gate_of c.args.kept.now c.in_ok-signals.signals.items (get_or t k no_cover)) order) c.deref-5.ensures.value;
    }
