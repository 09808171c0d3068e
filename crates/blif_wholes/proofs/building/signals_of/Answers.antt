use Rattle.std.proofs.Common.{◌+◌, ℕ, List, Some, ap, arith, length, map, sym, ◌∙◌}
use Rattle.std.specs.Prelude.{slice_get}
use Rattle.blif_wholes.specs.declared.roles.Role.{Role}
use Rattle.blif_wholes.specs.Placing.{signal_in}
use Rattle.blif_wholes.proofs.NetBuilding.{roles_within}
use Rattle.blif_wholes.proofs.building.signals_of.Goals as goal

pub name_signals-requires : goal.name_signals-requires
name_signals-requires c =
    λ n d e.
    let h = c.requires.circuit in
    omega (
      arith,
      roles_within h.0 h.1 c.args.draft.now n d h.2 (ap (λ (t : List Role). slice_get t n) (sym c.roles.ensures) ∙ e),
      ap length c.deref.ensures.value,
      c.in_ok-covers.ensures.many,
      c.len-2.ensures,
      (c.args.draft.now.covers.ok).0,
    )

pub returns : goal.returns
returns c =
    let placed = c.in_ok-covers.covers.items in (
      placed,
      λ p d e. c.in_ok-covers.ensures.placed p d e ∙ ap (λ n. Some (n + p)) (c.in_ok-first.ensures ∙ c.len.ensures ∙ (c.args.draft.now.inputs.ok).0),
      c.in_ok-signals.ensures ∙ ap (λ (t : List ℕ). map (signal_in t) c.roles.result.now) c.deref.ensures.value ∙ ap (map (signal_in placed)) c.roles.ensures,
    )
