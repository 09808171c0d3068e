use Rattle.std.proofs.Common.{◌∷◌, [], ◌++◌, List, ap, ap₂, sym, ◌∙◌}
use Rattle.std.proofs.Math.Nat.{zero-add}
use mathlib.Core.List.{map-append}
use Rattle.seat_guard.specs.declared.view.Draws.{Draws}
use Rattle.seat_guard.specs.declared.view.Gone.{Gone}
use Rattle.seat_guard.specs.Passes.{known}
use Rattle.dd_session.specs.Managing.{gone_as}
use Rattle.dd_session.proofs.closing.join_all.Goals as goal

pub join-requires-clause-settled : goal.join-requires-clause-settled
join-requires-clause-settled c = let clear = c.parted-pass.ensures.ready.0.4 in (clear.0.raised, clear.0.owed)

pub loop-session-preserved : goal.loop-session-preserved
loop-session-preserved c =
    let inv = c.loop-session.invariant in
    let e : Draws = known c.parted-pass.result.0 in
    let j = c.join.ensures in (
      j.0,
      j.2 ∙ inv.1,
      ap (λ (d : Draws). d.closing) j.1 ∙ inv.2,
      ap (λ (d : Draws). d.given) j.1 ∙ inv.3,
      ap (λ (d : Draws). d.vars) j.1 ∙ inv.4,
      ap (λ (d : Draws). d.elements) j.1 ∙ inv.5,
      ap (λ (d : Draws). d.gone) j.1 ∙ ap₂ (λ (l : List Gone) (g : Gone). l ++ g ∷ []) inv.6 ((λ i. record { session = e.session; vars = sym (zero-add e.vars) i; elements = sym (zero-add e.elements) i; rows = e.rows; entries = e.entries; noted = e.noted; placed = e.placed }) ∙ ap gone_as c.parted-pass.ensures.seen) ∙ sym (map-append gone_as c.loop-session.yielded (c.in-Some.session ∷ [])),
    )
