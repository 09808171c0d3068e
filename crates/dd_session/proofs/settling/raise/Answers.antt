use Rattle.std.proofs.Common.{◌<◌, ℕ, length, inr, ap, sym, subst, ◌∙◌, arith}
use Rattle.seat_guard.specs.declared.view.Held.{Held}
use Rattle.seat_guard.specs.Passes.{counts_of, known}
use Rattle.seat_guard.specs.Tallies.{raised_by}
use Rattle.shared_store.specs.Sharing.{held_of, view_of}
use Rattle.dd_session.proofs.Soundness.{held_within}
use Rattle.dd_session.proofs.Tellings.{row-kept}
use Rattle.dd_session.proofs.settling.raise.Goals as goal

pub count_up-requires-clause-at : goal.count_up-requires-clause-at
count_up-requires-clause-at g c = (
  c.requires.own.0,
  c.requires.own.1,
  subst (λ (i : ℕ). i < (known c.args.pass.now).slots) (sym c.index.ensures)
      (held_within c.args.shared.now c.tell_sound.ensures.store (known c.args.pass.now) (counts_of c.args.pass.now) c.requires.serves (held_of (view_of c.args.shared.now) c.args.cell) (row-kept c.args.shared.now c.args.cell c.requires.is)),
)

pub count_up-requires-clause-edge : goal.count_up-requires-clause-edge
count_up-requires-clause-edge g c = ap (λ (h : Held). h.edge.index) c.requires.held ∙ sym c.index.ensures

pub count_up-requires-clause-may : goal.count_up-requires-clause-may
count_up-requires-clause-may g c = inr (c.requires.own.2, inr c.requires.may)

pub count_up-requires-clause-room : goal.count_up-requires-clause-room
count_up-requires-clause-room g c =
    let a = ap (λ (l : _). length {A = Held} l) c.requires.settled.raised in
    let b = ap (λ (l : _). length {A = Held} l) c.requires.settled.owed in
    let r = c.requires.place.0 in omega (arith, a, b, r)

pub returns-clause-raised : goal.returns-clause-raised
returns-clause-raised g c = c.count_up.ensures.raised ∙ ap (λ (h : Held). raised_by h c.count_up.result (counts_of c.args.pass.now)) c.requires.held
