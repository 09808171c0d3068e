use Rattle.std.proofs.Common.{◌<◌, ℕ, Option, List, ap, sym, subst, ◌∙◌}
use Rattle.edge_bits.specs.declared.edges.Edge.{Edge}
use Rattle.seat_guard.specs.declared.view.Held.{Held}
use Rattle.seat_guard.specs.Passes.{counts_of, known}
use Rattle.seat_guard.specs.Tallies.{held_count}
use Rattle.shared_store.specs.declared.shared.Cell.{Cell}
use Rattle.dd_session.specs.Turns.{OwesCell}
use Rattle.dd_session.proofs.OnRows.{paid_one}
use Rattle.dd_session.proofs.seated.pay.Goals as goal

pub count_down-requires-clause-at : goal.count_down-requires-clause-at
count_down-requires-clause-at c = (c.requires.own.0, c.requires.own.1, subst (λ (i : ℕ). i < (known c.args.pass.now).slots) (sym c.index.ensures) (c.requires.within c.in-Some.cell c.in-Some.is))

pub count_down-requires-clause-owed : goal.count_down-requires-clause-owed
count_down-requires-clause-owed c =
    let o = subst (λ (x : Option Cell). OwesCell x (counts_of c.args.pass.now).owed) c.in-Some.is c.requires.owed in
    subst (λ (l : List Held). 0 < held_count c.index.result l) (sym o.1) (paid_one o.0 c.index.result (ap (λ (e : Edge). e.index) o.2 ∙ sym c.index.ensures)).0
