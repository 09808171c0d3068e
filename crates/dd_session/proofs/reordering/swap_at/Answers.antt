use Rattle.std.proofs.Common.{ap, sym, ◌∙◌, arith, subst, length}
use Rattle.handle_count.specs.RowMaps.{RowMap}
use Rattle.seat_guard.specs.Passes.{known, counts_of}
use Rattle.shared_store.specs.Reordering.{swap_call, orders_left}
use Rattle.shared_store.proofs.Lasting.{serves-under}
use Rattle.dd_session.proofs.Calls.{took_of}
use Rattle.dd_session.proofs.Swappings.{found_swap, levels_are, numbers_taken, swap_of, swap_stored, told_swap, keeps_taken, levels_stand}
use Rattle.dd_session.proofs.Turning.{took_read, found_settled}
use Rattle.dd_session.proofs.Calm.{swapped_still}
use Rattle.dd_session.specs.Turns.{HasPlace, IsSettled}
use Rattle.seat_guard.specs.declared.view.Counts.{Counts}
use Rattle.seat_guard.specs.declared.view.Draws.{Draws}
use Rattle.function_laws.specs.Sizes.{Orders}
use Rattle.dd_session.proofs.reordering.swap_at.Goals as goal

pub read_counts-requires-clause-serves : goal.read_counts-requires-clause-serves
read_counts-requires-clause-serves g c = c.take-shared.ensures.took.2

pub read_counts-requires-clause-fresh : goal.read_counts-requires-clause-fresh
read_counts-requires-clause-fresh g c = let s = c.take-shared.ensures.stands.1 in (ap (λ (z : Counts). z.zeros) s ∙ c.requires.idle.4.1, ap (λ (z : Counts). z.pins) s ∙ c.requires.idle.4.0.pins)

pub settle_swap-requires-clause-hold : goal.settle_swap-requires-clause-hold
settle_swap-requires-clause-hold g c =
    let t = took_read (known c.args.pass.now) (known c.take-shared.new.pass) (known c.read_counts.new.pass) c.take-shared.result c.read_counts.new.shared (counts_of c.read_counts.new.pass) (took_of c.take-shared.ensures.took c.take-shared.ensures.board) c.read_counts.ensures.rest c.read_counts.ensures.own.1 c.read_counts.ensures.serves in
    (c.read_counts.ensures.own.0, ap (λ (z : Draws). z.live) t.is ∙ c.requires.idle.1, ap (λ (z : Draws). z.holds) t.is, c.read_counts.ensures.own.2 ∙ c.take-shared.ensures.hand, ap (λ (z : Draws). length z.cells) t.is ∙ t.many, (found_settled _ _ c.read_counts.ensures.found (subst IsSettled (sym c.take-shared.ensures.stands.1) c.requires.idle.4.0)))

pub settle_swap-requires-clause-serves : goal.settle_swap-requires-clause-serves
settle_swap-requires-clause-serves g c =
    serves-under c.read_counts.new.shared c.swap-shared.result.0 c.tell_sound.ensures.store c.swap-shared.ensures.lasts (known c.read_counts.new.pass) (counts_of c.read_counts.new.pass) c.read_counts.ensures.read c.read_counts.ensures.serves

pub settle_swap-requires-clause-ordered : goal.settle_swap-requires-clause-ordered
settle_swap-requires-clause-ordered g c = c.swap-shared.ensures.orders ∙ ap (λ (o : Orders). orders_left c.args.order c.args.level o c.swap-shared.result.1) c.read_counts.ensures.serves.orders_are

pub settle_swap-requires-clause-keeps : goal.settle_swap-requires-clause-keeps
settle_swap-requires-clause-keeps g c = keeps_taken (known c.args.pass.now) (known c.read_counts.new.pass) c.read_counts.new.shared (took_read (known c.args.pass.now) (known c.take-shared.new.pass) (known c.read_counts.new.pass) c.take-shared.result c.read_counts.new.shared (counts_of c.read_counts.new.pass) (took_of c.take-shared.ensures.took c.take-shared.ensures.board) c.read_counts.ensures.rest c.read_counts.ensures.own.1 c.read_counts.ensures.serves) c.args.book.now c.requires.keeps

pub settle_swap-requires-clause-place : goal.settle_swap-requires-clause-place
settle_swap-requires-clause-place g c = let t = took_read (known c.args.pass.now) (known c.take-shared.new.pass) (known c.read_counts.new.pass) c.take-shared.result c.read_counts.new.shared (counts_of c.read_counts.new.pass) (took_of c.take-shared.ensures.took c.take-shared.ensures.board) c.read_counts.ensures.rest c.read_counts.ensures.own.1 c.read_counts.ensures.serves in subst HasPlace (sym t.is) c.requires.place

pub settle_swap-requires-clause-level : goal.settle_swap-requires-clause-level
settle_swap-requires-clause-level g c =
    let asked = c.requires.level in
    let taken = levels_are (known c.args.pass.now) (known c.read_counts.new.pass) c.read_counts.new.shared (took_read (known c.args.pass.now) (known c.take-shared.new.pass) (known c.read_counts.new.pass) c.take-shared.result c.read_counts.new.shared (counts_of c.read_counts.new.pass) (took_of c.take-shared.ensures.took c.take-shared.ensures.board) c.read_counts.ensures.rest c.read_counts.ensures.own.1 c.read_counts.ensures.serves) c.args.order in
    omega (arith, asked, taken)

pub settle_swap-requires-clause-full : goal.settle_swap-requires-clause-full
settle_swap-requires-clause-full g c =
    numbers_taken (known c.args.pass.now) (known c.read_counts.new.pass) c.read_counts.new.shared (took_read (known c.args.pass.now) (known c.take-shared.new.pass) (known c.read_counts.new.pass) c.take-shared.result c.read_counts.new.shared (counts_of c.read_counts.new.pass) (took_of c.take-shared.ensures.took c.take-shared.ensures.board) c.read_counts.ensures.rest c.read_counts.ensures.own.1 c.read_counts.ensures.serves) c.swap-shared.result.0 c.args.order c.args.level c.swap-shared.result.1 c.swap-shared.ensures.reorders

pub swap-shared-requires : goal.swap-shared-requires
swap-shared-requires g c =
    let t = took_read (known c.args.pass.now) (known c.take-shared.new.pass) (known c.read_counts.new.pass) c.take-shared.result c.read_counts.new.shared (counts_of c.read_counts.new.pass) (took_of c.take-shared.ensures.took c.take-shared.ensures.board) c.read_counts.ensures.rest c.read_counts.ensures.own.1 c.read_counts.ensures.serves in
    let asked = c.requires.level in
    let taken = levels_are (known c.args.pass.now) (known c.read_counts.new.pass) c.read_counts.new.shared t c.args.order in
    let stand = levels_stand (known c.args.pass.now) (known c.read_counts.new.pass) c.read_counts.new.shared t c.tell_sound.ensures.store c.args.order in
    omega (arith, asked, taken, stand)

pub returns-clause-idle : goal.returns-clause-idle
returns-clause-idle g c =
    let t = took_read (known c.args.pass.now) (known c.take-shared.new.pass) (known c.read_counts.new.pass) c.take-shared.result c.read_counts.new.shared (counts_of c.read_counts.new.pass) (took_of c.take-shared.ensures.took c.take-shared.ensures.board) c.read_counts.ensures.rest c.read_counts.ensures.own.1 c.read_counts.ensures.serves in
    let told = c.settle_swap.ensures.told in
    swapped_still c.args.guard.now c.args.pass.now c.read_counts.new.pass c.settle_swap.new.pass c.args.order c.args.level c.settle_swap.result c.requires.idle t.is c.settle_swap.ensures.own told c.settle_swap.ensures.settles.0

pub returns-clause-swaps : goal.returns-clause-swaps
returns-clause-swaps g c =
    let d = known c.args.pass.now in
    let e = known c.read_counts.new.pass in
    let x = c.read_counts.new.shared in
    let y = c.swap-shared.result.0 in
    let new = known c.settle_swap.new.pass in
    let took = took_read (known c.args.pass.now) (known c.take-shared.new.pass) (known c.read_counts.new.pass) c.take-shared.result c.read_counts.new.shared (counts_of c.read_counts.new.pass) (took_of c.take-shared.ensures.took c.take-shared.ensures.board) c.read_counts.ensures.rest c.read_counts.ensures.own.1 c.read_counts.ensures.serves in
    let told = c.settle_swap.ensures.told in
    record {
      told = (told_swap d e x took new (swap_call c.args.order c.args.level) c.settle_swap.result _ _ _ _
          (c.settle_swap.ensures.own.0 ∙ sym c.requires.idle.0) told);
      swap =
          (swap_of d e x took y new c.args.order c.args.level c.swap-shared.result.1 c.settle_swap.result c.args.pass.now.seat.table_id c.settle_swap.new.pass.seat.table_id c.args.book.now.rows.spare c.settle_swap.new.book.rows.spare c.swap-shared.ensures.reorders c.settle_swap.ensures.done (found_swap d e x took new (swap_call c.args.order c.args.level) c.settle_swap.result told));
      stored = swap_stored d e x took y new c.swap-shared.result.1 c.settle_swap.result c.settle_swap.ensures.done c.swap-shared.ensures.stored c.settle_swap.ensures.notes;
      spare = ap (λ (r : RowMap). r.spare) c.settle_swap.ensures.rows;
    }
