use Rattle.std.proofs.Common.{ℕ, List, Contains, ap, refl, sym, subst, ◌∙◌, arith, length}
use Rattle.edge_bits.specs.declared.edges.Edge.{Edge}
use Rattle.function_laws.specs.declared.making.Making.{Making}
use Rattle.function_laws.specs.declared.history.Call.TheVariants as calls
use Rattle.function_laws.specs.Makings.{needs_nodes}
use Rattle.operator_calls.specs.Making.{told_by, unmade_as, work}
use Rattle.operator_calls.specs.Taking.{of_lent}
use Rattle.function_laws.specs.declared.history.Function.{Function}
use Rattle.function_laws.specs.Sizes.{Orders}
use Rattle.seat_guard.specs.declared.view.Draws.{Draws}
use Rattle.seat_guard.specs.Passes.{known, counts_of}
use Rattle.shared_store.proofs.Lasting.{serves-grown}
use Rattle.shared_store.specs.Sharing.{view_of}
use Rattle.dd_session.specs.MadeRows.{adding_by, chooses}
use Rattle.dd_session.specs.Turns.{seen_of, HasPlace, IsClear, IsSettled, Keeps, MayCount}
use Rattle.dd_session.specs.Works.{IsOfWork, StoresWork}
use Rattle.dd_session.proofs.Turning.{had_turn, took_read}
use Rattle.dd_session.proofs.Calls.{as_before, full_needs, seat_of, served, small_store, spare_kept, spare_made, stands_of, stored_ran, stores_work, told_made}
use Rattle.dd_session.proofs.AtRest.{keeps_left}
use Rattle.dd_session.proofs.Makings.{nothing_made, outcome_makes, outcome_may_full, told_by_edges, told_why}
use Rattle.seat_guard.specs.declared.view.Counts.{Counts}
use Rattle.seat_guard.specs.declared.view.Shares.{Shares}
use Rattle.dd_session.proofs.Calm.{settled_still}
use Rattle.dd_session.proofs.making.make_once.Goals as goal

pub counted-shared-requires-clause-clear : goal.counted-shared-requires-clause-clear
counted-shared-requires-clause-clear g c = subst IsClear (sym c.in-Ok.ensures.stands.1) c.requires.idle.4

pub counted-shared-requires-clause-hold : goal.counted-shared-requires-clause-hold
counted-shared-requires-clause-hold g c = λ last. ap (λ (x : Shares). x.order) c.in-Ok.ensures.stands.0 ∙ c.requires.hold last

pub try_of-shared-requires-clause-takes : goal.try_of-shared-requires-clause-takes
try_of-shared-requires-clause-takes g c = λ y serves of.
    let took = took_read (known c.args.pass.now) (known c.start.new.pass) (known c.counted-shared.new.pass) c.in-Ok.shared c.counted-shared.result (counts_of c.counted-shared.new.pass) c.in-Ok.ensures.took c.counted-shared.ensures.rest c.counted-shared.ensures.own.1 c.counted-shared.ensures.serves in
    (told_by_edges (seen_of c.args.pass.now c.args.book.now) (known c.args.pass.now) (seat_of c.args.pass.now c.args.book.now refl) (of_lent c.args.making) (of_lent c.args.edges.now) c.requires.same c.requires.can
    (view_of y) (small_store y of) (stands_of (known c.args.pass.now) (known c.counted-shared.new.pass) (counts_of c.counted-shared.new.pass) c.counted-shared.result y took serves)).0

pub settle-requires-clause-hold : goal.settle-requires-clause-hold
settle-requires-clause-hold g c =
    let own = c.counted-shared.ensures.own in
    let h = c.in-Ok.ensures.holds in
    (own.0, ap (λ (z : Draws). z.live) own.1 ∙ h.1, ap (λ (z : Draws). z.holds) own.1 ∙ h.2, own.2 ∙ h.3, ap (λ (z : Draws). length z.cells) own.1 ∙ h.4, c.counted-shared.ensures.settled)

pub settle-requires-clause-keeps : goal.settle-requires-clause-keeps
settle-requires-clause-keeps g c = subst (λ (z : Draws). Keeps z c.start.new.book) (sym c.counted-shared.ensures.own.1) c.in-Ok.ensures.keeps

pub settle-requires-clause-place : goal.settle-requires-clause-place
settle-requires-clause-place g c = let took = took_read (known c.args.pass.now) (known c.start.new.pass) (known c.counted-shared.new.pass) c.in-Ok.shared c.counted-shared.result (counts_of c.counted-shared.new.pass) c.in-Ok.ensures.took c.counted-shared.ensures.rest c.counted-shared.ensures.own.1 c.counted-shared.ensures.serves in subst HasPlace (sym took.is) c.requires.place

pub settle-requires-clause-may : goal.settle-requires-clause-may
settle-requires-clause-may g c = subst MayCount (sym (c.counted-shared.ensures.own.3 ∙ c.in-Ok.ensures.stands.0)) c.requires.may

pub settle-requires-clause-serves : goal.settle-requires-clause-serves
settle-requires-clause-serves g c = served (known c.counted-shared.new.pass) (counts_of c.counted-shared.new.pass) c.counted-shared.result c.try_of-shared.result.0 (told_by (of_lent c.args.edges.now)) (work (of_lent c.args.edges.now)) c.try_of-shared.result.1 (c.try_of-shared.ensures.tried (c.awaits.ensures.last c.if-awaits.false))

pub settle-requires-clause-ok : goal.settle-requires-clause-ok
settle-requires-clause-ok g c =
    let tried = (c.try_of-shared.ensures.tried (c.awaits.ensures.last c.if-awaits.false)) in
    let took = took_read (known c.args.pass.now) (known c.start.new.pass) (known c.counted-shared.new.pass) c.in-Ok.shared c.counted-shared.result (counts_of c.counted-shared.new.pass) c.in-Ok.ensures.took c.counted-shared.ensures.rest c.counted-shared.ensures.own.1 c.counted-shared.ensures.serves in
    rw (c.kind_made-kind.ensures, c.adding_of-adding.ensures)
    (outcome_makes (known c.args.pass.now) (known c.counted-shared.new.pass) c.counted-shared.result c.try_of-shared.result.0 (calls.Makes (of_lent c.args.making)) _ (adding_by (chooses (of_lent c.args.making))) (of_lent c.args.edges.now) (work (of_lent c.args.edges.now)) c.try_of-shared.result.1 (counts_of c.counted-shared.new.pass) took c.requires.idle.2 tried
    (told_by_edges (seen_of c.args.pass.now c.args.book.now) (known c.args.pass.now) (seat_of c.args.pass.now c.args.book.now refl) (of_lent c.args.making) (of_lent c.args.edges.now) c.requires.same c.requires.can
    (view_of tried.from) (small_store tried.from tried.ran.store) (stands_of (known c.args.pass.now) (known c.counted-shared.new.pass) (counts_of c.counted-shared.new.pass) c.counted-shared.result tried.from took tried.serves)).1 c.try_of-shared.result.1 tried.ran.answer)

pub settle-requires-clause-full : goal.settle-requires-clause-full
settle-requires-clause-full g c = λ is.
    let tried = (c.try_of-shared.ensures.tried (c.awaits.ensures.last c.if-awaits.false)) in
    let took = took_read (known c.args.pass.now) (known c.start.new.pass) (known c.counted-shared.new.pass) c.in-Ok.shared c.counted-shared.result (counts_of c.counted-shared.new.pass) c.in-Ok.ensures.took c.counted-shared.ensures.rest c.counted-shared.ensures.own.1 c.counted-shared.ensures.serves in
    let due = tried.ran.due_is is in (
      full_needs c.try_of-shared.result.1 is (rw (← c.requires.needs) c.try_of-shared.ensures.sure),
      outcome_may_full (known c.args.pass.now) (known c.counted-shared.new.pass) c.counted-shared.result c.try_of-shared.result.0 (calls.Makes (of_lent c.args.making)) _ (adding_by (chooses (of_lent c.args.making))) (of_lent c.args.edges.now) (work (of_lent c.args.edges.now)) c.try_of-shared.result.1 (counts_of c.counted-shared.new.pass) took c.requires.idle.2 tried
          (told_by_edges (seen_of c.args.pass.now c.args.book.now) (known c.args.pass.now) (seat_of c.args.pass.now c.args.book.now refl) (of_lent c.args.making) (of_lent c.args.edges.now) c.requires.same c.requires.can
          (view_of tried.from) (small_store tried.from tried.ran.store) (stands_of (known c.args.pass.now) (known c.counted-shared.new.pass) (counts_of c.counted-shared.new.pass) c.counted-shared.result tried.from took tried.serves)).1 due,
      (due.0, due.1),
    )

pub returns-clause-idle : goal.returns-clause-idle
returns-clause-idle g c =
    let took = took_read (known c.args.pass.now) (known c.start.new.pass) (known c.counted-shared.new.pass) c.in-Ok.shared c.counted-shared.result (counts_of c.counted-shared.new.pass) c.in-Ok.ensures.took c.counted-shared.ensures.rest c.counted-shared.ensures.own.1 c.counted-shared.ensures.serves in
    settled_still c.args.guard.now c.args.pass.now c.counted-shared.new.pass c.settle.new.pass (calls.Makes (of_lent c.args.making)) _ c.settle.result c.requires.idle took.is c.settle.ensures.own c.settle.ensures.told c.settle.ensures.settles.0

pub returns-clause-first : goal.returns-clause-first
returns-clause-first g c = λ first. c.settle.ensures.settles.1 ∙ ap (λ (z : Counts). z.zeros) (c.counted-shared.ensures.first first ∙ c.in-Ok.ensures.stands.1) ∙ c.requires.idle.4.1

pub returns-clause-made : goal.returns-clause-made
returns-clause-made g c =
    let took = took_read (known c.args.pass.now) (known c.start.new.pass) (known c.counted-shared.new.pass) c.in-Ok.shared c.counted-shared.result (counts_of c.counted-shared.new.pass) c.in-Ok.ensures.took c.counted-shared.ensures.rest c.counted-shared.ensures.own.1 c.counted-shared.ensures.serves in record {
      told = (told_made (known c.args.pass.now) (known c.counted-shared.new.pass) (known c.settle.new.pass) c.counted-shared.result _ _ _ _ (calls.Makes (of_lent c.args.making)) (c.settle.ensures.own.0 ∙ sym c.requires.idle.0) took
          c.try_of-shared.result.1 (needs_nodes (of_lent c.args.making)) (rw (← c.requires.needs) c.try_of-shared.ensures.sure) (chooses (of_lent c.args.making)) c.settle.result
          (spare_kept _ c.settle.result c.args.book.now.rows.spare c.start.new.book.rows.spare c.settle.new.book.rows.spare c.in-Ok.ensures.spare c.settle.ensures.spare) c.settle.ensures.cause (rw (← c.adding_of-adding.ensures) c.settle.ensures.told));
      may = told_why (of_lent c.args.edges.now) (unmade_as (of_lent c.args.making)) c.requires.unmade _ _ c.try_of-shared.result.1 c.settle.result (c.try_of-shared.ensures.tried (c.awaits.ensures.last c.if-awaits.false)).ran.answer c.settle.ensures.why;
      stored = subst (λ (by : Making Edge (List ℕ) (List (ℕ × Edge))). StoresWork (work by) (seen_of c.args.pass.now c.args.book.now) (seen_of c.settle.new.pass c.settle.new.book) c.settle.result) c.requires.same
          ((stores_work (known c.args.pass.now) (known c.counted-shared.new.pass) (known c.settle.new.pass) c.counted-shared.result c.try_of-shared.result.0 _ c.settle.new.pass.seat.table_id c.args.book.now.rows.spare c.settle.new.book.rows.spare c.try_of-shared.result.1 took
          (told_by (of_lent c.args.edges.now)) (work (of_lent c.args.edges.now)) (counts_of c.counted-shared.new.pass) (c.try_of-shared.ensures.tried (c.awaits.ensures.last c.if-awaits.false)) c.settle.ensures.notes (calls.Makes (of_lent c.args.making)) (chooses (of_lent c.args.making)) c.settle.result c.settle.ensures.cause
          (rw (← c.adding_of-adding.ensures) c.settle.ensures.told)));
      spare = (spare_made c.settle.result c.args.book.now.rows.spare c.start.new.book.rows.spare c.settle.new.book.rows.spare c.in-Ok.ensures.spare c.settle.ensures.spare);
    }

pub returns-in_default-clause-made : goal.returns-in_default-clause-made
returns-in_default-clause-made g c = nothing_made (seen_of c.args.pass.now c.args.book.now) _ (of_lent c.args.making) (λ i. seen_of (c.in_default.ensures.0 i) (c.in_default.ensures.1 i))

pub put_back-requires-clause-serves : goal.put_back-requires-clause-serves
put_back-requires-clause-serves g c =
    let ran = c.try_of-shared.ensures.ran (c.awaits.ensures.first c.if-awaits.true) in
    serves-grown c.counted-shared.result c.try_of-shared.result.0 (known c.counted-shared.new.pass) (counts_of c.counted-shared.new.pass) ran.grown ran.cells ran.orders_are c.counted-shared.ensures.serves

pub returns-then-awaits-clause-idle : goal.returns-then-awaits-clause-idle
returns-then-awaits-clause-idle g c =
    let took = took_read (known c.args.pass.now) (known c.start.new.pass) (known c.counted-shared.new.pass) c.in-Ok.shared c.counted-shared.result (counts_of c.counted-shared.new.pass) c.in-Ok.ensures.took c.counted-shared.ensures.rest c.counted-shared.ensures.own.1 c.counted-shared.ensures.serves in
    let left = c.put_back.ensures.gave.1 in (
      c.put_back.ensures.own.0,
      ap (λ (z : Draws). z.live) left ∙ ap (λ (z : Draws). z.live) took.is ∙ c.requires.idle.1,
      ap (λ (z : Draws). z.holds) left,
      c.put_back.ensures.own.1,
      subst IsSettled (sym c.put_back.ensures.stands.1) c.counted-shared.ensures.settled,
    )

pub returns-then-awaits-clause-first : goal.returns-then-awaits-clause-first
returns-then-awaits-clause-first g c = λ first. ap (λ (z : Counts). z.zeros) (c.put_back.ensures.stands.1 ∙ c.counted-shared.ensures.first first ∙ c.in-Ok.ensures.stands.1) ∙ c.requires.idle.4.1

pub returns-then-awaits-clause-keeps : goal.returns-then-awaits-clause-keeps
returns-then-awaits-clause-keeps g c = keeps_left (known c.counted-shared.new.pass) (known c.put_back.new.pass) c.start.new.book (subst (λ (z : Draws). Keeps z c.start.new.book) (sym c.counted-shared.ensures.own.1) c.in-Ok.ensures.keeps) c.put_back.ensures.gave.0 c.put_back.ensures.gave.1

pub returns-then-awaits-clause-waits : goal.returns-then-awaits-clause-waits
returns-then-awaits-clause-waits g c =
    let ran = c.try_of-shared.ensures.ran (c.awaits.ensures.first c.if-awaits.true) in
    let gave = c.put_back.ensures.gave in
    let d = known c.args.pass.now in
    let e = (known c.counted-shared.new.pass) in
    let x = c.counted-shared.result in
    let took = took_read (known c.args.pass.now) (known c.start.new.pass) (known c.counted-shared.new.pass) c.in-Ok.shared c.counted-shared.result (counts_of c.counted-shared.new.pass) c.in-Ok.ensures.took c.counted-shared.ensures.rest c.counted-shared.ensures.own.1 c.counted-shared.ensures.serves in (
      c.awaits.ensures.first c.if-awaits.true,
      (
        as_before d e (known c.put_back.new.pass) x c.args.pass.now.seat.table_id c.put_back.new.pass.seat.table_id c.args.book.now.rows.spare c.start.new.book.rows.spare gave.0 (c.put_back.ensures.own.0 ∙ sym c.requires.idle.0) (let s = c.in-Ok.ensures.spare in omega (arith, s)) took gave.1,
        c.in-Ok.ensures.spare,
        subst (λ (by : Making Edge (List ℕ) (List (ℕ × Edge))). (f : Function) → Contains (known c.put_back.new.pass).stored f → (o : Orders) × IsOfWork (seen_of c.args.pass.now c.args.book.now) o (work by) f) c.requires.same
            (stored_ran d e (known c.put_back.new.pass) x c.try_of-shared.result.0 c.args.pass.now.seat.table_id c.args.book.now.rows.spare c.try_of-shared.result.1 took (told_by (of_lent c.args.edges.now)) (work (of_lent c.args.edges.now)) ran gave.0 (ap (λ (z : Draws). z.stored) gave.1) gave.2),
        had_turn d e x took (known c.put_back.new.pass) gave.0 (ap (λ (z : Draws). z.stored) gave.1) (ap (λ (z : Draws). z.turns) gave.1),
      ),
    )
