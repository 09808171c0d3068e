use Rattle.std.proofs.Common.{refl, ap, sym, ◌∙◌, subst, length}
use Rattle.function_laws.specs.declared.history.Reply.TheVariants as replies
use Rattle.handle_count.specs.RowMaps.{RowMap}
use Rattle.seat_guard.specs.Passes.{known, counts_of}
use Rattle.shared_store.specs.Sifting.{sift_call, sifting_of}
use Rattle.dd_session.proofs.Calls.{called, took_of}
use Rattle.dd_session.proofs.SiftTellings.{found_sift, sift_told}
use Rattle.dd_session.proofs.Swappings.{levels_are, keeps_taken}
use Rattle.dd_session.proofs.Turning.{took_read, found_settled}
use Rattle.dd_session.proofs.Calm.{drawn_still}
use Rattle.dd_session.specs.Turns.{HasPlace, IsSettled}
use Rattle.seat_guard.specs.declared.view.Counts.{Counts}
use Rattle.seat_guard.specs.declared.view.Draws.{Draws}
use Rattle.dd_session.proofs.sifting.sift_at.Goals as goal

pub read_counts-requires-clause-serves : goal.read_counts-requires-clause-serves
read_counts-requires-clause-serves g c = c.take-shared.ensures.took.2

pub read_counts-requires-clause-fresh : goal.read_counts-requires-clause-fresh
read_counts-requires-clause-fresh g c = let s = c.take-shared.ensures.stands.1 in (ap (λ (z : Counts). z.zeros) s ∙ c.requires.idle.4.1, ap (λ (z : Counts). z.pins) s ∙ c.requires.idle.4.0.pins)

pub sift_shared-requires-clause-hold : goal.sift_shared-requires-clause-hold
sift_shared-requires-clause-hold g c =
    let t = took_read (known c.args.pass.now) (known c.take-shared.new.pass) (known c.read_counts.new.pass) c.take-shared.result c.read_counts.new.shared (counts_of c.read_counts.new.pass) (took_of c.take-shared.ensures.took c.take-shared.ensures.board) c.read_counts.ensures.rest c.read_counts.ensures.own.1 c.read_counts.ensures.serves in
    (c.read_counts.ensures.own.0, ap (λ (z : Draws). z.live) t.is ∙ c.requires.idle.1, ap (λ (z : Draws). z.holds) t.is, c.read_counts.ensures.own.2 ∙ c.take-shared.ensures.hand, ap (λ (z : Draws). length z.cells) t.is ∙ t.many, (found_settled _ _ c.read_counts.ensures.found (subst IsSettled (sym c.take-shared.ensures.stands.1) c.requires.idle.4.0)))

pub sift_shared-requires-clause-place : goal.sift_shared-requires-clause-place
sift_shared-requires-clause-place g c = let t = took_read (known c.args.pass.now) (known c.take-shared.new.pass) (known c.read_counts.new.pass) c.take-shared.result c.read_counts.new.shared (counts_of c.read_counts.new.pass) (took_of c.take-shared.ensures.took c.take-shared.ensures.board) c.read_counts.ensures.rest c.read_counts.ensures.own.1 c.read_counts.ensures.serves in subst HasPlace (sym t.is) c.requires.place

pub sift_shared-requires-clause-keeps : goal.sift_shared-requires-clause-keeps
sift_shared-requires-clause-keeps g c = keeps_taken (known c.args.pass.now) (known c.read_counts.new.pass) c.read_counts.new.shared (took_read (known c.args.pass.now) (known c.take-shared.new.pass) (known c.read_counts.new.pass) c.take-shared.result c.read_counts.new.shared (counts_of c.read_counts.new.pass) (took_of c.take-shared.ensures.took c.take-shared.ensures.board) c.read_counts.ensures.rest c.read_counts.ensures.own.1 c.read_counts.ensures.serves) c.args.book.now c.requires.keeps

pub sift_shared-requires-clause-end : goal.sift_shared-requires-clause-end
sift_shared-requires-clause-end g c = c.requires.end ∙ sym (levels_are (known c.args.pass.now) (known c.read_counts.new.pass) c.read_counts.new.shared (took_read (known c.args.pass.now) (known c.take-shared.new.pass) (known c.read_counts.new.pass) c.take-shared.result c.read_counts.new.shared (counts_of c.read_counts.new.pass) (took_of c.take-shared.ensures.took c.take-shared.ensures.board) c.read_counts.ensures.rest c.read_counts.ensures.own.1 c.read_counts.ensures.serves) c.args.order)

pub sift_shared-requires-clause-tells : goal.sift_shared-requires-clause-tells
sift_shared-requires-clause-tells g c = refl

pub returns-clause-idle : goal.returns-clause-idle
returns-clause-idle g c =
    let t = took_read (known c.args.pass.now) (known c.take-shared.new.pass) (known c.read_counts.new.pass) c.take-shared.result c.read_counts.new.shared (counts_of c.read_counts.new.pass) (took_of c.take-shared.ensures.took c.take-shared.ensures.board) c.read_counts.ensures.rest c.read_counts.ensures.own.1 c.read_counts.ensures.serves in
    drawn_still c.args.guard.now c.args.pass.now c.read_counts.new.pass c.sift_shared.new.pass _ _ c.sift_shared.result.place c.requires.idle t.is c.sift_shared.ensures.own c.sift_shared.ensures.told.4 c.sift_shared.ensures.settles.0

pub returns-clause-sifted : goal.returns-clause-sifted
returns-clause-sifted g c =
    let d = known c.args.pass.now in
    let e = known c.read_counts.new.pass in
    let x = c.read_counts.new.shared in
    let new = known c.sift_shared.new.pass in
    let took = took_read (known c.args.pass.now) (known c.take-shared.new.pass) (known c.read_counts.new.pass) c.take-shared.result c.read_counts.new.shared (counts_of c.read_counts.new.pass) (took_of c.take-shared.ensures.took c.take-shared.ensures.board) c.read_counts.ensures.rest c.read_counts.ensures.own.1 c.read_counts.ensures.serves in
    let sifting = sifting_of c.args.order c.args.blocks.now x in
    let call = sift_call c.args.order sifting in
    let told = c.sift_shared.ensures.told in
    record {
      sifting = sifting;
      told =
          (called d e new x c.args.pass.now.seat.table_id c.sift_shared.new.pass.seat.table_id c.args.book.now.rows.spare c.sift_shared.new.book.rows.spare call replies.Done c.sift_shared.result.place
          (c.sift_shared.ensures.own.0 ∙ sym c.requires.idle.0) took told);
      sift =
          (sift_told d e x took c.sift_shared.ensures.sifted.0 new c.args.order c.args.blocks.now c.sift_shared.result.value c.args.pass.now.seat.table_id c.sift_shared.new.pass.seat.table_id c.args.book.now.rows.spare c.sift_shared.new.book.rows.spare
          c.sift_shared.ensures.sifted.1 (found_sift d e x took new call c.sift_shared.result.place told));
      spare = ap (λ (r : RowMap). r.spare) c.sift_shared.ensures.rows;
    }
