use Rattle.std.proofs.Common.{◌+◌, ◌<◌, ◌≤◌, ◌*◌, nat_le, slice_index, length, arith, subst, sym, ap, ◌∙◌, inl}
use Rattle.std.specs.List.{swap}
use Rattle.function_laws.specs.Sizes.{in_order}
use Rattle.group_sift.specs.Ways.{upper_place, stand_of}
use Rattle.group_sift.specs.Settled.{measure_at}
use Rattle.group_sift.specs.Trips.{CanSwap, asked, stand_at}
use Rattle.group_sift.proofs.Moving.{place_long}
use Rattle.group_sift.proofs.Scanning.{level_within, few_next, stopped, reserve, was_moved, long_few}
use Rattle.group_sift.proofs.trips.try_move.Goals as goal

pub level_of-level-requires : goal.level_of-level-requires
level_of-level-requires g c =
    few_next g.W.Whole.others c.args.order g.trip c.args.way c.args.now.place (length g.trip.list) 4294967296 (omega (arith, long_few g.W.Whole.others c.args.order g.trip c.args.now.place (g.W.Whole.view c.args.w.now) c.requires.1.0)) c.requires.1.1.0

pub has_reserve-requires : goal.has_reserve-requires
has_reserve-requires g c = λ κ sub. (
  sub,
  (
    c.requires.1.0.settled,
    subst (λ k. k + 1 < length (in_order (g.W.Whole.view c.args.w.now).orders c.args.order)) (sym c.level_of-level.ensures)
        (place_long g.W.Whole.others c.args.order g.trip c.args.now.place (g.W.Whole.view c.args.w.now) c.requires.1.0 (upper_place c.args.way c.args.now.place + 1)
        (level_within g.W.Whole.others c.args.order g.trip c.args.way c.args.now.place (length g.trip.list) c.requires.1.1.0)),
  ),
)

pub exchange_and_sweep-size-requires : goal.exchange_and_sweep-size-requires
exchange_and_sweep-size-requires g c = λ κ sub.
    let o = g.W.Whole.others in
    let old = g.W.Whole.view c.args.w.now in
    let x = g.W.Whole.view c.has_reserve.new.w in
    let e = c.level_of-level.ensures in
    let m = measure_at c.args.order g.trip.start in
    let level = upper_place c.args.way c.args.now.place in
    let inside = place_long o c.args.order g.trip c.args.now.place old c.requires.1.0 (level + 1) (level_within o c.args.order g.trip c.args.way c.args.now.place (length g.trip.list) c.requires.1.1.0) in
    let test = c.has_reserve.ensures.reserve ∙ ap (λ k. nat_le (asked m (in_order old.orders c.args.order) k) g.trip.start.limit) e in
    let room = reserve o c.args.order g.trip c.args.way c.args.now.place old x c.has_reserve.result c.requires.1.0 c.has_reserve.ensures.same test c.if-not-has_reserve.false in (
      sub,
      (
        c.has_reserve.ensures.settled,
        (
          subst (λ k. k + 1 < length (in_order x.orders c.args.order)) (sym e) (subst (λ l. level + 1 < length l) (sym c.has_reserve.ensures.same) inside),
          subst (λ k. CanSwap m g.trip.start.limit (in_order x.orders c.args.order) k) (sym e) (inl room),
        ),
      ),
    )

pub next_place-requires : goal.next_place-requires
next_place-requires g c =
    few_next g.W.Whole.others c.args.order g.trip c.args.way c.args.now.place (length g.trip.list) 4294967296 (omega (arith, long_few g.W.Whole.others c.args.order g.trip c.args.now.place (g.W.Whole.view c.args.w.now) c.requires.1.0)) c.requires.1.1.0

pub stand_at-requires : goal.stand_at-requires
stand_at-requires g c = c.requires.1.1.1

pub returns-then-not-has_reserve : goal.returns-then-not-has_reserve
returns-then-not-has_reserve g c =
    let o = g.W.Whole.others in
    let old = g.W.Whole.view c.args.w.now in
    let x = g.W.Whole.view c.has_reserve.new.w in
    let m = measure_at c.args.order g.trip.start in
    let test = c.has_reserve.ensures.reserve ∙ ap (λ k. nat_le (asked m (in_order old.orders c.args.order) k) g.trip.start.limit) c.level_of-level.ensures in
    record {
      none = stopped o c.args.order g.trip c.args.way c.args.now old x c.has_reserve.result c.requires.1.0 c.requires.1.1.0 c.has_reserve.ensures.settled c.has_reserve.ensures.same test c.if-not-has_reserve.true;
      some = tt;
    }

pub returns : goal.returns
returns g c =
    let o = g.W.Whole.others in
    let old = g.W.Whole.view c.args.w.now in
    let x = g.W.Whole.view c.has_reserve.new.w in
    let y = g.W.Whole.view c.exchange_and_sweep-size.new.w in
    let m = measure_at c.args.order g.trip.start in
    let e = c.level_of-level.ensures in
    let test = c.has_reserve.ensures.reserve ∙ ap (λ k. nat_le (asked m (in_order old.orders c.args.order) k) g.trip.start.limit) e in
    record {
      none = tt;
      some = was_moved o c.args.order g.trip c.args.way c.args.now c.stand_at.result old x y c.has_reserve.result c.exchange_and_sweep-size.result c.requires.1.0 c.requires.1.1.0
          c.has_reserve.ensures.settled c.has_reserve.ensures.same test c.if-not-has_reserve.false
          c.exchange_and_sweep-size.ensures.settled (c.exchange_and_sweep-size.ensures.exchanged ∙ ap (λ k. swap (in_order x.orders c.args.order) k (k + 1)) e)
          c.exchange_and_sweep-size.ensures.size (subst (λ k. c.exchange_and_sweep-size.result ≤ m.size_of (in_order x.orders c.args.order) + 2 * m.width_of (in_order x.orders c.args.order) (slice_index (in_order x.orders c.args.order) k)) e c.exchange_and_sweep-size.ensures.few)
          (c.stand_at.ensures.place ∙ c.next_place.ensures) c.stand_at.ensures.size (c.stand_at.ensures.stand ∙ ap (λ k. stand_at k c.exchange_and_sweep-size.result (stand_of c.args.now)) c.next_place.ensures);
    }
