use Rattle.std.proofs.Common.{◌≡◌, ◌<◌, List, ℕ, length, None, false, true, refl, ap, sym, ◌∙◌, subst, arith}
use Rattle.hold_store.specs.Held.{idle}
use Rattle.hold_store.proofs.Levels.{down_none}
use Rattle.held_table.specs.declared.table.HeldTable.{HeldTable}
use Rattle.held_table.proofs.Openings.{opens, words_copied}
use Rattle.held_table.proofs.table.HeldTable.of_store.Goals as goal

pub returns : goal.returns
returns c =
    let laid = c.in_ok-laid.laid in
    let is = c.in_ok-laid.ensures in
    let counted = c.in_ok-counted.counted in
    let orders = c.in_ok-orders.orders in
    let n : ℕ = c.limit-limit.result in
    let t : HeldTable = record {
      limit = n;
      variables_at = orders.variables_at;
      elements_at = orders.elements_at;
      words = laid.words;
      nexts = laid.nexts;
      heads = laid.heads;
      counts = counted.counts;
      pins = counted.pins;
      next_free = n;
      freed = laid.freed;
      half = None;
      answers = true;
      turns = 0;
      has_free = false;
      has_memo = false;
      loose = None;
      renewed = None;
      link = None;
      walk = None;
      due = None;
    } in
    let limit : n ≡ length c.args.store.words = c.limit-limit.ensures.limit in
    let words = words_copied laid.words.items c.words.result.now c.args.store (is.long.0 ∙ limit) (λ s lt. is.words s (subst (λ (m : ℕ). s < m) (sym limit) lt)) c.words.ensures.words in
    let least = is.heads.least in
    let few = is.heads.few in
    let made = opens t c.args.store c.limit-limit.ensures.sound limit is.long.0 words is.fits
    c.in_ok-counted.ensures.long.0 c.in_ok-counted.ensures.counts c.in_ok-counted.ensures.long.1 c.in_ok-counted.ensures.pins
    is.long.1 (omega (arith, least)) (omega (arith, few)) is.chains is.free is.room c.in_ok-orders.ensures.variables c.in_ok-orders.ensures.elements refl refl refl refl in
    record {
      own = made.0;
      idle = ap (λ (l : List ℕ). record idle { levels = l }) down_none;
      content = made.1;
    }
