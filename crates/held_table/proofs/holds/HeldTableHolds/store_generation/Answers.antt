use Rattle.std.proofs.Common.{Some, refl, ap}
use Rattle.std.specs.Vec.{with_item}
use Rattle.node_store.specs.Contents.{Content}
use Rattle.held_table.specs.Tables.{hand_of, known_of}
use Rattle.held_table.proofs.Counts.{renews}
use Rattle.held_table.proofs.holds.HeldTableHolds.store_generation.Goals as goal

pub returns-clause-own : goal.returns-clause-own
returns-clause-own c = (renews c.args.self.now _ c.requires.own c.args.slot c.args.word c.requires.loose c.requires.uncounted c.requires.next.0 refl refl).1

pub returns-clause-renewed : goal.returns-clause-renewed
returns-clause-renewed c =
    let t = c.args.self.now in
    ap (λ (w : Content). record (known_of t) { content = w; hand = record (hand_of t) { renewed = Some c.args.slot } })
    (renews t (record t { counts = with_item t.counts c.args.slot c.args.word; renewed = Some c.args.slot }) c.requires.own c.args.slot c.args.word c.requires.loose c.requires.uncounted c.requires.next.0 refl refl).2
