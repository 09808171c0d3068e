use Rattle.std.proofs.Common.{Option, Some, refl, ap}
use Rattle.std.specs.Vec.{with_item}
use Rattle.step_store.specs.Knowing.{Walk}
use Rattle.hold_store.specs.Held.{handed}
use Rattle.held_table.specs.declared.table.HeldTable.{HeldTable}
use Rattle.held_table.specs.Tables.{hand_of, known_of}
use Rattle.held_table.proofs.Links.{links, same_walk}
use Rattle.held_table.proofs.holds.HeldTableHolds.store_next.Goals as goal

pub returns-clause-own : goal.returns-clause-own
returns-clause-own c = links c.args.self.now _ c.requires.own c.args.slot c.args.link c.requires.loose refl refl

pub returns-clause-stored : goal.returns-clause-stored
returns-clause-stored c =
    let t = c.args.self.now in
    let u : HeldTable = record t { nexts = with_item t.nexts c.args.slot c.args.link; link = Some (record { slot = c.args.slot; next = c.args.link }) } in
    ap (λ (o : Option Walk). handed (known_of t) (record (hand_of t) { link = Some (record { slot = c.args.slot; next = c.args.link }); walk = o })) (same_walk t u c.requires.own c.args.slot c.args.link c.requires.loose refl refl t.walk)
