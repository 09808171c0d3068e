use Rattle.std.proofs.Common.{◌<◌, false, length, refl, ap, sym, subst, arith}
use Rattle.std.specs.Vec.{with_item}
use Rattle.node_store.specs.Contents.{Content}
use Rattle.held_table.specs.declared.table.HeldTable.{HeldTable}
use Rattle.held_table.specs.Tables.{known_of}
use Rattle.held_table.proofs.Counts.{pinned_within, pins}
use Rattle.held_table.proofs.holds.HeldTableHolds.unpin_count.Goals as goal

pub index_mut-requires : goal.index_mut-requires
index_mut-requires c =
    let t = c.args.self.now in
    let lt : c.args.slot < t.limit = pinned_within t c.requires.own c.args.slot c.requires.pinned in
    let inside : c.args.slot < length t.pins.items = (let m = c.requires.own.words.as_many_pins in omega (arith, lt, m)) in
    subst (λ n. c.args.slot < n) (sym t.pins.ok.0) inside

pub returns-clause-own : goal.returns-clause-own
returns-clause-own c =
    let t = c.args.self.now in
    let lt : c.args.slot < t.limit = pinned_within t c.requires.own c.args.slot c.requires.pinned in
    (pins t _ c.requires.own c.args.slot false lt (λ none. refl) refl refl).0

pub returns-clause-unpinned : goal.returns-clause-unpinned
returns-clause-unpinned c =
    let t = c.args.self.now in
    let lt : c.args.slot < t.limit = pinned_within t c.requires.own c.args.slot c.requires.pinned in
    let u : HeldTable = record t { pins = with_item t.pins c.args.slot 0 } in
    ap (λ (w : Content). record (known_of t) { content = w }) (pins t u c.requires.own c.args.slot false lt (λ none. refl) refl refl).1
