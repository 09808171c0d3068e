use Rattle.std.proofs.Common.{◌<◌, true, length, refl, ap, sym, ◌∙◌, subst, arith}
use Rattle.std.specs.Vec.{with_item}
use Rattle.node_store.specs.Contents.{Content}
use Rattle.step_store.proofs.Passing.{none_some}
use Rattle.held_table.specs.declared.table.HeldTable.{HeldTable}
use Rattle.held_table.specs.Tables.{known_of}
use Rattle.held_table.proofs.Counts.{pins}
use Rattle.held_table.proofs.Tables.{within}
use Rattle.held_table.proofs.holds.HeldTableHolds.pin_count.Goals as goal

pub index_mut-requires : goal.index_mut-requires
index_mut-requires c =
    let t = c.args.self.now in
    let lt : c.args.slot < t.limit = within t c.requires.own c.args.slot c.requires.used.0 c.requires.used.1 in
    let inside : c.args.slot < length t.pins.items = (let m = c.requires.own.words.as_many_pins in omega (arith, lt, m)) in
    subst (λ n. c.args.slot < n) (sym t.pins.ok.0) inside

pub returns-clause-own : goal.returns-clause-own
returns-clause-own c =
    let t = c.args.self.now in
    let lt : c.args.slot < t.limit = within t c.requires.own c.args.slot c.requires.used.0 c.requires.used.1 in
    (pins t _ c.requires.own c.args.slot true lt (λ none. absurd (none_some c.requires.used.0 (sym none ∙ c.requires.used.1))) refl refl).0

pub returns-clause-pinned : goal.returns-clause-pinned
returns-clause-pinned c =
    let t = c.args.self.now in
    let lt : c.args.slot < t.limit = within t c.requires.own c.args.slot c.requires.used.0 c.requires.used.1 in
    let u : HeldTable = record t { pins = with_item t.pins c.args.slot 1 } in
    ap (λ (w : Content). record (known_of t) { content = w }) (pins t u c.requires.own c.args.slot true lt (λ none. absurd (none_some c.requires.used.0 (sym none ∙ c.requires.used.1))) refl refl).1
