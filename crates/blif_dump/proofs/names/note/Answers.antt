use Rattle.std.proofs.Common.{sym, ◌∙◌}
use Rattle.std.proofs.lemmas.Map.Text.{btree_map_updates_str}
use Rattle.blif_dump.proofs.Places.{noted_before, noted_first}
use Rattle.blif_dump.proofs.names.note.Goals as goal

pub returns-then-contains_key : goal.returns-then-contains_key
returns-then-contains_key c = λ names count places. noted_before c.args.table.now names c.args.name.now places (sym c.contains_key.ensures ∙ c.if-contains_key.true)

pub returns : goal.returns
returns c = λ names count places.
    noted_first c.args.table.now c.insert.new.self names c.args.name.now c.args.place count places (sym c.contains_key.ensures ∙ c.if-contains_key.false)
    (btree_map_updates_str c.args.name.now c.args.table.now c.insert.new.self _ c.in_ok-insert.ensures.updates)
