use Rattle.std.proofs.Common.{Some, w64, subst, sym, ◌∙◌, ap}
use Rattle.std.proofs.lemmas.Int.{to_z-of_z}
use Rattle.level_table.specs.declared.leaves.LeafEntry.{LeafEntry}
use Rattle.level_table.specs.Leaves.{IsOfValue, is_of_value, IsAbsentValue}
use Rattle.level_table.proofs.Keyed.{key_found, key_absent}
use Rattle.level_table.proofs.LeafKeys.{value_of, slot_of, values}
use Rattle.level_table.proofs.leaves.LeafTable.find_value.Goals as goal

pub returns-in_err-place-clause-slot : goal.returns-in_err-place-clause-slot
returns-in_err-place-clause-slot c =
    let round = to_z-of_z w64 c.args.value c.ranges.value in
    c.from_residual.ensures ∙ sym (key_absent IsOfValue is_of_value value_of slot_of values c.args.self.now.entries c.args.value (subst (IsAbsentValue c.args.self.now.entries) round c.in_err-place.ensures))

pub returns-clause-slot : goal.returns-clause-slot
returns-clause-slot c =
    let entries = c.self.inside.entries.items in
    let place = c.in_ok-place.place in
    let entry = c.index.result.now in
    let round = to_z-of_z w64 c.args.value c.ranges.value in
    let there = rw (← c.self.view_is) at c.in_ok-place.ensures in
    rw (← c.self.view_is) (ap (λ (e : LeafEntry). Some e.slot) c.index.ensures ∙ sym (key_found IsOfValue is_of_value value_of slot_of values entries c.args.value place entry c.self.invariant.apart there.0 (there.1 entry ∙ round)))
