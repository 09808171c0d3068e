use Rattle.std.proofs.Common.{w64, of_z, to_z, sym, ◌∙◌, ap, subst, arith}
use Rattle.std.proofs.lemmas.Grind.{common_steps}
use Rattle.std.proofs.lemmas.Int.{to_z-of_z}
use Rattle.level_table.specs.declared.leaves.LeafEntry.{LeafEntry}
use Rattle.level_table.specs.Leaves.{Leaves, IsOfValue, is_of_value, IsAbsentValue, slot_at_value}
use Rattle.level_table.proofs.Keyed.{key-push_here, key-push_other}
use Rattle.level_table.proofs.LeafKeys.{value_of, slot_of, values}
use Rattle.level_table.proofs.leaves.LeafTable.insert.Goals as goal

pub returns-clause-here : goal.returns-clause-here
returns-clause-here c =
    let round = to_z-of_z w64 c.args.value c.ranges.value in
    let e : LeafEntry = record { value = to_z w64 (of_z w64 c.args.value); slot = c.args.slot } in
    rw c.push_reserved.ensures.items
    (key-push_here IsOfValue is_of_value value_of slot_of values c.self.inside.entries.items e c.args.value
    (subst (λ (t : Leaves). IsAbsentValue t.entries c.args.value) (sym c.self.view_is) c.requires.absent) round)

pub returns-clause-others : goal.returns-clause-others
returns-clause-others c = λ v other.
    let round = to_z-of_z w64 c.args.value c.ranges.value in
    let e : LeafEntry = record { value = to_z w64 (of_z w64 c.args.value); slot = c.args.slot } in
    rw c.push_reserved.ensures.items
    (key-push_other IsOfValue is_of_value value_of slot_of values c.self.inside.entries.items e v (λ is. other (sym is ∙ round)) ∙ ap (λ (t : Leaves). slot_at_value t.entries v) c.self.view_is)

pub invariant_of-self : goal.invariant_of-self
invariant_of-self c = grind (arith, common_steps)
