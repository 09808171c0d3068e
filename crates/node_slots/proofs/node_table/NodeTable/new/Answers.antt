use Rattle.std.proofs.Common.{◌≡◌, ◌+◌, ℕ, length, ap, sym, ◌∙◌, arith}
use Rattle.std.proofs.lemmas.Grind.{common_steps}
use Rattle.std.specs.Prelude.{vec_capacity}
use Rattle.std.proofs.lemmas.List.{length-replicate}
use Rattle.node_slots.proofs.Taking.{table_opening}
use Rattle.node_slots.proofs.node_table.NodeTable.new.Goals as goal

pub invariant_of-result : goal.invariant_of-result
invariant_of-result c =
    let e = c.append_permanent.ensures in
    let v = c.in_ok-freed.ensures in
    let zero : ℕ = 0 in
    let long : length c.append_permanent.new.table.words ≡ c.args.limit = e.length ∙ ap length c.in_ok-table.ensures.words ∙ length-replicate c.args.limit zero in
    rw v.items
    (table_opening c.append_permanent.new.table (5 + c.args.vars) (vec_capacity c.in_ok-freed.freed)
    (omega (arith, long, c.requires.least)) (omega (arith, long, c.requires.most)) (omega (arith, long, v.capacity)) e.taken e.permanent e.free e.packed _ e.nodes c.in_ok-arcs.arcs (c.in_ok-arcs.ensures.slots ∙ sym long) c.in_ok-arcs.ensures.unknown)

pub append_permanent-requires-clause-few : goal.append_permanent-requires-clause-few
append_permanent-requires-clause-few c = grind (arith, common_steps)

pub append_permanent-requires-clause-free : goal.append_permanent-requires-clause-free
append_permanent-requires-clause-free c = grind (arith, common_steps) steps 4000000

pub append_permanent-requires-clause-nodes : goal.append_permanent-requires-clause-nodes
append_permanent-requires-clause-nodes c = grind (arith, common_steps)

pub append_permanent-requires-clause-room : goal.append_permanent-requires-clause-room
append_permanent-requires-clause-room c = grind (arith, common_steps)

pub returns-clause-slots_are : goal.returns-clause-slots_are
returns-clause-slots_are c = grind (arith, common_steps)
