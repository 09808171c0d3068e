use Rattle.std.proofs.Common.{◌<◌, pos, arith}
use Rattle.edge_bits.specs.declared.edges.Kind.TheVariants.{Add}
use Rattle.node_slots.specs.Stores.{plain_view}
use Rattle.node_store.specs.ViewLaws.{Denotes-grown}
use Rattle.store_tests.proofs.StoreLemmas.{can_make_numbers, denotes_zero}
use Rattle.store_tests.proofs.stores.node_over.Goals as goal

pub make-requires : goal.make-requires
make-requires c =
    let w = plain_view c.tell_permanent.new.store in
    let w1 = plain_view c.leaf.new.self in
    let some : 0 < w1.vars = (let t = c.if-vars-eq0.false in omega (arith, c.leaf.ensures.grown.vars, c.vars.ensures.vars)) in
    let zero = Denotes-grown Add c.leaf.ensures.grown (denotes_zero w c.number_zero-zero.result c.tell_permanent.ensures.permanent c.number_zero-zero.ensures) in
    let numbers = can_make_numbers w1 c.in-Ok.leaf c.number_zero-zero.result _ (pos 0) some c.in-Ok.ensures.ok zero in
    (Add, numbers)
