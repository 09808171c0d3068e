use Rattle.std.proofs.Common.{◌∙◌, ap, length}
use Rattle.std.proofs.lemmas.List.FromFn.{length-range_with_len}
use Rattle.store_tests.proofs.stores.leaves_and_nodes_of_each_kind.Goals as goal

pub fill_with_each_kind-requires-clause-vars : goal.fill_with_each_kind-requires-clause-vars
fill_with_each_kind-requires-clause-vars g c = ap length c.in_ok-store.ensures.variable_levels ∙ length-range_with_len 0 1

pub fill_with_each_kind-requires-clause-elements : goal.fill_with_each_kind-requires-clause-elements
fill_with_each_kind-requires-clause-elements g c = ap length c.in_ok-store.ensures.element_levels ∙ length-range_with_len 0 1
