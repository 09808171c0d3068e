use Rattle.std.proofs.Common.{◌∙◌, ap, length}
use Rattle.std.proofs.lemmas.List.FromFn.{length-range_with_len}
use Rattle.hit_tests.proofs.watched.Watched.new.Goals as goal

pub returns-clause-vars : goal.returns-clause-vars
returns-clause-vars g c = ap length c.in_ok-store.ensures.variable_levels ∙ length-range_with_len 0 c.args.vars

pub returns-clause-elements : goal.returns-clause-elements
returns-clause-elements g c = ap length c.in_ok-store.ensures.element_levels ∙ length-range_with_len 0 c.args.elements
