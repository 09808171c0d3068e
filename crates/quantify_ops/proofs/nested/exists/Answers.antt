use Rattle.std.proofs.Common.{ℕ, Bool, subst}
use Rattle.edge_bits.specs.declared.edges.Kind.TheVariants.{Bdd}
use Rattle.node_store.specs.Views.{Denotes}
use Rattle.node_store.proofs.Running.{Serves-named}
use Rattle.quantify_ops.proofs.OperationLaws.{with_true, true_and, true_value}
use Rattle.quantify_ops.proofs.nested.exists.Goals as goal

pub and_exists-requires-clause-operands : goal.and_exists-requires-clause-operands
and_exists-requires-clause-operands g c = with_true _ c.requires.permanent c.truth-one.result c.args.f c.truth-one.ensures c.requires.operand

pub returns-clause-runs : goal.returns-clause-runs
returns-clause-runs g c = λ vars d.
    let one = c.truth-one in let p = c.requires.permanent in
    Serves-named (λ e is. subst (λ (h : ℕ → Bool). Denotes Bdd (g.G.Grow.view c.and_exists.new.store) e h) (true_and _ p one.result c.args.f one.ensures vars) is) (λ bad. bad)
    (true_value _ p one.result c.args.f one.ensures vars) (c.and_exists.ensures.runs vars d)
