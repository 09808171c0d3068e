use Rattle.std.proofs.Common.{ℕ, Bool, subst}
use Rattle.edge_bits.specs.declared.edges.Kind.TheVariants.{Bdd}
use Rattle.node_store.specs.Views.{Denotes}
use Rattle.node_store.proofs.Running.{Serves-named}
use Rattle.quantify_ops.proofs.OperationLaws.{with_true, true_and, true_work}
use Rattle.quantify_ops.proofs.quantifiers.ExistsOperation.run.Goals as goal

pub over_product-requires-clause-operands : goal.over_product-requires-clause-operands
over_product-requires-clause-operands g c = with_true _ c.requires.permanent c.truth-one.result c.args.self.f c.truth-one.ensures c.requires.asks.operand

pub returns-clause-runs : goal.returns-clause-runs
returns-clause-runs g c =
    let one = c.truth-one in let p = c.requires.permanent in let vars = c.args.self.vars.now in
    Serves-named (λ e is. subst (λ (h : ℕ → Bool). Denotes Bdd (g.G.Grow.view c.over_product.new.store) e h) (true_and _ p one.result c.args.self.f one.ensures vars) is) (λ bad. bad)
    (true_work _ p one.result c.args.self.f one.ensures vars) c.over_product.ensures.runs
