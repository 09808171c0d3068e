use Rattle.node_store.specs.declared.grow.Stop.TheVariants as stops
use Rattle.operator_calls.specs.Taking.{of_lent}
use Rattle.store_rows.proofs.Changes.{same-refl}
use Rattle.store_rows.proofs.Tries.{can-then, on-err, tells-then}
use Rattle.store_rows.proofs.row_store.RowStore.sweep_and_try.Goals as goal

pub try_once-made-requires : goal.try_once-made-requires
try_once-made-requires c = can-then c.args.self c.sweep-left.result.0 (of_lent c.args.making.now) c.sweep-left.ensures.same c.requires

pub returns-clause-tells : goal.returns-clause-tells
returns-clause-tells c = tells-then c.args.self c.sweep-left.result.0 c.try_once-made.new.self (of_lent c.args.making.now) c.try_once-made.result c.sweep-left.ensures.same c.try_once-made.ensures.tells

pub returns-clause-swept : goal.returns-clause-swept
returns-clause-swept c = λ full. record {
  start = c.args.self;
  same = same-refl c.args.self;
  between = c.sweep-left.result.0;
  swept = c.sweep-left.result.1;
  is_swept = c.sweep-left.ensures.swept;
  grown = on-err c.try_once-made.result stops.Full _ full c.try_once-made.ensures.grown;
}
