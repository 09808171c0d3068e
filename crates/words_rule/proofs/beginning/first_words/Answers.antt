use Rattle.words_rule.specs.Shapes.{shape_by}
use Rattle.words_rule.proofs.NewTables.{are_first, heads_empty, nodes_empty}
use Rattle.words_rule.proofs.beginning.first_words.Goals as goal

pub write_nodes-requires-clause-empty : goal.write_nodes-requires-clause-empty
write_nodes-requires-clause-empty c = nodes_empty (shape_by c.args.sizes.now) c.write_orders.new.words.items c.write_orders.ensures.empty

pub link_nodes-requires-clause-empty : goal.link_nodes-requires-clause-empty
link_nodes-requires-clause-empty c = heads_empty (shape_by c.args.sizes.now) c.write_orders.new.words.items c.write_nodes.new.words.items c.write_orders.ensures.empty c.write_nodes.ensures.nodes

pub returns-clause-first : goal.returns-clause-first
returns-clause-first c = are_first (shape_by c.args.sizes.now) c.write_orders.new.words.items c.write_nodes.new.words.items c.link_nodes.new.words.items c.write_orders.ensures.orders c.write_orders.ensures.empty c.write_nodes.ensures.nodes c.link_nodes.ensures.linked
