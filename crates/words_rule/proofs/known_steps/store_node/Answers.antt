use Rattle.std.proofs.Common.{◌<◌, sym, subst}
use Rattle.words_rule.specs.Known.{Own, known_of, with_made}
use Rattle.words_rule.specs.Loads.{StoredNode}
use Rattle.words_rule.specs.Passes.{view}
use Rattle.words_rule.proofs.known_steps.store_node.Goals as goal

pub store_node-requires-clause-few : goal.store_node-requires-clause-few
store_node-requires-clause-few g c = subst (λ (o : Own). o.fulls < 18446744073709551616) (sym c.requires.same) c.requires.few

pub returns-clause-stored : goal.returns-clause-stored
returns-clause-stored g c = subst (λ (o : Own). StoredNode (known_of (view c.args.pass.now) o) (known_of (view c.store_node.new.pass) (with_made o c.args.slot)) c.args.slot c.args.bits) c.requires.same c.store_node.ensures.stored
