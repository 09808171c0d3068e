use Rattle.std.proofs.Common.{◌<◌, sym, subst}
use Rattle.words_rule.specs.Known.{Own, known_of}
use Rattle.words_rule.specs.Loads.{LoadedNode}
use Rattle.words_rule.specs.Passes.{view}
use Rattle.words_rule.proofs.known_steps.load_node.Goals as goal

pub load_node-requires-clause-few : goal.load_node-requires-clause-few
load_node-requires-clause-few g c = subst (λ (o : Own). o.fulls < 18446744073709551616) (sym c.requires.same) c.requires.few

pub returns-clause-loaded : goal.returns-clause-loaded
returns-clause-loaded g c = subst (λ (o : Own). LoadedNode (known_of (view c.args.pass.now) o) (known_of (view c.load_node.new.pass) o) c.args.slot c.load_node.result) c.requires.same c.load_node.ensures.loaded
