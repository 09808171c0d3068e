use Rattle.node_slots.specs.Stores.{lent_room}
use Rattle.std.proofs.Common.{sym, subst}
use Rattle.step_store.specs.Knowing.{Learns, Meets}
use Rattle.words_rule.specs.Known.{known_of}
use Rattle.words_rule.specs.Passes.{view}
use Rattle.words_rule.specs.Steppers.{knows}
use Rattle.words_rule.proofs.Steppers.{node_loaded_on, own_same}
use Rattle.words_rule.proofs.stepper.StepperSteps.load_node.Goals as goal

pub load_node-requires-clause-few : goal.load_node-requires-clause-few
load_node-requires-clause-few g c = c.requires.own.stands.few_fulls

pub returns-clause-own : goal.returns-clause-own
returns-clause-own g c = let s = c.args.self.now in let e = c.load_node.ensures in node_loaded_on g.S.Content.free_slots g.S.Content.memo s.guard.now s.pass c.load_node.new.pass s.free s.memo (lent_room s.scratch) c.requires.own e.own.0 e.own.1 e.stands.0 e.stands.1 e.stands.2 c.args.slot c.load_node.result e.loaded

pub returns-clause-learns : goal.returns-clause-learns
returns-clause-learns g c = let s = c.args.self.now in let e = c.load_node.ensures in let v = view c.load_node.new.pass in subst (λ o. Learns (knows (view s.pass) (lent_room s.scratch)) (known_of v o)) (sym (own_same (view s.pass) v (lent_room s.scratch) e.stands.2 e.stands.0.draws)) e.loaded.learns

pub returns-clause-meets : goal.returns-clause-meets
returns-clause-meets g c = λ word reads. let s = c.args.self.now in let e = c.load_node.ensures in let v = view c.load_node.new.pass in subst (λ o. Meets (known_of v o) c.args.slot c.load_node.result word) (sym (own_same (view s.pass) v (lent_room s.scratch) e.stands.2 e.stands.0.draws)) (e.loaded.meets word reads)
