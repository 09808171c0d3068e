use Rattle.node_slots.specs.Stores.{lent_room}
use Rattle.words_rule.specs.Passes.{view}
use Rattle.words_rule.proofs.Steppers.{node_stored_on, stored_same}
use Rattle.words_rule.proofs.stepper.StepperSteps.store_node.Goals as goal

pub store_node-requires-clause-within : goal.store_node-requires-clause-within
store_node-requires-clause-within g c = c.requires.own.within.taken _ c.requires.taken

pub store_node-requires-clause-few : goal.store_node-requires-clause-few
store_node-requires-clause-few g c = c.requires.own.stands.few_fulls

pub returns-clause-own : goal.returns-clause-own
returns-clause-own g c = let s = c.args.self.now in let e = c.store_node.ensures in node_stored_on g.S.Content.free_slots g.S.Content.memo s.guard.now s.pass c.store_node.new.pass s.free s.memo (lent_room s.scratch) c.requires.own e.own.0 e.own.1 e.stands.0 c.args.slot c.args.bits e.stands.1 (c.requires.own.within.taken _ c.requires.taken) e.stored

pub returns-clause-grows : goal.returns-clause-grows
returns-clause-grows g c = let s = c.args.self.now in let e = c.store_node.ensures in (stored_same (view s.pass) (view c.store_node.new.pass) (lent_room s.scratch) c.args.slot c.args.bits e.stands.1 e.stands.0.draws e.stored).grows

pub returns-clause-hand : goal.returns-clause-hand
returns-clause-hand g c = let s = c.args.self.now in let e = c.store_node.ensures in (stored_same (view s.pass) (view c.store_node.new.pass) (lent_room s.scratch) c.args.slot c.args.bits e.stands.1 e.stands.0.draws e.stored).hand

pub returns-clause-noted : goal.returns-clause-noted
returns-clause-noted g c = let s = c.args.self.now in let e = c.store_node.ensures in (stored_same (view s.pass) (view c.store_node.new.pass) (lent_room s.scratch) c.args.slot c.args.bits e.stands.1 e.stands.0.draws e.stored).noted

pub returns-clause-stored : goal.returns-clause-stored
returns-clause-stored g c = let s = c.args.self.now in let e = c.store_node.ensures in (stored_same (view s.pass) (view c.store_node.new.pass) (lent_room s.scratch) c.args.slot c.args.bits e.stands.1 e.stands.0.draws e.stored).stored

pub returns-clause-made : goal.returns-clause-made
returns-clause-made g c = let s = c.args.self.now in let e = c.store_node.ensures in (stored_same (view s.pass) (view c.store_node.new.pass) (lent_room s.scratch) c.args.slot c.args.bits e.stands.1 e.stands.0.draws e.stored).made

pub returns-clause-fulls : goal.returns-clause-fulls
returns-clause-fulls g c = let s = c.args.self.now in let e = c.store_node.ensures in (stored_same (view s.pass) (view c.store_node.new.pass) (lent_room s.scratch) c.args.slot c.args.bits e.stands.1 e.stands.0.draws e.stored).fulls

pub returns-clause-due : goal.returns-clause-due
returns-clause-due g c = let s = c.args.self.now in let e = c.store_node.ensures in (stored_same (view s.pass) (view c.store_node.new.pass) (lent_room s.scratch) c.args.slot c.args.bits e.stands.1 e.stands.0.draws e.stored).due
