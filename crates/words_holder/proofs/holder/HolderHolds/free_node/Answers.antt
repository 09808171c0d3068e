use Rattle.std.proofs.Common.{◌∙◌, Some, ap, sym}
use Rattle.words_holder.proofs.Holding.{freed_on, lent_told, push_room}
use Rattle.words_holder.proofs.Telling.{can_free, freed_told}
use Rattle.words_rule.specs.Passes.{view}
use Rattle.words_holder.proofs.holder.HolderHolds.free_node.Goals as goal

pub free_node-requires-clause-within : goal.free_node-requires-clause-within
free_node-requires-clause-within g c = c.requires.own.has.loose c.args.slot c.requires.loose

pub free_node-requires-clause-loose : goal.free_node-requires-clause-loose
free_node-requires-clause-loose g c = (c.requires.own.has.taken, c.requires.loose)

pub free_node-requires-clause-hand : goal.free_node-requires-clause-hand
free_node-requires-clause-hand g c = (c.requires.own.has.memo_is, (c.args.self.now.list.slots, c.requires.own.has.list_is))

pub free_node-requires-clause-dead : goal.free_node-requires-clause-dead
free_node-requires-clause-dead g c = can_free (view c.args.self.now.pass) c.args.slot c.requires.dead

pub push-requires : goal.push-requires
push-requires g c = record { room = let s = c.args.self.now in let u = c.requires.dead.used in push_room s.guard.now s.pass s.pass s.list s.memo s.due c.requires.own c.args.slot u.0 u.1 (c.requires.own.has.loose c.args.slot c.requires.loose) }

pub returns-clause-own : goal.returns-clause-own
returns-clause-own g c =
    let s = c.args.self.now in
    let e = c.free_node.ensures in
    let u = c.requires.dead.used in
    freed_on s.guard.now s.pass c.free_node.new.pass s.list s.memo s.due c.requires.own e.own.0 e.own.1 c.push.new.self c.args.slot u.0 u.1 (c.requires.own.has.loose c.args.slot c.requires.loose) c.push.ensures.first c.push.ensures.room
    (e.freed s.list.slots c.requires.own.has.list_is)

pub returns-clause-freed : goal.returns-clause-freed
returns-clause-freed g c = λ list free. let s = c.args.self.now in let t = lent_told s.guard.now s.pass s.pass s.list s.memo s.due c.requires.own s.lent.free list free in freed_told (view s.pass) (view c.free_node.new.pass) s.renewed s.due s.lent list c.args.slot t.0 (c.free_node.ensures.freed list t.1)
