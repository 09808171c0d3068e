use Rattle.std.proofs.Common.{◌≡◌, ◌∷◌, ◌∙◌, Some, ap, subst, sym}
use Rattle.edge_bits.specs.declared.words.Word.TheVariants.{Inner}
use Rattle.step_store.specs.Chains.{Lists}
use Rattle.words_holder.proofs.Holding.{added_on, first_within, home_on, lent_told, level_same, rest_still, taken_off}
use Rattle.words_holder.proofs.Telling.{addable, added_told}
use Rattle.words_rule.specs.HeldContents.{held_content}
use Rattle.words_rule.specs.HolderPlays.{HasAdded}
use Rattle.words_rule.specs.Passes.{view}
use Rattle.words_rule.proofs.HandClauses.{stands_at}
use Rattle.words_holder.proofs.holder.HolderHolds.store_node.Goals as goal

pub add_node-requires-clause-within : goal.add_node-requires-clause-within
add_node-requires-clause-within g c = let s = c.args.self.now in let f = c.requires.first in first_within s.guard.now s.pass s.pass s.list s.memo s.due c.requires.own c.args.slot f.0 (lent_told s.guard.now s.pass s.pass s.list s.memo s.due c.requires.own s.lent.free (c.args.slot ∷ f.0) f.1).2

pub add_node-requires-clause-free : goal.add_node-requires-clause-free
add_node-requires-clause-free g c = let s = c.args.self.now in let f = c.requires.first in (f.0, (lent_told s.guard.now s.pass s.pass s.list s.memo s.due c.requires.own s.lent.free (c.args.slot ∷ f.0) f.1).1)

pub add_node-requires-clause-calm : goal.add_node-requires-clause-calm
add_node-requires-clause-calm g c = (c.requires.own.has.taken, c.requires.calm)

pub add_node-requires-clause-new : goal.add_node-requires-clause-new
add_node-requires-clause-new g c = let v = view c.args.self.now.pass in let n = c.requires.new in (n.0, n.1, n.2, addable n.0 (held_content v) n.1 n.3, stands_at v.hand.levels _ (subst (Lists v.hand.levels) (sym (level_same v c.requires.own.has.knows_all (Inner n.1))) n.4))

pub returns-clause-own : goal.returns-clause-own
returns-clause-own g c =
    let s = c.args.self.now in
    let v = view s.pass in
    let q = c.add_node.new.pass in
    let f = c.requires.first in
    let n = c.requires.new in
    let e = c.add_node.ensures in
    let t = lent_told s.guard.now s.pass s.pass s.list s.memo s.due c.requires.own s.lent.free (c.args.slot ∷ f.0) f.1 in
    let off = taken_off c.take_first.result s.list.slots c.take_first.new.self.slots c.args.slot f.0 c.take_first.ensures.some c.take_first.ensures.none t.2 in
    added_on s.guard.now s.pass q s.list s.memo s.due c.requires.own e.own.0 e.own.1 c.take_first.new.self n.0 n.1 c.args.slot c.args.bits
    (first_within s.guard.now s.pass s.pass s.list s.memo s.due c.requires.own c.args.slot f.0 t.2)
    off.0 c.take_first.ensures.room (subst (λ l. HasAdded n.0 n.1 l c.args.slot c.args.bits v (view q)) off.1 (e.added n.0 n.1 f.0 n.2 (addable n.0 (held_content v) n.1 n.3) t.1))

pub returns-clause-stored : goal.returns-clause-stored
returns-clause-stored g c = λ k node list reads new free.
    let s = c.args.self.now in
    let v = view s.pass in
    let t = lent_told s.guard.now s.pass s.pass s.list s.memo s.due c.requires.own s.lent.free (c.args.slot ∷ list) free in
    added_told v (view c.add_node.new.pass) s.renewed s.due s.lent k node list c.args.slot c.args.bits t.0 (c.add_node.ensures.added k node list reads (addable k (held_content v) node new) t.1)

pub returns-clause-home : goal.returns-clause-home
returns-clause-home g c =
    let s = c.args.self.now in
    let v = view s.pass in
    let q = c.add_node.new.pass in
    let f = c.requires.first in
    let n = c.requires.new in
    let e = c.add_node.ensures in
    let t = lent_told s.guard.now s.pass s.pass s.list s.memo s.due c.requires.own s.lent.free (c.args.slot ∷ f.0) f.1 in
    home_on s.guard.now s.pass q s.list s.memo s.due c.requires.own e.own.0 (rest_still v (view q) (e.added n.0 n.1 f.0 n.2 (addable n.0 (held_content v) n.1 n.3) t.1).still)
