use Rattle.std.proofs.Common.{◌≡◌, ◌∙◌, ◌∷◌, ◌<◌, None, Some, ap, subst, sym}
use Rattle.words_holder.proofs.Firsts.{first_idle, first_noted, first_on, first_rest, spare_room}
use Rattle.words_rule.specs.HeldContents.{KnowsAll, held_content}
use Rattle.words_rule.specs.HolderPlays.{AreFreeSlots}
use Rattle.words_rule.specs.Passes.{view}
use Rattle.words_rule.specs.Views.{orders_of}
use Rattle.words_rule.specs.declared.view.View.{View}
use Rattle.words_rule.proofs.HolderHands.{knows_handed}
use Rattle.words_holder.proofs.holder.Holder.new.Goals as goal

pub await_list-list-requires-clause-own : goal.await_list-list-requires-clause-own
await_list-list-requires-clause-own g c = let l = c.learn.ensures.learnt in let m = c.await_memo-memo.ensures in (m.own.0, ap (λ (v : View). v.draws.live) m.taken ∙ ap (λ d. d.live) l.draws ∙ c.requires.own.0.1)

pub await_list-list-requires-clause-hold : goal.await_list-list-requires-clause-hold
await_list-list-requires-clause-hold g c = let l = c.learn.ensures.learnt in ap (λ (v : View). v.shares.order) c.await_memo-memo.ensures.taken ∙ ap (λ x. x.order) l.shares ∙ c.args.hold.held.0

pub await_list-list-requires-clause-knows : goal.await_list-list-requires-clause-knows
await_list-list-requires-clause-knows g c = subst KnowsAll (sym c.await_memo-memo.ensures.taken) (knows_handed (view c.learn.new.pass) _ c.learn.ensures.learnt.knows)

pub await_list-list-requires-clause-calm : goal.await_list-list-requires-clause-calm
await_list-list-requires-clause-calm g c = ap (λ (v : View). v.hand.taken) c.await_memo-memo.ensures.taken ∙ ap (λ h. h.taken) c.learn.ensures.learnt.hand ∙ c.requires.own.3.0

pub returns-clause-holds : goal.returns-clause-holds
returns-clause-holds g c =
    let h = c.args.hold in
    let o = c.requires.own in
    let m = c.await_memo-memo.ensures in
    let a = c.await_list-list.ensures in
    let list = c.await_list-list.result.0 in
    first_on c.args.guard.now h.pass c.await_list-list.new.pass (view c.learn.new.pass) list c.await_memo-memo.result o.0 h.held.0 h.held.1 (o.1, o.2) o.3 c.requires.idle.0 o.4.pending c.learn.ensures.learnt
    a.own.0 (a.taken ∙ ap (λ (v : View). record v { hand = record v.hand { free = Some list.slots } }) m.taken)
    (a.own.1 ∙ ap (λ l. (1, None) ∷ l) (m.own.1 ∙ ap (λ l. (2, None) ∷ l) (c.learn.ensures.own.1 ∙ c.requires.empty))) m.blank
    (a.room.0 ∙ ap (λ (v : View). v.draws.slots) m.taken) (subst (λ (v : View). AreFreeSlots (held_content v) list.slots) m.taken a.free)

pub returns-clause-home : goal.returns-clause-home
returns-clause-home g c =
    let h = c.args.hold in
    let m = c.await_memo-memo.ensures in
    let a = c.await_list-list.ensures in
    let list = c.await_list-list.result.0 in
    (a.own.0 ∙ sym c.requires.own.0.0, first_rest c.args.guard.now h.pass c.await_list-list.new.pass (view c.learn.new.pass) list c.learn.ensures.learnt (a.taken ∙ ap (λ (v : View). record v { hand = record v.hand { free = Some list.slots } }) m.taken))

pub returns-clause-orders : goal.returns-clause-orders
returns-clause-orders g c = ap (λ (v : View). orders_of v.known) c.await_list-list.ensures.taken ∙ ap (λ (v : View). orders_of v.known) c.await_memo-memo.ensures.taken ∙ ap (λ k. orders_of k) c.learn.ensures.learnt.known

pub returns-clause-settled : goal.returns-clause-settled
returns-clause-settled g c =
    let list = c.await_list-list.ensures.taken in
    let memo = c.await_memo-memo.ensures.taken in
    let l = c.learn.ensures.learnt in (
      ap (λ (v : View). v.known.half) list ∙ ap (λ (v : View). v.known.half) memo ∙ ap (λ k. k.half) l.known ∙ c.requires.own.4.half,
      ap (λ (v : View). v.counts.pins) list ∙ ap (λ (v : View). v.counts.pins) memo ∙ ap (λ k. k.pins) l.counts ∙ c.requires.fresh.0,
    )

pub returns-clause-noted : goal.returns-clause-noted
returns-clause-noted g c =
    let h = c.args.hold in
    let list = c.await_list-list.result.0 in
    first_noted c.args.guard.now h.pass c.await_list-list.new.pass (view c.learn.new.pass) list c.learn.ensures.learnt (c.await_list-list.ensures.taken ∙ ap (λ (v : View). record v { hand = record v.hand { free = Some list.slots } }) c.await_memo-memo.ensures.taken)

pub returns-clause-idle : goal.returns-clause-idle
returns-clause-idle g c =
    let h = c.args.hold in
    let m = c.await_memo-memo.ensures in
    let a = c.await_list-list.ensures in
    let list = c.await_list-list.result.0 in
    first_idle c.args.guard.now h.pass c.await_list-list.new.pass (view c.learn.new.pass) list c.requires.own.3 c.requires.idle.0 c.requires.idle.2 c.learn.ensures.learnt (a.taken ∙ ap (λ (v : View). record v { hand = record v.hand { free = Some list.slots } }) m.taken)

pub returns-clause-room : goal.returns-clause-room
returns-clause-room g c = spare_room _ _ _ (ap (λ (v : View). v.draws.slots) c.await_list-list.ensures.taken) c.await_list-list.ensures.room.1
