use Rattle.std.proofs.Common.{◌≡◌, ap, sym, ◌∙◌}
use Rattle.hold_store.specs.Held as held
use Rattle.words_rule.specs.declared.view.View.{View}
use Rattle.words_rule.specs.Known.{link_of}
use Rattle.words_rule.specs.Passes.{view}
use Rattle.words_rule.specs.Views.{orders_of, told_orders}
use Rattle.words_rule.proofs.HandClauses.{none_back}
use Rattle.word_tests.proofs.HeldRests.{at_rest, none_among, spare_again, table_of, told_of}
use Rattle.word_tests.proofs.sweeps.sweep_held.Goals as goal

pub swept-holder-requires-clause-rest : goal.swept-holder-requires-clause-rest
swept-holder-requires-clause-rest g c =
    let n = c.new-holder.ensures in
    let h = c.new-holder.result.0 in
    at_rest (view h.pass) h.renewed h.due h.lent c.new-holder.result.1 n.idle n.settled.0 n.settled.1 n.room

pub into_hold-requires-clause-room : goal.into_hold-requires-clause-room
into_hold-requires-clause-room g c =
    let h = c.swept-holder.result.0 in
    spare_again (view h.pass) h.renewed h.due h.lent c.swept-holder.result.1 c.swept-holder.ensures.rest

pub returns : goal.returns
returns g c =
    let n = c.new-holder.ensures in
    let s = c.swept-holder.ensures in
    let i = c.into_hold.ensures in
    let q = view c.swept-holder.result.0.pass in
    let idle = s.rest.idle in
    let own = i.own in
    let table = i.home.0 ∙ ap table_of s.home.1 ∙ n.home.0 ∙ c.requires.held.own.0.0 in
    let orders = s.swept.2.orders ∙ n.orders in
    let told = ap told_of s.home.1 ∙ ap (λ r. record { variables = r.told_variables; elements = r.told_elements }) n.home.1 in
    record {
      own = ((table, own.0.1), own.1, own.2, own.3, own.4);
      levels = ap (λ (v : View). v.hand.levels) i.left ∙ ap (λ (h : held.Hand). h.levels) idle;
      list = ap (λ (v : View). v.hand.free) i.left;
      link = ap (λ (v : View). v.hand.link) i.left ∙ none_back link_of q.hand.link (ap (λ (h : held.Hand). h.link) idle);
      memo = ap (λ (v : View). v.hand.memo) i.left;
      pins = ap (λ (v : View). v.counts.pins) i.left ∙ none_among q.counts.pins s.rest.unpinned;
      told = ap (λ (v : View). orders_of v.known) i.left ∙ orders ∙ c.requires.held.told ∙ sym (ap (λ (v : View). told_orders v.known) i.left ∙ told);
      out = i.empty;
    }
