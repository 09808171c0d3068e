use Rattle.std.proofs.Common.{◌≡◌, Some, refl, sym, ap, ◌∙◌, subst}
use Rattle.step_store.specs.Chains.{Lists}
use Rattle.step_store.specs.Knowing.{Walk}
use Rattle.hold_store.specs.Held.{Knowledge}
use Rattle.hold_store.proofs.Passing.{begins, found, goes_on, on_walk}
use Rattle.hold_store.proofs.chains.slot_before.Goals as goal

pub loop-init : goal.loop-init
loop-init g c = record {
  own = c.requires.own;
  table = refl;
  rest = refl;
  same = refl;
  limit = c.limit-limit.ensures;
  passing = begins (g.S.Holds.known c.args.seat.now) c.args.first c.args.slot c.requires.behind;
}

pub load_next-link-requires-clause-on : goal.load_next-link-requires-clause-on
load_next-link-requires-clause-on g c =
    let i = c.loop.invariant in
    subst (λ (k : Knowledge). (n : Walk) × (k.hand.walk ≡ Some n) × Lists n.rest c.loop.before) (sym i.same) (on_walk (g.S.Holds.known c.args.seat.now) c.args.slot c.loop.before c.loop.counter i.passing)

pub returns-then-link-slot-clause-before : goal.returns-then-link-slot-clause-before
returns-then-link-slot-clause-before g c =
    let i = c.loop.invariant in
    found (g.S.Holds.known c.args.seat.now) c.args.slot c.loop.before c.loop.counter i.passing c.load_next-link.result
    (λ n front behind is parts. c.load_next-link.ensures.next n front behind (ap (λ (x : Knowledge). x.hand.walk) i.same ∙ is) parts) c.if-link-slot.true

pub overflow_sub-before : goal.overflow_sub-before
overflow_sub-before g c =
    let i = c.loop.invariant in
    (goes_on (g.S.Holds.known c.args.seat.now) c.args.slot c.loop.before c.loop.counter i.passing c.load_next-link.result
    (λ n front behind is parts. c.load_next-link.ensures.next n front behind (ap (λ (x : Knowledge). x.hand.walk) i.same ∙ is) parts) c.if-link-slot.false).0

pub loop-preserved : goal.loop-preserved
loop-preserved g c =
    let i = c.loop.invariant in
    record {
      own = c.load_next-link.ensures.own;
      table = c.load_next-link.ensures.home.0 ∙ i.table;
      rest = c.load_next-link.ensures.home.1 ∙ i.rest;
      same = c.load_next-link.ensures.same ∙ i.same;
      limit = i.limit;
      passing = (goes_on (g.S.Holds.known c.args.seat.now) c.args.slot c.loop.before c.loop.counter i.passing c.load_next-link.result
          (λ n front behind is parts. c.load_next-link.ensures.next n front behind (ap (λ (x : Knowledge). x.hand.walk) i.same ∙ is) parts) c.if-link-slot.false).1;
    }
