use Rattle.std.proofs.Common.{◌≡◌, ◌<◌, ◌-◌, Some, refl, sym, ap, ◌∙◌, subst}
use Rattle.step_store.specs.Chains.{Lists}
use Rattle.step_store.specs.Knowing.{Walk}
use Rattle.hold_store.specs.Held.{Knowledge}
use Rattle.hold_store.proofs.Passing.{ends, passes, passing_on, reaches, starts}
use Rattle.hold_store.proofs.chains.search.Goals as goal

pub loop-init : goal.loop-init
loop-init g c = record {
  own = c.requires.own;
  table = refl;
  rest = refl;
  same = refl;
  limit = c.limit-limit.ensures;
  passing = starts (g.S.Holds.known c.args.seat.now) c.args.bits c.args.first c.requires.along;
}

pub load_node-requires-clause-within : goal.load_node-requires-clause-within
load_node-requires-clause-within g c =
    let i = c.loop.invariant in
    subst (λ (k : Knowledge). c.loop.link - 1 < k.content.limit) (sym i.same) (reaches (g.S.Holds.known c.args.seat.now) c.args.bits c.loop.link c.loop.counter i.passing c.if-link-eq0.false).0

pub returns-then-load_node-bits-clause-found : goal.returns-then-load_node-bits-clause-found
returns-then-load_node-bits-clause-found g c =
    let i = c.loop.invariant in (
      (reaches (g.S.Holds.known c.args.seat.now) c.args.bits c.loop.link c.loop.counter i.passing c.if-link-eq0.false).0,
      ap (λ (k : Knowledge). k.bits (c.loop.link - 1)) (sym i.same) ∙ sym c.load_node.ensures.bits ∙ c.if-load_node-bits.true,
    )

pub load_next-link-requires-clause-on : goal.load_next-link-requires-clause-on
load_next-link-requires-clause-on g c =
    let i = c.loop.invariant in
    subst (λ (k : Knowledge). (n : Walk) × (k.hand.walk ≡ Some n) × Lists n.rest (c.loop.link - 1)) (sym (c.load_node.ensures.same ∙ i.same)) (passing_on (g.S.Holds.known c.args.seat.now) c.args.bits c.loop.link c.loop.counter i.passing c.if-link-eq0.false)

pub loop-preserved : goal.loop-preserved
loop-preserved g c =
    let i = c.loop.invariant in
    let k = g.S.Holds.known c.args.seat.now in
    record {
      own = c.load_next-link.ensures.own;
      table = c.load_next-link.ensures.home.0 ∙ c.load_node.ensures.home.0 ∙ i.table;
      rest = c.load_next-link.ensures.home.1 ∙ c.load_node.ensures.home.1 ∙ i.rest;
      same = c.load_next-link.ensures.same ∙ c.load_node.ensures.same ∙ i.same;
      limit = i.limit;
      passing = passes k c.args.bits c.loop.link c.loop.counter i.passing c.if-link-eq0.false
          (λ e. c.if-load_node-bits.false (c.load_node.ensures.bits ∙ ap (λ (x : Knowledge). x.bits (c.loop.link - 1)) i.same ∙ e))
          c.load_next-link.result
          (λ n front behind is parts. c.load_next-link.ensures.next n front behind (ap (λ (x : Knowledge). x.hand.walk) (c.load_node.ensures.same ∙ i.same) ∙ is) parts);
    }

pub returns-then-link-eq0-clause-none : goal.returns-then-link-eq0-clause-none
returns-then-link-eq0-clause-none g c = ends (g.S.Holds.known c.args.seat.now) c.args.bits c.loop.link c.loop.counter c.loop.invariant.passing c.if-link-eq0.true
