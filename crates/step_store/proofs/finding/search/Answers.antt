use Rattle.std.proofs.Common.{refl, inr, sym, ap, ◌∙◌, subst, ◌+◌}
use Rattle.step_store.specs.Knowing.{Hand, Knowledge}
use Rattle.step_store.proofs.Learning.{learns_refl, learns_trans, learns_equal}
use Rattle.step_store.proofs.Passing.{IsPassing, begins, ends, met, reaches, found_here, passes}
use Rattle.step_store.proofs.finding.search.Goals as goal

pub loop-init : goal.loop-init
loop-init g c = record {
  own = c.requires.own;
  table = refl;
  rest = refl;
  learns = learns_refl (g.S.Steps.known c.args.seat.now);
  hand = refl;
  limit = c.limit-limit.ensures;
  passing = begins (g.S.Steps.known c.args.seat.now) c.args.bits c.args.first c.requires.along;
}

pub load_node-requires-clause-within : goal.load_node-requires-clause-within
load_node-requires-clause-within g c =
    let i = c.loop.invariant in reaches (g.S.Steps.known c.args.seat.now) (g.S.Steps.known c.loop.seat) c.args.bits c.loop.link c.loop.counter i.passing i.learns c.if-link-eq0.false

pub returns-then-load_node-bits-clause-found : goal.returns-then-load_node-bits-clause-found
returns-then-load_node-bits-clause-found g c =
    let i = c.loop.invariant in
    found_here (g.S.Steps.known c.args.seat.now) (g.S.Steps.known c.loop.seat) c.args.bits c.loop.link c.loop.counter i.passing c.if-link-eq0.false (g.S.Steps.known c.load_node.new.self) c.load_node.result i.learns
    c.load_node.ensures.learns c.if-load_node-bits.true c.load_node.ensures.meets

pub load_next-link-requires-clause-on : goal.load_next-link-requires-clause-on
load_next-link-requires-clause-on g c =
    let i = c.loop.invariant in
    let m = met (g.S.Steps.known c.args.seat.now) (g.S.Steps.known c.loop.seat) c.args.bits c.loop.link c.loop.counter i.passing i.learns i.hand c.if-link-eq0.false in
    (m.0, ap (λ (h : Hand). h.walk) c.load_node.ensures.hand ∙ m.1, m.2)

pub loop-preserved : goal.loop-preserved
loop-preserved g c =
    let i = c.loop.invariant in
    let old = g.S.Steps.known c.args.seat.now in
    let k = g.S.Steps.known c.loop.seat in
    let new = g.S.Steps.known c.load_node.new.self in
    let last = g.S.Steps.known c.load_next-link.new.self in
    let m = met old k c.args.bits c.loop.link c.loop.counter i.passing i.learns i.hand c.if-link-eq0.false in
    record {
      own = c.load_next-link.ensures.own;
      table = c.load_next-link.ensures.home.0 ∙ c.load_node.ensures.home.0 ∙ i.table;
      rest = c.load_next-link.ensures.home.1 ∙ c.load_node.ensures.home.1 ∙ i.rest;
      learns = learns_trans i.learns (learns_trans c.load_node.ensures.learns (learns_equal new last c.load_next-link.ensures.same));
      hand = ap (λ (x : Knowledge). x.hand) c.load_next-link.ensures.same ∙ c.load_node.ensures.hand ∙ i.hand;
      limit = i.limit;
      passing = subst (λ (x : Knowledge). IsPassing old x c.args.bits c.load_next-link.result (c.loop.counter + 1)) (sym c.load_next-link.ensures.same)
          (passes old k c.args.bits c.loop.link c.loop.counter i.passing c.if-link-eq0.false new c.load_node.result c.load_next-link.result c.load_node.ensures.learns c.load_node.ensures.meets
          (c.load_node.ensures.used (inr m)) c.if-load_node-bits.false
          (λ front behind parts. c.load_next-link.ensures.next i.passing.walk front behind (ap (λ (h : Hand). h.walk) (c.load_node.ensures.hand ∙ i.hand) ∙ i.passing.is) parts));
    }

pub returns-then-link-eq0-clause-none : goal.returns-then-link-eq0-clause-none
returns-then-link-eq0-clause-none g c = ends (g.S.Steps.known c.args.seat.now) (g.S.Steps.known c.loop.seat) c.args.bits c.loop.link c.loop.counter c.loop.invariant.passing c.if-link-eq0.true
