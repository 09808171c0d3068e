use Rattle.std.proofs.Common.{ap, sym, subst}
use Rattle.step_store.specs.Knowing.{IsChain, Knowledge}
use Rattle.step_store.proofs.Learning.{learns_same, learns_trans}
use Rattle.step_store.proofs.Passing.{walked_none}
use Rattle.step_store.proofs.finding.find.Goals as goal

pub search-requires-clause-along : goal.search-requires-clause-along
search-requires-clause-along g c =
    let l = c.load_head-first.ensures.loaded in
    (record { head = c.args.head; level = c.args.level; rest = l.0 }, ap (λ (x : Knowledge). x.hand.walk) l.1, l.2, subst (λ (x : Knowledge). IsChain x.view.slots l.0) (sym l.1) l.3)

pub returns-clause-learns : goal.returns-clause-learns
returns-clause-learns g c = learns_trans (learns_same (g.S.Steps.known c.args.seat.now) (g.S.Steps.known c.load_head-first.new.self) _ c.load_head-first.ensures.loaded.1) c.search.ensures.learns

pub returns-clause-none : goal.returns-clause-none
returns-clause-none g c = walked_none c.search.result (g.S.Steps.known c.args.seat.now) (g.S.Steps.known c.load_head-first.new.self) (g.S.Steps.known c.search.new.seat) c.args.head c.args.level c.args.bits c.load_head-first.ensures.loaded.0
    c.load_head-first.ensures.loaded.1 c.search.ensures.hand c.search.ensures.none
