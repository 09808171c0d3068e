use Rattle.std.proofs.Common.{◌≡◌, ℕ, List, suc, ◌+◌, ◌-◌, None, ap, ◌∙◌, arith}
use Rattle.hold_store.specs.Held.{Knowledge, down, handed}
use Rattle.hold_store.proofs.Levels.{down_none, gave_last, has_last}
use Rattle.hold_store.proofs.turns.give_down.Goals as goal

pub give_turn-requires-clause-last : goal.give_turn-requires-clause-last
give_turn-requires-clause-last g c = let k = g.S.Holds.known c.args.seat.now in has_last k k (c.args.level + 1) c.requires.all c.args.level (omega arith)

pub loop-given-init : goal.loop-given-init
loop-given-init g c =
    let k = g.S.Holds.known c.args.seat.now in
    let same : c.args.level ≡ c.args.level - 0 = omega arith in
    record {
      own = c.give_turn.ensures.own;
      table = c.give_turn.ensures.home.0;
      rest = c.give_turn.ensures.home.1;
      known = gave_last k (g.S.Holds.known c.give_turn.new.self) (c.args.level + 1) c.requires.all c.args.level (omega arith) c.give_turn.ensures.given
          ∙ ap (λ (n : ℕ). handed k (record k.hand { levels = down n; walk = None })) same;
    }

pub give_turn-requires-in-loop-given-clause-own : goal.give_turn-requires-in-loop-given-clause-own
give_turn-requires-in-loop-given-clause-own g c = c.loop-given.invariant.own

pub give_turn-requires-in-loop-given-clause-last : goal.give_turn-requires-in-loop-given-clause-last
give_turn-requires-in-loop-given-clause-last g c =
    let l = c.loop-given in
    let k = g.S.Holds.known l.seat in
    let lt = c.loop-given-test.true in
    let one : c.args.level - l.given ≡ suc (c.args.level - 1 - l.given) = omega (arith, lt) in
    has_last k k (c.args.level - l.given) (ap (λ (x : Knowledge). x.hand.levels) l.invariant.known) (c.args.level - 1 - l.given) one

pub give_turn-requires-in-loop-given-clause-calm : goal.give_turn-requires-in-loop-given-clause-calm
give_turn-requires-in-loop-given-clause-calm g c = ap (λ (x : Knowledge). x.hand.loose) c.loop-given.invariant.known ∙ c.requires.calm

pub loop-given-preserved : goal.loop-given-preserved
loop-given-preserved g c =
    let k = g.S.Holds.known c.args.seat.now in
    let l = c.loop-given in
    let i = l.invariant in
    let now = g.S.Holds.known l.seat in
    let lt = c.loop-given-test.true in
    let one : c.args.level - l.given ≡ suc (c.args.level - 1 - l.given) = omega (arith, lt) in
    let less : c.args.level - 1 - l.given ≡ c.args.level - (l.given + 1) = omega (arith, lt) in
    let e = c.give_turn-in-loop-given.ensures in
    record {
      own = e.own;
      table = e.home.0 ∙ i.table;
      rest = e.home.1 ∙ i.rest;
      known = gave_last now (g.S.Holds.known c.give_turn-in-loop-given.new.self) (c.args.level - l.given) (ap (λ (x : Knowledge). x.hand.levels) i.known) (c.args.level - 1 - l.given) one e.given
          ∙ ap (λ (x : Knowledge). handed x (record x.hand { levels = down (c.args.level - 1 - l.given); walk = None })) i.known
          ∙ ap (λ (n : ℕ). handed k (record k.hand { levels = down n; walk = None })) less;
    }

pub returns-clause-given : goal.returns-clause-given
returns-clause-given g c =
    let k = g.S.Holds.known c.args.seat.now in
    let l = c.loop-given in
    let le = c.loop-given-test.false in
    let none : c.args.level - l.given ≡ 0 = omega (arith, le) in
    l.invariant.known ∙ ap (λ (xs : List ℕ). handed k (record k.hand { levels = xs; walk = None })) (ap down none ∙ down_none)
