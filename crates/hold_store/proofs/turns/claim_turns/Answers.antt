use Rattle.std.proofs.Common.{◌≡◌, ℕ, List, ◌∷◌, suc, ◌+◌, refl, sym, ap, ◌∙◌, arith}
use Rattle.hold_store.specs.Held.{Knowledge, down, handed}
use Rattle.hold_store.proofs.Levels.{down_more, down_none}
use Rattle.hold_store.proofs.turns.claim_turns.Goals as goal

pub loop-level-init : goal.loop-level-init
loop-level-init g c =
    let k = g.S.Holds.known c.args.seat.now in
    record {
      own = c.requires.own;
      table = refl;
      rest = refl;
      known = ap (λ (l : List ℕ). handed k (record k.hand { levels = l })) (c.requires.none ∙ sym down_none);
    }

pub loop-level-preserved : goal.loop-level-preserved
loop-level-preserved g c =
    let k = g.S.Holds.known c.args.seat.now in
    let l = c.loop-level in
    let i = l.invariant in
    let more : down (l.level + 1) ≡ l.level ∷ down l.level = ap down (let e : l.level + 1 ≡ suc l.level = omega arith in e) ∙ down_more l.level in
    record {
      own = c.claim_turn.ensures.own;
      table = c.claim_turn.ensures.home.0 ∙ i.table;
      rest = c.claim_turn.ensures.home.1 ∙ i.rest;
      known = c.claim_turn.ensures.taken ∙ ap (λ (x : Knowledge). handed x (record x.hand { levels = l.level ∷ x.hand.levels })) i.known
          ∙ ap (λ (xs : List ℕ). handed k (record k.hand { levels = xs })) (sym more);
    }
