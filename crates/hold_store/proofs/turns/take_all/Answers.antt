use Rattle.std.proofs.Common.{Some, sym, ap, ◌∙◌}
use Rattle.hold_store.specs.Held.{Hand, Knowledge, handed}
use Rattle.hold_store.proofs.Levels.{all_taken}
use Rattle.hold_store.proofs.turns.take_all.Goals as goal

pub claim_turns-requires-clause-none : goal.claim_turns-requires-clause-none
claim_turns-requires-clause-none g c = ap (λ (h : Hand). h.levels) c.requires.idle

pub returns-clause-ready : goal.returns-clause-ready
returns-clause-ready g c =
    let k = g.S.Holds.known c.args.seat.now in
    let f = c.claim_free.ensures.taken in
    all_taken k (g.S.Holds.known c.claim_free.new.seat) f.0 c.requires.idle (f.1 ∙ ap (λ (x : Knowledge). handed x (record x.hand { free = Some f.0 })) c.claim_turns.ensures.taken)

pub returns-clause-same : goal.returns-clause-same
returns-clause-same g c =
    let k = g.S.Holds.known c.args.seat.now in
    let f = c.claim_free.ensures.taken in
    let e = f.1 ∙ ap (λ (x : Knowledge). handed x (record x.hand { free = Some f.0 })) c.claim_turns.ensures.taken in
    e ∙ ap (λ (h : Hand). handed k h) (sym (ap (λ (x : Knowledge). x.hand) e))

pub returns-clause-named : goal.returns-clause-named
returns-clause-named g c =
    let f = c.claim_free.ensures.taken in
    ap (λ (x : Knowledge). x.hand.named) (f.1 ∙ ap (λ (x : Knowledge). handed x (record x.hand { free = Some f.0 })) c.claim_turns.ensures.taken) ∙ ap (λ (h : Hand). h.named) c.requires.idle
