use Rattle.std.proofs.Common.{rules, ◌∷◌, Some, ap, sym, ◌∙◌, arith}
use Rattle.atomic_table.specs.Table.{rest}
use Rattle.words_rule.proofs.HolderHands.{claims_memo}
use Rattle.words_rule.proofs.seat.Guard.claim_memo.Goals as goal

pub compare_exchange-found-requires : goal.compare_exchange-found-requires
compare_exchange-found-requires g c = (search rules, (let w = c.args.pass.now.words_are in let s = ap (λ i. i.words) c.requires.own.0 in omega (arith, w, s)), claims_memo g.S.Content.board g.S.Content.free_slots g.S.Content.memo _ _ _ _ c.requires.own.1 (λ e. omega (arith, e)))

pub exchange-requires : goal.exchange-requires
exchange-requires g c = let t = c.compare_exchange-found.ensures.2.1 c.if-found-eq0.true in let e = ap (λ m. m.1) t.1 in (search rules, (Some t.0, e ∙ ap (λ l. (2, Some t.0) ∷ l) (sym (ap rest e))))
