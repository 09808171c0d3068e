use Rattle.std.proofs.Common.{rules, ◌∷◌, Some, ap, sym, ◌∙◌, arith}
use Rattle.atomic_table.specs.Table.{rest}
use Rattle.words_rule.proofs.Calls.{call_take_board}
use Rattle.words_rule.proofs.seat.Guard.take_board.Goals as goal

pub compare_exchange-found-requires : goal.compare_exchange-found-requires
compare_exchange-found-requires g c = (search rules, (let w = c.args.pass.now.words_are in let s = ap (λ i. i.words) c.requires.own.0 in omega (arith, w, s)), call_take_board g.S.Content.board g.S.Content.free_slots g.S.Content.memo _ _ c.args.pass.now.seat.me _ (let n = c.args.pass.now.number_is.0 in omega (arith, n)) c.requires.own.1)

pub exchange-requires : goal.exchange-requires
exchange-requires g c = let t = c.compare_exchange-found.ensures.2.0 c.if-found-eq0.true in let e = ap (λ m. m.1) t.3 in (search rules, (Some t.0, e ∙ ap (λ l. (0, Some t.0) ∷ l) (sym (ap rest e))))
