use Rattle.std.proofs.Common.{rules, sym, ap, ◌∙◌, arith, ◌∷◌, Some}
use Rattle.atomic_table.specs.Table.{rest}
use Rattle.seat_guard.proofs.Keeps.{takes_turn}
use Rattle.seat_guard.proofs.seat.Guard.take.Goals as goal

pub compare_exchange-found-requires : goal.compare_exchange-found-requires
compare_exchange-found-requires g c = let same = c.loop.invariant.1 in (
  search rules,
  search rules,
  takes_turn g.S.Content.keeps g.S.Content.board g.S.Content.counts g.S.Content.orders g.S.Content.functions _ _ _ _ (ap (λ m. m.0.draws.live) same ∙ c.requires.1) (ap (λ m. m.1) same ∙ c.requires.3) (let n = c.args.pass.now.number_is.0 in let s = ap (λ m. m.0.draws.session) same in omega (arith, n, s)),
)

pub exchange-requires : goal.exchange-requires
exchange-requires g c = let t = c.compare_exchange-found.ensures.2.0 c.if-found-eq0.true in (search rules, (Some t.0, t.3 ∙ ap (λ l. (0, Some t.0) ∷ l) (sym (ap rest t.3))))
