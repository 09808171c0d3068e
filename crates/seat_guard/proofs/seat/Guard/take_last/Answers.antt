use Rattle.std.proofs.Common.{rules, sym, ap, subst, ◌∙◌, ◌∷◌, Some}
use Rattle.atomic_table.specs.Table.{rest}
use Rattle.seat_guard.specs.declared.view.View.{View}
use Rattle.seat_guard.specs.Rule.{AllBack}
use Rattle.seat_guard.proofs.Keeps.{takes_last}
use Rattle.seat_guard.proofs.seat.Guard.take_last.Goals as goal

pub compare_exchange-found-requires : goal.compare_exchange-found-requires
compare_exchange-found-requires g c = let same = c.loop.invariant.1 in (
  search rules,
  search rules,
  takes_last g.S.Content.keeps g.S.Content.board g.S.Content.counts g.S.Content.orders _ _ _ (ap (λ m. m.0.draws.closing) same ∙ c.requires.own.1) (ap (λ m. m.1) same ∙ c.requires.own.2) (subst (λ (v : View). AllBack v.draws) (sym (ap (λ m. m.0) same)) c.requires.back),
)

pub exchange-requires : goal.exchange-requires
exchange-requires g c = let t = c.compare_exchange-found.ensures.2.0 c.if-found-eq0.true in (search rules, (Some t.0, t.2 ∙ ap (λ l. (0, Some t.0) ∷ l) (sym (ap rest t.2))))
