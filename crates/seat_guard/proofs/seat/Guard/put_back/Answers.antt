use Rattle.std.proofs.Common.{rules, sym, ap, subst, ◌∙◌, ◌∷◌, Some}
use Rattle.atomic_table.specs.Table.{rest}
use Rattle.seat_guard.specs.declared.view.View.{View}
use Rattle.seat_guard.specs.Turn.{Serves}
use Rattle.seat_guard.proofs.Keeps.{gives_turn}
use Rattle.seat_guard.proofs.seat.Guard.put_back.Goals as goal

pub store-requires : goal.store-requires
store-requires g c = let now = c.exchange.ensures.3 in let view = ap (λ m. m.0.draws) now in (
  search rules,
  search rules,
  gives_turn g.S.Content.keeps g.S.Content.board g.S.Content.counts g.S.Content.orders _ _ _ c.args.content g.E.Leaves.leaving (ap (λ d. d.holds) view ∙ c.requires.own.1)
      (ap (λ m. m.1) now ∙ ap (λ l. (0, Some c.args.content) ∷ rest l) c.requires.hand)
      (subst (λ (v : View). Serves g.S.Content.keeps g.S.Content.board g.S.Content.counts g.S.Content.orders c.args.content v.draws v.counts) (sym (ap (λ m. m.0) now)) c.requires.serves),
)
