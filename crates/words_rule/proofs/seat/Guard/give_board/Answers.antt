use Rattle.std.proofs.Common.{rules, ◌∷◌, Some, ap, sym, ◌∙◌, arith}
use Rattle.atomic_table.specs.Table.{rest}
use Rattle.words_rule.specs.Views.{shown}
use Rattle.words_rule.proofs.Boards.{gives_board}
use Rattle.words_rule.proofs.seat.Guard.give_board.Goals as goal

pub store-requires : goal.store-requires
store-requires g c = let now = c.exchange.ensures.3 in let view = ap (λ m. m.0) now in (
  search rules,
  (let w = c.args.pass.now.words_are in let s = ap (λ i. i.words) c.requires.own.0 in omega (arith, w, s)),
  gives_board g.S.Content.board g.S.Content.free_slots g.S.Content.memo _ _ c.exchange.new.seat.me c.args.content (ap (λ v. v.draws.live) view ∙ c.requires.own.1) (ap (λ v. v.draws.holds) view ∙ c.requires.holds) (ap (λ m. m.1) now ∙ ap (λ l. (0, Some c.args.content) ∷ l) (sym (ap (λ m. rest m.1) now))) (c.requires.cells ∙ sym (ap (λ v. shown v.draws.cells) view)),
)
