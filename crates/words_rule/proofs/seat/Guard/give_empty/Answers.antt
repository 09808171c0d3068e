use Rattle.std.proofs.Common.{rules, ◌∷◌, Some, ap, sym, ◌∙◌, arith}
use Rattle.atomic_table.specs.Table.{rest}
use Rattle.words_rule.proofs.FreeClauses.{step_give_empty}
use Rattle.words_rule.proofs.seat.Guard.give_empty.Goals as goal

pub store-requires : goal.store-requires
store-requires g c = let now = c.exchange.ensures.3 in let view = ap (λ m. m.0) now in (
  search rules,
  (let w = c.args.pass.now.words_are in let s = ap (λ i. i.words) c.requires.own.0 in omega (arith, w, s)),
  step_give_empty g.S.Content.board g.S.Content.free_slots g.S.Content.memo _ _ c.exchange.new.seat.me c.args.content g.E.Refused.due (ap (λ v. v.draws.live) view ∙ c.requires.own.1) (ap (λ m. m.1) now ∙ ap (λ l. (1, Some c.args.content) ∷ l) (sym (ap (λ m. rest m.1) now))) (ap (λ v. v.hand.free) view ∙ c.requires.empty.0) c.requires.empty.1 (c.requires.roomy ∙ ap (λ v. v.draws.slots) (sym view)),
)
