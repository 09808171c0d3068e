use Rattle.std.proofs.Common.{rules, ap, ◌∙◌, arith}
use Rattle.words_rule.proofs.Calls.{call_give_turn}
use Rattle.words_rule.proofs.Keeps.{keeps_number, keeps_sizes, keeps_words}
use Rattle.words_rule.proofs.seat.Guard.give_turn.Goals as goal

pub store-requires : goal.store-requires
store-requires g c = (search rules, (let w = c.args.pass.now.words_are in let s = ap (λ i. i.words) c.requires.own.0 in let l = c.requires.within in let a = c.turn.ensures in omega (arith, w, s, l, a)), call_give_turn g.S.Content.board g.S.Content.free_slots g.S.Content.memo _ _ _ _ c.args.level c.turn.ensures c.requires.own.1 c.requires.within c.requires.has c.requires.calm)

pub invariant_of-pass : goal.invariant_of-pass
invariant_of-pass g c = let p = c.args.pass.now in let d = c.store.ensures.2.0.0 in record {
  number_is = keeps_number p.number p.seat.me.0.draws _ d p.number_is;
  sizes_are = keeps_sizes p.sizes p.seat.me.0.draws _ d p.sizes_are;
  heads_are = p.heads_are;
  words_are = keeps_words p.seat.table_id _ p.seat.me.0.draws _ c.store.ensures.0 d p.words_are;
}

pub returns-clause-own : goal.returns-clause-own
returns-clause-own g c = (c.store.ensures.0 ∙ c.requires.own.0, c.store.ensures.2.0.1)

pub returns-clause-given : goal.returns-clause-given
returns-clause-given g c = ap (λ m. m.0) (c.store.ensures.2.1 c.args.level c.turn.ensures)
