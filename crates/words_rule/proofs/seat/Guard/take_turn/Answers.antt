use Rattle.std.proofs.Common.{rules, ap, sym, ◌∙◌, arith, eqb-true, eq-eqb, true≢false}
use Rattle.words_rule.proofs.Calls.{call_take_turn}
use Rattle.words_rule.proofs.Keeps.{keeps_number, keeps_sizes, keeps_words}
use Rattle.words_rule.proofs.seat.Guard.take_turn.Goals as goal

pub compare_exchange-found-requires : goal.compare_exchange-found-requires
compare_exchange-found-requires g c = (search rules, (let w = c.args.pass.now.words_are in let s = ap (λ i. i.words) c.requires.own.0 in let l = c.requires.within in let a = c.turn.ensures in omega (arith, w, s, l, a)), call_take_turn g.S.Content.board g.S.Content.free_slots g.S.Content.memo _ _ _ _ c.args.level _ c.turn.ensures c.requires.own.1 c.requires.within (λ e. omega (arith, e)))

pub invariant_of-pass : goal.invariant_of-pass
invariant_of-pass g c = let p = c.args.pass.now in let d = c.compare_exchange-found.ensures.2.0.0 in record {
  number_is = keeps_number p.number p.seat.me.0.draws _ d p.number_is;
  sizes_are = keeps_sizes p.sizes p.seat.me.0.draws _ d p.sizes_are;
  heads_are = p.heads_are;
  words_are = keeps_words p.seat.table_id _ p.seat.me.0.draws _ c.compare_exchange-found.ensures.0 d p.words_are;
}

pub returns-clause-own : goal.returns-clause-own
returns-clause-own g c = (c.compare_exchange-found.ensures.0 ∙ c.requires.own.0, c.compare_exchange-found.ensures.2.0.1)

pub returns-clause-taken : goal.returns-clause-taken
returns-clause-taken g c = λ hit. ap (λ m. m.0) ((c.compare_exchange-found.ensures.2.1 c.args.level c.turn.ensures).0 (eqb-true _ _ hit))

pub returns-clause-missed : goal.returns-clause-missed
returns-clause-missed g c = λ miss. ap (λ m. m.0) ((c.compare_exchange-found.ensures.2.1 c.args.level c.turn.ensures).1 (λ e. true≢false (sym (eq-eqb _ _ e) ∙ miss)))
