use Rattle.std.proofs.Common.{rules, ◌≡◌, ap, ◌∙◌, arith}
use Rattle.words_rule.specs.Layout.{head_at}
use mathlib.Core.Logic.{dite}
use native.Mathlib.Decide.{ℕ_discrete}
use Rattle.words_rule.specs.Shapes.{shape_in}
use Rattle.words_rule.proofs.Storing.{pushes_here}
use Rattle.words_rule.proofs.Keeps.{keeps_number, keeps_sizes, keeps_words}
use Rattle.words_rule.proofs.seat.Guard.push_head.Goals as goal

pub compare_exchange-requires : goal.compare_exchange-requires
compare_exchange-requires g c = let is = (c.head-word.ensures ∙ ap (λ z. head_at z c.args.head) c.args.pass.now.sizes_are) in (
  search rules,
  (let w = c.args.pass.now.words_are in let s = ap (λ i. i.words) c.requires.own.0 in let l = c.requires.within in omega (arith, w, s, l, is)),
  pushes_here g.S.Content.board g.S.Content.free_slots g.S.Content.memo _ _ _ c.args.slot c.args.link c.requires.noted.0 c.requires.noted.1 _ _ (is ∙ ap (head_at (shape_in c.args.pass.now.seat.me.0.draws)) c.requires.noted.3) (omega arith) c.requires.own.1 c.requires.loose c.requires.linked c.requires.share c.requires.noted.2,
)

pub invariant_of-pass : goal.invariant_of-pass
invariant_of-pass g c = let p = c.args.pass.now in let d : c.compare_exchange.new.seat.me.0.draws ≡ p.seat.me.0.draws = let t = c.compare_exchange.ensures.2 in dite (ℕ_discrete c.compare_exchange.result c.args.link) (λ hit. ap (λ m. m.0.draws) (t.0 hit)) (λ miss. ap (λ m. m.0.draws) (t.1 miss)) in record {
  number_is = keeps_number p.number p.seat.me.0.draws _ d p.number_is;
  sizes_are = keeps_sizes p.sizes p.seat.me.0.draws _ d p.sizes_are;
  heads_are = p.heads_are;
  words_are = keeps_words p.seat.table_id _ p.seat.me.0.draws _ c.compare_exchange.ensures.0 d p.words_are;
}

pub returns-clause-own : goal.returns-clause-own
returns-clause-own g c = let t = c.compare_exchange.ensures.2 in (c.compare_exchange.ensures.0 ∙ c.requires.own.0, dite (ℕ_discrete c.compare_exchange.result c.args.link) (λ hit. ap (λ m. m.1) (t.0 hit)) (λ miss. ap (λ m. m.1) (t.1 miss)))

pub returns-clause-done : goal.returns-clause-done
returns-clause-done g c = λ hit. ap (λ m. m.0) (c.compare_exchange.ensures.2.0 hit)

pub returns-clause-missed : goal.returns-clause-missed
returns-clause-missed g c = λ miss. ap (λ m. m.0) (c.compare_exchange.ensures.2.1 miss)
