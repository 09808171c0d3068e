use Rattle.std.proofs.Common.{rules, ◌≡◌, ap, ◌∙◌, arith}
use mathlib.Core.Logic.{dite}
use native.Mathlib.Decide.{ℕ_discrete}
use Rattle.words_rule.specs.Phase.{walks_of}
use Rattle.words_rule.proofs.FullSteps.{full_looks}
use Rattle.words_rule.proofs.Keeps.{keeps_number, keeps_sizes, keeps_words}
use Rattle.words_rule.proofs.seat.Guard.look_full.Goals as goal

pub load-requires : goal.load-requires
load-requires g c = (search rules, (let w = c.args.pass.now.words_are in let s = ap (λ i. i.words) c.requires.own.0 in omega (arith, w, s)), full_looks g.S.Content.board g.S.Content.free_slots g.S.Content.memo _ _ _ c.requires.own.1 c.requires.claim.0 c.requires.claim.1)

pub invariant_of-pass : goal.invariant_of-pass
invariant_of-pass g c = let p = c.args.pass.now in let d : c.load.new.seat.me.0.draws ≡ p.seat.me.0.draws = let t = c.load.ensures.2 in dite (ℕ_discrete (walks_of c.load.result) 0) (λ hit. ap (λ m. m.0.draws) (t.0 hit)) (λ miss. ap (λ m. m.0.draws) (t.1 miss)) in record {
  number_is = keeps_number p.number p.seat.me.0.draws _ d p.number_is;
  sizes_are = keeps_sizes p.sizes p.seat.me.0.draws _ d p.sizes_are;
  heads_are = p.heads_are;
  words_are = keeps_words p.seat.table_id _ p.seat.me.0.draws _ c.load.ensures.0 d p.words_are;
}

pub returns-clause-own : goal.returns-clause-own
returns-clause-own g c = let t = c.load.ensures.2 in (c.load.ensures.0 ∙ c.requires.own.0, dite (ℕ_discrete (walks_of c.load.result) 0) (λ hit. ap (λ m. m.1) (t.0 hit)) (λ miss. ap (λ m. m.1) (t.1 miss)))

pub returns-clause-holds : goal.returns-clause-holds
returns-clause-holds g c = λ hit. ap (λ m. m.0) (c.load.ensures.2.0 hit)

pub returns-clause-missed : goal.returns-clause-missed
returns-clause-missed g c = λ miss. ap (λ m. m.0) (c.load.ensures.2.1 miss)
