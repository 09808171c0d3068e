use Rattle.std.proofs.Common.{rules, ◌≡◌, ap, ◌∙◌, arith}
use Rattle.words_rule.proofs.KeptShares.{keeps_share}
use Rattle.words_rule.proofs.Keeps.{keeps_number, keeps_sizes, keeps_words}
use Rattle.words_rule.proofs.seat.Guard.keep_operation.Goals as goal

pub fetch_add-requires : goal.fetch_add-requires
fetch_add-requires g c = (search rules, (let w = c.args.pass.now.words_are in let s = ap (λ i. i.words) c.requires.own.0 in omega (arith, w, s)), keeps_share g.S.Content.board g.S.Content.free_slots g.S.Content.memo _ _ _ c.requires.own.1 c.requires.holds.0 c.requires.holds.1 c.requires.holds.2 c.requires.idle c.requires.pins c.requires.told c.requires.done)

pub invariant_of-pass : goal.invariant_of-pass
invariant_of-pass g c = let p = c.args.pass.now in let d : c.fetch_add.new.seat.me.0.draws ≡ p.seat.me.0.draws = c.fetch_add.ensures.2.1.draws in record {
  number_is = keeps_number p.number p.seat.me.0.draws _ d p.number_is;
  sizes_are = keeps_sizes p.sizes p.seat.me.0.draws _ d p.sizes_are;
  heads_are = p.heads_are;
  words_are = keeps_words p.seat.table_id _ p.seat.me.0.draws _ c.fetch_add.ensures.0 d p.words_are;
}

pub returns-clause-own : goal.returns-clause-own
returns-clause-own g c = (c.fetch_add.ensures.0 ∙ c.requires.own.0, c.fetch_add.ensures.2.0)

pub returns-clause-held : goal.returns-clause-held
returns-clause-held g c = c.fetch_add.ensures.2.1
