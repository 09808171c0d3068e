use Rattle.std.proofs.Common.{rules, ap, ◌∙◌, arith}
use Rattle.words_rule.specs.Layout.{head_at}
use Rattle.words_rule.proofs.HolderLoads.{loads_whole}
use Rattle.words_rule.proofs.Keeps.{keeps_number, keeps_sizes, keeps_words}
use Rattle.words_rule.proofs.seat.Guard.load_whole.Goals as goal

pub load-requires : goal.load-requires
load-requires g c = let is = (c.head-word.ensures ∙ ap (λ z. head_at z c.args.head) c.args.pass.now.sizes_are) in (search rules, (let w = c.args.pass.now.words_are in let s = ap (λ i. i.words) c.requires.own.0 in let l = c.requires.within in let a = is in omega (arith, w, s, l, a)), loads_whole g.S.Content.board g.S.Content.free_slots g.S.Content.memo _ _ _ _ c.args.head g.E.Level.level is c.requires.own.1 c.requires.hold c.requires.knows c.requires.has c.requires.within)

pub invariant_of-pass : goal.invariant_of-pass
invariant_of-pass g c = let p = c.args.pass.now in let d = c.load.ensures.2.0 in record {
  number_is = keeps_number p.number p.seat.me.0.draws _ d p.number_is;
  sizes_are = keeps_sizes p.sizes p.seat.me.0.draws _ d p.sizes_are;
  heads_are = p.heads_are;
  words_are = keeps_words p.seat.table_id _ p.seat.me.0.draws _ c.load.ensures.0 d p.words_are;
}

pub returns-clause-loaded : goal.returns-clause-loaded
returns-clause-loaded g c = c.load.ensures.2.2 c.args.head (c.head-word.ensures ∙ ap (λ z. head_at z c.args.head) c.args.pass.now.sizes_are)
