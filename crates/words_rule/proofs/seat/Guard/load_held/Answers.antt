use Rattle.std.proofs.Common.{rules, ap, ◌∙◌, arith}
use Rattle.words_rule.specs.Layout.{node_at}
use Rattle.words_rule.proofs.HolderLoads.{loads_held}
use Rattle.words_rule.proofs.Keeps.{keeps_number, keeps_sizes, keeps_words}
use Rattle.words_rule.proofs.seat.Guard.load_held.Goals as goal

pub load-requires : goal.load-requires
load-requires g c = let is = (c.node-word.ensures ∙ ap (λ z. node_at z c.args.slot) c.args.pass.now.sizes_are) in (search rules, (let w = c.args.pass.now.words_are in let s = ap (λ i. i.words) c.requires.own.0 in let l = c.requires.within in let a = is in omega (arith, w, s, l, a)), loads_held g.S.Content.board g.S.Content.free_slots g.S.Content.memo _ _ _ _ c.args.slot is c.requires.own.1 c.requires.hold c.requires.knows c.requires.within)

pub invariant_of-pass : goal.invariant_of-pass
invariant_of-pass g c = let p = c.args.pass.now in let d = ap (λ m. m.0.draws) c.load.ensures.2.0 in record {
  number_is = keeps_number p.number p.seat.me.0.draws _ d p.number_is;
  sizes_are = keeps_sizes p.sizes p.seat.me.0.draws _ d p.sizes_are;
  heads_are = p.heads_are;
  words_are = keeps_words p.seat.table_id _ p.seat.me.0.draws _ c.load.ensures.0 d p.words_are;
}

pub returns-clause-bits : goal.returns-clause-bits
returns-clause-bits g c = c.load.ensures.2.1 c.args.slot (c.node-word.ensures ∙ ap (λ z. node_at z c.args.slot) c.args.pass.now.sizes_are)

pub returns-clause-one : goal.returns-clause-one
returns-clause-one g c = λ single. (c.load.ensures.2.2 single).node c.args.slot c.requires.within (c.node-word.ensures ∙ ap (λ z. node_at z c.args.slot) c.args.pass.now.sizes_are)
