use Rattle.std.proofs.Common.{rules, ap, ◌∙◌, arith}
use Rattle.words_rule.specs.Layout.{node_at}
use Rattle.words_rule.proofs.Calls.{call_store_node}
use Rattle.words_rule.proofs.Keeps.{keeps_number, keeps_sizes, keeps_words}
use Rattle.words_rule.proofs.seat.Guard.store_node.Goals as goal

pub store-requires : goal.store-requires
store-requires g c = let is = (c.node-word.ensures ∙ ap (λ z. node_at z c.args.slot) c.args.pass.now.sizes_are) in (search rules, (let w = c.args.pass.now.words_are in let s = ap (λ i. i.words) c.requires.own.0 in let l = c.requires.within in let a = is in omega (arith, w, s, l, a)), call_store_node g.S.Content.board g.S.Content.free_slots g.S.Content.memo _ _ _ _ g.E.Beside.own c.args.slot c.args.bits is c.requires.own.1 c.requires.share c.requires.taken c.requires.calm (search rules) c.requires.within c.requires.reads c.requires.few)

pub invariant_of-pass : goal.invariant_of-pass
invariant_of-pass g c = let p = c.args.pass.now in let d = c.store.ensures.2.1.draws in record {
  number_is = keeps_number p.number p.seat.me.0.draws _ d p.number_is;
  sizes_are = keeps_sizes p.sizes p.seat.me.0.draws _ d p.sizes_are;
  heads_are = p.heads_are;
  words_are = keeps_words p.seat.table_id _ p.seat.me.0.draws _ c.store.ensures.0 d p.words_are;
}

pub returns-clause-own : goal.returns-clause-own
returns-clause-own g c = (c.store.ensures.0 ∙ c.requires.own.0, c.store.ensures.2.0)

pub returns-clause-stands : goal.returns-clause-stands
returns-clause-stands g c = (c.store.ensures.2.1, (c.store.ensures.2.2 c.args.slot (c.node-word.ensures ∙ ap (λ z. node_at z c.args.slot) c.args.pass.now.sizes_are)).0)

pub returns-clause-stored : goal.returns-clause-stored
returns-clause-stored g c = (c.store.ensures.2.2 c.args.slot (c.node-word.ensures ∙ ap (λ z. node_at z c.args.slot) c.args.pass.now.sizes_are)).2

pub returns-clause-told : goal.returns-clause-told
returns-clause-told g c = (c.store.ensures.2.2 c.args.slot (c.node-word.ensures ∙ ap (λ z. node_at z c.args.slot) c.args.pass.now.sizes_are)).1
