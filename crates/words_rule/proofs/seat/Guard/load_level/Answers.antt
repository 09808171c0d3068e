use Rattle.std.proofs.Common.{rules, ◌≡◌, ◌+◌, ap, ◌∙◌, arith}
use Rattle.words_rule.specs.Layout.{order_at, places}
use Rattle.words_rule.specs.Hands.{place_of}
use Rattle.words_rule.proofs.Calls.{call_load_level, place_below}
use Rattle.words_rule.specs.Shapes.{shape_in}
use Rattle.words_rule.proofs.Keeps.{keeps_number, keeps_sizes, keeps_words}
use Rattle.words_rule.proofs.seat.Guard.load_level.Goals as goal

pub load-requires : goal.load-requires
load-requires g c = let is = (c.level-word.ensures ∙ ap (λ z. order_at z (places z + place_of z c.args.var)) c.args.pass.now.sizes_are) in (
  search rules,
  (let w = c.args.pass.now.words_are in let s = ap (λ i. i.words) c.requires.own.0 in let l = place_below g.S.Content.board g.S.Content.free_slots g.S.Content.memo c.args.pass.now.seat.me.0 c.requires.var.0 c.args.var c.requires.var.1 in omega (arith, w, s, l, is)),
  call_load_level g.S.Content.board g.S.Content.free_slots g.S.Content.memo _ _ _ c.args.pass.now.seat.me c.requires.own.1 c.requires.share,
)

pub invariant_of-pass : goal.invariant_of-pass
invariant_of-pass g c = let p = c.args.pass.now in let d : c.load.new.seat.me.0.draws ≡ p.seat.me.0.draws = ap (λ m. m.0.draws) c.load.ensures.2.0 in record {
  number_is = keeps_number p.number p.seat.me.0.draws c.load.new.seat.me.0.draws d p.number_is;
  sizes_are = keeps_sizes p.sizes p.seat.me.0.draws c.load.new.seat.me.0.draws d p.sizes_are;
  heads_are = p.heads_are;
  words_are = keeps_words p.seat.table_id c.load.new.seat.table_id p.seat.me.0.draws c.load.new.seat.me.0.draws c.load.ensures.0 d p.words_are;
}

pub returns-clause-level : goal.returns-clause-level
returns-clause-level g c = (c.load.ensures.2.1 c.requires.var.0 c.args.var c.requires.var.1 (c.level-word.ensures ∙ ap (λ z. order_at z (places z + place_of z c.args.var)) c.args.pass.now.sizes_are)).0

pub returns-clause-few : goal.returns-clause-few
returns-clause-few g c = (c.load.ensures.2.1 c.requires.var.0 c.args.var c.requires.var.1 (c.level-word.ensures ∙ ap (λ z. order_at z (places z + place_of z c.args.var)) c.args.pass.now.sizes_are)).1

pub returns-clause-one : goal.returns-clause-one
returns-clause-one g c =
    let v = c.args.pass.now.seat.me.0 in
    let l = place_below g.S.Content.board g.S.Content.free_slots g.S.Content.memo v c.requires.var.0 c.args.var c.requires.var.1 in
    λ single. (c.load.ensures.2.2 single).order (places (shape_in v.draws) + place_of (shape_in v.draws) c.args.var) (omega (arith, l)) (c.level-word.ensures ∙ ap (λ z. order_at z (places z + place_of z c.args.var)) c.args.pass.now.sizes_are)
