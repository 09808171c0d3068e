use Rattle.std.proofs.Common.{◌≡◌, ℕ, ◌+◌, ◌-◌, ◌<◌, length, length-set, refl, sym, ap, subst, ◌∙◌, arith}
use Rattle.std.specs.Prelude.{slice_index, slice_set}
use Rattle.std.proofs.lemmas.List.{get_or_read}
use Rattle.edge_bits.specs.Mixing.{scattered}
use Rattle.words_rule.specs.Layout.{head_of, heads, word_count, words_of}
use Rattle.words_rule.specs.Shapes.{shape_by}
use Rattle.words_rule.specs.Beginnings.{AreLinked}
use Rattle.words_rule.proofs.FirstChains.{on_upto}
use Rattle.words_rule.proofs.Layouts.{here_head, here_node}
use Rattle.words_rule.proofs.NewTables.{all_linked, link_more, none_linked}
use Rattle.words_rule.proofs.beginning.link_nodes.Goals as goal

pub loop-slot-init : goal.loop-slot-init
loop-slot-init c = record { long = refl; linked = none_linked (shape_by c.args.sizes.now) c.args.words.now.items c.requires.empty }

pub loop-slot-preserved : goal.loop-slot-preserved
loop-slot-preserved c =
    let l = c.loop-slot in
    let z = shape_by c.args.sizes.now in
    let many : length l.words.items ≡ word_count z = l.invariant.long ∙ c.requires.long in
    let below : l.slot < z.slots = let t = c.loop-slot-test.true in let r = c.requires.room in omega (arith, t, r) in
    let at_node : c.node-node.result < length l.words.items = let e = c.node-node.ensures in omega (arith, e, many, below) in
    let bits : c.index.result.now ≡ (words_of z l.words.items).node l.slot = get_or_read l.words.items c.node-node.result c.index.result.now at_node c.index.ensures 0 ∙ ap (slice_index l.words.items) c.node-node.ensures ∙ sym (here_node z l.words.items 0 l.slot below) in
    let place : c.scatter-place.result ≡ head_of z c.index.result.now = c.scatter-place.ensures.place ∙ ap (scattered c.index.result.now) c.requires.heads in
    let within : c.scatter-place.result < heads z = subst (λ n. c.scatter-place.result < n) c.requires.heads c.scatter-place.ensures.within in
    let at_head : c.head-head.result < length l.words.items = let e = c.head-head.ensures in omega (arith, e, many, within) in
    let link : c.index-in-loop-slot.result.now ≡ (words_of z l.words.items).head c.scatter-place.result =
    get_or_read l.words.items c.head-head.result c.index-in-loop-slot.result.now at_head c.index-in-loop-slot.ensures 0 ∙ ap (slice_index l.words.items) c.head-head.ensures ∙ sym (here_head z l.words.items 0 c.scatter-place.result within) in
    record {
      long = length-set (slice_set l.words.items c.next-next.result c.index-in-loop-slot.result.now) c.head-head.result (c.from.result + 1) ∙ length-set l.words.items c.next-next.result c.index-in-loop-slot.result.now ∙ l.invariant.long;
      linked = subst (λ (y : ℕ × ℕ). AreLinked z c.args.words.now.items (slice_set (slice_set l.words.items y.0 c.index-in-loop-slot.result.now) y.1 (c.from.result + 1)) (on_upto (l.slot + 1 - 3))) (λ i. (sym c.next-next.ensures i, sym c.head-head.ensures i))
          (link_more z c.args.words.now.items l.words.items l.slot c.index.result.now c.scatter-place.result c.index-in-loop-slot.result.now (c.from.result + 1) l.auto.slot below many bits place within link (ap (λ n. n + 1) c.from.ensures) l.invariant.linked);
    }

pub returns-clause-linked : goal.returns-clause-linked
returns-clause-linked c =
    let l = c.loop-slot in
    let z = shape_by c.args.sizes.now in
    let all : l.slot ≡ 5 + z.variables = let t = c.loop-slot-test.false in let e = l.auto.slot-end (omega arith) in omega (arith, t, e) in all_linked z c.args.words.now.items l.words.items l.slot all l.invariant.linked
