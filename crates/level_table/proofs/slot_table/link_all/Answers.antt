use Rattle.std.proofs.Common.{◌≡◌, ◌+◌, ◌∙◌, length, sym, subst, arith}
use Rattle.level_table.specs.Chains.{IsChained, put}
use Rattle.level_table.specs.Slotted.{bucket_in}
use Rattle.level_table.proofs.Chaining.{same_chains}
use Rattle.level_table.proofs.Slots.{buckets_below, below-all, below-here, below-next, below-none}
use Rattle.level_table.proofs.slot_table.link_all.Goals as goal

pub loop-slot-init : goal.loop-slot-init
loop-slot-init c = below-none c.args.words.now (length c.args.heads.now) c.args.heads.now c.args.links.now c.requires.empty c.requires.fall

pub link_slot-requires-clause-chained : goal.link_slot-requires-clause-chained
link_slot-requires-clause-chained c = (buckets_below c.args.words.now (length c.loop-slot.heads) c.loop-slot.slot, c.loop-slot.invariant)

pub loop-slot-preserved : goal.loop-slot-preserved
loop-slot-preserved c =
    let words = c.args.words.now in let slot = c.loop-slot.slot in
    let n = length c.loop-slot.heads in
    subst (λ m. IsChained (buckets_below words m (slot + 1)) c.link_slot.new.heads c.link_slot.new.links) (sym c.link_slot.auto.heads)
    (same_chains (put (buckets_below words n slot) slot (bucket_in words n slot)) (buckets_below words n (slot + 1)) c.link_slot.new.heads c.link_slot.new.links (below-next words n slot)
    (c.link_slot.ensures (buckets_below words n slot) c.loop-slot.invariant (below-here words n slot)))

pub returns : goal.returns
returns c =
    let words = c.args.words.now in
    let n = length c.loop-slot.heads in
    let all : c.loop-slot.slot ≡ length words = (let end = c.loop-slot.auto.slot-end in let past = c.loop-slot-test.false in omega (arith, end, past)) in
    record {
      as_long = c.loop-slot.auto.links ∙ c.requires.as_long;
      few = c.requires.few;
      some = (let s = c.requires.some in let h = c.loop-slot.auto.heads in omega (arith, s, h));
      few_buckets = (let s = c.requires.few_buckets in let h = c.loop-slot.auto.heads in omega (arith, s, h));
      chained = same_chains (buckets_below words n (length words)) (bucket_in words n) c.loop-slot.heads c.loop-slot.links (below-all words n)
          (subst (λ i. IsChained (buckets_below words n i) c.loop-slot.heads c.loop-slot.links) all c.loop-slot.invariant);
    }
