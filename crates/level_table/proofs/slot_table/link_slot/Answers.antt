use Rattle.std.proofs.Common.{◌≡◌, ◌∙◌, length, sym, inl, inr, arith}
use Rattle.level_table.specs.Chains.{put}
use Rattle.level_table.specs.Slotted.{bucket_in}
use Rattle.level_table.proofs.Chaining.{put-here, put-other, put-same, same_chains}
use Rattle.level_table.proofs.Slots.{bucket-found, bucket-free, bucket-low}
use Rattle.level_table.proofs.slot_table.link_slot.Goals as goal

pub returns-then-bits-ne0 : goal.returns-then-bits-ne0
returns-then-bits-ne0 c at chained free =
    let words = c.args.words.now in let slot = c.args.slot in
    let n = length c.args.heads.now in
    let bucket = bucket_in words n slot in
    c.link.ensures at (put at slot bucket) chained free (put-other at slot bucket)
    (put-here at slot bucket ∙ bucket-found words n slot c.if-slot.true (let some = c.if-bits-ne0.true in omega (arith, some)) ∙ sym c.bucket_of-bucket.ensures.bucket)

pub returns-else-slot : goal.returns-else-slot
returns-else-slot c at chained free =
    let words = c.args.words.now in let slot = c.args.slot in
    let n = length c.args.heads.now in
    let bucket = bucket_in words n slot in
    let none : bucket ≡ n = elim c.else-slot.either [ inl word ↦ bucket-free words n slot word.1 | inr low ↦ bucket-low words n slot low ] in
    same_chains at (put at slot bucket) c.args.heads.now c.args.links.now (λ k. sym (put-same at slot bucket (free ∙ sym none) k)) chained
