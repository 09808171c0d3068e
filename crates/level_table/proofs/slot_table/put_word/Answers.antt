use Rattle.std.proofs.Common.{length, set, sym, ◌∙◌, subst, arith}
use Rattle.std.proofs.lemmas.List.{length-set}
use Rattle.level_table.specs.Chains.{IsChained}
use Rattle.level_table.specs.Slotted.{bucket_in}
use Rattle.level_table.proofs.Slots.{bucket-free, bucket-low, bucket_other, bucket_put, unchained}
use Rattle.level_table.proofs.slot_table.put_word.Goals as goal

pub returns-then-slot-clause-slots : goal.returns-then-slot-clause-slots
returns-then-slot-clause-slots c =
    let words = c.args.words.now in let slot = c.args.slot in
    let slots = c.requires.slots in
    let n = length c.args.heads.now in
    let wide = c.link.auto.heads in
    let long = length-set words slot c.args.bits in
    record {
      as_long = c.link.auto.links ∙ slots.as_long ∙ sym long;
      few = (let f = slots.few in omega arith);
      some = (let s = slots.some in omega arith);
      few_buckets = (let f = slots.few_buckets in omega arith);
      chained = subst (λ m. IsChained (bucket_in (set words slot c.args.bits) m) c.link.new.heads c.link.new.links) (sym wide)
          (c.link.ensures (bucket_in words n) (bucket_in (set words slot c.args.bits) n) slots.chained (bucket-free words n slot c.requires.free)
          (bucket_other words n slot c.args.bits) (bucket_put words n slot c.requires.within c.args.bits c.if-slot.true c.requires.bits ∙ sym c.bucket_of-bucket.ensures.bucket));
    }

pub returns-else-slot-clause-slots : goal.returns-else-slot-clause-slots
returns-else-slot-clause-slots c =
    let words = c.args.words.now in let slot = c.args.slot in
    let slots = c.requires.slots in
    let n = length c.args.heads.now in
    let long = length-set words slot c.args.bits in
    record {
      as_long = slots.as_long ∙ sym long;
      few = (let f = slots.few in omega arith);
      some = slots.some;
      few_buckets = slots.few_buckets;
      chained = unchained words n slot c.requires.within c.args.bits c.args.heads.now c.args.links.now (bucket-free words n slot c.requires.free) (bucket-low (set words slot c.args.bits) n slot c.if-slot.false) slots.chained;
    }
