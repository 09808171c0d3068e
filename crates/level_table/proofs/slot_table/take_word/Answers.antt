use Rattle.std.proofs.Common.{◌≡◌, length, set, sym, ◌∙◌, subst, arith}
use Rattle.std.proofs.lemmas.List.{length-set}
use Rattle.level_table.specs.Chains.{IsChained}
use Rattle.level_table.specs.Slotted.{bucket_in}
use Rattle.level_table.proofs.Slots.{bucket-found, bucket-free, bucket-low, bucket_erased, erased, unchained}
use Rattle.level_table.proofs.slot_table.take_word.Goals as goal
use Rattle.level_table.proofs.slot_table.take_word.Goals.{Joined-slot, then-slot+then-bits-ne0, else-slot, else-slot-via-then-slot+else-bits-ne0, else-slot-via-else-slot}

chained : (c : Joined-slot) → IsChained (bucket_in (set c.args.words.now c.args.slot 0) (length c.if-slot.heads)) c.if-slot.heads c.if-slot.links
chained c =
    let words = c.args.words.now in let slot = c.args.slot in
    let n = length c.args.heads.now in
    let same : length c.if-slot.heads ≡ n = c.if-slot.auto.heads in
    subst (λ m. IsChained (bucket_in (set words slot 0) m) c.if-slot.heads c.if-slot.links) (sym same)
    (elim c.if-slot.branch [
      | then-slot+then-bits-ne0 w ↦ rw (w.links-is, w.heads-is)
          (let wide : length w.unlink.new.heads ≡ n = w.unlink.auto.heads in
          erased words n slot c.requires.within w.unlink.new.heads w.unlink.new.links
          (rw wide at (w.unlink.ensures (bucket_in words n) c.requires.slots.chained
          (bucket-found words n slot w.if-slot.true (omega (arith, w.if-bits-ne0.true)) ∙ sym w.bucket_of-bucket.ensures.bucket))))
      | else-slot w ↦ rw (w.links-is, w.heads-is)
          (unchained words n slot c.requires.within 0 c.args.heads.now c.args.links.now
          (elim w.else-slot.branch [
            | else-slot-via-then-slot+else-bits-ne0 v ↦ bucket-free words n slot (omega (arith, v.if-bits-ne0.false))
            | else-slot-via-else-slot v ↦ bucket-low words n slot v.if-slot.false
          ]) (bucket_erased words n slot c.requires.within) c.requires.slots.chained)
    ])

pub returns-clause-slots : goal.returns-clause-slots
returns-clause-slots c =
    let words = c.args.words.now in let slot = c.args.slot in
    let slots = c.requires.slots in
    let wide = c.if-slot.auto.heads in
    let long = length-set words slot 0 in
    record {
      as_long = c.if-slot.auto.links ∙ slots.as_long ∙ sym long;
      few = (let f = slots.few in omega arith);
      some = (let s = slots.some in omega arith);
      few_buckets = (let f = slots.few_buckets in omega arith);
      chained = chained c;
    }
