use Rattle.std.proofs.Common.{length, subst, ◌<◌}
use Rattle.level_table.proofs.Slots.{sought_first, sought_here, sought_on}
use Rattle.level_table.proofs.slot_table.seek.Goals as goal

pub loop-slot-init : goal.loop-slot-init
loop-slot-init c =
    let b = c.bucket_of.ensures in
    rw b.bucket (sought_first c.args.words.now c.args.links.now c.args.heads.now c.requires.slots c.args.bits c.requires.bits (subst (λ x. x < length c.args.heads.now) b.bucket b.within))

pub returns-then-words-slot-clause-found : goal.returns-then-words-slot-clause-found
returns-then-words-slot-clause-found c =
    let b = c.bucket_of.ensures in (
      sought_here c.args.words.now c.args.links.now c.args.heads.now c.requires.slots c.args.bits c.requires.bits (subst (λ x. x < length c.args.heads.now) b.bucket b.within)
          c.loop-slot.link c.in-Some.slot c.loop-slot.invariant c.in-Some.ensures,
      c.if-words-slot.true,
    )

pub loop-slot-preserved : goal.loop-slot-preserved
loop-slot-preserved c =
    let b = c.bucket_of.ensures in
    sought_on c.args.words.now c.args.links.now c.args.heads.now c.requires.slots c.args.bits c.requires.bits (subst (λ x. x < length c.args.heads.now) b.bucket b.within)
    c.loop-slot.link c.in-Some.slot c.loop-slot.invariant c.in-Some.ensures c.if-words-slot.false
