use Rattle.std.proofs.Common.{length, sym, subst, ◌<◌}
use Rattle.level_table.specs.Chains.{put}
use Rattle.level_table.proofs.Chaining.{put-here, put-other, unlinked_after}
use Rattle.level_table.proofs.chains.unlink.Goals as goal

pub next_above-requires-clause-within : goal.next_above-requires-clause-within
next_above-requires-clause-within c = (c.requires.chained.1.heads_are c.args.bucket c.requires.bucket).within

pub next_above-requires-clause-fall : goal.next_above-requires-clause-fall
next_above-requires-clause-fall c = c.requires.chained.1.fall

pub bounds-links-above : goal.bounds-links-above
bounds-links-above c = (c.in-Some.ensures c.requires.chained.0 c.requires.chained.1).1

pub returns-in-Some : goal.returns-in-Some
returns-in-Some c = λ at chained here.
    let heads = c.args.heads.now in let place = c.args.place in
    let next = c.in-Some.ensures at chained in
    unlinked_after at (put at place (length heads)) heads c.args.links.now place (put-other at place (length heads)) (put-here at place (length heads))
    c.requires.place (subst (λ b. b < length heads) (sym here) c.requires.bucket) chained
    c.in-Some.above next.0 next.1 (rw here next.2) (rw here next.3)
