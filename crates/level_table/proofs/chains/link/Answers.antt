use Rattle.std.proofs.Math.Numerals.{add-one}
use Rattle.level_table.proofs.Chaining.{linked_first, linked_after}
use Rattle.level_table.proofs.chains.link.Goals as goal

pub next_above-requires-clause-within : goal.next_above-requires-clause-within
next_above-requires-clause-within c = (c.requires.chained.1.heads_are c.args.bucket c.requires.bucket).within

pub next_above-requires-clause-fall : goal.next_above-requires-clause-fall
next_above-requires-clause-fall c = c.requires.chained.1.fall

pub bounds-links-above : goal.bounds-links-above
bounds-links-above c = (c.in-Some.ensures c.requires.chained.0 c.requires.chained.1).1

pub returns-in-Some : goal.returns-in-Some
returns-in-Some c = λ at new chained out same into.
    let heads = c.args.heads.now in let links = c.args.links.now in let place = c.args.place in
    let next = c.in-Some.ensures at chained in
    rw add-one (linked_after at new heads links place c.args.bucket same out into c.requires.place c.requires.bucket chained c.in-Some.above next.0 next.1 next.2 next.3)

pub returns-in-None : goal.returns-in-None
returns-in-None c = λ at new chained out same into.
    rw add-one (linked_first at new c.args.heads.now c.args.links.now c.args.place c.args.bucket same out into c.requires.place c.requires.bucket chained (c.in-None.ensures at chained))
