use Rattle.std.proofs.Common.{sym, subst}
use Rattle.held_slots.specs.Arcs.{IsChange}
use Rattle.held_slots.specs.contracts.arcs.ArcCounts.{the_view}
use Rattle.held_slots.proofs.ArcLaws.{change_within, taken_few, changed}
use Rattle.held_slots.proofs.arcs.ArcCounts.change.Goals as goal

pub take_word-requires : goal.take_word-requires
take_word-requires c =
    let now = subst (λ a. IsChange a c.requires.0 c.requires.1 c.args.was) (sym c.self.view_is) c.requires.2 in
    record { some = change_within (the_view c.self.inside) c.requires.0 c.requires.1 c.args.was now c.if-self.true }

pub add_word-requires-clause-few : goal.add_word-requires-clause-few
add_word-requires-clause-few c =
    let now = subst (λ a. IsChange a c.requires.0 c.requires.1 c.args.was) (sym c.self.view_is) c.requires.2 in
    let t = c.take_word.ensures in
    taken_few (the_view c.self.inside) c.requires.0 c.requires.1 c.args.was now c.if-self.true c.take_word.new.counts.items t.length c.self.invariant.within t.counted

pub returns-then-self-clause-of : goal.returns-then-self-clause-of
returns-then-self-clause-of c = λ words slot change known.
    let now = subst (λ a. IsChange a words slot c.args.was) (sym c.self.view_is) change in
    let t = c.take_word.ensures in
    changed (the_view c.self.inside) words slot c.args.was now c.if-self.true c.take_word.new.counts.items t.length c.self.invariant.within t.counted c.args.bits c.add_word.new.counts.items c.add_word.ensures.counted
