use Rattle.std.proofs.Common.{None, inl, refl, sym, subst, ◌<◌}
use Rattle.step_store.specs.Knowing.{Hand, HasLevel, word_of}
use Rattle.step_store.proofs.Placements.{found_placed, may_make-grown, placed_learns, turn_hand, walked_wanted}
use Rattle.step_store.proofs.placing.find_or_add.Goals as goal

pub add-requires-clause-wanted : goal.add-requires-clause-wanted
add-requires-clause-wanted g c =
    let old = g.S.Steps.known c.args.seat.now in
    let k = g.S.Steps.known c.find-found.new.seat in
    let hand = turn_hand c.args.level None old.hand k.hand c.requires.hand c.find-found.ensures.hand in
    walked_wanted old k c.args.head c.args.level c.args.bits (word_of c.args.job.now) c.find-found.ensures.learns c.requires.reads c.requires.may.1 c.requires.level c.requires.head
    (subst (λ (h : Hand). HasLevel h c.args.level) (sym hand) (inl refl)) c.in-None.ensures.none

pub add-requires-clause-may : goal.add-requires-clause-may
add-requires-clause-may g c = may_make-grown (g.S.Steps.known c.args.seat.now).view (g.S.Steps.known c.find-found.new.seat).view c.args.job.now c.find-found.ensures.learns.kept.grown c.requires.may.0

pub add-requires-clause-within : goal.add-requires-clause-within
add-requires-clause-within g c = subst (λ n. c.args.head < n) (sym c.find-found.ensures.learns.heads) c.requires.within

pub returns-in-Some-clause-placed : goal.returns-in-Some-clause-placed
returns-in-Some-clause-placed g c = found_placed (g.S.Steps.known c.args.seat.now) (g.S.Steps.known c.find-found.new.seat) c.args.job.now c.args.bits c.in-Some.slot c.find-found.ensures.learns c.requires.reads c.in-Some.ensures.found

pub returns-in-None-clause-placed : goal.returns-in-None-clause-placed
returns-in-None-clause-placed g c = placed_learns c.args.job.now c.add.result c.find-found.ensures.learns c.add.ensures.placed
