use Rattle.step_store.specs.Knowing.{word_of}
use Rattle.step_store.proofs.Learning.{learns_same, learns_trans}
use Rattle.step_store.proofs.Placements.{found_placed, may_make-grown, may_store-grown, placed_handed, placed_learns}
use Rattle.step_store.proofs.placing.place.Goals as goal

pub returns-in-Some-clause-placed : goal.returns-in-Some-clause-placed
returns-in-Some-clause-placed g c = found_placed (g.S.Steps.known c.args.seat.now) (g.S.Steps.known c.look.new.seat) c.args.job.now c.args.bits c.in-Some.slot c.look.ensures.learns c.requires.reads c.in-Some.ensures.found

pub find_or_add-placed-requires-clause-may : goal.find_or_add-placed-requires-clause-may
find_or_add-placed-requires-clause-may g c =
    let old = g.S.Steps.known c.args.seat.now in
    let k = g.S.Steps.known c.claim.new.seat in
    let l = learns_trans c.look.ensures.learns (learns_same (g.S.Steps.known c.look.new.seat) k _ c.claim.ensures.taken) in
    (may_make-grown old.view k.view c.args.job.now l.kept.grown c.requires.may.0, may_store-grown old.view k.view (word_of c.args.job.now) l.kept.grown c.requires.may.1)

pub returns-clause-placed : goal.returns-clause-placed
returns-clause-placed g c =
    let old = g.S.Steps.known c.args.seat.now in
    let l = learns_trans c.look.ensures.learns (learns_same (g.S.Steps.known c.look.new.seat) (g.S.Steps.known c.claim.new.seat) _ c.claim.ensures.taken) in
    placed_handed old (g.S.Steps.known c.find_or_add-placed.new.seat) (g.S.Steps.known c.give_turn.new.self) _ c.args.job.now c.find_or_add-placed.result c.give_turn.ensures.given
    (placed_learns c.args.job.now c.find_or_add-placed.result l c.find_or_add-placed.ensures.placed)
