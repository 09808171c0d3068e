use Rattle.std.proofs.Common.{ℕ, ap, sym, ◌∙◌, subst, arith, length, get_or}
use Rattle.std.specs.Prelude.{map, IfSome, ◌<◌, ◌^◌}
use Rattle.std.proofs.lemmas.List.{length-replicate}
use Rattle.level_table.specs.Slotted.{padded}
use Rattle.held_slots.specs.Notes.{mark_in, pin_in}
use Rattle.held_slots.proofs.Padding.{map-replicate, padded-none}
use Rattle.held_slots.proofs.notes.SlotNotes.new.Goals as goal

pub returns-clause-marks : goal.returns-clause-marks
returns-clause-marks c = ap (λ xs. map mark_in (padded c.args.slots xs)) c.in_ok-notes.ensures.items ∙ ap (map mark_in) (padded-none c.args.slots) ∙ map-replicate mark_in c.args.slots 0

pub returns-clause-pins : goal.returns-clause-pins
returns-clause-pins c = ap (λ xs. map pin_in (padded c.args.slots xs)) c.in_ok-notes.ensures.items ∙ ap (map pin_in) (padded-none c.args.slots) ∙ map-replicate pin_in c.args.slots 0

pub invariant_of-result : goal.invariant_of-result
invariant_of-result c =
    let none : ℕ = 0 in
    let empty = c.in_ok-notes.ensures.items in
    let long = ap length empty in
    let room = c.in_ok-notes.ensures.capacity in
    record {
      within = omega (arith, long);
      few = c.requires;
      room = room;
      variables = ap length (c.in_ok-firsts.ensures.items_if_clones_equal (λ y e. e)) ∙ length-replicate (2 ^ 15) none;
      unmarked = λ off s. ap (λ xs. mark_in (get_or xs s 0)) empty;
      few_older = subst (λ o. IfSome o (λ v. v < 2 ^ 15)) (sym c.in_ok-older.ensures.none) _;
      few_newer = subst (λ o. IfSome o (λ v. v < 2 ^ 15)) (sym c.in_ok-newer.ensures.none) _;
      older_fits = c.in_ok-older.ensures.limit;
      newer_fits = c.in_ok-newer.ensures.limit;
      ungathered = λ off. (c.in_ok-older.ensures.none, c.in_ok-newer.ensures.none);
    }
