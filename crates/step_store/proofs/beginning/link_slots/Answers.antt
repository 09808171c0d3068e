use Rattle.std.proofs.Common.{◌≡◌, ◌<◌, ℕ, ◌+◌, length, set, length-set, refl, ap, sym, ◌∙◌, subst, arith}
use Rattle.std.specs.Prelude.{slice_index}
use Rattle.std.proofs.lemmas.List.{get_or_read}
use Rattle.edge_bits.specs.Mixing.{scattered}
use Rattle.step_store.proofs.Beginnings.{AreLinked, first_linked, next_linked}
use Rattle.step_store.proofs.beginning.link_slots.Goals as goal

pub loop-slot-init : goal.loop-slot-init
loop-slot-init c = record {
  heads = refl;
  places = c.len-places.ensures ∙ c.args.heads.now.ok.0;
  nexts = refl;
  linked = first_linked c.args.heads.now.items c.args.nexts.now.items c.args.words.now.items c.requires.zero;
}

pub loop-slot-preserved : goal.loop-slot-preserved
loop-slot-preserved c =
    let l = c.loop-slot in
    let i = l.invariant in
    let h = c.scatter-head.result in
    let many : c.len-places.result ≡ length l.heads.items = i.places ∙ sym i.heads in
    let within : l.slot < length c.args.words.now.items = let a = c.requires.words in let d = c.loop-slot-test.true in omega (arith, a, d) in
    let read : c.index.result.now ≡ slice_index c.args.words.now.items l.slot = get_or_read c.args.words.now.items l.slot c.index.result.now within c.index.ensures 0 in
    let at = c.scatter-head.ensures.place ∙ ap (λ (n : ℕ). scattered n c.len-places.result) read ∙ ap (scattered (slice_index c.args.words.now.items l.slot)) many in
    let below : h < length l.heads.items = subst (λ n. h < n) many c.scatter-head.ensures.within in
    let inside : l.slot < length l.nexts.items = let a = i.nexts in let b = c.requires.nexts in let d = c.loop-slot-test.true in omega (arith, a, b, d) in
    let front : c.index-in-loop-slot.result.now ≡ slice_index l.heads.items h = get_or_read l.heads.items h c.index-in-loop-slot.result.now below c.index-in-loop-slot.ensures 0 in
    record {
      heads = length-set l.heads.items h (l.slot + 1) ∙ i.heads;
      places = i.places;
      nexts = length-set l.nexts.items l.slot c.index-in-loop-slot.result.now ∙ i.nexts;
      linked = subst (λ (n : ℕ). AreLinked (set l.heads.items h (l.slot + 1)) (set l.nexts.items l.slot n) c.args.words.now.items (l.slot + 1)) (sym front)
          (next_linked l.heads.items l.nexts.items c.args.words.now.items l.slot h (let d = l.auto in omega (arith, d)) inside at below i.linked);
    }
