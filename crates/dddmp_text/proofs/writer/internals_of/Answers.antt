use Rattle.std.proofs.Common.{◌≡◌, ◌<◌, ◌∙◌, subst, arith, List, ℕ, length}
use Rattle.std.specs.Prelude.{slice_index}
use Rattle.std.proofs.lemmas.Grind.{get_or_default_zero}
use Rattle.std.proofs.lemmas.List.{length-set}
use Rattle.dddmp_text.specs.Ranks.{AreByRank}
use Rattle.dddmp_text.proofs.ByRank.{all_set, rank_set}
use Rattle.dddmp_text.proofs.Lookups.{looked_up}
use Rattle.dddmp_text.proofs.writer.internals_of.Goals as goal

pub loop-rank-preserved : goal.loop-rank-preserved
loop-rank-preserved c =
    let dump = c.args.dump.now in
    let places = c.in_ok-places.places.items in
    let rank = c.loop-rank.rank in
    let by = subst (λ (permids : List ℕ). AreByRank permids places) c.as_slice.ensures c.in_ok-places.ensures.ranks in
    let inside : rank < length places = omega (arith, c.loop-rank-test.true, c.len-rank-end.ensures) in
    let below : rank < length dump.permids = omega (arith, inside, by.as_many) in
    let place : c.index.result.now ≡ slice_index places rank = c.index.ensures ∙ get_or_default_zero places rank c.index.result.now inside in
    let there : slice_index places rank < length dump.ids = omega (arith, by.within rank below, c.requires.as_many) in
    let room : slice_index dump.ids (slice_index places rank) < length c.loop-rank.internals.items = omega (arith, c.requires.below (slice_index places rank) 0 there, c.loop-rank.invariant.long) in
    record {
      long = length-set c.loop-rank.internals.items _ _ ∙ c.loop-rank.invariant.long;
      so_far = rank_set dump.ids c.as_slice-in-loop-rank.result.now dump.permids places c.loop-rank.internals.items rank c.index.result.now c.as_slice-in-loop-rank.ensures place by c.requires.rises
          c.requires.as_many below room c.loop-rank.invariant.so_far;
    }

pub returns : goal.returns
returns c = λ var has.
    let dump = c.args.dump.now in
    let places = c.in_ok-places.places.items in
    let by = subst (λ (permids : List ℕ). AreByRank permids places) c.as_slice.ensures c.in_ok-places.ensures.ranks in
    let long = c.len-rank-end.ensures in
    looked_up dump.ids c.loop-rank.internals.items dump.permids dump.nvars var c.loop-rank.invariant.long c.requires.below
    (λ i within. all_set dump.ids dump.permids places c.loop-rank.internals.items by
    (λ r less. let below : r < c.loop-rank.rank = omega (arith, less, c.loop-rank-test.false, long, by.as_many) in c.loop-rank.invariant.so_far r below) i (omega (arith, within, c.requires.as_many))) has
