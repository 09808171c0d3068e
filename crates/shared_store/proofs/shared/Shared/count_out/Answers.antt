use Rattle.std.proofs.Common.{◌<◌, refl, ap, ◌∙◌, arith}
use Rattle.handle_count.specs.CountWords.{count_of}
use Rattle.std.proofs.lemmas.List.{get_or-set_other}
use Rattle.node_slots.specs.Stores.{count_at}
use Rattle.shared_store.proofs.Recounted.{recounted, recounted-both, recounted-none}
use Rattle.shared_store.proofs.Used.{counted_used}
use Rattle.shared_store.proofs.shared.Shared.count_out.Goals as goal

pub loop-init : goal.loop-init
loop-init c = record { rest = recounted-none _; end_is = c.count_of-end.ensures; left = omega arith; others = λ k apart. refl }

pub lower-requires-clause-some : goal.lower-requires-clause-some
lower-requires-clause-some c = let i = c.loop.invariant in let left = i.left in let end = i.end_is in omega (arith, left, end)

pub lower-requires-clause-used : goal.lower-requires-clause-used
lower-requires-clause-used c =
    let i = c.loop.invariant in
    let left = i.left in
    let end = i.end_is in
    let some : 0 < count_at c.loop.self.store c.args.slot = omega (arith, left, end) in
    counted_used c.loop.self.store c.tell_sound.ensures.sound c.args.slot some

pub loop-preserved : goal.loop-preserved
loop-preserved c =
    let i = c.loop.invariant in record {
      rest = recounted-both _ _ _ i.rest (recounted c.loop.self _ c.args.slot _ c.lower.ensures.rest c.lower.ensures.generation refl);
      end_is = i.end_is;
      left = let left = i.left in let now = c.lower.ensures.count in omega (arith, left, now);
      others = λ k apart. ap (λ p. count_at p k) c.lower.ensures.rest ∙ ap count_of (get_or-set_other c.loop.self.store.counts c.args.slot k _ 0 apart) ∙ i.others k apart;
    }

pub returns-clause-here : goal.returns-clause-here
returns-clause-here c = let i = c.loop.invariant in let left = i.left in let end = i.end_is in omega (arith, left, end)

pub returns-clause-others : goal.returns-clause-others
returns-clause-others c = c.loop.invariant.others

pub returns-clause-rest : goal.returns-clause-rest
returns-clause-rest c = c.loop.invariant.rest
