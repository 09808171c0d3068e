use Rattle.std.proofs.Common.{◌≡◌, ◌≢◌, ℕ, ◌∙◌, inl, inr, arith, below_more}
use Rattle.std.proofs.lemmas.Bool.{cases_lt}
use Rattle.shared_store.specs.Sharing.{count}
use Rattle.shared_store.proofs.Recounted.{recounted-both}
use Rattle.shared_store.proofs.shared.Shared.let_all_go.Goals as goal

pub loop-slot-preserved : goal.loop-slot-preserved
loop-slot-preserved c =
    let i = c.loop-slot.invariant in record {
      rest = recounted-both _ _ _ i.rest c.count_out.ensures.rest;
      beyond = i.beyond;
      kept = λ k from. let apart : k ≢ c.loop-slot.slot = omega (arith, from) in c.count_out.ensures.others k apart ∙ i.kept k (omega (arith, from));
      none = below_more (λ (k : ℕ). count c.count_out.new.self k ≡ 0) c.loop-slot.slot (λ k below. let apart : k ≢ c.loop-slot.slot = omega (arith, below) in c.count_out.ensures.others k apart ∙ i.none k below) c.count_out.ensures.here;
    }

pub returns-clause-none : goal.returns-clause-none
returns-clause-none c k =
    let i = c.loop-slot.invariant in
    let over = c.loop-slot-test.false in
    elim (cases_lt k c.loop-slot.slot) [
      | inl below ↦ i.none k below
      | inr from ↦ i.kept k from ∙ i.beyond k (omega (arith, from, over))
    ]
