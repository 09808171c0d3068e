use Rattle.std.proofs.Common.{◌≡◌, ◌⊎◌, ℕ, ◌<◌, ◌≤◌, refl, sym, subst, ◌∙◌, arith, length-set, ◌+◌}
use Rattle.std.specs.Prelude.{slice_index, slice_set}
use Rattle.words_rule.proofs.NewTables.{number_more}
use Rattle.words_rule.proofs.beginning.number_from.Goals as goal

pub loop-number-init : goal.loop-number-init
loop-number-init c = record { long = refl; before = λ k lt. absurd (omega (arith, lt)); others = λ i off. refl }

pub loop-number-preserved : goal.loop-number-preserved
loop-number-preserved c =
    let l = c.loop-number in
    let more = subst
    (λ (x : ℕ). ((k : ℕ) → k < l.number + 1 → slice_index (slice_set l.words.items (c.args.first + l.number) x) (c.args.first + k) ≡ k) × ((i : ℕ) → (i < c.args.first) ⊎ (c.args.first + (l.number + 1) ≤ i) → slice_index (slice_set l.words.items (c.args.first + l.number) x) i ≡ slice_index c.args.words.now.items i))
    (sym c.from.ensures) (number_more c.args.words.now.items l.words.items c.args.first l.number c.args.count c.requires.within c.loop-number-test.true l.invariant.long l.invariant.before l.invariant.others) in record {
      long = length-set l.words.items (c.args.first + l.number) c.from.result ∙ l.invariant.long;
      before = more.0;
      others = more.1;
    }
