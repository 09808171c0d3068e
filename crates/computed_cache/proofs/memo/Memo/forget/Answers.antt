use Rattle.std.proofs.Common.{arith, refl, subst, ◌≡◌, ℕ}
use Rattle.computed_cache.specs.Entries.{kept_at, without}
use Rattle.computed_cache.proofs.TableLemmas.{IsForgotten, forgotten-all, forgotten-start, forgotten-step}
use Rattle.computed_cache.proofs.memo.Memo.forget.Goals as goal

pub loop-place-init : goal.loop-place-init
loop-place-init c = (refl, refl, forgotten-start c.args.slot c.self.inside.words.items c.self.invariant.entries)

pub loop-place-preserved : goal.loop-place-preserved
loop-place-preserved c =
    let i = c.loop-place.invariant in
    let e = c.forget_at.ensures in
    (i.0, i.1, forgotten-step c.args.slot c.loop-place.place c.self.inside.words.items c.loop-place.self-inside.words.items c.forget_at.new.words.items i.2 e.forgotten e.entry e.others e.length)

pub returns-clause-forgotten : goal.returns-clause-forgotten
returns-clause-forgotten c =
    subst (λ x. (i : ℕ) → kept_at c.loop-place.self-inside.words.items i ≡ without c.args.slot (kept_at x i)) c.self.view_is
    (forgotten-all c.args.slot c.self.inside.places c.self.inside.words.items c.loop-place.self-inside.words.items c.self.invariant.twice
    (subst (λ p. IsForgotten c.args.slot c.self.inside.words.items c.loop-place.self-inside.words.items p) (omega (arith, c.loop-place-test.false)) c.loop-place.invariant.2))
