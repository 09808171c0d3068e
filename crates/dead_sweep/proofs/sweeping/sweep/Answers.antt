use Rattle.std.proofs.Common.{arith, ◌-◌, ℕ, Bool, ◌∙◌, ap, false}
use Rattle.dead_sweep.proofs.Advancing.{after_none, marks_then}
use Rattle.dead_sweep.proofs.SweepLemmas.{no_marks, ready, nothing_freed, fewer, swept}
use Rattle.dead_sweep.proofs.sweeping.sweep.Goals as goal

pub free_all-requires : goal.free_all-requires
free_all-requires g c =
    let r = c.mark_all.ensures.step (g.W.Whole.view c.sweep_in.new.self) (λ s. false) c.sweep_in.ensures.sound (c.sweep_in.ensures.half ∙ c.requires.whole) (no_marks g.W.Whole.others (g.W.Whole.view c.sweep_in.new.self) (g.W.Whole.view c.in_use-before.new.self) (marks_then g.W.Whole.others g.met.W.Whole.others_both (g.W.Whole.view c.sweep_in.new.self) (g.W.Whole.view c.sweep_in.new.self) (g.W.Whole.view c.in_use-before.new.self) (after_none g.W.Whole.others g.met.W.Whole.others_none (g.W.Whole.view c.sweep_in.new.self) c.sweep_in.ensures.sound) c.in_use-before.ensures.after) (λ s. ap (λ (f : ℕ → Bool). f s) (c.in_use-before.ensures.after.marked ∙ c.sweep_in.ensures.marked))) in
    λ κ sub. (sub, (ready g.W.Whole.others g.met.W.Whole.others_none g.met.W.Whole.others_both g.met.W.Whole.others_zero (g.W.Whole.view c.sweep_in.new.self) (g.W.Whole.view c.mark_all.new.w) r.0 c.sweep_in.ensures.sound (c.sweep_in.ensures.half ∙ c.requires.whole) c.sweep_in.ensures.sweeping r.1, nothing_freed g.W.Whole.others g.met.W.Whole.others_none g.met.W.Whole.others_both g.met.W.Whole.others_zero (g.W.Whole.view c.sweep_in.new.self) (g.W.Whole.view c.mark_all.new.w) r.0 c.sweep_in.ensures.sound (c.sweep_in.ensures.half ∙ c.requires.whole) c.sweep_in.ensures.sweeping r.1))

pub overflow_sub-result : goal.overflow_sub-result
overflow_sub-result g c =
    let r = c.mark_all.ensures.step (g.W.Whole.view c.sweep_in.new.self) (λ s. false) c.sweep_in.ensures.sound (c.sweep_in.ensures.half ∙ c.requires.whole) (no_marks g.W.Whole.others (g.W.Whole.view c.sweep_in.new.self) (g.W.Whole.view c.in_use-before.new.self) (marks_then g.W.Whole.others g.met.W.Whole.others_both (g.W.Whole.view c.sweep_in.new.self) (g.W.Whole.view c.sweep_in.new.self) (g.W.Whole.view c.in_use-before.new.self) (after_none g.W.Whole.others g.met.W.Whole.others_none (g.W.Whole.view c.sweep_in.new.self) c.sweep_in.ensures.sound) c.in_use-before.ensures.after) (λ s. ap (λ (f : ℕ → Bool). f s) (c.in_use-before.ensures.after.marked ∙ c.sweep_in.ensures.marked))) in
    let le = fewer g.W.Whole.others g.met.W.Whole.others_none g.met.W.Whole.others_both g.met.W.Whole.others_zero (g.W.Whole.view c.args.w.now) (g.W.Whole.view c.sweep_in.new.self) (g.W.Whole.view c.mark_all.new.w) (g.W.Whole.view c.free_all.new.w) (g.W.Whole.view c.in_use-in_use.new.self) (g.W.Whole.view c.sweep_out.new.self) r.0 c.requires.whole c.sweep_in.ensures r.1 c.free_all.ensures c.in_use-in_use.ensures.after c.sweep_out.ensures in
    omega (arith, le, c.in_use-before.ensures.in_use, c.in_use-in_use.ensures.in_use)

pub returns : goal.returns
returns g c =
    let r = c.mark_all.ensures.step (g.W.Whole.view c.sweep_in.new.self) (λ s. false) c.sweep_in.ensures.sound (c.sweep_in.ensures.half ∙ c.requires.whole) (no_marks g.W.Whole.others (g.W.Whole.view c.sweep_in.new.self) (g.W.Whole.view c.in_use-before.new.self) (marks_then g.W.Whole.others g.met.W.Whole.others_both (g.W.Whole.view c.sweep_in.new.self) (g.W.Whole.view c.sweep_in.new.self) (g.W.Whole.view c.in_use-before.new.self) (after_none g.W.Whole.others g.met.W.Whole.others_none (g.W.Whole.view c.sweep_in.new.self) c.sweep_in.ensures.sound) c.in_use-before.ensures.after) (λ s. ap (λ (f : ℕ → Bool). f s) (c.in_use-before.ensures.after.marked ∙ c.sweep_in.ensures.marked))) in
    let le = fewer g.W.Whole.others g.met.W.Whole.others_none g.met.W.Whole.others_both g.met.W.Whole.others_zero (g.W.Whole.view c.args.w.now) (g.W.Whole.view c.sweep_in.new.self) (g.W.Whole.view c.mark_all.new.w) (g.W.Whole.view c.free_all.new.w) (g.W.Whole.view c.in_use-in_use.new.self) (g.W.Whole.view c.sweep_out.new.self) r.0 c.requires.whole c.sweep_in.ensures r.1 c.free_all.ensures c.in_use-in_use.ensures.after c.sweep_out.ensures in
    swept g.W.Whole.others g.met.W.Whole.others_none g.met.W.Whole.others_both g.met.W.Whole.others_zero (g.W.Whole.view c.args.w.now) (g.W.Whole.view c.sweep_in.new.self) (g.W.Whole.view c.mark_all.new.w) (g.W.Whole.view c.free_all.new.w) (g.W.Whole.view c.in_use-in_use.new.self) (g.W.Whole.view c.sweep_out.new.self) r.0 c.requires.whole c.sweep_in.ensures r.1 c.free_all.ensures c.in_use-in_use.ensures.after c.sweep_out.ensures (record { freed = c.in_use-before.result - c.in_use-in_use.result; in_use = c.in_use-in_use.result }) c.in_use-in_use.ensures.in_use (omega (arith, le, c.in_use-before.ensures.in_use, c.in_use-in_use.ensures.in_use))
