use Rattle.std.proofs.Common.{◌<◌, ℕ, Bool, refl, sym, ◌∙◌, subst, ap}
use Rattle.dead_sweep.specs.Frees.{rank_or, slot_rank}
use Rattle.dead_sweep.proofs.FreedSlots.{can_free, freed, left}
use Rattle.dead_sweep.proofs.frees.free_slot.Goals as goal

pub is_marked-requires : goal.is_marked-requires
is_marked-requires g c = subst (λ x. c.args.slot < x) (sym c.requires.1.1.1.limit) (c.requires.1.0.sound.within c.args.slot c.requires.1.1.0)

pub free-requires : goal.free-requires
free-requires g c =
    can_free g.W.Whole.others g.met.W.Whole.others_both g.met.W.Whole.others_zero g.start (g.W.Whole.view c.args.w.now) (g.W.Whole.view c.is_marked.new.self) c.requires.1.0 (slot_rank g.start c.args.slot) c.args.slot
    c.is_marked.ensures.after c.requires.1.1.1 c.args.slot c.requires.1.1.0.0 c.requires.1.1.0.1 (ap (rank_or g.start.orders) (sym c.requires.1.1.0.1)) refl
    (ap (λ (f : ℕ → Bool). f c.args.slot) c.is_marked.ensures.after.marked ∙ sym c.is_marked.ensures.marked ∙ c.if-not-is_marked.true)

pub returns-then-not-is_marked : goal.returns-then-not-is_marked
returns-then-not-is_marked g c =
    freed g.W.Whole.others g.met.W.Whole.others_both g.met.W.Whole.others_zero g.start (g.W.Whole.view c.args.w.now) (g.W.Whole.view c.is_marked.new.self) c.requires.1.0 (slot_rank g.start c.args.slot) c.args.slot
    c.is_marked.ensures.after c.requires.1.1.1 c.args.slot c.requires.1.1.0.0 c.requires.1.1.0.1 (ap (rank_or g.start.orders) (sym c.requires.1.1.0.1)) refl
    (ap (λ (f : ℕ → Bool). f c.args.slot) c.is_marked.ensures.after.marked ∙ sym c.is_marked.ensures.marked ∙ c.if-not-is_marked.true) (g.W.Whole.view c.free.new.self) c.free.ensures

pub returns-else-not-is_marked : goal.returns-else-not-is_marked
returns-else-not-is_marked g c =
    left g.W.Whole.others g.met.W.Whole.others_both g.met.W.Whole.others_zero g.start (g.W.Whole.view c.args.w.now) (g.W.Whole.view c.is_marked.new.self) c.requires.1.0 (slot_rank g.start c.args.slot) c.args.slot
    c.is_marked.ensures.after c.requires.1.1.1 c.args.slot c.requires.1.1.0.0 c.requires.1.1.0.1 (ap (rank_or g.start.orders) (sym c.requires.1.1.0.1)) refl
    (ap (λ (f : ℕ → Bool). f c.args.slot) c.is_marked.ensures.after.marked ∙ sym c.is_marked.ensures.marked ∙ c.if-not-is_marked.false)
