-- Runs of what makes a cover between two bounds, which asks first whether they are in order.
use Rattle.std.proofs.Common.{◌≡◌, ◌⊎◌, inl, inr, ℕ, ◌<◌, ◌≤◌, Bool, Ok, Err, true, refl, ap, sym, subst, ◌∙◌, arith}
use Rattle.edge_bits.specs.declared.edges.Edge.{Edge}
use Rattle.edge_bits.specs.declared.edges.Kind.TheVariants as kinds
use Rattle.function_laws.specs.declared.making.Making.TheVariants as makings
use Rattle.function_laws.specs.declared.making.ZddMaking.TheVariants as zdds
use Rattle.function_laws.specs.IrredundantCovers.{IsIrredundant}
use Rattle.function_laws.specs.Kinds.{Denoted}
use Rattle.node_store.specs.Halt.{halt_of}
use Rattle.node_store.specs.declared.grow.Stop.{Stop}
use Rattle.node_store.specs.declared.grow.Stop.TheVariants as stops
use Rattle.node_store.specs.Memo.{Implies}
use Rattle.node_store.specs.Views.{View, AreTwo, Is, Kept, bdd_at, family_at}
use Rattle.node_store.specs.ViewLaws.{Grown-trans, Kept-refl, values_at-grown}
use Rattle.node_store.specs.Work.{Adds}
use Rattle.node_store.proofs.Running.{Adds-between, IsWork-between}
use Rattle.cover_isop.specs.Covers.{CoverCalls}
use Rattle.cover_isop.specs.Isops.{HasBounds, isop_work}
use Rattle.cover_isop.specs.IsopLasts.{HasBounds-grown, isop_work-back}
use Rattle.operator_calls.specs.declared.unmade.Unmade.TheVariants.{Apart}
use Rattle.operator_calls.specs.Making.{HasLiterals, RunsMaking}

module _ (v w : View) (a b : Edge) (kept : Kept v w) (room : v.room ≤ w.room) where
  nothing_stored : (Work : Denoted → Type 0) → Adds Work v w
  nothing_stored Work s here = inl (ap (λ (h : ℕ → Bool). h s) (sym kept.made) ∙ here)

  -- they are not
  pub runs_apart : (Implies (bdd_at v a) (bdd_at v b) → ⊥) → RunsMaking (makings.Zdd (zdds.Isop a b)) v w (Ok (Err Apart))
  runs_apart apart = record { grown = kept.grown; room = room; told = apart; still = λ is. kept; stored = nothing_stored _; memory = λ is. cc; full = λ is. cc; due = λ is. cc }

-- what is asked of bounds is true of them in the store that the question left
pub bounds_after : (v w : View) (a b : Edge) → Kept v w → AreTwo kinds.Bdd v a b → HasLiterals v → HasBounds w a b
bounds_after v w a b kept two has = HasBounds-grown kept.grown (record { variables = has.0; literals = has.1; two = two })

-- and they are: the cover is made in the store that the question left
module _ (v w z : View) (a b : Edge) (kept : Kept v w) (room : v.room ≤ w.room) (two : AreTwo kinds.Bdd v a b) (implies : Implies (bdd_at v a) (bdd_at v b)) where
  abbrev lower : bdd_at w a ≡ bdd_at v a
  lower = values_at-grown kinds.Bdd kept.grown two.first

  abbrev upper : bdd_at w b ≡ bdd_at v b
  upper = values_at-grown kinds.Bdd kept.grown two.second

  work_before : (F : Denoted) → isop_work a b w F → Implies (bdd_at v a) (bdd_at v b) × isop_work a b v F
  work_before F is = (implies, isop_work-back kept.grown F two is)

  irredundant_before : (p : ℕ → Bool) → IsIrredundant w.vars w.elements (bdd_at w a) (bdd_at w b) p → IsIrredundant v.vars v.elements (bdd_at v a) (bdd_at v b) p
  irredundant_before p is = let m = kept.grown in subst (λ (T : Type 0). T) (λ i. IsIrredundant (m.vars i) (m.elements i) (lower i) (upper i) p) is

  module _ (IsCover : Edge → Type 0) (covers : (e : Edge) → IsCover e → Is kinds.Zdd z e) where
    pub runs_isop : (e : Edge) → CoverCalls IsCover (isop_work a b w) w z (Ok e) → IsIrredundant w.vars w.elements (bdd_at w a) (bdd_at w b) (family_at z e) → RunsMaking (makings.Zdd (zdds.Isop a b)) v z (Ok (Ok e))
    runs_isop e calls is = record {
      grown = Grown-trans kept.grown calls.grown;
      room = (let r = calls.room in omega (arith, room, r));
      told = record { is = covers e calls.answer; irredundant = irredundant_before (family_at z e) is };
      still = λ is. cc;
      stored = Adds-between _ _ work_before _ _ _ _ kept (Kept-refl z) calls.work;
      memory = λ is. cc;
      full = λ is. cc;
      due = λ is. cc;
    }

    -- or the run was stopped
    pub runs_halted : (stop : Stop) → CoverCalls IsCover (isop_work a b w) w z (Err (halt_of stop)) → RunsMaking (makings.Zdd (zdds.Isop a b)) v z (Err stop)
    runs_halted stops.Memory calls = record {
      grown = Grown-trans kept.grown calls.grown;
      room = (let r = calls.room in omega (arith, room, r));
      told = tt;
      still = λ is. cc;
      stored = Adds-between _ _ work_before _ _ _ _ kept (Kept-refl z) calls.work;
      memory = λ is. elim (calls.memory refl) [
        | inl short ↦ inl (let n = kept.grown.vars in let m = kept.grown.elements in omega (arith, short, room, n, m))
        | inr may ↦ inr (kept.grown.wants may)
      ];
      full = λ is. cc;
      due = λ is. cc;
    }
    runs_halted stops.Full calls = record {
      grown = Grown-trans kept.grown calls.grown;
      room = (let r = calls.room in omega (arith, room, r));
      told = tt;
      still = λ is. cc;
      stored = Adds-between _ _ work_before _ _ _ _ kept (Kept-refl z) calls.work;
      memory = λ is. cc;
      full = λ is few. (let a = calls.full refl few in let k = kept.fulls in omega (arith, a, k));
      due = λ is. IsWork-between _ _ work_before _ _ (Kept-refl z) (calls.due refl);
    }
