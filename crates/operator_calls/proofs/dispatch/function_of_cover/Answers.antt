use Rattle.std.proofs.Common.{◌≡◌, ◌∙◌, ℕ, sym, subst, arith, inl, inr}
use Rattle.edge_bits.specs.declared.edges.Kind.TheVariants.{Bdd}
use Rattle.function_laws.specs.IrredundantCovers.{cover_value}
use Rattle.node_store.specs.Operations.{halts}
use Rattle.node_store.specs.Views.{Denotes, family_at}
use Rattle.node_store.specs.ViewLaws.{Denotes-lasts, Grown-refl, Grown-trans, Kept-refl}
use Rattle.node_store.proofs.Running.{Adds-between, IsWork-between, lasting}
use Rattle.cover_isop.specs.Covers.{AreVariables, CoverCalls, HasCover, cover_work}
use Rattle.cover_isop.specs.CoverLasts.{cover-grown, cover_work-back}
use Rattle.operator_calls.proofs.dispatch.function_of_cover.Goals as goal

pub returns : goal.returns
returns g c =
    let v = g.G.Grow.view c.args.store.now in let w = g.G.Grow.view c.cover_of.new.store in let n = c.levels-vars.result in let p = c.args.family in
    let first = c.levels-vars.ensures in let r = c.cover_of.ensures in let kept = first.kept in
    let same : n ≡ v.vars = first.levels ∙ kept.grown.vars in
    let d : HasCover n v p = record { family = c.requires.family; variables = subst (AreVariables v) (sym same) c.requires.literals.0 } in
    subst (λ (m : ℕ). CoverCalls (λ e. Denotes Bdd w e (cover_value m v.elements (family_at v p))) (cover_work m p v) v w (halts c.cover_of.result)) same (record {
      grown = Grown-trans kept.grown r.grown;
      room = (let a = r.room in let b = first.room in omega (arith, a, b));
      answer = lasting _ _ _ (λ e is. Denotes-lasts Bdd (Grown-refl w) (cover-grown n kept.grown d.family) is) r.answer;
      overflow = r.overflow;
      work = Adds-between _ _ (λ F is. cover_work-back n p _ _ F kept.grown d is) _ _ _ _ kept (Kept-refl w) r.work;
      memory = λ is. elim (r.memory is) [
        | inl short ↦ inl (let a = first.room in let m = kept.grown.elements in let k = kept.grown.vars in omega (arith, short, a, m, k))
        | inr may ↦ inr (kept.grown.wants may)
      ];
      full = λ is few. (let a = r.full is in let k = kept.fulls in omega (arith, a, k));
      due = λ is. IsWork-between _ _ (λ F is. cover_work-back n p _ _ F kept.grown d is) _ _ (Kept-refl w) (r.due is);
    })
