use Rattle.std.proofs.Common.{inl, inr, arith}
use Rattle.edge_bits.specs.declared.edges.Kind.TheVariants.{Bdd}
use Rattle.node_store.specs.ViewLaws.{Denotes-lasts, Grown-trans, Kept-trans}
use Rattle.node_store.proofs.Running.{Adds-between, IsWork-between, lasting}
use Rattle.cover_isop.specs.Covers.{HasCover}
use Rattle.cover_isop.specs.CoverLasts.{cover-grown, cover_work-back}
use Rattle.cover_isop.proofs.operations.cover_of.Goals as goal
use Rattle.cover_isop.proofs.operations.cover_of.Goals.{then-variables-elements, else-variables-elements}

pub returns : goal.returns
returns g c =
    let n = c.args.vars in let p = c.args.family in
    let taken = c.take_scratch-stack.ensures in let first = c.levels-variables.ensures in let second = c.levels-elements.ensures in let given = c.give_scratch.ensures in
    let r = c.cover_within-outcome.ensures.serves in
    let before = Kept-trans taken.kept (Kept-trans first.kept second.kept) in
    let d : HasCover n (g.G.Grow.view c.args.store.now) p = record { family = c.requires.family; variables = c.requires.variables } in
    record {
      grown = Grown-trans before.grown (Grown-trans r.grown given.kept.grown);
      room = (let a = taken.room in let b = r.room in let e = given.room in omega arith);
      answer = lasting _ _ _ (λ e is. Denotes-lasts Bdd given.kept.grown (cover-grown n before.grown d.family) is) r.answer;
      overflow = r.overflow;
      work = Adds-between _ _ (λ F is. cover_work-back n p _ _ F before.grown d is) _ _ _ _ before given.kept r.work;
      memory = λ is. elim (r.memory is) [
        | inl short ↦ inl (elim c.if-variables-elements.branch [
          | then-variables-elements w ↦ (let a = taken.room in let l = second.levels in let m = before.grown.elements in let is = w.levels-is in omega (arith, short, a, l, m, is))
          | else-variables-elements w ↦ (let a = taken.room in let l = first.levels in let m = taken.kept.grown.vars in let k = first.kept.grown.vars in let is = w.levels-is in omega (arith, short, a, l, m, k, is))
        ])
        | inr may ↦ inr (before.grown.wants may)
      ];
      full = λ is few. (let a = r.full is in let k = before.fulls in let l = given.kept.fulls in omega (arith, a));
      due = λ is. IsWork-between _ _ (λ F is. cover_work-back n p _ _ F before.grown d is) _ _ given.kept (r.due is);
    }
