use Rattle.std.proofs.Common.{◌≡◌, ℕ, Bool, true, sym, inl, inr, arith, Ok, Err, Result, IfOk}
use Rattle.std.specs.Prelude.{◌↔◌}
use Rattle.edge_bits.specs.declared.lists.Memory.{Memory}
use Rattle.edge_bits.specs.declared.edges.Kind.TheVariants.{Bdd}
use Rattle.node_store.specs.Memo.{Implies}
use Rattle.node_store.specs.ViewLaws.{Grown-trans, Kept-trans, values_at-grown}
use Rattle.node_store.specs.TwoLaws.{AreTwo-grown}
use Rattle.ite_core.proofs.operations.leq.Goals as goal

pub leq_with_room-outcome-requires-clause-operands : goal.leq_with_room-outcome-requires-clause-operands
leq_with_room-outcome-requires-clause-operands g c = AreTwo-grown Bdd (Grown-trans c.take_scratch-stack.ensures.kept.grown c.levels-levels.ensures.kept.grown) c.requires

pub returns-clause-kept : goal.returns-clause-kept
returns-clause-kept g c =
    Kept-trans c.take_scratch-stack.ensures.kept (Kept-trans c.levels-levels.ensures.kept (Kept-trans c.leq_with_room-outcome.ensures.kept c.give_scratch.ensures.kept))

pub returns-clause-room : goal.returns-clause-room
returns-clause-room g c = let a = c.take_scratch-stack.ensures.room in let b = c.leq_with_room-outcome.ensures.room in let d = c.give_scratch.ensures.room in omega arith

same : (f g f2 g2 : ℕ → Bool) → f2 ≡ f → g2 ≡ g → (r : Result Bool Memory) → IfOk r (λ b. (b ≡ true) ↔ Implies f2 g2) → IfOk r (λ b. (b ≡ true) ↔ Implies f g)
same f g f2 g2 p q (Ok b) is = rw (sym p, sym q) is
same f g f2 g2 p q (Err e) is = is

pub returns-clause-leq : goal.returns-clause-leq
returns-clause-leq g c =
    let m = Grown-trans c.take_scratch-stack.ensures.kept.grown c.levels-levels.ensures.kept.grown in
    same _ _ _ _ (values_at-grown Bdd m c.requires.first) (values_at-grown Bdd m c.requires.second) c.leq_with_room-outcome.result c.leq_with_room-outcome.ensures.leq

pub returns-clause-memory : goal.returns-clause-memory
returns-clause-memory g c = λ is.
    let taken = c.take_scratch-stack.ensures in let told = c.levels-levels.ensures in
    let m = Grown-trans taken.kept.grown told.kept.grown in
    elim (c.leq_with_room-outcome.ensures.memory is) [
      | inl short ↦ inl (let a = taken.room in let l = told.levels in let v = m.vars in omega (arith, short))
      | inr may ↦ inr (m.wants may)
    ]
