-- What a call for a node or a leaf answers.
use Rattle.std.proofs.Common.{◌≡◌, ◌⊎◌, ℕ, ◌-◌, ◌<◌, ◌≤◌, ◌^◌, inl, inr, true, false, Some, None, Ok, Err, ℤ, refl, ap, sym, ◌∙◌, subst, arith}
use Rattle.std.specs.Prelude.{IsErrOf, IsOkAnd}
use Rattle.edge_bits.specs.declared.edges.Edge.{Edge}
use Rattle.edge_bits.specs.declared.edges.Kind.{Kind}
use Rattle.edge_bits.specs.declared.edges.Kind.TheVariants.{Bdd, Add, Zdd}
use Rattle.edge_bits.specs.Permanent.{empty_edge, first_element}
use Rattle.function_laws.specs.Kinds.{function_of, flipped}
use Rattle.function_laws.specs.Values.{constant}
use Rattle.node_store.specs.declared.grow.Stop.{Stop}
use Rattle.node_store.specs.declared.grow.Stop.TheVariants as stops
use Rattle.node_store.specs.KindLaws.{flipped-some}
use Rattle.node_store.specs.Views.{CanMake, Denotes, Is, IsProper, IsVariable, values_at}
use Rattle.node_store.specs.ViewLaws.{Denotes-empty, Denotes-node, Is-from, values_at-is}
use Rattle.node_slots.specs.Placing.{HasNoChild, IsChild}
use Rattle.node_slots.proofs.Making.{child_is, normal}
use Rattle.step_store.specs.declared.job.Job.{Job}
use Rattle.step_store.specs.declared.job.Job.TheVariants as jobs
use Rattle.step_store.specs.Knowing.{Answers, Knowledge, MayStore, Placed, Stands, word_of}
use Rattle.step_store.proofs.Learning.{grows_learns, learns_refl}

-- no want of memory, and no Full where an edge was answered
ok_not : (e : Edge) (stop : Stop) → IsErrOf {T = Edge} {E = Stop} (Ok e) stop → ⊥
ok_not e stop h = cc

full_not : IsErrOf {T = Edge} {E = Stop} (Err stops.Full) stops.Memory → ⊥
full_not h = cc

same_slot : (a b : ℕ) → Some a ≡ Some b → a ≡ b
same_slot a b e = cc

-- a node that is one of its children
pub child_answers : (k : Knowledge) (v : ℕ) (hi lo e : Edge) → Stands k → IsChild v hi lo e → Answers k k (jobs.Node v hi lo) (Ok e)
child_answers k v hi lo e stands child = record {
  grows = grows_learns (learns_refl k);
  ok = λ j can. child_is k.view stands.permanent.empty j v hi lo e can child;
  made = λ s m. inl m;
  never = ok_not e stops.Memory;
  full = λ h. absurd (ok_not e stops.Full h);
  due = λ h. absurd (ok_not e stops.Full h);
  still_due = refl;
}

-- of a word that was placed in a slot
some_made : (old new : Knowledge) (job : Job) (e : Edge) → Placed old new job (Some e.index) → (s : ℕ) → new.view.made s ≡ true → (old.view.made s ≡ true) ⊎ IsOkAnd {T = Edge} {E = Stop} (Ok e) (λ x. x.index ≡ s)
some_made old new job e p s m = by (p.made s m)
  where
    by : (old.view.made s ≡ true) ⊎ (Some e.index ≡ Some s) → (old.view.made s ≡ true) ⊎ IsOkAnd {T = Edge} {E = Stop} (Ok e) (λ x. x.index ≡ s)
    by (inl h) = inl h
    by (inr h) = inr (same_slot e.index s h)

pub node_answers : (old new : Knowledge) (v : ℕ) (hi lo e : Edge) → e.complement ≡ hi.complement → Placed old new (jobs.Node v hi lo) (Some e.index) → Answers old new (jobs.Node v hi lo) (Ok e)
node_answers old new v hi lo e same p = record {
  grows = p.grows;
  ok = λ k can. (
      let n = normal k old.view v hi lo can in
      let d = p.slot.1 k n.can in
      Denotes-node k can new.view e (ap (λ c. flipped c (new.view.content e.index)) same ∙ n.gives (new.view.content e.index) d.is) p.grows.grown);
  made = some_made old new (jobs.Node v hi lo) e p;
  never = ok_not e stops.Memory;
  full = λ h. absurd (ok_not e stops.Full h);
  due = λ h. absurd (ok_not e stops.Full h);
  still_due = p.still_due;
}

pub leaf_answers : (old new : Knowledge) (x : ℤ) (e : Edge) → e.complement ≡ false → Placed old new (jobs.Leaf x) (Some e.index) → Answers old new (jobs.Leaf x) (Ok e)
leaf_answers old new x e same p = record {
  grows = p.grows;
  ok = subst (λ c. Denotes Add new.view (record { index = e.index; complement = c }) (constant x)) (sym same) p.slot.1;
  made = some_made old new (jobs.Leaf x) e p;
  never = ok_not e stops.Memory;
  full = λ h. absurd (ok_not e stops.Full h);
  due = λ h. absurd (ok_not e stops.Full h);
  still_due = p.still_due;
}

-- where no slot was free
none_made : (old new : Knowledge) (job : Job) → Placed old new job None → (s : ℕ) → new.view.made s ≡ true → (old.view.made s ≡ true) ⊎ IsOkAnd {T = Edge} {E = Stop} (Err stops.Full) (λ x. x.index ≡ s)
none_made old new job p s m = by (p.made s m)
  where
    by : (old.view.made s ≡ true) ⊎ (None ≡ Some s) → (old.view.made s ≡ true) ⊎ IsOkAnd {T = Edge} {E = Stop} (Err stops.Full) (λ x. x.index ≡ s)
    by (inl h) = inl h
    by (inr h) = cc

pub node_refused : (old new : Knowledge) (v : ℕ) (hi lo : Edge) → Placed old new (jobs.Node v hi lo) None → Answers old new (jobs.Node v hi lo) (Err stops.Full)
node_refused old new v hi lo p = record {
  grows = p.grows;
  ok = λ k can. tt;
  made = none_made old new (jobs.Node v hi lo) p;
  never = full_not;
  full = λ h. p.full.0;
  due = λ h. p.full.1;
  still_due = tt;
}

pub leaf_refused : (old new : Knowledge) (x : ℤ) → Placed old new (jobs.Leaf x) None → Answers old new (jobs.Leaf x) (Err stops.Full)
leaf_refused old new x p = record {
  grows = p.grows;
  ok = tt;
  made = none_made old new (jobs.Leaf x) p;
  never = full_not;
  full = λ h. p.full.0;
  due = λ h. p.full.1;
  still_due = tt;
}

module _ (k : Knowledge) (stands : Stands k) where
  -- the children of a node that is none of them
  proper : (j : Kind) (v : ℕ) (hi lo : Edge) → CanMake j k.view v hi lo → HasNoChild v hi lo → IsProper j (values_at j k.view hi) (values_at j k.view lo)
  proper Bdd v hi lo can child = λ same. child.differ can.in_range.0 (stands.canonical Bdd hi lo can.hi_is can.lo_is same)
  proper Add v hi lo can child = λ same. child.differ can.in_range.0 (stands.canonical Add hi lo can.hi_is can.lo_is same)
  proper Zdd v hi lo can child = λ same.
      let none = Denotes-empty k.view stands.permanent in
      child.member can.in_range.0 (ap (λ (e : Edge). e.index) (stands.canonical Zdd hi empty_edge can.hi_is (Is-from Zdd none) (same ∙ sym (values_at-is Zdd none))))

  pub may_store : (j : Kind) (v : ℕ) (hi lo : Edge) → CanMake j k.view v hi lo → HasNoChild v hi lo → MayStore k.view (word_of (jobs.Node v hi lo))
  may_store j v hi lo can child = let n = normal j k.view v hi lo can in (j, n.can, n.proper (proper j v hi lo can child))

  pub index_small : (j : Kind) (e : Edge) → Is j k.view e → e.index < 2 ^ 23
  index_small j e is =
      let s = flipped-some e.complement (k.view.content e.index) (function_of j (values_at j k.view e)) is.is in
      let w = stands.within e.index s.0 s.1 in let few = stands.few_slots in omega (arith, w, few)

  pub var_small : (j : Kind) (v : ℕ) → IsVariable j k.view v → v < 2 ^ 15
  var_small Bdd v is = let a = is.0 in omega (arith, a)
  var_small Add v is = let a = is.0 in omega (arith, a)
  var_small Zdd v is = let a = is.1 in let few = stands.few_elements in omega (arith, a, few)

  pub var_low : (j : Kind) (v : ℕ) → IsVariable j k.view v → v < first_element → v < k.view.vars
  var_low Bdd v is lt = is.1
  var_low Add v is lt = is.1
  var_low Zdd v is lt = let a = is.0 in absurd (omega (arith, a, lt))

  pub var_high : (j : Kind) (v : ℕ) → IsVariable j k.view v → first_element ≤ v → v - first_element < k.view.elements
  var_high Bdd v is le = let a = is.0 in absurd (omega (arith, a, le))
  var_high Add v is le = let a = is.0 in absurd (omega (arith, a, le))
  var_high Zdd v is le = let a = is.1 in omega (arith, a, le)
