-- What an operation of two operands stores is part of its value.
use Rattle.std.proofs.Common.{◌≡◌, ℕ, ◌≤◌, Bool, true, Some, ◌⊎◌, inl, inr, Result, Ok, Err, IfOk, ap, sym, ◌∙◌, subst}
use Rattle.std.specs.Prelude.{IsOkAnd}
use Rattle.edge_bits.specs.declared.edges.Edge.{Edge}
use Rattle.computed_cache.specs.declared.Key.{Key}
use Rattle.edge_bits.specs.declared.edges.Kind.{Kind}
use Rattle.function_laws.specs.Kinds.{ValueOf, function_of}
use Rattle.node_store.specs.Views.{View, Grown, Kept, Denotes, Is, AreTwo, IsKey}
use Rattle.node_store.specs.ViewLaws.{Grown-trans}
use Rattle.node_store.specs.Work.{IsWork, Moves}
use Rattle.node_store.specs.WorkLaws.{IsPart-grown, IsWork-due, Moves-made}
use Rattle.node_store.specs.Two.{place_at, TwoDue, value_of_two, IsOrderFor, Overflows}
use Rattle.node_store.specs.TwoLaws.{place_at-grown}
use Rattle.node_store.proofs.TwoParts.{place_order}
use Rattle.node_store.specs.Memo.{PlaceHolds}
use Rattle.node_store.specs.declared.operator.Halt.{Halt}
use Rattle.node_store.specs.declared.operator.Task.{Task}

module _ (k : Kind) (op : ValueOf k → ValueOf k → ValueOf k) (f g : Edge) where
  -- a task's value was stored
  pub Part-moved : (v w : View) (t : Task) (e : Edge) → TwoDue k op f g v t → Grown v w → ((s : ℕ) → w.made s ≡ true → (v.made s ≡ true) ⊎ (e.index ≡ s))
      → Denotes k w e (place_at k op v t.f t.g) → Moves (λ w. AreTwo k w f g) (value_of_two k op f g) v w
  Part-moved v w t e d m made is = Moves-made k (λ w. AreTwo k w f g) (value_of_two k op f g) v w e (place_at k op v f g) (place_at k op v t.f t.g) m made
      (λ roots. ap (function_of k) (sym (place_at-grown k op m roots))) (IsPart-grown k m (place_at k op v f g) (place_at k op v t.f t.g) d.part) is

  -- a task's value was due
  pub Part-refused : (v w : View) (t : Task) → TwoDue k op f g v t → Grown v w → w.due ≡ Some (function_of k (place_at k op v t.f t.g)) → IsWork w (value_of_two k op f g w) w.due
  Part-refused v w t d m is = IsWork-due k w (value_of_two k op f g w) (place_at k op v f g) (place_at k op v t.f t.g)
      (ap (function_of k) (sym (place_at-grown k op m d.roots))) (IsPart-grown k m (place_at k op v f g) (place_at k op v t.f t.g) d.part) is

  -- a task's value is that of the operands in another order, before a call that makes nothing
  same_value : (v w : View) (t u : Task) → TwoDue k op f g v t → IsOrderFor op t.f t.g u.f u.g → Kept v w → place_at k op w u.f u.g ≡ place_at k op v t.f t.g
  same_value v w t u d is kept = place_order k op w t.f t.g u.f u.g is ∙ place_at-grown k op kept.grown d.two

  -- the answer at two leaves
  pub Leaves-moved : (v w x : View) (t u : Task) (r : Result Edge Halt) → TwoDue k op f g v t → IsOrderFor op t.f t.g u.f u.g → Kept v w → Grown w x
      → ((s : ℕ) → x.made s ≡ true → (w.made s ≡ true) ⊎ IsOkAnd r (λ e. e.index ≡ s)) → IfOk r (λ e. Denotes k x e (place_at k op w u.f u.g))
      → Moves (λ w. AreTwo k w f g) (value_of_two k op f g) v x
  Leaves-moved v w x t u (Ok e) d is kept m made ok =
      Part-moved v x t e d (Grown-trans kept.grown m) (λ s here. elim (made s here) [ inl old ↦ inl (ap (λ (h : ℕ → Bool). h s) (sym kept.made) ∙ old) | inr same ↦ inr same ])
      (subst (λ h. Denotes k x e h) (same_value v w t u d is kept) ok)
  Leaves-moved v w x t u (Err _) d is kept m made ok = record {
    grown = Grown-trans kept.grown m;
    work = λ roots s here. elim (made s here) [ inl old ↦ inl (ap (λ (h : ℕ → Bool). h s) (sym kept.made) ∙ old) | inr bad ↦ absurd bad ];
  }

  pub Leaves-refused : (v w x : View) (t u : Task) → TwoDue k op f g v t → IsOrderFor op t.f t.g u.f u.g → Kept v w → Grown w x
      → x.due ≡ Some (function_of k (place_at k op w u.f u.g)) → IsWork x (value_of_two k op f g x) x.due
  Leaves-refused v w x t u d is kept m due = Part-refused v x t d (Grown-trans kept.grown m) (due ∙ ap (λ h. Some (function_of k h)) (same_value v w t u d is kept))

  pub Leaves-over : (v w x : View) (t u : Task) → TwoDue k op f g v t → IsOrderFor op t.f t.g u.f u.g → Kept v w → Grown w x
      → Overflows k (place_at k op w u.f u.g) → Overflows k (place_at k op x t.f t.g)
  Leaves-over v w x t u d is kept m over = subst (Overflows k) (same_value v w t u d is kept ∙ sym (place_at-grown k op (Grown-trans kept.grown m) d.two)) over

  pub Leaves-answer : (v w x : View) (t u : Task) (e : Edge) → TwoDue k op f g v t → IsOrderFor op t.f t.g u.f u.g → Kept v w → Grown w x
      → Denotes k x e (place_at k op w u.f u.g) → Denotes k x e (place_at k op x t.f t.g)
  Leaves-answer v w x t u e d is kept m ok = subst (λ h. Denotes k x e h) (same_value v w t u d is kept ∙ sym (place_at-grown k op (Grown-trans kept.grown m) d.two)) ok

-- an answer under a key of the same operands in their order
pub Place-hit : (k : Kind) (op : ValueOf k → ValueOf k → ValueOf k) (v w : View) (f g : Edge) (key : Key) (e : Edge) → Grown v w → IsOrderFor op f g key.f key.g
    → PlaceHolds k op w key e → Denotes k w e (place_at k op w f g)
Place-hit k op v w f g key e m is p = rw (sym (place_order k op w f g key.f key.g is)) p.answer

pub IsKey-two : (k : Kind) (w : View) (key : Key) → 1 ≤ key.op → key.op ≤ 62 → Is k w key.f → Is k w key.g → key.h ≡ key.f → IsKey w key
IsKey-two k w key least most df dg same = record { least = least; most = most; f = (k, df); g = (k, dg); h = (k, rw same df) }
