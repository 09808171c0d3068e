-- The node of one element.
use Rattle.edge_bits.specs.Permanent.{base_edge, empty_edge, first_element}
use Rattle.std.proofs.Common.{◌≡◌, ℕ, ◌+◌, Bool, true, Some, ◌⊎◌, inl, inr, Result, Ok, Err, IfOk, refl, sym, ap, ◌∙◌, subst, arith}
use Rattle.std.specs.Prelude.{IsOkAnd}
use Rattle.edge_bits.specs.declared.edges.Edge.{Edge}
use Rattle.edge_bits.specs.declared.edges.Kind.TheVariants.{Zdd}
use Rattle.edge_bits.specs.Reading.{element_of}
use Rattle.function_laws.specs.Families.{base, empty, joined, single}
use Rattle.function_laws.specs.Kinds.{ZddFamily}
use Rattle.node_store.specs.Views.{View, CanMake, Denotes, Grown, IsVariable, Kept, Permanent, node_values}
use Rattle.node_store.specs.ViewLaws.{Denotes-empty, Grown-trans, Is-from, values_at-is}
use Rattle.node_store.specs.Work.{Adds, IsWork, whole}
use Rattle.node_store.specs.WorkLaws.{IsWork-due, Moves-made}
use Rattle.node_store.specs.declared.grow.Stop.{Stop}
use Rattle.node_store.proofs.TwoParts.{base-without}
use Rattle.zdd_ops.proofs.Combinations.{joined-single}
use Rattle.zdd_ops.specs.Elements.{IsElement, value_of_single}

-- the variable number of an element's nodes
pub IsVariable-element : (w : View) (e : ℕ) → IsElement w e → IsVariable Zdd w (first_element + e)
IsVariable-element w e i = let few = i.in_range in (omega arith, omega arith)

pub element_of-number : (e : ℕ) → element_of (first_element + e) ≡ e
element_of-number e = omega arith

pub Denotes-base : (w : View) → Permanent w → Denotes Zdd w base_edge base
Denotes-base w p = record { is = p.base; beyond = λ v h. base-without (element_of v); fits = tt }

pub Single-can : (w : View) (e : ℕ) (hi lo : Edge) → IsElement w e → Permanent w → hi ≡ base_edge → lo ≡ empty_edge → CanMake Zdd w (first_element + e) hi lo
Single-can w e hi lo i p is_base is_empty = rw (is_base, is_empty) (record {
  in_range = IsVariable-element w e i;
  hi_is = Is-from Zdd (Denotes-base w p);
  lo_is = Is-from Zdd (Denotes-empty w p);
  hi_below = λ u un le. rw (values_at-is Zdd (Denotes-base w p)) (base-without (element_of u));
  lo_below = λ u un le. rw (values_at-is Zdd (Denotes-empty w p)) (λ a has. refl);
})

pub Single-values : (w : View) (e : ℕ) (hi lo : Edge) → Permanent w → hi ≡ base_edge → lo ≡ empty_edge → node_values Zdd w (first_element + e) hi lo ≡ single e
Single-values w e hi lo p is_base is_empty =
    rw (is_base, is_empty, values_at-is Zdd (Denotes-base w p), values_at-is Zdd (Denotes-empty w p)) (ap (λ x. joined x base empty) (element_of-number e) ∙ joined-single e)

-- the node, where it was made, and what was stored
pub Single-made : (u v w : View) (e : ℕ) (hi lo : Edge) (r : Result Edge Stop) → Kept u v → Permanent v → hi ≡ base_edge → lo ≡ empty_edge
    → IfOk r (λ x. Denotes Zdd w x (node_values Zdd v (first_element + e) hi lo)) → IfOk r (λ x. Denotes Zdd w x (single e))
Single-made u v w e hi lo (Ok x) k p is_base is_empty d = subst (λ f. Denotes Zdd w x f) (Single-values v e hi lo p is_base is_empty) d
Single-made u v w e hi lo (Err stop) k p is_base is_empty d = d

pub Single-work : (u v w : View) (e : ℕ) (r : Result Edge Stop) → Kept u v → Grown v w → ((s : ℕ) → w.made s ≡ true → (v.made s ≡ true) ⊎ IsOkAnd r (λ x. x.index ≡ s))
    → IfOk r (λ x. Denotes Zdd w x (single e)) → Adds (value_of_single e) u w
Single-work u v w e (Ok x) k m made d =
    (Moves-made Zdd (λ _. Unit {0}) (λ _. value_of_single e) u w x (single e) (single e) (Grown-trans k.grown m)
    (λ s h. elim (made s h) [ inl old ↦ inl (let same = ap (λ (b : ℕ → Bool). b s) k.made in sym same ∙ old) | inr new ↦ inr new ]) (λ _. refl) whole d).work tt
Single-work u v w e (Err stop) k m made d = λ s h. elim (made s h) [ inl old ↦ inl (let same = ap (λ (b : ℕ → Bool). b s) k.made in sym same ∙ old) | inr bad ↦ absurd bad ]

pub Single-due : (v w : View) (e : ℕ) (hi lo : Edge) → Permanent v → hi ≡ base_edge → lo ≡ empty_edge → w.due ≡ Some (ZddFamily (node_values Zdd v (first_element + e) hi lo)) → IsWork w (value_of_single e) w.due
Single-due v w e hi lo p is_base is_empty due =
    IsWork-due Zdd w (value_of_single e) (single e) (single e) refl whole (due ∙ ap (λ f. Some (ZddFamily f)) (Single-values v e hi lo p is_base is_empty))
