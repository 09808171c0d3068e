-- Edges of a store that a test hands on.
use Rattle.std.proofs.Common.{◌≡◌, ℕ, ◌<◌, Option, Some, None, ℤ, pos, refl, sym, arith, subst}
use Rattle.edge_bits.specs.declared.edges.Edge.{Edge}
use Rattle.edge_bits.specs.declared.edges.Kind.TheVariants.{Add, Zdd}
use Rattle.edge_bits.specs.declared.words.Word.{Word}
use Rattle.edge_bits.specs.Permanent.{base_edge, empty_edge, first_element, zero_edge}
use Rattle.function_laws.specs.Families.{base, empty}
use Rattle.function_laws.specs.Values.{constant}
use Rattle.node_store.specs.Views.{View, CanMake, Denotes, IsBelow, Permanent, values_at, number, no_member, only_base}
use Rattle.node_store.specs.ViewLaws.{Is-from, values_at-is}
use Rattle.node_store.proofs.TwoParts.{Lacks-leaf}

-- the leaf of 0
pub denotes_zero : (w : View) (e : Edge) → Permanent w → e ≡ zero_edge → Denotes Add w e (constant (pos 0))
denotes_zero w e permanent is = subst (λ (x : Edge). Denotes Add w x (constant (pos 0))) (sym is) (record {
  is = permanent.add_zero;
  beyond = λ v from. Lacks-leaf Add e (constant (pos 0)) (pos 0) (number e (pos 0)) v;
  fits = λ x. refl;
})

number_below : (w : View) (e : Edge) (x : ℤ) (v : ℕ) → Denotes Add w e (constant x) → IsBelow Add w v (values_at Add w e)
number_below w e x v d u in_range above = rw (values_at-is Add d) (Lacks-leaf Add e (constant x) x (number e x) u)

-- a node of variable 0 over two leaves
pub can_make_numbers : (w : View) (hi lo : Edge) (x y : ℤ) → 0 < w.vars → Denotes Add w hi (constant x) → Denotes Add w lo (constant y) → CanMake Add w 0 hi lo
can_make_numbers w hi lo x y some first second = record {
  in_range = (omega arith, some);
  hi_is = Is-from Add first;
  lo_is = Is-from Add second;
  hi_below = number_below w hi x 0 first;
  lo_below = number_below w lo y 0 second;
}

denotes_base : (w : View) → Permanent w → Denotes Zdd w base_edge base
denotes_base w permanent = record { is = permanent.base; beyond = λ v from. Lacks-leaf Zdd base_edge base (pos 1) only_base v; fits = tt }

denotes_empty : (w : View) → Permanent w → Denotes Zdd w empty_edge empty
denotes_empty w permanent = record { is = permanent.empty; beyond = λ v from. Lacks-leaf Zdd empty_edge empty (pos 0) no_member v; fits = tt }

-- the family of the combination of element 0 alone
pub can_make_single : (w : View) (hi lo : Edge) → Permanent w → 0 < w.elements → hi ≡ base_edge → lo ≡ empty_edge → CanMake Zdd w first_element hi lo
can_make_single w hi lo permanent some is_hi is_lo =
    subst (λ (x : Edge). CanMake Zdd w first_element x lo) (sym is_hi) (subst (λ (x : Edge). CanMake Zdd w first_element base_edge x) (sym is_lo) (record {
      in_range = (omega arith, omega arith);
      hi_is = Is-from Zdd (denotes_base w permanent);
      lo_is = Is-from Zdd (denotes_empty w permanent);
      hi_below = λ u in_range above. rw (values_at-is Zdd (denotes_base w permanent)) (Lacks-leaf Zdd base_edge base (pos 1) only_base u);
      lo_below = λ u in_range above. rw (values_at-is Zdd (denotes_empty w permanent)) (Lacks-leaf Zdd empty_edge empty (pos 0) no_member u);
    }))

-- what is not free has a word
pub some_word : (o : Option Word) → (o ≡ None → ⊥) → (word : Word) × (o ≡ Some word)
some_word None used = absurd (used refl)
some_word (Some word) used = (word, refl)
