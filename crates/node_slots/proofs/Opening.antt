-- A store with the permanent slots alone is canonical.
use Rattle.std.proofs.Common.{◌≡◌, ◌⊎◌, inl, inr, ℕ, zero, suc, ◌+◌, ◌-◌, ◌<◌, ◌≤◌, ◌^◌, eqb, nat_lt, Bool, true, false, List, length, Some, None, ℤ, pos, zero-add, refl, ap, sym, ◌∙◌, subst, arith}
use Rattle.std.specs.Prelude.{slice_index, if◌then◌else◌}
use Rattle.std.specs.List.{range_with_len}
use Rattle.std.proofs.lemmas.Bool.{cases_lt, cases_eq}
use Rattle.std.proofs.lemmas.Nat.Bits.{bit_at-zero}
use Rattle.std.proofs.lemmas.List.FromFn.{get_or-range_with_len, length-range_with_len}
use Rattle.edge_bits.specs.declared.edges.Kind.{Kind}
use Rattle.edge_bits.specs.declared.edges.Kind.TheVariants.{Bdd, Add, Zdd}
use Rattle.edge_bits.specs.declared.words.Node.{Node}
use Rattle.edge_bits.specs.declared.words.Word.{Word}
use Rattle.edge_bits.specs.declared.words.Word.TheVariants.{Inner, Leaf}
use Rattle.edge_bits.specs.Assignments.{bit, set_bit}
use Rattle.edge_bits.proofs.AssignmentLemmas.{bit-set_same, bit-set_other}
use Rattle.edge_bits.specs.Permanent.{first_element}
use Rattle.edge_bits.specs.declared.limits.TheConstants.{MOST_ELEMENTS, MOST_SLOTS, MOST_VARIABLES}
use Rattle.function_laws.specs.Values.{constant, projection}
use Rattle.function_laws.specs.Numbers.{is_value, is_zero}
use Rattle.function_laws.specs.Families.{empty, base}
use Rattle.function_laws.specs.Kinds.{Denoted, BddFunction, AddFunction, ZddFamily}
use Rattle.node_store.specs.Views.{levels, IsVariable}
use Rattle.computed_cache.specs.Entries.{Kept, kept_at}
use Rattle.node_slots.specs.Slots.{function_at_most}
use Rattle.node_store.specs.Contents.{projection_node, constant_value}
use Rattle.node_slots.specs.Stores.{Plain, slots, level_in, longest, content_of, plain_view, permanent_word, IsNode, IsOrdered, HasPermanent, AreHolds, AreInverse, IsStore, IsOpening}
use Rattle.node_slots.specs.declared.plain_store.Refused.{Refused}
use Rattle.node_slots.proofs.Reading.{used, was_refused}
use Rattle.node_slots.proofs.Holding.{opening_holds}
use Rattle.node_slots.proofs.Calls.{leaf_content, projection_content}

pub permanent_low : (s : ℕ) → s < 5 → permanent_word s ≡ Leaf (constant_value s)
permanent_low s lt = let t : nat_lt s 5 ≡ true = grind (arith, lt) in rw t refl

pub permanent_high : (v : ℕ) → permanent_word (5 + v) ≡ Inner (projection_node v)
permanent_high v =
    let t : nat_lt (5 + v) 5 ≡ false = grind arith in
    let e : 5 + v - 5 ≡ v = omega arith in
    rw (t, e) refl

-- the permanent words are those of the constants and the projections
pub HasPermanent-words : (p : Plain) → ((s : ℕ) → s < 5 + length p.variable_levels → slots p s ≡ Some (permanent_word s)) → HasPermanent p
HasPermanent-words p h = record {
  constants = λ s lt. h s (omega arith) ∙ ap Some (permanent_low s lt);
  projections = λ v lt. h (5 + v) (omega arith) ∙ ap Some (permanent_high v);
}

pub permanent_words : (p : Plain) → HasPermanent p → (s : ℕ) → s < 5 + length p.variable_levels → slots p s ≡ Some (permanent_word s)
permanent_words p h s below = elim (cases_lt s 5) [
  | inl low ↦ h.constants s low ∙ ap Some (sym (permanent_low s low))
  | inr high ↦ (
      let v : ℕ = s - 5 in
      let at : s ≡ 5 + v = omega arith in
      ap (slots p) at ∙ h.projections v (omega arith) ∙ ap Some (sym (permanent_high v)) ∙ ap (λ t. Some (permanent_word t)) (sym at))
]

pub small_constant : (s : ℕ) → is_value (constant_value s) ≡ true
small_constant zero = refl
small_constant (suc zero) = refl
small_constant (suc (suc zero)) = refl
small_constant (suc (suc (suc zero))) = refl
small_constant (suc (suc (suc (suc s)))) = refl

-- both orders are 0, 1, 2, ..
pub IsOrdered-ascending : (p : Plain) (n m : ℕ) → p.variable_levels ≡ range_with_len 0 n → p.element_levels ≡ range_with_len 0 m → IsOrdered p
IsOrdered-ascending p n m lv le = record { within = within; alone = alone }
  where
    count_v : length p.variable_levels ≡ n
    count_v = ap length lv ∙ length-range_with_len 0 n

    count_e : length p.element_levels ≡ m
    count_e = ap length le ∙ length-range_with_len 0 m

    of_variable : (v : ℕ) → v < first_element → v < length p.variable_levels → level_in p v ≡ v
    of_variable v small lt =
        let t : nat_lt v first_element ≡ true = grind (arith, small) in
        let lt2 : v < n = omega (arith, count_v, lt) in
        rw t (ap (λ (xs : List ℕ). slice_index xs v) lv ∙ get_or-range_with_len 0 n v 0 lt2 ∙ zero-add v)

    of_element : (v : ℕ) → first_element ≤ v → v < first_element + length p.element_levels → level_in p v ≡ v - first_element
    of_element v high lt =
        let t : nat_lt v first_element ≡ false = grind (arith, high) in
        let lt2 : v - first_element < m = omega (arith, count_e, lt) in
        rw t (ap (λ (xs : List ℕ). slice_index xs (v - first_element)) le ∙ get_or-range_with_len 0 m (v - first_element) 0 lt2 ∙ zero-add (v - first_element))

    within : (k : Kind) (v : ℕ) → IsVariable k (plain_view p) v → level_in p v < levels k (plain_view p)
    within Bdd v h = let e = of_variable v h.0 h.1 in let l = h.1 in omega (arith, e, l)
    within Add v h = let e = of_variable v h.0 h.1 in let l = h.1 in omega (arith, e, l)
    within Zdd v h = let e = of_element v h.0 h.1 in let l = h.1 in let g = h.0 in omega (arith, e, l, g)

    alone : (k : Kind) (u v : ℕ) → IsVariable k (plain_view p) u → IsVariable k (plain_view p) v → level_in p u ≡ level_in p v → u ≡ v
    alone Bdd u v hu hv e = sym (of_variable u hu.0 hu.1) ∙ e ∙ of_variable v hv.0 hv.1
    alone Add u v hu hv e = sym (of_variable u hu.0 hu.1) ∙ e ∙ of_variable v hv.0 hv.1
    alone Zdd u v hu hv e = let d = sym (of_element u hu.0 hu.1) ∙ e ∙ of_element v hv.0 hv.1 in let a = hu.0 in let b = hv.0 in omega (arith, d, a, b)

never : true ≡ false → ⊥
never e = cc

pub bit-zero : (e : ℕ) → bit 0 e ≡ false
bit-zero e = ap (λ (n : ℕ). eqb n 1) (bit_at-zero e)

projection-apart : (u v : ℕ) → projection u ≡ projection v → u ≡ v
projection-apart u v e = elim (cases_eq u v) [
  | inl same ↦ same
  | inr ne ↦ absurd (never (sym (bit-set_same 0 u true) ∙ ap (λ (f : ℕ → Bool). f (set_bit 0 u true)) e ∙ bit-set_other 0 u v true (λ h. ne (sym h)) ∙ bit-zero v))
]

one-apart : (v : ℕ) → constant true ≡ projection v → ⊥
one-apart v e = never (ap (λ (f : ℕ → Bool). f 0) e ∙ bit-zero v)

-- the constant's slot is told by its function
leaf_slot : Denoted → ℕ
leaf_slot (BddFunction f) = 0
leaf_slot (AddFunction f) = if is_zero (f 0) then 3 else 4
leaf_slot (ZddFamily p) = if p 0 then 2 else 1

-- what a slot denotes where only the permanent slots have words
record Constant (s : ℕ) (f : Denoted) : Type 0 where
  here : s ≡ leaf_slot f
  apart : (v : ℕ) → f ≡ BddFunction (projection v) → ⊥

record Projection (s : ℕ) (f : Denoted) : Type 0 where
  variable : ℕ
  here : s ≡ 5 + variable
  is : f ≡ BddFunction (projection variable)

module _ (p : Plain) (first : HasPermanent p) (free : (s : ℕ) → 5 + length p.variable_levels ≤ s → slots p s ≡ None) where
  -- slots from 5 on
  high_slot : (s : ℕ) → 5 ≤ s → (word : Word) → slots p s ≡ Some word → (s - 5 < length p.variable_levels) × (s ≡ 5 + (s - 5)) × (word ≡ Inner (projection_node (s - 5)))
  high_slot s le word is = elim (cases_lt s (5 + length p.variable_levels)) [
    | inl lt ↦ (
        let e : s ≡ 5 + (s - 5) = omega arith in
        let same : Some word ≡ Some (Inner (projection_node (s - 5))) = sym is ∙ ap (slots p) e ∙ first.projections (s - 5) (omega arith) in
        (omega arith, e, cc))
    | inr over ↦ (let e : None ≡ Some word = sym (free s over) ∙ is in cc)
  ]

  leaf_case : (s : ℕ) (x : ℤ) → 3 ≤ s → slots p s ≡ Some (Leaf x) → s ≡ leaf_slot (AddFunction (constant x)) → (f : Denoted) → content_of p s ≡ Some f → Constant s f
  leaf_case s x le is here f h =
      let e : Some (AddFunction (constant x)) ≡ Some f = sym (leaf_content p s x le is) ∙ h in
      subst (Constant s) (let same : AddFunction (constant x) ≡ f = cc in same) (record { here = here; apart = λ v same. cc })

  high_case : (s : ℕ) → 5 ≤ s → (f : Denoted) → content_of p s ≡ Some f → Projection s f
  high_case s le f h =
      let u = used (slots p) (longest p) s f (omega arith) h in
      let w = high_slot s le u.0 u.1 in
      let e : Some (BddFunction (projection (s - 5))) ≡ Some f = sym (projection_content p first (s - 5) w.0) ∙ ap (content_of p) (sym w.1) ∙ h in
      record { variable = s - 5; here = w.1; is = cc }

  classify : (s : ℕ) (f : Denoted) → content_of p s ≡ Some f → Constant s f ⊎ Projection s f
  unfolding function_at_most leaf_slot
  classify zero f h = inl (subst (Constant 0) (let same : BddFunction (constant true) ≡ f = cc in same) (record { here = refl; apart = λ v e. one-apart v (let same : constant true ≡ projection v = cc in same) }))
  classify (suc zero) f h = inl (subst (Constant 1) (let same : ZddFamily empty ≡ f = cc in same) (record { here = refl; apart = λ v e. cc }))
  classify (suc (suc zero)) f h = inl (subst (Constant 2) (let same : ZddFamily base ≡ f = cc in same) (record { here = refl; apart = λ v e. cc }))
  classify (suc (suc (suc zero))) f h = inl (leaf_case 3 (pos 0) (omega arith) (first.constants 3 (omega arith)) refl f h)
  classify (suc (suc (suc (suc zero)))) f h = inl (leaf_case 4 (pos 1) (omega arith) (first.constants 4 (omega arith)) refl f h)
  classify (suc (suc (suc (suc (suc s))))) f h = inr (high_case (suc (suc (suc (suc (suc s))))) (omega arith) f h)

  apart : (s t : ℕ) (f : Denoted) → content_of p s ≡ Some f → content_of p t ≡ Some f → s ≡ t
  apart s t f hs ht = elim (classify s f hs) [
    | inl a ↦ elim (classify t f ht) [
      | inl b ↦ a.here ∙ sym b.here
      | inr b ↦ absurd (a.apart b.variable b.is)
    ]
    | inr a ↦ elim (classify t f ht) [
      | inl b ↦ absurd (b.apart a.variable a.is)
      | inr b ↦ (
          let same : BddFunction (projection a.variable) ≡ BddFunction (projection b.variable) = sym a.is ∙ b.is in
          let v = projection-apart a.variable b.variable cc in
          a.here ∙ ap (λ n. 5 + n) v ∙ sym b.here)
    ]
  ]

  leaves : (s : ℕ) (x : ℤ) → slots p s ≡ Some (Leaf x) → is_value x ≡ true
  leaves s x is = elim (cases_lt s 5) [
    | inl lt ↦ (
        let e : Some (Leaf (constant_value s)) ≡ Some (Leaf x) = sym (first.constants s lt) ∙ is in
        subst (λ y. is_value y ≡ true) (let same : constant_value s ≡ x = cc in same) (small_constant s))
    | inr le ↦ (let w = high_slot s le (Leaf x) is in let e = w.2 in cc)
  ]

  module _ (orders : IsOrdered p) (few : length p.variable_levels ≤ MOST_VARIABLES) where
    projection_kept : (v : ℕ) → v < length p.variable_levels → IsNode Bdd p (projection_node v)
    unfolding function_at_most
    projection_kept v lt =
        let vn : IsVariable Bdd (plain_view p) v = (omega arith, lt) in
        record {
          can_make = record {
            in_range = vn;
            hi_is = record { is = refl; beyond = λ u h k b. refl; fits = tt };
            lo_is = record { is = refl; beyond = λ u h k b. refl; fits = tt };
            hi_below = λ u un le k b. refl;
            lo_below = λ u un le k b. refl;
          };
          proper = λ e. never (ap (λ (f : ℕ → Bool). f 0) e);
          regular = refl;
        }

    nodes : (s : ℕ) (node : Node) → slots p s ≡ Some (Inner node) → (k : Kind) × IsNode k p node
    nodes s node is = elim (cases_lt s 5) [
      | inl lt ↦ (let e = sym (first.constants s lt) ∙ is in cc)
      | inr le ↦ (
          let w = high_slot s le (Inner node) is in
          let e = w.2 in
          let same : projection_node (s - 5) ≡ node = cc in
          subst (λ n. (k : Kind) × IsNode k p n) same (Bdd, projection_kept (s - 5) w.0))
    ]

    never_some : (kept : Kept) → None ≡ Some kept → ⊥
    never_some kept e = cc

    -- the store is canonical
    pub IsStore-opening : ((r : Refused) → p.due ≡ Some r → ⊥) → length p.element_levels ≤ MOST_ELEMENTS → 5 + length p.variable_levels ≤ length p.words → length p.words < 2 ^ 23 → AreHolds p
        → AreInverse p.variable_levels p.variables_at → AreInverse p.element_levels p.elements_at → ((i : ℕ) → kept_at p.memo i ≡ None) → IsStore p
    IsStore-opening none elements room words holds variables_stand elements_stand empty = record {
      ordered = orders;
      variables_stand = variables_stand;
      elements_stand = elements_stand;
      permanent = first;
      canonical = record { nodes = nodes; leaves = leaves; apart = apart };
      few_variables = few;
      few_elements = elements;
      room = room;
      few_words = words;
      holds = holds;
      refused = λ r is t below free. none r is;
      missing = λ f due. absurd (let r = was_refused (content_of p) p.due f due in none r.0 r.1);
      remembered = λ i kept h. absurd (let bad : None ≡ Some kept = sym (empty i) ∙ h in never_some kept bad);
    }

none_due : (r : Refused) → None ≡ Some r → ⊥
none_due r e = cc

-- the order 0, 1, 2, .. is its own inverse
ascending_inverse : (n : ℕ) → AreInverse (range_with_len 0 n) (range_with_len 0 n)
ascending_inverse n =
    let long = length-range_with_len 0 n in
    record {
      as_many = refl;
      each = λ level lt. (
          let here : slice_index (range_with_len 0 n) level ≡ level = get_or-range_with_len 0 n level 0 (omega arith) ∙ zero-add level in
          (omega arith, ap (slice_index (range_with_len 0 n)) here ∙ here));
    }

pub IsStore-new : (p : Plain) (vars elements limit : ℕ) → vars ≤ MOST_VARIABLES → elements ≤ MOST_ELEMENTS → 5 + vars ≤ limit → limit ≤ MOST_SLOTS → IsOpening vars elements limit p → IsStore p
IsStore-new p vars elements limit fv fe least most o =
    let n = ap length o.variable_levels ∙ length-range_with_len 0 vars in
    let m = ap length o.element_levels ∙ length-range_with_len 0 elements in
    let l = o.slots_are in
    IsStore-opening p (HasPermanent-words p (λ s lt. o.permanent s (omega (arith, n, lt)))) (λ s le. o.free s (omega (arith, n, le)))
    (IsOrdered-ascending p vars elements o.variable_levels o.element_levels) (omega (arith, n)) (λ r is. none_due r (sym o.due ∙ is)) (omega (arith, m)) (omega arith) (omega arith) (opening_holds p limit l o.counts o.marks o.pins)
    (rw (o.variable_levels, o.variables_at) (ascending_inverse vars)) (rw (o.element_levels, o.elements_at) (ascending_inverse elements)) o.memo
