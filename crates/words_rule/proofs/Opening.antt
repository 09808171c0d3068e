-- The store as a table opens is sound, whatever the numbers of variables, elements and slots.
use Rattle.std.proofs.Common.{◌≡◌, ◌≢◌, inl, inr, ℕ, zero, suc, ◌+◌, ◌^◌, ◌<◌, ◌≤◌, eqb, eqb-true, Bool, true, false, cond, length, Some, None, ℤ, pos, refl, ap, sym, ◌∙◌, subst, arith, eq-eqb, ne_eqb}
use Rattle.std.specs.Prelude.{slice_index}
use Rattle.std.specs.List.{range_with_len}
use Rattle.std.proofs.lemmas.Bool.{cases_lt, cases_eq, lt-ltb, le-ltb}
use Rattle.std.proofs.lemmas.Nat.Bits.{bit_at-zero}
use Rattle.std.proofs.lemmas.List.FromFn.{get_or-range_with_len, length-range_with_len}
use Rattle.edge_bits.specs.declared.edges.Kind.{Kind}
use Rattle.edge_bits.specs.declared.edges.Kind.TheVariants.{Bdd, Add, Zdd}
use Rattle.edge_bits.specs.declared.words.Node.{Node}
use Rattle.edge_bits.specs.declared.words.Word.{Word}
use Rattle.edge_bits.specs.declared.words.Word.TheVariants.{Inner, Leaf}
use Rattle.edge_bits.specs.Assignments.{bit, set_bit}
use Rattle.edge_bits.proofs.AssignmentLemmas.{bit-set_same, bit-set_other}
use Rattle.function_laws.specs.Values.{constant, projection, choice}
use Rattle.function_laws.specs.Numbers.{is_value}
use Rattle.function_laws.specs.Families.{empty, base, IsWithout}
use Rattle.function_laws.specs.Kinds.{Denoted, BddFunction, AddFunction, ZddFamily, ValueOf, function_of, Lacks, Fits}
use Rattle.function_laws.specs.SiftedOrders.{place_of}
use Rattle.function_laws.proofs.ValueLemmas.{everywhere}
use Rattle.node_store.specs.Views.{IsBeyond}
use Rattle.node_store.specs.Contents.{Content, IsOrder, IsSound, IsNodeOf, projection_node, constant_value, level_of, view_of}
use Rattle.words_rule.specs.Openings.{opening_word, opening_function, opening_content}

place_ascending : (k n j : ℕ) → j < n → place_of (k + j) (range_with_len k n) ≡ j
place_ascending k zero j lt = absurd (omega (arith, lt))
place_ascending k (suc n) zero lt = ap (λ b. cond b 0 (suc (place_of (k + 0) (range_with_len (k + 1) n)))) (eq-eqb k (k + 0) (omega arith))
place_ascending k (suc n) (suc j) lt =
    let rest = place_ascending (k + 1) n j (omega (arith, lt)) in
    let same : k + suc j ≡ k + 1 + j = omega arith in
    ap (λ b. cond b 0 (suc (place_of (k + suc j) (range_with_len (k + 1) n)))) (ne_eqb k (k + suc j) (λ e. omega (arith, e))) ∙ ap (λ (x : ℕ). suc (place_of x (range_with_len (k + 1) n))) same ∙ ap suc rest

-- the slot of a projection
abbrev behind : ℕ → ℕ
behind v = suc (suc (suc (suc (suc v))))

pub place_of-range : (n j : ℕ) → j < n → place_of j (range_with_len 0 n) ≡ j
place_of-range n j lt = ap (λ (x : ℕ). place_of x (range_with_len 0 n)) (omega arith) ∙ place_ascending 0 n j lt

pub slice-range : (n j : ℕ) → j < n → slice_index (range_with_len 0 n) j ≡ j
slice-range n j lt = let e = get_or-range_with_len 0 n j 0 lt in e ∙ omega arith

order_ascending : (n : ℕ) → IsOrder (range_with_len 0 n)
order_ascending n =
    let len : length (range_with_len 0 n) ≡ n = length-range_with_len 0 n in
    let in_range : (l : ℕ) → l < length (range_with_len 0 n) → l < n = λ l lt. omega (arith, lt, len) in record {
      below = λ l lt. let e = slice-range n l (in_range l lt) in omega (arith, e, lt);
      once = λ l lt. ap (λ (x : ℕ). place_of x (range_with_len 0 n)) (slice-range n l (in_range l lt)) ∙ place_of-range n l (in_range l lt);
      stands = λ v lt. let e = place_of-range n v (in_range v lt) in omega (arith, e, lt);
      there = λ v lt. ap (slice_index (range_with_len 0 n)) (place_of-range n v (in_range v lt)) ∙ slice-range n v (in_range v lt);
    }

never : true ≡ false → ⊥
never e = cc

bit-zero : (e : ℕ) → bit 0 e ≡ false
bit-zero e = ap (λ (n : ℕ). eqb n 1) (bit_at-zero e)

projection-apart : (u v : ℕ) → projection u ≡ projection v → u ≡ v
projection-apart u v e = elim (cases_eq u v) [
  | inl same ↦ same
  | inr ne ↦ absurd (never (sym (bit-set_same 0 u true) ∙ ap (λ (f : ℕ → Bool). f (set_bit 0 u true)) e ∙ bit-set_other 0 u v true (λ h. ne (sym h)) ∙ bit-zero v))
]

free_other : (u v : ℕ) → u ≢ v → Lacks Bdd (projection v) u
free_other u v ne = λ k b. bit-set_other k u v b (λ e. ne (sym e))

base_without : (e : ℕ) → IsWithout base e
base_without e a has = by_zero (eqb a 0) refl
  where
    by_zero : (b : Bool) → eqb a 0 ≡ b → b ≡ false
    by_zero true is = absurd (let z : a ≡ 0 = eqb-true a 0 is in never (sym (sym (ap (λ (x : ℕ). bit x e) z) ∙ has) ∙ bit-zero e))
    by_zero false is = refl

is_zero_value : ℤ → Bool
is_zero_value (pos zero) = true
is_zero_value _ = false

-- the slot, told by what it denotes, but for the projections
tag : Denoted → ℕ
tag (BddFunction f) = cond (f 0) 0 5
tag (ZddFamily p) = cond (p 0) 2 1
tag (AddFunction f) = cond (is_zero_value (f 0)) 3 4

module _ (n : ℕ) where
  -- what the slots of projections have
  data Slot : ℕ → Type 0 where
    low : (s : ℕ) → s < 5 → Slot s
    high : (v : ℕ) → v < n → Slot (behind v)

  slot_of : (s : ℕ) (f : Denoted) → opening_function n s ≡ Some f → Slot s
  slot_of zero f is = low 0 (omega arith)
  slot_of (suc zero) f is = low 1 (omega arith)
  slot_of (suc (suc zero)) f is = low 2 (omega arith)
  slot_of (suc (suc (suc zero))) f is = low 3 (omega arith)
  slot_of (suc (suc (suc (suc zero)))) f is = low 4 (omega arith)
  slot_of (suc (suc (suc (suc (suc v))))) f is = elim (cases_lt v n) [
    | inl lt ↦ high v lt
    | inr le ↦ (let e : None ≡ Some f = sym (ap (λ b. cond b (Some (BddFunction (projection v))) None) (le-ltb v n le)) ∙ is in cc)
  ]

  pub at_high : (v : ℕ) → v < n → opening_function n (behind v) ≡ Some (BddFunction (projection v))
  at_high v lt = ap (λ b. cond b (Some (BddFunction (projection v))) None) (lt-ltb v n lt)

  pub word_high : (v : ℕ) → v < n → opening_word n (behind v) ≡ Some (Inner (projection_node v))
  word_high v lt = ap (λ b. cond b (Some (Inner (projection_node v))) None) (lt-ltb v n lt)

  -- the slots of the constants and of the projections are in use
  pub used_first : (s : ℕ) → s < 5 + n → opening_word n s ≡ None → ⊥
  used_first zero lt e = cc
  used_first (suc zero) lt e = cc
  used_first (suc (suc zero)) lt e = cc
  used_first (suc (suc (suc zero))) lt e = cc
  used_first (suc (suc (suc (suc zero)))) lt e = cc
  used_first (suc (suc (suc (suc (suc v))))) lt e = let c : Some (Inner (projection_node v)) ≡ None = sym (word_high v (omega (arith, lt))) ∙ e in cc

  some_word : (a b : Word) → Some a ≡ Some b → a ≡ b
  some_word a b e = cc

  some_function : (a b : Denoted) → Some a ≡ Some b → a ≡ b
  some_function a b e = cc

  -- a node is that of a projection
  pub is_high : (s : ℕ) (node : Node) → opening_word n s ≡ Some (Inner node) → (v : ℕ) × (v < n) × (s ≡ behind v) × (projection_node v ≡ node)
  is_high zero node is = cc
  is_high (suc zero) node is = cc
  is_high (suc (suc zero)) node is = cc
  is_high (suc (suc (suc zero))) node is = cc
  is_high (suc (suc (suc (suc zero)))) node is = cc
  is_high (suc (suc (suc (suc (suc v))))) node is = elim (cases_lt v n) [
    | inl lt ↦ (v, lt, refl, (let e : Some (Inner (projection_node v)) ≡ Some (Inner node) = sym (word_high v lt) ∙ is in cc))
    | inr le ↦ (let e : None ≡ Some (Inner node) = sym (ap (λ b. cond b (Some (Inner (projection_node v))) None) (le-ltb v n le)) ∙ is in cc)
  ]

  used_word : (s : ℕ) (f : Denoted) → opening_function n s ≡ Some f → (word : Word) × (opening_word n s ≡ Some word)
  used_word zero f is = (Leaf (pos 1), refl)
  used_word (suc zero) f is = (Leaf (pos 0), refl)
  used_word (suc (suc zero)) f is = (Leaf (pos 1), refl)
  used_word (suc (suc (suc zero))) f is = (Leaf (pos 0), refl)
  used_word (suc (suc (suc (suc zero)))) f is = (Leaf (pos 1), refl)
  used_word (suc (suc (suc (suc (suc v))))) f is = elim (cases_lt v n) [
    | inl lt ↦ (Inner (projection_node v), word_high v lt)
    | inr le ↦ (let e : None ≡ Some f = sym (ap (λ b. cond b (Some (BddFunction (projection v))) None) (le-ltb v n le)) ∙ is in cc)
  ]

  pub has_function : (s : ℕ) (word : Word) → opening_word n s ≡ Some word → (s < 5 + n) × ((f : Denoted) × (opening_function n s ≡ Some f))
  has_function zero word is = (omega arith, (BddFunction (constant true), refl))
  has_function (suc zero) word is = (omega arith, (ZddFamily empty, refl))
  has_function (suc (suc zero)) word is = (omega arith, (ZddFamily base, refl))
  has_function (suc (suc (suc zero))) word is = (omega arith, (AddFunction (constant (pos 0)), refl))
  has_function (suc (suc (suc (suc zero)))) word is = (omega arith, (AddFunction (constant (pos 1)), refl))
  has_function (suc (suc (suc (suc (suc v))))) word is = elim (cases_lt v n) [
    | inl lt ↦ (omega (arith, lt), (BddFunction (projection v), at_high v lt))
    | inr le ↦ (let e : None ≡ Some word = sym (ap (λ b. cond b (Some (Inner (projection_node v))) None) (le-ltb v n le)) ∙ is in cc)
  ]

  tag_low : (s : ℕ) (f : Denoted) → s < 5 → opening_function n s ≡ Some f → tag f ≡ s
  unfolding tag is_zero_value
  tag_low zero f lt is = sym (ap tag (some_function (BddFunction (constant true)) f is))
  tag_low (suc zero) f lt is = sym (ap tag (some_function (ZddFamily empty) f is))
  tag_low (suc (suc zero)) f lt is = sym (ap tag (some_function (ZddFamily base) f is))
  tag_low (suc (suc (suc zero))) f lt is = sym (ap tag (some_function (AddFunction (constant (pos 0))) f is))
  tag_low (suc (suc (suc (suc zero)))) f lt is = sym (ap tag (some_function (AddFunction (constant (pos 1))) f is))
  tag_low (suc (suc (suc (suc (suc v))))) f lt is = absurd (omega (arith, lt))

  tag_high : (v : ℕ) (f : Denoted) → v < n → opening_function n (behind v) ≡ Some f → tag f ≡ 5
  unfolding tag is_zero_value
  tag_high v f lt is = sym (ap tag (some_function (BddFunction (projection v)) f (sym (at_high v lt) ∙ is))) ∙ ap (λ b. cond b 0 5) (bit-zero v)

  apart : (s t : ℕ) (f : Denoted) → opening_function n s ≡ Some f → opening_function n t ≡ Some f → s ≡ t
  apart s t f a b = by (slot_of s f a) (slot_of t f b) a b
    where
      by : {s t : ℕ} → Slot s → Slot t → opening_function n s ≡ Some f → opening_function n t ≡ Some f → s ≡ t
      by (low s l) (low t m) a b = sym (tag_low s f l a) ∙ tag_low t f m b
      by (low s l) (high v m) a b = absurd (let x = tag_low s f l a in let y = tag_high v f m b in omega (arith, x, y, l))
      by (high v l) (low t m) a b = absurd (let x = tag_high v f l a in let y = tag_low t f m b in omega (arith, x, y, m))
      by (high u l) (high v m) a b =
          let same : BddFunction (projection u) ≡ BddFunction (projection v) = some_function (BddFunction (projection u)) f (sym (at_high u l) ∙ a) ∙ sym (some_function (BddFunction (projection v)) f (sym (at_high v m) ∙ b)) in
          ap behind (projection-apart u v (values same))
        where
          values : {g h : ℕ → Bool} → BddFunction g ≡ BddFunction h → g ≡ h
          values e = cc

  -- of a slot's function, by kind
  of_kind : (P : (k : Kind) → (ℕ → ValueOf k) → Type 0) → P Bdd (constant true) → P Zdd empty → P Zdd base → P Add (constant (pos 0)) → P Add (constant (pos 1)) → ((v : ℕ) → v < n → P Bdd (projection v))
      → (s : ℕ) (k : Kind) (f : ℕ → ValueOf k) → opening_function n s ≡ Some (function_of k f) → P k f
  of_kind P one none_in only zero_is one_is proj s k f is = by (slot_of s (function_of k f) is) is
    where
      bdd : (g : ℕ → Bool) → P Bdd g → (k : Kind) (f : ℕ → ValueOf k) → Some (BddFunction g) ≡ Some (function_of k f) → P k f
      bdd g p Bdd f e = let d : g ≡ f = cc in subst (P Bdd) d p
      bdd g p Add f e = cc
      bdd g p Zdd f e = cc

      add : (g : ℕ → ℤ) → P Add g → (k : Kind) (f : ℕ → ValueOf k) → Some (AddFunction g) ≡ Some (function_of k f) → P k f
      add g p Bdd f e = cc
      add g p Add f e = let d : g ≡ f = cc in subst (P Add) d p
      add g p Zdd f e = cc

      zdd : (g : ℕ → Bool) → P Zdd g → (k : Kind) (f : ℕ → ValueOf k) → Some (ZddFamily g) ≡ Some (function_of k f) → P k f
      zdd g p Bdd f e = cc
      zdd g p Add f e = cc
      zdd g p Zdd f e = let d : g ≡ f = cc in subst (P Zdd) d p

      small : (s : ℕ) → s < 5 → opening_function n s ≡ Some (function_of k f) → P k f
      small zero lt e = bdd (constant true) one k f e
      small (suc zero) lt e = zdd empty none_in k f e
      small (suc (suc zero)) lt e = zdd base only k f e
      small (suc (suc (suc zero))) lt e = add (constant (pos 0)) zero_is k f e
      small (suc (suc (suc (suc zero)))) lt e = add (constant (pos 1)) one_is k f e
      small (suc (suc (suc (suc (suc v))))) lt e = absurd (omega (arith, lt))

      by : {s : ℕ} → Slot s → opening_function n s ≡ Some (function_of k f) → P k f
      by (low s l) e = small s l e
      by (high v l) e = bdd (projection v) (proj v l) k f (sym (at_high v l) ∙ e)

module _ (n m limit : ℕ) (few : n ≤ 16384) (few_m : m ≤ 16384) (room : 5 + n ≤ limit) (small : limit < 2 ^ 23) where
  abbrev w : Content
  w = opening_content n m limit

  len : length (range_with_len 0 n) ≡ n
  len = length-range_with_len 0 n

  len_m : length (range_with_len 0 m) ≡ m
  len_m = length-range_with_len 0 m

  node_is : (v : ℕ) → v < n → IsNodeOf w (projection_node v) (BddFunction (projection v))
  node_is v lt = record {
    kind = Bdd;
    high = constant true;
    low = constant false;
    in_range = (omega (arith, lt, few), omega (arith, lt, len));
    high_is = refl;
    low_is = refl;
    is = ap BddFunction (everywhere (projection v) (choice v (constant true) (constant false)) (λ k. by (bit k v)));
    high_lacks = λ k b. refl;
    low_lacks = λ k b. refl;
    proper = λ e. never (ap (λ (f : ℕ → Bool). f 0) e);
  }
    where
      by : (b : Bool) → b ≡ cond b true false
      by true = refl
      by false = refl

  pub opening_sound : IsSound w
  opening_sound = record {
    variables = order_ascending n;
    elements = order_ascending m;
    few_variables = omega (arith, len, few);
    few_elements = omega (arith, len_m, few_m);
    within = λ s u. let h = (has_function n s u.0 u.1).0 in omega (arith, h, room);
    few_slots = small;
    denotes = λ s u. (has_function n s u.0 u.1).1;
    used = λ s f is. used_word n s f is;
    constants = constants;
    logic_one = refl;
    empty_family = refl;
    base_family = refl;
    projections = λ v lt. (behind v, word_high n v (omega (arith, lt, len)));
    nodes = λ s node f word is. let h = is_high n s node word in
        subst (λ (y : Node × Denoted). IsNodeOf w y.0 y.1) (λ i. (h.3 i, some_function n (BddFunction (projection h.0)) f (sym (at_high n h.0 h.1) ∙ ap (opening_function n) (sym h.2) ∙ is) i)) (node_is h.0 h.1);
    leaves = leaves;
    apart = apart n;
    regular = λ s f is. of_kind n (λ (k : Kind). Regular k) (λ k all. refl) tt tt tt tt (λ v lt k all. all v (omega (arith, lt, len))) s Bdd f is;
    of_store = λ s k f is. of_kind n (λ (k : Kind) (f : ℕ → ValueOf k). ((v : ℕ) → IsBeyond k (view_of w) v → Lacks k f v) × Fits k f)
        ((λ v b k c. refl), tt) ((λ v b a has. refl), tt) ((λ v b. base_without _), tt) ((λ v b k c. refl), λ x. refl) ((λ v b k c. refl), λ x. refl)
        (λ u lt. ((λ v b. free_other v u (λ e. omega (arith, e, lt, b, len))), tt)) s k f is;
    ordered = λ s node k f word is u hu lt. let h = is_high n s node word in inl (
        lacks_other (h.0) h.1 k f (sym (at_high n h.0 h.1) ∙ ap (opening_function n) (sym h.2) ∙ is) u (λ e. let var : h.0 ≡ node.var = ap (λ (x : Node). x.var) h.3 in let same : level_of w.orders u ≡ level_of w.orders node.var = ap (level_of w.orders) (e ∙ var) in omega (arith, same, lt)));
    few_counts = λ s. omega arith;
    uncounted = λ s none. refl;
    unpinned = λ s none. refl;
  }
    where
      Regular : (k : Kind) → (ℕ → ValueOf k) → Type 0
      Regular Bdd f = (k : ℕ) → ((v : ℕ) → v < length (range_with_len 0 n) → bit k v ≡ true) → f k ≡ true
      Regular Add f = Unit {0}
      Regular Zdd f = Unit {0}

      constants : (s : ℕ) → s < 5 → opening_word n s ≡ Some (Leaf (constant_value s))
      constants zero lt = refl
      constants (suc zero) lt = refl
      constants (suc (suc zero)) lt = refl
      constants (suc (suc (suc zero))) lt = refl
      constants (suc (suc (suc (suc zero)))) lt = refl
      constants (suc (suc (suc (suc (suc v))))) lt = absurd (omega (arith, lt))

      leaves : (s : ℕ) (x : ℤ) → 3 ≤ s → opening_word n s ≡ Some (Leaf x) → (opening_function n s ≡ Some (AddFunction (constant x))) × (is_value x ≡ true)
      leaves zero x le is = absurd (omega (arith, le))
      leaves (suc zero) x le is = absurd (omega (arith, le))
      leaves (suc (suc zero)) x le is = absurd (omega (arith, le))
      leaves (suc (suc (suc zero))) x le is = let e : pos 0 ≡ x = cc in (ap (λ (y : ℤ). Some (AddFunction (constant y))) e, sym (ap is_value e))
      leaves (suc (suc (suc (suc zero)))) x le is = let e : pos 1 ≡ x = cc in (ap (λ (y : ℤ). Some (AddFunction (constant y))) e, sym (ap is_value e))
      leaves (suc (suc (suc (suc (suc v))))) x le is = elim (cases_lt v n) [
        | inl lt ↦ (let e : Some (Inner (projection_node v)) ≡ Some (Leaf x) = sym (word_high n v lt) ∙ is in cc)
        | inr le' ↦ (let e : None ≡ Some (Leaf x) = sym (ap (λ b. cond b (Some (Inner (projection_node v))) None) (le-ltb v n le')) ∙ is in cc)
      ]

      lacks_other : (v : ℕ) → v < n → (k : Kind) (f : ℕ → ValueOf k) → Some (BddFunction (projection v)) ≡ Some (function_of k f) → (u : ℕ) → (u ≡ v → ⊥) → Lacks k f u
      lacks_other v lt Bdd f e u ne = let d : projection v ≡ f = cc in subst (λ (g : ℕ → Bool). Lacks Bdd g u) d (free_other u v ne)
      lacks_other v lt Add f e u ne = cc
      lacks_other v lt Zdd f e u ne = cc
