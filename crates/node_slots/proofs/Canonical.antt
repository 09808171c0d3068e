-- What is known of each slot of a store.
use Rattle.std.proofs.Common.{◌≡◌, ℕ, zero, suc, ◌<◌, ◌≤◌, ◌⊎◌, inl, inr, Bool, true, false, not, length, Option, Some, None, ℤ, pos, refl, ap, sym, ◌∙◌, subst, arith}
use Rattle.std.proofs.lemmas.Bool.{cases_lt}
use Rattle.edge_bits.specs.declared.edges.Edge.{Edge}
use Rattle.edge_bits.specs.declared.edges.Kind.{Kind}
use Rattle.edge_bits.specs.declared.edges.Kind.TheVariants.{Bdd, Add, Zdd}
use Rattle.edge_bits.specs.declared.words.Node.{Node}
use Rattle.edge_bits.specs.declared.words.Word.{Word}
use Rattle.edge_bits.specs.declared.words.Word.TheVariants.{Inner, Leaf}
use Rattle.edge_bits.specs.Reading.{plain}
use Rattle.function_laws.specs.Values.{constant, negation}
use Rattle.function_laws.specs.Families.{empty, base}
use Rattle.function_laws.proofs.ValueLemmas.{everywhere}
use Rattle.function_laws.specs.Kinds.{Denoted, BddFunction, AddFunction, ZddFamily, ValueOf, function_of, joined_at, flipped}
use Rattle.node_store.specs.KindLaws.{flipped-some}
use Rattle.node_store.specs.Views.{levels, IsVariable, IsBelow, function_at, values_at, node_values, IsLeafOf, logic_one, number, no_member, only_base}
use Rattle.node_slots.specs.Slots.{word_function, function_at_most}
use Rattle.node_slots.specs.Stores.{Plain, slots, level_in, longest, content_of, top_of_word, top_in, plain_view, ones, IsRegular, IsNode, IsOrdered, HasPermanent, IsCanonical}
use Rattle.node_slots.proofs.Reading.{at_word, used}
use Rattle.node_store.proofs.Parting.{same_kind, same_values, lower}
use Rattle.node_slots.proofs.Flips.{bit-ones, not-injective}
use Rattle.node_slots.proofs.Solving.{content_node}

pub inner_high : (p : Plain) → HasPermanent p → (s : ℕ) (node : Node) → slots p s ≡ Some (Inner node) → 5 ≤ s
inner_high p first s node is = elim (cases_lt s 5) [
  | inl lt ↦ (let e = sym (first.constants s lt) ∙ is in cc)
  | inr le ↦ le
]

pub top_word : (p : Plain) (s : ℕ) (o : Option Word) → 3 ≤ s → slots p s ≡ o → top_in p s ≡ top_of_word p o
top_word p zero o le is = absurd (omega arith)
top_word p (suc zero) o le is = absurd (omega arith)
top_word p (suc (suc zero)) o le is = absurd (omega arith)
top_word p (suc (suc (suc s))) o le is = ap (top_of_word p) is

-- a slot that is a leaf of the kind
pub record LeafSlot (k : Kind) (p : Plain) (s : ℕ) (f : ℕ → ValueOf k) : Type 0 where
  pub value : ℤ
  pub leaf : IsLeafOf k (plain s) f value
  pub word : slots p s ≡ Some (Leaf value)
  pub top : top_in p s ≡ levels k (plain_view p)
  pub regular : IsRegular k (length p.variable_levels) f

-- a slot that is a node of the kind
pub record NodeSlot (k : Kind) (p : Plain) (s : ℕ) (f : ℕ → ValueOf k) : Type 0 where
  pub node : Node
  pub word : slots p s ≡ Some (Inner node)
  pub is_node : IsNode k p node
  pub is : f ≡ node_values k (plain_view p) node.var (plain node.hi) node.lo

pub SlotOf : (k : Kind) → Plain → ℕ → (ℕ → ValueOf k) → Type 0
SlotOf k p s f = LeafSlot k p s f ⊎ NodeSlot k p s f

-- a slot of some kind
record SomeSlot (p : Plain) (s : ℕ) (f : Denoted) : Type 0 where
  kind : Kind
  values : ℕ → ValueOf kind
  is : f ≡ function_of kind values
  slot : SlotOf kind p s values

module _ (p : Plain) (first : HasPermanent p) (sound : IsCanonical p) where
  by_word : (s : ℕ) → 3 ≤ s → (word : Word) → slots p s ≡ Some word → (f : Denoted) → content_of p s ≡ Some f → SomeSlot p s f
  unfolding SlotOf
  by_word s le (Leaf x) is f h =
      let at = at_word (slots p) (longest p) s le ∙ ap (word_function (function_at_most (slots p) (longest p))) is in
      let e : Some (AddFunction (constant x)) ≡ Some f = sym at ∙ h in
      record {
        kind = Add;
        values = constant x;
        is = cc;
        slot = inl (record {
          value = x;
          leaf = number (plain s) x;
          word = is;
          top = top_word p s (Some (Leaf x)) le is;
          regular = tt;
        });
      }
  by_word s le (Inner node) is f h =
      let n = sound.nodes s node is in
      let e : Some (function_of n.0 (node_values n.0 (plain_view p) node.var (plain node.hi) node.lo)) ≡ Some f = sym (content_node p sound n.0 s node is le n.1) ∙ h in
      record {
        kind = n.0;
        values = node_values n.0 (plain_view p) node.var (plain node.hi) node.lo;
        is = cc;
        slot = inr (record { node = node; word = is; is_node = n.1; is = refl });
      }

  some_slot : (s : ℕ) (f : Denoted) → content_of p s ≡ Some f → SomeSlot p s f
  unfolding SlotOf function_at_most
  some_slot zero f h = record {
    kind = Bdd;
    values = constant true;
    is = cc;
    slot = inl (record { value = pos 1; leaf = logic_one; word = first.constants 0 (omega arith); top = refl; regular = refl });
  }
  some_slot (suc zero) f h = record {
    kind = Zdd;
    values = empty;
    is = cc;
    slot = inl (record { value = pos 0; leaf = no_member; word = first.constants 1 (omega arith); top = refl; regular = tt });
  }
  some_slot (suc (suc zero)) f h = record {
    kind = Zdd;
    values = base;
    is = cc;
    slot = inl (record { value = pos 1; leaf = only_base; word = first.constants 2 (omega arith); top = refl; regular = tt });
  }
  some_slot (suc (suc (suc s))) f h =
      let u = used (slots p) (longest p) (suc (suc (suc s))) f (omega arith) h in
      by_word (suc (suc (suc s))) (omega arith) u.0 u.1 f h

  pub slot_of : (k : Kind) (s : ℕ) (f : ℕ → ValueOf k) → content_of p s ≡ Some (function_of k f) → SlotOf k p s f
  slot_of k s f h =
      let x = some_slot s (function_of k f) h in
      subst (λ j. (g : ℕ → ValueOf j) → function_of j g ≡ function_of x.kind x.values → SlotOf j p s g) (sym (same_kind k x.kind f x.values x.is))
      (λ g e. subst (λ v. SlotOf x.kind p s v) (sym (same_values x.kind g x.values e)) x.slot) f x.is

  pub leaf_or_node : (k : Kind) (s : ℕ) (f : ℕ → ValueOf k) → content_of p s ≡ Some (function_of k f) → LeafSlot k p s f ⊎ NodeSlot k p s f
  unfolding SlotOf
  leaf_or_node k s f h = slot_of k s f h

  pub regular-joined : (k : Kind) (v : ℕ) (f g : ℕ → ValueOf k) → IsVariable k (plain_view p) v → IsRegular k (length p.variable_levels) f → IsRegular k (length p.variable_levels) (joined_at k v f g)
  regular-joined Bdd v f g vn h = let b = bit-ones (length p.variable_levels) v vn.1 in rw b h
  regular-joined Add v f g vn h = tt
  regular-joined Zdd v f g vn h = tt

  -- a slot's function is true where all variables are, if it is a BDD's
  pub regular_slot : (k : Kind) (s : ℕ) (f : ℕ → ValueOf k) → content_of p s ≡ Some (function_of k f) → IsRegular k (length p.variable_levels) f
  regular_slot k s f h = elim (leaf_or_node k s f h) [
    | inl l ↦ l.regular
    | inr n ↦ subst (IsRegular k (length p.variable_levels)) (sym n.is)
        (regular-joined k n.node.var (values_at k (plain_view p) (plain n.node.hi)) (values_at k (plain_view p) n.node.lo) n.is_node.can_make.in_range n.is_node.regular)
  ]

  module _ (orders : IsOrdered p) where
    -- a slot whose function lacks all variables down to a level stands below that level
    pub lower_slot : (k : Kind) (s : ℕ) (f : ℕ → ValueOf k) → content_of p s ≡ Some (function_of k f)
        → (v : ℕ) → IsVariable k (plain_view p) v → IsBelow k (plain_view p) v f → level_in p v < top_in p s
    lower_slot k s f h v vn below =
        let inside = orders.within k v vn in
        elim (leaf_or_node k s f h) [
          | inl l ↦ (let t = l.top in omega arith)
          | inr n ↦ (
              let c = n.is_node.can_make in
              let high = inner_high p first s n.node n.word in
              let t = top_word p s (Some (Inner n.node)) (omega arith) n.word in
              let lt = lower k (plain_view p) (orders.alone k) n.node.var v (values_at k (plain_view p) (plain n.node.hi)) (values_at k (plain_view p) n.node.lo) c.in_range c.hi_below c.lo_below n.is_node.proper
              (subst (IsBelow k (plain_view p) v) n.is below) in
              omega (arith, t, lt))
        ]

-- an edge is told by its index and its complement
pub edge_is : (a b : Edge) → a.index ≡ b.index → a.complement ≡ b.complement → a ≡ b
edge_is a b i c =
    let mk : ℕ → Bool → Edge = λ i c. record { index = i; complement = c } in
    ap (λ i. mk i a.complement) i ∙ ap (λ c. mk b.index c) c

pub not_both : (n : ℕ) (g : ℕ → Bool) → g (ones n) ≡ true → negation g (ones n) ≡ true → ⊥
not_both n g h i = let e : not true ≡ true = ap not (sym h) ∙ i in never e
  where
    never : false ≡ true → ⊥
    never e = cc

-- of two regular functions, which complements make equal
pub same_complement : (n : ℕ) (a b : Bool) (o q : Option Denoted) (f : Denoted)
    → ((g : ℕ → Bool) → o ≡ Some (BddFunction g) → g (ones n) ≡ true) → ((g : ℕ → Bool) → q ≡ Some (BddFunction g) → g (ones n) ≡ true)
    → flipped a o ≡ Some f → flipped b q ≡ Some f → (a ≡ b) × (o ≡ q)
same_complement n false false o q f ro rq h i = (refl, h ∙ sym i)
same_complement n true true None q f ro rq h i = cc
same_complement n true true (Some (AddFunction g)) q f ro rq h i = cc
same_complement n true true (Some (ZddFamily g)) q f ro rq h i = cc
same_complement n true true (Some (BddFunction g)) None f ro rq h i = cc
same_complement n true true (Some (BddFunction g)) (Some (AddFunction j)) f ro rq h i = cc
same_complement n true true (Some (BddFunction g)) (Some (ZddFamily j)) f ro rq h i = cc
same_complement n true true (Some (BddFunction g)) (Some (BddFunction j)) f ro rq h i =
    let e : Some (BddFunction (negation g)) ≡ Some (BddFunction (negation j)) = h ∙ sym i in
    let d : negation g ≡ negation j = cc in
    (refl, ap (λ x. Some (BddFunction x)) (everywhere g j (λ k. not-injective (g k) (j k) (ap (λ (x : ℕ → Bool). x k) d))))
same_complement n true false None q f ro rq h i = cc
same_complement n true false (Some (AddFunction g)) q f ro rq h i = cc
same_complement n true false (Some (ZddFamily g)) q f ro rq h i = cc
same_complement n true false (Some (BddFunction g)) q f ro rq h i = absurd (not_both n g (ro g refl) (rq (negation g) (i ∙ sym h)))
same_complement n false true o None f ro rq h i = cc
same_complement n false true o (Some (AddFunction g)) f ro rq h i = cc
same_complement n false true o (Some (ZddFamily g)) f ro rq h i = cc
same_complement n false true o (Some (BddFunction g)) f ro rq h i = absurd (not_both n g (rq g refl) (ro (negation g) (h ∙ sym i)))

-- no two edges denote one function
pub same_edge : (p : Plain) → HasPermanent p → IsCanonical p → (a b : Edge) (f : Denoted) → function_at (plain_view p) a ≡ Some f → function_at (plain_view p) b ≡ Some f → a ≡ b
same_edge p first sound a b f h i =
    let n = length p.variable_levels in
    let s = same_complement n a.complement b.complement (content_of p a.index) (content_of p b.index) f
    (λ g e. regular_slot p first sound Bdd a.index g e) (λ g e. regular_slot p first sound Bdd b.index g e) h i in
    let x = flipped-some a.complement (content_of p a.index) f h in
    edge_is a b (sound.apart a.index b.index x.0 x.1 (sym s.1 ∙ x.1)) s.0
