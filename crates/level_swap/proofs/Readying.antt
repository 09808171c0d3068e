-- The upper node that is next in a swap.
use Rattle.std.proofs.Common.{◌≡◌, ℕ, ◌+◌, ◌<◌, length, Option, Some, sym, ap, ◌∙◌, subst, arith}
use Rattle.std.specs.Prelude.{slice_index}
use Rattle.edge_bits.specs.Reading.{plain, element_of}
use Rattle.edge_bits.specs.declared.edges.Edge.{Edge}
use Rattle.edge_bits.specs.declared.edges.Kind.{Kind}
use Rattle.edge_bits.specs.declared.edges.Kind.TheVariants.{Bdd, Add, Zdd}
use Rattle.edge_bits.specs.declared.words.Node.{Node}
use Rattle.edge_bits.specs.declared.words.Word.{Word}
use Rattle.edge_bits.specs.declared.words.Word.TheVariants.{Inner}
use Rattle.function_laws.specs.declared.orders.Order.{Order}
use Rattle.function_laws.specs.declared.orders.Order.TheVariants.{Variables, Elements}
use Rattle.function_laws.specs.Kinds.{ValueOf, function_of, joined_at, Lacks}
use Rattle.function_laws.specs.Sizes.{in_order}
use Rattle.function_laws.specs.SiftedOrders.{place_of}
use Rattle.node_store.specs.Edges.{flip_if}
use Rattle.node_store.specs.declared.grow.Opened.{Opened}
use Rattle.node_store.specs.declared.grow.Opened.TheVariants as opened
use Rattle.node_store.specs.Views.{IsVariable, function_at}
use Rattle.node_store.specs.Contents.{Content, IsSound, view_of, var_at, level_of, is_node_of, opened_of}
use Rattle.node_store.specs.Changes.{After, NoneOrHalf}
use Rattle.node_store.proofs.Ordering.{level-own}
use Rattle.level_swap.specs.Swapping.{SwapsSlot, UpperNode}
use Rattle.level_swap.proofs.SwapLoop.{swap_skips}
use Rattle.level_swap.proofs.UpperLemmas.{node_test}

module _ (w : Content) (sound : IsSound w) where
  -- a variable of an order stands at its level
  level_at : (o : Order) (k : Kind) (l : ℕ) → l < length (in_order w.orders o) → IsVariable k (view_of w) (var_at w o l) → level_of w.orders (var_at w o l) ≡ l
  level_at Variables Bdd l lt h = level-own Bdd w (var_at w Variables l) h ∙ sound.variables.once l lt
  level_at Variables Add l lt h = level-own Add w (var_at w Variables l) h ∙ sound.variables.once l lt
  level_at Variables Zdd l lt h = let a = h.0 in let b = sound.few_variables in let c = sound.variables.below l lt in absurd (omega (arith, a, b, c))
  level_at Elements Bdd l lt h = let a = h.0 in absurd (omega (arith, a))
  level_at Elements Add l lt h = let a = h.0 in absurd (omega (arith, a))
  level_at Elements Zdd l lt h =
      let own : element_of (var_at w Elements l) ≡ slice_index w.orders.elements l = omega arith in
      level-own Zdd w (var_at w Elements l) h ∙ ap (λ z. place_of z w.orders.elements) own ∙ sound.elements.once l lt

  -- the next one is a variable of the same kinds
  next_in : (o : Order) (k : Kind) (l m : ℕ) → l < length (in_order w.orders o) → m < length (in_order w.orders o) → IsVariable k (view_of w) (var_at w o l) → IsVariable k (view_of w) (var_at w o m)
  next_in Variables Bdd l m lt lt' h = let b = sound.few_variables in let c = sound.variables.below m lt' in (omega (arith, b, c), c)
  next_in Variables Add l m lt lt' h = let b = sound.few_variables in let c = sound.variables.below m lt' in (omega (arith, b, c), c)
  next_in Variables Zdd l m lt lt' h = let a = h.0 in let b = sound.few_variables in let c = sound.variables.below l lt in absurd (omega (arith, a, b, c))
  next_in Elements Bdd l m lt lt' h = let a = h.0 in absurd (omega (arith, a))
  next_in Elements Add l m lt lt' h = let a = h.0 in absurd (omega (arith, a))
  next_in Elements Zdd l m lt lt' h = let c = sound.elements.below m lt' in (omega arith, omega (arith, c))

-- the node with what its children denote
pub record Found (w : Content) (upper lower slot : ℕ) : Type 0 where
  pub kind : Kind
  pub high : ℕ → ValueOf kind
  pub low : ℕ → ValueOf kind
  pub un : UpperNode kind w upper lower slot high low
  pub hi_is : function_at (view_of w) (plain un.node.hi) ≡ Some (function_of kind high)
  pub lo_is : function_at (view_of w) un.node.lo ≡ Some (function_of kind low)

module _ (others : (ℕ → ℕ) → (ℕ → ℕ) → Type 0) (both : (a b c : ℕ → ℕ) → others a b → others b c → others a c) (order : Order) (level : ℕ) (start : Content) (upper lower slot : ℕ) where
  pub ready_after : (v w : Content) → SwapsSlot others order level start v upper lower slot → After others v w → SwapsSlot others order level start w upper lower slot
  ready_after v w r a = record {
    upper_is = r.upper_is;
    lower_is = r.lower_is;
    within = r.within;
    node = ap (λ (h : ℕ → Option Word). is_node_of upper (h slot)) a.word ∙ r.node;
    so_far = swap_skips others both order level start v w slot slot r.so_far a (omega arith) r.so_far.inside (λ t le lt h. omega (arith, le, lt));
  }

  pub found : (w : Content) → SwapsSlot others order level start w upper lower slot → Found w upper lower slot
  found w r =
      let sound = r.so_far.sound in
      let t = node_test upper (w.word slot) r.node in
      let d = sound.denotes slot (Inner t.0, t.1) in
      let n = sound.nodes slot t.0 d.0 t.1 d.1 in
      let upper_w : upper ≡ var_at w order level = r.upper_is ∙ sym (ap (λ o. var_at (record start { orders = o }) order level) r.so_far.orders) in
      let lower_w : lower ≡ var_at w order (level + 1) = r.lower_is ∙ sym (ap (λ o. var_at (record start { orders = o }) order (level + 1)) r.so_far.orders) in
      let within : level + 1 < length (in_order w.orders order) = subst (λ o. level + 1 < length (in_order o order)) (sym r.so_far.orders) r.within in
      let first : level < length (in_order w.orders order) = omega (arith, within) in
      let upper_in : IsVariable n.kind (view_of w) upper = subst (IsVariable n.kind (view_of w)) t.2 n.in_range in
      let at_level : IsVariable n.kind (view_of w) (var_at w order level) = subst (IsVariable n.kind (view_of w)) upper_w upper_in in
      let at_next : IsVariable n.kind (view_of w) (var_at w order (level + 1)) = next_in w sound order n.kind level (level + 1) first within at_level in
      let upper_level : level_of w.orders upper ≡ level = ap (level_of w.orders) upper_w ∙ level_at w sound order n.kind level first at_level in
      let lower_level : level_of w.orders lower ≡ level + 1 = ap (level_of w.orders) lower_w ∙ level_at w sound order n.kind (level + 1) within at_next in
      record {
        kind = n.kind;
        high = n.high;
        low = n.low;
        un = record {
          sound = sound;
          node = t.0;
          word = t.1;
          var = t.2;
          function = d.1 ∙ ap Some (n.is ∙ ap (λ v. function_of n.kind (joined_at n.kind v n.high n.low)) t.2);
          high_lacks = subst (Lacks n.kind n.high) t.2 n.high_lacks;
          low_lacks = subst (Lacks n.kind n.low) t.2 n.low_lacks;
          upper_in = upper_in;
          lower_in = subst (IsVariable n.kind (view_of w)) (sym lower_w) at_next;
          next = omega (arith, upper_level, lower_level);
          half = subst (λ v. NoneOrHalf w upper v) (sym r.lower_is) (subst (λ v. NoneOrHalf w v (var_at start order (level + 1))) (sym r.upper_is) r.so_far.half);
        };
        hi_is = n.high_is;
        lo_is = n.low_is;
      }

-- the children of the slot's node, as it was opened
pub opened_slot : (v : Content) (slot : ℕ) (node : Node) (e : Edge) (r : Opened) (x : ℕ) (hi lo : Edge) → v.word slot ≡ Some (Inner node) → e ≡ plain slot
    → ((word : Word) → v.word e.index ≡ Some word → r ≡ opened_of word e.complement) → r ≡ opened.Inner x hi lo → (hi ≡ plain node.hi) × (lo ≡ node.lo)
opened_slot v slot node e r x hi lo word is opens arm =
    let same : opened.Inner x hi lo ≡ opened.Inner node.var (plain node.hi) node.lo =
    sym arm ∙ opens (Inner node) (ap (λ (d : Edge). v.word d.index) is ∙ word) ∙ ap (λ (d : Edge). opened_of (Inner node) d.complement) is in (second same, third same)
  where
    second : opened.Inner x hi lo ≡ opened.Inner node.var (plain node.hi) node.lo → hi ≡ plain node.hi
    second e = cc

    third : opened.Inner x hi lo ≡ opened.Inner node.var (plain node.hi) node.lo → lo ≡ node.lo
    third e = cc

pub opened_inner : (v : Content) (slot : ℕ) (node : Node) (e : Edge) (r : Opened) → v.word slot ≡ Some (Inner node) → e ≡ plain slot
    → ((word : Word) → v.word e.index ≡ Some word → r ≡ opened_of word e.complement) → ((x : ℕ) (hi lo : Edge) → r ≡ opened.Inner x hi lo → ⊥) → ⊥
opened_inner v slot node e r word is opens none =
    none node.var (flip_if e.complement (plain node.hi)) (flip_if e.complement node.lo) (opens (Inner node) (ap (λ (d : Edge). v.word d.index) is ∙ word))

-- the word before a call that changes none
pub word_before : (others : (ℕ → ℕ) → (ℕ → ℕ) → Type 0) (v w : Content) → After others v w → (s : ℕ) (word : Word) → w.word s ≡ Some word → v.word s ≡ Some word
word_before others v w a s word is = sym (ap (λ (h : ℕ → Option Word). h s) a.word) ∙ is
