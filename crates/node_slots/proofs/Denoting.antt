-- What a slot denotes is what is read out of the words.
use Rattle.std.proofs.Common.{◌≡◌, ◌⊎◌, inl, inr, ℕ, zero, suc, ◌+◌, ◌≤◌, add-one, Bool, true, false, cond, length, Option, Some, None, ℤ, pos, refl, ap, sym, ◌∙◌, subst, arith}
use Rattle.edge_bits.specs.declared.edges.Edge.{Edge}
use Rattle.edge_bits.specs.declared.edges.Kind.{Kind}
use Rattle.edge_bits.specs.declared.edges.Kind.TheVariants.{Bdd, Add, Zdd}
use Rattle.edge_bits.specs.declared.words.Node.{Node}
use Rattle.edge_bits.specs.declared.words.Word.{Word}
use Rattle.edge_bits.specs.declared.words.Word.TheVariants.{Inner, Leaf}
use Rattle.edge_bits.specs.Assignments.{bit}
use Rattle.edge_bits.specs.Reading.{plain, read_bdd, read_add, read_zdd, add_step, zdd_step, DenotesBdd, DenotesAdd, DenotesZdd, flipped as turned}
use Rattle.edge_bits.proofs.ReadingLemmas.{read_bdd-inner, read_bdd-leaf, read_zdd-inner}
use Rattle.function_laws.specs.Values.{constant, negation, choice}
use Rattle.function_laws.specs.Families.{empty, base}
use Rattle.function_laws.specs.Kinds.{Denoted, BddFunction, AddFunction, ZddFamily, ValueOf, function_of, joined_at, flipped}
use Rattle.node_store.specs.Views.{levels, Denotes}
use Rattle.node_slots.specs.Slots.{node_of, word_function, function_at_most}
use Rattle.node_slots.specs.Stores.{Plain, slots, content_of, plain_view, HasPermanent, IsStore}
use Rattle.node_slots.proofs.Reading.{at_word, used, node_of-some}
use Rattle.node_store.proofs.Parting.{same_kind, same_values}
use Rattle.node_slots.proofs.Solving.{by_levels}

-- the children of a node of the kind
record Parts (k : Kind) (v : ℕ) (a b : Option Denoted) (f : ℕ → ValueOf k) : Type 0 where
  high : ℕ → ValueOf k
  low : ℕ → ValueOf k
  high_is : a ≡ Some (function_of k high)
  low_is : b ≡ Some (function_of k low)
  is : f ≡ joined_at k v high low

node_parts : (k : Kind) (v : ℕ) (a b : Option Denoted) (f : ℕ → ValueOf k) → node_of v a b ≡ Some (function_of k f) → Parts k v a b f
node_parts k v a b f h =
    let n = node_of-some v a b (function_of k f) h in
    subst (λ j. (g : ℕ → ValueOf j) → function_of j g ≡ function_of n.kind (joined_at n.kind v n.high n.low) → Parts j v a b g)
    (sym (same_kind k n.kind f (joined_at n.kind v n.high n.low) n.is))
    (λ g e. record { high = n.high; low = n.low; high_is = n.high_is; low_is = n.low_is; is = same_values n.kind g (joined_at n.kind v n.high n.low) e })
    f n.is

-- an edge's function, by its slot's
turned-bdd : (c : Bool) (o : Option Denoted) (f : ℕ → Bool) → flipped c o ≡ Some (BddFunction f) → (g : ℕ → Bool) × ((o ≡ Some (BddFunction g)) × ((k : ℕ) → f k ≡ turned c (g k)))
turned-bdd false o f h = (f, (h, λ k. refl))
turned-bdd true None f h = cc
turned-bdd true (Some (AddFunction g)) f h = cc
turned-bdd true (Some (ZddFamily g)) f h = cc
turned-bdd true (Some (BddFunction g)) f h = (g, (refl, λ k. let e : negation g ≡ f = cc in ap (λ (x : ℕ → Bool). x k) (sym e)))

plain-add : (c : Bool) (o : Option Denoted) (f : ℕ → ℤ) → flipped c o ≡ Some (AddFunction f) → o ≡ Some (AddFunction f)
plain-add false o f h = h
plain-add true None f h = cc
plain-add true (Some (BddFunction g)) f h = cc
plain-add true (Some (AddFunction g)) f h = cc
plain-add true (Some (ZddFamily g)) f h = cc

plain-zdd : (c : Bool) (o : Option Denoted) (f : ℕ → Bool) → flipped c o ≡ Some (ZddFamily f) → o ≡ Some (ZddFamily f)
plain-zdd false o f h = h
plain-zdd true None f h = cc
plain-zdd true (Some (BddFunction g)) f h = cc
plain-zdd true (Some (AddFunction g)) f h = cc
plain-zdd true (Some (ZddFamily g)) f h = cc

module _ (p : Plain) (first : HasPermanent p) where
  -- a slot from 3 on whose function is of the kind: a leaf, or a node with its children
  word_of : (k : Kind) (m s : ℕ) (f : ℕ → ValueOf k) → 3 ≤ s → function_at_most (slots p) (suc m) s ≡ Some (function_of k f)
      → ((x : ℤ) × ((slots p s ≡ Some (Leaf x)) × (function_of k f ≡ AddFunction (constant x))))
      ⊎ ((node : Node) × ((slots p s ≡ Some (Inner node)) × Parts k node.var (function_at_most (slots p) m node.hi) (flipped node.lo.complement (function_at_most (slots p) m node.lo.index)) f))
  word_of k m s f le h = let u = used (slots p) m s (function_of k f) le h in by_word u.0 u.1
    where
      at : (word : Word) → slots p s ≡ Some word → word_function (function_at_most (slots p) m) (Some word) ≡ Some (function_of k f)
      at word is = ap (word_function (function_at_most (slots p) m)) (sym is) ∙ sym (at_word (slots p) m s le) ∙ h

      by_word : (word : Word) → slots p s ≡ Some word
          → ((x : ℤ) × ((slots p s ≡ Some (Leaf x)) × (function_of k f ≡ AddFunction (constant x))))
          ⊎ ((node : Node) × ((slots p s ≡ Some (Inner node)) × Parts k node.var (function_at_most (slots p) m node.hi) (flipped node.lo.complement (function_at_most (slots p) m node.lo.index)) f))
      by_word (Leaf x) is = inl (x, (is, let e : Some (AddFunction (constant x)) ≡ Some (function_of k f) = at (Leaf x) is in sym (let same : AddFunction (constant x) ≡ function_of k f = cc in same)))
      by_word (Inner node) is = inr (node, (is, node_parts k node.var (function_at_most (slots p) m node.hi) (flipped node.lo.complement (function_at_most (slots p) m node.lo.index)) f (at (Inner node) is)))

  -- BDDs
  bdd_slot : (m : ℕ) → ((e : Edge) (f : ℕ → Bool) → flipped e.complement (function_at_most (slots p) m e.index) ≡ Some (BddFunction f) → (k : ℕ) → read_bdd m (slots p) e k ≡ Some (f k))
      → (e : Edge) (g : ℕ → Bool) → 3 ≤ e.index → function_at_most (slots p) (suc m) e.index ≡ Some (BddFunction g) → (k : ℕ) → read_bdd (suc m) (slots p) e k ≡ Some (turned e.complement (g k))
  bdd_slot m lower e g le h k = elim (word_of Bdd m e.index g le h) [
    | inl l ↦ (let x = l.1.1 in cc)
    | inr n ↦ (
        let c = n.1.1 in
        read_bdd-inner m (slots p) e n.0 c.high c.low k n.1.0 (lower (plain n.0.hi) c.high c.high_is k) (lower n.0.lo c.low c.low_is k)
        ∙ ap (λ (x : ℕ → Bool). Some (turned e.complement (x k))) (sym c.is))
  ]

  bdd_low : (m : ℕ) → ((e : Edge) (f : ℕ → Bool) → flipped e.complement (function_at_most (slots p) m e.index) ≡ Some (BddFunction f) → (k : ℕ) → read_bdd m (slots p) e k ≡ Some (f k))
      → (s : ℕ) (c : Bool) (g : ℕ → Bool) → function_at_most (slots p) (suc m) s ≡ Some (BddFunction g) → (k : ℕ) → read_bdd (suc m) (slots p) (record { index = s; complement = c }) k ≡ Some (turned c (g k))
  unfolding function_at_most
  bdd_low m lower zero c g h k =
      let e : constant true ≡ g = cc in
      read_bdd-leaf m (slots p) (record { index = 0; complement = c }) (pos 1) k (first.constants 0 (omega arith)) ∙ ap (λ (x : ℕ → Bool). Some (turned c (x k))) e
  bdd_low m lower (suc zero) c g h k = cc
  bdd_low m lower (suc (suc zero)) c g h k = cc
  bdd_low m lower (suc (suc (suc s))) c g h k = bdd_slot m lower (record { index = suc (suc (suc s)); complement = c }) g (omega arith) h k

  bdd_read : (m : ℕ) (e : Edge) (f : ℕ → Bool) → flipped e.complement (function_at_most (slots p) m e.index) ≡ Some (BddFunction f) → (k : ℕ) → read_bdd m (slots p) e k ≡ Some (f k)
  unfolding function_at_most
  bdd_read zero e f h k = let t = turned-bdd e.complement None f h in let bad : None ≡ Some (BddFunction t.0) = t.1.0 in cc
  bdd_read (suc m) e f h k =
      let t = turned-bdd e.complement (function_at_most (slots p) (suc m) e.index) f h in
      bdd_low m (bdd_read m) e.index e.complement t.0 t.1.0 k ∙ ap Some (sym (t.1.1 k))

  -- ADDs
  add_step-at : (m : ℕ) (k : ℕ) (node : Node) (f g : ℕ → ℤ) → read_add m (slots p) (plain node.hi) k ≡ Some (f k) → read_add m (slots p) node.lo k ≡ Some (g k)
      → add_step (λ next. read_add m (slots p) next k) k (Some (Inner node)) ≡ Some (choice node.var f g k)
  add_step-at m k node f g hi lo = by_bit (bit k node.var)
    where
      by_bit : (b : Bool) → read_add m (slots p) (cond b (plain node.hi) node.lo) k ≡ Some (cond b (f k) (g k))
      by_bit true = hi
      by_bit false = lo

  add_slot : (m : ℕ) → ((e : Edge) (f : ℕ → ℤ) → function_at_most (slots p) m e.index ≡ Some (AddFunction f) → (k : ℕ) → read_add m (slots p) e k ≡ Some (f k))
      → (e : Edge) (g : ℕ → ℤ) → 3 ≤ e.index → function_at_most (slots p) (suc m) e.index ≡ Some (AddFunction g) → (k : ℕ) → read_add (suc m) (slots p) e k ≡ Some (g k)
  unfolding read_add
  add_slot m lower e g le h k = elim (word_of Add m e.index g le h) [
    | inl l ↦ ap (add_step (λ next. read_add m (slots p) next k) k) l.1.0 ∙ ap (λ (x : ℕ → ℤ). Some (x k)) (sym (same_values Add g (constant l.0) l.1.1))
    | inr n ↦ (
        let c = n.1.1 in
        ap (add_step (λ next. read_add m (slots p) next k) k) n.1.0
        ∙ add_step-at m k n.0 c.high c.low (lower (plain n.0.hi) c.high c.high_is k) (lower n.0.lo c.low (plain-add n.0.lo.complement _ c.low c.low_is) k)
        ∙ ap (λ (x : ℕ → ℤ). Some (x k)) (sym c.is))
  ]

  add_low : (m : ℕ) → ((e : Edge) (f : ℕ → ℤ) → function_at_most (slots p) m e.index ≡ Some (AddFunction f) → (k : ℕ) → read_add m (slots p) e k ≡ Some (f k))
      → (s : ℕ) (c : Bool) (g : ℕ → ℤ) → function_at_most (slots p) (suc m) s ≡ Some (AddFunction g) → (k : ℕ) → read_add (suc m) (slots p) (record { index = s; complement = c }) k ≡ Some (g k)
  unfolding function_at_most
  add_low m lower zero c g h k = cc
  add_low m lower (suc zero) c g h k = cc
  add_low m lower (suc (suc zero)) c g h k = cc
  add_low m lower (suc (suc (suc s))) c g h k = add_slot m lower (record { index = suc (suc (suc s)); complement = c }) g (omega arith) h k

  add_read : (m : ℕ) (e : Edge) (f : ℕ → ℤ) → function_at_most (slots p) m e.index ≡ Some (AddFunction f) → (k : ℕ) → read_add m (slots p) e k ≡ Some (f k)
  unfolding function_at_most
  add_read zero e f h k = cc
  add_read (suc m) e f h k = add_low m (add_read m) e.index e.complement f h k

  -- ZDDs
  zdd_slot : (m : ℕ) → ((e : Edge) (f : ℕ → Bool) → function_at_most (slots p) m e.index ≡ Some (ZddFamily f) → (a : ℕ) → read_zdd m (slots p) e a ≡ Some (f a))
      → (e : Edge) (g : ℕ → Bool) → 3 ≤ e.index → function_at_most (slots p) (suc m) e.index ≡ Some (ZddFamily g) → (a : ℕ) → read_zdd (suc m) (slots p) e a ≡ Some (g a)
  zdd_slot m lower e g le h a = elim (word_of Zdd m e.index g le h) [
    | inl l ↦ (let x = l.1.1 in cc)
    | inr n ↦ (
        let c = n.1.1 in
        read_zdd-inner m (slots p) e n.0 c.high c.low a n.1.0 (lower (plain n.0.hi) c.high c.high_is) (lower n.0.lo c.low (plain-zdd n.0.lo.complement _ c.low c.low_is) a)
        ∙ ap (λ (x : ℕ → Bool). Some (x a)) (sym c.is))
  ]

  zdd_low : (m : ℕ) → ((e : Edge) (f : ℕ → Bool) → function_at_most (slots p) m e.index ≡ Some (ZddFamily f) → (a : ℕ) → read_zdd m (slots p) e a ≡ Some (f a))
      → (s : ℕ) (c : Bool) (g : ℕ → Bool) → function_at_most (slots p) (suc m) s ≡ Some (ZddFamily g) → (a : ℕ) → read_zdd (suc m) (slots p) (record { index = s; complement = c }) a ≡ Some (g a)
  unfolding function_at_most read_zdd
  zdd_low m lower zero c g h a = cc
  zdd_low m lower (suc zero) c g h a =
      let e : empty ≡ g = cc in
      ap (zdd_step (λ next rest. read_zdd m (slots p) next rest) a) (first.constants 1 (omega arith)) ∙ ap (λ (x : ℕ → Bool). Some (x a)) e
  zdd_low m lower (suc (suc zero)) c g h a =
      let e : base ≡ g = cc in
      ap (zdd_step (λ next rest. read_zdd m (slots p) next rest) a) (first.constants 2 (omega arith)) ∙ ap (λ (x : ℕ → Bool). Some (x a)) e
  zdd_low m lower (suc (suc (suc s))) c g h a = zdd_slot m lower (record { index = suc (suc (suc s)); complement = c }) g (omega arith) h a

  zdd_read : (m : ℕ) (e : Edge) (f : ℕ → Bool) → function_at_most (slots p) m e.index ≡ Some (ZddFamily f) → (a : ℕ) → read_zdd m (slots p) e a ≡ Some (f a)
  unfolding function_at_most
  zdd_read zero e f h a = cc
  zdd_read (suc m) e f h a = zdd_low m (zdd_read m) e.index e.complement f h a

module _ (p : Plain) (st : IsStore p) where
  -- no path has more words than the levels of its kind and a leaf
  at_levels : (k : Kind) (s : ℕ) (f : ℕ → ValueOf k) → content_of p s ≡ Some (function_of k f) → function_at_most (slots p) (levels k (plain_view p) + 1) s ≡ Some (function_of k f)
  at_levels k s f h = rw add-one (by_levels p st.canonical k s f h)

  pub bdd_denotes : (e : Edge) (f : ℕ → Bool) → Denotes Bdd (plain_view p) e f → DenotesBdd (length p.variable_levels) (slots p) e f
  bdd_denotes e f d k =
      let t = turned-bdd e.complement (content_of p e.index) f d.is in
      bdd_read p st.permanent (length p.variable_levels + 1) e f (ap (flipped e.complement) (at_levels Bdd e.index t.0 t.1.0 ∙ sym t.1.0) ∙ d.is) k

  pub add_denotes : (e : Edge) (f : ℕ → ℤ) → Denotes Add (plain_view p) e f → DenotesAdd (length p.variable_levels) (slots p) e f
  add_denotes e f d k = add_read p st.permanent (length p.variable_levels + 1) e f (at_levels Add e.index f (plain-add e.complement (content_of p e.index) f d.is)) k

  pub zdd_denotes : (e : Edge) (f : ℕ → Bool) → Denotes Zdd (plain_view p) e f → DenotesZdd (length p.element_levels) (slots p) e f
  zdd_denotes e f d a = zdd_read p st.permanent (length p.element_levels + 1) e f (at_levels Zdd e.index f (plain-zdd e.complement (content_of p e.index) f d.is)) a
