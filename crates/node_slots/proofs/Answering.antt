-- What the calls leave, as their goals have it: q is what the fields show, and p is the value.
use Rattle.std.proofs.Common.{◌≡◌, inl, inr, ℕ, ◌<◌, ◌≤◌, ◌^◌, Bool, true, false, List, Option, Some, Ok, ℤ, SFits, w64, to_z, of_z, refl, ap, sym, ◌∙◌, subst, arith}
use Rattle.std.specs.Prelude.{IsErrOf}
use Rattle.std.proofs.Common.{◌&&◌, nat_eq, eq-eqb}
use mathlib.Core.Bool.{beq}
use Rattle.std.proofs.lemmas.Bool.{eqb-true}
use Rattle.std.proofs.lemmas.Int.{ints}
use Rattle.edge_bits.specs.declared.edges.Edge.{Edge}
use Rattle.edge_bits.specs.declared.edges.Kind.{Kind}
use Rattle.edge_bits.specs.declared.edges.Kind.TheVariants.{Bdd, Add, Zdd}
use Rattle.edge_bits.specs.declared.words.Node.{Node}
use Rattle.edge_bits.specs.declared.words.Word.{Word}
use Rattle.edge_bits.specs.declared.words.Word.TheVariants.{Inner, Leaf}
use Rattle.edge_bits.specs.Words.{IsLeafValue}
use Rattle.edge_bits.specs.Reading.{plain}
use Rattle.function_laws.specs.Values.{constant}
use Rattle.function_laws.specs.Numbers.{is_value}
use Rattle.function_laws.proofs.NumberLemmas.{is_value-true}
use Rattle.function_laws.specs.Kinds.{AddFunction, ValueOf, function_of}
use Rattle.node_store.specs.Views.{AreTwo, IsVariable, CanMake, Denotes, Grown, Is, values_at, node_values}
use Rattle.node_store.specs.declared.grow.Stop.{Stop}
use Rattle.node_store.specs.declared.grow.Stop.TheVariants as stop
use Rattle.node_slots.specs.Stores.{Plain, slots, content_of, plain_view, HasNoFree, IsUnknown, IsStore}
use Rattle.node_slots.specs.Placing.{IsPlaced, HasNoPlace, IsUnknownNode, IsChild, HasNoChild}
use Rattle.node_slots.specs.declared.plain_store.Refused.{Refused}
use Rattle.node_slots.specs.declared.plain_store.Refused.TheVariants as refused
use Rattle.node_slots.proofs.Reading.{in_words}
use Rattle.node_slots.proofs.Canonical.{leaf_or_node, edge_is, same_edge}
use Rattle.node_slots.proofs.Flips.{unflip}
use Rattle.node_slots.proofs.Making.{child_denotes, due_node, refused-grown, Stored, node_with, with_words, new_node, node_placed, leaf_placed, unknown_nodes, unknown_leaf}

-- the word of an edge that denotes something
pub edge_word : (q p : Plain) → q ≡ p → IsStore q → (k : Kind) (e : Edge) → Is k (plain_view p) e → (word : Word) × (slots q e.index ≡ Some word)
edge_word q p same st k e d =
    let d2 = subst (λ x. Is k (plain_view x) e) (sym same) d in
    let u = unflip k e.complement (content_of q e.index) (values_at k (plain_view q) e) d2.is in
    elim (leaf_or_node q st.permanent st.canonical k e.index u.inner u.is) [
      | inl l ↦ (Leaf l.value, l.word)
      | inr n ↦ (Inner n.node, n.word)
    ]

pub value_fits : (x : ℤ) → IsLeafValue x → is_value x ≡ true
value_fits x h = is_value-true x h.0 h.1

-- a number that was passed by value
pub passed : (x : ℤ) → SFits w64 x → to_z w64 (of_z w64 x) ≡ x
passed x fx = omega (arith, ints)

-- what is stored fits its word
pub variable_small : (q p : Plain) → q ≡ p → IsStore q → (k : Kind) (v : ℕ) → IsVariable k (plain_view p) v → v < 2 ^ 15
variable_small q p same st k v vn = small k v (subst (λ x. IsVariable k (plain_view x) v) (sym same) vn)
  where
    small : (k : Kind) (v : ℕ) → IsVariable k (plain_view q) v → v < 2 ^ 15
    small Bdd v h = let a = h.0 in omega arith
    small Add v h = let a = h.0 in omega arith
    small Zdd v h = let a = h.1 in let b = st.few_elements in omega arith

pub index_small : (q p : Plain) → q ≡ p → IsStore q → (k : Kind) (e : Edge) → Is k (plain_view p) e → e.index < 2 ^ 23
index_small q p same st k e d =
    let w = edge_word q p same st k e d in let l = in_words q.words e.index w.0 w.1 in let few = st.few_words in omega arith

pub leaf_answer : (q p : Plain) → q ≡ p → IsStore q → (x y : ℤ) → x ≡ y → IsLeafValue y → (ws : List ℕ) (s : ℕ) → IsPlaced q.words ws (Leaf x) s → (e : Edge) → e ≡ plain s
    → Stored Add p (with_words q ws) e (constant y)
leaf_answer q p same st x y is fits ws s placed e edge =
    subst (λ v. Stored Add v (with_words q ws) e (constant y)) same
    (subst (λ a. Stored Add q (with_words q ws) a (constant y)) (sym edge)
    (leaf_placed q st y (value_fits y fits) ws s (subst (λ z. IsPlaced q.words ws (Leaf z) s) is placed)))

pub node_answer : (q p : Plain) → q ≡ p → IsStore q → (k : Kind) (v : ℕ) (hi lo : Edge) → CanMake k (plain_view p) v hi lo → HasNoChild v hi lo
    → (node : Node) → node ≡ node_with v hi lo → (ws : List ℕ) (s : ℕ) → IsPlaced q.words ws (Inner node) s → (e : Edge) → e ≡ record { index = s; complement = hi.complement }
    → Stored k p (with_words q ws) e (node_values k (plain_view p) v hi lo)
node_answer q p same st k v hi lo m child node is ws s placed e edge =
    let m2 = subst (λ x. CanMake k (plain_view x) v hi lo) (sym same) m in
    subst (λ x. Stored k x (with_words q ws) e (node_values k (plain_view x) v hi lo)) same
    (subst (λ a. Stored k q (with_words q ws) a (node_values k (plain_view q) v hi lo)) (sym edge)
    (node_placed q st k v hi lo m2 (new_node q st k v hi lo m2 child) ws s (subst (λ n. IsPlaced q.words ws (Inner n) s) is placed)))

-- no answer Full where an edge was answered
ok-full : (e : Edge) → IsErrOf {T = Edge} {E = Stop} (Ok e) stop.Full → ⊥
ok-full e h = cc

pub not_refused : (k : Kind) (p q : Plain) (e : Edge) (f : ℕ → ValueOf k) → Stored k p q e f
    → (IsErrOf {T = Edge} {E = Stop} (Ok e) stop.Full → IsUnknown p (function_of k f) × HasNoFree p) × (IsUnknown p (function_of k f) × HasNoFree p → IsErrOf {T = Edge} {E = Stop} (Ok e) stop.Full)
not_refused k p q e f s = (λ h. absurd (ok-full e h), λ h. absurd (s.refused_not h.0 h.1))

pub leaf_refused : (q p : Plain) → q ≡ p → IsStore q → (x y : ℤ) → x ≡ y → (ws : List ℕ) → HasNoPlace q.words ws (Leaf x) → IsUnknown p (AddFunction (constant y)) × HasNoFree p
leaf_refused q p same st x y is ws none =
    subst (λ v. IsUnknown v (AddFunction (constant y)) × HasNoFree v) same
    (subst (λ z. IsUnknown q (AddFunction (constant z))) is (unknown_leaf q st x none.absent), none.full)

pub node_refused : (q p : Plain) → q ≡ p → IsStore q → (v : ℕ) (hi lo : Edge) → HasNoChild v hi lo → (node : Node) → node ≡ node_with v hi lo → (ws : List ℕ) → HasNoPlace q.words ws (Inner node)
    → IsUnknownNode p v hi lo × HasNoFree p
node_refused q p same st v hi lo child node is ws none =
    subst (λ x. IsUnknownNode x v hi lo × HasNoFree x) same
    (unknown_nodes q st v hi lo child (λ t le h. none.absent t le (h ∙ ap (λ n. Some (Inner n)) (sym is))), none.full)

pub child_answer : (q p : Plain) → q ≡ p → IsStore q → (k : Kind) (v : ℕ) (hi lo e : Edge) → CanMake k (plain_view p) v hi lo → IsChild v hi lo e
    → Denotes k (plain_view p) e (node_values k (plain_view p) v hi lo)
child_answer q p same st k v hi lo e m child = subst (λ x. CanMake k (plain_view x) v hi lo → Denotes k (plain_view x) e (node_values k (plain_view x) v hi lo)) same
    (λ n. child_denotes q st k v hi lo e n child) m

pub child_known : (k : Kind) (p : Plain) (v : ℕ) (hi lo e : Edge) → CanMake k (plain_view p) v hi lo → Denotes k (plain_view p) e (node_values k (plain_view p) v hi lo)
    → (IsErrOf {T = Edge} {E = Stop} (Ok e) stop.Full → IsUnknownNode p v hi lo × HasNoFree p) × (IsUnknownNode p v hi lo × HasNoFree p → IsErrOf {T = Edge} {E = Stop} (Ok e) stop.Full)
child_known k p v hi lo e m d = (λ h. absurd (ok-full e h), λ h. absurd (h.0 k m e d.is))

pub node_known : (k : Kind) (p q : Plain) (v : ℕ) (hi lo e : Edge) → CanMake k (plain_view p) v hi lo → Stored k p q e (node_values k (plain_view p) v hi lo)
    → (IsErrOf {T = Edge} {E = Stop} (Ok e) stop.Full → IsUnknownNode p v hi lo × HasNoFree p) × (IsUnknownNode p v hi lo × HasNoFree p → IsErrOf {T = Edge} {E = Stop} (Ok e) stop.Full)
node_known k p q v hi lo e m s = (λ h. absurd (ok-full e h), λ h. absurd (s.refused_not (h.0 k m) h.1))

pub due_answer : (q p : Plain) → q ≡ p → (n : ℕ) (ws : List ℕ) → ws ≡ q.words → (k : Kind) (v : ℕ) (hi lo : Edge) → CanMake k (plain_view p) v hi lo
    → (plain_view (record q { words = ws; fulls = n; due = Some (refused.Node v hi lo) })).due ≡ Some (function_of k (node_values k (plain_view p) v hi lo))
due_answer q p same n ws is k v hi lo m =
    subst (λ x. (plain_view (record q { words = x; fulls = n; due = Some (refused.Node v hi lo) })).due ≡ Some (function_of k (node_values k (plain_view p) v hi lo))) (sym is)
    (subst (λ x. CanMake k (plain_view x) v hi lo → (plain_view (record q { words = q.words; fulls = n; due = Some (refused.Node v hi lo) })).due ≡ Some (function_of k (node_values k (plain_view x) v hi lo))) same
    (λ c. due_node q n k v hi lo c) m)

pub grown_answer : (q p : Plain) → q ≡ p → IsStore q → (n : ℕ) (d : Option Refused) → q.fulls ≤ n → (ws : List ℕ) → ws ≡ q.words
    → Grown (plain_view p) (plain_view (record q { words = ws; fulls = n; due = d }))
grown_answer q p same st n d more ws is =
    subst (λ x. Grown (plain_view p) (plain_view (record q { words = x; fulls = n; due = d }))) (sym is)
    (subst (λ x. Grown (plain_view x) (plain_view (record q { words = q.words; fulls = n; due = d }))) same (refused-grown q st n d more))

-- the test of two edges
edge-eq : (i j : ℕ) (c d : Bool) → (nat_eq i j && beq c d) ≡ true → (i ≡ j) × (c ≡ d)
edge-eq i j c d h = (eqb-true i j (left (nat_eq i j) (beq c d) h), same c d (right (nat_eq i j) (beq c d) h))
  where
    left : (a b : Bool) → (a && b) ≡ true → a ≡ true
    left true b h = refl
    left false b h = cc

    right : (a b : Bool) → (a && b) ≡ true → b ≡ true
    right true b h = h
    right false b h = cc

    same : (c d : Bool) → beq c d ≡ true → c ≡ d
    same true true h = refl
    same true false h = cc
    same false true h = cc
    same false false h = refl

eq-edge : (e : Edge) → (nat_eq e.index e.index && beq e.complement e.complement) ≡ true
eq-edge e = rw (eq-eqb e.index e.index refl, same e.complement) refl
  where
    same : (d : Bool) → beq d d ≡ true
    same true = refl
    same false = refl

-- edges are equal exactly if they denote one function
pub same_answer : (q p : Plain) → q ≡ p → IsStore q → (r : Bool) (f g : Edge) → r ≡ (nat_eq f.index g.index && beq f.complement g.complement) → (k : Kind) → AreTwo k (plain_view p) f g
    → (r ≡ true → values_at k (plain_view p) f ≡ values_at k (plain_view p) g) × (values_at k (plain_view p) f ≡ values_at k (plain_view p) g → r ≡ true)
same_answer q p same st r f g is k two = (
  λ h. (let e = edge-eq f.index g.index f.complement g.complement (sym is ∙ h) in ap (λ x. values_at k (plain_view p) x) (edge_is f g e.0 e.1)),
  λ h. is ∙ subst (λ x. (nat_eq f.index x.index && beq f.complement x.complement) ≡ true) (equal h) (eq-edge f),
)
  where
    at_q : AreTwo k (plain_view q) f g
    at_q = subst (λ x. AreTwo k (plain_view x) f g) (sym same) two

    equal : values_at k (plain_view p) f ≡ values_at k (plain_view p) g → f ≡ g
    equal h =
        let h2 = subst (λ x. values_at k (plain_view x) f ≡ values_at k (plain_view x) g) (sym same) h in
        same_edge q st.permanent st.canonical f g (function_of k (values_at k (plain_view q) f)) at_q.first.is (at_q.second.is ∙ ap (λ x. Some (function_of k x)) (sym h2))
