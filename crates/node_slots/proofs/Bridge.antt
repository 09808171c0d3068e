-- A solution is what the words denote: a child lacks its node's variable and all that the node lacks, so no path has more nodes than there are variables.
use Rattle.std.proofs.Common.{◌≡◌, ◌≢◌, ℕ, zero, suc, ◌<◌, ◌≤◌, ◌⊎◌, inl, inr, Bool, true, false, not, eqb, cond, List, [], ◌∷◌, length, Option, Some, ap, sym, ◌∙◌, subst, arith}
use Rattle.std.specs.List.{filter}
use Rattle.std.proofs.lemmas.Bool.{cases_eq, eq-eqb, ne_eqb}
use Rattle.edge_bits.specs.declared.edges.Kind.{Kind}
use Rattle.edge_bits.specs.declared.words.Node.{Node}
use Rattle.edge_bits.specs.declared.words.Word.{Word}
use Rattle.edge_bits.specs.declared.words.Word.TheVariants.{Inner, Leaf}
use Rattle.function_laws.specs.Kinds.{Denoted, ValueOf, function_of, joined_at, Lacks, flipped}
use Rattle.function_laws.specs.Sizes.{part_of}
use Rattle.function_laws.proofs.DistinctLemmas.{In}
use Rattle.function_laws.proofs.LackingParts.{Free, own, Free-Lacks, Lacks-Free, part-function, Free-more}
use Rattle.node_store.specs.KindLaws.{part-joined}
use Rattle.node_slots.specs.Slots.{node_of, word_function, function_at_most}
use Rattle.node_slots.specs.Solutions.{IsSolution, IsSolved}
use Rattle.node_slots.proofs.Reading.{at_word, node_of-functions}
use Rattle.node_store.proofs.Parting.{depends, same_kind, same_values}
use Rattle.node_slots.proofs.Flips.{unflip}

in? : (u : ℕ) (xs : List ℕ) → In u xs ⊎ (In u xs → ⊥)
in? u [] = inr (λ h. h)
in? u (x ∷ xs) = elim (cases_eq u x) [
  | inl e ↦ inl (inl e)
  | inr ne ↦ elim (in? u xs) [ inl h ↦ inl (inr h) | inr none ↦ inr (λ h. elim h [ inl e ↦ ne e | inr i ↦ none i ]) ]
]

-- the others
abbrev pub without : ℕ → List ℕ → List ℕ
without v xs = filter (λ x. not (eqb x v)) xs

without-most : (v : ℕ) (xs : List ℕ) → length (without v xs) ≤ length xs
without-most v [] = omega arith
without-most v (x ∷ xs) = elim (cases_eq x v) [
  | inl e ↦ (let t = eq-eqb x v e in let m = without-most v xs in rw t (omega arith))
  | inr ne ↦ (let t = ne_eqb x v ne in let m = without-most v xs in rw t (omega arith))
]

pub without-less : (v : ℕ) (xs : List ℕ) → In v xs → length (without v xs) < length xs
without-less v [] i = absurd i
without-less v (x ∷ xs) i = elim (cases_eq x v) [
  | inl e ↦ (let t = eq-eqb x v e in let m = without-most v xs in rw t (omega arith))
  | inr ne ↦ (let t = ne_eqb x v ne in let m = without-less v xs (elim i [ inl e ↦ absurd (ne (sym e)) | inr j ↦ j ]) in rw t (omega arith))
]

pub in-without : (u v : ℕ) (xs : List ℕ) → u ≢ v → In u xs → In u (without v xs)
in-without u v [] ne i = i
in-without u v (x ∷ xs) ne i = elim (cases_eq x v) [
  | inl e ↦ (let t = eq-eqb x v e in rw t (elim i [ inl same ↦ absurd (ne (same ∙ e)) | inr j ↦ in-without u v xs ne j ]))
  | inr ne' ↦ (let t = ne_eqb x v ne' in rw t (elim i [ inl same ↦ inl same | inr j ↦ inr (in-without u v xs ne j) ]))
]

-- a child lacks what the node lacks
pub child-lacks : (k : Kind) (u v : ℕ) (b : Bool) (high low : ℕ → ValueOf k) → Lacks k high v → Lacks k low v → Lacks k (joined_at k v high low) u → Lacks k (cond b high low) u
child-lacks k u v b high low hv lv h =
    let f = joined_at k v high low in
    let same : part_of (function_of k f) (own k v) b ≡ function_of k (cond b high low) = part-function k f v b ∙ ap (function_of k) (part-joined k v high low b hv lv) in
    Lacks-Free k (cond b high low) u (subst (λ g. Free g (own k u)) same (Free-more (function_of k f) (own k u) (own k v) b (Free-Lacks k f u h)))

module _ (IsOf : Kind → ℕ → Type 0) (slots : ℕ → Option Word) (map : ℕ → Option Denoted) (solution : IsSolution IsOf slots map) where
  -- all variables that the function does not lack are in the list
  abbrev pub Within : (k : Kind) → (ℕ → ValueOf k) → List ℕ → Type 0
  Within k f vs = (u : ℕ) → IsOf k u → (In u vs → ⊥) → Lacks k f u

  within-kind : (k j : Kind) (f : ℕ → ValueOf k) (g : ℕ → ValueOf j) (vs : List ℕ) → function_of k f ≡ function_of j g → Within k f vs → Within j g vs
  within-kind k j f g vs same within =
      subst (λ i. (h : ℕ → ValueOf i) → function_of k f ≡ function_of i h → Within i h vs) (same_kind k j f g same)
      (λ h e. subst (λ x. Within k x vs) (same_values k f h e) within) g same

  module _ (s : ℕ) (node : Node) (n : IsSolved IsOf map s node) (vs : List ℕ) (within : Within n.kind (joined_at n.kind node.var n.high n.low) vs) where
    -- the node's variable is in it
    there : In node.var vs
    there = elim (in? node.var vs) [
      | inl i ↦ i
      | inr none ↦ absurd (depends n.kind node.var n.high n.low n.high_lacks n.low_lacks n.proper (within node.var n.in_range none))
    ]

    high-within : Within n.kind n.high (without node.var vs)
    high-within u un none = elim (cases_eq u node.var) [
      | inl e ↦ subst (Lacks n.kind n.high) (sym e) n.high_lacks
      | inr ne ↦ child-lacks n.kind u node.var true n.high n.low n.high_lacks n.low_lacks (within u un (λ i. none (in-without u node.var vs ne i)))
    ]

    low-within : Within n.kind n.low (without node.var vs)
    low-within u un none = elim (cases_eq u node.var) [
      | inl e ↦ subst (Lacks n.kind n.low) (sym e) n.low_lacks
      | inr ne ↦ child-lacks n.kind u node.var false n.high n.low n.high_lacks n.low_lacks (within u un (λ i. none (in-without u node.var vs ne i)))
    ]

  -- what paths of so many nodes denote
  abbrev pub Denotes_by : ℕ → Type 0
  Denotes_by m = (vs : List ℕ) → length vs < m → (t : ℕ) (k : Kind) (g : ℕ → ValueOf k) → map t ≡ Some (function_of k g) → Within k g vs → function_at_most slots m t ≡ Some (function_of k g)

  node-denoted : (m s : ℕ) (node : Node) → 3 ≤ s → slots s ≡ Some (Inner node) → (f : Denoted) → map s ≡ Some f → (vs : List ℕ) → length vs ≤ m
      → ((n : IsSolved IsOf map s node) → Within n.kind (joined_at n.kind node.var n.high n.low) vs) → Denotes_by m → function_at_most slots (suc m) s ≡ Some f
  node-denoted m s node le word f is vs few within rec =
      let n = solution.nodes s node le word in
      let i = there s node n vs (within n) in
      let less = without-less node.var vs i in
      let hi : function_at_most slots m node.hi ≡ Some (function_of n.kind n.high) =
      rec (without node.var vs) (omega arith) node.hi n.kind n.high n.high_is (high-within s node n vs (within n)) in
      let low = unflip n.kind node.lo.complement (map node.lo.index) n.low n.low_is in
      let lo : function_at_most slots m node.lo.index ≡ map node.lo.index =
      rec (without node.var vs) (omega arith) node.lo.index n.kind low.inner low.is (λ u un none. low.lacks u (low-within s node n vs (within n) u un none)) ∙ sym low.is in
      at_word slots m s le ∙ ap (word_function (function_at_most slots m)) word
      ∙ ap (λ o. node_of node.var o (flipped node.lo.complement (function_at_most slots m node.lo.index))) hi
      ∙ ap (λ o. node_of node.var (Some (function_of n.kind n.high)) o) (ap (flipped node.lo.complement) lo ∙ n.low_is)
      ∙ node_of-functions n.kind node.var n.high n.low ∙ ap Some (sym (n.is f is))

  word-denoted : (m s : ℕ) → 3 ≤ s → (k : Kind) (f : ℕ → ValueOf k) → map s ≡ Some (function_of k f) → (vs : List ℕ) → length vs ≤ m → Within k f vs → Denotes_by m → function_at_most slots (suc m) s ≡ Some (function_of k f)
  word-denoted m s le k f is vs few within rec = let u = solution.used s (function_of k f) le is in at u.0 u.1
    where
      at : (word : Word) → slots s ≡ Some word → function_at_most slots (suc m) s ≡ Some (function_of k f)
      at (Leaf x) word = at_word slots m s le ∙ ap (word_function (function_at_most slots m)) word ∙ ap Some (sym (solution.leaves s x (function_of k f) le word is))
      at (Inner node) word = node-denoted m s node le word (function_of k f) is vs few
          (λ n. within-kind k n.kind f (joined_at n.kind node.var n.high n.low) vs (n.is (function_of k f) is) within) rec

  -- what a slot's word denotes by paths of one node more than there are variables that its function does not lack
  pub denoted-by : (m : ℕ) → Denotes_by (suc m)
  unfolding function_at_most
  denoted-by m vs less zero k g is within = sym solution.logic_one ∙ is
  denoted-by m vs less (suc zero) k g is within = sym solution.empty_family ∙ is
  denoted-by m vs less (suc (suc zero)) k g is within = sym solution.base_family ∙ is
  denoted-by zero vs less (suc (suc (suc t))) k g is within = word-denoted zero (suc (suc (suc t))) (omega arith) k g is vs (omega arith) within (λ us none. absurd (omega arith))
  denoted-by (suc m) vs less (suc (suc (suc t))) k g is within = word-denoted (suc m) (suc (suc (suc t))) (omega arith) k g is vs (omega arith) within (denoted-by m)
