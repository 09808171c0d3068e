-- The functions that the words of a canonical store denote are a solution, so its paths have no more nodes than there are variables.
use Rattle.std.proofs.Common.{◌≡◌, ℕ, zero, suc, ◌+◌, ◌-◌, ◌<◌, ◌≤◌, inl, inr, List, length, Option, Some, refl, ap, sym, ◌∙◌, subst, arith}
use Rattle.std.specs.List.{range_with_len}
use Rattle.std.proofs.lemmas.Bool.{cases_eq}
use Rattle.std.proofs.lemmas.List.FromFn.{length-range_with_len}
use Rattle.edge_bits.specs.declared.edges.Kind.{Kind}
use Rattle.edge_bits.specs.declared.edges.Kind.TheVariants.{Bdd, Add, Zdd}
use Rattle.edge_bits.specs.declared.words.Node.{Node}
use Rattle.edge_bits.specs.declared.words.Word.{Word}
use Rattle.edge_bits.specs.declared.words.Word.TheVariants.{Inner}
use Rattle.edge_bits.specs.Reading.{plain}
use Rattle.edge_bits.specs.Permanent.{first_element}
use Rattle.function_laws.specs.Values.{constant}
use Rattle.function_laws.specs.Kinds.{AddFunction, ValueOf, function_of, Lacks, flipped}
use Rattle.function_laws.proofs.DistinctLemmas.{In}
use Rattle.node_store.specs.Views.{View, levels, IsVariable, values_at, node_values}
use Rattle.node_slots.specs.Slots.{node_of, word_function, function_at_most}
use Rattle.node_slots.specs.Solutions.{IsSolution, IsSolved}
use Rattle.node_slots.specs.Stores.{Plain, slots, longest, content_of, plain_view, IsNode, IsCanonical}
use Rattle.node_slots.proofs.Reading.{Extends, at_word, flipped-more, function-more, node_of-functions, node_of-some, used}
use Rattle.node_slots.proofs.Flips.{unflip}
use Rattle.node_slots.proofs.Bridge.{denoted-by, in-without, without, without-less}

-- the numbers of a kind's variables
pub all_of : Kind → View → List ℕ
all_of Bdd w = range_with_len 0 w.vars
all_of Add w = range_with_len 0 w.vars
all_of Zdd w = range_with_len first_element w.elements

pub length-all : (k : Kind) (w : View) → length (all_of k w) ≡ levels k w
unfolding all_of
length-all Bdd w = length-range_with_len 0 w.vars
length-all Add w = length-range_with_len 0 w.vars
length-all Zdd w = length-range_with_len first_element w.elements

in-range : (a n v : ℕ) → a ≤ v → v < a + n → In v (range_with_len a n)
in-range a zero v le lt = absurd (omega arith)
in-range a (suc n) v le lt = elim (cases_eq v a) [
  | inl e ↦ inl e
  | inr ne ↦ inr (in-range (a + 1) n v (omega arith) (omega arith))
]

pub in-all : (k : Kind) (w : View) (v : ℕ) → IsVariable k w v → In v (all_of k w)
unfolding all_of
in-all Bdd w v h = in-range 0 w.vars v (omega arith) (omega (arith, h.1))
in-all Add w v h = in-range 0 w.vars v (omega arith) (omega (arith, h.1))
in-all Zdd w v h = in-range first_element w.elements v h.0 h.1

pub levels_short : (p : Plain) (k : Kind) → levels k (plain_view p) ≤ longest p
levels_short p Bdd = omega arith
levels_short p Add = omega arith
levels_short p Zdd = omega arith

module _ (p : Plain) (sound : IsCanonical p) where
  solved : (s : ℕ) (node : Node) → 3 ≤ s → slots p s ≡ Some (Inner node) → IsSolved (λ k v. IsVariable k (plain_view p) v) (content_of p) s node
  solved s node le word =
      let n = sound.nodes s node word in
      let k = n.0 in
      let m = n.1.can_make in
      let high = values_at k (plain_view p) (plain node.hi) in
      let low = values_at k (plain_view p) node.lo in
      record {
        kind = k;
        high = high;
        low = low;
        in_range = m.in_range;
        high_is = m.hi_is.is;
        low_is = m.lo_is.is;
        high_lacks = m.hi_below node.var m.in_range (omega arith);
        low_lacks = m.lo_below node.var m.in_range (omega arith);
        proper = n.1.proper;
        is = λ f h. (
            let at : node_of node.var (function_at_most (slots p) (longest p) node.hi) (flipped node.lo.complement (function_at_most (slots p) (longest p) node.lo.index)) ≡ Some f =
            ap (word_function (function_at_most (slots p) (longest p))) (sym word) ∙ sym (at_word (slots p) (longest p) s le) ∙ h in
            let parts = node_of-some node.var (function_at_most (slots p) (longest p) node.hi) (flipped node.lo.complement (function_at_most (slots p) (longest p) node.lo.index)) f at in
            let hi : content_of p node.hi ≡ Some (function_of parts.kind parts.high) =
            function-more (slots p) (slots p) (λ t x e. e) (longest p) (suc (longest p)) (omega arith) node.hi (function_of parts.kind parts.high) parts.high_is in
            let lo : flipped node.lo.complement (content_of p node.lo.index) ≡ Some (function_of parts.kind parts.low) =
            flipped-more node.lo.complement (function_at_most (slots p) (longest p) node.lo.index) (content_of p node.lo.index) (function_of parts.kind parts.low) parts.low_is
            (λ g e. function-more (slots p) (slots p) (λ t x e'. e') (longest p) (suc (longest p)) (omega arith) node.lo.index g e) in
            let same : Some (function_of k (node_values k (plain_view p) node.var (plain node.hi) node.lo)) ≡ Some f =
            sym (node_of-functions k node.var high low) ∙ ap (λ o. node_of node.var o (Some (function_of k low))) (sym m.hi_is.is ∙ hi ∙ sym parts.high_is)
            ∙ ap (λ o. node_of node.var (function_at_most (slots p) (longest p) node.hi) o) (sym m.lo_is.is ∙ lo ∙ sym parts.low_is) ∙ at in
            cc);
      }

  pub solution : IsSolution (λ k v. IsVariable k (plain_view p) v) (slots p) (content_of p)
  unfolding function_at_most
  solution = record {
    logic_one = refl;
    empty_family = refl;
    base_family = refl;
    used = λ s f le h. used (slots p) (longest p) s f le h;
    leaves = λ s x f le word h. (
        let e : Some (AddFunction (constant x)) ≡ Some f = sym (at_word (slots p) (longest p) s le ∙ ap (word_function (function_at_most (slots p) (longest p))) word) ∙ h in cc);
    nodes = solved;
  }

  -- what a slot denotes, by paths as long as there are levels
  pub by_levels : (k : Kind) (s : ℕ) (f : ℕ → ValueOf k) → content_of p s ≡ Some (function_of k f) → function_at_most (slots p) (suc (levels k (plain_view p))) s ≡ Some (function_of k f)
  by_levels k s f h = denoted-by (λ j v. IsVariable j (plain_view p) v) (slots p) (content_of p) solution (levels k (plain_view p)) (all_of k (plain_view p)) (let l = length-all k (plain_view p) in omega arith) s k f h
      (λ u un none. absurd (none (in-all k (plain_view p) u un)))

  -- a function that lacks a variable has paths that are shorter by one
  short : (k : Kind) (v : ℕ) → IsVariable k (plain_view p) v → (s : ℕ) (f : ℕ → ValueOf k) → content_of p s ≡ Some (function_of k f) → Lacks k f v → function_at_most (slots p) (longest p) s ≡ Some (function_of k f)
  short k v vn s f h lacks =
      let all = in-all k (plain_view p) v vn in
      let less = without-less v (all_of k (plain_view p)) all in
      let long = length-all k (plain_view p) in
      let most = levels_short p k in
      let one_more : suc (longest p - 1) ≡ longest p = omega arith in
      subst (λ m. function_at_most (slots p) m s ≡ Some (function_of k f)) one_more
      (denoted-by (λ j u. IsVariable j (plain_view p) u) (slots p) (content_of p) solution (longest p - 1) (without v (all_of k (plain_view p))) (omega arith) s k f h
      (λ u un none. elim (cases_eq u v) [
        | inl e ↦ subst (Lacks k f) (sym e) lacks
        | inr ne ↦ absurd (none (in-without u v (all_of k (plain_view p)) ne (in-all k (plain_view p) u un)))
      ]))

  -- what a node denotes where more words stand
  pub node-more : (more : ℕ → Option Word) → Extends (slots p) more → (k : Kind) (s : ℕ) (node : Node) → more s ≡ Some (Inner node) → 3 ≤ s → IsNode k p node
      → function_at_most more (suc (longest p)) s ≡ Some (function_of k (node_values k (plain_view p) node.var (plain node.hi) node.lo))
  node-more more extends k s node is le n =
      let m = n.can_make in
      let high = values_at k (plain_view p) (plain node.hi) in
      let low = values_at k (plain_view p) node.lo in
      let hi : function_at_most more (longest p) node.hi ≡ Some (function_of k high) =
      function-more (slots p) more extends (longest p) (longest p) (omega arith) node.hi (function_of k high)
      (short k node.var m.in_range node.hi high m.hi_is.is (m.hi_below node.var m.in_range (omega arith))) in
      let u = unflip k node.lo.complement (content_of p node.lo.index) low m.lo_is.is in
      let lo : function_at_most more (longest p) node.lo.index ≡ content_of p node.lo.index =
      function-more (slots p) more extends (longest p) (longest p) (omega arith) node.lo.index (function_of k u.inner)
      (short k node.var m.in_range node.lo.index u.inner u.is (u.lacks node.var (m.lo_below node.var m.in_range (omega arith)))) ∙ sym u.is in
      at_word more (longest p) s le ∙ ap (word_function (function_at_most more (longest p))) is
      ∙ ap (λ o. node_of node.var o (flipped node.lo.complement (function_at_most more (longest p) node.lo.index))) hi
      ∙ ap (λ o. node_of node.var (Some (function_of k high)) o) (ap (flipped node.lo.complement) lo ∙ m.lo_is.is)
      ∙ node_of-functions k node.var high low

  pub content_node : (k : Kind) (s : ℕ) (node : Node) → slots p s ≡ Some (Inner node) → 3 ≤ s → IsNode k p node
      → content_of p s ≡ Some (function_of k (node_values k (plain_view p) node.var (plain node.hi) node.lo))
  content_node = node-more (slots p) (λ t x e. e)
