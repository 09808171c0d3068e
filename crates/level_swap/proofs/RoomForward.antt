-- Room for twice the upper nodes is room for what a swap has to store.
use Rattle.std.proofs.Common.{◌≡◌, ℕ, zero, suc, ◌+◌, ◌*◌, ◌<◌, ◌≤◌, inl, inr, Bool, true, false, cond, List, [], ◌∷◌, ◌++◌, length, Option, Some, None, eq-eqb, refl, sym, ap, ◌∙◌, subst, arith}
use Rattle.std.specs.Prelude.{slice_index}
use Rattle.std.specs.List.{filter, range_with_len}
use Rattle.edge_bits.specs.declared.edges.Kind.{Kind}
use Rattle.edge_bits.specs.declared.words.Word.TheVariants.{Inner}
use Rattle.function_laws.specs.Kinds.{Denoted, function_of, joined_at, part_at}
use Rattle.node_store.specs.Views.{IsVariable}
use Rattle.edge_bits.specs.declared.edges.Kind.TheVariants.{Bdd, Add, Zdd}
use Rattle.function_laws.specs.declared.orders.Order.TheVariants.{Variables, Elements}
use Rattle.node_store.proofs.Parting.{same_kind}
use Rattle.function_laws.specs.declared.orders.Order.{Order}
use Rattle.function_laws.specs.Sizes.{in_order, part_of, is_one}
use Rattle.function_laws.proofs.DistinctLemmas.{In, In-left, In-right, In-list_any}
use Rattle.function_laws.proofs.OneFunctions.{is_one-refl}
use Rattle.function_laws.proofs.LackingParts.{own, part-function}
use Rattle.node_store.specs.Contents.{Content, IsSound, IsOrder, number_of, view_of, is_node_of, var_at, used_slots, nodes_of}
use Rattle.level_swap.specs.Swaps.{HasOneOf, HasRoomBack, needed}
use Rattle.node_store.proofs.SlotLists.{range-In}
use Rattle.node_store.proofs.Widths.{In-filter}

pub filter_shorter : (test : ℕ → Bool) (ss : List ℕ) → length (filter test ss) ≤ length ss
filter_shorter test [] = omega arith
filter_shorter test (s ∷ ss) = at (test s) (filter_shorter test ss)
  where
    at : (b : Bool) → length (filter test ss) ≤ length ss → length (cond b (s ∷ filter test ss) (filter test ss)) ≤ suc (length ss)
    at true h = omega arith
    at false h = omega arith

length-range : (a n : ℕ) → length (range_with_len a n) ≡ n
length-range a zero = refl
length-range a (suc n) = ap suc (length-range (a + 1) n)

pub nodes_few : (w : Content) (v : ℕ) → nodes_of w v ≤ w.limit
nodes_few w v = let h = filter_shorter (λ s. is_node_of v (w.word s)) (range_with_len 0 w.limit) in let n = length-range 0 w.limit in omega (arith, h, n)

both_parts : ℕ → Option Denoted → List Denoted
both_parts x None = []
both_parts x (Some f) = part_of f x true ∷ (part_of f x false ∷ [])

all_both : (ℕ → Option Denoted) → ℕ → List ℕ → List Denoted
all_both function x [] = []
all_both function x (s ∷ ss) = both_parts x (function s) ++ all_both function x ss

few_parts : (function : ℕ → Option Denoted) (x : ℕ) (ss : List ℕ) → length (all_both function x ss) ≤ 2 * length ss
unfolding all_both both_parts
few_parts function x [] = omega arith
few_parts function x (s ∷ ss) = at (function s) (few_parts function x ss)
  where
    at : (o : Option Denoted) → length (all_both function x ss) ≤ 2 * length ss → length (both_parts x o ++ all_both function x ss) ≤ 2 * suc (length ss)
    at None h = omega arith
    at (Some f) h = omega arith

In-parts : (function : ℕ → Option Denoted) (x : ℕ) (b : Bool) (f : Denoted) (s : ℕ) (ss : List ℕ) → In s ss → function s ≡ Some f → In (part_of f x b) (all_both function x ss)
unfolding all_both both_parts
In-parts function x b f s [] i e = absurd i
In-parts function x b f s (t ∷ ts) (inl same) e = In-left (part_of f x b) (both_parts x (function t)) (all_both function x ts) (at b (function t) (ap function (sym same) ∙ e))
  where
    at : (b : Bool) (o : Option Denoted) → o ≡ Some f → In (part_of f x b) (both_parts x o)
    at b None h = cc
    at true (Some g) h = inl (let e : g ≡ f = cc in ap (λ z. part_of z x true) (sym e))
    at false (Some g) h = inr (inl (let e : g ≡ f = cc in ap (λ z. part_of z x false) (sym e)))
In-parts function x b f s (t ∷ ts) (inr i) e = In-right (part_of f x b) (both_parts x (function t)) (all_both function x ts) (In-parts function x b f s ts i e)

module _ (w : Content) (sound : IsSound w) (which : Order) (level : ℕ) (within : level + 1 < length (in_order w.orders which)) where
  -- a variable of the order, as a kind of the order has it
  own_next : (o : Order) (k : Kind) (v x : ℕ) → v < length (in_order w.orders o) → IsVariable k (view_of w) (number_of o v) → own k (number_of o x) ≡ x
  own_next Variables Bdd v x lt h = refl
  own_next Variables Add v x lt h = refl
  own_next Variables Zdd v x lt h = let a = h.0 in let b = sound.few_variables in absurd (omega arith)
  own_next Elements Bdd v x lt h = let a = h.0 in absurd (omega arith)
  own_next Elements Add v x lt h = let a = h.0 in absurd (omega arith)
  own_next Elements Zdd v x lt h = omega arith

  ord : (o : Order) → IsOrder (in_order w.orders o)
  ord Variables = sound.variables
  ord Elements = sound.elements

  pub room_forward : used_slots w + needed w which level ≤ w.limit → HasRoomBack w which level
  room_forward room =
      let here : ℕ → Bool = λ s. is_node_of (var_at w which level) (w.word s) in
      let upper = filter here (range_with_len 0 w.limit) in
      let x = slice_index (in_order w.orders which) (level + 1) in
      let few = few_parts w.function x upper in (
        all_both w.function x upper,
        omega (arith, room, few),
        λ s node k f b word var is lacks.
            let stands : here s ≡ true = ap (is_node_of (var_at w which level)) word ∙ eq-eqb node.var (var_at w which level) var in
            let inside = sound.within s (Inner node, word) in
            let n = sound.nodes s node (function_of k f) word is in
            let kind : IsVariable k (view_of w) node.var =
            subst (λ j. IsVariable j (view_of w) node.var) (sym (same_kind k n.kind f (joined_at n.kind node.var n.high n.low) n.is)) n.in_range in
            let next : own k (var_at w which (level + 1)) ≡ x =
            own_next which k (slice_index (in_order w.orders which) level) x ((ord which).below level (omega (arith, within))) (subst (IsVariable k (view_of w)) var kind) in
            let part : part_of (function_of k f) x b ≡ function_of k (part_at k f (var_at w which (level + 1)) b) =
            ap (λ v. part_of (function_of k f) v b) (sym next) ∙ part-function k f (var_at w which (level + 1)) b in
            inr (subst (HasOneOf w.orders (all_both w.function x upper)) part
            (In-list_any (is_one w.orders (part_of (function_of k f) x b)) (all_both w.function x upper) (part_of (function_of k f) x b)
            (In-parts w.function x b (function_of k f) s upper (In-filter here s (range_with_len 0 w.limit) (range-In s 0 w.limit (omega arith) (omega (arith, inside))) stands) is)
            (is_one-refl w.orders (part_of (function_of k f) x b)))),
      )
