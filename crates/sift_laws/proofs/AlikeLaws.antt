-- Lists of the same functions are measured alike under all orders of the same variables, and so sifted alike.
use Rattle.std.proofs.Common.{◌≡◌, ℕ, ◌^◌, ◌<◌, inl, inr, true, ◌||◌, List, ◌++◌, length, refl, sym, ap, ◌∙◌, subst}
use Rattle.std.specs.Ordering.{int_eq}
use Rattle.function_laws.specs.declared.orders.Order.{Order}
use Rattle.function_laws.specs.declared.orders.Order.TheVariants.{Variables, Elements}
use Rattle.function_laws.specs.Kinds.{Denoted, BddFunction, AddFunction, ZddFamily}
use Rattle.function_laws.specs.Lists.{all_below}
use Rattle.function_laws.specs.SiftedOrders.{Block, Reached, SiftedOrder, measure_of, sift_by, sifted, with_order}
use Rattle.function_laws.specs.Sizes.{Orders, agree, in_order, is_one, order_of, permanent}
use Rattle.function_laws.specs.Values.{negation}
use Rattle.function_laws.proofs.DistinctLemmas.{In, In-append, In-left, In-right}
use Rattle.function_laws.proofs.ValueLemmas.{everywhere}
use Rattle.sift_laws.proofs.MatchedParts.{IsFit, Twinned, size_twinned, width_twinned}
use Rattle.sift_laws.proofs.Rearranged.{Rearranged, as_it_is}
use Rattle.sift_laws.proofs.SameSifts.{sifted_alike}

-- whether two functions are one goes by how many variables and elements there are
one_by_lengths : (o q : Orders) (f g : Denoted) → length q.variables ≡ length o.variables → length q.elements ≡ length o.elements → is_one q f g ≡ is_one o f g
one_by_lengths o q (BddFunction f) (BddFunction g) v e = ap (λ n. agree n f g || agree n (negation f) g) v
one_by_lengths o q (AddFunction f) (AddFunction g) v e = ap (λ n. all_below (2 ^ n) (λ k. int_eq (f k) (g k))) v
one_by_lengths o q (ZddFamily f) (ZddFamily g) v e = ap (λ n. agree n f g) e
one_by_lengths o q (BddFunction f) (AddFunction g) v e = refl
one_by_lengths o q (BddFunction f) (ZddFamily g) v e = refl
one_by_lengths o q (AddFunction f) (BddFunction g) v e = refl
one_by_lengths o q (AddFunction f) (ZddFamily g) v e = refl
one_by_lengths o q (ZddFamily f) (BddFunction g) v e = refl
one_by_lengths o q (ZddFamily f) (AddFunction g) v e = refl

one_reordered : (o : Orders) (which : Order) (order : List ℕ) (f g : Denoted) → length order ≡ length (in_order o which) → is_one (with_order o which order) f g ≡ is_one o f g
one_reordered o Variables order f g long = one_by_lengths o (with_order o Variables order) f g long refl
one_reordered o Elements order f g long = one_by_lengths o (with_order o Elements order) f g refl long

fit_rearranged : (a b : List ℕ) → Rearranged a b → IsFit a → IsFit b
fit_rearranged a b h fit v i = subst (λ n. v < n) (sym h.as_long) (fit v (h.here v i))

fit_reordered : (o : Orders) (which : Order) (order : List ℕ) (f : Denoted) → Rearranged (in_order o which) order → IsFit (order_of o f) → IsFit (order_of (with_order o which order) f)
fit_reordered o Variables order (BddFunction f) h fit = fit_rearranged o.variables order h fit
fit_reordered o Variables order (AddFunction f) h fit = fit_rearranged o.variables order h fit
fit_reordered o Variables order (ZddFamily f) h fit = fit
fit_reordered o Elements order (BddFunction f) h fit = fit
fit_reordered o Elements order (AddFunction f) h fit = fit
fit_reordered o Elements order (ZddFamily f) h fit = fit_rearranged o.elements order h fit

own_order : (o : Orders) (which : Order) (order : List ℕ) → in_order (with_order o which order) which ≡ order
own_order o Variables order = refl
own_order o Elements order = refl

-- each function of one list is one with one of the other, and by an order that is fit
abbrev pub Paired : Orders → List Denoted → List Denoted → Type 0
Paired o fs gs = (f : Denoted) → In f fs → (g : Denoted) × In g gs × IsFit (order_of o f) × (is_one o f g ≡ true)

module _ (o : Orders) (which : Order) (fit : IsFit (in_order o which)) (fs gs : List Denoted) (there : Paired o fs gs) (back : Paired o gs fs) where
  twinned : (xs ys : List Denoted) → Paired o xs ys → (order : List ℕ) → Rearranged (in_order o which) order
      → Twinned (with_order o which order) (permanent (length o.variables) ++ xs) (permanent (length o.variables) ++ ys)
  twinned xs ys paired order h f i = elim (In-append f (permanent (length o.variables)) xs i) [
    | inl j ↦ (f, In-left f (permanent (length o.variables)) ys j, inl refl)
    | inr j ↦ (let g = paired f j in (
      g.0,
      In-right g.0 (permanent (length o.variables)) ys g.1,
      inr (fit_reordered o which order f h g.2, one_reordered o which order f g.0 h.as_long ∙ g.3),
    ))
  ]

  sizes_alike : (order : List ℕ) → Rearranged (in_order o which) order → (measure_of o which fs).size_of order ≡ (measure_of o which gs).size_of order
  sizes_alike order h =
      size_twinned (with_order o which order) (permanent (length o.variables) ++ fs) (permanent (length o.variables) ++ gs) (twinned fs gs there order h) (twinned gs fs back order h)

  widths_alike : (order : List ℕ) → Rearranged (in_order o which) order → (measure_of o which fs).width_of order ≡ (measure_of o which gs).width_of order
  widths_alike order h = everywhere ((measure_of o which fs).width_of order) ((measure_of o which gs).width_of order) (λ v.
      width_twinned (with_order o which order) which v (subst IsFit (sym (own_order o which order)) (fit_rearranged (in_order o which) order h fit))
      (permanent (length o.variables) ++ fs) (permanent (length o.variables) ++ gs) (twinned fs gs there order h) (twinned gs fs back order h))

  -- what a sift leaves, in any blocks
  pub sifted_same : (blocks : List Block) (limit : ℕ) → sifted o which blocks limit fs ≡ sifted o which blocks limit gs
  sifted_same blocks limit =
      let start = in_order o which in
      let m = measure_of o which fs in
      let k = measure_of o which gs in
      let same = sifted_alike m k start sizes_alike widths_alike limit blocks in
      let left : (r : Reached) (before after : ℕ) → SiftedOrder = λ r before after. record { order = r.order; before = before; after = after; swaps = r.swaps } in
      ap (λ n. left (sift_by m limit blocks start) n (m.size_of (sift_by m limit blocks start).order)) (sizes_alike start (as_it_is start))
      ∙ ap (left (sift_by m limit blocks start) (k.size_of start)) (sizes_alike (sift_by m limit blocks start).order same.1)
      ∙ ap (λ (r : Reached). left r (k.size_of start) (k.size_of r.order)) same.0
