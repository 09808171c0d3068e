-- The place of one of an order, and its block.
use Rattle.std.proofs.Common.{◌≡◌, ◌≢◌, ℕ, ◌+◌, ◌-◌, ◌<◌, ◌≤◌, inl, inr, Bool, true, false, cond, List, [], ◌∷◌, length, refl, sym, ap, ◌∙◌, arith}
use Rattle.std.specs.Prelude.{slice_index, nat_lt}
use Rattle.std.proofs.lemmas.Bool.{cases_eq}
use Rattle.std.proofs.lemmas.Bool.Decides.{nat_tests}
use Rattle.function_laws.specs.declared.orders.Order.{Order}
use Rattle.function_laws.specs.declared.orders.Order.TheVariants.{Variables, Elements}
use Rattle.function_laws.specs.Sizes.{in_order}
use Rattle.function_laws.specs.SiftedOrders.{Block, Bounds, bounds_from, place_of}
use Rattle.node_store.specs.Contents.{Content, IsSound, number_of, var_at}
use Rattle.group_sift.specs.Turns.{Rise, last_end}
use Rattle.group_sift.proofs.Settling.{order_is}

pub few_levels : (w : Content) → IsSound w → (o : Order) → length (in_order w.orders o) ≤ 16384
few_levels w sound Variables = sound.few_variables
few_levels w sound Elements = sound.few_elements

pub place_few : (w : Content) → IsSound w → (o : Order) (own : ℕ) → own < length (in_order w.orders o) → (place_of own (in_order w.orders o) < length (in_order w.orders o)) × (length (in_order w.orders o) ≤ 16384)
place_few w sound o own lt = ((order_is w sound o).stands own lt, few_levels w sound o)

pub number_once : (o : Order) (u v : ℕ) → number_of o u ≡ number_of o v → u ≡ v
number_once Variables u v e = e
number_once Elements u v e = omega (arith, e)

module _ (w now : Content) (sound : IsSound w) (o : Order) (own : ℕ) (lt : own < length (in_order w.orders o)) (level : ℕ) (same : in_order now.orders o ≡ in_order w.orders o)
    (le : level ≤ place_of own (in_order w.orders o)) (var number : ℕ) (var_is : var ≡ var_at now o level) (number_is : number ≡ number_of o own) where
  var_here : var ≡ number_of o (slice_index (in_order w.orders o) level)
  var_here = var_is ∙ ap (λ l. number_of o (slice_index l level)) same

  pub not_there : var ≢ number → level + 1 ≤ place_of own (in_order w.orders o)
  not_there ne = elim (cases_eq level (place_of own (in_order w.orders o))) [
    | inl e ↦ absurd (ne (var_here ∙ ap (λ k. number_of o (slice_index (in_order w.orders o) k)) e ∙ ap (number_of o) ((order_is w sound o).there own lt) ∙ sym number_is))
    | inr other ↦ omega (arith, le, other)
  ]

  pub is_there : var ≡ number → level ≡ place_of own (in_order w.orders o)
  is_there e =
      let h = place_few w sound o own lt in
      let at = h.0 in
      sym ((order_is w sound o).once level (omega (arith, le, at))) ∙ ap (λ v. place_of v (in_order w.orders o)) (number_once o (slice_index (in_order w.orders o) level) own (sym var_here ∙ e ∙ number_is))

pub at_least : (start : ℕ) (bs : List Block) → Rise start bs → start ≤ last_end start bs
at_least start [] h = omega arith
at_least start (b ∷ bs) h = let a = at_least b.end bs h.1 in let lt = h.0 in omega (arith, a, lt)

lt_from : (a b : ℕ) → nat_lt a b ≡ true → a < b
lt_from a b e = grind (arith, nat_tests)

le_from : (a b : ℕ) → nat_lt a b ≡ false → b ≤ a
le_from a b e = grind (arith, nat_tests)

abbrev bounds_here : ℕ → Block → Bounds
bounds_here start x = record { lo = start; hi = x.end - 1 }

pub bounds_within : (start : ℕ) (bs : List Block) (p long : ℕ) → Rise start bs → start ≤ p → p < long → last_end start bs ≤ long
    → ((bounds_from start bs p).lo ≤ p) × (p ≤ (bounds_from start bs p).hi) × ((bounds_from start bs p).hi < long)
bounds_within start [] p long h a b c = (omega arith, omega arith, b)
bounds_within start (x ∷ bs) p long h a b c = at (nat_lt p x.end) refl (λ le. bounds_within x.end bs p long h.1 le b c)
  where
    at : (t : Bool) → nat_lt p x.end ≡ t
        → (x.end ≤ p → ((bounds_from x.end bs p).lo ≤ p) × (p ≤ (bounds_from x.end bs p).hi) × ((bounds_from x.end bs p).hi < long))
        → ((cond t (bounds_here start x) (bounds_from x.end bs p)).lo ≤ p) × (p ≤ (cond t (bounds_here start x) (bounds_from x.end bs p)).hi) × ((cond t (bounds_here start x) (bounds_from x.end bs p)).hi < long)
    at true e rest = (a, (let lt = lt_from p x.end e in omega (arith, lt)), (let l = at_least x.end bs h.1 in let s = h.0 in omega (arith, l, c, s)))
    at false e rest = rest (le_from p x.end e)
