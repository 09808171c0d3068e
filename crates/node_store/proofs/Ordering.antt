-- Variable numbers and their places in the orders.
use Rattle.std.proofs.Common.{◌≡◌, ℕ, zero, suc, ◌+◌, ◌<◌, ◌≤◌, ◌⊎◌, inl, inr, Bool, true, false, cond, List, [], ◌∷◌, length, eqb, eqb-true, refl, ap, ◌∙◌, subst, arith}
use Rattle.std.specs.Prelude.{slice_index, ◌==◌}
use Rattle.std.proofs.lemmas.Bool.{lt-ltb, le-ltb}
use Rattle.edge_bits.specs.Reading.{element_of}
use Rattle.edge_bits.specs.declared.edges.Kind.{Kind}
use Rattle.edge_bits.specs.declared.edges.Kind.TheVariants.{Bdd, Add, Zdd}
use Rattle.edge_bits.specs.Permanent.{first_element}
use Rattle.function_laws.specs.Kinds.{Denoted, ValueOf, function_of}
use Rattle.node_store.specs.Views.{IsVariable}
use Rattle.function_laws.specs.Sizes.{Orders, order_of}
use Rattle.function_laws.specs.SiftedOrders.{place_of}
use Rattle.function_laws.proofs.DistinctLemmas.{In}
use Rattle.function_laws.proofs.LackingParts.{Free, own}
use Rattle.function_laws.proofs.PartLaws.{Above}
use Rattle.node_store.specs.Contents.{Content, IsSound, IsOrder, level_of, view_of}

abbrev pub order_at : Kind → Orders → List ℕ
order_at Bdd o = o.variables
order_at Add o = o.variables
order_at Zdd o = o.elements

-- the variable number of a kind, from how its order has it
abbrev pub name_of : Kind → ℕ → ℕ
name_of Bdd u = u
name_of Add u = u
name_of Zdd e = first_element + e

pub order_of-kind : (o : Orders) (k : Kind) (f : ℕ → ValueOf k) → order_of o (function_of k f) ≡ order_at k o
order_of-kind o Bdd f = refl
order_of-kind o Add f = refl
order_of-kind o Zdd f = refl

own_element : (v : ℕ) → element_of (first_element + v) ≡ v
own_element v = omega arith

pub own-name : (k : Kind) (u : ℕ) → own k (name_of k u) ≡ u
own-name Bdd u = refl
own-name Add u = refl
own-name Zdd u = own_element u

variable_level : (o : Orders) (v : ℕ) → v < first_element → level_of o v ≡ place_of v o.variables
variable_level o v lt = rw (lt-ltb v first_element lt) refl

element_level : (o : Orders) (v : ℕ) → first_element ≤ v → level_of o v ≡ place_of (element_of v) o.elements
element_level o v le = rw (le-ltb v first_element le) refl

pub level-own : (k : Kind) (w : Content) (v : ℕ) → IsVariable k (view_of w) v → level_of w.orders v ≡ place_of (own k v) (order_at k w.orders)
level-own Bdd w v h = variable_level w.orders v h.0
level-own Add w v h = variable_level w.orders v h.0
level-own Zdd w v h = element_level w.orders v h.0

pub own-within : (k : Kind) (w : Content) (v : ℕ) → IsVariable k (view_of w) v → own k v < length (order_at k w.orders)
own-within Bdd w v h = h.1
own-within Add w v h = h.1
own-within Zdd w v h = let a = h.0 in let b = h.1 in omega arith

module _ (w : Content) (sound : IsSound w) where
  pub orders_are : (k : Kind) → IsOrder (order_at k w.orders)
  orders_are Bdd = sound.variables
  orders_are Add = sound.variables
  orders_are Zdd = sound.elements

  pub IsVariable-name : (k : Kind) (u : ℕ) → u < length (order_at k w.orders) → IsVariable k (view_of w) (name_of k u)
  IsVariable-name Bdd u lt = let f = sound.few_variables in (omega arith, lt)
  IsVariable-name Add u lt = let f = sound.few_variables in (omega arith, lt)
  IsVariable-name Zdd u lt = (omega arith, omega arith)

  pub level-name : (k : Kind) (u : ℕ) → u < length (order_at k w.orders) → level_of w.orders (name_of k u) ≡ place_of u (order_at k w.orders)
  level-name k u lt = level-own k w (name_of k u) (IsVariable-name k u lt) ∙ ap (λ x. place_of x (order_at k w.orders)) (own-name k u)

pub In-slice : (xs : List ℕ) (j : ℕ) → j < length xs → In (slice_index xs j) xs
In-slice [] j lt = absurd (omega arith)
In-slice (x ∷ xs) zero lt = inl refl
In-slice (x ∷ xs) (suc j) lt = inr (In-slice xs j (omega arith))

-- each of the order stands in it
pub In-order : (order : List ℕ) → IsOrder order → (v : ℕ) → v < length order → In v order
In-order order o v lt = subst (λ x. In x order) (o.there v lt) (In-slice order (place_of v order) (o.stands v lt))

module _ (v : ℕ) (f : Denoted) where
  -- free of all that stand before v
  pub above_from : (us : List ℕ) → ((j : ℕ) → j < place_of v us → Free f (slice_index us j)) → Above Free us v f
  above_from [] free = tt
  above_from (u ∷ us) free = by_head (eqb u v) refl (above_from us)
    where
      by_head : (b : Bool) → (u == v) ≡ b → (((j : ℕ) → j < place_of v us → Free f (slice_index us j)) → Above Free us v f)
          → (u ≡ v) ⊎ (Free f u × Above Free us v f)
      by_head true e rest = inl (eqb-true u v e)
      by_head false e rest =
          let place : place_of v (u ∷ us) ≡ suc (place_of v us) = ap (λ b. cond b 0 (suc (place_of v us))) e in
          inr (free 0 (omega (arith, place)), rest (λ j lt. free (suc j) (omega (arith, place))))
