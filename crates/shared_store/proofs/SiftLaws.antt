-- What all sessions hold lasts through a sift.
use Rattle.std.proofs.Common.{◌≡◌, ℕ, zero, suc, ◌==◌, ◌<◌, Bool, true, false, not, List, length, refl, ap, sym, ◌∙◌, arith, ne_eqb}
use Rattle.function_laws.specs.declared.orders.Order.{Order}
use Rattle.function_laws.specs.declared.orders.Order.TheVariants.{Variables, Elements}
use Rattle.function_laws.specs.SiftedOrders.{Block, with_order, sifted as sifting}
use Rattle.function_laws.specs.Sizes.{Orders}
use Rattle.node_store.specs.Contents.{Content}
use Rattle.node_store.specs.Sweeps.{root_functions}
use Rattle.node_slots.specs.Held.{Alone, Held as Holding, held_view}
use Rattle.node_slots.specs.Stores.{Plain, IsStore, count_at, generation_at, is_held}
use Rattle.node_slots.specs.Wholes.{content_view}
use Rattle.group_sift.specs.declared.sifting.Sifted.{Sifted}
use Rattle.group_sift.specs.Sifts.{IsIdle, IsSifted}
use Rattle.shared_store.specs.declared.shared.Shared.{Shared}
use Rattle.shared_store.specs.Lasting.{Lasts}
use Rattle.shared_store.specs.Sharing.{orders, view_of}
use Rattle.shared_store.specs.Sifting.{sifted_of}
use Rattle.shared_store.proofs.Handed.{handed_back, left_idle, not_sweeping, unpinned}
use Rattle.shared_store.proofs.Keeping.{IsHeldIn-same}

-- a store that is handed over for it is idle
pub idle_of : (p : Plain) → is_held p ≡ false → IsIdle (content_view p)
idle_of p idle = record { sweeping = not_sweeping p idle; half = refl; unpinned = unpinned p idle }

-- what its holder did, of the store as it was given back
pub sifted_back : (p q : Plain) (before after : Holding) (order : Order) (blocks : List Block) (sifted : Sifted) → held_view before ≡ content_view p → q ≡ after.plain → IsSifted Alone order blocks (held_view before) (held_view after) sifted
    → IsSifted Alone order blocks (content_view p) (content_view q) sifted
sifted_back p q before after order blocks sifted same back is = handed_back (λ x y. IsSifted Alone order blocks x y sifted) p q before after same is.idle.half back is

as_many_variables : (order : Order) (blocks : List Block) (old new : Content) (sifted : Sifted) → IsSifted Alone order blocks old new sifted → length new.orders.variables ≡ length old.orders.variables
as_many_variables Variables blocks old new sifted is = is.as_many
as_many_variables Elements blocks old new sifted is = ap (λ (o : Orders). length o.variables) is.orders

as_many_elements : (order : Order) (blocks : List Block) (old new : Content) (sifted : Sifted) → IsSifted Alone order blocks old new sifted → length new.orders.elements ≡ length old.orders.elements
as_many_elements Variables blocks old new sifted is = ap (λ (o : Orders). length o.elements) is.orders
as_many_elements Elements blocks old new sifted is = is.as_many

module _ (order : Order) (blocks : List Block) (old new : Content) (sifted : Sifted) (is : IsSifted Alone order blocks old new sifted) where
  -- a slot was read as counted exactly where it is, since nobody counts meanwhile
  pub counted-root : (s : ℕ) → 0 < old.count s → is.is_root s ≡ true
  counted-root s some = by (is.is_root s) refl
    where
      by : (b : Bool) → is.is_root s ≡ b → is.is_root s ≡ true
      by true root = root
      by false none = absurd (let z = is.zero_after s none in let c = ap (λ (f : ℕ → ℕ). f s) is.counts in omega (arith, z, c, some))

  -- what was read as counted
  pub roots-counted : is.is_root ≡ (λ s. not (old.count s == 0))
  roots-counted = λ i s. (by s (old.count s) refl) i
    where
      by : (s n : ℕ) → old.count s ≡ n → is.is_root s ≡ not (old.count s == 0)
      by s zero e = is.zero_before s e ∙ ap (λ k. not (k == 0)) (sym e)
      by s (suc n) e = counted-root s (omega (arith, e)) ∙ sym (ap not (ne_eqb (old.count s) 0 (λ z. omega (arith, e, z))))

-- the order that is left
pub orders-sifted : (x : Shared) (q : Plain) (order : Order) (blocks : List Block) (sifted : Sifted) → IsSifted Alone order blocks (content_view x.store) (content_view q) sifted → (content_view q).orders ≡ with_order (orders x) order (sifted_of order blocks x).order
orders-sifted x q order blocks sifted is =
    is.orders ∙ ap (λ (p : ℕ → Bool). with_order (orders x) order (sifting (orders x) order blocks (content_view x.store).limit (root_functions (content_view x.store) p)).order) (roots-counted order blocks (content_view x.store) (content_view q) sifted is)

module _ (x y : Shared) (of : IsStore x.store) (of' : IsStore y.store) (order : Order) (blocks : List Block) (sifted : Sifted)
    (is : IsSifted Alone order blocks (content_view x.store) (content_view y.store) sifted) where
  vars : (view_of y).vars ≡ (view_of x).vars
  vars = sym of'.variables_stand.as_many ∙ as_many_variables order blocks (content_view x.store) (content_view y.store) sifted is ∙ of.variables_stand.as_many

  elements : (view_of y).elements ≡ (view_of x).elements
  elements = sym of'.elements_stand.as_many ∙ as_many_elements order blocks (content_view x.store) (content_view y.store) sifted is ∙ of.elements_stand.as_many

  pub lasts-sifted : y.cells.items ≡ x.cells.items → Lasts x y
  lasts-sifted cells = record {
    held = λ h some held. IsHeldIn-same (view_of x) (view_of y) h
        (record { vars = vars; elements = elements; content = is.function h.edge.index (counted-root order blocks (content_view x.store) (content_view y.store) sifted is h.edge.index some) }) held;
    cells = cells;
    counts_are = λ i. (vars i, elements i, is.limit i);
  }

-- each slot that is held keeps its generation
pub generations-sifted : (p q : Plain) (order : Order) (blocks : List Block) (sifted : Sifted) → IsSifted Alone order blocks (content_view p) (content_view q) sifted → (k : ℕ) → 0 < count_at p k → generation_at q k ≡ generation_at p k
generations-sifted p q order blocks sifted is k some = is.generation k (counted-root order blocks (content_view p) (content_view q) sifted is k some)

-- no sweep is on after it, and nothing is pinned
pub idle-sifted : (p q : Plain) (order : Order) (blocks : List Block) (sifted : Sifted) → IsSifted Alone order blocks (content_view p) (content_view q) sifted → is_held p ≡ false → is_held q ≡ false
idle-sifted p q order blocks sifted is idle = left_idle p q idle is.idle.sweeping (λ i s. (is.idle.unpinned s ∙ sym (unpinned p idle s)) i)
