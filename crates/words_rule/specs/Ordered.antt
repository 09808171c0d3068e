-- The part of the orders: nobody but an order holder changes them, and where nobody holds the order they are those that the entries leave.
use Rattle.std.specs.Prelude.{◌≡◌, ℕ, Bool, true, false, List}
use mathlib.Core.Option.{some}
use lib.ListN.{get_elem?}
use Rattle.function_laws.specs.Sizes.{Orders}
use Rattle.function_laws.specs.declared.history.Call.{Call}
use Rattle.function_laws.specs.declared.history.Call.TheVariants as calls
use Rattle.words_rule.specs.declared.view.Hold.TheVariants.{Holding}
use Rattle.words_rule.specs.declared.view.Share.TheVariants as shares
use Rattle.words_rule.specs.declared.view.View.{View}
use Rattle.words_rule.specs.Views.{orders_of, told_orders}

-- who has an operation share knows the orders of the words
abbrev pub KnowsOrders : Orders → View → Type 0
KnowsOrders now v = v.shares.op ≡ shares.Held → orders_of v.known ≡ now

pub record Ordered (now told : Orders) (vs : List View) : Type 0 where
  pub settled : ((id : ℕ) (v : View) → get_elem? vs id ≡ some v → v.shares.order ≡ Holding → ⊥) → now ≡ told
  pub shared : (id : ℕ) (v : View) → get_elem? vs id ≡ some v → KnowsOrders now v
  pub held : (id : ℕ) (v : View) → get_elem? vs id ≡ some v → v.shares.order ≡ Holding → (orders_of v.known ≡ now) × (told_orders v.known ≡ told)

-- the call may change an order
abbrev pub is_ordering : Call → Bool
is_ordering (calls.Swap level) = true
is_ordering (calls.SwapElements level) = true
is_ordering (calls.Sift told) = true
is_ordering (calls.SiftElements told) = true
is_ordering (calls.AddVar) = true
is_ordering (calls.AddElement) = true
is_ordering call = false
