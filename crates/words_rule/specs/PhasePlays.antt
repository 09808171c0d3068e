-- What steps on the phase word tell.
use Rattle.std.specs.Prelude.{◌≡◌, ◌≢◌, ◌<◌, ◌≤◌, ℕ, List, [], None, Some}
use Rattle.atomic_table.specs.Table.{Me, Step}
use Rattle.edge_bits.specs.Permanent.{base_slot}
use Rattle.function_laws.specs.Families.{base}
use Rattle.function_laws.specs.Kinds.{ZddFamily}
use Rattle.function_laws.specs.SessionEntries.{Each}
use Rattle.step_store.specs.Knowing.{Stands}
use Rattle.words_rule.specs.declared.view.Hold.TheVariants.{Free, Claimed, Holding}
use Rattle.words_rule.specs.declared.view.Known.{Known}
use Rattle.words_rule.specs.declared.view.Row.{Row}
use Rattle.words_rule.specs.declared.view.Share.TheVariants.{Nothing, Held, Owed}
use Rattle.words_rule.specs.declared.view.Shares.{Shares}
use Rattle.words_rule.specs.declared.view.View.{View}
use Rattle.words_rule.specs.Shapes.{shape_in}
use Rattle.words_rule.specs.Phase.{claims, order_of, ops_of, walks_of, with_op, with_walk, with_order, with_full}
use Rattle.words_rule.specs.Kept.{IsHeldBy}
use Rattle.words_rule.specs.Known.{Own, known_of, noted_content}
use Rattle.words_rule.specs.Loads.{IsInside, sees_of}

-- what it noted of nodes goes
abbrev pub forgetting : View → View
forgetting v = record v { known = record v.known { words = []; seen = [] } }

-- it knows that no swap is half made, and no order word is due
abbrev pub unswapped : Known → Known
unswapped k = record k { half = None; pending = [] }

-- A seat that took an operation share: it knows the slots that are told by their number, the projections, and what its rows' edges denote.
pub record HasEntered (v u : View) (x : Shares) : Type 0 where
  pub draws : u.draws ≡ v.draws
  pub counts : u.counts ≡ v.counts
  pub hand : u.hand ≡ v.hand
  pub work : u.work ≡ v.work
  pub stored : u.stored ≡ v.stored
  pub shares : u.shares ≡ x
  pub stands : (o : Own) → o.fulls < 18446744073709551616 → Stands (known_of u o)
  pub rows : Each (λ (row : Row). IsHeldBy (shape_in v.draws) (noted_content u).function row.held) v.draws.rows

-- A seat that took a walk share: it knows the family of nothing but the combination of nothing, and what its rows' edges denote.
pub record HasSetOut (v u : View) (x : Shares) : Type 0 where
  pub draws : u.draws ≡ v.draws
  pub counts : u.counts ≡ v.counts
  pub hand : u.hand ≡ v.hand
  pub work : u.work ≡ v.work
  pub stored : u.stored ≡ v.stored
  pub shares : u.shares ≡ x
  pub stands : (sees_of u).content base_slot ≡ Some (ZddFamily base)
  pub inside : IsInside u
  pub rows : Each (λ (row : Row). IsHeldBy (shape_in v.draws) (sees_of u).content row.held) v.draws.rows

module _ {S : Type 0} where
  -- only the shares change, and to these
  abbrev pub IsWith : Me S View → Shares → Me S View → Type 0
  IsWith m x m' = m' ≡ (record m.0 { shares = x }, m.1)

  -- an operation share is held where the word before had neither bit, else it is owed
  abbrev pub op_entered : Step S → Me S View → ℕ → Me S View → Type 0
  op_entered st m n m' = (m'.1 ≡ m.1) × (n < 4294967296 → HasEntered m.0 m'.0 (with_op m.0.shares Held n)) × (4294967296 ≤ n → IsWith m (with_op m.0.shares Owed n) m')

  -- An operation share is held beside both bits, which are claims from then on. What was noted of counts under the holds goes.
  abbrev pub op_kept : Step S → Me S View → ℕ → Me S View → Type 0
  op_kept st m n m' = (m'.1 ≡ m.1) × HasEntered (record m.0 { counts = record m.0.counts { zeros = []; above = [] } }) m'.0 (with_op (claims m.0.shares) Held n)

  abbrev pub op_left : Step S → Me S View → ℕ → Me S View → Type 0
  op_left st m n m' = m' ≡ (forgetting (record m.0 { shares = with_op m.0.shares Nothing n }), m.1)

  -- a walk share is held where the word before had not the full bit, else it is owed
  abbrev pub walk_entered : Step S → Me S View → ℕ → Me S View → Type 0
  walk_entered st m n m' = (m'.1 ≡ m.1) × (n < 8589934592 → HasSetOut m.0 m'.0 (with_walk m.0.shares Held n)) × (8589934592 ≤ n → IsWith m (with_walk m.0.shares Owed n) m')

  abbrev pub walk_left : Step S → Me S View → ℕ → Me S View → Type 0
  walk_left st m n m' = m' ≡ (forgetting (record m.0 { shares = with_walk m.0.shares Nothing n }), m.1)

  -- the order bit is claimed if it was clear
  abbrev pub order_claimed : Step S → Me S View → ℕ → Me S View → Type 0
  order_claimed st m n m' = (order_of n ≡ 0 → IsWith m (with_order m.0.shares Claimed n) m') × (order_of n ≢ 0 → m' ≡ m)

  -- the claim becomes a hold once a load finds no operation share; the seat knows both orders then
  abbrev pub order_looked : Step S → Me S View → ℕ → Me S View → Type 0
  order_looked st m n m' =
      (ops_of n ≡ 0 → (variables elements : List ℕ)
      × (m' ≡ (record m.0 { shares = with_order m.0.shares Holding n; known = record m.0.known { variable_order = variables; element_order = elements; told_variables = variables; told_elements = elements; words = []; seen = []; ages = [] } }, m.1)))
      × (ops_of n ≢ 0 → m' ≡ m)

  -- a claim is taken back
  abbrev pub order_unclaimed : Step S → Me S View → ℕ → Me S View → Type 0
  order_unclaimed st m n m' = IsWith m (with_order m.0.shares Free n) m'

  -- the hold is given up, and what was noted of counts and nodes under it goes
  abbrev pub order_left : Step S → Me S View → ℕ → Me S View → Type 0
  order_left st m n m' = m' ≡ (forgetting (record m.0 { shares = with_order m.0.shares Free n; counts = record m.0.counts { zeros = []; above = [] } }), m.1)

  -- the holder of the order claims the full bit; the claim becomes a hold once a load finds no walk share; it is taken back
  abbrev pub full_claimed : Step S → Me S View → ℕ → Me S View → Type 0
  full_claimed st m n m' = IsWith m (with_full m.0.shares Claimed n) m'

  abbrev pub full_looked : Step S → Me S View → ℕ → Me S View → Type 0
  full_looked st m n m' = (walks_of n ≡ 0 → m' ≡ (record m.0 { shares = with_full m.0.shares Holding n; known = unswapped m.0.known }, m.1)) × (walks_of n ≢ 0 → m' ≡ m)

  abbrev pub full_unclaimed : Step S → Me S View → ℕ → Me S View → Type 0
  full_unclaimed st m n m' = IsWith m (with_full m.0.shares Free n) m'

  -- the hold is given up
  abbrev pub full_left : Step S → Me S View → ℕ → Me S View → Type 0
  full_left st m n m' = IsWith m (with_full m.0.shares Free n) m'
