-- The part of the phase word: shares and holds, and which of them exclude each other.
use Rattle.std.specs.Prelude.{◌≡◌, ◌⊎◌, ℕ, suc, ◌+◌, ◌*◌, ◌/◌, ◌%◌, ◌<◌, ◌≤◌, List}
use mathlib.Core.Option.{some}
use lib.ListN.{get_elem?}
use Rattle.edge_bits.specs.declared.limits.TheConstants.{MOST_SESSIONS}
use Rattle.seat_guard.specs.declared.view.Share.{Share}
use Rattle.seat_guard.specs.declared.view.Share.TheVariants.{Nothing, Held, Owed}
use Rattle.seat_guard.specs.declared.view.Hold.{Hold}
use Rattle.seat_guard.specs.declared.view.Hold.TheVariants.{Free, Claimed, Holding}
use Rattle.seat_guard.specs.declared.view.Shares.{Shares}
use Rattle.seat_guard.specs.declared.view.View.{View}
use Rattle.seat_guard.specs.Allots.{parts_of}
use Rattle.seat_guard.specs.Totals.{total}

-- a share or its debt; a share; a bit that is claimed or held; a hold
abbrev pub weight : Share → ℕ
weight Nothing = 0
weight Held = 1
weight Owed = 1

abbrev pub share : Share → ℕ
share Nothing = 0
share Held = 1
share Owed = 0

abbrev pub bit : Hold → ℕ
bit Free = 0
bit Claimed = 1
bit Holding = 1

abbrev pub hold : Hold → ℕ
hold Free = 0
hold Claimed = 0
hold Holding = 1

-- what a view has of the phase word, and its parts of the sessions that there may be
pub record Footing : Type 0 where
  pub shares : Shares
  pub parts : ℕ

abbrev pub footing_of : View → Footing
footing_of v = record { shares = v.shares; parts = parts_of v.draws }

abbrev pub op_weight : Footing → ℕ
op_weight x = weight x.shares.op

abbrev pub op_share : Footing → ℕ
op_share x = share x.shares.op

abbrev pub walk_weight : Footing → ℕ
walk_weight x = weight x.shares.walk

abbrev pub walk_share : Footing → ℕ
walk_share x = share x.shares.walk

abbrev pub order_bit : Footing → ℕ
order_bit x = bit x.shares.order

abbrev pub order_hold : Footing → ℕ
order_hold x = hold x.shares.order

abbrev pub full_bit : Footing → ℕ
full_bit x = bit x.shares.full

abbrev pub full_hold : Footing → ℕ
full_hold x = hold x.shares.full

abbrev pub part : Footing → ℕ
part x = x.parts

-- Each field of the word is the number of views with that share or its debt, or with that bit. An order holder excludes operation shares, a full holder walk shares too, and only an order holder claims the full bit.
pub record Phase (n : ℕ) (xs : List Footing) : Type 0 where
  pub most : total part xs ≤ MOST_SESSIONS
  pub small : (i : ℕ) (x : Footing) → get_elem? xs i ≡ some x → (op_weight x ≤ x.parts) × (walk_weight x ≤ x.parts)
  pub fields : n ≡ total op_weight xs + 65536 * total walk_weight xs + 4294967296 * total order_bit xs + 8589934592 * total full_bit xs
  pub one : total order_bit xs ≤ 1
  pub within : (i : ℕ) (x : Footing) → get_elem? xs i ≡ some x → full_bit x ≤ order_hold x
  pub apart : 0 < total order_hold xs → total op_share xs ≡ 0
  pub apart_full : 0 < total full_hold xs → total walk_share xs ≡ 0

-- it has no share and no hold
abbrev pub HasNoShare : Shares → Type 0
HasNoShare x = (x.op ≡ Nothing) × (x.walk ≡ Nothing) × (x.order ≡ Free) × (x.full ≡ Free)

abbrev pub no_shares : Shares
no_shares = record { op = Nothing; walk = Nothing; order = Free; full = Free; looks = 0; noted = 0 }

-- what two seats never have at once: an operation share and the order, a walk share and the full hold, and the order twice
abbrev pub AreApart : Shares → Shares → Type 0
AreApart x y = ((x.op ≡ Held) × (y.order ≡ Holding)) ⊎ ((x.walk ≡ Held) × (y.full ≡ Holding)) ⊎ ((x.order ≡ Holding) × (y.order ≡ Holding))

-- a seat that would have an operation share and the order
abbrev pub crossed : View → View
crossed v = record v { shares = record v.shares { op = Held; order = Holding } }

-- after a step that looked at the word, which found n
abbrev pub saw : Shares → ℕ → Shares
saw x n = record x { looks = suc x.looks; noted = n }

-- after one that did not
abbrev pub passed : Shares → Shares
passed x = record x { looks = suc x.looks }

abbrev pub on : Footing → Shares → Footing
on x s = record x { shares = s }

-- the fields of a word
abbrev pub ops_of : ℕ → ℕ
ops_of n = n % 65536

abbrev pub walks_of : ℕ → ℕ
walks_of n = n / 65536 % 65536

abbrev pub order_of : ℕ → ℕ
order_of n = n / 4294967296 % 2

abbrev pub full_of : ℕ → ℕ
full_of n = n / 8589934592 % 2
