-- Shares and holds that two seats never have at once.
use Rattle.std.specs.Prelude.{◌≡◌, ◌⊎◌, ℕ}
use Rattle.atomic_table.specs.Table.{Me, Step}
use Rattle.words_rule.specs.declared.view.Hold.TheVariants.{Holding}
use Rattle.words_rule.specs.declared.view.Share.TheVariants.{Held}
use Rattle.words_rule.specs.declared.view.Shares.{Shares}
use Rattle.words_rule.specs.declared.view.View.{View}

-- an operation share and the order, a walk share and the full hold, and the order twice
abbrev pub AreApart : Shares → Shares → Type 0
AreApart x y = ((x.op ≡ Held) × (y.order ≡ Holding)) ⊎ ((x.walk ≡ Held) × (y.full ≡ Holding)) ⊎ ((x.order ≡ Holding) × (y.order ≡ Holding))

-- a seat that would have an operation share and the order
abbrev pub crossed : View → View
crossed v = record v { shares = record v.shares { op = Held; order = Holding } }

module _ {S : Type 0} where
  abbrev pub never : Step S → Me S View → ℕ → Me S View → Type 0
  never st m n m' = ⊥
