-- What the load of a count word tells, under the order hold.
use Rattle.std.specs.Prelude.{◌≡◌, ◌≢◌, ℕ, ◌<◌, ◌∷◌, Some}
use Rattle.atomic_table.specs.Table.{Me, Step}
use Rattle.function_laws.specs.declared.history.Function.{Function}
use Rattle.handle_count.specs.CountWords.{count_of}
use Rattle.words_rule.specs.declared.view.View.{View}
use Rattle.words_rule.specs.Shapes.{shape_in}
use Rattle.words_rule.specs.Layout.{count_at}
use Rattle.words_rule.specs.OneSession.{TellsOne}
use Rattle.words_rule.specs.Known.{noted_function}
use Rattle.words_rule.specs.Tallies.{refs, tally_of, times}

-- the function of a slot that was found counted is noted, and is what the seat noted of the slot
pub record IsAbove (k : ℕ) (v u : View) : Type 0 where
  pub function : Function
  pub is : u ≡ record v { counts = record v.counts { above = function ∷ v.counts.above } }
  pub same : (g : Function) → noted_function v.known.seen k ≡ Some g → function ≡ g

-- A count that is 0 is noted, and nothing that the seat has names the slot. One that is not tells what the slot denotes, unless the seat pinned it. Who noted it at 0 finds what it has of the slot itself.
pub record HasCounted (k n : ℕ) (v u : View) : Type 0 where
  pub none : n ≡ 0 → (refs k (tally_of v) ≡ 0) × (u ≡ record v { counts = record v.counts { zeros = k ∷ v.counts.zeros } })
  pub some : n ≢ 0 → times k v.counts.pins ≡ 0 → IsAbove k v u
  pub pinned : n ≢ 0 → times k v.counts.pins ≢ 0 → u ≡ v
  pub still : 0 < times k v.counts.zeros → n ≡ refs k (tally_of v)

module _ {S : Type 0} where
  -- of the slot k whose word it is
  abbrev pub count_loaded : Step S → Me S View → ℕ → Me S View → Type 0
  count_loaded st m n m' = (m'.0.draws ≡ m.0.draws) × (m'.1 ≡ m.1) × ((k : ℕ) → st.word ≡ count_at (shape_in m.0.draws) k → HasCounted k (count_of n) m.0 m'.0) × TellsOne st m n
