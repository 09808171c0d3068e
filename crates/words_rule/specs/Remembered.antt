-- The part of the computed table.
use Rattle.std.specs.Prelude.{◌≡◌, ◌≢◌, ℕ, ◌<◌, List, true, Some}
use Rattle.std.specs.Prelude as std
use mathlib.Core.Option.{Option, none, some}
use lib.ListN.{get_elem?}
use Rattle.computed_cache.specs.Entries.{places}
use Rattle.node_slots.specs.Stores.{AreRemembered}
use Rattle.node_store.specs.Views.{View}
use Rattle.words_rule.specs.declared.view.Hand.{Hand}

-- words with room for an answer, and each that is kept there holds
abbrev pub AreAnswers : View → List ℕ → Type 0
AreAnswers w words = (0 < places words) × AreRemembered w words

-- It is at home where its turn word is 0, and each entry that lies there holds then; one seat has it else.
pub record Remembered {S : Type 0} (memo : S → List ℕ) (w : View) (turn : ℕ) (home : Option (Option (std.Option S))) (hs : List Hand) : Type 0 where
  pub holder : Option ℕ
  pub at_home : turn ≡ 0 → (holder ≡ none) × (x : S) × (home ≡ some (some (Some x))) × AreAnswers w (memo x)
  pub held : (id : ℕ) (h : Hand) → get_elem? hs id ≡ some h → h.memo ≡ true → (holder ≡ some id) × (turn ≢ 0)
