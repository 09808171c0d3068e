-- What a seat knows of the nodes under its share or hold: words in use stay under an operation share, and all words under the order hold but for its own steps.
use Rattle.std.specs.Prelude.{◌≡◌, ◌⊎◌, ℕ, List, None}
use Rattle.std.specs.Prelude as std
use mathlib.Core.Option.{some}
use lib.ListN.{get_elem?}
use Rattle.edge_bits.specs.Words.{unpack_of}
use Rattle.function_laws.specs.Kinds.{Denoted}
use Rattle.function_laws.specs.SessionEntries.{Each}
use Rattle.words_rule.specs.declared.view.SeenWord.{SeenWord}
use Rattle.words_rule.specs.declared.view.Share.TheVariants as shares
use Rattle.words_rule.specs.declared.view.Hold.TheVariants.{Holding}
use Rattle.words_rule.specs.declared.view.View.{View}
use Rattle.words_rule.specs.Layout.{Shape}
use Rattle.words_rule.specs.Kept.{IsHeldBy}

abbrev pub HasShare : View → Type 0
HasShare v = (v.shares.op ≡ shares.Held) ⊎ (v.shares.order ≡ Holding)

-- a word that is of no use may be noted under the order hold alone
abbrev pub StandsSo : (ℕ → ℕ) → View → SeenWord → Type 0
StandsSo node v note = (node note.slot ≡ note.bits) × (unpack_of note.bits ≡ None → v.shares.order ≡ Holding)

-- what slots denote stays under a walk share too
abbrev pub KeepsSlots : View → Type 0
KeepsSlots v = HasShare v ⊎ (v.shares.walk ≡ shares.Held)

pub record IsSeen (z : Shape) (node : ℕ → ℕ) (function : ℕ → std.Option Denoted) (v : View) : Type 0 where
  pub words : HasShare v → Each (StandsSo node v) v.known.words
  pub held : KeepsSlots v → Each (IsHeldBy z function) v.known.seen

abbrev pub AreSeen : Shape → (ℕ → ℕ) → (ℕ → std.Option Denoted) → List View → Type 0
AreSeen z node function vs = (id : ℕ) (v : View) → get_elem? vs id ≡ some v → IsSeen z node function v
