-- What is asked of a seat that tells of a refused operation.
use Rattle.std.specs.Prelude.{◌≡◌, ℕ, ◌&&◌, not, Bool, true, false, [], Some}
use Rattle.edge_bits.specs.declared.words.Word.{Word}
use Rattle.function_laws.specs.declared.history.Reply.{Reply}
use Rattle.function_laws.specs.declared.history.Reply.TheVariants.{Full}
use Rattle.step_store.specs.Knowing.{IsWanted}
use Rattle.words_rule.specs.declared.view.Telling.{Telling}
use Rattle.words_rule.specs.declared.view.View.{View}
use Rattle.words_rule.specs.Known.{Own, known_of}
use Rattle.words_rule.specs.Ordered.{is_ordering}

abbrev pub is_full : Reply → Bool
is_full (Full in_use need) = true
is_full reply = false

-- an operation is refused: a call that changes no order
abbrev pub is_refused : Telling → Bool
is_refused x = is_full x.reply && not (is_ordering x.call)

-- It has the free list in hand, and no slot is on it; and the turn of the level of a word that it wants, and that no slot has.
pub record MayRefuse (v : View) : Type 0 where
  pub free : v.hand.free ≡ Some []
  pub own : Own
  pub bits : ℕ
  pub word : Word
  pub wanted : IsWanted (known_of v own) bits word
