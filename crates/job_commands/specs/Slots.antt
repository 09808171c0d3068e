-- Commands and lines as the code has them.
use Rattle.std.specs.Prelude.{List, [], ◌∷◌, ◌++◌, Option, Some, None}
use Rattle.job_commands.specs.declared.commands.Known.{Known}
use Rattle.job_commands.specs.declared.commands.Opcode.{Opcode}
use Rattle.job_commands.specs.declared.commands.Place.{Place}
use Rattle.job_commands.specs.declared.slots.Slot.{Slot}
use Rattle.job_commands.specs.declared.slots.Slots.{Slots}
use Rattle.job_commands.specs.declared.slots.Line.{Line}
use Rattle.job_words.specs.Text.{Word, split_words}
use Rattle.job_commands.specs.Commands.{Form, form}

-- a command of the reader's tables
abbrev pub form_of : Known → Form
form_of known = form known.word.now known.opcode known.places.now known.repeated.now

-- the places that are due, or those that repeat where none is left
abbrev pub or_again : List Place → List Place → List Place
or_again [] repeated = repeated
or_again (place ∷ due) repeated = place ∷ due

-- a place and its word
abbrev pub slot_of : Slot → Place × Word
slot_of slot = (slot.place, slot.word.now)

-- words at the places that are due and, behind the last, at those that repeat, as far as there are both
abbrev pub placed : List Place → List Place → List Word → List (Place × Word)
placed due repeated [] = []
placed [] [] (word ∷ words) = []
placed [] (place ∷ places) (word ∷ words) = (place, word) ∷ placed places (place ∷ places) words
placed (place ∷ places) repeated (word ∷ words) = (place, word) ∷ placed places repeated words

-- the place before the word of a command, with its word
abbrev pub slots_before : Option Slot → List (Place × Word)
slots_before None = []
slots_before (Some slot) = slot_of slot ∷ []

-- the places of a line with their words
abbrev pub slots_of : Slots → List (Place × Word)
slots_of slots = slots_before slots.first ++ placed slots.due.now slots.repeated.now (split_words slots.words.now)

-- what a line does, and its places with their words
abbrev pub line_of : Line → Opcode × List (Place × Word)
line_of line = (line.opcode, slots_of line.slots)
