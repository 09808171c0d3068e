-- What is kept while the lines of a text are read.
use Rattle.std.specs.Prelude.{◌≡◌, ℕ, suc, Bool, true, false, List, [], ◌∷◌, Option, Some, None, map}
use Rattle.std.specs.Global.{Vec}
use Rattle.std.specs.List.{flat_map, list_all}
use Rattle.blif_models.specs.Circuits.{Cover}
use Rattle.blif_models.specs.Models.{Item, Model, covered, latched, held}
use Rattle.blif_drafts.specs.OpenModels.{NamesPass}
use Rattle.blif_text.specs.Marks.{is_plain}
use Rattle.blif_text.specs.Statements.{Statement, inputs, latch, model, names, nothing, outputs, subckt}
use Rattle.blif_text.specs.Text.{Line, Word, words_of}
use Rattle.blif_wholes.specs.declared.bodies.CoverRows.{CoverRows}
use Rattle.blif_wholes.specs.Bodies.{AreRowsOf}
use Rattle.blif_net.specs.declared.covers.OpenCover.{OpenCover}
use Rattle.blif_net.specs.declared.faults.BlifError.{BlifError}
use Rattle.blif_net.specs.declared.faults.BlifError.TheVariants as errors
use Rattle.blif_net.specs.declared.faults.BlifStop.{BlifStop}
use Rattle.blif_net.specs.declared.faults.BlifStop.TheVariants as stops
use Rattle.blif_net.specs.declared.reading.Reading.{Reading}
use Rattle.blif_net.specs.Circuits.{Context, after_line, after_statement, at_start, behind, close}
use Rattle.blif_net.specs.Faults.{faulty_line, line_fault, open_fault}
use Rattle.blif_net.specs.ModelLines.{AreLeftBy}
use Rattle.blif_net.specs.OpenCovers.{IsOpenCoverOf, StopIs}

-- rows are kept for covers, one by one, and none for what else stands in a model
abbrev pub IsKept : Item → Option CoverRows → Type 0
IsKept (covered cover) (Some rows) = AreRowsOf cover rows
IsKept (latched one) None = Unit {0}
IsKept (held instance) None = Unit {0}
IsKept _ _ = ⊥

abbrev pub AreKept : List Item → List (Option CoverRows) → Type 0
AreKept [] [] = Unit {0}
AreKept (item ∷ items) (one ∷ others) = IsKept item one × AreKept items others
AreKept _ _ = ⊥

abbrev pub AreAllKept : List Model → List (Vec (Option CoverRows)) → Type 0
AreAllKept [] [] = Unit {0}
AreAllKept (first ∷ models) (one ∷ others) = AreKept first.items one.items × AreAllKept models others
AreAllKept _ _ = ⊥

abbrev pub IsOpenIn : Option Cover → Option OpenCover → Type 0
IsOpenIn None None = Unit {0}
IsOpenIn (Some cover) (Some one) = IsOpenCoverOf cover one
IsOpenIn _ _ = ⊥

-- the first model, where these are closed and this one goes on
abbrev pub main_of : List Model → Model → Model
main_of [] current = current
main_of (first ∷ models) current = first

-- for each output of a model the line on which it stands
abbrev pub output_lines : Model → List ℕ
output_lines one = flat_map (λ some. map (λ word. some.line) some.words) one.outputs

-- What is kept is what lines have left.
pub record IsLeft (c : Context) (one : Reading) : Type 0 where
  pub closed : AreAllKept c.closed one.closed.items
  pub rows : AreKept c.current.items one.rows.items
  pub cover : IsOpenIn c.cover one.cover
  pub outputs : one.outputs.items ≡ output_lines (main_of c.closed c.current)
  pub begun : one.begun ≡ c.begun
  pub ended : one.ended ≡ c.ended

-- So are the models, all lines of which are lower than this one, and no name of which has a `#`.
pub record IsReadingOf (line : ℕ) (c : Context) (one : Reading) : Type 0 where
  pub models : AreLeftBy line c one.models
  pub plain : NamesPass is_plain one.models
  pub left : IsLeft c one

-- The open cover was closed.
pub record Closes (old new : Reading) : Type 0 where
  pub models : new.models ≡ old.models
  pub left : (c : Context) → IsLeft c old → IsLeft (close c) new
  pub none : new.cover ≡ None

-- a line that says this may stand behind `.end`
abbrev pub follows_end : Statement → Bool
follows_end nothing = true
follows_end (model words) = true
follows_end statement = false

-- the words behind the first one, or all of a row
abbrev pub words_said : Statement → List Word
words_said (model words) = words
words_said (inputs words) = words
words_said (outputs words) = words
words_said (names words) = words
words_said (subckt words) = words
words_said (latch words) = words
words_said _ = []

abbrev pub ArePlainWords : List Word → Type 0
ArePlainWords words = list_all is_plain words ≡ true

-- A line was taken that says this, where `.end` didn't come or it may stand behind one.
pub record TakesStatement (old : Reading) (line : ℕ) (statement : Statement) (new : Reading) : Type 0 where
  pub faultless : (c : Context) → IsReadingOf line c old → open_fault c line statement ≡ None
  pub after : (c : Context) → ArePlainWords (words_said statement) → IsReadingOf line c old → IsReadingOf (suc line) (after_statement c line statement) new

-- or it was not, and why
abbrev pub StopsStatement : Reading → ℕ → Statement → BlifStop → Type 0
StopsStatement old line statement stop = (c : Context) → IsReadingOf line c old → StopIs (open_fault c line statement) stop

-- A line was taken.
pub record TakesLine (old : Reading) (line : Line) (new : Reading) : Type 0 where
  pub faultless : (c : Context) → IsReadingOf line.number c old → line_fault c line ≡ None
  pub after : (c : Context) → ArePlainWords (words_of line.bytes) → IsReadingOf line.number c old → IsReadingOf (suc line.number) (after_line c line) new

-- or it was not, and why
abbrev pub StopsLine : Reading → Line → BlifStop → Type 0
StopsLine old line stop = (c : Context) → IsReadingOf line.number c old → StopIs (line_fault c line) stop

-- What was read are these lines, none of which is faulty; the next line has this number at least.
pub record IsReadFrom (lines : List Line) (number : ℕ) (one : Reading) : Type 0 where
  pub faultless : faulty_line at_start lines ≡ None
  pub reading : IsReadingOf number (behind at_start lines) one

-- why a text is not that of a network of which a line was not taken
abbrev pub stopped_at : ℕ → BlifStop → BlifError
stopped_at line stops.Memory = errors.Memory
stopped_at line (stops.Fault kind) = errors.Fault (record { line = line; what = kind })

-- All lines were read, none of which is faulty, and no cover is open any more.
pub record IsReadWhole (lines : List Line) (one : Reading) : Type 0 where
  pub faultless : faulty_line at_start lines ≡ None
  pub number : ℕ
  pub reading : IsReadingOf number (close (behind at_start lines)) one
