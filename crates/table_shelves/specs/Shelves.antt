-- What lies in the slots of a table, as the rule of its words sees it.
use Rattle.std.specs.Prelude.{ℕ, List, [], Option}
use Rattle.free_list.specs.FreeSlots.{FreeSlots}
use Rattle.table_shelves.specs.declared.shelf.TableShelf.{TableShelf}
use Rattle.table_shelves.specs.declared.shelf.TableShelf.TheVariants.{Board, Free, Answers}
use Rattle.words_rule.specs.declared.cell.Cell.{Cell}

abbrev pub board_of : TableShelf → List (Option Cell)
board_of (Board board) = board
board_of shelf = []

abbrev pub free_of : TableShelf → FreeSlots
free_of (Free shelf) = shelf.list
free_of shelf = record { slots = []; room = 0 }

abbrev pub memo_of : TableShelf → List ℕ
memo_of (Answers memo) = memo
memo_of shelf = []
