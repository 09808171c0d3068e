use Rattle.std.proofs.Common.{◌≡◌, map, take, ℕ}
use Rattle.std.specs.Global.{Vec}
use Rattle.blif_dump.specs.Calls.{names_in}
use Rattle.blif_dump.specs.Names.{called}
use Rattle.blif_dump.specs.Naming.{naming_in}
use Rattle.blif_dump.proofs.writer.words_of.Given as goal

abbrev pub invariant-loop-name : goal.invariant-loop-name
invariant-loop-name l = map (λ (word : Vec ℕ). word.items) l.words.items ≡ map (called (naming_in l.naming)) (names_in (take l.name-index l.names))
