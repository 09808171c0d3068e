-- What a full holder notes of the swap that it makes.
use Rattle.std.specs.Prelude.{Option, option_map}
use Rattle.node_store.specs.Contents.{Pair}
use Rattle.words_rule.specs.declared.view.Known.{Known}
use Rattle.words_rule.specs.declared.view.Neighbours.{Neighbours}

abbrev pub pair_of : Neighbours → Pair
pair_of n = record { upper = n.upper; lower = n.lower }

-- the two variables whose swap may be half made
abbrev pub half_in : Known → Option Pair
half_in k = option_map pair_of k.half
