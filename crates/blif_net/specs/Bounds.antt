-- What each network of a text keeps to.
use Rattle.std.specs.Prelude.{ℕ, List}
use Rattle.cover_nets.specs.declared.net.Net.{Net}
use Rattle.cover_nets.specs.Bounds.{IsBounded}
use Rattle.blif_net.specs.Networks.{IsBlifText}

abbrev pub NetworksAreBounded : Type 0
NetworksAreBounded = (text : List ℕ) (net : Net) → IsBlifText text net → IsBounded net
