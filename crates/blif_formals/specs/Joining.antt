-- What an instance joins to the formal names of its model, by number.
use Rattle.std.specs.Prelude.{◌≡◌, ℕ, Bool, true, false, not, ◌&&◌, List, [], ◌∷◌, ◌++◌, get_or, nat_lt, if◌then◌else◌}
use Rattle.std.specs.List.{list_all}
use Rattle.blif_order.specs.Orders.{is_in}
use Rattle.blif_formals.specs.declared.interface.Interface.{Interface}
use Rattle.blif_formals.specs.declared.interface.Port.{Port}
use Rattle.blif_formals.specs.declared.interface.Port.TheVariants as ports

-- no number twice
abbrev pub is_once : List ℕ → Bool
is_once [] = true
is_once (n ∷ ns) = not (is_in ns n) && is_once ns

-- the port of a name: what is an input and an output is an input
abbrev pub port_among : List ℕ → List ℕ → ℕ → Port
port_among inputs outputs n = if is_in inputs n then ports.Input else if is_in outputs n then ports.Output else ports.Inner

abbrev pub port_of : List Port → ℕ → Port
port_of all n = get_or all n ports.Inner

abbrev pub is_formal : Port → Bool
is_formal ports.Inner = false
is_formal _ = true

abbrev pub is_input : Port → Bool
is_input ports.Input = true
is_input _ = false

-- The interface has the port of each name, and each input once.
pub record IsInterface (interface : Interface) : Type 0 where
  pub ports_are : (n : ℕ) → port_of interface.ports.items n ≡ port_among interface.inputs interface.outputs n
  pub once : is_once interface.inputs ≡ true

-- each of these is a formal name, none is joined twice, and each input is joined
abbrev pub joins_well : List ℕ → List ℕ → List ℕ → Bool
joins_well inputs outputs formals = list_all (is_in (inputs ++ outputs)) formals && is_once formals && list_all (is_in formals) inputs

-- each is lower than the next
abbrev pub is_rising : List ℕ → Bool
is_rising [] = true
is_rising (n ∷ []) = true
is_rising (n ∷ m ∷ ns) = nat_lt n m && is_rising (m ∷ ns)
