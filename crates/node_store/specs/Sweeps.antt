-- What a sweep keeps, and how many slots that is.
use Rattle.std.specs.Prelude.{◌≡◌, ◌⊎◌, ℕ, Bool, true, List, [], ◌∷◌, ◌++◌, length, Option, Some, None}
use Rattle.std.specs.List.{filter, range_with_len}
use Rattle.edge_bits.specs.Reading.{IsReached as LeadsTo}
use Rattle.function_laws.specs.Kinds.{Denoted}
use Rattle.function_laws.specs.Sizes.{Orders, size, permanent}
use Rattle.node_store.specs.Contents.{Content, IsUsed, IsPermanent}

-- arcs lead to the slot from a permanent one or a root
abbrev pub IsStart : Content → (ℕ → Bool) → ℕ → Type 0
IsStart w is_root s = IsPermanent w s ⊎ (IsUsed w s × (is_root s ≡ true))

abbrev pub IsReached : Content → (ℕ → Bool) → ℕ → Type 0
IsReached w is_root s = (from : ℕ) × IsStart w is_root from × LeadsTo w.word from s

-- the functions of some slots, by rising slot
abbrev pub value_list : Option Denoted → List Denoted
value_list None = []
value_list (Some f) = f ∷ []

unfoldable pub functions_of : (ℕ → Option Denoted) → List ℕ → List Denoted
functions_of function [] = []
functions_of function (s ∷ ss) = value_list (function s) ++ functions_of function ss

abbrev pub root_functions : Content → (ℕ → Bool) → List Denoted
root_functions w is_root = functions_of w.function (filter is_root (range_with_len 0 w.limit))

-- the D of a set of functions under both orders, with the permanent functions
abbrev pub full_size : Orders → List Denoted → ℕ
full_size orders fs = size orders (permanent (length orders.variables) ++ fs)
