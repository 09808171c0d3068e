-- What an edge denotes, as the whole list of a table of functions.
use Rattle.std.specs.Prelude.{ℕ, ◌^◌, ℤ, pos}
use Rattle.edge_bits.specs.declared.edges.Edge.{Edge}
use Rattle.edge_bits.specs.declared.edges.Kind.{Kind}
use Rattle.edge_bits.specs.declared.edges.Kind.TheVariants as kinds
use Rattle.edge_bits.specs.Words.{digit}
use Rattle.function_laws.specs.declared.history.Function.{Function}
use Rattle.function_laws.specs.declared.history.Function.TheVariants.{Bdd, Add, Zdd}
use Rattle.function_laws.specs.Kinds.{ValueOf}
use Rattle.function_laws.specs.Lists.{list_of}
use Rattle.node_store.specs.Views.{View, values_at}

-- the whole list of a function's values: for each assignment of the store's variables, or for each combination of its elements
abbrev pub listed : (k : Kind) → View → (ℕ → ValueOf k) → Function
listed kinds.Bdd w f = Bdd (list_of (2 ^ w.vars) f)
listed kinds.Add w f = Add (list_of (2 ^ w.vars) f)
listed kinds.Zdd w p = Zdd (list_of (2 ^ w.elements) p)

-- what an edge of this kind denotes, as a whole list
abbrev pub listed_at : Kind → View → Edge → Function
listed_at k w e = listed k w (values_at k w e)

-- a value as a number: of a truth value 0 or 1
abbrev pub number_of : (k : Kind) → ValueOf k → ℤ
number_of kinds.Bdd b = pos (digit b)
number_of kinds.Add z = z
number_of kinds.Zdd b = pos (digit b)
