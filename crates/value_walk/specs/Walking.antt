-- The diagrams down which a walk goes.
use Rattle.edge_bits.specs.declared.edges.Edge.{Edge}
use Rattle.edge_bits.specs.declared.edges.Kind.{Kind}
use Rattle.edge_bits.specs.declared.edges.Kind.TheVariants.{Bdd, Add, Zdd}
use Rattle.node_store.specs.Views.{View, Is}

-- the kinds whose diagrams branch on variables
abbrev pub IsOnVariables : Kind → Type 0
IsOnVariables Bdd = Unit {0}
IsOnVariables Add = Unit {0}
IsOnVariables Zdd = ⊥

-- the edge is that of a diagram of this kind, which branches on variables
abbrev pub CanWalk : Kind → View → Edge → Type 0
CanWalk k w e = IsOnVariables k × Is k w e
