-- The diagrams down which a walk goes.
use Rattle.std.specs.Prelude.{ℕ}
use Rattle.edge_bits.specs.declared.edges.Edge.{Edge}
use Rattle.edge_bits.specs.declared.edges.Kind.{Kind}
use Rattle.edge_bits.specs.declared.edges.Kind.TheVariants.{Bdd, Add, Zdd}
use Rattle.node_store.specs.Views.{View, Is}
use Rattle.dd_session.specs.Sessions.{Managed}

-- the kinds whose diagrams branch on variables
abbrev pub IsOnVariables : Kind → Type 0
IsOnVariables Bdd = Unit {0}
IsOnVariables Add = Unit {0}
IsOnVariables Zdd = ⊥

-- how many bits a function of the kind is of
abbrev pub bits_of : Kind → Managed → ℕ
bits_of Bdd m = m.vars
bits_of Add m = m.vars
bits_of Zdd m = m.elements

-- the edge is that of a diagram of this kind, which branches on variables
abbrev pub CanWalk : Kind → View → Edge → Type 0
CanWalk k w e = IsOnVariables k × Is k w e
