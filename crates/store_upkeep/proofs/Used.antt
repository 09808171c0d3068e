-- What is held or denotes something has a word.
use Rattle.std.proofs.Common.{◌≡◌, ℕ, ◌<◌, Some, None, sym, ◌∙◌, arith}
use Rattle.edge_bits.specs.declared.edges.Edge.{Edge}
use Rattle.function_laws.specs.Kinds.{function_of}
use Rattle.node_store.specs.Contents.{IsSound}
use Rattle.node_store.specs.KindLaws.{flipped-some}
use Rattle.node_store.specs.Views.{IsFunction, values_at}
use Rattle.node_slots.specs.Stores.{Plain, content_of, count_at, plain_view, slots}
use Rattle.node_slots.specs.Wholes.{content_view}

pub counted_used : (p : Plain) → IsSound (content_view p) → (s : ℕ) → 0 < count_at p s → slots p s ≡ None → ⊥
counted_used p sound s some free = let z = sound.uncounted s free in omega (arith, z, some)

pub function_used : (p : Plain) → IsSound (content_view p) → (e : Edge) → IsFunction (plain_view p) e → slots p e.index ≡ None → ⊥
function_used p sound e is free =
    let s = flipped-some e.complement (content_of p e.index) (function_of is.0 (values_at is.0 (plain_view p) e)) is.1.is in
    let u = sound.used e.index s.0 s.1 in
    let none : None ≡ Some u.0 = sym free ∙ u.1 in cc
