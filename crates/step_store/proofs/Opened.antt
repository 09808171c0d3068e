-- What is told of an edge's node, and what stays known under a key.
use Rattle.std.proofs.Common.{◌≡◌, ℕ, ◌+◌, ◌<◌, false, inl, sym, subst}
use Rattle.edge_bits.specs.declared.edges.Edge.{Edge}
use Rattle.edge_bits.specs.declared.edges.Kind.{Kind}
use Rattle.edge_bits.specs.declared.edges.Kind.TheVariants.{Bdd}
use Rattle.edge_bits.specs.declared.words.Word.{Word}
use Rattle.computed_cache.specs.declared.Key.{Key}
use Rattle.function_laws.specs.Kinds.{ValueOf, function_of}
use Rattle.node_store.specs.Contents.{opened_of}
use Rattle.node_store.specs.Memo.{MemoHolds}
use Rattle.node_store.specs.KindLaws.{flipped-some}
use Rattle.node_store.specs.Views.{View, Grown, Is, IsFunction, IsKey, IsProjection, IsVariable, Opens, values_at}
use Rattle.node_store.specs.ViewLaws.{Is-grown, values_at-grown}
use Rattle.node_store.proofs.MemoLaws.{Carries-grown, MemoHolds-carried}
use Rattle.step_store.specs.Knowing.{IsMet, Knowledge, Learns, Meets, Stands}

pub edge_met : (k : Knowledge) (e : Edge) → IsFunction k.view e → IsMet k e.index
edge_met k e f = let s = flipped-some e.complement (k.view.content e.index) (function_of f.0 (values_at f.0 k.view e)) f.1.is in inl (s.0, s.1)

pub edge_within : (k : Knowledge) (e : Edge) → Stands k → IsFunction k.view e → e.index < k.view.slots
edge_within k e stands f = let s = flipped-some e.complement (k.view.content e.index) (function_of f.0 (values_at f.0 k.view e)) f.1.is in stands.within e.index s.0 s.1

pub edge_opens : (old new : Knowledge) (s bits : ℕ) (word : Word) (e : Edge) → Learns old new → Meets new s bits word → e.index ≡ s → (k : Kind) → Is k old.view e → Opens k new.view e (values_at k old.view e) (opened_of word e.complement)
edge_opens old new s bits word e learns m at k is =
    subst (λ (f : ℕ → ValueOf k). Opens k new.view e f (opened_of word e.complement)) (values_at-grown k learns.kept.grown is) (m.opens e at k (Is-grown k learns.kept.grown is))

function_grown : (a b : View) (e : Edge) → Grown a b → IsFunction a e → IsFunction b e
function_grown a b e g f = (f.0, Is-grown f.0 g f.1)

pub key_grown : (a b : View) (key : Key) → Grown a b → IsKey a key → IsKey b key
key_grown a b key g is = record { least = is.least; most = is.most; f = function_grown a b key.f g is.f; g = function_grown a b key.g g is.g; h = function_grown a b key.h g is.h }

pub memo_grown : (a b : View) (key : Key) (e : Edge) → Grown a b → MemoHolds a key e → MemoHolds b key e
memo_grown a b key e g h = MemoHolds-carried (Carries-grown g) key e tt tt tt tt h

pub projects : (k : Knowledge) → Stands k → (v : ℕ) → IsVariable Bdd k.view v → (e : Edge) → e ≡ record { index = 5 + v; complement = false } → IsProjection k.view v e
projects k stands v is e at = subst (λ (x : Edge). IsProjection k.view v x) (sym at) (stands.projections v is.1)
