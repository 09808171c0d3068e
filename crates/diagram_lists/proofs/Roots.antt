-- One root more.
use Rattle.std.proofs.Common.{◌≡◌, ℕ, ◌≤◌, List, [], ◌∷◌, ◌++◌, ℤ, map, nat_abs, refl, sym, ap, ◌∙◌, subst}
use Rattle.std.specs.Prelude.{All}
use Rattle.std.proofs.lemmas.List.Elements.{All-head, All-tail}
use Rattle.edge_bits.specs.declared.edges.Edge.{Edge}
use Rattle.diagram_dumps.specs.declared.dump.Dump.{Dump}
use Rattle.diagram_dumps.specs.WellMade.{Numbers, NumbersAll}
use Rattle.diagram_lists.specs.Walks.{index_of, number}
use Rattle.diagram_lists.proofs.Numberings.{same_index}

-- a walk from one root more
pub further : (dump : Dump) (from : ℕ) (roots : List ℤ) (root : ℤ) (middle to : ℕ) → NumbersAll dump from roots middle → Numbers dump middle (nat_abs root) to
    → NumbersAll dump from (roots ++ root ∷ []) to
further dump from [] root middle to same last = (to, subst (λ f. Numbers dump f (nat_abs root) to) (sym same) last, refl)
further dump from (first ∷ roots) root middle to (reached, leads, rest) last = (reached, leads, further dump reached roots root middle to rest last)

-- edges whose slots have numbers keep their indices
pub same_indices : (old new : List ℕ) → ((s : ℕ) → 1 ≤ number old s → number new s ≡ number old s) → (edges : List Edge) → All (λ e. 1 ≤ number old e.index) edges
    → map (index_of new) edges ≡ map (index_of old) edges
same_indices old new kept [] have = refl
same_indices old new kept (e ∷ edges) have =
    ap (λ i. i ∷ map (index_of new) edges) (same_index old new e (kept e.index (All-head (λ (e : Edge). 1 ≤ number old e.index) e edges have)))
    ∙ ap (λ t. index_of old e ∷ t) (same_indices old new kept edges (All-tail (λ (e : Edge). 1 ≤ number old e.index) e edges have))
