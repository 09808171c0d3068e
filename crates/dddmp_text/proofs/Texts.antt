-- A node line, part by part.
use Rattle.std.proofs.Common.{◌≡◌, ℕ, List, [], ◌∷◌, ◌++◌, append_assoc}
use Rattle.std.proofs.lemmas.List.{append-nil}
use Rattle.dddmp_text.specs.Written.{item}

joined : (before index var internal hi lo end : List ℕ)
    → ((before ++ (index ++ var)) ++ (internal ++ hi)) ++ (lo ++ end) ≡ before ++ ((index ++ (var ++ (internal ++ (hi ++ (lo ++ []))))) ++ end)
joined before index var internal hi lo end = simp (append_assoc, append-nil)

pub node_text : (before index var internal hi lo : List ℕ)
    → ((before ++ (index ++ 32 ∷ var)) ++ (32 ∷ internal ++ 32 ∷ hi)) ++ (32 ∷ lo ++ 10 ∷ []) ≡ before ++ item index (var ∷ internal ∷ hi ∷ lo ∷ [])
node_text before index var internal hi lo = joined before index (32 ∷ var) (32 ∷ internal) (32 ∷ hi) (32 ∷ lo) (10 ∷ [])
