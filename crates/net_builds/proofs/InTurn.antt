-- Handovers in turn, from the first to the last.
use Rattle.std.proofs.Common.{◌≡◌, ℕ, ◌+◌, ◌-◌, ◌<◌, ◌≤◌, List, [], ◌∷◌, ◌++◌, length, Some, subst, arith}
use Rattle.std.specs.Prelude.{slice_get}
use Rattle.std.proofs.lemmas.Option.{same_Some}
use Rattle.net_builds.specs.Handings.{AreInTurn}
use Rattle.net_builds.specs.declared.handing.Handover.{Handover}

-- a handover above the last one comes behind all
turns_behind : (low : ℕ) (h : Handover) (hs : List Handover) (last next : Handover)
    → slice_get (h ∷ hs) (length hs) ≡ Some last → last.fetch < next.post → next.post < next.fetch
    → AreInTurn low (h ∷ hs) → AreInTurn low ((h ∷ hs) ++ next ∷ [])
turns_behind low h [] last next is above inside turns =
    (turns.0, turns.1, (subst (λ (one : Handover). one.fetch + 1 ≤ next.post) (same_Some last h cc) (omega (arith, above)), inside, tt))
turns_behind low h (g ∷ hs) last next is above inside turns = (turns.0, turns.1, turns_behind (h.fetch + 1) g hs last next is above inside turns.2)

pub turns_grow : (hs : List Handover) (last next : Handover) → slice_get hs (length hs - 1) ≡ Some last → last.fetch < next.post
    → AreInTurn 0 hs → AreInTurn 0 (next ∷ []) → AreInTurn 0 (hs ++ next ∷ [])
turns_grow [] last next is above turns one = one
turns_grow (h ∷ hs) last next is above turns one = turns_behind 0 h hs last next (subst (λ k. slice_get (h ∷ hs) k ≡ Some last) (omega arith) is) above one.1 turns
