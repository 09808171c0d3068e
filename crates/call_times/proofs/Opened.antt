-- The sessions that a manager opens, and the kind of a row.
use Rattle.std.proofs.Common.{◌≡◌, ℕ, zero, suc, [], ◌∷◌, refl, sym, subst, ◌∙◌}
use Rattle.std.specs.List.{All}
use Rattle.std.proofs.lemmas.List.Elements.{All-append, All-cons, All-nil}
use Rattle.edge_bits.specs.declared.edges.Kind.{Kind}
use Rattle.function_laws.specs.declared.history.Name.{Name}
use Rattle.dd_session.specs.Sessions.{IsLive, IsLiveAs}
use Rattle.dd_session.specs.Managing.{Managed, Seen, newcomer, newcomers}

-- a session of the manager
abbrev pub IsOf : Managed → Seen → Type 0
IsOf m s = s.manager ≡ m

pub opened_own : (m : Managed) (n : ℕ) → All (IsOf m) (newcomers m n)
opened_own m zero = All-nil (IsOf m)
opened_own m (suc n) = All-append (IsOf m) (newcomers m n) (newcomer m n ∷ []) (opened_own m n) (All-cons (IsOf m) (newcomer m n) [] refl (All-nil (IsOf m)))

-- a live row is of the kind that it is told to be of
pub live_as_told : (s : Seen) (h : Name) (told k : Kind) → IsLive s h → ((j : Kind) → IsLiveAs j s h → told ≡ j) → told ≡ k → IsLiveAs k s h
live_as_told s h told k live is same = subst (λ (j : Kind). IsLiveAs j s h) (sym (is live.0 live.1) ∙ same) live.1
