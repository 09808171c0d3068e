-- The sessions of a manager, and the kind of a row.
use Rattle.std.proofs.Common.{◌≡◌, ℕ, zero, suc, ◌<◌, [], ◌∷◌, refl, sym, subst, ◌∙◌, arith}
use Rattle.std.specs.List.{All}
use Rattle.std.proofs.lemmas.List.Elements.{All-append, All-cons, All-nil}
use mathlib.Core.Option.{some}
use lib.ListN.{get_elem?}
use Rattle.edge_bits.specs.declared.edges.Kind.{Kind}
use Rattle.function_laws.specs.declared.history.Name.{Name}
use Rattle.dd_session.specs.Sessions.{IsLive, IsLiveAs}
use Rattle.dd_session.specs.Managing.{AreAll, Managed, Seen, newcomer, newcomers}

abbrev pub IsOf : Managed → Seen → Type 0
IsOf m s = s.manager ≡ m

-- each session that a manager opens is its own
pub opened_own : (m : Managed) (n : ℕ) → All (IsOf m) (newcomers m n)
opened_own m zero = All-nil (IsOf m)
opened_own m (suc n) = All-append (IsOf m) (newcomers m n) (newcomer m n ∷ []) (opened_own m n) (All-cons (IsOf m) (newcomer m n) [] refl (All-nil (IsOf m)))

-- both sessions of a manager of two
pub two_are_all : (m : Managed) (a b : Seen) → a.manager ≡ m → b.manager ≡ m → a.number ≡ 0 → b.number ≡ 1 → m.sessions ≡ 2 → AreAll m (a ∷ b ∷ [])
two_are_all m a b of_a of_b is_a is_b two = record {
  own = All-cons (IsOf m) a (b ∷ []) of_a (All-cons (IsOf m) b [] of_b (All-nil (IsOf m)));
  as_many = sym two;
  covered = cover;
}
  where
    cover : (p : ℕ) → p < m.sessions → (k : ℕ) × (s : Seen) × (get_elem? (a ∷ b ∷ []) k ≡ some s) × (s.number ≡ p)
    cover zero l = (0, a, refl, is_a)
    cover (suc zero) l = (1, b, refl, is_b)
    cover (suc (suc p)) l = absurd (omega (arith, l, two))

-- a live row is of the kind that it is told to be of
pub live_as_told : (s : Seen) (h : Name) (told k : Kind) → IsLive s h → ((j : Kind) → IsLiveAs j s h → told ≡ j) → told ≡ k → IsLiveAs k s h
live_as_told s h told k live is same = subst (λ (j : Kind). IsLiveAs j s h) (sym (is live.0 live.1) ∙ same) live.1
