-- The one session of a manager that makes a stored diagram, as it was lent and as it is left.
use Rattle.std.proofs.Common.{◌≡◌, ℕ, Bool, List, [], ◌∷◌, length, map, get_or, All, refl, ap, arith}
use Rattle.std.specs.Prelude.{slice_set}
use Rattle.std.proofs.lemmas.List.Elements.{All-cons, All-head, All-nil}
use Rattle.diagram_dumps.specs.declared.dump.Dump.{Dump}
use Rattle.dd_session.specs.declared.answers.Full.{Full}
use Rattle.dd_session.specs.Sessions.{variables_in}
use Rattle.dd_session.specs.Managing.{Managed, Seen}
use Rattle.net_builds.specs.declared.host.HostRefusal.{HostRefusal}
use Rattle.net_builds.specs.Builds.{AreUnsifted}
use Rattle.net_builds.specs.Loads.{Loads}
use Rattle.net_builds.specs.Outputs.{IsRefused}
use Rattle.net_builds.specs.Standings.{Standing}
use Rattle.net_jobs.specs.Hosts.{IsSessionOf, TellsFullOf, standing_of}
use Rattle.net_jobs.specs.Networks.{IsFreshOf, IsLoadedIn, IsRefusedIn}
use Rattle.net_jobs.proofs.BuiltHistories.{fresh_again, known_vars}

pub lent : (m : Managed) (n : ℕ) (sessions : List Seen) (d : Seen) → length sessions ≡ 1 → All (IsFreshOf m) sessions → m.vars ≡ n
    → IsSessionOf m (get_or sessions 0 d) × (variables_in (get_or sessions 0 d) ≡ n) × (length (get_or sessions 0 d).rows ≡ 0)
lent m n [] d one fresh vars = absurd (let k = one in omega (arith, k))
lent m n (a ∷ rest) d one fresh vars =
    let is : IsFreshOf m a = All-head (IsFreshOf m) a rest fresh in (record { own = is.0; none_added = is.2 }, known_vars m a n is.0 is.2 vars, ap length is.1)

pub fresh_set : (m : Managed) (sessions : List Seen) (s : Seen) → length sessions ≡ 1 → IsSessionOf m s → length s.rows ≡ 0 → All (IsFreshOf m) (slice_set sessions 0 s)
fresh_set m [] s one own none = absurd (let n = one in omega (arith, n))
fresh_set m (a ∷ []) s one own none =
    fresh_again m (s ∷ []) (All-cons (IsSessionOf m) s [] own (All-nil (IsSessionOf m))) (All-cons (λ (t : Standing). t.rows ≡ 0) (standing_of s) [] none (All-nil (λ (t : Standing). t.rows ≡ 0)))
fresh_set m (a ∷ b ∷ rest) s one own none = absurd (let n = one in omega (arith, n))

pub refused_one : (cell : ℕ) (m : Managed) (sessions : List Seen) (s d : Seen) (refusal : HostRefusal Full) → length sessions ≡ 1
    → IsRefused (TellsFullOf m) cell (standing_of (get_or sessions 0 d)) (standing_of s) refusal → IsRefusedIn cell m sessions (slice_set sessions 0 s) refusal
refused_one cell m [] s d refusal one refused = absurd (let n = one in omega (arith, n))
refused_one cell m (a ∷ []) s d refusal one refused = record { before = a; after = s; old_is = refl; new_is = refl; refused = refused }
refused_one cell m (a ∷ b ∷ rest) s d refusal one refused = absurd (let n = one in omega (arith, n))

pub loaded_one : (dump : Dump) (patterns : List (List Bool)) (sessions : List Seen) (s d : Seen) (text : List ℕ) → length sessions ≡ 1
    → Loads dump patterns (standing_of (get_or sessions 0 d)) (standing_of s) text → IsLoadedIn dump patterns sessions (slice_set sessions 0 s) text
loaded_one dump patterns [] s d text one loads = absurd (let n = one in omega (arith, n))
loaded_one dump patterns (a ∷ []) s d text one loads = record { before = a; after = s; old_is = refl; new_is = refl; loads = loads }
loaded_one dump patterns (a ∷ b ∷ rest) s d text one loads = absurd (let n = one in omega (arith, n))

pub unsifted_one : (sessions : List Seen) (s d : Seen) → length sessions ≡ 1 → AreUnsifted (standing_of (get_or sessions 0 d) ∷ []) (standing_of s ∷ []) → AreUnsifted (map standing_of sessions) (map standing_of (slice_set sessions 0 s))
unsifted_one [] s d one is = absurd (let n = one in omega (arith, n))
unsifted_one (a ∷ []) s d one is = is
unsifted_one (a ∷ b ∷ rest) s d one is = absurd (let n = one in omega (arith, n))
