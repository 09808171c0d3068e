-- The turn of each worker, whose share the next output is of.
use Rattle.std.proofs.Common.{◌≡◌, ℕ, zero, suc, ◌+◌, ◌%◌, ◌/◌, ◌<◌, ◌≤◌, ◌++◌, Bool, List, [], ◌∷◌, length, map, get_or, take, Some, refl, ap, sym, ◌∙◌, subst, arith, All}
use Rattle.std.specs.Prelude.{slice_get}
use Rattle.std.proofs.lemmas.List.{length-map, take_more}
use Rattle.std.proofs.lemmas.List.Elements.{All-cons, All-head, All-nil, All-tail}
use Rattle.std.proofs.lemmas.Option.{none-some, same_Some, slice_get-get_or, slice_get_within}
use native.Mathlib.Nat.{mod-eq_of_lt, mod-lt}
use Rattle.edge_bits.specs.declared.limits.TheConstants.{MOST_ROWS}
use Rattle.function_laws.specs.declared.history.Name.{Name}
use Rattle.net_builds.specs.Handings.{AreInTurn, Gathers, Gives, HandsOne, PairsFrom}
use Rattle.net_builds.specs.Outputs.{HasShare, share}
use Rattle.net_builds.specs.Shares.{HaveShares, IsLiveAt, MayGather}
use Rattle.net_builds.specs.Signals.{AllHold}
use Rattle.net_builds.specs.Standings.{HasRoom, Holds, IsLive, Standing}
use Rattle.net_builds.specs.declared.handing.Handover.{Handover}
use Rattle.net_builds.specs.declared.sharing.Share.{Share}
use Rattle.net_builds.proofs.Built.{as_many_held}
use Rattle.net_builds.proofs.Gathering.{gathers_more}
use Rattle.net_builds.proofs.Pairs.{from_partner}
use Rattle.net_builds.proofs.ShareLemmas.{share_at}
use Rattle.net_builds.proofs.Slices.{there_is}
use Rattle.net_builds.proofs.StandingLemmas.{holds_live, kept_live}

hold_at : (s : Standing) (ws : List (ℕ → Bool)) (names : List Name) (q : ℕ) (w : ℕ → Bool) (d : Name) → AllHold s ws names → slice_get ws q ≡ Some w → Holds s (get_or names q d) w
hold_at s [] names q w d hold at = absurd (none-some w at)
hold_at s (v ∷ ws) [] q w d hold at = absurd hold
hold_at s (v ∷ ws) (name ∷ names) zero w d hold at = subst (Holds s name) (same_Some v w at) hold.0
hold_at s (v ∷ ws) (name ∷ names) (suc q) w d hold at = hold_at s ws names q w d hold.1 at

module _ {F : Type 0} (workers : ℕ) (wanted : List (ℕ → Bool)) where
  pub have_long : (k : ℕ) (sessions : List Standing) (shares : List (Share F)) → HaveShares workers wanted k sessions shares → length shares ≡ length sessions
  have_long k [] [] have = refl
  have_long k [] (one ∷ shares) have = absurd have
  have_long k (s ∷ sessions) [] have = absurd have
  have_long k (s ∷ sessions) (one ∷ shares) have = omega (arith, have_long (suc k) sessions shares have.1)

  have_at : (k : ℕ) (sessions : List Standing) (shares : List (Share F)) (i : ℕ) (s : Standing) (d : Share F) → HaveShares workers wanted k sessions shares → slice_get sessions i ≡ Some s
      → HasShare (share (k + i) workers wanted) s (get_or shares i d).outputs
  have_at k [] shares i s d have at = absurd (none-some s at)
  have_at k (x ∷ sessions) [] i s d have at = absurd have
  have_at k (x ∷ sessions) (one ∷ shares) zero s d have at =
      subst (λ j. HasShare (share j workers wanted) s one.outputs) (let same : k ≡ k + 0 = omega arith in same) (subst (λ y. HasShare (share k workers wanted) y one.outputs) (same_Some x s at) have.0)
  have_at k (x ∷ sessions) (one ∷ shares) (suc i) s d have at =
      subst (λ j. HasShare (share j workers wanted) s (get_or shares i d).outputs) (let same : suc k + i ≡ k + suc i = omega arith in same) (have_at (suc k) sessions shares i s d have.1 at)

  -- the name of an output, in the session whose turn it is
  module _ (sessions : List Standing) (shares : List (Share F)) (have : HaveShares workers wanted 0 sessions shares) (some : 0 < workers) where
    pub turn_holds : (i : ℕ) (s : Standing) (w : ℕ → Bool) (d : Share F) (e : Name) → slice_get sessions (i % workers) ≡ Some s → slice_get wanted i ≡ Some w
        → Holds s (get_or (get_or shares (i % workers) d).outputs.names.items (i / workers) e) w
    turn_holds i s w d e at is =
        hold_at s (share (0 + i % workers) workers wanted) (get_or shares (i % workers) d).outputs.names.items (i / workers) w e (have_at 0 sessions shares (i % workers) s d have at).holds
        (ap (λ k. slice_get (share k workers wanted) (i / workers)) (let same : 0 + i % workers ≡ i % workers = omega arith in same) ∙ share_at workers i wanted some ∙ is)

    -- it is there
    pub turn_within : (i : ℕ) (s : Standing) (w : ℕ → Bool) (d : Share F) → slice_get sessions (i % workers) ≡ Some s → slice_get wanted i ≡ Some w
        → i / workers < length (get_or shares (i % workers) d).outputs.names.items
    turn_within i s w d at is =
        let same : 0 + i % workers ≡ i % workers = omega arith in
        let there : slice_get (share (0 + i % workers) workers wanted) (i / workers) ≡ Some w = ap (λ k. slice_get (share k workers wanted) (i / workers)) same ∙ share_at workers i wanted some ∙ is in
        omega (
          arith,
          slice_get_within (share (0 + i % workers) workers wanted) (i / workers) w there,
          as_many_held s (share (0 + i % workers) workers wanted) (get_or shares (i % workers) d).outputs.names.items (have_at 0 sessions shares (i % workers) s d have at).holds,
        )

-- sessions that gave have room, where there is some for all that is fetched
pub room_left : (cell most : ℕ) (hs : List Handover) (k : ℕ) (old new : List Standing) → length hs ≤ most → PairsFrom (Gives cell hs (length hs)) k old new → All (λ (s : Standing). s.rows + most < MOST_ROWS) old → All HasRoom new
room_left cell most hs k [] [] few pairs room = All-nil HasRoom
room_left cell most hs k [] (b ∷ new) few pairs room = absurd pairs
room_left cell most hs k (a ∷ old) [] few pairs room = absurd pairs
room_left cell most hs zero (a ∷ old) (b ∷ new) few pairs room =
    All-cons HasRoom b new (omega (arith, pairs.0.rows, few, All-head (λ (s : Standing). s.rows + most < MOST_ROWS) a old room))
    (room_left cell most hs 1 old new few pairs.1 (All-tail (λ (s : Standing). s.rows + most < MOST_ROWS) a old room))
room_left cell most hs (suc k) (a ∷ old) (b ∷ new) few pairs room =
    All-cons HasRoom b new (omega (arith, pairs.0.rows, All-head (λ (s : Standing). s.rows + most < MOST_ROWS) a old room))
    (room_left cell most hs (suc (suc k)) old new few pairs.1 (All-tail (λ (s : Standing). s.rows + most < MOST_ROWS) a old room))

-- a name that was held is live still
pub live_given : (cell : ℕ) (hs : List Handover) (old new : List Standing) (i : ℕ) (name : Name) → PairsFrom (Gives cell hs (length hs)) 0 old new → IsLiveAt old i name → IsLiveAt new i name
live_given cell hs old new i name pairs live s at =
    let was = from_partner (Gives cell hs (length hs)) 0 old new i s pairs at in
    kept_live was.0 s name was.2.gains.more was.2.kept (live was.0 was.1)

-- one output more
pub gathers_next : (cell : ℕ) (wanted : List (ℕ → Bool)) (workers : ℕ) {old : List Standing} → workers ≡ length old → (now new : List Standing) (hs all : List Handover) (i : ℕ) (no_function : ℕ → Bool) (name : Name) (h : Handover) → i < length wanted
    → Gathers cell (take i wanted) old now hs → HandsOne cell (i % workers) now new name h → length hs ≡ i
    → ((s : Standing) → slice_get old (i % workers) ≡ Some s → Holds s name (get_or wanted i no_function)) → AreInTurn 0 (hs ++ h ∷ []) → all ≡ hs ++ h ∷ [] → Gathers cell (take (i + 1) wanted) old new all
gathers_next cell wanted workers {old = old} as_many now new hs all i no_function name h within so_far one many holds turns is =
    subst (Gathers cell (take (i + 1) wanted) old new) (sym is)
    (subst (λ (ws : List (ℕ → Bool)). Gathers cell ws old new (hs ++ h ∷ [])) (sym (take_more wanted i no_function within))
    (gathers_more cell old now new (take i wanted) hs (i % workers) name (get_or wanted i no_function) h so_far one
    (λ k less e. e ∙ many ∙ sym (mod-eq_of_lt (subst (λ j. j < workers) (e ∙ many) (omega (arith, less, as_many))))) holds turns))

-- Sessions of a manager, which have their shares.
module _ {M S F : Type 0} (has : M → S → Type 0) (standing : S → Standing) (manager : M) (sessions : List S) (wanted : List (ℕ → Bool)) (shares : List (Share F)) (may : MayGather has standing manager sessions wanted shares) where
  abbrev workers : ℕ
  workers = length sessions

  pub some_sessions : 0 < workers
  some_sessions = omega (arith, may.any)

  pub as_many_shares : length shares ≡ workers
  as_many_shares = have_long workers wanted 0 (map standing sessions) shares may.has_shares ∙ length-map sessions standing

  -- the share and the name whose turn it is
  module _ (i : ℕ) where
    pub within_shares : i % workers < length shares
    within_shares = omega (arith, as_many_shares, mod-lt i some_sessions)

    session_there : (s : Standing) × (slice_get (map standing sessions) (i % workers) ≡ Some s)
    session_there = there_is (map standing sessions) (i % workers) (omega (arith, mod-lt i some_sessions, length-map sessions standing))

    module _ (d : Share F) (no_function : ℕ → Bool) (within : i < length wanted) where
      abbrev one : Share F
      one = get_or shares (i % workers) d

      wanted_there : slice_get wanted i ≡ Some (get_or wanted i no_function)
      wanted_there = slice_get-get_or wanted i no_function within

      pub within_names : i / workers < length one.outputs.names.items
      within_names = turn_within workers wanted (map standing sessions) shares may.has_shares some_sessions i session_there.0 (get_or wanted i no_function) d session_there.1 wanted_there

      pub holds_turn : (e : Name) (s : Standing) → slice_get (map standing sessions) (i % workers) ≡ Some s → Holds s (get_or one.outputs.names.items (i / workers) e) (get_or wanted i no_function)
      holds_turn e s at = turn_holds workers wanted (map standing sessions) shares may.has_shares some_sessions i s (get_or wanted i no_function) d e at wanted_there

  -- the first name of the first share
  module _ (d : Share F) where
    pub first_within : 0 < length (get_or shares 0 d).outputs.names.items
    first_within = by (map standing sessions) shares wanted may.has_shares (λ none. may.any (sym (length-map sessions standing) ∙ none)) may.some
      where
        by : (xs : List Standing) (ys : List (Share F)) (ws : List (ℕ → Bool)) → HaveShares workers ws 0 xs ys → (length xs ≡ 0 → ⊥) → (length ws ≡ 0 → ⊥) → 0 < length (get_or ys 0 d).outputs.names.items
        by [] ys ws have any some = absurd (any refl)
        by (x ∷ xs) [] ws have any some = absurd have
        by (x ∷ xs) (y ∷ ys) [] have any some = absurd (some refl)
        by (x ∷ xs) (y ∷ ys) (w ∷ ws) have any some = (let many = as_many_held x (share 0 workers (w ∷ ws)) y.outputs.names.items have.0.holds in omega (arith, many))

    pub first_live : (e : Name) → IsLiveAt (map standing sessions) 0 (get_or (get_or shares 0 d).outputs.names.items 0 e)
    first_live e = by (map standing sessions) shares wanted may.has_shares may.some
      where
        by : (xs : List Standing) (ys : List (Share F)) (ws : List (ℕ → Bool)) → HaveShares workers ws 0 xs ys → (length ws ≡ 0 → ⊥) → IsLiveAt xs 0 (get_or (get_or ys 0 d).outputs.names.items 0 e)
        by [] ys ws have some s at = absurd (none-some s at)
        by (x ∷ xs) [] ws have some s at = absurd have
        by (x ∷ xs) (y ∷ ys) [] have some s at = absurd (some refl)
        by (x ∷ xs) (y ∷ ys) (w ∷ ws) have some s at =
            let holds = hold_at x (share 0 workers (w ∷ ws)) y.outputs.names.items 0 w e have.0.holds refl in
            subst (λ t. IsLive t (get_or y.outputs.names.items 0 e)) (same_Some x s at) (holds_live x (get_or y.outputs.names.items 0 e) w holds)
