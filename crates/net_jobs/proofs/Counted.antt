-- Where as many names are live as there are rows, they are all.
use Rattle.std.proofs.Common.{◌≡◌, inl, inr, suc, ◌<◌, ◌≤◌, Bool, true, false, cond, List, [], ◌∷◌, length, map, slice_index_or, All, Contains, Some, refl, ap, sym, arith}
use Rattle.std.proofs.lemmas.List.{length-map}
use Rattle.std.proofs.lemmas.List.Elements.{All-contains, All-map}
use Rattle.function_laws.specs.declared.history.Function.{Function}
use Rattle.function_laws.specs.declared.history.Function.TheVariants.{Bdd}
use Rattle.function_laws.specs.declared.history.Name.{Name}
use Rattle.function_laws.specs.Tables.{same_name}
use Rattle.function_laws.proofs.DistinctLemmas.{In, In-without, length-without, without}
use Rattle.seat_guard.specs.declared.view.Row.{Row}
use Rattle.seat_guard.specs.Views.{stands_for}
use Rattle.dd_session.specs.Sessions.{Seen, kind_of}
use Rattle.dd_session.proofs.Naming.{same_name-eq}
use Rattle.dd_session.proofs.SessionLaws.{live_now}
use Rattle.net_builds.specs.Holdings.{AreRising, IsCounted}
use Rattle.net_builds.specs.Standings.{IsLive}
use Rattle.net_jobs.specs.Hosts.{standing_of}

contained : (names : List Name) (name : Name) → In name names → Contains names name
contained [] name among = absurd among
contained (n ∷ names) name (inl is) = (0, omega arith, sym is)
contained (n ∷ names) name (inr among) = let r = contained names name among in (suc r.0, omega (arith, r.1), r.2)

-- names in rising order, each among others that are no more than they are: so they are these
all_met : (names others : List Name) → AreRising names → ((name : Name) → In name names → In name others) → length others ≤ length names → (name : Name) → In name others → In name names
all_met [] [] rising among few name at = absurd at
all_met [] (o ∷ others) rising among few name at = absurd (omega (arith, few))
all_met (n ∷ names) others rising among few name at =
    let here = among n (inl refl) in
    let shorter = length-without n others here in
    let beside : (other : Name) → In other names → In other (without n others here) = λ other later.
    elim (In-without n other others here (among other (inr later))) [
      | inl same ↦ absurd (apart other later same)
      | inr there ↦ there
    ]
    in
    elim (In-without n name others here at) [
      | inl same ↦ inl same
      | inr there ↦ inr (all_met names (without n others here) rising.1 beside (omega (arith, shorter, few)) name there)
    ]
  where
    apart : (other : Name) → In other names → other ≡ n → ⊥
    apart other later same =
        let less = All-contains (λ (x : Name). n.generation < x.generation) names other rising.0 (contained names other later) in
        let equal = ap (λ (x : Name). x.generation) same in omega (arith, less, equal)

abbrev name_of : Row → Name
name_of row = row.name

-- a name that stands for something is that of a row
row_named : (rows : List Row) (name : Name) (f : Function) → stands_for rows name ≡ Some f → In name (map name_of rows)
row_named [] name f is = cc
row_named (row ∷ rows) name f is = by (same_name name row.name) refl is (row_named rows name f)
  where
    by : (b : Bool) → same_name name row.name ≡ b → cond b (Some row.held.function) (stands_for rows name) ≡ Some f → (stands_for rows name ≡ Some f → In name (map name_of rows)) → In name (map name_of (row ∷ rows))
    by true same is later = inl (same_name-eq name row.name same)
    by false same is later = inr (later is)

pub is_counted : (s : Seen) → IsCounted (standing_of s)
is_counted s = λ names rising live rows name f is.
    contained names name
    (all_met names (map name_of s.rows) rising
    (λ other at. let held = All-contains (IsLive (standing_of s)) names other live (contained names other at) in
    let row = live_now (kind_of (Bdd held.0)) s other (Bdd held.0) held.1 refl in row_named s.rows other row.0 row.1)
    (let long = length-map s.rows name_of in omega (arith, long, rows)) name
    (let row = live_now (kind_of f) s name f is refl in row_named s.rows name row.0 row.1))

pub all_counted : (sessions : List Seen) → All IsCounted (map standing_of sessions)
all_counted sessions = All-map IsCounted standing_of sessions (λ k s below. is_counted (slice_index_or sessions k s))
