-- Two halves of the workers of a network, and what they build together.
use Rattle.std.proofs.Common.{◌≡◌, ℕ, suc, ◌+◌, List, [], ◌∷◌, ◌++◌, Bool, Result, Ok, Err, IfErr, IfOk, append-nil, length, length-append, map, slice_index_or, slice_set, All, refl, sym, ap, subst, ◌∙◌, arith}
use Rattle.std.proofs.lemmas.List.{length-map, map-append}
use Rattle.std.proofs.lemmas.List.Elements.{All-cons, All-head, All-nil, All-tail}
use Rattle.cover_nets.specs.declared.net.Net.{Net}
use Rattle.cover_nets.specs.Bounds.{signal_count}
use Rattle.function_laws.specs.declared.history.Entry.{Entry}
use Rattle.dd_session.specs.declared.answers.Full.{Full}
use Rattle.dd_session.specs.Managing.{Managed, Seen}
use Rattle.net_builds.specs.declared.sharing.Share.{Share}
use Rattle.net_builds.specs.declared.worker.Worker.{Worker}
use Rattle.std.specs.List.{AllZip}
use Rattle.net_builds.specs.declared.host.HostRefusal.{HostRefusal}
use Rattle.net_builds.specs.declared.host.HostRefusal.TheVariants as stops
use Rattle.net_builds.specs.Handings.{IsWithin}
use Rattle.net_builds.specs.Outputs.{AreRefused, AreShared, IsShared, LeavesNone, wanted_of}
use Rattle.net_builds.specs.Standings.{KeepsOrders, Standing}
use Rattle.net_jobs.specs.Hosts.{IsSessionOf, TellsFullOf, standing_of}
use Rattle.net_jobs.specs.Networks.{IsFreshOf}
use Rattle.net_jobs.specs.Workers.{MayWork}

split_all : {X : Type 0} (P : X → Type 0) (xs ys : List X) → All P (xs ++ ys) → All P xs × All P ys
split_all P [] ys all = (All-nil P, all)
split_all P (x ∷ xs) ys all =
    let r = split_all P xs ys (All-tail P x (xs ++ ys) all) in (All-cons P x xs (All-head P x (xs ++ ys) all) r.0, r.1)

-- both halves may work where all may
pub both_may : (m : Managed) (net : Net) (first next : Worker) (shares low high : ℕ) (sessions xs ys : List Seen) → MayWork m net first sessions shares → sessions ≡ xs ++ ys → next.number ≡ first.number + length xs → next.of ≡ first.of
    → low ≡ length xs → high ≡ length ys → MayWork m net first xs low × MayWork m net next ys high
both_may m net first next shares low high sessions xs ys may is at of low_is high_is =
    let fresh = split_all (IsFreshOf m) xs ys (subst (All (IsFreshOf m)) is may.fresh) in
    let long = ap length is ∙ length-append xs ys in
    let within = may.within in
    let few = may.few in (
      record { fresh = fresh.0; as_many = low_is; bounded = may.bounded; vars = may.vars; within = omega (arith, within, long); few = few },
      record { fresh = fresh.1; as_many = high_is; bounded = may.bounded; vars = may.vars; within = omega (arith, within, long, at, of); few = omega (arith, few, of) },
    )

shared_append : {F : Type 0} (tells : F → Entry → Type 0) (net : Net) (workers k j : ℕ) (xs xs' ys ys' : List Standing) (front back : List (Share F)) → j ≡ k + length xs → AreShared tells net workers k xs xs' front
    → AreShared tells net workers j ys ys' back → AreShared tells net workers k (xs ++ ys) (xs' ++ ys') (front ++ back)
shared_append tells net workers k j [] [] ys ys' [] back at a b = subst (λ (n : ℕ). AreShared tells net workers n ys ys' back) (omega (arith, at)) b
shared_append tells net workers k j [] [] ys ys' (s ∷ front) back at a b = absurd a
shared_append tells net workers k j [] (x' ∷ xs') ys ys' front back at a b = absurd a
shared_append tells net workers k j (x ∷ xs) [] ys ys' front back at a b = absurd a
shared_append tells net workers k j (x ∷ xs) (x' ∷ xs') ys ys' [] back at a b = absurd a
shared_append tells net workers k j (x ∷ xs) (x' ∷ xs') ys ys' (s ∷ front) back at a b = (a.0, shared_append tells net workers (suc k) j xs xs' ys ys' front back (omega (arith, at)) a.1 b)

module _ (m : Managed) (net : Net) (workers : ℕ) where
  abbrev Shared : ℕ → List Seen → List Seen → List (Share Full) → Type 0
  Shared k old new shares = AreShared (TellsFullOf m) net workers k (map standing_of old) (map standing_of new) shares

  pub both_shared : (k j : ℕ) (sessions xs xs' ys ys' : List Seen) (front back : List (Share Full)) → sessions ≡ xs ++ ys → j ≡ k + length xs → Shared k xs xs' front → Shared j ys ys' back → Shared k sessions (xs' ++ ys') (front ++ back)
  both_shared k j sessions xs xs' ys ys' front back is at a b =
      subst (λ (p : List Standing × List Standing). AreShared (TellsFullOf m) net workers k p.0 p.1 (front ++ back))
      (λ i. ((sym (ap (map standing_of) is ∙ map-append standing_of xs ys)) i, (sym (map-append standing_of xs' ys')) i))
      (shared_append (TellsFullOf m) net workers k j (map standing_of xs) (map standing_of xs') (map standing_of ys) (map standing_of ys') front back
      (let long = length-map xs standing_of in omega (arith, at, long)) a b)

  pub none_shared : (k : ℕ) (sessions : List Seen) (shares : List (Share Full)) → length sessions ≡ 0 → length shares ≡ length sessions → Shared k sessions sessions shares
  none_shared k [] [] none long = tt
  none_shared k [] (s ∷ shares) none long = absurd (omega (arith, long))
  none_shared k (s ∷ sessions) shares none long = absurd (omega (arith, none))

  pub one_shared : (k : ℕ) (sessions : List Seen) (shares : List (Share Full)) (s s' : Seen) (share : Share Full) → length sessions ≡ 1 → length shares ≡ length sessions
      → IsShared (TellsFullOf m) (wanted_of net workers k) (signal_count net) (standing_of (slice_index_or sessions 0 s)) (standing_of s') share.outputs share.stop
      → Shared k sessions (slice_set sessions 0 s') (slice_set shares 0 share)
  one_shared k [] shares s s' share one long is = absurd (omega (arith, one))
  one_shared k (x ∷ []) [] s s' share one long is = absurd (omega (arith, long))
  one_shared k (x ∷ []) (y ∷ []) s s' share one long is = (is, tt)
  one_shared k (x ∷ []) (y ∷ z ∷ shares) s s' share one long is = absurd (omega (arith, long))
  one_shared k (x ∷ y ∷ sessions) shares s s' share one long is = absurd (omega (arith, one))

  -- there are as many sessions behind it as before
  pub shared_long : (k : ℕ) (old new : List Seen) (shares : List (Share Full)) → Shared k old new shares → length new ≡ length old
  shared_long k [] [] shares is = refl
  shared_long k [] (b ∷ new) shares is = absurd is
  shared_long k (a ∷ old) [] shares is = absurd is
  shared_long k (a ∷ old) (b ∷ new) [] is = absurd is
  shared_long k (a ∷ old) (b ∷ new) (s ∷ shares) is = ap suc (shared_long (suc k) old new shares is.1)

  -- and as many shares
  pub shared_many : (k : ℕ) (old new : List Seen) (shares : List (Share Full)) → Shared k old new shares → length shares ≡ length old
  shared_many k [] [] [] is = refl
  shared_many k [] [] (s ∷ shares) is = absurd is
  shared_many k [] (b ∷ new) shares is = absurd is
  shared_many k (a ∷ old) [] shares is = absurd is
  shared_many k (a ∷ old) (b ∷ new) [] is = absurd is
  shared_many k (a ∷ old) (b ∷ new) (s ∷ shares) is = ap suc (shared_many (suc k) old new shares is.1)

-- the shares of all workers, as they are lent
pub shared_by : (m : Managed) (net : Net) (old new : List Seen) (items shares : List (Share Full)) → shares ≡ items → AreShared (TellsFullOf m) net (length old) 0 (map standing_of old) (map standing_of new) items
    → AreShared (TellsFullOf m) net (length new) 0 (map standing_of old) (map standing_of new) shares × (length new ≡ length old)
shared_by m net old new items shares same is =
    let long = shared_long m net (length old) 0 old new items is in (
      subst (λ (p : ℕ × List (Share Full)). AreShared (TellsFullOf m) net p.0 0 (map standing_of old) (map standing_of new) p.1) (λ i. (sym long i, sym same i)) is,
      long,
    )

-- the one session of a worker is the manager's still
pub one_own : (m : Managed) (sessions : List Seen) (s : Seen) → length sessions ≡ 1 → IsSessionOf m s → All (IsSessionOf m) (slice_set sessions 0 s)
one_own m [] s one own = absurd (omega (arith, one))
one_own m (a ∷ []) s one own = All-cons (IsSessionOf m) s [] own (All-nil (IsSessionOf m))
one_own m (a ∷ b ∷ rest) s one own = absurd (omega (arith, one))

-- what is told of whatever sessions built the shares is told of those that did
module _ (m : Managed) (net : Net) (old mid : List Seen) (shares : List (Share Full)) (shared : AreShared (TellsFullOf m) net (length mid) 0 (map standing_of old) (map standing_of mid) shares) where
  abbrev Of : (List Standing → Type 0) → Type 0
  Of P = (before : List Standing) → AreShared (TellsFullOf m) net (length mid) 0 before (map standing_of mid) shares → P before

  pub told_by : {X E : Type 0} (result : Result X E) (P : X → List Standing → Type 0) → IfOk result (λ x. Of (P x)) → IfOk result (λ x. P x (map standing_of old))
  told_by (Ok x) P holds = holds (map standing_of old) shared
  told_by (Err e) P holds = tt

  pub refused_by : {X E : Type 0} (result : Result X E) (P : E → List Standing → Type 0) → IfErr result (λ e. Of (P e)) → IfErr result (λ e. P e (map standing_of old))
  refused_by (Ok x) P holds = tt
  refused_by (Err e) P holds = holds (map standing_of old) shared

-- where memory was wanting at once, all is as it was
pub all_stay : (m : Managed) (cell : ℕ) (sifts : Bool) (sessions : List Seen) → All (IsFreshOf m) sessions → AllZip (LeavesNone cell sifts) (map standing_of sessions) (map standing_of sessions)
all_stay m cell sifts [] fresh = tt
all_stay m cell sifts (s ∷ sessions) fresh =
    let is : IsFreshOf m s = All-head (IsFreshOf m) s sessions fresh in (
      record {
        vars_are = refl;
        number_is = refl;
        gained = [];
        entries_are = sym (append-nil s.entries);
        within = All-nil (IsWithin cell);
        keeps = λ _. All-nil KeepsOrders;
        none = ap length is.1;
      },
      all_stay m cell sifts sessions (All-tail (IsFreshOf m) s sessions fresh),
    )

pub wanting : (m : Managed) (cell : ℕ) (sifts : Bool) (old new : List Seen) (refusal : HostRefusal Full) → All (IsFreshOf m) old → new ≡ old → refusal ≡ stops.Memory
    → AreRefused (TellsFullOf m) cell sifts (map standing_of old) (map standing_of new) refusal
wanting m cell sifts old new refusal fresh same memory =
    subst (λ (p : List Seen × HostRefusal Full). AreRefused (TellsFullOf m) cell sifts (map standing_of old) (map standing_of p.0) p.1) (λ i. (sym same i, sym memory i))
    (record { each = all_stay m cell sifts old fresh; full = tt })
