-- Shares that were built, handed over and told of.
use Rattle.std.proofs.Common.{◌≡◌, ℕ, zero, suc, ◌<◌, ◌≤◌, ◌++◌, Bool, false, Option, Some, None, List, [], ◌∷◌, length, refl, ap, sym, ◌∙◌, subst, append_assoc, inl, inr, arith, All}
use Rattle.std.specs.Prelude.{slice_get}
use Rattle.std.specs.List.{AllZip, Contains}
use Rattle.std.proofs.Math.ListN.{drop}
use Rattle.std.proofs.Math.Seq.{drop-append_seam}
use Rattle.std.proofs.lemmas.List.Elements.{All-append, All-cons, All-contains, All-head, All-nil, All-tail, All-weaker, Contains-append_left}
use Rattle.std.proofs.lemmas.Option.{none-some, same_Some}
use Rattle.edge_bits.specs.declared.limits.TheConstants.{MOST_ROWS}
use Rattle.function_laws.specs.declared.history.Entry.{Entry}
use Rattle.function_laws.specs.declared.history.Name.{Name}
use Rattle.cover_nets.specs.declared.net.Net.{Net}
use Rattle.cover_nets.specs.Bounds.{signal_count}
use Rattle.net_reports.specs.Reports.{output_functions}
use Rattle.net_builds.specs.Builds.{AllGain, AllHandedOver, AreUnsifted}
use Rattle.net_builds.specs.Handings.{IsKnown, IsWithin, Returns}
use Rattle.net_builds.specs.Holdings.{AreRising, LetsAllGo, names_in}
use Rattle.net_builds.specs.Outputs.{AreFullTold, AreRefused, AreShared, HasTold, IsShared, LeavesNone, SomePair, wanted_of}
use Rattle.net_builds.specs.Shares.{AllGo, AreBuilt, HaveRows, HaveShares, StopsOnly, StopsSome}
use Rattle.net_builds.specs.Signals.{AllHold}
use Rattle.net_builds.specs.Standings.{IsLive, IsQuiet, KeepsOrders, Note, Standing, Works}
use Rattle.net_builds.specs.declared.handing.Handover.{Handover}
use Rattle.net_builds.specs.declared.host.HostRefusal.{HostRefusal}
use Rattle.net_builds.specs.declared.host.HostRefusal.TheVariants as stops
use Rattle.net_builds.specs.declared.sharing.Share.{Share}
use Rattle.net_builds.proofs.Passing.{fetch_of, quiet_within}
use Rattle.net_builds.proofs.StandingLemmas.{holds_live, kept_live}
use Rattle.net_builds.proofs.Stops.{some_told}

-- names that stand for wanted functions are held, and as many as these
pub all_held : (s : Standing) (wanted : List (ℕ → Bool)) (names : List Name) → AllHold s wanted names → All (IsLive s) names
all_held s [] [] hold = All-nil (IsLive s)
all_held s [] (name ∷ names) hold = absurd hold
all_held s (f ∷ wanted) [] hold = absurd hold
all_held s (f ∷ wanted) (name ∷ names) hold = All-cons (IsLive s) name names (holds_live s name f hold.0) (all_held s wanted names hold.1)

pub as_many_held : (s : Standing) (wanted : List (ℕ → Bool)) (names : List Name) → AllHold s wanted names → length names ≡ length wanted
as_many_held s [] [] hold = refl
as_many_held s [] (name ∷ names) hold = absurd hold
as_many_held s (f ∷ wanted) [] hold = absurd hold
as_many_held s (f ∷ wanted) (name ∷ names) hold = omega (arith, as_many_held s wanted names hold.1)

-- there are as many handovers as functions
pub as_many_handed : (cell : ℕ) (wanted : List (ℕ → Bool)) (sessions : List Standing) (first : Standing) (hs : List Handover) → AllHandedOver cell wanted sessions first hs → length hs ≡ length wanted
as_many_handed cell [] sessions first [] handed = refl
as_many_handed cell [] sessions first (h ∷ hs) handed = absurd handed
as_many_handed cell (f ∷ wanted) sessions first [] handed = absurd handed
as_many_handed cell (f ∷ wanted) sessions first (h ∷ hs) handed = omega (arith, as_many_handed cell wanted sessions first hs handed.1)

-- each was fetched by the first session
pub all_fetched : (cell : ℕ) (wanted : List (ℕ → Bool)) (sessions : List Standing) (first : Standing) (hs : List Handover) → AllHandedOver cell wanted sessions first hs
    → All (λ (h : Handover). Contains first.entries (fetch_of cell first.number h)) hs
all_fetched cell [] sessions first [] handed = All-nil (λ (h : Handover). Contains first.entries (fetch_of cell first.number h))
all_fetched cell [] sessions first (h ∷ hs) handed = absurd handed
all_fetched cell (f ∷ wanted) sessions first [] handed = absurd handed
all_fetched cell (f ∷ wanted) sessions first (h ∷ hs) handed =
    All-cons (λ (x : Handover). Contains first.entries (fetch_of cell first.number x)) h hs handed.0.2.passed.1 (all_fetched cell wanted sessions first hs handed.1)

-- so each fetch lies below what lies above all its calls
pub fetched_below : (cell place : ℕ) (wanted : List (ℕ → Bool)) (sessions : List Standing) (first : Standing) (hs : List Handover) → AllHandedOver cell wanted sessions first hs
    → All (λ (e : Entry). e.place < place) first.entries → All (λ (h : Handover). h.fetch < place) hs
fetched_below cell place wanted sessions first hs handed below =
    All-weaker (λ (h : Handover). Contains first.entries (fetch_of cell first.number h)) (λ (h : Handover). h.fetch < place)
    (λ h there. All-contains (λ (e : Entry). e.place < place) first.entries (fetch_of cell first.number h) below there) hs (all_fetched cell wanted sessions first hs handed)

-- what was gained of each session, as a history has it
abbrev pub IsGain : ℕ → List Handover → Standing → Standing → Type 0
IsGain cell hs a b = (gained : List Entry) × (b.entries ≡ a.entries ++ gained) × All (IsKnown cell hs) gained × (b.vars ≡ a.vars) × (b.number ≡ a.number)

pub all_gain : (cell : ℕ) (hs : List Handover) (old new : List Standing) → AllZip (IsGain cell hs) old new → AllGain cell hs old new
all_gain cell hs [] [] all = tt
all_gain cell hs [] (b ∷ new) all = absurd all
all_gain cell hs (a ∷ old) [] all = absurd all
all_gain cell hs (a ∷ old) (b ∷ new) all = (all.0.0, all.0.1, all.0.2, all.0.3, all.0.4, all_gain cell hs old new all.1)

-- what swapped and sifted nothing
pub all_unsifted : (cell : ℕ) (old new : List Standing) → AllZip (LeavesNone cell false) old new → AreUnsifted old new
all_unsifted cell [] [] all = tt
all_unsifted cell [] (b ∷ new) all = absurd all
all_unsifted cell (a ∷ old) [] all = absurd all
all_unsifted cell (a ∷ old) (b ∷ new) all = (
  subst (All KeepsOrders) (sym (ap (drop (length a.entries)) all.0.entries_are ∙ drop-append_seam a.entries all.0.gained)) (all.0.keeps refl),
  all_unsifted cell old new all.1,
)

-- none has a live row
pub all_none : (cell : ℕ) (sifts : Bool) (old new : List Standing) → AllZip (LeavesNone cell sifts) old new → All (λ (s : Standing). s.rows ≡ 0) new
all_none cell sifts [] [] all = All-nil (λ (s : Standing). s.rows ≡ 0)
all_none cell sifts [] (b ∷ new) all = absurd all
all_none cell sifts (a ∷ old) [] all = absurd all
all_none cell sifts (a ∷ old) (b ∷ new) all = All-cons (λ (s : Standing). s.rows ≡ 0) b new all.0.none (all_none cell sifts old new all.1)

module _ {F : Type 0} (tells : F → Entry → Type 0) where
  -- a worker's calls neither posted nor swapped, whether or not it was refused
  pub shared_works : (wanted : List (ℕ → Bool)) (most : ℕ) (a b : Standing) (one : Share F) → IsShared tells wanted most a b one.outputs one.stop → Works a b
  shared_works wanted most a b one shared = by one.stop shared
    where
      by : (stop : Option (HostRefusal F)) → IsShared tells wanted most a b one.outputs stop → Works a b
      by None is = is.0.works
      by (Some refusal) is = is.0.works

  -- its rows are live, and all that it has
  pub record Keeps (b : Standing) (one : Share F) : Type 0 where
    pub live : All (IsLive b) (names_in one.outputs.rows.items)
    pub rising : AreRising (names_in one.outputs.rows.items)
    pub counted : b.rows ≤ length (names_in one.outputs.rows.items)

  pub shared_keeps : (wanted : List (ℕ → Bool)) (most : ℕ) (a b : Standing) (one : Share F) → IsShared tells wanted most a b one.outputs one.stop → Keeps b one
  shared_keeps wanted most a b one shared = by one.stop shared
    where
      by : (stop : Option (HostRefusal F)) → IsShared tells wanted most a b one.outputs stop → Keeps b one
      by None is = record { live = is.0.has.live; rising = is.0.has.rising; counted = is.0.has.counted }
      by (Some refusal) is = record {
        live = subst (All (IsLive b)) (sym is.1) (All-nil (IsLive b));
        rising = subst AreRising (sym is.1) tt;
        counted = omega (arith, is.0.none);
      }

  pub shared_few : (wanted : List (ℕ → Bool)) (most : ℕ) (a b : Standing) (one : Share F) → IsShared tells wanted most a b one.outputs one.stop → b.rows ≤ most
  shared_few wanted most a b one shared = by one.stop shared
    where
      by : (stop : Option (HostRefusal F)) → IsShared tells wanted most a b one.outputs stop → b.rows ≤ most
      by None is = is.0.rows
      by (Some refusal) is = omega (arith, is.0.none)

  module _ (net : Net) (workers : ℕ) where
    -- where no worker was refused, each has its share
    pub have_shares : (k : ℕ) (old built : List Standing) (shares : List (Share F)) → AreShared tells net workers k old built shares → AreBuilt shares → HaveShares workers (output_functions net) k built shares
    have_shares k [] [] [] shared done = tt
    have_shares k [] [] (one ∷ shares) shared done = absurd shared
    have_shares k [] (b ∷ built) shares shared done = absurd shared
    have_shares k (a ∷ old) [] shares shared done = absurd shared
    have_shares k (a ∷ old) (b ∷ built) [] shared done = absurd shared
    have_shares k (a ∷ old) (b ∷ built) (one ∷ shares) shared done = (
      (subst (IsShared tells (wanted_of net workers k) (signal_count net) a b one.outputs) (All-head (λ (x : Share F). x.stop ≡ None) one shares done) shared.0).0.has,
      have_shares (suc k) old built shares shared.1 (All-tail (λ (x : Share F). x.stop ≡ None) one shares done),
    )

    pub few_rows : (k : ℕ) (old built : List Standing) (shares : List (Share F)) → AreShared tells net workers k old built shares → All (λ (s : Standing). s.rows ≤ signal_count net) built
    few_rows k [] [] [] shared = All-nil (λ (s : Standing). s.rows ≤ signal_count net)
    few_rows k [] [] (one ∷ shares) shared = absurd shared
    few_rows k [] (b ∷ built) shares shared = absurd shared
    few_rows k (a ∷ old) [] shares shared = absurd shared
    few_rows k (a ∷ old) (b ∷ built) [] shared = absurd shared
    few_rows k (a ∷ old) (b ∷ built) (one ∷ shares) shared =
        All-cons (λ (s : Standing). s.rows ≤ signal_count net) b built (shared_few (wanted_of net workers k) (signal_count net) a b one shared.0) (few_rows (suc k) old built shares shared.1)

    pub works_all : (k : ℕ) (old built : List Standing) (shares : List (Share F)) → AreShared tells net workers k old built shares → AllZip Works old built
    works_all k [] [] [] shared = tt
    works_all k [] [] (one ∷ shares) shared = absurd shared
    works_all k [] (b ∷ built) shares shared = absurd shared
    works_all k (a ∷ old) [] shares shared = absurd shared
    works_all k (a ∷ old) (b ∷ built) [] shared = absurd shared
    works_all k (a ∷ old) (b ∷ built) (one ∷ shares) shared = (shared_works (wanted_of net workers k) (signal_count net) a b one shared.0, works_all (suc k) old built shares shared.1)

    -- what returned has the rows still, which may be let go
    module _ (cell : ℕ) (sifts : Bool) where
      pub have_rows : (k : ℕ) (old built mid : List Standing) (shares : List (Share F)) → AreShared tells net workers k old built shares → AllZip (Returns cell sifts) built mid → signal_count net < MOST_ROWS
          → HaveRows mid shares
      have_rows k [] [] [] [] shared returns few = tt
      have_rows k [] [] mid (one ∷ shares) shared returns few = absurd shared
      have_rows k [] [] (c ∷ mid) [] shared returns few = absurd returns
      have_rows k [] (b ∷ built) mid shares shared returns few = absurd shared
      have_rows k (a ∷ old) [] mid shares shared returns few = absurd shared
      have_rows k (a ∷ old) (b ∷ built) mid [] shared returns few = absurd shared
      have_rows k (a ∷ old) (b ∷ built) [] (one ∷ shares) shared returns few = absurd returns
      have_rows k (a ∷ old) (b ∷ built) (c ∷ mid) (one ∷ shares) shared returns few =
          let keeps = shared_keeps (wanted_of net workers k) (signal_count net) a b one shared.0 in
          let back : Returns cell sifts b c = returns.0 in (
            record {
              room = omega (arith, back.rows, shared_few (wanted_of net workers k) (signal_count net) a b one shared.0, few);
              live = All-weaker (IsLive b) (IsLive c) (λ name. kept_live b c name back.more back.kept) (names_in one.outputs.rows.items) keeps.live;
              rising = keeps.rising;
            },
            have_rows (suc k) old built mid shares shared.1 returns.1 few,
          )

      -- and then none is left
      leaves_one : (a b c d : Standing) (one : Share F) → Works a b → Keeps b one → Returns cell sifts b c → LetsAllGo c d (names_in one.outputs.rows.items) → LeavesNone cell sifts a d
      leaves_one a b c d one works keeps back gone = record {
        vars_are = gone.works.vars_are ∙ back.vars_are ∙ works.vars_are;
        number_is = gone.works.number_is ∙ back.number_is ∙ works.number_is;
        gained = works.gained ++ (back.gained ++ gone.works.gained);
        entries_are = gone.works.entries_are ∙ ap (λ (es : List Entry). es ++ gone.works.gained) back.entries_are ∙ append_assoc b.entries back.gained gone.works.gained
            ∙ ap (λ (es : List Entry). es ++ (back.gained ++ gone.works.gained)) works.entries_are ∙ append_assoc a.entries works.gained (back.gained ++ gone.works.gained);
        within = All-append (IsWithin cell) works.gained (back.gained ++ gone.works.gained) (All-weaker IsQuiet (IsWithin cell) (quiet_within cell) works.gained works.each)
            (All-append (IsWithin cell) back.gained gone.works.gained back.within (All-weaker IsQuiet (IsWithin cell) (quiet_within cell) gone.works.gained gone.works.each));
        keeps = λ none. All-append KeepsOrders works.gained (back.gained ++ gone.works.gained) (All-weaker IsQuiet KeepsOrders (λ e quiet. quiet.keeps) works.gained works.each)
            (All-append KeepsOrders back.gained gone.works.gained (back.keeps none) (All-weaker IsQuiet KeepsOrders (λ e quiet. quiet.keeps) gone.works.gained gone.works.each));
        none = omega (arith, gone.rows, back.rows, keeps.counted);
      }

      pub leaves_all : (k : ℕ) (old built mid new : List Standing) (shares : List (Share F)) → AreShared tells net workers k old built shares → AllZip (Returns cell sifts) built mid → AllGo mid new shares
          → AllZip (LeavesNone cell sifts) old new
      leaves_all k [] [] [] [] [] shared returns gone = tt
      leaves_all k [] [] mid new (one ∷ shares) shared returns gone = absurd shared
      leaves_all k [] [] (c ∷ mid) new [] shared returns gone = absurd returns
      leaves_all k [] [] [] (d ∷ new) [] shared returns gone = absurd gone
      leaves_all k [] (b ∷ built) mid new shares shared returns gone = absurd shared
      leaves_all k (a ∷ old) [] mid new shares shared returns gone = absurd shared
      leaves_all k (a ∷ old) (b ∷ built) mid new [] shared returns gone = absurd shared
      leaves_all k (a ∷ old) (b ∷ built) [] new (one ∷ shares) shared returns gone = absurd returns
      leaves_all k (a ∷ old) (b ∷ built) (c ∷ mid) [] (one ∷ shares) shared returns gone = absurd gone
      leaves_all k (a ∷ old) (b ∷ built) (c ∷ mid) (d ∷ new) (one ∷ shares) shared returns gone = (
        leaves_one a b c d one (shared_works (wanted_of net workers k) (signal_count net) a b one shared.0) (shared_keeps (wanted_of net workers k) (signal_count net) a b one shared.0) returns.0 gone.0,
        leaves_all (suc k) old built mid new shares shared.1 returns.1 gone.1,
      )

    -- a worker was refused for a full node table, and the rows of all were let go
    works_gone : (k : ℕ) (old built new : List Standing) (shares : List (Share F)) → AreShared tells net workers k old built shares → AllGo built new shares → AllZip Works old new
    works_gone k [] [] [] [] shared gone = tt
    works_gone k [] [] new (one ∷ shares) shared gone = absurd shared
    works_gone k [] [] (d ∷ new) [] shared gone = absurd gone
    works_gone k [] (b ∷ built) new shares shared gone = absurd shared
    works_gone k (a ∷ old) [] new shares shared gone = absurd shared
    works_gone k (a ∷ old) (b ∷ built) new [] shared gone = absurd shared
    works_gone k (a ∷ old) (b ∷ built) [] (one ∷ shares) shared gone = absurd gone
    works_gone k (a ∷ old) (b ∷ built) (d ∷ new) (one ∷ shares) shared gone = (
      gains_both a b d (shared_works (wanted_of net workers k) (signal_count net) a b one shared.0) gone.0.works,
      works_gone (suc k) old built new shares shared.1 gone.1,
    )
      where
        gains_both : (a b c : Standing) → Works a b → Works b c → Works a c
        gains_both a b c first second = record {
          vars_are = second.vars_are ∙ first.vars_are;
          number_is = second.number_is ∙ first.number_is;
          notes_are = second.notes_are ∙ first.notes_are;
          gained = first.gained ++ second.gained;
          entries_are = second.entries_are ∙ ap (λ (es : List Entry). es ++ second.gained) first.entries_are ∙ append_assoc a.entries first.gained second.gained;
          each = All-append IsQuiet first.gained second.gained first.each second.each;
          more = omega (arith, first.more, second.more);
          behind = first.behind ++ second.behind;
          placed_are = second.placed_are ∙ ap (λ (notes : List Note). notes ++ second.behind) first.placed_are ∙ append_assoc a.placed first.behind second.behind;
        }

    told_some : (full : F) (k : ℕ) (old built new : List Standing) (shares : List (Share F)) (i : ℕ) (one : Share F) → i < length shares → AreShared tells net workers k old built shares → AllGo built new shares
        → slice_get shares i ≡ Some one → one.stop ≡ Some (stops.Full full) → SomePair (HasTold tells full) old new
    told_some full k [] [] new [] i one less shared gone at stop = absurd (none-some one at)
    told_some full k [] [] new (x ∷ shares) i one less shared gone at stop = absurd shared
    told_some full k [] (b ∷ built) new shares i one less shared gone at stop = absurd shared
    told_some full k (a ∷ old) [] new shares i one less shared gone at stop = absurd shared
    told_some full k (a ∷ old) (b ∷ built) new [] i one less shared gone at stop = absurd shared
    told_some full k (a ∷ old) (b ∷ built) [] (x ∷ shares) i one less shared gone at stop = absurd gone
    told_some full k (a ∷ old) (b ∷ built) (d ∷ new) (x ∷ shares) zero one less shared gone at stop =
        let same : x ≡ one = same_Some x one at in
        let undone = (subst (IsShared tells (wanted_of net workers k) (signal_count net) a b x.outputs) (ap (λ (y : Share F). y.stop) same ∙ stop) shared.0).0 in
        inl (
          undone.works.gained ++ gone.0.works.gained,
          gone.0.works.entries_are ∙ ap (λ (es : List Entry). es ++ gone.0.works.gained) undone.works.entries_are ∙ append_assoc a.entries undone.works.gained gone.0.works.gained,
          (undone.caused.0, Contains-append_left undone.works.gained gone.0.works.gained undone.caused.0 undone.caused.1, undone.caused.2),
        )
    told_some full k (a ∷ old) (b ∷ built) (d ∷ new) (x ∷ shares) (suc i) one less shared gone at stop =
        inr (told_some full (suc k) old built new shares i one (omega (arith, less)) shared.1 gone.1 at stop)

    at_contained : {X : Type 0} (xs : List X) (x : X) → (there : Contains xs x) → slice_get xs there.0 ≡ Some x
    at_contained [] x (i, inside, is) = absurd (omega (arith, inside))
    at_contained (y ∷ xs) x (zero, inside, is) = ap Some is
    at_contained (y ∷ xs) x (suc i, inside, is) = at_contained xs x (i, omega (arith, inside), is)

    pub full_told : (full : F) (old built new : List Standing) (shares : List (Share F)) → AreShared tells net workers 0 old built shares → AllGo built new shares → StopsSome shares (stops.Full full)
        → AreFullTold tells old new (stops.Full full)
    full_told full old built new shares shared gone (one, there, stop) = (
      works_gone 0 old built new shares shared gone,
      told_some full 0 old built new shares there.0 one there.1 shared gone (at_contained shares one there) stop,
    )

    -- what a refused build leaves of its sessions
    pub refused_all : (cell : ℕ) (sifts : Bool) (old built mid new : List Standing) (shares : List (Share F)) (refusal : HostRefusal F) → AreShared tells net workers 0 old built shares → AllZip (Returns cell sifts) built mid
        → AllGo mid new shares → StopsOnly shares built mid refusal → AreRefused tells cell sifts old new refusal
    refused_all cell sifts old built mid new shares refusal shared returns gone stopped = record { each = leaves_all cell sifts 0 old built mid new shares shared returns gone; full = by refusal stopped }
      where
        by : (r : HostRefusal F) → StopsOnly shares built mid r → AreFullTold tells old new r
        by stops.Memory stop = tt
        by (stops.Full full) (is, same) = full_told full old built new shares shared (subst (λ l. AllGo l new shares) same gone) (some_told shares (stops.Full full) is)
