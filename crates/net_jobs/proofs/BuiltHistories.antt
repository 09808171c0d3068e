-- What the sessions of a manager built, in the history that its closing tells.
use Rattle.std.proofs.Common.{◌≡◌, ◌⊎◌, inl, inr, Bool, true, false, option_map, if◌then◌else◌, ℕ, zero, suc, ◌+◌, ◌*◌, ◌<◌, List, [], ◌∷◌, ◌++◌, length, map, take, drop, All, refl, ap, sym, ◌∙◌, subst, arith}
use Rattle.std.proofs.Math.Nat.{zero-add}
use mathlib.Core.Option.{some}
use lib.ListN.{get_elem?}
use Rattle.std.proofs.Math.Seq.{drop-append_seam}
use Rattle.std.proofs.lemmas.List.{append-nil}
use Rattle.std.proofs.lemmas.List.Elements.{All-cons, All-head, All-map, All-nil, All-push, All-tail, All-weaker}
use Rattle.cover_nets.specs.declared.net.Net.{Net}
use Rattle.blif_net.specs.Networks.{IsBlifText}
use Rattle.command_words.specs.declared.order.Options.{Options}
use Rattle.std.specs.List.{AllZip, range_with_len}
use Rattle.diagram_dumps.specs.declared.dump.Dump.{Dump}
use Rattle.blif_net.specs.GenTexts.{gen_text}
use Rattle.function_laws.specs.declared.history.Entry.{Entry}
use Rattle.function_laws.specs.SessionEntries.{Each, entries_of}
use Rattle.function_laws.specs.Sizes.{Orders}
use Rattle.function_laws.specs.Tables.{Sizes}
use Rattle.function_laws.specs.Widening.{at_sizes}
use Rattle.seat_guard.specs.declared.view.Noted.{Noted}
use Rattle.seat_guard.specs.declared.view.Row.{Row}
use Rattle.seat_guard.specs.Notes.{IsNotedIn}
use Rattle.dd_session.specs.declared.answers.Full.{Full}
use Rattle.dd_session.specs.Sessions.{variables_in}
use Rattle.dd_session.specs.Managing.{AreAll, IsHistoryOf, Managed, Seen, newcomer, newcomers, opened, sizes_for, stands_for}
use Rattle.net_builds.specs.declared.handing.Handover.{Handover}
use Rattle.net_builds.specs.declared.host.HostRefusal.{HostRefusal}
use Rattle.net_builds.specs.declared.host.HostRefusal.TheVariants as stops
use Rattle.net_builds.specs.Builds.{AllGain, AreUnsifted, Builds, FindsOf, IsFound, UnsiftedTellingsAreTrue}
use Rattle.net_builds.specs.Builds as builds
use Rattle.net_builds.specs.Loads.{LoadsAreTrue}
use Rattle.net_builds.specs.declared.telling.Findings.{Findings}
use Rattle.net_builds.specs.declared.telling.Telling.{Telling}
use Rattle.net_builds.specs.Outputs.{AreFullTold, AreRefused, HasTold, IsFullTold, LeavesNone, SomePair}
use Rattle.net_builds.specs.Sifting.{BuildsSifted, SiftedTellingsAreTrue, sifted_order}
use Rattle.net_builds.specs.Standings.{KeepsOrders, Standing}
use Rattle.net_reports.specs.Reports.{IsReport, dump_subject, net_subject, output_functions, output_names}
use Rattle.net_jobs.specs.Ends.{order_for, rising}
use Rattle.net_jobs.specs.declared.networks.TheConstants.{OUTPUTS_CELL}
use Rattle.net_jobs.specs.Hosts.{IsSessionOf, TellsFullOf, note_of, standing_of}
use Rattle.net_jobs.specs.declared.stops.PartStop.{PartStop}
use Rattle.net_jobs.specs.declared.stops.PartStop.TheVariants as parts
use Rattle.net_jobs.specs.Networks.{IsFilledBy, IsFreshOf, IsLoadedIn, IsRefusedIn, part_stop}
use Rattle.net_jobs.specs.Plays.{AreNumbered}
use Rattle.net_jobs.proofs.ListLemmas.{taken_back}
use Rattle.net_jobs.proofs.Opening.{opened_many, opened_numbered}

-- what a session noted is right of the history
noted_right : (sizes : Sizes) (log : List Entry) (session : ℕ) (note : Noted) → IsNotedIn sizes log session note → builds.IsNoted sizes log session (note_of note)
noted_right sizes log session note is = record {
  order_is = ap (λ (o : Orders). o.variables) is.orders_are;
  rows = λ name. is.agrees.rows_are name ∙ ap (λ (z : Sizes). option_map (at_sizes z) (stands_for note.rows name)) is.agrees.sizes_are;
}

all_noted : (sizes : Sizes) (log : List Entry) (session : ℕ) (noted : List Noted) → Each (IsNotedIn sizes log session) noted → All (builds.IsNoted sizes log session) (map note_of noted)
all_noted sizes log session [] each = All-nil (builds.IsNoted sizes log session)
all_noted sizes log session (note ∷ noted) each =
    All-cons (builds.IsNoted sizes log session) (note_of note) (map note_of noted) (noted_right sizes log session note each.0) (all_noted sizes log session noted each.1)

-- what holds of the session at each place holds of what is seen of all sessions
all_seen : (P : Standing → Type 0) (sessions : List Seen) → ((k : ℕ) (s : Seen) → get_elem? sessions k ≡ some s → P (standing_of s)) → All P (map standing_of sessions)
all_seen P [] holds = All-nil P
all_seen P (s ∷ sessions) holds = All-cons P (standing_of s) (map standing_of sessions) (holds zero s refl) (all_seen P sessions (λ k. holds (suc k)))

-- and the other way round
at_place : (P : Standing → Type 0) (sessions : List Seen) → All P (map standing_of sessions) → (k : ℕ) (s : Seen) → get_elem? sessions k ≡ some s → P (standing_of s)
at_place P [] all k s at = absurd (none k at)
  where
    none : (k : ℕ) → get_elem? {A = Seen} [] k ≡ some s → ⊥
    none zero at = cc
    none (suc k) at = cc
at_place P (t ∷ sessions) all zero s at = subst (λ (x : Seen). P (standing_of x)) (same t s at) (All-head P (standing_of t) (map standing_of sessions) all)
  where
    same : (x y : Seen) → some x ≡ some y → x ≡ y
    same x y e = cc
at_place P (t ∷ sessions) all (suc k) s at = at_place P sessions (All-tail P (standing_of t) (map standing_of sessions) all) k s at

-- the history that all sessions of a manager have is one of what is seen of them
pub history_of : (m : Managed) (new : List Seen) (n : ℕ) (h : IsHistoryOf m new n) → builds.IsLegalHistoryOf (sizes_for m.vars m.elements) h.log (map standing_of new)
history_of m new n h = record {
  legal = h.legal;
  found = h.found;
  had = h.had;
  each = all_seen (λ (t : Standing). entries_of t.number h.log ≡ t.entries) new h.each;
  noted = all_seen (λ (t : Standing). All (builds.IsNoted (sizes_for m.vars m.elements) h.log t.number) t.notes) new
      (λ k s at. all_noted (sizes_for m.vars m.elements) h.log s.number s.noted (h.noted k s at));
  placed = all_seen (λ (t : Standing). All (builds.IsNoted (sizes_for m.vars m.elements) h.log t.number) t.placed) new
      (λ k s at. all_noted (sizes_for m.vars m.elements) h.log s.number s.placed (h.placed k s at));
  no_other = λ p apart. h.no_other p (at_place (λ (t : Standing). t.number ≡ p → ⊥) new apart);
}

-- a session that knows of no more variables than its manager was opened with
pub known_vars : (m : Managed) (s : Seen) (n : ℕ) → s.manager ≡ m → s.more_variables ≡ 0 → m.vars ≡ n → variables_in s ≡ n
known_vars m s n own none is = (λ i. none i + (own i).vars) ∙ zero-add m.vars ∙ is

pub all_known : (m : Managed) (sessions : List Seen) (n : ℕ) → m.vars ≡ n → All (IsSessionOf m) sessions → All (λ (s : Standing). s.vars ≡ n) (map standing_of sessions)
all_known m sessions n is own =
    All-map (λ (s : Standing). s.vars ≡ n) standing_of sessions (All-weaker (IsSessionOf m) (λ (s : Seen). variables_in s ≡ n) (λ s one. known_vars m s n one.own one.none_added is) sessions own)

-- sessions without a row are fresh
none_rows : (rows : List Row) → length rows ≡ 0 → rows ≡ []
none_rows [] none = refl
none_rows (row ∷ rows) none = absurd (omega (arith, none))

pub fresh_again : (m : Managed) (sessions : List Seen) → All (IsSessionOf m) sessions → All (λ (s : Standing). s.rows ≡ 0) (map standing_of sessions) → All (IsFreshOf m) sessions
fresh_again m [] own none = All-nil (IsFreshOf m)
fresh_again m (s ∷ sessions) own none =
    let one = All-head (IsSessionOf m) s sessions own in
    All-cons (IsFreshOf m) s sessions (one.own, none_rows s.rows (All-head (λ (t : Standing). t.rows ≡ 0) (standing_of s) (map standing_of sessions) none), one.none_added)
    (fresh_again m sessions (All-tail (IsSessionOf m) s sessions own) (All-tail (λ (t : Standing). t.rows ≡ 0) (standing_of s) (map standing_of sessions) none))

pub fresh_are : (m : Managed) (sessions : List Seen) → All (IsFreshOf m) sessions → All (IsSessionOf m) sessions
fresh_are m sessions fresh = All-weaker (IsFreshOf m) (IsSessionOf m) (λ s is. record { own = is.0; none_added = is.2 }) sessions fresh

pub fresh_own : (m : Managed) (sessions : List Seen) → All (IsFreshOf m) sessions → All (λ (s : Seen). s.manager ≡ m) sessions
fresh_own m sessions fresh = All-weaker (IsFreshOf m) (λ (s : Seen). s.manager ≡ m) (λ s is. is.0) sessions fresh

-- the sessions of a manager as it opens them
newcomers_fresh : (m : Managed) (n : ℕ) → All (IsFreshOf m) (newcomers m n)
newcomers_fresh m zero = All-nil (IsFreshOf m)
newcomers_fresh m (suc n) = All-push (IsFreshOf m) (newcomers m n) (newcomer m n) (newcomers_fresh m n) (refl, refl, refl)

pub opened_fresh : (m : Managed) → All (IsFreshOf m) (opened m)
opened_fresh m = newcomers_fresh m m.sessions

newcomers_calls : (m : Managed) (n : ℕ) → All (λ (s : Seen). s.entries ≡ []) (newcomers m n)
newcomers_calls m zero = All-nil (λ (s : Seen). s.entries ≡ [])
newcomers_calls m (suc n) = All-push (λ (s : Seen). s.entries ≡ []) (newcomers m n) (newcomer m n) (newcomers_calls m n) refl

none_before : (m : Managed) → All (λ (s : Standing). s.entries ≡ []) (map standing_of (opened m))
none_before m = All-map (λ (s : Standing). s.entries ≡ []) standing_of (opened m) (newcomers_calls m m.sessions)

-- one session alone
pub opened_one : (m : Managed) → m.sessions ≡ 1 → opened m ≡ newcomer m 0 ∷ []
opened_one m one = ap (newcomers m) one

-- sessions keep their numbers where they gain entries
gains_numbers : (cell k : ℕ) (handovers : List Handover) (old new : List Seen) → AllGain cell handovers (map standing_of old) (map standing_of new) → AreNumbered k old → AreNumbered k new × (length new ≡ length old)
gains_numbers cell k handovers [] [] gains numbers = (tt, refl)
gains_numbers cell k handovers [] (b ∷ new) gains numbers = absurd gains
gains_numbers cell k handovers (a ∷ old) [] gains numbers = absurd gains
gains_numbers cell k handovers (a ∷ old) (b ∷ new) gains numbers =
    let r = gains_numbers cell (suc k) handovers old new gains.5 numbers.1 in ((gains.4 ∙ numbers.0, r.0), ap suc r.1)

-- the session of a number
numbered_at : (k p : ℕ) (sessions : List Seen) → AreNumbered k sessions → p < length sessions → (s : Seen) × (get_elem? sessions p ≡ some s) × (s.number ≡ k + p)
numbered_at k p [] numbers below = absurd (omega (arith, below))
numbered_at k zero (s ∷ sessions) numbers below = (s, refl, numbers.0 ∙ omega arith)
numbered_at k (suc p) (s ∷ sessions) numbers below = let r = numbered_at (suc k) p sessions numbers.1 (omega (arith, below)) in (r.0, r.1, r.2 ∙ omega arith)

-- The sessions of a manager behind its part: as many as it has, with their numbers.
pub record AreAgain (m : Managed) (new : List Seen) : Type 0 where
  pub numbers : AreNumbered 0 new
  pub as_many : length new ≡ m.sessions

pub built_again : (m : Managed) (Tells : List (ℕ → Bool) → List ℕ → Findings → Type 0) (cell : ℕ) (wanted : List (ℕ → Bool)) (new : List Seen) (found : Findings)
    → Builds Tells cell wanted (map standing_of (opened m)) (map standing_of new) found → AreAgain m new
built_again m Tells cell wanted new found built =
    let r = gains_numbers cell 0 built.handovers (opened m) new built.gains (opened_numbered m) in record { numbers = r.0; as_many = r.1 ∙ opened_many m }

left_numbers : (cell : ℕ) (sifts : Bool) (k : ℕ) (old new : List Seen) → AllZip (LeavesNone cell sifts) (map standing_of old) (map standing_of new) → AreNumbered k old → AreNumbered k new × (length new ≡ length old)
left_numbers cell sifts k [] [] left numbers = (tt, refl)
left_numbers cell sifts k [] (b ∷ new) left numbers = absurd left
left_numbers cell sifts k (a ∷ old) [] left numbers = absurd left
left_numbers cell sifts k (a ∷ old) (b ∷ new) left numbers =
    let r = left_numbers cell sifts (suc k) old new left.1 numbers.1 in ((left.0.number_is ∙ numbers.0, r.0), ap suc r.1)

-- also where it was refused
pub refused_again : (m : Managed) (cell : ℕ) (sifts : Bool) (new : List Seen) (refusal : HostRefusal Full)
    → AreRefused (TellsFullOf m) cell sifts (map standing_of (opened m)) (map standing_of new) refusal → AreAgain m new
refused_again m cell sifts new refusal refused =
    let r = left_numbers cell sifts 0 (opened m) new refused.each (opened_numbered m) in record { numbers = r.0; as_many = r.1 ∙ opened_many m }

pub loaded_again : (m : Managed) (dump : Dump) (patterns : List (List Bool)) (old new : List Seen) (text : List ℕ) → m.sessions ≡ 1 → old ≡ opened m → IsLoadedIn dump patterns old new text → AreAgain m new
loaded_again m dump patterns old new text one is loaded =
    let same : loaded.before ≡ newcomer m 0 = head_is (sym loaded.old_is ∙ is ∙ opened_one m one) in
    record {
      numbers = subst (AreNumbered 0) (sym loaded.new_is) (loaded.loads.number_is ∙ ap (λ (s : Seen). s.number) same, tt);
      as_many = ap length loaded.new_is ∙ sym one;
    }
  where
    head_is : {a b : Seen} → a ∷ [] ≡ b ∷ [] → a ≡ b
    head_is e = cc

module _ (m : Managed) (new : List Seen) (again : AreAgain m new) where
  -- they are all sessions of their manager
  pub are_all : All (λ (s : Seen). s.manager ≡ m) new → AreAll m new
  are_all own = record {
    own = own;
    as_many = again.as_many;
    covered = λ p less.
        let many = again.as_many in
        let r = numbered_at 0 p new again.numbers (omega (arith, many, less)) in (p, r.0, r.1, r.2 ∙ omega arith);
  }

  -- the slice that was lent has them
  pub written_back : (items : List Seen) (n : ℕ) → items ≡ opened m → n ≡ length items → take n (new ++ drop (length new) items) ≡ new
  written_back items n at long = taken_back new items n (again.as_many ∙ sym (opened_many m) ∙ sym (ap (length {A = Seen}) at)) long

-- sessions that gained nothing left the orders as they are
pub unsifted_still : (sessions : List Standing) → AreUnsifted sessions sessions
unsifted_still [] = tt
unsifted_still (s ∷ sessions) =
    (subst (All KeepsOrders) (sym (ap (drop (length s.entries)) (sym (append-nil s.entries)) ∙ drop-append_seam s.entries [])) (All-nil KeepsOrders), unsifted_still sessions)

-- and sessions that are as they were
pub unsifted_same : (old new : List Seen) → new ≡ old → AreUnsifted (map standing_of old) (map standing_of new)
unsifted_same old new same = subst (λ (xs : List Seen). AreUnsifted (map standing_of old) (map standing_of xs)) (sym same) (unsifted_still (map standing_of old))

pub fresh_same : (m : Managed) (old new : List Seen) → new ≡ old → All (IsFreshOf m) old → All (IsFreshOf m) new
fresh_same m old new same fresh = subst (All (IsFreshOf m)) (sym same) fresh

-- a refusal of a part tells that all slots of the manager are in use
entry_told : (m : Managed) (full : Full) (old new : List Standing) → SomePair (HasTold (TellsFullOf m) full) old new → (e : Entry) × TellsFullOf m full e
entry_told m full [] new pair = absurd pair
entry_told m full (a ∷ old) [] pair = absurd pair
entry_told m full (a ∷ old) (b ∷ new) (inl told) = (told.2.0, told.2.2)
entry_told m full (a ∷ old) (b ∷ new) (inr pair) = entry_told m full old new pair

pub filled : (cell : ℕ) (sifts : Bool) (m : Managed) (old new : List Standing) (OfAll : ℕ → Type 0) (refusal : HostRefusal Full) → OfAll m.limit → AreRefused (TellsFullOf m) cell sifts old new refusal → IsFilledBy OfAll (part_stop refusal)
filled cell sifts m old new OfAll refusal all is = by refusal is.full
  where
    by : (refused : HostRefusal Full) → AreFullTold (TellsFullOf m) old new refused → IsFilledBy OfAll (part_stop refused)
    by stops.Memory told = tt
    by (stops.Full full) told = let found = entry_told m full old new told.1 in (m.limit, all, found.1.in_use, found.1.limit)

-- and so of one that makes its network
pub filled_made : (bits cell : ℕ) (m : Managed) (old new : List Seen) (OfAll : ℕ → Type 0) (stop : PartStop)
    → ((net : Net) → IsBlifText (gen_text bits) net → length net.inputs ≡ 2 * bits → OfAll m.limit)
    → ((stop ≡ parts.Memory) × (new ≡ old))
    ⊎ ((net : Net) × IsBlifText (gen_text bits) net × (length net.inputs ≡ 2 * bits)
    × ((refusal : HostRefusal Full) × (stop ≡ part_stop refusal) × AreRefused (TellsFullOf m) cell false (map standing_of old) (map standing_of new) refusal))
    → IsFilledBy OfAll stop
filled_made bits cell m old new OfAll stop all (inl (memory, same)) = subst (IsFilledBy OfAll) (sym memory) tt
filled_made bits cell m old new OfAll stop all (inr (net, text, inputs, (refusal, told, is))) =
    subst (IsFilledBy OfAll) (sym told) (filled cell false m (map standing_of old) (map standing_of new) OfAll refusal (all net text inputs) is)

-- and of one that makes a diagram
pub filled_load : (cell : ℕ) (m : Managed) (old new : List Seen) (OfAll : ℕ → Type 0) (refusal : HostRefusal Full) → OfAll m.limit → IsRefusedIn cell m old new refusal → IsFilledBy OfAll (part_stop refusal)
filled_load cell m old new OfAll refusal all is = by refusal is.refused.full
  where
    by : (refused : HostRefusal Full) → IsFullTold (TellsFullOf m) (standing_of is.before) (standing_of is.after) is.refused.gained refused → IsFilledBy OfAll (part_stop refused)
    by stops.Memory told = tt
    by (stops.Full full) (quiet, noted, (e, among, told)) = (m.limit, all, told.in_use, told.limit)

-- what was found by sessions of a manager that had made no call, in the history that its closing tells
module _ (m : Managed) (net : Net) (new : List Seen) (found : Findings) (n : ℕ) (vars : m.vars ≡ length net.inputs) (own : All (IsSessionOf m) new) (h : IsHistoryOf m new n) (telling : Telling) (patterns : List (List Bool)) where
  abbrev Tells : List (ℕ → Bool) → List ℕ → Findings → Type 0
  Tells = FindsOf net patterns telling

  abbrev before : List Standing
  before = map standing_of (opened m)

  abbrev behind : List Standing
  behind = map standing_of new

  -- is found of the wanted functions, under the order 0, 1, 2, ..
  pub told_of : UnsiftedTellingsAreTrue → AreUnsifted before behind → Builds Tells OUTPUTS_CELL (output_functions net) before behind found → IsFound telling (net_subject net (rising net) patterns) found
  told_of law unsifted built =
      law (length net.inputs) (output_names net) patterns telling (output_functions net) (sizes_for m.vars m.elements) h.log before behind OUTPUTS_CELL found vars
      (all_known m new (length net.inputs) vars own) (none_before m) unsifted (history_of m new n h) built

  -- or under the order that a sift left
  pub sifted_of : SiftedTellingsAreTrue → m.elements ≡ 0 → BuildsSifted Tells m.limit OUTPUTS_CELL (output_functions net) before behind found
      → IsFound telling (net_subject net (sifted_order m.limit (length net.inputs) (output_functions net)) patterns) found
  sifted_of law none built =
      law (length net.inputs) (output_names net) patterns telling (output_functions net) m.limit (sizes_for m.vars m.elements) h.log before behind OUTPUTS_CELL found vars none
      (all_known m new (length net.inputs) vars own) (none_before m) (history_of m new n h) built

  -- as the options have it
  pub reported : UnsiftedTellingsAreTrue → SiftedTellingsAreTrue → (limit : ℕ) (options : Options) → m.elements ≡ 0 → m.limit ≡ 5 + length net.inputs + limit
      → Builds Tells OUTPUTS_CELL (output_functions net) before behind found
      → (options.sift ≡ true → BuildsSifted Tells m.limit OUTPUTS_CELL (output_functions net) before behind found)
      → (options.sift ≡ false → AreUnsifted before behind)
      → IsFound telling (net_subject net (order_for net limit options) patterns) found
  reported unsifted_law sifted_law limit options none slots built sifted unsifted = by options.sift refl
    where
      by : (b : Bool) → options.sift ≡ b → IsFound telling (net_subject net (if b then sifted_order (5 + length net.inputs + limit) (length net.inputs) (output_functions net) else rising net) patterns) found
      by true is = subst (λ (k : ℕ). IsFound telling (net_subject net (sifted_order k (length net.inputs) (output_functions net)) patterns) found) slots (sifted_of sifted_law none (sifted is))
      by false is = told_of unsifted_law (unsifted is) built

-- and so of a stored diagram
pub loaded_as : LoadsAreTrue → (m : Managed) (dump : Dump) (patterns : List (List Bool)) (old new : List Seen) (text : List ℕ) (n : ℕ) → m.vars ≡ dump.nvars → m.sessions ≡ 1 → old ≡ opened m
    → AreUnsifted (map standing_of old) (map standing_of new) → IsHistoryOf m new n → IsLoadedIn dump patterns old new text
    → IsReport (dump_subject dump (range_with_len 0 dump.nvars) patterns) text
loaded_as law m dump patterns old new text n vars one is unsifted h loaded =
    let fresh : (standing_of loaded.before).entries ≡ [] = subst (λ (s : Seen). (standing_of s).entries ≡ []) (sym (head_is (sym loaded.old_is ∙ is ∙ opened_one m one))) refl in
    law dump patterns (sizes_for m.vars m.elements) h.log (standing_of loaded.before) (standing_of loaded.after) text vars fresh
    (subst (λ (xs : List Seen). AreUnsifted (map standing_of xs) (standing_of loaded.after ∷ [])) loaded.old_is
    (subst (λ (xs : List Seen). AreUnsifted (map standing_of old) (map standing_of xs)) loaded.new_is unsifted))
    (subst (λ (xs : List Seen). builds.IsLegalHistoryOf (sizes_for m.vars m.elements) h.log (map standing_of xs)) loaded.new_is (history_of m new n h))
    loaded.loads
  where
    head_is : {a b : Seen} → a ∷ [] ≡ b ∷ [] → a ≡ b
    head_is e = cc
