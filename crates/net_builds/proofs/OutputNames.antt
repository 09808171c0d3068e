-- Where the building of outputs begins, and the names of the outputs at its end.
use Rattle.std.proofs.Common.{◌≡◌, ◌⊎◌, ℕ, zero, suc, ◌<◌, ◌≤◌, ◌^◌, cond, Bool, List, [], ◌∷◌, ◌++◌, drop, take, length, map, get_or, replicate, refl, sym, ap, subst, ◌∙◌, arith, inl, inr, Option, Some, None, All, Contains}
use Rattle.std.specs.Prelude.{slice_index}
use Rattle.std.proofs.lemmas.Bool.{cases_lt, le-leb, lt-leb}
use Rattle.std.proofs.Math.ListN.{set}
use Rattle.std.proofs.Math.Seq.{take-append_seam}
use Rattle.std.proofs.lemmas.List.{length-map, length-replicate}
use Rattle.std.proofs.lemmas.List.Elements.{All-map, All-nil}
use Rattle.std.proofs.lemmas.Option.{none-some, same_Some, slice_get_within}
use Rattle.cover_nets.specs.declared.net.Net.{Net}
use Rattle.cover_nets.specs.declared.net.Output.{Output}
use Rattle.cover_nets.specs.Bounds.{IsBounded, signal_count}
use Rattle.cover_nets.specs.Networks.{signal_value}
use Rattle.function_laws.specs.declared.history.Name.{Name}
use Rattle.function_laws.specs.declared.history.Entry.{Entry}
use Rattle.net_builds.specs.declared.host.HostRefusal.{HostRefusal}
use Rattle.net_builds.specs.declared.host.HostRefusal.TheVariants as stops
use Rattle.net_builds.specs.Building.{AreEnded, BuildsTo, IsBuilt, IsLeft, ended, row_at}
use Rattle.net_builds.specs.Holdings.{AreRising, LetsAllGo, names_in}
use Rattle.net_builds.specs.Outputs.{AreOnlyOf, BuildsOutputs, IsUndone, share, wanted_of}
use Rattle.net_builds.specs.declared.signals.Outputs.{Outputs}
use Rattle.net_builds.specs.declared.uses.TheConstants.{TO_THE_END}
use Rattle.net_builds.specs.Signals.{AllHold}
use Rattle.net_builds.specs.Standings.{HasRoom, Holds, IsLive, IsQuiet, LetsGo, Standing}
use Rattle.net_builds.specs.Uses.{AreLastUses}
use Rattle.net_builds.proofs.HoldingLemmas.{names_all, names_rise}
use Rattle.net_builds.proofs.ShareLemmas.{share_all, share_long, share_map}
use Rattle.net_builds.proofs.SignalSteps.{built_gone}
use Rattle.net_builds.proofs.StandingLemmas.{caused_before, gains_none, gains_then, holds_live}

pub none_at : (count signal : ℕ) → row_at (replicate count None) signal ≡ None
none_at zero signal = refl
none_at (suc count) zero = refl
none_at (suc count) (suc signal) = none_at count signal

-- no signal has a row
pub built_begun : (net : Net) (last : List ℕ) (s : Standing) (rows : List (Option Name)) → rows ≡ replicate (signal_count net) None → s.vars ≡ length net.inputs → s.rows ≡ 0
    → IsBuilt net last 0 s rows
built_begun net last s rows is vars none =
    let no_row : (signal : ℕ) → row_at rows signal ≡ None = λ signal. ap (λ (r : List (Option Name)). row_at r signal) is ∙ none_at (signal_count net) signal in
    record {
      vars = vars;
      long = ap length is ∙ length-replicate (signal_count net) None;
      within = omega arith;
      there = λ signal below used. absurd (omega (arith, below));
      ahead = λ signal past. no_row signal;
      held = λ signal name at. absurd (none-some name (sym (no_row signal) ∙ at));
      rising = λ a b one other less at_a at_b. absurd (none-some one (sym (no_row a) ∙ at_a));
      few = omega (arith, none);
      counted = omega (arith, none);
    }

-- the signals of a worker's outputs are signals of the network
pub own_signals : (net : Net) (worker workers : ℕ) (own : List ℕ) → IsBounded net → own ≡ share worker workers (map (λ output. output.signal) net.outputs) → All (λ signal. signal < signal_count net) own
own_signals net worker workers own bounded is =
    subst (λ (signals : List ℕ). All (λ signal. signal < signal_count net) signals) (sym is)
    (share_all (λ signal. signal < signal_count net) worker workers (map (λ (output : Output). output.signal) net.outputs)
    (All-map (λ signal. signal < signal_count net) (λ (output : Output). output.signal) net.outputs bounded.named))

pub own_few : (net : Net) (worker workers : ℕ) (own : List ℕ) → IsBounded net → own ≡ share worker workers (map (λ output. output.signal) net.outputs) → length own < 2 ^ 24
own_few net worker workers own bounded is =
    omega (arith, ap (length {A = ℕ}) is, share_long worker workers (map (λ (output : Output). output.signal) net.outputs), length-map net.outputs (λ (output : Output). output.signal), bounded.outputs)

-- what is used to the end counts as used so far, and nothing else counts
pub ended_kept : (last : List ℕ) (signal : ℕ) → TO_THE_END ≤ slice_index last signal → slice_index (ended last) signal ≡ slice_index last signal
ended_kept [] signal noted = refl
ended_kept (u ∷ last) zero noted = ap (λ b. cond b u 0) (le-leb TO_THE_END u noted)
ended_kept (u ∷ last) (suc signal) noted = ended_kept last signal noted

pub ended_gone : (last : List ℕ) (signal : ℕ) → slice_index last signal < TO_THE_END → slice_index (ended last) signal ≡ 0
ended_gone [] signal less = refl
ended_gone (u ∷ last) zero less = ap (λ b. cond b u 0) (lt-leb TO_THE_END u less)
ended_gone (u ∷ last) (suc signal) less = ended_gone last signal less

ended_less : (last : List ℕ) (signal : ℕ) → slice_index (ended last) signal ≤ slice_index last signal
ended_less last signal = by (cases_lt (slice_index last signal) TO_THE_END)
  where
    by : (slice_index last signal < TO_THE_END) ⊎ (TO_THE_END ≤ slice_index last signal) → slice_index (ended last) signal ≤ slice_index last signal
    by (inl less) = omega (arith, ended_gone last signal less)
    by (inr noted) = omega (arith, ended_kept last signal noted)

-- what was built counts only so far as it is used to the end
pub built_ended : (net : Net) (last : List ℕ) (next : ℕ) (s : Standing) (rows : List (Option Name)) → IsBuilt net last next s rows → IsBuilt net (ended last) next s rows
built_ended net last next s rows built = record {
  vars = built.vars;
  long = built.long;
  within = built.within;
  there = λ signal below used. built.there signal below (omega (arith, used, ended_less last signal));
  ahead = built.ahead;
  held = built.held;
  rising = built.rising;
  few = built.few;
  counted = built.counted;
}

-- the row of a signal that is not used to the end was let go
pub ended_step : (net : Net) (last : List ℕ) (next signal : ℕ) (s t : Standing) (rows : List (Option Name)) (name : Name) → signal < signal_count net → (slice_index last signal ≡ TO_THE_END → ⊥) → slice_index last signal < 2 ^ 32
    → row_at rows signal ≡ Some name → IsBuilt net (ended last) next s rows → LetsGo s t name → BuildsTo net (ended last) next s t (set rows signal None)
ended_step net last next signal s t rows name within apart fits at built gone = built_gone net (ended last) next signal s t rows name within (by (cases_lt signal next)) at built gone
  where
    by : (signal < next) ⊎ (next ≤ signal) → slice_index (ended last) signal < next
    by (inl less) = omega (arith, ended_gone last signal (omega (arith, apart, fits)), less)
    by (inr past) = absurd (none-some name (sym (built.ahead signal past) ∙ at))

-- each row has the name of an output
pub only_of : (net : Net) (own last : List ℕ) (rows : List (Option Name)) (names : List Name) → IsBounded net → AreLastUses net own last → AreEnded last rows → length names ≡ length own
    → ((i d : ℕ) (e : Name) → i < length own → row_at rows (get_or own i d) ≡ Some (get_or names i e)) → AreOnlyOf names rows
only_of net own last rows names bounded uses ended long noted = names_all (λ (name : Name). Contains names name) rows by
  where
    by : (signal : ℕ) (name : Name) → row_at rows signal ≡ Some name → Contains names name
    by signal name at = elim (uses.told signal (λ none. omega (arith, ended signal name at, none))) [
      | inl own_one ↦ (
        own_one.0,
        omega (arith, own_one.1, long),
        same_Some (get_or names own_one.0 name) name (sym (noted own_one.0 signal name own_one.1) ∙ ap (row_at rows) own_one.2 ∙ at),
      )
      | inr reader ↦ absurd (omega (arith, ended signal name at, reader.5, slice_get_within net.gates reader.0 reader.1 reader.2, bounded.signals))
    ]

-- what is used to the end has a row, where it is built
pub own_rows : (net : Net) (own last : List ℕ) (next : ℕ) (s : Standing) (rows : List (Option Name)) → AreLastUses net own last → IsBounded net → IsBuilt net (ended last) next s rows
    → All (λ signal. signal < next) own → (k d : ℕ) → k < length own → (name : Name) × (row_at rows (get_or own k d) ≡ Some name)
own_rows net own last next s rows uses bounded built behind k d less =
    built.there (get_or own k d) (behind k d less) (omega (arith, ended_kept last (get_or own k d) (omega (arith, uses.own_noted k d less)), uses.own_noted k d less, built.within, bounded.signals))

-- the noted names stand for the outputs' functions
pub all_hold : (s : Standing) (net : Net) (rows : List (Option Name)) → ((signal : ℕ) (name : Name) → row_at rows signal ≡ Some name → Holds s name (signal_value net signal))
    → (outputs : List Output) (names : List Name) → length names ≡ length outputs
    → ((i d : ℕ) (e : Name) → i < length outputs → row_at rows (get_or (map (λ (output : Output). output.signal) outputs) i d) ≡ Some (get_or names i e))
    → AllHold s (map (λ (output : Output). signal_value net output.signal) outputs) names
all_hold s net rows held [] [] long noted = tt
all_hold s net rows held [] (name ∷ names) long noted = absurd (omega (arith, long))
all_hold s net rows held (output ∷ outputs) [] long noted = absurd (omega (arith, long))
all_hold s net rows held (output ∷ outputs) (name ∷ names) long noted =
    (held output.signal name (noted 0 0 name (omega arith)), all_hold s net rows held outputs names (omega (arith, long)) (λ i d e less. noted (suc i) d e (omega (arith, less))))

-- and so of a worker's outputs
pub share_hold : (s : Standing) (net : Net) (worker workers : ℕ) (own : List ℕ) (rows : List (Option Name)) → ((signal : ℕ) (name : Name) → row_at rows signal ≡ Some name → Holds s name (signal_value net signal))
    → (names : List Name) → own ≡ share worker workers (map (λ output. output.signal) net.outputs) → length names ≡ length own
    → ((i d : ℕ) (e : Name) → i < length own → row_at rows (get_or own i d) ≡ Some (get_or names i e)) → AllHold s (wanted_of net workers worker) names
share_hold s net worker workers own rows held names is long noted =
    let outputs : List Output = share worker workers net.outputs in
    let signals : own ≡ map (λ (output : Output). output.signal) outputs = is ∙ share_map (λ (output : Output). output.signal) worker workers net.outputs in
    let many : length own ≡ length outputs = ap length signals ∙ length-map outputs (λ (output : Output). output.signal) in
    subst (λ (ws : List (ℕ → Bool)). AllHold s ws names) (sym (share_map (λ (output : Output). signal_value net output.signal) worker workers net.outputs))
    (all_hold s net rows held outputs names (long ∙ many) (λ i d e less. ap (λ (l : List ℕ). row_at rows (get_or l i d)) (sym signals) ∙ noted i d e (omega (arith, less, many))))

pub no_items : {X : Type 0} (xs : List X) → length xs ≡ 0 → xs ≡ []
no_items [] long = refl
no_items (x ∷ xs) long = absurd (omega (arith, long))

-- a worker for which no function is wanted has no output
pub share_empty : (net : Net) (worker workers : ℕ) → wanted_of net workers worker ≡ [] → share worker workers (map (λ output. output.signal) net.outputs) ≡ []
share_empty net worker workers none =
    no_items (share worker workers (map (λ (output : Output). output.signal) net.outputs))
    (ap length (share_map (λ (output : Output). output.signal) worker workers net.outputs) ∙ length-map (share worker workers net.outputs) (λ (output : Output). output.signal)
    ∙ sym (length-map (share worker workers net.outputs) (λ (output : Output). signal_value net output.signal)) ∙ ap length (sym (share_map (λ (output : Output). signal_value net output.signal) worker workers net.outputs)) ∙ ap length none)

-- a worker without outputs has built them
pub no_share_built : (net : Net) (worker workers : ℕ) (s : Standing) (outputs : Outputs) → share worker workers (map (λ output. output.signal) net.outputs) ≡ [] → s.rows ≡ 0 → outputs.names.items ≡ [] → outputs.rows.items ≡ []
    → BuildsOutputs (wanted_of net workers worker) (signal_count net) s s outputs
no_share_built net worker workers s outputs none rows names_none rows_none = record {
  works = gains_none IsQuiet s;
  has = record {
    holds = subst (AllHold s (wanted_of net workers worker)) (sym names_none) (subst (λ (ws : List (ℕ → Bool)). AllHold s ws []) (sym wanted_none) tt);
    live = subst (λ (l : List (Option Name)). All (IsLive s) (names_in l)) (sym rows_none) (All-nil (IsLive s));
    rising = subst (λ (l : List (Option Name)). AreRising (names_in l)) (sym rows_none) tt;
    counted = omega (arith, rows);
    only = subst (λ (l : List (Option Name)). AreOnlyOf outputs.names.items l) (sym rows_none) (All-nil (λ name. Contains outputs.names.items name));
  };
  rows = omega (arith, rows);
}
  where
    empty : (xs : List Output) → map (λ (output : Output). output.signal) xs ≡ [] → xs ≡ []
    empty [] is = refl
    empty (x ∷ xs) is = absurd (cc is)

    wanted_none : wanted_of net workers worker ≡ []
    wanted_none = share_map (λ (output : Output). signal_value net output.signal) worker workers net.outputs
        ∙ ap (map (λ (output : Output). signal_value net output.signal)) (empty (share worker workers net.outputs) (sym (share_map (λ (output : Output). output.signal) worker workers net.outputs) ∙ none))

-- what is live of signals that were built
module _ (net : Net) (last : List ℕ) (next : ℕ) (s : Standing) (rows : List (Option Name)) (built : IsBuilt net last next s rows) where
  pub built_live : All (IsLive s) (names_in rows)
  built_live = names_all (IsLive s) rows (λ signal name at. holds_live s name (signal_value net signal) (built.held signal name at))

  pub built_rising : AreRising (names_in rows)
  built_rising = names_rise rows built.rising

  pub built_room : IsBounded net → HasRoom s
  built_room bounded = omega (arith, bounded.signals, built.few, built.within)

-- a building that was refused, whose rows were let go
pub undone : {F : Type 0} (tells : F → Entry → Type 0) (net : Net) (last : List ℕ) (old mid new : Standing) (rows : List (Option Name)) (refusal : HostRefusal F)
    → IsLeft tells net last old mid rows refusal → LetsAllGo mid new (names_in rows) → IsUndone tells old new refusal
unfolding gains_then
undone tells net last old mid new rows refusal left gone = record {
  works = gains_then IsQuiet old mid new left.builds.works gone.works;
  caused = caused_before tells left.builds.works.gained gone.works.gained refusal left.caused;
  none = omega (arith, gone.rows, left.builds.built.counted);
}

-- nothing was built
pub undone_none : {F : Type 0} (tells : F → Entry → Type 0) (s : Standing) → s.rows ≡ 0 → IsUndone tells s s stops.Memory
undone_none tells s none = record { works = gains_none IsQuiet s; caused = tt; none = none }

-- a slice that was changed is all of the vector behind it
pub written : {X : Type 0} (new shown items : List X) (len : ℕ) → length new ≡ length shown → shown ≡ items → len ≡ length items → take len (new ++ drop (length new) items) ≡ new
written new shown items len same whole long =
    ap (λ k. take k (new ++ drop (length new) items)) (long ∙ sym (same ∙ ap length whole)) ∙ take-append_seam new (drop (length new) items)
