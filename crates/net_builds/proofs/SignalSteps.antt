-- One signal more is built, or one row less is kept.
use Rattle.std.proofs.Common.{◌≡◌, ◌≢◌, ℕ, ◌+◌, ◌<◌, ◌≤◌, Bool, List, length, get_or, inl, inr, sym, ap, subst, ◌∙◌, arith, Option, Some, None, All}
use Rattle.std.specs.Prelude.{◌⊎◌, slice_get, slice_index}
use Rattle.std.proofs.Math.ListN.{set}
use Rattle.std.proofs.lemmas.Bool.{cases_lt, cases_order}
use Rattle.std.proofs.lemmas.List.{get_or-set_same, get_or-set_other, length-set}
use mathlib.Core.Logic.{dite}
use native.Mathlib.Decide.{ℕ_discrete}
use Rattle.cover_nets.specs.declared.net.Net.{Net}
use Rattle.cover_nets.specs.Bounds.{signal_count}
use Rattle.cover_nets.specs.Networks.{cover_value, signal_value}
use Rattle.std.proofs.lemmas.Option.{get_or_from_slice_get, none-some, same_Some, slice_get-get_or, slice_get_within}
use Rattle.cover_nets.specs.declared.net.Cover.{Cover}
use Rattle.cover_nets.proofs.Values.{gate_is}
use Rattle.net_builds.proofs.UseLemmas.{reads_before}
use Rattle.function_laws.specs.declared.history.Entry.{Entry}
use Rattle.function_laws.specs.declared.history.Name.{Name}
use Rattle.net_builds.specs.Building.{BuildsTo, IsBuilt, IsLeft, IsPlan, row_at}
use Rattle.net_builds.specs.Signals.{HaveRows, HaveValues}
use Rattle.net_builds.specs.declared.host.HostRefusal.{HostRefusal}
use Rattle.net_builds.specs.Standings.{Holds, IsCaused, IsQuiet, KeepsAll, LetsGo, Makes, Standing, Works}
use Rattle.net_builds.proofs.HoldingLemmas.{fewer_in, more_in}
use Rattle.net_builds.proofs.StandingLemmas.{caused_behind, gains_none, gains_then, holds_held, kept_holds, left_holds, still_holds}

-- nothing was to be done
pub builds_none : (net : Net) (last : List ℕ) (next : ℕ) (s : Standing) (rows : List (Option Name)) → IsBuilt net last next s rows → BuildsTo net last next s s rows
builds_none net last next s rows built = record { works = gains_none IsQuiet s; built = built }

-- and the next signal is not used
pub builds_unused : (net : Net) (last : List ℕ) (next : ℕ) (s : Standing) (rows : List (Option Name)) → next < signal_count net → slice_index last next ≡ 0 → IsBuilt net last next s rows
    → BuildsTo net last (next + 1) s s rows
builds_unused net last next s rows within unused built = record {
  works = gains_none IsQuiet s;
  built = record {
    vars = built.vars;
    long = built.long;
    within = omega (arith, within);
    there = λ signal below used. dite (ℕ_discrete signal next)
        (λ e. absurd (omega (arith, used, unused, ap (slice_index last) e)))
        (λ apart. built.there signal (omega (arith, below, apart)) (omega (arith, used)));
    ahead = λ signal past. built.ahead signal (omega (arith, past));
    held = built.held;
    rising = built.rising;
    few = omega (arith, built.few);
    counted = built.counted;
  };
}

-- more after some
pub builds_more : (net : Net) (last : List ℕ) (a b : ℕ) (s t u : Standing) (between rows : List (Option Name))
    → BuildsTo net last a s t between → BuildsTo net last b t u rows → BuildsTo net last b s u rows
builds_more net last a b s t u between rows first then = record { works = gains_then IsQuiet s t u first.works then.works; built = then.built }

-- the next row was refused
built_kept : (net : Net) (last : List ℕ) (next : ℕ) (s t : Standing) (rows : List (Option Name)) → IsBuilt net last next s rows → (works : Works s t) → KeepsAll s t → t.rows ≤ s.rows
    → BuildsTo net last next s t rows
built_kept net last next s t rows built works kept few = record {
  works = works;
  built = record {
    vars = works.vars_are ∙ built.vars;
    long = built.long;
    within = built.within;
    there = built.there;
    ahead = built.ahead;
    held = λ signal name at.
        let holds = built.held signal name at in
        still_holds s t name works.more (kept name holds.given) (signal_value net signal) works.vars_are holds;
    rising = built.rising;
    few = omega (arith, few, built.few);
    counted = omega (arith, few, built.counted);
  };
}

pub left_kept : {F : Type 0} (tells : F → Entry → Type 0) (net : Net) (last : List ℕ) (next : ℕ) (s t : Standing) (rows : List (Option Name)) (refusal : HostRefusal F) → IsBuilt net last next s rows
    → (works : Works s t) → KeepsAll s t → t.rows ≤ s.rows → IsCaused tells works.gained refusal → IsLeft tells net last s t rows refusal
left_kept tells net last next s t rows refusal built works kept few caused =
    record { next = next; builds = record { works = works; built = (built_kept net last next s t rows built works kept few).built }; caused = caused }

-- and so was a building behind another one
pub left_more : {F : Type 0} (tells : F → Entry → Type 0) (net : Net) (last : List ℕ) (a : ℕ) (s t u : Standing) (between rows : List (Option Name)) (refusal : HostRefusal F)
    → BuildsTo net last a s t between → IsLeft tells net last t u rows refusal → IsLeft tells net last s u rows refusal
unfolding gains_then
left_more tells net last a s t u between rows refusal first left = record {
  next = left.next;
  builds = record { works = gains_then IsQuiet s t u first.works left.builds.works; built = left.builds.built };
  caused = caused_behind tells first.works.gained left.builds.works.gained refusal left.caused;
}

-- the next signal's row was made
module _ (net : Net) (last : List ℕ) (next : ℕ) (s t : Standing) (rows : List (Option Name)) (name : Name) (f : ℕ → Bool) (within : next < signal_count net)
    (is : signal_value net next ≡ f) (built : IsBuilt net last next s rows) (makes : Makes s t name f) where
  abbrev more : List (Option Name)
  more = set rows next (Some name)

  at_next : row_at more next ≡ Some name
  at_next = get_or-set_same rows next (Some name) None (omega (arith, within, built.long))

  at_other : (signal : ℕ) → signal ≢ next → row_at more signal ≡ row_at rows signal
  at_other signal apart = get_or-set_other rows next signal (Some name) None apart

  -- a row is the new one, or was there before
  which : (signal : ℕ) (one : Name) → row_at more signal ≡ Some one → ((signal ≡ next) × (one ≡ name)) ⊎ ((signal < next) × (row_at rows signal ≡ Some one))
  which signal one at = dite (ℕ_discrete signal next)
      (λ e. inl (e, same_Some one name (sym at ∙ ap (row_at more) e ∙ at_next)))
      (λ apart. inr (below (at_other signal apart), sym (at_other signal apart) ∙ at))
    where
      below : row_at more signal ≡ row_at rows signal → signal < next
      below same = by (cases_lt signal next)
        where
          by : (signal < next) ⊎ (next ≤ signal) → signal < next
          by (inl less) = less
          by (inr past) = let none : row_at rows signal ≡ None = built.ahead signal past in absurd (none-some one (sym none ∙ sym same ∙ at))

  held_more : (signal : ℕ) (one : Name) → row_at more signal ≡ Some one → Holds t one (signal_value net signal)
  held_more signal one at = by (which signal one at)
    where
      by : ((signal ≡ next) × (one ≡ name)) ⊎ ((signal < next) × (row_at rows signal ≡ Some one)) → Holds t one (signal_value net signal)
      by (inl (e, same)) = subst (Holds t one) (sym (ap (signal_value net) e ∙ is)) (subst (λ n. Holds t n f) (sym same) makes.holds)
      by (inr (less, was)) =
          kept_holds s t name one f (signal_value net signal) makes (built.held signal one was)

  rising_more : (a b : ℕ) (one other : Name) → a < b → row_at more a ≡ Some one → row_at more b ≡ Some other → one.generation < other.generation
  rising_more a b one other less at_a at_b = by (which a one at_a) (which b other at_b)
    where
      by : ((a ≡ next) × (one ≡ name)) ⊎ ((a < next) × (row_at rows a ≡ Some one)) → ((b ≡ next) × (other ≡ name)) ⊎ ((b < next) × (row_at rows b ≡ Some other))
          → one.generation < other.generation
      by (inl (e, same)) (inl (e', same')) = absurd (omega (arith, e, e', less))
      by (inl (e, same)) (inr (less', was')) = absurd (omega (arith, e, less', less))
      by (inr (less', was)) (inl (e, same)) = omega (arith, (built.held a one was).given, makes.newer, ap (λ (n : Name). n.generation) same)
      by (inr (less', was)) (inr (less'', was')) = built.rising a b one other less was was'

  there_more : (signal : ℕ) → signal < next + 1 → next + 1 ≤ slice_index last signal → (one : Name) × (row_at more signal ≡ Some one)
  there_more signal below used = dite (ℕ_discrete signal next)
      (λ e. (name, ap (row_at more) e ∙ at_next))
      (λ apart.
      let was = built.there signal (omega (arith, below, apart)) (omega (arith, used)) in
      (was.0, at_other signal apart ∙ was.1))

  pub built_made : BuildsTo net last (next + 1) s t more
  built_made = record {
    works = makes.works;
    built = record {
      vars = makes.works.vars_are ∙ built.vars;
      long = length-set rows next (Some name) ∙ built.long;
      within = omega (arith, within);
      there = there_more;
      ahead = λ signal past. at_other signal (λ e. omega (arith, e, past)) ∙ built.ahead signal (omega (arith, past));
      held = held_more;
      rising = rising_more;
      few = omega (arith, makes.rows, built.few);
      counted = omega (arith, makes.rows, built.counted, more_in rows next name (omega (arith, within, built.long)) (built.ahead next (omega arith)));
    };
  }

-- the row of a signal that no later gate uses was let go
module _ (net : Net) (last : List ℕ) (next signal : ℕ) (s t : Standing) (rows : List (Option Name)) (name : Name) (within : signal < signal_count net) (unused : slice_index last signal < next)
    (at : row_at rows signal ≡ Some name) (built : IsBuilt net last next s rows) (gone : LetsGo s t name) where
  abbrev fewer : List (Option Name)
  fewer = set rows signal None

  other_row : (other : ℕ) → other ≢ signal → row_at fewer other ≡ row_at rows other
  other_row other apart = get_or-set_other rows signal other None None apart

  -- a row that is left was there, is of another signal, and of another generation
  left : (other : ℕ) (one : Name) → row_at fewer other ≡ Some one → (other ≢ signal) × (row_at rows other ≡ Some one)
  left other one is = dite (ℕ_discrete other signal)
      (λ e. absurd (none-some one (sym (ap (row_at fewer) e ∙ get_or-set_same rows signal None None (omega (arith, within, built.long))) ∙ is)))
      (λ apart. (apart, sym (other_row other apart) ∙ is))

  apart_from : (other : ℕ) (one : Name) → other ≢ signal → row_at rows other ≡ Some one → one.generation ≢ name.generation
  apart_from other one apart was = by (cases_order other signal)
    where
      by : (other ≡ signal) ⊎ ((other < signal) ⊎ (signal < other)) → one.generation ≢ name.generation
      by (inl e) = absurd (apart e)
      by (inr (inl less)) = λ e. omega (arith, e, built.rising other signal one name less was at)
      by (inr (inr less)) = λ e. omega (arith, e, built.rising signal other name one less at was)

  pub built_gone : BuildsTo net last next s t fewer
  built_gone = record {
    works = gone.works;
    built = record {
      vars = gone.works.vars_are ∙ built.vars;
      long = length-set rows signal None ∙ built.long;
      within = built.within;
      there = λ other below used.
          let was = built.there other below used in
          (was.0, other_row other (λ e. omega (arith, ap (slice_index last) e, used, unused)) ∙ was.1);
      ahead = λ other past. dite (ℕ_discrete other signal)
          (λ e. ap (row_at fewer) e ∙ get_or-set_same rows signal None None (omega (arith, within, built.long)))
          (λ apart. other_row other apart ∙ built.ahead other past);
      held = λ other one is.
          let was = left other one is in
          left_holds s t name one (signal_value net other) gone (apart_from other one was.0 was.1) (built.held other one was.1);
      rising = λ a b one other less at_a at_b. built.rising a b one other less (left a one at_a).1 (left b other at_b).1;
      few = omega (arith, gone.rows, built.few);
      counted = omega (arith, gone.rows, built.counted, fewer_in rows signal name at);
    };
  }

-- What a gate that is needed reads has rows, which stand for the signals' functions.
module _ (net : Net) (last : List ℕ) (plan : IsPlan net last) (signal i : ℕ) (gate : Cover) (at : slice_get net.gates i ≡ Some gate) (place : signal ≡ length net.inputs + i) where
  pub gate_value : signal_value net signal ≡ (λ k. cover_value gate (λ input. signal_value net input k))
  gate_value j k = (ap (λ one. signal_value net one k) place ∙ gate_is net plan.bounded.ordered i k gate at) j

  reads_earlier : All (λ input. input < signal) gate.ins
  reads_earlier k d less =
      let is : get_or net.gates i gate ≡ gate = get_or_from_slice_get net.gates i gate gate at in
      let earlier : All (λ input. input < length net.inputs + i) gate.ins =
      subst (λ (g : Cover). All (λ input. input < length net.inputs + i) g.ins) is (reads_before net plan.bounded.ordered i gate (slice_get_within net.gates i gate at)) in
      omega (arith, earlier k d less, place)

  pub reads_signals : All (λ input. input < signal_count net) gate.ins
  reads_signals k d less = omega (arith, reads_earlier k d less, place, slice_get_within net.gates i gate at)

  module _ (s : Standing) (rows : List (Option Name)) (needed : slice_index last signal ≢ 0) (built : IsBuilt net last signal s rows) where
    pub gate_values : HaveValues s rows (signal_value net) gate.ins
    gate_values k d less =
        let input = get_or gate.ins k d in
        let used : signal ≤ slice_index last input = omega (arith, plan.reads i gate (omega arith) at (λ none. needed (ap (slice_index last) place ∙ none)) k d less, place) in
        let row : (name : Name) × (row_at rows input ≡ Some name) = built.there input (reads_earlier k d less) used in
        (row.0, slice_get-get_or rows input None (omega (arith, reads_signals k d less, built.long)) ∙ ap Some row.1, built.held input row.0 row.1)

    pub gate_rows : HaveRows s rows gate.ins
    gate_rows k d less = let row = gate_values k d less in (row.0, row.1, holds_held s row.0 (signal_value net (get_or gate.ins k d)) row.2)
