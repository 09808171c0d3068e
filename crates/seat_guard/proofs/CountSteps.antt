-- Each step on a count word keeps the rule, and the load of the number of sessions.
use Rattle.std.proofs.Common.{◌≡◌, ◌≢◌, ◌⊎◌, ℕ, suc, ◌+◌, ◌-◌, ◌%◌, ◌^◌, ◌<◌, true, List, length, get_or, set, refl, ap, sym, subst, ◌∙◌, ⊎_elim, arith, length-set}
use Rattle.std.specs.Prelude as std
use mathlib.Core.Logic.{dite}
use mathlib.Core.Option.{none, some}
use native.Mathlib.Decide.{ℕ_discrete}
use lib.ListN.{get_elem?}
use lib.Seq.{set-get_or}
use Rattle.edge_bits.specs.declared.limits.TheConstants.{MOST_ROWS}
use Rattle.atomic_table.specs.Table.{step, keeps, stepped, Allows}
use Rattle.atomic_table.proofs.Lists.{at_map}
use Rattle.handle_count.specs.CountWords.{count_of, generation_of}
use Rattle.function_laws.specs.Sizes.{Orders}
use Rattle.function_laws.proofs.SessionEntryLemmas.{put_at, put_here, put_else}
use Rattle.seat_guard.specs.declared.layout.TheConstants.{COUNTS, SESSIONS}
use Rattle.seat_guard.specs.declared.view.Held.{Held}
use Rattle.seat_guard.specs.declared.view.Hold.TheVariants.{Holding}
use Rattle.seat_guard.specs.declared.view.Counts.{Counts}
use Rattle.seat_guard.specs.declared.view.View.{View}
use Rattle.seat_guard.specs.CountPlays.{IsRecounted, Knows, MayRaise, NamesNone, counted_down, counted_up, found_above, found_zero, generation_read, looked_at, pinned, sessions_read, unpinned}
use Rattle.seat_guard.specs.Generations.{IsOfRow}
use Rattle.seat_guard.specs.Layout.{words_of}
use Rattle.seat_guard.specs.Rule.{Parts, tallies_in}
use Rattle.seat_guard.specs.Tallies.{cells_count, found_at, held_count, lowered_by, pinned_by, raised_by, refs, tally_of, times, unpinned_by}
use Rattle.seat_guard.proofs.CountParts.{above_part, found_part, lowered_part, pinned_part, raised_part, unpinned_part, zero_part}
use Rattle.seat_guard.proofs.Keeps.{Sat, St, TheRule, lifts, stays}
use Rattle.seat_guard.proofs.Layouts.{here_count, set_count}
use Rattle.seat_guard.proofs.Lists.{each_at}
use Rattle.seat_guard.proofs.Noting.{counted_is}
use Rattle.seat_guard.proofs.Tallying.{counts_small}
use Rattle.seat_guard.proofs.Totals.{total-has}

-- a word that is raised and one that is lowered: the count alone changes
count_up : (n : ℕ) → n < 18446744073709551616 → count_of n < 2 ^ 32 - 1 → (count_of ((n + 1) % 2 ^ 64) ≡ suc (count_of n)) × (generation_of ((n + 1) % 2 ^ 64) ≡ generation_of n)
count_up n lt few = (omega (arith, lt, few), omega (arith, lt, few))

count_down : (n : ℕ) → n < 18446744073709551616 → 0 < count_of n → (suc (count_of ((n + (2 ^ 64 - 1)) % 2 ^ 64)) ≡ count_of n) × (generation_of ((n + (2 ^ 64 - 1)) % 2 ^ 64) ≡ generation_of n)
count_down n lt some_count = (omega (arith, lt, some_count), omega (arith, lt, some_count))

module _ {S : Type 0} (keeps_it : S → Held → Type 0) (board : S → List (std.Option Held)) (counts : S → ℕ × ℕ × ℕ) (orders : S → Orders) (slots id : ℕ) (me : Sat S) (live : me.0.draws.live ≡ true) (k : ℕ) (inside : k < me.0.draws.slots) where
  abbrev RuleOf : St S → Type 0
  RuleOf = TheRule keeps_it board counts orders

  abbrev word : ℕ
  word = COUNTS + k

  -- the slot of the word is this
  this_slot : (j : ℕ) → word ≡ COUNTS + j → k ≡ j
  this_slot j e = omega (arith, e)

  module _ (s : St S) (r : RuleOf s) (at : get_elem? s.views id ≡ some me.0) where
    abbrev n : ℕ
    n = get_or s.words word 0

    abbrev count : ℕ → ℕ
    count = (words_of r.slots s.words).count

    below : k < r.slots
    below =
        let e = ((r.parts.sized id me.0.draws (at_map (λ (v : View). v.draws) s.views id me.0 at)).0 live).0 in omega (arith, inside, e)

    is_count : count k ≡ n
    is_count = here_count r.slots s.words k below

    few : count_of n < 2 ^ 32 - 1
    few = subst (λ (x : ℕ). count_of x < 2 ^ 32 - 1) is_count (counts_small count r.parts.cells (tallies_in s.views) r.parts.counted k)

    -- the word becomes m, and the counts of the seat these
    on_word : (m : ℕ) (c : Counts) → Parts keeps_it board counts orders r.slots (record (words_of r.slots s.words) { count = put_at count k m }) (get_elem? s.homes 0) (set s.views id (record me.0 { counts = c })) → RuleOf (stepped s word m id me.1 (record me.0 { counts = c }) keeps)
    on_word m c parts =
        lifts keeps_it board counts orders r.slots (set s.words word m) (record (words_of r.slots s.words) { count = put_at count k m }) s.homes (set s.views id (record me.0 { counts = c })) (length-set s.words word m ∙ r.wide) r.long
        (set_count r.slots s.words m r.wide k below) parts

    -- the word stays, and the counts of the seat become these
    on_same : (c : Counts) → Parts keeps_it board counts orders r.slots (words_of r.slots s.words) (get_elem? s.homes 0) (set s.views id (record me.0 { counts = c })) → RuleOf (stepped s word n id me.1 (record me.0 { counts = c }) keeps)
    on_same c parts = subst (λ (l : List ℕ). RuleOf (record { words = l; homes = s.homes; views = set s.views id (record me.0 { counts = c }) })) (sym (set-get_or s.words word 0))
        (lifts keeps_it board counts orders r.slots s.words (words_of r.slots s.words) s.homes (set s.views id (record me.0 { counts = c })) r.wide r.long refl parts)

    here_is : (m : ℕ) → put_at count k m k ≡ m
    here_is m = put_here count k m

    aside : (m j : ℕ) → j ≢ k → put_at count k m j ≡ count j
    aside m j apart = put_else count k j m apart

    -- the generations stay
    same_generations : (m : ℕ) → generation_of m ≡ generation_of n → (j : ℕ) → generation_of (put_at count k m j) ≡ generation_of (count j)
    same_generations m same j = dite (ℕ_discrete j k)
        (λ is. subst (λ (i : ℕ). generation_of (put_at count k m i) ≡ generation_of (count i)) (sym is) (ap generation_of (here_is m) ∙ same ∙ ap generation_of (sym is_count)))
        (λ apart. ap generation_of (aside m j apart))

    -- where the count is 0 nothing that the seat knows of names the slot
    names_none : count_of (count k) ≡ 0 → NamesNone k me.0
    names_none empty =
        let all = r.parts.counted.counted k in
        let own = total-has (refs k) (tallies_in s.views) id (tally_of me.0) (at_map tally_of s.views id me.0 at) in (
          omega (arith, all, own, empty),
          (λ holds. let is = r.parts.turn.held id me.0.draws (at_map (λ (v : View). v.draws) s.views id me.0 at) holds in ap (cells_count k) is ∙ omega (arith, all, empty)),
        )

  pub counts_up : (held : Held) → held.edge.index ≡ k → MayRaise me.0 held → length me.0.draws.rows + length me.0.counts.raised + length me.0.counts.owed < MOST_ROWS
      → Allows RuleOf slots id me word (λ n. (n + 1) % 2 ^ 64) (counted_up held (step slots word 1 0 none) me)
  counts_up held is may room s r long at bound =
      let m : ℕ = (n s r at + 1) % 2 ^ 64 in
      let up = count_up (n s r at) bound (few s r at) in
      let new : ℕ → ℕ = put_at (count s r at) k m in
      let home = get_elem? s.homes 0 in
      let at_slot : new held.edge.index ≡ m = ap new is ∙ here_is s r at m in
      let part = raised_part keeps_it board counts orders r.slots (words_of r.slots s.words) home s.views r.parts id me.0 at held new live may room
      (ap count_of at_slot ∙ up.0 ∙ ap (λ (x : ℕ). suc (count_of x)) (sym (is_count s r at) ∙ ap (count s r at) (sym is)))
      (λ j apart. aside s r at m j (λ e. apart (e ∙ sym is)))
      (same_generations s r at m up.1) in
      let g : generation_of (new held.edge.index) ≡ generation_of (n s r at) = ap generation_of at_slot ∙ up.1 in (
        record me.0 { counts = raised_by held (generation_of (n s r at)) me.0.counts },
        keeps,
        tt,
        on_word s r at m (raised_by held (generation_of (n s r at)) me.0.counts)
            (subst (λ (y : ℕ). Parts keeps_it board counts orders r.slots (record (words_of r.slots s.words) { count = new }) home (set s.views id (record me.0 { counts = raised_by held y me.0.counts }))) g part),
        refl,
      )

  -- what is told of the slot k is told of the slot of the word
  of_slot : (f : ℕ → Counts) (j : ℕ) → word ≡ COUNTS + j → record me.0 { counts = f k } ≡ record me.0 { counts = f j }
  of_slot f j e = ap (λ (i : ℕ). record me.0 { counts = f i }) (this_slot j e)

  pub counts_down : 0 < held_count k me.0.counts.owed → Allows RuleOf slots id me word (λ n. (n + (2 ^ 64 - 1)) % 2 ^ 64) (counted_down (step slots word 1 0 none) me)
  counts_down owed s r long at bound =
      let m : ℕ = (n s r at + (2 ^ 64 - 1)) % 2 ^ 64 in
      let some_count : 0 < count_of (n s r at) = subst (λ (x : ℕ). 0 < count_of x) (is_count s r at)
      (let one = total-has (refs k) (tallies_in s.views) id (tally_of me.0) (at_map tally_of s.views id me.0 at) in let now = r.parts.counted.counted k in omega (arith, one, now, owed)) in
      let down = count_down (n s r at) bound some_count in
      let new : ℕ → ℕ = put_at (count s r at) k m in (
        record me.0 { counts = lowered_by k me.0.counts },
        keeps,
        tt,
        on_word s r at m (lowered_by k me.0.counts) (lowered_part keeps_it board counts orders r.slots (words_of r.slots s.words) (get_elem? s.homes 0) s.views r.parts id me.0 at k new live owed
            (ap (λ (x : ℕ). suc (count_of x)) (here_is s r at m) ∙ down.0 ∙ ap count_of (sym (is_count s r at))) (aside s r at m) (same_generations s r at m down.1)),
        (λ j e. ap (λ v. (v, me.1)) (of_slot (λ i. lowered_by i me.0.counts) j e)),
      )

  pub pins_slot : me.0.shares.order ≡ Holding → times k me.0.counts.pins ≡ 0 → Allows RuleOf slots id me word (λ n. (n + 1) % 2 ^ 64) (pinned (step slots word 1 0 none) me)
  pins_slot holding once s r long at bound =
      let m : ℕ = (n s r at + 1) % 2 ^ 64 in
      let up = count_up (n s r at) bound (few s r at) in
      let new : ℕ → ℕ = put_at (count s r at) k m in (
        record me.0 { counts = pinned_by k me.0.counts },
        keeps,
        tt,
        on_word s r at m (pinned_by k me.0.counts) (pinned_part keeps_it board counts orders r.slots (words_of r.slots s.words) (get_elem? s.homes 0) s.views r.parts id me.0 at k new live holding once
            (ap count_of (here_is s r at m) ∙ up.0 ∙ ap (λ (x : ℕ). suc (count_of x)) (sym (is_count s r at))) (aside s r at m) (same_generations s r at m up.1)),
        (λ j e. ap (λ v. (v, me.1)) (of_slot (λ i. pinned_by i me.0.counts) j e)),
      )

  pub unpins_slot : me.0.shares.order ≡ Holding → 0 < times k me.0.counts.pins → Allows RuleOf slots id me word (λ n. (n + (2 ^ 64 - 1)) % 2 ^ 64) (unpinned (step slots word 1 0 none) me)
  unpins_slot holding has_pin s r long at bound =
      let m : ℕ = (n s r at + (2 ^ 64 - 1)) % 2 ^ 64 in
      let some_count : 0 < count_of (n s r at) = subst (λ (x : ℕ). 0 < count_of x) (is_count s r at)
      (let one = total-has (refs k) (tallies_in s.views) id (tally_of me.0) (at_map tally_of s.views id me.0 at) in let now = r.parts.counted.counted k in omega (arith, one, now, has_pin)) in
      let down = count_down (n s r at) bound some_count in
      let new : ℕ → ℕ = put_at (count s r at) k m in (
        record me.0 { counts = unpinned_by k me.0.counts },
        keeps,
        tt,
        on_word s r at m (unpinned_by k me.0.counts) (unpinned_part keeps_it board counts orders r.slots (words_of r.slots s.words) (get_elem? s.homes 0) s.views r.parts id me.0 at k new holding has_pin
            (ap (λ (x : ℕ). suc (count_of x)) (here_is s r at m) ∙ down.0 ∙ ap count_of (sym (is_count s r at))) (aside s r at m) (same_generations s r at m down.1)),
        (λ j e. ap (λ v. (v, me.1)) (of_slot (λ i. unpinned_by i me.0.counts) j e)),
      )

  pub looks_at_count : me.0.shares.order ≡ Holding → Allows RuleOf slots id me word (λ n. n) (looked_at (step slots word 0 0 none) me)
  looks_at_count holding s r long at bound =
      let home = get_elem? s.homes 0 in
      let ws = words_of r.slots s.words in
      dite (ℕ_discrete (count_of (n s r at)) 0)
      (λ zero_found.
      let c : Counts = found_zero k (generation_of (n s r at)) me.0.counts in (
        record me.0 { counts = c },
        keeps,
        tt,
        on_same s r at c (subst (λ (x : ℕ). Parts keeps_it board counts orders r.slots ws home (set s.views id (record me.0 { counts = found_zero k (generation_of x) me.0.counts }))) (is_count s r at)
            (zero_part keeps_it board counts orders r.slots ws home s.views r.parts id me.0 at k holding (ap count_of (is_count s r at) ∙ zero_found))),
        (λ j e. (
          (λ _. (subst (λ (i : ℕ). NamesNone i me.0) (this_slot j e) (names_none s r at (ap count_of (is_count s r at) ∙ zero_found)), ap (λ v. (v, me.1)) (of_slot (λ i. found_zero i (generation_of (n s r at)) me.0.counts) j e))),
          (λ not_zero. absurd (not_zero zero_found)),
          (λ not_zero. absurd (not_zero zero_found)),
        )),
      ))
      (λ not_zero. dite (ℕ_discrete (times k me.0.counts.pins) 0)
      (λ no_pin.
      let had = counted_is keeps_it board counts orders r.slots ws home s.views r.parts id me.0 at k holding no_pin (subst (λ (x : ℕ). 0 < count_of x) (sym (is_count s r at)) (omega (arith, not_zero))) in
      let c : Counts = found_above k (generation_of (n s r at)) me.0.draws had.0 me.0.counts in (
        record me.0 { counts = c },
        keeps,
        tt,
        on_same s r at c (subst (λ (x : ℕ). Parts keeps_it board counts orders r.slots ws home (set s.views id (record me.0 { counts = found_above k (generation_of x) me.0.draws had.0 me.0.counts }))) (is_count s r at)
            (above_part keeps_it board counts orders r.slots ws home s.views r.parts id me.0 at k live had)),
        (λ j e. (
          (λ zero_found. absurd (not_zero zero_found)),
          (λ _ some_pin. absurd (some_pin (ap (λ (i : ℕ). times i me.0.counts.pins) (sym (this_slot j e)) ∙ no_pin))),
          (λ _ _. (had.0, had.1 ∙ this_slot j e, had.2, ap (λ v. (v, me.1)) (of_slot (λ i. found_above i (generation_of (n s r at)) me.0.draws had.0 me.0.counts) j e))),
        )),
      ))
      (λ some_pin.
      let c : Counts = found_at k (generation_of (n s r at)) me.0.counts in (
        record me.0 { counts = c },
        keeps,
        tt,
        on_same s r at c (subst (λ (x : ℕ). Parts keeps_it board counts orders r.slots ws home (set s.views id (record me.0 { counts = found_at k (generation_of x) me.0.counts }))) (is_count s r at)
            (found_part keeps_it board counts orders r.slots ws home s.views r.parts id me.0 at k)),
        (λ j e. (
          (λ zero_found. absurd (not_zero zero_found)),
          (λ _ _. ap (λ v. (v, me.1)) (of_slot (λ i. found_at i (generation_of (n s r at)) me.0.counts) j e)),
          (λ _ no_pin. absurd (some_pin (ap (λ (i : ℕ). times i me.0.counts.pins) (this_slot j e) ∙ no_pin))),
        )),
      )))

  pub reads_generation : Allows RuleOf slots id me word (λ n. n) (generation_read (step slots word 0 0 none) me)
  reads_generation s r long at bound = (
    me.0,
    keeps,
    tt,
    stays keeps_it board counts orders s word id me r at,
    (
      refl,
      λ i row there e.
          let slot : k ≡ row.held.edge.index = this_slot row.held.edge.index e in
          let right : IsOfRow (words_of r.slots s.words).count row = each_at (IsOfRow (words_of r.slots s.words).count) me.0.draws.rows i row (r.parts.row_generations id me.0 at) there in
          subst (λ (x : ℕ). generation_of x ≡ row.generation) (is_count s r at) (subst (λ (j : ℕ). generation_of (count s r at j) ≡ row.generation) (sym slot) right),
    ),
  )

module _ {S : Type 0} (keeps_it : S → Held → Type 0) (board : S → List (std.Option Held)) (counts : S → ℕ × ℕ × ℕ) (orders : S → Orders) (slots id : ℕ) (me : Sat S) where
  pub reads_sessions : (me.0.draws.live ≡ true) ⊎ (me.0.draws.closing ≡ true) → Allows (TheRule keeps_it board counts orders) slots id me SESSIONS (λ n. n) (sessions_read (step slots SESSIONS 0 0 none) me)
  reads_sessions seated s r long at bound =
      let sized = r.parts.sized id me.0.draws (at_map (λ (v : View). v.draws) s.views id me.0 at) in (
        me.0,
        keeps,
        tt,
        stays keeps_it board counts orders s SESSIONS id me r at,
        (refl, r.parts.sessions_are ∙ sym (⊎_elim (λ l. (sized.0 l).1) (λ c. (sized.1 c).1) seated)),
      )

-- whatever a load of a count found, only counts change
pub looked_counts : {S : Type 0} (m m' : Sat S) (n k : ℕ)
    → (count_of n ≡ 0 → NamesNone k m.0 × IsRecounted m (found_zero k (generation_of n) m.0.counts) m')
    × (count_of n ≢ 0 → times k m.0.counts.pins ≢ 0 → IsRecounted m (found_at k (generation_of n) m.0.counts) m')
    × (count_of n ≢ 0 → times k m.0.counts.pins ≡ 0 → (held : Held) × (held.edge.index ≡ k) × (m.0.draws.holds ≡ true → Knows m.0 held) × IsRecounted m (found_above k (generation_of n) m.0.draws held m.0.counts) m')
    → (c : Counts) × IsRecounted m c m'
looked_counts m m' n k t = dite (ℕ_discrete (count_of n) 0) (λ none. (_, (t.0 none).1))
    (λ counted. dite (ℕ_discrete (times k m.0.counts.pins) 0) (λ unpinned. (_, (t.2 counted unpinned).3)) (λ pinned. (_, t.1 counted pinned)))
