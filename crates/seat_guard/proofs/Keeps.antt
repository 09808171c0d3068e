-- Each step keeps the rule.
use Rattle.std.proofs.Common.{◌≡◌, ℕ, suc, ◌+◌, ◌*◌, ◌%◌, ◌^◌, ◌<◌, ◌≤◌, ◌==◌, true, List, [], ◌∷◌, length, get_or, set, refl, ap, sym, subst, ◌∙◌, arith, length-set, eq-eqb, ne_eqb, false}
use Rattle.std.specs.Prelude as std
use mathlib.Core.Logic.{dite}
use mathlib.Core.Option.{Option, none, some}
use Rattle.std.proofs.Math.Nat.{mod-eq_of_lt}
use native.Mathlib.Decide.{ℕ_discrete}
use lib.ListN.{get_elem?}
use lib.Seq.{set-get_or}
use prog.Atomic.{either}
use Rattle.edge_bits.specs.declared.limits.TheConstants.{MOST_SESSIONS}
use Rattle.atomic_table.specs.Table.{State, Me, step, keeps, takes, gives, stepped, Allows, Splits, Joins, rest}
use Rattle.atomic_table.proofs.Lists.{set_again, at_map, set_here}
use Rattle.function_laws.specs.declared.history.Function.{Function}
use Rattle.function_laws.specs.declared.history.Entry.{Entry}
use Rattle.function_laws.specs.Tables.{opening}
use Rattle.function_laws.specs.Sizes.{Orders}
use Rattle.function_laws.specs.EntryOrders.{opening_orders, orders_from}
use Rattle.seat_guard.specs.declared.guard.TheConstants.{CLOSING_TURN}
use Rattle.seat_guard.specs.declared.layout.TheConstants.{JOURNAL, TURN}
use Rattle.seat_guard.specs.declared.view.Held.{Held}
use Rattle.seat_guard.specs.declared.view.Telling.{Telling}
use Rattle.seat_guard.specs.declared.view.Leaving.{Leaving}
use Rattle.seat_guard.specs.declared.view.View.{View}
use Rattle.seat_guard.specs.Layout.{Words, word_count, words_of}
use Rattle.seat_guard.specs.Moves.{MayMove}
use Rattle.seat_guard.specs.Phase.{HasNoShare}
use Rattle.seat_guard.specs.Views.{MayTell, viewed, blank, joined_with, session_of, holding, letting_go, with_draws, one_more, noting}
use Rattle.seat_guard.specs.Turn.{Serves}
use Rattle.seat_guard.specs.Rule.{Parts, Rule, AllBack, ended, took, gave, drew, looked, closed, draws_in}
use Rattle.function_laws.proofs.SessionEntryLemmas.{places_low, short}
use Rattle.seat_guard.proofs.Journals.{whole_of}
use Rattle.seat_guard.proofs.Layouts.{set_journal, set_turn}
use Rattle.seat_guard.proofs.PartSteps.{all_placed, given_back, moved, noted_now, placed, taken, taken_last}
use Rattle.seat_guard.proofs.SeatSteps.{joined, split_off}

abbrev pub St : Type 0 → Type 0
St S = State (std.Option S) View

abbrev pub Sat : Type 0 → Type 0
Sat S = Me (std.Option S) View

module _ {S : Type 0} (keeps_it : S → Held → Type 0) (board : S → List (std.Option Held)) (counts : S → ℕ × ℕ × ℕ) (orders : S → Orders) where
  abbrev pub TheRule : St S → Type 0
  TheRule = Rule keeps_it board counts orders

  abbrev PartsOf : ℕ → Words → Option (Option (std.Option S)) → List View → Type 0
  PartsOf = Parts keeps_it board counts orders

  -- the rule of words that are what these are
  pub lifts : (slots : ℕ) (ws : List ℕ) (new : Words) (hs : List (Option (std.Option S))) (vs : List View) → length ws ≡ word_count slots → length hs ≡ 1 → words_of slots ws ≡ new → PartsOf slots new (get_elem? hs 0) vs → TheRule (record { words = ws; homes = hs; views = vs })
  lifts slots ws new hs vs wide long same parts = record { slots = slots; wide = wide; long = long; parts = subst (λ (w : Words). PartsOf slots w (get_elem? hs 0) vs) (sym same) parts }

  -- a step that changes nothing
  pub stays : (s : St S) (i id : ℕ) (me : Sat S) → TheRule s → get_elem? s.views id ≡ some me.0 → TheRule (stepped s i (get_or s.words i 0) id me.1 me.0 keeps)
  stays s i id me r at = subst (λ (x : List ℕ × List View). TheRule (record { words = x.0; homes = s.homes; views = x.1 })) (λ k. (sym (set-get_or s.words i 0) k, sym (set_again s.views id me.0 at) k)) r

  pub takes_turn : (functions : S → List Function) (slots id : ℕ) (me : Sat S) (new : ℕ) → me.0.draws.live ≡ true → me.1 ≡ [] → new ≡ suc me.0.draws.session
      → Allows TheRule slots id me TURN (λ n. either (n == 0) new n) (took keeps_it board counts orders functions (step slots TURN 0 new none) me)
  takes_turn functions slots id me new live free is s r long at small = dite (ℕ_discrete (get_or s.words TURN 0) 0)
      (λ hit.
      let t = taken keeps_it board counts orders r.slots (words_of r.slots s.words) (get_elem? s.homes 0) s.views r.parts id me.0 at functions (get_elem? (set s.homes 0 none) 0) live hit in
      let x : S = t.0 in
      let w = with_draws me.0 (holding me.0.draws (board x) t.1 (orders x) (functions x)) in
      let rule : TheRule (record { words = set s.words TURN new; homes = set s.homes 0 none; views = set s.views id w }) =
      lifts r.slots (set s.words TURN new) (record (words_of r.slots s.words) { turn = suc me.0.draws.session }) (set s.homes 0 none) (set s.views id w) (length-set s.words TURN new ∙ r.wide) (length-set s.homes 0 none ∙ r.long)
      (set_turn r.slots s.words new r.wide ∙ ap (λ (n : ℕ). record (words_of r.slots s.words) { turn = n }) is) t.5 in (
        w,
        takes 0 (std.Some x),
        t.2,
        subst (λ b. TheRule (stepped s TURN (either b new (get_or s.words TURN 0)) id me.1 w (takes 0 (std.Some x)))) (sym (eq-eqb (get_or s.words TURN 0) 0 hit)) rule,
        ((λ _. (x, t.1, refl, ap (λ l. (0, std.Some x) ∷ l) free, t.3, t.4)), (λ miss. absurd (miss hit))),
      ))
      (λ miss. (
        me.0,
        keeps,
        tt,
        subst (λ b. TheRule (stepped s TURN (either b new (get_or s.words TURN 0)) id me.1 me.0 keeps)) (sym (ne_eqb (get_or s.words TURN 0) 0 miss)) (stays s TURN id me r at),
        ((λ hit. absurd (miss hit)), (λ _. refl)),
      ))

  pub takes_last : (slots id : ℕ) (me : Sat S) → me.0.draws.closing ≡ true → me.1 ≡ [] → AllBack me.0.draws
      → Allows TheRule slots id me TURN (λ n. either (n == 0) CLOSING_TURN n) (ended keeps_it board counts orders (step slots TURN 0 CLOSING_TURN none) me)
  takes_last slots id me is free back s r long at small = dite (ℕ_discrete (get_or s.words TURN 0) 0)
      (λ hit.
      let t = taken_last keeps_it board counts orders r.slots (words_of r.slots s.words) (get_elem? s.homes 0) s.views r.parts id me.0 at (get_elem? (set s.homes 0 none) 0) is back hit in
      let x : S = t.0 in
      let rule : TheRule (record { words = set s.words TURN CLOSING_TURN; homes = set s.homes 0 none; views = s.views }) =
      lifts r.slots (set s.words TURN CLOSING_TURN) (record (words_of r.slots s.words) { turn = CLOSING_TURN }) (set s.homes 0 none) s.views (length-set s.words TURN CLOSING_TURN ∙ r.wide) (length-set s.homes 0 none ∙ r.long)
      (set_turn r.slots s.words CLOSING_TURN r.wide) t.3 in (
        me.0,
        takes 0 (std.Some x),
        t.1,
        subst (λ b. TheRule (stepped s TURN (either b CLOSING_TURN (get_or s.words TURN 0)) id me.1 me.0 (takes 0 (std.Some x)))) (sym (eq-eqb (get_or s.words TURN 0) 0 hit))
            (subst (λ (v : List View). TheRule (record { words = set s.words TURN CLOSING_TURN; homes = set s.homes 0 none; views = v })) (sym (set_again s.views id me.0 at)) rule),
        ((λ _. (x, refl, ap (λ l. (0, std.Some x) ∷ l) free, t.2)), (λ miss. absurd (miss hit))),
      ))
      (λ miss. (
        me.0,
        keeps,
        tt,
        subst (λ b. TheRule (stepped s TURN (either b CLOSING_TURN (get_or s.words TURN 0)) id me.1 me.0 keeps)) (sym (ne_eqb (get_or s.words TURN 0) 0 miss)) (stays s TURN id me r at),
        ((λ hit. absurd (miss hit)), (λ _. refl)),
      ))

  pub gives_turn : (slots id : ℕ) (me : Sat S) (x : S) (leaving : Leaving) → me.0.draws.holds ≡ true → me.1 ≡ (0, std.Some x) ∷ [] → Serves keeps_it board counts orders x me.0.draws me.0.counts
      → Allows TheRule slots id me TURN (λ _. 0) (λ _. gave leaving (step slots TURN 0 0 none) me 0)
  gives_turn slots id me x leaving holds has serves s r long at small =
      let w = with_draws me.0 (letting_go me.0.draws leaving) in
      let hs = set s.homes 0 (some (std.Some x)) in
      let back : get_elem? hs 0 ≡ some (some (std.Some x)) = set_here s.homes 0 (some (std.Some x)) (let l = r.long in omega (arith, l)) in (
        w,
        gives,
        tt,
        subst (λ (c : List (ℕ × std.Option S)). TheRule (stepped s TURN 0 id c w gives)) (sym has)
            (lifts r.slots (set s.words TURN 0) (record (words_of r.slots s.words) { turn = 0 }) hs (set s.views id w) (length-set s.words TURN 0 ∙ r.wide) (length-set s.homes 0 (some (std.Some x)) ∙ r.long) (set_turn r.slots s.words 0 r.wide)
            (subst (λ (h : Option (Option (std.Option S))). PartsOf r.slots (record (words_of r.slots s.words) { turn = 0 }) h (set s.views id w)) (sym back)
            (given_back keeps_it board counts orders r.slots (words_of r.slots s.words) (get_elem? s.homes 0) s.views r.parts id me.0 at x leaving holds serves))),
        (refl, ap rest has),
      )

  small_mod : (k : ℕ) → k ≤ 64 * 2 ^ 48 → (k + 1) % 2 ^ 64 ≡ suc k
  small_mod k le = let one : k + 1 ≡ suc k = omega arith in mod-eq_of_lt (omega (arith, le)) ∙ one

  from_zero : (k n : ℕ) → n ≡ k → 0 + k ≡ n
  from_zero k n is = omega (arith, is)

  -- the entries of a seat stand below the place
  later : (s : St S) (r : TheRule s) (id : ℕ) (v : View) → get_elem? s.views id ≡ some v → v.draws.live ≡ true → std.All (λ (e : Entry). e.place < get_or s.words JOURNAL 0) v.draws.entries
  later s r id v at live =
      let p = r.parts in
      let here = at_map (λ (v : View). v.draws) s.views id v at in
      let mine = ((p.journal.each id v.draws here).live live).mine in
      λ k e l. subst (λ (z : List Entry × ℕ). std.All (λ (e : Entry). e.place < z.1) z.0) (λ i. (mine i, from_zero (length p.log) (get_or s.words JOURNAL 0) p.journal.drawn i)) (places_low p.log 0 (opening p.start) v.draws.session p.journal.legal) k e l

  pub draws_place : (slots id : ℕ) (me : Sat S) (x : Telling) → me.0.draws.live ≡ true → length me.0.draws.entries < 2 ^ 48 → MayTell me.0.draws x → MayMove me.0.draws me.0.counts x
      → Allows TheRule slots id me JOURNAL (λ n. (n + 1) % 2 ^ 64) (drew x (step slots JOURNAL 1 0 none) me)
  draws_place slots id me x live room may moves s r long at small =
      let p = r.parts in
      let n : ℕ = get_or s.words JOURNAL 0 in
      let m : ℕ = (n + 1) % 2 ^ 64 in
      let is : n ≡ length p.log = p.journal.drawn in
      let few : length p.log ≤ MOST_SESSIONS * 2 ^ 48 = short MOST_SESSIONS (2 ^ 48) p.log p.journal.bounded p.journal.beyond in
      let next : m ≡ suc (length p.log) = ap (λ (k : ℕ). (k + 1) % 2 ^ 64) is ∙ small_mod (length p.log) few in
      let now : Orders = orders_from (opening_orders p.start) p.log in
      let w : View = moved now me.0 n x in (
        w,
        keeps,
        tt,
        lifts r.slots (set s.words JOURNAL m) (record (words_of r.slots s.words) { journal = suc (length p.log) }) s.homes (set s.views id w) (length-set s.words JOURNAL m ∙ r.wide) r.long
            (set_journal r.slots s.words m r.wide ∙ ap (λ (k : ℕ). record (words_of r.slots s.words) { journal = k }) next)
            (subst (λ (k : ℕ). PartsOf r.slots (record (words_of r.slots s.words) { journal = suc (length p.log) }) (get_elem? s.homes 0) (set s.views id (moved now me.0 k x))) (sym is)
            (placed keeps_it board counts orders r.slots (words_of r.slots s.words) (get_elem? s.homes 0) s.views p id me.0 at x live room may moves)),
        (now, (λ holds. sym (p.turn.ordered id me.0.draws (at_map (λ (v : View). v.draws) s.views id me.0 at) holds)), refl, refl, later s r id me.0 at live),
      )

  pub looks_last : (slots id : ℕ) (me : Sat S) → Allows TheRule slots id me JOURNAL (λ n. n) (closed (step slots JOURNAL 0 0 none) me)
  looks_last slots id me s r long at small =
      let p = r.parts in (
        me.0,
        keeps,
        tt,
        stays s JOURNAL id me r at,
        (refl, λ c. whole_of (get_or s.words JOURNAL 0) (get_or s.words TURN 0) (draws_in s.views) p.start p.log p.table p.journal id me.0.draws (at_map (λ (v : View). v.draws) s.views id me.0 at) c (all_placed keeps_it board counts orders r.slots (words_of r.slots s.words) (get_elem? s.homes 0) s.views p id me.0 at c)),
      )

  pub looks_at : (slots id : ℕ) (me : Sat S) → me.0.draws.holds ≡ true → Allows TheRule slots id me JOURNAL (λ n. n) (looked (step slots JOURNAL 0 0 none) me)
  looks_at slots id me holds s r long at small =
      let w = with_draws me.0 (noting me.0.draws (get_or s.words JOURNAL 0)) in (
        w,
        keeps,
        tt,
        subst (λ (l : List ℕ). TheRule (record { words = l; homes = s.homes; views = set s.views id w })) (sym (set-get_or s.words JOURNAL 0))
            (lifts r.slots s.words (words_of r.slots s.words) s.homes (set s.views id w) r.wide r.long refl (noted_now keeps_it board counts orders r.slots (words_of r.slots s.words) (get_elem? s.homes 0) s.views r.parts id me.0 at holds)),
        (refl, refl, later s r id me.0 at ((r.parts.journal.each id me.0.draws (at_map (λ (v : View). v.draws) s.views id me.0 at)).holder holds)),
      )

  pub splits : (id : ℕ) (v : View) → v.draws.closing ≡ true → v.draws.given < v.draws.sessions → Splits TheRule id v (with_draws v (one_more v.draws)) (viewed (session_of v.draws))
  splits id v is room s r at = record { slots = r.slots; wide = r.wide; long = r.long; parts = split_off keeps_it board counts orders r.slots (words_of r.slots s.words) (get_elem? s.homes 0) s.views r.parts id v at is room }

  pub joins : (id : ℕ) (v : View) (other : ℕ) (w : View) → v.draws.closing ≡ true → w.draws.live ≡ true → w.draws.holds ≡ false → HasNoShare w.shares → w.counts.raised ≡ [] → w.counts.owed ≡ [] → Joins TheRule id v other w (joined_with v w.draws) (viewed blank)
  joins id v other w is live free idle unraised unowed s r at apart there = record { slots = r.slots; wide = r.wide; long = r.long; parts = joined keeps_it board counts orders r.slots (words_of r.slots s.words) (get_elem? s.homes 0) s.views r.parts id v at is other w apart there live free idle unraised unowed }
