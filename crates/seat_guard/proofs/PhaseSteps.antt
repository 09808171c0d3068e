-- Each step on the phase word keeps the rule.
use Rattle.std.proofs.Common.{◌≡◌, ◌⊎◌, ℕ, suc, ◌+◌, ◌-◌, ◌%◌, ◌^◌, ◌<◌, true, cond, List, [], get_or, set, refl, ap, sym, ◌∙◌, inl, inr, arith, length-set}
use Rattle.std.specs.Prelude as std
use Rattle.std.specs.Int.Bits.{bit_and, bit_or, bit_xor}
use mathlib.Core.Logic.{dite}
use mathlib.Core.Option.{none, some}
use native.Mathlib.Decide.{ℕ_discrete, dec_lt}
use lib.ListN.{get_elem?}
use Rattle.atomic_table.specs.Table.{step, keeps, stepped, Allows}
use Rattle.atomic_table.proofs.Lists.{at_map}
use Rattle.seat_guard.specs.declared.layout.TheConstants.{PHASE}
use Rattle.seat_guard.specs.declared.view.Held.{Held as HeldEdge}
use Rattle.seat_guard.specs.declared.view.Share.TheVariants.{Nothing, Held, Owed}
use Rattle.seat_guard.specs.declared.view.Hold.{Hold}
use Rattle.seat_guard.specs.declared.view.Hold.TheVariants.{Free, Claimed, Holding}
use Rattle.seat_guard.specs.declared.view.Counts.{Counts}
use Rattle.seat_guard.specs.CountPlays.{counts_without}
use Rattle.seat_guard.specs.Tallies.{times}
use Rattle.seat_guard.specs.declared.view.Shares.{Shares}
use Rattle.seat_guard.specs.Allots.{parts_of}
use Rattle.seat_guard.specs.Layout.{words_of}
use Rattle.seat_guard.specs.Phase.{Footing, Phase, footing_of, on, op_weight, ops_of, order_bit, order_of, full_bit, passed, saw, walk_weight, walks_of}
use Rattle.seat_guard.specs.PhasePlays.{full_claimed, full_cleared, full_looked, op_entered, op_left, order_claimed, order_cleared, order_looked, walk_entered, walk_left}
use Rattle.seat_guard.specs.Rule.{footings_in}
use Rattle.function_laws.specs.Sizes.{Orders}
use Rattle.seat_guard.proofs.Bits.{and_set, or_clear, or_set, xor_clear, xor_set}
use Rattle.seat_guard.proofs.Keeps.{Sat, St, TheRule, lifts}
use Rattle.seat_guard.proofs.Layouts.{set_phase}
use Rattle.seat_guard.proofs.CountParts.{reshared}
use Rattle.seat_guard.proofs.Phases as phases

free_not : Free ≡ Holding → ⊥
free_not e = cc

claimed_not : Claimed ≡ Holding → ⊥
claimed_not e = cc

-- what is left of the counts as the order bit is cleared
left_counts : (h : Hold) (c : Counts) → ((k : ℕ) → 0 < times k c.zeros → h ≡ Holding) → ((k : ℕ) → 0 < times k c.pins → h ≡ Holding) → (h ≡ Holding → c.pins ≡ [])
    → (((counts_without h c).raised ≡ c.raised) × ((counts_without h c).owed ≡ c.owed) × ((counts_without h c).pins ≡ c.pins) × ((counts_without h c).generations ≡ c.generations))
    × (((counts_without h c).zeros ≡ c.zeros) ⊎ ((counts_without h c).zeros ≡ []))
    × (((counts_without h c).above ≡ c.above) ⊎ ((counts_without h c).above ≡ []))
    × ((k : ℕ) → 0 < times k (counts_without h c).zeros → Free ≡ Holding) × ((k : ℕ) → 0 < times k (counts_without h c).pins → Free ≡ Holding)
left_counts Holding c zeros pins no_pin = ((refl, refl, refl, refl), inr refl, inr refl, (λ k found. absurd (omega (arith, found))), λ k pinned. absurd (let e : times k c.pins ≡ 0 = ap (times k) (no_pin refl) in omega (arith, e, pinned)))
left_counts Free c zeros pins no_pin = ((refl, refl, refl, refl), inl refl, inl refl, zeros, pins)
left_counts Claimed c zeros pins no_pin = ((refl, refl, refl, refl), inl refl, inl refl, (λ k found. absurd (claimed_not (zeros k found))), λ k pinned. absurd (claimed_not (pins k pinned)))

module _ {S : Type 0} (keeps_it : S → HeldEdge → Type 0) (board : S → List (std.Option HeldEdge)) (counts : S → ℕ × ℕ × ℕ) (orders : S → Orders) (slots id : ℕ) (me : Sat S) (live : me.0.draws.live ≡ true) where
  abbrev RuleOf : St S → Type 0
  RuleOf = TheRule keeps_it board counts orders

  abbrev x : Footing
  x = footing_of me.0

  one_part : parts_of me.0.draws ≡ 1
  one_part = ap (λ b. cond b 1 (parts_of (record me.0.draws { live = std.false }))) live

  module _ (s : St S) (r : RuleOf s) (at : get_elem? s.views id ≡ some me.0) where
    abbrev n : ℕ
    n = get_or s.words PHASE 0

    abbrev feet : List Footing
    feet = footings_in s.views

    here : get_elem? feet id ≡ some x
    here = at_map footing_of s.views id me.0 at

    small : n < 17179869184
    small = phases.small_word n feet r.parts.phase

    -- the word becomes m, the shares these, and of the counts what was noted under a hold may go
    recounts_word : (m new : ℕ) (y : Shares) (c : Counts) → new ≡ m → Phase m (set feet id (on x y)) → (c.raised ≡ me.0.counts.raised) × (c.owed ≡ me.0.counts.owed) × (c.pins ≡ me.0.counts.pins) × (c.generations ≡ me.0.counts.generations)
        → (c.zeros ≡ me.0.counts.zeros) ⊎ (c.zeros ≡ []) → (c.above ≡ me.0.counts.above) ⊎ (c.above ≡ [])
        → ((k : ℕ) → 0 < times k c.zeros → y.order ≡ Holding) → ((k : ℕ) → 0 < times k c.pins → y.order ≡ Holding)
        → RuleOf (stepped s PHASE new id me.1 (record me.0 { shares = y; counts = c }) keeps)
    recounts_word m new y c is phase same zeros above found pins =
        lifts keeps_it board counts orders r.slots (set s.words PHASE new) (record (words_of r.slots s.words) { phase = m }) s.homes (set s.views id (record me.0 { shares = y; counts = c })) (length-set s.words PHASE new ∙ r.wide) r.long
        (set_phase r.slots s.words new r.wide ∙ ap (λ (k : ℕ). record (words_of r.slots s.words) { phase = k }) is)
        (reshared keeps_it board counts orders r.slots (words_of r.slots s.words) (get_elem? s.homes 0) s.views r.parts id me.0 at m y c live phase same zeros above found pins)

    -- the word becomes m, and the shares these, of which the order stays
    on_word : (m new : ℕ) (y : Shares) → (me.0.shares.order ≡ Holding → y.order ≡ Holding) → new ≡ m → Phase m (set feet id (on x y)) → RuleOf (stepped s PHASE new id me.1 (record me.0 { shares = y }) keeps)
    on_word m new y stays is phase =
        let t = r.parts.tied id me.0 at in
        recounts_word m new y me.0.counts is phase (refl, refl, refl, refl) (inl refl) (inl refl) (λ k found. stays (t.zeros k found)) (λ k pinned. stays (t.pins k pinned))

  pub op_enters : me.0.shares.op ≡ Nothing → Allows RuleOf slots id me PHASE (λ n. (n + 1) % 2 ^ 64) (op_entered (step slots PHASE 1 0 none) me)
  op_enters free s r long at bound =
      let k : ℕ = n s r at in
      let lt = small s r at in
      let next : (k + 1) % 2 ^ 64 ≡ suc k = omega (arith, lt) in
      let some_part : 0 < parts_of me.0.draws = omega (arith, one_part) in
      dite (dec_lt k 4294967296)
      (λ lets. let y = record (saw me.0.shares k) { op = Held } in (record me.0 { shares = y }, keeps, tt, on_word s r at (suc k) ((k + 1) % 2 ^ 64) y (λ h. h) next (phases.op_held k (feet s r at) r.parts.phase id x (here s r at) some_part free lets), ((λ _. refl), (λ le. absurd (omega (arith, lets, le))))))
      (λ bars. let y = record (saw me.0.shares k) { op = Owed } in (record me.0 { shares = y }, keeps, tt, on_word s r at (suc k) ((k + 1) % 2 ^ 64) y (λ h. h) next (phases.op_owed k (feet s r at) r.parts.phase id x (here s r at) some_part free), ((λ lt. absurd (bars lt)), (λ _. refl))))

  pub op_leaves : op_weight (footing_of me.0) ≡ 1 → Allows RuleOf slots id me PHASE (λ n. (n + (2 ^ 64 - 1)) % 2 ^ 64) (op_left (step slots PHASE 1 0 none) me)
  op_leaves has_one s r long at bound =
      let k : ℕ = n s r at in
      let y = record (passed me.0.shares) { op = Nothing } in
      let out = phases.op_out k (feet s r at) r.parts.phase id x (here s r at) has_one in
      let pos = out.0 in
      let next : (k + (2 ^ 64 - 1)) % 2 ^ 64 ≡ k - 1 = omega (arith, pos, bound) in (record me.0 { shares = y }, keeps, tt, on_word s r at (k - 1) ((k + (2 ^ 64 - 1)) % 2 ^ 64) y (λ h. h) next out.1, refl)

  pub walk_enters : me.0.shares.walk ≡ Nothing → Allows RuleOf slots id me PHASE (λ n. (n + 65536) % 2 ^ 64) (walk_entered (step slots PHASE 65536 0 none) me)
  walk_enters free s r long at bound =
      let k : ℕ = n s r at in
      let lt = small s r at in
      let next : (k + 65536) % 2 ^ 64 ≡ k + 65536 = omega (arith, lt) in
      let some_part : 0 < parts_of me.0.draws = omega (arith, one_part) in
      dite (dec_lt k 8589934592)
      (λ lets. let y = record (saw me.0.shares k) { walk = Held } in (record me.0 { shares = y }, keeps, tt, on_word s r at (k + 65536) ((k + 65536) % 2 ^ 64) y (λ h. h) next (phases.walk_held k (feet s r at) r.parts.phase id x (here s r at) some_part free lets), ((λ _. refl), (λ le. absurd (omega (arith, lets, le))))))
      (λ bars. let y = record (saw me.0.shares k) { walk = Owed } in (record me.0 { shares = y }, keeps, tt, on_word s r at (k + 65536) ((k + 65536) % 2 ^ 64) y (λ h. h) next (phases.walk_owed k (feet s r at) r.parts.phase id x (here s r at) some_part free), ((λ lt. absurd (bars lt)), (λ _. refl))))

  pub walk_leaves : walk_weight (footing_of me.0) ≡ 1 → Allows RuleOf slots id me PHASE (λ n. (n + (2 ^ 64 - 65536)) % 2 ^ 64) (walk_left (step slots PHASE 65536 0 none) me)
  walk_leaves has_one s r long at bound =
      let k : ℕ = n s r at in
      let y = record (passed me.0.shares) { walk = Nothing } in
      let out = phases.walk_out k (feet s r at) r.parts.phase id x (here s r at) has_one in
      let pos = out.0 in
      let next : (k + (2 ^ 64 - 65536)) % 2 ^ 64 ≡ k - 65536 = omega (arith, pos, bound) in (record me.0 { shares = y }, keeps, tt, on_word s r at (k - 65536) ((k + (2 ^ 64 - 65536)) % 2 ^ 64) y (λ h. h) next out.1, refl)

  pub order_claims : me.0.shares.order ≡ Free → Allows RuleOf slots id me PHASE (λ n. bit_or n 4294967296) (order_claimed (step slots PHASE 4294967296 0 none) me)
  order_claims free s r long at bound =
      let k : ℕ = n s r at in
      dite (ℕ_discrete (order_of k) 0)
      (λ clear. let y = record (saw me.0.shares k) { order = Claimed } in (record me.0 { shares = y }, keeps, tt, on_word s r at (k + 4294967296) (bit_or k 4294967296) y (λ h. absurd (free_not (sym free ∙ h))) (or_clear k (small s r at) clear) (phases.order_claimed k (feet s r at) r.parts.phase id x (here s r at) free clear), ((λ _. refl), (λ is_set. absurd (is_set clear)))))
      (λ is_set. (record me.0 { shares = saw me.0.shares k }, keeps, tt, on_word s r at k (bit_or k 4294967296) (saw me.0.shares k) (λ h. h) (or_set k (small s r at) is_set) (phases.looks k (feet s r at) r.parts.phase id x (here s r at)), ((λ clear. absurd (is_set clear)), (λ _. refl))))

  pub order_looks : me.0.shares.order ≡ Claimed → Allows RuleOf slots id me PHASE (λ n. n) (order_looked (step slots PHASE 0 0 none) me)
  order_looks claim s r long at bound =
      let k : ℕ = n s r at in
      dite (ℕ_discrete (ops_of k) 0)
      (λ none_seen. let y = record (saw me.0.shares k) { order = Holding } in (record me.0 { shares = y }, keeps, tt, on_word s r at k k y (λ h. refl) refl (phases.order_held k (feet s r at) r.parts.phase id x (here s r at) claim none_seen), ((λ _. refl), (λ some_seen. absurd (some_seen none_seen)))))
      (λ some_seen. (record me.0 { shares = saw me.0.shares k }, keeps, tt, on_word s r at k k (saw me.0.shares k) (λ h. h) refl (phases.looks k (feet s r at) r.parts.phase id x (here s r at)), ((λ none_seen. absurd (some_seen none_seen)), (λ _. refl))))

  pub order_clears : order_bit (footing_of me.0) ≡ 1 → me.0.shares.full ≡ Free → (me.0.shares.order ≡ Holding → me.0.counts.pins ≡ []) → Allows RuleOf slots id me PHASE (λ n. bit_and n 18446744069414584319) (order_cleared (step slots PHASE 18446744069414584319 0 none) me)
  order_clears set_bit no_full no_pin s r long at bound =
      let k : ℕ = n s r at in
      let y = record (passed me.0.shares) { order = Free } in
      let c = counts_without me.0.shares.order me.0.counts in
      let t = r.parts.tied id me.0 at in
      let out = phases.order_cleared k (feet s r at) r.parts.phase id x (here s r at) set_bit no_full in
      let left = left_counts me.0.shares.order me.0.counts t.zeros t.pins no_pin in (
        record me.0 { shares = y; counts = c },
        keeps,
        tt,
        recounts_word s r at (k - 4294967296) (bit_and k 18446744069414584319) y c (and_set k (small s r at) out.1) out.2 left.0 left.1 left.2 left.3 left.4,
        refl,
      )

  pub full_claims : me.0.shares.order ≡ Holding → me.0.shares.full ≡ Free → Allows RuleOf slots id me PHASE (λ n. bit_xor n 8589934592) (full_claimed (step slots PHASE 8589934592 0 none) me)
  full_claims holding free s r long at bound =
      let k : ℕ = n s r at in
      let y = record (passed me.0.shares) { full = Claimed } in
      let out = phases.full_claimed k (feet s r at) r.parts.phase id x (here s r at) holding free in (record me.0 { shares = y }, keeps, tt, on_word s r at (k + 8589934592) (bit_xor k 8589934592) y (λ h. h) (xor_clear k (small s r at) out.0) out.1, refl)

  pub full_looks : me.0.shares.full ≡ Claimed → Allows RuleOf slots id me PHASE (λ n. n) (full_looked (step slots PHASE 0 0 none) me)
  full_looks claim s r long at bound =
      let k : ℕ = n s r at in
      dite (ℕ_discrete (walks_of k) 0)
      (λ none_seen. let y = record (saw me.0.shares k) { full = Holding } in (record me.0 { shares = y }, keeps, tt, on_word s r at k k y (λ h. h) refl (phases.full_held k (feet s r at) r.parts.phase id x (here s r at) claim none_seen), ((λ _. refl), (λ some_seen. absurd (some_seen none_seen)))))
      (λ some_seen. (record me.0 { shares = saw me.0.shares k }, keeps, tt, on_word s r at k k (saw me.0.shares k) (λ h. h) refl (phases.looks k (feet s r at) r.parts.phase id x (here s r at)), ((λ none_seen. absurd (some_seen none_seen)), (λ _. refl))))

  pub full_clears : full_bit (footing_of me.0) ≡ 1 → Allows RuleOf slots id me PHASE (λ n. bit_xor n 8589934592) (full_cleared (step slots PHASE 8589934592 0 none) me)
  full_clears set_bit s r long at bound =
      let k : ℕ = n s r at in
      let y = record (passed me.0.shares) { full = Free } in
      let out = phases.full_cleared k (feet s r at) r.parts.phase id x (here s r at) set_bit in (record me.0 { shares = y }, keeps, tt, on_word s r at (k - 8589934592) (bit_xor k 8589934592) y (λ h. h) (xor_set k (small s r at) out.1) out.2, refl)
