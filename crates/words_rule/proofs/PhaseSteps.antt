-- Whole steps on the phase word.
use Rattle.std.proofs.Common.{◌≡◌, ◌⊎◌, ⊎_elim, ℕ, ◌+◌, ◌-◌, ◌%◌, ◌^◌, ◌<◌, true, List, [], set, get_or, refl, ap, sym, ◌∙◌, subst, arith}
use Rattle.std.specs.Prelude as std
use Rattle.std.specs.Int.Bits.{bit_and, bit_or, bit_xor}
use mathlib.Core.Logic.{dite}
use mathlib.Core.Option.{Option, none, some}
use native.Mathlib.Decide.{ℕ_discrete}
use lib.ListN.{get_elem?}
use Rattle.atomic_table.specs.Table.{State, Me, step, keeps, Allows}
use Rattle.atomic_table.proofs.Lists.{at_map, set_again}
use Rattle.seat_guard.proofs.Bits.{and_set, or_clear, or_set, xor_clear, xor_set}
use Rattle.words_rule.specs.declared.cell.Cell.{Cell}
use Rattle.words_rule.specs.declared.view.Held.{Held}
use Rattle.words_rule.specs.declared.view.Known.{Known}
use Rattle.words_rule.specs.declared.view.Share.TheVariants as shares
use Rattle.words_rule.specs.declared.view.Hold.TheVariants.{Free, Claimed, Holding}
use Rattle.words_rule.specs.declared.view.View.{View}
use Rattle.words_rule.specs.Views.{orders_of, told_orders}
use Rattle.words_rule.specs.Layout.{Shape, Words, words_of}
use Rattle.words_rule.specs.Hands.{IsIdle}
use Rattle.words_rule.specs.Phase.{bit, footing_of, op_weight, ops_of, order_of, walk_weight, weight, with_full, with_op, with_order, with_walk}
use Rattle.words_rule.specs.PhasePlays.{forgetting, full_claimed, full_unclaimed, op_left, order_claimed, order_left, order_looked, order_unclaimed, walk_left}
use Rattle.words_rule.specs.OneSession.{storer_of}
use Rattle.words_rule.specs.Rule.{Parts, Rule, footings_in}
use Rattle.words_rule.proofs.Lists.{set_at}
use Rattle.words_rule.proofs.Layouts.{set_phase}
use Rattle.words_rule.proofs.Phases as phases
use Rattle.words_rule.proofs.Stepping.{parts_op_out, parts_op_debt, parts_walk_out, parts_walk_debt, parts_claim, parts_unclaim, parts_full_claim, parts_full_unclaim}
use Rattle.words_rule.proofs.Holds.{parts_hold, parts_unhold}
use Rattle.words_rule.proofs.Tabling.{after_word, set_set, stays, told_still}
use Rattle.words_rule.proofs.Learning.{parts_noting}
use Rattle.free_list.specs.FreeSlots.{FreeSlots}

module _ {S : Type 0} (board : S → List (std.Option Cell)) (free_slots : S → FreeSlots) (memo : S → List ℕ) (slots id : ℕ) (me : Me (std.Option S) View) (live : me.0.draws.live ≡ true) where
  abbrev pub PartsOf : Shape → Words → (ℕ → Option (Option (std.Option S))) → List View → Type 0
  PartsOf = Parts board free_slots memo

  abbrev pub TheRule : State (std.Option S) View → Type 0
  TheRule = Rule board free_slots memo

  module _ (s : State (std.Option S) View) (r : TheRule s) (at : get_elem? s.views id ≡ some me.0) where
    abbrev pub n : ℕ
    n = get_or s.words 1 0

    abbrev pub ws : Words
    ws = words_of r.shape s.words

    abbrev pub home : ℕ → Option (Option (std.Option S))
    home = λ k. get_elem? s.homes k

    pub here : get_elem? (footings_in s.views) id ≡ some (footing_of me.0)
    here = at_map footing_of s.views id me.0 at

    pub low : n < 17179869184
    low = phases.small_word n (footings_in s.views) r.parts.phase

    -- the word becomes m, and the view this
    pub ends : (m new : ℕ) → new ≡ m → (w : View) → storer_of w ≡ storer_of me.0 → PartsOf r.shape (record ws { phase = m }) home (set s.views id w) → TheRule (record { words = set s.words 1 new; homes = s.homes; views = set s.views id w })
    ends m new is w same parts = after_word board free_slots memo s r 1 new (set s.views id w) s.homes (record ws { phase = m }) refl
        (set_phase r.shape s.words new (let l = r.wide in omega (arith, l)) ∙ ap (λ (k : ℕ). record ws { phase = k }) is) parts (told_still board free_slots memo s r id me.0 w at same)

    -- and what was noted of nodes goes
    ends_forgetting : (m new : ℕ) → new ≡ m → (w : View) → storer_of w ≡ storer_of me.0 → PartsOf r.shape (record ws { phase = m }) home (set s.views id w) → TheRule (record { words = set s.words 1 new; homes = s.homes; views = set s.views id (forgetting w) })
    ends_forgetting m new is w same parts = ends m new is (forgetting w) same (subst (λ (l : List View). PartsOf r.shape (record ws { phase = m }) home l) (set_set s.views id w (forgetting w))
        (parts_noting board free_slots memo r.shape (record ws { phase = m }) home (set s.views id w) parts id w (set_at s.views id me.0 w at) [] [] (λ _. tt) (λ _. tt)))

  pub op_leaves : ((me.0.shares.op ≡ shares.Held) × IsIdle me.0.hand) ⊎ (me.0.shares.op ≡ shares.Owed) → Allows TheRule slots id me 1 (λ k. (k + (2 ^ 64 - 1)) % 2 ^ 64) (op_left (step slots 1 1 0 none) me)
  op_leaves has s r long at small =
      let k : ℕ = n s r at in
      let w : View = record me.0 { shares = with_op me.0.shares shares.Nothing k } in
      let one : op_weight (footing_of me.0) ≡ 1 = ⊎_elim (λ h. ap weight h.0) (λ o. ap weight o) has in
      let some_one = (phases.op_out k (footings_in s.views) r.parts.phase id (footing_of me.0) (here s r at) one).0 in
      let next : (k + (2 ^ 64 - 1)) % 2 ^ 64 ≡ k - 1 = omega (arith, some_one, small) in
      let parts = ⊎_elim (λ h. parts_op_out board free_slots memo r.shape (ws s r at) (home s r at) s.views r.parts id me.0 at h.0 h.1) (λ o. parts_op_debt board free_slots memo r.shape (ws s r at) (home s r at) s.views r.parts id me.0 at o) has in
      (forgetting w, keeps, tt, ends_forgetting s r at (k - 1) ((k + (2 ^ 64 - 1)) % 2 ^ 64) next w refl parts, refl)

  pub walk_leaves : (me.0.shares.walk ≡ shares.Held) ⊎ (me.0.shares.walk ≡ shares.Owed) → Allows TheRule slots id me 1 (λ k. (k + (2 ^ 64 - 65536)) % 2 ^ 64) (walk_left (step slots 1 65536 0 none) me)
  walk_leaves has s r long at small =
      let k : ℕ = n s r at in
      let w : View = record me.0 { shares = with_walk me.0.shares shares.Nothing k } in
      let one : walk_weight (footing_of me.0) ≡ 1 = ⊎_elim (λ h. ap weight h) (λ o. ap weight o) has in
      let some_one = (phases.walk_out k (footings_in s.views) r.parts.phase id (footing_of me.0) (here s r at) one).0 in
      let next : (k + (2 ^ 64 - 65536)) % 2 ^ 64 ≡ k - 65536 = omega (arith, some_one, small) in
      let parts = ⊎_elim (λ h. parts_walk_out board free_slots memo r.shape (ws s r at) (home s r at) s.views r.parts id me.0 at h) (λ o. parts_walk_debt board free_slots memo r.shape (ws s r at) (home s r at) s.views r.parts id me.0 at o) has in
      (forgetting w, keeps, tt, ends_forgetting s r at (k - 65536) ((k + (2 ^ 64 - 65536)) % 2 ^ 64) next w refl parts, refl)

  pub order_claims : me.0.shares.order ≡ Free → Allows TheRule slots id me 1 (λ k. bit_or k 4294967296) (order_claimed (step slots 1 4294967296 0 none) me)
  order_claims free s r long at small =
      let k : ℕ = n s r at in
      dite (ℕ_discrete (order_of k) 0)
      (λ clear. let w : View = record me.0 { shares = with_order me.0.shares Claimed k } in (
        w,
        keeps,
        tt,
        ends s r at (k + 4294967296) (bit_or k 4294967296) (or_clear k (low s r at) clear) w refl (parts_claim board free_slots memo r.shape (ws s r at) (home s r at) s.views r.parts id me.0 at free clear),
        ((λ _. refl), (λ is_set. absurd (is_set clear))),
      ))
      (λ is_set. (
        me.0,
        keeps,
        tt,
        ends s r at k (bit_or k 4294967296) (or_set k (low s r at) is_set) me.0 refl (subst (λ (l : List View). PartsOf r.shape (ws s r at) (home s r at) l) (sym (set_again s.views id me.0 at)) r.parts),
        ((λ clear. absurd (is_set clear)), (λ _. refl)),
      ))

  pub order_looks : me.0.shares.order ≡ Claimed → Allows TheRule slots id me 1 (λ k. k) (order_looked (step slots 1 0 0 none) me)
  order_looks claim s r long at small =
      let k : ℕ = n s r at in
      let os = r.parts.orders in
      let known : Known = record me.0.known { variable_order = os.variables; element_order = os.elements; told_variables = os.variables; told_elements = os.elements; words = []; seen = []; ages = [] } in
      dite (ℕ_discrete (ops_of k) 0)
      (λ none_seen. let w : View = record me.0 { shares = with_order me.0.shares Holding k; known = known } in (
        w,
        keeps,
        tt,
        ends s r at k k refl w refl (parts_hold board free_slots memo r.shape (ws s r at) (home s r at) s.views r.parts id me.0 at known claim none_seen refl refl tt tt tt),
        ((λ _. (os.variables, os.elements, refl)), (λ some_seen. absurd (some_seen none_seen))),
      ))
      (λ some_seen. (me.0, keeps, tt, stays board free_slots memo s 1 id me r at, ((λ none_seen. absurd (some_seen none_seen)), (λ _. refl))))

  pub order_unclaims : me.0.shares.order ≡ Claimed → me.0.shares.full ≡ Free → Allows TheRule slots id me 1 (λ k. bit_and k 18446744069414584319) (order_unclaimed (step slots 1 18446744069414584319 0 none) me)
  order_unclaims claim no_full s r long at small =
      let k : ℕ = n s r at in
      let w : View = record me.0 { shares = with_order me.0.shares Free k } in
      let out = phases.order_cleared k (footings_in s.views) r.parts.phase id (footing_of me.0) (here s r at) (ap bit claim) no_full in
      (w, keeps, tt, ends s r at (k - 4294967296) (bit_and k 18446744069414584319) (and_set k (low s r at) out.1) w refl (parts_unclaim board free_slots memo r.shape (ws s r at) (home s r at) s.views r.parts id me.0 at claim no_full), refl)

  pub order_leaves : me.0.shares.order ≡ Holding → me.0.shares.full ≡ Free → me.0.shares.op ≡ shares.Nothing → IsIdle me.0.hand → me.0.counts.pins ≡ [] → orders_of me.0.known ≡ told_orders me.0.known
      → Allows TheRule slots id me 1 (λ k. bit_and k 18446744069414584319) (order_left (step slots 1 18446744069414584319 0 none) me)
  order_leaves holding no_full no_op idle unpinned told_now s r long at small =
      let k : ℕ = n s r at in
      let w : View = record me.0 { shares = with_order me.0.shares Free k; counts = record me.0.counts { zeros = []; above = [] } } in
      let out = phases.order_cleared k (footings_in s.views) r.parts.phase id (footing_of me.0) (here s r at) (ap bit holding) no_full in (
        forgetting w,
        keeps,
        tt,
        ends_forgetting s r at (k - 4294967296) (bit_and k 18446744069414584319) (and_set k (low s r at) out.1) w refl
            (parts_unhold board free_slots memo r.shape (ws s r at) (home s r at) s.views r.parts id me.0 at holding no_full no_op idle unpinned told_now),
        refl,
      )

  pub full_claims : me.0.shares.order ≡ Holding → me.0.shares.full ≡ Free → Allows TheRule slots id me 1 (λ k. bit_xor k 8589934592) (full_claimed (step slots 1 8589934592 0 none) me)
  full_claims holding free s r long at small =
      let k : ℕ = n s r at in
      let w : View = record me.0 { shares = with_full me.0.shares Claimed k } in
      let out = phases.full_claimed k (footings_in s.views) r.parts.phase id (footing_of me.0) (here s r at) holding free in
      (w, keeps, tt, ends s r at (k + 8589934592) (bit_xor k 8589934592) (xor_clear k (low s r at) out.0) w refl (parts_full_claim board free_slots memo r.shape (ws s r at) (home s r at) s.views r.parts id me.0 at holding free), refl)

  pub full_unclaims : me.0.shares.full ≡ Claimed → Allows TheRule slots id me 1 (λ k. bit_xor k 8589934592) (full_unclaimed (step slots 1 8589934592 0 none) me)
  full_unclaims claim s r long at small =
      let k : ℕ = n s r at in
      let w : View = record me.0 { shares = with_full me.0.shares Free k } in
      let out = phases.full_cleared k (footings_in s.views) r.parts.phase id (footing_of me.0) (here s r at) (ap bit claim) in
      let few = low s r at in
      let most = out.0 in
      (w, keeps, tt, ends s r at (k - 8589934592) (bit_xor k 8589934592) (xor_set k few (omega (arith, few, most))) w refl (parts_full_unclaim board free_slots memo r.shape (ws s r at) (home s r at) s.views r.parts id me.0 at claim), refl)
