-- The full hold is taken, and given up.
use Rattle.std.proofs.Common.{◌≡◌, inl, ⊎_elim, ℕ, ◌-◌, ◌<◌, List, [], set, refl, ap, sym, ◌∙◌, subst, arith, true}
use Rattle.std.specs.Prelude as std
use Rattle.std.specs.Prelude.{None, Some, option_map}
use Rattle.std.specs.Int.Bits.{bit_xor}
use mathlib.Core.Logic.{dite}
use mathlib.Core.Option.{Option, none, some, some-injective}
use native.Mathlib.Decide.{ℕ_discrete}
use lib.ListN.{get_elem?}
use Rattle.atomic_table.specs.Table.{Me, step, keeps, Allows}
use Rattle.atomic_table.proofs.Lists.{at_map, set_else}
use Rattle.seat_guard.proofs.Bits.{xor_set}
use Rattle.function_laws.specs.EntryOrders.{opening_orders, orders_from}
use Rattle.words_rule.specs.declared.cell.Cell.{Cell}
use Rattle.words_rule.specs.declared.view.Known.{Known}
use Rattle.words_rule.specs.declared.view.Neighbours.{Neighbours}
use Rattle.words_rule.specs.declared.view.Hold.TheVariants.{Free, Claimed, Holding}
use Rattle.words_rule.specs.declared.view.View.{View}
use Rattle.words_rule.specs.Views.{orders_of, sizes_for, told_orders}
use Rattle.words_rule.specs.Layout.{Shape, Words}
use Rattle.words_rule.specs.Halves.{half_in, pair_of}
use Rattle.words_rule.specs.Ordered.{KnowsOrders}
use Rattle.words_rule.specs.Phase.{bit, footing_of, order_bit, walks_of, with_full}
use Rattle.words_rule.specs.PhasePlays.{full_left, full_looked, unswapped}
use Rattle.words_rule.specs.Rule.{FullHolder, HalfHolder, Parts, Rule, footings_in}
use Rattle.words_rule.proofs.Lists.{each_set, set_at}
use Rattle.words_rule.proofs.Phases as phases
use Rattle.words_rule.proofs.PhaseSteps.{ends, here, home, low, n, ws}
use Rattle.words_rule.proofs.Rewrites.{order_by_full, parts_known}
use Rattle.words_rule.proofs.Stepping.{parts_full_hold, parts_full_out}
use Rattle.words_rule.proofs.Tabling.{set_set, stays}
use Rattle.words_rule.proofs.Tallying.{total-two}
use Rattle.free_list.specs.FreeSlots.{FreeSlots}

module _ {S : Type 0} (board : S → List (std.Option Cell)) (free_slots : S → FreeSlots) (memo : S → List ℕ) where
  module _ (z : Shape) (ws : Words) (home : ℕ → Option (Option (std.Option S))) (vs : List View) (r : Parts board free_slots memo z ws home vs) (id : ℕ) (v : View) (at : get_elem? vs id ≡ some v) where
    -- who has the full bit is the one with the order
    one_full : 0 < bit v.shares.full → (h : FullHolder vs) → h.1 ≡ v
    one_full some_bit h = dite (ℕ_discrete h.0 id)
        (λ same. some-injective h.1 v (sym h.2 ∙ (ap (λ i. get_elem? vs i) same ∙ at)))
        (λ apart.
        let w = (r.phase.within id (footing_of v) (at_map footing_of vs id v at)).0 in
        let two = total-two order_bit (footings_in vs) id h.0 (footing_of v) (footing_of h.1) apart (at_map footing_of vs id v at) (at_map footing_of vs h.0 h.1 h.2) in
        let his : bit h.1.shares.order ≡ 1 = ap bit (order_by_full board free_slots memo z ws home vs r h.0 h.1 h.2 h.3) in
        let one = r.phase.one in absurd (omega (arith, w, some_bit, two, his, one)))

    claimed_not : Claimed ≡ Holding → ⊥
    claimed_not e = cc

    -- beside a claim nobody has the full hold, so no swap is half made
    none_half : v.shares.full ≡ Claimed → r.half ≡ None
    none_half claim = ⊎_elim (λ is. is) (λ (y : HalfHolder r.half vs). absurd (claimed_not (sym claim ∙ (ap (λ (u : View). u.shares.full) (sym (one_full (let one = ap bit claim in omega (arith, one)) y.0)) ∙ y.0.3)))) r.half_by

    none_due : v.shares.full ≡ Claimed → r.pending ≡ []
    none_due claim = ⊎_elim (λ is. is) (λ (y : (h : FullHolder vs) × (h.1.known.pending ≡ r.pending)). absurd (claimed_not (sym claim ∙ (ap (λ (u : View). u.shares.full) (sym (one_full (let one = ap bit claim in omega (arith, one)) y.0)) ∙ y.0.3)))) r.pending_by

    -- the holder knows whether one is
    pub settled_half : v.shares.full ≡ Holding → v.known.half ≡ None → r.half ≡ None
    settled_half full noted = ⊎_elim (λ is. is) (λ (y : HalfHolder r.half vs). sym y.1 ∙ (ap (λ (u : View). half_in u.known) (one_full (let one = ap bit full in omega (arith, one)) y.0) ∙ ap (λ (o : std.Option Neighbours). option_map pair_of o) noted)) r.half_by

    pub settled_due : v.shares.full ≡ Holding → v.known.pending ≡ [] → r.pending ≡ []
    settled_due full noted = ⊎_elim (λ is. is) (λ (y : (h : FullHolder vs) × (h.1.known.pending ≡ r.pending)). sym y.1 ∙ (ap (λ (u : View). u.known.pending) (one_full (let one = ap bit full in omega (arith, one)) y.0) ∙ noted)) r.pending_by

    -- a view learns that no swap is half made
    parts_unswapped : r.half ≡ None → r.pending ≡ [] → Parts board free_slots memo z ws home (set vs id (record v { known = unswapped v.known }))
    parts_unswapped half due =
        let k : Known = unswapped v.known in
        let w : View = record v { known = k } in
        parts_known board free_slots memo z ws home vs r id v at k ws.order r.orders r.pending r.half r.sound r.remembered r.tables r.positions
        (record {
          settled = λ nobody. r.ordered.settled (λ i u there holding. dite (ℕ_discrete i id)
              (λ same. nobody id w (set_at vs id v w at) (ap (λ (y : View). y.shares.order) (some-injective v u (sym at ∙ (ap (λ j. get_elem? vs j) (sym same) ∙ there))) ∙ holding))
              (λ apart. nobody i u (set_else vs id i w apart ∙ there) holding));
          shared = each_set (λ _ (y : View). KnowsOrders r.orders y) vs id w (λ i y apart there. r.ordered.shared i y there) (r.ordered.shared id v at);
          held = each_set (λ i (f : View). f.shares.order ≡ Holding → (orders_of f.known ≡ r.orders) × (told_orders f.known ≡ orders_from (opening_orders (sizes_for z.variables z.elements)) r.log)) vs id w (λ i f apart there. r.ordered.held i f there) (r.ordered.held id v at);
        })
        (inl half) (inl due) (record { words = (r.seen id v at).words; held = (r.seen id v at).held })
        ((r.holders id v at).0, (λ _. (sym half, sym due))) (λ i y apart there. r.holders i y there)

    pub parts_full_taken : v.shares.order ≡ Holding → v.shares.full ≡ Claimed → walks_of ws.phase ≡ 0 → Parts board free_slots memo z (record ws { phase = ws.phase }) home (set vs id (record v { shares = with_full v.shares Holding ws.phase; known = unswapped v.known }))
    unfolding parts_unswapped parts_known
    parts_full_taken holding claim none_seen =
        let w : View = record v { known = unswapped v.known } in
        subst (λ (l : List View). Parts board free_slots memo z (record ws { phase = ws.phase }) home l) (set_set vs id w (record w { shares = with_full v.shares Holding ws.phase }))
        (parts_full_hold board free_slots memo z ws home (set vs id w) (parts_unswapped (none_half claim) (none_due claim)) id w (set_at vs id v w at) holding claim none_seen (sym (none_half claim), sym (none_due claim)))

    pub parts_full_left : v.shares.full ≡ Holding → v.known.half ≡ None → v.known.pending ≡ [] → Parts board free_slots memo z (record ws { phase = ws.phase - 8589934592 }) home (set vs id (record v { shares = with_full v.shares Free ws.phase }))
    parts_full_left full half due = parts_full_out board free_slots memo z ws home vs r id v at full (settled_half full half) (settled_due full due)

  module _ (slots id : ℕ) (me : Me (std.Option S) View) (live : me.0.draws.live ≡ true) where
    pub full_looks : me.0.shares.order ≡ Holding → me.0.shares.full ≡ Claimed → Allows (Rule board free_slots memo) slots id me 1 (λ k. k) (full_looked (step slots 1 0 0 none) me)
    full_looks holding claim s r long at small =
        let k : ℕ = n board free_slots memo slots id me live s r at in
        dite (ℕ_discrete (walks_of k) 0)
        (λ none_seen. let w : View = record me.0 { shares = with_full me.0.shares Holding k; known = unswapped me.0.known } in (
          w,
          keeps,
          tt,
          ends board free_slots memo slots id me live s r at k k refl w refl (parts_full_taken r.shape (ws board free_slots memo slots id me live s r at) (home board free_slots memo slots id me live s r at) s.views r.parts id me.0 at holding claim none_seen),
          ((λ _. refl), (λ some_seen. absurd (some_seen none_seen))),
        ))
        (λ some_seen. (me.0, keeps, tt, stays board free_slots memo s 1 id me r at, ((λ none_seen. absurd (some_seen none_seen)), (λ _. refl))))

    pub full_leaves : me.0.shares.full ≡ Holding → me.0.known.half ≡ None → me.0.known.pending ≡ [] → Allows (Rule board free_slots memo) slots id me 1 (λ k. bit_xor k 8589934592) (full_left (step slots 1 8589934592 0 none) me)
    full_leaves full half due s r long at small =
        let k : ℕ = n board free_slots memo slots id me live s r at in
        let w : View = record me.0 { shares = with_full me.0.shares Free k } in
        let out = phases.full_cleared k (footings_in s.views) r.parts.phase id (footing_of me.0) (here board free_slots memo slots id me live s r at) (ap bit full) in
        let few = low board free_slots memo slots id me live s r at in
        let most = out.0 in (
          w,
          keeps,
          tt,
          ends board free_slots memo slots id me live s r at (k - 8589934592) (bit_xor k 8589934592) (xor_set k few (omega (arith, few, most))) w refl
              (parts_full_left r.shape (ws board free_slots memo slots id me live s r at) (home board free_slots memo slots id me live s r at) s.views r.parts id me.0 at full half due),
          refl,
        )
