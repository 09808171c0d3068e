-- A seat with both holds takes an operation share, and keeps both bits as claims.
use Rattle.std.proofs.Common.{◌≡◌, ◌≢◌, inl, inr, ℕ, suc, ◌+◌, ◌-◌, ◌%◌, ◌^◌, ◌<◌, cond, true, List, [], ◌∷◌, set, get_or, length, refl, ap, sym, ◌∙◌, subst, arith}
use Rattle.std.specs.Prelude as std
use Rattle.std.specs.Prelude.{None}
use mathlib.Core.Option.{Option, none, some}
use lib.ListN.{get_elem?}
use Rattle.atomic_table.specs.Table.{State, Me, step, keeps, Allows}
use Rattle.atomic_table.proofs.Lists.{at_map}
use Rattle.function_laws.specs.EntryOrders.{opening_orders, orders_from}
use Rattle.function_laws.specs.Tables.{Sizes}
use Rattle.words_rule.specs.declared.cell.Cell.{Cell}
use Rattle.words_rule.specs.declared.view.Counts.{Counts}
use Rattle.words_rule.specs.declared.view.Held.{Held}
use Rattle.words_rule.specs.declared.view.Hold.TheVariants.{Claimed, Holding}
use Rattle.words_rule.specs.declared.view.Known.{Known}
use Rattle.words_rule.specs.declared.view.Share.TheVariants as shares
use Rattle.words_rule.specs.declared.view.Shares.{Shares}
use Rattle.words_rule.specs.declared.view.View.{View}
use Rattle.words_rule.specs.Hands.{IsIdle}
use Rattle.words_rule.specs.Holds.{IsUnswapped}
use Rattle.words_rule.specs.Layout.{Shape, Words, words_of}
use Rattle.words_rule.specs.Ordered.{KnowsOrders}
use Rattle.words_rule.specs.Phase.{claims, footing_of, with_op}
use Rattle.words_rule.specs.PhasePlays.{op_kept}
use Rattle.words_rule.specs.Rule.{Parts, Rule, footings_in, tallies_in}
use Rattle.words_rule.specs.Tallies.{parts_of, tally_of, times}
use Rattle.words_rule.specs.Views.{orders_of, sizes_for, told_orders}
use Rattle.words_rule.proofs.Entering.{op_parts, op_rows, op_stands, op_view}
use Rattle.words_rule.proofs.FullSteps.{settled_due, settled_half}
use Rattle.words_rule.proofs.Handling.{never as no_some}
use Rattle.words_rule.proofs.Holds.{parts_any}
use Rattle.words_rule.proofs.Layouts.{set_phase}
use Rattle.words_rule.proofs.Lists.{each_set, set_at}
use Rattle.words_rule.proofs.Phases as phases
use Rattle.words_rule.proofs.Sifting.{steps_quiet}
use Rattle.words_rule.proofs.Tabling.{after_word, set_set, told_still}
use Rattle.words_rule.proofs.Tallying.{recounts}
use Rattle.free_list.specs.FreeSlots.{FreeSlots}

module _ {S : Type 0} (board : S → List (std.Option Cell)) (free_slots : S → FreeSlots) (memo : S → List ℕ) where
  abbrev PartsOf : Shape → Words → (ℕ → Option (Option (std.Option S))) → List View → Type 0
  PartsOf = Parts board free_slots memo

  abbrev TheRule : State (std.Option S) View → Type 0
  TheRule = Rule board free_slots memo

  abbrev Sat : Type 0
  Sat = Me (std.Option S) View

  -- the seat behind that step, but for what it notes of nodes
  abbrev kept_view : View → ℕ → View
  kept_view v n = record v { shares = with_op (claims v.shares) shares.Held n; known = record v.known { words = []; seen = [] }; counts = record v.counts { zeros = []; above = [] } }

  module _ (z : Shape) (ws : Words) (home : ℕ → Option (Option (std.Option S))) (vs : List View) (r : PartsOf z ws home vs) (id : ℕ) (v : View) (at : get_elem? vs id ≡ some v) where
    pub parts_kept : 0 < parts_of v.draws → v.shares.order ≡ Holding → v.shares.full ≡ Holding → v.shares.op ≡ shares.Nothing → IsIdle v.hand → v.counts.pins ≡ [] → orders_of v.known ≡ told_orders v.known → IsUnswapped v
        → PartsOf z (record ws { phase = suc ws.phase }) home (set vs id (kept_view v ws.phase))
    parts_kept some_part holding full no_op idle unpinned told_now done =
        let w : View = kept_view v ws.phase in
        let start : Sizes = sizes_for z.variables z.elements in
        let t = r.tied id v at in
        let tally_at = at_map tally_of vs id v at in
        let kept = r.kept.each id (tally_of v) tally_at in
        let h = r.ordered.held id v at holding in
        let others : (i : ℕ) (u : View) → i ≢ id → get_elem? vs i ≡ some u → u.shares.order ≡ Holding → ⊥ =
        λ i u apart there other. phases.one_order ws.phase (footings_in vs) r.phase id i (footing_of v) (footing_of u) apart (at_map footing_of vs id v at) (at_map footing_of vs i u there) holding other in
        parts_any board free_slots memo z ws home vs r id v at w.shares w.known w.counts (suc ws.phase) (phases.op_kept ws.phase (footings_in vs) r.phase id (footing_of v) (at_map footing_of vs id v at) some_part no_op holding full)
        (record {
          settled = λ _. sym h.0 ∙ told_now ∙ h.1;
          shared = each_set (λ _ (y : View). KnowsOrders r.orders y) vs id w (λ i y apart there. r.ordered.shared i y there) (λ _. h.0);
          held = each_set (λ i (u : View). u.shares.order ≡ Holding → (orders_of u.known ≡ r.orders) × (told_orders u.known ≡ orders_from (opening_orders start) r.log)) vs id w
              (λ i u apart there other. absurd (others i u apart there other)) (λ other. absurd (claimed_not other));
        })
        (recounts ws.count r.cells (tallies_in vs) r.counts id (tally_of v) (tally_of w) tally_at (λ k. refl) refl refl (λ k zeros. absurd (omega (arith, zeros))) (λ k. refl) (omega arith))
        (record { rows = kept.rows; raised = kept.raised; owed = kept.owed })
        (record { zeros = λ k zeros. absurd (omega (arith, zeros)); pins = λ k pins. absurd (let e : times k v.counts.pins ≡ 0 = ap (times k) unpinned in omega (arith, e, pins)); taken = λ busy. inl refl; alone = λ n walk whole. absurd (no_some n (sym idle.2 ∙ walk)); dead = t.dead })
        (steps_quiet start r.log vs r.sifts id v w at refl refl (λ j y e. (j, e)) (λ l. tt) (λ l. r.sifts.owes id v at l))
        (inl (settled_half board free_slots memo z ws home vs r id v at full done.half)) (inl (settled_due board free_slots memo z ws home vs r id v at full done.pending))
        (record { words = λ _. tt; held = λ _. tt }) (r.generations id v at)
        ((λ other. absurd (claimed_not other)), (λ other. absurd (claimed_not other)))
      where
        claimed_not : Claimed ≡ Holding → ⊥
        claimed_not e = cc

  pub keeps_share : (slots id : ℕ) (me : Sat) → me.0.draws.live ≡ true → me.0.shares.order ≡ Holding → me.0.shares.full ≡ Holding → me.0.shares.op ≡ shares.Nothing → IsIdle me.0.hand → me.0.counts.pins ≡ [] → orders_of me.0.known ≡ told_orders me.0.known → IsUnswapped me.0
      → Allows TheRule slots id me 1 (λ n. (n + 1) % 2 ^ 64) (op_kept (step slots 1 1 0 none) me)
  keeps_share slots id me live holding full no_op idle unpinned told_now done s r long at small =
      let z = r.shape in
      let p = r.parts in
      let v = me.0 in
      let n : ℕ = get_or s.words 1 0 in
      let home = λ (k : ℕ). get_elem? s.homes k in
      let ws : Words = words_of z s.words in
      let ws1 : Words = record ws { phase = suc n } in
      let few = phases.small_word n (footings_in s.views) p.phase in
      let next : (n + 1) % 2 ^ 64 ≡ suc n = omega (arith, few) in
      let has_part : 0 < parts_of v.draws = let e : parts_of v.draws ≡ 1 = ap (λ b. cond b 1 (cond v.draws.closing ((64 - v.draws.given) + length v.draws.gone) 0)) live in omega (arith, e) in
      let words : words_of z (set s.words 1 ((n + 1) % 2 ^ 64)) ≡ ws1 = set_phase z s.words ((n + 1) % 2 ^ 64) (let l = r.wide in omega (arith, l)) ∙ ap (λ (k : ℕ). record ws { phase = k }) next in
      let v1 : View = kept_view v n in
      let p1 : PartsOf z ws1 home (set s.views id v1) = parts_kept z ws home s.views p id v at has_part holding full no_op idle unpinned told_now done in
      let at1 = set_at s.views id v v1 at in
      let u : View = op_view board free_slots memo z ws1 home (set s.views id v1) p1 id v1 at1 live in (
        u,
        keeps,
        tt,
        after_word board free_slots memo s r 1 ((n + 1) % 2 ^ 64) (set s.views id u) s.homes ws1 refl words
            (subst (λ (l : List View). PartsOf z ws1 home l) (set_set s.views id v1 u) (op_parts board free_slots memo z ws1 home (set s.views id v1) p1 id v1 at1 live)) (told_still board free_slots memo s r id v u at refl),
        (
          refl,
          record {
            draws = refl;
            counts = refl;
            hand = refl;
            work = refl;
            stored = refl;
            shares = refl;
            stands = op_stands board free_slots memo z ws1 home (set s.views id v1) p1 id v1 at1 live refl;
            rows = op_rows board free_slots memo z ws1 home (set s.views id v1) p1 id v1 at1 live refl;
          },
        ),
      )
