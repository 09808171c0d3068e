-- The load of a count word under the order hold.
use Rattle.std.proofs.Common.{inl, inr, ◌≡◌, ℕ, ◌<◌, true, List, ◌∷◌, get_or, set, refl, ap, sym, ◌∙◌, subst, arith}
use Rattle.std.specs.Prelude as std
use Rattle.std.specs.Prelude.{Some, None}
use mathlib.Core.Logic.{dite}
use mathlib.Core.Option.{Option, none, some, some-injective}
use native.Mathlib.Decide.{ℕ_discrete, dec_lt}
use lib.ListN.{get_elem?}
use lib.Seq.{set-get_or}
use Rattle.atomic_table.specs.Table.{Me, step, keeps, Allows}
use Rattle.atomic_table.proofs.Lists.{at_map}
use Rattle.function_laws.specs.declared.history.Function.{Function}
use Rattle.function_laws.specs.Kinds.{Denoted, flipped}
use Rattle.handle_count.specs.CountWords.{count_of}
use Rattle.words_rule.specs.declared.cell.Cell.{Cell}
use Rattle.words_rule.specs.declared.view.Held.{Held}
use Rattle.words_rule.specs.declared.view.Row.{Row}
use Rattle.words_rule.specs.declared.view.Hold.TheVariants.{Holding}
use Rattle.words_rule.specs.declared.view.View.{View}
use Rattle.words_rule.specs.Shapes.{shape_in}
use Rattle.words_rule.specs.Layout.{Shape, Words, count_at, words_of}
use Rattle.words_rule.specs.Kept.{IsHeldBy, whole_of}
use Rattle.words_rule.specs.Known.{noted_function}
use Rattle.words_rule.specs.Phase.{footing_of}
use Rattle.words_rule.specs.Tallies.{Tally, cells_count, held_count, refs, row_count, tally_of, times}
use Rattle.words_rule.specs.CountLoads.{HasCounted, count_loaded}
use Rattle.words_rule.specs.OneSession.{storer_of}
use Rattle.words_rule.specs.Rule.{Parts, Rule, footings_in, tallies_in}
use Rattle.words_rule.proofs.Lists.{each_at, map_at}
use Rattle.words_rule.proofs.Layouts.{here_count}
use Rattle.words_rule.proofs.Meeting.{seen_true}
use Rattle.words_rule.proofs.Noting.{cell_some, held_some, parts_above, row_some, total_some}
use Rattle.words_rule.proofs.Phases.{one_order}
use Rattle.words_rule.proofs.Pinning.{parts_zero}
use Rattle.words_rule.proofs.Stepping.{shape_is}
use Rattle.words_rule.proofs.Tabling.{stays}
use Rattle.words_rule.proofs.Tallying.{total-has}
use Rattle.words_rule.proofs.Draws.{one_still}
use Rattle.words_rule.proofs.OneLoads.{finds_told}
use Rattle.free_list.specs.FreeSlots.{FreeSlots}

-- a slot of which an edge is held denotes something
denotes_held : (z : Shape) (function : ℕ → std.Option Denoted) (k : ℕ) (held : Held) → held.edge.index ≡ k → IsHeldBy z function held → (o : Denoted) × (function k ≡ Some o)
denotes_held z function k held at is = by (function k) refl
  where
    never : (c : std.Bool) (o : Denoted) → flipped c None ≡ Some o → ⊥
    never std.true o e = cc
    never std.false o e = cc

    by : (o : std.Option Denoted) → function k ≡ o → (o : Denoted) × (function k ≡ Some o)
    by (Some o) e = (o, e)
    by None e = absurd (never held.edge.complement is.0 (ap (flipped held.edge.complement) (sym (ap function at ∙ e)) ∙ is.1))

module _ {S : Type 0} (board : S → List (std.Option Cell)) (free_slots : S → FreeSlots) (memo : S → List ℕ) where
  module _ (z : Shape) (ws : Words) (home : ℕ → Option (Option (std.Option S))) (vs : List View) (r : Parts board free_slots memo z ws home vs) (id : ℕ) (v : View) (at : get_elem? vs id ≡ some v) (holding : v.shares.order ≡ Holding) where
    -- so does one that is counted, and not by a pin of the holder's own
    pub counted_denotes : (k : ℕ) → times k v.counts.pins ≡ 0 → 0 < count_of (ws.count k) → (o : Denoted) × (r.function k ≡ Some o)
    counted_denotes k unpinned lt = dite (dec_lt 0 (cells_count k r.cells))
        (λ some_cell. let c = cell_some z r.function k r.cells r.kept.cells_kept some_cell in denotes_held z r.function k c.1 c.3 c.4)
        (λ no_cell. by_view (total_some (refs k) (tallies_in vs) (let c = r.counts.counted k in omega (arith, c, lt, no_cell))))
      where
        by_view : (i : ℕ) × (t : Tally) × (get_elem? (tallies_in vs) i ≡ some t) × (0 < refs k t) → (o : Denoted) × (r.function k ≡ Some o)
        by_view x =
            let i : ℕ = x.0 in
            let m = map_at tally_of vs i x.1 x.2 in
            let u : View = m.0 in
            let some_ref : 0 < refs k (tally_of u) = subst (λ (t : Tally). 0 < refs k t) (sym m.2) x.3 in
            let kept = r.kept.each i (tally_of u) (at_map tally_of vs i u m.1) in
            dite (dec_lt 0 (row_count k u.draws.rows))
            (λ some_row. let row = row_some k u.draws.rows some_row in denotes_held z r.function k row.1.held row.3 (each_at (λ (row : Row). IsHeldBy z r.function row.held) u.draws.rows row.0 row.1 kept.rows row.2))
            (λ no_row. dite (dec_lt 0 (held_count k u.counts.raised))
            (λ some_raised. let h = held_some k u.counts.raised some_raised in denotes_held z r.function k h.1 h.3 (each_at (IsHeldBy z r.function) u.counts.raised h.0 h.1 kept.raised h.2))
            (λ no_raised. dite (dec_lt 0 (held_count k u.counts.owed))
            (λ some_owed. let h = held_some k u.counts.owed some_owed in denotes_held z r.function k h.1 h.3 (each_at (IsHeldBy z r.function) u.counts.owed h.0 h.1 kept.owed h.2))
            (λ no_owed. absurd (let pinned : 0 < times k u.counts.pins = omega (arith, some_ref, no_row, no_raised, no_owed) in
            dite (ℕ_discrete i id)
            (λ same. let e : times k u.counts.pins ≡ 0 = ap (λ (y : View). times k y.counts.pins) (some-injective u v (sym m.1 ∙ (ap (λ j. get_elem? vs j) same ∙ at))) ∙ unpinned in omega (arith, e, pinned))
            (λ apart. one_order ws.phase (footings_in vs) r.phase id i (footing_of v) (footing_of u) apart (at_map footing_of vs id v at) (at_map footing_of vs i u m.1) holding ((r.tied i u m.1).pins k pinned))))))

    -- what a seat noted of the slot is what it denotes
    noted_same : (k : ℕ) (o : Denoted) → r.function k ≡ Some o → (g : Function) → noted_function v.known.seen k ≡ Some g → whole_of z o ≡ g
    noted_same k o is g noted =
        let p = seen_true (IsHeldBy z r.function) v.known.seen ((r.seen id v at).held (inl (inr holding))) k g noted in
        ap (whole_of z) (some_same o p.0 (sym is ∙ p.1)) ∙ p.2
      where
        some_same : (a b : Denoted) → Some a ≡ Some b → a ≡ b
        some_same a b e = cc

    -- what is found at 0 is nobody's
    pub none_own : (k : ℕ) → count_of (ws.count k) ≡ 0 → refs k (tally_of v) ≡ 0
    none_own k zero_it =
        let has = total-has (refs k) (tallies_in vs) id (tally_of v) (at_map tally_of vs id v at) in
        let counted = r.counts.counted k in omega (arith, has, counted, zero_it)

  -- as the table asks for it
  pub loads_count : (slots id : ℕ) (me : Me (std.Option S) View) (word k : ℕ) → word ≡ count_at (shape_in me.0.draws) k → k < me.0.draws.slots → me.0.draws.live ≡ true → me.0.shares.order ≡ Holding
      → Allows (Rule board free_slots memo) slots id me word (λ n. n) (count_loaded (step slots word 0 0 none) me)
  loads_count slots id me at_word k is inside live holding = subst (λ (i : ℕ). Allows (Rule board free_slots memo) slots id me i (λ n. n) (count_loaded (step slots i 0 0 none) me)) (sym is)
      (λ s r long at small.
      let z = r.shape in
      let p = r.parts in
      let v = me.0 in
      let ws = words_of z s.words in
      let home : ℕ → Option (Option (std.Option S)) = λ j. get_elem? s.homes j in
      let i : ℕ = count_at (shape_in v.draws) k in
      let n : ℕ = get_or s.words i 0 in
      let shape = shape_is board free_slots memo z ws home s.views p id v at live in
      let below : k < z.slots = subst (λ (y : Shape). k < y.slots) (sym shape) inside in
      let found : ws.count k ≡ n = here_count z s.words 0 k below ∙ ap (λ (y : Shape). get_or s.words (count_at y k) 0) shape in
      let counts : count_of (ws.count k) ≡ count_of n = ap count_of found in
      let one : (j : ℕ) → i ≡ count_at (shape_in v.draws) j → k ≡ j = λ j same. omega (arith, same) in
      let still : 0 < times k v.counts.zeros → count_of n ≡ refs k (tally_of v) = λ zeros. sym counts ∙ p.counts.still id (tally_of v) (at_map tally_of s.views id v at) k zeros in
      let whole : (u : View) → storer_of u ≡ storer_of v → Parts board free_slots memo z ws home (set s.views id u) → Rule board free_slots memo (record { words = set s.words i n; homes = s.homes; views = set s.views id u }) =
      λ u same parts. subst (λ (l : List ℕ). Rule board free_slots memo (record { words = l; homes = s.homes; views = set s.views id u })) (sym (set-get_or s.words i 0)) (record { shape = z; wide = r.wide; long = r.long; parts = parts; one = one_still z ws.order ws.node ws.count s.views id v u at same r.one }) in
      dite (ℕ_discrete (count_of n) 0)
      (λ zero_it. let u : View = record v { counts = record v.counts { zeros = k ∷ v.counts.zeros } } in (
        u,
        keeps,
        tt,
        whole u refl (parts_zero board free_slots memo z ws home s.views p id v at k holding (counts ∙ zero_it)),
        (
          refl,
          refl,
          (λ j same. subst (λ (j : ℕ). HasCounted j (count_of n) v u) (one j same) (record {
            none = λ _. (none_own z ws home s.views p id v at holding k (counts ∙ zero_it), refl);
            some = λ not_zero _. absurd (not_zero zero_it);
            pinned = λ not_zero _. absurd (not_zero zero_it);
            still = still;
          })),
          finds_told board free_slots memo s r id me.0 at live i,
        ),
      ))
      (λ some_there. dite (ℕ_discrete (times k v.counts.pins) 0)
      (λ unpinned.
      let lt : 0 < count_of (ws.count k) = omega (arith, counts, some_there) in
      let o = counted_denotes z ws home s.views p id v at holding k unpinned lt in
      let u : View = record v { counts = record v.counts { above = whole_of z o.0 ∷ v.counts.above } } in (
        u,
        keeps,
        tt,
        whole u refl (parts_above board free_slots memo z ws home s.views p id v at k o.0 live holding unpinned o.1 lt),
        (
          refl,
          refl,
          (λ j same. subst (λ (j : ℕ). HasCounted j (count_of n) v u) (one j same) (record {
            none = λ zero_it. absurd (some_there zero_it);
            some = λ _ _. record { function = whole_of z o.0; is = refl; same = noted_same z ws home s.views p id v at holding k o.0 o.1 };
            pinned = λ _ pinned. absurd (pinned unpinned);
            still = still;
          })),
          finds_told board free_slots memo s r id me.0 at live i,
        ),
      ))
      (λ pinned. (
        v,
        keeps,
        tt,
        stays board free_slots memo s i id me r at,
        (
          refl,
          refl,
          (λ j same. subst (λ (j : ℕ). HasCounted j (count_of n) v v) (one j same) (record {
            none = λ zero_it. absurd (some_there zero_it);
            some = λ _ unpinned. absurd (pinned unpinned);
            pinned = λ _ _. refl;
            still = still;
          })),
          finds_told board free_slots memo s r id me.0 at live i,
        ),
      ))))
