-- A slot is freed under the full hold.
use Rattle.std.proofs.Common.{◌≡◌, ◌≢◌, ℕ, ◌+◌, ◌<◌, ◌==◌, List, length, [], ◌∷◌, set, refl, ap, sym, subst, ◌∙◌, inr, arith, eq-eqb, true}
use Rattle.std.specs.Prelude as std
use Rattle.std.specs.Prelude.{Some, None, option_map}
use mathlib.Core.Option.{Option, some}
use lib.ListN.{get_elem?}
use Rattle.atomic_table.proofs.Lists.{at_map}
use Rattle.edge_bits.specs.Words.{unpack_of}
use Rattle.handle_count.specs.CountWords.{count_of}
use Rattle.function_laws.specs.Kinds.{Denoted, BddFunction, ValueOf, function_of, joined_at, flipped}
use Rattle.function_laws.specs.Values.{projection, constant, negation}
use Rattle.function_laws.proofs.ValueLemmas.{everywhere}
use Rattle.edge_bits.specs.Assignments.{bit}
use Rattle.edge_bits.specs.declared.edges.Kind.{Kind}
use Rattle.edge_bits.specs.declared.edges.Kind.TheVariants.{Bdd, Add, Zdd}
use Rattle.std.specs.Prelude.{cond, Bool, true, false}
use Rattle.function_laws.specs.SessionEntries.{Each}
use Rattle.node_store.specs.Contents.{Content, IsSound, projection_node, view_of}
use Rattle.edge_bits.specs.declared.words.Word.TheVariants.{Inner}
use Rattle.node_store.specs.Changes.{put_at, CanFree, without}
use Rattle.node_store.proofs.Rewriting.{put_at-same, put_at-other}
use Rattle.node_store.proofs.Freeing.{freed_sound}
use Rattle.words_rule.specs.declared.cell.Cell.{Cell}
use Rattle.words_rule.specs.declared.view.Held.{Held}
use Rattle.words_rule.specs.declared.view.Row.{Row}
use Rattle.words_rule.specs.declared.view.Hand.{Hand}
use Rattle.words_rule.specs.declared.view.Hold.TheVariants.{Holding}
use Rattle.words_rule.specs.declared.view.View.{View}
use Rattle.words_rule.specs.Layout.{Shape, Words, content_of}
use Rattle.words_rule.specs.Tallies.{Tally, Counted, tally_of, one_if, row_count, held_count, cells_count, times, refs}
use Rattle.words_rule.specs.Kept.{IsHeldBy, IsKeptCell, Kept}
use Rattle.words_rule.specs.Hands.{Tables, freeing}
use Rattle.words_rule.specs.Seen.{StandsSo}
use Rattle.words_rule.specs.Rule.{Parts, tallies_in, hands_in}
use Rattle.words_rule.proofs.Seeing.{seen_alone}
use Rattle.words_rule.proofs.Tallying.{total-has}
use Rattle.words_rule.proofs.Handling.{never as no_some, frees_it}
use Rattle.words_rule.proofs.Linking.{words_it, hand_links}
use Rattle.words_rule.proofs.Layouts.{content_set}
use Rattle.words_rule.proofs.Draws.{by_full}
use Rattle.words_rule.proofs.Handed.{moved, parts_moved}
use Rattle.words_rule.proofs.Rewrites.{order_by_full, holders_now, nobody_takes, nobody_keeps}
use Rattle.words_rule.specs.Halves.{half_in, pair_of}
use Rattle.words_rule.specs.declared.view.Known.{Known}
use Rattle.words_rule.specs.declared.view.Neighbours.{Neighbours}
use Rattle.words_rule.specs.Views.{orders_of, told_orders}
use Rattle.words_rule.proofs.Remembering.{remembered_still}
use Rattle.free_list.specs.FreeSlots.{FreeSlots}

-- generations are no matter of this part
pub sound_whatever : (w : Content) (g : ℕ → ℕ) → IsSound w → IsSound (record w { generation = g })
sound_whatever w g s = record {
  variables = s.variables;
  elements = s.elements;
  few_variables = s.few_variables;
  few_elements = s.few_elements;
  within = s.within;
  few_slots = s.few_slots;
  denotes = s.denotes;
  used = s.used;
  constants = s.constants;
  logic_one = s.logic_one;
  empty_family = s.empty_family;
  base_family = s.base_family;
  projections = s.projections;
  nodes = λ t node f word is. let n = s.nodes t node f word is in record { kind = n.kind; high = n.high; low = n.low; in_range = n.in_range; high_is = n.high_is; low_is = n.low_is; is = n.is; high_lacks = n.high_lacks; low_lacks = n.low_lacks; proper = n.proper };
  leaves = s.leaves;
  apart = s.apart;
  regular = s.regular;
  of_store = s.of_store;
  ordered = s.ordered;
  few_counts = s.few_counts;
  uncounted = s.uncounted;
  unpinned = s.unpinned;
}

-- who names another slot keeps its function
module _ (z : Shape) (function : ℕ → std.Option Denoted) (s : ℕ) where
  gone : ℕ → std.Option Denoted
  gone = put_at function s None

  pub still : (held : Held) → held.edge.index ≢ s → IsHeldBy z function held → IsHeldBy z (put_at function s None) held
  still held off is = (is.0, ap (flipped held.edge.complement) (put_at-other function s held.edge.index None off) ∙ is.1, is.2)

  not_one : (a n : ℕ) → one_if (a == s) + n ≡ 0 → (a ≢ s) × (n ≡ 0)
  not_one a n e = ((λ is. let one : one_if (a == s) ≡ 1 = ap one_if (eq-eqb a s is) in omega (arith, e, one)), omega (arith, e))

  rows_still : (rows : List Row) → row_count s rows ≡ 0 → Each (λ (row : Row). IsHeldBy z function row.held) rows → Each (λ (row : Row). IsHeldBy z (put_at function s None) row.held) rows
  rows_still [] e all = tt
  rows_still (row ∷ rows) e all = let n = not_one row.held.edge.index (row_count s rows) e in (still row.held n.0 all.0, rows_still rows n.1 all.1)

  held_still : (xs : List Held) → held_count s xs ≡ 0 → Each (IsHeldBy z function) xs → Each (IsHeldBy z (put_at function s None)) xs
  held_still [] e all = tt
  held_still (x ∷ xs) e all = let n = not_one x.edge.index (held_count s xs) e in (still x n.0 all.0, held_still xs n.1 all.1)

  cells_still : (cells : List (std.Option Held)) → cells_count s cells ≡ 0 → Each (IsKeptCell z function) cells → Each (IsKeptCell z (put_at function s None)) cells
  cells_still [] e all = tt
  cells_still (None ∷ cells) e all = (tt, cells_still cells e all.1)
  cells_still (Some x ∷ cells) e all = let n = not_one x.edge.index (cells_count s cells) e in (still x n.0 all.0, cells_still cells n.1 all.1)

  pub kept_freed : (count : ℕ → ℕ) (cells : List (std.Option Held)) (ts : List Tally) → Counted count cells ts → count_of (count s) ≡ 0 → ((u : ℕ) → u < z.variables → 5 + u ≢ s) → Kept z function cells ts → Kept z (put_at function s None) cells ts
  kept_freed count cells ts c zero_now spare k =
      let all = c.counted s in record {
        each = λ id t at. let e = k.each id t at in let has = total-has (refs s) ts id t at in record {
          rows = rows_still t.rows (omega (arith, all, zero_now, has)) e.rows;
          raised = held_still t.counts.raised (omega (arith, all, zero_now, has)) e.raised;
          owed = held_still t.counts.owed (omega (arith, all, zero_now, has)) e.owed;
        };
        fixed = λ u lt. put_at-other function s (5 + u) None (spare u lt) ∙ k.fixed u lt;
        cells_kept = cells_still cells (omega (arith, all, zero_now)) k.cells_kept;
      }

-- the node of a projection denotes it, in the middle of a swap too
module _ (w : Content) (sound : IsSound w) where
  projected : (v : ℕ) (k : Kind) (high low : ℕ → ValueOf k) → std.Some (BddFunction (constant true)) ≡ std.Some (function_of k high) → std.Some (BddFunction (negation (constant true))) ≡ std.Some (function_of k low)
      → function_of k (joined_at k v high low) ≡ BddFunction (projection v)
  projected v Bdd high low h l =
      let high_is : constant true ≡ high = cc in
      let low_is : negation (constant true) ≡ low = cc in
      ap BddFunction (everywhere (joined_at Bdd v high low) (projection v) (λ k. rw (sym high_is, sym low_is) (at (bit k v))))
    where
      at : (b : Bool) → cond b true false ≡ b
      at true = refl
      at false = refl
  projected v Add high low h l = cc
  projected v Zdd high low h l = cc

  pub projection_there : (s v : ℕ) → w.word s ≡ std.Some (Inner (projection_node v)) → w.function s ≡ std.Some (BddFunction (projection v))
  projection_there s v word =
      let d = sound.denotes s (Inner (projection_node v), word) in
      let n = sound.nodes s (projection_node v) d.0 word d.1 in
      d.1 ∙ ap std.Some (n.is ∙ projected v n.kind n.high n.low (sym sound.logic_one ∙ n.high_is) (ap (flipped true) (sym sound.logic_one) ∙ n.low_is))

module _ {S : Type 0} (board : S → List (std.Option Cell)) (free_slots : S → FreeSlots) (memo : S → List ℕ) where
  abbrev PartsOf : Shape → Words → (ℕ → Option (Option (std.Option S))) → List View → Type 0
  PartsOf = Parts board free_slots memo

  -- the free store: the computed table is in hand, the slot is on no chain, its count was found at 0 under the hold, and this seat has none of it; no node names it, and the seat's notes no longer do
  pub parts_free : (z : Shape) (ws : Words) (home : ℕ → Option (Option (std.Option S))) (vs : List View) (r : PartsOf z ws home vs) (id : ℕ) (v : View) → get_elem? vs id ≡ some v
      → (s bits : ℕ) (list : List ℕ) → bits < 18446744073709551616 → CanFree (content_of z ws.node r.orders r.function r.half) s
      → v.shares.full ≡ Holding → v.hand.memo ≡ true → v.hand.taken ≡ None → v.hand.loose ≡ Some s → v.hand.free ≡ Some list
      → 0 < times s v.counts.zeros → refs s (tally_of v) ≡ 0 → (known : Known) → orders_of known ≡ orders_of v.known → told_orders known ≡ told_orders v.known → known.pending ≡ v.known.pending → known.ages ≡ v.known.ages → known.half ≡ v.known.half
      → Each (StandsSo (put_at ws.node s bits) v) known.words → Each (IsHeldBy z (put_at r.function s None)) known.seen → unpack_of bits ≡ None
      → PartsOf z (record ws { node = put_at ws.node s bits }) home (set vs id (moved v (freeing s list v.hand) known))
  parts_free z ws home vs r id v at s bits list small can full has_memo none_taken loose free zeros mine known orders told due ages same_half words seen reads =
      let w : Content = content_of z ws.node r.orders r.function r.half in
      let h : Hand = freeing s list v.hand in
      let nd : ℕ → ℕ = put_at ws.node s bits in
      let function : ℕ → std.Option Denoted = put_at r.function s None in
      let new : Content = record w { word = put_at w.word s None; function = function } in
      let content : content_of z nd r.orders function r.half ≡ new = content_set z ws.node r.orders r.function function r.half r.half s bits None reads in
      let t = r.tied id v at in
      let u : View = moved v h known in
      let half_is : half_in known ≡ r.half = ap (option_map pair_of) same_half ∙ ((r.holders id v at).1 full).0 in
      let hand_at = at_map (λ (u : View). u.hand) vs id v at in
      let own = r.tables.loosened id v.hand hand_at s loose in
      let holding = order_by_full board free_slots memo z ws home vs r id v at full in
      let linked = words_it z ws.node ws.next ws.head r.on r.chain (hands_in vs) r.linked s bits small own.1 in
      let zero_now : count_of (ws.count s) ≡ 0 = r.counts.still id (tally_of v) (at_map tally_of vs id v at) s zeros ∙ mine in
      parts_moved board free_slots memo z ws home vs r id v at h known ws.free_turn ws.memo_turn ws.turn nd ws.next ws.head home function r.half r.on r.chain refl orders told due
      (kept_freed z r.function s ws.count r.cells (tallies_in vs) r.counts zero_now
      (λ u lt same.
      let within : u < length r.orders.variables = subst (λ (n : ℕ). u < n) (sym r.positions.variables_long) lt in
      let there = r.sound.projections u within in
      let at_s : there.0 ≡ s = r.sound.apart there.0 (5 + u) (BddFunction (projection u)) (projection_there w r.sound there.0 u there.1) (r.kept.fixed u lt) ∙ same in
      can.spare (inr (u, within, ap w.word (sym at_s) ∙ there.1)))
      r.kept)
      (subst IsSound (sym content) (sound_whatever (without w s) w.generation (freed_sound w r.sound s can)))
      (remembered_still memo (view_of w) (view_of (content_of z nd r.orders function r.half)) ws.memo_turn (home 2) (home 2) (hands_in vs) id v.hand h hand_at (inr (r.remembered.held id v.hand hand_at has_memo).1) refl refl r.remembered)
      (subst (λ (c : Content). Tables free_slots z c r.on ws.free_turn ws.turn home (set (hands_in vs) id h)) (sym content)
      (frees_it free_slots z w r.on ws.free_turn ws.turn home (hands_in vs) r.tables id v.hand hand_at s new list loose free (r.sound.within s (own.2.0, own.2.1)) (put_at-same w.word s None) (λ q ne. put_at-other w.word s q None ne)
      (nobody_takes board free_slots memo z ws home vs r id v at holding none_taken)))
      (hand_links z nd ws.next ws.head r.on r.chain (hands_in vs) linked id h (λ k its. absurd (no_some k its)) (linked.walks id v.hand hand_at) (r.linked.wholes id v.hand hand_at))
      (record { zeros = t.zeros; pins = t.pins; taken = λ _. inr holding; alone = t.alone; dead = λ gone. absurd (no_some list (sym (t.dead gone).4 ∙ free)) })
      (by_full (r.half ≡ None) vs id v u at (ap (λ (n : std.Option Neighbours). (v.shares, n)) same_half) r.half_by)
      (seen_alone z ws.node r.function vs r.seen id u nd function (nobody_keeps board free_slots memo z ws home vs r id v at full) (record { words = λ has. words; held = λ has. seen }))
      (holders_now board free_slots memo z ws home vs r id v at u r.half r.pending full refl ages half_is (due ∙ ((r.holders id v at).1 full).1))
