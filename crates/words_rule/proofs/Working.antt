-- What a seat stored and was refused: no part of the rule speaks of it.
use Rattle.std.proofs.Common.{◌≡◌, ◌⊎◌, ℕ, true, List, set, refl, sym, subst}
use Rattle.std.specs.Prelude as std
use Rattle.std.specs.Prelude.{None}
use mathlib.Core.Option.{Option, some}
use lib.ListN.{get_elem?}
use Rattle.atomic_table.specs.Table.{State}
use Rattle.function_laws.specs.SessionEntries.{Each}
use Rattle.function_laws.specs.Tables.{Sizes}
use Rattle.function_laws.specs.EntryOrders.{opening_orders, orders_from}
use Rattle.words_rule.specs.Generations.{IsOfSlot}
use Rattle.words_rule.specs.Holders.{IsHolder}
use Rattle.words_rule.specs.declared.cell.Cell.{Cell}
use Rattle.words_rule.specs.declared.view.Draws.{Draws}
use Rattle.words_rule.specs.declared.view.View.{View}
use Rattle.words_rule.specs.declared.view.Work.{Work}
use Rattle.words_rule.specs.Views.{sizes_for}
use Rattle.words_rule.specs.Layout.{Shape, Words, content_of, words_of}
use Rattle.words_rule.specs.Journal.{Journal}
use Rattle.words_rule.specs.Phase.{Phase, footing_of}
use Rattle.words_rule.specs.Tallies.{Counted, tally_of}
use Rattle.words_rule.specs.Kept.{Kept, Board}
use Rattle.words_rule.specs.Hands.{Tables, Linked}
use Rattle.words_rule.specs.Rule.{Parts, Rule, Tied, draws_in, tallies_in, hands_in}
use Rattle.words_rule.proofs.Seeing.{seen_other}
use Rattle.words_rule.proofs.Lists.{each_set}
use Rattle.words_rule.proofs.Sifting.{steps_same}
use Rattle.words_rule.proofs.Draws.{frame, by_full, by_pending, one_still}
use Rattle.words_rule.proofs.Handed.{ordered_same}
use Rattle.node_store.specs.Contents.{view_of}
use Rattle.words_rule.specs.Remembered.{Remembered}
use Rattle.free_list.specs.FreeSlots.{FreeSlots}

module _ {S : Type 0} (board : S → List (std.Option Cell)) (free_slots : S → FreeSlots) (memo : S → List ℕ) where
  abbrev PartsOf : Shape → Words → (ℕ → Option (Option (std.Option S))) → List View → Type 0
  PartsOf = Parts board free_slots memo

  pub parts_work : (z : Shape) (ws : Words) (home : ℕ → Option (Option (std.Option S))) (vs : List View) (r : PartsOf z ws home vs) (id : ℕ) (v : View) → get_elem? vs id ≡ some v → (x : Work)
      → PartsOf z ws home (set vs id (record v { work = x }))
  parts_work z ws home vs r id v at x =
      let w : View = record v { work = x } in
      let start : Sizes = sizes_for z.variables z.elements in
      let drawn : draws_in (set vs id w) ≡ draws_in vs = frame (λ (v : View). v.draws) vs id v w at refl in
      let tallied : tallies_in (set vs id w) ≡ tallies_in vs = frame tally_of vs id v w at refl in
      let hands : hands_in (set vs id w) ≡ hands_in vs = frame (λ (v : View). v.hand) vs id v w at refl in
      let t = r.tied id v at in record {
        log = r.log;
        table = r.table;
        cells = r.cells;
        function = r.function;
        half = r.half;
        on = r.on;
        chain = r.chain;
        journal = subst (λ (ds : List Draws). Journal ws.journal ws.board_turn ds start r.log r.table) (sym drawn) r.journal;
        phase = subst (Phase ws.phase) (sym (frame footing_of vs id v w at refl)) r.phase;
        counts = subst (Counted ws.count r.cells) (sym tallied) r.counts;
        kept = subst (Kept z r.function r.cells) (sym tallied) r.kept;
        on_board = subst (λ (ds : List Draws). Board board ws.board_turn (home 0) ds r.table r.cells) (sym drawn) r.on_board;
        ordered = ordered_same r.orders (orders_from (opening_orders start) r.log) vs id v w at refl refl r.ordered;
        sound = r.sound;
        remembered = subst (Remembered memo (view_of (content_of z ws.node r.orders r.function r.half)) ws.memo_turn (home 2)) (sym hands) r.remembered;
        tables = subst (Tables free_slots z (content_of z ws.node r.orders r.function r.half) r.on ws.free_turn ws.turn home) (sym hands) r.tables;
        linked = subst (Linked z ws.node ws.next ws.head r.on r.chain) (sym hands) r.linked;
        sifts = steps_same start r.log vs r.sifts id v w at refl refl refl;
        tied = each_set (λ i (f : View). Tied f) vs id w (λ i f apart there. r.tied i f there) (record { zeros = t.zeros; pins = t.pins; taken = t.taken; alone = t.alone; dead = t.dead });
        half_by = by_full (r.half ≡ None) vs id v w at refl r.half_by;
        orders = r.orders;
        pending = r.pending;
        positions = r.positions;
        sized = each_set (λ i (f : View). (f.draws.live ≡ true) ⊎ (f.draws.closing ≡ true) → f.draws.slots ≡ z.slots) vs id w (λ i f apart there. r.sized i f there) (r.sized id v at);
        pending_by = by_pending r.pending vs id v w at refl refl r.pending_by;
        seen = seen_other z ws.node r.function vs r.seen id w (record { words = (r.seen id v at).words; held = (r.seen id v at).held });
        holders = each_set (λ _ (u : View). IsHolder ws.count r.half r.pending u) vs id w (λ i u apart there. r.holders i u there) (r.holders id v at);
        generations = each_set (λ _ (u : View). Each (IsOfSlot ws.count u) u.counts.generations) vs id w (λ i u apart there. r.generations i u there) (r.generations id v at);
      }

  pub rule_work : (s : State (std.Option S) View) (id : ℕ) (v : View) → get_elem? s.views id ≡ some v → (x : Work) → Rule board free_slots memo s
      → Rule board free_slots memo (record { words = s.words; homes = s.homes; views = set s.views id (record v { work = x }) })
  rule_work s id v at x r = record {
    shape = r.shape;
    wide = r.wide;
    long = r.long;
    parts = parts_work r.shape (words_of r.shape s.words) (λ (k : ℕ). get_elem? s.homes k) s.views r.parts id v at x;
    one = one_still r.shape (words_of r.shape s.words).order (words_of r.shape s.words).node (words_of r.shape s.words).count s.views id v (record v { work = x }) at refl r.one;
  }
