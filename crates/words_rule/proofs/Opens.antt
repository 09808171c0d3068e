-- A new table has the rule.
use Rattle.std.proofs.Common.{◌≡◌, ◌≢◌, ◌⊎◌, inl, inr, ℕ, zero, suc, ◌+◌, subst, ◌*◌, ◌^◌, ◌<◌, ◌≤◌, true, false, cond, pos, List, [], ◌∷◌, length, refl, ap, sym, ◌∙◌, subst, arith, true≢false}
use Rattle.std.specs.Prelude as std
use Rattle.std.specs.Prelude.{Some, None, replicate}
use Rattle.std.proofs.lemmas.Bool.{cases_lt, lt-ltb, le-ltb}
use Rattle.std.proofs.lemmas.List.FromFn.{length-range_with_len}
use mathlib.Core.Option.{Option, none, some, some-injective, some-ne-none}
use lib.ListN.{get_elem?}
use Rattle.edge_bits.specs.declared.words.Word.TheVariants.{Inner, Leaf}
use Rattle.edge_bits.specs.declared.words.Word.{Word}
use Rattle.handle_count.specs.CountWords.{count_of}
use Rattle.function_laws.specs.declared.history.Function.{Function}
use Rattle.function_laws.specs.Kinds.{Denoted}
use Rattle.function_laws.specs.SessionEntries.{Each}
use Rattle.function_laws.specs.Tables.{Sizes, opening}
use Rattle.function_laws.specs.EntryOrders.{opening_orders}
use Rattle.node_store.specs.Contents.{Content, IsSound, projection_node}
use Rattle.words_rule.specs.Ordered.{KnowsOrders}
use Rattle.words_rule.specs.Generations.{IsOfSlot}
use Rattle.words_rule.specs.Holders.{IsHolder}
use Rattle.words_rule.specs.declared.cell.Cell.{Cell}
use Rattle.words_rule.specs.declared.view.Held.{Held}
use Rattle.words_rule.specs.declared.view.Link.{Link}
use Rattle.words_rule.specs.declared.view.Walk.{Walk}
use Rattle.words_rule.specs.declared.view.Job.{Job}
use Rattle.words_rule.specs.declared.view.Hand.{Hand}
use Rattle.words_rule.specs.declared.view.Draws.{Draws}
use Rattle.words_rule.specs.declared.view.View.{View}
use Rattle.words_rule.specs.declared.view.Opening.{Opening}
use Rattle.words_rule.specs.declared.view.Hold.TheVariants.{Holding}
use Rattle.words_rule.specs.Views.{sizes_for, cell_in, orders_of, shown, told_orders}
use Rattle.words_rule.specs.Layout.{Shape, Words, levels, heads, head_of, word_count, words_of, content_of}
use Rattle.words_rule.specs.Journal.{Fits}
use Rattle.words_rule.specs.Phase.{Phase, footing_of, hold, share}
use Rattle.words_rule.specs.Tallies.{Tally, tally_of, cells_count, refs, size, times}
use Rattle.words_rule.specs.Kept.{IsKeptCell, KeepsTally}
use Rattle.words_rule.specs.Dues.{word_of, IsWork}
use Rattle.words_rule.specs.Hands.{level_of, level_in, HasLevel, Owns, IsLoose, Tables}
use Rattle.words_rule.specs.Chains.{Knows}
use Rattle.words_rule.proofs.Handling.{never as no_some}
use Rattle.words_rule.specs.Openings.{opening_word, opening_function, opening_content, opening_on, first_view, shape_of, IsNewTable}
use Rattle.words_rule.specs.Seen.{IsSeen}
use Rattle.words_rule.specs.Rule.{Parts, Rule, Tied}
use Rattle.words_rule.proofs.Phases.{phase_starts}
use Rattle.words_rule.proofs.Opening.{at_high, opening_sound, used_first, word_high}
use Rattle.words_rule.proofs.OneSessions.{one_opened}
use Rattle.function_laws.specs.Kinds.{BddFunction}
use Rattle.function_laws.specs.Values.{projection}
use Rattle.free_list.specs.FreeSlots.{FreeSlots}

-- an empty board names no slot
none_in : (n i : ℕ) → cell_in (replicate n None) i ≡ None
none_in zero i = refl
none_in (suc n) zero = refl
none_in (suc n) (suc i) = none_in n i

none_shown : (n : ℕ) → shown (replicate n None) ≡ replicate n None
none_shown zero = refl
none_shown (suc n) = ap (λ (l : List (std.Option Cell)). None ∷ l) (none_shown n)

none_counted : (k : ℕ) (cells : List (std.Option Held)) → ((i : ℕ) → cell_in cells i ≡ None) → cells_count k cells ≡ 0
none_counted k [] none_there = refl
none_counted k (None ∷ cells) none_there = none_counted k cells (λ i. none_there (suc i))
none_counted k (Some held ∷ cells) none_there = absurd (let a : Some held.function ≡ None = none_there zero in cc)

none_kept : (z : Shape) (function : ℕ → std.Option Denoted) (cells : List (std.Option Held)) → ((i : ℕ) → cell_in cells i ≡ None) → Each (IsKeptCell z function) cells
none_kept z function [] none_there = tt
none_kept z function (None ∷ cells) none_there = (tt, none_kept z function cells (λ i. none_there (suc i)))
none_kept z function (Some held ∷ cells) none_there = absurd (let a : Some held.function ≡ None = none_there zero in cc)

only : {A : Type 0} (x : A) (j : ℕ) (y : A) → get_elem? (x ∷ []) j ≡ some y → (P : ℕ → A → Type 0) → P 0 x → P j y
only x zero y at P p = subst (P 0) (some-injective x y at) p
only x (suc j) y at P p = absurd (some-ne-none y (sym at))

-- the words of slots behind the projections are of free slots
pub word_behind : (n s : ℕ) → 5 + n ≤ s → opening_word n s ≡ None
word_behind n zero le = absurd (omega (arith, le))
word_behind n (suc zero) le = absurd (omega (arith, le))
word_behind n (suc (suc zero)) le = absurd (omega (arith, le))
word_behind n (suc (suc (suc zero))) le = absurd (omega (arith, le))
word_behind n (suc (suc (suc (suc zero)))) le = absurd (omega (arith, le))
word_behind n (suc (suc (suc (suc (suc v))))) le = ap (λ b. cond b (Some (Inner (projection_node v))) None) (le-ltb v n (omega (arith, le)))

-- the slots that are on chains as the table opens are in use, and all others in use are the three that are told by their number
opening_on_used : (n s : ℕ) → opening_on n s ≡ true → (3 ≤ s) × (word : Word) × (opening_word n s ≡ Some word)
opening_on_used n zero is = absurd (true≢false (sym is))
opening_on_used n (suc zero) is = absurd (true≢false (sym is))
opening_on_used n (suc (suc zero)) is = absurd (true≢false (sym is))
opening_on_used n (suc (suc (suc zero))) is = (omega arith, Leaf (pos 0), refl)
opening_on_used n (suc (suc (suc (suc zero)))) is = (omega arith, Leaf (pos 1), refl)
opening_on_used n (suc (suc (suc (suc (suc v))))) is = elim (cases_lt v n) [
  | inl lt ↦ (omega arith, Inner (projection_node v), word_high n v lt)
  | inr le ↦ absurd (true≢false (sym is ∙ le-ltb v n le))
]

used_opening_on : (n s : ℕ) (word : Word) → 3 ≤ s → opening_word n s ≡ Some word → opening_on n s ≡ true
used_opening_on n zero word le is = absurd (omega (arith, le))
used_opening_on n (suc zero) word le is = absurd (omega (arith, le))
used_opening_on n (suc (suc zero)) word le is = absurd (omega (arith, le))
used_opening_on n (suc (suc (suc zero))) word le is = refl
used_opening_on n (suc (suc (suc (suc zero)))) word le is = refl
used_opening_on n (suc (suc (suc (suc (suc v))))) word le is = elim (cases_lt v n) [
  | inl lt ↦ lt-ltb v n lt
  | inr le' ↦ absurd (no_some word (sym (ap (λ b. cond b (Some (Inner (projection_node v))) None) (le-ltb v n le')) ∙ is))
]

module _ {S : Type 0} (board : S → List (std.Option Cell)) (free_slots : S → FreeSlots) (memo : S → List ℕ) where
  pub opens : (key : Opening) (ws : Words) (home : ℕ → Option (Option (std.Option S))) → IsNewTable board free_slots memo (shape_of key) ws home → Parts board free_slots memo (shape_of key) ws home (first_view key ∷ [])
  opens key ws home new =
      let z = shape_of key in
      let n : ℕ = key.vars in let m : ℕ = key.elements in
      let v = first_view key in
      let start : Sizes = sizes_for n m in
      let cells : List (std.Option Held) = replicate 256 None in
      let empty : (i : ℕ) → cell_in cells i ≡ None = none_in 256 in
      let content : content_of z ws.node (opening_orders start) (opening_function n) None ≡ opening_content n m key.slots = λ t. record (opening_content n m key.slots) { word = λ s. new.node s t } in
      record {
        log = [];
        table = opening start;
        cells = cells;
        function = opening_function n;
        half = None;
        orders = opening_orders start;
        pending = [];
        journal = record {
          seat = λ _. none;
          legal = tt;
          leaves = refl;
          fixed = refl;
          drawn = new.journal;
          bounded = λ p. omega arith;
          beyond = λ p le. refl;
          each = λ id d at. only v.draws id d at (Fits ws.board_turn start [] (opening start) (λ _. none)) (record {
            live = λ l. absurd (true≢false (sym l));
            closing = λ _. (
              refl,
              refl,
              record {
                few = omega arith;
                start_is = refl;
                later = λ p le. record { no_seat = refl; no_entry = refl; no_row = refl; no_name = refl };
                back = λ k g there. absurd (some-ne-none g (sym there));
                left = tt;
              },
            );
            holder = λ h. absurd (true≢false (sym h));
            rowless = λ _ _. refl;
            noted = tt;
          });
        };
        phase = subst (λ (x : ℕ). Phase x (footing_of v ∷ [])) (sym new.phase) (phase_starts (footing_of v) (omega arith) refl);
        counts = record {
          counted = λ k. let a : count_of (ws.count k) ≡ 0 = ap count_of (new.count k) in let b = none_counted k cells empty in omega (arith, a, b);
          most = omega arith;
          few_cells = refl;
          small = λ id t at. only (tally_of v) id t at (λ _ (t : Tally). (size t ≤ t.sessions * 2 ^ 25) × (t.sessions ≤ t.parts)) (omega arith, omega arith);
          pinned = λ id t at. only (tally_of v) id t at (λ _ (t : Tally). (k : ℕ) → times k t.counts.pins ≤ t.sessions) (λ k. omega arith);
          still = λ id t at. only (tally_of v) id t at (λ _ (t : Tally). (k : ℕ) → 0 < times k t.counts.zeros → count_of (ws.count k) ≡ refs k t) (λ k zeros. absurd (omega (arith, zeros)));
        };
        kept = record { each = λ id t at. only (tally_of v) id t at (λ _ (t : Tally). KeepsTally z (opening_function n) t) (record { rows = tt; raised = tt; owed = tt }); fixed = λ u lt. (let e : suc (suc (suc (suc (suc u)))) ≡ 5 + u = omega arith in subst (λ (t : ℕ). opening_function n t ≡ Some (BddFunction (projection u))) e (at_high n u lt)); cells_kept = none_kept z (opening_function n) cells empty };
        on_board = record { are = λ k i. sym (empty i) k; home_is = λ _. (new.at_board, new.board_home, new.empty_cells ∙ sym (none_shown 256)); held = λ id d at. only v.draws id d at (λ _ (d : Draws). d.holds ≡ true → d.cells ≡ cells) (λ h. absurd (true≢false (sym h))) };
        positions = record { variables_long = length-range_with_len 0 n; elements_long = length-range_with_len 0 m; at = λ p lt none_due. new.order p lt };
        ordered = record {
          settled = λ _. refl;
          shared = λ id f at. only v id f at (λ _ (f : View). KnowsOrders (opening_orders start) f) (λ h. absurd (let e : 0 ≡ 1 = ap share h in omega (arith, e)));
          held = λ id f at. only v id f at (λ _ (f : View). f.shares.order ≡ Holding → (orders_of f.known ≡ opening_orders start) × (told_orders f.known ≡ opening_orders start)) (λ h. absurd (let e : 0 ≡ 1 = ap hold h in omega (arith, e)));
        };
        sound = subst IsSound (sym content) (opening_sound n m key.slots new.few new.few_elements new.room new.few_slots);
        remembered = record {
          holder = none;
          at_home = λ _. (refl, new.at_memo, new.memo_home, (new.some_places, λ i kept is. absurd (no_some kept (sym (new.blank i) ∙ is))));
          held = λ id h at. only v.hand id h at (λ (i : ℕ) (h : Hand). h.memo ≡ true → (none ≡ some i) × (ws.memo_turn ≢ 0)) (λ has. absurd (true≢false (sym has)));
        };
        tables = subst (λ (c : Content). Tables free_slots z c (opening_on n) ws.free_turn ws.turn home (v.hand ∷ [])) (sym content) (record {
          free_now = (free_slots new.at_free).slots;
          free_holder = none;
          holder = λ _. none;
          taker = λ _. none;
          free_is = record {
            free = λ k s e. let f = new.free.within k s e in (f.1, word_behind n s f.0, refl);
            once = new.free.once;
            all = λ s lt free none_now. elim (cases_lt s (5 + n)) [
              | inl low ↦ absurd (used_first n s low free)
              | inr le ↦ new.free.all s le lt
            ];
          };
          free_home = λ _. (refl, new.at_free, new.free_home, refl, new.roomy);
          free_held = λ id h at. only v.hand id h at (λ (i : ℕ) (h : Hand). (list : List ℕ) → h.free ≡ Some list → (none ≡ some i) × (ws.free_turn ≢ 0) × (list ≡ (free_slots new.at_free).slots)) (λ list its. absurd (no_list list its));
          loose = λ _. none;
          level_home = λ l lt _. refl;
          level_held = λ id h at. only v.hand id h at (λ (i : ℕ) (h : Hand). (k l : ℕ) → get_elem? h.levels k ≡ some l → (l < levels z) × (none ≡ some i) × (ws.turn l ≢ 0)) (λ k l there. absurd (some-ne-none l (sym there)));
          taken = λ id h at. only v.hand id h at (λ (i : ℕ) (h : Hand). (due : Job) → h.taken ≡ Some due → (none ≡ some i) × IsWork (opening_content n m key.slots) due × HasLevel h (level_of z (word_of due))) (λ due its. absurd (no_due due its));
          taken_by = λ s id is. absurd (some-ne-none id (sym is));
          loosened = λ id h at. only v.hand id h at (λ (i : ℕ) (h : Hand). (s : ℕ) → h.loose ≡ Some s → (none ≡ some i) × (opening_on n s ≡ false) × IsLoose z (opening_content n m key.slots) h s) (λ s its. absurd (no_some s its));
          loose_by = λ s id is. absurd (some-ne-none id (sym is));
          high = λ s id is. absurd (some-ne-none id (sym is));
          complete = λ s word le is. inl (used_opening_on n s word le is);
          walking = λ id h at. only v.hand id h at (λ (i : ℕ) (h : Hand). (w : Walk) → h.walk ≡ Some w → HasLevel h w.level) (λ w its. absurd (no_some w its));
        });
        on = opening_on n;
        chain = new.chain;
        linked = record {
          chains = new.chains;
          fits = new.fits;
          used = λ s is. let u = opening_on_used n s is in (u.0, u.1, new.node s ∙ u.2);
          links = λ id h at. only v.hand id h at (λ (i : ℕ) (h : Hand). (k : Link) → h.link ≡ Some k → Owns h k.slot → ws.next k.slot ≡ k.link) (λ k its. absurd (no_some k its));
          walks = λ id h at. only v.hand id h at (λ (i : ℕ) (h : Hand). (w : Walk) → h.walk ≡ Some w → (w.head < heads z) × Knows ws.next (head_of z) (level_in z) ws.node (opening_on n) w.head w.level w.link w.rest) (λ w its. absurd (no_some w its));
          wholes = λ id h at. only v.hand id h at (λ (i : ℕ) (h : Hand). (w : Walk) → h.walk ≡ Some w → w.whole ≡ true → new.chain w.head ≡ w.rest) (λ w its. absurd (no_some w its));
        };
        sifts = record {
          carried = λ i e there. absurd (some-ne-none e (sym there));
          noted = λ id f at l. absurd (not_live id f at l);
          owes = λ id f at l. absurd (not_live id f at l);
        };
        tied = λ id f at. only v id f at (λ _ (f : View). Tied f) (record { zeros = λ k zeros. absurd (omega (arith, zeros)); pins = λ k pins. absurd (omega (arith, pins)); taken = λ busy. absurd (busy (refl, refl, refl)); alone = λ n walk whole. absurd (no_some n walk); dead = λ _. (refl, refl, (refl, refl, refl), refl, refl) });
        sized = λ id f at. only v id f at (λ _ (f : View). (f.draws.live ≡ true) ⊎ (f.draws.closing ≡ true) → f.draws.slots ≡ z.slots) (λ _. refl);
        half_by = inl refl;
        pending_by = inl refl;
        holders = λ id f at. only v id f at (λ _ (f : View). IsHolder ws.count None [] f) ((λ holding. absurd (let e : 0 ≡ 1 = ap hold holding in omega (arith, e))), (λ full. absurd (let e : 0 ≡ 1 = ap hold full in omega (arith, e))));
        generations = λ id f at. only v id f at (λ _ (f : View). Each (IsOfSlot ws.count f) f.counts.generations) tt;
        seen = λ id f at. only v id f at (λ _ (f : View). IsSeen z ws.node (opening_function n) f) (record { words = λ _. tt; held = λ _. tt });
      }
    where
      not_live : (id : ℕ) (f : View) → get_elem? (first_view key ∷ []) id ≡ some f → f.draws.live ≡ true → ⊥
      not_live id f at = only (first_view key) id f at (λ _ (f : View). f.draws.live ≡ true → ⊥) (λ l. true≢false (sym l))

      no_list : (list : List ℕ) → None ≡ Some list → ⊥
      no_list list e = cc

      no_due : (due : Job) → None ≡ Some due → ⊥
      no_due due e = cc

  -- the table as it is made
  pub starts : (key : Opening) (words : List ℕ) (homes : List (Option (std.Option S))) → length words ≡ word_count (shape_of key) → length homes ≡ 3
      → IsNewTable board free_slots memo (shape_of key) (words_of (shape_of key) words) (λ (k : ℕ). get_elem? homes k) → Rule board free_slots memo (record { words = words; homes = homes; views = first_view key ∷ [] })
  starts key words homes wide long new = record { shape = shape_of key; wide = wide; long = long; parts = opens key (words_of (shape_of key) words) (λ (k : ℕ). get_elem? homes k) new; one = one_opened board free_slots memo key (words_of (shape_of key) words) (λ (k : ℕ). get_elem? homes k) new }
