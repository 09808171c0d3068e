-- The part of a table that was made for one session: a seat stores a word and notes it, a session gets a seat, a seat is joined, and a table opens.
use Rattle.std.proofs.Common.{◌≡◌, ◌≢◌, ◌⊎◌, inl, inr, ⊎_elim, ℕ, zero, suc, ◌+◌, ◌<◌, Bool, true, false, cond, List, [], ◌∷◌, ◌++◌, map, set, refl, ap, sym, subst, ◌∙◌, arith, true≢false, eq-eqb, ne_eqb}
use Rattle.std.specs.Prelude as std
use Rattle.std.specs.Prelude.{None, Some}
use Rattle.std.proofs.lemmas.Bool.{cases_eq, cases_lt}
use Rattle.std.proofs.lemmas.List.{map-append}
use mathlib.Core.Option.{Option, none, some, some-injective, some-ne-none}
use lib.ListN.{get_elem?}
use lib.Seq.{map-set}
use Rattle.atomic_table.proofs.Lists.{at_map}
use Rattle.edge_bits.specs.declared.words.Word.{Word}
use Rattle.edge_bits.specs.Words.{unpack_of}
use Rattle.function_laws.specs.SessionEntries.{Each}
use Rattle.function_laws.specs.Tables.{Sizes}
use Rattle.function_laws.specs.EntryOrders.{opening_orders, orders_from}
use Rattle.node_store.specs.Changes.{put_at}
use Rattle.node_store.proofs.Rewriting.{put_at-same, put_at-other}
use Rattle.words_rule.specs.Generations.{IsOfSlot}
use Rattle.words_rule.specs.Holders.{IsHolder}
use Rattle.words_rule.specs.declared.cell.Cell.{Cell}
use Rattle.words_rule.specs.declared.view.Draws.{Draws}
use Rattle.words_rule.specs.declared.view.Opening.{Opening}
use Rattle.words_rule.specs.declared.view.Stored.{Stored}
use Rattle.words_rule.specs.declared.view.StoredWord.{StoredWord}
use Rattle.words_rule.specs.declared.view.View.{View}
use Rattle.words_rule.specs.Views.{blank, one_more, session_of, sizes_for, with_gone}
use Rattle.words_rule.specs.Layout.{Shape, Words, content_of, entry_at}
use Rattle.words_rule.specs.Journal.{Journal}
use Rattle.words_rule.specs.Phase.{Phase, footing_of}
use Rattle.words_rule.specs.Tallies.{Counted, tally_of}
use Rattle.words_rule.specs.Kept.{Kept, Board}
use Rattle.words_rule.specs.Hands.{Tables, Linked}
use Rattle.words_rule.specs.Openings.{IsNewTable, bits_of, first_view, opening_bits, opening_word, shape_of}
use Rattle.words_rule.specs.OneSession.{AreTold, OneSession, Storer, count_by, newest, node_by, order_by, storer_of, storing_count, storing_node, storing_order}
use Rattle.words_rule.specs.Rule.{Parts, Tied, bare, draws_in, storers_in, tallies_in, hands_in}
use Rattle.words_rule.proofs.Seeing.{seen_other}
use Rattle.words_rule.proofs.Lists.{at_end, each_set, map_at, set_at}
use Rattle.words_rule.proofs.Journals.{mine, one_session}
use Rattle.words_rule.proofs.Opening.{used_first}
use Rattle.words_rule.proofs.Packing.{packs_back}
use Rattle.words_rule.proofs.Sifting.{steps_same}
use Rattle.words_rule.proofs.Draws.{frame, by_full, by_pending}
use Rattle.words_rule.proofs.Handed.{ordered_same}
use Rattle.node_store.specs.Contents.{view_of}
use Rattle.words_rule.specs.Remembered.{Remembered}
use Rattle.free_list.specs.FreeSlots.{FreeSlots}

twice : {A : Type 0} (l : List A) (i : ℕ) (a b : A) → set (set l i a) i b ≡ set l i b
twice [] i a b = refl
twice (x ∷ xs) zero a b = refl
twice (x ∷ xs) (suc i) a b = ap (λ (l : List _). x ∷ l) (twice xs i a b)

-- the newest word of a number is the one that was stored last, and other numbers keep theirs
newest_here : (l : List StoredWord) (k x opening : ℕ) → newest (record { index = k; word = x } ∷ l) k opening ≡ x
newest_here l k x opening = ap (λ b. cond b x (newest l k opening)) (eq-eqb k k refl)

newest_else : (l : List StoredWord) (k x j opening : ℕ) → j ≢ k → newest (record { index = k; word = x } ∷ l) j opening ≡ newest l j opening
newest_else l k x j opening ne = ap (λ b. cond b x (newest l j opening)) (ne_eqb k j (λ e. ne (sym e)))

module _ (z : Shape) (order node count : ℕ → ℕ) (l : Stored) (are : AreTold z order node count l) where
  pub told_node : (s bits : ℕ) → AreTold z order (put_at node s bits) count (storing_node s bits l)
  told_node s bits = record {
    orders = are.orders;
    nodes = λ t. elim (cases_eq t s) [
      | inl e ↦ subst (λ (t : ℕ). put_at node s bits t ≡ node_by z (storing_node s bits l) t) (sym e) (put_at-same node s bits ∙ sym (newest_here l.nodes s bits (opening_bits z.variables s)))
      | inr ne ↦ put_at-other node s t bits ne ∙ are.nodes t ∙ sym (newest_else l.nodes s bits t (opening_bits z.variables t) ne)
    ];
    counts = are.counts;
  }

  pub told_order : (p entry : ℕ) → AreTold z (put_at order p entry) node count (storing_order p entry l)
  told_order p entry = record {
    orders = λ q lt. elim (cases_eq q p) [
      | inl e ↦ subst (λ (q : ℕ). put_at order p entry q ≡ order_by z (storing_order p entry l) q) (sym e) (put_at-same order p entry ∙ sym (newest_here l.orders p entry (entry_at z (opening_orders (sizes_for z.variables z.elements)) p)))
      | inr ne ↦ put_at-other order p q entry ne ∙ are.orders q lt ∙ sym (newest_else l.orders p entry q (entry_at z (opening_orders (sizes_for z.variables z.elements)) q) ne)
    ];
    nodes = are.nodes;
    counts = are.counts;
  }

  -- the count word is this by what the seat knows of it
  pub told_count : (k new word : ℕ) → new ≡ word → AreTold z order node (put_at count k new) (storing_count k word l)
  told_count k new word is = record {
    orders = are.orders;
    nodes = are.nodes;
    counts = λ j. elim (cases_eq j k) [
      | inl e ↦ subst (λ (j : ℕ). put_at count k new j ≡ count_by (storing_count k word l) j) (sym e) (put_at-same count k new ∙ is ∙ sym (newest_here l.counts k word 0))
      | inr ne ↦ put_at-other count k j new ne ∙ are.counts j ∙ sym (newest_else l.counts k word j 0 ne)
    ];
  }

module _ {S : Type 0} (board : S → List (std.Option Cell)) (free_slots : S → FreeSlots) (memo : S → List ℕ) where
  abbrev PartsOf : Shape → Words → (ℕ → Option (Option (std.Option S))) → List View → Type 0
  PartsOf = Parts board free_slots memo

  -- the other parts do not speak of what a seat stored
  pub parts_stored : (z : Shape) (ws : Words) (home : ℕ → Option (Option (std.Option S))) (vs : List View) (r : PartsOf z ws home vs) (id : ℕ) (v : View) → get_elem? vs id ≡ some v → (x : Stored)
      → PartsOf z ws home (set vs id (record v { stored = x }))
  parts_stored z ws home vs r id v at x =
      let w : View = record v { stored = x } in
      let start : Sizes = sizes_for z.variables z.elements in
      let drawn : draws_in (set vs id w) ≡ draws_in vs = frame (λ (v : View). v.draws) vs id v w at refl in
      let tallied : tallies_in (set vs id w) ≡ tallies_in vs = frame tally_of vs id v w at refl in
      let hands : hands_in (set vs id w) ≡ hands_in vs = frame (λ (v : View). v.hand) vs id v w at refl in
      let t = r.tied id v at in record {
        log = r.log;
        table = r.table;
        cells = r.cells;
        function = r.function;
        half = r.half;
        on = r.on;
        chain = r.chain;
        journal = subst (λ (ds : List Draws). Journal ws.journal ws.board_turn ds start r.log r.table) (sym drawn) r.journal;
        phase = subst (Phase ws.phase) (sym (frame footing_of vs id v w at refl)) r.phase;
        counts = subst (Counted ws.count r.cells) (sym tallied) r.counts;
        kept = subst (Kept z r.function r.cells) (sym tallied) r.kept;
        on_board = subst (λ (ds : List Draws). Board board ws.board_turn (home 0) ds r.table r.cells) (sym drawn) r.on_board;
        ordered = ordered_same r.orders (orders_from (opening_orders start) r.log) vs id v w at refl refl r.ordered;
        sound = r.sound;
        remembered = subst (Remembered memo (view_of (content_of z ws.node r.orders r.function r.half)) ws.memo_turn (home 2)) (sym hands) r.remembered;
        tables = subst (Tables free_slots z (content_of z ws.node r.orders r.function r.half) r.on ws.free_turn ws.turn home) (sym hands) r.tables;
        linked = subst (Linked z ws.node ws.next ws.head r.on r.chain) (sym hands) r.linked;
        sifts = steps_same start r.log vs r.sifts id v w at refl refl refl;
        tied = each_set (λ i (f : View). Tied f) vs id w (λ i f apart there. r.tied i f there) (record { zeros = t.zeros; pins = t.pins; taken = t.taken; alone = t.alone; dead = t.dead });
        half_by = by_full (r.half ≡ None) vs id v w at refl r.half_by;
        orders = r.orders;
        pending = r.pending;
        positions = r.positions;
        sized = each_set (λ i (f : View). (f.draws.live ≡ true) ⊎ (f.draws.closing ≡ true) → f.draws.slots ≡ z.slots) vs id w (λ i f apart there. r.sized i f there) (r.sized id v at);
        pending_by = by_pending r.pending vs id v w at refl refl r.pending_by;
        seen = seen_other z ws.node r.function vs r.seen id w (record { words = (r.seen id v at).words; held = (r.seen id v at).held });
        holders = each_set (λ _ (u : View). IsHolder ws.count r.half r.pending u) vs id w (λ i u apart there. r.holders i u there) (r.holders id v at);
        generations = each_set (λ _ (u : View). Each (IsOfSlot ws.count u) u.counts.generations) vs id w (λ i u apart there. r.generations i u there) (r.generations id v at);
      }

  -- a step that leaves this view, which notes then what it stored
  pub parts_told : (z : Shape) (ws : Words) (home : ℕ → Option (Option (std.Option S))) (vs : List View) (id : ℕ) (v w : View) → get_elem? vs id ≡ some v → PartsOf z ws home (set vs id w) → (l : Stored)
      → PartsOf z ws home (set vs id (record w { stored = l }))
  parts_told z ws home vs id v w at r l = subst (λ (ys : List View). PartsOf z ws home ys) (twice vs id w (record w { stored = l })) (parts_stored z ws home (set vs id w) r id w (set_at vs id v w at) l)

  -- a live seat stores words, and notes them: where the table was made for one session there is no other seat
  pub one_told : (z : Shape) (ws : Words) (home : ℕ → Option (Option (std.Option S))) (vs : List View) → PartsOf z ws home vs → OneSession z ws.order ws.node ws.count (storers_in vs) → (id : ℕ) (v w : View) → get_elem? vs id ≡ some v → v.draws.live ≡ true → w.draws ≡ v.draws
      → (order node count : ℕ → ℕ) → (AreTold z ws.order ws.node ws.count v.stored → AreTold z order node count w.stored) → OneSession z order node count (storers_in (set vs id w))
  one_told z ws home vs r one id v w at live same order node count change =
      let xs : List Storer = storers_in vs in
      let here : get_elem? xs id ≡ some (storer_of v) = at_map storer_of vs id v at in
      let mapped : storers_in (set vs id w) ≡ set xs id (storer_of w) = map-set storer_of vs id w in
      let start : Sizes = sizes_for z.variables z.elements in
      let lives : w.draws.live ≡ true = ap (λ (d : Draws). d.live) same ∙ live in
      subst (OneSession z order node count) (sym mapped) (record {
        sessions = one.sessions;
        known = each_set (λ _ (x : Storer). (x.live ≡ true) ⊎ (x.closing ≡ true) → x.sessions ≡ one.sessions) xs id (storer_of w) (λ i x apart there. one.known i x there)
            (λ _. ap (λ (d : Draws). d.sessions) same ∙ one.known id (storer_of v) here (inl live));
        below = each_set (λ _ (x : Storer). x.live ≡ true → x.session < one.sessions) xs id (storer_of w) (λ i x apart there. one.below i x there)
            (λ _. subst (λ (d : Draws). d.session < one.sessions) (sym same) (one.below id (storer_of v) here live));
        told = λ single. each_set (λ _ (x : Storer). (x.live ≡ true) ⊎ ((x.closing ≡ true) × (x.given ≡ 0)) → AreTold z order node count x.stored) xs id (storer_of w)
            (λ i x apart there has.
            let m = map_at storer_of vs i x there in
            let first : v.draws.session ≡ 0 = (let lt = one.below id (storer_of v) here live in omega (arith, lt, single)) in
            absurd (⊎_elim
            (λ other.
            let l : m.0.draws.live ≡ true = ap (λ (y : Storer). y.live) m.2 ∙ other in
            let second : m.0.draws.session ≡ 0 = (let lt = one.below i (storer_of m.0) (at_map storer_of vs i m.0 m.1) l in omega (arith, lt, single)) in
            apart (one_session ws.journal ws.board_turn (draws_in vs) start r.log r.table r.journal i id m.0.draws v.draws (at_map (λ (u : View). u.draws) vs i m.0 m.1) (at_map (λ (u : View). u.draws) vs id v at) l live (second ∙ sym first)))
            (λ (unsplit : (x.closing ≡ true) × (x.given ≡ 0)).
            let closes : m.0.draws.closing ≡ true = ap (λ (y : Storer). y.closing) m.2 ∙ unsplit.0 in
            let given : m.0.draws.given ≡ 0 = ap (λ (y : Storer). y.given) m.2 ∙ unsplit.1 in
            let c = ((r.journal.each i m.0.draws (at_map (λ (u : View). u.draws) vs i m.0 m.1)).closing closes).2 in
            let seated = (mine ws.journal ws.board_turn (draws_in vs) start r.log r.table r.journal id v.draws (at_map (λ (u : View). u.draws) vs id v at) live).seated in
            some-ne-none id (sym seated ∙ (c.later v.draws.session (omega (arith, given))).no_seat)) has))
            (λ _. change (one.told single id (storer_of v) here (inl live)));
      })

  -- a session gets a seat: where it is the only one, no word was stored before
  pub one_split : (z : Shape) (order node count : ℕ → ℕ) (vs : List View) → OneSession z order node count (storers_in vs) → (id : ℕ) (d : Draws) → get_elem? vs id ≡ some (bare d) → d.live ≡ false → d.closing ≡ true → d.given < d.sessions
      → OneSession z order node count (storers_in (set vs id (bare (one_more d)) ++ bare (session_of d) ∷ []))
  one_split z order node count vs one id d at dead closing room =
      let xs : List Storer = storers_in vs in
      let a : Storer = storer_of (bare (one_more d)) in
      let b : Storer = storer_of (bare (session_of d)) in
      let here : get_elem? xs id ≡ some (storer_of (bare d)) = at_map storer_of vs id (bare d) at in
      let mapped : storers_in (set vs id (bare (one_more d)) ++ bare (session_of d) ∷ []) ≡ set xs id a ++ b ∷ [] =
      map-append storer_of (set vs id (bare (one_more d))) (bare (session_of d) ∷ []) ∙ ap (λ (l : List Storer). l ++ b ∷ []) (map-set storer_of vs id (bare (one_more d))) in
      let same : d.sessions ≡ one.sessions = one.known id (storer_of (bare d)) here (inr closing) in
      subst (OneSession z order node count) (sym mapped) (record {
        sessions = one.sessions;
        known = more (λ (x : Storer). (x.live ≡ true) ⊎ (x.closing ≡ true) → x.sessions ≡ one.sessions) (set xs id a) b
            (each_set (λ _ (x : Storer). (x.live ≡ true) ⊎ (x.closing ≡ true) → x.sessions ≡ one.sessions) xs id a (λ i x apart there. one.known i x there) (λ _. same)) (λ _. same);
        below = more (λ (x : Storer). x.live ≡ true → x.session < one.sessions) (set xs id a) b
            (each_set (λ _ (x : Storer). x.live ≡ true → x.session < one.sessions) xs id a (λ i x apart there. one.below i x there) (λ live. absurd (true≢false (sym live ∙ dead))))
            (λ _. subst (λ (n : ℕ). d.given < n) same room);
        told = λ single. more (λ (x : Storer). (x.live ≡ true) ⊎ ((x.closing ≡ true) × (x.given ≡ 0)) → AreTold z order node count x.stored) (set xs id a) b
            (each_set (λ _ (x : Storer). (x.live ≡ true) ⊎ ((x.closing ≡ true) × (x.given ≡ 0)) → AreTold z order node count x.stored) xs id a (λ i x apart there. one.told single i x there)
            (⊎_elim (λ live. absurd (true≢false (sym live ∙ dead))) (λ (unsplit : (d.closing ≡ true) × (suc d.given ≡ 0)). absurd (let e = unsplit.1 in omega (arith, e)))))
            (λ _. one.told single id (storer_of (bare d)) here (inr (closing, (omega (arith, room, same, single)))));
      })
    where
      more : (F : Storer → Type 0) (l : List Storer) (b : Storer) → ((i : ℕ) (x : Storer) → get_elem? l i ≡ some x → F x) → F b → (i : ℕ) (x : Storer) → get_elem? (l ++ b ∷ []) i ≡ some x → F x
      more F l b all last i x there = ⊎_elim (λ before. all i x before) (λ (y : (i ≡ _) × (b ≡ x)). subst F y.1 last) (at_end l b x i there)

  -- a seat is joined
  pub one_joined : (z : Shape) (order node count : ℕ → ℕ) (vs : List View) → OneSession z order node count (storers_in vs) → (id other : ℕ) (d e : Draws) → get_elem? vs id ≡ some (bare d)
      → OneSession z order node count (storers_in (set (set vs id (bare (with_gone d e))) other (bare blank)))
  one_joined z order node count vs one id other d e at =
      let xs : List Storer = storers_in vs in
      let b : Storer = storer_of (bare blank) in
      let first : storers_in (set vs id (bare (with_gone d e))) ≡ xs = frame storer_of vs id (bare d) (bare (with_gone d e)) at refl in
      let mapped : storers_in (set (set vs id (bare (with_gone d e))) other (bare blank)) ≡ set xs other b = map-set storer_of (set vs id (bare (with_gone d e))) other (bare blank) ∙ ap (λ (l : List Storer). set l other b) first in
      subst (OneSession z order node count) (sym mapped) (record {
        sessions = one.sessions;
        known = each_set (λ _ (x : Storer). (x.live ≡ true) ⊎ (x.closing ≡ true) → x.sessions ≡ one.sessions) xs other b (λ i x apart there. one.known i x there) (⊎_elim (λ l. absurd (true≢false (sym l))) (λ c. absurd (true≢false (sym c))));
        below = each_set (λ _ (x : Storer). x.live ≡ true → x.session < one.sessions) xs other b (λ i x apart there. one.below i x there) (λ l. absurd (true≢false (sym l)));
        told = λ single. each_set (λ _ (x : Storer). (x.live ≡ true) ⊎ ((x.closing ≡ true) × (x.given ≡ 0)) → AreTold z order node count x.stored) xs other b (λ i x apart there. one.told single i x there)
            (⊎_elim (λ l. absurd (true≢false (sym l))) (λ (c : (false ≡ true) × (0 ≡ 0)). absurd (true≢false (sym c.0))));
      })

  -- a table opens
  pub one_opened : (key : Opening) (ws : Words) (home : ℕ → Option (Option (std.Option S))) → IsNewTable board free_slots memo (shape_of key) ws home → OneSession (shape_of key) ws.order ws.node ws.count (storers_in (first_view key ∷ []))
  one_opened key ws home new = record {
    sessions = key.sessions;
    known = λ id x at. only id x at (λ (x : Storer). (x.live ≡ true) ⊎ (x.closing ≡ true) → x.sessions ≡ key.sessions) (λ _. refl);
    below = λ id x at. only id x at (λ (x : Storer). x.live ≡ true → x.session < key.sessions) (λ live. absurd (true≢false (sym live)));
    told = λ single id x at. only id x at (λ (x : Storer). (x.live ≡ true) ⊎ ((x.closing ≡ true) × (x.given ≡ 0)) → AreTold (shape_of key) ws.order ws.node ws.count x.stored) (λ _. record {
      orders = new.order;
      nodes = first_bits;
      counts = new.count;
    });
  }
    where
      only : (id : ℕ) (x : Storer) → get_elem? (storer_of (first_view key) ∷ []) id ≡ some x → (F : Storer → Type 0) → F (storer_of (first_view key)) → F x
      only zero x at F has = subst F (some-injective (storer_of (first_view key)) x at) has
      only (suc id) x at F has = absurd (some-ne-none x (sym at))

      first_bits : (s : ℕ) → ws.node s ≡ opening_bits key.vars s
      first_bits s = by (opening_word key.vars s) (new.node s)
        where
          by : (o : std.Option Word) → unpack_of (ws.node s) ≡ o → ws.node s ≡ bits_of o
          by (Some word) reads = packs_back (ws.node s) word (new.fits s) reads
          by None reads = elim (cases_lt s (5 + key.vars)) [
            | inl lt ↦ absurd (used_first key.vars s lt (sym (new.node s) ∙ reads))
            | inr le ↦ new.behind s le
          ]
