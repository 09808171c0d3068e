-- Steps of a seat that change what it has in hand, and a word of the tables or of a node.
use Rattle.std.proofs.Common.{◌≡◌, ◌≢◌, ◌⊎◌, inl, inr, ℕ, ℤ, suc, ◌<◌, ◌≤◌, Bool, true, false, List, [], ◌∷◌, ◌++◌, set, true≢false, refl, ap, sym, subst, ◌∙◌, ⊎_elim, arith}
use Rattle.std.specs.Prelude as std
use Rattle.std.specs.Prelude.{Some, None}
use mathlib.Core.Logic.{dite}
use mathlib.Core.Option.{Option, some, some-injective}
use native.Mathlib.Decide.{ℕ_discrete}
use lib.ListN.{get_elem?}
use lib.Seq.{map-set}
use Rattle.atomic_table.proofs.Lists.{at_map, set_else}
use Rattle.edge_bits.specs.declared.words.Word.TheVariants.{Inner, Leaf}
use Rattle.edge_bits.specs.Words.{unpack_of}
use Rattle.function_laws.specs.Kinds.{Denoted}
use Rattle.function_laws.specs.Sizes.{Orders}
use Rattle.function_laws.specs.SessionEntries.{Each}
use Rattle.function_laws.specs.Tables.{Sizes}
use Rattle.function_laws.specs.EntryOrders.{opening_orders, orders_from}
use Rattle.node_store.specs.Contents.{Content, IsSound, Pair, constant_value, view_of}
use Rattle.std.proofs.lemmas.Bool.{cases_lt}
use Rattle.node_store.specs.Changes.{put_at}
use Rattle.node_store.proofs.Rewriting.{put_at-other}
use Rattle.words_rule.specs.Generations.{IsOfSlot}
use Rattle.words_rule.specs.Holders.{AreHolders, IsHolder}
use Rattle.words_rule.specs.declared.cell.Cell.{Cell}
use Rattle.words_rule.specs.declared.view.Held.{Held}
use Rattle.words_rule.specs.declared.view.SeenWord.{SeenWord}
use Rattle.words_rule.specs.declared.view.Hold.{Hold}
use Rattle.words_rule.specs.declared.view.Hold.TheVariants.{Free, Claimed, Holding}
use Rattle.words_rule.specs.declared.view.Share.TheVariants as shares
use Rattle.words_rule.specs.declared.view.Draws.{Draws}
use Rattle.words_rule.specs.declared.view.Known.{Known}
use Rattle.words_rule.specs.declared.view.Job.{Job}
use Rattle.words_rule.specs.declared.view.Hand.{Hand}
use Rattle.words_rule.specs.declared.view.View.{View}
use Rattle.words_rule.specs.Views.{sizes_for, orders_of, told_orders}
use Rattle.words_rule.specs.Layout.{Shape, Words, places, content_of, heads, head_of}
use Rattle.words_rule.specs.Chains.{Lists}
use Rattle.words_rule.specs.declared.view.Walk.{Walk}
use Rattle.edge_bits.specs.declared.words.Word.{Word}
use Rattle.edge_bits.specs.declared.words.Node.{Node}
use Rattle.words_rule.specs.Journal.{Journal}
use Rattle.words_rule.specs.Phase.{Phase, footing_of, hold, bit}
use Rattle.words_rule.specs.Tallies.{Counted, tally_of}
use Rattle.words_rule.specs.Kept.{IsHeldBy, Kept, Board}
use Rattle.words_rule.specs.Ordered.{KnowsOrders, Ordered}
use Rattle.words_rule.specs.Dues.{slot_of, word_of, IsToDo, IsWork}
use Rattle.words_rule.specs.Hands.{place_of, level_of, level_if, HasLevel, Owns, IsIdle, Tables, Linked, storing, linking, pushing, loosening}
use Rattle.words_rule.specs.Seen.{StandsSo, AreSeen}
use Rattle.words_rule.specs.Rule.{Parts, Tied, HalfHolder, draws_in, footings_in, tallies_in, hands_in}
use Rattle.words_rule.proofs.Seeing.{seen_other, seen_store}
use Rattle.words_rule.proofs.Lists.{each_set, each_map, each_both, set_at, map_at}
use Rattle.words_rule.proofs.Phases.{excludes, one_order}
use Rattle.words_rule.proofs.Keeping.{kept_grows, still_held}
use Rattle.words_rule.proofs.Sifting.{steps_same}
use Rattle.words_rule.proofs.Jobs.{done, content_done, job_sound, job_kept, job_here, job_other, others_work}
use Rattle.words_rule.proofs.Handling.{never as no_some, some_same, owned_off, owns_once, one_hand, hands_it, stores_it, pushes_it, loosens_it, full_is, IsFull}
use Rattle.words_rule.proofs.Packing.{packs_back}
use Rattle.words_rule.proofs.Linking.{hand_links, links_it, words_it, head_within, heads_it, unheads_it, unlinks_it, head_loaded, absent_on}
use Rattle.words_rule.proofs.Draws.{frame, by_full, by_pending}
use Rattle.words_rule.specs.Remembered.{Remembered}
use Rattle.words_rule.proofs.Remembering.{remembered_still}
use Rattle.free_list.specs.FreeSlots.{FreeSlots}

abbrev pub handed : View → Hand → View
handed v h = record v { hand = h }

-- and what it knows
abbrev pub moved : View → Hand → Known → View
moved v h k = record v { hand = h; known = k }

-- the orders' part speaks of orders and shares alone
pub ordered_alike : (now told : Orders) (vs : List View) (id : ℕ) (v w : View) → get_elem? vs id ≡ some v → orders_of w.known ≡ orders_of v.known → told_orders w.known ≡ told_orders v.known → w.shares ≡ v.shares → Ordered now told vs → Ordered now told (set vs id w)
ordered_alike now told vs id v w at knows tells shares o = record {
  settled = λ nobody. o.settled (λ i u there holding. dite (ℕ_discrete i id)
      (λ same. nobody id w (set_at vs id v w at) (ap (λ s. s.order) shares ∙ (ap (λ (y : View). y.shares.order) (some-injective v u (sym at ∙ (ap (λ j. get_elem? vs j) (sym same) ∙ there))) ∙ holding)))
      (λ apart. nobody i u (set_else vs id i w apart ∙ there) holding));
  shared = each_set (λ _ (u : View). KnowsOrders now u) vs id w (λ i u apart there. o.shared i u there) (λ has. knows ∙ o.shared id v at (ap (λ s. s.op) (sym shares) ∙ has));
  held = each_set (λ i (u : View). u.shares.order ≡ Holding → (orders_of u.known ≡ now) × (told_orders u.known ≡ told)) vs id w (λ i u apart there. o.held i u there)
      (λ holding. let h = o.held id v at (ap (λ s. s.order) (sym shares) ∙ holding) in (knows ∙ h.0, tells ∙ h.1));
}

pub ordered_same : (now told : Orders) (vs : List View) (id : ℕ) (v w : View) → get_elem? vs id ≡ some v → w.known ≡ v.known → w.shares ≡ v.shares → Ordered now told vs → Ordered now told (set vs id w)
ordered_same now told vs id v w at known shares o = ordered_alike now told vs id v w at (ap orders_of known) (ap told_orders known) shares o

-- who has neither share nor hold is in the midst of nothing
pub idle_of : (u : View) → Tied u → ((u.shares.op ≡ shares.Held) ⊎ (u.shares.order ≡ Holding) → ⊥) → IsIdle u.hand
idle_of u t none_has = (is_none u.hand.taken refl (λ x its. none_has (t.taken (λ idle. no_some x (sym idle.0 ∙ its)))), is_none u.hand.loose refl (λ x its. none_has (t.taken (λ idle. no_some x (sym idle.1 ∙ its)))), is_none u.hand.walk refl (λ x its. none_has (t.taken (λ idle. no_some x (sym idle.2 ∙ its)))))
  where
    is_none : {A : Type 0} {o : std.Option A} (q : std.Option A) → o ≡ q → ((x : A) → o ≡ Some x → ⊥) → o ≡ None
    is_none None e refuse = e
    is_none (Some x) e refuse = absurd (refuse x e)

module _ {S : Type 0} (board : S → List (std.Option Cell)) (free_slots : S → FreeSlots) (memo : S → List ℕ) where
  abbrev PartsOf : Shape → Words → (ℕ → Option (Option (std.Option S))) → List View → Type 0
  PartsOf = Parts board free_slots memo

  module _ (z : Shape) (ws : Words) (home : ℕ → Option (Option (std.Option S))) (vs : List View) (r : PartsOf z ws home vs) (id : ℕ) (v : View) (at : get_elem? vs id ≡ some v) where
    -- the computed table stays where it is, as functions are added
    pub remembered_here : (h : Hand) → h.memo ≡ v.hand.memo → (home' : ℕ → Option (Option (std.Option S))) → home' 2 ≡ home 2 → (nd : ℕ → ℕ) (function : ℕ → std.Option Denoted) (half : std.Option Pair)
        → ((s : ℕ) (f : Denoted) → r.function s ≡ Some f → function s ≡ Some f) → Remembered memo (view_of (content_of z nd r.orders function half)) ws.memo_turn (home' 2) (set (hands_in vs) id h)
    remembered_here h flag home' same nd function half grows =
        remembered_still memo (view_of (content_of z ws.node r.orders r.function r.half)) (view_of (content_of z nd r.orders function half)) ws.memo_turn (home 2) (home' 2) (hands_in vs) id v.hand h (at_map (λ (u : View). u.hand) vs id v at)
        (inl (record { vars = refl; elements = refl; level = refl; content = λ s f these is. grows s f is })) same flag r.remembered

    -- the other parts stand by their frames, where what the seat knows of the orders stays
    pub parts_moved : (h : Hand) (k : Known) (ft mt : ℕ) (tn nd nx hd : ℕ → ℕ) (home' : ℕ → Option (Option (std.Option S))) (function : ℕ → std.Option Denoted) (half : std.Option Pair) (on : ℕ → Bool) (chain : ℕ → List ℕ) → home' 0 ≡ home 0
        → orders_of k ≡ orders_of v.known → told_orders k ≡ told_orders v.known → k.pending ≡ v.known.pending
        → Kept z function r.cells (tallies_in vs) → IsSound (content_of z nd r.orders function half) → Remembered memo (view_of (content_of z nd r.orders function half)) mt (home' 2) (set (hands_in vs) id h)
        → Tables free_slots z (content_of z nd r.orders function half) on ft tn home' (set (hands_in vs) id h) → Linked z nd nx hd on chain (set (hands_in vs) id h)
        → Tied (moved v h k) → (half ≡ None) ⊎ HalfHolder half (set vs id (moved v h k)) → AreSeen z nd function (set vs id (moved v h k)) → AreHolders ws.count half r.pending (set vs id (moved v h k))
        → PartsOf z (record ws { free_turn = ft; memo_turn = mt; turn = tn; node = nd; next = nx; head = hd }) home' (set vs id (moved v h k))
    parts_moved h k ft mt tn nd nx hd home' function half on chain same orders told due kept sound remembered tables linked tied half_by seen holders =
        let w = moved v h k in
        let start : Sizes = sizes_for z.variables z.elements in
        let drawn : draws_in (set vs id w) ≡ draws_in vs = frame (λ (v : View). v.draws) vs id v w at refl in
        let tallied : tallies_in (set vs id w) ≡ tallies_in vs = frame tally_of vs id v w at refl in record {
          log = r.log;
          table = r.table;
          cells = r.cells;
          function = function;
          half = half;
          on = on;
          chain = chain;
          journal = subst (λ (ds : List Draws). Journal ws.journal ws.board_turn ds start r.log r.table) (sym drawn) r.journal;
          phase = subst (Phase ws.phase) (sym (frame footing_of vs id v w at refl)) r.phase;
          counts = subst (Counted ws.count r.cells) (sym tallied) r.counts;
          kept = subst (Kept z function r.cells) (sym tallied) kept;
          on_board = subst (λ (y : Option (Option (std.Option S)) × List Draws). Board board ws.board_turn y.0 y.1 r.table r.cells) (λ i. (sym same i, sym drawn i)) r.on_board;
          ordered = ordered_alike r.orders (orders_from (opening_orders start) r.log) vs id v w at orders told refl r.ordered;
          sound = sound;
          remembered = subst (Remembered memo (view_of (content_of z nd r.orders function half)) mt (home' 2)) (sym (map-set (λ (v : View). v.hand) vs id w)) remembered;
          tables = subst (Tables free_slots z (content_of z nd r.orders function half) on ft tn home') (sym (map-set (λ (v : View). v.hand) vs id w)) tables;
          linked = subst (Linked z nd nx hd on chain) (sym (map-set (λ (v : View). v.hand) vs id w)) linked;
          sifts = steps_same start r.log vs r.sifts id v w at refl refl refl;
          tied = each_set (λ i (f : View). Tied f) vs id w (λ i f apart there. r.tied i f there) tied;
          half_by = half_by;
          orders = r.orders;
          pending = r.pending;
          positions = r.positions;
          sized = each_set (λ i (f : View). (f.draws.live ≡ true) ⊎ (f.draws.closing ≡ true) → f.draws.slots ≡ z.slots) vs id w (λ i f apart there. r.sized i f there) (r.sized id v at);
          pending_by = by_pending r.pending vs id v w at refl due r.pending_by;
          seen = seen;
          holders = holders;
          generations = each_set (λ _ (u : View). Each (IsOfSlot ws.count u) u.counts.generations) vs id w (λ i u apart there. r.generations i u there) (r.generations id v at);
        }

    -- where it knows what it did
    pub parts_hand : (h : Hand) (ft mt : ℕ) (tn nd nx hd : ℕ → ℕ) (home' : ℕ → Option (Option (std.Option S))) (function : ℕ → std.Option Denoted) (on : ℕ → Bool) (chain : ℕ → List ℕ) → home' 0 ≡ home 0
        → Kept z function r.cells (tallies_in vs) → IsSound (content_of z nd r.orders function r.half) → Remembered memo (view_of (content_of z nd r.orders function r.half)) mt (home' 2) (set (hands_in vs) id h)
        → Tables free_slots z (content_of z nd r.orders function r.half) on ft tn home' (set (hands_in vs) id h) → Linked z nd nx hd on chain (set (hands_in vs) id h)
        → Tied (handed v h) → AreSeen z nd function (set vs id (handed v h)) → PartsOf z (record ws { free_turn = ft; memo_turn = mt; turn = tn; node = nd; next = nx; head = hd }) home' (set vs id (handed v h))
    parts_hand h ft mt tn nd nx hd home' function on chain same kept sound remembered tables linked tied seen =
        parts_moved h v.known ft mt tn nd nx hd home' function r.half on chain same refl refl refl kept sound remembered tables linked tied (by_full (r.half ≡ None) vs id v (handed v h) at refl r.half_by) seen
        (each_set (λ _ (u : View). IsHolder ws.count r.half r.pending u) vs id (handed v h) (λ i u apart there. r.holders i u there) (r.holders id v at))

    -- what the seats know of nodes stays, where no node word changes
    pub seen_here : (h : Hand) → AreSeen z ws.node r.function (set vs id (handed v h))
    seen_here h = seen_other z ws.node r.function vs r.seen id (handed v h) (record { words = (r.seen id v at).words; held = (r.seen id v at).held })

    -- who has an operation share, beside it no swap is half made
    pub settled_by : v.shares.op ≡ shares.Held → r.half ≡ None
    settled_by held = ⊎_elim (λ none_half. none_half) (λ (y : HalfHolder r.half vs). let h = y.0 in
        let there : get_elem? (footings_in vs) h.0 ≡ some (footing_of h.1) = at_map footing_of vs h.0 h.1 h.2 in
        let one : hold h.1.shares.full ≡ 1 = ap hold h.3 in
        let w = (r.phase.within h.0 (footing_of h.1) there).1 in
        absurd (excludes ws.phase (footings_in vs) r.phase id h.0 (footing_of v) (footing_of h.1) (at_map footing_of vs id v at) there held (holds h.1.shares.order (omega (arith, w, one))))) r.half_by
      where
        holds : (h : Hold) → 0 < hold h → h ≡ Holding
        holds Holding lt = refl
        holds Free lt = absurd (omega (arith, lt))
        holds Claimed lt = absurd (omega (arith, lt))

    -- beside another seat that has a slot taken no swap is half made, where this one has too
    others_settled : (due : Job) → v.hand.taken ≡ Some due → (i : ℕ) (g : Hand) (b : Job) → i ≢ id → get_elem? (hands_in vs) i ≡ some g → g.taken ≡ Some b → r.half ≡ None
    others_settled due is i g b apart there its = ⊎_elim settled_by (λ holding. absurd (
        let m = map_at (λ (u : View). u.hand) vs i g there in
        let their : m.0.hand.taken ≡ Some b = ap (λ (h : Hand). h.taken) m.2 ∙ its in
        ⊎_elim (λ held. excludes ws.phase (footings_in vs) r.phase i id (footing_of m.0) (footing_of v) (at_map footing_of vs i m.0 m.1) (at_map footing_of vs id v at) held holding)
        (λ other. one_order ws.phase (footings_in vs) r.phase id i (footing_of v) (footing_of m.0) apart (at_map footing_of vs id v at) (at_map footing_of vs i m.0 m.1) holding other)
        ((r.tied i m.0 m.1).taken (λ gone. never b (sym gone.0 ∙ their))))) ((r.tied id v at).taken (λ gone. never due (sym gone.0 ∙ is)))
      where
        never : (b : Job) → None ≡ Some b → ⊥
        never b e = cc

    -- beside a seat that is in the midst of something no other holds the order
    nobody_else : (IsIdle v.hand → ⊥) → (j : ℕ) (u : View) → j ≢ id → get_elem? vs j ≡ some u → u.shares.order ≡ Holding → ⊥
    nobody_else busy j u apart there other = ⊎_elim
        (λ held. excludes ws.phase (footings_in vs) r.phase id j (footing_of v) (footing_of u) (at_map footing_of vs id v at) (at_map footing_of vs j u there) held other)
        (λ holding. one_order ws.phase (footings_in vs) r.phase id j (footing_of v) (footing_of u) apart (at_map footing_of vs id v at) (at_map footing_of vs j u there) holding other)
        ((r.tied id v at).taken busy)

    pub hand_at : get_elem? (hands_in vs) id ≡ some v.hand
    hand_at = at_map (λ (u : View). u.hand) vs id v at

    -- a slot that is on is in use
    used_on : (s : ℕ) → r.on s ≡ true → (word : Word) × (unpack_of (ws.node s) ≡ std.Some word)
    used_on s is = let u = r.linked.used s is in (u.1, u.2)

    -- what this seat has of its own is on no chain, and no other's
    own_off : (s : ℕ) → Owns v.hand s → r.on s ≡ false
    own_off s own = owned_off free_slots z (content_of z ws.node r.orders r.function r.half) r.on ws.free_turn ws.turn home (hands_in vs) r.tables used_on id v.hand s hand_at own

    own_alone : (s : ℕ) → Owns v.hand s → (i : ℕ) (g : Hand) → i ≢ id → get_elem? (hands_in vs) i ≡ some g → Owns g s → ⊥
    own_alone s own i g apart there its = apart (owns_once free_slots z (content_of z ws.node r.orders r.function r.half) r.on ws.free_turn ws.turn home (hands_in vs) r.tables i id g v.hand s there hand_at its own)

    -- the store of a new node in the slot that was taken for it, under an operation share or in the middle of a swap
    pub parts_store : (due : Job) (bits : ℕ) → bits < 18446744073709551616 → v.hand.taken ≡ Some due → v.hand.loose ≡ None → Each (λ (note : SeenWord). note.slot ≢ (slot_of due)) v.known.words → unpack_of bits ≡ Some (word_of due)
        → PartsOf z (record ws { node = put_at ws.node (slot_of due) bits }) home (set vs id (handed v (storing due v.hand)))
    parts_store due bits small is none_loose unnoted reads =
        let w : Content = content_of z ws.node r.orders r.function r.half in
        let taken : IsWork w due = (r.tables.taken id v.hand hand_at due is).1 in
        let function : ℕ → std.Option Denoted = (done w due).function in
        let nd : ℕ → ℕ = put_at ws.node (slot_of due) bits in
        let g : Hand = storing due v.hand in
        let off : r.on (slot_of due) ≡ false = own_off (slot_of due) (inl (due, is, refl)) in
        let above : 3 ≤ (slot_of due) = elim (cases_lt (slot_of due) 5) [
          | inl lt ↦ absurd (no_some (Leaf (constant_value (slot_of due))) (sym taken.free ∙ r.sound.constants (slot_of due) lt))
          | inr le ↦ omega (arith, le)
        ] in
        let content : content_of z nd r.orders function r.half ≡ done w due = content_done z ws.node r.orders r.function r.half due bits reads in
        let t = r.tied id v at in
        parts_hand g ws.free_turn ws.memo_turn ws.turn nd ws.next ws.head home function r.on r.chain refl
        (kept_grows z r.function function r.cells (tallies_in vs) (λ s f e. job_kept w r.sound due taken s f e) r.kept)
        (subst IsSound (sym content) (job_sound w r.sound due taken)) (remembered_here g refl home refl nd function r.half (λ s f e. job_kept w r.sound due taken s f e))
        (subst (λ (c : Content). Tables free_slots z c r.on ws.free_turn ws.turn home (set (hands_in vs) id g)) (sym content)
        (stores_it free_slots z w r.on ws.free_turn ws.turn home (hands_in vs) r.tables id v.hand hand_at due (done w due) (word_of due) is none_loose off above refl (job_here w r.sound due taken) (job_other w r.sound due taken)
        (λ i h b apart there its other_var other_slot was. others_work w r.sound z (others_settled due is i h b apart there its) due b taken other_var other_slot was)))
        (hand_links z nd ws.next ws.head r.on r.chain (hands_in vs) (words_it z ws.node ws.next ws.head r.on r.chain (hands_in vs) r.linked (slot_of due) bits small off) id g
        (λ k its own. r.linked.links id v.hand hand_at k its (⊎_elim (λ x. absurd (no_some x.0 x.1)) (λ l. inl (due, is, some_same (slot_of due) k.slot l)) own))
        (λ n its. (words_it z ws.node ws.next ws.head r.on r.chain (hands_in vs) r.linked (slot_of due) bits small off).walks id v.hand hand_at n its)
        (r.linked.wholes id v.hand hand_at))
        (record { zeros = t.zeros; pins = t.pins; taken = λ _. t.taken (λ idle. no_some due (sym idle.0 ∙ is)); alone = t.alone; dead = λ gone. absurd (no_some due (sym (t.dead gone).2.0 ∙ is)) })
        (seen_store z ws.node r.function vs r.seen id (handed v g) (slot_of due) bits function taken.free (λ q f e. job_kept w r.sound due taken q f e) (nobody_else (λ idle. no_some due (sym idle.0 ∙ is)))
        (record {
          words = λ has. each_both (λ (note : SeenWord). note.slot ≢ (slot_of due)) (StandsSo ws.node v) (StandsSo nd (handed v g)) (λ note off st. (put_at-other ws.node (slot_of due) note.slot bits off ∙ st.0, st.1)) v.known.words unnoted ((r.seen id v at).words has);
          held = λ has. each_map (IsHeldBy z r.function) (IsHeldBy z function) (still_held z r.function function (λ q f e. job_kept w r.sound due taken q f e)) v.known.seen ((r.seen id v at).held has);
        }))

    pub stored_function : (due : Job) (bits : ℕ) (small : bits < 18446744073709551616) (is : v.hand.taken ≡ Some due) (none_loose : v.hand.loose ≡ None) (unnoted : Each (λ (note : SeenWord). note.slot ≢ (slot_of due)) v.known.words) (reads : unpack_of bits ≡ Some (word_of due))
        → (parts_store due bits small is none_loose unnoted reads).function ≡ (done (content_of z ws.node r.orders r.function r.half) due).function
    unfolding parts_store parts_hand parts_moved
    stored_function due bits small is none_loose unnoted reads = refl

    pub stored_orders : (due : Job) (bits : ℕ) (small : bits < 18446744073709551616) (is : v.hand.taken ≡ Some due) (none_loose : v.hand.loose ≡ None) (unnoted : Each (λ (note : SeenWord). note.slot ≢ (slot_of due)) v.known.words) (reads : unpack_of bits ≡ Some (word_of due))
        → (parts_store due bits small is none_loose unnoted reads).orders ≡ r.orders
    unfolding parts_store parts_hand parts_moved
    stored_orders due bits small is none_loose unnoted reads = refl

    -- the store of a next word, at a slot that is taken or on no chain
    pub parts_link : (s x : ℕ) → Owns v.hand s → PartsOf z (record ws { next = put_at ws.next s x }) home (set vs id (handed v (linking s x v.hand)))
    parts_link s x own =
        let g : Hand = linking s x v.hand in
        let t = r.tied id v at in
        parts_hand g ws.free_turn ws.memo_turn ws.turn ws.node (put_at ws.next s x) ws.head home r.function r.on r.chain refl r.kept r.sound (remembered_here g refl home refl ws.node r.function r.half (λ s f is. is))
        (hands_it free_slots z (content_of z ws.node r.orders r.function r.half) r.on ws.free_turn ws.turn home (hands_in vs) r.tables id v.hand hand_at g refl refl refl refl (r.tables.walking id v.hand hand_at))
        (links_it z ws.node ws.next ws.head r.on r.chain (hands_in vs) r.linked id v.hand s x hand_at (own_off s own) (own_alone s own))
        (record { zeros = t.zeros; pins = t.pins; taken = t.taken; alone = t.alone; dead = t.dead })
        (seen_here g)

    -- The step of a head that finds the link which the slot has: the slot stands before the others then. What others know is of other levels.
    pub parts_push : (s link : ℕ) → v.hand.loose ≡ Some s → v.hand.link ≡ Some (record { slot = s; link = link }) → ws.head (head_of z (ws.node s)) ≡ link
        → PartsOf z (record ws { head = put_at ws.head (head_of z (ws.node s)) (suc s) }) home (set vs id (handed v (pushing v.hand)))
    parts_push s link loose linked found =
        let g : Hand = pushing v.hand in
        let w : Content = content_of z ws.node r.orders r.function r.half in
        let t = r.tied id v at in
        let mine = r.tables.loosened id v.hand hand_at s loose in
        let busy : IsIdle v.hand → ⊥ = λ idle. no_some s (sym idle.1 ∙ loose) in
        parts_hand g ws.free_turn ws.memo_turn ws.turn ws.node ws.next (put_at ws.head (head_of z (ws.node s)) (suc s)) home r.function (put_at r.on s true) (put_at r.chain (head_of z (ws.node s)) (s ∷ r.chain (head_of z (ws.node s)))) refl r.kept r.sound (remembered_here g refl home refl ws.node r.function r.half (λ s f is. is))
        (pushes_it free_slots z w r.on ws.free_turn ws.turn home (hands_in vs) r.tables id v.hand hand_at s loose)
        (heads_it z ws.node ws.next ws.head r.on r.chain (hands_in vs) r.linked id v.hand s link mine.2.0 hand_at loose linked mine.1 (r.tables.high s id mine.0) mine.2.1 (head_within z (ws.node s)) found
        (λ i h apart there n walk.
        let m = map_at (λ (u : View). u.hand) vs i h there in (
          (λ e. apart (one_hand free_slots z w r.on ws.free_turn ws.turn home (hands_in vs) r.tables i id h v.hand n.level there hand_at (r.tables.walking i h there n walk) (subst (HasLevel v.hand) e mine.2.2))),
          not_whole n.whole refl (λ whole. nobody_else busy i m.0 apart m.1 ((r.tied i m.0 m.1).alone n (ap (λ (y : Hand). y.walk) m.2 ∙ walk) whole)),
        )))
        (record { zeros = t.zeros; pins = t.pins; taken = λ _. t.taken busy; alone = λ n its. absurd (no_some n its); dead = λ gone. absurd (no_some s (sym (t.dead gone).2.1 ∙ loose)) })
        (seen_here g)
      where
        not_whole : {n : Bool} (b : Bool) → n ≡ b → (n ≡ true → ⊥) → n ≡ false
        not_whole true e refuse = absurd (refuse e)
        not_whole false e refuse = e

    -- who has a level's turn under a share or the hold loads a head
    pub parts_walk : (n : Walk) → (v.shares.op ≡ shares.Held) ⊎ (v.shares.order ≡ Holding) → v.draws.live ≡ true → HasLevel v.hand n.level → n.head < heads z → n.link ≡ ws.head n.head → n.rest ≡ r.chain n.head → (n.whole ≡ true → v.shares.order ≡ Holding)
        → PartsOf z ws home (set vs id (handed v (record v.hand { walk = Some n })))
    parts_walk n share live level lt link rest whole =
        let g : Hand = record v.hand { walk = Some n } in
        let t = r.tied id v at in
        parts_hand g ws.free_turn ws.memo_turn ws.turn ws.node ws.next ws.head home r.function r.on r.chain refl r.kept r.sound (remembered_here g refl home refl ws.node r.function r.half (λ s f is. is))
        (hands_it free_slots z (content_of z ws.node r.orders r.function r.half) r.on ws.free_turn ws.turn home (hands_in vs) r.tables id v.hand hand_at g refl refl refl refl (λ m its. subst (λ (m : Walk). HasLevel v.hand m.level) (some_same n m its) level))
        (head_loaded z ws.node ws.next ws.head r.on r.chain (hands_in vs) r.linked id g n (r.linked.links id v.hand hand_at) refl lt link rest)
        (record { zeros = t.zeros; pins = t.pins; taken = λ _. share; alone = λ m its is. whole (ap (λ (m : Walk). m.whole) (some_same n m its) ∙ is); dead = λ gone. absurd (true≢false (sym live ∙ gone)) })
        (seen_here g)

    -- A slot is taken off its chain under the order hold, by who has its level's turn and knows the whole chain: nobody else has a share or a hold.
    module _ (n : Walk) (s : ℕ) (ss : List ℕ) (word : Word) (walk : v.hand.walk ≡ Some n) (whole : n.whole ≡ true) (none_loose : v.hand.loose ≡ None) (reads : unpack_of (ws.node s) ≡ std.Some word) (level : HasLevel v.hand (level_of z word)) where
      nobody_walks : (i : ℕ) (g : Hand) → i ≢ id → get_elem? (hands_in vs) i ≡ some g → IsIdle g
      nobody_walks i g apart there =
          let m = map_at (λ (u : View). u.hand) vs i g there in
          let holding = (r.tied id v at).alone n walk whole in
          subst IsIdle m.2 (idle_of m.0 (r.tied i m.0 m.1) (λ has. ⊎_elim
          (λ held. excludes ws.phase (footings_in vs) r.phase i id (footing_of m.0) (footing_of v) (at_map footing_of vs i m.0 m.1) (at_map footing_of vs id v at) held holding)
          (λ other. one_order ws.phase (footings_in vs) r.phase id i (footing_of v) (footing_of m.0) apart (at_map footing_of vs id v at) (at_map footing_of vs i m.0 m.1) holding other) has))

      unlinked_with : (nx hd : ℕ → ℕ) (chain : ℕ → List ℕ) → r.on s ≡ true → Linked z ws.node nx hd (put_at r.on s false) chain (set (hands_in vs) id (loosening s v.hand))
          → PartsOf z (record ws { next = nx; head = hd }) home (set vs id (handed v (loosening s v.hand)))
      unlinked_with nx hd chain is_on linked =
          let g : Hand = loosening s v.hand in
          let t = r.tied id v at in
          parts_hand g ws.free_turn ws.memo_turn ws.turn ws.node nx hd home r.function (put_at r.on s false) chain refl r.kept r.sound (remembered_here g refl home refl ws.node r.function r.half (λ s f is. is))
          (loosens_it free_slots z (content_of z ws.node r.orders r.function r.half) r.on ws.free_turn ws.turn home (hands_in vs) r.tables id v.hand hand_at s word none_loose is_on (r.linked.used s is_on).0 reads level)
          linked
          (record { zeros = t.zeros; pins = t.pins; taken = λ _. inr (t.alone n walk whole); alone = λ m its. absurd (no_some m its); dead = λ gone. absurd (no_some n (sym (t.dead gone).2.2 ∙ walk)) })
          (seen_here g)

      -- the first: the head becomes its next word
      pub parts_unhead : n.rest ≡ s ∷ ss → PartsOf z (record ws { head = put_at ws.head n.head (ws.next s) }) home (set vs id (handed v (loosening s v.hand)))
      parts_unhead rest = unlinked_with ws.next (put_at ws.head n.head (ws.next s)) (put_at r.chain n.head ss)
          ((r.linked.walks id v.hand hand_at n walk).1.all_on s (subst (λ (y : List ℕ). Lists y s) (sym rest) (inl refl)))
          (unheads_it z ws.node ws.next ws.head r.on r.chain (hands_in vs) r.linked id v.hand n s ss hand_at walk whole (λ i g apart there. (nobody_walks i g apart there).2) rest)

      -- another: the next word of the one before it becomes its next word
      pub parts_unlink : (p : ℕ) (front : List ℕ) → n.rest ≡ front ++ p ∷ s ∷ ss → PartsOf z (record ws { next = put_at ws.next p (ws.next s) }) home (set vs id (handed v (loosening s v.hand)))
      parts_unlink p front rest = unlinked_with (put_at ws.next p (ws.next s)) ws.head (put_at r.chain n.head (front ++ p ∷ ss))
          ((r.linked.walks id v.hand hand_at n walk).1.all_on s (subst (λ (y : List ℕ). Lists y s) (sym rest) (there front)))
          (unlinks_it z ws.node ws.next ws.head r.on r.chain (hands_in vs) r.linked id v.hand n s ss hand_at walk whole (λ i g apart there. (nobody_walks i g apart there).2) p front rest
          (λ i g t apart there own. ⊎_elim (λ x. absurd (no_some x.0 (sym (nobody_walks i g apart there).0 ∙ x.1))) (λ l. absurd (no_some t (sym (nobody_walks i g apart there).1 ∙ l))) own))
        where
          there : (front : List ℕ) → Lists (front ++ p ∷ s ∷ ss) s
          there [] = inr (inl refl)
          there (t ∷ front) = inr (there front)

    -- A walk of the chain of the word's head found it nowhere, and this seat has no slot that is not linked: no slot behind the three that are told by their number has the word.
    pub parts_absent : (n : Walk) (bits : ℕ) (word : Word) → v.hand.walk ≡ Some n → v.hand.loose ≡ None → bits < 18446744073709551616 → unpack_of bits ≡ std.Some word → head_of z bits ≡ n.head → level_of z word ≡ n.level → ((s : ℕ) → Lists n.rest s → ws.node s ≢ bits)
        → (s : ℕ) → 3 ≤ s → unpack_of (ws.node s) ≡ std.Some word → ⊥
    parts_absent n bits word walk none_loose small reads head level none_there s high its =
        let w : Content = content_of z ws.node r.orders r.function r.half in
        let same : ws.node s ≡ bits = packs_back (ws.node s) word (r.linked.fits s) its ∙ sym (packs_back bits word small reads) in
        ⊎_elim (λ is_on. absent_on z ws.node ws.next ws.head r.on r.chain (hands_in vs) r.linked id v.hand n bits hand_at walk head (ap (level_if z) reads ∙ level) none_there s is_on same)
        (λ c.
        let b = r.tables.loose_by s c.0 c.1 in
        let l = r.tables.loosened c.0 b.0 b.1 s b.2 in
        let same_word : l.2.0 ≡ word = some_same l.2.0 word (sym l.2.1 ∙ its) in
        let me : c.0 ≡ id = one_hand free_slots z w r.on ws.free_turn ws.turn home (hands_in vs) r.tables c.0 id b.0 v.hand n.level b.1 hand_at (subst (HasLevel b.0) (ap (level_of z) same_word ∙ level) l.2.2) (r.tables.walking id v.hand hand_at n walk) in
        no_some s (sym none_loose ∙ ap (λ (y : Hand). y.loose) (some-injective v.hand b.0 (sym hand_at ∙ ap (λ j. get_elem? (hands_in vs) j) (sym me) ∙ b.1)) ∙ b.2))
        (r.tables.complete s word high its)

    -- so a node that is due is absent, as IsDue asks; under an operation share no slot denotes its function then
    pub parts_no_node : (n : Walk) (bits : ℕ) (node : Node) → v.hand.walk ≡ Some n → v.hand.loose ≡ None → bits < 18446744073709551616 → unpack_of bits ≡ std.Some (Inner node) → head_of z bits ≡ n.head → place_of z node.var ≡ n.level → ((s : ℕ) → Lists n.rest s → ws.node s ≢ bits)
        → (s : ℕ) → (content_of z ws.node r.orders r.function r.half).word s ≡ Some (Inner node) → ⊥
    parts_no_node n bits node walk none_loose small reads head level none_there s its = elim (cases_lt s 3) [
      | inl lt ↦ leaf_not (constant_value s) (sym (r.sound.constants s (omega (arith, lt))) ∙ its)
      | inr le ↦ parts_absent n bits (Inner node) walk none_loose small reads head level none_there s le its
    ]
      where
        leaf_not : (x : ℤ) → std.Some (Leaf x) ≡ std.Some (Inner node) → ⊥
        leaf_not x e = cc

    -- and a leaf that is due
    pub parts_no_leaf : (n : Walk) (bits : ℕ) (x : ℤ) → v.hand.walk ≡ Some n → v.hand.loose ≡ None → bits < 18446744073709551616 → unpack_of bits ≡ std.Some (Leaf x) → head_of z bits ≡ n.head → places z ≡ n.level → ((s : ℕ) → Lists n.rest s → ws.node s ≢ bits)
        → (s : ℕ) → 3 ≤ s → (content_of z ws.node r.orders r.function r.half).word s ≡ Some (Leaf x) → ⊥
    parts_no_leaf n bits x walk none_loose small reads head level none_there = parts_absent n bits (Leaf x) walk none_loose small reads head level none_there

    -- what is due where the free list is in hand and empty: each slot is in use or another seat's, and none denotes the same
    pub parts_full : (due : Job) → r.half ≡ None → v.hand.free ≡ Some [] → v.hand.taken ≡ None → HasLevel v.hand (level_of z (word_of due)) → IsToDo (content_of z ws.node r.orders r.function r.half) due
        → IsFull free_slots z (content_of z ws.node r.orders r.function r.half) r.on ws.free_turn ws.turn home (hands_in vs) r.tables due
    parts_full due settled empty none_taken level is =
        full_is free_slots z (content_of z ws.node r.orders r.function r.half) r.on ws.free_turn ws.turn home (hands_in vs) r.tables r.sound settled id v.hand due hand_at empty none_taken level is
