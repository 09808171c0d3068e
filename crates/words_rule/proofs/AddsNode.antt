-- The holder of everything stores a new node in the first slot of the free list, which stays in hand.
use Rattle.std.proofs.Common.{◌≡◌, ℕ, zero, suc, ◌+◌, ◌<◌, ◌≤◌, Bool, true, false, List, ◌∷◌, set, Some, None, option_map, inl, inr, refl, ap, sym, ◌∙◌, subst, arith}
use Rattle.std.specs.Prelude as std
use Rattle.std.proofs.lemmas.Bool.{cases_lt}
use mathlib.Core.Option.{Option, none, some}
use lib.ListN.{get_elem?}
use Rattle.atomic_table.specs.Table.{Me, State, step, keeps, Allows}
use Rattle.atomic_table.proofs.Lists.{at_map, set_else}
use Rattle.edge_bits.specs.Permanent.{first_element}
use Rattle.edge_bits.specs.Reading.{plain}
use Rattle.edge_bits.specs.Words.{unpack_of}
use Rattle.edge_bits.specs.declared.edges.Kind.{Kind}
use Rattle.edge_bits.specs.declared.edges.Kind.TheVariants.{Bdd, Add, Zdd}
use Rattle.edge_bits.specs.declared.words.Node.{Node}
use Rattle.edge_bits.specs.declared.words.Word.{Word}
use Rattle.edge_bits.specs.declared.words.Word.TheVariants.{Inner, Leaf}
use Rattle.function_laws.specs.SessionEntries.{Each}
use Rattle.function_laws.specs.Kinds.{Denoted}
use Rattle.node_store.specs.Contents.{Content, IsSound, constant_value, top_of, view_of}
use Rattle.node_store.specs.Changes.{put_at, with_node}
use Rattle.node_store.specs.Views as views
use Rattle.node_store.specs.Views.{CanMake, IsBeyond, node_values, values_at}
use Rattle.node_store.proofs.Adding.{added_sound}
use Rattle.node_store.proofs.Parting.{same_kind}
use Rattle.node_store.proofs.Rewriting.{put_at-same, put_at-other}
use Rattle.words_rule.specs.declared.cell.Cell.{Cell}
use Rattle.words_rule.specs.declared.view.Due.{Due}
use Rattle.words_rule.specs.declared.view.Hand.{Hand}
use Rattle.words_rule.specs.declared.view.Hold.TheVariants.{Holding}
use Rattle.words_rule.specs.declared.view.Job.{Job}
use Rattle.words_rule.specs.declared.view.Job.TheVariants.{OfNode}
use Rattle.words_rule.specs.declared.view.Known.{Known}
use Rattle.words_rule.specs.declared.view.Neighbours.{Neighbours}
use Rattle.words_rule.specs.declared.view.View.{View}
use Rattle.words_rule.specs.Views.{orders_of, told_orders}
use Rattle.words_rule.specs.Shapes.{shape_in}
use Rattle.words_rule.specs.Dues.{IsDue, IsWork, word_of}
use Rattle.words_rule.specs.Halves.{half_in, pair_of}
use Rattle.words_rule.specs.Hands.{HasLevel, Tables, level_of}
use Rattle.words_rule.specs.HeldContents.{KnowsAll, held_content, with_seen, with_word}
use Rattle.words_rule.specs.HolderPlays.{HasAdded, IsAddable, node_added, node_denotes}
use Rattle.words_rule.specs.Kept.{IsHeldBy, whole_of}
use Rattle.words_rule.specs.Known.{denoted_in}
use Rattle.words_rule.specs.Layout.{Shape, Words, content_of, node_at, words_of}
use Rattle.words_rule.specs.OneSession.{storing_node}
use Rattle.words_rule.specs.Rule.{Parts, Rule, hands_in, tallies_in}
use Rattle.words_rule.specs.Seen.{StandsSo}
use Rattle.words_rule.proofs.Decoding.{Beyond, decodes}
use Rattle.words_rule.proofs.Draws.{by_full}
use Rattle.words_rule.proofs.Handed.{moved, parts_moved, remembered_here}
use Rattle.words_rule.proofs.Handling.{never as no_some, stores_it, takes_held}
use Rattle.words_rule.proofs.HeldNotes.{beyond_with, bits_put, each_seen_else, each_word_else, functions_put, noted_with, words_put}
use Rattle.words_rule.proofs.HolderKnows.{counted, same_content}
use Rattle.words_rule.proofs.Jobs.{content_done, done, function_here, job_here, job_kept, job_other, job_sound}
use Rattle.words_rule.proofs.Keeping.{kept_grows, still_held}
use Rattle.words_rule.proofs.Layouts.{set_node}
use Rattle.words_rule.proofs.Linking.{hand_links, words_it}
use Rattle.words_rule.proofs.Lists.{not_true, set_at}
use Rattle.words_rule.proofs.Rewrites.{holders_now, nobody_keeps, nobody_takes, order_by_full}
use Rattle.words_rule.proofs.Seeing.{seen_alone}
use Rattle.words_rule.proofs.Stepping.{shape_is}
use Rattle.words_rule.proofs.OneSessions.{one_told, parts_told, told_node}
use Rattle.words_rule.proofs.Tabling.{after_word, set_set}
use Rattle.free_list.specs.FreeSlots.{FreeSlots}

abbrev due_of : ℕ → Kind → Node → Due
due_of q k node = record { slot = q; kind = k; var = node.var; hi = plain node.hi; lo = node.lo }

-- the hand after it
abbrev adding : ℕ → List ℕ → Hand → Hand
adding q list h = record h { free = Some list; taken = None; loose = Some q; link = None }

-- what is due in the rule's store, which has no counts, generations and pins
module _ (w : Content) (c g : ℕ → ℕ) (p : ℕ → Bool) where
  top_same : (s : ℕ) → top_of (counted w c g p) s ≡ top_of w s
  top_same zero = refl
  top_same (suc zero) = refl
  top_same (suc (suc zero)) = refl
  top_same (suc (suc (suc s))) = refl

  view_same : view_of (counted w c g p) ≡ view_of w
  view_same = λ i. record (view_of w) { top = λ s. top_same s i }

  is_due : (q : ℕ) (k : Kind) (node : Node) → IsAddable k (counted w c g p) node → IsDue w (due_of q k node)
  is_due q k node a = record {
    can = subst (λ (y : views.View). CanMake k y node.var (plain node.hi) node.lo) view_same a.can;
    plain = refl;
    proper = a.proper;
    absent = a.absent;
    way = inr a.unknown;
  }

-- what the seat has and knows after it
abbrev added : View → ℕ → ℕ → List ℕ → Kind → Node → View
added v q bits list k node = record v {
  hand = adding q list v.hand;
  known = record v.known { words = with_word q bits v.known.words; seen = with_seen q (whole_of (shape_in v.draws) (node_denotes k (held_content v) node)) v.known.seen };
  stored = storing_node q bits v.stored;
}

module _ (v : View) (know : KnowsAll v) (q bits : ℕ) (list : List ℕ) (k : Kind) (node : Node) (none_taken : v.hand.taken ≡ None) (small : bits < 18446744073709551616) (inside : q < v.draws.slots) (reads : unpack_of bits ≡ Some (Inner node))
    (can : IsAddable k (held_content v) node) (free : (held_content v).word q ≡ None) (back : denoted_in v.draws.vars (whole_of (shape_in v.draws) (node_denotes k (held_content v) node)) ≡ node_denotes k (held_content v) node) where
  abbrev u : View
  u = added v q bits list k node

  content_after : held_content u ≡ with_node (held_content v) q node (node_denotes k (held_content v) node)
  content_after = λ i. record (held_content u) {
    word = (words_put q bits v.known.words ∙ ap (put_at (held_content v).word q) reads) i;
    function = (functions_put q bits v.known.words v.draws.vars v.known.seen (whole_of (shape_in v.draws) (node_denotes k (held_content v) node)) ∙ ap (λ (f : Denoted). put_at (held_content v).function q (Some f)) back) i;
  }

  knows_after : KnowsAll u
  knows_after = record {
    sound = subst IsSound (sym content_after) (added_sound (held_content v) know.sound k q node.var (plain node.hi) node.lo can.can refl can.proper free inside can.unknown);
    long = know.long;
    noted = noted_with q bits v.known.words v.draws.slots small know.noted;
    beyond = beyond_with q bits v.known.words v.draws.slots inside know.beyond;
    aged = know.aged;
    zeros = know.zeros;
    own = know.own;
    once = know.once;
  }

  has_added : HasAdded k node list q bits v u
  has_added = record {
    still = record { draws = refl; shares = refl; counts = refl; work = refl; told = refl; pending = refl };
    hand = ap (λ (t : std.Option Job). record v.hand { free = Some list; taken = t; loose = Some q; link = None }) (sym none_taken);
    stored = refl;
    content = content_after;
    bits_are = bits_put q bits v.known.words;
    knows = knows_after;
  }

-- a node is of one kind
one_kind : (w : Content) (node : Node) (k j : Kind) → IsAddable k w node → IsAddable j w node → k ≡ j
one_kind w node k j a b = same_kind k j (values_at k (view_of w) (plain node.hi)) (values_at j (view_of w) (plain node.hi)) (some_denoted _ _ (sym a.can.hi_is.is ∙ b.can.hi_is.is))
  where
    some_denoted : (f g : Denoted) → ◌≡◌ {A = std.Option Denoted} (Some f) (Some g) → f ≡ g
    some_denoted f g e = cc

some_node : (a b : Node) → ◌≡◌ {A = std.Option Word} (Some (Inner a)) (Some (Inner b)) → a ≡ b
some_node a b e = cc

some_behind : (q : ℕ) (a b : List ℕ) → ◌≡◌ {A = std.Option (List ℕ)} (Some (q ∷ a)) (Some (q ∷ b)) → a ≡ b
some_behind q a b e = cc

module _ {S : Type 0} (board : S → List (std.Option Cell)) (free_slots : S → FreeSlots) (memo : S → List ℕ) where
  abbrev TheRule : State (std.Option S) View → Type 0
  TheRule = Rule board free_slots memo

  abbrev PartsOf : Shape → Words → (ℕ → Option (Option (std.Option S))) → List View → Type 0
  PartsOf = Parts board free_slots memo

  module _ (z : Shape) (ws : Words) (home : ℕ → Option (Option (std.Option S))) (vs : List View) (r : PartsOf z ws home vs) (id : ℕ) (v : View) (at : get_elem? vs id ≡ some v)
      (full : v.shares.full ≡ Holding) (none_taken : v.hand.taken ≡ None) (none_loose : v.hand.loose ≡ None) (q bits : ℕ) (list : List ℕ) (free : v.hand.free ≡ Some (q ∷ list)) (small : bits < 18446744073709551616)
      (k : Kind) (node : Node) (reads : unpack_of bits ≡ Some (Inner node)) (due : IsDue (content_of z ws.node r.orders r.function r.half) (due_of q k node)) (level : HasLevel v.hand (level_of z (Inner node))) where
    abbrev w : Content
    w = content_of z ws.node r.orders r.function r.half

    abbrev job : Job
    job = OfNode (due_of q k node)

    abbrev hs : List Hand
    hs = hands_in vs

    hand_at : get_elem? hs id ≡ some v.hand
    hand_at = at_map (λ (u : View). u.hand) vs id v at

    slot : (q < z.slots) × (w.word q ≡ None) × (r.tables.taker q ≡ none)
    slot = r.tables.free_is.free 0 q (ap (λ (l : List ℕ). get_elem? l 0) (sym (r.tables.free_held id v.hand hand_at (q ∷ list) free).2))

    work : IsWork w job
    work = record { fits = due; free = slot.1; within = slot.0 }

    sound_after : IsSound (done w job)
    sound_after = job_sound w r.sound job work

    grows : (s : ℕ) (f : Denoted) → r.function s ≡ Some f → (done w job).function s ≡ Some f
    grows = job_kept w r.sound job work

    no_word : (word : Word) → ◌≡◌ {A = std.Option Word} None (Some word) → ⊥
    no_word word e = cc

    off : r.on q ≡ false
    off = not_true (r.on q) (λ on. let u = r.linked.used q on in no_word u.1 (sym slot.1 ∙ u.2))

    above : 3 ≤ q
    above = elim (cases_lt q 5) [
      | inl lt ↦ absurd (no_word (Leaf (constant_value q)) (sym slot.1 ∙ r.sound.constants q lt))
      | inr le ↦ omega (arith, le)
    ]

    abbrev taking : Hand
    taking = record v.hand { free = Some list; taken = Some job; link = None }

    tables_after : Tables free_slots z (done w job) r.on ws.free_turn ws.turn home (set hs id (adding q list v.hand))
    tables_after =
        let t = takes_held free_slots z w r.on ws.free_turn ws.turn home hs r.tables id v.hand hand_at job list free none_taken due level refl in
        subst (λ (l : List Hand). Tables free_slots z (done w job) r.on ws.free_turn ws.turn home l) (set_set hs id taking (adding q list v.hand))
        (stores_it free_slots z w r.on ws.free_turn ws.turn home (set hs id taking) t id taking (set_at hs id v.hand taking hand_at) job (done w job) (word_of job) refl none_loose off above refl (job_here w r.sound job work) (job_other w r.sound job work)
        (λ i g b apart there its. absurd (no_some b (sym (nobody_takes board free_slots memo z ws home vs r id v at (order_by_full board free_slots memo z ws home vs r id v at full) none_taken i g (sym (set_else hs id i taking apart) ∙ there)) ∙ its))))

    -- the new node stands in the slot, which is on no chain; what the seat notes then is as the store is then
    parts_add : (known : Known) → orders_of known ≡ orders_of v.known → told_orders known ≡ told_orders v.known → known.pending ≡ v.known.pending → known.ages ≡ v.known.ages → known.half ≡ v.known.half
        → Each (StandsSo (put_at ws.node q bits) v) known.words → Each (IsHeldBy z (done w job).function) known.seen
        → PartsOf z (record ws { node = put_at ws.node q bits }) home (set vs id (moved v (adding q list v.hand) known))
    parts_add known orders told pending ages same_half words seen =
        let nd : ℕ → ℕ = put_at ws.node q bits in
        let function : ℕ → std.Option Denoted = (done w job).function in
        let h : Hand = adding q list v.hand in
        let u : View = moved v h known in
        let t = r.tied id v at in
        let content : content_of z nd r.orders function r.half ≡ done w job = content_done z ws.node r.orders r.function r.half job bits reads in
        let linked = words_it z ws.node ws.next ws.head r.on r.chain hs r.linked q bits small off in
        let half_is : half_in known ≡ r.half = ap (option_map pair_of) same_half ∙ ((r.holders id v at).1 full).0 in
        parts_moved board free_slots memo z ws home vs r id v at h known ws.free_turn ws.memo_turn ws.turn nd ws.next ws.head home function r.half r.on r.chain refl orders told pending
        (kept_grows z r.function function r.cells (tallies_in vs) grows r.kept)
        (subst IsSound (sym content) sound_after)
        (remembered_here board free_slots memo z ws home vs r id v at h refl home refl nd function r.half grows)
        (subst (λ (c : Content). Tables free_slots z c r.on ws.free_turn ws.turn home (set hs id h)) (sym content) tables_after)
        (hand_links z nd ws.next ws.head r.on r.chain hs linked id h (λ x its. absurd (no_some x its)) (linked.walks id v.hand hand_at) (r.linked.wholes id v.hand hand_at))
        (record { zeros = t.zeros; pins = t.pins; taken = λ _. inr (order_by_full board free_slots memo z ws home vs r id v at full); alone = t.alone; dead = λ gone. absurd (no_some (q ∷ list) (sym (t.dead gone).4 ∙ free)) })
        (by_full (r.half ≡ None) vs id v u at (ap (λ (n : std.Option Neighbours). (v.shares, n)) same_half) r.half_by)
        (seen_alone z ws.node r.function vs r.seen id u nd function (nobody_keeps board free_slots memo z ws home vs r id v at full) (record { words = λ has. words; held = λ has. seen }))
        (holders_now board free_slots memo z ws home vs r id v at u r.half r.pending full refl ages half_is (pending ∙ ((r.holders id v at).1 full).1))

    longer : (j : Kind) (x : ℕ) → Beyond z j x → IsBeyond j (view_of (done w job)) x
    longer Bdd x h = subst (λ (y : ℕ). y ≤ x) (sym r.positions.variables_long) h
    longer Add x h = subst (λ (y : ℕ). y ≤ x) (sym r.positions.variables_long) h
    longer Zdd x h = subst (λ (y : ℕ). first_element + y ≤ x) (sym r.positions.elements_long) h

    -- and its function is had back from its list
    new_decoded : denoted_in z.variables (whole_of z (node_denotes k w node)) ≡ node_denotes k w node
    new_decoded = decodes z k (node_values k (view_of w) node.var (plain node.hi) node.lo) (λ x h. (sound_after.of_store q k (node_values k (view_of w) node.var (plain node.hi) node.lo) (function_here w job)).0 x (longer k x h))

  module _ (z : Shape) (ws : Words) (home : ℕ → Option (Option (std.Option S))) (vs : List View) (r : PartsOf z ws home vs) (id : ℕ) (v : View) (at : get_elem? vs id ≡ some v) where
    -- the parts after it, the slot was free, and the function is had back from the note
    parts_added : v.draws.live ≡ true → v.shares.full ≡ Holding → KnowsAll v → (q bits : ℕ) (list : List ℕ) (k : Kind) (node : Node) → bits < 18446744073709551616 → v.hand.taken ≡ None → v.hand.loose ≡ None → v.hand.free ≡ Some (q ∷ list) → unpack_of bits ≡ Some (Inner node)
        → IsAddable k (held_content v) node → HasLevel v.hand (level_of (shape_in v.draws) (Inner node))
        → PartsOf z (record ws { node = put_at ws.node q bits }) home (set vs id (moved v (adding q list v.hand) (added v q bits list k node).known)) × ((held_content v).word q ≡ None)
        × (denoted_in v.draws.vars (whole_of (shape_in v.draws) (node_denotes k (held_content v) node)) ≡ node_denotes k (held_content v) node)
    parts_added live full know q bits list k node small none_taken none_loose free reads can level =
        let holding = order_by_full board free_slots memo z ws home vs r id v at full in
        let w : Content = content_of z ws.node r.orders r.function r.half in
        let held : Content = held_content v in
        let same : held ≡ counted w held.count held.generation held.pinned = same_content board free_slots memo z ws home vs r id v at live holding know ((r.holders id v at).1 full).0 in
        let due : IsDue w (due_of q k node) = is_due w held.count held.generation held.pinned q k node (subst (λ (c : Content). IsAddable k c node) same can) in
        let shape : z ≡ shape_in v.draws = shape_is board free_slots memo z ws home vs r id v at live in
        let level_now : HasLevel v.hand (level_of z (Inner node)) = subst (λ (y : Shape). HasLevel v.hand (level_of y (Inner node))) (sym shape) level in
        let job : Job = OfNode (due_of q k node) in
        let f_is : node_denotes k held node ≡ node_denotes k w node = ap (λ (c : Content). node_denotes k c node) same in
        let function : ℕ → std.Option Denoted = (done w job).function in
        let here : function q ≡ Some (node_denotes k w node) = function_here w job in
        let list_is : whole_of z (node_denotes k w node) ≡ whole_of (shape_in v.draws) (node_denotes k held node) = λ i. whole_of (shape i) (sym f_is i) in
        let has_work : IsWork w job = work z ws home vs r id v at full none_taken none_loose q bits list free small k node reads due level_now in (
          parts_add z ws home vs r id v at full none_taken none_loose q bits list free small k node reads due level_now
              (added v q bits list k node).known refl refl refl refl refl
              ((put_at-same ws.node q bits, λ _. holding), each_word_else (StandsSo ws.node v) (StandsSo (put_at ws.node q bits) v) q (λ note off st. (put_at-other ws.node q note.slot bits off ∙ st.0, st.1)) v.known.words ((r.seen id v at).words (inr holding)))
              ((node_denotes k w node, here, list_is), each_seen_else (IsHeldBy z r.function) (IsHeldBy z function) q (λ held off. still_held z r.function function (job_kept w r.sound job has_work) held) v.known.seen ((r.seen id v at).held (inl (inr holding)))),
          ap (λ (c : Content). c.word q) same ∙ has_work.free,
          (λ i. denoted_in ((sym shape i).variables) (sym list_is i)) ∙ new_decoded z ws home vs r id v at full none_taken none_loose q bits list free small k node reads due level_now ∙ sym f_is,
        )

  -- as the table asks for it
  pub adds_node : (slots id word : ℕ) (me : Me (std.Option S) View) (q bits : ℕ) → word ≡ node_at (shape_in me.0.draws) q → me.0.draws.live ≡ true → me.0.shares.full ≡ Holding → KnowsAll me.0 → bits < 18446744073709551616 → q < me.0.draws.slots → ((list : List ℕ) × (me.0.hand.free ≡ Some (q ∷ list)))
      → me.0.hand.taken ≡ None → me.0.hand.loose ≡ None → ((k : Kind) × (node : Node) × (unpack_of bits ≡ Some (Inner node)) × IsAddable k (held_content me.0) node × HasLevel me.0.hand (level_of (shape_in me.0.draws) (Inner node)))
      → Allows (TheRule) slots id me word (λ _. bits) (node_added (step slots word bits 0 none) me)
  adds_node slots id word me q bits is live full know small inside free none_taken none_loose may = subst (λ (w : ℕ). Allows (TheRule) slots id me w (λ _. bits) (node_added (step slots w bits 0 none) me)) (sym is)
      (λ s r long at fits.
      let v = me.0 in
      let z = r.shape in
      let p = r.parts in
      let home = λ (k : ℕ). get_elem? s.homes k in
      let ws = words_of z s.words in
      let shape = shape_is board free_slots memo z ws home s.views p id v at live in
      let below : q < z.slots = subst (λ (y : Shape). q < y.slots) (sym shape) inside in
      let k : Kind = may.0 in
      let node : Node = may.1 in
      let list : List ℕ = free.0 in
      let u : View = added v q bits list k node in
      let ws1 : Words = record ws { node = put_at ws.node q bits } in
      let a = parts_added z ws home s.views p id v at live full know q bits list k node small none_taken none_loose free.1 may.2 may.3 may.4 in (
        u,
        keeps,
        tt,
        subst (λ (i : ℕ). TheRule (record { words = set s.words i bits; homes = s.homes; views = set s.views id u })) (ap (λ (y : Shape). node_at y q) shape)
            (after_word board free_slots memo s r (node_at z q) bits (set s.views id u) s.homes ws1 refl (set_node z s.words bits q below r.wide)
            (parts_told board free_slots memo z ws1 home s.views id v (moved v u.hand u.known) at a.0 u.stored)
            (one_told board free_slots memo z ws home s.views p r.one id v u at live refl ws.order ws1.node ws.count (λ are. told_node z ws.order ws.node ws.count v.stored are q bits))),
        (
          refl,
          refl,
          λ q' same j other rest reads can its.
              let e : q ≡ q' = omega (arith, same) in
              let n : node ≡ other = some_node node other (sym may.2 ∙ reads) in
              let l : list ≡ rest = some_behind q' list rest (ap (λ (x : ℕ). Some (x ∷ list)) (sym e) ∙ sym free.1 ∙ its) in
              let kinds : k ≡ j = one_kind (held_content v) node k j may.3 (subst (IsAddable j (held_content v)) (sym n) can) in
              subst (λ (y : Kind × Node × List ℕ × ℕ). HasAdded y.0 y.1 y.2 y.3 bits v u) (λ i. (kinds i, n i, l i, e i)) (has_added v know q bits list k node none_taken small inside may.2 may.3 a.1 a.2),
        ),
      ))
