-- The holder of everything frees a slot.
use Rattle.std.proofs.Common.{◌≡◌, ℕ, ◌<◌, Bool, true, false, List, set, Some, None, inl, inr, refl, ap, sym, ◌∙◌, subst, arith}
use Rattle.std.specs.Prelude as std
use mathlib.Core.Option.{Option, none, some}
use lib.ListN.{get_elem?}
use Rattle.atomic_table.specs.Table.{Me, State, step, keeps, Allows}
use Rattle.edge_bits.specs.Words.{unpack_of}
use Rattle.node_store.specs.Contents.{Content, IsSound}
use Rattle.node_store.specs.Changes.{CanFree, put_at, without}
use Rattle.node_store.proofs.Freeing.{freed_sound}
use Rattle.node_store.proofs.Rewriting.{put_at-same, put_at-other}
use Rattle.words_rule.specs.declared.cell.Cell.{Cell}
use Rattle.words_rule.specs.declared.view.Hold.TheVariants.{Holding}
use Rattle.words_rule.specs.declared.view.Known.{Known}
use Rattle.words_rule.specs.declared.view.View.{View}
use Rattle.words_rule.specs.Shapes.{shape_in}
use Rattle.words_rule.specs.Layout.{Shape, Words, content_of, node_at, words_of}
use Rattle.words_rule.specs.Hands.{freeing}
use Rattle.words_rule.specs.HeldContents.{KnowsAll, held_content, seen_without, with_word}
use Rattle.words_rule.specs.HolderPlays.{HasFreed, emptied, node_freed}
use Rattle.words_rule.specs.Kept.{IsHeldBy}
use Rattle.words_rule.specs.OneSession.{storing_node}
use Rattle.words_rule.specs.Rule.{Parts, Rule}
use Rattle.words_rule.specs.Seen.{StandsSo}
use Rattle.words_rule.specs.Tallies.{refs, tally_of, times}
use Rattle.words_rule.proofs.Freeing.{parts_free, sound_whatever, still}
use Rattle.words_rule.proofs.HeldNotes.{beyond_with, bits_put, each_seen_else, each_word_else, functions_less, never_among, noted_with, words_put}
use Rattle.words_rule.proofs.HolderKnows.{counted, same_content}
use Rattle.words_rule.proofs.Layouts.{set_node}
use Rattle.words_rule.proofs.Rewrites.{order_by_full}
use Rattle.words_rule.proofs.Stepping.{shape_is}
use Rattle.words_rule.proofs.Handed.{moved}
use Rattle.words_rule.proofs.OneSessions.{one_told, parts_told, told_node}
use Rattle.words_rule.proofs.Tabling.{after_word}
use Rattle.free_list.specs.FreeSlots.{FreeSlots}

-- what the seat has and knows after it
abbrev emptying : View → ℕ → List ℕ → View
emptying v q list = record v { hand = freeing q list v.hand; known = record v.known { words = with_word q 0 v.known.words; seen = seen_without q v.known.seen }; stored = storing_node q 0 v.stored }

no_bits : unpack_of 0 ≡ None
no_bits = refl

module _ (v : View) (know : KnowsAll v) (q : ℕ) (list : List ℕ) (inside : q < v.draws.slots) (can : CanFree (held_content v) q) where
  abbrev u : View
  u = emptying v q list

  content_after : held_content u ≡ emptied (held_content v) q
  content_after = λ i. record (held_content u) {
    word = (words_put q 0 v.known.words ∙ ap (put_at (held_content v).word q) no_bits) i;
    function = functions_less q 0 v.known.words v.draws.vars v.known.seen i;
  }

  knows_after : KnowsAll u
  knows_after = record {
    sound = subst IsSound (sym content_after) (sound_whatever (without (held_content v) q) (held_content v).generation (freed_sound (held_content v) know.sound q can));
    long = know.long;
    noted = noted_with q 0 v.known.words v.draws.slots (omega arith) know.noted;
    beyond = beyond_with q 0 v.known.words v.draws.slots inside know.beyond;
    aged = know.aged;
    zeros = know.zeros;
    own = know.own;
    once = know.once;
  }

  has_freed : HasFreed list q v u
  has_freed = record {
    still = record { draws = refl; shares = refl; counts = refl; work = refl; told = refl; pending = refl };
    hand = refl;
    stored = refl;
    content = content_after;
    bits_are = bits_put q 0 v.known.words;
    knows = knows_after;
  }

  -- nothing holds the slot, and it was found so
  found_none : (0 < times q v.counts.zeros) × (refs q (tally_of v) ≡ 0)
  found_none = let zero = know.zeros q inside can.uncounted in (zero, know.own q zero ∙ never_among v.counts.pins q can.unpinned)

-- the rule's store has no counts and no pins
can_free : (w : Content) (c g : ℕ → ℕ) (p : ℕ → Bool) (q : ℕ) → w.sweeping ≡ true → w.count q ≡ 0 → w.pinned q ≡ false → CanFree (counted w c g p) q → CanFree w q
can_free w c g p q sweeping uncounted unpinned can = record { used = can.used; spare = can.spare; sweeping = sweeping; uncounted = uncounted; unpinned = unpinned; unnamed = can.unnamed }

module _ {S : Type 0} (board : S → List (std.Option Cell)) (free_slots : S → FreeSlots) (memo : S → List ℕ) where
  abbrev TheRule : State (std.Option S) View → Type 0
  TheRule = Rule board free_slots memo

  abbrev PartsOf : Shape → Words → (ℕ → Option (Option (std.Option S))) → List View → Type 0
  PartsOf = Parts board free_slots memo

  module _ (z : Shape) (ws : Words) (home : ℕ → Option (Option (std.Option S))) (vs : List View) (r : PartsOf z ws home vs) (id : ℕ) (v : View) (at : get_elem? vs id ≡ some v) where
    parts_emptied : v.draws.live ≡ true → v.shares.full ≡ Holding → KnowsAll v → (q : ℕ) (list : List ℕ) → q < v.draws.slots → v.hand.memo ≡ true → v.hand.taken ≡ None → v.hand.loose ≡ Some q → v.hand.free ≡ Some list → CanFree (held_content v) q
        → PartsOf z (record ws { node = put_at ws.node q 0 }) home (set vs id (moved v (freeing q list v.hand) (emptying v q list).known))
    parts_emptied live full know q list inside has_memo none_taken loose free can =
        let holding = order_by_full board free_slots memo z ws home vs r id v at full in
        let w : Content = content_of z ws.node r.orders r.function r.half in
        let held : Content = held_content v in
        let same = same_content board free_slots memo z ws home vs r id v at live holding know ((r.holders id v at).1 full).0 in
        let can_now : CanFree w q = can_free w held.count held.generation held.pinned q refl refl refl (subst (λ (c : Content). CanFree c q) same can) in
        let none_found = found_none v know q list inside can in
        let known : Known = (emptying v q list).known in
        parts_free board free_slots memo z ws home vs r id v at q 0 list (omega arith) can_now full has_memo none_taken loose free none_found.0 none_found.1 known refl refl refl refl refl
        ((put_at-same ws.node q 0, λ _. holding), each_word_else (StandsSo ws.node v) (StandsSo (put_at ws.node q 0) v) q (λ note off st. (put_at-other ws.node q note.slot 0 off ∙ st.0, st.1)) v.known.words ((r.seen id v at).words (inr holding)))
        (each_seen_else (IsHeldBy z r.function) (IsHeldBy z (put_at r.function q None)) q (still z r.function q) v.known.seen ((r.seen id v at).held (inl (inr holding))))
        no_bits

  some_list : (a b : List ℕ) → ◌≡◌ {A = std.Option (List ℕ)} (Some a) (Some b) → a ≡ b
  some_list a b e = cc

  -- as the table asks for it
  pub frees_node : (slots id word : ℕ) (me : Me (std.Option S) View) (q : ℕ) → word ≡ node_at (shape_in me.0.draws) q → me.0.draws.live ≡ true → me.0.shares.full ≡ Holding → KnowsAll me.0 → q < me.0.draws.slots → me.0.hand.taken ≡ None → me.0.hand.loose ≡ Some q
      → me.0.hand.memo ≡ true → ((list : List ℕ) × (me.0.hand.free ≡ Some list)) → CanFree (held_content me.0) q
      → Allows TheRule slots id me word (λ _. 0) (node_freed (step slots word 0 0 none) me)
  frees_node slots id word me q is live full know inside none_taken loose has_memo free can = subst (λ (w : ℕ). Allows TheRule slots id me w (λ _. 0) (node_freed (step slots w 0 0 none) me)) (sym is)
      (λ s r long at fits.
      let v = me.0 in
      let z = r.shape in
      let p = r.parts in
      let home = λ (k : ℕ). get_elem? s.homes k in
      let ws = words_of z s.words in
      let shape = shape_is board free_slots memo z ws home s.views p id v at live in
      let below : q < z.slots = subst (λ (y : Shape). q < y.slots) (sym shape) inside in
      let ws1 : Words = record ws { node = put_at ws.node q 0 } in
      let u : View = emptying v q free.0 in (
        u,
        keeps,
        tt,
        subst (λ (i : ℕ). TheRule (record { words = set s.words i 0; homes = s.homes; views = set s.views id u })) (ap (λ (y : Shape). node_at y q) shape)
            (after_word board free_slots memo s r (node_at z q) 0 (set s.views id u) s.homes ws1 refl (set_node z s.words 0 q below r.wide)
            (parts_told board free_slots memo z ws1 home s.views id v (moved v u.hand u.known) at (parts_emptied z ws home s.views p id v at live full know q free.0 inside has_memo none_taken loose free.1 can) u.stored)
            (one_told board free_slots memo z ws home s.views p r.one id v u at live refl ws.order ws1.node ws.count (λ are. told_node z ws.order ws.node ws.count v.stored are q 0))),
        (
          refl,
          refl,
          λ q' same list its.
              let e : q ≡ q' = omega (arith, same) in
              let l : free.0 ≡ list = some_list free.0 list (sym free.1 ∙ its) in
              subst (λ (y : ℕ × List ℕ). HasFreed y.1 y.0 v u) (λ i. (e i, l i)) (has_freed v know q free.0 inside can),
        ),
      ))
