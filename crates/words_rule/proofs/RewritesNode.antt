-- The holder of everything rewrites a node in its slot.
use Rattle.std.proofs.Common.{◌≡◌, ℕ, ◌<◌, true, List, set, Some, None, inr, refl, ap, sym, ◌∙◌, subst, arith}
use Rattle.std.specs.Prelude as std
use mathlib.Core.Option.{Option, none, some}
use lib.ListN.{get_elem?}
use Rattle.atomic_table.specs.Table.{Me, State, step, keeps, Allows}
use Rattle.edge_bits.specs.Reading.{plain}
use Rattle.edge_bits.specs.Words.{unpack_of}
use Rattle.edge_bits.specs.declared.edges.Kind.{Kind}
use Rattle.edge_bits.specs.declared.words.Node.{Node}
use Rattle.edge_bits.specs.declared.words.Word.{Word}
use Rattle.edge_bits.specs.declared.words.Word.TheVariants.{Inner}
use Rattle.node_store.specs.Contents.{Content, IsSound, Pair}
use Rattle.node_store.specs.Changes.{CanRewrite, pair_of, put_at, rewritten, var_of}
use Rattle.node_store.proofs.Rewriting.{put_at-same, put_at-other, rewritten_sound}
use Rattle.words_rule.specs.declared.cell.Cell.{Cell}
use Rattle.words_rule.specs.declared.view.Hold.TheVariants.{Holding}
use Rattle.words_rule.specs.declared.view.Known.{Known}
use Rattle.words_rule.specs.declared.view.View.{View}
use Rattle.words_rule.specs.Shapes.{shape_in}
use Rattle.words_rule.specs.Layout.{Shape, Words, content_of, node_at, words_of}
use Rattle.words_rule.specs.Hands.{HasLevel, level_of}
use Rattle.words_rule.specs.HeldContents.{KnowsAll, held_content, with_word}
use Rattle.words_rule.specs.HolderPlays.{HasRewritten, node_rewritten}
use Rattle.words_rule.specs.OneSession.{storing_node}
use Rattle.words_rule.specs.Rule.{Parts, Rule}
use Rattle.words_rule.specs.Seen.{StandsSo}
use Rattle.words_rule.proofs.HeldNotes.{beyond_with, bits_put, each_word_else, functions_stay, noted_with, words_put}
use Rattle.words_rule.proofs.HolderKnows.{can_rewrite, same_content}
use Rattle.words_rule.proofs.Layouts.{set_node}
use Rattle.words_rule.proofs.Rewrites.{order_by_full, parts_rewrite}
use Rattle.words_rule.proofs.Stepping.{shape_is}
use Rattle.words_rule.proofs.Handed.{moved}
use Rattle.words_rule.proofs.OneSessions.{one_told, parts_told, told_node}
use Rattle.words_rule.proofs.Tabling.{after_word}
use Rattle.free_list.specs.FreeSlots.{FreeSlots}

-- what the seat knows after it: the word in its slot, and the two variables whose swap is half made
abbrev rewriting : View → ℕ → ℕ → ℕ → View
rewriting v q bits x =
    let pair : Pair = pair_of (held_content v) (var_of ((held_content v).word q)) x in
    record v { known = record v.known { words = with_word q bits v.known.words; half = Some (record { upper = pair.upper; lower = pair.lower }) }; stored = storing_node q bits v.stored }

module _ (v : View) (know : KnowsAll v) (k : Kind) (q bits : ℕ) (node : Node) (small : bits < 18446744073709551616) (inside : q < v.draws.slots) (reads : unpack_of bits ≡ Some (Inner node)) (can : CanRewrite k (held_content v) q node.var (plain node.hi) node.lo) where
  abbrev u : View
  u = rewriting v q bits node.var

  content_after : held_content u ≡ rewritten (held_content v) q node.var (plain node.hi) node.lo
  content_after = let b = know.noted q inside in λ i. record (held_content u) {
    word = (words_put q bits v.known.words ∙ ap (put_at (held_content v).word q) reads) i;
    function = functions_stay q bits v.known.words v.draws.vars v.known.seen b.0 b.1 i;
  }

  knows_after : KnowsAll u
  knows_after = record {
    sound = subst IsSound (sym content_after) (rewritten_sound (held_content v) know.sound k q node.var (plain node.hi) node.lo can);
    long = know.long;
    noted = noted_with q bits v.known.words v.draws.slots small know.noted;
    beyond = beyond_with q bits v.known.words v.draws.slots inside know.beyond;
    aged = know.aged;
    zeros = know.zeros;
    own = know.own;
    once = know.once;
  }

  has_rewritten : HasRewritten node q bits v u
  has_rewritten = record {
    still = record { draws = refl; shares = refl; counts = refl; work = refl; told = refl; pending = refl };
    hand = refl;
    stored = refl;
    content = content_after;
    bits_are = bits_put q bits v.known.words;
    knows = knows_after;
  }

module _ {S : Type 0} (board : S → List (std.Option Cell)) (free_slots : S → FreeSlots) (memo : S → List ℕ) where
  abbrev TheRule : State (std.Option S) View → Type 0
  TheRule = Rule board free_slots memo

  abbrev PartsOf : Shape → Words → (ℕ → Option (Option (std.Option S))) → List View → Type 0
  PartsOf = Parts board free_slots memo

  module _ (z : Shape) (ws : Words) (home : ℕ → Option (Option (std.Option S))) (vs : List View) (r : PartsOf z ws home vs) (id : ℕ) (v : View) (at : get_elem? vs id ≡ some v) where
    parts_rewritten : v.draws.live ≡ true → v.shares.full ≡ Holding → KnowsAll v → (k : Kind) (q bits : ℕ) (node : Node) → bits < 18446744073709551616 → v.hand.taken ≡ None → v.hand.loose ≡ Some q → unpack_of bits ≡ Some (Inner node)
        → CanRewrite k (held_content v) q node.var (plain node.hi) node.lo → HasLevel v.hand (level_of (shape_in v.draws) (Inner node)) → PartsOf z (record ws { node = put_at ws.node q bits }) home (set vs id (moved v v.hand (rewriting v q bits node.var).known))
    parts_rewritten live full know k q bits node small none_taken loose reads can level =
        let holding = order_by_full board free_slots memo z ws home vs r id v at full in
        let w : Content = content_of z ws.node r.orders r.function r.half in
        let held : Content = held_content v in
        let same = same_content board free_slots memo z ws home vs r id v at live holding know ((r.holders id v at).1 full).0 in
        let can_now : CanRewrite k w q node.var (plain node.hi) node.lo = can_rewrite w held.count held.generation held.pinned k q node.var (plain node.hi) node.lo (subst (λ (c : Content). CanRewrite k c q node.var (plain node.hi) node.lo) same can) in
        let shape = shape_is board free_slots memo z ws home vs r id v at live in
        let known : Known = (rewriting v q bits node.var).known in
        parts_rewrite board free_slots memo z ws home vs r id v at k q node.var (plain node.hi) node.lo can_now bits small full none_taken loose (subst (λ (y : Shape). HasLevel v.hand (level_of y (Inner node))) (sym shape) level)
        known refl refl refl refl
        ((put_at-same ws.node q bits, λ _. holding), each_word_else (StandsSo ws.node v) (StandsSo (put_at ws.node q bits) v) q (λ note off st. (put_at-other ws.node q note.slot bits off ∙ st.0, st.1)) v.known.words ((r.seen id v at).words (inr holding)))
        refl reads (ap (λ (c : Content). (rewritten c q node.var (plain node.hi) node.lo).half) same)

  some_node : (a b : Node) → ◌≡◌ {A = std.Option Word} (Some (Inner a)) (Some (Inner b)) → a ≡ b
  some_node a b e = cc

  -- as the table asks for it
  pub rewrites_node : (slots id word : ℕ) (me : Me (std.Option S) View) (q bits : ℕ) → word ≡ node_at (shape_in me.0.draws) q → me.0.draws.live ≡ true → me.0.shares.full ≡ Holding → KnowsAll me.0 → bits < 18446744073709551616 → q < me.0.draws.slots → me.0.hand.taken ≡ None → me.0.hand.loose ≡ Some q
      → ((k : Kind) × (node : Node) × (unpack_of bits ≡ Some (Inner node)) × CanRewrite k (held_content me.0) q node.var (plain node.hi) node.lo × HasLevel me.0.hand (level_of (shape_in me.0.draws) (Inner node)))
      → Allows TheRule slots id me word (λ _. bits) (node_rewritten (step slots word bits 0 none) me)
  rewrites_node slots id word me q bits is live full know small inside none_taken loose may = subst (λ (w : ℕ). Allows TheRule slots id me w (λ _. bits) (node_rewritten (step slots w bits 0 none) me)) (sym is)
      (λ s r long at fits.
      let v = me.0 in
      let z = r.shape in
      let p = r.parts in
      let home = λ (k : ℕ). get_elem? s.homes k in
      let ws = words_of z s.words in
      let shape = shape_is board free_slots memo z ws home s.views p id v at live in
      let below : q < z.slots = subst (λ (y : Shape). q < y.slots) (sym shape) inside in
      let node : Node = may.1 in
      let ws1 : Words = record ws { node = put_at ws.node q bits } in
      let u : View = rewriting v q bits node.var in (
        u,
        keeps,
        tt,
        subst (λ (i : ℕ). TheRule (record { words = set s.words i bits; homes = s.homes; views = set s.views id u })) (ap (λ (y : Shape). node_at y q) shape)
            (after_word board free_slots memo s r (node_at z q) bits (set s.views id u) s.homes ws1 refl (set_node z s.words bits q below r.wide)
            (parts_told board free_slots memo z ws1 home s.views id v (moved v u.hand u.known) at (parts_rewritten z ws home s.views p id v at live full know may.0 q bits node small none_taken loose may.2 may.3 may.4) u.stored)
            (one_told board free_slots memo z ws home s.views p r.one id v u at live refl ws.order ws1.node ws.count (λ are. told_node z ws.order ws.node ws.count v.stored are q bits))),
        (
          refl,
          refl,
          λ q' same other reads.
              let e : q ≡ q' = omega (arith, same) in
              let n : node ≡ other = some_node node other (sym may.2 ∙ reads) in
              subst (λ (y : ℕ × Node). HasRewritten y.1 y.0 bits v u) (λ i. (e i, n i)) (has_rewritten v know may.0 q bits node small inside may.2 may.3),
        ),
      ))
