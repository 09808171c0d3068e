-- Whole steps on count words.
use Rattle.std.proofs.Common.{◌≡◌, ◌≢◌, ⊎_elim, ℕ, zero, suc, ◌+◌, ◌-◌, ◌%◌, ◌^◌, ◌<◌, ◌≤◌, ◌==◌, true, List, [], ◌∷◌, set, get_or, refl, ap, sym, ◌∙◌, subst, arith, eq-eqb}
use Rattle.std.specs.Prelude as std
use mathlib.Core.Logic.{dite}
use mathlib.Core.Option.{Option, none, some, some-ne-none, some-injective}
use native.Mathlib.Decide.{ℕ_discrete}
use lib.ListN.{get_elem?}
use Rattle.atomic_table.specs.Table.{State, Me, step, keeps, Allows}
use Rattle.atomic_table.proofs.Lists.{at_map}
use Rattle.function_laws.specs.Kinds.{Denoted, flipped}
use Rattle.handle_count.specs.CountWords.{count_of, generation_of}
use Rattle.node_store.specs.KindLaws.{flipped-some}
use Rattle.node_store.specs.Changes.{put_at}
use Rattle.node_store.proofs.Rewriting.{put_at-same, put_at-other}
use Rattle.words_rule.specs.declared.cell.Cell.{Cell}
use Rattle.words_rule.specs.declared.view.Held.{Held}
use Rattle.words_rule.specs.declared.view.Row.{Row}
use Rattle.words_rule.specs.declared.view.Share.TheVariants as shares
use Rattle.words_rule.specs.declared.view.Hold.TheVariants.{Holding}
use Rattle.words_rule.specs.declared.view.Stored.{Stored}
use Rattle.words_rule.specs.declared.view.View.{View}
use Rattle.words_rule.specs.Shapes.{shape_in}
use Rattle.words_rule.specs.Layout.{Shape, Words, words_of, count_at}
use Rattle.words_rule.specs.Kept.{IsHeldBy, whole_of}
use Rattle.words_rule.specs.Tallies.{held_count, lifted, one_if, refs, row_count, size, tally_of, times}
use Rattle.words_rule.specs.CountPlays.{HasRow, MayRaise, others_of, counted_up, counted_down, pinned, unpinned}
use Rattle.words_rule.specs.OneSession.{count_by, counting_down, counting_up, storing_count}
use Rattle.words_rule.specs.Rule.{Parts, Rule, tallies_in}
use Rattle.words_rule.specs.Known.{noted_content, own_none}
use Rattle.words_rule.proofs.Lists.{each_at}
use Rattle.words_rule.proofs.Layouts.{set_count, here_count}
use Rattle.words_rule.proofs.Tallying.{counts_small, total-has}
use Rattle.words_rule.proofs.Stepping.{shape_is, parts_raise, parts_raise_row, parts_lower}
use Rattle.words_rule.proofs.Pinning.{parts_pin, parts_unpin}
use Rattle.words_rule.proofs.Meeting.{content_true}
use Rattle.words_rule.proofs.OneSessions.{one_told, parts_told, told_count}
use Rattle.words_rule.proofs.Tabling.{after_word}
use Rattle.free_list.specs.FreeSlots.{FreeSlots}

pub up_count : (n : ℕ) → n < 18446744073709551616 → count_of n ≤ 2 ^ 31 + 320 → count_of ((n + 1) % 2 ^ 64) ≡ suc (count_of n)
up_count n lt few = omega (arith, lt, few)

pub up_generation : (n : ℕ) → n < 18446744073709551616 → count_of n ≤ 2 ^ 31 + 320 → generation_of ((n + 1) % 2 ^ 64) ≡ generation_of n
up_generation n lt few = omega (arith, lt, few)

pub down_count : (n : ℕ) → n < 18446744073709551616 → 0 < count_of n → suc (count_of ((n + (2 ^ 64 - 1)) % 2 ^ 64)) ≡ count_of n
down_count n lt some_one = omega (arith, lt, some_one)

pub down_generation : (n : ℕ) → n < 18446744073709551616 → 0 < count_of n → generation_of ((n + (2 ^ 64 - 1)) % 2 ^ 64) ≡ generation_of n
down_generation n lt some_one = omega (arith, lt, some_one)

-- the word behind, by the one before it
pub up_word : (n c : ℕ) → n < 18446744073709551616 → count_of n ≤ 2 ^ 31 + 320 → c ≡ n → (n + 1) % 2 ^ 64 ≡ c + 1
up_word n c lt few is = omega (arith, lt, few, is)

pub down_word : (n c : ℕ) → n < 18446744073709551616 → 0 < count_of n → c ≡ n → (n + (2 ^ 64 - 1)) % 2 ^ 64 ≡ c - 1
down_word n c lt some_one is = omega (arith, lt, some_one, is)

counted_row : (k : ℕ) (rows : List Row) (j : ℕ) (row : Row) → get_elem? rows j ≡ some row → row.held.edge.index ≡ k → 0 < row_count k rows
counted_row k [] j row at is = absurd (some-ne-none row (sym at))
counted_row k (x ∷ rows) zero row at is =
    let e : one_if (x.held.edge.index == k) ≡ 1 = ap one_if (eq-eqb x.held.edge.index k (ap (λ (y : Row). y.held.edge.index) (some-injective x row at) ∙ is)) in omega (arith, e)
counted_row k (x ∷ rows) (suc j) row at is = let later = counted_row k rows j row at is in omega (arith, later)

module _ {S : Type 0} (board : S → List (std.Option Cell)) (free_slots : S → FreeSlots) (memo : S → List ℕ) (slots id : ℕ) (me : Me (std.Option S) View) (live : me.0.draws.live ≡ true) where
  abbrev PartsOf : Shape → Words → (ℕ → Option (Option (std.Option S))) → List View → Type 0
  PartsOf = Parts board free_slots memo

  abbrev TheRule : State (std.Option S) View → Type 0
  TheRule = Rule board free_slots memo

  module _ (s : State (std.Option S) View) (r : TheRule s) (at : get_elem? s.views id ≡ some me.0) (k : ℕ) (inside : k < me.0.draws.slots) where
    abbrev pub ws : Words
    ws = words_of r.shape s.words

    abbrev pub home : ℕ → Option (Option (std.Option S))
    home = λ j. get_elem? s.homes j

    abbrev pub word : ℕ
    word = count_at (shape_in me.0.draws) k

    abbrev pub n : ℕ
    n = get_or s.words word 0

    pub shape : r.shape ≡ shape_in me.0.draws
    shape = shape_is board free_slots memo r.shape ws home s.views r.parts id me.0 at live

    pub below : k < r.shape.slots
    below = subst (λ (y : Shape). k < y.slots) (sym shape) inside

    pub word_is : count_at r.shape k ≡ word
    word_is = ap (λ (y : Shape). count_at y k) shape

    pub is_count : ws.count k ≡ n
    is_count = here_count r.shape s.words 0 k below ∙ ap (λ i. get_or s.words i 0) word_is

    pub few : count_of n ≤ 2 ^ 31 + 320
    few = subst (λ (x : ℕ). count_of x ≤ 2 ^ 31 + 320) is_count (counts_small ws.count r.parts.cells (tallies_in s.views) r.parts.counts k)

    -- the count word becomes new, which the view notes
    pub ends : (new noted : ℕ) → (count_by me.0.stored k ≡ n → new ≡ noted) → (w : View) → w.draws ≡ me.0.draws → PartsOf r.shape (record ws { count = put_at ws.count k new }) home (set s.views id w)
        → TheRule (record { words = set s.words word new; homes = s.homes; views = set s.views id (record w { stored = storing_count k noted me.0.stored }) })
    ends new noted is w same parts =
        let ws1 : Words = record ws { count = put_at ws.count k new } in
        let l : Stored = storing_count k noted me.0.stored in
        let u : View = record w { stored = l } in
        after_word board free_slots memo s r word new (set s.views id u) s.homes ws1 refl
        (ap (λ i. words_of r.shape (set s.words i new)) (sym word_is) ∙ set_count r.shape s.words new k below r.wide)
        (parts_told board free_slots memo r.shape ws1 home s.views id me.0 w at parts l)
        (one_told board free_slots memo r.shape ws home s.views r.parts r.one id me.0 u at live same ws.order ws.node (put_at ws.count k new)
        (λ are. told_count r.shape ws.order ws.node ws.count me.0.stored are k new noted (is (sym (are.counts k) ∙ is_count))))

    -- its count and generation then, and those of the others
    pub new_count : (new c : ℕ) → count_of new ≡ c → count_of (put_at ws.count k new k) ≡ c
    new_count new c is = ap count_of (put_at-same ws.count k new) ∙ is

    pub others : (new : ℕ) (j : ℕ) → j ≢ k → put_at ws.count k new j ≡ ws.count j
    others new j apart = put_at-other ws.count k j new apart

    pub still : (new : ℕ) → generation_of new ≡ generation_of n → (j : ℕ) → generation_of (put_at ws.count k new j) ≡ generation_of (ws.count j)
    still new same j = dite (ℕ_discrete j k)
        (λ is. ap (λ (x : ℕ). generation_of (put_at ws.count k new x)) is ∙ ap generation_of (put_at-same ws.count k new) ∙ same ∙ ap generation_of (sym is_count) ∙ ap (λ (x : ℕ). generation_of (ws.count x)) (sym is))
        (λ apart. ap generation_of (others new j apart))

    -- who holds it counts
    pub held_some : 0 < refs k (tally_of me.0) → 0 < count_of n
    held_some some_ref =
        let has = total-has (refs k) (tallies_in s.views) id (tally_of me.0) (at_map tally_of s.views id me.0 at) in
        let counted = r.parts.counts.counted k in
        let same : count_of (ws.count k) ≡ count_of n = ap count_of is_count in
        omega (arith, has, counted, same, some_ref)

  -- what the edge denotes, by what the seat noted
  noted_held : (s : State (std.Option S) View) (r : TheRule s) → get_elem? s.views id ≡ some me.0 → me.0.shares.op ≡ shares.Held → (held : Held) → IsHeldBy (shape_in me.0.draws) (noted_content me.0).function held → IsHeldBy r.shape r.parts.function held
  noted_held s r at share held is =
      let ws = words_of r.shape s.words in
      let home = λ (k : ℕ). get_elem? s.homes k in
      let shape = shape_is board free_slots memo r.shape ws home s.views r.parts id me.0 at live in
      let f = flipped-some held.edge.complement ((noted_content me.0).function held.edge.index) is.0 is.1 in
      let c = content_true board free_slots memo r.shape ws home s.views r.parts id me.0 at live share (r.parts.ordered.shared id me.0 at share) own_none held.edge.index f.0 f.1 in
      (is.0, ap (λ (x : std.Option Denoted). flipped held.edge.complement x) (c.3 ∙ sym f.1) ∙ is.1, ap (λ (y : Shape). whole_of y is.0) shape ∙ is.2)

  pub raises_slot : (word : ℕ) (held : Held) → word ≡ count_at (shape_in me.0.draws) held.edge.index → held.edge.index < me.0.draws.slots → size (tally_of me.0) < 2 ^ 25 → MayRaise me.0 held
      → Allows TheRule slots id me word (λ x. (x + 1) % 2 ^ 64) (counted_up held (step slots word 1 0 none) me)
  raises_slot at_word held is inside room may = subst (λ (i : ℕ). Allows TheRule slots id me i (λ x. (x + 1) % 2 ^ 64) (counted_up held (step slots i 1 0 none) me)) (sym is)
      (λ s r long at small.
      let k : ℕ = held.edge.index in
      let x : ℕ = n s r at k inside in
      let new : ℕ = (x + 1) % 2 ^ 64 in
      let count : ℕ → ℕ = put_at (ws s r at k inside).count k new in
      let up : count_of (count k) ≡ suc (count_of ((ws s r at k inside).count k)) = new_count s r at k inside new (suc (count_of x)) (up_count x small (few s r at k inside)) ∙ ap (λ (y : ℕ). suc (count_of y)) (sym (is_count s r at k inside)) in
      let same = still s r at k inside new (up_generation x small (few s r at k inside)) in
      let gen : generation_of (count k) ≡ generation_of x = ap generation_of (put_at-same (ws s r at k inside).count k new) ∙ up_generation x small (few s r at k inside) in
      let w : View = record me.0 { counts = lifted held (generation_of x) me.0.counts } in
      let noted : ℕ = count_by me.0.stored k + 1 in
      let parts = ⊎_elim
      (λ (row : HasRow me.0.draws.rows held). parts_raise_row board free_slots memo r.shape (ws s r at k inside) (home s r at k inside) s.views r.parts id me.0 at held count live
      (counted_row k me.0.draws.rows row.0 row.1 row.2 (ap (λ (y : Held). y.edge.index) row.3)) room
      (subst (IsHeldBy r.shape r.parts.function) row.3 (each_at (λ (y : Row). IsHeldBy r.shape r.parts.function y.held) me.0.draws.rows row.0 row.1 (r.parts.kept.each id (tally_of me.0) (at_map tally_of s.views id me.0 at)).rows row.2))
      up (others s r at k inside new) same)
      (λ by_share. parts_raise board free_slots memo r.shape (ws s r at k inside) (home s r at k inside) s.views r.parts id me.0 at held count live by_share.0 room (noted_held s r at by_share.0 held by_share.1) up (others s r at k inside new) same) may in (
        record w { stored = storing_count k noted me.0.stored },
        keeps,
        tt,
        ends s r at k inside new noted (up_word x (count_by me.0.stored k) small (few s r at k inside)) w refl (subst (λ (g : ℕ). PartsOf r.shape (record (ws s r at k inside) { count = count }) (home s r at k inside) (set s.views id (record me.0 { counts = lifted held g me.0.counts }))) gen parts),
        refl,
      ))

  pub lowers_slot : (word : ℕ) (held : Held) (rest : List Held) → word ≡ count_at (shape_in me.0.draws) held.edge.index → held.edge.index < me.0.draws.slots → me.0.counts.owed ≡ held ∷ rest
      → Allows TheRule slots id me word (λ x. (x + (2 ^ 64 - 1)) % 2 ^ 64) (counted_down (step slots word 1 0 none) me)
  lowers_slot at_word held rest is inside owes = subst (λ (i : ℕ). Allows TheRule slots id me i (λ x. (x + (2 ^ 64 - 1)) % 2 ^ 64) (counted_down (step slots i 1 0 none) me)) (sym is)
      (λ s r long at small.
      let k : ℕ = held.edge.index in
      let x : ℕ = n s r at k inside in
      let new : ℕ = (x + (2 ^ 64 - 1)) % 2 ^ 64 in
      let count : ℕ → ℕ = put_at (ws s r at k inside).count k new in
      let owed_one : 0 < held_count k me.0.counts.owed = let e : one_if (k == k) ≡ 1 = ap one_if (eq-eqb k k refl) in let h : held_count k me.0.counts.owed ≡ one_if (k == k) + held_count k rest = ap (held_count k) owes in omega (arith, e, h) in
      let some_one = held_some s r at k inside (omega (arith, owed_one)) in
      let down : suc (count_of (count k)) ≡ count_of ((ws s r at k inside).count k) = ap (λ (y : ℕ). suc (count_of y)) (put_at-same (ws s r at k inside).count k new) ∙ down_count x small some_one ∙ ap count_of (sym (is_count s r at k inside)) in
      let w : View = record me.0 { counts = record me.0.counts { owed = rest } } in
      let noted : ℕ = count_by me.0.stored k - 1 in (
        record w { stored = storing_count k noted me.0.stored },
        keeps,
        tt,
        ends s r at k inside new noted (down_word x (count_by me.0.stored k) small some_one) w refl (parts_lower board free_slots memo r.shape (ws s r at k inside) (home s r at k inside) s.views r.parts id me.0 at held rest count live owes down (others s r at k inside new) (still s r at k inside new (down_generation x small some_one))),
        (λ j same. (let e : k ≡ j = omega (arith, same) in λ i. (record me.0 { counts = record me.0.counts { owed = ap others_of (sym owes) i }; stored = counting_down (e i) me.0.stored }, me.1))),
      ))

  pub pins_slot : (word k : ℕ) → word ≡ count_at (shape_in me.0.draws) k → k < me.0.draws.slots → me.0.shares.order ≡ Holding → times k me.0.counts.pins ≡ 0
      → Allows TheRule slots id me word (λ x. (x + 1) % 2 ^ 64) (pinned (step slots word 1 0 none) me)
  pins_slot at_word k is inside holding once = subst (λ (i : ℕ). Allows TheRule slots id me i (λ x. (x + 1) % 2 ^ 64) (pinned (step slots i 1 0 none) me)) (sym is)
      (λ s r long at small.
      let x : ℕ = n s r at k inside in
      let new : ℕ = (x + 1) % 2 ^ 64 in
      let up : count_of (put_at (ws s r at k inside).count k new k) ≡ suc (count_of ((ws s r at k inside).count k)) = new_count s r at k inside new (suc (count_of x)) (up_count x small (few s r at k inside)) ∙ ap (λ (y : ℕ). suc (count_of y)) (sym (is_count s r at k inside)) in
      let w : View = record me.0 { counts = record me.0.counts { pins = k ∷ me.0.counts.pins } } in
      let noted : ℕ = count_by me.0.stored k + 1 in (
        record w { stored = storing_count k noted me.0.stored },
        keeps,
        tt,
        ends s r at k inside new noted (up_word x (count_by me.0.stored k) small (few s r at k inside)) w refl (parts_pin board free_slots memo r.shape (ws s r at k inside) (home s r at k inside) s.views r.parts id me.0 at k (put_at (ws s r at k inside).count k new) live holding once up (others s r at k inside new)
            (still s r at k inside new (up_generation x small (few s r at k inside)))),
        (λ j same. ap (λ (i : ℕ). (record me.0 { counts = record me.0.counts { pins = i ∷ me.0.counts.pins }; stored = counting_up i me.0.stored }, me.1)) (let e : k ≡ j = omega (arith, same) in e)),
      ))

  pub unpins_slot : (word k : ℕ) (rest : List ℕ) → word ≡ count_at (shape_in me.0.draws) k → k < me.0.draws.slots → me.0.shares.order ≡ Holding → me.0.counts.pins ≡ k ∷ rest
      → Allows TheRule slots id me word (λ x. (x + (2 ^ 64 - 1)) % 2 ^ 64) (unpinned (step slots word 1 0 none) me)
  unpins_slot at_word k rest is inside holding pins = subst (λ (i : ℕ). Allows TheRule slots id me i (λ x. (x + (2 ^ 64 - 1)) % 2 ^ 64) (unpinned (step slots i 1 0 none) me)) (sym is)
      (λ s r long at small.
      let x : ℕ = n s r at k inside in
      let new : ℕ = (x + (2 ^ 64 - 1)) % 2 ^ 64 in
      let pin_one : 0 < times k me.0.counts.pins = let e : one_if (k == k) ≡ 1 = ap one_if (eq-eqb k k refl) in let h : times k me.0.counts.pins ≡ one_if (k == k) + times k rest = ap (times k) pins in omega (arith, e, h) in
      let some_one = held_some s r at k inside (omega (arith, pin_one)) in
      let down : suc (count_of (put_at (ws s r at k inside).count k new k)) ≡ count_of ((ws s r at k inside).count k) = ap (λ (y : ℕ). suc (count_of y)) (put_at-same (ws s r at k inside).count k new) ∙ down_count x small some_one ∙ ap count_of (sym (is_count s r at k inside)) in
      let w : View = record me.0 { counts = record me.0.counts { pins = rest } } in
      let noted : ℕ = count_by me.0.stored k - 1 in (
        record w { stored = storing_count k noted me.0.stored },
        keeps,
        tt,
        ends s r at k inside new noted (down_word x (count_by me.0.stored k) small some_one) w refl (parts_unpin board free_slots memo r.shape (ws s r at k inside) (home s r at k inside) s.views r.parts id me.0 at k rest (put_at (ws s r at k inside).count k new) holding pins down (others s r at k inside new)
            (still s r at k inside new (down_generation x small some_one))),
        (λ j same. (let e : k ≡ j = omega (arith, same) in λ i. (record me.0 { counts = record me.0.counts { pins = ap others_of (sym pins) i }; stored = counting_down (e i) me.0.stored }, me.1))),
      ))
