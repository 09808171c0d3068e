-- Whole steps of the table: turns and the free list are taken and put back; a next word and a head are stored.
use Rattle.std.proofs.Common.{◌≡◌, ◌≢◌, ◌⊎◌, ℕ, zero, suc, ◌<◌, ◌==◌, true, false, List, [], ◌∷◌, ◌++◌, set, length, get_or, refl, sym, subst, ap, ◌∙◌, arith, length-set, true≢false, eq-eqb, ne_eqb}
use Rattle.std.specs.Prelude as std
use Rattle.std.specs.Prelude.{Some, None}
use mathlib.Core.Logic.{dite}
use mathlib.Core.Option.{Option, none, some}
use native.Mathlib.Decide.{ℕ_discrete}
use lib.ListN.{get_elem?}
use lib.Seq.{set-get_or}
use prog.Atomic.{either}
use Rattle.atomic_table.specs.Table.{State, Me, Step, step, keeps, takes, gives, rest, stepped, Allows}
use Rattle.atomic_table.proofs.Lists.{set_else, set_here, set_again}
use Rattle.node_store.specs.Changes.{put_at}
use Rattle.words_rule.specs.declared.cell.Cell.{Cell}
use Rattle.words_rule.specs.declared.view.Held.{Held}
use Rattle.words_rule.specs.declared.view.Share.TheVariants as shares
use Rattle.words_rule.specs.declared.view.Hold.{Hold}
use Rattle.words_rule.specs.declared.view.Hold.TheVariants.{Holding}
use Rattle.words_rule.specs.declared.view.Job.{Job}
use Rattle.words_rule.specs.declared.view.Walk.{Walk}
use Rattle.words_rule.specs.declared.view.Hand.{Hand}
use Rattle.words_rule.specs.declared.view.View.{View}
use Rattle.words_rule.specs.Shapes.{shape_in}
use Rattle.words_rule.specs.Layout.{Shape, Words, levels, head_of, words_of, turn_at, next_at, head_at, content_of}
use Rattle.words_rule.specs.Dues.{slot_of, word_of, IsToDo}
use Rattle.words_rule.specs.Hands.{level_of, HasLevel, Owns, Tables, taking, with_level, without_level, linking, pushing}
use Rattle.words_rule.specs.OneSession.{OneSession, storer_of}
use Rattle.words_rule.specs.Rule.{Parts, Rule, hands_in, storers_in}
use Rattle.words_rule.proofs.Draws.{one_still}
use Rattle.words_rule.proofs.Layouts.{set_free_turn, set_turn, set_next, set_head, here_turn, here_next, here_head}
use Rattle.words_rule.proofs.Handling.{never as no_some, hands_it, takes_level, puts_level, takes_free, puts_free, puts_back}
use Rattle.words_rule.proofs.Linking.{hand_links, head_within, next_is}
use Rattle.words_rule.specs.Chains.{Along}
use Rattle.words_rule.proofs.Lists.{set_at}
use Rattle.words_rule.proofs.Handed.{handed, parts_hand, remembered_here, seen_here, hand_at, parts_link, parts_push}
use Rattle.words_rule.proofs.Stepping.{shape_is}
use Rattle.free_list.specs.FreeSlots.{FreeSlots}

pub set_set : {A : Type 0} (l : List A) (i : ℕ) (a b : A) → set (set l i a) i b ≡ set l i b
set_set [] i a b = refl
set_set (x ∷ xs) zero a b = refl
set_set (x ∷ xs) (suc i) a b = ap (λ (l : List _). x ∷ l) (set_set xs i a b)

module _ {S : Type 0} (board : S → List (std.Option Cell)) (free_slots : S → FreeSlots) (memo : S → List ℕ) where
  abbrev PartsOf : Shape → Words → (ℕ → Option (Option (std.Option S))) → List View → Type 0
  PartsOf = Parts board free_slots memo

  abbrev TheRule : State (std.Option S) View → Type 0
  TheRule = Rule board free_slots memo

  abbrev Sat : Type 0
  Sat = Me (std.Option S) View

  -- a step that changes nothing
  pub stays : (s : State (std.Option S) View) (i id : ℕ) (me : Sat) → TheRule s → get_elem? s.views id ≡ some me.0 → TheRule (stepped s i (get_or s.words i 0) id me.1 me.0 keeps)
  stays s i id me r at = subst (λ (x : List ℕ × List View). TheRule (record { words = x.0; homes = s.homes; views = x.1 })) (λ k. (sym (set-get_or s.words i 0) k, sym (set_again s.views id me.0 at) k)) r

  -- the rule after a step that sets a word
  pub after_word : (s : State (std.Option S) View) (r : TheRule s) (i n : ℕ) (views : List View) (homes : List (Option (std.Option S))) (ws : Words) → length homes ≡ length s.homes
      → words_of r.shape (set s.words i n) ≡ ws → PartsOf r.shape ws (λ k. get_elem? homes k) views → OneSession r.shape ws.order ws.node ws.count (storers_in views) → TheRule (record { words = set s.words i n; homes = homes; views = views })
  after_word s r i n views homes ws len words parts one = record {
    shape = r.shape;
    wide = length-set s.words i n ∙ r.wide;
    long = len ∙ r.long;
    parts = subst (λ (y : Words). PartsOf r.shape y (λ k. get_elem? homes k) views) (sym words) parts;
    one = subst (λ (y : Words). OneSession r.shape y.order y.node y.count (storers_in views)) (sym words) one;
  }

  -- the part of a table of one session after a step that stores no node, order or count word
  pub told_still : (s : State (std.Option S) View) (r : TheRule s) (id : ℕ) (v w : View) → get_elem? s.views id ≡ some v → storer_of w ≡ storer_of v
      → OneSession r.shape (words_of r.shape s.words).order (words_of r.shape s.words).node (words_of r.shape s.words).count (storers_in (set s.views id w))
  told_still s r id v w at same = one_still r.shape (words_of r.shape s.words).order (words_of r.shape s.words).node (words_of r.shape s.words).count s.views id v w at same r.one

  abbrev pub took_turn : ℕ → Step (std.Option S) → Sat → ℕ → Sat → Type 0
  took_turn l st m n m' = (n ≡ 0 → m' ≡ (handed m.0 (with_level l m.0.hand), m.1)) × (n ≢ 0 → m' ≡ m)

  -- the turn of a level is taken, by a live seat
  pub takes_turn : (slots id : ℕ) (me : Sat) (l new : ℕ) → me.0.draws.live ≡ true → l < levels (shape_in me.0.draws) → new ≢ 0
      → Allows TheRule slots id me (turn_at l) (λ n. either (n == 0) new n) (took_turn l (step slots (turn_at l) 0 new none) me)
  takes_turn slots id me l new live inside nonzero s r long at small =
      let v = me.0 in
      let z = r.shape in
      let p = r.parts in
      let home = λ (k : ℕ). get_elem? s.homes k in
      let ws = words_of z s.words in
      let shape = shape_is board free_slots memo z ws home s.views p id v at live in
      let below : l < levels z = subst (λ (y : Shape). l < levels y) (sym shape) inside in
      let n : ℕ = get_or s.words (turn_at l) 0 in
      let turn_is : ws.turn l ≡ n = here_turn z s.words 0 l below in
      dite (ℕ_discrete n 0)
      (λ hit.
      let h : Hand = with_level l v.hand in
      let t = p.tied id v at in
      let at_hand = hand_at board free_slots memo z ws home s.views p id v at in
      let parts = parts_hand board free_slots memo z ws home s.views p id v at h ws.free_turn ws.memo_turn (put_at ws.turn l new) ws.node ws.next ws.head home p.function p.on p.chain refl p.kept p.sound
      (remembered_here board free_slots memo z ws home s.views p id v at h refl home refl ws.node p.function p.half (λ s f is. is))
      (takes_level free_slots z (content_of z ws.node p.orders p.function p.half) p.on ws.free_turn ws.turn home (hands_in s.views) p.tables id v.hand at_hand l new below (turn_is ∙ hit) nonzero)
      (hand_links z ws.node ws.next ws.head p.on p.chain (hands_in s.views) p.linked id h (p.linked.links id v.hand at_hand) (p.linked.walks id v.hand at_hand) (p.linked.wholes id v.hand at_hand))
      (record { zeros = t.zeros; pins = t.pins; taken = t.taken; alone = t.alone; dead = λ gone. absurd (true≢false (sym live ∙ gone)) })
      (seen_here board free_slots memo z ws home s.views p id v at h) in (
        handed v h,
        keeps,
        tt,
        subst (λ b. TheRule (stepped s (turn_at l) (either b new n) id me.1 (handed v h) keeps)) (sym (eq-eqb n 0 hit))
            (after_word s r (turn_at l) new (set s.views id (handed v h)) s.homes (record ws { turn = put_at ws.turn l new }) refl (set_turn z s.words new l below r.wide) parts (told_still s r id v (handed v h) at refl)),
        ((λ _. refl), (λ miss. absurd (miss hit))),
      ))
      (λ miss. (
        v,
        keeps,
        tt,
        subst (λ b. TheRule (stepped s (turn_at l) (either b new n) id me.1 v keeps)) (sym (ne_eqb n 0 miss)) (stays s (turn_at l) id me r at),
        ((λ hit. absurd (miss hit)), (λ _. refl)),
      ))

  abbrev pub gave_turn : ℕ → Step (std.Option S) → Sat → ℕ → Sat → Type 0
  gave_turn l st m n m' = m' ≡ (handed m.0 (record m.0.hand { levels = without_level l m.0.hand.levels; walk = None }), m.1)

  -- and put back: nothing of the level is taken, and no slot of this seat is on no chain. What it knew of a chain goes with it.
  pub gives_turn : (slots id : ℕ) (me : Sat) (l : ℕ) → me.0.draws.live ≡ true → l < levels (shape_in me.0.draws) → HasLevel me.0.hand l
      → ((b : Job) → me.0.hand.taken ≡ Some b → level_of (shape_in me.0.draws) (word_of b) ≢ l) → me.0.hand.loose ≡ None
      → Allows TheRule slots id me (turn_at l) (λ _. 0) (gave_turn l (step slots (turn_at l) 0 0 none) me)
  gives_turn slots id me l live inside has off_taken none_loose s r long at small =
      let v = me.0 in
      let z = r.shape in
      let p = r.parts in
      let home = λ (k : ℕ). get_elem? s.homes k in
      let ws = words_of z s.words in
      let shape = shape_is board free_slots memo z ws home s.views p id v at live in
      let below : l < levels z = subst (λ (y : Shape). l < levels y) (sym shape) inside in
      let calm : Hand = record v.hand { walk = None } in
      let h : Hand = record v.hand { levels = without_level l v.hand.levels; walk = None } in
      let w = content_of z ws.node p.orders p.function p.half in
      let t = p.tied id v at in
      let at_hand = hand_at board free_slots memo z ws home s.views p id v at in
      let still = hands_it free_slots z w p.on ws.free_turn ws.turn home (hands_in s.views) p.tables id v.hand at_hand calm refl refl refl refl (λ n its. absurd (no_some n its)) in
      let parts = parts_hand board free_slots memo z ws home s.views p id v at h ws.free_turn ws.memo_turn (put_at ws.turn l 0) ws.node ws.next ws.head home p.function p.on p.chain refl p.kept p.sound
      (remembered_here board free_slots memo z ws home s.views p id v at h refl home refl ws.node p.function p.half (λ s f is. is))
      (subst (Tables free_slots z w p.on ws.free_turn (put_at ws.turn l 0) home) (set_set (hands_in s.views) id calm h)
      (puts_level free_slots z w p.on ws.free_turn ws.turn home (set (hands_in s.views) id calm) still id calm (set_at (hands_in s.views) id v.hand calm at_hand) l has
      (λ b its. subst (λ (y : Shape). level_of y (word_of b) ≢ l) (sym shape) (off_taken b its)) (λ q word its. absurd (no_some q (sym none_loose ∙ its))) (λ n its. absurd (no_some n its))))
      (hand_links z ws.node ws.next ws.head p.on p.chain (hands_in s.views) p.linked id h (p.linked.links id v.hand at_hand) (λ n its. absurd (no_some n its)) (λ n its. absurd (no_some n its)))
      (record { zeros = t.zeros; pins = t.pins; taken = λ busy. t.taken (λ idle. busy (idle.0, idle.1, refl)); alone = λ n its. absurd (no_some n its); dead = λ gone. absurd (true≢false (sym live ∙ gone)) })
      (seen_here board free_slots memo z ws home s.views p id v at h) in (
        handed v h,
        keeps,
        tt,
        after_word s r (turn_at l) 0 (set s.views id (handed v h)) s.homes (record ws { turn = put_at ws.turn l 0 }) refl (set_turn z s.words 0 l below r.wide) parts (told_still s r id v (handed v h) at refl),
        refl,
      )

  abbrev pub took_free : Step (std.Option S) → Sat → ℕ → Sat → Type 0
  took_free st m n m' = (n ≡ 0 → (x : S) × (m' ≡ (handed m.0 (record m.0.hand { free = Some (free_slots x).slots }), (1, Some x) ∷ m.1)) × ((free_slots x).room ≡ m.0.draws.slots)) × (n ≢ 0 → m' ≡ m)

  -- the free list is taken
  pub takes_free_list : (slots id : ℕ) (me : Sat) (new : ℕ) → me.0.draws.live ≡ true → new ≢ 0
      → Allows TheRule slots id me 3 (λ n. either (n == 0) new n) (took_free (step slots 3 0 new none) me)
  takes_free_list slots id me new live nonzero s r long at small =
      let v = me.0 in
      let z = r.shape in
      let p = r.parts in
      let home = λ (k : ℕ). get_elem? s.homes k in
      let ws = words_of z s.words in
      let n : ℕ = get_or s.words 3 0 in
      dite (ℕ_discrete n 0)
      (λ hit.
      let y = p.tables.free_home hit in
      let x : S = y.1 in
      let h : Hand = record v.hand { free = Some (free_slots x).slots } in
      let hs = set s.homes 1 none in
      let t = p.tied id v at in
      let at_hand = hand_at board free_slots memo z ws home s.views p id v at in
      let parts = parts_hand board free_slots memo z ws home s.views p id v at h new ws.memo_turn ws.turn ws.node ws.next ws.head (λ k. get_elem? hs k) p.function p.on p.chain
      (set_else s.homes 1 0 none (λ e. omega (arith, e))) p.kept p.sound
      (remembered_here board free_slots memo z ws home s.views p id v at h refl (λ k. get_elem? hs k) (set_else s.homes 1 2 none (λ e. omega (arith, e))) ws.node p.function p.half (λ s f is. is))
      (subst (λ (l : List ℕ). Tables free_slots z (content_of z ws.node p.orders p.function p.half) p.on new ws.turn (λ k. get_elem? hs k) (set (hands_in s.views) id (record v.hand { free = Some l }))) (sym y.3)
      (takes_free free_slots z (content_of z ws.node p.orders p.function p.half) p.on ws.free_turn ws.turn home (hands_in s.views) p.tables id v.hand at_hand new (λ k. get_elem? hs k) hit nonzero))
      (hand_links z ws.node ws.next ws.head p.on p.chain (hands_in s.views) p.linked id h (p.linked.links id v.hand at_hand) (p.linked.walks id v.hand at_hand) (p.linked.wholes id v.hand at_hand))
      (record { zeros = t.zeros; pins = t.pins; taken = t.taken; alone = t.alone; dead = λ gone. absurd (true≢false (sym live ∙ gone)) })
      (seen_here board free_slots memo z ws home s.views p id v at h) in (
        handed v h,
        takes 1 (Some x),
        y.2,
        subst (λ b. TheRule (stepped s 3 (either b new n) id me.1 (handed v h) (takes 1 (Some x)))) (sym (eq-eqb n 0 hit))
            (after_word s r 3 new (set s.views id (handed v h)) hs (record ws { free_turn = new }) (length-set s.homes 1 none) (set_free_turn z s.words new (let l = r.wide in omega (arith, l))) parts (told_still s r id v (handed v h) at refl)),
        ((λ _. (x, refl, y.4 ∙ ap (λ (q : Shape). q.slots) (shape_is board free_slots memo z ws home s.views p id v at live))), (λ miss. absurd (miss hit))),
      ))
      (λ miss. (
        v,
        keeps,
        tt,
        subst (λ b. TheRule (stepped s 3 (either b new n) id me.1 v keeps)) (sym (ne_eqb n 0 miss)) (stays s 3 id me r at),
        ((λ hit. absurd (miss hit)), (λ _. refl)),
      ))

  abbrev pub took_slot : Job → Step (std.Option S) → Sat → ℕ → Sat → Type 0
  took_slot due st m n m' = m' ≡ (handed m.0 (taking due m.0.hand), rest m.1)

  -- The free list is put back without its first slot, which is taken for what is due: its level's turn is in hand.
  pub takes_slot : (slots id : ℕ) (me : Sat) (due : Job) (list : List ℕ) (x : S) → me.0.draws.live ≡ true → me.1 ≡ (1, Some x) ∷ rest me.1 → (me.0.shares.op ≡ shares.Held) ⊎ (me.0.shares.order ≡ Holding)
      → me.0.hand.free ≡ Some ((slot_of due) ∷ list) → me.0.hand.taken ≡ None → HasLevel me.0.hand (level_of (shape_in me.0.draws) (word_of due)) → (free_slots x).slots ≡ list → (free_slots x).room ≡ me.0.draws.slots
      → ((s : State (std.Option S) View) (r : TheRule s) → get_elem? s.views id ≡ some me.0 → IsToDo (content_of r.shape (words_of r.shape s.words).node r.parts.orders r.parts.function r.parts.half) due)
      → Allows TheRule slots id me 3 (λ _. 0) (took_slot due (step slots 3 0 0 none) me)
  takes_slot slots id me due list x live has share free none_taken level gave roomy is_due s r long at small =
      let v = me.0 in
      let z = r.shape in
      let p = r.parts in
      let home = λ (k : ℕ). get_elem? s.homes k in
      let ws = words_of z s.words in
      let shape = shape_is board free_slots memo z ws home s.views p id v at live in
      let h : Hand = taking due v.hand in
      let hs = set s.homes 1 (some (Some x)) in
      let t = p.tied id v at in
      let at_hand = hand_at board free_slots memo z ws home s.views p id v at in
      let parts = parts_hand board free_slots memo z ws home s.views p id v at h 0 ws.memo_turn ws.turn ws.node ws.next ws.head (λ k. get_elem? hs k) p.function p.on p.chain
      (set_else s.homes 1 0 (some (Some x)) (λ e. omega (arith, e))) p.kept p.sound
      (remembered_here board free_slots memo z ws home s.views p id v at h refl (λ k. get_elem? hs k) (set_else s.homes 1 2 (some (Some x)) (λ e. omega (arith, e))) ws.node p.function p.half (λ s f is. is))
      (puts_free free_slots z (content_of z ws.node p.orders p.function p.half) p.on ws.free_turn ws.turn home (hands_in s.views) p.tables id v.hand at_hand
      due list (λ k. get_elem? hs k) x free none_taken (is_due s r at) (subst (λ (y : Shape). HasLevel v.hand (level_of y (word_of due))) (sym shape) level) refl gave (roomy ∙ ap (λ (y : Shape). y.slots) (sym shape)) (set_here s.homes 1 (some (Some x)) (let e = r.long in omega (arith, e))))
      (hand_links z ws.node ws.next ws.head p.on p.chain (hands_in s.views) p.linked id h (λ k its. absurd (no_some k its)) (p.linked.walks id v.hand at_hand) (p.linked.wholes id v.hand at_hand))
      (record { zeros = t.zeros; pins = t.pins; taken = λ _. share; alone = t.alone; dead = λ gone. absurd (true≢false (sym live ∙ gone)) })
      (seen_here board free_slots memo z ws home s.views p id v at h) in (
        handed v h,
        gives,
        tt,
        subst (λ (c : List (ℕ × std.Option S)). TheRule (stepped s 3 0 id c (handed v h) gives)) (sym has)
            (after_word s r 3 0 (set s.views id (handed v h)) hs (record ws { free_turn = 0 }) (length-set s.homes 1 (some (Some x))) (set_free_turn z s.words 0 (let l = r.wide in omega (arith, l))) parts (told_still s r id v (handed v h) at refl)),
        refl,
      )

  abbrev pub gave_free : Step (std.Option S) → Sat → ℕ → Sat → Type 0
  gave_free st m n m' = m' ≡ (handed m.0 (record m.0.hand { free = None }), rest m.1)

  -- the free list is put back as it is
  pub gives_free_list : (slots id : ℕ) (me : Sat) (list : List ℕ) (x : S) → me.0.draws.live ≡ true → me.1 ≡ (1, Some x) ∷ rest me.1 → me.0.hand.free ≡ Some list → (free_slots x).slots ≡ list → (free_slots x).room ≡ me.0.draws.slots
      → Allows TheRule slots id me 3 (λ _. 0) (gave_free (step slots 3 0 0 none) me)
  gives_free_list slots id me list x live has free gave roomy s r long at small =
      let v = me.0 in
      let z = r.shape in
      let p = r.parts in
      let home = λ (k : ℕ). get_elem? s.homes k in
      let ws = words_of z s.words in
      let h : Hand = record v.hand { free = None } in
      let hs = set s.homes 1 (some (Some x)) in
      let t = p.tied id v at in
      let at_hand = hand_at board free_slots memo z ws home s.views p id v at in
      let parts = parts_hand board free_slots memo z ws home s.views p id v at h 0 ws.memo_turn ws.turn ws.node ws.next ws.head (λ k. get_elem? hs k) p.function p.on p.chain
      (set_else s.homes 1 0 (some (Some x)) (λ e. omega (arith, e))) p.kept p.sound
      (remembered_here board free_slots memo z ws home s.views p id v at h refl (λ k. get_elem? hs k) (set_else s.homes 1 2 (some (Some x)) (λ e. omega (arith, e))) ws.node p.function p.half (λ s f is. is))
      (puts_back free_slots z (content_of z ws.node p.orders p.function p.half) p.on ws.free_turn ws.turn home (hands_in s.views) p.tables id v.hand at_hand list (λ k. get_elem? hs k) x free gave (roomy ∙ ap (λ (q : Shape). q.slots) (sym (shape_is board free_slots memo z ws home s.views p id v at live)))
      (set_here s.homes 1 (some (Some x)) (let e = r.long in omega (arith, e))))
      (hand_links z ws.node ws.next ws.head p.on p.chain (hands_in s.views) p.linked id h (p.linked.links id v.hand at_hand) (p.linked.walks id v.hand at_hand) (p.linked.wholes id v.hand at_hand))
      (record { zeros = t.zeros; pins = t.pins; taken = t.taken; alone = t.alone; dead = λ gone. absurd (true≢false (sym live ∙ gone)) })
      (seen_here board free_slots memo z ws home s.views p id v at h) in (
        handed v h,
        gives,
        tt,
        subst (λ (c : List (ℕ × std.Option S)). TheRule (stepped s 3 0 id c (handed v h) gives)) (sym has)
            (after_word s r 3 0 (set s.views id (handed v h)) hs (record ws { free_turn = 0 }) (length-set s.homes 1 (some (Some x))) (set_free_turn z s.words 0 (let l = r.wide in omega (arith, l))) parts (told_still s r id v (handed v h) at refl)),
        refl,
      )

  abbrev pub linked_it : ℕ → ℕ → Step (std.Option S) → Sat → ℕ → Sat → Type 0
  linked_it q x st m n m' = m' ≡ (handed m.0 (linking q x m.0.hand), m.1)

  -- the store of a next word, at a slot that is taken or on no chain
  pub stores_next : (slots id : ℕ) (me : Sat) (q x : ℕ) → me.0.draws.live ≡ true → Owns me.0.hand q → q < me.0.draws.slots
      → Allows TheRule slots id me (next_at (shape_in me.0.draws) q) (λ _. x) (linked_it q x (step slots (next_at (shape_in me.0.draws) q) x 0 none) me)
  stores_next slots id me q x live own inside s r long at small =
      let v = me.0 in
      let z = r.shape in
      let p = r.parts in
      let home = λ (k : ℕ). get_elem? s.homes k in
      let ws = words_of z s.words in
      let shape = shape_is board free_slots memo z ws home s.views p id v at live in
      let below : q < z.slots = subst (λ (y : Shape). q < y.slots) (sym shape) inside in
      let w : View = handed v (linking q x v.hand) in (
        w,
        keeps,
        tt,
        subst (λ (i : ℕ). TheRule (record { words = set s.words i x; homes = s.homes; views = set s.views id w })) (ap (λ (y : Shape). next_at y q) shape)
            (after_word s r (next_at z q) x (set s.views id w) s.homes (record ws { next = put_at ws.next q x }) refl (set_next z s.words x q below r.wide) (parts_link board free_slots memo z ws home s.views p id v at q x own) (told_still s r id v w at refl)),
        refl,
      )

  abbrev pub pushed_it : ℕ → Step (std.Option S) → Sat → ℕ → Sat → Type 0
  pushed_it link st m n m' = (n ≡ link → m' ≡ (handed m.0 (pushing m.0.hand), m.1)) × (n ≢ link → m' ≡ m)

  -- The step of a head, by compare_exchange: where it finds the link that the slot has, the slot stands before the others; else nothing changes.
  pub pushes_slot : (slots id : ℕ) (me : Sat) (q link bits : ℕ) → me.0.draws.live ≡ true → me.0.hand.loose ≡ Some q → me.0.hand.link ≡ Some (record { slot = q; link = link })
      → ((s : State (std.Option S) View) (r : TheRule s) → get_elem? s.views id ≡ some me.0 → (words_of r.shape s.words).node q ≡ bits)
      → Allows TheRule slots id me (head_at (shape_in me.0.draws) (head_of (shape_in me.0.draws) bits)) (λ n. either (n == link) (suc q) n)
      (pushed_it link (step slots (head_at (shape_in me.0.draws) (head_of (shape_in me.0.draws) bits)) link (suc q) none) me)
  pushes_slot slots id me q link bits live loose linked node_is s r long at small =
      let v = me.0 in
      let z = r.shape in
      let p = r.parts in
      let home = λ (k : ℕ). get_elem? s.homes k in
      let ws = words_of z s.words in
      let shape = shape_is board free_slots memo z ws home s.views p id v at live in
      let is : ws.node q ≡ bits = node_is s r at in
      let word : ℕ = head_at (shape_in v.draws) (head_of (shape_in v.draws) bits) in
      let word_is : head_at z (head_of z (ws.node q)) ≡ word = λ i. head_at (shape i) (head_of (shape i) (is i)) in
      let below = head_within z (ws.node q) in
      let n : ℕ = get_or s.words word 0 in
      let head_is : ws.head (head_of z (ws.node q)) ≡ n = here_head z s.words 0 (head_of z (ws.node q)) below ∙ ap (λ i. get_or s.words i 0) word_is in
      let w : View = handed v (pushing v.hand) in
      dite (ℕ_discrete n link)
      (λ hit. (
        w,
        keeps,
        tt,
        subst (λ b. TheRule (stepped s word (either b (suc q) n) id me.1 w keeps)) (sym (eq-eqb n link hit))
            (subst (λ (i : ℕ). TheRule (record { words = set s.words i (suc q); homes = s.homes; views = set s.views id w })) word_is
            (after_word s r (head_at z (head_of z (ws.node q))) (suc q) (set s.views id w) s.homes (record ws { head = put_at ws.head (head_of z (ws.node q)) (suc q) }) refl (set_head z s.words (suc q) (head_of z (ws.node q)) below r.wide)
            (parts_push board free_slots memo z ws home s.views p id v at q link loose linked (head_is ∙ hit)) (told_still s r id v w at refl))),
        ((λ _. refl), (λ miss. absurd (miss hit))),
      ))
      (λ miss. (
        v,
        keeps,
        tt,
        subst (λ b. TheRule (stepped s word (either b (suc q) n) id me.1 v keeps)) (sym (ne_eqb n link miss)) (stays s word id me r at),
        ((λ hit. absurd (miss hit)), (λ _. refl)),
      ))

  -- the link that leads to these slots
  abbrev pub link_to : List ℕ → ℕ
  link_to [] = 0
  link_to (x ∷ xs) = suc x

  abbrev pub loaded_next : List ℕ → Step (std.Option S) → Sat → ℕ → Sat → Type 0
  loaded_next ss st m n m' = (m' ≡ m) × (n ≡ link_to ss)

  -- the load of the next word of any slot of the chain that the seat knows: it finds the link to the slot behind it, whatever others put before the chain meanwhile
  pub loads_next : (slots id : ℕ) (me : Sat) (n : Walk) (front : List ℕ) (q : ℕ) (ss : List ℕ) → me.0.draws.live ≡ true → me.0.hand.walk ≡ Some n → n.rest ≡ front ++ q ∷ ss → q < me.0.draws.slots
      → Allows TheRule slots id me (next_at (shape_in me.0.draws) q) (λ x. x) (loaded_next ss (step slots (next_at (shape_in me.0.draws) q) 0 0 none) me)
  loads_next slots id me n front q ss live walk rest_is inside s r long at small =
      let v = me.0 in
      let z = r.shape in
      let p = r.parts in
      let home = λ (k : ℕ). get_elem? s.homes k in
      let ws = words_of z s.words in
      let shape = shape_is board free_slots memo z ws home s.views p id v at live in
      let below : q < z.slots = subst (λ (y : Shape). q < y.slots) (sym shape) inside in
      let word : ℕ = next_at (shape_in v.draws) q in
      let next_word : ws.next q ≡ get_or s.words word 0 = here_next z s.words 0 q below ∙ ap (λ (y : Shape). get_or s.words (next_at y q) 0) shape in
      let k = next_is z ws.node ws.next ws.head p.on p.chain (hands_in s.views) p.linked id v.hand n front q ss (hand_at board free_slots memo z ws home s.views p id v at) walk rest_is in
      (v, keeps, tt, stays s word id me r at, (refl, sym next_word ∙ first ws.next (ws.next q) ss k.0))
    where
      first : (next : ℕ → ℕ) (link : ℕ) (ss : List ℕ) → Along next link ss → link ≡ link_to ss
      first next link [] a = a
      first next link (x ∷ xs) a = a.0
