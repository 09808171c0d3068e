-- The steps as a seat calls them: at the index that it has of a word, with what each tells.
use Rattle.std.proofs.Common.{◌≡◌, ◌≢◌, ℕ, suc, ◌+◌, ◌-◌, ◌<◌, ◌==◌, cond, true, List, ◌∷◌, get_or, Some, None, option_map, refl, ap, sym, ◌∙◌, subst, arith}
use Rattle.std.specs.Prelude as std
use mathlib.Core.Logic.{dite}
use mathlib.Core.Option.{none}
use native.Mathlib.Decide.{ℕ_discrete}
use lib.ListN.{get_elem?}
use prog.Atomic.{either}
use Rattle.atomic_table.specs.Table.{State, Me, step, keeps, rest, carried_after, Allows}
use Rattle.edge_bits.specs.declared.words.Word.{Word}
use Rattle.function_laws.specs.Kinds.{Denoted}
use Rattle.step_store.specs.Knowing.{IsWanted}
use Rattle.words_rule.specs.declared.cell.Cell.{Cell}
use Rattle.words_rule.specs.declared.view.Held.{Held}
use Rattle.words_rule.specs.declared.view.Share.TheVariants as shares
use Rattle.words_rule.specs.declared.view.View.{View}
use Rattle.words_rule.specs.Shapes.{shape_in}
use Rattle.words_rule.specs.Layout.{Shape, levels, heads, places, words_of, turn_at, order_at, node_at, next_at, head_at}
use Rattle.words_rule.specs.Hands.{place_of, HasLevel, Owns, linking, taking, with_level, without_level}
use Rattle.words_rule.specs.OneSession.{storing_node}
use Rattle.words_rule.specs.Rule.{Rule}
use Rattle.words_rule.specs.Known.{Own, known_of, own_none, taken_of, with_made}
use Rattle.words_rule.specs.Loads.{LoadedNode, LoadedWord, StoredNode, TakenReads, sees_of}
use Rattle.words_rule.specs.Plays.{board_taken, level_loaded, HasLoaded, HasTaken, LeadsOn, turn_taken, turn_given, head_loaded, next_loaded, node_loaded, slot_taken, next_stored, node_stored, free_taken, word_walked}
use Rattle.words_rule.proofs.Boards.{takes_board}
use Rattle.std.proofs.lemmas.Bool.{lt-ltb, le-ltb}
use Rattle.edge_bits.specs.Permanent.{first_element}
use Rattle.edge_bits.specs.declared.edges.Kind.{Kind}
use Rattle.edge_bits.specs.declared.edges.Kind.TheVariants.{Bdd, Add, Zdd}
use Rattle.node_store.specs.Views.{IsVariable}
use Rattle.words_rule.proofs.Layouts.{here_order}
use Rattle.words_rule.proofs.Stepping.{shape_is}
use Rattle.words_rule.proofs.OrderLoads.{level_few, level_word}
use Rattle.words_rule.proofs.Tabling.{stays, takes_turn, gives_turn, takes_free_list, stores_next}
use Rattle.words_rule.proofs.HandClauses.{step_load_head, step_load_next}
use Rattle.words_rule.proofs.StoreClauses.{step_take_slot}
use Rattle.words_rule.proofs.NodeLoads.{loads_met}
use Rattle.words_rule.proofs.NodeStores.{step_store_taken}
use Rattle.words_rule.proofs.WalkSteps.{step_load_word}
use Rattle.words_rule.proofs.OneLoads.{finds_told}
use Rattle.free_list.specs.FreeSlots.{FreeSlots}

module _ {S : Type 0} (board : S → List (std.Option Cell)) (free_slots : S → FreeSlots) (memo : S → List ℕ) where
  abbrev TheRule : State (std.Option S) View → Type 0
  TheRule = Rule board free_slots memo

  abbrev Sat : Type 0
  Sat = Me (std.Option S) View

  pub call_take_turn : (slots id word : ℕ) (me : Sat) (l new : ℕ) → word ≡ turn_at l → me.0.draws.live ≡ true → l < levels (shape_in me.0.draws) → new ≢ 0
      → Allows TheRule slots id me word (λ n. either (n == 0) new n) (turn_taken (step slots word 0 new none) me)
  call_take_turn slots id word me l new is live inside nonzero = subst (λ (w : ℕ). Allows TheRule slots id me w (λ n. either (n == 0) new n) (turn_taken (step slots w 0 new none) me)) (sym is)
      (λ s r long at small.
      let x = takes_turn board free_slots memo slots id me l new live inside nonzero s r long at small in
      let t = x.4 in
      let n : ℕ = get_or s.words (turn_at l) 0 in (
        x.0,
        x.1,
        x.2,
        x.3,
        (
          dite (ℕ_discrete n 0) (λ hit. (ap (λ (y : Sat). y.0.draws) (t.0 hit), ap (λ (y : Sat). y.1) (t.0 hit))) (λ miss. (ap (λ (y : Sat). y.0.draws) (t.1 miss), ap (λ (y : Sat). y.1) (t.1 miss))),
          (λ k same. (
            (λ hit. t.0 hit ∙ ap (λ (j : ℕ). (record me.0 { hand = with_level j me.0.hand }, me.1)) (let e : l ≡ k = omega (arith, same) in e)),
            t.1,
          )),
        ),
      ))

  pub call_give_turn : (slots id word : ℕ) (me : Sat) (l : ℕ) → word ≡ turn_at l → me.0.draws.live ≡ true → l < levels (shape_in me.0.draws) → HasLevel me.0.hand l → (me.0.hand.taken ≡ None) × (me.0.hand.loose ≡ None)
      → Allows TheRule slots id me word (λ _. 0) (λ _. turn_given (step slots word 0 0 none) me 0)
  call_give_turn slots id word me l is live inside has calm = subst (λ (w : ℕ). Allows TheRule slots id me w (λ _. 0) (λ _. turn_given (step slots w 0 0 none) me 0)) (sym is)
      (λ s r long at small.
      let x = gives_turn board free_slots memo slots id me l live inside has (λ b its. absurd (no_some b (sym calm.0 ∙ its))) calm.1 s r long at small in (
        x.0,
        x.1,
        x.2,
        x.3,
        (
          (ap (λ (y : Sat). y.0.draws) x.4, ap (λ (y : Sat). y.1) x.4),
          (λ k same. x.4 ∙ ap (λ (j : ℕ). (record me.0 { hand = record me.0.hand { levels = without_level j me.0.hand.levels; walk = None } }, me.1)) (let e : l ≡ k = omega (arith, same) in e)),
        ),
      ))
    where
      no_some : {A : Type 0} (x : A) → None ≡ Some x → ⊥
      no_some x e = cc

  pub call_load_head : (slots id word : ℕ) (me : Sat) (head level : ℕ) → word ≡ head_at (shape_in me.0.draws) head → me.0.draws.live ≡ true → me.0.shares.op ≡ shares.Held → HasLevel me.0.hand level → head < heads (shape_in me.0.draws)
      → Allows TheRule slots id me word (λ n. n) (head_loaded level (step slots word 0 0 none) me)
  call_load_head slots id word me head level is live share has inside = subst (λ (w : ℕ). Allows TheRule slots id me w (λ n. n) (head_loaded level (step slots w 0 0 none) me)) (sym is)
      (λ s r long at small.
      let x = step_load_head board free_slots memo slots id me head level live share has inside s r long at small in
      let n : ℕ = get_or s.words (head_at (shape_in me.0.draws) head) 0 in (
        x.0,
        x.1,
        x.2,
        x.3,
        (
          (ap (λ (y : Sat). y.0.draws) x.4.1, ap (λ (y : Sat). y.1) x.4.1),
          (λ h same. subst (λ (j : ℕ). HasLoaded j level me n (x.0, carried_after me.1 x.1)) (let e : head ≡ h = omega (arith, same) in e) x.4),
        ),
      ))

  pub call_load_next : (slots id word : ℕ) (me : Sat) (q : ℕ) → word ≡ next_at (shape_in me.0.draws) q → me.0.draws.live ≡ true → q < me.0.draws.slots
      → Allows TheRule slots id me word (λ n. n) (next_loaded (step slots word 0 0 none) me)
  call_load_next slots id word me q is live inside = subst (λ (w : ℕ). Allows TheRule slots id me w (λ n. n) (next_loaded (step slots w 0 0 none) me)) (sym is)
      (λ s r long at small.
      let x = step_load_next board free_slots memo slots id me q live inside s r long at small in
      let n : ℕ = get_or s.words (next_at (shape_in me.0.draws) q) 0 in
      (x.0, x.1, x.2, x.3, (x.4.0, (λ p same. subst (λ (j : ℕ). LeadsOn j me n) (let e : q ≡ p = omega (arith, same) in e) x.4.1))))

  pub call_load_node : (slots id word : ℕ) (me : Sat) (o : Own) (q : ℕ) → word ≡ node_at (shape_in me.0.draws) q → me.0.draws.live ≡ true → me.0.shares.op ≡ shares.Held → q < me.0.draws.slots → o.fulls < 18446744073709551616
      → Allows TheRule slots id me word (λ n. n) (node_loaded o (step slots word 0 0 none) me)
  call_load_node slots id word me o q is live share inside few = subst (λ (w : ℕ). Allows TheRule slots id me w (λ n. n) (node_loaded o (step slots w 0 0 none) me)) (sym is)
      (λ s r long at small.
      let x = loads_met board free_slots memo slots id me o q live share inside few s r long at small in
      let n : ℕ = get_or s.words (node_at (shape_in me.0.draws) q) 0 in
      let t = x.4 in
      (x.0, x.1, x.2, x.3, (t.0, t.1, t.2, t.3, t.4, (λ p same. subst (λ (j : ℕ). LoadedNode (known_of me.0 o) (known_of x.0 o) j n) (let e : q ≡ p = omega (arith, same) in e) t.5), finds_told board free_slots memo s r id me.0 at live (node_at (shape_in me.0.draws) q))))

  pub call_take_free : (slots id : ℕ) (me : Sat) (new : ℕ) → me.0.draws.live ≡ true → new ≢ 0 → Allows TheRule slots id me 3 (λ n. either (n == 0) new n) (free_taken free_slots (step slots 3 0 new none) me)
  call_take_free slots id me new live nonzero s r long at small =
      let x = takes_free_list board free_slots memo slots id me new live nonzero s r long at small in
      let t = x.4 in
      let n : ℕ = get_or s.words 3 0 in
      (x.0, x.1, x.2, x.3, (dite (ℕ_discrete n 0) (λ hit. ap (λ (y : Sat). y.0.draws) (t.0 hit).1) (λ miss. ap (λ (y : Sat). y.0.draws) (t.1 miss)), t.0, t.1))

  pub call_take_slot : (slots id : ℕ) (me : Sat) (o : Own) (bits slot : ℕ) (list : List ℕ) (x : S) (word : Word) → me.0.draws.live ≡ true → me.0.shares.op ≡ shares.Held → me.1 ≡ (1, Some x) ∷ rest me.1
      → me.0.hand.free ≡ Some (slot ∷ list) → (free_slots x).slots ≡ list → (free_slots x).room ≡ me.0.draws.slots → (me.0.hand.taken ≡ None) × (me.0.hand.loose ≡ None) → bits < 18446744073709551616 → IsWanted (known_of me.0 o) bits word
      → Allows TheRule slots id me 3 (λ _. 0) (λ _. slot_taken bits (step slots 3 0 0 none) me 0)
  call_take_slot slots id me o bits slot list x word live share has free gave roomy calm small wanted s r long at below =
      let y = step_take_slot board free_slots memo slots id me o slot bits list x word live share has free gave roomy (ap (option_map taken_of) calm.0, calm.1) small wanted s r long at below in
      (y.0, y.1, y.2, y.3, (λ q other its. subst (λ (p : ℕ). HasTaken bits p me (y.0, carried_after me.1 y.1)) (first slot q list other (sym free ∙ its)) y.4))
    where
      first : (a b : ℕ) (xs ys : List ℕ) → Some (a ∷ xs) ≡ Some (b ∷ ys) → a ≡ b
      first a b xs ys e = cc

  -- what was taken, by the seat before the content was put back
  pub taken_from : (bits slot : ℕ) (m n m' : Sat) → n.0 ≡ m.0 → rest n.1 ≡ rest m.1 → HasTaken bits slot n m' → HasTaken bits slot m m'
  taken_from bits slot m n m' view hand h = record {
    job = h.job;
    is = h.is ∙ (λ i. (record (view i) { hand = taking h.job (view i).hand }, hand i));
    slot_is = h.slot_is;
    packs = h.packs;
    reads = h.reads;
    within = subst (λ (v : View). slot < v.draws.slots) view h.within;
  }

  pub call_take_board : (slots id : ℕ) (me : Sat) (new : ℕ) → new ≡ suc me.0.draws.session → me.0.draws.live ≡ true
      → Allows TheRule slots id me 2 (λ n. either (n == 0) new n) (board_taken board (step slots 2 0 new none) me)
  call_take_board slots id me new is live = subst (λ (k : ℕ). Allows TheRule slots id me 2 (λ n. either (n == 0) k n) (board_taken board (step slots 2 0 k none) me)) (sym is) (takes_board board free_slots memo slots id me live)

  pub call_store_next : (slots id word : ℕ) (me : Sat) (q x : ℕ) → word ≡ next_at (shape_in me.0.draws) q → me.0.draws.live ≡ true → Owns me.0.hand q → q < me.0.draws.slots
      → Allows TheRule slots id me word (λ _. x) (λ _. next_stored (step slots word x 0 none) me x)
  call_store_next slots id word me q x is live own inside = subst (λ (w : ℕ). Allows TheRule slots id me w (λ _. x) (λ _. next_stored (step slots w x 0 none) me x)) (sym is)
      (λ s r long at small.
      let y = stores_next board free_slots memo slots id me q x live own inside s r long at small in (
        y.0,
        y.1,
        y.2,
        y.3,
        (
          (ap (λ (m : Sat). m.0.draws) y.4, ap (λ (m : Sat). m.1) y.4),
          (λ p same. y.4 ∙ ap (λ (j : ℕ). (record me.0 { hand = linking j x me.0.hand }, me.1)) (let e : q ≡ p = omega (arith, same) in e)),
        ),
      ))

  pub call_store_node : (slots id word : ℕ) (me : Sat) (o : Own) (slot bits : ℕ) → word ≡ node_at (shape_in me.0.draws) slot → me.0.draws.live ≡ true → me.0.shares.op ≡ shares.Held
      → (known_of me.0 o).hand.taken ≡ Some (record { slot = slot; bits = bits }) → me.0.hand.loose ≡ None → bits < 18446744073709551616 → slot < me.0.draws.slots → TakenReads me.0 → o.fulls < 18446744073709551616
      → Allows TheRule slots id me word (λ _. bits) (λ _. node_stored o (step slots word bits 0 none) me bits)
  call_store_node slots id word me o slot bits is live share taken none_loose fits inside reads few = subst (λ (w : ℕ). Allows TheRule slots id me w (λ _. bits) (λ _. node_stored o (step slots w bits 0 none) me bits)) (sym is)
      (λ s r long at small.
      let y = step_store_taken board free_slots memo slots id me o slot bits live share taken none_loose fits inside reads few s r long at small in
      let t = y.4 in (
        y.0,
        y.1,
        y.2,
        y.3,
        (
          t.0,
          t.1,
          (λ q same. subst (λ (j : ℕ). (y.0.work ≡ record me.0.work { made = j ∷ me.0.work.made }) × (y.0.stored ≡ storing_node j bits me.0.stored) × StoredNode (known_of me.0 o) (known_of y.0 (with_made o j)) j bits) (let e : slot ≡ q = omega (arith, same) in e) (t.2, t.3, t.4)),
        ),
      ))

  pub call_load_word : (slots id word : ℕ) (me : Sat) (q : ℕ) → word ≡ node_at (shape_in me.0.draws) q → me.0.draws.live ≡ true → q < me.0.draws.slots → ((f : Denoted) × ((sees_of me.0).content q ≡ Some f)) → me.0.shares.walk ≡ shares.Held
      → Allows TheRule slots id me word (λ n. n) (word_walked (step slots word 0 0 none) me)
  call_load_word slots id word me q is live inside met share = subst (λ (w : ℕ). Allows TheRule slots id me w (λ n. n) (word_walked (step slots w 0 0 none) me)) (sym is)
      (λ s r long at small.
      let y = step_load_word board free_slots memo slots id me q live inside met share s r long at small in
      let n : ℕ = get_or s.words (node_at (shape_in me.0.draws) q) 0 in
      let t = y.4 in
      (y.0, y.1, y.2, y.3, (t.0, t.1, (λ p same. subst (λ (j : ℕ). LoadedWord me.0 y.0 j n) (let e : q ≡ p = omega (arith, same) in e) t.2), finds_told board free_slots memo s r id me.0 at live (node_at (shape_in me.0.draws) q))))

  -- a level word is within the table
  pub place_below : (v : View) (k : Kind) (u : ℕ) → IsVariable k (known_of v own_none).view u → place_of (shape_in v.draws) u < places (shape_in v.draws)
  place_below v Bdd u un = let h = un.0 in let lt = un.1 in let p : place_of (shape_in v.draws) u ≡ u = ap (λ b. cond b u (v.draws.vars + (u - first_element))) (lt-ltb u first_element h) in omega (arith, p, lt)
  place_below v Add u un = let h = un.0 in let lt = un.1 in let p : place_of (shape_in v.draws) u ≡ u = ap (λ b. cond b u (v.draws.vars + (u - first_element))) (lt-ltb u first_element h) in omega (arith, p, lt)
  place_below v Zdd u un = let h = un.0 in let lt = un.1 in let p : place_of (shape_in v.draws) u ≡ v.draws.vars + (u - first_element) = ap (λ b. cond b u (v.draws.vars + (u - first_element))) (le-ltb u first_element h) in omega (arith, p, h, lt)

  pub call_load_level : (slots id word : ℕ) (me : Sat) → me.0.draws.live ≡ true → me.0.shares.op ≡ shares.Held → Allows TheRule slots id me word (λ n. n) (level_loaded (step slots word 0 0 none) me)
  call_load_level slots id word me live share s r long at small =
      let v = me.0 in
      let z = r.shape in
      let p = r.parts in
      let home = λ (k : ℕ). get_elem? s.homes k in
      let ws = words_of z s.words in
      let shape = shape_is board free_slots memo z ws home s.views p id v at live in (
        v,
        keeps,
        tt,
        stays board free_slots memo s word id me r at,
        (
          refl,
          (λ k u un same.
              let l = level_word board free_slots memo z ws home s.views p id v at live share own_none k u un in
              let is = ap (λ (i : ℕ). get_or s.words i 0) (same ∙ ap (λ (y : Shape). order_at y (places y + place_of y u)) (sym shape))
              ∙ sym (here_order z s.words 0 (places z + place_of z u) (let lt = l.0 in omega (arith, lt))) ∙ l.1 in
              let lt = level_few board free_slots memo z ws home s.views p id v at live share own_none k u un in (is, omega (arith, is, lt))),
          finds_told board free_slots memo s r id me.0 at live word,
        ),
      )
