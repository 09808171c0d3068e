-- The holder of the order takes the free list and the computed table, and gives them back.
use Rattle.std.proofs.Common.{◌≡◌, ◌≢◌, inl, inr, ℕ, zero, suc, ◌<◌, ◌==◌, true, false, List, [], ◌∷◌, set, get_or, Some, None, refl, ap, sym, ◌∙◌, subst, arith, length-set, eq-eqb, ne_eqb}
use Rattle.std.specs.Prelude as std
use mathlib.Core.Logic.{dite}
use mathlib.Core.Option.{Option, none, some, some-injective, some-ne-none}
use native.Mathlib.Decide.{ℕ_discrete}
use lib.ListN.{get_elem?}
use prog.Atomic.{either}
use Rattle.atomic_table.specs.Table.{State, Me, step, keeps, takes, gives, rest, stepped, Allows}
use Rattle.atomic_table.proofs.Lists.{set_else, set_here}
use Rattle.computed_cache.specs.Entries.{Kept, kept_at, places}
use Rattle.node_store.specs.Contents.{Content, view_of}
use Rattle.step_store.specs.Chains as steps
use Rattle.free_list.specs.FreeSlots.{FreeSlots}
use Rattle.words_rule.specs.declared.cell.Cell.{Cell}
use Rattle.words_rule.specs.declared.view.Hand.{Hand}
use Rattle.words_rule.specs.declared.view.Hold.TheVariants.{Holding}
use Rattle.words_rule.specs.declared.view.Job.{Job}
use Rattle.words_rule.specs.declared.view.View.{View}
use Rattle.words_rule.specs.HeldContents.{KnowsAll, held_content}
use Rattle.words_rule.specs.HolderPlays.{AreFreeSlots, free_claimed, free_returned, memo_claimed, memo_returned}
use Rattle.words_rule.specs.Layout.{Shape, Words, content_of, words_of}
use Rattle.words_rule.specs.Rule.{Parts, Rule, hands_in}
use Rattle.words_rule.proofs.Handed.{hand_at, handed}
use Rattle.words_rule.proofs.HandClauses.{stands_at}
use Rattle.words_rule.proofs.HolderKnows.{limit_is, word_same}
use Rattle.words_rule.proofs.Layouts.{set_memo_turn}
use Rattle.words_rule.proofs.Lists.{set_at}
use Rattle.words_rule.proofs.Memos.{parts_memo}
use Rattle.words_rule.proofs.Remembering.{remembered_given, remembered_taken}
use Rattle.words_rule.proofs.Rewrites.{nobody_takes}
use Rattle.words_rule.proofs.Tabling.{after_word, gives_free_list, stays, takes_free_list, told_still}

-- what stands at an index of a list, the list has
lists_at : (l : List ℕ) (k s : ℕ) → get_elem? l k ≡ some s → steps.Lists l s
lists_at [] k s e = absurd (some-ne-none s (sym e))
lists_at (x ∷ xs) zero s e = inl (some-injective x s e)
lists_at (x ∷ xs) (suc k) s e = inr (lists_at xs k s e)

-- where each stands at one index alone, each comes once
once_by_index : (l : List ℕ) → ((j k s : ℕ) → get_elem? l j ≡ some s → get_elem? l k ≡ some s → j ≡ k) → steps.Once l
once_by_index [] one = tt
once_by_index (x ∷ xs) one = (
  (λ again. let at = stands_at xs x again in let e = one zero (suc at.0) x refl at.1 in omega (arith, e)),
  once_by_index xs (λ j k s a b. let e = one (suc j) (suc k) s a b in omega (arith, e)),
)

-- a view keeps what it knows, whatever it has in hand
pub knows_handed : (v : View) (h : Hand) → KnowsAll v → KnowsAll (handed v h)
knows_handed v h k = record { sound = k.sound; long = k.long; noted = k.noted; beyond = k.beyond; aged = k.aged; zeros = k.zeros; own = k.own; once = k.once }

module _ {S : Type 0} (board : S → List (std.Option Cell)) (free_slots : S → FreeSlots) (memo : S → List ℕ) where
  abbrev TheRule : State (std.Option S) View → Type 0
  TheRule = Rule board free_slots memo

  abbrev Sat : Type 0
  Sat = Me (std.Option S) View

  -- the list in the holder's hand has each free slot once
  free_slots_are : (z : Shape) (ws : Words) (home : ℕ → Option (Option (std.Option S))) (vs : List View) (r : Parts board free_slots memo z ws home vs) (id : ℕ) (v : View) → get_elem? vs id ≡ some v → v.draws.live ≡ true → v.shares.order ≡ Holding → KnowsAll v → v.hand.taken ≡ None
      → (list : List ℕ) → v.hand.free ≡ Some list → AreFreeSlots (held_content v) list
  free_slots_are z ws home vs r id v at live holding k none_taken list has =
      let t = r.tables in
      let held = t.free_held id v.hand (hand_at board free_slots memo z ws home vs r id v at) list has in
      let now : list ≡ t.free_now = held.2 in
      let limit : v.draws.slots ≡ z.slots = limit_is board free_slots memo z ws home vs r id v at live holding k in
      let same = word_same board free_slots memo z ws home vs r id v at live holding k in
      let none_by : (s : ℕ) → t.taker s ≡ none = λ s. by s (t.taker s) refl in record {
        free = λ s there. let st = stands_at list s there in let f = t.free_is.free st.0 s (ap (λ (l : List ℕ). get_elem? l st.0) (sym now) ∙ st.1) in
            (subst (λ (m : ℕ). s < m) (sym limit) f.0, same s ∙ f.1);
        once = once_by_index list (λ j m s a b. t.free_is.once j m s (ap (λ (l : List ℕ). get_elem? l j) (sym now) ∙ a) (ap (λ (l : List ℕ). get_elem? l m) (sym now) ∙ b));
        all = λ s lt free. let st = t.free_is.all s (subst (λ (m : ℕ). s < m) limit lt) (sym (same s) ∙ free) (none_by s) in lists_at list st.0 s (ap (λ (l : List ℕ). get_elem? l st.0) now ∙ st.1);
      }
    where
      never : (h : Hand) (job : Job) → h.taken ≡ None → h.taken ≡ Some job → ⊥
      never h job a b = no_job job (sym a ∙ b)
        where
          no_job : (job : Job) → ◌≡◌ {A = std.Option Job} None (Some job) → ⊥
          no_job job e = cc

      by : (s : ℕ) (o : Option ℕ) → r.tables.taker s ≡ o → r.tables.taker s ≡ none
      by s none e = e
      by s (some i) e =
          let b = r.tables.taken_by s i e in
          absurd (never b.0 b.1 (nobody_takes board free_slots memo z ws home vs r id v at holding none_taken i b.0 b.2) b.3)

  pub claims_free : (slots id : ℕ) (me : Sat) (new : ℕ) → me.0.draws.live ≡ true → me.0.shares.order ≡ Holding → KnowsAll me.0 → me.0.hand.taken ≡ None → new ≢ 0
      → Allows TheRule slots id me 3 (λ n. either (n == 0) new n) (free_claimed free_slots (step slots 3 0 new none) me)
  claims_free slots id me new live holding k none_taken nonzero s r long at small =
      let x = takes_free_list board free_slots memo slots id me new live nonzero s r long at small in
      let t = x.4 in
      let n : ℕ = get_or s.words 3 0 in
      let s1 = stepped s 3 (either (n == 0) new n) id me.1 x.0 x.1 in
      let r1 : TheRule s1 = x.3 in
      let at1 : get_elem? s1.views id ≡ some x.0 = set_at s.views id me.0 x.0 at in (
        x.0,
        x.1,
        x.2,
        x.3,
        (
          dite (ℕ_discrete n 0) (λ hit. ap (λ (y : Sat). y.0.draws) (t.0 hit).1) (λ miss. ap (λ (y : Sat). y.0.draws) (t.1 miss)),
          (λ hit.
              let e = t.0 hit in
              let h : Hand = record me.0.hand { free = Some (free_slots e.0).slots } in
              let is : x.0 ≡ handed me.0 h = ap (λ (y : Sat). y.0) e.1 in
              let knows : KnowsAll x.0 = subst KnowsAll (sym is) (knows_handed me.0 h k) in
              let found = free_slots_are r1.shape (words_of r1.shape s1.words) (λ (j : ℕ). get_elem? s1.homes j) s1.views r1.parts id x.0 at1 (ap (λ (v : View). v.draws.live) is ∙ live) (ap (λ (v : View). v.shares.order) is ∙ holding) knows
              (ap (λ (v : View). v.hand.taken) is ∙ none_taken) (free_slots e.0).slots (ap (λ (v : View). v.hand.free) is) in
              (e.0, e.1, subst (λ (w : Content). AreFreeSlots w (free_slots e.0).slots) (ap held_content is) found, e.2)),
          t.1,
        ),
      )

  pub returns_free : (slots id : ℕ) (me : Sat) (x : S) → me.0.draws.live ≡ true → me.1 ≡ (1, Some x) ∷ rest me.1 → me.0.hand.free ≡ Some (free_slots x).slots → (free_slots x).room ≡ me.0.draws.slots
      → Allows TheRule slots id me 3 (λ _. 0) (free_returned (step slots 3 0 0 none) me)
  returns_free slots id me x live has free roomy = gives_free_list board free_slots memo slots id me (free_slots x).slots x live has free refl roomy

  pub claims_memo : (slots id : ℕ) (me : Sat) (new : ℕ) → me.0.draws.live ≡ true → new ≢ 0
      → Allows TheRule slots id me 5 (λ n. either (n == 0) new n) (memo_claimed memo (step slots 5 0 new none) me)
  claims_memo slots id me new live nonzero s r long at small =
      let v = me.0 in
      let z = r.shape in
      let p = r.parts in
      let home = λ (k : ℕ). get_elem? s.homes k in
      let ws = words_of z s.words in
      let n : ℕ = get_or s.words 5 0 in
      dite (ℕ_discrete n 0)
      (λ hit.
      let y = p.remembered.at_home hit in
      let x : S = y.1 in
      let hs = set s.homes 2 none in
      let h : Hand = record v.hand { memo = true } in
      let w : View = handed v h in
      let view = view_of (content_of z ws.node p.orders p.function p.half) in
      let parts = parts_memo board free_slots memo z ws home s.views p id v at live true new (λ k. get_elem? hs k) (set_else s.homes 2 0 none (λ e. omega (arith, e))) (set_else s.homes 2 1 none (λ e. omega (arith, e)))
      (remembered_taken memo view view ws.memo_turn (home 2) new (get_elem? hs 2) (hands_in s.views) id h hit nonzero p.remembered) in (
        w,
        takes 2 (Some x),
        y.2,
        subst (λ b. TheRule (stepped s 5 (either b new n) id me.1 w (takes 2 (Some x)))) (sym (eq-eqb n 0 hit))
            (after_word board free_slots memo s r 5 new (set s.views id w) hs (record ws { memo_turn = new }) (length-set s.homes 2 none) (set_memo_turn z s.words new (let l = r.wide in omega (arith, l))) parts (told_still board free_slots memo s r id v w at refl)),
        (refl, (λ _. (x, refl, y.3.0)), (λ miss. absurd (miss hit))),
      ))
      (λ miss. (
        v,
        keeps,
        tt,
        subst (λ b. TheRule (stepped s 5 (either b new n) id me.1 v keeps)) (sym (ne_eqb n 0 miss)) (stays board free_slots memo s 5 id me r at),
        (refl, (λ hit. absurd (miss hit)), (λ _. refl)),
      ))

  pub returns_memo : (slots id : ℕ) (me : Sat) (x : S) → me.0.draws.live ≡ true → me.1 ≡ (2, Some x) ∷ rest me.1 → me.0.hand.memo ≡ true → 0 < places (memo x) → ((i : ℕ) → kept_at (memo x) i ≡ None)
      → Allows TheRule slots id me 5 (λ _. 0) (memo_returned (step slots 5 0 0 none) me)
  returns_memo slots id me x live has has_memo some_places blank s r long at small =
      let v = me.0 in
      let z = r.shape in
      let p = r.parts in
      let home = λ (k : ℕ). get_elem? s.homes k in
      let ws = words_of z s.words in
      let hs = set s.homes 2 (some (Some x)) in
      let w : View = handed v (record v.hand { memo = false }) in
      let view = view_of (content_of z ws.node p.orders p.function p.half) in
      let parts = parts_memo board free_slots memo z ws home s.views p id v at live false 0 (λ k. get_elem? hs k) (set_else s.homes 2 0 (some (Some x)) (λ e. omega (arith, e))) (set_else s.homes 2 1 (some (Some x)) (λ e. omega (arith, e)))
      (remembered_given memo view view ws.memo_turn (home 2) (get_elem? hs 2) x (hands_in s.views) id v.hand (record v.hand { memo = false }) (hand_at board free_slots memo z ws home s.views p id v at) has_memo refl
      (set_here s.homes 2 (some (Some x)) (let e = r.long in omega (arith, e))) (some_places, λ i kept is. absurd (no_entry kept (sym (blank i) ∙ is))) p.remembered) in (
        w,
        gives,
        tt,
        subst (λ (c : List (ℕ × std.Option S)). TheRule (stepped s 5 0 id c w gives)) (sym has)
            (after_word board free_slots memo s r 5 0 (set s.views id w) hs (record ws { memo_turn = 0 }) (length-set s.homes 2 (some (Some x))) (set_memo_turn z s.words 0 (let l = r.wide in omega (arith, l))) parts (told_still board free_slots memo s r id v w at refl)),
        refl,
      )
    where
      no_entry : (kept : Kept) → ◌≡◌ {A = std.Option Kept} None (Some kept) → ⊥
      no_entry kept e = cc
