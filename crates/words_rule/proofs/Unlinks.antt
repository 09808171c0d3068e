-- The holder of the order takes slots off their chains.
use Rattle.std.proofs.Common.{◌≡◌, inl, inr, ℕ, ◌<◌, ◌++◌, true, List, [], ◌∷◌, Some, refl, ap, sym, ◌∙◌, subst, arith}
use Rattle.std.specs.Prelude as std
use mathlib.Core.Option.{none}
use lib.ListN.{get_elem?}
use Rattle.atomic_table.specs.Table.{State, Me, step, Allows}
use Rattle.step_store.specs.Chains as steps
use Rattle.words_rule.specs.declared.cell.Cell.{Cell}
use Rattle.words_rule.specs.declared.view.Hold.TheVariants.{Holding}
use Rattle.words_rule.specs.declared.view.View.{View}
use Rattle.words_rule.specs.declared.view.Walk.{Walk}
use Rattle.words_rule.specs.Chains.{Lists, Once}
use Rattle.words_rule.specs.Hands.{HasLevel, level_of, loosening}
use Rattle.words_rule.specs.HeldContents.{KnowsAll}
use Rattle.words_rule.specs.HolderPlays.{CanUnlink, IsAtFront, IsBehind, first_unlinked, later_unlinked}
use Rattle.words_rule.specs.Layout.{Shape, head_at, next_at, words_of}
use Rattle.words_rule.specs.Rule.{Rule, hands_in}
use Rattle.words_rule.specs.Shapes.{shape_in}
use Rattle.words_rule.proofs.Handed.{hand_at, handed}
use Rattle.words_rule.proofs.HandClauses.{first}
use Rattle.words_rule.proofs.HolderKnows.{word_same}
use Rattle.words_rule.proofs.Linking.{next_is}
use Rattle.words_rule.proofs.Loosing.{KnowsSlot, unheads, unlinks}
use Rattle.words_rule.proofs.Stepping.{shape_is}
use Rattle.free_list.specs.FreeSlots.{FreeSlots}

some_walk : (a b : Walk) → Some a ≡ Some b → a ≡ b
some_walk a b e = cc

head_same : (a b : ℕ) (xs ys : List ℕ) → a ∷ xs ≡ b ∷ ys → a ≡ b
head_same a b xs ys e = cc

tail_same : (a b : ℕ) (xs ys : List ℕ) → a ∷ xs ≡ b ∷ ys → xs ≡ ys
tail_same a b xs ys e = cc

not_nil : (a : ℕ) (xs : List ℕ) → ◌≡◌ {A = List ℕ} [] (a ∷ xs) → ⊥
not_nil a xs e = cc

stands_in : (front : List ℕ) (b : ℕ) (rest : List ℕ) → Lists (front ++ b ∷ rest) b
stands_in [] b rest = inl refl
stands_in (x ∷ front) b rest = inr (stands_in front b rest)

-- what stands behind a slot of a list in which each comes once is told by the slot
behind_same : (front other : List ℕ) (b x y : ℕ) (xs ys : List ℕ) → Once (front ++ b ∷ x ∷ xs) → front ++ b ∷ x ∷ xs ≡ other ++ b ∷ y ∷ ys → x ≡ y
behind_same [] [] b x y xs ys once e = head_same x y xs ys (tail_same b b (x ∷ xs) (y ∷ ys) e)
behind_same [] (o ∷ other) b x y xs ys once e = absurd (once.0 (subst (λ (l : List ℕ). Lists l b) (sym (tail_same b o (x ∷ xs) (other ++ b ∷ y ∷ ys) e)) (stands_in other b (y ∷ ys))))
behind_same (f ∷ front) [] b x y xs ys once e = absurd (once.0 (subst (λ (c : ℕ). Lists (front ++ b ∷ x ∷ xs) c) (sym (head_same f b (front ++ b ∷ x ∷ xs) (y ∷ ys) e)) (stands_in front b (x ∷ xs))))
behind_same (f ∷ front) (o ∷ other) b x y xs ys once e = behind_same front other b x y xs ys once.1 (tail_same f o (front ++ b ∷ x ∷ xs) (other ++ b ∷ y ∷ ys) e)

grouped : (front : List ℕ) (b slot : ℕ) (behind : List ℕ) → (front ++ b ∷ []) ++ slot ∷ behind ≡ front ++ b ∷ slot ∷ behind
grouped [] b slot behind = refl
grouped (x ∷ front) b slot behind = ap (λ (l : List ℕ). x ∷ l) (grouped front b slot behind)

module _ {S : Type 0} (board : S → List (std.Option Cell)) (free_slots : S → FreeSlots) (memo : S → List ℕ) where
  abbrev TheRule : State (std.Option S) View → Type 0
  TheRule = Rule board free_slots memo

  abbrev Sat : Type 0
  Sat = Me (std.Option S) View

  -- the seat knows the slot's word, that it has its level's turn, and the link from it
  knows_slot : (id : ℕ) (me : Sat) (n : Walk) (front : List ℕ) (q : ℕ) (behind : List ℕ) (link : ℕ) → me.0.draws.live ≡ true → me.0.shares.order ≡ Holding → KnowsAll me.0 → (c : CanUnlink me.0 q) → me.0.hand.walk ≡ Some n → n.rest ≡ front ++ q ∷ behind → link ≡ steps.link_to behind
      → KnowsSlot board free_slots memo id me q c.word link
  knows_slot id me n front q behind link live holding k c walk rest_is link_is s r at =
      let v = me.0 in
      let z = r.shape in
      let p = r.parts in
      let home = λ (k : ℕ). get_elem? s.homes k in
      let ws = words_of z s.words in
      let shape = shape_is board free_slots memo z ws home s.views p id v at live in
      let next = next_is z ws.node ws.next ws.head p.on p.chain (hands_in s.views) p.linked id v.hand n front q behind (hand_at board free_slots memo z ws home s.views p id v at) walk rest_is in (
        sym (word_same board free_slots memo z ws home s.views p id v at live holding k q) ∙ c.has,
        subst (λ (y : Shape). HasLevel v.hand (level_of y c.word)) (sym shape) c.turn,
        first board free_slots memo ws.next (ws.next q) behind next.0 ∙ sym link_is,
      )

  pub unlinks_first : (slots id word : ℕ) (me : Sat) (head q link : ℕ) → word ≡ head_at (shape_in me.0.draws) head → me.0.draws.live ≡ true → me.0.shares.order ≡ Holding → KnowsAll me.0 → CanUnlink me.0 q → IsAtFront me.0 head q link
      → Allows TheRule slots id me word (λ _. link) (first_unlinked (step slots word link 0 none) me)
  unlinks_first slots id word me head q link is live holding k c front = subst (λ (w : ℕ). Allows TheRule slots id me w (λ _. link) (first_unlinked (step slots w link 0 none) me)) (ap (head_at (shape_in me.0.draws)) front.4 ∙ sym is)
      (λ s r long at small.
      let n : Walk = front.0 in
      let x = unheads board free_slots memo slots id me n q front.1 c.word link live front.2 front.3 c.loose front.5 (knows_slot id me n [] q front.1 link live holding k c front.2 front.5 front.6) s r long at small in (
        x.0,
        x.1,
        x.2,
        x.3,
        (
          ap (λ (y : Sat). y.0.draws) x.4,
          ap (λ (y : Sat). y.1) x.4,
          λ m slot behind walk rest_is. x.4 ∙ ap (λ (t : ℕ). (handed me.0 (loosening t me.0.hand), me.1)) (head_same q slot front.1 behind (sym front.5 ∙ ap (λ (y : Walk). y.rest) (some_walk n m (sym front.2 ∙ walk)) ∙ rest_is)),
        ),
      ))

  pub unlinks_later : (slots id word : ℕ) (me : Sat) (b q link : ℕ) → word ≡ next_at (shape_in me.0.draws) b → me.0.draws.live ≡ true → me.0.shares.order ≡ Holding → KnowsAll me.0 → CanUnlink me.0 q → IsBehind me.0 b q link → b < me.0.draws.slots
      → Allows TheRule slots id me word (λ _. link) (later_unlinked (step slots word link 0 none) me)
  unlinks_later slots id word me b q link is live holding k c behind inside = subst (λ (w : ℕ). Allows TheRule slots id me w (λ _. link) (later_unlinked (step slots w link 0 none) me)) (sym is)
      (λ s r long at small.
      let v = me.0 in
      let p = r.parts in
      let home = λ (k : ℕ). get_elem? s.homes k in
      let ws = words_of r.shape s.words in
      let n : Walk = behind.0 in
      let front : List ℕ = behind.1 in
      let ss : List ℕ = behind.2 in
      let x = unlinks board free_slots memo slots id me n b front q ss c.word link live behind.3 behind.4 c.loose behind.5 inside (knows_slot id me n (front ++ b ∷ []) q ss link live holding k c behind.3 (behind.5 ∙ sym (grouped front b q ss)) behind.6) s r long at small in
      let at_hand = hand_at board free_slots memo r.shape ws home s.views p id v at in
      let once : Once (front ++ b ∷ q ∷ ss) = subst Once (p.linked.wholes id v.hand at_hand n behind.3 behind.4 ∙ behind.5) (p.linked.chains.once n.head (p.linked.walks id v.hand at_hand n behind.3).0) in (
        x.0,
        x.1,
        x.2,
        x.3,
        (
          ap (λ (y : Sat). y.0.draws) x.4,
          ap (λ (y : Sat). y.1) x.4,
          λ b' same m front' slot behind' walk rest_is.
              let e : b ≡ b' = omega (arith, same) in
              let rests : front ++ b ∷ q ∷ ss ≡ front' ++ b ∷ slot ∷ behind' = sym behind.5 ∙ ap (λ (y : Walk). y.rest) (some_walk n m (sym behind.3 ∙ walk)) ∙ rest_is ∙ ap (λ (t : ℕ). front' ++ t ∷ slot ∷ behind') (sym e) in
              x.4 ∙ ap (λ (t : ℕ). (handed me.0 (loosening t me.0.hand), me.1)) (behind_same front front' b q slot ss behind' once rests),
        ),
      ))
