-- A leaf is done, and all leaves.
use Rattle.std.proofs.Common.{◌≡◌, ℕ, ◌+◌, inl, inr, Bool, true, false, ◌||◌, cond, length, Option, Some, None, ℤ, refl, sym, ap, ◌∙◌, subst, arith}
use Rattle.std.specs.Prelude.{nat_lt}
use Rattle.std.proofs.lemmas.Bool.{or_cases, lt-ltb, ltb-true}
use Rattle.edge_bits.specs.declared.words.Node.{Node}
use Rattle.edge_bits.specs.declared.words.Word.{Word}
use Rattle.edge_bits.specs.declared.words.Word.TheVariants.{Inner, Leaf}
use Rattle.function_laws.specs.declared.orders.Order.{Order}
use Rattle.function_laws.specs.declared.orders.Order.TheVariants.{Variables, Elements}
use Rattle.node_store.specs.Contents.{Content, IsSound, IsPermanent}
use Rattle.node_store.specs.Changes.{After, put_at, with_mark}
use Rattle.edge_bits.specs.Reading.{itself}
use Rattle.node_store.specs.Sweeps.{IsReached}
use Rattle.node_store.proofs.Rewriting.{put_at-same}
use Rattle.function_laws.specs.Sizes.{Orders}
use Rattle.dead_sweep.specs.Marks.{rank_of, rank_at, Marked, is_live_leaf}
use Rattle.dead_sweep.proofs.DoneSlots.{put_true, put_back, same_after, one_more}

pub rank_next : (o : Orders) (order : Order) (level : ℕ) → rank_at o order level + 1 ≡ rank_at o order (level + 1)
rank_next o Variables level = refl
rank_next o Elements level = omega arith

pub rank_first : (o : Orders) → rank_at o Variables (length o.variables) ≡ rank_at o Elements 0
rank_first o = omega arith

same_content : (others : (ℕ → ℕ) → (ℕ → ℕ) → Type 0) → ((c : ℕ → ℕ) → others c c) → (v : Content) → IsSound v → After others v v
same_content others none v sound = record {
  orders = refl;
  limit = refl;
  word = refl;
  function = refl;
  generation = refl;
  marked = refl;
  pinned = refl;
  sweeping = refl;
  half = refl;
  counts = none v.count;
  sound = sound;
}

never_bool : true ≡ false → ⊥
never_bool e = cc

false_left : (a b : Bool) → (a || b) ≡ false → a ≡ false
false_left true b h = h
false_left false b h = refl

false_right : (a b : Bool) → (a || b) ≡ false → b ≡ false
false_right true b h = cc
false_right false b h = h

node_of_word : Option Word → Bool
node_of_word None = false
node_of_word (Some (Leaf x)) = false
node_of_word (Some (Inner node)) = true

module _ (others : (ℕ → ℕ) → (ℕ → ℕ) → Type 0) (none : (c : ℕ → ℕ) → others c c)
    (both : (a b c : ℕ → ℕ) → others a b → others b c → others a c)
    (zero_stays : (a b : ℕ → ℕ) → others a b → (s : ℕ) → a s ≡ 0 → b s ≡ 0)
    (start v0 : Content) (is_root : ℕ → Bool) (rank slot : ℕ) (value : ℤ) (word : start.word slot ≡ Some (Leaf value)) (here : rank_of start.orders (Leaf value) ≡ rank)
    (m : Marked others start v0 is_root rank slot) (v1 : Content) (a1 : After others v0 v1) (count : ℕ) (count_is : count ≡ v1.count slot + (cond (v1.pinned slot) 1 0)) (sound : IsSound start) where
  abbrev new_roots : ℕ → Bool
  new_roots = put_at is_root slot (nat_lt 0 count)

  same1 : After others (record start { marked = v1.marked }) v1
  same1 = same_after others both zero_stays start v0 v1 m.same v0.marked a1

  refl1 : After others v1 v1
  refl1 = same_content others none v1 a1.sound

  permanent_low : IsPermanent start slot → nat_lt slot 5 ≡ true
  unfolding node_of_word
  permanent_low (inl lt) = lt-ltb slot 5 lt
  permanent_low (inr (v, lt, w)) = absurd (never_bool (ap node_of_word (sym w ∙ word)))

  never_inner : (node : Node) → Leaf value ≡ Inner node → ⊥
  never_inner node e = cc

  pub leaf_skipped : is_live_leaf count slot ≡ false → Marked others start v1 new_roots rank (slot + 1)
  leaf_skipped dead =
      let no_count : nat_lt 0 count ≡ false = false_left (nat_lt 0 count) (nat_lt slot 5) dead in
      let high : nat_lt slot 5 ≡ false = false_right (nat_lt 0 count) (nat_lt slot 5) dead in
      one_more others both zero_stays start v0 is_root rank slot (Leaf value) word here m v1 v1 a1 refl1 count (v1.marked slot) count_is refl v1 same1 (none v1.count)
      (λ s h. ap (λ (f : ℕ → Bool). f s) a1.marked ∙ h)
      (λ s h. inl (sym (ap (λ (f : ℕ → Bool). f s) a1.marked) ∙ h))
      (λ node e h. absurd (never_inner node e))
      (λ h. absurd (never_bool (sym h ∙ no_count)))
      (λ p. absurd (never_bool (sym (permanent_low p) ∙ high)))
      (λ s other h d x. sym (ap (λ (f : ℕ → Bool). f s) a1.marked) ∙ x)

  pub leaf_marked : (v2 : Content) → After others (with_mark v1 slot true) v2 → is_live_leaf count slot ≡ true → Marked others start v2 new_roots rank (slot + 1)
  unfolding node_of_word
  leaf_marked v2 a2 live =
      let marks : v2.marked ≡ put_at v0.marked slot true = a2.marked ∙ ap (λ f. put_at f slot true) a1.marked in
      let reached : IsReached start new_roots slot = elim (or_cases (nat_lt 0 count) (nat_lt slot 5) live) [
        | inl counted ↦ (slot, inr ((Leaf value, word), put_at-same is_root slot (nat_lt 0 count) ∙ counted), itself)
        | inr low ↦ (slot, inl (inl (ltb-true slot 5 low)), itself)
      ] in
      let own : v2.marked slot ≡ true = ap (λ (f : ℕ → Bool). f slot) marks ∙ put_at-same v0.marked slot true in
      one_more others both zero_stays start v0 is_root rank slot (Leaf value) word here m v1 v1 a1 refl1 count (v1.marked slot) count_is refl v2
      (same_after others both zero_stays start v1 v2 same1 (put_at v1.marked slot true) a2) a2.counts
      (λ s h. ap (λ (f : ℕ → Bool). f s) marks ∙ put_true v0.marked slot s h)
      (λ s h. elim (put_back v0.marked slot s (sym (ap (λ (f : ℕ → Bool). f s) marks) ∙ h)) [ inl e ↦ inr (subst (IsReached start new_roots) (sym e) reached) | inr old ↦ inl old ])
      (λ node e h. absurd (never_inner node e))
      (λ _. own)
      (λ _. own)
      (λ s other h d x. elim (put_back v0.marked slot s (sym (ap (λ (f : ℕ → Bool). f s) marks) ∙ x)) [
        | inl e ↦ absurd (never_bool (ap node_of_word (sym h ∙ ap start.word e ∙ word)))
        | inr old ↦ old
      ])
