-- One more slot is freed, or left.
use Rattle.std.proofs.Common.{◌≡◌, ◌≢◌, ℕ, ◌+◌, ◌<◌, ◌≤◌, ◌⊎◌, inl, inr, Bool, true, false, length, Option, Some, None, refl, sym, ap, ◌∙◌, subst, arith}
use Rattle.std.proofs.lemmas.Bool.{cases_lt, cases_eq}
use Rattle.edge_bits.specs.declared.words.Node.{Node}
use Rattle.edge_bits.specs.declared.words.Word.{Word}
use Rattle.edge_bits.specs.declared.words.Word.TheVariants.{Inner}
use Rattle.node_store.specs.Contents.{Content}
use Rattle.node_store.specs.Changes.{After, CanFree, without, next_generation}
use Rattle.node_store.proofs.Rewriting.{put_at-same, put_at-other}
use Rattle.dead_sweep.specs.Marks.{rank_of, IsDone}
use Rattle.dead_sweep.specs.Frees.{Ready, Freed}
use Rattle.dead_sweep.proofs.Ranks.{then_rank, else_rank}

module _ (others : (ℕ → ℕ) → (ℕ → ℕ) → Type 0)
    (both : (a b c : ℕ → ℕ) → others a b → others b c → others a c)
    (zero_stays : (a b : ℕ → ℕ) → others a b → (s : ℕ) → a s ≡ 0 → b s ≡ 0)
    (start v0 v1 : Content) (ready : Ready start) (rank from : ℕ) (a : After others v0 v1) (f : Freed others start v0 rank from) where
  -- where no more is done than before
  pub freed_again : (rank' from' : ℕ) → ((s : ℕ) (word : Word) → start.word s ≡ Some word → start.marked s ≡ false → IsDone start.orders rank' from' s word → IsDone start.orders rank from s word)
      → ((s : ℕ) (word : Word) → start.word s ≡ Some word → start.marked s ≡ false → IsDone start.orders rank from s word → IsDone start.orders rank' from' s word) → Freed others start v1 rank' from'
  freed_again rank' from' back on = record {
    orders = a.orders ∙ f.orders;
    limit = a.limit ∙ f.limit;
    marked = a.marked ∙ f.marked;
    pinned = a.pinned ∙ f.pinned;
    sweeping = a.sweeping ∙ f.sweeping;
    half = a.half ∙ f.half;
    counts = both start.count v0.count v1.count f.counts a.counts;
    sound = a.sound;
    kept = λ s word h way. by_mark s word h (start.marked s) refl way;
    gone = λ s word h unmarked d. (let g = f.gone s word h unmarked (back s word h unmarked d) in (ap (λ (x : ℕ → Option Word). x s) a.word ∙ g.0, ap (λ (x : ℕ → ℕ). x s) a.generation ∙ g.1));
    free = λ s h. (let g = f.free s h in (ap (λ (x : ℕ → Option Word). x s) a.word ∙ g.0, ap (λ (x : ℕ → ℕ). x s) a.generation ∙ g.1));
  }
    where
      after : (s : ℕ) → (v0.word s ≡ start.word s) × (v0.function s ≡ start.function s) × (v0.generation s ≡ start.generation s) → (v1.word s ≡ start.word s) × (v1.function s ≡ start.function s) × (v1.generation s ≡ start.generation s)
      after s k = (ap (λ (x : ℕ → Option Word). x s) a.word ∙ k.0, ap (λ x. x s) a.function ∙ k.1, ap (λ (x : ℕ → ℕ). x s) a.generation ∙ k.2)

      by_mark : (s : ℕ) (word : Word) → start.word s ≡ Some word → (b : Bool) → start.marked s ≡ b → (start.marked s ≡ true) ⊎ (IsDone start.orders rank' from' s word → ⊥)
          → (v1.word s ≡ start.word s) × (v1.function s ≡ start.function s) × (v1.generation s ≡ start.generation s)
      by_mark s word h true e way = after s (f.kept s word h (inl e))
      by_mark s word h false e (inl m) = after s (f.kept s word h (inl m))
      by_mark s word h false e (inr undone) = after s (f.kept s word h (inr (λ d. undone (on s word h e d))))

  module _ (slot : ℕ) (own : Word) (word : start.word slot ≡ Some own) (here : rank_of start.orders own ≡ rank) (at : from ≡ slot) where
    not_done : IsDone start.orders rank from slot own → ⊥
    not_done (inl lt) = omega (arith, lt, here)
    not_done (inr (e, lt)) = omega (arith, lt, at)

    done_back : (s : ℕ) (x : Word) → start.word s ≡ Some x → IsDone start.orders rank (slot + 1) s x → s ≢ slot → IsDone start.orders rank from s x
    done_back s x h (inl lt) ne = inl lt
    done_back s x h (inr (e, lt)) ne = inr (e, omega (arith, lt, ne, at))

    done_on : (s : ℕ) (x : Word) → IsDone start.orders rank from s x → IsDone start.orders rank (slot + 1) s x
    done_on s x (inl lt) = inl lt
    done_on s x (inr (e, lt)) = inr (e, omega (arith, lt, at))

    was : (v0.word slot ≡ start.word slot) × (v0.function slot ≡ start.function slot) × (v0.generation slot ≡ start.generation slot)
    was = f.kept slot own word (inr not_done)

    -- a marked slot is left
    pub left : v1.marked slot ≡ true → Freed others start v1 rank (slot + 1)
    left is_marked =
        let m : start.marked slot ≡ true = sym (ap (λ (x : ℕ → Bool). x slot) (a.marked ∙ f.marked)) ∙ is_marked in
        freed_again rank (slot + 1)
        (λ s x h unmarked d. done_back s x h d (λ e. never (sym m ∙ ap start.marked (sym e) ∙ unmarked)))
        (λ s x h unmarked d. done_on s x d)
      where
        never : true ≡ false → ⊥
        never e = cc

    -- what names it is done, and so it is marked, or gone
    unnamed : start.marked slot ≡ false → (t : ℕ) (node : Node) → v1.word t ≡ Some (Inner node) → (node.hi ≢ slot) × (node.lo.index ≢ slot)
    unnamed unmarked t node named = by_start (start.word t) refl
      where
        never : true ≡ false → ⊥
        never e = cc

        v0_word : v0.word t ≡ Some (Inner node)
        v0_word = sym (ap (λ (x : ℕ → Option Word). x t) a.word) ∙ named

        by_start : (o : Option Word) → start.word t ≡ o → (node.hi ≢ slot) × (node.lo.index ≢ slot)
        by_start None h = let c : None ≡ Some (Inner node) = sym (f.free t h).0 ∙ v0_word in cc
        by_start (Some y) h = by_mark (start.marked t) refl
          where
            same : start.marked t ≡ true → start.word t ≡ Some (Inner node)
            same m = sym (f.kept t y h (inl m)).0 ∙ v0_word

            by_mark : (b : Bool) → start.marked t ≡ b → (node.hi ≢ slot) × (node.lo.index ≢ slot)
            by_mark true m =
                let c = ready.closed t node (same m) m in
                ((λ e. never (sym c.0 ∙ ap start.marked e ∙ unmarked)), (λ e. never (sym c.1 ∙ ap start.marked e ∙ unmarked)))
            by_mark false m = ((λ e. not_gone (inl e)), (λ e. not_gone (inr e)))
              where
                -- an unmarked node of smaller rank is gone
                not_gone : (node.hi ≡ slot) ⊎ (node.lo.index ≡ slot) → ⊥
                not_gone way = by_rank (cases_lt (rank_of start.orders y) rank)
                  where
                    by_rank : (rank_of start.orders y < rank) ⊎ (rank ≤ rank_of start.orders y) → ⊥
                    by_rank (inl lt) = let c : None ≡ Some (Inner node) = sym (f.gone t y h m (inl lt)).0 ∙ v0_word in none_some c
                      where
                        none_some : None ≡ Some (Inner node) → ⊥
                        none_some c = cc
                    by_rank (inr le) = elim (cases_eq (rank_of start.orders y) rank) [
                      | inl e ↦ elim (cases_lt t from) [
                        | inl lt ↦ (let c : None ≡ Some (Inner node) = sym (f.gone t y h m (inr (e, lt))).0 ∙ v0_word in none_some c)
                        | inr ge ↦ undone (λ d. elim d [ inl less ↦ omega (arith, less, le) | inr (_, lt) ↦ omega (arith, lt, ge) ])
                      ]
                      | inr ne ↦ undone (λ d. elim d [ inl less ↦ omega (arith, less, le) | inr (e, _) ↦ ne e ])
                    ]
                      where
                        none_some : None ≡ Some (Inner node) → ⊥
                        none_some c = cc

                        undone : (IsDone start.orders rank from t y → ⊥) → ⊥
                        undone u =
                            let is : start.word t ≡ Some (Inner node) = sym (f.kept t y h (inr u)).0 ∙ v0_word in
                            let ranks : rank_of start.orders (Inner node) < rank_of start.orders own = elim way [
                              | inl e ↦ then_rank start ready.sound ready.settled t node is own (ap start.word e ∙ word)
                              | inr e ↦ else_rank start ready.sound ready.settled t node is own (ap start.word e ∙ word)
                            ] in
                            let same : rank_of start.orders y ≡ rank_of start.orders (Inner node) = ap (rank_of start.orders) (one y (Inner node) (sym h ∙ is)) in
                            omega (arith, ranks, same, le, here)
                          where
                            one : (p q : Word) → Some p ≡ Some q → p ≡ q
                            one p q e = cc

    pub can_free : v1.marked slot ≡ false → CanFree v1 slot
    can_free unmarked_now =
        let unmarked : start.marked slot ≡ false = sym (ap (λ (x : ℕ → Bool). x slot) (a.marked ∙ f.marked)) ∙ unmarked_now in
        let d = ready.dead slot own word unmarked in
        let same_word : v1.word slot ≡ Some own = ap (λ (x : ℕ → Option Word). x slot) a.word ∙ was.0 ∙ word in
        record {
          used = (own, same_word);
          spare = λ p. d.2 (elim p [
            | inl lt ↦ inl lt
            | inr (v, lt, w) ↦ inr (v, subst (λ o. v < length o.variables) (a.orders ∙ f.orders) lt, sym was.0 ∙ sym (ap (λ (x : ℕ → Option Word). x slot) a.word) ∙ w)
          ]);
          sweeping = a.sweeping ∙ f.sweeping ∙ ready.sweeping;
          uncounted = zero_stays v0.count v1.count a.counts slot (zero_stays start.count v0.count f.counts slot d.0);
          unpinned = ap (λ (x : ℕ → Bool). x slot) (a.pinned ∙ f.pinned) ∙ d.1;
          unnamed = unnamed unmarked;
        }

    pub freed : v1.marked slot ≡ false → (v2 : Content) → After others (without v1 slot) v2 → Freed others start v2 rank (slot + 1)
    freed unmarked_now v2 b =
        let unmarked : start.marked slot ≡ false = sym (ap (λ (x : ℕ → Bool). x slot) (a.marked ∙ f.marked)) ∙ unmarked_now in
        let other_word : (s : ℕ) → s ≢ slot → v2.word s ≡ v1.word s = λ s ne. ap (λ (x : ℕ → Option Word). x s) b.word ∙ put_at-other v1.word slot s None ne in
        let other_function : (s : ℕ) → s ≢ slot → v2.function s ≡ v1.function s = λ s ne. ap (λ x. x s) b.function ∙ put_at-other v1.function slot s None ne in
        let other_generation : (s : ℕ) → s ≢ slot → v2.generation s ≡ v1.generation s =
        λ s ne. ap (λ (x : ℕ → ℕ). x s) b.generation ∙ put_at-other v1.generation slot s (next_generation (v1.generation slot)) ne in
        record {
          orders = b.orders ∙ a.orders ∙ f.orders;
          limit = b.limit ∙ a.limit ∙ f.limit;
          marked = b.marked ∙ a.marked ∙ f.marked;
          pinned = b.pinned ∙ a.pinned ∙ f.pinned;
          sweeping = b.sweeping ∙ a.sweeping ∙ f.sweeping;
          half = b.half ∙ a.half ∙ f.half;
          counts = both start.count v1.count v2.count (both start.count v0.count v1.count f.counts a.counts) b.counts;
          sound = b.sound;
          kept = λ s x h way. elim (cases_eq s slot) [
            | inl e ↦ absurd (elim way [
              | inl m ↦ never (sym m ∙ ap start.marked e ∙ unmarked)
              | inr u ↦ u (subst (λ t. IsDone start.orders rank (slot + 1) t x) (sym e) (inr (ap (rank_of start.orders) (one x own (sym h ∙ ap start.word e ∙ word)) ∙ here, omega arith)))
            ])
            | inr ne ↦ (
                let k = f.kept s x h (elim way [ inl m ↦ inl m | inr u ↦ inr (λ d. u (done_on s x d)) ]) in
                (other_word s ne ∙ ap (λ (y : ℕ → Option Word). y s) a.word ∙ k.0, other_function s ne ∙ ap (λ y. y s) a.function ∙ k.1, other_generation s ne ∙ ap (λ (y : ℕ → ℕ). y s) a.generation ∙ k.2))
          ];
          gone = λ s x h m d. elim (cases_eq s slot) [
            | inl e ↦ (
              ap v2.word e ∙ ap (λ (y : ℕ → Option Word). y slot) b.word ∙ put_at-same v1.word slot None,
              ap v2.generation e ∙ ap (λ (y : ℕ → ℕ). y slot) b.generation ∙ put_at-same v1.generation slot (next_generation (v1.generation slot))
                  ∙ ap next_generation (ap (λ (y : ℕ → ℕ). y slot) a.generation ∙ was.2 ∙ ap start.generation (sym e)),
            )
            | inr ne ↦ (
                let g = f.gone s x h m (done_back s x h d ne) in
                (other_word s ne ∙ ap (λ (y : ℕ → Option Word). y s) a.word ∙ g.0, other_generation s ne ∙ ap (λ (y : ℕ → ℕ). y s) a.generation ∙ g.1))
          ];
          free = λ s h. elim (cases_eq s slot) [
            | inl e ↦ (let c : None ≡ Some own = sym h ∙ ap start.word e ∙ word in absurd (none_own c))
            | inr ne ↦ (
                let g = f.free s h in
                (other_word s ne ∙ ap (λ (y : ℕ → Option Word). y s) a.word ∙ g.0, other_generation s ne ∙ ap (λ (y : ℕ → ℕ). y s) a.generation ∙ g.1))
          ];
        }
      where
        never : true ≡ false → ⊥
        never e = cc

        one : (p q : Word) → Some p ≡ Some q → p ≡ q
        one p q e = cc

        none_own : None ≡ Some own → ⊥
        none_own c = cc
