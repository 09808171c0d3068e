-- One more slot is done.
use Rattle.std.proofs.Common.{◌≡◌, ◌≢◌, ℕ, ◌+◌, ◌⊎◌, inl, inr, Bool, true, false, cond, Some, refl, sym, ap, ◌∙◌, subst, arith}
use Rattle.std.specs.Prelude.{nat_lt}
use Rattle.std.proofs.lemmas.Bool.{cases_eq, ltb-false}
use Rattle.edge_bits.specs.declared.words.Node.{Node}
use Rattle.edge_bits.specs.declared.words.Word.{Word}
use Rattle.edge_bits.specs.declared.words.Word.TheVariants.{Inner}
use Rattle.node_store.specs.Contents.{Content, IsPermanent}
use Rattle.node_store.specs.Changes.{After, put_at, with_mark}
use Rattle.node_store.specs.Sweeps.{IsReached}
use Rattle.node_store.proofs.Rewriting.{put_at-same, put_at-other}
use Rattle.dead_sweep.specs.Marks.{rank_of, IsDone, Marked}

-- more roots reach more
pub IsReached-more : (w : Content) (p q : ℕ → Bool) → ((s : ℕ) → p s ≡ true → q s ≡ true) → (s : ℕ) → IsReached w p s → IsReached w q s
IsReached-more w p q more s (from, inl permanent, arcs) = (from, inl permanent, arcs)
IsReached-more w p q more s (from, inr (used, root), arcs) = (from, inr (used, more from root), arcs)

pub put_true : (f : ℕ → Bool) (s t : ℕ) → f t ≡ true → put_at f s true t ≡ true
put_true f s t h = elim (cases_eq t s) [
  | inl e ↦ ap (put_at f s true) e ∙ put_at-same f s true
  | inr ne ↦ put_at-other f s t true ne ∙ h
]

pub put_back : (f : ℕ → Bool) (s t : ℕ) → put_at f s true t ≡ true → (t ≡ s) ⊎ (f t ≡ true)
put_back f s t h = elim (cases_eq t s) [ inl e ↦ inl e | inr ne ↦ inr (sym (put_at-other f s t true ne) ∙ h) ]

module _ (others : (ℕ → ℕ) → (ℕ → ℕ) → Type 0)
    (both : (a b c : ℕ → ℕ) → others a b → others b c → others a c)
    (zero_stays : (a b : ℕ → ℕ) → others a b → (s : ℕ) → a s ≡ 0 → b s ≡ 0) where
  -- a call that changed no more than marks
  pub same_after : (start v x : Content) → After others (record start { marked = v.marked }) v → (m : ℕ → Bool) → After others (record v { marked = m }) x → After others (record start { marked = x.marked }) x
  same_after start v x a m b = record {
    orders = b.orders ∙ a.orders;
    limit = b.limit ∙ a.limit;
    word = b.word ∙ a.word;
    function = b.function ∙ a.function;
    generation = b.generation ∙ a.generation;
    marked = refl;
    pinned = b.pinned ∙ a.pinned;
    sweeping = b.sweeping ∙ a.sweeping;
    half = b.half ∙ a.half;
    counts = both start.count v.count x.count a.counts b.counts;
    sound = b.sound;
  }

  module _ (start v0 : Content) (is_root : ℕ → Bool) (rank slot : ℕ) (own : Word) (word : start.word slot ≡ Some own) (here : rank_of start.orders own ≡ rank)
      (m : Marked others start v0 is_root rank slot)
      (v1 v2 : Content) (a1 : After others v0 v1) (a2 : After others v1 v2) (count : ℕ) (marked : Bool)
      (count_is : count ≡ v1.count slot + (cond (v1.pinned slot) 1 0)) (marked_is : marked ≡ v1.marked slot) where
    -- the slot is a root if its count was above 0
    abbrev pub roots : ℕ → Bool
    roots = put_at is_root slot (nat_lt 0 count)

    pub not_done : IsDone start.orders rank slot slot own → ⊥
    not_done (inl lt) = omega (arith, lt, here)
    not_done (inr (e, lt)) = omega (arith, lt)

    was_no_root : is_root slot ≡ false
    was_no_root = m.fresh slot own word not_done

    pub more : (s : ℕ) → is_root s ≡ true → roots s ≡ true
    more s h = elim (cases_eq s slot) [
      | inl e ↦ (let c : false ≡ true = sym was_no_root ∙ ap is_root (sym e) ∙ h in cc)
      | inr ne ↦ put_at-other is_root slot s (nat_lt 0 count) ne ∙ h
    ]

    pub marks_kept : v2.marked ≡ v0.marked
    marks_kept = a2.marked ∙ a1.marked

    -- done before, or this slot
    done_before : (s : ℕ) (x : Word) → start.word s ≡ Some x → IsDone start.orders rank (slot + 1) s x → (s ≡ slot) ⊎ IsDone start.orders rank slot s x
    done_before s x h (inl lt) = inr (inl lt)
    done_before s x h (inr (e, lt)) = elim (cases_eq s slot) [ inl same ↦ inl same | inr ne ↦ inr (inr (e, omega (arith, lt, ne))) ]

    done_after : (s : ℕ) (x : Word) → IsDone start.orders rank slot s x → IsDone start.orders rank (slot + 1) s x
    done_after s x (inl lt) = inl lt
    done_after s x (inr (e, lt)) = inr (e, omega (arith, lt))

    done_now : IsDone start.orders rank (slot + 1) slot own
    done_now = inr (here, omega arith)

    zero_count : (c p : ℕ) → count ≡ c + p → nat_lt 0 count ≡ false → (c ≡ 0) × (p ≡ 0)
    zero_count c p e h = let le = ltb-false 0 count h in (omega (arith, e, le), omega (arith, e, le))

    unpinned : (b : Bool) → ◌≡◌ {A = ℕ} (cond b 1 0) 0 → b ≡ false
    unpinned true h = let c : ◌≡◌ {A = ℕ} 1 0 = h in absurd (omega (arith, c))
    unpinned false h = refl

    start_zero : start.count slot ≡ 0 → start.pinned slot ≡ false → nat_lt 0 count ≡ false
    start_zero c p =
        let c0 : v1.count slot ≡ 0 = zero_stays v0.count v1.count a1.counts slot (zero_stays start.count v0.count m.same.counts slot c) in
        let p0 : v1.pinned slot ≡ false = ap (λ (f : ℕ → Bool). f slot) (a1.pinned ∙ m.same.pinned) ∙ p in
        let n : count ≡ 0 = count_is ∙ ap (λ x. x + cond (v1.pinned slot) 1 0) c0 ∙ ap (λ b. 0 + cond b 1 0) p0 in
        ap (nat_lt 0) n

    -- what a mark set for this slot or a child comes from: the slot is reached then
    module _ (x : Content) (same : After others (record start { marked = x.marked }) x) (counts : others v1.count x.count)
        (kept : (s : ℕ) → v0.marked s ≡ true → x.marked s ≡ true) (fresh_marks : (s : ℕ) → x.marked s ≡ true → (v0.marked s ≡ true) ⊎ IsReached start roots s)
        (at_slot : (node : Node) → own ≡ Inner node → x.marked slot ≡ true → (x.marked node.hi ≡ true) × (x.marked node.lo.index ≡ true))
        (root_marked : nat_lt 0 count ≡ true → x.marked slot ≡ true) (permanent_marked : IsPermanent start slot → x.marked slot ≡ true)
        (no_older : (s : ℕ) (other : Node) → start.word s ≡ Some (Inner other) → IsDone start.orders rank slot s (Inner other) → x.marked s ≡ true → v0.marked s ≡ true) where
      pub one_more : Marked others start x roots rank (slot + 1)
      one_more = record {
        same = same;
        zero_before = λ s c p. elim (cases_eq s slot) [
          | inl e ↦ ap roots e ∙ put_at-same is_root slot (nat_lt 0 count) ∙ start_zero (ap start.count (sym e) ∙ c) (ap start.pinned (sym e) ∙ p)
          | inr ne ↦ put_at-other is_root slot s (nat_lt 0 count) ne ∙ m.zero_before s c p
        ];
        fresh = λ s y h undone. elim (cases_eq s slot) [
          | inl e ↦ absurd (undone (subst (λ t. IsDone start.orders rank (slot + 1) t y) (sym e)
              (subst (IsDone start.orders rank (slot + 1) slot) (let c : Some own ≡ Some y = sym word ∙ ap start.word (sym e) ∙ h in some_word own y c) done_now)))
          | inr ne ↦ put_at-other is_root slot s (nat_lt 0 count) ne ∙ m.fresh s y h (λ d. undone (done_after s y d))
        ];
        reached = λ s h. elim (fresh_marks s h) [
          | inl old ↦ IsReached-more start is_root roots more s (m.reached s old)
          | inr r ↦ r
        ];
        roots = λ s y h d r. elim (cases_eq s slot) [
          | inl e ↦ subst (λ t. x.marked t ≡ true) (sym e) (root_marked (sym (put_at-same is_root slot (nat_lt 0 count)) ∙ ap roots (sym e) ∙ r))
          | inr ne ↦ kept s (m.roots s y h (before s y h d ne) (sym (put_at-other is_root slot s (nat_lt 0 count) ne) ∙ r))
        ];
        permanent = λ s y h d p. elim (cases_eq s slot) [
          | inl e ↦ subst (λ t. x.marked t ≡ true) (sym e) (permanent_marked (subst (IsPermanent start) e p))
          | inr ne ↦ kept s (m.permanent s y h (before s y h d ne) p)
        ];
        zero_after = λ s y h d r. elim (cases_eq s slot) [
          | inl e ↦ (
              let z = zero_count (v1.count slot) (cond (v1.pinned slot) 1 0) count_is (sym (put_at-same is_root slot (nat_lt 0 count)) ∙ ap roots (sym e) ∙ r) in (
                ap x.count e ∙ zero_stays v1.count x.count counts slot z.0,
                ap x.pinned e ∙ ap (λ (f : ℕ → Bool). f slot) (same.pinned ∙ sym m.same.pinned ∙ sym a1.pinned) ∙ unpinned (v1.pinned slot) z.1,
              ))
          | inr ne ↦ (
              let z = m.zero_after s y h (before s y h d ne) (sym (put_at-other is_root slot s (nat_lt 0 count) ne) ∙ r) in (
                zero_stays v1.count x.count counts s (zero_stays v0.count v1.count a1.counts s z.0),
                ap (λ (f : ℕ → Bool). f s) (same.pinned ∙ sym m.same.pinned) ∙ z.1,
              ))
        ];
        closed = λ s other h d marked_s. elim (cases_eq s slot) [
          | inl e ↦ (
              let c : Some own ≡ Some (Inner other) = sym word ∙ ap start.word (sym e) ∙ h in
              at_slot other (some_word own (Inner other) c) (subst (λ t. x.marked t ≡ true) e marked_s))
          | inr ne ↦ (
              let d0 = before s (Inner other) h d ne in
              let c = m.closed s other h d0 (no_older s other h d0 marked_s) in (kept other.hi c.0, kept other.lo.index c.1))
        ];
      }
        where
          some_word : (p q : Word) → Some p ≡ Some q → p ≡ q
          some_word p q e = cc

          before : (s : ℕ) (y : Word) → start.word s ≡ Some y → IsDone start.orders rank (slot + 1) s y → s ≢ slot → IsDone start.orders rank slot s y
          before s y h d ne = elim (done_before s y h d) [ inl e ↦ absurd (ne e) | inr d0 ↦ d0 ]

-- three marks after two calls that change nothing
pub three_marks : (others : (ℕ → ℕ) → (ℕ → ℕ) → Type 0) → ((a b c : ℕ → ℕ) → others a b → others b c → others a c)
    → (v0 v1 v2 v3 v4 v5 : Content) (s t u : ℕ) → After others v0 v1 → After others v1 v2 → After others (with_mark v2 s true) v3 → After others (with_mark v3 t true) v4 → After others (with_mark v4 u true) v5
    → After others (record v0 { marked = v5.marked }) v5
three_marks others both v0 v1 v2 v3 v4 v5 s t u a b c d e = record {
  orders = e.orders ∙ d.orders ∙ c.orders ∙ b.orders ∙ a.orders;
  limit = e.limit ∙ d.limit ∙ c.limit ∙ b.limit ∙ a.limit;
  word = e.word ∙ d.word ∙ c.word ∙ b.word ∙ a.word;
  function = e.function ∙ d.function ∙ c.function ∙ b.function ∙ a.function;
  generation = e.generation ∙ d.generation ∙ c.generation ∙ b.generation ∙ a.generation;
  marked = refl;
  pinned = e.pinned ∙ d.pinned ∙ c.pinned ∙ b.pinned ∙ a.pinned;
  sweeping = e.sweeping ∙ d.sweeping ∙ c.sweeping ∙ b.sweeping ∙ a.sweeping;
  half = e.half ∙ d.half ∙ c.half ∙ b.half ∙ a.half;
  counts = both v0.count v4.count v5.count (both v0.count v3.count v4.count (both v0.count v2.count v3.count (both v0.count v1.count v2.count a.counts b.counts) c.counts) d.counts) e.counts;
  sound = e.sound;
}
