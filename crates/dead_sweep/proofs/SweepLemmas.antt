-- From the marking and the freeing to what a sweep promises.
use Rattle.std.proofs.Common.{◌≡◌, ℕ, ◌+◌, ◌<◌, ◌≤◌, inl, inr, Bool, true, false, cond, List, [], ◌∷◌, ◌++◌, length, Option, Some, None, refl, sym, ap, ◌∙◌, subst, arith}
use Rattle.std.specs.List.{filter, range_with_len}
use Rattle.edge_bits.specs.declared.words.Word.{Word}
use Rattle.edge_bits.specs.declared.words.Word.TheVariants.{Inner, Leaf}
use Rattle.function_laws.specs.Kinds.{Denoted}
use Rattle.node_store.specs.Contents.{Content, IsSound, IsUsed, IsPermanent, used_slots, is_used}
use Rattle.node_store.specs.Changes.{After, next_generation}
use Rattle.edge_bits.specs.Reading.{IsReached as LeadsTo, itself, then_child, else_child}
use Rattle.node_store.specs.Sweeps.{IsStart, IsReached, functions_of, value_list, root_functions, full_size}
use Rattle.dead_sweep.specs.declared.sweeping.Swept.{Swept}
use Rattle.dead_sweep.specs.Swept.{IsSwept}
use Rattle.node_store.proofs.SweptSize.{swept_size}
use Rattle.dead_sweep.specs.Marks.{IsDone, Marked}
use Rattle.dead_sweep.specs.Frees.{Ready, Freed}
use Rattle.dead_sweep.proofs.LeafSteps.{all_done}
use Rattle.dead_sweep.proofs.Ranks.{children_used}

-- what is reached hangs on words and orders alone, and on the words of what is reached
reached_same : (v w : Content) (is_root : ℕ → Bool) → w.orders ≡ v.orders → ((s : ℕ) → IsReached v is_root s → w.word s ≡ v.word s) → (s : ℕ) → IsReached v is_root s → IsReached w is_root s
reached_same v w is_root eo kept s (from, start, arcs) = (from, start_same start, arcs_same s arcs)
  where
    start_same : IsStart v is_root from → IsStart w is_root from
    start_same (inl (inl lt)) = inl (inl lt)
    start_same (inl (inr (x, lt, h))) = inl (inr (x, subst (λ o. x < length o.variables) (sym eo) lt, kept from (from, start, itself) ∙ h))
    start_same (inr (u, h)) = inr ((u.0, kept from (from, start, itself) ∙ u.1), h)

    arcs_same : (s : ℕ) → LeadsTo v.word from s → LeadsTo w.word from s
    arcs_same _ itself = itself
    arcs_same _ (then_child s node r h) = then_child s node (arcs_same s r) (kept s (from, start, r) ∙ h)
    arcs_same _ (else_child s node r h) = else_child s node (arcs_same s r) (kept s (from, start, r) ∙ h)

functions_same : (f g : ℕ → Option Denoted) (ss : List ℕ) → ((s : ℕ) → f s ≡ g s) → functions_of f ss ≡ functions_of g ss
unfolding functions_of
functions_same f g [] h = refl
functions_same f g (s ∷ ss) h = ap (λ o. value_list o ++ functions_of f ss) (h s) ∙ ap (λ xs. value_list (g s) ++ xs) (functions_same f g ss h)

pub functions_same_on : (test : ℕ → Bool) (f g : ℕ → Option Denoted) (ss : List ℕ) → ((s : ℕ) → test s ≡ true → f s ≡ g s) → functions_of f (filter test ss) ≡ functions_of g (filter test ss)
unfolding functions_of
functions_same_on test f g [] h = refl
functions_same_on test f g (s ∷ ss) h = at (test s) refl (functions_same_on test f g ss h)
  where
    at : (b : Bool) → test s ≡ b → functions_of f (filter test ss) ≡ functions_of g (filter test ss) → functions_of f (cond b (s ∷ filter test ss) (filter test ss)) ≡ functions_of g (cond b (s ∷ filter test ss) (filter test ss))
    at true e rest = ap (λ o. value_list o ++ functions_of f (filter test ss)) (h s e) ∙ ap (λ xs. value_list (g s) ++ xs) rest
    at false e rest = rest

filter_le : (p q : ℕ → Bool) (xs : List ℕ) → ((u : ℕ) → p u ≡ true → q u ≡ true) → length (filter p xs) ≤ length (filter q xs)
filter_le p q [] more = omega arith
filter_le p q (x ∷ xs) more = at (p x) (q x) refl (more x) (filter_le p q xs more)
  where
    at : (a b : Bool) → p x ≡ a → (p x ≡ true → b ≡ true) → length (filter p xs) ≤ length (filter q xs) → length (cond a (x ∷ filter p xs) (filter p xs)) ≤ length (cond b (x ∷ filter q xs) (filter q xs))
    at true true e h le = omega arith
    at true false e h le = let c = h e in cc
    at false true e h le = omega arith
    at false false e h le = le

pub used_is_true : (o : Option Word) → is_used o ≡ true → (word : Word) × (o ≡ Some word)
used_is_true None h = cc
used_is_true (Some word) h = (word, refl)

never_bool : true ≡ false → ⊥
never_bool e = cc

-- the marking at its start
pub no_marks : (others : (ℕ → ℕ) → (ℕ → ℕ) → Type 0) (start v : Content) → After others (record start { marked = v.marked }) v → ((s : ℕ) → v.marked s ≡ false) → Marked others start v (λ s. false) 0 0
no_marks others start v same unmarked = record {
  same = same;
  zero_before = λ s c p. refl;
  fresh = λ s word h u. refl;
  reached = λ s h. absurd (never_bool (sym h ∙ unmarked s));
  roots = λ s word h d r. absurd (never_bool (sym r));
  permanent = λ s word h d p. absurd (nothing s word d);
  zero_after = λ s word h d r. absurd (nothing s word d);
  closed = λ s node h d m. absurd (nothing s (Inner node) d);
}
  where
    nothing : (s : ℕ) (word : Word) → IsDone start.orders 0 0 s word → ⊥
    nothing s word (inl lt) = omega (arith, lt)
    nothing s word (inr (e, lt)) = omega (arith, lt)

module _ (others : (ℕ → ℕ) → (ℕ → ℕ) → Type 0) (none : (c : ℕ → ℕ) → others c c)
    (both : (a b c : ℕ → ℕ) → others a b → others b c → others a c)
    (zero_stays : (a b : ℕ → ℕ) → others a b → (s : ℕ) → a s ≡ 0 → b s ≡ 0)
    (v1 v3 : Content) (is_root : ℕ → Bool) (sound : IsSound v1) (settled : v1.half ≡ None) (sweeping : v1.sweeping ≡ true)
    (m : Marked others v1 v3 is_root (length v1.orders.variables + length v1.orders.elements + 1) 0) where
  done : (s : ℕ) (word : Word) → v1.word s ≡ Some word → IsDone v1.orders (length v1.orders.variables + length v1.orders.elements + 1) 0 s word
  done s word h = all_done v1 sound settled s word h

  word3 : (s : ℕ) → v3.word s ≡ v1.word s
  word3 s = ap (λ (f : ℕ → Option Word). f s) m.same.word

  pub ready : Ready v3
  ready = record {
    sound = m.same.sound;
    settled = m.same.half ∙ settled;
    sweeping = m.same.sweeping ∙ sweeping;
    closed = λ s node h k. (let h1 = sym (word3 s) ∙ h in m.closed s node h1 (done s (Inner node) h1) k);
    dead = λ s word h unmarked.
        let h1 = sym (word3 s) ∙ h in
        let no_root : is_root s ≡ false = not_root s word h1 unmarked (is_root s) refl in
        let z = m.zero_after s word h1 (done s word h1) no_root in
        (z.0, z.1, λ p. never_bool (sym (m.permanent s word h1 (done s word h1) (permanent_back s p)) ∙ unmarked));
  }
    where
      not_root : (s : ℕ) (word : Word) → v1.word s ≡ Some word → v3.marked s ≡ false → (b : Bool) → is_root s ≡ b → is_root s ≡ false
      not_root s word h unmarked true e = absurd (never_bool (sym (m.roots s word h (done s word h) e) ∙ unmarked))
      not_root s word h unmarked false e = e

      permanent_back : (s : ℕ) → IsPermanent v3 s → IsPermanent v1 s
      permanent_back s (inl lt) = inl lt
      permanent_back s (inr (x, lt, h)) = inr (x, subst (λ o. x < length o.variables) m.same.orders lt, sym (word3 s) ∙ h)

  -- the freeing at its start
  pub nothing_freed : Freed others v3 v3 0 0
  nothing_freed = record {
    orders = refl;
    limit = refl;
    marked = refl;
    pinned = refl;
    sweeping = refl;
    half = refl;
    counts = none v3.count;
    sound = m.same.sound;
    kept = λ s word h w. (refl, refl, refl);
    gone = λ s word h u d. absurd (nothing s word d);
    free = λ s h. (h, refl);
  }
    where
      nothing : (s : ℕ) (word : Word) → IsDone v3.orders 0 0 s word → ⊥
      nothing s word (inl lt) = omega (arith, lt)
      nothing s word (inr (e, lt)) = omega (arith, lt)

  -- what is reached is marked
  marked_reached : (s : ℕ) → IsReached v1 is_root s → v3.marked s ≡ true
  marked_reached s (from, start, arcs) = by_arcs s arcs
    where
      permanent_used : (s : ℕ) → IsPermanent v1 s → IsUsed v1 s
      permanent_used s (inl lt) = (Leaf _, sound.constants s lt)
      permanent_used s (inr (x, lt, h)) = (Inner _, h)

      marked_start : (s : ℕ) → IsStart v1 is_root s → v3.marked s ≡ true
      marked_start s (inl p) = let u = permanent_used s p in m.permanent s u.0 u.1 (done s u.0 u.1) p
      marked_start s (inr (u, h)) = m.roots s u.0 u.1 (done s u.0 u.1) h

      by_arcs : (s : ℕ) → LeadsTo v1.word from s → v3.marked s ≡ true
      by_arcs _ itself = marked_start from start
      by_arcs _ (then_child s node r h) = (m.closed s node h (done s (Inner node) h) (by_arcs s r)).0
      by_arcs _ (else_child s node r h) = (m.closed s node h (done s (Inner node) h) (by_arcs s r)).1

module _ (others : (ℕ → ℕ) → (ℕ → ℕ) → Type 0) (none : (c : ℕ → ℕ) → others c c)
    (both : (a b c : ℕ → ℕ) → others a b → others b c → others a c)
    (zero_stays : (a b : ℕ → ℕ) → others a b → (s : ℕ) → a s ≡ 0 → b s ≡ 0)
    (v0 v1 v3 v4 v5 v6 : Content) (is_root : ℕ → Bool) (whole : v0.half ≡ None)
    (a1 : After others (record v0 { sweeping = true; marked = λ s. false }) v1)
    (m : Marked others v1 v3 is_root (length v1.orders.variables + length v1.orders.elements + 1) 0)
    (f : Freed others v3 v4 (length v3.orders.variables + length v3.orders.elements + 1) 0)
    (b5 : After others v4 v5) (a6 : After others (record v5 { sweeping = false }) v6) where
  settled1 : v1.half ≡ None
  settled1 = a1.half ∙ whole

  settled3 : v3.half ≡ None
  settled3 = m.same.half ∙ settled1

  done3 : (s : ℕ) (word : Word) → v3.word s ≡ Some word → IsDone v3.orders (length v3.orders.variables + length v3.orders.elements + 1) 0 s word
  done3 s word h = all_done v3 m.same.sound settled3 s word h

  word30 : (s : ℕ) → v3.word s ≡ v0.word s
  word30 s = ap (λ (x : ℕ → Option Word). x s) (m.same.word ∙ a1.word)

  function30 : (s : ℕ) → v3.function s ≡ v0.function s
  function30 s = ap (λ x. x s) (m.same.function ∙ a1.function)

  generation30 : (s : ℕ) → v3.generation s ≡ v0.generation s
  generation30 s = ap (λ (x : ℕ → ℕ). x s) (m.same.generation ∙ a1.generation)

  word64 : (s : ℕ) → v6.word s ≡ v4.word s
  word64 s = ap (λ (x : ℕ → Option Word). x s) (a6.word ∙ b5.word)

  function64 : (s : ℕ) → v6.function s ≡ v4.function s
  function64 s = ap (λ x. x s) (a6.function ∙ b5.function)

  generation64 : (s : ℕ) → v6.generation s ≡ v4.generation s
  generation64 s = ap (λ (x : ℕ → ℕ). x s) (a6.generation ∙ b5.generation)

  orders60 : v6.orders ≡ v0.orders
  orders60 = a6.orders ∙ b5.orders ∙ f.orders ∙ m.same.orders ∙ a1.orders

  reached_used : (s : ℕ) → IsReached v1 is_root s → IsUsed v1 s
  reached_used _ (from, inl (inl lt), itself) = (Leaf _, a1.sound.constants from lt)
  reached_used _ (from, inl (inr (x, lt, h)), itself) = (Inner _, h)
  reached_used _ (from, inr (u, h), itself) = u
  reached_used _ (from, start, then_child s node r h) = (children_used v1 a1.sound settled1 s node h).0
  reached_used _ (from, start, else_child s node r h) = (children_used v1 a1.sound settled1 s node h).1

  forth : (s : ℕ) → IsReached v0 is_root s → IsReached v1 is_root s
  forth s r = reached_same v0 v1 is_root a1.orders (λ t _. ap (λ (x : ℕ → Option Word). x t) a1.word) s r

  back : (s : ℕ) → IsReached v1 is_root s → IsReached v0 is_root s
  back s r = reached_same v1 v0 is_root (sym a1.orders) (λ t _. ap (λ (x : ℕ → Option Word). x t) (sym a1.word)) s r

  keeps : (s : ℕ) → v3.marked s ≡ true → (word : Word) → v3.word s ≡ Some word → (v6.word s ≡ v0.word s) × (v6.function s ≡ v0.function s) × (v6.generation s ≡ v0.generation s)
  keeps s marked word h =
      let k = f.kept s word h (inl marked) in
      (word64 s ∙ k.0 ∙ word30 s, function64 s ∙ k.1 ∙ function30 s, generation64 s ∙ k.2 ∙ generation30 s)

  kept_reached : (s : ℕ) → IsReached v0 is_root s → (v6.word s ≡ v0.word s) × (v6.function s ≡ v0.function s) × (v6.generation s ≡ v0.generation s)
  kept_reached s r =
      let r1 = forth s r in
      let u = reached_used s r1 in
      keeps s (marked_reached others none both zero_stays v1 v3 is_root a1.sound settled1 a1.sweeping m s r1) u.0 (ap (λ (x : ℕ → Option Word). x s) m.same.word ∙ u.1)

  -- an unmarked slot in use is gone
  lost : (s : ℕ) (word : Word) → v3.word s ≡ Some word → v3.marked s ≡ false → (v6.word s ≡ None) × (v6.generation s ≡ next_generation (v0.generation s))
  lost s word h unmarked =
      let d = f.gone s word h unmarked (done3 s word h) in
      (word64 s ∙ d.0, generation64 s ∙ d.1 ∙ ap next_generation (generation30 s))

  -- a free slot stays free
  stays_free : (s : ℕ) → v0.word s ≡ None → (v6.word s ≡ None) × (v6.generation s ≡ v0.generation s)
  stays_free s h = let d = f.free s (word30 s ∙ h) in (word64 s ∙ d.0, generation64 s ∙ d.1 ∙ generation30 s)

  none_some : (word : Word) → None ≡ Some word → ⊥
  none_some word c = cc

  left_reached : (s : ℕ) (word : Word) → v6.word s ≡ Some word → IsReached v0 is_root s
  left_reached s word h = by_word (v0.word s) refl
    where
      by_word : (o : Option Word) → v0.word s ≡ o → IsReached v0 is_root s
      by_word None e = absurd (none_some word (sym (stays_free s e).0 ∙ h))
      by_word (Some y) e = by_mark (v3.marked s) refl
        where
          by_mark : (b : Bool) → v3.marked s ≡ b → IsReached v0 is_root s
          by_mark true k = back s (m.reached s k)
          by_mark false k = absurd (none_some word (sym (lost s y (word30 s ∙ e) k).0 ∙ h))

  generation_kept : (s : ℕ) → v6.word s ≡ v0.word s → v6.generation s ≡ v0.generation s
  generation_kept s same = by_word (v0.word s) refl
    where
      by_word : (o : Option Word) → v0.word s ≡ o → v6.generation s ≡ v0.generation s
      by_word None e = (stays_free s e).1
      by_word (Some y) e = by_mark (v3.marked s) refl
        where
          by_mark : (b : Bool) → v3.marked s ≡ b → v6.generation s ≡ v0.generation s
          by_mark true k = (keeps s k y (word30 s ∙ e)).2
          by_mark false k = absurd (none_some y (sym (lost s y (word30 s ∙ e) k).0 ∙ same ∙ e))

  generation_next : (s : ℕ) (word : Word) → v0.word s ≡ Some word → v6.word s ≡ None → v6.generation s ≡ next_generation (v0.generation s)
  generation_next s word h gone = by_mark (v3.marked s) refl
    where
      by_mark : (b : Bool) → v3.marked s ≡ b → v6.generation s ≡ next_generation (v0.generation s)
      by_mark true k = absurd (none_some word (sym gone ∙ (keeps s k word (word30 s ∙ h)).0 ∙ h))
      by_mark false k = (lost s word (word30 s ∙ h) k).1

  counts60 : others v1.count v6.count
  counts60 = both v1.count v5.count v6.count (both v1.count v4.count v5.count (both v1.count v3.count v4.count m.same.counts f.counts) b5.counts) a6.counts

  zero_after : (s : ℕ) → is_root s ≡ false → (v6.count s ≡ 0) × (v6.pinned s ≡ false)
  zero_after s h = by_word (v1.word s) refl
    where
      pins : v6.pinned s ≡ v1.pinned s
      pins = ap (λ (x : ℕ → Bool). x s) (a6.pinned ∙ b5.pinned ∙ f.pinned ∙ m.same.pinned)

      by_word : (o : Option Word) → v1.word s ≡ o → (v6.count s ≡ 0) × (v6.pinned s ≡ false)
      by_word None e = (zero_stays v1.count v6.count counts60 s (a1.sound.uncounted s e), pins ∙ a1.sound.unpinned s e)
      by_word (Some y) e =
          let z = m.zero_after s y e (all_done v1 a1.sound settled1 s y e) h in (
            zero_stays v3.count v6.count (both v3.count v5.count v6.count (both v3.count v4.count v5.count f.counts b5.counts) a6.counts) s z.0,
            ap (λ (x : ℕ → Bool). x s) (a6.pinned ∙ b5.pinned ∙ f.pinned) ∙ z.1,
          )

  used64 : used_slots v6 ≡ used_slots v4
  used64 =
      ap (λ (x : ℕ → Option Word). length (filter (λ s. is_used (x s)) (range_with_len 0 v6.limit))) (a6.word ∙ b5.word)
      ∙ ap (λ n. length (filter (λ s. is_used (v4.word s)) (range_with_len 0 n))) (a6.limit ∙ b5.limit)

  used10 : used_slots v1 ≡ used_slots v0
  used10 =
      ap (λ (x : ℕ → Option Word). length (filter (λ s. is_used (x s)) (range_with_len 0 v1.limit))) a1.word
      ∙ ap (λ n. length (filter (λ s. is_used (v0.word s)) (range_with_len 0 n))) a1.limit

  limit60 : v6.limit ≡ v0.limit
  limit60 = a6.limit ∙ b5.limit ∙ f.limit ∙ m.same.limit ∙ a1.limit

  -- a sweep leaves no more in use
  pub fewer : used_slots v4 ≤ used_slots v1
  fewer =
      let le = filter_le (λ s. is_used (v6.word s)) (λ s. is_used (v0.word s)) (range_with_len 0 v6.limit) (λ s h.
      let u = used_is_true (v6.word s) h in
      let r = left_reached s u.0 u.1 in
      let k = kept_reached s r in ap is_used (sym k.0) ∙ h) in
      let same : length (filter (λ s. is_used (v0.word s)) (range_with_len 0 v6.limit)) ≡ used_slots v0 = ap (λ n. length (filter (λ s. is_used (v0.word s)) (range_with_len 0 n))) limit60 in
      omega (arith, le, same, used64, used10)

  root_same : (s : ℕ) → is_root s ≡ true → v6.function s ≡ v0.function s
  root_same s h = by_word (v0.word s) refl
    where
      no_function : (v : Content) → IsSound v → v.word s ≡ None → (o : Option Denoted) → v.function s ≡ o → o ≡ None
      no_function v sound e None k = refl
      no_function v sound e (Some g) k = let u = sound.used s g k in absurd (none_some u.0 (sym e ∙ u.1))

      by_word : (o : Option Word) → v0.word s ≡ o → v6.function s ≡ v0.function s
      by_word None e = no_function v6 a6.sound (stays_free s e).0 (v6.function s) refl
          ∙ sym (no_function v1 a1.sound (ap (λ (x : ℕ → Option Word). x s) a1.word ∙ e) (v1.function s) refl) ∙ ap (λ x. x s) a1.function
      by_word (Some y) e = (kept_reached s (s, inr ((y, e), h), itself)).1

  pub swept : (swept : Swept) → swept.in_use ≡ used_slots v4 → swept.freed + used_slots v4 ≡ used_slots v1 → IsSwept others v0 v6 swept
  swept numbers in_use freed = record {
    is_root = is_root;
    zero_before = λ s c p. m.zero_before s (zero_stays v0.count v1.count a1.counts s c) (ap (λ (x : ℕ → Bool). x s) a1.pinned ∙ p);
    zero_after = zero_after;
    kept_word = λ s r. (kept_reached s r).0;
    kept_function = λ s r. (kept_reached s r).1;
    left = λ s u. left_reached s u.0 u.1;
    freed_generation = λ s u gone. generation_next s u.0 u.1 gone;
    kept_generation = generation_kept;
    orders = orders60;
    limit = limit60;
    pinned = a6.pinned ∙ b5.pinned ∙ f.pinned ∙ m.same.pinned ∙ a1.pinned;
    sweeping = a6.sweeping;
    half = a6.half ∙ b5.half ∙ f.half ∙ settled3;
    counts = both v0.count v1.count v6.count a1.counts counts60;
    sound = a6.sound;
    in_use = in_use ∙ sym used64;
    freed = omega (arith, freed, used64, used10);
    size =
        swept_size v6 a6.sound (a6.half ∙ b5.half ∙ f.half ∙ settled3) is_root
        (λ s u. reached_same v0 v6 is_root orders60 (λ t r. (kept_reached t r).0) s (left_reached s u.0 u.1))
        ∙ ap (λ o. full_size o (root_functions v6 is_root)) orders60
        ∙ ap (full_size v0.orders) (ap (λ n. functions_of v6.function (filter is_root (range_with_len 0 n))) limit60
        ∙ functions_same_on is_root v6.function v0.function (range_with_len 0 v0.limit) root_same);
  }
