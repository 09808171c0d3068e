-- The pass over a level that follows a swap, slot by slot.
use Rattle.std.proofs.Common.{◌≡◌, ◌≢◌, ℕ, zero, suc, ◌+◌, ◌<◌, ◌≤◌, inl, inr, Bool, true, false, cond, ◌||◌, length, Option, Some, None, ℤ, eq-eqb, refl, sym, ap, ◌∙◌, subst, arith}
use Rattle.std.specs.Prelude.{nat_lt}
use Rattle.std.proofs.lemmas.Bool.{cases_lt, cases_eq, lt-ltb}
use Rattle.edge_bits.specs.Reading.{plain}
use Rattle.edge_bits.specs.declared.edges.Edge.{Edge}
use Rattle.edge_bits.specs.declared.words.Node.{Node}
use Rattle.edge_bits.specs.declared.words.Word.{Word}
use Rattle.edge_bits.specs.declared.words.Word.TheVariants.{Inner, Leaf}
use Rattle.function_laws.specs.Kinds.{Denoted}
use Rattle.function_laws.proofs.CoverLaws.{neither}
use Rattle.function_laws.proofs.CubeLemmas.{or_true}
use Rattle.function_laws.specs.Sizes.{Orders}
use Rattle.node_store.specs.Contents.{Content, IsNamed, IsPermanent, is_node_of, projection_node, constant_value}
use Rattle.node_store.specs.Changes.{After, CanFree, without, put_at}
use Rattle.node_store.proofs.Rewriting.{put_at-same, put_at-other}
use Rattle.dead_sweep.specs.Marks.{is_live, is_projection_of}
use Rattle.dead_sweep.proofs.MarkedNodes.{projection_test, projection_back, projection_is}
use Rattle.group_sift.specs.Passes.{IsHeldUp, Stays, IsLoose, Passing}
use Rattle.group_sift.proofs.Naming.{apart_name, not_var, tested}

none_some : {A : Type 0} (o : Option A) (x : A) → o ≡ None → o ≡ Some x → ⊥
none_some o x h k = cc

never : true ≡ false → ⊥
never e = cc

some_same : {A : Type 0} (o : Option A) (x y : A) → o ≡ Some x → o ≡ Some y → x ≡ y
some_same o x y h k = cc

same_node : (p q : Node) → Inner p ≡ Inner q → p ≡ q
same_node p q e = cc

hi_zero : (m : Node) (q : ℕ) → Inner (projection_node q) ≡ Inner m → m.hi ≡ 0
hi_zero m q e = ap (λ (n : Node). n.hi) (sym (same_node (projection_node q) m e))

lo_zero : (m : Node) (q : ℕ) → Inner (projection_node q) ≡ Inner m → m.lo.index ≡ 0
lo_zero m q e = ap (λ (n : Node). n.lo.index) (sym (same_node (projection_node q) m e))

lo_flip : (m : Node) (q : ℕ) → Inner (projection_node q) ≡ Inner m → m.lo.complement ≡ true
lo_flip m q e = ap (λ (n : Node). n.lo.complement) (sym (same_node (projection_node q) m e))

constant_node : (o : Option Word) (x : ℤ) (m : Node) → o ≡ Some (Leaf x) → o ≡ Some (Inner m) → ⊥
constant_node o x m h k = cc

-- what holds in one store of a slot whose word is the same in another
pub permanent_same : (v w : Content) → w.orders ≡ v.orders → (s : ℕ) → w.word s ≡ v.word s → IsPermanent v s → IsPermanent w s
permanent_same v w eo s e (inl lt) = inl lt
permanent_same v w eo s e (inr (q, lt, word)) = inr (q, subst (λ (o : Orders). q < length o.variables) (sym eo) lt, e ∙ word)

module _ (others : (ℕ → ℕ) → (ℕ → ℕ) → Type 0) (both : (a b c : ℕ → ℕ) → others a b → others b c → others a c)
    (zero_stays : (a b : ℕ → ℕ) → others a b → (s : ℕ) → a s ≡ 0 → b s ≡ 0) (start : Content) (v : ℕ) where
  pub pass_begins : (w : Content) → After others start w → Passing others start v w 0
  pass_begins w a = record {
    orders = a.orders;
    limit = a.limit;
    pinned = a.pinned;
    sweeping = a.sweeping;
    half = a.half;
    counts = a.counts;
    sound = a.sound;
    less = λ s word h. sym (ap (λ (x : ℕ → Option Word). x s) a.word) ∙ h;
    kept = λ s st. (ap (λ (x : ℕ → Option Word). x s) a.word, ap (λ (x : ℕ → Option Denoted). x s) a.function, ap (λ (x : ℕ → ℕ). x s) a.generation);
    done = λ s lt h. absurd (omega (arith, lt));
  }

  -- on to a slot before which no further node of the variable stands
  pub pass_skips : (w x : Content) (from next : ℕ) → Passing others start v w from → After others w x → ((t : ℕ) → from ≤ t → t < next → is_node_of v (w.word t) ≡ true → ⊥) → Passing others start v x next
  pass_skips w x from next p a skipped = record {
    orders = a.orders ∙ p.orders;
    limit = a.limit ∙ p.limit;
    pinned = a.pinned ∙ p.pinned;
    sweeping = a.sweeping ∙ p.sweeping;
    half = a.half ∙ p.half;
    counts = both start.count w.count x.count p.counts a.counts;
    sound = a.sound;
    less = λ s word h. p.less s word (sym (ap (λ (y : ℕ → Option Word). y s) a.word) ∙ h);
    kept = λ s st. (let k = p.kept s st in (ap (λ (y : ℕ → Option Word). y s) a.word ∙ k.0, ap (λ (y : ℕ → Option Denoted). y s) a.function ∙ k.1, ap (λ (y : ℕ → ℕ). y s) a.generation ∙ k.2));
    done = λ s lt h.
        let before : is_node_of v (w.word s) ≡ true = ap (λ (y : ℕ → Option Word). is_node_of v (y s)) (sym a.word) ∙ h in
        elim (cases_lt s from) [ inl less ↦ p.done s less before | inr le ↦ absurd (skipped s le lt before) ];
  }

  module _ (loose : IsLoose start v) where
    -- a node of the variable that is named stays named
    pub still_named : (w : Content) (from : ℕ) → Passing others start v w from → (s : ℕ) (m : Node) → start.word s ≡ Some (Inner m) → m.var ≡ v → IsNamed start s → IsNamed w s
    still_named w from p s m word var (t, node, at, names) =
        let other = not_var node.var v (λ e. apart_name start loose.sound loose.half t node at s m word names (e ∙ sym var)) in
        let k = p.kept t ((Inner node, at), inl (ap (is_node_of v) at ∙ other)) in
        (t, node, k.0 ∙ at, names)

    pub name_before : (w : Content) (from : ℕ) → Passing others start v w from → (s : ℕ) → IsNamed w s → IsNamed start s
    name_before w from p s (t, node, at, names) = (t, node, p.less t (Inner node) at, names)

    module _ (w : Content) (slot : ℕ) (p : Passing others start v w slot) (node : is_node_of v (w.word slot) ≡ true) where
      pub here : (m : Node) × (w.word slot ≡ Some (Inner m)) × (m.var ≡ v)
      here = tested v (w.word slot) node

      before : start.word slot ≡ Some (Inner here.0)
      before = p.less slot (Inner here.0) here.1

      permanent_before : IsPermanent w slot → IsPermanent start slot
      permanent_before perm = permanent_same w start (sym p.orders) slot (before ∙ sym here.1) perm

      permanent_now : IsPermanent start slot → IsPermanent w slot
      permanent_now perm = permanent_same start w p.orders slot (here.1 ∙ sym before) perm

      -- what may be freed
      pub may_free : (x : Content) → After others w x → (IsNamed w slot → ⊥) → x.count slot ≡ 0 → w.pinned slot ≡ false → (IsPermanent w slot → ⊥) → CanFree x slot
      may_free x a unnamed count pin spare = record {
        used = (Inner here.0, ap (λ (y : ℕ → Option Word). y slot) a.word ∙ here.1);
        spare = λ perm. spare (permanent_same x w (sym a.orders) slot (sym (ap (λ (y : ℕ → Option Word). y slot) a.word)) perm);
        sweeping = a.sweeping ∙ p.sweeping ∙ loose.sweeping;
        uncounted = count;
        unpinned = ap (λ (y : ℕ → Bool). y slot) a.pinned ∙ pin;
        unnamed = λ t m at.
            let at_w : w.word t ≡ Some (Inner m) = sym (ap (λ (y : ℕ → Option Word). y t) a.word) ∙ at in
            ((λ e. unnamed (t, m, at_w, inl e)), (λ e. unnamed (t, m, at_w, inr e)));
      }

      not_held : (IsNamed w slot → ⊥) → w.pinned slot ≡ false → (IsPermanent w slot → ⊥) → IsHeldUp start start.pinned slot → ⊥
      not_held unnamed pin spare (inl perm) = spare (permanent_now perm)
      not_held unnamed pin spare (inr (inl r)) = never (sym r ∙ sym (ap (λ (y : ℕ → Bool). y slot) p.pinned) ∙ pin)
      not_held unnamed pin spare (inr (inr n)) = unnamed (still_named w slot p slot here.0 before here.2 n)

      not_staying : (IsNamed w slot → ⊥) → w.pinned slot ≡ false → (IsPermanent w slot → ⊥) → Stays start start.pinned v slot → ⊥
      not_staying unnamed pin spare (u, inl differ) = never (sym (ap (is_node_of v) before ∙ eq-eqb here.0.var v here.2) ∙ differ)
      not_staying unnamed pin spare (u, inr held) = not_held unnamed pin spare held

      -- one that was freed
      pub pass_freed : (x y : Content) → After others w x → (IsNamed w slot → ⊥) → w.pinned slot ≡ false → (IsPermanent w slot → ⊥) → After others (without x slot) y → Passing others start v y (slot + 1)
      pass_freed x y a unnamed pin spare b = record {
        orders = b.orders ∙ a.orders ∙ p.orders;
        limit = b.limit ∙ a.limit ∙ p.limit;
        pinned = b.pinned ∙ a.pinned ∙ p.pinned;
        sweeping = b.sweeping ∙ a.sweeping ∙ p.sweeping;
        half = b.half ∙ a.half ∙ p.half;
        counts = both start.count x.count y.count (both start.count w.count x.count p.counts a.counts) b.counts;
        sound = b.sound;
        less = λ s word h. p.less s word (let o = left s word h in o.1);
        kept = λ s st.
            let ne : s ≢ slot = λ e. not_staying unnamed pin spare (subst (Stays start start.pinned v) e st) in
            let k = p.kept s st in (
              ap (λ (q : ℕ → Option Word). q s) b.word ∙ put_at-other x.word slot s None ne ∙ ap (λ (q : ℕ → Option Word). q s) a.word ∙ k.0,
              ap (λ (q : ℕ → Option Denoted). q s) b.function ∙ put_at-other x.function slot s None ne ∙ ap (λ (q : ℕ → Option Denoted). q s) a.function ∙ k.1,
              ap (λ (q : ℕ → ℕ). q s) b.generation ∙ put_at-other x.generation slot s _ ne ∙ ap (λ (q : ℕ → ℕ). q s) a.generation ∙ k.2,
            );
        done = λ s lt h.
            let n = tested v (y.word s) h in
            let o = left s (Inner n.0) n.1 in
            let ne = o.0 in
            p.done s (omega (arith, lt, ne)) (ap (is_node_of v) (o.1 ∙ sym n.1) ∙ h);
      }
        where
          left : (s : ℕ) (word : Word) → y.word s ≡ Some word → (s ≢ slot) × (w.word s ≡ Some word)
          left s word h = elim (cases_eq s slot) [
            | inl e ↦ absurd (none_some (y.word s) word (ap (λ (q : ℕ → Option Word). q s) b.word ∙ ap (put_at x.word slot None) e ∙ put_at-same x.word slot None) h)
            | inr ne ↦ (ne, sym (ap (λ (q : ℕ → Option Word). q s) b.word ∙ put_at-other x.word slot s None ne ∙ ap (λ (q : ℕ → Option Word). q s) a.word) ∙ h)
          ]

      -- one that is held up
      pub pass_left : (x : Content) → After others w x → IsHeldUp start start.pinned slot → Passing others start v x (slot + 1)
      pass_left x a held =
          let q = pass_skips w x slot slot p a (λ t le lt h. omega (arith, le, lt)) in
          record {
            orders = q.orders;
            limit = q.limit;
            pinned = q.pinned;
            sweeping = q.sweeping;
            half = q.half;
            counts = q.counts;
            sound = q.sound;
            less = q.less;
            kept = q.kept;
            done = λ s lt h. elim (cases_eq s slot) [
              | inl e ↦ subst (IsHeldUp start start.pinned) (sym e) held
              | inr ne ↦ q.done s (omega (arith, lt, ne)) h
            ];
          }

      -- the test
      module _ (w1 w2 x : Content) (a1 : After others w w1) (a2 : After others w1 w2) (a3 : After others w2 x) (named : Bool) (count : ℕ) (hi lo : Edge)
          (is_named : named ≡ true → IsNamed w slot) (is_unnamed : named ≡ false → IsNamed w slot → ⊥)
          (count_is : count ≡ w2.count slot + (cond (w2.pinned slot) 1 0)) (hi_is : hi ≡ plain here.0.hi) (lo_is : lo ≡ here.0.lo) where
        to_x : After others w x
        to_x = record {
          orders = a3.orders ∙ a2.orders ∙ a1.orders;
          limit = a3.limit ∙ a2.limit ∙ a1.limit;
          word = a3.word ∙ a2.word ∙ a1.word;
          function = a3.function ∙ a2.function ∙ a1.function;
          generation = a3.generation ∙ a2.generation ∙ a1.generation;
          marked = a3.marked ∙ a2.marked ∙ a1.marked;
          pinned = a3.pinned ∙ a2.pinned ∙ a1.pinned;
          sweeping = a3.sweeping ∙ a2.sweeping ∙ a1.sweeping;
          half = a3.half ∙ a2.half ∙ a1.half;
          counts = both w.count w2.count x.count (both w.count w1.count w2.count a1.counts a2.counts) a3.counts;
          sound = a3.sound;
        }

        pin_of : w2.pinned slot ≡ w.pinned slot
        pin_of = ap (λ (q : ℕ → Bool). q slot) (a2.pinned ∙ a1.pinned)

        no_count : w.pinned slot ≡ false → w2.count slot ≡ 0
        no_count pin =
            zero_stays start.count w2.count (both start.count w.count w2.count p.counts (both w.count w1.count w2.count a1.counts a2.counts)) slot
            (loose.uncounted slot (sym (ap (λ (q : ℕ → Bool). q slot) p.pinned) ∙ pin))

        counted_pinned : nat_lt 0 count ≡ true → start.pinned slot ≡ true
        counted_pinned lt = by_pin (w.pinned slot) refl
          where
            by_pin : (b : Bool) → w.pinned slot ≡ b → start.pinned slot ≡ true
            by_pin true e = sym (ap (λ (q : ℕ → Bool). q slot) p.pinned) ∙ e
            by_pin false e =
                let n = no_count e in
                let c : count ≡ 0 = count_is ∙ ap (λ b. w2.count slot + (cond b 1 0)) (pin_of ∙ e) ∙ (omega (arith, n)) in
                absurd (never (sym lt ∙ ap (nat_lt 0) c))

        zero_pin : nat_lt 0 count ≡ false → (w2.count slot ≡ 0) × (w.pinned slot ≡ false)
        zero_pin lt = by_pin (w2.pinned slot) refl (zero_of count lt)
          where
            zero_of : (n : ℕ) → nat_lt 0 n ≡ false → n ≡ 0
            zero_of zero e = refl
            zero_of (suc n) e = absurd (never (sym (lt-ltb 0 (suc n) (omega arith)) ∙ e))

            by_pin : (b : Bool) → w2.pinned slot ≡ b → count ≡ 0 → (w2.count slot ≡ 0) × (w.pinned slot ≡ false)
            by_pin true e z = let f : count ≡ w2.count slot + 1 = count_is ∙ ap (λ b. w2.count slot + (cond b 1 0)) e in absurd (omega (arith, f, z))
            by_pin false e z = let f : count ≡ w2.count slot + 0 = count_is ∙ ap (λ b. w2.count slot + (cond b 1 0)) e in (omega (arith, f, z), sym pin_of ∙ e)

        node_is : hi.index ≡ here.0.hi
        node_is = ap (λ (e : Edge). e.index) hi_is

        projection_held : is_projection_of hi lo ≡ true → IsPermanent w slot
        projection_held h =
            let b = projection_back hi lo h in
            projection_is w p.sound slot here.0 here.1 (sym node_is ∙ b.0) (sym (ap (λ (e : Edge). e.index) lo_is) ∙ b.1) (sym (ap (λ (e : Edge). e.complement) lo_is) ∙ b.2)

        pub live_held : is_live count named hi lo ≡ true → IsHeldUp start start.pinned slot
        live_held live = elim (or_true (nat_lt 0 count) (named || is_projection_of hi lo) live) [
          | inl c ↦ inr (inl (counted_pinned c))
          | inr more ↦ elim (or_true named (is_projection_of hi lo) more) [
            | inl n ↦ inr (inr (name_before w slot p slot (is_named n)))
            | inr pr ↦ inl (permanent_before (projection_held pr))
          ]
        ]

        pub pass_live : is_live count named hi lo ≡ true → Passing others start v x (slot + 1)
        pass_live live = pass_left x to_x (live_held live)

        module _ (dead : is_live count named hi lo ≡ false) where
          no_name : IsNamed w slot → ⊥
          no_name = is_unnamed (neither named (is_projection_of hi lo) (neither (nat_lt 0 count) (named || is_projection_of hi lo) dead).1).0

          spare_here : IsPermanent w slot → ⊥
          spare_here (inl lt) = constant_node (w.word slot) (constant_value slot) here.0 (p.sound.constants slot lt) here.1
          spare_here (inr (q, lt, word)) =
              let same = some_same (w.word slot) (Inner (projection_node q)) (Inner here.0) word here.1 in
              let is : is_projection_of hi lo ≡ true = projection_test hi lo (node_is ∙ hi_zero here.0 q same) (ap (λ (e : Edge). e.index) lo_is ∙ lo_zero here.0 q same) (ap (λ (e : Edge). e.complement) lo_is ∙ lo_flip here.0 q same) in
              never (sym is ∙ (neither named (is_projection_of hi lo) (neither (nat_lt 0 count) (named || is_projection_of hi lo) dead).1).1)

          pins : (w2.count slot ≡ 0) × (w.pinned slot ≡ false)
          pins = zero_pin (neither (nat_lt 0 count) (named || is_projection_of hi lo) dead).0

          pub pass_can : CanFree x slot
          pass_can = may_free x to_x no_name (zero_stays w2.count x.count a3.counts slot pins.0) pins.1 spare_here

          pub pass_dead : (y : Content) → After others (without x slot) y → Passing others start v y (slot + 1)
          pass_dead y b = pass_freed x y to_x no_name pins.1 spare_here b
