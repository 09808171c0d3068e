-- After a sweep a level has as many nodes as there are parts with its variable topmost.
use Rattle.std.proofs.Common.{◌≡◌, ◌≢◌, ℕ, zero, suc, ◌+◌, ◌<◌, ◌⊎◌, inl, inr, Bool, true, false, cond, List, [], ◌∷◌, length, Option, Some, None, eqb, eqb-true, eq-eqb, refl, sym, ap, ◌∙◌, subst, arith}
use Rattle.std.specs.Prelude.{◌==◌}
use Rattle.std.specs.List.{filter, range_with_len}
use Rattle.std.proofs.lemmas.Bool.{cases_eq}
use Rattle.edge_bits.specs.declared.words.Node.{Node}
use Rattle.edge_bits.specs.declared.words.Word.{Word}
use Rattle.edge_bits.specs.declared.words.Word.TheVariants.{Inner, Leaf}
use Rattle.function_laws.specs.Kinds.{Denoted, BddFunction, AddFunction, ZddFamily, opposite}
use Rattle.function_laws.specs.declared.orders.Order.{Order}
use Rattle.function_laws.specs.declared.orders.Order.TheVariants.{Variables, Elements}
use Rattle.function_laws.specs.Sizes.{order_of, in_order, all_parts, is_one, distinct, topmost, is_variable, depends_on, width}
use Rattle.function_laws.proofs.DistinctLemmas.{In, Apart, as_long, In-distinct, Apart-distinct, Matched-distinct}
use Rattle.function_laws.proofs.OneFunctions.{is_one-refl, is_one-sym, is_one-trans}
use Rattle.function_laws.proofs.LackingParts.{Free}
use Rattle.node_store.specs.Contents.{Content, IsSound, IsUsed, number_of, nodes_of, is_node_of}
use Rattle.node_store.specs.Sweeps.{IsReached, functions_of}
use Rattle.node_store.proofs.SlotLists.{In-functions, functions-In, In-range, within_orders, slot_once, apart_with}
use Rattle.node_store.proofs.Ordering.{above_from}
use Rattle.node_store.proofs.Standing.{Stands, stands}
use Rattle.node_store.proofs.SweptSize.{swept_functions, slot_part, part_slot, slot_in, one_of}
use Rattle.node_store.proofs.Tops.{which_of, other, order_of-which, depends-free, topmost_is, topmost_none, topmost_other, topmost_opposite}
use Rattle.node_store.proofs.LeafLemmas.{leaf_free}

module _ {X : Type 0} (test : X → Bool) where
  pub In-filter : (x : X) (xs : List X) → In x xs → test x ≡ true → In x (filter test xs)
  In-filter x [] i h = absurd i
  In-filter x (y ∷ ys) i h = at (test y) refl i (λ j. In-filter x ys j h)
    where
      at : (b : Bool) → test y ≡ b → (x ≡ y) ⊎ In x ys → (In x ys → In x (filter test ys)) → In x (cond b (y ∷ filter test ys) (filter test ys))
      at true e (inl same) rest = inl same
      at true e (inr j) rest = inr (rest j)
      at false e (inl same) rest = let c : true ≡ false = sym h ∙ ap test same ∙ e in cc
      at false e (inr j) rest = rest j

  pub filter-In : (x : X) (xs : List X) → In x (filter test xs) → In x xs × (test x ≡ true)
  filter-In x [] i = absurd i
  filter-In x (y ∷ ys) i = at (test y) refl i (λ j. filter-In x ys j)
    where
      at : (b : Bool) → test y ≡ b → In x (cond b (y ∷ filter test ys) (filter test ys)) → (In x (filter test ys) → In x ys × (test x ≡ true)) → ((x ≡ y) ⊎ In x ys) × (test x ≡ true)
      at true e (inl same) rest = (inl same, ap test same ∙ e)
      at true e (inr j) rest = let r = rest j in (inr r.0, r.1)
      at false e j rest = let r = rest j in (inr r.0, r.1)

  pub Apart-filter : (same : X → X → Bool) (xs : List X) → Apart same xs → Apart same (filter test xs)
  Apart-filter same [] h = tt
  Apart-filter same (y ∷ ys) h = at (test y) (Apart-filter same ys h.1)
    where
      at : (b : Bool) → Apart same (filter test ys) → Apart same (cond b (y ∷ filter test ys) (filter test ys))
      at true rest = ((λ z i s. h.0 z (filter-In z ys i).0 s), rest)
      at false rest = rest

module _ (w : Content) (sound : IsSound w) (settled : w.half ≡ None) (is_root : ℕ → Bool) (reached : (s : ℕ) → IsUsed w s → IsReached w is_root s) where
  -- whether v is a function's topmost variable of an order
  abbrev pub has_top : Order → ℕ → Denoted → Bool
  has_top which v f = is_variable (topmost w.orders which (in_order w.orders which) f) v

  pub other_word : (which : Order) (f : Denoted) → (which ≡ which_of f) ⊎ (which ≡ other (which_of f))
  other_word Variables (BddFunction f) = inl refl
  other_word Variables (AddFunction f) = inl refl
  other_word Variables (ZddFamily f) = inr refl
  other_word Elements (BddFunction f) = inr refl
  other_word Elements (AddFunction f) = inr refl
  other_word Elements (ZddFamily f) = inl refl

  pub number_once : (which : Order) (u v : ℕ) → number_of which u ≡ number_of which v → u ≡ v
  number_once Variables u v e = e
  number_once Elements u v e = omega (arith, e)

  same_test : (u v a b : ℕ) → ((u ≡ v) → a ≡ b) → ((a ≡ b) → u ≡ v) → (u == v) ≡ (a == b)
  same_test u v a b to from = elim (cases_eq u v) [
    | inl e ↦ eq-eqb u v e ∙ sym (eq-eqb a b (to e))
    | inr ne ↦ apart u v ne ∙ sym (apart a b (λ e. ne (from e)))
  ]
    where
      apart : (x y : ℕ) → x ≢ y → (x == y) ≡ false
      apart x y ne = at (eqb x y) refl
        where
          at : (c : Bool) → eqb x y ≡ c → c ≡ false
          at true e = absurd (ne (eqb-true x y e))
          at false e = refl

  yes : (b : Bool) → (b ≡ false → ⊥) → b ≡ true
  yes true h = refl
  yes false h = absurd (h refl)

  apart_numbers : (x y : ℕ) → x ≢ y → (x == y) ≡ false
  apart_numbers x y ne = at (eqb x y) refl
    where
      at : (c : Bool) → eqb x y ≡ c → c ≡ false
      at true e = absurd (ne (eqb-true x y e))
      at false e = refl

  -- a node slot has its own variable topmost
  node_top : (s : ℕ) (node : Node) (f : Denoted) (which : Order) (v : ℕ) → v < length (in_order w.orders which) → w.word s ≡ Some (Inner node) → w.function s ≡ Some f
      → has_top which v f ≡ (node.var == number_of which v)
  node_top s node f which v lt word is = at (stands w sound settled s node f word is) (other_word which f)
    where
      at : Stands w node f → (which ≡ which_of f) ⊎ (which ≡ other (which_of f)) → has_top which v f ≡ (node.var == number_of which v)
      at st (inl e) =
          let order : in_order w.orders which ≡ order_of w.orders f = ap (in_order w.orders) e ∙ order_of-which w.orders f in
          let depends : depends_on w.orders (which_of f) f st.var ≡ true = yes (depends_on w.orders (which_of f) f st.var) (λ none.
          st.depends_on (depends-free w.orders f st.var (within_orders w sound s f is) (subst (λ x. st.var < length x) (sym (order_of-which w.orders f)) st.within) none)) in
          let top : topmost w.orders which (in_order w.orders which) f ≡ Some st.var =
          ap (λ x. topmost w.orders x (in_order w.orders which) f) e ∙ ap (λ x. topmost w.orders (which_of f) x f) order
          ∙ topmost_is w.orders f st.var (order_of w.orders f) depends st.there (above_from st.var f (order_of w.orders f) st.above) in
          let number : number_of which st.var ≡ node.var = ap (λ x. number_of x st.var) e ∙ st.numbered in
          ap (λ o. is_variable o v) top
          ∙ same_test st.var v node.var (number_of which v) (λ same. sym number ∙ ap (number_of which) same) (λ same. number_once which st.var v (number ∙ same))
      at st (inr e) =
          let top : topmost w.orders which (in_order w.orders which) f ≡ None =
          ap (λ x. topmost w.orders x (in_order w.orders which) f) e ∙ topmost_other w.orders f (in_order w.orders which) in
          ap (λ o. is_variable o v) top
          ∙ sym (apart_numbers node.var (number_of which v) (λ same. st.not_other v (subst (λ x. v < length (in_order w.orders x)) e lt) (same ∙ ap (λ x. number_of x v) e)))

  leaf_top : (f : Denoted) (which : Order) (v : ℕ) → ((u : ℕ) → Free f u) → has_top which v f ≡ false
  leaf_top f which v free = at (other_word which f)
    where
      at : (which ≡ which_of f) ⊎ (which ≡ other (which_of f)) → has_top which v f ≡ false
      at (inl e) = ap (λ o. is_variable o v) (ap (λ x. topmost w.orders x (in_order w.orders which) f) e ∙ topmost_none w.orders f (in_order w.orders which) free)
      at (inr e) = ap (λ o. is_variable o v) (ap (λ x. topmost w.orders x (in_order w.orders which) f) e ∙ topmost_other w.orders f (in_order w.orders which))

  slot_top : (s : ℕ) (o : Option Word) (f : Denoted) (which : Order) (v : ℕ) → v < length (in_order w.orders which) → w.word s ≡ o → w.function s ≡ Some f
      → has_top which v f ≡ is_node_of (number_of which v) o
  slot_top s None f which v lt word is = let u = sound.used s f is in let c : None ≡ Some u.0 = sym word ∙ u.1 in cc
  slot_top s (Some (Leaf x)) f which v lt word is = leaf_top f which v (λ u. leaf_free w sound s x f word is u)
  slot_top s (Some (Inner node)) f which v lt word is = node_top s node f which v lt word is

  module _ (which : Order) (v : ℕ) (lt : v < length (in_order w.orders which)) where
    abbrev stands_here : ℕ → Bool
    stands_here s = is_node_of (number_of which v) (w.word s)

    abbrev slots_here : List ℕ
    slots_here = filter stands_here (range_with_len 0 w.limit)

    top_here : (s : ℕ) (f : Denoted) → w.function s ≡ Some f → has_top which v f ≡ stands_here s
    top_here s f is = slot_top s (w.word s) f which v lt refl is

    one_top : (f g : Denoted) → (g ≡ f) ⊎ (g ≡ opposite f) → has_top which v g ≡ has_top which v f
    one_top f g (inl e) = ap (has_top which v) e
    one_top f g (inr e) = ap (has_top which v) e ∙ ap (λ o. is_variable o v) (topmost_opposite w.orders which f (in_order w.orders which))

    -- the functions of the slots here are as many as the slots, and no two of them are one
    here_is : (s : ℕ) → stands_here s ≡ true → (f : Denoted) × (w.function s ≡ Some f)
    here_is s h = at (w.word s) refl
      where
        at : (o : Option Word) → w.word s ≡ o → (f : Denoted) × (w.function s ≡ Some f)
        at None e = let c : false ≡ true = ap (is_node_of (number_of which v)) (sym e) ∙ h in cc
        at (Some word) e = sound.denotes s (word, e)

    counted_here : (ss : List ℕ) → ((s : ℕ) → In s ss → stands_here s ≡ true) → length (functions_of w.function ss) ≡ length ss
    unfolding functions_of
    counted_here [] h = refl
    counted_here (s ∷ ss) h = let d = here_is s (h s (inl refl)) in rw d.1 (ap suc (counted_here ss (λ t i. h t (inr i))))

    apart_here : (a n : ℕ) → Apart (is_one w.orders) (functions_of w.function (filter stands_here (range_with_len a n)))
    unfolding functions_of
    apart_here a zero = tt
    apart_here a (suc n) = at (stands_here a) (apart_here (a + 1) n)
      where
        at : (b : Bool) → Apart (is_one w.orders) (functions_of w.function (filter stands_here (range_with_len (a + 1) n)))
            → Apart (is_one w.orders) (functions_of w.function (cond b (a ∷ filter stands_here (range_with_len (a + 1) n)) (filter stands_here (range_with_len (a + 1) n))))
        at true rest = apart_with w sound a (w.function a) (functions_of w.function (filter stands_here (range_with_len (a + 1) n))) refl
            (λ g i.
            let x = In-functions w.function g (filter stands_here (range_with_len (a + 1) n)) i in
            let r = In-range x.0 (a + 1) n (filter-In stands_here x.0 (range_with_len (a + 1) n) x.1).0 in (x.0, omega (arith, r.0), x.2))
            rest
        at false rest = rest

    pub nodes_width : nodes_of w (number_of which v) ≡ width w.orders which (swept_functions w sound settled is_root reached) v
    nodes_width =
        let xs = functions_of w.function slots_here in
        let all = all_parts w.orders (swept_functions w sound settled is_root reached) in
        let ys = filter (has_top which v) (distinct (is_one w.orders) all) in
        sym (counted_here slots_here (λ s i. (filter-In stands_here s (range_with_len 0 w.limit) i).1))
        ∙ as_long (is_one w.orders) (is_one-sym w.orders) (is_one-trans w.orders) xs ys
        (apart_here 0 w.limit) (Apart-filter (has_top which v) (is_one w.orders) (distinct (is_one w.orders) all) (Apart-distinct (is_one w.orders) all))
        (λ f i.
        let x = In-functions w.function f slots_here i in
        let here = (filter-In stands_here x.0 (range_with_len 0 w.limit) x.1).1 in
        let g = slot_part w sound settled is_root reached x.0 f x.2 in
        let m = Matched-distinct (is_one w.orders) (is_one-refl w.orders) all g.0 g.1 in
        let one : is_one w.orders f m.0 ≡ true = is_one-trans w.orders f g.0 m.0 (one_of w sound settled is_root reached f g.0 g.2) m.2 in
        let p = part_slot w sound settled is_root reached m.0 (In-distinct (is_one w.orders) m.0 all m.1) in
        let same : x.0 ≡ p.0 = slot_once w sound x.0 p.0 f p.1 x.2 p.2 (is_one-trans w.orders f m.0 p.1 one (one_of w sound settled is_root reached m.0 p.1 p.3)) in
        let top : has_top which v m.0 ≡ true = sym (one_top m.0 p.1 p.3) ∙ top_here p.0 p.1 p.2 ∙ ap stands_here (sym same) ∙ here in
        (m.0, In-filter (has_top which v) m.0 (distinct (is_one w.orders) all) m.1 top, one))
        (λ g i.
        let h = filter-In (has_top which v) g (distinct (is_one w.orders) all) i in
        let p = part_slot w sound settled is_root reached g (In-distinct (is_one w.orders) g all h.0) in
        let here : stands_here p.0 ≡ true = sym (top_here p.0 p.1 p.2) ∙ one_top g p.1 p.3 ∙ h.1 in (
          p.1,
          functions-In w.function p.1 p.0 slots_here (In-filter stands_here p.0 (range_with_len 0 w.limit) (slot_in w sound settled is_root reached p.0 p.1 p.2) here) p.2,
          one_of w sound settled is_root reached g p.1 p.3,
        ))
