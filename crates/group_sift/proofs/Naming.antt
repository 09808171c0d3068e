-- What may lose its last name by a swap.
use Rattle.std.proofs.Common.{◌≡◌, ◌≢◌, ℕ, zero, suc, ◌+◌, ◌<◌, ◌⊎◌, inl, inr, Bool, true, false, List, [], ◌∷◌, ◌++◌, length, Option, Some, None, eqb, eqb-true, eq-eqb, refl, sym, ap, ◌∙◌, subst, arith}
use Rattle.std.specs.Prelude.{slice_index, ◌==◌}
use Rattle.std.specs.List.{swap}
use Rattle.std.proofs.lemmas.Bool.{cases_lt, cases_eq}
use Rattle.edge_bits.specs.declared.words.Node.{Node}
use Rattle.edge_bits.specs.declared.words.Word.{Word}
use Rattle.edge_bits.specs.declared.words.Word.TheVariants.{Inner, Leaf}
use Rattle.edge_bits.specs.Reading.{IsReached as LeadsTo, itself, then_child, else_child}
use Rattle.function_laws.specs.Values.{projection}
use Rattle.function_laws.specs.Families.{empty}
use Rattle.function_laws.specs.Kinds.{Denoted, BddFunction, AddFunction, ZddFamily, opposite}
use Rattle.function_laws.specs.declared.orders.Order.{Order}
use Rattle.function_laws.specs.declared.orders.Order.TheVariants.{Variables, Elements}
use Rattle.function_laws.specs.Sizes.{Orders, order_of, in_order, part_of}
use Rattle.function_laws.specs.SiftedOrders.{place_of}
use Rattle.function_laws.proofs.LackingParts.{Free, part-opposite, opposite-opposite, Free-opposite, Free-part, Free-more, part_of_free, then_part_free, order_of-part}
use Rattle.function_laws.proofs.OneFunctions.{is_one-opposite}
use Rattle.node_store.specs.Contents.{Content, IsSound, IsUsed, IsPermanent, IsOrder, number_of, is_node_of}
use Rattle.node_store.specs.Sweeps.{IsStart, IsReached}
use Rattle.node_store.proofs.SlotLists.{slot_once}
use Rattle.node_store.proofs.Standing.{UpTo, Stands, stands}
use Rattle.node_store.proofs.LeafLemmas.{leaf_free}
use Rattle.node_store.proofs.SweptSize.{order_of-opposite, order_is, projection_denotes}
use Rattle.node_store.proofs.Tops.{which_of, other, order_of-which}
use Rattle.dead_sweep.specs.Marks.{rank_of}
use Rattle.dead_sweep.proofs.Ranks.{then_rank, else_rank}
use Rattle.level_swap.proofs.Returning.{parts-commute}
use Rattle.level_swap.proofs.RoomBack.{which_of-part, which_of-opposite}
use Rattle.level_swap.specs.Swaps.{IsNamedBefore}
use Rattle.group_sift.specs.Passes.{IsHeldUp, Stays, IsNamedByStaying}
use Rattle.group_sift.proofs.Splitting.{split}
use Rattle.group_sift.proofs.Settling.{order_is as order_at_is}
use Rattle.group_sift.proofs.Places.{number_once}

abbrev Names : Node → ℕ → Type 0
Names node s = (node.hi ≡ s) ⊎ (node.lo.index ≡ s)

-- what is reached is held up
pub reached_held : (w : Content) (p : ℕ → Bool) (s : ℕ) → IsReached w p s → IsHeldUp w p s
reached_held w p s (from, start, arcs) = by_arcs s arcs
  where
    by_start : IsStart w p from → IsHeldUp w p from
    by_start (inl perm) = inl perm
    by_start (inr (u, r)) = inr (inl r)

    by_arcs : (t : ℕ) → LeadsTo w.word from t → IsHeldUp w p t
    by_arcs _ itself = by_start start
    by_arcs _ (then_child t node r h) = inr (inr (t, node, h, inl refl))
    by_arcs _ (else_child t node r h) = inr (inr (t, node, h, inr refl))

named_rank : (w : Content) (sound : IsSound w) (settled : w.half ≡ None) (t : ℕ) (node : Node) → w.word t ≡ Some (Inner node) → (s : ℕ) (word : Word) → w.word s ≡ Some word → Names node s
    → rank_of w.orders (Inner node) < rank_of w.orders word
named_rank w sound settled t node at s word e (inl h) = then_rank w sound settled t node at word (ap w.word h ∙ e)
named_rank w sound settled t node at s word e (inr h) = else_rank w sound settled t node at word (ap w.word h ∙ e)

-- Where each slot in use is held up, each is reached.
pub held_reached : (w : Content) → IsSound w → w.half ≡ None → (p : ℕ → Bool) → ((s : ℕ) → IsUsed w s → IsHeldUp w p s) → (s : ℕ) → IsUsed w s → IsReached w p s
held_reached w sound settled p all s (word, e) = reach (suc (rank_of w.orders word)) s word e (omega arith)
  where
    by_child : (t : ℕ) (node : Node) (s : ℕ) → w.word t ≡ Some (Inner node) → Names node s → IsReached w p t → IsReached w p s
    by_child t node s at (inl h) (from, start, arcs) = (from, start, subst (LeadsTo w.word from) h (then_child t node arcs at))
    by_child t node s at (inr h) (from, start, arcs) = (from, start, subst (LeadsTo w.word from) h (else_child t node arcs at))

    reach : (n s : ℕ) (word : Word) → w.word s ≡ Some word → rank_of w.orders word < n → IsReached w p s
    reach zero s word e lt = absurd (omega (arith, lt))
    reach (suc n) s word e lt = elim (all s (word, e)) [
      | inl perm ↦ (s, inl perm, itself)
      | inr (inl r) ↦ (s, inr ((word, e), r), itself)
      | inr (inr (t, node, at, names)) ↦ (
          let less = named_rank w sound settled t node at s word e names in
          by_child t node s at names (reach n t (Inner node) at (omega (arith, less, lt))))
    ]

-- nodes of one variable do not name one another
rank_var : (o : Orders) (n m : Node) → n.var ≡ m.var → rank_of o (Inner n) ≡ rank_of o (Inner m)
rank_var o n m e = ap (λ (q : ℕ). rank_of o (Inner (record { var = q; hi = n.hi; lo = n.lo }))) e

pub apart_name : (w : Content) → IsSound w → w.half ≡ None → (t : ℕ) (node : Node) → w.word t ≡ Some (Inner node) → (s : ℕ) (m : Node) → w.word s ≡ Some (Inner m) → Names node s → node.var ≢ m.var
apart_name w sound settled t node at s m e names same =
    let less = named_rank w sound settled t node at s (Inner m) e names in
    let equal = rank_var w.orders node m same in omega (arith, less, equal)

pub not_var : (a v : ℕ) → a ≢ v → (a == v) ≡ false
not_var a v ne = at (eqb a v) refl
  where
    at : (c : Bool) → eqb a v ≡ c → c ≡ false
    at true e = absurd (ne (eqb-true a v e))
    at false e = refl

-- lists at two neighbouring places
app_same : (b t u : List ℕ) (j : ℕ) → j < length b → slice_index (b ++ t) j ≡ slice_index (b ++ u) j
app_same [] t u j lt = absurd (omega (arith, lt))
app_same (c ∷ b) t u zero lt = refl
app_same (c ∷ b) t u (suc j) lt = app_same b t u j (omega (arith, lt))

app_at : (b : List ℕ) (x : ℕ) (t : List ℕ) → slice_index (b ++ x ∷ t) (length b) ≡ x
app_at [] x t = refl
app_at (c ∷ b) x t = app_at b x t

app_next : (b : List ℕ) (x y : ℕ) (t : List ℕ) → slice_index (b ++ x ∷ (y ∷ t)) (suc (length b)) ≡ y
app_next [] x y t = refl
app_next (c ∷ b) x y t = app_next b x y t

other_word : (which : Order) (f : Denoted) → (which ≡ which_of f) ⊎ (which ≡ other (which_of f))
other_word Variables (BddFunction f) = inl refl
other_word Variables (AddFunction f) = inl refl
other_word Variables (ZddFamily f) = inr refl
other_word Elements (BddFunction f) = inr refl
other_word Elements (AddFunction f) = inr refl
other_word Elements (ZddFamily f) = inl refl

-- up to the opposite
up_opposite : (w : Content) (s : ℕ) (g : Denoted) → UpTo w s (opposite g) → UpTo w s g
up_opposite w s g (inl a) = inr a
up_opposite w s g (inr a) = inl (a ∙ ap Some (opposite-opposite g))

up_once : (w : Content) → IsSound w → (s t : ℕ) (g : Denoted) → UpTo w s g → UpTo w t g → s ≡ t
up_once w sound s t g (inl a) (inl b) = sound.apart s t g a b
up_once w sound s t g (inl a) (inr b) = slot_once w sound s t g (opposite g) a b (is_one-opposite w.orders g)
up_once w sound s t g (inr a) (inl b) = sym (slot_once w sound t s g (opposite g) b a (is_one-opposite w.orders g))
up_once w sound s t g (inr a) (inr b) = sound.apart s t (opposite g) a b

up_part : (w : Content) (s : ℕ) (f q : Denoted) (v : ℕ) (b : Bool) → (f ≡ q) ⊎ (f ≡ opposite q) → UpTo w s (part_of f v b) → UpTo w s (part_of q v b)
up_part w s f q v b (inl e) u = subst (λ h. UpTo w s (part_of h v b)) e u
up_part w s f q v b (inr e) u = up_opposite w s (part_of q v b) (subst (UpTo w s) (part-opposite q v b) (subst (λ h. UpTo w s (part_of h v b)) e u))

up_function : (w : Content) (s : ℕ) (q : Denoted) → UpTo w s q → (f : Denoted) × (w.function s ≡ Some f) × ((f ≡ q) ⊎ (f ≡ opposite q))
up_function w s q (inl a) = (q, a, inl refl)
up_function w s q (inr a) = (opposite q, a, inr refl)

up_is : (w : Content) (s : ℕ) (f q : Denoted) → w.function s ≡ Some f → UpTo w s q → (f ≡ q) ⊎ (f ≡ opposite q)
up_is w s f q is (inl a) = let same : Some f ≡ Some q = sym is ∙ a in inl cc
up_is w s f q is (inr a) = let same : Some f ≡ Some (opposite q) = sym is ∙ a in inr cc

free_by : (f q : Denoted) (u : ℕ) → (f ≡ q) ⊎ (f ≡ opposite q) → Free q u → Free f u
free_by f q u (inl e) h = subst (λ x. Free x u) (sym e) h
free_by f q u (inr e) h = subst (λ x. Free x u) (sym e) (Free-opposite q u h)

free_back : (f q : Denoted) (u : ℕ) → (f ≡ q) ⊎ (f ≡ opposite q) → Free f u → Free q u
free_back f q u (inl e) h = subst (λ x. Free x u) e h
free_back f q u (inr e) h = subst (λ x. Free x u) (ap opposite e ∙ opposite-opposite q) (Free-opposite f u h)

part_free : (q : Denoted) (u : ℕ) (b : Bool) → Free q u → (part_of q u b ≡ q) ⊎ (part_of q u b ≡ ZddFamily empty)
part_free q u true h = then_part_free q u h
part_free q u false h = inl (part_of_free q u h)

order_rel : (o : Orders) (f q : Denoted) → (f ≡ q) ⊎ (f ≡ opposite q) → order_of o f ≡ order_of o q
order_rel o f q (inl e) = ap (order_of o) e
order_rel o f q (inr e) = ap (order_of o) e ∙ order_of-opposite o q

which_rel : (f q : Denoted) → (f ≡ q) ⊎ (f ≡ opposite q) → which_of f ≡ which_of q
which_rel f q (inl e) = ap which_of e
which_rel f q (inr e) = ap which_of e ∙ which_of-opposite q

pub tested : (v : ℕ) (o : Option Word) → is_node_of v o ≡ true → (node : Node) × (o ≡ Some (Inner node)) × (node.var ≡ v)
tested v None h = let c : false ≡ true = h in cc
tested v (Some (Leaf x)) h = let c : false ≡ true = h in cc
tested v (Some (Inner node)) h = (node, refl, eqb-true node.var v h)

module _ (w : Content) (sound : IsSound w) (settled : w.half ≡ None) where
  -- a slot whose function is free of what stands above a place: a node of the variable there, or free of it too
  next_or_free : (e : ℕ) (f : Denoted) → w.function e ≡ Some f → (k : ℕ) → ((j : ℕ) → j < k → Free f (slice_index (order_of w.orders f) j))
      → Free f (slice_index (order_of w.orders f) k) ⊎ ((node : Node) × (w.word e ≡ Some (Inner node)) × (st : Stands w node f) × (st.var ≡ slice_index (order_of w.orders f) k))
  next_or_free e f is k above = by_word (w.word e) refl
    where
      by_place : (node : Node) → w.word e ≡ Some (Inner node) → Stands w node f
          → Free f (slice_index (order_of w.orders f) k) ⊎ ((node : Node) × (w.word e ≡ Some (Inner node)) × (st : Stands w node f) × (st.var ≡ slice_index (order_of w.orders f) k))
      by_place node word st =
          let p = place_of st.var (order_of w.orders f) in
          let there : slice_index (order_of w.orders f) p ≡ st.var = (order_is w sound settled f).there st.var st.within in
          elim (cases_lt p k) [
            | inl lt ↦ absurd (st.depends_on (subst (Free f) there (above p lt)))
            | inr le ↦ elim (cases_lt k p) [
              | inl lt ↦ inl (st.above k lt)
              | inr ge ↦ (let same : p ≡ k = omega (arith, le, ge) in inr (node, word, st, sym there ∙ ap (slice_index (order_of w.orders f)) same))
            ]
          ]

      by_word : (o : Option Word) → w.word e ≡ o
          → Free f (slice_index (order_of w.orders f) k) ⊎ ((node : Node) × (w.word e ≡ Some (Inner node)) × (st : Stands w node f) × (st.var ≡ slice_index (order_of w.orders f) k))
      by_word None word = let u = sound.used e f is in let c : None ≡ Some u.0 = sym word ∙ u.1 in cc
      by_word (Some (Leaf x)) word = inl (leaf_free w sound e x f word is (slice_index (order_of w.orders f) k))
      by_word (Some (Inner node)) word = by_place node word (stands w sound settled e node f word is)

  own_var : (node : Node) (f : Denoted) (st : Stands w node f) (which : Order) (u : ℕ) → u < length (in_order w.orders which) → node.var ≡ number_of which u → (which ≡ which_of f) × (st.var ≡ u)
  own_var node f st which u lt e = at (other_word which f)
    where
      at : (which ≡ which_of f) ⊎ (which ≡ other (which_of f)) → (which ≡ which_of f) × (st.var ≡ u)
      at (inl same) = (same, number_once which st.var u (ap (λ x. number_of x st.var) same ∙ st.numbered ∙ e))
      at (inr o) = absurd (st.not_other u (subst (λ x. u < length (in_order w.orders x)) o lt) (e ∙ ap (λ x. number_of x u) o))

  child_of : (node : Node) (f : Denoted) (st : Stands w node f) (b : Bool) → (e : ℕ) × Names node e × UpTo w e (part_of f st.var b)
  child_of node f st true = (node.hi, inl refl, inl st.then_is)
  child_of node f st false = (node.lo.index, inr refl, st.else_is)

  part_named : (node : Node) (f : Denoted) (st : Stands w node f) (s : ℕ) → Names node s → (b : Bool) × UpTo w s (part_of f st.var b)
  part_named node f st s (inl h) = (true, subst (λ t. UpTo w t (part_of f st.var true)) h (inl st.then_is))
  part_named node f st s (inr h) = (false, subst (λ t. UpTo w t (part_of f st.var false)) h st.else_is)

module _ (v x : Content) (sv : IsSound v) (hv : v.half ≡ None) (sx : IsSound x) (hx : x.half ≡ None) (which : Order) (level : ℕ)
    (within : level + 1 < length (in_order v.orders which))
    (exchanged : in_order x.orders which ≡ swap (in_order v.orders which) level (level + 1))
    (function : (s : ℕ) (f : Denoted) → v.function s ≡ Some f → x.function s ≡ Some f)
    (same_word : (s : ℕ) (word : Word) → v.word s ≡ Some word → is_node_of (number_of which (slice_index (in_order v.orders which) level)) (Some word) ≡ false → x.word s ≡ Some word)
    (stored : (s : ℕ) → v.word s ≡ None → IsUsed x s → IsNamedBefore v x (number_of which (slice_index (in_order v.orders which) level)) v.limit s)
    (long : length x.orders.variables ≡ length v.orders.variables) (p : ℕ → Bool) (held : (s : ℕ) → IsUsed v s → IsHeldUp v p s) where
  abbrev yy : ℕ
  yy = slice_index (in_order v.orders which) level

  abbrev zz : ℕ
  zz = slice_index (in_order v.orders which) (level + 1)

  -- of a slot that was in use before the swap
  kept_used : (s : ℕ) → IsUsed v s → IsUsed x s
  kept_used s u = let d = sv.denotes s u in sx.used s d.0 (function s d.0 d.1)

  o_is : IsOrder (in_order v.orders which)
  o_is = order_at_is v sv which

  at_y : place_of (slice_index (in_order v.orders which) level) (in_order v.orders which) ≡ level
  at_y = o_is.once level (omega (arith, within))

  y_within : slice_index (in_order v.orders which) level < length (in_order v.orders which)
  y_within = o_is.below level (omega (arith, within))

  z_within : slice_index (in_order v.orders which) (level + 1) < length (in_order v.orders which)
  z_within = o_is.below (level + 1) within

  y_not_z : slice_index (in_order v.orders which) level ≢ slice_index (in_order v.orders which) (level + 1)
  y_not_z e =
      let b = o_is.once (level + 1) within in
      let c : place_of (slice_index (in_order v.orders which) level) (in_order v.orders which) ≡ place_of (slice_index (in_order v.orders which) (level + 1)) (in_order v.orders which) = ap (λ u. place_of u (in_order v.orders which)) e in
      let a = at_y in
      omega (arith, a, b, c)

  record Places : Type 0 where
    before : (j : ℕ) → j < level → slice_index (in_order x.orders which) j ≡ slice_index (in_order v.orders which) j
    here : slice_index (in_order x.orders which) level ≡ slice_index (in_order v.orders which) (level + 1)
    next : slice_index (in_order x.orders which) (level + 1) ≡ slice_index (in_order v.orders which) level

  places : Places
  places =
      let one : level + 1 ≡ suc level = omega arith in
      let sp = split (in_order v.orders which) level (omega (arith, within)) in
      let is : in_order x.orders which ≡ sp.before ++ sp.x ∷ (sp.y ∷ sp.rest) = exchanged ∙ ap (swap (in_order v.orders which) level) one ∙ sp.exchanged in
      let lower : slice_index (in_order v.orders which) (level + 1) ≡ sp.x = ap (slice_index (in_order v.orders which)) one ∙ sp.lower in
      record {
        before = λ j lt.
            let l = sp.long in
            ap (λ l. slice_index l j) is ∙ app_same sp.before (sp.x ∷ (sp.y ∷ sp.rest)) (sp.y ∷ (sp.x ∷ sp.rest)) j (omega (arith, l, lt)) ∙ ap (λ l. slice_index l j) (sym sp.is);
        here = ap (λ l. slice_index l level) is ∙ ap (slice_index (sp.before ++ sp.x ∷ (sp.y ∷ sp.rest))) (sym sp.long) ∙ app_at sp.before sp.x (sp.y ∷ sp.rest) ∙ sym lower;
        next = ap (λ l. slice_index l (level + 1)) is ∙ ap (slice_index (sp.before ++ sp.x ∷ (sp.y ∷ sp.rest))) (one ∙ ap suc (sym sp.long)) ∙ app_next sp.before sp.x sp.y sp.rest ∙ sym sp.upper;
      }

  perm_kept : (s : ℕ) → IsPermanent v s → IsPermanent x s
  perm_kept s (inl lt) = inl lt
  perm_kept s (inr (q, lt, word)) =
      let ltx : q < length x.orders.variables = omega (arith, lt, long) in
      let pr = sx.projections q ltx in
      let f = function s (BddFunction (projection q)) (projection_denotes v sv hv s q word) in
      let g = projection_denotes x sx hx pr.0 q pr.1 in
      let same = sx.apart s pr.0 (BddFunction (projection q)) f g in
      inr (q, ltx, ap x.word same ∙ pr.1)

  upper_test : (node : Node) → (node.var ≡ number_of which (slice_index (in_order v.orders which) level)) ⊎ (is_node_of (number_of which (slice_index (in_order v.orders which) level)) (Some (Inner node)) ≡ false)
  upper_test node = elim (cases_eq node.var (number_of which (slice_index (in_order v.orders which) level))) [
    | inl e ↦ inl e
    | inr ne ↦ inr (not_var node.var (number_of which (slice_index (in_order v.orders which) level)) ne)
  ]

  lower_test : (node : Node) → (node.var ≡ number_of which (slice_index (in_order v.orders which) (level + 1))) ⊎ (is_node_of (number_of which (slice_index (in_order v.orders which) (level + 1))) (Some (Inner node)) ≡ false)
  lower_test node = elim (cases_eq node.var (number_of which (slice_index (in_order v.orders which) (level + 1)))) [
    | inl e ↦ inl e
    | inr ne ↦ inr (not_var node.var (number_of which (slice_index (in_order v.orders which) (level + 1))) ne)
  ]

  -- a node of the upper variable is held up still
  upper_held : (t : ℕ) (node : Node) → v.word t ≡ Some (Inner node) → node.var ≡ number_of which (slice_index (in_order v.orders which) level) → IsHeldUp x p t
  upper_held t node word var = elim (held t (Inner node, word)) [
    | inl perm ↦ inl (perm_kept t perm)
    | inr (inl r) ↦ inr (inl r)
    | inr (inr (r, m, at, names)) ↦ elim (upper_test m) [
      | inl same ↦ absurd (apart_name v sv hv r m at t node word names (same ∙ sym var))
      | inr differ ↦ inr (inr (r, m, same_word r (Inner m) at differ, names))
    ]
  ]

  abbrev Found : ℕ → Type 0
  Found s = IsPermanent x s ⊎ IsNamedByStaying x p (number_of which (slice_index (in_order v.orders which) (level + 1))) s

  empty_found : (s : ℕ) → UpTo x s (ZddFamily empty) → Found s
  empty_found s u = inl (inl (let e = at u in omega (arith, e)))
    where
      at : UpTo x s (ZddFamily empty) → s ≡ 1
      at (inl a) = sx.apart s 1 (ZddFamily empty) a sx.empty_family
      at (inr a) = sx.apart s 1 (ZddFamily empty) a sx.empty_family

  up_kept : (s : ℕ) (g : Denoted) → UpTo v s g → UpTo x s g
  up_kept s g (inl a) = inl (function s g a)
  up_kept s g (inr a) = inr (function s (opposite g) a)

  -- what a node of the upper variable leads to over both levels
  quarter : (t : ℕ) (node : Node) → v.word t ≡ Some (Inner node) → node.var ≡ number_of which (slice_index (in_order v.orders which) level)
      → (f : Denoted) → v.function t ≡ Some f → (s : ℕ) (b c : Bool) → UpTo v s (part_of (part_of f (slice_index (in_order v.orders which) level) b) (slice_index (in_order v.orders which) (level + 1)) c) → Found s
  quarter t node word var f is s b c up =
      let st = stands v sv hv t node f word is in
      let own = own_var v sv hv node f st which yy y_within var in
      let ord_v : order_of v.orders f ≡ in_order v.orders which = sym (order_of-which v.orders f) ∙ ap (in_order v.orders) (sym own.0) in
      let place : place_of st.var (order_of v.orders f) ≡ level = ap (λ u. place_of u (order_of v.orders f)) own.1 ∙ ap (place_of (slice_index (in_order v.orders which) level)) ord_v ∙ at_y in
      main own.0 (λ h. st.depends_on (subst (Free f) (sym own.1) h))
      (λ j lt. subst (Free f) (ap (λ l. slice_index l j) ord_v ∙ sym (places.before j lt)) (st.above j (omega (arith, place, lt))))
    where
      up_x : UpTo x s (part_of (part_of f yy b) zz c)
      up_x = up_kept s (part_of (part_of f yy b) zz c) up

      is_x : x.function t ≡ Some f
      is_x = function t f is

      staying : IsUsed x t → Stays x p (number_of which zz) t
      staying u = (u, inr (upper_held t node word var))

      order_x : which ≡ which_of f → order_of x.orders f ≡ in_order x.orders which
      order_x same = sym (order_of-which x.orders f) ∙ ap (in_order x.orders) (sym same)

      case_free : which ≡ which_of f → (Free f yy → ⊥) → ((j : ℕ) → j < level → Free f (slice_index (in_order x.orders which) j)) → Free f zz → Found s
      case_free same depends above free =
          let ord = order_x same in
          elim (next_or_free x sx hx t f is_x (level + 1) (λ j lt. subst (λ l. Free f (slice_index l j)) (sym ord) (elim (cases_lt j level) [
            | inl less ↦ above j less
            | inr le ↦ (let e : j ≡ level = omega (arith, le, lt) in subst (Free f) (sym (ap (slice_index (in_order x.orders which)) e ∙ places.here)) free)
          ]))) [
            | inl free_y ↦ absurd (depends (subst (Free f) (ap (λ l. slice_index l (level + 1)) ord ∙ places.next) free_y))
            | inr (m, at, st, var_m) ↦ (
                let var_y : st.var ≡ yy = var_m ∙ ap (λ l. slice_index l (level + 1)) ord ∙ places.next in
                let ch = child_of x sx hx m f st b in
                let up_e : UpTo x ch.0 (part_of f yy b) = subst (λ u. UpTo x ch.0 (part_of f u b)) var_y ch.2 in
                elim (part_free (part_of f yy b) zz c (Free-more f zz yy b free)) [
                  | inl e ↦ (let eq : s ≡ ch.0 = up_once x sx s ch.0 (part_of f yy b) (subst (UpTo x s) e up_x) up_e in
                      inr (t, staying (Inner m, at), (m, at, subst (Names m) (sym eq) ch.1)))
                  | inr e ↦ empty_found s (subst (UpTo x s) e up_x)
                ])
          ]

      case_turned : which ≡ which_of f → ((j : ℕ) → j < level → Free f (slice_index (in_order x.orders which) j)) → (m : Node) → x.word t ≡ Some (Inner m) → (st : Stands x m f) → st.var ≡ zz → Found s
      case_turned same above m at st var_z =
          let ch = child_of x sx hx m f st c in
          let up_e : UpTo x ch.0 (part_of f zz c) = subst (λ u. UpTo x ch.0 (part_of f u c)) var_z ch.2 in
          let fe = up_function x ch.0 (part_of f zz c) up_e in
          let ord_e : order_of x.orders fe.0 ≡ in_order x.orders which = order_rel x.orders fe.0 (part_of f zz c) fe.2 ∙ order_of-part x.orders f zz c ∙ order_x same in
          let which_e : which_of fe.0 ≡ which = which_rel fe.0 (part_of f zz c) fe.2 ∙ which_of-part f zz c ∙ sym same in
          let up_q : UpTo x s (part_of (part_of f zz c) yy b) = subst (UpTo x s) (parts-commute f yy zz b c y_not_z) up_x in
          elim (next_or_free x sx hx ch.0 fe.0 fe.1 (level + 1) (λ j lt. subst (λ l. Free fe.0 (slice_index l j)) (sym ord_e)
          (free_by fe.0 (part_of f zz c) (slice_index (in_order x.orders which) j) fe.2 (elim (cases_lt j level) [
            | inl less ↦ Free-more f (slice_index (in_order x.orders which) j) zz c (above j less)
            | inr le ↦ (let e : j ≡ level = omega (arith, le, lt) in subst (Free (part_of f zz c)) (sym (ap (slice_index (in_order x.orders which)) e ∙ places.here)) (Free-part f zz c))
          ])))) [
            | inl free ↦ (
                let free_q : Free (part_of f zz c) yy = free_back fe.0 (part_of f zz c) yy fe.2 (subst (Free fe.0) (ap (λ l. slice_index l (level + 1)) ord_e ∙ places.next) free) in
                elim (part_free (part_of f zz c) yy b free_q) [
                  | inl e ↦ (let eq : s ≡ ch.0 = up_once x sx s ch.0 (part_of f zz c) (subst (UpTo x s) e up_q) up_e in
                      inr (t, staying (Inner m, at), (m, at, subst (Names m) (sym eq) ch.1)))
                  | inr e ↦ empty_found s (subst (UpTo x s) e up_q)
                ])
            | inr (n, at_n, st_n, var_n) ↦ (
                let var_y : st_n.var ≡ yy = var_n ∙ ap (λ l. slice_index l (level + 1)) ord_e ∙ places.next in
                let ch2 = child_of x sx hx n fe.0 st_n b in
                let up2 : UpTo x ch2.0 (part_of (part_of f zz c) yy b) = up_part x ch2.0 fe.0 (part_of f zz c) yy b fe.2 (subst (λ u. UpTo x ch2.0 (part_of fe.0 u b)) var_y ch2.2) in
                let eq : s ≡ ch2.0 = up_once x sx s ch2.0 (part_of (part_of f zz c) yy b) up_q up2 in
                let number : n.var ≡ number_of which yy = sym st_n.numbered ∙ ap (λ w. number_of w st_n.var) which_e ∙ ap (number_of which) var_y in
                let not_lower : is_node_of (number_of which zz) (x.word ch.0) ≡ false =
                ap (is_node_of (number_of which zz)) at_n ∙ not_var n.var (number_of which zz) (λ h. y_not_z (number_once which yy zz (sym number ∙ h))) in
                inr (ch.0, ((Inner n, at_n), inl not_lower), (n, at_n, subst (Names n) (sym eq) ch2.1)))
          ]

      main : which ≡ which_of f → (Free f yy → ⊥) → ((j : ℕ) → j < level → Free f (slice_index (in_order x.orders which) j)) → Found s
      main same depends above =
          let ord = order_x same in
          elim (next_or_free x sx hx t f is_x level (λ j lt. subst (λ l. Free f (slice_index l j)) (sym ord) (above j lt))) [
            | inl free ↦ case_free same depends above (subst (Free f) (ap (λ l. slice_index l level) ord ∙ places.here) free)
            | inr (m, at, st, var_m) ↦ case_turned same above m at st (var_m ∙ ap (λ l. slice_index l level) ord ∙ places.here)
          ]

  -- a child of a node of the upper variable, that is no node of the lower one now
  upper_child : (t : ℕ) (node : Node) → v.word t ≡ Some (Inner node) → node.var ≡ number_of which (slice_index (in_order v.orders which) level) → (s : ℕ) → Names node s
      → is_node_of (number_of which (slice_index (in_order v.orders which) (level + 1))) (x.word s) ≡ false → Found s
  upper_child t node word var s names differ =
      let d = sv.denotes t (Inner node, word) in
      let st = stands v sv hv t node d.0 word d.1 in
      let own = own_var v sv hv node d.0 st which yy y_within var in
      let pn = part_named v sv hv node d.0 st s names in
      let up : UpTo v s (part_of d.0 yy pn.0) = subst (λ u. UpTo v s (part_of d.0 u pn.0)) own.1 pn.1 in
      let fs = up_function v s (part_of d.0 yy pn.0) up in
      let ord_v : order_of v.orders d.0 ≡ in_order v.orders which = sym (order_of-which v.orders d.0) ∙ ap (in_order v.orders) (sym own.0) in
      let place : place_of st.var (order_of v.orders d.0) ≡ level = ap (λ u. place_of u (order_of v.orders d.0)) own.1 ∙ ap (place_of yy) ord_v ∙ at_y in
      let ord_s : order_of v.orders fs.0 ≡ in_order v.orders which = order_rel v.orders fs.0 (part_of d.0 yy pn.0) fs.2 ∙ order_of-part v.orders d.0 yy pn.0 ∙ ord_v in
      let which_s : which_of fs.0 ≡ which = which_rel fs.0 (part_of d.0 yy pn.0) fs.2 ∙ which_of-part d.0 yy pn.0 ∙ sym own.0 in
      elim (next_or_free v sv hv s fs.0 fs.1 (level + 1) (λ j lt. subst (λ l. Free fs.0 (slice_index l j)) (sym ord_s)
      (free_by fs.0 (part_of d.0 yy pn.0) (slice_index (in_order v.orders which) j) fs.2 (elim (cases_lt j level) [
        | inl less ↦ Free-more d.0 (slice_index (in_order v.orders which) j) yy pn.0 (subst (Free d.0) (ap (λ l. slice_index l j) ord_v) (st.above j (omega (arith, place, less))))
        | inr le ↦ (let e : j ≡ level = omega (arith, le, lt) in subst (Free (part_of d.0 yy pn.0)) (sym (ap (slice_index (in_order v.orders which)) e)) (Free-part d.0 yy pn.0))
      ])))) [
        | inl free ↦ (
            let free_g : Free (part_of d.0 yy pn.0) zz = free_back fs.0 (part_of d.0 yy pn.0) zz fs.2 (subst (Free fs.0) (ap (λ l. slice_index l (level + 1)) ord_s) free) in
            quarter t node word var d.0 d.1 s pn.0 false (subst (UpTo v s) (sym (part_of_free (part_of d.0 yy pn.0) zz free_g)) up))
        | inr (n, at_n, st_n, var_n) ↦ (
            let var_z : st_n.var ≡ zz = var_n ∙ ap (λ l. slice_index l (level + 1)) ord_s in
            let number : n.var ≡ number_of which zz = sym st_n.numbered ∙ ap (λ w. number_of w st_n.var) which_s ∙ ap (number_of which) var_z in
            let not_upper = not_var n.var (number_of which yy) (λ h. y_not_z (number_once which yy zz (sym h ∙ number))) in
            let stands_x = same_word s (Inner n) at_n not_upper in
            let clash : true ≡ false = sym (eq-eqb n.var (number_of which zz) number) ∙ sym (ap (is_node_of (number_of which zz)) stands_x) ∙ differ in cc)
      ]

  -- a child of a node of the lower variable
  lower_child : (t : ℕ) (node : Node) → v.word t ≡ Some (Inner node) → x.word t ≡ Some (Inner node) → node.var ≡ number_of which (slice_index (in_order v.orders which) (level + 1)) → (s : ℕ) → Names node s → Found s
  lower_child t node word word_x var s names = elim (held t (Inner node, word)) [
    | inl perm ↦ stays (inl (perm_kept t perm))
    | inr (inl r) ↦ stays (inr (inl r))
    | inr (inr (r, m, at, names_t)) ↦ elim (upper_test m) [
      | inr differ ↦ stays (inr (inr (r, m, same_word r (Inner m) at differ, names_t)))
      | inl upper ↦ (
          let d = sv.denotes r (Inner m, at) in
          let st = stands v sv hv r m d.0 at d.1 in
          let own = own_var v sv hv m d.0 st which yy y_within upper in
          let pn = part_named v sv hv m d.0 st t names_t in
          let up_t : UpTo v t (part_of d.0 yy pn.0) = subst (λ u. UpTo v t (part_of d.0 u pn.0)) own.1 pn.1 in
          let dt = sv.denotes t (Inner node, word) in
          let st_t = stands v sv hv t node dt.0 word dt.1 in
          let own_t = own_var v sv hv node dt.0 st_t which zz z_within var in
          let pt = part_named v sv hv node dt.0 st_t s names in
          let up_s : UpTo v s (part_of dt.0 zz pt.0) = subst (λ u. UpTo v s (part_of dt.0 u pt.0)) own_t.1 pt.1 in
          quarter r m at upper d.0 d.1 s pn.0 pt.0 (up_part v s dt.0 (part_of d.0 yy pn.0) zz pt.0 (up_is v t dt.0 (part_of d.0 yy pn.0) dt.1 up_t) up_s))
    ]
  ]
    where
      stays : IsHeldUp x p t → Found s
      stays h = inr (t, ((Inner node, word_x), inr h), (node, word_x, names))

  -- What is no node of the lower variable is permanent, a root, or named by a node that stays.
  pub swapped_named : (s : ℕ) → IsUsed x s → is_node_of (number_of which (slice_index (in_order v.orders which) (level + 1))) (x.word s) ≡ false
      → IsPermanent x s ⊎ ((p s ≡ true) ⊎ IsNamedByStaying x p (number_of which (slice_index (in_order v.orders which) (level + 1))) s)
  swapped_named s used differ = by_word (v.word s) refl
    where
      by_found : Found s → IsPermanent x s ⊎ ((p s ≡ true) ⊎ IsNamedByStaying x p (number_of which (slice_index (in_order v.orders which) (level + 1))) s)
      by_found (inl perm) = inl perm
      by_found (inr n) = inr (inr n)

      by_name : IsNamedBefore v x (number_of which (slice_index (in_order v.orders which) level)) v.limit s → Found s
      by_name (t, node, lt, at, names, was) =
          let n = tested (number_of which (slice_index (in_order v.orders which) level)) (v.word t) was in
          inr (t, ((Inner node, at), inr (upper_held t n.0 n.1 n.2)), (node, at, names))

      by_word : (o : Option Word) → v.word s ≡ o → IsPermanent x s ⊎ ((p s ≡ true) ⊎ IsNamedByStaying x p (number_of which (slice_index (in_order v.orders which) (level + 1))) s)
      by_word None none = by_found (by_name (stored s none used))
      by_word (Some word) is = elim (held s (word, is)) [
        | inl perm ↦ inl (perm_kept s perm)
        | inr (inl r) ↦ inr (inl r)
        | inr (inr (t, node, at, names)) ↦ elim (upper_test node) [
          | inl upper ↦ by_found (upper_child t node at upper s names differ)
          | inr not_upper ↦ (
              let at_x = same_word t (Inner node) at not_upper in
              elim (lower_test node) [
                | inl lower ↦ by_found (lower_child t node at at_x lower s names)
                | inr not_lower ↦ inr (inr (t, ((Inner node, at_x), inl (ap (is_node_of (number_of which (slice_index (in_order v.orders which) (level + 1)))) at_x ∙ not_lower)), (node, at_x, names)))
              ])
        ]
      ]
