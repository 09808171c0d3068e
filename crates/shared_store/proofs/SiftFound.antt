-- What a sift finds is what the seat which has the turn knows.
use Rattle.std.proofs.Common.{◌≡◌, inl, inr, ℕ, zero, suc, ◌+◌, ◌==◌, ◌<◌, ◌≤◌, ◌^◌, Bool, true, false, not, cond, List, [], ◌∷◌, ◌++◌, length, map, Option, Some, None, refl, ap, sym, subst, ◌∙◌, arith, eq-eqb, ne_eqb}
use Rattle.std.specs.List.{filter, range_with_len}
use Rattle.std.proofs.lemmas.Bool.{false≢true}
use Rattle.edge_bits.specs.declared.edges.Kind.{Kind}
use Rattle.edge_bits.specs.declared.edges.Kind.TheVariants as kinds
use Rattle.function_laws.specs.declared.history.Function.{Function}
use Rattle.function_laws.specs.declared.history.Function.TheVariants.{Bdd, Add, Zdd}
use Rattle.function_laws.specs.declared.orders.Order.{Order}
use Rattle.function_laws.specs.Functions.{not_of}
use Rattle.function_laws.specs.Kinds.{Denoted, BddFunction, AddFunction, ZddFamily, ValueOf, Lacks, flipped, function_of}
use Rattle.function_laws.specs.Lists.{list_of}
use Rattle.function_laws.specs.SessionEntries.{Each}
use Rattle.function_laws.specs.SiftEntries.{AreApart, AreOne, IsAmong}
use Rattle.function_laws.specs.SiftedOrders.{Block}
use Rattle.function_laws.specs.Sizes.{Orders}
use Rattle.function_laws.specs.Values.{negation}
use Rattle.function_laws.specs.Widening.{at_sizes}
use Rattle.function_laws.proofs.BridgeLemmas.{not_of-list_of}
use Rattle.function_laws.proofs.DistinctLemmas.{In}
use Rattle.function_laws.proofs.ListLemmas.{list_of-same}
use Rattle.function_laws.proofs.WidthLemmas.{same-from_lists}
use Rattle.node_store.specs.Contents.{Content, IsSound}
use Rattle.node_store.specs.KindLaws.{flipped-some}
use Rattle.node_store.specs.Listed.{listed}
use Rattle.node_store.specs.Sweeps.{functions_of, value_list}
use Rattle.node_store.specs.Views.{View, IsBeyond, values_at}
use Rattle.node_store.proofs.ListedLaws.{same-listed}
use Rattle.node_store.proofs.SlotLists.{In-functions, In-range, bit-ones, functions-In, ones, range-In}
use Rattle.node_store.proofs.Widths.{In-filter, filter-In}
use Rattle.node_slots.specs.Stores.{IsStore}
use Rattle.node_slots.specs.Wholes.{content_view}
use Rattle.node_slots.proofs.Settling.{settled_sound}
use Rattle.seat_guard.specs.declared.view.Draws.{Draws}
use Rattle.seat_guard.specs.declared.view.Held.{Held}
use Rattle.seat_guard.specs.declared.view.Row.{Row}
use Rattle.seat_guard.specs.Known.{known_at, sizes_for}
use Rattle.seat_guard.specs.Finds.{IsFoundBy}
use Rattle.seat_guard.specs.Moves.{HasNoted}
use Rattle.seat_guard.specs.declared.view.Counts.{Counts}
use Rattle.shared_store.specs.Counted.{AreRead}
use Rattle.seat_guard.specs.Turn.{one_if, row_count}
use Rattle.shared_store.specs.declared.shared.Shared.{Shared}
use Rattle.shared_store.specs.Sharing.{IsHeldIn, Serving, count, keeps, kind_of, noted_in, view_of, whole_of}
use Rattle.shared_store.specs.Sifting.{counted_functions, is_counted, sifting_of}

-- as a whole list, what denotes a function is what lists its values
whole-listed : (k : Kind) (w : View) (f : ℕ → ValueOf k) → whole_of w (function_of k f) ≡ listed k w f
whole-listed kinds.Bdd w f = refl
whole-listed kinds.Add w f = refl
whole-listed kinds.Zdd w f = refl

one-itself : (f : Function) → AreOne f f
one-itself (Bdd f) = inl refl
one-itself (Add f) = refl
one-itself (Zdd p) = refl

-- a count that is not 0, and one that is
positive : (n : ℕ) → 0 < n → not (n == 0) ≡ true
positive n lt = ap not (ne_eqb n 0 (λ e. omega (arith, e, lt)))

above : (n : ℕ) → not (n == 0) ≡ true → 0 < n
above zero e = cc
above (suc n) e = omega arith

module _ (x : Shared) (of : IsStore x.store) where
  abbrev content : Content
  content = content_view x.store

  abbrev w : View
  w = view_of x

  sound : IsSound content
  sound = settled_sound x.store of

  -- a function of the store depends on its variables alone
  lacks : (s : ℕ) (k : Kind) (f : ℕ → ValueOf k) → content.function s ≡ Some (function_of k f) → (v : ℕ) → IsBeyond k w v → Lacks k f v
  lacks s kinds.Bdd f is v h = (sound.of_store s kinds.Bdd f is).0 v (subst (λ n. n ≤ v) (sym of.variables_stand.as_many) h)
  lacks s kinds.Add f is v h = (sound.of_store s kinds.Add f is).0 v (subst (λ n. n ≤ v) (sym of.variables_stand.as_many) h)
  lacks s kinds.Zdd f is v h = (sound.of_store s kinds.Zdd f is).0 v (let e = of.elements_stand.as_many in omega (arith, h, e))

  -- where two BDDs are complements by their lists, both would be true where all variables are
  no-complement : (s t : ℕ) (f g : ℕ → Bool) → content.function s ≡ Some (BddFunction f) → content.function t ≡ Some (BddFunction g) → list_of (2 ^ w.vars) f ≡ not_of (list_of (2 ^ w.vars) g) → ⊥
  no-complement s t f g fs gt e =
      let same : f ≡ negation g = same-from_lists w.vars f (negation g) (lacks s kinds.Bdd f fs) (λ v le k b. ap not (lacks t kinds.Bdd g gt v le k b)) (e ∙ not_of-list_of (2 ^ w.vars) g) in
      let n = length content.orders.variables in
      let a = sound.regular s f fs (ones n) (λ v lt. bit-ones n v lt) in
      let b = sound.regular t g gt (ones n) (λ v lt. bit-ones n v lt) in
      false≢true (ap not (sym b) ∙ ap (λ (h : ℕ → Bool). h (ones n)) (sym same) ∙ a)

  same-slot : (s t : ℕ) (k : Kind) (f g : ℕ → ValueOf k) → content.function s ≡ Some (function_of k f) → content.function t ≡ Some (function_of k g) → listed k w f ≡ listed k w g → s ≡ t
  same-slot s t k f g fs gt e = sound.apart s t (function_of k f) fs (gt ∙ ap (λ h. Some (function_of k h)) (sym (same-listed k w f g (lacks s k f fs) (lacks t k g gt) e)))

  -- slots whose functions are one are one
  one-slot : (s t : ℕ) (f g : Denoted) → content.function s ≡ Some f → content.function t ≡ Some g → AreOne (whole_of w f) (whole_of w g) → s ≡ t
  one-slot s t (BddFunction f) (BddFunction g) fs gt (inl e) = same-slot s t kinds.Bdd f g fs gt (ap Bdd e)
  one-slot s t (BddFunction f) (BddFunction g) fs gt (inr e) = absurd (no-complement s t f g fs gt e)
  one-slot s t (BddFunction f) (AddFunction g) fs gt e = let z : Bdd (list_of (2 ^ w.vars) f) ≡ Add (list_of (2 ^ w.vars) g) = e in cc
  one-slot s t (BddFunction f) (ZddFamily g) fs gt e = let z : Bdd (list_of (2 ^ w.vars) f) ≡ Zdd (list_of (2 ^ w.elements) g) = e in cc
  one-slot s t (AddFunction f) (BddFunction g) fs gt e = let z : Add (list_of (2 ^ w.vars) f) ≡ Bdd (list_of (2 ^ w.vars) g) = e in cc
  one-slot s t (AddFunction f) (AddFunction g) fs gt e = same-slot s t kinds.Add f g fs gt e
  one-slot s t (AddFunction f) (ZddFamily g) fs gt e = let z : Add (list_of (2 ^ w.vars) f) ≡ Zdd (list_of (2 ^ w.elements) g) = e in cc
  one-slot s t (ZddFamily f) (BddFunction g) fs gt e = let z : Zdd (list_of (2 ^ w.elements) f) ≡ Bdd (list_of (2 ^ w.vars) g) = e in cc
  one-slot s t (ZddFamily f) (AddFunction g) fs gt e = let z : Zdd (list_of (2 ^ w.elements) f) ≡ Add (list_of (2 ^ w.vars) g) = e in cc
  one-slot s t (ZddFamily f) (ZddFamily g) fs gt e = same-slot s t kinds.Zdd f g fs gt e

  -- each of a list's functions, as whole lists, has what each has that is among them
  each-whole : (P : Function → Type 0) (fs : List Denoted) → ((g : Denoted) → In g fs → P (whole_of w g)) → Each P (map (whole_of w) fs)
  each-whole P [] h = tt
  each-whole P (f ∷ fs) h = (h f (inl refl), each-whole P fs (λ g i. h g (inr i)))

  among-whole : (h : Function) (f : Denoted) (fs : List Denoted) → In f fs → AreOne (whole_of w f) h → IsAmong (map (whole_of w) fs) h
  among-whole h f [] i one = absurd i
  among-whole h f (g ∷ fs) (inl same) one = inl (subst (λ (d : Denoted). AreOne (whole_of w d) h) same one)
  among-whole h f (g ∷ fs) (inr i) one = inr (among-whole h f fs i one)

  -- no two of those of some slots are one
  apart-with : (s : ℕ) (o : Option Denoted) (rest : List Denoted) → content.function s ≡ o → ((g : Denoted) → In g rest → (t : ℕ) × (s < t) × (content.function t ≡ Some g)) → AreApart (map (whole_of w) rest)
      → AreApart (map (whole_of w) (value_list o ++ rest))
  apart-with s None rest e later h = h
  apart-with s (Some f) rest e later h =
      (each-whole (λ g. AreOne (whole_of w f) g → ⊥) rest (λ g i one. let l = later g i in let same = one-slot s l.0 f g e l.2 one in omega (arith, same, l.1)), h)

  apart-slots : (p : ℕ → Bool) (a n : ℕ) → AreApart (map (whole_of w) (functions_of content.function (filter p (range_with_len a n))))
  unfolding functions_of
  apart-slots p a zero = tt
  apart-slots p a (suc n) = at (p a) (apart-slots p (a + 1) n)
    where
      at : (b : Bool) → AreApart (map (whole_of w) (functions_of content.function (filter p (range_with_len (a + 1) n))))
          → AreApart (map (whole_of w) (functions_of content.function (cond b (a ∷ filter p (range_with_len (a + 1) n)) (filter p (range_with_len (a + 1) n)))))
      at true rest = apart-with a (content.function a) (functions_of content.function (filter p (range_with_len (a + 1) n))) refl
          (λ g i.
          let z = In-functions content.function g (filter p (range_with_len (a + 1) n)) i in
          let r = In-range z.0 (a + 1) n (filter-In p z.0 (range_with_len (a + 1) n) z.1).0 in (z.0, omega (arith, r.0), z.2))
          rest
      at false rest = rest

  -- what an edge denotes is one with what its slot denotes
  edge-one : (h : Held) (s : ℕ) (f : Denoted) → IsHeldIn w h → h.edge.index ≡ s → content.function s ≡ Some f → AreOne (whole_of w f) (noted_in w h.function)
  edge-one h s f kept at is = by f h.edge.complement (ap (flipped h.edge.complement) (sym is ∙ ap content.function (sym at)) ∙ kept.0.is)
    where
      k : Kind
      k = kind_of h.function

      v : ℕ → ValueOf k
      v = values_at k w h.edge

      whole-is : whole_of w (function_of k v) ≡ noted_in w h.function
      whole-is = whole-listed k w v ∙ kept.1

      by : (f : Denoted) (b : Bool) → flipped b (Some f) ≡ Some (function_of k v) → AreOne (whole_of w f) (noted_in w h.function)
      by f false e = let same : f ≡ function_of k v = cc in subst (AreOne (whole_of w f)) (ap (whole_of w) same ∙ whole-is) (one-itself (whole_of w f))
      by (BddFunction f) true e =
          let same : BddFunction (negation f) ≡ function_of k v = cc in
          subst (AreOne (Bdd (list_of (2 ^ w.vars) f))) (ap (whole_of w) same ∙ whole-is)
          (inr (list_of-same (2 ^ w.vars) f (negation (negation f)) (λ k lt. twice (f k)) ∙ sym (not_of-list_of (2 ^ w.vars) (negation f))))
        where
          twice : (b : Bool) → b ≡ not (not b)
          twice true = refl
          twice false = refl
      by (AddFunction f) true e = cc
      by (ZddFamily f) true e = cc

  module _ (d : Draws) (c : Counts) (serves : Serving x d c) (read : AreRead x d c) where
    -- what an edge denotes is as the seat knows it
    known-held : (h : Held) → noted_in w h.function ≡ known_at d h.function
    known-held h = ap (λ (p : ℕ × ℕ × ℕ). at_sizes (sizes_for p.0 p.1) h.function) serves.counts_are

    edge-known : (h : Held) (s : ℕ) (f : Denoted) → keeps x h → h.edge.index ≡ s → content.function s ≡ Some f → AreOne (whole_of w f) (known_at d h.function)
    edge-known h s f kept at is = subst (AreOne (whole_of w f)) (known-held h) (edge-one h s f kept at is)

    -- what is counted was noted
    noted-slot : (s : ℕ) (f : Denoted) → content.function s ≡ Some f → is_counted x s ≡ true → s < length x.store.words → HasNoted c (whole_of w f)
    noted-slot s f is counted inside =
        let z = (read s f is).some (above (count x s) counted) in (z.noted.0, known_at d z.held.function, z.noted.1, edge-known z.held s f z.kept z.at is)

    -- and each row of the seat is one of them
    own-row : (h : Held) → keeps x h → 0 < row_count h.edge.index d.rows → IsAmong (map (whole_of w) (counted_functions x)) (known_at d h.function)
    own-row h kept many =
        let s = flipped-some h.edge.complement (content.function h.edge.index) (function_of (kind_of h.function) (values_at (kind_of h.function) w h.edge)) kept.0.is in
        let inside = sound.within h.edge.index (sound.used h.edge.index s.0 s.1) in
        among-whole (known_at d h.function) s.0 (counted_functions x)
        (functions-In content.function s.0 h.edge.index (filter (is_counted x) (range_with_len 0 content.limit)) (In-filter (is_counted x) h.edge.index (range_with_len 0 content.limit) (range-In h.edge.index 0 content.limit (omega arith) (omega (arith, inside))) (counted-row (count x h.edge.index) refl s.0 s.1)) s.1)
        (edge-known h h.edge.index s.0 kept refl s.1)
      where
        counted-row : (n : ℕ) → count x h.edge.index ≡ n → (f : Denoted) → content.function h.edge.index ≡ Some f → is_counted x h.edge.index ≡ true
        counted-row zero e f is = absurd (let u = ((read h.edge.index f is).none e).rows in omega (arith, u, many))
        counted-row (suc n) e f is = positive (count x h.edge.index) (omega (arith, e))

    own-rows : (rows : List Row) → Each (λ (row : Row). keeps x row.held) rows → ((k : ℕ) → row_count k rows ≤ row_count k d.rows) → Each (λ (row : Row). IsAmong (map (whole_of w) (counted_functions x)) (known_at d row.held.function)) rows
    own-rows [] kept few = tt
    own-rows (row ∷ rows) kept few = (
      own-row row.held kept.0 (let f = few row.held.edge.index in let one = ap one_if (eq-eqb row.held.edge.index row.held.edge.index refl) in omega (arith, f, one)),
      own-rows rows kept.1 (λ k. let f = few k in omega (arith, f)),
    )

    -- What a sift finds is what the seat knows: its orders, functions apart, its own rows' among them.
    pub sift-known : (order : Order) (blocks : List Block) → IsFoundBy d (sifting_of order blocks x)
    sift-known order blocks = record {
      variables_are = ap (λ (o : Orders). o.variables) serves.orders_are;
      elements_are = ap (λ (o : Orders). o.elements) serves.orders_are;
      apart = apart-slots (is_counted x) 0 content.limit;
      own = own-rows d.rows serves.rows_kept (λ k. omega arith);
    }

    -- each of them was noted
    pub sift-noted : Each (HasNoted c) (map (whole_of w) (counted_functions x))
    sift-noted = each-whole (HasNoted c) (counted_functions x) (λ g i.
        let z = In-functions content.function g (filter (is_counted x) (range_with_len 0 content.limit)) i in
        let t = filter-In (is_counted x) z.0 (range_with_len 0 content.limit) z.1 in
        let inside = In-range z.0 0 content.limit t.0 in
        noted-slot z.0 g z.2 t.1 (omega (arith, inside)))
