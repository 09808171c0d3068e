-- Functions that are one have parts that are one, so that lists of the same functions have diagrams of one size and one width.
use Rattle.std.proofs.Common.{◌≡◌, ℕ, ◌<◌, ◌⊎◌, inl, inr, Bool, true, false, cond, List, [], ◌∷◌, length, refl, sym, ap, ◌∙◌, subst}
use Rattle.std.specs.Prelude.{Option}
use Rattle.std.specs.List.{filter}
use Rattle.function_laws.specs.declared.orders.Order.{Order}
use Rattle.function_laws.specs.Kinds.{Denoted}
use Rattle.function_laws.specs.Sizes.{Orders, all_parts, diagram, in_order, is_one, is_variable, order_of, part_of, parts, size, topmost, width}
use Rattle.function_laws.proofs.DistinctLemmas.{Apart, Apart-distinct, In, In-append, In-distinct, In-left, In-right, Matched, Matched-distinct, as_long}
use Rattle.function_laws.proofs.LackingParts.{order_of-part}
use Rattle.function_laws.proofs.OneFunctions.{is_one-refl, is_one-sym, is_one-trans}
use Rattle.function_laws.proofs.PartLaws.{half_part}
use Rattle.sift_laws.proofs.PartsAlike.{part_one, same_order, topmost_one}

-- those of the list are below their number
abbrev pub IsFit : List ℕ → Type 0
IsFit order = (v : ℕ) → In v order → v < length order

-- the two are equal, or one by an order that is fit
abbrev pub Twins : Orders → Denoted → Denoted → Type 0
Twins o f g = (f ≡ g) ⊎ (IsFit (order_of o f) × (is_one o f g ≡ true))

-- each of a list has a twin in the other
abbrev pub Twinned : Orders → List Denoted → List Denoted → Type 0
Twinned o fs gs = (f : Denoted) → In f fs → (g : Denoted) × In g gs × Twins o f g

module _ (o : Orders) where
  parts_matched : (order : List ℕ) (f g : Denoted) → ((v : ℕ) → In v order → v < length (order_of o f)) → is_one o f g ≡ true
      → Matched (is_one o) (parts order f) (parts order g)
  unfolding parts
  parts_matched [] f g below one x (inl e) = (g, inl refl, subst (λ (y : Denoted). is_one o y g ≡ true) (sym e) one)
  parts_matched [] f g below one x (inr i) = absurd i
  parts_matched (v ∷ vs) f g below one x (inl e) = (g, inl refl, subst (λ (y : Denoted). is_one o y g ≡ true) (sym e) one)
  parts_matched (v ∷ vs) f g below one x (inr i) = elim (In-append x (parts vs (part_of f v true)) (parts vs (part_of f v false)) i) [
    | inl j ↦ half true (parts_matched vs (part_of f v true) (part_of g v true) (inside true) (part_one o f g v true (below v (inl refl)) one) x j)
    | inr j ↦ half false (parts_matched vs (part_of f v false) (part_of g v false) (inside false) (part_one o f g v false (below v (inl refl)) one) x j)
  ]
    where
      inside : (b : Bool) (u : ℕ) → In u vs → u < length (order_of o (part_of f v b))
      inside b u k = subst (λ (l : List ℕ). u < length l) (sym (order_of-part o f v b)) (below u (inr k))

      half : (b : Bool) → (y : Denoted) × In y (parts vs (part_of g v b)) × (is_one o x y ≡ true) → (y : Denoted) × In y (parts (v ∷ vs) g) × (is_one o x y ≡ true)
      half b found = (found.0, half_part v vs g found.0 b found.1, found.2)

  twin_parts : (f g : Denoted) → Twins o f g → Matched (is_one o) (parts (order_of o f) f) (parts (order_of o g) g)
  twin_parts f g (inl e) =
      subst (λ (h : Denoted). Matched (is_one o) (parts (order_of o f) f) (parts (order_of o h) h)) e (λ x i. (x, i, is_one-refl o x))
  twin_parts f g (inr (fit, one)) =
      subst (λ (l : List ℕ). Matched (is_one o) (parts (order_of o f) f) (parts l g)) (same_order o f g one) (parts_matched (order_of o f) f g fit one)

  in_parts : (x f : Denoted) (fs : List Denoted) → In f fs → In x (parts (order_of o f) f) → In x (all_parts o fs)
  unfolding all_parts
  in_parts x f [] h i = absurd h
  in_parts x f (g ∷ fs) (inl e) i =
      In-left x (parts (order_of o g) g) (all_parts o fs) (subst (λ (h : Denoted). In x (parts (order_of o h) h)) e i)
  in_parts x f (g ∷ fs) (inr h) i = In-right x (parts (order_of o g) g) (all_parts o fs) (in_parts x f fs h i)

  whose_part : (x : Denoted) (fs : List Denoted) → In x (all_parts o fs) → (f : Denoted) × In f fs × In x (parts (order_of o f) f)
  unfolding all_parts
  whose_part x [] i = absurd i
  whose_part x (f ∷ fs) i = elim (In-append x (parts (order_of o f) f) (all_parts o fs) i) [
    | inl here ↦ (f, inl refl, here)
    | inr later ↦ (let rest = whose_part x fs later in (rest.0, inr rest.1, rest.2))
  ]

  all_matched : (fs gs : List Denoted) → Twinned o fs gs → Matched (is_one o) (all_parts o fs) (all_parts o gs)
  all_matched fs gs twins x i =
      let f = whose_part x fs i in
      let g = twins f.0 f.1 in
      let y = twin_parts f.0 g.0 g.2 x f.2 in (y.0, in_parts y.0 g.0 gs g.1 y.1, y.2)

  diagrams_matched : (fs gs : List Denoted) → Twinned o fs gs → Matched (is_one o) (diagram o fs) (diagram o gs)
  diagrams_matched fs gs twins x i =
      let y = all_matched fs gs twins x (In-distinct (is_one o) x (all_parts o fs) i) in
      let z = Matched-distinct (is_one o) (is_one-refl o) (all_parts o gs) y.0 y.1 in (z.0, z.1, is_one-trans o x y.0 z.0 y.2 z.2)

  pub size_twinned : (fs gs : List Denoted) → Twinned o fs gs → Twinned o gs fs → size o fs ≡ size o gs
  size_twinned fs gs there back =
      as_long (is_one o) (is_one-sym o) (is_one-trans o) (diagram o fs) (diagram o gs) (Apart-distinct (is_one o) (all_parts o fs)) (Apart-distinct (is_one o) (all_parts o gs))
      (diagrams_matched fs gs there) (diagrams_matched gs fs back)

module _ {X : Type 0} (p : X → Bool) where
  In-filter : (x : X) (xs : List X) → In x (filter p xs) → In x xs × (p x ≡ true)
  In-filter x [] i = absurd i
  In-filter x (y ∷ ys) i = by (p y) refl (In-filter x ys) i
    where
      by : (b : Bool) → p y ≡ b → (In x (filter p ys) → In x ys × (p x ≡ true)) → In x (cond b (y ∷ filter p ys) (filter p ys)) → ((x ≡ y) ⊎ In x ys) × (p x ≡ true)
      by true e rest (inl same) = (inl same, ap p same ∙ e)
      by true e rest (inr j) = (let r = rest j in (inr r.0, r.1))
      by false e rest j = (let r = rest j in (inr r.0, r.1))

  filter-In : (x : X) (xs : List X) → In x xs → p x ≡ true → In x (filter p xs)
  filter-In x [] i e = absurd i
  filter-In x (y ∷ ys) (inl same) e = subst (λ b. In x (cond b (y ∷ filter p ys) (filter p ys))) (sym (ap p (sym same) ∙ e)) (inl same)
  filter-In x (y ∷ ys) (inr i) e = by (p y) (filter-In x ys i e)
    where
      by : (b : Bool) → In x (filter p ys) → In x (cond b (y ∷ filter p ys) (filter p ys))
      by true j = inr j
      by false j = j

  Apart-filter : (same : X → X → Bool) (xs : List X) → Apart same xs → Apart same (filter p xs)
  Apart-filter same [] apart = tt
  Apart-filter same (x ∷ xs) apart = by (p x) (Apart-filter same xs apart.1)
    where
      by : (b : Bool) → Apart same (filter p xs) → Apart same (cond b (x ∷ filter p xs) (filter p xs))
      by true rest = ((λ y i. apart.0 y (In-filter y xs i).0), rest)
      by false rest = rest

  Matched-filter : (same : X → X → Bool) (xs ys : List X) → ((x y : X) → same x y ≡ true → p x ≡ p y) → Matched same xs ys → Matched same (filter p xs) (filter p ys)
  Matched-filter same xs ys goes matched x i =
      let from = In-filter x xs i in
      let y = matched x from.0 in (y.0, filter-In y.0 ys y.1 (sym (goes x y.0 y.2) ∙ from.1), y.2)

module _ (o : Orders) (which : Order) (v : ℕ) (fit : IsFit (in_order o which)) where
  has_top : Denoted → Bool
  has_top f = is_variable (topmost o which (in_order o which) f) v

  top_one : (f g : Denoted) → is_one o f g ≡ true → has_top f ≡ has_top g
  unfolding has_top
  top_one f g one = ap (λ (x : Option ℕ). is_variable x v) (topmost_one o which (in_order o which) f g fit one)

  pub width_twinned : (fs gs : List Denoted) → Twinned o fs gs → Twinned o gs fs → width o which fs v ≡ width o which gs v
  unfolding has_top
  width_twinned fs gs there back =
      as_long (is_one o) (is_one-sym o) (is_one-trans o) (filter has_top (diagram o fs)) (filter has_top (diagram o gs))
      (Apart-filter has_top (is_one o) (diagram o fs) (Apart-distinct (is_one o) (all_parts o fs)))
      (Apart-filter has_top (is_one o) (diagram o gs) (Apart-distinct (is_one o) (all_parts o gs)))
      (Matched-filter has_top (is_one o) (diagram o fs) (diagram o gs) top_one (diagrams_matched o fs gs there))
      (Matched-filter has_top (is_one o) (diagram o gs) (diagram o fs) top_one (diagrams_matched o gs fs back))
