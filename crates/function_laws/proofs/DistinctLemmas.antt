-- Two lists that have one of each class have one length.
use Rattle.std.proofs.Common.{◌≡◌, suc, ◌≤◌, ◌⊎◌, inl, inr, ◌∙◌, ◌||◌, Bool, true, false, cond, List, [], ◌∷◌, ◌++◌, length, refl, sym, ap, subst, arith}
use Rattle.std.specs.List.{list_any}
use Rattle.std.proofs.lemmas.Bool.{or_cases}
use Rattle.function_laws.specs.Sizes.{distinct}

-- it is one of the list
abbrev pub In : {X : Type 0} → X → List X → Type 0
In x [] = ⊥
In x (y ∷ ys) = (x ≡ y) ⊎ In x ys

pub In-left : {X : Type 0} (x : X) (xs ys : List X) → In x xs → In x (xs ++ ys)
In-left x [] ys h = absurd h
In-left x (z ∷ zs) ys h = elim h [ inl e ↦ inl e | inr i ↦ inr (In-left x zs ys i) ]

pub In-right : {X : Type 0} (x : X) (xs ys : List X) → In x ys → In x (xs ++ ys)
In-right x [] ys h = h
In-right x (z ∷ zs) ys h = inr (In-right x zs ys h)

pub In-append : {X : Type 0} (x : X) (xs ys : List X) → In x (xs ++ ys) → In x xs ⊎ In x ys
In-append x [] ys h = inr h
In-append x (z ∷ zs) ys h = elim h [ inl e ↦ inl (inl e) | inr i ↦ elim (In-append x zs ys i) [ inl a ↦ inl (inr a) | inr b ↦ inr b ] ]

-- the list without one of its elements
pub without : {X : Type 0} (x : X) (xs : List X) → In x xs → List X
without x [] h = absurd h
without x (y ∷ ys) h = elim h [ inl e ↦ ys | inr i ↦ y ∷ without x ys i ]

pub length-without : {X : Type 0} (x : X) (xs : List X) (h : In x xs) → suc (length (without x xs h)) ≡ length xs
unfolding without
length-without x [] h = absurd h
length-without x (y ∷ ys) (inl e) = refl
length-without x (y ∷ ys) (inr i) = ap suc (length-without x ys i)

pub In-without : {X : Type 0} (x z : X) (xs : List X) (h : In x xs) → In z xs → (z ≡ x) ⊎ In z (without x xs h)
unfolding without
In-without x z [] h i = absurd h
In-without x z (y ∷ ys) (inl e) i = elim i [ inl f ↦ inl (subst (λ t. z ≡ t) (sym e) f) | inr j ↦ inr j ]
In-without x z (y ∷ ys) (inr h) i =
    elim i [ inl f ↦ inr (inl f) | inr j ↦ elim (In-without x z ys h j) [ inl f ↦ inl f | inr k ↦ inr (inr k) ] ]

-- no two of the list are the same
abbrev pub Apart : {X : Type 0} → (X → X → Bool) → List X → Type 0
Apart {X} same [] = Unit {0}
Apart {X} same (x ∷ xs) = ((y : X) → In y xs → same x y ≡ true → ⊥) × Apart same xs

-- each of a list is the same as one of another
abbrev pub Matched : {X : Type 0} → (X → X → Bool) → List X → List X → Type 0
Matched {X} same xs ys = (x : X) → In x xs → (y : X) × In y ys × (same x y ≡ true)

module _ {X : Type 0} (same : X → X → Bool) (back : (x y : X) → same x y ≡ true → same y x ≡ true)
    (on : (x y z : X) → same x y ≡ true → same y z ≡ true → same x z ≡ true) where
  pub no_longer : (xs ys : List X) → Apart same xs → Matched same xs ys → length xs ≤ length ys
  no_longer [] ys apart matched = omega arith
  no_longer (x ∷ xs) ys apart matched =
      let m = matched x (inl refl) in
      let rest = without m.0 ys m.1 in
      let shorter = length-without m.0 ys m.1 in
      let others : Matched same xs rest = λ z i.
      let n = matched z (inr i) in
      elim (In-without m.0 n.0 ys m.1 n.1) [
        | inl e ↦ absurd (apart.0 z i (on x m.0 z m.2 (back z m.0 (subst (λ t. same z t ≡ true) e n.2))))
        | inr j ↦ (n.0, j, n.2)
      ]
      in
      let le = no_longer xs rest apart.1 others in omega (arith, shorter, le)

  pub as_long : (xs ys : List X) → Apart same xs → Apart same ys → Matched same xs ys → Matched same ys xs → length xs ≡ length ys
  as_long xs ys a b m n = let p = no_longer xs ys a m in let q = no_longer ys xs b n in omega (arith, p, q)

pub list_any-In : {X : Type 0} (p : X → Bool) (xs : List X) → list_any p xs ≡ true → (x : X) × In x xs × (p x ≡ true)
list_any-In p [] h = cc
list_any-In p (x ∷ xs) h = elim (or_cases (p x) (list_any p xs) h) [
  | inl here ↦ (x, inl refl, here)
  | inr later ↦ (let r = list_any-In p xs later in (r.0, inr r.1, r.2))
]

or_left : (a b : Bool) → a ≡ true → (a || b) ≡ true
or_left true b h = refl
or_left false b h = cc

or_right : (a b : Bool) → b ≡ true → (a || b) ≡ true
or_right true b h = refl
or_right false b h = h

pub In-list_any : {X : Type 0} (p : X → Bool) (xs : List X) (x : X) → In x xs → p x ≡ true → list_any p xs ≡ true
In-list_any p [] x h e = absurd h
In-list_any p (y ∷ ys) x (inl same) e = or_left (p y) (list_any p ys) (ap p (sym same) ∙ e)
In-list_any p (y ∷ ys) x (inr i) e = or_right (p y) (list_any p ys) (In-list_any p ys x i e)

module _ {X : Type 0} (same : X → X → Bool) where
  In-with_new : (x z : X) (xs : List X) (b : Bool) → In z (cond b xs (x ∷ xs)) → (z ≡ x) ⊎ In z xs
  In-with_new x z xs true h = inr h
  In-with_new x z xs false h = h

  pub In-distinct : (z : X) (xs : List X) → In z (distinct same xs) → In z xs
  unfolding distinct
  In-distinct z [] h = h
  In-distinct z (x ∷ xs) h = elim (In-with_new x z (distinct same xs) (list_any (same x) (distinct same xs)) h) [
    | inl e ↦ inl e
    | inr i ↦ inr (In-distinct z xs i)
  ]

  apart_new : (x : X) (xs : List X) (b : Bool) → list_any (same x) xs ≡ b → Apart same xs → Apart same (cond b xs (x ∷ xs))
  apart_new x xs true e h = h
  apart_new x xs false e h = ((λ y i s. (let t : true ≡ false = sym (In-list_any (same x) xs y i s) ∙ e in cc)), h)

  pub Apart-distinct : (xs : List X) → Apart same (distinct same xs)
  unfolding distinct
  Apart-distinct [] = tt
  Apart-distinct (x ∷ xs) = apart_new x (distinct same xs) (list_any (same x) (distinct same xs)) refl (Apart-distinct xs)

  older : (x z : X) (xs : List X) (b : Bool) → In z xs → In z (cond b xs (x ∷ xs))
  older x z xs true h = h
  older x z xs false h = inr h

  newest : (x : X) (xs : List X) (b : Bool) → same x x ≡ true → list_any (same x) xs ≡ b → (y : X) × In y (cond b xs (x ∷ xs)) × (same x y ≡ true)
  newest x xs true r e = list_any-In (same x) xs e
  newest x xs false r e = (x, inl refl, r)

  pub Matched-distinct : ((x : X) → same x x ≡ true) → (xs : List X) → Matched same xs (distinct same xs)
  unfolding distinct
  Matched-distinct r [] z h = absurd h
  Matched-distinct r (x ∷ xs) z (inl e) =
      let n = newest x (distinct same xs) (list_any (same x) (distinct same xs)) (r x) refl in
      (n.0, n.1, subst (λ t. same t n.0 ≡ true) (sym e) n.2)
  Matched-distinct r (x ∷ xs) z (inr i) =
      let m = Matched-distinct r xs z i in (m.0, older x m.0 (distinct same xs) (list_any (same x) (distinct same xs)) m.1, m.2)

  -- A list of which no two are the same is as long as the distinct ones of another, if each matches one of the other.
  pub counted : ((x : X) → same x x ≡ true) → ((x y : X) → same x y ≡ true → same y x ≡ true) → ((x y z : X) → same x y ≡ true → same y z ≡ true → same x z ≡ true)
      → (xs ys : List X) → Apart same xs → Matched same xs ys → Matched same ys xs → length xs ≡ length (distinct same ys)
  counted r back on xs ys apart there here =
      as_long same back on xs (distinct same ys) apart (Apart-distinct ys)
      (λ x i. let y = there x i in let z = Matched-distinct r ys y.0 y.1 in (z.0, z.1, on x y.0 z.0 y.2 z.2))
      (λ y i. here y (In-distinct y ys i))
