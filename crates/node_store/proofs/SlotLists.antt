-- The functions of the slots in use, as a list of which no two are one.
use Rattle.std.proofs.Common.{◌≡◌, ℕ, zero, suc, ◌+◌, ◌<◌, ◌≤◌, inl, inr, true, false, not, cond, List, [], ◌∷◌, ◌++◌, length, Option, Some, None, refl, sym, ap, ◌∙◌, subst, arith}
use Rattle.std.specs.List.{filter, range_with_len}
use Rattle.std.proofs.lemmas.Bool.{cases_eq}
use Rattle.edge_bits.specs.Assignments.{bit, set_bit}
use Rattle.edge_bits.proofs.AssignmentLemmas.{bit-set_same, bit-set_other}
use Rattle.edge_bits.specs.Reading.{element_of}
use Rattle.edge_bits.specs.declared.words.Word.{Word}
use Rattle.edge_bits.specs.declared.edges.Kind.TheVariants.{Bdd, Add, Zdd}
use Rattle.edge_bits.specs.Permanent.{first_element}
use Rattle.function_laws.specs.Values.{negation}
use Rattle.function_laws.specs.Families.{IsWithout}
use Rattle.function_laws.specs.Kinds.{Denoted, BddFunction, AddFunction, ZddFamily, opposite}
use Rattle.function_laws.specs.Sizes.{is_one}
use Rattle.function_laws.proofs.DistinctLemmas.{In, Apart, In-append}
use Rattle.function_laws.proofs.OneFunctions.{IsWithin, same_or_opposite}
use Rattle.node_store.specs.Contents.{Content, IsSound, is_used}
use Rattle.node_store.specs.Sweeps.{value_list, functions_of}

-- the assignment where the first n variables are true, and no other
unfoldable pub ones : ℕ → ℕ
ones zero = 0
ones (suc n) = set_bit (ones n) n true

pub bit-ones : (n v : ℕ) → v < n → bit (ones n) v ≡ true
unfolding ones
bit-ones zero v lt = absurd (omega arith)
bit-ones (suc n) v lt = elim (cases_eq v n) [
  | inl e ↦ rw e (bit-set_same (ones n) n true)
  | inr ne ↦ bit-set_other (ones n) n v true ne ∙ bit-ones n v (omega arith)
]

In-value : (f : Denoted) (o : Option Denoted) → In f (value_list o) → o ≡ Some f
In-value f None h = absurd h
In-value f (Some g) h = elim h [ inl e ↦ ap Some (sym e) | inr i ↦ absurd i ]

module _ (function : ℕ → Option Denoted) where
  pub In-functions : (f : Denoted) (ss : List ℕ) → In f (functions_of function ss) → (s : ℕ) × In s ss × (function s ≡ Some f)
  unfolding functions_of
  In-functions f [] h = absurd h
  In-functions f (s ∷ ss) h = elim (In-append f (value_list (function s)) (functions_of function ss) h) [
    | inl i ↦ (s, inl refl, In-value f (function s) i)
    | inr i ↦ (let r = In-functions f ss i in (r.0, inr r.1, r.2))
  ]

  In-here : (f : Denoted) (o : Option Denoted) (rest : List Denoted) → o ≡ Some f → In f (value_list o ++ rest)
  In-here f None rest e = cc
  In-here f (Some g) rest e = inl (let same : Some f ≡ Some g = sym e in cc)

  In-later : (f : Denoted) (o : Option Denoted) (rest : List Denoted) → In f rest → In f (value_list o ++ rest)
  In-later f None rest i = i
  In-later f (Some g) rest i = inr i

  pub functions-In : (f : Denoted) (s : ℕ) (ss : List ℕ) → In s ss → function s ≡ Some f → In f (functions_of function ss)
  unfolding functions_of
  functions-In f s [] i e = absurd i
  functions-In f s (t ∷ ts) (inl same) e = In-here f (function t) (functions_of function ts) (ap function (sym same) ∙ e)
  functions-In f s (t ∷ ts) (inr i) e = In-later f (function t) (functions_of function ts) (functions-In f s ts i e)

pub In-range : (s a n : ℕ) → In s (range_with_len a n) → (a ≤ s) × (s < a + n)
In-range s a zero h = absurd h
In-range s a (suc n) (inl e) = (omega (arith, e), omega (arith, e))
In-range s a (suc n) (inr i) = let r = In-range s (a + 1) n i in (omega (arith, r.0), omega (arith, r.1))

pub range-In : (s a n : ℕ) → a ≤ s → s < a + n → In s (range_with_len a n)
range-In s a zero le lt = absurd (omega arith)
range-In s a (suc n) le lt = elim (cases_eq s a) [ inl e ↦ inl e | inr ne ↦ inr (range-In s (a + 1) n (omega arith) (omega arith)) ]

own_element : (v : ℕ) → element_of (first_element + v) ≡ v
own_element v = omega arith

module _ (w : Content) (sound : IsSound w) where
  pub within_orders : (s : ℕ) (f : Denoted) → w.function s ≡ Some f → IsWithin w.orders f
  within_orders s (BddFunction f) e = λ v le. (sound.of_store s Bdd f e).0 v le
  within_orders s (AddFunction f) e = λ v le. (sound.of_store s Add f e).0 v le
  within_orders s (ZddFamily p) e = λ v le. subst (λ x. IsWithout p x) (own_element v) ((sound.of_store s Zdd p e).0 (first_element + v) (omega arith))

  never : false ≡ true → ⊥
  never e = cc

  no_opposite : (s t : ℕ) (f : Denoted) → w.function s ≡ Some f → w.function t ≡ Some (opposite f) → s ≡ t
  no_opposite s t (BddFunction f) e h =
      let n = length w.orders.variables in
      let a = sound.regular s f e (ones n) (λ v lt. bit-ones n v lt) in
      let b = sound.regular t (negation f) h (ones n) (λ v lt. bit-ones n v lt) in
      absurd (never (ap not (sym a) ∙ b))
  no_opposite s t (AddFunction f) e h = sound.apart s t (AddFunction f) e h
  no_opposite s t (ZddFamily f) e h = sound.apart s t (ZddFamily f) e h

  -- slots whose functions are one are one
  pub slot_once : (s t : ℕ) (f g : Denoted) → w.function s ≡ Some f → w.function t ≡ Some g → is_one w.orders f g ≡ true → s ≡ t
  slot_once s t f g e h one = elim (same_or_opposite w.orders f g (within_orders s f e) (within_orders t g h) one) [
    | inl same ↦ sound.apart s t g (e ∙ ap Some same) h
    | inr other ↦ no_opposite s t f e (h ∙ ap Some (sym other))
  ]

  pub apart_with : (s : ℕ) (o : Option Denoted) (rest : List Denoted) → w.function s ≡ o
      → ((g : Denoted) → In g rest → (t : ℕ) × (s < t) × (w.function t ≡ Some g)) → Apart (is_one w.orders) rest → Apart (is_one w.orders) (value_list o ++ rest)
  apart_with s None rest e later h = h
  apart_with s (Some f) rest e later h =
      ((λ g i one. let l = later g i in let same = slot_once s l.0 f g e l.2 one in omega (arith, same, l.1)), h)

  pub slots_apart : (a n : ℕ) → Apart (is_one w.orders) (functions_of w.function (range_with_len a n))
  unfolding functions_of
  slots_apart a zero = tt
  slots_apart a (suc n) = apart_with a (w.function a) (functions_of w.function (range_with_len (a + 1) n)) refl
      (λ g i. let x = In-functions w.function g (range_with_len (a + 1) n) i in let r = In-range x.0 (a + 1) n x.1 in (x.0, omega (arith, r.0), x.2))
      (slots_apart (a + 1) n)

  used_value : (o : Option Word) (s : ℕ) (f : Denoted) → w.word s ≡ o → w.function s ≡ Some f → is_used o ≡ true
  used_value None s f h e = let u = sound.used s f e in let c : None ≡ Some u.0 = sym h ∙ u.1 in cc
  used_value (Some word) s f h e = refl

  unused_value : (o : Option Word) (s : ℕ) → w.word s ≡ o → w.function s ≡ None → is_used o ≡ false
  unused_value None s h e = refl
  unused_value (Some word) s h e = let d = sound.denotes s (word, h) in let c : None ≡ Some d.0 = sym e ∙ d.1 in cc

  step : (o : Option Denoted) (s : ℕ) (rest : List Denoted) (ss : List ℕ) → w.function s ≡ o → length rest ≡ length ss
      → length (value_list o ++ rest) ≡ length (cond (is_used (w.word s)) (s ∷ ss) ss)
  step None s rest ss e h = rw (unused_value (w.word s) s refl e) h
  step (Some f) s rest ss e h = rw (used_value (w.word s) s f refl e) (ap suc h)

  pub slots_counted : (a n : ℕ) → length (functions_of w.function (range_with_len a n)) ≡ length (filter (λ s. is_used (w.word s)) (range_with_len a n))
  unfolding functions_of
  slots_counted a zero = refl
  slots_counted a (suc n) = step (w.function a) a (functions_of w.function (range_with_len (a + 1) n)) (filter (λ s. is_used (w.word s)) (range_with_len (a + 1) n)) refl (slots_counted (a + 1) n)
