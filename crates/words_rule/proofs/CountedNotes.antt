-- The functions of all slots that are counted, one after another.
use Rattle.std.proofs.Common.{◌≡◌, ℕ, zero, suc, ◌<◌, List, ◌∷◌, Some, None, inl, inr, refl, ap, sym, ◌∙◌, subst, arith}
use Rattle.std.specs.Prelude as std
use Rattle.std.proofs.lemmas.Bool.{cases_eq}
use mathlib.Core.Option.{some}
use lib.ListN.{get_elem?}
use Rattle.function_laws.specs.declared.history.Function.{Function}
use Rattle.function_laws.specs.Kinds.{Denoted}
use Rattle.function_laws.specs.SessionEntries.{Each}
use Rattle.handle_count.specs.CountWords.{count_of}
use Rattle.words_rule.specs.Kept.{whole_of}
use Rattle.words_rule.specs.Layout.{Shape}

-- the function is noted where the slot is counted
abbrev noted_if : Shape → ℕ → std.Option Denoted → List Function → List Function
noted_if z zero o notes = notes
noted_if z (suc m) None notes = notes
noted_if z (suc m) (Some f) notes = whole_of z f ∷ notes

-- of the first n slots, before others
abbrev pub noted_below : Shape → (ℕ → std.Option Denoted) → (ℕ → ℕ) → ℕ → List Function → List Function
noted_below z function count zero notes = notes
noted_below z function count (suc n) notes = noted_if z (count_of (count n)) (function n) (noted_below z function count n notes)

abbrev HasIn : List Function → Function → Type 0
HasIn notes f = (k : ℕ) × (get_elem? notes k ≡ some f)

in_more : (z : Shape) (m : ℕ) (o : std.Option Denoted) (notes : List Function) (f : Function) → HasIn notes f → HasIn (noted_if z m o notes) f
in_more z zero o notes f has = has
in_more z (suc m) None notes f has = has
in_more z (suc m) (Some g) notes f has = (suc has.0, has.1)

in_first : (z : Shape) (m : ℕ) (o : std.Option Denoted) (notes : List Function) (f : Denoted) → 0 < m → o ≡ Some f → HasIn (noted_if z m o notes) (whole_of z f)
in_first z zero o notes f lt is = absurd (omega (arith, lt))
in_first z (suc m) None notes f lt is = absurd (never is)
  where
    never : ◌≡◌ {A = std.Option Denoted} None (Some f) → ⊥
    never e = cc
in_first z (suc m) (Some g) notes f lt is = (0, ap (λ (x : Denoted). some (whole_of z x)) (same is))
  where
    same : Some g ≡ Some f → g ≡ f
    same e = cc

module _ (z : Shape) (function : ℕ → std.Option Denoted) (count : ℕ → ℕ) (notes : List Function) where
  -- what was noted is so still
  pub noted_stays : (n : ℕ) (f : Function) → HasIn notes f → HasIn (noted_below z function count n notes) f
  noted_stays zero f has = has
  noted_stays (suc n) f has = in_more z (count_of (count n)) (function n) (noted_below z function count n notes) f (noted_stays n f has)

  -- what a counted slot denotes is noted
  pub noted_there : (n s : ℕ) (f : Denoted) → s < n → 0 < count_of (count s) → function s ≡ Some f → HasIn (noted_below z function count n notes) (whole_of z f)
  noted_there zero s f lt counted is = absurd (omega (arith, lt))
  noted_there (suc n) s f lt counted is = elim (cases_eq n s) [
    | inl e ↦ in_first z (count_of (count n)) (function n) (noted_below z function count n notes) f (subst (λ (t : ℕ). 0 < count_of (count t)) (sym e) counted) (ap function e ∙ is)
    | inr ne ↦ in_more z (count_of (count n)) (function n) (noted_below z function count n notes) (whole_of z f) (noted_there n s f (omega (arith, lt, ne)) counted is)
  ]

  -- and of those alone
  pub each_noted : (P : Function → Type 0) → ((s : ℕ) (f : Denoted) → function s ≡ Some f → 0 < count_of (count s) → P (whole_of z f)) → Each P notes → (n : ℕ) → Each P (noted_below z function count n notes)
  each_noted P is all zero = all
  each_noted P is all (suc n) = by (count_of (count n)) (function n) refl refl (each_noted P is all n)
    where
      by : (m : ℕ) (o : std.Option Denoted) → count_of (count n) ≡ m → function n ≡ o → Each P (noted_below z function count n notes) → Each P (noted_if z m o (noted_below z function count n notes))
      by zero o e at rest = rest
      by (suc m) None e at rest = rest
      by (suc m) (Some f) e at rest = (is n f at (omega (arith, e)), rest)
