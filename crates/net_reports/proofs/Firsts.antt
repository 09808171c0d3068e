-- The first root of each magnitude, as far as the roots were gone through.
use Rattle.std.proofs.Common.{◌≡◌, ◌≢◌, ℕ, ◌+◌, ◌<◌, inl, inr, ℤ, pos, List, Option, Some, None, length, get_or, slice_set, nat_abs, sym, ap, ◌∙◌, subst, arith, eq-eqb, ne_eqb, get_or-set_other, get_or-set_same}
use Rattle.std.specs.Prelude.{◌==◌}
use Rattle.std.specs.Int.{is_negative}
use Rattle.std.specs.List.{position_or_len}
use Rattle.std.specs.Option.{unwrap_or}
use Rattle.std.proofs.lemmas.Bool.{cases_eq}
use Rattle.std.proofs.lemmas.List.{get_or_read, length-set}
use Rattle.std.proofs.lemmas.List.Sums.{position_or_len_is}
use Rattle.function_laws.specs.Values.{differs}
use Rattle.net_reports.specs.RootClasses.{class_among}
use Rattle.net_reports.specs.declared.classes.Class.{Class}

-- the magnitude of a root
abbrev pub magnitude : List ℤ → ℕ → ℕ
magnitude roots i = nat_abs (get_or roots i (pos 0))

-- none of the first roots, so many, has the magnitude
abbrev pub NoneBefore : List ℤ → ℕ → ℕ → Type 0
NoneBefore roots count m = (k : ℕ) → k < count → magnitude roots k ≢ m

-- the first of them that has it, if there is one
abbrev pub IsFirst : List ℤ → ℕ → ℕ → Option ℕ → Type 0
IsFirst roots count m None = NoneBefore roots count m
IsFirst roots count m (Some first) = (first < count) × (magnitude roots first ≡ m) × NoneBefore roots first m

-- one more root of another magnitude
one_more : (roots : List ℤ) (count m : ℕ) (o : Option ℕ) → magnitude roots count ≢ m → IsFirst roots count m o → IsFirst roots (count + 1) m o
one_more roots count m None other none = λ k lower. elim (cases_eq k count) [
  | inl e ↦ (λ same. other (ap (magnitude roots) (sym e) ∙ same))
  | inr ne ↦ none k (omega (arith, ne, lower))
]
one_more roots count m (Some first) other (lower, same, none) = (omega (arith, lower), same, none)

-- and one of this
met : (roots : List ℤ) (count m : ℕ) (o : Option ℕ) → magnitude roots count ≡ m → IsFirst roots count m o → IsFirst roots (count + 1) m (Some (unwrap_or o count))
met roots count m None same none = (omega arith, same, none)
met roots count m (Some first) same (lower, is, none) = (omega (arith, lower), is, none)

-- which is the first of all
pub first_is : (roots : List ℤ) (count m : ℕ) (o : Option ℕ) → count < length roots → magnitude roots count ≡ m → IsFirst roots count m o
    → unwrap_or o count ≡ position_or_len (λ other. nat_abs other == m) roots
first_is roots count m o inside same is = by_first (met roots count m o same is)
  where
    by_first : IsFirst roots (count + 1) m (Some (unwrap_or o count)) → unwrap_or o count ≡ position_or_len (λ other. nat_abs other == m) roots
    by_first (lower, here, none) =
        sym (position_or_len_is (λ other. nat_abs other == m) roots (unwrap_or o count) (pos 0) (omega (arith, lower, inside)) (λ k before. ne_eqb (magnitude roots k) m (none k before))
        (λ within. eq-eqb (magnitude roots (unwrap_or o count)) m here))

-- and so the class
pub class_is : (roots : List ℤ) (count m : ℕ) (o : Option ℕ) → count < length roots → m ≡ magnitude roots count → IsFirst roots count m o
    → record { first = unwrap_or o count; complement = differs (is_negative (get_or roots count (pos 0))) (is_negative (get_or roots (unwrap_or o count) (pos 0))) }
    ≡ class_among roots (get_or roots count (pos 0))
class_is roots count m o inside same is =
    let class_at : ℕ → Class =
    λ first. record { first = first; complement = differs (is_negative (get_or roots count (pos 0))) (is_negative (get_or roots first (pos 0))) } in
    ap class_at (first_is roots count m o inside (sym same) is) ∙ ap (λ i. class_at (position_or_len (λ other. nat_abs other == i) roots)) same

-- what is known of each magnitude, by a list
abbrev pub AreFirsts : List ℤ → ℕ → List (Option ℕ) → Type 0
AreFirsts roots count firsts = (m : ℕ) → m < length firsts → IsFirst roots count m (get_or firsts m None)

pub next : (roots : List ℤ) (count m : ℕ) (firsts : List (Option ℕ)) → m < length firsts → magnitude roots count ≡ m → AreFirsts roots count firsts
    → AreFirsts roots (count + 1) (slice_set firsts m (Some (unwrap_or (get_or firsts m None) count)))
next roots count m firsts inside same are j within =
    let first : ℕ = unwrap_or (get_or firsts m None) count in
    elim (cases_eq j m) [
      | inl e ↦ subst (λ i. IsFirst roots (count + 1) i (get_or (slice_set firsts m (Some first)) i None)) (sym e)
          (subst (IsFirst roots (count + 1) m) (sym (get_or-set_same firsts m (Some first) None inside)) (met roots count m (get_or firsts m None) same (are m inside)))
      | inr ne ↦ subst (IsFirst roots (count + 1) j) (sym (get_or-set_other firsts m j (Some first) None ne))
          (one_more roots count j (get_or firsts j None) (λ e. ne (sym e ∙ same)) (are j (omega (arith, within, length-set firsts m (Some first)))))
    ]

-- what is read of one
pub known : (roots : List ℤ) (count m : ℕ) (firsts : List (Option ℕ)) (o : Option ℕ) → m < length firsts → o ≡ get_or firsts m o → AreFirsts roots count firsts
    → IsFirst roots count m o
known roots count m firsts o inside read are = subst (IsFirst roots count m) (sym (get_or_read firsts m o inside read None)) (are m inside)

pub first_within : (roots : List ℤ) (count m : ℕ) (o : Option ℕ) → count < length roots → IsFirst roots count m o → unwrap_or o count < length roots
first_within roots count m None inside is = inside
first_within roots count m (Some first) inside (lower, same, none) = omega (arith, lower, inside)
