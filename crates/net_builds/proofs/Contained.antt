-- Elements of a list, in two ways.
use Rattle.std.proofs.Common.{◌≡◌, ℕ, zero, suc, ◌<◌, List, [], ◌∷◌, length, get_or, refl, arith, All, inl, inr, subst}
use mathlib.Core.Option.{some}
use lib.ListN.{get_elem?}
use Rattle.std.specs.List.{Contains}
use Rattle.std.proofs.lemmas.List.Elements.{All-contains}
use Rattle.function_laws.specs.declared.history.Entry.{Entry}
use Rattle.net_builds.proofs.HandedLaw.{Has}

pub has-at : (es : List Entry) (k : ℕ) (d : Entry) → k < length es → Has (get_or es k d) es
has-at [] k d less = absurd (omega (arith, less))
has-at (e ∷ es) zero d less = inl refl
has-at (e ∷ es) (suc k) d less = inr (has-at es k d (omega (arith, less)))

pub has-contained : (es : List Entry) (e : Entry) → Contains es e → Has e es
has-contained es e is = All-contains (λ x. Has x es) es e (has-at es) is

pub all-has : (P : Entry → Type 0) (es : List Entry) → All P es → (e : Entry) → Has e es → P e
all-has P [] all e has = absurd has
all-has P (x ∷ es) all e (inl is) = subst P is (all 0 x (omega arith))
all-has P (x ∷ es) all e (inr has) = all-has P es (λ k d less. all (suc k) d (omega (arith, less))) e has

-- what is so of each entry, by its place in the list
abbrev pub EachPlaced : (ℕ → Entry → Type 0) → List Entry → Type 0
EachPlaced P [] = Unit {0}
EachPlaced P (e ∷ es) = P 0 e × EachPlaced (λ i. P (suc i)) es

pub each_placed : (P : ℕ → Entry → Type 0) (es : List Entry) → EachPlaced P es → (i : ℕ) (e : Entry) → get_elem? es i ≡ some e → P i e
each_placed P [] all i e at = cc
each_placed P (x ∷ es) all zero e at = let is : x ≡ e = cc in subst (P 0) is all.0
each_placed P (x ∷ es) all (suc i) e at = each_placed (λ k. P (suc k)) es all.1 i e at
