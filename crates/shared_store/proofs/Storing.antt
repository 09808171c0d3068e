-- What a turn stored, told from the functions before it.
use Rattle.std.proofs.Common.{◌≡◌, ℕ, zero, suc, ◌<◌, Bool, ◌⊎◌, inl, inr, List, [], ◌∷◌, Contains, ℤ, Option, Some, None, refl, ap, sym, subst, ◌∙◌, arith}
use Rattle.std.proofs.Math.Bool.{Bool-discrete}
use Rattle.std.proofs.Math.IntN.{ℤ_discrete}
use Rattle.std.proofs.Math.Decide.{ℕ_discrete}
use Rattle.std.proofs.Math.Logic.{dite}
use Rattle.std.proofs.lemmas.List.Elements.{Contains-append_right}
use Rattle.std.proofs.lemmas.Map.Made.{Contains-tail}
use mathlib.Core.HLevel.{Discrete}
use mathlib.Core.List.{List-discrete}
use Rattle.function_laws.specs.declared.history.Function.{Function}
use Rattle.function_laws.specs.declared.history.Function.TheVariants.{Bdd, Add, Zdd}
use Rattle.function_laws.specs.Kinds.{Denoted}
use Rattle.seat_guard.specs.declared.view.Draws.{Draws}
use Rattle.seat_guard.specs.declared.view.Leaving.{Leaving}
use Rattle.shared_store.specs.declared.shared.Shared.{Shared}
use Rattle.shared_store.specs.Sharing.{due, functions, functions_below, with_whole}
use Rattle.shared_store.specs.Storing.{IsLeaving, StoresOnly}

-- functions can be told apart

abbrev truths_of : Function → List Bool
truths_of (Bdd f) = f
truths_of (Add f) = []
truths_of (Zdd p) = p

abbrev values_of : Function → List ℤ
values_of (Add f) = f
values_of _ = []

Function-discrete : Discrete Function
Function-discrete (Bdd f) (Bdd g) = dite (List-discrete Bool-discrete f g) (λ same. yes (ap Bdd same)) (λ other. no (λ same. other (ap truths_of same)))
Function-discrete (Add f) (Add g) = dite (List-discrete ℤ_discrete f g) (λ same. yes (ap Add same)) (λ other. no (λ same. other (ap values_of same)))
Function-discrete (Zdd p) (Zdd q) = dite (List-discrete Bool-discrete p q) (λ same. yes (ap Zdd same)) (λ other. no (λ same. other (ap truths_of same)))
Function-discrete (Bdd f) (Add g) = no (λ same. cc)
Function-discrete (Bdd f) (Zdd g) = no (λ same. cc)
Function-discrete (Add f) (Bdd g) = no (λ same. cc)
Function-discrete (Add f) (Zdd g) = no (λ same. cc)
Function-discrete (Zdd f) (Bdd g) = no (λ same. cc)
Function-discrete (Zdd f) (Add g) = no (λ same. cc)

-- elements of lists

none_in : {X : Type 0} (x : X) → Contains [] x → ⊥
none_in x c = let within = c.1 in omega (arith, within)

first_in : {X : Type 0} (x y : X) (xs : List X) → x ≡ y → Contains (x ∷ xs) y
first_in x y xs same = (0, omega arith, same)

later_in : {X : Type 0} (x y : X) (xs : List X) → Contains xs y → Contains (x ∷ xs) y
later_in x y xs c = Contains-append_right (x ∷ []) xs y c

pub is_among : (fs : List Function) (f : Function) → Dec (Contains fs f)
is_among [] f = no (none_in f)
is_among (g ∷ fs) f = dite (Function-discrete g f) (λ same. yes (first_in g f fs same))
    (λ other. dite (is_among fs f) (λ c. yes (later_in g f fs c)) (λ none. no (λ c. none (Contains-tail g fs f other c))))

-- the functions of the second list that are not in the first
abbrev pub with_new : {P : Type 0} → Dec P → Function → List Function → List Function
with_new (yes old) f rest = rest
with_new (no new) f rest = f ∷ rest

abbrev pub since : List Function → List Function → List Function
since old [] = []
since old (f ∷ fs) = with_new (is_among old f) f (since old fs)

since-tells : (old now : List Function) (f : Function) → Contains now f → Contains old f ⊎ Contains (since old now) f
since-tells old [] f c = absurd (none_in f c)
since-tells old (g ∷ fs) f c = by (since-tells old fs f) (is_among old g)
  where
    later : Contains old f ⊎ Contains (since old fs) f → Contains old f ⊎ Contains (g ∷ since old fs) f
    later (inl there) = inl there
    later (inr there) = inr (later_in g f (since old fs) there)

    by : (Contains fs f → Contains old f ⊎ Contains (since old fs) f) → (d : Dec (Contains old g)) → Contains old f ⊎ Contains (with_new d g (since old fs)) f
    by rest (yes there) = dite (Function-discrete g f) (λ same. inl (subst (Contains old) same there)) (λ other. rest (Contains-tail g fs f other c))
    by rest (no new) = dite (Function-discrete g f) (λ same. inr (first_in g f (since old fs) same)) (λ other. later (rest (Contains-tail g fs f other c)))

since-new : (old now : List Function) (f : Function) → Contains (since old now) f → Contains now f × (Contains old f → ⊥)
since-new old [] f c = absurd (none_in f c)
since-new old (g ∷ fs) f c = by (λ there. let r = since-new old fs f there in (later_in g f fs r.0, r.1)) (is_among old g) c
  where
    by : (Contains (since old fs) f → Contains (g ∷ fs) f × (Contains old f → ⊥)) → (d : Dec (Contains old g)) → Contains (with_new d g (since old fs)) f → Contains (g ∷ fs) f × (Contains old f → ⊥)
    by further (yes there) c = further c
    by further (no new) c = dite (Function-discrete g f) (λ same. (first_in g f fs same, λ there. new (subst (Contains old) (sym same) there))) (λ other. further (Contains-tail g (since old fs) f other c))

-- what a seat tells of the content that it gives back
abbrev pub leaving_of : Draws → Shared → Leaving
leaving_of d y = record { stored = since d.functions (functions y); due = due y }

pub leaving_of-is : (d : Draws) (y : Shared) → IsLeaving d y (leaving_of d y)
leaving_of-is d y = record { told = since-tells d.functions (functions y); new = since-new d.functions (functions y); due_is = refl }

-- what it stored has the property of all that was stored
pub stored-only : (P : Function → Type 0) (x y : Shared) (d : Draws) (l : Leaving) → d.functions ≡ functions x → StoresOnly P x y → IsLeaving d y l → (f : Function) → Contains l.stored f → P f
stored-only P x y d l had all is f c = by (all f (is.new f c).0)
  where
    by : Contains (functions x) f ⊎ P f → P f
    by (inl there) = absurd ((is.new f c).1 (subst (λ (fs : List Function). Contains fs f) (sym had) there))
    by (inr has) = has

pub stores-then : (P : Function → Type 0) (x y z : Shared) → StoresOnly P x y → StoresOnly P y z → StoresOnly P x z
stores-then P x y z first second f c = by (second f c)
  where
    by : Contains (functions y) f ⊎ P f → Contains (functions x) f ⊎ P f
    by (inl there) = first f there
    by (inr has) = inr has

-- what the nodes denote
module _ (whole : Denoted → Function) where
  with_later : (o : Option Denoted) (fs : List Function) (f : Function) → Contains fs f → Contains (with_whole whole o fs) f
  with_later None fs f c = c
  with_later (Some o) fs f c = later_in (whole o) f fs c

  with_first : (x : Option Denoted) (o : Denoted) (fs : List Function) → x ≡ Some o → Contains (with_whole whole x fs) (whole o)
  with_first x o fs is = subst (λ (y : Option Denoted). Contains (with_whole whole y fs) (whole o)) (sym is) (first_in (whole o) (whole o) fs refl)

  with_split : (x : Option Denoted) (fs : List Function) (f : Function) → Contains (with_whole whole x fs) f → ((o : Denoted) × (x ≡ Some o) × (whole o ≡ f)) ⊎ Contains fs f
  with_split None fs f c = inr c
  with_split (Some o) fs f c = dite (Function-discrete (whole o) f) (λ same. inl (o, refl, same)) (λ other. inr (Contains-tail (whole o) fs f other c))

  module _ (content : ℕ → Option Denoted) where
    pub functions-has : (n s : ℕ) (o : Denoted) → s < n → content s ≡ Some o → Contains (functions_below whole content n) (whole o)
    unfolding functions_below
    functions-has zero s o within is = absurd (omega (arith, within))
    functions-has (suc n) s o within is = dite (ℕ_discrete s n)
        (λ here. with_first (content n) o (functions_below whole content n) (ap content (sym here) ∙ is))
        (λ apart. with_later (content n) (functions_below whole content n) (whole o) (functions-has n s o (omega (arith, within, apart)) is))

    pub functions-find : (n : ℕ) (f : Function) → Contains (functions_below whole content n) f → (s : ℕ) × (s < n) × (o : Denoted) × (content s ≡ Some o) × (whole o ≡ f)
    unfolding functions_below
    functions-find zero f c = absurd (none_in f c)
    functions-find (suc n) f c = by (functions-find n f) (with_split (content n) (functions_below whole content n) f c)
      where
        by : (Contains (functions_below whole content n) f → (s : ℕ) × (s < n) × (o : Denoted) × (content s ≡ Some o) × (whole o ≡ f))
            → ((o : Denoted) × (content n ≡ Some o) × (whole o ≡ f)) ⊎ Contains (functions_below whole content n) f → (s : ℕ) × (s < suc n) × (o : Denoted) × (content s ≡ Some o) × (whole o ≡ f)
        by rest (inl here) = (n, omega arith, here.0, here.1, here.2)
        by rest (inr there) = let r = rest there in let below = r.1 in (r.0, omega (arith, below), r.2, r.3, r.4)
