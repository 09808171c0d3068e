-- What a growing operation, a sweep and a change of counts store, and what was due.
use Rattle.std.proofs.Common.{◌≡◌, ◌⊎◌, inl, inr, ℕ, ◌+◌, ◌-◌, ◌<◌, ◌≤◌, nat_le, Bool, true, false, ◌&&◌, length, Contains, Option, Some, None, option_map, refl, ap, ap₂, sym, subst, ◌∙◌, arith}
use Rattle.std.proofs.lemmas.Bool.{cases_lt}
use Rattle.edge_bits.specs.declared.words.Word.{Word}
use Rattle.function_laws.specs.declared.history.Function.{Function}
use Rattle.function_laws.specs.Kinds.{Denoted}
use Rattle.function_laws.specs.Sizes.{Orders}
use Rattle.node_store.specs.Contents.{IsSound, is_used}
use Rattle.node_store.specs.Views.{View, Grown}
use Rattle.node_store.specs.Work.{Adds, IsWork}
use Rattle.node_store.specs.WorkLaws.{IsPart-back}
use Rattle.node_slots.specs.Held.{Alone}
use Rattle.node_slots.specs.Stores.{Plain, IsStore, content_of, plain_view, slots}
use Rattle.node_slots.specs.Wholes.{content_view}
use Rattle.node_slots.proofs.Settling.{settled_sound}
use Rattle.dead_sweep.specs.declared.sweeping.Swept.{Swept}
use Rattle.dead_sweep.specs.Swept.{IsSwept}
use Rattle.shared_store.specs.declared.shared.Shared.{Shared}
use Rattle.shared_store.specs.Lasting.{IsRecounted}
use Rattle.shared_store.specs.Sharing.{due, functions, functions_below, view_of, whole_in, whole_of}
use Rattle.shared_store.specs.Storing.{IsListedWork, StoresOnly}
use Rattle.shared_store.proofs.Storing.{functions-find, functions-has}

some_same : {X : Type 0} (x y : X) → Some x ≡ Some y → x ≡ y
some_same x y e = cc

last_true : (a b : Bool) → (a && b) ≡ true → b ≡ true
last_true true b e = e
last_true false b e = cc

module _ (p : Plain) (of : IsStore p) where
  sound : IsSound (content_view p)
  sound = settled_sound p of

  pub used_within : (s : ℕ) (f : Denoted) → content_of p s ≡ Some f → s < length p.words
  used_within s f is = sound.within s (sound.used s f is)

  -- a slot that denotes something, and isn't permanent, was made
  is_made : (s : ℕ) (f : Denoted) → content_of p s ≡ Some f → 5 + length p.variable_levels ≤ s → (plain_view p).made s ≡ true
  is_made s f is from =
      let le : nat_le (5 + length p.variable_levels) s ≡ true = grind (arith, from) in
      ap₂ (λ a o. a && is_used o) le (sound.used s f is).1

  denotes : (s : ℕ) → content_of p s ≡ None → (f : Denoted) × (content_of p s ≡ Some f) → ⊥
  denotes s none d = let e : None ≡ Some d.0 = sym none ∙ d.1 in cc

  -- one that denotes nothing wasn't
  not_made : (s : ℕ) → content_of p s ≡ None → (plain_view p).made s ≡ true → ⊥
  not_made s none made = by (slots p s) refl
    where
      by : (o : Option Word) → slots p s ≡ o → ⊥
      by None free = let a = last_true (nat_le (5 + length p.variable_levels) s) (is_used (slots p s)) made in let b : is_used (slots p s) ≡ false = ap is_used free in cc
      by (Some word) is = denotes s none (sound.denotes s (word, is))

  -- and is not permanent
  not_permanent : (s : ℕ) → s < 5 + length p.variable_levels → content_of p s ≡ None → ⊥
  not_permanent s lt none = elim (cases_lt s 5) [
    | inl low ↦ denotes s none (sound.denotes s (_, of.permanent.constants s low))
    | inr from ↦ denotes s none (sound.denotes s (_, ap (slots p) (let e : s ≡ 5 + (s - 5) = omega (arith, from) in e) ∙ of.permanent.projections (s - 5) (omega (arith, lt, from))))
  ]

-- what a slot denotes in both is listed in both
same-listed : (x y : Shared) → IsStore x.store → (view_of y).vars ≡ (view_of x).vars → (view_of y).elements ≡ (view_of x).elements
    → (s : ℕ) (o : Denoted) (f : Function) → (view_of x).content s ≡ Some o → whole_of (view_of y) o ≡ f → Contains (functions x) f
same-listed x y of vars elements s o f at is =
    subst (Contains (functions x)) (ap₂ (λ n m. whole_in n m o) (sym vars) (sym elements) ∙ is)
    (functions-has (whole_of (view_of x)) (view_of x).content (view_of x).slots s o (used_within x.store of s o at) at)

module _ (x y : Shared) (of : IsStore x.store) (of' : IsStore y.store) where
  -- What is stored after an operation was stored before, or is a part of its work.
  pub stores-grown : (Work : Denoted → Type 0) → Grown (view_of x) (view_of y) → Adds Work (view_of x) (view_of y) → StoresOnly (IsListedWork (view_of x) Work) x y
  stores-grown Work grown adds f c =
      let found = functions-find (whole_of (view_of y)) (view_of y).content (view_of y).slots f c in
      by found.0 found.2 found.3 found.4 ((view_of x).content found.0) refl
    where
      earlier : (o : Denoted) → IsWork (view_of y) Work (Some o) → IsWork (view_of x) Work (Some o)
      earlier o work = record { kind = work.kind; root = work.root; part = work.part; asked = work.asked; is_part = IsPart-back work.kind grown work.root work.part work.is_part; is = work.is }

      by : (s : ℕ) (o : Denoted) → (view_of y).content s ≡ Some o → whole_of (view_of y) o ≡ f → (before : Option Denoted) → (view_of x).content s ≡ before → Contains (functions x) f ⊎ IsListedWork (view_of x) Work f
      by s o at is (Some g) was = inl (same-listed x y of grown.vars grown.elements s o f (was ∙ ap Some (some_same g o (sym (grown.content s g was) ∙ at))) is)
      by s o at is None was = elim (cases_lt s (5 + length x.store.variable_levels)) [
        | inl low ↦ absurd (not_permanent x.store of s low was)
        | inr from ↦ elim (adds s (is_made y.store of' s o at (let v = grown.vars in omega (arith, from, v)))) [
          | inl made ↦ absurd (not_made x.store of s was made)
          | inr work ↦ inr (o, earlier o (subst (IsWork (view_of y) Work) at work), sym is ∙ ap₂ (λ n m. whole_in n m o) grown.vars grown.elements)
        ]
      ]

  -- A sweep stores nothing.
  pub stores-swept : (P : Function → Type 0) (swept : Swept) → IsSwept Alone (content_view x.store) (content_view y.store) swept → StoresOnly P x y
  stores-swept P swept is f c =
      let found = functions-find (whole_of (view_of y)) (view_of y).content (view_of y).slots f c in
      let s = found.0 in
      let kept : (view_of y).content s ≡ (view_of x).content s = is.kept_function s (is.left s ((settled_sound y.store of').used s found.2 found.3)) in
      inl (same-listed x y of vars elements s found.2 f (sym kept ∙ found.3) found.4)
    where
      vars : (view_of y).vars ≡ (view_of x).vars
      vars = sym of'.variables_stand.as_many ∙ ap (λ (o : Orders). length o.variables) is.orders ∙ of.variables_stand.as_many

      elements : (view_of y).elements ≡ (view_of x).elements
      elements = sym of'.elements_stand.as_many ∙ ap (λ (o : Orders). length o.elements) is.orders ∙ of.elements_stand.as_many

-- A change of counts stores nothing.
pub functions-recounted : (x y : Shared) → IsRecounted x y → functions y ≡ functions x
functions-recounted x y same = ap (λ (w : View). functions_below (whole_of w) w.content w.slots) same.view

-- what was due at a Full is a part of the work
pub due-listed : (x : Shared) (Work : Denoted → Type 0) → IsWork (view_of x) Work (view_of x).due → (f : Function) × (due x ≡ Some f) × IsListedWork (view_of x) Work f
due-listed x Work work = by (view_of x).due refl
  where
    by : (o : Option Denoted) → (view_of x).due ≡ o → (f : Function) × (due x ≡ Some f) × IsListedWork (view_of x) Work f
    by None is = absurd (elim work.is [ inl e ↦ (let a : None ≡ Some _ = sym is ∙ e in cc) | inr e ↦ (let a : None ≡ Some _ = sym is ∙ e in cc) ])
    by (Some o) is = (whole_of (view_of x) o, ap (option_map (whole_of (view_of x))) is, (o, subst (IsWork (view_of x) Work) is work, refl))
