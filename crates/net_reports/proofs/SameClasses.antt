-- The classes of functions of n variables depend on their values below 2 ^ n alone.
use Rattle.std.proofs.Common.{◌≡◌, ℕ, zero, suc, cond, not, Bool, List, [], ◌∷◌, length, Some, refl, ap, sym, ◌∙◌, arith}
use Rattle.std.specs.Prelude.{slice_get}
use Rattle.std.proofs.lemmas.Option.{slice_get_within}
use Rattle.diagram_dumps.specs.Agreement.{AreSame, IsSame}
use Rattle.net_reports.specs.Classes.{Agree, AreClasses, Function, IsClass}
use Rattle.net_reports.specs.declared.classes.Class.{Class}

-- functions that are the same one for one are as many
pub same_length : (n : ℕ) (fs gs : List Function) → AreSame n fs gs → length fs ≡ length gs
same_length n [] [] same = refl
same_length n [] (g ∷ gs) same = absurd same
same_length n (f ∷ fs) [] same = absurd same
same_length n (f ∷ fs) (g ∷ gs) same = ap suc (same_length n fs gs same.1)

-- the functions at one place
same_at : (n : ℕ) (fs gs : List Function) → AreSame n fs gs → (i : ℕ) (g : Function) → slice_get gs i ≡ Some g → (f : Function) × (slice_get fs i ≡ Some f) × IsSame n f g
same_at n [] [] same i g at = absurd (let less = slice_get_within [] i g at in omega (arith, less))
same_at n [] (h ∷ gs) same i g at = absurd same
same_at n (f ∷ fs) [] same i g at = absurd same
same_at n (f ∷ fs) (h ∷ gs) same zero g at =
    let is : h ≡ g = cc in (f, refl, (λ k below. same.0 k below ∙ ap (λ (x : Function). x k) is))
same_at n (f ∷ fs) (h ∷ gs) same (suc i) g at = same_at n fs gs same.1 i g at

agree_same : (n : ℕ) (complement : Bool) (f g f' g' : Function) → IsSame n f f' → IsSame n g g' → Agree n complement f g → Agree n complement f' g'
agree_same n complement f g f' g' same_f same_g agree = λ k below.
    sym (same_f k below) ∙ agree k below ∙ ap (λ b. cond complement (not b) b) (same_g k below)

module _ (n : ℕ) (fs gs : List Function) (same : AreSame n fs gs) where
  class_same : (i : ℕ) (class : Class) → IsClass n fs i class → IsClass n gs i class
  class_same i class is = record {
    not_later = is.not_later;
    agrees = λ f g at_f at_g.
        let a = same_at n fs gs same i f at_f in
        let b = same_at n fs gs same class.first g at_g in
        agree_same n class.complement a.0 b.0 f g a.2 b.2 (is.agrees a.0 b.0 a.1 b.1);
    none_before = λ j complement f g less at_f at_g agree.
        let a = same_at n fs gs same i f at_f in
        let b = same_at n fs gs same j g at_g in
        is.none_before j complement a.0 b.0 less a.1 b.1
        (agree_same n complement f g a.0 b.0 (λ k below. sym (a.2 k below)) (λ k below. sym (b.2 k below)) agree);
  }

  pub classes_same : (classes : List Class) → AreClasses n fs classes → AreClasses n gs classes
  classes_same classes are = record {
    as_many = are.as_many ∙ same_length n fs gs same;
    each = λ i class at. class_same i class (are.each i class at);
  }
