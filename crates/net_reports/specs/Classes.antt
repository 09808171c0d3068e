-- Functions that are equal up to complement, and their classes.
use Rattle.std.specs.Prelude.{◌≡◌, ℕ, ◌^◌, ◌<◌, ◌≤◌, Bool, not, List, Some, length, slice_get, if◌then◌else◌}
use Rattle.net_reports.specs.declared.classes.Class.{Class}

-- a function of an assignment's number
abbrev pub Function : Type 0
Function = ℕ → Bool

-- at each assignment of n variables the one has the value of the other, or the opposite value where `complement` is true
abbrev pub Agree : ℕ → Bool → Function → Function → Type 0
Agree n complement f g = (k : ℕ) → k < 2 ^ n → f k ≡ (if complement then not (g k) else g k)

-- The class of function i: the first function that is equal to it up to complement, and whether it is the complement.
pub record IsClass (n : ℕ) (functions : List Function) (i : ℕ) (class : Class) : Type 0 where
  pub not_later : class.first ≤ i
  pub agrees : (f g : Function) → slice_get functions i ≡ Some f → slice_get functions class.first ≡ Some g → Agree n class.complement f g
  pub none_before : (j : ℕ) (complement : Bool) (f g : Function) → j < class.first → slice_get functions i ≡ Some f → slice_get functions j ≡ Some g
      → Agree n complement f g → ⊥

-- each function has its class
pub record AreClasses (n : ℕ) (functions : List Function) (classes : List Class) : Type 0 where
  pub as_many : length classes ≡ length functions
  pub each : (i : ℕ) (class : Class) → slice_get classes i ≡ Some class → IsClass n functions i class
