-- The values of functions by those of the first of their classes.
use Rattle.std.proofs.Common.{◌≡◌, ℕ, zero, suc, ◌+◌, ◌<◌, ◌^◌, Bool, true, false, List, [], ◌∷◌, ◌++◌, Some, length, get_or, map, min, take, not, if◌then◌else◌, refl, ap, ap₂, sym, ◌∙◌, subst, arith}
use Rattle.std.specs.List.{slice_get}
use Rattle.std.proofs.Math.Bool.{beq}
use Rattle.std.proofs.lemmas.List.{map_more, take_all}
use Rattle.std.proofs.lemmas.Option.{slice_get_read}
use Rattle.function_laws.specs.declared.history.Name.{Name}
use Rattle.function_laws.specs.Values.{assignment_of, differs}
use Rattle.function_laws.proofs.BitLists.{assignment_of-below}
use Rattle.diagram_dumps.specs.declared.listings.Listing.{Listing}
use Rattle.net_reports.specs.Classes.{AreClasses}
use Rattle.net_reports.specs.declared.classes.Class.{Class}
use Rattle.net_builds.specs.Standings.{Asks, Lists, Standing, values_of}
use Rattle.net_builds.specs.Tellings.{AreClassed, value_in, values_in}
use Rattle.net_builds.proofs.Mapped.{length_same, map_same}
use Rattle.net_builds.proofs.TellingLemmas.{stands_in, value_of_row}

-- the function that the name at a place stands for
function_at : (s : Standing) (names : List Name) (functions : List (ℕ → Bool)) → map s.stands names ≡ map (values_of s.vars) functions → (i : ℕ) (name : Name)
    → slice_get names i ≡ Some name → (f : ℕ → Bool) × (slice_get functions i ≡ Some f) × (s.stands name ≡ values_of s.vars f)
function_at s [] functions stand i name is = absurd (cc is)
function_at s (x ∷ names) [] stand i name is = absurd (cc stand)
function_at s (x ∷ names) (f ∷ functions) stand zero name is =
    let same : x ≡ name = cc is in
    let here : s.stands x ≡ values_of s.vars f = cc stand in
    (f, refl, ap s.stands (sym same) ∙ here)
function_at s (x ∷ names) (f ∷ functions) stand (suc i) name is =
    let later : map s.stands names ≡ map (values_of s.vars) functions = cc stand in
    function_at s names functions later i name is

-- a value among those of the first names is that of a name
name_at : (s : Standing) (names : List Name) (n k i : ℕ) (value : Bool) → slice_get (values_in s (take n names) k) i ≡ Some value
    → (name : Name) × (slice_get names i ≡ Some name) × (value ≡ value_in k (s.stands name))
name_at s names zero k i value is = absurd (cc is)
name_at s [] (suc n) k i value is = absurd (cc is)
name_at s (x ∷ names) (suc n) k zero value is =
    let same : value_in k (s.stands x) ≡ value = cc is in
    (x, refl, sym same)
name_at s (x ∷ names) (suc n) k (suc i) value is = name_at s names n k i value is

pub differs_unlike : (a b : Bool) → not (beq a b) ≡ differs a b
differs_unlike true true = refl
differs_unlike true false = refl
differs_unlike false true = refl
differs_unlike false false = refl

differs_turned : (a complement : Bool) → (if complement then not a else a) ≡ differs a complement
differs_turned true true = refl
differs_turned true false = refl
differs_turned false true = refl
differs_turned false false = refl

-- the value of a name is that of the first of its class, turned where it is the complement of that
turned_value : (s : Standing) (names : List Name) (classes : List Class) → AreClassed s names classes → (i k : ℕ) (name : Name) (class : Class) (first : Bool) → k < 2 ^ s.vars
    → slice_get names i ≡ Some name → slice_get classes i ≡ Some class → slice_get (values_in s (take i names) k) class.first ≡ Some first
    → value_in k (s.stands name) ≡ differs first class.complement
turned_value s names classes classed i k name class first below named is valued =
    let own = function_at s names classed.functions classed.stand i name named in
    let other = name_at s names i k class.first first valued in
    let of_first = function_at s names classed.functions classed.stand class.first other.0 other.1 in
    let agrees = (classed.are.each i class is).agrees own.0 of_first.0 own.1 of_first.1 k below in
    let value : first ≡ of_first.0 k = other.2 ∙ ap (value_in k) of_first.2 ∙ value_of_row s.vars k of_first.0 below in
    ap (value_in k) own.2 ∙ value_of_row s.vars k own.0 below ∙ agrees ∙ differs_turned (of_first.0 k) class.complement
    ∙ ap (λ b. differs b class.complement) (sym value)

-- as many classes as names
pub as_many_classes : (s : Standing) (names : List Name) (classes : List Class) → AreClassed s names classes → length classes ≡ length names
as_many_classes s names classes classed = classed.are.as_many ∙ sym (length_same s.stands (values_of s.vars) names classed.functions classed.stand)

-- the assignment of as many bits as there are variables
pub bits_below : (s : Standing) (bits : List Bool) → length bits ≡ s.vars → assignment_of bits < 2 ^ s.vars
bits_below s bits long = subst (λ n. assignment_of bits < 2 ^ n) long (assignment_of-below bits)

-- some of the names are valued, and the session asked for some of the values
module _ (a b : Standing) (asks : Asks a b) (names : List Name) (classes : List Class) (i k : ℕ) (name : Name) (class : Class) (values : List Bool)
    (inside : i < length names) (within : i < length classes) (named : (d : Name) → name ≡ get_or names i d) (is : (d : Class) → class ≡ get_or classes i d)
    (so_far : values ≡ values_in a (take i names) k) where
  -- the next one has the value of the first of its class, where that is among them
  pub next_turned : AreClassed a names classes → k < 2 ^ a.vars → (earlier : List Bool) → earlier ≡ values
      → (first : Bool) → slice_get earlier class.first ≡ Some first → value_in k (b.stands name) ≡ differs first class.complement
  next_turned classed below earlier same first found =
      ap (value_in k) (asks.kept name)
      ∙ turned_value a names classes classed i k name class first below (slice_get_read names (length names) i name refl inside (named name))
      (slice_get_read classes (length classes) i class refl within (is class))
      (ap (λ bs. slice_get bs class.first) (sym so_far ∙ sym same) ∙ found)

  -- and then it is valued too
  pub next_valued : (value : Bool) (after : List Bool) → value ≡ value_in k (b.stands name) → after ≡ values ++ value ∷ [] → after ≡ values_in a (take (i + 1) names) k
  next_valued value after next pushed =
      pushed
      ∙ ap₂ (λ (vs : List Bool) (one : Bool). vs ++ one ∷ []) so_far
      (next ∙ ap (value_in k) (asks.kept name) ∙ ap (λ (x : Name). value_in k (a.stands x)) (named name))
      ∙ sym (map_more (λ (x : Name). value_in k (a.stands x)) names i name inside)

-- all of the names are valued
pub all_valued : (s : Standing) (names : List Name) (classes : List Class) → AreClassed s names classes → (i k : ℕ) → i ≡ min (length names) (length classes)
    → (values : List Bool) → values ≡ values_in s (take i names) k → values ≡ values_in s names k
all_valued s names classes classed i k all values so_far =
    so_far ∙ ap (λ some. values_in s some k) (take_all i names (omega (arith, all, as_many_classes s names classes classed)))

-- what is classed stays so while the session asks
pub classed_asked : (a b : Standing) → Asks a b → (names : List Name) (classes : List Class) → AreClassed a names classes → AreClassed b names classes
classed_asked a b asks names classes classed = record {
  functions = classed.functions;
  stand = map_same b.stands a.stands asks.kept names ∙ classed.stand ∙ ap (λ vars. map (values_of vars) classed.functions) (sym asks.works.vars_are);
  are = subst (λ n. AreClasses n classed.functions classes) (sym asks.works.vars_are) classed.are;
}

-- the classes of a listing are those of its names
pub classed_listed : (old mid : Standing) (names : List Name) (listing : Listing) (classes seen : List Class) (lists : Lists old mid names listing)
    → AreClasses (length listing.order) lists.functions classes → seen ≡ classes → AreClassed mid names seen
classed_listed old mid names listing classes seen lists are same = record {
  functions = lists.functions;
  stand = stands_in old mid names listing lists;
  are = subst (λ (cs : List Class). AreClasses mid.vars lists.functions cs) (sym same)
      (subst (λ n. AreClasses n lists.functions classes) (lists.wide ∙ sym (ap (λ (s : Standing). s.vars) lists.new_is)) are);
}
