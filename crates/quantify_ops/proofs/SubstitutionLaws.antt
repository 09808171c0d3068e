-- Composition of several functions at once, step by step.
use Rattle.std.proofs.Common.{◌≡◌, ℕ, ◌<◌, ◌==◌, Bool, true, false, ℤ, List, [], ◌∷◌, map, Option, Some, None, inl, inr, refl, sym, ap, ◌∙◌, subst, arith}
use Rattle.std.specs.Prelude.{find, get_or, if◌then◌else◌}
use Rattle.std.specs.List.{All}
use Rattle.std.proofs.lemmas.List.Elements.{All-head, All-map, All-tail}
use Rattle.edge_bits.specs.declared.edges.Edge.{Edge}
use Rattle.edge_bits.specs.declared.edges.Kind.TheVariants.{Bdd}
use Rattle.function_laws.specs.Makings.{are_distinct}
use Rattle.function_laws.specs.Values.{IsFree, composed_at_once, if_then_else, projection}
use Rattle.function_laws.proofs.ComposeLemmas.{composed_at_once-choice, composed_at_once-free, image, value_or}
use Rattle.function_laws.specs.Kinds.{Denoted, BddFunction}
use Rattle.node_store.specs.Splits.{BothAnswered, Branches}
use Rattle.node_store.specs.Three.{AreThree}
use Rattle.node_store.specs.Views.{View, Denotes, Grown, Is, IsInner, IsLeaf, IsVariable, bdd_at}
use Rattle.node_store.specs.ViewLaws.{Grown-refl, Grown-trans, Is-from, Is-grown, IsBelow-inner, IsVariable-grown, Splits-grown, top-grown, values_at-grown, values_at-is}
use Rattle.node_store.specs.Work.{IsWork, Adds, Moves}
use Rattle.node_store.specs.WorkLaws.{IsPart-half, IsWork-grown}
use Rattle.node_store.specs.declared.operator.Task.{Task}
use Rattle.node_store.proofs.TwoParts.{Lacks-leaf}
use Rattle.ite_core.specs.Cofactors.{one_depth}
use Rattle.quantify_ops.specs.Substituted.{function_with, functions_of, IsPair, AreSubstituted, substituted_at, value_of_vector_compose, IsBelowAll, ReachesDownTo, lower_of, SubstituteDue, SubstituteAnswers, SubstituteSplits, IsImageOr, IsImage}
use Rattle.quantify_ops.specs.SubstitutedLasts.{SubstituteAnswers-stay, SubstituteDue-stays, SubstituteSplits-stay, substituted_at-grown, value_of_vector_compose-stays}

-- the function that is put for a variable
image_step : (w : View) (pair : ℕ × Edge) (pairs : List (ℕ × Edge)) (x : ℕ) (c : Bool) (e : Edge) → Is Bdd w pair.1
    → (IsImageOr w (find (λ pair. pair.0 == x) pairs) x e → Denotes Bdd w e (image (functions_of w pairs) x))
    → IsImageOr w (if c then Some pair else find (λ pair. pair.0 == x) pairs) x e
    → Denotes Bdd w e (λ k. value_or (if c then Some (function_with w pair) else find (λ pair. pair.0 == x) (functions_of w pairs)) k (projection x k))
image_step w pair pairs x true e here rest is = rw is here
image_step w pair pairs x false e here rest is = rest is

image_is : (w : View) (pairs : List (ℕ × Edge)) (x : ℕ) (e : Edge) → All (IsPair w) pairs → IsImage w pairs x e → Denotes Bdd w e (image (functions_of w pairs) x)
image_is w [] x e all is = is
image_is w (pair ∷ pairs) x e all is =
    image_step w pair pairs x (pair.0 == x) e (All-head (IsPair w) pair pairs all).1 (image_is w pairs x e (All-tail (IsPair w) pair pairs all)) is

-- where the function depends on no variable of the pairs
free_pairs : (w : View) (f : ℕ → Bool) (pairs : List (ℕ × Edge)) → All (λ pair. IsFree f pair.0) pairs → composed_at_once f (functions_of w pairs) ≡ f
free_pairs w f pairs free = composed_at_once-free f (functions_of w pairs) (All-map (λ pair. IsFree f pair.0) (function_with w) pairs free)

pub substitute_leaf : (v w : View) (f : Edge) (pairs : List (ℕ × Edge)) (z : ℤ) → Grown v w → Is Bdd v f → IsLeaf Bdd w f (bdd_at v f) z → Denotes Bdd w f (substituted_at w f pairs)
substitute_leaf v w f pairs z m d i =
    let free : All (λ pair. IsFree (bdd_at w f) pair.0) pairs = λ k none within. subst (λ g. IsFree g (get_or pairs k none).0) (sym (values_at-grown Bdd m d)) (Lacks-leaf Bdd f (bdd_at v f) z i.leaf (get_or pairs k none).0) in
    subst (λ g. Denotes Bdd w f g) (sym (free_pairs w (bdd_at w f) pairs free)) (Is-grown Bdd m d)

-- where its top variable is below all of those
free_below : (w : View) (f hi lo : Edge) (g : ℕ → Bool) (lowest : Option ℕ) (pair : ℕ × Edge) (level top : ℕ) → IsInner Bdd w f g top hi lo → level ≡ w.level top → IsVariable Bdd w pair.0
    → ReachesDownTo w lowest pair → IsBelowAll lowest level → IsFree g pair.0
free_below w f hi lo g (Some last) pair level top i same xn reach below =
    let lt : w.level pair.0 < w.level top = omega arith in IsBelow-inner Bdd pair.0 i lt pair.0 xn (omega arith)
free_below w f hi lo g None pair level top i same xn reach below = absurd reach

pub substitute_below : (f : Edge) (pairs : List (ℕ × Edge)) (lowest : Option ℕ) (v w y : View) (t : Task) (hi lo : Edge) (top level : ℕ) → Grown v w → Grown w y → SubstituteDue f pairs lowest v t
    → IsInner Bdd w t.f (bdd_at v t.f) top hi lo → level ≡ w.level top → IsBelowAll lowest level → Denotes Bdd y t.f (substituted_at y t.f pairs)
substitute_below f pairs lowest v w y t hi lo top level m n d i same below =
    let all = Grown-trans m n in
    let now = SubstituteDue-stays f pairs lowest v w t m d in
    let free : All (λ pair. IsFree (bdd_at y t.f) pair.0) pairs = λ k none within. subst (λ g. IsFree g (get_or pairs k none).0) (sym (values_at-grown Bdd all d.edge))
    (free_below w t.f hi lo (bdd_at v t.f) lowest (get_or pairs k none) level top i same (now.root.each k none within).0 (now.reach k none within) below) in
    subst (λ g. Denotes Bdd y t.f g) (sym (free_pairs y (bdd_at y t.f) pairs free)) (Is-grown Bdd all d.edge)

-- the parts of a task
pub Substitute-branches : (f : Edge) (pairs : List (ℕ × Edge)) (lowest : Option ℕ) (v0 v1 w : View) (t a b : Task) (x : ℕ) (hi lo : Edge) → SubstituteDue f pairs lowest v0 t → Grown v0 v1
    → IsInner Bdd v1 t.f (bdd_at v0 t.f) x hi lo → Grown v1 w → a.f ≡ hi → b.f ≡ lo
    → Branches (SubstituteDue f pairs lowest) (SubstituteAnswers pairs) (λ w t. ⊥) SubstituteSplits one_depth w t (record { task = t; flip = false; var = x; hi = a; lo = b })
Substitute-branches f pairs lowest v0 v1 w t a b x hi lo due0 m0 i m1 sa sb =
    let m = Grown-trans m0 m1 in
    let due = SubstituteDue-stays f pairs lowest v0 w t m due0 in
    let splits : SubstituteSplits w t x a b = record { in_range = IsVariable-grown Bdd m1 x i.in_range; splits = rw (sa, sb, values_at-grown Bdd m due0.edge) (Splits-grown Bdd m1 i.splits) } in
    let s = splits.splits in
    let tt0 = top-grown Bdd m1 (Is-grown Bdd m0 due0.edge) in let th = top-grown Bdd m1 i.splits.hi_is in let tl = top-grown Bdd m1 i.splits.lo_is in
    let vars = m1.vars in let here = i.here in let within = i.within in let hi_top = i.hi_top in let lo_top = i.lo_top in
    record {
      due = due;
      leads = record { gives = λ y e late is. is; over = λ y late bad. bad };
      splits = splits;
      hi_due = record {
        permanent = due.permanent;
        root = due.root;
        reach = due.reach;
        edge = s.hi_is;
        part = IsPart-half Bdd w x (bdd_at w f) (bdd_at w t.f) (bdd_at w a.f) (bdd_at w b.f) true splits.in_range s.is s.hi_below s.lo_below due.part;
      };
      lo_due = record {
        permanent = due.permanent;
        root = due.root;
        reach = due.reach;
        edge = s.lo_is;
        part = IsPart-half Bdd w x (bdd_at w f) (bdd_at w t.f) (bdd_at w a.f) (bdd_at w b.f) false splits.in_range s.is s.hi_below s.lo_below due.part;
      };
      hi_less = rw sa (omega arith);
      lo_less = rw sb (omega arith);
    }

-- the functions' variables are the pairs'
names : (w : View) (pairs : List (ℕ × Edge)) → map (λ pair. pair.0) (functions_of w pairs) ≡ map (λ pair. pair.0) pairs
names w [] = refl
names w (pair ∷ pairs) = ap (λ rest. pair.0 ∷ rest) (names w pairs)

names_distinct : (w : View) (pairs : List (ℕ × Edge)) → are_distinct (map (λ pair. pair.0) pairs) ≡ true → are_distinct (map (λ pair. pair.0) (functions_of w pairs)) ≡ true
names_distinct w pairs distinct = ap are_distinct (names w pairs) ∙ distinct

-- both answers, later
pub substitute_at : (f : Edge) (pairs : List (ℕ × Edge)) (lowest : Option ℕ) (v w : View) (t hi lo : Task) (x : ℕ) (e0 e1 : Edge) → Grown v w
    → BothAnswered (SubstituteDue f pairs lowest) (SubstituteAnswers pairs) SubstituteSplits v t x e0 e1 hi lo → BothAnswered (SubstituteDue f pairs lowest) (SubstituteAnswers pairs) SubstituteSplits w t x e0 e1 hi lo
substitute_at f pairs lowest v w t hi lo x e0 e1 m p = record {
  due = SubstituteDue-stays f pairs lowest v w t m p.due;
  splits = SubstituteSplits-stay v w t x hi lo m p.due.edge p.splits;
  hi_is = SubstituteAnswers-stay pairs v w hi e0 m p.due.root.each p.splits.splits.hi_is p.hi_is;
  lo_is = SubstituteAnswers-stay pairs v w lo e1 m p.due.root.each p.splits.splits.lo_is p.lo_is;
}

-- the answers of both parts
module _ (f : Edge) (pairs : List (ℕ × Edge)) (lowest : Option ℕ) (w : View) (t hi lo : Task) (x : ℕ) (e0 e1 image_at : Edge) (is_image : IsImage w pairs x image_at)
    (d : SubstituteDue f pairs lowest w t) (s : SubstituteSplits w t x hi lo) (a0 : SubstituteAnswers pairs w hi e0) (a1 : SubstituteAnswers pairs w lo e1) where
  image_here : Denotes Bdd w image_at (image (functions_of w pairs) x)
  image_here = image_is w pairs x image_at d.root.each is_image

  pub substitute_three : AreThree Bdd w image_at e0 e1
  substitute_three = record { condition = Is-from Bdd image_here; first = Is-from Bdd a0; second = Is-from Bdd a1 }

  pub substitute_value : if_then_else (bdd_at w image_at) (bdd_at w e0) (bdd_at w e1) ≡ substituted_at w t.f pairs
  substitute_value = rw (values_at-is Bdd image_here, values_at-is Bdd a0, values_at-is Bdd a1)
      (sym (ap (λ h. composed_at_once h (functions_of w pairs)) s.splits.is ∙ composed_at_once-choice (bdd_at w hi.f) (bdd_at w lo.f) (functions_of w pairs) x (names_distinct w pairs d.root.distinct)))

  module _ (y : View) (m : Grown w y) where
    value_later : (F : Denoted) → F ≡ BddFunction (substituted_at w t.f pairs) → value_of_vector_compose f pairs y F
    value_later F is = value_of_vector_compose-stays f pairs w y F m d.root (bdd_at w t.f, (d.part, is))

    pub substitute_due : (o : Option Denoted) → IsWork y (λ F. F ≡ BddFunction (if_then_else (bdd_at w image_at) (bdd_at w e0) (bdd_at w e1))) o → IsWork y (value_of_vector_compose f pairs y) o
    substitute_due o i = IsWork-grown (Grown-refl y) _ (value_of_vector_compose f pairs y) (λ F is. value_later F (is ∙ ap BddFunction substitute_value)) o i

    pub substitute_moved : Adds (λ F. F ≡ BddFunction (if_then_else (bdd_at w image_at) (bdd_at w e0) (bdd_at w e1))) w y → Moves (λ w. AreSubstituted w f pairs) (value_of_vector_compose f pairs) w y
    substitute_moved adds = record { grown = m; work = λ roots k here. elim (adds k here) [ inl old ↦ inl old | inr i ↦ inr (substitute_due (y.content k) i) ] }

    pub substitute_answer : (e : Edge) → Denotes Bdd y e (if_then_else (bdd_at w image_at) (bdd_at w e0) (bdd_at w e1)) → SubstituteAnswers pairs y t e
    substitute_answer e den = rw (substituted_at-grown pairs m d.root.each d.edge, sym substitute_value) den

-- the lower one of two levels reaches down to both
pub reach_lower : (w : View) (lowest : Option ℕ) (level : ℕ) (pair : ℕ × Edge) → ReachesDownTo w lowest pair → ReachesDownTo w (Some (lower_of lowest level)) pair
reach_lower w (Some first) level pair h = omega arith
reach_lower w None level pair h = absurd h

pub reach_own : (w : View) (lowest : Option ℕ) (level : ℕ) (pair : ℕ × Edge) → level ≡ w.level pair.0 → ReachesDownTo w (Some (lower_of lowest level)) pair
reach_own w (Some first) level pair same = omega arith
reach_own w None level pair same = omega arith

-- the answer of the call's own task
pub root_answer : (u w : View) (f : Edge) (pairs : List (ℕ × Edge)) (t : Task) (e : Edge) → Grown u w → AreSubstituted u f pairs → t.f ≡ f → SubstituteAnswers pairs w t e → Denotes Bdd w e (substituted_at u f pairs)
root_answer u w f pairs t e m d sf a = rw (sym (substituted_at-grown pairs m d.each d.edge)) (rw sf at a)
