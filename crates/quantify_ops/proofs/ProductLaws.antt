-- The product of the variables that are marked, from the last level to the first.
use Rattle.std.proofs.Common.{◌≡◌, ℕ, zero, suc, ◌+◌, ◌<◌, ◌≤◌, Bool, true, false, ◌&&◌, ℤ, List, [], ◌∷◌, length, drop, replicate, get_or, set, Option, Some, None, Result, Ok, Err, ◌⊎◌, inl, inr, refl, sym, ap, ◌∙◌, subst, arith}
use Rattle.std.proofs.Math.Bool.{and-true, and_self_left}
use Rattle.edge_bits.specs.declared.edges.Edge.{Edge}
use Rattle.edge_bits.specs.declared.edges.Kind.{Kind}
use Rattle.edge_bits.specs.declared.edges.Kind.TheVariants.{Bdd, Add, Zdd}
use Rattle.edge_bits.proofs.AssignmentLemmas.{bit-set_same}
use Rattle.function_laws.specs.Cubes.{cube_of}
use Rattle.function_laws.specs.Values.{IsFree, conjunction, constant, projection}
use Rattle.function_laws.proofs.CubeLemmas.{times-choice, times-cofactor, times-free}
use Rattle.function_laws.proofs.ValueLemmas.{everywhere}
use Rattle.function_laws.specs.Kinds.{Denoted, BddFunction, ValueOf, function_of, values_of, opposite}
use Rattle.node_store.specs.Operands.{IsOperand}
use Rattle.node_store.specs.Tops.{IsTopOf}
use Rattle.node_store.specs.ViewLaws.{Grown-trans, Is-from, IsVariable-grown, IsVariable-back, level-grown, values_at-is}
use Rattle.node_store.specs.Views.{View, CanMake, Denotes, Grown, IsLeaf, IsProjection, IsVariable, Opens, Rose, bdd_at, node_values}
use Rattle.node_store.specs.Work.{whole, cut, IsPart, IsWork, Adds}
use Rattle.node_store.specs.WorkLaws.{IsPart-both, IsWork-due, IsWork-edge, Moves-both}
use Rattle.node_store.specs.Halt.{halt_of}
use Rattle.node_store.specs.Operations.{Serves}
use Rattle.node_store.specs.declared.grow.Stop.{Stop}
use Rattle.node_store.specs.declared.grow.Stop.TheVariants as stop
use Rattle.node_store.specs.declared.operator.Halt.{Halt}
use Rattle.node_store.specs.declared.operator.Halt.TheVariants as halt
use Rattle.node_store.specs.declared.grow.Opened.{Opened}
use Rattle.node_store.specs.declared.grow.Opened.TheVariants.{Inner, Leaf}
use Rattle.node_store.specs.declared.parts.Operand.{Operand}
use Rattle.node_store.specs.declared.parts.Top.{Top}
use Rattle.node_store.proofs.TwoParts.{Lacks-leaf}
use Rattle.quantify_ops.specs.Products.{AreMarks, AreNoMarks, IsMark, marked_product}

-- the marks from a level on
abbrev pub MarksFrom : View → ℕ → List (Option ℕ) → Type 0
MarksFrom w base marks = (j v : ℕ) → get_or marks j None ≡ Some v → IsMark w (base + j) v

MarksFrom-rest : (w : View) (base : ℕ) (m : Option ℕ) (marks : List (Option ℕ)) → MarksFrom w base (m ∷ marks) → MarksFrom w (suc base) marks
MarksFrom-rest w base m marks h j v is = let same : base + suc j ≡ suc base + j = omega arith in subst (λ l. IsMark w l v) same (h (suc j) v is)

no_mark : {v : ℕ} → None ≡ Some v → ⊥
no_mark e = cc

-- all marks, from level 0 on
IsMark-up : (w : View) (j v : ℕ) → IsMark w j v → IsMark w (0 + j) v
IsMark-up w j v k = let same : j ≡ 0 + j = omega arith in subst (λ l. IsMark w l v) same k

from_first : (w : View) (marks : List (Option ℕ)) → AreMarks w marks → MarksFrom w 0 marks
from_first w marks h = λ j v is. IsMark-up w j v (h j v is)

pub MarksFrom-drop : (w : View) (base n : ℕ) (marks : List (Option ℕ)) → MarksFrom w base marks → MarksFrom w (base + n) (drop n marks)
MarksFrom-drop w base zero marks h = let same : base ≡ base + 0 = omega arith in subst (λ l. MarksFrom w l marks) same h
MarksFrom-drop w base (suc n) [] h = λ j v is. absurd (no_mark is)
MarksFrom-drop w base (suc n) (m ∷ marks) h = let same : suc base + n ≡ base + suc n = omega arith in
    subst (λ l. MarksFrom w l (drop n marks)) same (MarksFrom-drop w (suc base) n marks (MarksFrom-rest w base m marks h))

pub AreMarks-grown : (v w : View) (marks : List (Option ℕ)) → Grown v w → AreMarks v marks → AreMarks w marks
AreMarks-grown v w marks m h j x is = let k = h j x is in record {
  in_range = IsVariable-grown Bdd m x k.in_range;
  here = level-grown m x ∙ k.here;
  within = let vars = m.vars in let within = k.within in omega arith;
  alone = λ u un same. k.alone u (IsVariable-back Bdd m u un) (sym (level-grown m u) ∙ same);
}

IsMark-grown : (v w : View) (level x : ℕ) → Grown v w → IsMark v level x → IsMark w level x
IsMark-grown v w level x m k = record {
  in_range = IsVariable-grown Bdd m x k.in_range;
  here = level-grown m x ∙ k.here;
  within = let vars = m.vars in let within = k.within in omega arith;
  alone = λ u un same. k.alone u (IsVariable-back Bdd m u un) (sym (level-grown m u) ∙ same);
}

-- the product does not depend on what stands above
free_from : (w : View) (base : ℕ) (marks : List (Option ℕ)) → MarksFrom w base marks → (u : ℕ) → w.level u < base → IsFree (marked_product marks) u
free_from w base [] h u lt = λ k b. refl
free_from w base (None ∷ marks) h u lt = free_from w (suc base) marks (MarksFrom-rest w base None marks h) u (omega arith)
free_from w base (Some v ∷ marks) h u lt =
    let k = h 0 v refl in
    times-free v u (marked_product marks) (λ same. let here = k.here in let e = ap w.level same in omega arith) (free_from w (suc base) marks (MarksFrom-rest w base (Some v) marks h) u (omega arith))

-- what is left of the product below a level is a part of it
part_from : (w : View) (base n : ℕ) (marks : List (Option ℕ)) → MarksFrom w base marks → IsPart Bdd w (marked_product marks) (marked_product (drop n marks))
part_from w base zero marks h = whole
part_from w base (suc n) [] h = whole
part_from w base (suc n) (None ∷ marks) h = part_from w (suc base) n marks (MarksFrom-rest w base None marks h)
part_from w base (suc n) (Some v ∷ marks) h =
    let k = h 0 v refl in let rest = MarksFrom-rest w base (Some v) marks h in
    let here : w.level v ≡ base = (let e = k.here in omega arith) in
    let c = marked_product marks in
    IsPart-both Bdd w (conjunction (projection v) c) c (marked_product (drop n marks))
    (subst (λ d. IsPart Bdd w (conjunction (projection v) c) d) (times-cofactor v c (free_from w (suc base) marks rest v (omega arith)))
    (cut (conjunction (projection v) c) v true k.in_range
    (λ u un lt. times-free v u c (λ same. let e = ap w.level same in omega arith) (free_from w (suc base) marks rest u (omega arith))) whole))
    (part_from w (suc base) n marks rest)

pub left_is_part : (w : View) (n : ℕ) (marks : List (Option ℕ)) → AreMarks w marks → IsPart Bdd w (marked_product marks) (marked_product (drop n marks))
left_is_part w n marks h = part_from w 0 n marks (from_first w marks h)

-- one level more
pub product-none : (marks : List (Option ℕ)) (n : ℕ) → get_or marks n None ≡ None → marked_product (drop n marks) ≡ marked_product (drop (suc n) marks)
product-none [] zero is = refl
product-none [] (suc n) is = refl
product-none (None ∷ marks) zero is = refl
product-none (Some v ∷ marks) zero is = cc
product-none (m ∷ marks) (suc n) is = product-none marks n is

pub product-some : (marks : List (Option ℕ)) (n v : ℕ) → get_or marks n None ≡ Some v → marked_product (drop n marks) ≡ conjunction (projection v) (marked_product (drop (suc n) marks))
product-some [] zero v is = cc
product-some [] (suc n) v is = cc
product-some (None ∷ marks) zero v is = cc
product-some (Some u ∷ marks) zero v is = let same : u ≡ v = cc in ap (λ x. conjunction (projection x) (marked_product marks)) same
product-some (m ∷ marks) (suc n) v is = product-some marks n v is

-- beyond the levels there is no mark
pub product-end : (w : View) (base : ℕ) (marks : List (Option ℕ)) → MarksFrom w base marks → w.vars ≤ base → marked_product marks ≡ constant true
product-end w base [] h le = refl
product-end w base (None ∷ marks) h le = product-end w (suc base) marks (MarksFrom-rest w base None marks h) (omega arith)
product-end w base (Some v ∷ marks) h le = let within = (h 0 v refl).within in absurd (omega arith)

pub product-rest : (w : View) (n : ℕ) (marks : List (Option ℕ)) → AreMarks w marks → n ≡ w.vars → marked_product (drop n marks) ≡ constant true
product-rest w n marks h same =
    let there : 0 + n ≡ n = omega arith in
    product-end w n (drop n marks) (subst (λ l. MarksFrom w l (drop n marks)) there (MarksFrom-drop w 0 n marks (from_first w marks h))) (omega arith)

-- no mark
pub none_marked : (n : ℕ) → AreNoMarks (replicate n None)
none_marked zero j = refl
none_marked (suc n) zero = refl
none_marked (suc n) (suc j) = none_marked n j

pub product-nothing : (marks : List (Option ℕ)) → AreNoMarks marks → marked_product marks ≡ constant true
product-nothing [] h = refl
product-nothing (None ∷ marks) h = product-nothing marks (λ j. h (suc j))
product-nothing (Some v ∷ marks) h = let bad = h 0 in cc

pub AreMarks-nothing : (w : View) (marks : List (Option ℕ)) → AreNoMarks marks → AreMarks w marks
AreMarks-nothing w marks h = λ j v is. absurd (no_mark (sym (h j) ∙ is))

-- one mark more
swap : (a b c : Bool) → (a && (b && c)) ≡ (b && (a && c))
swap true true c = refl
swap true false c = refl
swap false true c = refl
swap false false c = refl

set-product : (w : View) (base j v : ℕ) (marks : List (Option ℕ)) → MarksFrom w base marks → j < length marks → IsMark w (base + j) v
    → marked_product (set marks j (Some v)) ≡ conjunction (projection v) (marked_product marks)
set-product w base j v [] h lt k = absurd (omega arith)
set-product w base zero v (None ∷ marks) h lt k = refl
set-product w base zero v (Some u ∷ marks) h lt k =
    let old = h 0 u refl in
    let same : u ≡ v = k.alone u old.in_range old.here in
    let c = marked_product marks in
    everywhere (conjunction (projection v) c) (conjunction (projection v) (conjunction (projection v) c)) (λ i. sym (and_self_left (projection v i) (c i)))
    ∙ ap (λ x. conjunction (projection v) (conjunction (projection x) c)) (sym same)
set-product w base (suc j) v (None ∷ marks) h lt k =
    set-product w (suc base) j v marks (MarksFrom-rest w base None marks h) (omega arith) (let same : base + suc j ≡ suc base + j = omega arith in subst (λ l. IsMark w l v) same k)
set-product w base (suc j) v (Some u ∷ marks) h lt k =
    let c = marked_product marks in
    ap (λ x. conjunction (projection u) x) (set-product w (suc base) j v marks (MarksFrom-rest w base (Some u) marks h) (omega arith) (let same : base + suc j ≡ suc base + j = omega arith in subst (λ l. IsMark w l v) same k))
    ∙ everywhere (conjunction (projection u) (conjunction (projection v) c)) (conjunction (projection v) (conjunction (projection u) c)) (λ i. swap (projection u i) (projection v i) (c i))

pub marked-product : (w : View) (j v : ℕ) (marks : List (Option ℕ)) → AreMarks w marks → j < length marks → IsMark w j v
    → marked_product (set marks j (Some v)) ≡ conjunction (projection v) (marked_product marks)
marked-product w j v marks h lt k = set-product w 0 j v marks (from_first w marks h) lt (IsMark-up w j v k)

set-marks : (w : View) (base j v : ℕ) (marks : List (Option ℕ)) → MarksFrom w base marks → IsMark w (base + j) v → MarksFrom w base (set marks j (Some v))
set-marks w base j v [] h k i x is = h i x is
set-marks w base zero v (m ∷ marks) h k zero x is = let same : v ≡ x = cc in subst (λ y. IsMark w (base + 0) y) same k
set-marks w base zero v (m ∷ marks) h k (suc i) x is = h (suc i) x is
set-marks w base (suc j) v (m ∷ marks) h k zero x is = h 0 x is
set-marks w base (suc j) v (m ∷ marks) h k (suc i) x is =
    let there : base + suc j ≡ suc base + j = omega arith in
    let back : suc base + i ≡ base + suc i = omega arith in
    subst (λ l. IsMark w l x) back (set-marks w (suc base) j v marks (MarksFrom-rest w base m marks h) (subst (λ l. IsMark w l v) there k) i x is)

pub marked-marks : (w : View) (j v : ℕ) (marks : List (Option ℕ)) → AreMarks w marks → IsMark w j v → AreMarks w (set marks j (Some v))
marked-marks w j v marks h k = λ i x is. let same : 0 + i ≡ i = omega arith in subst (λ l. IsMark w l x) same (set-marks w 0 j v marks (from_first w marks h) (IsMark-up w j v k) i x is)

-- the variables of a list, one after another
next : (c : ℕ → Bool) (vars : List ℕ) (i d : ℕ) → i < length vars
    → conjunction c (cube_of (drop i vars)) ≡ conjunction (conjunction (projection (get_or vars i d)) c) (cube_of (drop (suc i) vars))
next c [] i d lt = absurd (omega arith)
next c (v ∷ vars) zero d lt =
    everywhere (conjunction c (conjunction (projection v) (cube_of vars))) (conjunction (conjunction (projection v) c) (cube_of vars)) (λ k. turn (c k) (projection v k) (cube_of vars k))
  where
    turn : (a b c : Bool) → (a && (b && c)) ≡ ((b && a) && c)
    turn true true c = refl
    turn true false c = refl
    turn false true c = refl
    turn false false c = refl
next c (v ∷ vars) (suc i) d lt = next c vars i d (omega arith)

pub next_variable : (c : ℕ → Bool) (vars : List ℕ) (i j d : ℕ) → j ≡ suc i → i < length vars
    → conjunction c (cube_of (drop i vars)) ≡ conjunction (conjunction (projection (get_or vars i d)) c) (cube_of (drop j vars))
next_variable c vars i j d same lt = next c vars i d lt ∙ ap (λ k. conjunction (conjunction (projection (get_or vars i d)) c) (cube_of (drop k vars))) (sym same)

pub with_nothing : (c : ℕ → Bool) (vars : List ℕ) → vars ≡ [] → conjunction c (cube_of vars) ≡ c
with_nothing c vars none = ap (λ vs. conjunction c (cube_of vs)) none ∙ everywhere (conjunction c (constant true)) c (λ k. and-true (c k))

-- what the projection's top tells
projection_leaf : (v : ℕ) (e : Edge) (f : ℕ → Bool) (w : View) (z : ℤ) → f ≡ projection v → IsLeaf Bdd w e f z → ⊥
projection_leaf v e f w z same i =
    let free = subst (λ g. IsFree g v) same (Lacks-leaf Bdd e f z i.leaf v) in
    let no : true ≡ false = sym (bit-set_same 0 v true) ∙ free 0 true ∙ sym (free 0 false) ∙ bit-set_same 0 v false in cc

pub no_projection_leaf : (w : View) (v : ℕ) (e : Edge) (z : ℤ) → IsProjection w v e → IsLeaf Bdd w e (bdd_at w e) z → ⊥
no_projection_leaf w v e z p i = projection_leaf v e (bdd_at w e) w z (values_at-is Bdd p.denotes) i

pub mark_of : (w : View) (v : ℕ) (o : Operand) (t : Top) → IsVariable Bdd w v → IsProjection w v o.edge → IsOperand Bdd w o → IsTopOf Bdd w o.edge t.var t.level
    → (t.var ≡ v) × (IsMark w (w.level v) v)
mark_of w v o t vn p is top = by_opened o.opened is.opens
  where
    by_opened : (opened : Opened) → Opens Bdd w o.edge (bdd_at w o.edge) opened → (t.var ≡ v) × (IsMark w (w.level v) v)
    by_opened (Leaf z) i = absurd (no_projection_leaf w v o.edge z p i)
    by_opened (Inner x hi lo) i =
        let at = p.top in let there = top.here in let here = i.here in
        let own : v ≡ x = i.alone v vn (omega arith) in
        let other : t.var ≡ x = i.alone t.var top.in_range (omega arith) in
        let within = top.within in (
          other ∙ sym own,
          record {
            in_range = vn;
            here = refl;
            within = omega arith;
            alone = λ u un same. i.alone u un (omega arith) ∙ sym own;
          },
        )

-- what is part of a part's work is part of the whole's
pub IsWork-part : (w : View) (f g : ℕ → Bool) (o : Option Denoted) → IsPart Bdd w f g → IsWork w (λ F. F ≡ BddFunction g) o → IsWork w (λ F. F ≡ BddFunction f) o
IsWork-part w f g o part i = by_kind i.kind i.root i.part i.asked i.is_part i.is
  where
    by_kind : (k : Kind) (root p : ℕ → ValueOf k) → function_of k root ≡ BddFunction g → IsPart k w root p
        → (o ≡ Some (function_of k p)) ⊎ (o ≡ Some (opposite (function_of k p))) → IsWork w (λ F. F ≡ BddFunction f) o
    by_kind Bdd root p asked q is = record {
      kind = Bdd;
      root = f;
      part = p;
      asked = refl;
      is_part = IsPart-both Bdd w f root p (subst (λ x. IsPart Bdd w f x) (sym (ap (λ F. values_of Bdd (Some F)) asked)) part) q;
      is = is;
    }
    by_kind Add root p asked q is = cc
    by_kind Zdd root p asked q is = cc

-- two steps that add parts of one function
pub Adds-both : (P : Denoted → Type 0) (u v w : View) → Grown u v → Grown v w → Adds P u v → Adds P v w → Adds P u w
Adds-both P u v w m n p q =
    (Moves-both (λ x. Unit {0}) (λ x. P) (λ x y k r. r) (λ x y f k r is. is) u v w (record { grown = m; work = λ r. p }) (record { grown = n; work = λ r. q })).work tt

-- a turn, at a level that is not marked
pub turn_none : (marks : List (Option ℕ)) (l n : ℕ) → l ≡ suc n → get_or marks n None ≡ None → marked_product (drop l marks) ≡ marked_product (drop n marks)
turn_none marks l n next is = ap (λ k. marked_product (drop k marks)) next ∙ sym (product-none marks n is)

-- a turn, at a level that is marked
module _ (v w : View) (marks : List (Option ℕ)) (l n x : ℕ) (cube zero_edge : Edge) (next : l ≡ suc n) (m : Grown v w) (h : AreMarks v marks) (is : get_or marks n None ≡ Some x)
    (den : Denotes Bdd w cube (marked_product (drop l marks))) (z : Denotes Bdd w zero_edge (constant false)) where
  here : IsMark w n x
  here = AreMarks-grown v w marks m h n x is

  d : Denotes Bdd w cube (marked_product (drop (suc n) marks))
  d = subst (λ k. Denotes Bdd w cube (marked_product (drop k marks))) next den

  pub turn_node : CanMake Bdd w x cube zero_edge
  turn_node = record {
    in_range = here.in_range;
    hi_is = Is-from Bdd d;
    lo_is = Is-from Bdd z;
    hi_below = λ u un le. subst (λ f. IsFree f u) (sym (values_at-is Bdd d))
        (free_from w (0 + suc n) (drop (suc n) marks) (MarksFrom-drop w 0 (suc n) marks (from_first w marks (AreMarks-grown v w marks m h))) u (let at = here.here in omega arith));
    lo_below = λ u un le. subst (λ f. IsFree f u) (sym (values_at-is Bdd z)) (λ k b. refl);
  }

  turn_is : node_values Bdd w x cube zero_edge ≡ marked_product (drop n marks)
  turn_is = rw (values_at-is Bdd d, values_at-is Bdd z) (times-choice x (marked_product (drop (suc n) marks)) ∙ sym (product-some marks n x is))

  module _ (y : View) (k : Grown w y) where
    part : IsPart Bdd y (marked_product marks) (marked_product (drop n marks))
    part = left_is_part y n marks (AreMarks-grown v y marks (Grown-trans m k) h)

    module _ (e : Edge) (made : (s : ℕ) → y.made s ≡ true → (w.made s ≡ true) ⊎ (e.index ≡ s)) (node : Denotes Bdd y e (node_values Bdd w x cube zero_edge)) where
      pub turn_cube : Denotes Bdd y e (marked_product (drop n marks))
      turn_cube = subst (λ f. Denotes Bdd y e f) turn_is node

      pub turn_adds : Adds (λ F. F ≡ BddFunction (marked_product marks)) w y
      turn_adds s now = elim (made s now) [
        | inl old ↦ inl old
        | inr same ↦ inr (subst (λ i. IsWork y (λ F. F ≡ BddFunction (marked_product marks)) (y.content i)) same
            (IsWork-edge Bdd y (λ F. F ≡ BddFunction (marked_product marks)) e (marked_product marks) (marked_product (drop n marks)) refl part turn_cube))
      ]

    pub turn_due : y.due ≡ Some (BddFunction (node_values Bdd w x cube zero_edge)) → IsWork y (λ F. F ≡ BddFunction (marked_product marks)) y.due
    turn_due due = IsWork-due Bdd y (λ F. F ≡ BddFunction (marked_product marks)) (marked_product marks) (marked_product (drop n marks)) refl part (due ∙ ap (λ f. Some (BddFunction f)) turn_is)

-- the outcome
pub product_done : (v w : View) (marks : List (Option ℕ)) (l : ℕ) (cube : Edge) → Grown v w → Adds (λ F. F ≡ BddFunction (marked_product marks)) v w → l ≡ 0 → Denotes Bdd w cube (marked_product (drop l marks))
    → Serves (λ e. Denotes Bdd w e (marked_product marks)) ⊥ (λ F. F ≡ BddFunction (marked_product marks)) ⊥ (Unit {0}) v w (Ok cube)
product_done v w marks l cube m adds last den = record {
  grown = m;
  room = tt;
  answer = subst (λ k. Denotes Bdd w cube (marked_product (drop k marks))) last den;
  overflow = λ is. never is;
  work = adds;
  memory = λ is. absurd (never is);
  full = λ is. absurd (never is);
  due = λ is. absurd (never is);
}
  where
    never : {e : Edge} {halt : Halt} → Ok e ≡ Err halt → ⊥
    never is = cc

pub product_failed : {A : Edge → Type 0} (v w y : View) (W : Denoted → Type 0) (stopped : Stop) → Grown v w → Grown w y → Adds W v w → ((s : ℕ) → y.made s ≡ true → (w.made s ≡ true) ⊎ ⊥)
    → (stopped ≡ stop.Memory → w.may_want_memory ≡ true) → (stopped ≡ stop.Full → Rose w y) → (stopped ≡ stop.Full → IsWork y W y.due)
    → Serves A ⊥ W ⊥ (Unit {0}) v y (Err (halt_of stopped))
product_failed {A} v w y W stopped m n adds made memory full due = by_stop stopped memory full due
  where
    more : Adds W v y
    more = Adds-both W v w y m n adds (λ s now. elim (made s now) [ inl old ↦ inl old | inr bad ↦ absurd bad ])

    by_stop : (t : Stop) → (t ≡ stop.Memory → w.may_want_memory ≡ true) → (t ≡ stop.Full → Rose w y) → (t ≡ stop.Full → IsWork y W y.due) → Serves A ⊥ W ⊥ (Unit {0}) v y (Err (halt_of t))
    by_stop stop.Memory memory full due = record {
      grown = Grown-trans m n;
      room = tt;
      answer = tt;
      overflow = λ is. cc;
      work = more;
      memory = λ is. inr (m.wants (memory refl));
      full = λ is. absurd (never is);
      due = λ is. absurd (never is);
    }
      where
        never : {T : Type 0} → ◌≡◌ {A = Result T Halt} (Err halt.Memory) (Err halt.Full) → ⊥
        never is = cc
    by_stop stop.Full memory full due = record {
      grown = Grown-trans m n;
      room = tt;
      answer = tt;
      overflow = λ is. cc;
      work = more;
      memory = λ is. absurd (never is);
      full = λ is few. (let a = full refl few in let k = m.fulls in omega arith);
      due = λ is. due refl;
    }
      where
        never : {T : Type 0} → ◌≡◌ {A = Result T Halt} (Err halt.Full) (Err halt.Memory) → ⊥
        never is = cc
