-- The kind of what comes of a call.
use Rattle.std.proofs.Common.{◌≡◌, ℕ, ℤ, Bool, true, false, Option, Some, None, List, option_and_then, refl, subst, cond}
use Rattle.edge_bits.specs.declared.edges.Kind.{Kind}
use Rattle.edge_bits.specs.declared.edges.Kind.TheVariants as kinds
use Rattle.function_laws.specs.declared.history.Call.{Call}
use Rattle.function_laws.specs.declared.history.Call.TheVariants as calls
use Rattle.function_laws.specs.declared.history.Function.{Function}
use Rattle.function_laws.specs.declared.history.Function.TheVariants.{Bdd, Add, Zdd}
use Rattle.function_laws.specs.declared.history.Name.{Name}
use Rattle.function_laws.specs.Functions.{leq_of}
use Rattle.function_laws.specs.Tables.{Sizes}
use Rattle.function_laws.specs.Outcomes.{Outcome, makes, restricts, covers, fetches, counts, compares, is_apart, as_add, as_bdd, in_range, when, with_one, with_two, with_three}
use Rattle.function_laws.specs.Steps.{from_cell, outcome_of, same_kind}
use Rattle.dd_session.specs.Sessions.{kind_of}
use Rattle.function_laws.specs.declared.making.Making.{Making}
use Rattle.function_laws.specs.declared.making.Making.TheVariants as makes
use Rattle.function_laws.specs.declared.making.BddMaking.TheVariants as bdds
use Rattle.function_laws.specs.declared.making.AddMaking.TheVariants as adds
use Rattle.function_laws.specs.declared.making.ExactMaking.TheVariants as exacts
use Rattle.function_laws.specs.declared.making.ZddMaking.TheVariants as zdds
use Rattle.function_laws.specs.Makings.{comes_of, covered, kind_made, named}

-- what comes of a call is of this kind
abbrev pub IsOfKind : Kind → Outcome → Type 0
IsOfKind k (makes f) = kind_of f ≡ k
IsOfKind k (restricts f c) = k ≡ kinds.Bdd
IsOfKind k (covers lower upper) = k ≡ kinds.Zdd
IsOfKind k (fetches f posted) = kind_of f ≡ k
IsOfKind k (counts f n) = ⊥
IsOfKind k _ = Unit {0}

-- the call is one of a job
abbrev pub is_plain : Call → Bool
is_plain calls.AddVar = false
is_plain calls.AddElement = false
is_plain _ = true

-- no number of variables or elements comes of a call
abbrev CountsNone : Outcome → Type 0
CountsNone (counts f n) = ⊥
CountsNone _ = Unit {0}

module _ (P : Outcome → Type 0) where
  pub itself : (p o : Outcome) → P p → Some p ≡ Some o → P o
  itself p o holds is = subst P (same is) holds
    where
      same : Some p ≡ Some o → p ≡ o
      same e = cc

  pub one : {X : Type 0} (x : Option X) (f : X → Outcome) (o : Outcome) → ((a : X) → P (f a)) → with_one x f ≡ Some o → P o
  one None f o all is = cc
  one (Some a) f o all is = itself (f a) o (all a) is

  pub two : {X Y : Type 0} (x : Option X) (y : Option Y) (f : X → Y → Outcome) (o : Outcome) → ((a : X) (b : Y) → P (f a b)) → with_two x y f ≡ Some o → P o
  two None y f o all is = cc
  two (Some a) y f o all is = one y (f a) o (all a) is

  pub three : {X Y Z : Type 0} (x : Option X) (y : Option Y) (z : Option Z) (f : X → Y → Z → Outcome) (o : Outcome) → ((a : X) (b : Y) (c : Z) → P (f a b c)) → with_three x y z f ≡ Some o → P o
  three None y z f o all is = cc
  three (Some a) y z f o all is = two y z (f a) o (all a) is

  pub guarded : (b : Bool) (x : Option Outcome) (o : Outcome) → (x ≡ Some o → P o) → when b x ≡ Some o → P o
  guarded true x o all is = all is
  guarded false x o all is = cc

-- the kind of what a name stands for
abbrev pub kind_or : Option Function → Kind
kind_or None = kinds.Bdd
kind_or (Some f) = kind_of f

of_number : (x : Option (List ℤ)) → IsOfKind kinds.Add (in_range x)
of_number (Some f) = refl
of_number None = tt

of_cover : (lower upper : List Bool) → IsOfKind kinds.Zdd (covered lower upper)
of_cover lower upper = by (leq_of lower upper)
  where
    by : (b : Bool) → IsOfKind kinds.Zdd (cond b (covers lower upper) is_apart)
    by true = refl
    by false = tt

of_copy : (x : Option Function) (o : Outcome) → with_one x makes ≡ Some o → IsOfKind (kind_or x) o
of_copy None o is = cc
of_copy (Some f) o is = itself (IsOfKind (kind_of f)) (makes f) o refl is

of_cell : (cell : Option Function) (other : Function) → IsOfKind (kind_of other) (from_cell cell other)
of_cell None other = refl
of_cell (Some (Bdd f)) (Bdd g) = refl
of_cell (Some (Bdd f)) (Add g) = refl
of_cell (Some (Bdd f)) (Zdd g) = refl
of_cell (Some (Add f)) (Bdd g) = refl
of_cell (Some (Add f)) (Add g) = refl
of_cell (Some (Add f)) (Zdd g) = refl
of_cell (Some (Zdd f)) (Bdd g) = refl
of_cell (Some (Zdd f)) (Add g) = refl
of_cell (Some (Zdd f)) (Zdd g) = refl

of_fetch : (cell : Option Function) (x : Option Function) (o : Outcome) → with_one x (from_cell cell) ≡ Some o → IsOfKind (kind_or x) o
of_fetch cell None o is = cc
of_fetch cell (Some other) o is = itself (IsOfKind (kind_of other)) (from_cell cell other) o (of_cell cell other) is

cell_counts_none : (cell : Option Function) (other : Function) → CountsNone (from_cell cell other)
cell_counts_none None other = tt
cell_counts_none (Some (Bdd f)) (Bdd g) = tt
cell_counts_none (Some (Bdd f)) (Add g) = tt
cell_counts_none (Some (Bdd f)) (Zdd g) = tt
cell_counts_none (Some (Add f)) (Bdd g) = tt
cell_counts_none (Some (Add f)) (Add g) = tt
cell_counts_none (Some (Add f)) (Zdd g) = tt
cell_counts_none (Some (Zdd f)) (Bdd g) = tt
cell_counts_none (Some (Zdd f)) (Add g) = tt
cell_counts_none (Some (Zdd f)) (Zdd g) = tt

of_same : (x y : Option Function) (o : Outcome) → option_and_then (λ f. option_and_then (λ g. when (same_kind f g) (Some (compares f g))) y) x ≡ Some o → CountsNone o
of_same None y o is = cc
of_same (Some f) None o is = cc
of_same (Some f) (Some g) o is = guarded CountsNone (same_kind f g) (Some (compares f g)) o (itself CountsNone (compares f g) o tt) is

-- what comes of what makes a function is of its kind
module _ (z : Sizes) (live : Name → Option Function) where
  pub made-kind : (making : Making Name (List ℕ) (List (ℕ × Name))) (o : Outcome) → comes_of z live making ≡ Some o → IsOfKind (kind_made making) o
  made-kind (makes.Bdd bdds.One) o is = itself (IsOfKind kinds.Bdd) _ o refl is
  made-kind (makes.Bdd making) o is = search (itself (IsOfKind kinds.Bdd), one (IsOfKind kinds.Bdd), two (IsOfKind kinds.Bdd), three (IsOfKind kinds.Bdd), guarded (IsOfKind kinds.Bdd), is)
  made-kind (makes.Add (adds.Constant w)) o is = guarded (IsOfKind kinds.Add) _ _ o (itself (IsOfKind kinds.Add) _ o refl) is
  made-kind (makes.Add making) o is = search (itself (IsOfKind kinds.Add), one (IsOfKind kinds.Add), two (IsOfKind kinds.Add), three (IsOfKind kinds.Add), guarded (IsOfKind kinds.Add), is)
  made-kind (makes.Exact (exacts.SumOver a v)) o is = guarded (IsOfKind kinds.Add) _ _ o (one (IsOfKind kinds.Add) (as_add (live a)) _ o (λ f. of_number _)) is
  made-kind (makes.Exact making) o is = search (itself (IsOfKind kinds.Add), one (IsOfKind kinds.Add), two (IsOfKind kinds.Add), guarded (IsOfKind kinds.Add), of_number, is)
  made-kind (makes.Zdd zdds.Empty) o is = itself (IsOfKind kinds.Zdd) _ o refl is
  made-kind (makes.Zdd (zdds.Isop a b)) o is = guarded (IsOfKind kinds.Zdd) _ _ o (two (IsOfKind kinds.Zdd) (as_bdd (live a)) (as_bdd (live b)) covered o of_cover) is
  made-kind (makes.Zdd making) o is = search (itself (IsOfKind kinds.Zdd), one (IsOfKind kinds.Zdd), two (IsOfKind kinds.Zdd), three (IsOfKind kinds.Zdd), guarded (IsOfKind kinds.Zdd), is)

-- the same of names is of the same kind
kind-named : (name : ℕ → Name) (making : Making ℕ (List ℕ) (List (ℕ × ℕ))) → kind_made (named name making) ≡ kind_made making
kind-named name (makes.Bdd bdds.One) = refl
kind-named name (makes.Bdd making) = refl
kind-named name (makes.Add (adds.Constant w)) = refl
kind-named name (makes.Add making) = refl
kind-named name (makes.Exact (exacts.SumOver a v)) = refl
kind-named name (makes.Exact making) = refl
kind-named name (makes.Zdd zdds.Empty) = refl
kind-named name (makes.Zdd making) = refl

pub named-kind : (z : Sizes) (live : Name → Option Function) (name : ℕ → Name) (making : Making ℕ (List ℕ) (List (ℕ × ℕ))) (o : Outcome) → comes_of z live (named name making) ≡ Some o → IsOfKind (kind_made making) o
named-kind z live name making o is = subst (λ (k : Kind). IsOfKind k o) (kind-named name making) (made-kind z live (named name making) o is)

kind-counts-none : (k : Kind) (o : Outcome) → IsOfKind k o → CountsNone o
kind-counts-none k (counts f n) is = absurd is
kind-counts-none k o is = tt

module _ (z : Sizes) (cells : ℕ → Option Function) (live : Name → Option Function) where
  pub no-count : (call : Call) (o : Outcome) → is_plain call ≡ true → outcome_of z cells live call ≡ Some o → CountsNone o
  no-count (calls.Makes making) o plain is = kind-counts-none (kind_made making) o (made-kind z live making o is)
  no-count (calls.Same a b) o plain is = of_same (live a) (live b) o is
  no-count calls.AddVar o plain is = cc
  no-count calls.AddElement o plain is = cc
  no-count call o plain is = search (itself CountsNone, one CountsNone, two CountsNone, three CountsNone, guarded CountsNone, cell_counts_none, is)

  -- what comes of a copy, or of a fetch, is of the kind of its operand
  pub copy-kind : (a : Name) (o : Outcome) → outcome_of z cells live (calls.Copy a) ≡ Some o → IsOfKind (kind_or (live a)) o
  copy-kind a o is = of_copy (live a) o is

  pub fetch-kind : (i : ℕ) (a : Name) (o : Outcome) → outcome_of z cells live (calls.Fetch i a) ≡ Some o → IsOfKind (kind_or (live a)) o
  fetch-kind i a o is = guarded (IsOfKind (kind_or (live a))) _ _ o (of_fetch (cells i) (live a) o) is
