-- What makes a function, by what its tables say.
use Rattle.std.proofs.Common.{◌≡◌, ℕ, ◌<◌, List, [], ◌∷◌, map, Some, Ok, Err, refl, sym, subst, ap, ◌∙◌}
use Rattle.std.specs.List.{All}
use Rattle.std.proofs.lemmas.List.Elements.{All-cons, All-head, All-nil, All-tail}
use Rattle.edge_bits.specs.declared.edges.Edge.{Edge}
use Rattle.edge_bits.specs.declared.edges.Kind.{Kind}
use Rattle.edge_bits.specs.declared.edges.Kind.TheVariants as kinds
use Rattle.function_laws.specs.declared.making.Making.{Making}
use Rattle.function_laws.specs.declared.making.Making.TheVariants as makings
use Rattle.function_laws.specs.declared.making.BddMaking.TheVariants as bdds
use Rattle.function_laws.specs.declared.making.AddMaking.TheVariants as adds
use Rattle.function_laws.specs.declared.making.ExactMaking.TheVariants as exacts
use Rattle.function_laws.specs.declared.making.ZddMaking.TheVariants as zdds
use Rattle.function_laws.specs.Makings.{Taken, function, variable, element, value, number, bit, variables, pairs, literals, are_distinct, taken}
use Rattle.node_store.specs.Halt.{halt_of}
use Rattle.node_store.specs.declared.grow.Stop.{Stop}
use Rattle.node_store.specs.declared.grow.Stop.TheVariants as stops
use Rattle.node_store.specs.declared.operator.Halt.TheVariants as halts
use Rattle.node_store.specs.Views.{View}
use Rattle.operator_calls.specs.declared.unmade.Unmade.{Unmade}
use Rattle.operator_calls.specs.declared.unmade.Unmade.TheVariants.{Overflow, Apart}
use Rattle.operator_calls.specs.Making.{RunsMaking, ServesMaking, unmade, unmade_as}
use Rattle.operator_calls.specs.Taking.{CanTake, CanTakeAll, renamed_by, with_given, with_lists}

-- it is told in place of a function only as what it may be
pub unmade-as : (making : Making Edge (List ℕ) (List (ℕ × Edge))) (v : View) (u : Unmade) → unmade making v u → unmade_as making ≡ Some u
unmade-as (makings.Bdd making) v Overflow is = absurd is
unmade-as (makings.Bdd making) v Apart is = absurd is
unmade-as (makings.Add making) v Overflow is = absurd is
unmade-as (makings.Add making) v Apart is = absurd is
unmade-as (makings.Exact making) v Overflow is = refl
unmade-as (makings.Exact making) v Apart is = absurd is
unmade-as (makings.Zdd making) v Overflow is = absurd is
unmade-as (makings.Zdd zdds.Empty) v Apart is = absurd is
unmade-as (makings.Zdd zdds.Base) v Apart is = absurd is
unmade-as (makings.Zdd (zdds.Single e)) v Apart is = absurd is
unmade-as (makings.Zdd (zdds.Union a b)) v Apart is = absurd is
unmade-as (makings.Zdd (zdds.Meet a b)) v Apart is = absurd is
unmade-as (makings.Zdd (zdds.Diff a b)) v Apart is = absurd is
unmade-as (makings.Zdd (zdds.Subset1 a e)) v Apart is = absurd is
unmade-as (makings.Zdd (zdds.Subset0 a e)) v Apart is = absurd is
unmade-as (makings.Zdd (zdds.Change a e)) v Apart is = absurd is
unmade-as (makings.Zdd (zdds.Product a b)) v Apart is = absurd is
unmade-as (makings.Zdd (zdds.Quotient a b)) v Apart is = absurd is
unmade-as (makings.Zdd (zdds.Isop a b)) v Apart is = refl

-- a run that always makes a function
pub runs_always : (making : Making Edge (List ℕ) (List (ℕ × Edge))) (v w : View) (e : Edge) → ServesMaking making v w (Ok e) → RunsMaking making v w (Ok (Ok e))
runs_always making v w e s = record { grown = s.grown; room = s.room; told = s.answer; still = λ is. cc; stored = s.work; memory = λ is. cc; full = λ is. cc; due = λ is. cc }

-- one that found a value out of range
pub runs_over : (making : Making Edge (List ℕ) (List (ℕ × Edge))) (v w : View) → ServesMaking making v w (Err halts.Overflow) → RunsMaking making v w (Ok (Err Overflow))
runs_over making v w s = record { grown = s.grown; room = s.room; told = s.overflow refl; still = λ is. cc; stored = s.work; memory = λ is. cc; full = λ is. cc; due = λ is. cc }

-- and one that was stopped
pub runs_stopped : (making : Making Edge (List ℕ) (List (ℕ × Edge))) (v w : View) (stop : Stop) → ServesMaking making v w (Err (halt_of stop)) → RunsMaking making v w (Err stop)
runs_stopped making v w stops.Memory s = record { grown = s.grown; room = s.room; told = tt; still = λ is. cc; stored = s.work; memory = λ is. s.memory refl; full = λ is. cc; due = λ is. cc }
runs_stopped making v w stops.Full s = record { grown = s.grown; room = s.room; told = tt; still = λ is. cc; stored = s.work; memory = λ is. cc; full = λ is. s.full refl; due = λ is. s.due refl }

-- lists are themselves as lists
pub with-lists : {R : Type 0} (making : Making R (List ℕ) (List (ℕ × R))) → with_lists (λ vars. vars) (λ pairs. pairs) making ≡ making
with-lists (makings.Bdd bdds.One) = refl
with-lists (makings.Bdd bdds.Zero) = refl
with-lists (makings.Bdd (bdds.Var m)) = refl
with-lists (makings.Bdd (bdds.Not a)) = refl
with-lists (makings.Bdd (bdds.And a b)) = refl
with-lists (makings.Bdd (bdds.Or a b)) = refl
with-lists (makings.Bdd (bdds.Xor a b)) = refl
with-lists (makings.Bdd (bdds.Ite a b c)) = refl
with-lists (makings.Bdd (bdds.Cofactor a m b)) = refl
with-lists (makings.Bdd (bdds.Exists a vs)) = refl
with-lists (makings.Bdd (bdds.Forall a vs)) = refl
with-lists (makings.Bdd (bdds.AndExists a b vs)) = refl
with-lists (makings.Bdd (bdds.Compose a m b)) = refl
with-lists (makings.Bdd (bdds.VectorCompose a ps)) = refl
with-lists (makings.Bdd (bdds.Restrict a b)) = refl
with-lists (makings.Bdd (bdds.Support a)) = refl
with-lists (makings.Bdd (bdds.AtLeast a z)) = refl
with-lists (makings.Bdd (bdds.Pattern a)) = refl
with-lists (makings.Bdd (bdds.CoverOf a)) = refl
with-lists (makings.Add (adds.Constant z)) = refl
with-lists (makings.Add (adds.FromBdd a)) = refl
with-lists (makings.Add (adds.Min a b)) = refl
with-lists (makings.Add (adds.Max a b)) = refl
with-lists (makings.Add (adds.Threshold a b)) = refl
with-lists (makings.Add (adds.AddIte a b c)) = refl
with-lists (makings.Exact (exacts.Plus a b)) = refl
with-lists (makings.Exact (exacts.Minus a b)) = refl
with-lists (makings.Exact (exacts.Times a b)) = refl
with-lists (makings.Exact (exacts.SumOver a m)) = refl
with-lists (makings.Zdd zdds.Empty) = refl
with-lists (makings.Zdd zdds.Base) = refl
with-lists (makings.Zdd (zdds.Single m)) = refl
with-lists (makings.Zdd (zdds.Union a b)) = refl
with-lists (makings.Zdd (zdds.Meet a b)) = refl
with-lists (makings.Zdd (zdds.Diff a b)) = refl
with-lists (makings.Zdd (zdds.Subset1 a m)) = refl
with-lists (makings.Zdd (zdds.Subset0 a m)) = refl
with-lists (makings.Zdd (zdds.Change a m)) = refl
with-lists (makings.Zdd (zdds.Product a b)) = refl
with-lists (makings.Zdd (zdds.Quotient a b)) = refl
with-lists (makings.Zdd (zdds.Isop a b)) = refl

-- the same thing, of what is given for what stands for a function
abbrev taken_by : {R S : Type 0} → (R → S) → Taken R → Taken S
taken_by gives (function k a) = function k (gives a)
taken_by gives (variable v) = variable v
taken_by gives (element e) = element e
taken_by gives (value z) = value z
taken_by gives (number z) = number z
taken_by gives (bit b) = bit b
taken_by gives (variables vs) = variables vs
taken_by gives (pairs ps) = pairs (map (with_given gives) ps)
taken_by gives literals = literals

module _ {R S : Type 0} (gives : R → S) where
  taken-renamed : (making : Making R (List ℕ) (List (ℕ × R))) → taken (renamed_by gives making) ≡ map (taken_by gives) (taken making)
  taken-renamed (makings.Bdd bdds.One) = refl
  taken-renamed (makings.Bdd bdds.Zero) = refl
  taken-renamed (makings.Bdd (bdds.Var m)) = refl
  taken-renamed (makings.Bdd (bdds.Not a)) = refl
  taken-renamed (makings.Bdd (bdds.And a b)) = refl
  taken-renamed (makings.Bdd (bdds.Or a b)) = refl
  taken-renamed (makings.Bdd (bdds.Xor a b)) = refl
  taken-renamed (makings.Bdd (bdds.Ite a b c)) = refl
  taken-renamed (makings.Bdd (bdds.Cofactor a m b)) = refl
  taken-renamed (makings.Bdd (bdds.Exists a vs)) = refl
  taken-renamed (makings.Bdd (bdds.Forall a vs)) = refl
  taken-renamed (makings.Bdd (bdds.AndExists a b vs)) = refl
  taken-renamed (makings.Bdd (bdds.Compose a m b)) = refl
  taken-renamed (makings.Bdd (bdds.VectorCompose a ps)) = refl
  taken-renamed (makings.Bdd (bdds.Restrict a b)) = refl
  taken-renamed (makings.Bdd (bdds.Support a)) = refl
  taken-renamed (makings.Bdd (bdds.AtLeast a z)) = refl
  taken-renamed (makings.Bdd (bdds.Pattern a)) = refl
  taken-renamed (makings.Bdd (bdds.CoverOf a)) = refl
  taken-renamed (makings.Add (adds.Constant z)) = refl
  taken-renamed (makings.Add (adds.FromBdd a)) = refl
  taken-renamed (makings.Add (adds.Min a b)) = refl
  taken-renamed (makings.Add (adds.Max a b)) = refl
  taken-renamed (makings.Add (adds.Threshold a b)) = refl
  taken-renamed (makings.Add (adds.AddIte a b c)) = refl
  taken-renamed (makings.Exact (exacts.Plus a b)) = refl
  taken-renamed (makings.Exact (exacts.Minus a b)) = refl
  taken-renamed (makings.Exact (exacts.Times a b)) = refl
  taken-renamed (makings.Exact (exacts.SumOver a m)) = refl
  taken-renamed (makings.Zdd zdds.Empty) = refl
  taken-renamed (makings.Zdd zdds.Base) = refl
  taken-renamed (makings.Zdd (zdds.Single m)) = refl
  taken-renamed (makings.Zdd (zdds.Union a b)) = refl
  taken-renamed (makings.Zdd (zdds.Meet a b)) = refl
  taken-renamed (makings.Zdd (zdds.Diff a b)) = refl
  taken-renamed (makings.Zdd (zdds.Subset1 a m)) = refl
  taken-renamed (makings.Zdd (zdds.Subset0 a m)) = refl
  taken-renamed (makings.Zdd (zdds.Change a m)) = refl
  taken-renamed (makings.Zdd (zdds.Product a b)) = refl
  taken-renamed (makings.Zdd (zdds.Quotient a b)) = refl
  taken-renamed (makings.Zdd (zdds.Isop a b)) = refl

  module _ (is : Kind → R → Type 0) (given : Kind → S → Type 0) (each : (k : Kind) (a : R) → is k a → given k (gives a)) (most vars elements : ℕ) where
    all_below : (ps : List (ℕ × R)) → All (λ pair. pair.0 < vars) ps → All (λ pair. pair.0 < vars) (map (with_given gives) ps)
    all_below [] all = All-nil (λ pair. pair.0 < vars)
    all_below (p ∷ ps) all = All-cons (λ pair. pair.0 < vars) (with_given gives p) (map (with_given gives) ps) (All-head (λ pair. pair.0 < vars) p ps all) (all_below ps (All-tail (λ pair. pair.0 < vars) p ps all))

    all_given : (ps : List (ℕ × R)) → All (λ pair. is kinds.Bdd pair.1) ps → All (λ pair. given kinds.Bdd pair.1) (map (with_given gives) ps)
    all_given [] all = All-nil (λ pair. given kinds.Bdd pair.1)
    all_given (p ∷ ps) all = All-cons (λ pair. given kinds.Bdd pair.1) (with_given gives p) (map (with_given gives) ps) (each kinds.Bdd p.1 (All-head (λ pair. is kinds.Bdd pair.1) p ps all)) (all_given ps (All-tail (λ pair. is kinds.Bdd pair.1) p ps all))

    same_variables : (ps : List (ℕ × R)) → map (λ pair. pair.0) (map (with_given gives) ps) ≡ map (λ pair. pair.0) ps
    same_variables [] = refl
    same_variables (p ∷ ps) = ap (λ l. p.0 ∷ l) (same_variables ps)

    can_one : (one : Taken R) → CanTake is most vars elements one → CanTake given most vars elements (taken_by gives one)
    can_one (function k a) can = each k a can
    can_one (variable v) can = can
    can_one (element e) can = can
    can_one (value z) can = can
    can_one (number z) can = can
    can_one (bit b) can = can
    can_one (variables vs) can = can
    can_one (pairs ps) can = (all_below ps can.0, all_given ps can.1, ap are_distinct (same_variables ps) ∙ can.2)
    can_one literals can = can

    can_all : (all : List (Taken R)) → CanTakeAll is most vars elements all → CanTakeAll given most vars elements (map (taken_by gives) all)
    can_all [] can = tt
    can_all (one ∷ more) can = (can_one one can.0, can_all more can.1)

    -- what has all that an operation takes has it under other names
    pub can-renamed : (making : Making R (List ℕ) (List (ℕ × R))) → CanTakeAll is most vars elements (taken making) → CanTakeAll given most vars elements (taken (renamed_by gives making))
    can-renamed making can = subst (CanTakeAll given most vars elements) (sym (taken-renamed making)) (can_all (taken making) can)
