-- Which thing is not there first, of lists one behind the other.
use Rattle.std.proofs.Common.{◌≡◌, inl, inr, ℕ, List, [], ◌∷◌, ◌++◌, Option, Some, None, refl, sym, subst}
use Rattle.function_laws.specs.declared.history.Name.{Name}
use Rattle.function_laws.specs.Makings.{Taken}
use Rattle.dd_manager.specs.declared.faults.Fault.{Fault}
use Rattle.handle_count.specs.declared.rows.Held.{Held}
use Rattle.store_rows.specs.RowStores.{RowStoreView, Same, view_of}
use Rattle.dd_manager.specs.Refusals.{IsTaken, Judges, JudgesIn, first_of}

module _ (d : RowStoreView) where
  pub judges-append : (xs ys : List (Taken Name)) (a b : Option Fault) → Judges d xs a → Judges d ys b → Judges d (xs ++ ys) (first_of a b)
  judges-append [] ys None b one more = more
  judges-append [] ys (Some f) b one more = absurd one
  judges-append (x ∷ xs) ys None None one more = (one.0, judges-append xs ys None None one.1 more)
  judges-append (x ∷ xs) ys None (Some f) one more = inr (one.0, judges-append xs ys None (Some f) one.1 more)
  judges-append (x ∷ xs) ys (Some f) b one more = elim one [ inl fault ↦ inl fault | inr rest ↦ inr (rest.0, judges-append xs ys (Some f) b rest.1 more) ]

  -- as it was told of both
  pub judges-both : (xs ys : List (Taken Name)) (a b c : Option Fault) → c ≡ first_of a b → Judges d xs a → Judges d ys b → Judges d (xs ++ ys) c
  judges-both xs ys a b c told one more = subst (Judges d (xs ++ ys)) (sym told) (judges-append xs ys a b one more)

  first_none : (a : Option Fault) → a ≡ first_of a None
  first_none None = refl
  first_none (Some f) = refl

  -- and where what comes behind is always there
  pub judges-free : (xs : List (Taken Name)) (x : Taken Name) (a : Option Fault) → IsTaken d.rows.live (view_of d).vars (view_of d).elements x → Judges d xs a → Judges d (xs ++ x ∷ []) a
  judges-free xs x a there one = judges-both xs (x ∷ []) a None a (first_none a) one (there, tt)

-- the same, where no row came or went
pub judges-same : (a b : RowStoreView) → Same a b → (all : List (Taken Name)) (told : Option Fault) → Judges b all told → Judges a all told
judges-same a b same all told is = subst (λ (z : List Held × ℕ × ℕ). JudgesIn z.0 z.1 z.2 all told) (λ i. (same.live i, same.has.vars i, same.has.elements i)) is
