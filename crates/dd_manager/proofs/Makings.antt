-- What comes of a call that makes a function.
use Rattle.std.proofs.Common.{◌≡◌, ℕ, Bool, true, false, List, Option, Some, None, Result, subst}
use Rattle.function_laws.specs.declared.history.Name.{Name}
use Rattle.function_laws.specs.declared.making.Making.{Making}
use Rattle.function_laws.specs.Makings.{taken}
use Rattle.std.specs.Prelude.{IfSome, IsErrOf}
use Rattle.node_store.specs.declared.grow.Stop.{Stop}
use Rattle.node_store.specs.declared.grow.Stop.TheVariants as stops
use Rattle.operator_calls.specs.declared.unmade.Unmade.{Unmade}
use Rattle.store_rows.proofs.Changes.{same-then}
use Rattle.store_rows.proofs.Tries.{tells-then}
use Rattle.store_rows.specs.MadeRows.{IsSweptFirst, Tells}
use Rattle.store_rows.specs.RowStores.{RowStoreView, Same}
use Rattle.dd_manager.specs.declared.faults.Fault.{Fault}
use Rattle.dd_manager.specs.declared.lists.Lists.{Lists}
use Rattle.dd_manager.specs.declared.requests.Answer.{Answer}
use Rattle.dd_manager.specs.declared.requests.Request.{Request}
use Rattle.dd_manager.specs.Answers.{IsAnswerOf}
use Rattle.dd_manager.specs.Makings.{ComesOf, MakesAs, MakesBy}
use Rattle.dd_manager.specs.Refusals.{Judges}
use Rattle.dd_manager.proofs.Judging.{judges-same}

swept-then : (a b c : RowStoreView) → Same a b → IsSweptFirst b c → IsSweptFirst a c
swept-then a b c same s = record { start = s.start; same = same-then a b s.start same s.same; between = s.between; swept = s.swept; is_swept = s.is_swept; grown = s.grown }

module _ (manager : ℕ) (was mid : RowStoreView) (making : Making Name (List ℕ) (List (ℕ × Name))) (same : Same was mid) (o : Option Fault) (judged : Judges mid (taken making) o) where
  pub makes-told : (now : RowStoreView) (a : Answer) (told : Result (Result Name Unmade) Stop) → o ≡ None → Tells mid now making told → (IsErrOf told stops.Full → IsSweptFirst mid now) → IsAnswerOf manager told a → MakesAs manager was now making a
  makes-told now a told is tells first answers = record {
    fault = None;
    judged = judges-same was mid same (taken making) None (subst (Judges mid (taken making)) is judged);
    comes = (told, tells-then was mid now making told same tells, λ full. swept-then was mid now same (first full), answers);
  }

  -- one try, of which a full store is told by nothing
  pub makes-tried : (now : RowStoreView) (told : Result (Result Name Unmade) Stop) → o ≡ None → Tells mid now making told → (answer : Option Answer) → IfSome answer (λ a. IsAnswerOf manager told a × (IsErrOf told stops.Full → ⊥))
      → IfSome answer (λ a. MakesAs manager was now making a)
  makes-tried now told is tells None some = tt
  makes-tried now told is tells (Some a) some = makes-told now a told is tells (λ full. absurd (some.1 full)) some.0

-- the same of a store in which each row has its function
comes-then : (manager : ℕ) (was mid now : RowStoreView) (making : Making Name (List ℕ) (List (ℕ × Name))) (a : Answer) → Same was mid → (fault : Option Fault) → ComesOf manager mid now making a fault → ComesOf manager was now making a fault
comes-then manager was mid now making a same (Some fault) comes = (same-then was mid now same comes.0, comes.1)
comes-then manager was mid now making a same None comes = (comes.0, tells-then was mid now making comes.0 same comes.1, λ full. swept-then was mid now same (comes.2 full), comes.3)

pub makes-then : (b : Bool) (manager : ℕ) (was mid now : RowStoreView) (lists : Lists) (r : Request) (a : Answer) → Same was mid → MakesBy b manager mid lists r now a → MakesBy b manager was lists r now a
makes-then true manager was mid now lists r a same makes = (same-then was mid now same makes.0, makes.1)
makes-then false manager was mid now lists r a same makes = (
  makes.0,
  makes.1,
  record {
    fault = makes.2.fault;
    judged = judges-same was mid same (taken makes.0) makes.2.fault makes.2.judged;
    comes = comes-then manager was mid now makes.0 a same makes.2.fault makes.2.comes;
  },
)
