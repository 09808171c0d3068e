-- What comes of a call that makes a function.
use Rattle.std.specs.Prelude.{IsErrOf, ℕ, Bool, true, false, List, Option, Some, None, Result}
use Rattle.function_laws.specs.declared.history.Name.{Name}
use Rattle.function_laws.specs.declared.making.Making.{Making}
use Rattle.function_laws.specs.Makings.{taken}
use Rattle.node_store.specs.declared.grow.Stop.{Stop}
use Rattle.node_store.specs.declared.grow.Stop.TheVariants as stops
use Rattle.operator_calls.specs.declared.unmade.Unmade.{Unmade}
use Rattle.store_rows.specs.MadeRows.{IsSweptFirst, Tells}
use Rattle.store_rows.specs.RowStores.{RowStoreView, Same}
use Rattle.dd_manager.specs.declared.faults.Fault.{Fault}
use Rattle.dd_manager.specs.declared.lists.Lists.{Lists}
use Rattle.dd_manager.specs.declared.requests.Answer.{Answer}
use Rattle.dd_manager.specs.declared.requests.Request.{Request}
use Rattle.dd_manager.specs.declared.statuses.Status.TheVariants as statuses
use Rattle.dd_manager.specs.Answers.{IsAnswerOf, Says}
use Rattle.dd_manager.specs.Refusals.{Judges}
use Rattle.dd_manager.specs.Requests.{Asks}
use Rattle.dd_manager.specs.Statuses.{status_of}

-- What comes of a making, by what is not there first of all that it takes. It is full after a sweep alone.
abbrev pub ComesOf : ℕ → RowStoreView → RowStoreView → Making Name (List ℕ) (List (ℕ × Name)) → Answer → Option Fault → Type 0
ComesOf manager was now making a (Some fault) = Same was now × Says (status_of fault) a
ComesOf manager was now making a None = (told : Result (Result Name Unmade) Stop) × Tells was now making told × (IsErrOf told stops.Full → IsSweptFirst was now) × IsAnswerOf manager told a

pub record MakesAs (manager : ℕ) (was now : RowStoreView) (making : Making Name (List ℕ) (List (ℕ × Name))) (a : Answer) : Type 0 where
  pub fault : Option Fault
  pub judged : Judges was (taken making) fault
  pub comes : ComesOf manager was now making a fault

-- A name of another manager is refused, and else the making that is asked for is served.
abbrev pub MakesBy : Bool → ℕ → RowStoreView → Lists → Request → RowStoreView → Answer → Type 0
MakesBy true manager was lists r now a = Same was now × Says statuses.Handle a
MakesBy false manager was lists r now a = (making : Making Name (List ℕ) (List (ℕ × Name))) × Asks making r lists × MakesAs manager was now making a
