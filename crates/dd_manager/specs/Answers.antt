-- What an answer says.
use Rattle.std.specs.Prelude.{◌≡◌, ℕ, ℤ, pos, Result, Ok, Err}
use Rattle.function_laws.specs.declared.history.Name.{Name}
use Rattle.node_store.specs.declared.grow.Stop.{Stop}
use Rattle.node_store.specs.declared.grow.Stop.TheVariants as stops
use Rattle.operator_calls.specs.declared.unmade.Unmade.{Unmade}
use Rattle.operator_calls.specs.declared.unmade.Unmade.TheVariants as unmade
use Rattle.store_rows.specs.declared.nodes.Top.{Top}
use Rattle.store_rows.specs.declared.nodes.Top.TheVariants as tops
use Rattle.dd_manager.specs.declared.requests.Answer.{Answer}
use Rattle.dd_manager.specs.declared.statuses.Status.{Status}
use Rattle.dd_manager.specs.declared.statuses.Status.TheVariants as statuses
use Rattle.dd_manager.specs.Statuses.{code_of}

-- the status
abbrev pub Says : Status → Answer → Type 0
Says status a = a.status ≡ code_of status

-- it was done, and this is the value
abbrev pub HasValue : ℤ → Answer → Type 0
HasValue z a = Says statuses.Done a × (a.value ≡ z)

-- the name in an answer
abbrev pub name_in : Answer → Name
name_in a = record { row = a.row; generation = a.generation }

-- it was done, and this is the name, of this manager
abbrev pub HasName : ℕ → Name → Answer → Type 0
HasName manager h a = Says statuses.Done a × (name_in a ≡ h) × (a.manager ≡ manager)

-- the status by what was told; and where a row was made, its name with the manager's number
abbrev pub IsAnswerOf : ℕ → Result (Result Name Unmade) Stop → Answer → Type 0
IsAnswerOf manager (Ok (Ok h)) a = HasName manager h a
IsAnswerOf manager (Ok (Err unmade.Overflow)) a = Says statuses.Overflow a
IsAnswerOf manager (Ok (Err unmade.Apart)) a = Says statuses.Apart a
IsAnswerOf manager (Err stops.Memory) a = Says statuses.Memory a
IsAnswerOf manager (Err stops.Full) a = Says statuses.Full a

-- 1 and the number of a node's variable, or element; or 0 and the value of a leaf
abbrev pub IsTopTold : Top → Answer → Type 0
IsTopTold (tops.Node n) a = HasValue (pos n) a × (a.number ≡ 1)
IsTopTold (tops.Leaf x) a = HasValue x a × (a.number ≡ 0)
