-- The numbers of statuses and kinds.
use Rattle.std.specs.Prelude.{ℕ}
use Rattle.edge_bits.specs.declared.edges.Kind.{Kind}
use Rattle.edge_bits.specs.declared.edges.Kind.TheVariants as kinds
use Rattle.dd_manager.specs.declared.faults.Fault.{Fault}
use Rattle.dd_manager.specs.declared.faults.Fault.TheVariants as faults
use Rattle.dd_manager.specs.declared.statuses.Status.{Status}
use Rattle.dd_manager.specs.declared.statuses.Status.TheVariants as statuses

abbrev pub code_of : Status → ℕ
code_of statuses.Done = 0
code_of statuses.Memory = 1
code_of statuses.Full = 2
code_of statuses.Overflow = 3
code_of statuses.Apart = 4
code_of statuses.Handle = 5
code_of statuses.Kind = 6
code_of statuses.Range = 7
code_of statuses.Call = 8
code_of statuses.Closed = 9

abbrev pub status_of : Fault → Status
status_of faults.Handle = statuses.Handle
status_of faults.Kind = statuses.Kind
status_of faults.Range = statuses.Range

abbrev pub kind_code : Kind → ℕ
kind_code kinds.Bdd = 0
kind_code kinds.Add = 1
kind_code kinds.Zdd = 2
