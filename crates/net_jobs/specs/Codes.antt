-- The exit status of each end of a run.
use Rattle.std.specs.Prelude.{ℕ}
use Rattle.net_jobs.specs.declared.status.Status.{Status}
use Rattle.net_jobs.specs.declared.status.Status.TheVariants as status

abbrev pub code_of : Status → ℕ
code_of status.Ok = 0
code_of status.Usage = 2
code_of status.Blif = 3
code_of status.Full = 4
code_of status.Memory = 5
code_of status.ReadFault = 6
code_of status.WriteFault = 7
code_of status.Dddmp = 8
code_of status.Job = 9
code_of status.TooLong = 10
code_of status.Large = 11
