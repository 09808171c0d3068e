-- A refusal's status and line.
use Rattle.std.specs.Prelude.{ℕ, List, codes}
use Rattle.net_jobs.specs.declared.refusal.RunRefusal.{RunRefusal}
use Rattle.net_jobs.specs.declared.refusal.RunRefusal.TheVariants as refusal
use Rattle.net_jobs.specs.declared.status.Status.{Status}
use Rattle.net_jobs.specs.declared.status.Status.TheVariants as status
use Rattle.net_jobs.specs.declared.stops.PartStop.{PartStop}
use Rattle.net_jobs.specs.declared.stops.PartStop.TheVariants as stops
use Rattle.net_jobs.specs.Ends.{blif_line, dddmp_line, fault_line, full_line, large_line}

abbrev pub status_of : RunRefusal → Status
status_of refusal.Usage = status.Usage
status_of refusal.Memory = status.Memory
status_of refusal.Read = status.ReadFault
status_of refusal.TooLong = status.TooLong
status_of (refusal.Job fault) = status.Job
status_of (refusal.Blif fault) = status.Blif
status_of (refusal.Dddmp fault) = status.Dddmp
status_of (refusal.Full full) = status.Full
status_of (refusal.Large signals) = status.Large

abbrev pub refusal_line : RunRefusal → List ℕ
refusal_line refusal.Usage = codes "fault: usage\n"
refusal_line refusal.Memory = codes "fault: memory\n"
refusal_line refusal.Read = codes "fault: read\n"
refusal_line refusal.TooLong = codes "fault: too long\n"
refusal_line (refusal.Job fault) = fault_line fault
refusal_line (refusal.Blif fault) = blif_line fault
refusal_line (refusal.Dddmp fault) = dddmp_line fault
refusal_line (refusal.Full full) = full_line full.in_use full.limit
refusal_line (refusal.Large signals) = large_line signals

-- what a part's stop is told as
abbrev pub part_refusal : PartStop → RunRefusal
part_refusal stops.Memory = refusal.Memory
part_refusal (stops.Full full) = refusal.Full full
part_refusal (stops.Large signals) = refusal.Large signals
