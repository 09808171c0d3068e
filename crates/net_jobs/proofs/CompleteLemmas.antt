-- Of a text of a job there is nothing to tell but its history, of one of a network but what is due of it, and of one of a stored diagram but its report.
use Rattle.std.proofs.Common.{◌≡◌, ℕ, ◌+◌, ◌≤◌, List, ◌++◌, length, Option, Some, None, inl, inr, refl, sym, ap, ◌∙◌, subst, arith, append-nil, length-append}
use Rattle.std.specs.Io.KnownBytes.{Consumes}
use Rattle.edge_bits.specs.declared.limits.TheConstants.{LONGEST_TEXT}
use Rattle.blif_net.specs.declared.faults.BlifFault.{BlifFault}
use Rattle.blif_net.specs.Faults.{fault_of}
use Rattle.dddmp_text.specs.declared.faults.DddmpFault.{DddmpFault}
use Rattle.dddmp_text.specs.Faults.{fault_of as diagram_fault_of}
use Rattle.job_text.specs.Faults.{IsFaultText}
use Rattle.job_text.proofs.OneReading.{job_or_fault}
use Rattle.net_jobs.specs.declared.status.Status.TheVariants as status
use Rattle.net_jobs.specs.Ends.{IsComplete, IsCompleteForBuilds, IsCompleteForLoads, IsCompleteForMade, IsWhole}

whole_is : (bytes other : List ℕ) (rest : Option (List ℕ)) → IsWhole (Some bytes) rest other → other ≡ bytes
whole_is bytes other None w = absurd w.taken
whole_is bytes other (Some ys) w = sym (append-nil other) ∙ ap (λ xs. other ++ xs) (sym w.end) ∙ sym w.taken

not_too_long : (bytes other : List ℕ) (rest : Option (List ℕ)) → Consumes (Some bytes) rest other → length bytes ≤ LONGEST_TEXT → length other ≡ LONGEST_TEXT + 1 → ⊥
not_too_long bytes other None taken short long = taken
not_too_long bytes other (Some ys) taken short long = omega (arith, short, long, ap length taken, length-append other ys)

pub is_complete : IsComplete
is_complete bytes job rest before now status.Ok text is short none due = inl refl
is_complete bytes job rest before now status.Usage text is short none due = cc
is_complete bytes job rest before now status.Blif text is short none due = absurd due
is_complete bytes job rest before now status.Full text is short none due = absurd due
is_complete bytes job rest before now status.Memory text is short none due = inr refl
is_complete bytes job rest before now status.ReadFault text is short none due = absurd (none due.1)
is_complete bytes job rest before now status.WriteFault text is short none due = absurd due
is_complete bytes job rest before now status.Dddmp text is short none due = absurd due
is_complete bytes job rest before now status.Job text is short none due =
    absurd (job_or_fault bytes job due.2.line due.2.what is (subst (λ xs. IsFaultText xs due.2.line due.2.what) (whole_is bytes due.1 rest due.3) due.4))
is_complete bytes job rest before now status.TooLong text is short none due = absurd (not_too_long bytes due.1 rest due.2 short due.3)
is_complete bytes job rest before now status.Large text is short none due = absurd due

-- a text of a network has no fault
faultless : (bytes other : List ℕ) (fault : BlifFault) → fault_of bytes ≡ None → other ≡ bytes → fault_of other ≡ Some fault → ⊥
faultless bytes other fault none same is = cc

pub is_complete_for_builds : IsCompleteForBuilds
is_complete_for_builds workers limit options bytes net rest before now status.Ok text is short none due = inl refl
is_complete_for_builds workers limit options bytes net rest before now status.Usage text is short none due = cc
is_complete_for_builds workers limit options bytes net rest before now status.Blif text is short none due =
    absurd (faultless bytes due.0 due.1 is.faultless (whole_is bytes due.0 rest due.2) due.3)
is_complete_for_builds workers limit options bytes net rest before now status.Full text is short none due = inr (inl refl)
is_complete_for_builds workers limit options bytes net rest before now status.Memory text is short none due = inr (inr (inr refl))
is_complete_for_builds workers limit options bytes net rest before now status.ReadFault text is short none due = absurd (none due.1)
is_complete_for_builds workers limit options bytes net rest before now status.WriteFault text is short none due = absurd due
is_complete_for_builds workers limit options bytes net rest before now status.Dddmp text is short none due = absurd due
is_complete_for_builds workers limit options bytes net rest before now status.Job text is short none due = cc
is_complete_for_builds workers limit options bytes net rest before now status.TooLong text is short none due = absurd (not_too_long bytes due.1 rest due.2 short due.3)
is_complete_for_builds workers limit options bytes net rest before now status.Large text is short none due = inr (inr (inl refl))

-- nor has one of a stored diagram
diagram_faultless : (bytes other : List ℕ) (fault : DddmpFault) → diagram_fault_of bytes ≡ None → other ≡ bytes → diagram_fault_of other ≡ Some fault → ⊥
diagram_faultless bytes other fault none same is = cc

pub is_complete_for_loads : IsCompleteForLoads
is_complete_for_loads patterns bytes dump rest before now status.Ok text is short none due = inl refl
is_complete_for_loads patterns bytes dump rest before now status.Usage text is short none due = cc
is_complete_for_loads patterns bytes dump rest before now status.Blif text is short none due = absurd due
is_complete_for_loads patterns bytes dump rest before now status.Full text is short none due = inr (inl refl)
is_complete_for_loads patterns bytes dump rest before now status.Memory text is short none due = inr (inr refl)
is_complete_for_loads patterns bytes dump rest before now status.ReadFault text is short none due = absurd (none due.1)
is_complete_for_loads patterns bytes dump rest before now status.WriteFault text is short none due = absurd due
is_complete_for_loads patterns bytes dump rest before now status.Dddmp text is short none due =
    absurd (diagram_faultless bytes due.0 due.1 is.faultless (whole_is bytes due.0 rest due.2) due.3)
is_complete_for_loads patterns bytes dump rest before now status.Job text is short none due = cc
is_complete_for_loads patterns bytes dump rest before now status.TooLong text is short none due = absurd (not_too_long bytes due.1 rest due.2 short due.3)
is_complete_for_loads patterns bytes dump rest before now status.Large text is short none due = absurd due

pub is_complete_for_made : IsCompleteForMade
is_complete_for_made workers bits left rest before now status.Ok text due = inl refl
is_complete_for_made workers bits left rest before now status.Usage text due = cc
is_complete_for_made workers bits left rest before now status.Blif text due = absurd due
is_complete_for_made workers bits left rest before now status.Full text due = inr (inl refl)
is_complete_for_made workers bits left rest before now status.Memory text due = inr (inr refl)
is_complete_for_made workers bits left rest before now status.ReadFault text due = absurd due.0
is_complete_for_made workers bits left rest before now status.WriteFault text due = absurd due
is_complete_for_made workers bits left rest before now status.Dddmp text due = absurd due
is_complete_for_made workers bits left rest before now status.Job text due = cc
is_complete_for_made workers bits left rest before now status.TooLong text due = absurd due.0
is_complete_for_made workers bits left rest before now status.Large text due = absurd due
