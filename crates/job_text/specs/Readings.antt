-- A text has one reading: it is that of one job, or it has one first fault.
use Rattle.std.specs.Prelude.{◌≡◌, ◌⊎◌, ℕ, List}
use Rattle.job_text.specs.declared.faults.FaultKind.{FaultKind}
use Rattle.job_text.specs.declared.job.Job.{Job}
use Rattle.job_text.specs.Grammar.{IsJobText}
use Rattle.job_text.specs.Faults.{IsFaultText}

-- each text is that of a job or has a fault
abbrev pub EachHasOne : Type 0
EachHasOne = (text : List ℕ) → ((job : Job) × IsJobText text job) ⊎ ((place : ℕ) × (kind : FaultKind) × IsFaultText text place kind)

-- no text is that of two jobs
abbrev pub OneJob : Type 0
OneJob = (text : List ℕ) (one other : Job) → IsJobText text one → IsJobText text other → one ≡ other

-- no text has two faults
abbrev pub OneFault : Type 0
OneFault = (text : List ℕ) (place place' : ℕ) (kind kind' : FaultKind) → IsFaultText text place kind → IsFaultText text place' kind' → (place ≡ place') × (kind ≡ kind')

-- no text of a job has a fault
abbrev pub JobOrFault : Type 0
JobOrFault = (text : List ℕ) (job : Job) (place : ℕ) (kind : FaultKind) → IsJobText text job → IsFaultText text place kind → ⊥
