use Rattle.std.proofs.Common.{subst, sym, ℕ}
use Rattle.job_text.specs.Places.{Refers}
use Rattle.job_text.proofs.RegisterLists.{none_called, one_called, dropped_fault, live_well, refers}
use Rattle.job_text.proofs.registers.find_at.Goals as goal

pub returns-in_default-clause-fault : goal.returns-in_default-clause-fault
returns-in_default-clause-fault c = none_called c.args.registers.now c.args.word.now c.args.place c.requires.place c.in_default.ensures.lookup.0

pub returns-then-not-register-clause-fault : goal.returns-then-not-register-clause-fault
returns-then-not-register-clause-fault c =
    dropped_fault c.args.registers.now c.args.word.now c.in-Some.register.now
    (one_called c.args.registers.now c.args.word.now c.args.place c.in-Some.register.now c.requires.place c.in-Some.ensures.lookup.0 c.in-Some.ensures.lookup.1) c.if-not-register.true

pub returns-clause-found : goal.returns-clause-found
returns-clause-found c =
    let rs = c.args.registers.now in
    let w = c.args.word.now in
    let r = c.in-Some.register.now in
    subst (λ (i : ℕ). Refers rs w i r.kind) (sym c.requires.place)
    (refers rs w r c.requires.name (one_called rs w c.args.place r c.requires.place c.in-Some.ensures.lookup.0 c.in-Some.ensures.lookup.1) c.if-not-register.false)

pub returns-clause-fault : goal.returns-clause-fault
returns-clause-fault c =
    live_well c.args.registers.now c.args.word.now c.in-Some.register.now
    (one_called c.args.registers.now c.args.word.now c.args.place c.in-Some.register.now c.requires.place c.in-Some.ensures.lookup.0 c.in-Some.ensures.lookup.1) c.if-not-register.false
