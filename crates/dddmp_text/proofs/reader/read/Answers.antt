use Rattle.std.proofs.Common.{◌≡◌, None, false, []}
use Rattle.std.proofs.lemmas.Result.{IfErr-weaker, IfOk-weaker, err_from_is_err_and}
use Rattle.job_words.specs.Text.{lines_of}
use Rattle.dddmp_text.specs.Faults.{IsDddmpText, behind, dump_in, faulty_line, listing}
use Rattle.dddmp_text.specs.Reading.{ErrorIs, HasFault}
use Rattle.dddmp_text.proofs.LeftLines.{text-dump, text-fault, text-fault-left}
use Rattle.dddmp_text.proofs.reader.read.Goals as goal

pub returns-in_err-headed-clause-fault : goal.returns-in_err-headed-clause-fault
returns-in_err-headed-clause-fault c =
    let p = err_from_is_err_and c.from_residual.result c.from_residual.ensures.1 in
    rw (p.1, p.2) (text-fault c.args.text.now c.in_err-headed.field-0.0 c.in_err-headed.ensures.fault)

pub returns-clause-dump : goal.returns-clause-dump
returns-clause-dump c =
    let headed = c.in_ok-headed.headed in
    IfOk-weaker c.read_dump.result
    (λ dump. (faulty_line headed.number (listing headed.given false []) (lines_of headed.rest.now) ≡ None) × (dump ≡ dump_in (behind (listing headed.given false []) (lines_of headed.rest.now))))
    (IsDddmpText c.args.text.now) (λ dump h. text-dump c.args.text.now headed.number (listing headed.given false []) headed.rest.now dump c.in_ok-headed.ensures.left h.0 h.1) c.read_dump.ensures.dump

pub returns-clause-fault : goal.returns-clause-fault
returns-clause-fault c =
    let headed = c.in_ok-headed.headed in
    IfErr-weaker c.read_dump.result (ErrorIs (faulty_line headed.number (listing headed.given false []) (lines_of headed.rest.now))) (HasFault c.args.text.now)
    (λ error h. text-fault-left c.args.text.now headed.number (listing headed.given false []) headed.rest.now error c.in_ok-headed.ensures.left h) c.read_dump.ensures.fault
