use Rattle.std.proofs.Common.{◌∙◌, ap, sym, subst, refl, arith, Bool, List, false, [], if◌then◌else◌}
use Rattle.job_words.specs.Text.{lines_of}
use Rattle.job_words.proofs.Split.{is_nothing}
use Rattle.dddmp_text.specs.declared.faults.DddmpError.{DddmpError}
use Rattle.dddmp_text.specs.declared.faults.FaultKind.TheVariants as kinds
use Rattle.dddmp_text.specs.declared.fields.Given.{Given}
use Rattle.dddmp_text.specs.Faults.{at_start, faulty_line, heading, listing}
use Rattle.dddmp_text.specs.Reading.{AreLeft, ErrorIs}
use Rattle.dddmp_text.proofs.LeftLines.{all-left, line-stops, none-left, one-less}
use Rattle.dddmp_text.proofs.reader.read_header.Goals as goal

pub loop-rest-init : goal.loop-rest-init
loop-rest-init c =
    let text = c.args.text.now in
    record {
      left = subst (λ (given : List Given). AreLeft 1 at_start (lines_of text) 1 (heading given) text) (sym c.new-given.ensures) (all-left 1 at_start text);
      budget = omega arith;
    }

pub returns-in-Err-clause-fault : goal.returns-in-Err-clause-fault
returns-in-Err-clause-fault c =
    let lines = lines_of c.args.text.now in
    subst (λ (e : DddmpError). ErrorIs (faulty_line 1 at_start lines) e) (sym c.at.ensures)
    (line-stops 1 at_start lines c.loop-rest.number (heading c.loop-rest.given) c.loop-rest.rest.now c.loop-rest.invariant.left c.cut_line.result.0.now c.cut_line.result.1.now c.in-Err.stop c.cut_line.ensures.lines
    c.in-Err.ensures.stop)

pub returns-then-begins-clause-left : goal.returns-then-begins-clause-left
returns-then-begins-clause-left c =
    let given = c.take_header_line.new.given in
    let heads = c.in-Ok.ensures.ok in
    one-less 1 at_start (lines_of c.args.text.now) c.loop-rest.number (heading c.loop-rest.given) c.loop-rest.rest.now c.loop-rest.invariant.left c.cut_line.result.0.now c.cut_line.result.1.now (listing given false [])
    c.cut_line.ensures.lines heads.faultless (heads.leaves ∙ ap (λ (b : Bool). if b then listing given false [] else heading given) c.if-begins.true)

pub loop-rest-preserved : goal.loop-rest-preserved
loop-rest-preserved c =
    let given = c.take_header_line.new.given in
    let heads = c.in-Ok.ensures.ok in
    record {
      left = one-less 1 at_start (lines_of c.args.text.now) c.loop-rest.number (heading c.loop-rest.given) c.loop-rest.rest.now c.loop-rest.invariant.left c.cut_line.result.0.now c.cut_line.result.1.now (heading given)
          c.cut_line.ensures.lines heads.faultless (heads.leaves ∙ ap (λ (b : Bool). if b then listing given false [] else heading given) c.if-begins.false);
      budget = omega (arith, c.cut_line.ensures.shorter, c.loop-rest.invariant.budget);
    }

pub returns-clause-fault : goal.returns-clause-fault
returns-clause-fault c =
    let lines = lines_of c.args.text.now in
    subst (λ (e : DddmpError). ErrorIs (faulty_line 1 at_start lines) e) (sym c.at-2.ensures)
    (none-left 1 at_start lines c.loop-rest.number (heading c.loop-rest.given) c.loop-rest.rest.now c.loop-rest.invariant.left kinds.Missing (is_nothing c.loop-rest.rest.now (sym c.is_empty.ensures ∙ c.loop-rest-test.false)) refl)
