use Rattle.std.proofs.Common.{◌≡◌, [], List, arith, refl, subst, sym, ◌∙◌}
use Rattle.std.proofs.lemmas.Result.{IfErr-weaker, IfOk-weaker}
use Rattle.blif_net.specs.declared.faults.BlifError.{BlifError}
use Rattle.blif_net.specs.Ending.{ErrorIs, IsNetFrom}
use Rattle.blif_net.specs.Faults.{HasFault, fault_in, last_number}
use Rattle.blif_net.specs.Networks.{IsBlifText}
use Rattle.blif_net.specs.Reading.{IsReadWhole}
use Rattle.blif_net.specs.Sound.{ArePlainLines}
use Rattle.blif_text.specs.Text.{Line}
use Rattle.blif_text.proofs.Split.{is_nothing}
use Rattle.blif_net.proofs.TextLines.{all_lines, line_stops, nothing_read, read_step, read_whole, text_fault, text_net, text_plain}
use Rattle.blif_net.proofs.reader.read_kept.Goals as goal

pub loop-rest-init : goal.loop-rest-init
loop-rest-init c = record {
  kept = c.requires;
  read = record { lines = []; so_far = refl; read = nothing_read c.new-reading.result c.new-reading.ensures; last_line = refl };
  budget = omega arith;
}

pub returns-in-Err-clause-fault : goal.returns-in-Err-clause-fault
returns-in-Err-clause-fault c =
    let next = c.next_line-next.result in
    subst (λ (t : BlifError). HasFault c.args.text.now t) (sym c.stopped_at.ensures)
    (line_stops c.args.text.now c.loop-rest.rest.now next.rest.now next.bytes.now c.loop-rest.number next.number c.loop-rest.last c.loop-rest.reading c.in-Err.stop c.loop-rest.invariant.read
    c.next_line-next.ensures.lines c.in-Err.ensures.stop)

pub loop-rest-preserved : goal.loop-rest-preserved
loop-rest-preserved c =
    let next = c.next_line-next.result in
    record {
      kept = c.next_line-next.ensures.kept;
      read = read_step c.args.text.now c.loop-rest.rest.now next.rest.now next.bytes.now c.loop-rest.number next.number c.loop-rest.last c.loop-rest.reading c.take.new.self c.loop-rest.invariant.read
          c.next_line-next.ensures.lines c.next_line-next.ensures.later c.in-Ok.ensures.ok;
      budget = omega (arith, c.next_line-next.ensures.numbers, c.loop-rest.invariant.budget);
    }

pub finish-requires : goal.finish-requires
finish-requires c =
    let r = c.loop-rest.invariant.read in
    let same = all_lines c.args.text.now c.loop-rest.rest.now c.loop-rest.number c.loop-rest.last c.loop-rest.reading r (is_nothing c.loop-rest.rest.now (sym c.is_empty.ensures ∙ c.loop-rest-test.false)) in
    (r.lines, subst ArePlainLines same (text_plain c.args.text.now), read_whole r.lines c.loop-rest.number c.loop-rest.reading c.close.new.self r.read c.in_ok-close.ensures)

pub returns-clause-net : goal.returns-clause-net
returns-clause-net c =
    let r = c.loop-rest.invariant.read in
    let same = all_lines c.args.text.now c.loop-rest.rest.now c.loop-rest.number c.loop-rest.last c.loop-rest.reading r (is_nothing c.loop-rest.rest.now (sym c.is_empty.ensures ∙ c.loop-rest-test.false)) in
    let whole = read_whole r.lines c.loop-rest.number c.loop-rest.reading c.close.new.self r.read c.in_ok-close.ensures in
    IfOk-weaker c.finish.result (λ net. (lines : List Line) → ArePlainLines lines → IsReadWhole lines c.close.new.self → IsNetFrom lines net) (IsBlifText c.args.text.now)
    (λ net n. text_net c.args.text.now r.lines net same (n r.lines (subst ArePlainLines same (text_plain c.args.text.now)) whole)) c.finish.ensures.net

pub returns-clause-fault : goal.returns-clause-fault
returns-clause-fault c =
    let r = c.loop-rest.invariant.read in
    let same = all_lines c.args.text.now c.loop-rest.rest.now c.loop-rest.number c.loop-rest.last c.loop-rest.reading r (is_nothing c.loop-rest.rest.now (sym c.is_empty.ensures ∙ c.loop-rest-test.false)) in
    let whole = read_whole r.lines c.loop-rest.number c.loop-rest.reading c.close.new.self r.read c.in_ok-close.ensures in
    IfErr-weaker c.finish.result (λ error. (lines : List Line) → ArePlainLines lines → IsReadWhole lines c.close.new.self → c.loop-rest.last ≡ last_number lines → ErrorIs (fault_in lines) error) (HasFault c.args.text.now)
    (λ error f. text_fault c.args.text.now r.lines error same (f r.lines (subst ArePlainLines same (text_plain c.args.text.now)) whole r.last_line)) c.finish.ensures.fault
