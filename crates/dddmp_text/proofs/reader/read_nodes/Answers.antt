use Rattle.std.proofs.Common.{◌+◌, ◌∙◌, ap, sym, subst, refl, arith, Bool, List, false, [], if◌then◌else◌}
use Rattle.job_words.specs.Text.{lines_of, split_words}
use Rattle.job_words.proofs.Split.{is_nothing}
use Rattle.dddmp_text.specs.declared.faults.DddmpError.{DddmpError}
use Rattle.dddmp_text.specs.declared.faults.FaultKind.TheVariants as kinds
use Rattle.dddmp_text.specs.declared.fields.Given.{Given}
use Rattle.dddmp_text.specs.Faults.{ended, faulty_line, listing, words_fault}
use Rattle.dddmp_text.specs.Reading.{ErrorIs, ListsOn, StopIs}
use Rattle.dddmp_text.proofs.LeftLines.{ended-faultless, ended-leaves, line-stops, none-left, one-less}
use Rattle.dddmp_text.proofs.reader.read_nodes.Goals as goal

pub returns-in-Err-clause-fault : goal.returns-in-Err-clause-fault
returns-in-Err-clause-fault c =
    let headed = c.args.headed.now in
    let lines = lines_of headed.rest.now in
    let old = c.loop-rest.listed in
    let line = c.cut_line.result.0.now in
    subst (λ (e : DddmpError). ErrorIs (faulty_line headed.number (listing headed.given false []) lines) e) (sym c.at.ensures)
    (line-stops headed.number (listing headed.given false []) lines c.loop-rest.number (listing headed.given old.started old.nodes) c.loop-rest.rest.now c.loop-rest.invariant.left line c.cut_line.result.1.now c.in-Err.stop
    c.cut_line.ensures.lines (subst (λ (g : List Given). StopIs (words_fault (listing g old.started old.nodes) (split_words line)) c.in-Err.stop) c.as_slice.ensures c.in-Err.ensures.stop))

pub returns-then-ends-clause-faultless : goal.returns-then-ends-clause-faultless
returns-then-ends-clause-faultless c =
    let headed = c.args.headed.now in
    let old = c.loop-rest.listed in
    let new = c.take_line.new.self in
    let line = c.cut_line.result.0.now in
    let lists = subst (λ (g : List Given). ListsOn g old (split_words line) new c.in-Ok.ends) c.as_slice.ensures c.in-Ok.ensures.ok in
    ended-faultless headed.number (listing headed.given false []) (lines_of headed.rest.now) (c.loop-rest.number + 1) headed.given new.nodes c.cut_line.result.1.now
    (one-less headed.number (listing headed.given false []) (lines_of headed.rest.now) c.loop-rest.number (listing headed.given old.started old.nodes) c.loop-rest.rest.now c.loop-rest.invariant.left line c.cut_line.result.1.now
    (ended headed.given new.nodes) c.cut_line.ensures.lines lists.faultless (lists.leaves ∙ ap (λ (b : Bool). if b then ended headed.given new.nodes else listing headed.given new.started new.nodes) c.if-ends.true))

pub returns-then-ends-clause-left : goal.returns-then-ends-clause-left
returns-then-ends-clause-left c =
    let headed = c.args.headed.now in
    let old = c.loop-rest.listed in
    let new = c.take_line.new.self in
    let line = c.cut_line.result.0.now in
    let lists = subst (λ (g : List Given). ListsOn g old (split_words line) new c.in-Ok.ends) c.as_slice.ensures c.in-Ok.ensures.ok in
    ended-leaves headed.number (listing headed.given false []) (lines_of headed.rest.now) (c.loop-rest.number + 1) headed.given new.nodes c.cut_line.result.1.now
    (one-less headed.number (listing headed.given false []) (lines_of headed.rest.now) c.loop-rest.number (listing headed.given old.started old.nodes) c.loop-rest.rest.now c.loop-rest.invariant.left line c.cut_line.result.1.now
    (ended headed.given new.nodes) c.cut_line.ensures.lines lists.faultless (lists.leaves ∙ ap (λ (b : Bool). if b then ended headed.given new.nodes else listing headed.given new.started new.nodes) c.if-ends.true))

pub loop-rest-preserved : goal.loop-rest-preserved
loop-rest-preserved c =
    let headed = c.args.headed.now in
    let old = c.loop-rest.listed in
    let new = c.take_line.new.self in
    let line = c.cut_line.result.0.now in
    let lists = subst (λ (g : List Given). ListsOn g old (split_words line) new c.in-Ok.ends) c.as_slice.ensures c.in-Ok.ensures.ok in
    record {
      left = one-less headed.number (listing headed.given false []) (lines_of headed.rest.now) c.loop-rest.number (listing headed.given old.started old.nodes) c.loop-rest.rest.now c.loop-rest.invariant.left line
          c.cut_line.result.1.now (listing headed.given new.started new.nodes) c.cut_line.ensures.lines lists.faultless
          (lists.leaves ∙ ap (λ (b : Bool). if b then ended headed.given new.nodes else listing headed.given new.started new.nodes) c.if-ends.false);
      empty = lists.empty;
      budget = omega (arith, c.cut_line.ensures.shorter, c.loop-rest.invariant.budget);
    }

pub returns-clause-fault : goal.returns-clause-fault
returns-clause-fault c =
    let headed = c.args.headed.now in
    let lines = lines_of headed.rest.now in
    let old = c.loop-rest.listed in
    subst (λ (e : DddmpError). ErrorIs (faulty_line headed.number (listing headed.given false []) lines) e) (sym c.at-2.ensures)
    (none-left headed.number (listing headed.given false []) lines c.loop-rest.number (listing headed.given old.started old.nodes) c.loop-rest.rest.now c.loop-rest.invariant.left kinds.End
    (is_nothing c.loop-rest.rest.now (sym c.is_empty.ensures ∙ c.loop-rest-test.false)) refl)
