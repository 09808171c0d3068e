use Rattle.std.proofs.Common.{ℕ, ◌+◌, Bool, ap, arith, subst, ◌∙◌}
use Rattle.std.specs.Int.{is_negative}
use Rattle.diagram_dumps.specs.Dumps.{line_value}
use Rattle.function_laws.specs.declared.history.Name.{Name}
use Rattle.function_laws.specs.Values.{choice}
use Rattle.net_builds.specs.Loads.{turned_if}
use Rattle.net_builds.specs.Standings.{Holds, Makes}
use Rattle.net_builds.proofs.BackLemmas.{ok_weaker}
use Rattle.net_builds.proofs.StackLemmas.{line_made, line_row}
use Rattle.net_builds.proofs.diagrams.make_line.Goals as goal

pub row_of-high-requires-clause-from_one : goal.row_of-high-requires-clause-from_one
row_of-high-requires-clause-from_one g c = (c.requires.bounded.earlier c.args.place c.line_at-line.result.now c.line_at-line.ensures).0

pub row_of-high-requires-clause-within : goal.row_of-high-requires-clause-within
row_of-high-requires-clause-within g c =
    let earlier = c.requires.bounded.earlier c.args.place c.line_at-line.result.now c.line_at-line.ensures in
    omega (arith, earlier.1, c.requires.long)

pub row_of-low-requires-clause-from_one : goal.row_of-low-requires-clause-from_one
row_of-low-requires-clause-from_one g c =
    let earlier = c.requires.bounded.earlier c.args.place c.line_at-line.result.now c.line_at-line.ensures in
    omega (arith, earlier.2, c.magnitude.ensures)

pub row_of-low-requires-clause-within : goal.row_of-low-requires-clause-within
row_of-low-requires-clause-within g c =
    let earlier = c.requires.bounded.earlier c.args.place c.line_at-line.result.now c.line_at-line.ensures in
    omega (arith, earlier.3, c.magnitude.ensures, c.requires.long)

pub line_between-requires-clause-high : goal.line_between-requires-clause-high
line_between-requires-clause-high g c =
    let dump = c.args.dump.now in
    let line = c.line_at-line.result.now in
    let earlier = c.requires.bounded.earlier c.args.place line c.line_at-line.ensures in
    (line_value dump line.hi, line_row (g.H.Host.standing c.args.session.now) dump c.args.made.now line.hi c.row_of-high.result earlier.0 (omega (arith, earlier.1, c.requires.within)) c.row_of-high.ensures c.requires.lines)

pub line_between-requires-clause-low : goal.line_between-requires-clause-low
line_between-requires-clause-low g c =
    let dump = c.args.dump.now in
    let line = c.line_at-line.result.now in
    let earlier = c.requires.bounded.earlier c.args.place line c.line_at-line.ensures in
    let index = c.magnitude.result in
    let is = c.magnitude.ensures in
    (line_value dump index, line_row (g.H.Host.standing c.args.session.now) dump c.args.made.now index c.row_of-low.result (omega (arith, earlier.2, is)) (omega (arith, earlier.3, is, c.requires.within)) c.row_of-low.ensures c.requires.lines)

pub returns-clause-made : goal.returns-clause-made
returns-clause-made g c =
    let old = g.H.Host.standing c.args.session.now in
    let new = g.H.Host.standing c.line_between.new.session in
    let dump = c.args.dump.now in
    let made = c.args.made.now in
    let line = c.line_at-line.result.now in
    let earlier = c.requires.bounded.earlier c.args.place line c.line_at-line.ensures in
    let index = c.magnitude.result in
    let is = c.magnitude.ensures in
    let high = line_row old dump made line.hi c.row_of-high.result earlier.0 (omega (arith, earlier.1, c.requires.within)) c.row_of-high.ensures c.requires.lines in
    let low = line_row old dump made index c.row_of-low.result (omega (arith, earlier.2, is)) (omega (arith, earlier.3, is, c.requires.within)) c.row_of-low.ensures c.requires.lines in
    ok_weaker (λ (name : Name). (f h : ℕ → Bool) → Holds old c.row_of-high.result f → Holds old c.row_of-low.result h → Makes old new name (choice line.var f (turned_if (is_negative line.lo) h)))
    (λ (name : Name). Makes old new name (line_value dump (c.args.place + 2)))
    (λ name all. subst (Makes old new name)
    (ap (λ i. choice line.var (line_value dump line.hi) (turned_if (is_negative line.lo) (line_value dump i))) is ∙ line_made dump c.requires.bounded c.args.place line c.line_at-line.ensures)
    (all (line_value dump line.hi) (line_value dump index) high low))
    c.line_between.result c.line_between.ensures.made
