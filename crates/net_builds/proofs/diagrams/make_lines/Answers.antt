use Rattle.std.proofs.Common.{◌≡◌, ◌+◌, ◌++◌, ◌∷◌, [], ◌∙◌, List, true, ap, arith, length, length-append, subst, sym}
use Rattle.std.proofs.lemmas.Result.{err_from_is_err_and}
use Rattle.diagram_dumps.specs.Dumps.{line_value}
use Rattle.diagram_dumps.proofs.LineValues.{one_is}
use Rattle.function_laws.specs.declared.history.Name.{Name}
use Rattle.function_laws.specs.Values.{constant}
use Rattle.net_builds.specs.Loads.{HoldLines, IsStack}
use Rattle.net_builds.specs.Standings.{Holds, IsQuiet}
use Rattle.net_builds.proofs.StackLemmas.{holds_as, lines_later, lines_more, lines_none, stack_more, stack_none, stack_same, stays_refused}
use Rattle.net_builds.proofs.StandingLemmas.{gains_none, gains_then, holds_live}
use Rattle.net_builds.proofs.diagrams.make_lines.Goals as goal

pub returns-in_err-constant-clause-back : goal.returns-in_err-constant-clause-back
returns-in_err-constant-clause-back g c =
    let old = c.args.session.now in
    let new = c.constant.new.session in
    let back = c.in_err-constant.ensures.back in
    let may = c.requires.may in
    let p = err_from_is_err_and c.from_residual.result c.from_residual.ensures.1 in
    rw (p.1, p.2) (stays_refused g.H.Host.has g.H.Host.standing g.H.Host.tells c.args.host.now old old new c.args.made.now.items c.in_err-constant.field-0.0 (gains_none IsQuiet (g.H.Host.standing old))
    (omega (arith, back.rows, may.none, may.few))
    (subst (IsStack (g.H.Host.standing new)) (sym c.requires.none)
    (stack_same (g.H.Host.standing old) (g.H.Host.standing new) back.works.more back.kept [] back.rows (stack_none (g.H.Host.standing old) may.none)))
    back)

pub loop-place-init : goal.loop-place-init
loop-place-init g c =
    let old = g.H.Host.standing c.args.session.now in
    let new = g.H.Host.standing c.constant.new.session in
    let dump = c.args.dump.now in
    let may = c.requires.may in
    let name = c.in_ok-constant.field-0 in
    let makes = c.in_ok-constant.ensures.made in
    let items : c.push_reserved.new.self.items ≡ [] ++ name ∷ [] = c.push_reserved.ensures.items ∙ ap (λ (xs : List Name). xs ++ name ∷ []) c.requires.none in
    record {
      own = c.in_ok-constant.ensures.back.own;
      works = makes.works;
      stack = subst (IsStack new) (sym items) (stack_more old new makes.works.more makes.kept [] name (holds_live new name (constant true) makes.holds) makes.newer makes.rows (stack_none old may.none));
      lines = subst (HoldLines new dump) (sym items)
          (lines_more dump new [] name (lines_none dump new) (λ few. holds_as new name (constant true) (line_value dump 1) (sym (one_is dump may.bounded.earlier)) makes.holds));
      long = ap length items;
      room = c.push_reserved.ensures.capacity;
    }

pub make_line-requires-clause-lines : goal.make_line-requires-clause-lines
make_line-requires-clause-lines g c = subst (HoldLines (g.H.Host.standing c.loop-place.session) c.args.dump.now) (sym c.deref.ensures.value) c.loop-place.invariant.lines

pub returns-in_err-name-clause-back : goal.returns-in_err-name-clause-back
returns-in_err-name-clause-back g c =
    let now = c.loop-place.session in
    let new = c.make_line.new.session in
    let back = c.in_err-name.ensures.back in
    let so_far = c.loop-place.invariant in
    let made : List Name = c.loop-place.made.items in
    let p = err_from_is_err_and c.from_residual-in_err-name.result c.from_residual-in_err-name.ensures.1 in
    let stack = stack_same (g.H.Host.standing now) (g.H.Host.standing new) back.works.more back.kept made back.rows so_far.stack in
    rw (p.1, p.2) (stays_refused g.H.Host.has g.H.Host.standing g.H.Host.tells c.args.host.now c.args.session.now now new made c.in_err-name.field-0.0 so_far.works
    (omega (arith, stack.counted, so_far.long, c.loop-place.auto.place-end, ap length c.as_slice-place-end.ensures, c.requires.may.few)) stack back)

pub loop-place-preserved : goal.loop-place-preserved
loop-place-preserved g c =
    let old = g.H.Host.standing c.args.session.now in
    let now = g.H.Host.standing c.loop-place.session in
    let new = g.H.Host.standing c.make_line.new.session in
    let dump = c.args.dump.now in
    let so_far = c.loop-place.invariant in
    let made : List Name = c.loop-place.made.items in
    let place = c.loop-place.place in
    let name = c.in_ok-name.name in
    let makes = c.in_ok-name.ensures.made in
    let f = line_value dump (place + 2) in
    let next : place + 2 ≡ length made + 1 = omega (arith, so_far.long) in
    let items : c.push_reserved-in-loop-place.new.self.items ≡ made ++ name ∷ [] = c.push_reserved-in-loop-place.ensures.items in
    record {
      own = c.in_ok-name.ensures.back.own;
      works = gains_then IsQuiet old now new so_far.works makes.works;
      stack = subst (IsStack new) (sym items) (stack_more now new makes.works.more makes.kept made name (holds_live new name f makes.holds) makes.newer makes.rows so_far.stack);
      lines = subst (HoldLines new dump) (sym items)
          (lines_more dump new made name (lines_later now new makes.works.more makes.kept makes.works.vars_are dump made so_far.lines)
          (λ few. subst (λ i. Holds new name (line_value dump i)) next makes.holds));
      long = omega (arith, ap length items, length-append made (name ∷ []), so_far.long);
      room = c.push_reserved-in-loop-place.ensures.capacity ∙ so_far.room;
    }
