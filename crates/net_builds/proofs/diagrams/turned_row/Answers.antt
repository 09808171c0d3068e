use Rattle.std.proofs.Common.{◌≡◌, ◌-◌, Some, List, Option, arith, subst, sym}
use Rattle.std.specs.Prelude.{slice_get, slice_set}
use Rattle.function_laws.specs.declared.history.Name.{Name}
use Rattle.net_builds.specs.Loads.{IsTurned}
use Rattle.diagram_dumps.specs.Dumps.{line_value}
use Rattle.net_builds.proofs.BackLemmas.{comes_none}
use Rattle.net_builds.proofs.StackLemmas.{few_made, fewer_made, line_row, turned_later, turned_more}
use Rattle.net_builds.proofs.diagrams.turned_row.Goals as goal

pub returns-in-Some-clause-held : goal.returns-in-Some-clause-held
returns-in-Some-clause-held g c = c.requires.may.turned_are.complements c.args.index c.in-Some.name c.in-Some.is

pub returns-in-Some-clause-back : goal.returns-in-Some-clause-back
returns-in-Some-clause-back g c = comes_none g.H.Host.has g.H.Host.standing g.H.Host.tells c.args.host.now c.args.session.now c.in-Some.name c.requires.may.own

pub complement-requires-clause-may : goal.complement-requires-clause-may
complement-requires-clause-may g c =
    let may = c.requires.may in
    let few = few_made c.args.dump.now (g.H.Host.standing c.args.session.now) c.args.made.now.items c.args.turned.now may.turned_are in
    record { own = may.own; room = omega (arith, may.few, few, may.turned_are.stack.counted) }

pub returns-in_err-name-clause-turned : goal.returns-in_err-name-clause-turned
returns-in_err-name-clause-turned g c =
    let back = c.in_err-name.ensures.back in
    turned_later (g.H.Host.standing c.args.session.now) (g.H.Host.standing c.complement.new.session) back.works.more back.kept back.works.vars_are c.args.dump.now c.args.made.now.items c.args.turned.now
    back.rows c.requires.may.turned_are

pub push_reserved-requires : goal.push_reserved-requires
push_reserved-requires g c =
    let fewer = fewer_made c.args.dump.now (g.H.Host.standing c.args.session.now) c.args.made.now.items c.args.turned.now c.args.index c.in_ok-name.name c.requires.may.turned_are c.requires.within c.in_default.is in
    omega (arith, c.args.made.now.ok.0, fewer, c.requires.room)

pub returns-clause-held : goal.returns-clause-held
returns-clause-held g c =
    let old = g.H.Host.standing c.args.session.now in
    let made : List Name = c.args.made.now.items in
    let index = c.args.index in
    let row = c.row_of.result in
    let at = subst (λ (l : List Name). slice_get l (index - 1) ≡ Some row) c.deref.ensures.value c.row_of.ensures in
    let f = line_value c.args.dump.now index in
    (c.in_ok-name.ensures.made f (line_row old c.args.dump.now made index row c.requires.from_one c.requires.within at c.requires.may.turned_are.lines)).holds

pub returns-clause-turned : goal.returns-clause-turned
returns-clause-turned g c =
    let old = g.H.Host.standing c.args.session.now in
    let new = g.H.Host.standing c.complement.new.session in
    let dump = c.args.dump.now in
    let made : List Name = c.args.made.now.items in
    let turned : List (Option Name) = c.args.turned.now in
    let index = c.args.index in
    let row = c.row_of.result in
    let name = c.in_ok-name.name in
    let at = subst (λ (l : List Name). slice_get l (index - 1) ≡ Some row) c.deref.ensures.value c.row_of.ensures in
    let makes = c.in_ok-name.ensures.made (line_value dump index) (line_row old dump made index row c.requires.from_one c.requires.within at c.requires.may.turned_are.lines) in
    let back = c.in_ok-name.ensures.back in
    subst (λ (l : List Name). IsTurned new dump l (slice_set turned index (Some name))) (sym c.push_reserved.ensures.items)
    (turned_more dump old new made turned index name back.works.more back.kept back.works.vars_are c.requires.within c.in_default.is makes.holds makes.newer back.few c.requires.may.turned_are)
