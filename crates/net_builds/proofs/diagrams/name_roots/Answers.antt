use Rattle.std.proofs.Common.{◌≡◌, ◌<◌, ◌++◌, ◌∷◌, [], ◌∙◌, ℕ, ℤ, Bool, List, ap, arith, get_or, length, length-append, map, pos, refl, subst, sym, take}
use Rattle.std.proofs.Math.Seq.{take-length}
use Rattle.std.proofs.lemmas.List.{map_more}
use Rattle.std.proofs.lemmas.Result.{err_from_is_err_and}
use Rattle.diagram_dumps.specs.Dumps.{root_value}
use Rattle.function_laws.specs.declared.history.Name.{Name}
use Rattle.net_builds.specs.Signals.{AllHold}
use Rattle.net_builds.specs.Standings.{Holds, IsQuiet}
use Rattle.net_builds.proofs.StackLemmas.{all_later, all_more, few_made, stays_refused}
use Rattle.net_builds.proofs.StandingLemmas.{gains_none, gains_then}
use Rattle.net_builds.proofs.diagrams.name_roots.Goals as goal

pub loop-root-init : goal.loop-root-init
loop-root-init g c =
    let s = g.H.Host.standing c.args.session.now in
    record {
      own = c.requires.may.own;
      works = gains_none IsQuiet s;
      turned_are = c.requires.may.turned_are;
      hold = subst (AllHold s []) (sym c.requires.none) tt;
      room = refl;
      place = refl;
      named = ap length c.requires.none;
    }

pub returns-in_err-name-clause-back : goal.returns-in_err-name-clause-back
returns-in_err-name-clause-back g c =
    let new = c.root_row.new.session in
    let turned = c.in_err-name.ensures.turned in
    let p = err_from_is_err_and c.from_residual.result c.from_residual.ensures.1 in
    let few = few_made c.args.dump.now (g.H.Host.standing new) c.root_row.new.made.items c.root_row.new.turned turned in
    rw (p.1, p.2) (stays_refused g.H.Host.has g.H.Host.standing g.H.Host.tells c.args.host.now c.args.session.now c.loop-root.session new c.root_row.new.made.items c.in_err-name.field-0.0
    c.loop-root.invariant.works (omega (arith, few, turned.stack.counted, c.requires.may.few)) turned.stack c.in_err-name.ensures.back)

pub loop-root-preserved : goal.loop-root-preserved
loop-root-preserved g c =
    let old = g.H.Host.standing c.args.session.now in
    let now = g.H.Host.standing c.loop-root.session in
    let new = g.H.Host.standing c.root_row.new.session in
    let dump = c.args.dump.now in
    let so_far = c.loop-root.invariant in
    let names : List Name = c.loop-root.names.items in
    let i = c.loop-root.root-index in
    let name = c.in_ok-name.name in
    let back = c.in_ok-name.ensures.back in
    let items : c.push_reserved.new.self.items ≡ names ++ name ∷ [] = c.push_reserved.ensures.items in
    let inside : i < length dump.roots = omega (arith, c.loop-root-test.true, ap length c.as_slice-root-items.ensures) in
    let root : Holds new name (root_value dump (get_or dump.roots i (pos 0))) =
    subst (λ (roots : List ℤ). Holds new name (root_value dump (get_or roots i (pos 0)))) c.as_slice-root-items.ensures c.in_ok-name.ensures.held in
    record {
      own = back.own;
      works = gains_then IsQuiet old now new so_far.works back.works;
      turned_are = c.in_ok-name.ensures.turned;
      hold = subst (λ (fs : List (ℕ → Bool)). AllHold new fs c.push_reserved.new.self.items) (sym (map_more (root_value dump) dump.roots i (pos 0) inside))
          (subst (AllHold new (map (root_value dump) (take i dump.roots) ++ root_value dump (get_or dump.roots i (pos 0)) ∷ [])) (sym items)
          (all_more new (map (root_value dump) (take i dump.roots)) names (root_value dump (get_or dump.roots i (pos 0))) name
          (all_later now new back.works.more back.kept back.works.vars_are (map (root_value dump) (take i dump.roots)) names so_far.hold) root));
      room = c.in_ok-name.ensures.room ∙ so_far.room;
      place = c.push_reserved.ensures.capacity ∙ so_far.place;
      named = omega (arith, ap length items, length-append names (name ∷ []), so_far.named);
    }

pub returns-clause-held : goal.returns-clause-held
returns-clause-held g c =
    let dump = c.args.dump.now in
    let now = g.H.Host.standing c.loop-root.session in
    let end : c.loop-root.root-index ≡ length dump.roots = omega (arith, c.loop-root.auto.root-index-end, c.loop-root-test.false, ap length c.as_slice-root-items.ensures) in
    subst (λ (roots : List ℤ). AllHold now (map (root_value dump) roots) c.loop-root.names.items) (ap (λ i. take i dump.roots) end ∙ take-length dump.roots) c.loop-root.invariant.hold

pub returns-clause-back : goal.returns-clause-back
returns-clause-back g c =
    let now = c.loop-root.session in
    let so_far = c.loop-root.invariant in
    let few = few_made c.args.dump.now (g.H.Host.standing now) c.loop-root.made.items c.loop-root.turned so_far.turned_are in
    record { own = so_far.own; works = so_far.works; room = omega (arith, few, so_far.turned_are.stack.counted, c.requires.may.few); stack = so_far.turned_are.stack; caused = tt }
