use Rattle.std.proofs.Common.{rules, ◌≡◌, ◌≤◌, ◌∷◌, [], List, ℕ, sym, subst, arith}
use Rattle.std.proofs.lemmas.Grind.{common_steps}
use Rattle.diagram_lists.specs.Walks.{IsOnWay, next, number}
use Rattle.diagram_lists.proofs.Numberings.{Extends-refl, Extends-trans, number_below}
use Rattle.diagram_lists.proofs.Paths.{already, sets_out}
use Rattle.diagram_lists.proofs.Slots.{inside}
use Rattle.diagram_lists.proofs.walk.Walk.walk_from.Goals as goal

pub number-requires : goal.number-requires
number-requires c =
    let lt = inside c.args.store.now c.requires.store c.args.root c.requires.root in
    omega (arith, lt, c.requires.walk.as_many)

pub returns-then-number-ne0-clause-leads : goal.returns-then-number-ne0-clause-leads
returns-then-number-ne0-clause-leads c =
    let w = c.args.self.now in
    let has : 1 ≤ number w.numbers.items c.args.root = search rules in
    already w.lines (next w.lines) (number w.numbers.items c.args.root) has (number_below c.args.store.now w.numbers.items w.lines c.requires.walk c.args.root)

pub loop-slot-init : goal.loop-slot-init
loop-slot-init c =
    let w = c.args.self.now in let r = c.requires in
    let none : number w.numbers.items c.args.root ≡ 0 = search rules in
    let grown : c.push.new.self.items ≡ c.args.root ∷ [] = search rules in
    record {
      walk = r.walk;
      extended = Extends-refl w.numbers.items w.lines;
      way = subst (λ (stack : List ℕ). IsOnWay c.args.store.now w.numbers.items w.lines (next w.lines) c.args.root stack) (sym grown)
          (sets_out c.args.store.now r.store w.numbers.items w.lines r.walk c.args.root r.root none);
    }

pub loop-slot-preserved : goal.loop-slot-preserved
loop-slot-preserved c =
    let e = c.in_ok-step.ensures in let i = c.loop-slot.invariant in
    record { walk = e.walk; extended = Extends-trans i.extended e.extended; way = e.way (next c.args.self.now.lines) c.args.root i.way }

pub returns-clause-has : goal.returns-clause-has
returns-clause-has c = grind (arith, common_steps)

pub returns-clause-leads : goal.returns-clause-leads
returns-clause-leads c = grind (arith, common_steps)
