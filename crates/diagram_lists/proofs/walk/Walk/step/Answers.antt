use Rattle.std.proofs.Common.{rules, ◌≡◌, ◌∙◌, ◌<◌, ◌++◌, ◌∷◌, [], List, ℕ, sym, subst, arith, set}
use Rattle.std.proofs.lemmas.Grind.{common_steps}
use Rattle.edge_bits.specs.declared.edges.Line.{Line}
use Rattle.diagram_lists.specs.Walks.{Extends, IsOnWay, line_of, next, steps_left}
use Rattle.diagram_lists.proofs.Numberings.{left_extends}
use Rattle.diagram_lists.proofs.Paths.{back, down, down_fewer, open_at, popped}
use Rattle.diagram_lists.proofs.Slots.{inside, stands}
use Rattle.diagram_lists.proofs.walk.Walk.step.Goals as goal

pub node_in-node-requires : goal.node_in-node-requires
node_in-node-requires c =
    let w = c.args.self.now in let r = c.requires in
    let o = open_at c.args.store.now r.store w.numbers.items w.lines r.walk r.way.0 r.way.1 w.stack.items r.top.0 c.args.slot r.top.1 r.way.2 in
    (o.0, o.1.word)

pub open_child-requires-clause-hi : goal.open_child-requires-clause-hi
open_child-requires-clause-hi c =
    let p = c.args.store.now in let w = c.args.self.now in let r = c.requires in let node = c.node_in-node.result in
    let o = open_at p r.store w.numbers.items w.lines r.walk r.way.0 r.way.1 w.stack.items r.top.0 c.args.slot r.top.1 r.way.2 in
    let s = stands p r.store c.args.slot node c.node_in-node.ensures o.1.is_bdd in
    let lt = inside p r.store node.hi s.hi_is in
    omega (arith, lt, r.walk.as_many)

pub open_child-requires-clause-lo : goal.open_child-requires-clause-lo
open_child-requires-clause-lo c =
    let p = c.args.store.now in let w = c.args.self.now in let r = c.requires in let node = c.node_in-node.result in
    let o = open_at p r.store w.numbers.items w.lines r.walk r.way.0 r.way.1 w.stack.items r.top.0 c.args.slot r.top.1 r.way.2 in
    let s = stands p r.store c.args.slot node c.node_in-node.ensures o.1.is_bdd in
    let lt = inside p r.store node.lo.index s.lo_is in
    omega (arith, lt, r.walk.as_many)

pub leave-requires-clause-open : goal.leave-requires-clause-open
leave-requires-clause-open c =
    let w = c.args.self.now in let r = c.requires in
    let o = open_at c.args.store.now r.store w.numbers.items w.lines r.walk r.way.0 r.way.1 w.stack.items r.top.0 c.args.slot r.top.1 r.way.2 in
    record { word = c.node_in-node.ensures; is_bdd = o.1.is_bdd; fresh = o.1.fresh }

pub returns-in_ok-push-in-Some-clause-way : goal.returns-in_ok-push-in-Some-clause-way
returns-in_ok-push-in-Some-clause-way c = λ start root way.
    let p = c.args.store.now in let w = c.args.self.now in let r = c.requires in let child = c.in-Some.child in
    let grown : c.push.new.self.items ≡ w.stack.items ++ child ∷ [] = search rules in
    subst (λ (stack : List ℕ). IsOnWay p w.numbers.items w.lines start root stack) (sym grown)
    (down p r.store w.numbers.items w.lines r.walk start root w.stack.items r.top.0 c.args.slot child c.node_in-node.result r.top.1 c.node_in-node.ensures
    c.in-Some.ensures.some.0 c.in-Some.ensures.some.1 way)

pub returns-in_ok-push-in-Some-clause-fewer : goal.returns-in_ok-push-in-Some-clause-fewer
returns-in_ok-push-in-Some-clause-fewer c =
    let p = c.args.store.now in let w = c.args.self.now in let r = c.requires in let child = c.in-Some.child in
    let grown : c.push.new.self.items ≡ w.stack.items ++ child ∷ [] = search rules in
    subst (λ (stack : List ℕ). steps_left p w.numbers.items stack < steps_left p w.numbers.items w.stack.items) (sym grown)
    (down_fewer p r.store w.numbers.items w.lines r.walk r.way.0 r.way.1 w.stack.items r.top.0 c.args.slot child r.top.1 r.way.2)

pub returns-in_ok-leave-in-None-clause-extended : goal.returns-in_ok-leave-in-None-clause-extended
returns-in_ok-leave-in-None-clause-extended c =
    let w = c.args.self.now in let r = c.requires in let node = c.node_in-node.result in
    let o = open_at c.args.store.now r.store w.numbers.items w.lines r.walk r.way.0 r.way.1 w.stack.items r.top.0 c.args.slot r.top.1 r.way.2 in
    let e = c.in_ok-leave-in-None.ensures in
    subst (λ (ns : List ℕ). Extends w.numbers.items ns w.lines c.leave.new.self.lines) (sym e.numbers)
    (subst (λ (ls : List Line). Extends w.numbers.items (set w.numbers.items c.args.slot (next w.lines)) w.lines ls) (sym e.lines)
    (left_extends w.numbers.items w.lines c.args.slot (next w.lines) (line_of w.numbers.items node) o.1.fresh))

pub returns-in_ok-leave-in-None-clause-way : goal.returns-in_ok-leave-in-None-clause-way
returns-in_ok-leave-in-None-clause-way c = λ start root way.
    let p = c.args.store.now in let w = c.args.self.now in let r = c.requires in let node = c.node_in-node.result in
    let e = c.in_ok-leave-in-None.ensures in
    let numbers = w.numbers.items in
    let lines = w.lines ++ line_of numbers node ∷ [] in
    let stack_is : c.pop-slot.new.self.items ≡ r.top.0 =
    popped r.top.0 c.pop-slot.new.self.items c.leave.new.self.stack.items c.args.slot _ (e.stack ∙ r.top.1) c.pop-slot.ensures.rest (search rules) in
    subst (λ (stack : List ℕ). IsOnWay p c.leave.new.self.numbers.items c.leave.new.self.lines start root stack) (sym stack_is)
    (subst (λ (ns : List ℕ). IsOnWay p ns c.leave.new.self.lines start root r.top.0) (sym e.numbers)
    (subst (λ (ls : List Line). IsOnWay p (set numbers c.args.slot (next w.lines)) ls start root r.top.0) (sym e.lines)
    (back p r.store numbers w.lines r.walk start root w.stack.items r.top.0 c.args.slot node r.top.1 c.node_in-node.ensures
    c.in-None.ensures.none.0 c.in-None.ensures.none.1 way)))

pub returns-in_ok-leave-in-None-clause-fewer : goal.returns-in_ok-leave-in-None-clause-fewer
returns-in_ok-leave-in-None-clause-fewer c = grind (arith, common_steps)

pub returns-in_ok-leave-in-None-clause-walk : goal.returns-in_ok-leave-in-None-clause-walk
returns-in_ok-leave-in-None-clause-walk c = grind (arith, common_steps)
