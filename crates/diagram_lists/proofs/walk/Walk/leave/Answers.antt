use Rattle.std.proofs.Common.{rules, ◌≡◌, ◌+◌, ◌++◌, ◌∷◌, [], List, ℕ, ap, sym, subst, arith, length, set}
use Rattle.std.proofs.lemmas.Grind.{common_steps, elements}
use Rattle.std.proofs.lemmas.List.{length_push}
use Rattle.edge_bits.specs.declared.edges.Line.{Line}
use Rattle.diagram_lists.specs.Walks.{IsNumbering, line_of, next}
use Rattle.diagram_lists.proofs.Numberings.{left}
use Rattle.diagram_lists.proofs.walk.Walk.leave.Goals as goal

pub returns-clause-walk : goal.returns-clause-walk
returns-clause-walk c =
    let old = c.args.self.now in
    let numbers = old.numbers.items in
    let slot = c.args.slot in
    let line = line_of numbers c.args.node.now in
    let lines_is : c.push.new.self ≡ old.lines ++ line ∷ [] = search rules in
    let value : next old.lines ≡ c.len.result + 1 = omega (arith, c.len.ensures, ap (λ (ls : List Line). length ls) lines_is, length_push old.lines line) in
    subst (λ (v : ℕ). IsNumbering c.args.store.now (set numbers slot v) c.push.new.self) value
    (subst (λ (ls : List Line). IsNumbering c.args.store.now (set numbers slot (next old.lines)) ls) (sym lines_is)
    (left c.args.store.now c.requires.store numbers old.lines slot c.args.node.now c.requires.walk c.requires.open c.requires.hi c.requires.lo))

pub returns-clause-numbers : goal.returns-clause-numbers
returns-clause-numbers c =
    let old = c.args.self.now in
    let line = line_of old.numbers.items c.args.node.now in
    let lines_is : c.push.new.self ≡ old.lines ++ line ∷ [] = search rules in
    let value : c.len.result + 1 ≡ next old.lines = omega (arith, c.len.ensures, ap (λ (ls : List Line). length ls) lines_is, length_push old.lines line) in
    ap (set old.numbers.items c.args.slot) value

pub index_mut-requires : goal.index_mut-requires
index_mut-requires c = grind (arith, common_steps)

pub index_of-requires-clause-small : goal.index_of-requires-clause-small
index_of-requires-clause-small c = grind (arith, elements)

pub index_of-requires-clause-within : goal.index_of-requires-clause-within
index_of-requires-clause-within c = grind (arith, common_steps)

pub number-requires : goal.number-requires
number-requires c = grind (arith, common_steps)

pub overflow_add-len : goal.overflow_add-len
overflow_add-len c = grind (arith, common_steps)

pub overflow_cast-len : goal.overflow_cast-len
overflow_cast-len c = grind (arith, common_steps)
