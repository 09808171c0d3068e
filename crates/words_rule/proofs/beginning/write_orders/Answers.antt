use Rattle.std.proofs.Common.{◌≡◌, ◌+◌, arith}
use Rattle.words_rule.specs.Layout.{places}
use Rattle.words_rule.specs.Shapes.{shape_by}
use Rattle.words_rule.proofs.NewTables.{numbered}
use Rattle.words_rule.proofs.beginning.write_orders.Goals as goal

pub returns-clause-orders : goal.returns-clause-orders
returns-clause-orders c =
    let first : c.turn-first.result + 1 ≡ 7 + places (shape_by c.args.sizes.now) = let e = c.turn-first.ensures in omega (arith, e) in
    (numbered (shape_by c.args.sizes.now) c.args.words.now.items c.number_from.new.words.items c.number_from-2.new.words.items c.number_from-3.new.words.items c.number_from-4.new.words.items (c.turn-first.result + 1) first c.requires.empty
    c.number_from.ensures.numbered c.number_from.ensures.others c.number_from-2.ensures.numbered c.number_from-2.ensures.others c.number_from-3.ensures.numbered c.number_from-3.ensures.others c.number_from-4.ensures.numbered c.number_from-4.ensures.others).0

pub returns-clause-empty : goal.returns-clause-empty
returns-clause-empty c =
    let first : c.turn-first.result + 1 ≡ 7 + places (shape_by c.args.sizes.now) = let e = c.turn-first.ensures in omega (arith, e) in
    (numbered (shape_by c.args.sizes.now) c.args.words.now.items c.number_from.new.words.items c.number_from-2.new.words.items c.number_from-3.new.words.items c.number_from-4.new.words.items (c.turn-first.result + 1) first c.requires.empty
    c.number_from.ensures.numbered c.number_from.ensures.others c.number_from-2.ensures.numbered c.number_from-2.ensures.others c.number_from-3.ensures.numbered c.number_from-3.ensures.others c.number_from-4.ensures.numbered c.number_from-4.ensures.others).1
