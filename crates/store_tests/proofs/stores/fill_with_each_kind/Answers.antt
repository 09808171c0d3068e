use Rattle.std.proofs.Common.{◌≡◌, ◌∙◌, pos, arith}
use Rattle.edge_bits.specs.declared.edges.Kind.TheVariants.{Add, Zdd}
use Rattle.node_slots.specs.Stores.{plain_view}
use Rattle.node_store.specs.ViewLaws.{Denotes-grown, Grown-trans, Is-from, Is-grown, Permanent-grown}
use Rattle.store_tests.proofs.StoreLemmas.{can_make_numbers, can_make_single, denotes_zero}
use Rattle.store_tests.proofs.stores.fill_with_each_kind.Goals as goal

pub make-requires : goal.make-requires
make-requires g c =
    let w = plain_view c.tell_permanent.new.store in
    let w1 = plain_view c.leaf.new.self in
    let vars : w1.vars ≡ 1 = c.leaf.ensures.grown.vars ∙ c.tell_permanent.ensures.kept.grown.vars ∙ c.requires.vars in
    let zero = Denotes-grown Add c.leaf.ensures.grown (denotes_zero w c.number_zero-zero.result c.tell_permanent.ensures.permanent c.number_zero-zero.ensures) in
    let numbers = can_make_numbers w1 c.in-Ok.leaf c.number_zero-zero.result (pos 21) (pos 0) (omega (arith, vars)) c.in-Ok.ensures.ok zero in
    (Add, numbers)

pub make-requires-2 : goal.make-requires-2
make-requires-2 g c =
    let w = plain_view c.tell_permanent.new.store in
    let w2 = plain_view c.make.new.self in
    let grown = Grown-trans c.leaf.ensures.grown c.make.ensures.grown in
    let elements : w2.elements ≡ 1 = grown.elements ∙ c.tell_permanent.ensures.kept.grown.elements ∙ c.requires.elements in
    let single = can_make_single w2 c.base_family-base.result c.empty_family-empty.result (Permanent-grown grown c.tell_permanent.ensures.permanent) (omega (arith, elements)) c.base_family-base.ensures c.empty_family-empty.ensures in
    (Zdd, single)

pub open-requires : goal.open-requires
open-requires g c =
    let w = plain_view c.tell_permanent.new.store in
    let w1 = plain_view c.leaf.new.self in
    let vars : w1.vars ≡ 1 = c.leaf.ensures.grown.vars ∙ c.tell_permanent.ensures.kept.grown.vars ∙ c.requires.vars in
    let zero = Denotes-grown Add c.leaf.ensures.grown (denotes_zero w c.number_zero-zero.result c.tell_permanent.ensures.permanent c.number_zero-zero.ensures) in
    let numbers = can_make_numbers w1 c.in-Ok.leaf c.number_zero-zero.result (pos 21) (pos 0) (omega (arith, vars)) c.in-Ok.ensures.ok zero in
    (Add, Is-grown Add c.make-2.ensures.grown (Is-from Add (c.in-Ok-make.ensures.ok Add numbers)))

pub open-requires-2 : goal.open-requires-2
open-requires-2 g c =
    let w = plain_view c.tell_permanent.new.store in
    let w2 = plain_view c.make.new.self in
    let grown = Grown-trans c.leaf.ensures.grown c.make.ensures.grown in
    let elements : w2.elements ≡ 1 = grown.elements ∙ c.tell_permanent.ensures.kept.grown.elements ∙ c.requires.elements in
    let single = can_make_single w2 c.base_family-base.result c.empty_family-empty.result (Permanent-grown grown c.tell_permanent.ensures.permanent) (omega (arith, elements)) c.base_family-base.ensures c.empty_family-empty.ensures in
    (Zdd, Is-grown Zdd c.open.ensures.kept.grown (Is-from Zdd (c.in-Ok-make-2.ensures.ok Zdd single)))
