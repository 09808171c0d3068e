use Rattle.std.proofs.Common.{ap, subst, sym, ◌∙◌, rules}
use Rattle.edge_bits.specs.declared.edges.Kind.TheVariants.{Bdd}
use Rattle.node_store.specs.Edges.{flip_if}
use Rattle.node_store.specs.Views.{Denotes}
use Rattle.ite_core.proofs.Complements.{Is-flip}
use Rattle.ite_core.proofs.TripleLaws.{SameAnswer-known, SameAnswer-reduced, equal_functions, two_constants, equal_edges, unequal_edges}
use Rattle.ite_core.proofs.triples.reduce.Goals as goal

pub returns-then-eq : goal.returns-then-eq
returns-then-eq c = λ w p d.
    let s = SameAnswer-known w c.args.f c.args.g c.args.h c.flip_if-not_f.result _ _ c.flip_if-not_f.ensures d (c.known_where-then.ensures w p d.condition d.first)
    (c.known_where-other.ensures w p (Is-flip w c.args.f _ c.flip_if-not_f.ensures d.condition) d.second) in
    subst (λ x. Denotes Bdd w c.known_where-then.result x) s.same (equal_functions w c.args.f _ _ (equal_edges _ _ (c.if-eq.ensures)) s.three)

pub returns-then-index-eq-TRUE_SLOT-3 : goal.returns-then-index-eq-TRUE_SLOT-3
returns-then-index-eq-TRUE_SLOT-3 c = λ w p d.
    let s = SameAnswer-known w c.args.f c.args.g c.args.h c.flip_if-not_f.result _ _ c.flip_if-not_f.ensures d (c.known_where-then.ensures w p d.condition d.first)
    (c.known_where-other.ensures w p (Is-flip w c.args.f _ c.flip_if-not_f.ensures d.condition) d.second) in
    subst (λ x. Denotes Bdd w c.flip_if.result x) s.same (two_constants w p c.args.f _ _ c.flip_if.result (sym c.index-2.ensures ∙ c.if-index-eq-TRUE_SLOT-2.true) (sym c.index-then-index-eq-TRUE_SLOT-2.ensures ∙ c.if-index-eq-TRUE_SLOT-3.true) (unequal_edges _ _ (c.if-eq.ensures)) (c.flip_if.ensures ∙ ap (λ b. flip_if b c.args.f) c.complement-then-index-eq-TRUE_SLOT-3.ensures) s.three)

pub returns : goal.returns
returns c = λ w p d.
    let s = SameAnswer-known w c.args.f c.args.g c.args.h c.flip_if-not_f.result _ _ c.flip_if-not_f.ensures d (c.known_where-then.ensures w p d.condition d.first)
    (c.known_where-other.ensures w p (Is-flip w c.args.f _ c.flip_if-not_f.ensures d.condition) d.second) in
    SameAnswer-reduced w c.args.f c.args.g c.args.h _ _ _ s c.in_order.result (c.in_order.ensures w s.three)

pub returns-then-index-eq-TRUE_SLOT : goal.returns-then-index-eq-TRUE_SLOT
returns-then-index-eq-TRUE_SLOT c = search (rules, c.requires)
