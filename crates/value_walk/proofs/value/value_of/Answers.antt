use Rattle.std.proofs.Common.{◌≡◌, ◌∙◌, ap, length, pos, sym, subst, rules, SFits, w64}
use Rattle.std.proofs.lemmas.Int.{to_z-of_z}
use mir.Val.{of_z, to_z}
use Rattle.edge_bits.specs.declared.edges.Kind.{Kind}
use Rattle.edge_bits.specs.Words.{digit}
use Rattle.function_laws.specs.Values.{assignment_of}
use Rattle.node_store.specs.Listed.{number_of}
use Rattle.node_store.specs.Views.{Is, levels, values_at}
use Rattle.value_walk.proofs.WalkingLemmas.{branches_on_variables, digit_of, walk-levels}
use Rattle.value_walk.proofs.value.value_of.Goals as goal

pub value_at-requires-clause-edge : goal.value_at-requires-clause-edge
value_at-requires-clause-edge g c = (c.args.kind, (branches_on_variables c.args.kind c.in_default.not-Zdd, c.requires.edge))

pub value_at-requires-clause-bits : goal.value_at-requires-clause-bits
value_at-requires-clause-bits g c = c.requires.bits ∙ walk-levels c.args.kind (g.G.Grow.view c.args.store.now) (branches_on_variables c.args.kind c.in_default.not-Zdd)

pub contains-requires-clause-family : goal.contains-requires-clause-family
contains-requires-clause-family g c = subst (λ (j : Kind). Is j (g.G.Grow.view c.args.store.now) c.args.edge) c.in-Zdd.is c.requires.edge

pub contains-requires-clause-bits : goal.contains-requires-clause-bits
contains-requires-clause-bits g c = subst (λ (j : Kind). length c.args.bits.now ≡ levels j (g.G.Grow.view c.args.store.now)) c.in-Zdd.is c.requires.bits

pub returns-in_default-clause-value : goal.returns-in_default-clause-value
returns-in_default-clause-value g c =
    let fit : SFits w64 c.value_at.result = search rules in
    to_z-of_z w64 c.value_at.result fit ∙ c.value_at.ensures.value c.args.kind (branches_on_variables c.args.kind c.in_default.not-Zdd, c.requires.edge)

pub returns-in-Zdd-clause-value : goal.returns-in-Zdd-clause-value
returns-in-Zdd-clause-value g c =
    let fit : SFits w64 c.from.result = search rules in
    subst (λ (j : Kind). to_z w64 (of_z w64 c.from.result) ≡ number_of j (values_at j (g.G.Grow.view c.args.store.now) c.args.edge (assignment_of c.args.bits.now))) (sym c.in-Zdd.is)
    (to_z-of_z w64 c.from.result fit ∙ c.from.ensures ∙ ap pos (digit_of c.contains.result) ∙ ap (λ b. pos (digit b)) c.contains.ensures.member)
