use Rattle.std.proofs.Common.{sym, ap, ◌∙◌, subst}
use Rattle.node_store.specs.declared.grow.Opened.{Opened}
use Rattle.node_store.specs.Contents.{opened_of}
use Rattle.node_store.specs.Views.{Opens, values_at}
use Rattle.step_store.specs.Knowing.{IsMet}
use Rattle.step_store.proofs.Passing.{none_some}
use Rattle.step_store.proofs.Opened.{edge_met, edge_opens}
use Rattle.step_store.proofs.opening.open.Goals as goal

pub unreachable-requires : goal.unreachable-requires
unreachable-requires g c =
    let k = g.S.Steps.known c.args.seat.now in
    let u = c.load_node.ensures.used (subst (λ s. IsMet k s) (sym c.index.ensures) (edge_met k c.args.edge c.requires.edge)) in none_some u.0 (sym c.in-None.is ∙ c.unpack.ensures.value ∙ u.1)

pub returns-clause-opens : goal.returns-clause-opens
returns-clause-opens g c = λ k is.
    let old = g.S.Steps.known c.args.seat.now in
    let new = g.S.Steps.known c.load_node.new.self in
    subst (λ (o : Opened). Opens k new.view c.args.edge (values_at k old.view c.args.edge) o) (sym (c.opened.ensures ∙ ap (opened_of c.in-Some.word) c.complement.ensures))
    (edge_opens old new c.index.result c.load_node.result c.in-Some.word c.args.edge c.load_node.ensures.learns (c.load_node.ensures.meets c.in-Some.word (sym c.unpack.ensures.value ∙ c.in-Some.is)) (sym c.index.ensures) k is)
