use Rattle.std.proofs.Common.{◌∙◌, ap, sym}
use Rattle.node_store.specs.Contents.{is_node_of, nodes_of}
use Rattle.node_slots.specs.Taking.{nodes_of as nodes_in}
use Rattle.node_slots.specs.Held.{Held, held_view}
use Rattle.node_slots.proofs.Looking.{count_words}
use Rattle.node_slots.proofs.held_store.HeldStoreWhole.nodes_of.Goals as goal

pub returns-clause-nodes : goal.returns-clause-nodes
returns-clause-nodes c =
    c.nodes_of.ensures ∙ ap (λ (h : Held). nodes_in h.plain.words c.number_at-var.result) c.self.view_is
    ∙ sym (count_words c.args.self.now.plain (is_node_of c.number_at-var.result)) ∙ ap (nodes_of (held_view c.args.self.now)) c.number_at-var.ensures.number
