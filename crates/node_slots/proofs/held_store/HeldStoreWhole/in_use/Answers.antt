use Rattle.std.proofs.Common.{◌∙◌, ap, sym}
use Rattle.std.specs.List.{count_by}
use Rattle.node_store.specs.Contents.{is_used}
use Rattle.node_slots.specs.Held.{Held}
use Rattle.node_slots.specs.Stores.{is_word}
use Rattle.node_slots.proofs.Looking.{count_words}
use Rattle.node_slots.proofs.held_store.HeldStoreWhole.in_use.Goals as goal

pub returns-clause-in_use : goal.returns-clause-in_use
returns-clause-in_use c = c.in_use.ensures.count ∙ ap (λ (h : Held). count_by is_word h.plain.words) c.self.view_is ∙ sym (count_words c.args.self.now.plain is_used)
