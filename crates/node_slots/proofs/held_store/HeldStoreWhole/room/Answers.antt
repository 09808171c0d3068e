use Rattle.std.proofs.Common.{length, ap, ◌∙◌, arith}
use Rattle.std.proofs.lemmas.Grind.{common_steps}
use Rattle.std.specs.List.{count_by}
use Rattle.std.proofs.lemmas.List.Sums.{count_by-le-length}
use Rattle.node_store.specs.Contents.{is_used}
use Rattle.node_slots.specs.Held.{Held}
use Rattle.node_slots.specs.Stores.{is_word}
use Rattle.node_slots.proofs.Looking.{count_words}
use Rattle.node_slots.proofs.held_store.HeldStoreWhole.room.Goals as goal

pub returns-clause-room : goal.returns-clause-room
returns-clause-room c =
    let words = c.args.self.now.plain.words in
    let used = c.in_use.ensures.count ∙ ap (λ (h : Held). count_by is_word h.plain.words) c.self.view_is in
    let counted = count_words c.args.self.now.plain is_used in
    let all = c.limit.ensures.limit ∙ ap (λ (h : Held). length h.plain.words) c.self.view_is in
    let few = count_by-le-length is_word words in
    omega (arith, used, counted, all, few)

pub overflow_sub-result : goal.overflow_sub-result
overflow_sub-result c = grind (arith, common_steps)
