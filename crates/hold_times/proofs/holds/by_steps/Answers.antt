use Rattle.std.proofs.Common.{◌≡◌, ℕ, Bool, false, List, length, replicate, ap, sym, ◌∙◌, refl}
use Rattle.std.proofs.lemmas.List.{length-replicate}
use Rattle.node_slots.specs.Stores.{is_set}
use Rattle.node_slots.proofs.Holding.{no_flags}
use Rattle.node_store.specs.Contents.{Content}
use Rattle.held_table.specs.Tables.{view_of}
use Rattle.hold_times.proofs.holds.by_steps.Goals as goal

pub stepped-table-requires-clause-rest : goal.stepped-table-requires-clause-rest
stepped-table-requires-clause-rest g c =
    let content = c.in_ok-table.ensures.content in
    let limit = c.limit.ensures.limit ∙ sym (ap (λ (w : Content). w.limit) content) in
    let room = c.in_ok-room.ensures in
    record {
      idle = c.in_ok-table.ensures.idle;
      half = ap (λ (w : Content). w.half) content;
      unpinned = λ s. ap (λ (w : Content). w.pinned s) content;
      words = room.words ∙ limit;
      marks = room.marks ∙ limit;
      pins = ap (λ (l : List ℕ). length l) room.pins ∙ length-replicate c.limit.result 0 ∙ limit;
      pins_are = no_flags c.in_ok-room.room.notes.pins c.limit.result room.pins ∙ sym (ap (λ (w : Content). w.pinned) content);
    }
