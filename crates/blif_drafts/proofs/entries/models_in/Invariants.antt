use Rattle.std.proofs.Common.{◌≡◌, ◌++◌, ◌<◌, ℕ, true, false, [], get_or, length}
use Rattle.std.specs.Vec.Iter.{into_iter_items, into_iter_len}
use Rattle.blif_models.specs.Graphs.{is_met}
use Rattle.blif_models.specs.Layouts.{model_at}
use Rattle.blif_models.specs.Numberings.{words_at}
use Rattle.blif_drafts.specs.Entries.{AreEntriesBy}
use Rattle.blif_drafts.proofs.entries.models_in.Given as goal

abbrev pub invariant-loop-own : goal.invariant-loop-own
invariant-loop-own l =
    (l.fn.items.items ≡ l.yielded ++ into_iter_items l.own-iterator) × (length (into_iter_items l.own-iterator) ≡ into_iter_len l.own-iterator) × (length l.models.items ≡ length l.yielded)
    × ((m : ℕ) → m < length l.models.items → (model_at l.models.items m).names ≡ length (words_at l.callees.names.now m))
    × ((m : ℕ) → m < length l.models.items → is_met l.met m ≡ true → AreEntriesBy l.callees (get_or l.calls m []) (get_or l.joined m []) 0 (get_or l.fn.items.items m []) (model_at l.models.items m).entries)
    × ((m : ℕ) → m < length l.models.items → is_met l.met m ≡ false → (model_at l.models.items m).entries ≡ [])
