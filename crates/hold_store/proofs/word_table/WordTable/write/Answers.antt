use Rattle.std.proofs.Common.{◌≡◌, ◌<◌, ℕ, ◌≤◌, List, length, set, ap, sym, ◌∙◌, subst, arith}
use Rattle.std.proofs.lemmas.Grind.{same_number_lists}
use Rattle.level_table.specs.Slotted.{padded}
use Rattle.level_table.proofs.Slots.{length-padded, read_padded, set-padded}
use Rattle.hold_store.proofs.word_table.WordTable.write.Goals as goal

pub returns : goal.returns
returns c =
    let slots = c.self.inside.slots in
    let old = c.self.inside.words.items in
    let new = c.extend.new.words.items in
    let e = c.extend.ensures in
    let long = length-padded slots old c.self.invariant.within in
    let slot_in : c.args.slot < slots = (let r = subst (λ (xs : List ℕ). c.args.slot < length xs) (sym c.self.view_is) c.requires in omega (arith, r, long)) in
    let fits : length new ≤ slots = (let w = e.within in let i = c.self.invariant.within in omega arith) in
    let same : padded slots new ≡ padded slots old = same_number_lists (padded slots new) (padded slots old) (length-padded slots new fits ∙ sym long)
    (λ s lt. read_padded slots new s ∙ e.same s ∙ sym (read_padded slots old s)) in
    set-padded slots new c.args.slot c.args.word e.reaches ∙ ap (λ xs. set xs c.args.slot c.args.word) (same ∙ c.self.view_is)
