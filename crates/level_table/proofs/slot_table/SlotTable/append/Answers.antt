use Rattle.std.proofs.Common.{◌≡◌, ◌<◌, ◌∙◌, ◌++◌, ◌∷◌, [], length, take, drop, ap, sym, subst, set, arith}
use Rattle.std.proofs.lemmas.Grind.{common_steps}
use Rattle.std.proofs.Math.Seq.{take-append_seam}
use Rattle.std.proofs.lemmas.List.{length_push}
use Rattle.level_table.specs.Slotted.{Slotted, AreSlots, padded}
use Rattle.level_table.proofs.Slots.{length-padded, padded-more, slots_more}
use Rattle.level_table.proofs.slot_table.SlotTable.append.Goals as goal

pub invariant_of-self : goal.invariant_of-self
invariant_of-self c =
    let old = c.self.invariant in
    let words = c.self.inside.words.items in
    let room = subst (λ (t : Slotted). t.taken < length t.words) (sym c.self.view_is) c.requires.room in
    let more : length words < c.self.inside.slots = omega (arith, room, length-padded c.self.inside.slots words old.within) in
    let items = c.push_reserved.ensures.items in
    let long = length_push words 0 in
    let links = c.widen.new.links in
    let heads = c.widen.new.heads.items in
    let as_long : length links ≡ c.self.inside.links.len = c.widen.auto.links ∙ c.deref_mut.ensures.len in
    let back : take c.self.inside.links.len (links ++ drop (length links) c.self.inside.links.items) ≡ links =
    ap (λ n. take n (links ++ drop (length links) c.self.inside.links.items)) (sym as_long) ∙ take-append_seam links (drop (length links) c.self.inside.links.items) in
    let items-2 : c.push_reserved-2.new.self.items ≡ links ++ 0 ∷ [] = c.push_reserved-2.ensures.items ∙ ap (λ l. l ++ 0 ∷ []) back in
    record {
      are = rw (items, items-2) (slots_more words links heads (subst (λ ws. AreSlots ws links heads) c.deref.ensures.value c.widen.ensures) (let f = old.few_slots in omega arith));
      within = rw items (omega arith);
      few_slots = old.few_slots;
      words_fit = (let f = old.words_fit in let e = c.push_reserved.ensures.capacity in omega arith);
      links_fit = (let f = old.links_fit in let e = c.push_reserved-2.ensures.capacity in omega arith);
    }

pub returns-clause-words : goal.returns-clause-words
returns-clause-words c =
    let words = c.self.inside.words.items in
    let slots = c.self.inside.slots in
    let room = subst (λ (t : Slotted). t.taken < length t.words) (sym c.self.view_is) c.requires.room in
    let more : length words < slots = omega (arith, room, length-padded slots words c.self.invariant.within) in
    let same : padded slots c.push_reserved.new.self.items ≡ padded slots words = ap (padded slots) c.push_reserved.ensures.items ∙ padded-more slots words more in
    c.fill.ensures.words ∙ ap (λ ws. set ws c.len-slot.result c.args.bits) same
    ∙ ap (λ k. set (padded slots words) k c.args.bits) (c.len-slot.ensures ∙ c.self.inside.words.ok.0)
    ∙ ap (λ (t : Slotted). set t.words t.taken c.args.bits) c.self.view_is

pub fill-requires-clause-free : goal.fill-requires-clause-free
fill-requires-clause-free c = grind (arith, common_steps)
