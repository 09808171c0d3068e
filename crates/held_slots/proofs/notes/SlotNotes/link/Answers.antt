use Rattle.std.proofs.Common.{◌≡◌, ℕ, suc, ◌≤◌, inl, inr, length, replicate, refl, ap, sym, ◌∙◌, subst, arith}
use Rattle.std.specs.Prelude.{◌^◌, map, vec_len}
use Rattle.std.proofs.lemmas.Bool.{cases_lt}
use Rattle.std.proofs.lemmas.List.{get_or_default, get_or_past}
use Rattle.edge_bits.specs.Reading.{slots_of}
use Rattle.edge_bits.specs.Words.{unpack_of}
use Rattle.level_table.specs.Slotted.{padded}
use Rattle.held_slots.specs.Linked.{Leads, chain_of, variable_in}
use Rattle.held_slots.specs.Notes.{Notes, link_in, mark_in, pin_in}
use Rattle.held_slots.proofs.Padding.{field-length, field-same, read}
use Rattle.held_slots.proofs.Gathering.{leads_wider, none_exact, own_node}
use Rattle.held_slots.proofs.notes.SlotNotes.link.Goals as goal

pub link_all-requires-clause-empty : goal.link_all-requires-clause-empty
link_all-requires-clause-empty c =
    let long = c.self.invariant.variables in
    let ok = c.self.inside.firsts.ok in
    let none : ℕ = 0 in
    let all : vec_len c.self.inside.firsts ≡ 2 ^ 15 = omega (arith, long, ok) in
    c.fill.ensures.items (λ y e. e) ∙ ap (λ n. replicate n none) all

-- as many marks as slots
all_marks : (c : goal.After-self-4-1) → length c.args.self.now.marks ≡ c.self.inside.slots
all_marks c = ap (λ (n : Notes). length n.marks) (sym c.self.view_is) ∙ field-length mark_in refl c.self.inside.slots c.self.inside.notes.items c.self.invariant.within

-- the notes that were written are of slots
fits : (c : goal.After-self-4-1) → length c.link_all.new.notes.items ≤ c.self.inside.slots
fits c =
    let all = all_marks c in
    let w = c.lengthen_to.ensures.within in
    let l = c.link_all.ensures.length in
    let i = c.self.invariant.within in
    let r = c.requires in
    omega (arith, all, w, l, i, r)

pub returns-clause-marks : goal.returns-clause-marks
returns-clause-marks c = field-same mark_in refl c.self.inside.slots c.self.inside.notes.items c.link_all.new.notes.items c.self.invariant.within (fits c) (λ s. c.link_all.ensures.marks s ∙ ap mark_in (c.lengthen_to.ensures.same s))
    ∙ ap (λ (n : Notes). n.marks) c.self.view_is

pub returns-clause-pins : goal.returns-clause-pins
returns-clause-pins c = field-same pin_in refl c.self.inside.slots c.self.inside.notes.items c.link_all.new.notes.items c.self.invariant.within (fits c) (λ s. c.link_all.ensures.pins s ∙ ap pin_in (c.lengthen_to.ensures.same s))
    ∙ ap (λ (n : Notes). n.pins) c.self.view_is

pub returns-clause-linked : goal.returns-clause-linked
returns-clause-linked c = λ on.
    let ws = c.args.words.now in
    let word = slots_of ws in
    let new = c.link_all.new.notes.items in
    let slots = c.self.inside.slots in
    let links = map link_in (padded slots new) in
    let firsts = c.link_all.new.firsts.items in
    let few = c.link_all.ensures.variables in
    let within : length ws ≤ length links = (let l = field-length link_in refl slots new (fits c) in let r = c.requires in let all = all_marks c in omega (arith, l, r, all)) in (
      record {
        chain = chain_of word;
        first = λ v small apart. leads_wider word (chain_of word) (length ws) (length links) v 0 _ within (c.link_all.ensures.first v small);
        next = λ s lt small apart. elim (cases_lt s (length ws)) [
          | inl inside ↦ leads_wider word (chain_of word) (length ws) (length links) (chain_of word s) (suc s) _ within
              (subst (Leads word (chain_of word) (length ws) (chain_of word s) (suc s)) (sym (read link_in refl slots new s)) (c.link_all.ensures.next s inside small))
          | inr past ↦ absurd (let e : chain_of word s ≡ 2 ^ 15 = ap (λ x. variable_in (unpack_of x)) (get_or_past ws s 0 past) in omega (arith, e, small))
        ];
        stands = λ apart. leads_wider word (chain_of word) (length ws) (length links) 0 0 _ within
            (subst (Leads word (chain_of word) (length ws) 0 0) (sym (c.index.ensures ∙ get_or_default firsts 0 c.index.result.now 0 (omega (arith, few)))) (c.link_all.ensures.first 0 (omega arith)));
        own = λ s small apart. inl (own_node word s small);
      },
      none_exact word c.clear.new.self c.clear.ensures.variable c.clear.ensures.none,
      none_exact word c.clear-2.new.self c.clear-2.ensures.variable c.clear-2.ensures.none,
    )
