use Rattle.std.proofs.Common.{◌≡◌, ℕ, ◌+◌, ◌-◌, ◌<◌, length, get_or, map, swap_remove, sym, ◌∙◌, ap, pos, w64, arith}
use Rattle.std.proofs.lemmas.Grind.{common_steps, elements}
use Rattle.std.proofs.lemmas.Int.{to_z-of_z}
use Rattle.level_table.specs.declared.leaves.LeafEntry.{LeafEntry}
use Rattle.level_table.specs.Leaves.{Leaves, hash_of_value, IsOfValue, is_of_value, slot_at_value}
use Rattle.level_table.proofs.Keyed.{distinct_without, missing_without, key_without, map-swap_remove}
use Rattle.level_table.proofs.LeafKeys.{value_of, slot_of, values}
use Rattle.level_table.proofs.leaves.LeafTable.remove.Goals as goal
use Rattle.level_table.proofs.leaves.LeafTable.remove.Goals.{After-self-1}

record IsSwapped (c : After-self-1) : Type 0 where
  within : c.in-Some.place < length c.self.inside.entries.items
  here : (d : LeafEntry) → IsOfValue c.args.value (get_or c.self.inside.entries.items c.in-Some.place d)
  long : length c.swap_remove-in-Some.new.self.items + 1 ≡ length c.self.inside.entries.items
  moved : (d : LeafEntry) → c.in-Some.place + 1 < length c.self.inside.entries.items → get_or c.swap_remove-in-Some.new.self.items c.in-Some.place d ≡ get_or c.self.inside.entries.items (length c.self.inside.entries.items - 1) d
  kept : (k : ℕ) (d : LeafEntry) → (k ≡ c.in-Some.place → ⊥) → k + 1 < length c.self.inside.entries.items → get_or c.swap_remove-in-Some.new.self.items k d ≡ get_or c.self.inside.entries.items k d

swapped : (c : After-self-1) → IsSwapped c
swapped c =
    let round = to_z-of_z w64 c.args.value c.ranges.value in
    let there = rw (← c.self.view_is) at c.in-Some.ensures in
    let by_index = rw c.self.inside.entries.ok.0 at c.swap_remove-in-Some.ensures.by_index in
    record { within = there.0; here = λ d. there.1 d ∙ round; long = (let n = c.swap_remove-in-Some.new.self.ok.0 in let o = c.self.inside.entries.ok.0 in let l = c.swap_remove-in-Some.ensures.len in omega arith); moved = by_index.0; kept = by_index.1 }

pub invariant_of-self : goal.invariant_of-self
invariant_of-self c =
    let s = swapped c in
    let old = c.self.invariant in
    let entries = c.self.inside.entries.items in
    let new = c.swap_remove-in-Some.new.self.items in
    let hash : LeafEntry → ℕ = (λ (e : LeafEntry). hash_of_value e.value) in
    record {
      hashes = c.swap_remove.ensures.hashes ∙ ap (λ hs. swap_remove hs c.in-Some.place 0) old.hashes ∙ sym (map-swap_remove hash entries c.in-Some.place c.swap_remove-in-Some.result 0 s.within) ∙ ap (map hash) (sym c.swap_remove-in-Some.ensures.items);
      apart = distinct_without IsOfValue is_of_value value_of slot_of values entries new c.in-Some.place s.within s.long s.moved s.kept old.apart;
      few = (let l = s.long in let f = old.few in omega arith);
      room = (let l = s.long in let r = old.room in let e = c.swap_remove-in-Some.ensures.capacity in omega arith);
      chain_room = (let r = old.chain_room in let e = c.swap_remove.ensures.spare in omega arith);
    }

pub returns-in-Some-clause-absent : goal.returns-in-Some-clause-absent
returns-in-Some-clause-absent c =
    let s = swapped c in
    missing_without IsOfValue is_of_value value_of slot_of values c.self.inside.entries.items c.swap_remove-in-Some.new.self.items c.in-Some.place s.within s.long s.moved s.kept c.args.value c.self.invariant.apart s.here

pub returns-in-Some-clause-others : goal.returns-in-Some-clause-others
returns-in-Some-clause-others c = λ v other.
    let s = swapped c in
    let nothing : LeafEntry = record { value = pos 0; slot = 0 } in
    key_without IsOfValue is_of_value value_of slot_of values c.self.inside.entries.items c.swap_remove-in-Some.new.self.items c.in-Some.place s.within s.long s.moved s.kept nothing v c.self.invariant.apart
    (λ d is. other (sym is ∙ s.here d))
    ∙ ap (λ (t : Leaves). slot_at_value t.entries v) c.self.view_is

pub swap_remove-requires : goal.swap_remove-requires
swap_remove-requires c = grind (arith, common_steps)

pub returns-in-Some-clause-removed : goal.returns-in-Some-clause-removed
returns-in-Some-clause-removed c = grind (arith, elements)
