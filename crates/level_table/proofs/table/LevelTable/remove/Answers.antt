use Rattle.std.proofs.Common.{◌≡◌, ℕ, ◌+◌, ◌-◌, ◌<◌, length, get_or, map, swap_remove, sym, ◌∙◌, ap, arith}
use Rattle.std.proofs.lemmas.Grind.{common_steps, elements}
use Rattle.level_table.specs.declared.table.Entry.{Entry}
use Rattle.level_table.specs.Tables.{Table, hash_of, IsOf, slot_at}
use Rattle.level_table.proofs.Keyed.{map-swap_remove}
use Rattle.level_table.proofs.Removal.{apart_without, absent_without, slot_without}
use Rattle.level_table.proofs.table.LevelTable.remove.Goals as goal
use Rattle.level_table.proofs.table.LevelTable.remove.Goals.{After-self-1}

record IsSwapped (c : After-self-1) : Type 0 where
  within : c.in-Some.place < length c.self.inside.entries.items
  here : (d : Entry) → IsOf c.args.hi c.args.lo (get_or c.self.inside.entries.items c.in-Some.place d)
  long : length c.swap_remove-in-Some.new.self.items + 1 ≡ length c.self.inside.entries.items
  moved : (d : Entry) → c.in-Some.place + 1 < length c.self.inside.entries.items → get_or c.swap_remove-in-Some.new.self.items c.in-Some.place d ≡ get_or c.self.inside.entries.items (length c.self.inside.entries.items - 1) d
  kept : (k : ℕ) (d : Entry) → (k ≡ c.in-Some.place → ⊥) → k + 1 < length c.self.inside.entries.items → get_or c.swap_remove-in-Some.new.self.items k d ≡ get_or c.self.inside.entries.items k d

swapped : (c : After-self-1) → IsSwapped c
swapped c =
    let there = rw (← c.self.view_is) at c.in-Some.ensures in
    let by_index = rw c.self.inside.entries.ok.0 at c.swap_remove-in-Some.ensures.by_index in
    record { within = there.0; here = there.1; long = (let n = c.swap_remove-in-Some.new.self.ok.0 in let o = c.self.inside.entries.ok.0 in let l = c.swap_remove-in-Some.ensures.len in omega arith); moved = by_index.0; kept = by_index.1 }

pub invariant_of-self : goal.invariant_of-self
invariant_of-self c =
    let s = swapped c in
    let old = c.self.invariant in
    let entries = c.self.inside.entries.items in
    let new = c.swap_remove-in-Some.new.self.items in
    let hash : Entry → ℕ = (λ (e : Entry). hash_of e.hi e.lo) in
    record {
      hashes = c.swap_remove.ensures.hashes ∙ ap (λ hs. swap_remove hs c.in-Some.place 0) old.hashes ∙ sym (map-swap_remove hash entries c.in-Some.place c.swap_remove-in-Some.result 0 s.within) ∙ ap (map hash) (sym c.swap_remove-in-Some.ensures.items);
      apart = apart_without entries new c.in-Some.place s.within s.long s.moved s.kept old.apart;
      few = (let l = s.long in let f = old.few in omega arith);
      room = (let l = s.long in let r = old.room in let e = c.swap_remove-in-Some.ensures.capacity in omega arith);
      chain_room = (let r = old.chain_room in let e = c.swap_remove.ensures.spare in omega arith);
    }

pub returns-in-Some-clause-absent : goal.returns-in-Some-clause-absent
returns-in-Some-clause-absent c =
    let s = swapped c in
    absent_without c.self.inside.entries.items c.swap_remove-in-Some.new.self.items c.in-Some.place s.within s.long s.moved s.kept c.args.hi c.args.lo c.self.invariant.apart s.here

pub returns-in-Some-clause-others : goal.returns-in-Some-clause-others
returns-in-Some-clause-others c = λ h l other.
    let s = swapped c in
    slot_without c.self.inside.entries.items c.swap_remove-in-Some.new.self.items c.in-Some.place s.within s.long s.moved s.kept h l c.self.invariant.apart
    (λ d is. other (sym is.0 ∙ (s.here d).0) (sym is.1 ∙ (s.here d).1))
    ∙ ap (λ (t : Table). slot_at t.entries h l) c.self.view_is

pub swap_remove-requires : goal.swap_remove-requires
swap_remove-requires c = grind (arith, common_steps)

pub returns-in-Some-clause-removed : goal.returns-in-Some-clause-removed
returns-in-Some-clause-removed c = grind (arith, elements)
