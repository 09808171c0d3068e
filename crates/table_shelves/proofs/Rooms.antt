-- The free slots of a new table, and the room for its holder's notes.
use Rattle.std.proofs.Common.{◌≡◌, ℕ, zero, suc, ◌+◌, ◌-◌, ◌<◌, ◌≤◌, ◌==◌, Bool, false, List, length, replicate, refl, sym, ◌∙◌, ap, subst, arith}
use Rattle.std.specs.List.{range_with_len}
use mathlib.Core.Option.{some, some-injective, some-ne-none}
use lib.ListN.{get_elem?}
use Rattle.words_rule.specs.Layout.{Shape}
use Rattle.words_rule.specs.Openings.{AreFree}
use Rattle.std.specs.Prelude.{slice_index}
use Rattle.std.proofs.lemmas.List.{length-replicate}
use Rattle.hold_store.specs.declared.holding.HolderRoom.{HolderRoom}
use Rattle.node_slots.specs.Stores.{is_set}
use Rattle.words_holder.specs.Holders.{IsSpareRoom}

-- no slot is pinned
none_set : (n s : ℕ) → is_set (replicate n 0) s ≡ false
none_set zero s = refl
none_set (suc n) zero = refl
none_set (suc n) (suc s) = none_set n s

pub first_room : (n m : ℕ) (room : HolderRoom) → n ≡ m → length room.words ≡ m → length room.notes.marks ≡ m → room.notes.pins ≡ replicate m 0 → IsSpareRoom n room
first_room n m room same words marks pins = record {
  words = words ∙ sym same;
  marks = marks ∙ sym same;
  pins = ap length pins ∙ length-replicate m 0 ∙ sym same;
  unpinned = λ i s. (ap (λ l. is_set l s) pins ∙ none_set m s) i;
}

at_range : (k n j s : ℕ) → get_elem? (range_with_len k n) j ≡ some s → (s ≡ k + j) × (j < n)
at_range k zero j s at = absurd (some-ne-none s (sym at))
at_range k (suc n) zero s at = let e = some-injective k s at in (omega (arith, e), omega arith)
at_range k (suc n) (suc j) s at = let r = at_range (k + 1) n j s at in (omega (arith, r.0), omega (arith, r.1))

in_range : (k n j : ℕ) → j < n → get_elem? (range_with_len k n) j ≡ some (k + j)
in_range k zero j lt = absurd (omega (arith, lt))
in_range k (suc n) zero lt = ap some (let e : k ≡ k + 0 = omega arith in e)
in_range k (suc n) (suc j) lt = in_range (k + 1) n j (omega (arith, lt)) ∙ ap some (let e : k + 1 + j ≡ k + suc j = omega arith in e)

-- all slots are free but those that are told by their number
free_range : (z : Shape) → 5 + z.variables ≤ z.slots → AreFree z (range_with_len (5 + z.variables) (z.slots - (5 + z.variables)))
free_range z room = record {
  within = λ k s at. let r = at_range (5 + z.variables) (z.slots - (5 + z.variables)) k s at in (omega (arith, r.0), omega (arith, r.0, r.1, room));
  once = λ j k s a b. let p = at_range (5 + z.variables) (z.slots - (5 + z.variables)) j s a in let q = at_range (5 + z.variables) (z.slots - (5 + z.variables)) k s b in omega (arith, p.0, q.0);
  all = λ s le lt. let n : ℕ = z.slots - (5 + z.variables) in let j : ℕ = s - (5 + z.variables) in
      (j, in_range (5 + z.variables) n j (omega (arith, le, lt)) ∙ ap some (let e : 5 + z.variables + j ≡ s = omega (arith, le) in e));
}

pub first_free : (z : Shape) (slots : List ℕ) → 5 + z.variables ≤ z.slots → slots ≡ range_with_len (5 + z.variables) (z.slots - (5 + z.variables)) → AreFree z slots
first_free z slots room is = subst (AreFree z) (sym is) (free_range z room)
