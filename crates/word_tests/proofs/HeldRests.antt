-- A full hold before and behind a sweep.
use Rattle.std.proofs.Common.{◌≡◌, ℕ, ◌==◌, Bool, true, false, cond, true≢false, eq-eqb, List, [], ◌∷◌, Some, None, refl, ap, sym, ◌∙◌}
use Rattle.std.specs.Prelude as std
use Rattle.atomic_table.specs.Seated.{TableId}
use Rattle.function_laws.specs.Sizes.{Orders}
use Rattle.hold_calls.specs.Rests.{IsAtRest}
use Rattle.hold_store.specs.declared.holding.HolderRoom.{HolderRoom}
use Rattle.hold_store.specs.Held as held
use Rattle.words_holder.specs.declared.holder.Due.{Due}
use Rattle.words_holder.specs.declared.holder.HolderRest.{HolderRest}
use Rattle.words_holder.specs.declared.holder.Lent.{Lent}
use Rattle.words_holder.specs.Holders.{IsSpareRoom, knows}
use Rattle.words_rule.specs.declared.view.View.{View}
use Rattle.words_rule.specs.Halves.{half_in}
use Rattle.words_rule.specs.Known.{is_among}

-- the room of a holder that begins
pub at_rest : (v : View) (renewed : std.Option ℕ) (due : std.Option Due) (lent : Lent) (room : HolderRoom) → (knows v renewed due lent).hand ≡ held.idle → v.known.half ≡ None → v.counts.pins ≡ [] → IsSpareRoom v.draws.slots room → IsAtRest (knows v renewed due lent) room
at_rest v renewed due lent room idle half pins spare = record {
  idle = idle;
  half = ap (λ h. half_in (record v.known { half = h })) half;
  unpinned = λ s. ap (λ (l : List ℕ). is_among l s) pins;
  words = spare.words;
  marks = spare.marks;
  pins = spare.pins;
  pins_are = spare.unpinned ∙ (λ i s. ap (λ (l : List ℕ). is_among l s) (sym pins) i);
}

-- and of one that ends
pub spare_again : (v : View) (renewed : std.Option ℕ) (due : std.Option Due) (lent : Lent) (room : HolderRoom) → IsAtRest (knows v renewed due lent) room → IsSpareRoom v.draws.slots room
spare_again v renewed due lent room r = record { words = r.words; marks = r.marks; pins = r.pins; unpinned = r.pins_are ∙ (λ i s. r.unpinned s i) }

-- no pin is left
pub none_among : (pins : List ℕ) → ((s : ℕ) → is_among pins s ≡ false) → pins ≡ []
none_among [] none = refl
none_among (x ∷ pins) none = absurd (true≢false (sym (ap (λ c. cond c true (is_among pins x)) (eq-eqb x x refl)) ∙ none x))

-- at which table it sits
abbrev pub table_of : HolderRest → TableId
table_of h = record { words = h.words; slots = h.slots; views_name = h.views_name; atom = h.atom; block = h.block; offset = h.offset; slot_names = h.slot_names }

-- the orders that the entries told
abbrev pub told_of : HolderRest → Orders
told_of h = record { variables = h.seat.told_variables; elements = h.seat.told_elements }
