-- Notes that were read or written, as the lists of marks, pins and links.
use Rattle.std.proofs.Common.{◌≡◌, ℕ, suc, zero, ◌-◌, ◌≤◌, Bool, List, [], ◌∷◌, length, inl, inr, get_or, set, replicate, refl, ap, sym, ◌∙◌, arith}
use Rattle.std.specs.Prelude.{map}
use Rattle.std.proofs.lemmas.Grind.{same_number_lists}
use Rattle.std.proofs.lemmas.Bool.{cases_lt}
use Rattle.std.proofs.lemmas.List.{length-map, map-set, get_or_past, get_or-replicate, length-replicate}
use Rattle.std.proofs.Math.ListN.{get_or-map}
use Rattle.level_table.specs.Slotted.{padded}
use Rattle.level_table.proofs.Slots.{length-padded, read_padded}
use Rattle.held_slots.specs.declared.notes.Cursor.{Cursor}
use Rattle.held_slots.specs.SlotSets.{Gathered}
use Rattle.held_slots.specs.Notes.{link_in, mark_in, notes_in, pin_in}

pub map-replicate : (f : ℕ → ℕ) (n x : ℕ) → map f (replicate n x) ≡ replicate n (f x)
map-replicate f zero x = refl
map-replicate f (suc n) x = ap (λ xs. f x ∷ xs) (map-replicate f n x)

-- what is read of a note that may not have been written
pub read : (f : ℕ → ℕ) → f 0 ≡ 0 → (slots : ℕ) (notes : List ℕ) (s : ℕ) → get_or (map f (padded slots notes)) s 0 ≡ f (get_or notes s 0)
read f none slots notes s = ap (get_or (map f (padded slots notes)) s) (sym none) ∙ get_or-map f (padded slots notes) s 0 ∙ ap f (read_padded slots notes s)

pub written : (old new firsts : List ℕ) (slots slot note : ℕ) (linked stale : Bool) (cursor : Cursor) (older newer : Gathered) → padded slots new ≡ set (padded slots old) slot note
    → notes_in new slots firsts linked stale cursor older newer ≡ record (notes_in old slots firsts linked stale cursor older newer) {
      marks = set (map mark_in (padded slots old)) slot (mark_in note);
      pins = set (map pin_in (padded slots old)) slot (pin_in note);
      chain = record (notes_in old slots firsts linked stale cursor older newer).chain { links = set (map link_in (padded slots old)) slot (link_in note) };
    }
written old new firsts slots slot note linked stale cursor older newer e = λ i. record {
  marks = (ap (map mark_in) e ∙ map-set mark_in (padded slots old) slot note) i;
  pins = (ap (map pin_in) e ∙ map-set pin_in (padded slots old) slot note) i;
  chain = record { links = (ap (map link_in) e ∙ map-set link_in (padded slots old) slot note) i; firsts = firsts; linked = linked; stale = stale; cursor = cursor; older = older; newer = newer };
}

-- where none was written, all are 0
pub padded-none : (slots : ℕ) → padded slots [] ≡ replicate slots 0
padded-none slots = let all : slots - 0 ≡ slots = omega arith in ap (λ n. replicate n zero) all

-- a list of zeros is zero everywhere
pub zero_at : (xs : List ℕ) (n s : ℕ) → xs ≡ replicate n 0 → get_or xs s 0 ≡ 0
zero_at xs n s is = ap (λ ys. get_or ys s 0) is ∙ elim (cases_lt s n) [
  | inl lt ↦ get_or-replicate n s zero zero lt
  | inr ge ↦ get_or_past (replicate n zero) s zero (let l = length-replicate n zero in omega (arith, ge, l))
]

-- What notes have in one of their fields, which is 0 of a note that is 0.
module _ (f : ℕ → ℕ) (none : f 0 ≡ 0) (slots : ℕ) where
  pub field-length : (notes : List ℕ) → length notes ≤ slots → length (map f (padded slots notes)) ≡ slots
  field-length notes within = length-map (padded slots notes) f ∙ length-padded slots notes within

  pub field-same : (old new : List ℕ) → length old ≤ slots → length new ≤ slots → ((s : ℕ) → f (get_or new s 0) ≡ f (get_or old s 0)) → map f (padded slots new) ≡ map f (padded slots old)
  field-same old new within fits same = same_number_lists (map f (padded slots new)) (map f (padded slots old)) (field-length new fits ∙ sym (field-length old within))
      (λ s lt. read f none slots new s ∙ same s ∙ sym (read f none slots old s))

  pub field-none : (notes : List ℕ) → length notes ≤ slots → ((s : ℕ) → f (get_or notes s 0) ≡ 0) → map f (padded slots notes) ≡ replicate slots 0
  field-none notes within all =
      let zero_of : ℕ = 0 in
      same_number_lists (map f (padded slots notes)) (replicate slots zero_of) (field-length notes within ∙ sym (length-replicate slots zero_of))
      (λ s lt. read f none slots notes s ∙ all s ∙ sym (get_or-replicate slots s zero_of zero_of (let l = field-length notes within in omega (arith, lt, l))))

-- the marks were taken away
pub unmarked : (old new firsts : List ℕ) (slots : ℕ) (linked stale : Bool) (cursor : Cursor) (older newer : Gathered) → length old ≤ slots → length new ≡ length old
    → ((s : ℕ) → mark_in (get_or new s 0) ≡ 0) → ((s : ℕ) → pin_in (get_or new s 0) ≡ pin_in (get_or old s 0)) → ((s : ℕ) → link_in (get_or new s 0) ≡ link_in (get_or old s 0))
    → notes_in new slots firsts linked stale cursor older newer ≡ record (notes_in old slots firsts linked stale cursor older newer) { marks = replicate (length (notes_in old slots firsts linked stale cursor older newer).marks) 0 }
unmarked old new firsts slots linked stale cursor older newer within long marks pins links =
    let fits : length new ≤ slots = omega (arith, within, long) in
    λ i. record {
      marks = (field-none mark_in refl slots new fits marks ∙ ap (λ n. replicate n zero) (sym (field-length mark_in refl slots old within))) i;
      pins = field-same pin_in refl slots old new within fits pins i;
      chain = record { links = field-same link_in refl slots old new within fits links i; firsts = firsts; linked = linked; stale = stale; cursor = cursor; older = older; newer = newer };
    }
