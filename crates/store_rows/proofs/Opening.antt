-- Nothing is counted or pinned in a store as it opens.
use Rattle.std.proofs.Common.{◌≡◌, ℕ, zero, suc, ◌==◌, Bool, false, ◌||◌, List, replicate, get_or, refl, ap, ap₂, ◌∙◌, inl, inr, arith}
use Rattle.std.specs.List.{list_any}
use Rattle.std.proofs.lemmas.List.{get_or-replicate, get_or_past, length-replicate}
use Rattle.std.proofs.lemmas.Bool.{cases_lt}
use Rattle.handle_count.specs.CountWords.{count_of}
use Rattle.node_slots.specs.Stores.{IsOpening, Plain, count_at, is_held}

none_set : (n : ℕ) → list_any (λ bits. bits == 1) (replicate n 0) ≡ false
none_set zero = refl
none_set (suc n) = none_set n

pub opening-rest : (vars elements limit : ℕ) (p : Plain) → IsOpening vars elements limit p → is_held p ≡ false
opening-rest vars elements limit p o = ap₂ (λ (b : Bool) (pins : List ℕ). b || list_any (λ bits. bits == 1) pins) o.sweeping o.pins ∙ none_set limit

zero_at : (n s : ℕ) → get_or (replicate n zero) s zero ≡ zero
zero_at n s = elim (cases_lt s n) [
  | inl lt ↦ get_or-replicate n s zero zero lt
  | inr ge ↦ get_or_past (replicate n zero) s zero (let l = length-replicate n zero in omega (arith, ge, l))
]

pub opening-uncounted : (vars elements limit : ℕ) (p : Plain) → IsOpening vars elements limit p → (k : ℕ) → count_at p k ≡ 0
opening-uncounted vars elements limit p o k = ap (λ (cs : List ℕ). count_of (get_or cs k 0)) o.counts ∙ ap count_of (zero_at limit k)
