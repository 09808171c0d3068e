-- A store as it is opened is swept by nobody, and has no pins.
use Rattle.std.proofs.Common.{◌≡◌, ℕ, zero, suc, ◌==◌, Bool, false, ◌||◌, List, replicate, refl, ap₂, ◌∙◌}
use Rattle.std.specs.List.{list_any}
use Rattle.node_slots.specs.Stores.{IsOpening, Plain, is_held}

none_set : (n : ℕ) → list_any (λ bits. bits == 1) (replicate n 0) ≡ false
none_set zero = refl
none_set (suc n) = none_set n

pub opening_idle : (vars elements limit : ℕ) (p : Plain) → IsOpening vars elements limit p → is_held p ≡ false
opening_idle vars elements limit p o = ap₂ (λ (b : Bool) (pins : List ℕ). b || list_any (λ bits. bits == 1) pins) o.sweeping o.pins ∙ none_set limit
