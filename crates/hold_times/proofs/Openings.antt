-- A store as it is opened is swept by nobody, and has no pins; nor has what its holder finds.
use Rattle.std.proofs.Common.{◌≡◌, ℕ, zero, suc, ◌==◌, Bool, false, ◌||◌, List, [], ◌∷◌, get_or, replicate, Some, None, refl, ap, ap₂, ◌∙◌}
use Rattle.std.specs.Prelude.{IfSome, Option}
use Rattle.std.specs.List.{list_any}
use Rattle.function_laws.proofs.CoverLaws.{neither}
use Rattle.group_sift.specs.Sifts.{IsIdle}
use Rattle.node_store.specs.Contents.{Content}
use Rattle.node_slots.specs.Stores.{IsOpening, Plain, is_held}
use Rattle.node_slots.specs.Held.{Held, held_view}
use Rattle.node_slots.specs.Wholes.{content_view}

none_set : (n : ℕ) → list_any (λ bits. bits == 1) (replicate n 0) ≡ false
none_set zero = refl
none_set (suc n) = none_set n

pub opening_idle : (vars elements limit : ℕ) (p : Plain) → IsOpening vars elements limit p → is_held p ≡ false
opening_idle vars elements limit p o = ap₂ (λ (b : Bool) (pins : List ℕ). b || list_any (λ bits. bits == 1) pins) o.sweeping o.pins ∙ none_set limit

none_at : (pins : List ℕ) → list_any (λ bits. bits == 1) pins ≡ false → (s : ℕ) → (get_or pins s 0 == 1) ≡ false
none_at [] none s = refl
none_at (x ∷ pins) none zero = (neither (x == 1) (list_any (λ bits. bits == 1) pins) none).0
none_at (x ∷ pins) none (suc s) = none_at pins (neither (x == 1) (list_any (λ bits. bits == 1) pins) none).1 s

-- what its holder finds
pub handed_idle : (p : Plain) (w : Content) → w ≡ content_view p → is_held p ≡ false → IsIdle w
handed_idle p w same idle = record {
  sweeping = ap (λ (c : Content). c.sweeping) same ∙ (neither p.sweeping (list_any (λ bits. bits == 1) p.pins) idle).0;
  half = ap (λ (c : Content). c.half) same;
  unpinned = λ s. ap (λ (c : Content). c.pinned s) same ∙ none_at p.pins (neither p.sweeping (list_any (λ bits. bits == 1) p.pins) idle).1 s;
}

-- a store that stays so
pub stays_idle : (made : Option Plain) (held : Bool) → IfSome made (λ p. is_held p ≡ held) → held ≡ false → IfSome made (λ p. is_held p ≡ false)
stays_idle (Some p) held is none = is ∙ none
stays_idle None held is none = is

none_any : (pins : List ℕ) → ((s : ℕ) → (get_or pins s 0 == 1) ≡ false) → list_any (λ bits. bits == 1) pins ≡ false
none_any [] none = refl
none_any (x ∷ pins) none = ap₂ (λ (a b : Bool). a || b) (none 0) (none_any pins (λ s. none (suc s)))

-- a holder that is idle leaves it so
pub left_idle : (h : Held) → IsIdle (held_view h) → is_held h.plain ≡ false
left_idle h idle = ap₂ (λ (a b : Bool). a || b) idle.sweeping (none_any h.plain.pins idle.unpinned)
