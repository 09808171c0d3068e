-- A store that is handed over for a sweep or a swap, and given back.
use Rattle.std.proofs.Common.{◌≡◌, ℕ, zero, suc, ◌==◌, Bool, true, false, ◌||◌, List, [], ◌∷◌, get_or, Option, Some, None, refl, ap, sym, subst, ◌∙◌}
use Rattle.std.specs.List.{list_any}
use Rattle.node_store.specs.Contents.{Content}
use Rattle.node_slots.specs.Held.{Alone, Held, held_view, pair_in}
use Rattle.node_slots.specs.Stores.{Plain, is_held}
use Rattle.node_slots.specs.Wholes.{content_view}
use Rattle.node_slots.specs.declared.held_store.HalfSwap.{HalfSwap}
use Rattle.dead_sweep.specs.declared.sweeping.Swept.{Swept}
use Rattle.dead_sweep.specs.Swept.{IsSwept}

neither : (a b : Bool) → (a || b) ≡ false → (a ≡ false) × (b ≡ false)
neither true b e = cc
neither false b e = (refl, e)

none_set : (pins : List ℕ) → list_any (λ bits. bits == 1) pins ≡ false → (s : ℕ) → (get_or pins s 0 == 1) ≡ false
none_set [] none s = refl
none_set (x ∷ pins) none zero = (neither (x == 1) (list_any (λ bits. bits == 1) pins) none).0
none_set (x ∷ pins) none (suc s) = none_set pins (neither (x == 1) (list_any (λ bits. bits == 1) pins) none).1 s

none_any : (pins : List ℕ) → ((s : ℕ) → (get_or pins s 0 == 1) ≡ false) → list_any (λ bits. bits == 1) pins ≡ false
none_any [] none = refl
none_any (x ∷ pins) none = ap (λ b. b || list_any (λ bits. bits == 1) pins) (none zero) ∙ none_any pins (λ s. none (suc s))

pub not_sweeping : (p : Plain) → is_held p ≡ false → p.sweeping ≡ false
not_sweeping p idle = (neither p.sweeping (list_any (λ bits. bits == 1) p.pins) idle).0

pub half_none : (o : Option HalfSwap) → pair_in o ≡ None → o ≡ None
half_none None none = refl
half_none (Some half) none = cc

-- Where no swap is half made after it, what its holder knew is what holds of the store as it was given back.
pub handed_back : (P : Content → Content → Type 0) (p q : Plain) (before after : Held) → held_view before ≡ content_view p → (held_view after).half ≡ None → q ≡ after.plain → P (held_view before) (held_view after) → P (content_view p) (content_view q)
handed_back P p q before after same whole back is =
    let known : held_view after ≡ content_view after.plain = ap (λ (o : Option HalfSwap). record (content_view after.plain) { half = pair_in o }) (half_none after.half whole) in
    subst (λ (x : Plain). P (content_view p) (content_view x)) (sym back) (subst (P (content_view p)) known (subst (λ (c : Content). P c (held_view after)) same is))

-- nothing is pinned in it, and no sweep is on
pub left_idle : (p q : Plain) → is_held p ≡ false → q.sweeping ≡ false → (content_view q).pinned ≡ (content_view p).pinned → is_held q ≡ false
left_idle p q idle quiet same =
    let pins = none_set p.pins (neither p.sweeping (list_any (λ bits. bits == 1) p.pins) idle).1 in
    ap (λ b. b || list_any (λ bits. bits == 1) q.pins) quiet ∙ none_any q.pins (λ s. ap (λ (f : ℕ → Bool). f s) same ∙ pins s)

pub still_idle : (p q : Plain) (swept : Swept) → is_held p ≡ false → IsSwept Alone (content_view p) (content_view q) swept → is_held q ≡ false
still_idle p q swept idle is = left_idle p q idle is.sweeping is.pinned

-- of a sweep
pub swept_back : (p q : Plain) (before after : Held) (swept : Swept) → held_view before ≡ content_view p → q ≡ after.plain → IsSwept Alone (held_view before) (held_view after) swept → IsSwept Alone (content_view p) (content_view q) swept
swept_back p q before after swept same back is = handed_back (λ x y. IsSwept Alone x y swept) p q before after same is.half back is

-- nothing is pinned in it
pub unpinned : (p : Plain) → is_held p ≡ false → (s : ℕ) → (content_view p).pinned s ≡ false
unpinned p idle = none_set p.pins (neither p.sweeping (list_any (λ bits. bits == 1) p.pins) idle).1
