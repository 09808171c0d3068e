-- A seat notes of many slots at once what is true of them.
use Rattle.std.proofs.Common.{◌≡◌, ⊎_elim, inl, inr, ℕ, zero, suc, ◌<◌, ◌==◌, ◌&&◌, cond, Bool, true, false, true≢false, List, [], ◌∷◌, ◌++◌, set, eq-eqb, Some, None, option_map, refl, ap, sym, ◌∙◌, arith}
use Rattle.std.specs.Prelude as std
use Rattle.std.proofs.lemmas.Bool.{cases_eq}
use mathlib.Core.Logic.{dite}
use mathlib.Core.Option.{Option, some, some-injective}
use native.Mathlib.Decide.{ℕ_discrete}
use lib.ListN.{get_elem?}
use Rattle.atomic_table.proofs.Lists.{set_else}
use Rattle.function_laws.specs.declared.history.Function.{Function}
use Rattle.function_laws.specs.Kinds.{Denoted}
use Rattle.function_laws.specs.SessionEntries.{Each}
use Rattle.function_laws.specs.EntryOrders.{opening_orders, orders_from}
use Rattle.words_rule.specs.Ordered.{KnowsOrders}
use Rattle.words_rule.specs.declared.cell.Cell.{Cell}
use Rattle.words_rule.specs.declared.view.Held.{Held}
use Rattle.words_rule.specs.declared.view.SeenWord.{SeenWord}
use Rattle.words_rule.specs.declared.view.Hold.TheVariants.{Holding}
use Rattle.words_rule.specs.declared.view.View.{View}
use Rattle.words_rule.specs.Views.{sizes_for, orders_of, told_orders}
use Rattle.words_rule.specs.Layout.{Shape, Words}
use Rattle.words_rule.specs.Chains.{Lists}
use Rattle.words_rule.specs.Kept.{IsHeldBy, whole_of}
use Rattle.words_rule.specs.Seen.{HasShare, KeepsSlots, StandsSo}
use Rattle.words_rule.specs.Rule.{Parts}
use Rattle.words_rule.specs.Known.{denoted_in, noted_bits, noted_function, met_in}
use Rattle.words_rule.proofs.Lists.{each_set, set_at}
use Rattle.words_rule.proofs.Draws.{by_full, by_pending}
use Rattle.words_rule.proofs.Rewrites.{parts_known}
use Rattle.words_rule.proofs.Storing.{edge_at}
use Rattle.free_list.specs.FreeSlots.{FreeSlots}

-- a view with these notes
abbrev pub with_notes : View → List SeenWord → List Held → View
with_notes v words seen = record v { known = record v.known { words = words; seen = seen } }

-- each of these slots denotes a function
abbrev pub AllHave : (ℕ → std.Option Denoted) → List ℕ → Type 0
AllHave function [] = Unit {0}
AllHave function (s ∷ l) = ((f : Denoted) × (function s ≡ Some f)) × AllHave function l

abbrev pub words_at : (ℕ → ℕ) → List ℕ → List SeenWord
words_at node [] = []
words_at node (s ∷ l) = record { slot = s; bits = node s } ∷ words_at node l

abbrev pub held_at : Shape → (function : ℕ → std.Option Denoted) (l : List ℕ) → AllHave function l → List Held
held_at z function [] all = []
held_at z function (s ∷ l) all = edge_at s (whole_of z all.0.0) ∷ held_at z function l all.1

pub each_word : (P : SeenWord → Type 0) (node : ℕ → ℕ) (function : ℕ → std.Option Denoted) → ((s : ℕ) (f : Denoted) → function s ≡ Some f → P (record { slot = s; bits = node s })) → (l : List ℕ) → AllHave function l → Each P (words_at node l)
each_word P node function stands [] all = tt
each_word P node function stands (s ∷ l) all = (stands s all.0.0 all.0.1, each_word P node function stands l all.1)

pub each_held : (z : Shape) (function : ℕ → std.Option Denoted) (l : List ℕ) (all : AllHave function l) → Each (IsHeldBy z function) (held_at z function l all)
each_held z function [] all = tt
each_held z function (s ∷ l) all = ((all.0.0, all.0.1, refl), each_held z function l all.1)

-- each of the slots is met then
pub met_here : (n : ℕ) (z : Shape) (node : ℕ → ℕ) (function : ℕ → std.Option Denoted) (l : List ℕ) (all : AllHave function l) (t : ℕ) → Lists l t
    → (g : Denoted) × (met_in n (noted_bits (words_at node l) t) (noted_function (held_at z function l all) t) ≡ Some g) × (option_map (denoted_in n) (noted_function (held_at z function l all) t) ≡ Some g)
met_here n z node function [] all t there = absurd there
met_here n z node function (s ∷ l) all t there = by (s == t) refl (λ later. met_here n z node function l all.1 t later)
  where
    f : Function
    f = whole_of z all.0.0

    both : Bool → std.Option Denoted
    both c = met_in n (cond c (Some (node s)) (noted_bits (words_at node l) t)) (cond (c && true) (Some f) (noted_function (held_at z function l all.1) t))

    one : Bool → std.Option Denoted
    one c = option_map (denoted_in n) (cond (c && true) (Some f) (noted_function (held_at z function l all.1) t))

    by : (c : Bool) → (s == t) ≡ c → (Lists l t → (g : Denoted) × (both false ≡ Some g) × (one false ≡ Some g)) → (g : Denoted) × (both (s == t) ≡ Some g) × (one (s == t) ≡ Some g)
    by true e later = (denoted_in n f, ap both e, ap one e)
    by false e later =
        let k = later (⊎_elim (λ same. absurd (true≢false (sym (eq-eqb s t same) ∙ e))) (λ more. more) there) in
        (k.0, ap both e ∙ k.1, ap one e ∙ k.2)

-- the numbers below this one
abbrev pub below : ℕ → List ℕ
below zero = []
below (suc n) = n ∷ below n

pub lists_below : (n s : ℕ) → s < n → Lists (below n) s
lists_below zero s lt = absurd (omega (arith, lt))
lists_below (suc n) s lt = elim (cases_eq n s) [
  | inl e ↦ inl e
  | inr ne ↦ inr (lists_below n s (omega (arith, lt, ne)))
]

pub all_below : (function : ℕ → std.Option Denoted) (n : ℕ) → ((s : ℕ) → s < n → (f : Denoted) × (function s ≡ Some f)) → AllHave function (below n)
all_below function zero has = tt
all_below function (suc n) has = (has n (omega arith), all_below function n (λ s lt. has s (omega (arith, lt))))

pub lists_left : (l m : List ℕ) (s : ℕ) → Lists l s → Lists (l ++ m) s
lists_left [] m s there = absurd there
lists_left (x ∷ l) m s there = ⊎_elim (λ e. inl e) (λ later. inr (lists_left l m s later)) there

pub lists_right : (l m : List ℕ) (s : ℕ) → Lists m s → Lists (l ++ m) s
lists_right [] m s there = there
lists_right (x ∷ l) m s there = inr (lists_right l m s there)

pub all_both : (function : ℕ → std.Option Denoted) (l m : List ℕ) → AllHave function l → AllHave function m → AllHave function (l ++ m)
all_both function [] m a b = b
all_both function (s ∷ l) m a b = (a.0, all_both function l m a.1 b)

module _ {S : Type 0} (board : S → List (std.Option Cell)) (free_slots : S → FreeSlots) (memo : S → List ℕ) where
  abbrev PartsOf : Shape → Words → (ℕ → Option (Option (std.Option S))) → List View → Type 0
  PartsOf = Parts board free_slots memo

  module _ (z : Shape) (ws : Words) (home : ℕ → Option (Option (std.Option S))) (vs : List View) (r : PartsOf z ws home vs) (id : ℕ) (v : View) (at : get_elem? vs id ≡ some v) where
    -- a seat has other notes, which are true where its share or hold lets them stand
    unfoldable pub parts_noting : (words : List SeenWord) (seen : List Held) → (HasShare v → Each (StandsSo ws.node v) words) → (KeepsSlots v → Each (IsHeldBy z r.function) seen) → PartsOf z ws home (set vs id (with_notes v words seen))
    parts_noting words seen stand is_held =
        let w : View = with_notes v words seen in
        parts_known board free_slots memo z ws home vs r id v at w.known ws.order r.orders r.pending r.half r.sound r.remembered r.tables r.positions
        (record {
          settled = λ nobody. r.ordered.settled (λ i u there holding. dite (ℕ_discrete i id)
              (λ same. nobody id w (set_at vs id v w at) (ap (λ (y : View). y.shares.order) (some-injective v u (sym at ∙ (ap (λ j. get_elem? vs j) (sym same) ∙ there))) ∙ holding))
              (λ apart. nobody i u (set_else vs id i w apart ∙ there) holding));
          shared = each_set (λ _ (y : View). KnowsOrders r.orders y) vs id w (λ i y apart there. r.ordered.shared i y there) (r.ordered.shared id v at);
          held = each_set (λ i (u : View). u.shares.order ≡ Holding → (orders_of u.known ≡ r.orders) × (told_orders u.known ≡ orders_from (opening_orders (sizes_for z.variables z.elements)) r.log)) vs id w
              (λ i u apart there. r.ordered.held i u there) (r.ordered.held id v at);
        })
        (by_full (r.half ≡ None) vs id v w at refl r.half_by) (by_pending r.pending vs id v w at refl refl r.pending_by)
        (record { words = λ has. stand has; held = λ has. is_held has }) (r.holders id v at) (λ i y apart there. r.holders i y there)

    pub noting_function : (words : List SeenWord) (seen : List Held) (stand : HasShare v → Each (StandsSo ws.node v) words) (is_held : KeepsSlots v → Each (IsHeldBy z r.function) seen) → (parts_noting words seen stand is_held).function ≡ r.function
    unfolding parts_noting parts_known
    noting_function words seen stand is_held = refl
