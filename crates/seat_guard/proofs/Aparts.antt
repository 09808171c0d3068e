-- Shares and holds that are never there at once.
use Rattle.std.proofs.Common.{◌≡◌, inl, inr, ℕ, List, get_or, refl, sym, ◌∙◌}
use Rattle.std.specs.Prelude as std
use mathlib.Core.Option.{none, some}
use lib.ListN.{get_elem?}
use Rattle.atomic_table.specs.Table.{step, Allows, Joins}
use Rattle.atomic_table.proofs.Lists.{at_map, set_else}
use Rattle.function_laws.specs.Sizes.{Orders}
use Rattle.seat_guard.specs.declared.layout.TheConstants.{PHASE}
use Rattle.seat_guard.specs.declared.view.Held.{Held as HeldEdge}
use Rattle.seat_guard.specs.declared.view.View.{View}
use Rattle.seat_guard.specs.Phase.{AreApart, Footing, crossed, footing_of}
use Rattle.seat_guard.specs.PhasePlays.{never}
use Rattle.seat_guard.specs.Rule.{footings_in}
use Rattle.seat_guard.specs.Views.{blank, viewed}
use Rattle.seat_guard.proofs.Keeps.{Sat, St, TheRule}
use Rattle.seat_guard.proofs.Phases as phases

module _ {S : Type 0} (keeps_it : S → HeldEdge → Type 0) (board : S → List (std.Option HeldEdge)) (counts : S → ℕ × ℕ × ℕ) (orders : S → Orders) where
  abbrev RuleOf : St S → Type 0
  RuleOf = TheRule keeps_it board counts orders

  -- no table has two seats with such shares and holds
  pub none_meet : (s : St S) → RuleOf s → (i j : ℕ) (v w : View) → (j ≡ i → ⊥) → get_elem? s.views i ≡ some v → get_elem? s.views j ≡ some w → AreApart v.shares w.shares → ⊥
  none_meet s r i j v w other a b apart = by apart
    where
      feet : List Footing
      feet = footings_in s.views

      n : ℕ
      n = get_or s.words PHASE 0

      here : get_elem? feet i ≡ some (footing_of v)
      here = at_map footing_of s.views i v a

      there : get_elem? feet j ≡ some (footing_of w)
      there = at_map footing_of s.views j w b

      by : AreApart v.shares w.shares → ⊥
      by (inl x) = phases.excludes n feet r.parts.phase i j _ _ here there x.0 x.1
      by (inr (inl x)) = phases.excludes_walks n feet r.parts.phase i j _ _ here there x.0 x.1
      by (inr (inr x)) = phases.one_order n feet r.parts.phase i j _ _ other here there x.0 x.1

  pub none_joined : (id : ℕ) (v : View) (other : ℕ) (w : View) → AreApart v.shares w.shares → Joins RuleOf id v other w (crossed v) (viewed blank)
  none_joined id v other w apart s r at else there = absurd (none_meet s r id other v w else at (sym (set_else s.views id other (crossed v) else) ∙ there) apart)

  -- nor one seat that would have both
  pub none_crossed : (slots id : ℕ) (me : Sat S) (v : View) → me.0 ≡ crossed v → Allows RuleOf slots id me PHASE (λ n. n) (never (step slots PHASE 0 0 none) me)
  none_crossed slots id me v is s r long at bound = absurd (phases.excludes (get_or s.words PHASE 0) (footings_in s.views) r.parts.phase id id _ _ here here refl refl)
    where
      here : get_elem? (footings_in s.views) id ≡ some (footing_of (crossed v))
      here = at_map footing_of s.views id (crossed v) (at ∙ λ i. some (is i))
