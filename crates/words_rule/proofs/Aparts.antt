-- Shares and holds that are never there at once.
use Rattle.std.proofs.Common.{◌≡◌, inl, inr, ℕ, List, get_or, refl, sym, ◌∙◌}
use Rattle.std.specs.Prelude as std
use mathlib.Core.Option.{none, some}
use lib.ListN.{get_elem?}
use Rattle.atomic_table.specs.Table.{State, Me, step, Allows, Joins}
use Rattle.atomic_table.proofs.Lists.{at_map, set_else}
use Rattle.words_rule.specs.declared.cell.Cell.{Cell}
use Rattle.words_rule.specs.declared.view.Held.{Held as HeldEdge}
use Rattle.words_rule.specs.declared.view.View.{View}
use Rattle.words_rule.specs.Aparts.{AreApart, crossed, never}
use Rattle.words_rule.specs.Phase.{Footing, footing_of}
use Rattle.words_rule.specs.Rule.{Rule, bare, footings_in}
use Rattle.words_rule.specs.Views.{blank}
use Rattle.words_rule.proofs.Phases as phases
use Rattle.free_list.specs.FreeSlots.{FreeSlots}

module _ {S : Type 0} (board : S → List (std.Option Cell)) (free_slots : S → FreeSlots) (memo : S → List ℕ) where
  abbrev RuleOf : State (std.Option S) View → Type 0
  RuleOf = Rule board free_slots memo

  -- no table has two seats with such shares and holds
  pub none_meet : (s : State (std.Option S) View) → RuleOf s → (i j : ℕ) (v w : View) → (j ≡ i → ⊥) → get_elem? s.views i ≡ some v → get_elem? s.views j ≡ some w → AreApart v.shares w.shares → ⊥
  none_meet s r i j v w other a b apart = by apart
    where
      feet : List Footing
      feet = footings_in s.views

      n : ℕ
      n = get_or s.words 1 0

      here : get_elem? feet i ≡ some (footing_of v)
      here = at_map footing_of s.views i v a

      there : get_elem? feet j ≡ some (footing_of w)
      there = at_map footing_of s.views j w b

      by : AreApart v.shares w.shares → ⊥
      by (inl x) = phases.excludes n feet r.parts.phase i j _ _ here there x.0 x.1
      by (inr (inl x)) = phases.excludes_full n feet r.parts.phase i j _ _ here there x.0 x.1
      by (inr (inr x)) = phases.one_order n feet r.parts.phase i j _ _ other here there x.0 x.1

  pub none_joined : (id : ℕ) (v : View) (other : ℕ) (w : View) → AreApart v.shares w.shares → Joins RuleOf id v other w (crossed v) (bare blank)
  none_joined id v other w apart s r at else there = absurd (none_meet s r id other v w else at (sym (set_else s.views id other (crossed v) else) ∙ there) apart)

  -- nor one seat that would have both
  pub none_crossed : (slots id : ℕ) (me : Me (std.Option S) View) (v : View) → me.0 ≡ crossed v → Allows RuleOf slots id me 1 (λ n. n) (never (step slots 1 0 0 none) me)
  none_crossed slots id me v is s r long at bound = absurd (phases.excludes (get_or s.words 1 0) (footings_in s.views) r.parts.phase id id _ _ here here refl refl)
    where
      here : get_elem? (footings_in s.views) id ≡ some (footing_of (crossed v))
      here = at_map footing_of s.views id (crossed v) (at ∙ λ i. some (is i))
