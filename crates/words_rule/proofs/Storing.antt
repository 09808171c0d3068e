-- What a seat notes of a slot, and the step of a head by what is noted.
use Rattle.std.proofs.Common.{◌≡◌, ℕ, suc, ◌==◌, true, false, List, ◌∷◌, set, refl, ap, sym, subst, ◌∙◌}
use Rattle.std.specs.Prelude as std
use Rattle.std.specs.Prelude.{Some, None}
use mathlib.Core.Logic.{dite}
use mathlib.Core.Option.{Option, none, some, some-injective}
use native.Mathlib.Decide.{ℕ_discrete}
use lib.ListN.{get_elem?}
use prog.Atomic.{either}
use Rattle.atomic_table.specs.Table.{State, Me, step, Allows}
use Rattle.atomic_table.proofs.Lists.{set_else}
use Rattle.function_laws.specs.declared.history.Function.{Function}
use Rattle.function_laws.specs.EntryOrders.{opening_orders, orders_from}
use Rattle.node_store.specs.Changes.{put_at}
use Rattle.words_rule.specs.Ordered.{KnowsOrders}
use Rattle.words_rule.specs.declared.cell.Cell.{Cell}
use Rattle.words_rule.specs.declared.view.Held.{Held}
use Rattle.words_rule.specs.declared.view.SeenWord.{SeenWord}
use Rattle.words_rule.specs.declared.view.Hold.TheVariants.{Holding}
use Rattle.words_rule.specs.declared.view.View.{View}
use Rattle.words_rule.specs.Views.{sizes_for, orders_of, told_orders}
use Rattle.words_rule.specs.Shapes.{shape_in}
use Rattle.words_rule.specs.Layout.{Shape, Words, words_of, head_at, head_of}
use Rattle.words_rule.specs.Kept.{IsHeldBy}
use Rattle.words_rule.specs.Plays.{pushed}
use Rattle.words_rule.specs.Seen.{HasShare, StandsSo}
use Rattle.words_rule.specs.Rule.{Parts, Rule}
use Rattle.words_rule.proofs.Lists.{each_set, each_at, set_at}
use Rattle.words_rule.proofs.Draws.{by_full, by_pending}
use Rattle.words_rule.proofs.Rewrites.{parts_known}
use Rattle.words_rule.proofs.Tabling.{pushes_slot, pushed_it}
use Rattle.free_list.specs.FreeSlots.{FreeSlots}

-- a view with a word and a function more
abbrev pub noting_slot : View → SeenWord → Held → View
noting_slot v note held = record v { known = record v.known { words = note ∷ v.known.words; seen = held ∷ v.known.seen } }

abbrev pub edge_at : ℕ → Function → Held
edge_at s f = record { edge = record { index = s; complement = false }; function = f }

module _ {S : Type 0} (board : S → List (std.Option Cell)) (free_slots : S → FreeSlots) (memo : S → List ℕ) where
  abbrev PartsOf : Shape → Words → (ℕ → Option (Option (std.Option S))) → List View → Type 0
  PartsOf = Parts board free_slots memo

  abbrev TheRule : State (std.Option S) View → Type 0
  TheRule = Rule board free_slots memo

  abbrev Sat : Type 0
  Sat = Me (std.Option S) View

  module _ (z : Shape) (ws : Words) (home : ℕ → Option (Option (std.Option S))) (vs : List View) (r : PartsOf z ws home vs) (id : ℕ) (v : View) (at : get_elem? vs id ≡ some v) where
    -- a seat notes of a slot what is true
    unfoldable pub parts_notes : (note : SeenWord) (held : Held) → StandsSo ws.node v note → IsHeldBy z r.function held → PartsOf z ws home (set vs id (noting_slot v note held))
    parts_notes note held stands is_held =
        let w : View = noting_slot v note held in
        parts_known board free_slots memo z ws home vs r id v at w.known ws.order r.orders r.pending r.half r.sound r.remembered r.tables r.positions
        (record {
          settled = λ nobody. r.ordered.settled (λ i u there holding. dite (ℕ_discrete i id)
              (λ same. nobody id w (set_at vs id v w at) (ap (λ (y : View). y.shares.order) (some-injective v u (sym at ∙ (ap (λ j. get_elem? vs j) (sym same) ∙ there))) ∙ holding))
              (λ apart. nobody i u (set_else vs id i w apart ∙ there) holding));
          shared = each_set (λ _ (y : View). KnowsOrders r.orders y) vs id w (λ i y apart there. r.ordered.shared i y there) (r.ordered.shared id v at);
          held = each_set (λ i (u : View). u.shares.order ≡ Holding → (orders_of u.known ≡ r.orders) × (told_orders u.known ≡ orders_from (opening_orders (sizes_for z.variables z.elements)) r.log)) vs id w
              (λ i u apart there. r.ordered.held i u there) (r.ordered.held id v at);
        })
        (by_full (r.half ≡ None) vs id v w at refl r.half_by) (by_pending r.pending vs id v w at refl refl r.pending_by)
        (record { words = λ has. (stands, (r.seen id v at).words has); held = λ has. (is_held, (r.seen id v at).held has) }) (r.holders id v at) (λ i y apart there. r.holders i y there)

  module _ (z : Shape) (ws : Words) (home : ℕ → Option (Option (std.Option S))) (vs : List View) (r : PartsOf z ws home vs) (id : ℕ) (v : View) (at : get_elem? vs id ≡ some v) where
    pub notes_orders : (note : SeenWord) (held : Held) (stands : StandsSo ws.node v note) (is_held : IsHeldBy z r.function held) → (parts_notes z ws home vs r id v at note held stands is_held).orders ≡ r.orders
    unfolding parts_notes parts_known
    notes_orders note held stands is_held = refl

    pub notes_function : (note : SeenWord) (held : Held) (stands : StandsSo ws.node v note) (is_held : IsHeldBy z r.function held) → (parts_notes z ws home vs r id v at note held stands is_held).function ≡ r.function
    unfolding parts_notes parts_known
    notes_function note held stands is_held = refl

  -- The step of a head, where the seat has noted the word of its slot under its share or hold.
  pub pushes_noted : (slots id : ℕ) (me : Sat) (q link bits k : ℕ) → me.0.draws.live ≡ true → me.0.hand.loose ≡ Some q → me.0.hand.link ≡ Some (record { slot = q; link = link }) → HasShare me.0 → get_elem? me.0.known.words k ≡ some (record { slot = q; bits = bits })
      → Allows TheRule slots id me (head_at (shape_in me.0.draws) (head_of (shape_in me.0.draws) bits)) (λ n. either (n == link) (suc q) n)
      (pushed_it board free_slots memo link (step slots (head_at (shape_in me.0.draws) (head_of (shape_in me.0.draws) bits)) link (suc q) none) me)
  pushes_noted slots id me q link bits k live loose linked share noted = pushes_slot board free_slots memo slots id me q link bits live loose linked
      (λ s r at. (each_at (StandsSo (words_of r.shape s.words).node me.0) me.0.known.words k (record { slot = q; bits = bits }) ((r.parts.seen id me.0 at).words share) noted).0)

  -- the same, with the word's index and the new head as the code has them
  pub pushes_here : (slots id : ℕ) (me : Sat) (q link bits k word new : ℕ) → word ≡ head_at (shape_in me.0.draws) (head_of (shape_in me.0.draws) bits) → new ≡ suc q → me.0.draws.live ≡ true → me.0.hand.loose ≡ Some q → me.0.hand.link ≡ Some (record { slot = q; link = link }) → HasShare me.0
      → get_elem? me.0.known.words k ≡ some (record { slot = q; bits = bits }) → Allows TheRule slots id me word (λ n. either (n == link) new n) (pushed (step slots word link new none) me)
  pushes_here slots id me q link bits k word new at behind live loose linked share noted =
      subst (λ (y : ℕ × ℕ). Allows TheRule slots id me y.0 (λ n. either (n == link) y.1 n) (pushed (step slots y.0 link y.1 none) me)) (λ i. (sym at i, sym behind i)) (pushes_noted slots id me q link bits k live loose linked share noted)
