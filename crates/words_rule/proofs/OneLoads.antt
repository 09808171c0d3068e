-- What a live seat finds in a table that was made for one session.
use Rattle.std.proofs.Common.{◌≡◌, inl, ℕ, ◌+◌, ◌<◌, true, List, get_or, ap, sym, subst, ◌∙◌}
use Rattle.std.specs.Prelude as std
use mathlib.Core.Option.{some}
use lib.ListN.{get_elem?}
use Rattle.atomic_table.specs.Table.{State}
use Rattle.atomic_table.proofs.Lists.{at_map}
use Rattle.words_rule.specs.declared.cell.Cell.{Cell}
use Rattle.words_rule.specs.declared.view.View.{View}
use Rattle.words_rule.specs.Shapes.{shape_in}
use Rattle.words_rule.specs.Layout.{Shape, Words, count_at, node_at, order_at, places, words_of}
use Rattle.words_rule.specs.OneSession.{AreTold, IsTold, node_by, order_by, storer_of}
use Rattle.words_rule.specs.Rule.{Rule}
use Rattle.words_rule.proofs.Layouts.{here_count, here_node, here_order}
use Rattle.words_rule.proofs.Stepping.{shape_is}
use Rattle.free_list.specs.FreeSlots.{FreeSlots}

module _ {S : Type 0} (board : S → List (std.Option Cell)) (free_slots : S → FreeSlots) (memo : S → List ℕ) where
  pub finds_told : (s : State (std.Option S) View) → Rule board free_slots memo s → (id : ℕ) (v : View) → get_elem? s.views id ≡ some v → v.draws.live ≡ true → (word : ℕ) → v.draws.sessions ≡ 1 → IsTold (shape_in v.draws) v.stored word (get_or s.words word 0)
  finds_told s r id v at live word single =
      let z = r.shape in
      let ws : Words = words_of z s.words in
      let here = at_map storer_of s.views id v at in
      let shape : z ≡ shape_in v.draws = shape_is board free_slots memo z ws (λ (k : ℕ). get_elem? s.homes k) s.views r.parts id v at live in
      let are : AreTold z ws.order ws.node ws.count v.stored = r.one.told (sym (r.one.known id (storer_of v) here (inl live)) ∙ single) id (storer_of v) here (inl live) in record {
        node = λ q inside is.
            let below : q < z.slots = subst (λ (y : Shape). q < y.slots) (sym shape) inside in
            ap (λ (i : ℕ). get_or s.words i 0) (is ∙ ap (λ (y : Shape). node_at y q) (sym shape)) ∙ sym (here_node z s.words 0 q below) ∙ are.nodes q ∙ ap (λ (y : Shape). node_by y v.stored q) shape;
        order = λ p inside is.
            let below : p < places z + places z = subst (λ (y : Shape). p < places y + places y) (sym shape) inside in
            ap (λ (i : ℕ). get_or s.words i 0) (is ∙ ap (λ (y : Shape). order_at y p) (sym shape)) ∙ sym (here_order z s.words 0 p below) ∙ are.orders p below ∙ ap (λ (y : Shape). order_by y v.stored p) shape;
        count = λ k inside is.
            let below : k < z.slots = subst (λ (y : Shape). k < y.slots) (sym shape) inside in
            ap (λ (i : ℕ). get_or s.words i 0) (is ∙ ap (λ (y : Shape). count_at y k) (sym shape)) ∙ sym (here_count z s.words 0 k below) ∙ are.counts k;
      }
