-- What stands in an order once two neighbours were exchanged.
use Rattle.std.proofs.Common.{◌≡◌, ℕ, ◌+◌, ◌<◌, List, length, set, get_or, Option, Some, None, refl, ap, sym, ◌∙◌, subst, arith, get_or-set_same, length-set}
use Rattle.std.specs.Prelude.{slice_index}
use Rattle.std.specs.List.{swap}
use Rattle.std.proofs.lemmas.List.Edits.{length-swap, swap_is}
use Rattle.function_laws.specs.declared.orders.Order.{Order}
use Rattle.function_laws.specs.declared.orders.Order.TheVariants.{Variables, Elements}
use Rattle.function_laws.specs.Sizes.{Orders, in_order}
use Rattle.node_store.specs.Changes.{exchanged}
use Rattle.hold_store.specs.Held.{IsReady, Knowledge, Pending, all_turns, down, handed}

swapped_next : (xs : List ℕ) (l : ℕ) → l + 1 < length xs → slice_index (swap xs l (l + 1)) (l + 1) ≡ slice_index xs l
swapped_next xs l lt = ap (λ (ys : List ℕ). get_or ys (l + 1) 0) (sym (swap_is xs l (l + 1) 0 (omega (arith, lt)) lt))
    ∙ get_or-set_same (set xs l (get_or xs (l + 1) 0)) (l + 1) (get_or xs l 0) 0 (let e = length-set xs l (get_or xs (l + 1) 0) in omega (arith, e, lt))

pub lower_now : (orders : Orders) (order : Order) (l : ℕ) → l + 1 < length (in_order orders order) → slice_index (in_order (exchanged orders order l) order) (l + 1) ≡ slice_index (in_order orders order) l
lower_now orders Variables l lt = swapped_next orders.variables l lt
lower_now orders Elements l lt = swapped_next orders.elements l lt

-- the orders have as many levels as before
same_turns : (k : Knowledge) (order : Order) (l : ℕ) → all_turns (record k { content = record k.content { orders = exchanged k.content.orders order l; half = None } }) ≡ all_turns k
same_turns k Variables l = ap (λ n. n + length k.content.orders.elements + 1) (length-swap k.content.orders.variables l (l + 1))
same_turns k Elements l = ap (λ n. length k.content.orders.variables + n + 1) (length-swap k.content.orders.elements l (l + 1))

module _ (k k2 k3 k4 : Knowledge) (order : Order) (level : ℕ) (back : k2 ≡ k)
    (e3 : k3 ≡ record k2 { content = record k2.content { orders = exchanged k2.content.orders order level; half = None }; hand = record k2.hand { pending = Some (record { order = order; level = level + 1 }) } })
    (e4 : k4 ≡ handed k3 (record k3.hand { pending = None })) where
  both : k4 ≡ record k { content = record k.content { orders = exchanged k.content.orders order level; half = None }; hand = record k.hand { pending = None } }
  both = e4 ∙ ap (λ (x : Knowledge). handed x (record x.hand { pending = None })) e3
      ∙ ap (λ (x : Knowledge). record x { content = record x.content { orders = exchanged x.content.orders order level; half = None }; hand = record x.hand { pending = None } }) back

  pub exchanged_all : k.hand.pending ≡ None → k4 ≡ record k { content = record k.content { orders = exchanged k.content.orders order level; half = None } }
  exchanged_all none = both ∙ ap (λ (p : Option Pending). record k { content = record k.content { orders = exchanged k.content.orders order level; half = None }; hand = record k.hand { pending = p } }) (sym none)

  pub exchanged_ready : IsReady k → IsReady k4
  exchanged_ready r = subst IsReady (sym both) (record {
    levels = r.levels ∙ ap down (sym (same_turns k order level));
    free = r.free;
    has_free = r.has_free;
    loose = r.loose;
    renewed = r.renewed;
    link = r.link;
    pending = refl;
  })
