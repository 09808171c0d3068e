use Rattle.std.proofs.Common.{◌≡◌, ◌∙◌, ◌+◌, ap, arith, length, ℕ, drop}
use Rattle.function_laws.specs.SiftedOrders.{place_of}
use Rattle.diagram_dumps.proofs.Listed.{all_told}
use Rattle.diagram_dumps.proofs.listings.places_in.Goals as goal

pub returns : goal.returns
returns c =
    let i = c.behind.invariant in
    let first : c.behind.place ≡ 0 = omega arith in
    all_told c.behind.places.items (λ v. place_of v c.args.order.now) (length c.args.order.now) 0 i.as_many
    (λ v lt.
    let none : 0 + place_of v c.args.order.now ≡ place_of v c.args.order.now = omega arith in
    i.told v lt ∙ ap (λ (p : ℕ). p + place_of v (drop p c.args.order.now)) first ∙ none)
