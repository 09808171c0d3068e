use Rattle.std.proofs.Common.{◌+◌, ◌≡◌, ◌∙◌, ◌++◌, ◌<◌, ◌∷◌, [], List, ℕ, ap, sym, arith, length, map, get_or, take}
use Rattle.std.proofs.lemmas.List.{map_more}
use Rattle.std.proofs.lemmas.List.FromFn.{get_or-map-range_with_len, length-map-range_with_len}
use Rattle.function_laws.specs.SiftedOrders.{place_of}
use Rattle.diagram_dumps.proofs.listings.places_of.Goals as goal

pub index-requires : goal.index-requires
index-requires c =
    let long : length c.in_ok-places.places.items ≡ length c.args.order.now = ap length c.in_ok-places.ensures ∙ length-map-range_with_len _ 0 (length c.args.order.now) in
    omega (arith, c.requires.below c.loop-var.var-index 0 c.loop-var-test.true, long)

pub loop-var-preserved : goal.loop-var-preserved
loop-var-preserved c =
    let i = c.loop-var.var-index in
    let vars = c.args.vars.now in
    let n = length c.args.order.now in
    let place : ℕ → ℕ = λ v. place_of v c.args.order.now in
    let less : get_or vars i 0 < n = c.requires.below i 0 c.loop-var-test.true in
    let same : 0 + get_or vars i 0 ≡ get_or vars i 0 = omega arith in
    let told : c.index.result.now ≡ place (get_or vars i 0) =
    c.index.ensures ∙ ap (λ (places : List ℕ). get_or places (get_or vars i 0) c.index.result.now) c.in_ok-places.ensures
    ∙ get_or-map-range_with_len place 0 n (get_or vars i 0) (get_or vars i 0) c.index.result.now less same in
    c.in_ok-push.ensures.ok ∙ ap (λ (found : List ℕ). found ++ c.index.result.now ∷ []) c.loop-var.invariant
    ∙ ap (λ v. map place (take i vars) ++ v ∷ []) told ∙ sym (map_more place vars i 0 c.loop-var-test.true)
