use Rattle.std.proofs.Common.{◌≡◌, ℕ, ◌+◌, ◌<◌, List, ◌++◌, ◌∷◌, [], get_or, length, map, take, ap, sym, ◌∙◌, arith, length-append, rules}
use Rattle.std.proofs.lemmas.List.{map-append, take_all, take_more}
use Rattle.std.proofs.lemmas.Slice.Zip.{zip_end, zip_turn}
use Rattle.blif_wholes.specs.declared.uses.SpotUse.{SpotUse}
use Rattle.blif_net.proofs.ending.uses_of.Goals as goal

-- one part of a further use
one_more : (f : SpotUse → ℕ) (parts : List ℕ) (uses : List SpotUse) (one : SpotUse) (i j : ℕ) → map f uses ≡ take i parts → i < length parts → f one ≡ get_or parts i 0 → j ≡ i + 1 → map f (uses ++ one ∷ []) ≡ take j parts
one_more f parts uses one i j before lt next many =
    map-append f uses (one ∷ []) ∙ (λ k. before k ++ next k ∷ []) ∙ sym (take_more parts i 0 lt) ∙ ap (λ n. take n parts) (sym many)

pub loop-spot-init : goal.loop-spot-init
loop-spot-init c = record { spots = ap (map (λ (one : SpotUse). one.spot)) c.in_ok-uses.ensures.items; lines = ap (map (λ (one : SpotUse). one.line)) c.in_ok-uses.ensures.items }

pub loop-spot-preserved : goal.loop-spot-preserved
loop-spot-preserved c =
    let spots = c.args.spots.now in
    let lines = c.args.lines.now in
    let uses = c.loop-spot.uses.items in
    let i = length c.loop-spot.yielded in
    let one : SpotUse = record { spot = c.in-Some.spot.now; line = c.in-Some.line.now } in
    let many = length-append c.loop-spot.yielded ((c.in-Some.spot, c.in-Some.line) ∷ []) in
    let turn = zip_turn spots lines c.loop-spot.yielded c.into_iter-spot-iterator.result c.loop-spot.spot-iterator c.next.new.self c.next.result (search rules) (search rules)
    c.loop-spot.yielded_by (c.in-Some.spot, c.in-Some.line) c.in-Some.is (search rules) in
    record {
      spots = ap (map (λ (two : SpotUse). two.spot)) c.in_ok-push.ensures.items ∙ one_more (λ (two : SpotUse). two.spot) spots uses one i _ c.loop-spot.invariant.spots turn.0 (turn.2 0) many;
      lines = ap (map (λ (two : SpotUse). two.line)) c.in_ok-push.ensures.items ∙ one_more (λ (two : SpotUse). two.line) lines uses one i _ c.loop-spot.invariant.lines turn.1 (turn.3 0) many;
    }

pub returns-clause-spots : goal.returns-clause-spots
returns-clause-spots c =
    let spots = c.args.spots.now in
    let lines = c.args.lines.now in
    let end = zip_end spots lines c.loop-spot.yielded c.into_iter-spot-iterator.result c.loop-spot.spot-iterator c.next.new.self c.next.result (search rules) (search rules)
    c.loop-spot.yielded_by c.in-None.is (search rules) in
    c.loop-spot.invariant.spots ∙ take_all (length c.loop-spot.yielded) spots (omega (arith, end, c.requires))

pub returns-clause-lines : goal.returns-clause-lines
returns-clause-lines c =
    let spots = c.args.spots.now in
    let lines = c.args.lines.now in
    let end = zip_end spots lines c.loop-spot.yielded c.into_iter-spot-iterator.result c.loop-spot.spot-iterator c.next.new.self c.next.result (search rules) (search rules)
    c.loop-spot.yielded_by c.in-None.is (search rules) in
    c.loop-spot.invariant.lines ∙ take_all (length c.loop-spot.yielded) lines (omega (arith, end, c.requires))
