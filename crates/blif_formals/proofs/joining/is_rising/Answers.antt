use Rattle.std.proofs.Common.{◌≡◌, ℕ, ◌-◌, ◌≤◌, true, List, [], ◌∷◌, drop, length, refl, sym, ◌∙◌, arith, length-drop}
use Rattle.blif_formals.specs.Joining.{is_rising}
use Rattle.blif_formals.proofs.joining.is_rising.Goals as goal

-- what is left at the end has one number at most
short : (ns : List ℕ) → length ns ≤ 1 → is_rising ns ≡ true
short [] e = refl
short (n ∷ []) e = refl
short (n ∷ m ∷ ns) e = absurd (omega (arith, e))

pub returns : goal.returns
returns c =
    let ns = c.args.numbers.now in
    let place = c.loop-place.place in
    let far : length ns ≤ place = c.loop-place-test.false in
    let left : length (drop (place - 1) ns) ≡ length ns - (place - 1) = length-drop (place - 1) ns in
    sym (c.loop-place.invariant ∙ short (drop (place - 1) ns) (omega (arith, far, left)))
