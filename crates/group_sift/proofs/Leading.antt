-- The steps of a loop over places.
use Rattle.std.proofs.Common.{◌≡◌, ℕ, suc, Bool, true, false, cond, min, [], ◌∷◌, length, refl, sym, ap, ◌∙◌, arith}
use Rattle.function_laws.specs.SiftedOrders.{Line, met_at, reach, is_too_large, least_of, first_least}
use Rattle.group_sift.specs.Trips.{Stand, stand_at, EndsAs}

pub ends : (line : Line) (next : ℕ → ℕ) (now : Stand) → EndsAs line next 0 now now
unfolding reach
ends line next now = record { least = refl; best = refl; count = omega arith }

pub stops : (line : Line) (next : ℕ → ℕ) (steps : ℕ) (now : Stand) → line.has_room now.place (next now.place) ≡ false → EndsAs line next (suc steps) now now
unfolding reach
stops line next steps now shut =
    let e : reach line next (suc steps) now.place now.least ≡ [] = ap (λ b. cond b (met_at line (next now.place) ∷ cond (is_too_large (line.size_at (next now.place)) (min now.least (line.size_at (next now.place)))) [] (reach line next steps (next now.place) (min now.least (line.size_at (next now.place))))) []) shut in
    record { least = ap (least_of now.least) (sym e); best = ap (first_least now.best) (sym e); count = omega (arith, ap length e) }

pub met_then : (line : Line) (next : ℕ → ℕ) (steps : ℕ) (now : Stand) (large : Bool) → line.has_room now.place (next now.place) ≡ true
    → is_too_large (line.size_at (next now.place)) (min now.least (line.size_at (next now.place))) ≡ large
    → reach line next (suc steps) now.place now.least ≡ met_at line (next now.place) ∷ cond large [] (reach line next steps (next now.place) (min now.least (line.size_at (next now.place))))
unfolding reach
met_then line next steps now large room e =
    let to = next now.place in
    let lower = min now.least (line.size_at to) in
    ap (λ b. cond b (met_at line to ∷ cond (is_too_large (line.size_at to) lower) [] (reach line next steps to lower)) []) room
    ∙ ap (λ b. met_at line to ∷ cond b [] (reach line next steps to lower)) e

pub grows : (line : Line) (next : ℕ → ℕ) (steps : ℕ) (now : Stand) → line.has_room now.place (next now.place) ≡ true
    → is_too_large (line.size_at (next now.place)) (min now.least (line.size_at (next now.place))) ≡ true
    → EndsAs line next (suc steps) now (stand_at (next now.place) (line.size_at (next now.place)) now)
grows line next steps now room large =
    let e = met_then line next steps now true room large in
    record { least = ap (least_of now.least) (sym e); best = ap (first_least now.best) (sym e); count = omega (arith, ap length e) }

pub goes_on : (line : Line) (next : ℕ → ℕ) (steps : ℕ) (now end : Stand) → line.has_room now.place (next now.place) ≡ true
    → is_too_large (line.size_at (next now.place)) (min now.least (line.size_at (next now.place))) ≡ false
    → EndsAs line next steps (stand_at (next now.place) (line.size_at (next now.place)) now) end → EndsAs line next (suc steps) now end
goes_on line next steps now end room large h =
    let e = met_then line next steps now false room large in
    record { least = h.least ∙ ap (least_of now.least) (sym e); best = h.best ∙ ap (first_least now.best) (sym e); count = omega (arith, ap length e, h.count) }
