-- The internal indices by variable, as they are set and looked up.
use Rattle.std.proofs.Common.{◌≡◌, ℕ, ◌<◌, ◌≤◌, ◌==◌, Bool, true, false, List, Some, None, All, Contains, length, get_or, sym, ◌∙◌, ap, arith, refl, nat_lt, if◌then◌else◌}
use Rattle.std.specs.List.{position_or_len}
use Rattle.std.specs.Option.{unwrap_or}
use Rattle.std.proofs.lemmas.List.Sums.{fails_before_first, passes_at_first}
use Rattle.std.proofs.lemmas.Bool.{eq-eqb, eqb-true}
use Rattle.std.proofs.lemmas.Bool.Decides.{nat_tests}
use Rattle.dddmp_text.specs.Ranks.{rank_of}
use Rattle.diagram_dumps.specs.Dumps.{place_among}

-- the first place of an id, or the number of the ids
abbrev first_place : List ℕ → ℕ → ℕ
first_place ids var = position_or_len (λ id. id == var) ids

-- an id that is among them is met
met : (ids : List ℕ) (var : ℕ) → length ids ≤ first_place ids var → Contains ids var → ⊥
met ids var beyond (place, within, here) =
    let before : place < first_place ids var = omega arith in
    let other : (get_or ids place var == var) ≡ false = fails_before_first (λ id. id == var) ids place var before in
    let same : (get_or ids place var == var) ≡ true = eq-eqb (get_or ids place var) var here in
    let apart : true ≡ false = sym same ∙ other in
    cc

found_by : (ids : List ℕ) (var : ℕ) (b : Bool) → nat_lt (first_place ids var) (length ids) ≡ b → Contains ids var
    → (unwrap_or (if b then Some (first_place ids var) else None) 0 < length ids) × (get_or ids (unwrap_or (if b then Some (first_place ids var) else None) 0) 0 ≡ var)
found_by ids var true e has =
    let within : first_place ids var < length ids = grind (arith, nat_tests) in
    (within, eqb-true (get_or ids (first_place ids var) 0) var (passes_at_first (λ id. id == var) ids 0 within))
found_by ids var false e has =
    let beyond : length ids ≤ first_place ids var = grind (arith, nat_tests) in
    absurd (met ids var beyond has)

-- the place of an id that is among them
pub place_among-is : (ids : List ℕ) (var : ℕ) → Contains ids var → (place_among ids var < length ids) × (get_or ids (place_among ids var) 0 ≡ var)
place_among-is ids var has = found_by ids var (nat_lt (first_place ids var) (length ids)) refl has

-- what is looked up by the variable of an id
pub looked_up : (ids internals permids : List ℕ) (vars var : ℕ) → length internals ≡ vars → All (λ id. id < vars) ids
    → ((i : ℕ) → i < length ids → get_or internals (get_or ids i 0) 0 ≡ rank_of permids i) → Contains ids var
    → (var < length internals) × (get_or internals var 0 ≡ rank_of permids (place_among ids var))
looked_up ids internals permids vars var long below all has =
    let at = place_among-is ids var has in
    let small : get_or ids (place_among ids var) 0 < vars = below (place_among ids var) 0 at.0 in
    (omega (arith, at.1), ap (λ v. get_or internals v 0) (sym at.1) ∙ all (place_among ids var) at.0)
