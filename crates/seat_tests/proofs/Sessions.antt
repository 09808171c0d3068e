-- An empty board, and two sessions that have come back.
use Rattle.std.proofs.Common.{◌≡◌, ℕ, zero, suc, List, [], ◌∷◌, ◌++◌, None, replicate, refl, ap, arith}
use lib.ListN.{get_elem?}
use Rattle.seat_guard.specs.declared.view.Gone.{Gone}
use Rattle.seat_guard.specs.declared.view.Draws.{Draws}
use Rattle.seat_guard.specs.Rule.{AllBack}
use Rattle.seat_guard.specs.Views.{cell_in, gone_of, with_gone}

pub none_in : (n i : ℕ) → cell_in (replicate n None) i ≡ None
none_in zero i = refl
none_in (suc n) zero = refl
none_in (suc n) (suc i) = none_in n i

pub both_back : (d e f : Draws) → d.given ≡ 2 → d.gone ≡ [] → e.session ≡ 0 → f.session ≡ 1 → AllBack (with_gone (with_gone d e) f)
both_back d e f given gone first second zero lt =
    (0, gone_of e, ap (λ (l : List Gone). get_elem? ((l ++ gone_of e ∷ []) ++ gone_of f ∷ []) 0) gone, first)
both_back d e f given gone first second (suc zero) lt =
    (1, gone_of f, ap (λ (l : List Gone). get_elem? ((l ++ gone_of e ∷ []) ++ gone_of f ∷ []) 1) gone, second)
both_back d e f given gone first second (suc (suc p)) lt = absurd (omega (arith, lt, given))
