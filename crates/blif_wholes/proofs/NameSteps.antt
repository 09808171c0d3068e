-- The names of spots, place by place.
use Rattle.std.proofs.Common.{◌≡◌, ℕ, zero, suc, List, [], ◌∷◌, Some, length, map, refl, ap, arith}
use Rattle.std.specs.Prelude.{slice_get}
use Rattle.job_words.specs.Text.{Word}
use Rattle.blif_models.specs.declared.numbered.Spot.{Spot}
use Rattle.blif_models.specs.Numberings.{word_of}
use Rattle.blif_wholes.specs.declared.roles.Role.{Role}
use Rattle.blif_wholes.specs.Names.{WholeName, named_by, words_in}

-- as many names as spots
pub length_named : (words : List (List Word)) (spots : List Spot) (roles : List Role) → length roles ≡ length spots → length (named_by words spots roles) ≡ length spots
length_named words [] [] h = refl
length_named words [] (role ∷ roles) h = refl
length_named words (spot ∷ spots) [] h = absurd (omega (arith, h))
length_named words (spot ∷ spots) (role ∷ roles) h = ap suc (length_named words spots roles (omega (arith, h)))

pub roles_named : (words : List (List Word)) (spots : List Spot) (roles : List Role) → length roles ≡ length spots → map (λ (name : WholeName). name.role) (named_by words spots roles) ≡ roles
roles_named words [] [] h = refl
roles_named words [] (role ∷ roles) h = absurd (omega (arith, h))
roles_named words (spot ∷ spots) [] h = absurd (omega (arith, h))
roles_named words (spot ∷ spots) (role ∷ roles) h = ap (λ (rest : List Role). role ∷ rest) (roles_named words spots roles (omega (arith, h)))

-- the word at a place
pub word_named : (words : List (List Word)) (spots : List Spot) (roles : List Role) (place : ℕ) (spot : Spot) → length roles ≡ length spots → slice_get spots place ≡ Some spot
    → slice_get (words_in (named_by words spots roles)) place ≡ Some (word_of words spot)
word_named words [] [] place spot h e = cc
word_named words [] (role ∷ roles) place spot h e = absurd (omega (arith, h))
word_named words (one ∷ spots) [] place spot h e = absurd (omega (arith, h))
word_named words (one ∷ spots) (role ∷ roles) zero spot h e = cc
word_named words (one ∷ spots) (role ∷ roles) (suc place) spot h e = word_named words spots roles place spot (omega (arith, h)) e
