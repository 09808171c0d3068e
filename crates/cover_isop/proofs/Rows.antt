-- Functions of covers, computed.
use Rattle.std.proofs.Common.{◌≡◌, ◌==◌, ◌||◌, true, false, [], ◌∷◌, refl}
use Rattle.function_laws.specs.Families.{base, empty, single}
use Rattle.function_laws.specs.IrredundantCovers.{cover_value}
use Rattle.function_laws.specs.Lists.{all_below, any_below, list_of}
use Rattle.function_laws.specs.Values.{projection}
use Rattle.cover_isop.specs.Covers.{narrowed}

-- of the variables x and y: x y' alone, with x' y, and of the elements of both variables
x_alone : list_of 4 (cover_value 2 4 (λ c. c == 9)) ≡ false ∷ true ∷ false ∷ false ∷ []
unfolding list_of cover_value any_below all_below
x_alone = refl

one_of_two : list_of 4 (cover_value 2 4 (λ c. (c == 9) || (c == 6))) ≡ false ∷ true ∷ true ∷ false ∷ []
unfolding list_of cover_value any_below all_below
one_of_two = refl

-- both literals of a variable never hold
both_literals : list_of 4 (cover_value 2 4 (λ c. c == 3)) ≡ false ∷ false ∷ false ∷ false ∷ []
unfolding list_of cover_value any_below all_below
both_literals = refl

-- elements beyond the literals of one variable are passed over, and without variables all are
beyond_one : list_of 2 (cover_value 1 4 (λ c. c == 9)) ≡ false ∷ true ∷ []
unfolding list_of cover_value any_below all_below
beyond_one = refl

beyond_none : list_of 1 (cover_value 0 4 (single 2)) ≡ true ∷ []
unfolding list_of cover_value any_below all_below
beyond_none = refl

no_combination : list_of 2 (cover_value 1 2 empty) ≡ false ∷ false ∷ []
unfolding list_of cover_value any_below all_below
no_combination = refl

no_literal : list_of 2 (cover_value 1 2 base) ≡ true ∷ true ∷ []
unfolding list_of cover_value any_below all_below
no_literal = refl

-- the literals of the second variable, and an element that is none
second_literal : list_of 4 (narrowed 2 2 (projection 0)) ≡ false ∷ false ∷ false ∷ true ∷ []
unfolding list_of
second_literal = refl

second_complement : list_of 4 (narrowed 2 3 (projection 0)) ≡ false ∷ true ∷ false ∷ false ∷ []
unfolding list_of
second_complement = refl

no_third : list_of 4 (narrowed 2 4 (projection 0)) ≡ false ∷ true ∷ false ∷ true ∷ []
unfolding list_of
no_third = refl
