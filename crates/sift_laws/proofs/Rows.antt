-- A row worked out by hand. Of two families that are one where there are two elements, one has a part by an element above these that is not one with
-- any part of the other. So the law asks that a family's elements are below their number.
use Rattle.std.specs.Prelude.{◌≡◌, ◌==◌, true, false, [], ◌∷◌, refl}
use Rattle.edge_bits.specs.Assignments.{set_bit}
use Rattle.function_laws.specs.Lists.{all_below}
use Rattle.function_laws.specs.declared.orders.Order.TheVariants.{Variables}
use Rattle.function_laws.specs.Kinds.{ZddFamily, Denoted}
use Rattle.function_laws.specs.Sizes.{is_one, distinct, parts, all_parts}
use Rattle.function_laws.specs.SiftedOrders.{sifted}
use Rattle.sift_laws.specs.Alike.{rising_orders, whole_block}

-- no member; the member {0, 5} alone
none : Denoted
none = ZddFamily (λ a. false)

some : Denoted
some = ZddFamily (λ a. a == 33)

are_one : is_one (rising_orders 0 (5 ∷ 6 ∷ [])) none some ≡ true
unfolding none some all_below
are_one = refl

-- the constant of BDDs, Empty, Base and the numbers 0 and 1; and, of the second, {{0}} too: the part by element 5
fewer : (sifted (rising_orders 0 (5 ∷ 6 ∷ [])) Variables (whole_block 0) 100 (none ∷ [])).before ≡ 5
unfolding none parts all_parts distinct all_below set_bit
fewer = refl

more : (sifted (rising_orders 0 (5 ∷ 6 ∷ [])) Variables (whole_block 0) 100 (some ∷ [])).before ≡ 6
unfolding some parts all_parts distinct all_below set_bit
more = refl
