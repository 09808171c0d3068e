-- What a swap leaves of an order is what its entry in a history says.
use Rattle.std.proofs.Common.{◌≡◌, ℕ, zero, suc, ◌+◌, ◌<◌, List, [], ◌∷◌, ◌++◌, length, refl, sym, ap, ◌∙◌, subst, arith}
use Rattle.std.specs.Prelude.{slice_index, take, drop}
use Rattle.std.specs.List.{swap}
use Rattle.function_laws.specs.declared.orders.Order.TheVariants.{Variables, Elements}
use Rattle.function_laws.specs.declared.history.Call.TheVariants.{Swap, SwapElements}
use Rattle.function_laws.specs.EntryOrders.{exchanged as entry_exchanged, orders_done}
use Rattle.function_laws.specs.Sizes.{Orders}
use Rattle.function_laws.proofs.MovedOrders.{swap-cons}
use Rattle.node_store.specs.Changes.{exchanged}

neighbours : (l : ℕ) (xs : List ℕ) → suc l < length xs → take l xs ++ slice_index xs (suc l) ∷ slice_index xs l ∷ drop (suc (suc l)) xs ≡ swap xs l (suc l)
neighbours l [] lt = absurd (omega arith)
neighbours zero (x ∷ []) lt = absurd (omega arith)
neighbours zero (x ∷ (y ∷ zs)) lt = refl
neighbours (suc l) (z ∷ zs) lt = ap (λ ys. z ∷ ys) (neighbours l zs (omega arith)) ∙ sym (swap-cons z zs l (suc l) (omega arith) (omega arith))

same_exchange : (l : ℕ) (xs : List ℕ) → l + 1 < length xs → entry_exchanged l xs ≡ swap xs l (l + 1)
same_exchange l xs lt =
    let one : suc l ≡ l + 1 = omega arith in
    let two : suc (suc l) ≡ l + 2 = omega arith in
    subst (λ m. take l xs ++ slice_index xs (l + 1) ∷ slice_index xs l ∷ drop m xs ≡ swap xs l (l + 1)) two
    (subst (λ m. take l xs ++ slice_index xs m ∷ slice_index xs l ∷ drop (suc (suc l)) xs ≡ swap xs l m) one (neighbours l xs (omega arith)))

-- of the variables, and of the elements
pub variables_entry : (o : Orders) (l : ℕ) → l + 1 < length o.variables → exchanged o Variables l ≡ orders_done o (Swap l)
variables_entry o l lt = ap (λ xs. record o { variables = xs }) (sym (same_exchange l o.variables lt))

pub elements_entry : (o : Orders) (l : ℕ) → l + 1 < length o.elements → exchanged o Elements l ≡ orders_done o (SwapElements l)
elements_entry o l lt = ap (λ xs. record o { elements = xs }) (sym (same_exchange l o.elements lt))
