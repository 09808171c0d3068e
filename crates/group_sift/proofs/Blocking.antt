-- Blocks that are made one after another.
use Rattle.std.proofs.Common.{◌≡◌, ℕ, ◌+◌, ◌<◌, ◌≤◌, List, [], ◌∷◌, ◌++◌, length, get_or, drop, append_assoc, refl, sym, ap, ◌∙◌, subst, arith}
use Rattle.std.proofs.lemmas.List.{at_drop_more, at_drop_all, map-append}
use Rattle.function_laws.specs.declared.orders.Mode.{Mode}
use Rattle.function_laws.specs.SiftedOrders.{Block}
use Rattle.group_sift.specs.declared.turns.BlockEnd.{BlockEnd}
use Rattle.group_sift.specs.Turns.{block_of, blocks_of, Rise, last_end, paired}

rise_rest : (s : ℕ) (a b : List Block) → Rise s (a ++ b) → Rise (last_end s a) b
rise_rest s [] b h = h
rise_rest s (x ∷ a) b h = rise_rest x.end a b h.1

rise_push : (s : ℕ) (a : List Block) (b : Block) → Rise s a → last_end s a < b.end → Rise s (a ++ b ∷ [])
rise_push s [] b h lt = (lt, tt)
rise_push s (x ∷ a) b h lt = (h.0, rise_push x.end a b h.1 lt)

last_push : (s : ℕ) (a : List Block) (b : Block) → last_end s (a ++ b ∷ []) ≡ b.end
last_push s [] b = refl
last_push s (x ∷ a) b = last_push x.end a b

append_nil : {X : Type 0} (xs : List X) → xs ++ [] ≡ xs
append_nil [] = refl
append_nil (x ∷ xs) = ap (λ t. x ∷ t) (append_nil xs)

pair_next : (es : List ℕ) (ms : List Mode) (i : ℕ) (d : ℕ) (m : Mode) → i < length es → i < length ms
    → paired (drop i es) (drop i ms) ≡ record { end = get_or es i d; mode = get_or ms i m } ∷ paired (drop (i + 1) es) (drop (i + 1) ms)
pair_next es ms i d m le lm = at_drop_more (λ l. paired l (drop i ms)) es i d le ∙ at_drop_more (λ l. paired (get_or es i d ∷ drop (i + 1) es) l) ms i m lm

module _ (es : List ℕ) (ms : List Mode) (i last : ℕ) (d : ℕ) (m : Mode) (le : i < length es) (lm : i < length ms) (now : List BlockEnd) (so_far : blocks_of now ++ paired (drop i es) (drop i ms) ≡ paired es ms)
    (rise : Rise 0 (blocks_of now)) (end_is : last_end 0 (blocks_of now) ≡ last) where
  pub none_here : get_or es i d ≤ last → Rise 0 (paired es ms) → ⊥
  none_here small h =
      let r = subst (Rise (last_end 0 (blocks_of now))) (pair_next es ms i d m le lm) (rise_rest 0 (blocks_of now) (paired (drop i es) (drop i ms)) (subst (Rise 0) (sym so_far) h)) in
      let lt = r.0 in
      omega (arith, lt, small, end_is)

  pub one_more : (b : BlockEnd) (next : List BlockEnd) → b.end ≡ get_or es i d → b.mode ≡ get_or ms i m → last < b.end → next ≡ now ++ b ∷ []
      → (blocks_of next ++ paired (drop (i + 1) es) (drop (i + 1) ms) ≡ paired es ms) × Rise 0 (blocks_of next) × (last_end 0 (blocks_of next) ≡ b.end)
  one_more b next be bm lt e =
      let n : blocks_of next ≡ blocks_of now ++ block_of b ∷ [] = ap blocks_of e ∙ map-append block_of now (b ∷ []) in
      let same : (let x : Block = record { end = get_or es i d; mode = get_or ms i m } in x) ≡ block_of b =
      ap (λ (k : ℕ). let x : Block = record { end = k; mode = get_or ms i m } in x) (sym be) ∙ ap (λ (k : Mode). let x : Block = record { end = b.end; mode = k } in x) (sym bm) in (
        ap (λ t. t ++ paired (drop (i + 1) es) (drop (i + 1) ms)) n ∙ append_assoc (blocks_of now) (block_of b ∷ []) (paired (drop (i + 1) es) (drop (i + 1) ms))
            ∙ ap (λ x. blocks_of now ++ x ∷ paired (drop (i + 1) es) (drop (i + 1) ms)) (sym same) ∙ ap (λ t. blocks_of now ++ t) (sym (pair_next es ms i d m le lm)) ∙ so_far,
        subst (Rise 0) (sym n) (rise_push 0 (blocks_of now) (block_of b) rise (omega (arith, end_is, lt))),
        ap (last_end 0) n ∙ last_push 0 (blocks_of now) (block_of b),
      )

pub all_made : (es : List ℕ) (ms : List Mode) (i : ℕ) (now : List BlockEnd) → length es ≤ i → blocks_of now ++ paired (drop i es) (drop i ms) ≡ paired es ms → blocks_of now ≡ paired es ms
all_made es ms i now le h = sym (append_nil (blocks_of now)) ∙ ap (λ t. blocks_of now ++ t) (sym (at_drop_all (λ l. paired l (drop i ms)) es i le)) ∙ h
