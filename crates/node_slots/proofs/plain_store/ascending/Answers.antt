use Rattle.std.proofs.Common.{◌≡◌, ℕ, zero, suc, ◌+◌, [], ◌∷◌, ◌++◌, add-zero, add-one, zero-add, refl, ap, sym, ◌∙◌, arith}
use Rattle.std.specs.List.{range_with_len}
use Rattle.node_slots.proofs.plain_store.ascending.Goals as goal

range-more : (a n : ℕ) → range_with_len a (suc n) ≡ range_with_len a n ++ (a + n) ∷ []
range-more a zero = rw add-zero refl
range-more a (suc n) = let e : a + suc n ≡ a + 1 + n = omega arith in rw e (ap (λ xs. a ∷ xs) (range-more (a + 1) n))

pub loop-level-preserved : goal.loop-level-preserved
loop-level-preserved c =
    let i = c.loop-level.level in
    c.in_ok-push.ensures.items ∙ rw (c.loop-level.invariant, add-one) (sym (range-more 0 i ∙ ap (λ n. range_with_len 0 i ++ n ∷ []) (zero-add i)))
