-- What a table's slots are emptied of, and which table a seat is at.
use Rattle.std.proofs.Common.{◌≡◌, ℕ, ◌+◌, ◌<◌, ◌≤◌, List, inl, inr, Bool, true, false, length, set, get_or, get_or-set_same, get_or-set_other, ap, ◌∙◌, arith}
use Rattle.std.proofs.lemmas.Bool.{cases_eq}
use Rattle.atomic_table.specs.Seated.{TableId}
use Rattle.words_rule.specs.declared.view.Besides.{Besides}

-- one place more is empty
pub emptied_more : (fs gs : List Bool) (i n m : ℕ) → gs ≡ set fs i false → m ≡ n → i < length fs → ((k : ℕ) → i ≤ k → k < n → get_or fs k false ≡ true) → ((k : ℕ) → k < i → get_or fs k false ≡ false)
    → ((k : ℕ) → i + 1 ≤ k → k < m → get_or gs k false ≡ true) × ((k : ℕ) → k < i + 1 → get_or gs k false ≡ false)
emptied_more fs gs i n m same many within full empty = (
  λ k le lt. ap (λ l. get_or l k false) same ∙ get_or-set_other fs i k false false (λ e. omega (arith, e, le)) ∙ full k (omega (arith, le)) (omega (arith, lt, many)),
  λ k lt. ap (λ l. get_or l k false) same ∙ elim (cases_eq k i) [
    | inl e ↦ ap (λ j. get_or (set fs i false) j false) e ∙ get_or-set_same fs i false false within
    | inr ne ↦ get_or-set_other fs i k false false ne ∙ empty k (omega (arith, lt, ne))
  ],
)

-- which table it is, by what stays
abbrev pub table_in : Besides → TableId
table_in b = record { words = b.words; slots = b.slots; views_name = b.views_name; atom = b.atom; block = b.block; offset = b.offset; slot_names = b.slot_names }
