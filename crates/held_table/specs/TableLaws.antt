-- What is so of each table with one holder.
use Rattle.std.proofs.Common.{◌≡◌, Bool, true, false, List, ℕ, Some, None, refl, subst}
use Rattle.std.specs.Prelude.{if◌then◌else◌}
use Rattle.hold_store.specs.Held.{IsFreeList, Stands}
use Rattle.held_table.specs.declared.table.HeldTable.{HeldTable}
use Rattle.held_table.specs.Tables.{IsTable, free_in, known_of, view_of}

some_same : (a b : List ℕ) → Some a ≡ Some b → a ≡ b
some_same a b e = cc

none_some : (a : List ℕ) → None ≡ Some a → ⊥
none_some a e = cc

pub table_stands : (t : HeldTable) → IsTable t → Stands (known_of t)
table_stands t i = record {
  sound = i.sound;
  reads = λ s. refl;
  fits = i.words.fits;
  some_heads = i.words.some_heads;
  few_heads = i.words.few_heads;
  free_list = λ list. by t.has_free list;
}
  where
    by : (has : Bool) (list : List ℕ) → (if has then Some (free_in t) else None) ≡ Some list → IsFreeList (view_of t) list
    by true list is = subst (IsFreeList (view_of t)) (some_same (free_in t) list is) i.free.list
    by false list is = absurd (none_some list is)
