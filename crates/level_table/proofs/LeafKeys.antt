-- The keys of the leaves' table are their values.
use Rattle.std.proofs.Common.{◌≡◌, ℕ, ℤ, ap, sym, ◌∙◌}
use Rattle.std.proofs.lemmas.Bool.Decides.{Decides-int_eq}
use Rattle.level_table.specs.declared.leaves.LeafEntry.{LeafEntry}
use Rattle.level_table.specs.Leaves.{IsOfValue, is_of_value, hash_of_value}
use Rattle.level_table.proofs.Keyed.{AreKeys}

abbrev pub value_of : LeafEntry → ℤ
value_of e = e.value

abbrev pub slot_of : LeafEntry → ℕ
slot_of e = e.slot

pub values : AreKeys IsOfValue is_of_value value_of
values = record {
  true_of = λ v e is. (Decides-int_eq e.value v).1 is;
  of-true = λ v e t. (Decides-int_eq e.value v).0 t;
  shared = λ v e f is too. too ∙ sym is;
  turned = λ e f is. sym is;
}

pub value-alike : (v : ℤ) (e : LeafEntry) → IsOfValue v e → hash_of_value e.value ≡ hash_of_value v
value-alike v e is = ap hash_of_value is
