-- What is so of each seat of a table with one user.
use Rattle.std.proofs.Common.{◌≡◌, inl, inr, ℕ, ◌<◌, length, Some, refl, ap, sym, ◌∙◌, arith}
use Rattle.std.proofs.lemmas.Bool.{cases_lt}
use Rattle.edge_bits.specs.declared.words.Word.{Word}
use Rattle.edge_bits.specs.declared.words.Word.TheVariants.{Leaf}
use Rattle.edge_bits.specs.Permanent.{base_slot}
use Rattle.function_laws.specs.Families.{base}
use Rattle.function_laws.specs.Kinds.{Denoted, ValueOf, ZddFamily, function_of}
use Rattle.node_store.specs.Contents.{constant_value}
use Rattle.node_store.specs.Views.{values_at}
use Rattle.node_slots.specs.Stores.{IsStore, content_of, longest, plain_view, slots}
use Rattle.node_slots.proofs.Calls.{permanent_is, projection_denotes}
use Rattle.node_slots.proofs.Canonical.{same_edge}
use Rattle.node_slots.proofs.Reading.{in_words, used}
use Rattle.step_store.specs.declared.table.Core.{Core}
use Rattle.step_store.specs.declared.table.PlainTable.{PlainTable}
use Rattle.step_store.specs.Knowing.{Stands}
use Rattle.step_store.specs.Plain.{IsCore, known_of, store_of}

-- a slot with a word is one of the table's
pub slot_within : (t : Core) (s : ℕ) (word : Word) → slots (store_of t) s ≡ Some word → s < length t.words.items
slot_within t s word is = in_words t.words.items s word is

-- what denotes a function has a word
pub word_there : (t : Core) → IsStore (store_of t) → (s : ℕ) (f : Denoted) → content_of (store_of t) s ≡ Some f → (word : Word) × (slots (store_of t) s ≡ Some word)
word_there t st s f is = elim (cases_lt s 5) [
  | inl lt ↦ (Leaf (constant_value s), st.permanent.constants s lt)
  | inr le ↦ used (slots (store_of t)) (longest (store_of t)) s f (omega (arith, le)) is
]

-- what is so of each seat of a walk
pub base_stands : (t : PlainTable) → IsCore t.core → (known_of t).view.content base_slot ≡ Some (ZddFamily base)
base_stands t i = (permanent_is (store_of t.core) i.store).base

-- what is so of each seat
pub tables_stand : (t : PlainTable) → IsCore t.core → Stands (known_of t)
tables_stand t i =
    let st = i.store in
    let p = store_of t.core in record {
      permanent = permanent_is p st;
      projections = λ v lt. (let f = st.few_variables in projection_denotes p st v (omega (arith, lt, f), lt));
      canonical = λ j e f is its same. same_edge p st.permanent st.canonical e f (function_of j (values_at j (plain_view p) e)) is.is (its.is ∙ ap (λ (x : ℕ → ValueOf j). Some (function_of j x)) (sym same));
      within = λ s f is. (let w = word_there t.core st s f is in slot_within t.core s w.0 w.1);
      few_variables = (let f = st.few_variables in omega (arith, f));
      few_elements = (let f = st.few_elements in omega (arith, f));
      few_slots = (let f = st.few_words in omega (arith, f));
      some_heads = i.some_heads;
      few_heads = i.few_heads;
      few_fulls = i.few_fulls;
      never_wants = refl;
    }
