-- What is found among the words in hand, and how many of them pass a test, as a sweep or a swap sees it.
use Rattle.std.proofs.Common.{◌≡◌, ℕ, ◌<◌, ◌≤◌, Bool, true, false, List, [], length, get_or, Option, Some, None, refl, ap, sym, ◌∙◌, subst}
use Rattle.std.specs.Prelude.{IfNone, IfSome}
use Rattle.std.specs.List.{count_by, filter, range_with_len}
use Rattle.std.proofs.lemmas.Bool.{eqb-true, eq-eqb}
use Rattle.edge_bits.specs.declared.words.Word.{Word}
use Rattle.edge_bits.specs.declared.words.Word.TheVariants.{Inner, Leaf}
use Rattle.edge_bits.specs.Reading.{slots_of}
use Rattle.edge_bits.specs.Words.{unpack_of}
use Rattle.function_laws.proofs.ValueLemmas.{everywhere}
use Rattle.held_slots.specs.Arcs.{IsNamedIn}
use Rattle.held_slots.specs.Linked.{HasNode}
use Rattle.node_store.specs.Contents.{Content, IsNamed, count_slots, is_node_of}
use Rattle.node_store.specs.Changes.{IsLeastFrom}
use Rattle.node_slots.specs.Stores.{Plain}
use Rattle.node_slots.proofs.Looking.{count_words}

-- a node of the variable, as a holder and as the notes tell it
has_node : (word : ℕ → Option Word) (v s : ℕ) → is_node_of v (word s) ≡ true → HasNode word v s
has_node word v s = by_word (word s) refl
  where
    by_word : (o : Option Word) → word s ≡ o → is_node_of v o ≡ true → HasNode word v s
    by_word None is h = cc
    by_word (Some (Leaf x)) is h = cc
    by_word (Some (Inner node)) is h = (node, is, eqb-true node.var v h)

is_node : (word : ℕ → Option Word) (v s : ℕ) → HasNode word v s → is_node_of v (word s) ≡ true
is_node word v s h = ap (is_node_of v) h.1 ∙ eq-eqb h.0.var v h.2

-- what the notes found is what the holder asks for
pub least_node : (word : ℕ → Option Word) (w : Content) → word ≡ w.word → (v from : ℕ) (found : Option ℕ)
    → IfSome found (λ s. (from ≤ s) × HasNode word v s) → IfSome found (λ s. (t : ℕ) → from ≤ t → t < s → HasNode word v t → ⊥) → IfNone found ((t : ℕ) → from ≤ t → HasNode word v t → ⊥)
    → IsLeastFrom w (λ s. is_node_of v (w.word s) ≡ true) from found
least_node word w same v from found some least none = subst (λ (x : ℕ → Option Word). IsLeastFrom w (λ s. is_node_of v (x s) ≡ true) from found) same (at found some least none)
  where
    at : (o : Option ℕ) → IfSome o (λ s. (from ≤ s) × HasNode word v s) → IfSome o (λ s. (t : ℕ) → from ≤ t → t < s → HasNode word v t → ⊥)
        → IfNone o ((t : ℕ) → from ≤ t → HasNode word v t → ⊥) → IsLeastFrom w (λ s. is_node_of v (word s) ≡ true) from o
    at None some least none = λ s le h. none s le (has_node word v s h)
    at (Some s) some least none = (some.0, is_node word v s some.1, λ t le lt h. least t le lt (has_node word v t h))

-- the same of any test
pub least_word : (word : ℕ → Option Word) (w : Content) → word ≡ w.word → (test : Option Word → Bool) (from : ℕ) (found : Option ℕ)
    → IfSome found (λ s. (from ≤ s) × (test (word s) ≡ true)) → IfSome found (λ s. (t : ℕ) → from ≤ t → t < s → test (word t) ≡ true → ⊥) → IfNone found ((t : ℕ) → from ≤ t → test (word t) ≡ true → ⊥)
    → IsLeastFrom w (λ s. test (w.word s) ≡ true) from found
least_word word w same test from found some least none = subst (λ (x : ℕ → Option Word). IsLeastFrom w (λ s. test (x s) ≡ true) from found) same (at found some least none)
  where
    at : (o : Option ℕ) → IfSome o (λ s. (from ≤ s) × (test (word s) ≡ true)) → IfSome o (λ s. (t : ℕ) → from ≤ t → t < s → test (word t) ≡ true → ⊥)
        → IfNone o ((t : ℕ) → from ≤ t → test (word t) ≡ true → ⊥) → IsLeastFrom w (λ s. test (word s) ≡ true) from o
    at None some least none = none
    at (Some s) some least none = (some.0, some.1, least)

abbrev of_words : List ℕ → Plain
of_words words = record {
  variable_levels = [];
  element_levels = [];
  variables_at = [];
  elements_at = [];
  words = words;
  counts = [];
  marks = [];
  pins = [];
  sweeping = false;
  fulls = 0;
  due = None;
  memo = [];
  scratch_room = 0;
}

-- how many slots pass a test, by the words
pub count_held : (w : Content) (words : List ℕ) (test : Option Word → Bool) → slots_of words ≡ w.word → length words ≡ w.limit → count_slots w test ≡ count_by (λ bits. test (unpack_of bits)) words
count_held w words test same long =
    ap (λ (f : ℕ → Option Word). length (filter (λ s. test (f s)) (range_with_len 0 w.limit))) (sym same)
    ∙ ap (λ n. length (filter (λ s. test (slots_of words s)) (range_with_len 0 n))) (sym long)
    ∙ count_words (of_words words) test

-- the words that a call reads are those in hand
pub words_read : (all words : List ℕ) → ((s : ℕ) → get_or words s 0 ≡ get_or all s 0) → slots_of words ≡ slots_of all
words_read all words same = everywhere (slots_of words) (slots_of all) (λ s. ap unpack_of (same s))

-- a node that names a slot
pub named_in : (w : Content) (words : List ℕ) (s : ℕ) → slots_of words ≡ w.word → IsNamed w s → IsNamedIn words s
named_in w words s same n = (n.0, n.1, ap (λ (f : ℕ → Option Word). f n.0) same ∙ n.2, n.3)

pub names : (w : Content) (words : List ℕ) (s : ℕ) → slots_of words ≡ w.word → IsNamedIn words s → IsNamed w s
names w words s same n = (n.0, n.1, sym (ap (λ (f : ℕ → Option Word). f n.0) same) ∙ n.2, n.3)
