-- The next slot of a variable in a held store.
use Rattle.std.proofs.Common.{◌≡◌, ℕ, ◌<◌, ◌≤◌, true, List, length, get_or, Option, Some, None, refl, ap, sym, ◌∙◌, subst}
use Rattle.std.specs.Prelude.{IfNone, IfSome}
use Rattle.std.proofs.lemmas.Bool.{eqb-true, eq-eqb}
use Rattle.edge_bits.specs.declared.words.Word.{Word}
use Rattle.edge_bits.specs.declared.words.Word.TheVariants.{Inner, Leaf}
use Rattle.edge_bits.specs.Reading.{slots_of}
use Rattle.edge_bits.specs.Words.{unpack_of}
use Rattle.function_laws.proofs.ValueLemmas.{everywhere}
use Rattle.node_store.specs.Contents.{Content, IsSound, is_node_of}
use Rattle.node_store.specs.Changes.{After, IsLeastFrom}
use Rattle.held_slots.specs.Linked.{HasNode, IsLinkedTo}
use Rattle.held_slots.specs.Notes.{Notes}
use Rattle.node_slots.specs.Stores.{slots}
use Rattle.node_slots.specs.Held.{Alone, Held, IsHeld, held_view}
use Rattle.node_slots.proofs.HeldLaws.{after_seen}
use Rattle.node_slots.proofs.HeldMarks.{with_notes}
use Rattle.node_slots.proofs.HeldRewriting.{Becomes}

-- a node of the variable, as a holder and as the notes tell it
has_node : (word : ℕ → Option Word) (v s : ℕ) → is_node_of v (word s) ≡ true → HasNode word v s
has_node word v s = by_word (word s) refl
  where
    by_word : (o : Option Word) → word s ≡ o → is_node_of v o ≡ true → HasNode word v s
    by_word None is h = cc
    by_word (Some (Leaf x)) is h = cc
    by_word (Some (Inner node)) is h = (node, is, eqb-true node.var v h)

is_node : (word : ℕ → Option Word) (v s : ℕ) → HasNode word v s → is_node_of v (word s) ≡ true
is_node word v s h = ap (is_node_of v) h.1 ∙ eq-eqb h.0.var v h.2

-- what the notes found is what the holder asks for
pub least_node : (word : ℕ → Option Word) (w : Held) → word ≡ slots w.plain → (v from : ℕ) (found : Option ℕ)
    → IfSome found (λ s. (from ≤ s) × HasNode word v s) → IfSome found (λ s. (t : ℕ) → from ≤ t → t < s → HasNode word v t → ⊥) → IfNone found ((t : ℕ) → from ≤ t → HasNode word v t → ⊥)
    → IsLeastFrom (held_view w) (λ s. is_node_of v ((held_view w).word s) ≡ true) from found
least_node word w same v from found some least none = subst (λ x. IsLeastFrom (held_view w) (λ s. is_node_of v (x s) ≡ true) from found) same (at found some least none)
  where
    at : (o : Option ℕ) → IfSome o (λ s. (from ≤ s) × HasNode word v s) → IfSome o (λ s. (t : ℕ) → from ≤ t → t < s → HasNode word v t → ⊥)
        → IfNone o ((t : ℕ) → from ≤ t → HasNode word v t → ⊥) → IsLeastFrom (held_view w) (λ s. is_node_of v (word s) ≡ true) from o
    at None some least none = λ s le h. none s le (has_node word v s h)
    at (Some s) some least none = (some.0, is_node word v s some.1, λ t le lt h. least t le lt (has_node word v t h))

-- the words that a walk reads
pub words_read : (q : Held) (ws : List ℕ) → ((s : ℕ) → get_or ws s 0 ≡ get_or q.plain.words s 0) → slots_of ws ≡ slots q.plain
words_read q ws words = everywhere (slots_of ws) (slots q.plain) (λ s. ap unpack_of (words s))

-- the links change, and nothing else
module _ (q : Held) (is : IsHeld q) (n : Notes) (marks : n.marks ≡ q.plain.marks) (pins : n.pins ≡ q.plain.pins) where
  pub noted_view : held_view q ≡ held_view (with_notes q n)
  noted_view = ap (λ xs. held_view (record q { plain = record q.plain { marks = xs } })) (sym marks) ∙ ap (λ xs. held_view (record q { plain = record q.plain { marks = n.marks; pins = xs } })) (sym pins)

  pub noted_held : (word : ℕ → Option Word) → word ≡ slots q.plain → IsLinkedTo word n.chain → IsHeld (with_notes q n)
  noted_held word same linked = record {
    sound = subst IsSound noted_view is.sound;
    variables_stand = is.variables_stand;
    elements_stand = is.elements_stand;
    permanent = record { constants = is.permanent.constants; projections = is.permanent.projections };
    few_variables = is.few_variables;
    few_elements = is.few_elements;
    room = is.room;
    counted = is.counted;
    marks_fit = ap length marks ∙ is.marks_fit;
    pins_fit = ap length pins ∙ is.pins_fit;
    nothing_due = is.nothing_due;
    forgotten = is.forgotten;
    linked = subst (λ w. IsLinkedTo w n.chain) same linked;
  }

module _ (q h : Held) (same : q ≡ h) (is : IsHeld q) (n : Notes) (marks : n.marks ≡ q.plain.marks) (pins : n.pins ≡ q.plain.pins)
    (word : ℕ → Option Word) (words : word ≡ slots q.plain) (linked : IsLinkedTo word n.chain) where
  pub next_held : IsHeld (with_notes q n)
  next_held = noted_held q is n marks pins word words linked

  pub next_after : After Alone (held_view h) (held_view (with_notes q n))
  next_after = subst (λ x. After Alone (held_view x) (held_view (with_notes q n))) same (after_seen (held_view q) (held_view (with_notes q n)) (sym (noted_view q is n marks pins)) next_held.sound)

-- the links of the notes were kept beside the words
pub noted : (w : Content) (q : Held) → Becomes w q → (n : Notes) → n.marks ≡ q.plain.marks → n.pins ≡ q.plain.pins → IsLinkedTo (slots q.plain) n.chain → Becomes w (with_notes q n)
noted w q b n marks pins linked = record {
  held = noted_held q b.held n marks pins (slots q.plain) refl linked;
  after = subst (After Alone w) (noted_view q b.held n marks pins) b.after;
}
