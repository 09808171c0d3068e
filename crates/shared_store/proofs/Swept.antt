-- What all sessions hold lasts through a sweep.
use Rattle.std.proofs.Common.{◌≡◌, ℕ, ◌<◌, Bool, true, false, length, Option, Some, None, refl, ap, sym, ◌∙◌, inr, arith}
use Rattle.edge_bits.specs.declared.words.Word.{Word}
use Rattle.edge_bits.specs.Reading.{itself}
use Rattle.function_laws.specs.Sizes.{Orders}
use Rattle.node_store.specs.Contents.{Content, IsSound}
use Rattle.node_store.specs.Sweeps.{IsReached}
use Rattle.node_slots.specs.Held.{Alone}
use Rattle.node_slots.specs.Stores.{Plain, IsStore, count_at, generation_at}
use Rattle.node_slots.specs.Wholes.{content_view}
use Rattle.node_slots.proofs.Settling.{settled_sound}
use Rattle.dead_sweep.specs.declared.sweeping.Swept.{Swept}
use Rattle.dead_sweep.specs.Swept.{IsSwept}
use Rattle.shared_store.specs.declared.shared.Shared.{Shared}
use Rattle.shared_store.specs.Sharing.{view_of}
use Rattle.shared_store.specs.Lasting.{Lasts}
use Rattle.shared_store.proofs.Keeping.{IsHeldIn-same}

module _ (others : (ℕ → ℕ) → (ℕ → ℕ) → Type 0) (old new : Content) (swept : Swept) (is : IsSwept others old new swept) where
  -- a slot with a count above 0 is reached, where nobody counts meanwhile
  counted-reached : IsSound old → new.count ≡ old.count → (s : ℕ) → 0 < old.count s → IsReached old is.is_root s
  counted-reached sound same s some = by (is.is_root s) refl (old.word s) refl
    where
      by : (b : Bool) → is.is_root s ≡ b → (o : Option Word) → old.word s ≡ o → IsReached old is.is_root s
      by true root (Some word) word_is = (s, inr ((word, word_is), root), itself)
      by true root None free = absurd (let z = sound.uncounted s free in omega (arith, z, some))
      by false root o word_is = absurd (let z = (is.zero_after s root).0 in let c = ap (λ (f : ℕ → ℕ). f s) same in omega (arith, z, c, some))

  -- Each slot with a count above 0 keeps its word, its function and its generation.
  pub counted-kept : IsSound old → new.count ≡ old.count → (s : ℕ) → 0 < old.count s
      → (new.word s ≡ old.word s) × (new.function s ≡ old.function s) × (new.generation s ≡ old.generation s)
  counted-kept sound same s some =
      let reached = counted-reached sound same s some in
      let word = is.kept_word s reached in
      (word, is.kept_function s reached, is.kept_generation s word)

-- a sweep of a store by its one holder
swept-kept : (p q : Plain) (swept : Swept) → IsStore p → IsSwept Alone (content_view p) (content_view q) swept → (s : ℕ) → 0 < count_at p s
    → ((content_view q).word s ≡ (content_view p).word s) × ((content_view q).function s ≡ (content_view p).function s) × ((content_view q).generation s ≡ (content_view p).generation s)
swept-kept p q swept of is s some = counted-kept Alone (content_view p) (content_view q) swept is (settled_sound p of) is.counts s some

pub generations-swept : (p q : Plain) (swept : Swept) → IsStore p → IsSwept Alone (content_view p) (content_view q) swept → (k : ℕ) → 0 < count_at p k → generation_at q k ≡ generation_at p k
generations-swept p q swept of is k some = (swept-kept p q swept of is k some).2

pub lasts-swept : (x y : Shared) (swept : Swept) → IsStore x.store → IsStore y.store → IsSwept Alone (content_view x.store) (content_view y.store) swept → y.cells.items ≡ x.cells.items → Lasts x y
lasts-swept x y swept of of' is cells = record {
  held = λ h some held. IsHeldIn-same (view_of x) (view_of y) h (record { vars = vars; elements = elements; content = (swept-kept x.store y.store swept of is h.edge.index some).1 }) held;
  cells = cells;
  counts_are = λ i. (vars i, elements i, is.limit i);
}
  where
    vars : (view_of y).vars ≡ (view_of x).vars
    vars = sym of'.variables_stand.as_many ∙ ap (λ (o : Orders). length o.variables) is.orders ∙ of.variables_stand.as_many

    elements : (view_of y).elements ≡ (view_of x).elements
    elements = sym of'.elements_stand.as_many ∙ ap (λ (o : Orders). length o.elements) is.orders ∙ of.elements_stand.as_many
