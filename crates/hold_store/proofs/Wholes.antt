-- What a call on a holder's store leaves.
use Rattle.std.proofs.Common.{◌≡◌, ℕ, ◌<◌, Bool, true, false, List, length, get_or, set, Option, Some, None, refl, ap, sym, ◌∙◌, arith}
use Rattle.std.proofs.lemmas.List.{length-set, get_or-set_other, get_or-set_same}
use Rattle.edge_bits.specs.Reading.{slots_of}
use Rattle.edge_bits.specs.Words.{unpack_of}
use Rattle.edge_bits.specs.declared.words.Word.{Word}
use Rattle.held_slots.specs.Linked.{IsChangedAt, IsLinkedTo}
use Rattle.held_slots.specs.Notes.{Notes, flag}
use Rattle.node_store.specs.Contents.{Content, IsSound, IsUsed}
use Rattle.node_store.specs.Changes.{After, put_at}
use Rattle.node_store.proofs.Marking.{held_sound}
use Rattle.node_slots.specs.Stores.{is_set}
use Rattle.node_slots.proofs.HeldLaws.{slots_put}
use Rattle.node_slots.proofs.Holding.{flags_put}
use Rattle.hold_store.specs.Held.{Knowledge, Stands, ZeroStays}
use Rattle.hold_store.specs.Noted.{AreNoted, IsHolding, content_of}

-- the store is this content, but for what others did to the counts
pub record Becomes (w : Content) (k : Knowledge) (words : List ℕ) (notes : Notes) (sweeping : Bool) : Type 0 where
  pub holding : IsHolding k words notes sweeping
  pub after : After ZeroStays w (content_of k notes.marks sweeping)

-- marks and sweeps are no matter of what is sound
pub marked_sound : (k : Knowledge) → Stands k → (marks : ℕ → Bool) (on : Bool) → IsSound (record k.content { marked = marks; sweeping = on })
marked_sound k stands marks on = held_sound k.content k.content.count k.content.generation marks k.content.pinned on stands.sound stands.sound.few_counts stands.sound.uncounted stands.sound.unpinned

after_but : (w new : Content) → new ≡ record w { count = new.count } → ZeroStays w.count new.count → IsSound new → After ZeroStays w new
after_but w new e stays sound = record {
  orders = ap (λ (x : Content). x.orders) e;
  limit = ap (λ (x : Content). x.limit) e;
  word = ap (λ (x : Content). x.word) e;
  function = ap (λ (x : Content). x.function) e;
  generation = ap (λ (x : Content). x.generation) e;
  marked = ap (λ (x : Content). x.marked) e;
  pinned = ap (λ (x : Content). x.pinned) e;
  sweeping = ap (λ (x : Content). x.sweeping) e;
  half = ap (λ (x : Content). x.half) e;
  counts = stays;
  sound = sound;
}

pub becomes : (w : Content) (k : Knowledge) (words : List ℕ) (notes : Notes) (on : Bool) (marks : ℕ → Bool) → Stands k → k.content ≡ record w { count = k.content.count } → ZeroStays w.count k.content.count
    → is_set notes.marks ≡ marks → IsHolding k words notes on → Becomes (record w { marked = marks; sweeping = on }) k words notes on
becomes w k words notes on marks stands e stays marked holding = record {
  holding = holding;
  after = after_but (record w { marked = marks; sweeping = on }) (content_of k notes.marks on)
      (ap (λ (c : Content). record c { marked = is_set notes.marks; sweeping = on }) e ∙ ap (λ (m : ℕ → Bool). record w { count = k.content.count; marked = m; sweeping = on }) marked)
      stays (marked_sound k stands (is_set notes.marks) on);
}

-- the content is this one, and no count was loaded
pub becomes_same : (w : Content) (k : Knowledge) (words : List ℕ) (notes : Notes) (on : Bool) (marks : ℕ → Bool) → Stands k → k.content ≡ w → is_set notes.marks ≡ marks → IsHolding k words notes on
    → Becomes (record w { marked = marks; sweeping = on }) k words notes on
becomes_same w k words notes on marks stands e marked holding =
    let counts : k.content.count ≡ w.count = ap (λ (x : Content). x.count) e in
    becomes w k words notes on marks stands (e ∙ ap (λ (c : ℕ → ℕ). record w { count = c }) (sym counts)) (λ s none. ap (λ (c : ℕ → ℕ). c s) counts ∙ none) marked holding

-- the words in hand after one was set
words_written : (k new : Knowledge) (words words' : List ℕ) (slot bits : ℕ) (o : Option Word) → slots_of words ≡ k.content.word → words' ≡ set words slot bits → slot < length words → unpack_of bits ≡ o
    → new.content.word ≡ put_at k.content.word slot o → slots_of words' ≡ new.content.word
words_written k new words words' slot bits o are written within reads becomes =
    ap slots_of written ∙ sym (slots_put words slot bits within) ∙ ap (put_at (slots_of words) slot) reads ∙ ap (λ (f : ℕ → Option Word). put_at f slot o) are ∙ sym becomes

module _ (k : Knowledge) (words : List ℕ) (notes : Notes) (noted : AreNoted k words notes) where
  -- the links alone are others
  pub relinked : (new : Knowledge) (notes' : Notes) → new.content.word ≡ k.content.word → new.content.limit ≡ k.content.limit → new.content.pinned ≡ k.content.pinned → notes'.marks ≡ notes.marks → notes'.pins ≡ notes.pins
      → IsLinkedTo (slots_of words) notes'.chain → AreNoted new words notes'
  relinked new notes' word limit pinned marks pins linked = record {
    words_are = noted.words_are ∙ sym word;
    long = noted.long ∙ sym limit;
    marks_fit = ap length marks ∙ noted.marks_fit ∙ sym limit;
    pins_fit = ap length pins ∙ noted.pins_fit ∙ sym limit;
    pins_are = ap is_set pins ∙ noted.pins_are ∙ sym pinned;
    linked = linked;
  }

  -- one word is another
  pub written : (new : Knowledge) (words' : List ℕ) (notes' : Notes) (slot bits : ℕ) (o : Option Word) → slot < k.content.limit → words' ≡ set words slot bits → unpack_of bits ≡ o → new.content.word ≡ put_at k.content.word slot o
      → new.content.limit ≡ k.content.limit → new.content.pinned ≡ k.content.pinned → notes'.marks ≡ notes.marks → notes'.pins ≡ notes.pins → IsLinkedTo (slots_of words') notes'.chain → AreNoted new words' notes'
  written new words' notes' slot bits o within is reads word limit pinned marks pins linked = record {
    words_are = words_written k new words words' slot bits o noted.words_are is (let l = noted.long in omega (arith, within, l)) reads word;
    long = ap length is ∙ length-set words slot bits ∙ noted.long ∙ sym limit;
    marks_fit = ap length marks ∙ noted.marks_fit ∙ sym limit;
    pins_fit = ap length pins ∙ noted.pins_fit ∙ sym limit;
    pins_are = ap is_set pins ∙ noted.pins_are ∙ sym pinned;
    linked = linked;
  }

  -- a mark is another
  pub marked : (marks : List ℕ) → length marks ≡ length notes.marks → AreNoted k words (record notes { marks = marks })
  marked marks long = record { words_are = noted.words_are; long = noted.long; marks_fit = long ∙ noted.marks_fit; pins_fit = noted.pins_fit; pins_are = noted.pins_are; linked = noted.linked }

  pub put_mark : (slot : ℕ) (on : Bool) → slot < k.content.limit → is_set (set notes.marks slot (flag on)) ≡ put_at (is_set notes.marks) slot on
  put_mark slot on within = flags_put notes.marks slot on (let f = noted.marks_fit in omega (arith, within, f)) (set notes.marks slot (flag on)) refl

  -- a pin is another
  pub pinned : (new : Knowledge) (slot : ℕ) (on : Bool) → slot < k.content.limit → new.content.word ≡ k.content.word → new.content.limit ≡ k.content.limit → new.content.pinned ≡ put_at k.content.pinned slot on
      → AreNoted new words (record notes { pins = set notes.pins slot (flag on) })
  pinned new slot on within word limit pins = record {
    words_are = noted.words_are ∙ sym word;
    long = noted.long ∙ sym limit;
    marks_fit = noted.marks_fit ∙ sym limit;
    pins_fit = length-set notes.pins slot (flag on) ∙ noted.pins_fit ∙ sym limit;
    pins_are = flags_put notes.pins slot on (let f = noted.pins_fit in omega (arith, within, f)) (set notes.pins slot (flag on)) refl ∙ ap (λ (p : ℕ → Bool). put_at p slot on) noted.pins_are ∙ sym pins;
    linked = noted.linked;
  }

  -- the bits of a slot read as its word
  pub reads_as : (s : ℕ) → unpack_of (get_or words s 0) ≡ k.content.word s
  reads_as s = ap (λ (f : ℕ → Option Word). f s) noted.words_are

  -- where one word is set the others stay
  pub changed_at : (words' : List ℕ) (slot bits : ℕ) → words' ≡ set words slot bits → IsChangedAt (slots_of words) (slots_of words') slot
  changed_at words' slot bits is s ne = ap (λ (xs : List ℕ). unpack_of (get_or xs s 0)) is ∙ ap unpack_of (get_or-set_other words slot s bits 0 ne)

  pub set_there : (words' : List ℕ) (slot bits : ℕ) → slot < k.content.limit → words' ≡ set words slot bits → slots_of words' slot ≡ unpack_of bits
  set_there words' slot bits within is = ap (λ (xs : List ℕ). unpack_of (get_or xs slot 0)) is ∙ ap unpack_of (get_or-set_same words slot bits 0 (let l = noted.long in omega (arith, within, l)))

-- a slot in use, or pinned, is one of the table's
pub used_within : (k : Knowledge) → Stands k → (s : ℕ) → IsUsed k.content s → s < k.content.limit
used_within k stands s used = stands.sound.within s used

pub pinned_used : (k : Knowledge) → Stands k → (s : ℕ) → k.content.pinned s ≡ true → IsUsed k.content s
pinned_used k stands s on = by (k.content.word s) refl
  where
    by : (o : Option Word) → k.content.word s ≡ o → IsUsed k.content s
    by None is = absurd (let off = stands.sound.unpinned s is in let e : true ≡ false = sym on ∙ off in cc)
    by (Some word) is = (word, is)
