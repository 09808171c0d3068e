-- What each call on a holder's store leaves.
use Rattle.std.proofs.Common.{◌≡◌, ℕ, ◌<◌, inl, inr, Bool, true, false, List, length, set, replicate, Option, Some, None, refl, ap, sym, ◌∙◌, subst}
use Rattle.std.specs.Prelude.{if◌then◌else◌}
use Rattle.std.proofs.lemmas.Bool.{cases_eq}
use Rattle.std.proofs.lemmas.List.{length-replicate, length-set}
use Rattle.edge_bits.specs.declared.edges.Edge.{Edge}
use Rattle.edge_bits.specs.declared.edges.Kind.{Kind}
use Rattle.edge_bits.specs.declared.words.Node.{Node}
use Rattle.edge_bits.specs.declared.words.Word.{Word}
use Rattle.edge_bits.specs.declared.words.Word.TheVariants.{Inner}
use Rattle.edge_bits.specs.Reading.{plain, slots_of}
use Rattle.edge_bits.specs.Words.{unpack_of}
use Rattle.function_laws.specs.declared.orders.Order.{Order}
use Rattle.held_slots.specs.Linked.{IsLinkedTo}
use Rattle.held_slots.specs.Notes.{Notes, flag}
use Rattle.node_store.specs.Contents.{Content}
use Rattle.function_laws.proofs.ValueLemmas.{everywhere}
use Rattle.node_store.specs.Changes.{CanAdd, CanFree, CanRewrite, exchanged, put_at, with_node, with_pin}
use Rattle.node_store.proofs.Rewriting.{put_at-same, put_at-other}
use Rattle.node_slots.specs.Stores.{is_set}
use Rattle.node_slots.proofs.Holding.{no_flags}
use Rattle.function_laws.specs.Kinds.{Denoted}
use Rattle.hold_store.specs.Held.{IsDead, IsReady, Knowledge, Stands, ZeroStays, handed}
use Rattle.hold_store.specs.Noted.{IsCleared, IsHolding, content_of}
use Rattle.hold_store.proofs.NodeSteps.{counted_at}
use Rattle.hold_store.proofs.Wholes.{Becomes, becomes, becomes_same, pinned, put_mark, marked, relinked, written}

-- what the caller of a free knows
pub is_dead : (k : Knowledge) (marks : List ℕ) (on : Bool) (s : ℕ) → CanFree (content_of k marks on) s → IsDead k.content s
is_dead k marks on s can = record { used = can.used; spare = can.spare; uncounted = can.uncounted; unpinned = can.unpinned; unnamed = can.unnamed }

-- what the caller of an add knows
pub may_add : (k : Knowledge) (marks : List ℕ) (on : Bool) (j : Kind) (v : ℕ) (hi lo : Edge) → CanAdd j (content_of k marks on) v hi lo → CanAdd j k.content v hi lo
may_add k marks on j v hi lo can = record { can_make = can.can_make; alone = can.alone }

-- a word put where it stood
pub put_back : (f : ℕ → Option Word) (s : ℕ) (o : Option Word) → f s ≡ o → f ≡ put_at f s o
put_back f s o is = everywhere f (put_at f s o) (λ t. elim (cases_eq t s) [
  | inl e ↦ ap f e ∙ is ∙ sym (ap (put_at f s o) e ∙ put_at-same f s o)
  | inr ne ↦ sym (put_at-other f s t o ne)
])

-- a content that is this one is so but for counts
pub same_but : (w c : Content) → c ≡ w → c ≡ record w { count = c.count }
same_but w c e = e ∙ ap (λ (f : ℕ → ℕ). record w { count = f }) (sym (ap (λ (x : Content). x.count) e))

pub same_stays : (w c : Content) → c ≡ w → ZeroStays w.count c.count
same_stays w c e s none = ap (λ (x : Content). x.count s) e ∙ none

-- what the caller of a rewrite knows: the then child is not complemented
pub may_rewrite : (k : Knowledge) (marks : List ℕ) (on : Bool) (j : Kind) (s v : ℕ) (hi lo : Edge) → CanRewrite j (content_of k marks on) s v hi lo → CanRewrite j k.content s v (plain hi.index) lo
may_rewrite k marks on j s v hi lo can = subst (λ (e : Edge). CanRewrite j k.content s v e lo) (λ i. record { index = hi.index; complement = can.plain i }) (record {
  node = can.node;
  was = can.was;
  spare = can.spare;
  in_range = can.in_range;
  half = can.half;
  hi_is = can.hi_is;
  lo_is = can.lo_is;
  plain = can.plain;
  hi_lacks = can.hi_lacks;
  lo_lacks = can.lo_lacks;
  proper = can.proper;
  same = can.same;
})

module _ (k : Knowledge) (words : List ℕ) (notes : Notes) (on : Bool) (is : IsHolding k words notes on) where
  -- nothing, or the links alone
  pub next : (new : Knowledge) (notes' : Notes) → new ≡ k → notes'.marks ≡ notes.marks → notes'.pins ≡ notes.pins → IsLinkedTo (slots_of words) notes'.chain → IsHolding new words notes' on
  next new notes' same marks pins linked = subst (λ (x : Knowledge). IsHolding x words notes' on) (sym same) (record {
    ready = is.ready;
    memo = is.memo;
    noted = relinked k words notes is.noted k notes' refl refl refl marks pins linked;
  })

  pub next_becomes : (new : Knowledge) (notes' : Notes) → Stands k → new ≡ k → notes'.marks ≡ notes.marks → notes'.pins ≡ notes.pins → IsLinkedTo (slots_of words) notes'.chain → Becomes (content_of k notes.marks on) new words notes' on
  next_becomes new notes' stands same marks pins linked = becomes_same k.content new words notes' on (is_set notes.marks) (subst Stands (sym same) stands) (ap (λ (x : Knowledge). x.content) same) (ap is_set marks) (next new notes' same marks pins linked)

  -- a count was loaded
  pub counts : (new : Knowledge) (s count : ℕ) → Stands new → new ≡ counted_at k s count → (k.content.count s ≡ 0 → new.content.count s ≡ 0) → Becomes (content_of k notes.marks on) new words notes on
  counts new s count stands same stays =
      let holding : IsHolding new words notes on = subst (λ (x : Knowledge). IsHolding x words notes on) (sym same) (record {
        ready = record { levels = is.ready.levels; free = is.ready.free; has_free = is.ready.has_free; loose = is.ready.loose; renewed = is.ready.renewed; link = is.ready.link; pending = is.ready.pending };
        memo = is.memo;
        noted = relinked k words notes is.noted (counted_at k s count) notes refl refl refl refl refl is.noted.linked;
      }) in
      becomes k.content new words notes on (is_set notes.marks) stands
      (ap (λ (x : Knowledge). x.content) same ∙ ap (λ (c : ℕ → ℕ). record k.content { count = c }) (sym (ap (λ (x : Knowledge). x.content.count) same)))
      (λ t none. elim (cases_eq t s) [
        | inl e ↦ ap new.content.count e ∙ stays (ap k.content.count (sym e) ∙ none)
        | inr ne ↦ ap (λ (x : Knowledge). x.content.count t) same ∙ put_at-other k.content.count s t count ne ∙ none
      ])
      refl holding

  -- a word is another, and the content is this one but for counts
  pub writes : (w : Content) (new : Knowledge) (words' : List ℕ) (notes' : Notes) (s bits : ℕ) (o : Option Word) → Stands new → IsReady new → new.hand.named ≡ k.hand.named → new.content ≡ record w { count = new.content.count } → ZeroStays w.count new.content.count
      → w.word ≡ put_at k.content.word s o → w.limit ≡ k.content.limit → w.pinned ≡ k.content.pinned → s < k.content.limit → words' ≡ set words s bits → unpack_of bits ≡ o
      → notes'.marks ≡ notes.marks → notes'.pins ≡ notes.pins → IsLinkedTo (slots_of words') notes'.chain → Becomes (record w { marked = is_set notes.marks; sweeping = on }) new words' notes' on
  writes w new words' notes' s bits o stands ready named content stays word limit pins within set_is reads marks_are pins_are linked =
      becomes w new words' notes' on (is_set notes.marks) stands content stays (ap is_set marks_are) (record {
        ready = ready;
        memo = subst (IsCleared on) (sym named) is.memo;
        noted = written k words notes is.noted new words' notes' s bits o within set_is reads (ap (λ (c : Content). c.word) content ∙ word) (ap (λ (c : Content). c.limit) content ∙ limit) (ap (λ (c : Content). c.pinned) content ∙ pins) marks_are pins_are linked;
      })

  -- a node was found, or stored
  pub found : (new : Knowledge) (words' : List ℕ) (notes' : Notes) (s bits : ℕ) (node : Node) → Stands new → IsReady new → new.hand.named ≡ k.hand.named → s < k.content.limit → words' ≡ set words s bits → unpack_of bits ≡ Some (Inner node)
      → notes'.marks ≡ notes.marks → notes'.pins ≡ notes.pins → IsLinkedTo (slots_of words') notes'.chain → new.content ≡ k.content → k.content.word s ≡ Some (Inner node) → Becomes (content_of k notes.marks on) new words' notes' on
  found new words' notes' s bits node stands ready named within set_is reads marks_are pins_are linked same there =
      writes k.content new words' notes' s bits (Some (Inner node)) stands ready named (same_but k.content new.content same) (same_stays k.content new.content same) (put_back k.content.word s (Some (Inner node)) there) refl refl within set_is reads marks_are pins_are linked

  pub stored : (new : Knowledge) (words' : List ℕ) (notes' : Notes) (s bits : ℕ) (node : Node) → Stands new → IsReady new → new.hand.named ≡ k.hand.named → s < k.content.limit → words' ≡ set words s bits → unpack_of bits ≡ Some (Inner node)
      → notes'.marks ≡ notes.marks → notes'.pins ≡ notes.pins → IsLinkedTo (slots_of words') notes'.chain → (f : Denoted) → new.content ≡ with_node k.content s node f → Becomes (with_node (content_of k notes.marks on) s node f) new words' notes' on
  stored new words' notes' s bits node stands ready named within set_is reads marks_are pins_are linked f same =
      writes (with_node k.content s node f) new words' notes' s bits (Some (Inner node)) stands ready named (same_but (with_node k.content s node f) new.content same) (same_stays (with_node k.content s node f) new.content same) refl refl refl within set_is reads marks_are pins_are linked

  -- a slot is marked, or its mark taken away
  pub marks_it : (s : ℕ) (mark : Bool) → Stands k → s < k.content.limit → Becomes (record (content_of k notes.marks on) { marked = put_at (is_set notes.marks) s mark }) k words (record notes { marks = set notes.marks s (flag mark) }) on
  marks_it s mark stands within = becomes_same k.content k words (record notes { marks = set notes.marks s (flag mark) }) on (put_at (is_set notes.marks) s mark) stands refl (put_mark k words notes is.noted s mark within) (record {
    ready = is.ready;
    memo = is.memo;
    noted = marked k words notes is.noted (set notes.marks s (flag mark)) (length-set notes.marks s (flag mark));
  })

  -- a slot is pinned, or its pin given up
  pub pins_it : (new : Knowledge) (s : ℕ) (pin : Bool) → Stands new → s < k.content.limit → new ≡ record k { content = with_pin k.content s pin } → Becomes (with_pin (content_of k notes.marks on) s pin) new words (record notes { pins = set notes.pins s (flag pin) }) on
  pins_it new s pin stands within same =
      becomes_same (with_pin k.content s pin) new words (record notes { pins = set notes.pins s (flag pin) }) on (is_set notes.marks) stands (ap (λ (x : Knowledge). x.content) same) refl
      (subst (λ (x : Knowledge). IsHolding x words (record notes { pins = set notes.pins s (flag pin) }) on) (sym same) (record {
        ready = record { levels = is.ready.levels; free = is.ready.free; has_free = is.ready.has_free; loose = is.ready.loose; renewed = is.ready.renewed; link = is.ready.link; pending = is.ready.pending };
        memo = is.memo;
        noted = pinned k words notes is.noted (record k { content = with_pin k.content s pin }) s pin within refl refl refl;
      }))

  -- two levels are exchanged
  pub exchanges : (new : Knowledge) (order : Order) (level : ℕ) → Stands new → IsReady new → new ≡ record k { content = record k.content { orders = exchanged k.content.orders order level; half = None } }
      → Becomes (record (content_of k notes.marks on) { orders = exchanged k.content.orders order level; half = None }) new words notes on
  exchanges new order level stands ready same =
      becomes_same (record k.content { orders = exchanged k.content.orders order level; half = None }) new words notes on (is_set notes.marks) stands (ap (λ (x : Knowledge). x.content) same) refl (record {
        ready = ready;
        memo = subst (IsCleared on) (sym (ap (λ (x : Knowledge). x.hand.named) same)) is.memo;
        noted = relinked k words notes is.noted new notes (ap (λ (x : Knowledge). x.content.word) same) (ap (λ (x : Knowledge). x.content.limit) same) (ap (λ (x : Knowledge). x.content.pinned) same) refl refl is.noted.linked;
      })

  -- a sweep begins, with the computed table in hand and cleared
  pub begins : (new : Knowledge) (n m : Notes) → Stands k → new ≡ handed k (record k.hand { named = Some (λ _. false) }) → n ≡ record notes { marks = replicate (length notes.marks) 0 }
      → m ≡ record n { chain = record n.chain { linked = if n.chain.stale then false else n.chain.linked } } → Becomes (record (content_of k notes.marks on) { sweeping = true; marked = λ s. false }) new words m true
  begins new n m stands same unmarked unlinked =
      let v : Notes = record notes { marks = replicate (length notes.marks) 0; chain = record notes.chain { linked = if notes.chain.stale then false else notes.chain.linked } } in
      let m_is : m ≡ v = unlinked ∙ ap (λ (x : Notes). record x { chain = record x.chain { linked = if x.chain.stale then false else x.chain.linked } }) unmarked in
      let done : Becomes (record k.content { marked = λ s. false; sweeping = true }) (handed k (record k.hand { named = Some (λ _. false) })) words v true =
      becomes_same k.content (handed k (record k.hand { named = Some (λ _. false) })) words v true (λ s. false) (record { sound = stands.sound; reads = stands.reads; fits = stands.fits; some_heads = stands.some_heads; few_heads = stands.few_heads; free_list = stands.free_list }) refl
      (no_flags (replicate (length notes.marks) 0) (length notes.marks) refl)
      (record {
        ready = record { levels = is.ready.levels; free = is.ready.free; has_free = is.ready.has_free; loose = is.ready.loose; renewed = is.ready.renewed; link = is.ready.link; pending = is.ready.pending };
        memo = refl;
        noted = record {
          words_are = is.noted.words_are;
          long = is.noted.long;
          marks_fit = length-replicate (length notes.marks) 0 ∙ is.noted.marks_fit;
          pins_fit = is.noted.pins_fit;
          pins_are = is.noted.pins_are;
          linked = λ linked. is.noted.linked (still notes.chain.stale notes.chain.linked linked);
        };
      }) in
      subst (λ (y : Knowledge × Notes). Becomes (record k.content { marked = λ s. false; sweeping = true }) y.0 words y.1 true) (λ i. (sym same i, sym m_is i)) done
    where
      still : (stale linked : Bool) → (if stale then false else linked) ≡ true → linked ≡ true
      still true linked e = absurd (let lies : false ≡ true = e in cc)
      still false linked e = e

  -- a sweep ends, and the computed table is given back
  pub ends : (new : Knowledge) → Stands k → new ≡ handed k (record k.hand { named = None }) → Becomes (record (content_of k notes.marks on) { sweeping = false }) new words notes false
  ends new stands same = subst (λ (x : Knowledge). Becomes (record k.content { marked = is_set notes.marks; sweeping = false }) x words notes false) (sym same)
      (becomes_same k.content (handed k (record k.hand { named = None })) words notes false (is_set notes.marks) (record { sound = stands.sound; reads = stands.reads; fits = stands.fits; some_heads = stands.some_heads; few_heads = stands.few_heads; free_list = stands.free_list }) refl refl
      (record {
        ready = record { levels = is.ready.levels; free = is.ready.free; has_free = is.ready.has_free; loose = is.ready.loose; renewed = is.ready.renewed; link = is.ready.link; pending = is.ready.pending };
        memo = refl;
        noted = relinked k words notes is.noted (handed k (record k.hand { named = None })) notes refl refl refl refl refl is.noted.linked;
      }))

-- the turns and the free list were taken, and the words loaded
pub opens : (k k1 k2 : Knowledge) (words : List ℕ) (notes n : Notes) → IsReady k1 → k1 ≡ handed k k1.hand → k1.hand.named ≡ None → k2 ≡ k1 → slots_of words ≡ k1.content.word → length words ≡ k.content.limit
    → length notes.marks ≡ k.content.limit → length notes.pins ≡ k.content.limit → is_set notes.pins ≡ k.content.pinned → n ≡ record notes { chain = record notes.chain { linked = false } } → IsHolding k2 words n false
opens k k1 k2 words notes n ready same named loaded words_are long marks pins pinned unlinked =
    let v : Notes = record notes { chain = record notes.chain { linked = false } } in
    let done : IsHolding k1 words v false = record {
      ready = ready;
      memo = named;
      noted = record {
        words_are = words_are;
        long = long ∙ ap (λ (x : Knowledge). x.content.limit) (sym same);
        marks_fit = marks ∙ ap (λ (x : Knowledge). x.content.limit) (sym same);
        pins_fit = pins ∙ ap (λ (x : Knowledge). x.content.limit) (sym same);
        pins_are = pinned ∙ ap (λ (x : Knowledge). x.content.pinned) (sym same);
        linked = λ on. absurd (let lies : false ≡ true = on in cc);
      };
    } in
    subst (λ (y : Knowledge × Notes). IsHolding y.0 words y.1 false) (λ i. (sym loaded i, sym unlinked i)) done
