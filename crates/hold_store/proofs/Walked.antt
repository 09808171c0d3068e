-- A word was looked for, which leaves nothing but what is known of a chain.
use Rattle.std.proofs.Common.{◌≡◌, ℕ, ◌<◌, ◌≤◌, [], inl, inr, Some, None, refl, sym, ap, ◌∙◌, subst}
use Rattle.edge_bits.specs.Words.{unpack_of}
use Rattle.edge_bits.specs.declared.edges.Kind.{Kind}
use Rattle.edge_bits.specs.declared.words.Node.{Node}
use Rattle.edge_bits.specs.declared.words.Word.{Word}
use Rattle.edge_bits.specs.declared.words.Word.TheVariants.{Inner}
use Rattle.node_store.specs.Changes.{with_node}
use Rattle.node_store.specs.Contents.{Content}
use Rattle.hold_store.specs.Held.{IsNew, IsReady, Knowledge, Stands, handed, node_function}
use Rattle.hold_store.specs.Placing.{CanPlace, IsAbsent, IsPlaced}
use Rattle.hold_store.proofs.Finding.{some_free}

module _ (k new : Knowledge) (same : new ≡ handed k (record k.hand { walk = new.hand.walk })) where
  pub walked_ready : IsReady k → IsReady new
  walked_ready r = subst IsReady (sym same) (record { levels = r.levels; free = r.free; has_free = r.has_free; loose = r.loose; renewed = r.renewed; link = r.link; pending = r.pending })

  content_same : new.content ≡ k.content
  content_same = ap (λ (x : Knowledge). x.content) same

  pub absent : (bits : ℕ) (node : Node) → unpack_of bits ≡ Some (Inner node) → ((s : ℕ) (word : Word) → 3 ≤ s → unpack_of bits ≡ Some word → k.content.word s ≡ Some word → ⊥) → IsAbsent k.content node
  absent bits node reads none s high has = none s (Inner node) high reads has

  pub placed_found : Stands k → (bits s : ℕ) → k.bits s ≡ bits → (node : Node) → unpack_of bits ≡ Some (Inner node) → IsPlaced k.content new.content node s
  placed_found stands bits s is node reads = inl (content_same, stands.reads s ∙ ap unpack_of is ∙ reads)

  pub walked_some : Stands k → (node : Node) → CanPlace k.content node → IsAbsent k.content node → new.hand.free ≡ Some [] → ⊥
  walked_some stands node can gone none =
      let free : k.hand.free ≡ Some [] = sym (ap (λ (x : Knowledge). x.hand.free) same) ∙ none in
      some_free k.content [] (stands.free_list [] free) (can.room gone) refl

  pub walked_new : (bits : ℕ) (node : Node) → unpack_of bits ≡ Some (Inner node) → CanPlace k.content node → IsAbsent k.content node → (j : Kind) × (n : Node) × (unpack_of bits ≡ Some (Inner n)) × IsNew j new.content n
  walked_new bits node reads can gone = (can.kind, node, reads, subst (λ (c : Content). IsNew can.kind c node) (sym content_same) (can.new gone))

  pub placed_stored : (bits : ℕ) → ((s : ℕ) (word : Word) → 3 ≤ s → unpack_of bits ≡ Some word → k.content.word s ≡ Some word → ⊥) → (last : Knowledge) (s : ℕ) → (s < new.content.limit) × (new.content.word s ≡ None)
      → ((j : Kind) (n : Node) → unpack_of bits ≡ Some (Inner n) → IsNew j new.content n → last.content ≡ with_node new.content s n (node_function j new.content n))
      → (node : Node) → unpack_of bits ≡ Some (Inner node) → IsPlaced k.content last.content node s
  placed_stored bits none last s free stored node reads = inr (
    absent bits node reads none,
    subst (λ (c : Content). s < c.limit) content_same free.0,
    subst (λ (c : Content). c.word s ≡ None) content_same free.1,
    λ j is. subst (λ (c : Content). last.content ≡ with_node c s node (node_function j c node)) content_same (stored j node reads (subst (λ (c : Content). IsNew j c node) (sym content_same) is)),
  )
