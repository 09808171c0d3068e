-- Several single steps together: a slot is freed, rewritten, stored.
use Rattle.std.proofs.Common.{◌≡◌, ℕ, ◌+◌, ◌-◌, ◌<◌, ◌≤◌, ◌%◌, ◌^◌, inl, inr, false, cond, List, ◌∷◌, length, Some, None, refl, ap, sym, ◌∙◌, subst, arith}
use Rattle.std.proofs.lemmas.Bool.{cases_eq, cases_lt, lt-ltb, le-ltb}
use Rattle.std.specs.Prelude.{nat_lt}
use Rattle.edge_bits.specs.Permanent.{first_element}
use Rattle.edge_bits.specs.Reading.{plain}
use Rattle.edge_bits.specs.Words.{unpack_of}
use Rattle.edge_bits.specs.declared.edges.Kind.{Kind}
use Rattle.edge_bits.specs.declared.edges.Kind.TheVariants.{Bdd, Add, Zdd}
use Rattle.edge_bits.specs.declared.words.Node.{Node}
use Rattle.edge_bits.specs.declared.words.Word.{Word}
use Rattle.edge_bits.specs.declared.words.Word.TheVariants.{Inner, Leaf}
use Rattle.handle_count.specs.CountWords.{count_of, generation_of}
use Rattle.node_store.specs.Contents.{Content, IsPermanent, view_of}
use Rattle.node_store.specs.Changes.{CanRewrite, next_generation, put_at, rewritten, with_node, without}
use Rattle.node_store.specs.Views.{IsVariable}
use Rattle.node_store.proofs.Rewriting.{put_at-same, put_at-other}
use Rattle.step_store.specs.Chains.{Lists}
use Rattle.hold_store.specs.Held.{HasLevel, IsDead, IsForgotten, IsNew, IsNextOf, IsReady, Knowledge, Stands, ZeroStays, all_turns, freed, handed, level_of_word, loosened, node_function, tied}
use Rattle.hold_store.proofs.Passing.{some_same}
use Rattle.hold_store.proofs.Levels.{each_there}

-- the level of a variable or an element is one of those with a turn
pub variable_within : (k : Knowledge) (j : Kind) (node : Node) → IsVariable j (view_of k.content) node.var → level_of_word k (Inner node) < all_turns k
variable_within k j node is = by j is
  where
    n : ℕ
    n = length k.content.orders.variables

    m : ℕ
    m = length k.content.orders.elements

    low : node.var < first_element → node.var < n → cond (nat_lt node.var first_element) node.var (n + (node.var - first_element)) < n + m + 1
    low few lt = let e = ap (λ b. cond b node.var (n + (node.var - first_element))) (lt-ltb node.var first_element few) in omega (arith, e, lt)

    high : first_element ≤ node.var → node.var - first_element < m → cond (nat_lt node.var first_element) node.var (n + (node.var - first_element)) < n + m + 1
    high le lt = let e = ap (λ b. cond b node.var (n + (node.var - first_element))) (le-ltb node.var first_element le) in omega (arith, e, lt)

    by : (j : Kind) → IsVariable j (view_of k.content) node.var → level_of_word k (Inner node) < all_turns k
    by Bdd is = low is.0 is.1
    by Add is = low is.0 is.1
    by Zdd is = high is.0 (omega (arith, is.0, is.1))

pub word_within : (k : Knowledge) → Stands k → (s : ℕ) (word : Word) → k.content.word s ≡ Some word → level_of_word k word < all_turns k
word_within k stands s (Leaf x) is = omega arith
word_within k stands s (Inner node) is =
    let d = stands.sound.denotes s (Inner node, is) in
    let n = stands.sound.nodes s node d.0 is d.1 in
    variable_within k n.kind node n.in_range

pub has_turn : (k : Knowledge) → IsReady k → (l : ℕ) → l < all_turns k → HasLevel k.hand l
has_turn k ready l lt = subst (λ (ls : List ℕ). Lists ls l) (sym ready.levels) (each_there (all_turns k) l lt)

-- a slot that is not permanent is none of the constants
pub spare_high : (w : Content) (s : ℕ) → (IsPermanent w s → ⊥) → 3 ≤ s
spare_high w s spare = elim (cases_lt s 5) [
  | inl lt ↦ absurd (spare (inl lt))
  | inr le ↦ omega (arith, le)
]

abbrev pub counted_at : Knowledge → ℕ → ℕ → Knowledge
counted_at k s count = record k { content = record k.content { count = put_at k.content.count s count } }

abbrev pub renewed_at : Knowledge → ℕ → ℕ → Knowledge
renewed_at k s g = record k { content = record k.content { generation = put_at k.content.generation s g }; hand = record k.hand { renewed = Some s } }

abbrev pub gone : Knowledge → ℕ → List ℕ → Knowledge
gone k s list = record { content = freed k.content s; bits = put_at k.bits s 0; heads = k.heads; hand = record k.hand { free = Some (s ∷ list); loose = None; renewed = None; link = None } }

abbrev loose_at : Knowledge → ℕ → Knowledge
loose_at k s = handed k (loosened s k.hand)

-- a slot is freed: it leaves its chain, its count is loaded, its next generation stored, and its word
module _ (k0 k1 k2 k3 : Knowledge) (slot count word next : ℕ) (dead : IsDead k0.content slot)
    (e1 : k1 ≡ loose_at k0 slot) (e2 : k2 ≡ counted_at k1 slot count) (of_word : count_of word ≡ count + cond (k1.content.pinned slot) 1 0)
    (stays : k1.content.count slot ≡ 0 → k2.content.count slot ≡ 0) (old_generation : generation_of word ≡ k1.content.generation slot)
    (still : count_of next ≡ count_of word) (risen : generation_of next ≡ (generation_of word + 1) % 2 ^ 32) where
  both : k2 ≡ counted_at (loose_at k0 slot) slot count
  both = e2 ∙ ap (λ (k : Knowledge). counted_at k slot count) e1

  zero_before : k1.content.count slot ≡ 0
  zero_before = ap (λ (k : Knowledge). k.content.count slot) e1 ∙ dead.uncounted

  pub is_loose : k2.hand.loose ≡ Some slot
  is_loose = ap (λ (k : Knowledge). k.hand.loose) both

  pub is_uncounted : k2.content.count slot ≡ 0
  is_uncounted = stays zero_before

  pub is_unpinned : k2.content.pinned slot ≡ false
  is_unpinned = ap (λ (k : Knowledge). k.content.pinned slot) both ∙ dead.unpinned

  none_left : count ≡ 0
  none_left = sym (put_at-same k1.content.count slot count) ∙ sym (ap (λ (k : Knowledge). k.content.count slot) e2) ∙ is_uncounted

  unpinned_before : k1.content.pinned slot ≡ false
  unpinned_before = ap (λ (k : Knowledge). k.content.pinned slot) e1 ∙ dead.unpinned

  generation_next : generation_of next ≡ next_generation (k0.content.generation slot)
  generation_next = risen ∙ ap next_generation (old_generation ∙ ap (λ (k : Knowledge). k.content.generation slot) e1)

  pub is_next : IsNextOf k2.content slot next
  is_next = (
    still ∙ of_word ∙ ap (λ b. count + cond b 1 0) unpinned_before ∙ omega (arith, none_left),
    generation_next ∙ ap next_generation (sym (ap (λ (k : Knowledge). k.content.generation slot) both)),
  )

  module _ (e3 : k3 ≡ renewed_at k2 slot (generation_of next)) where
    all_three : k3 ≡ renewed_at (counted_at (loose_at k0 slot) slot count) slot (generation_of next)
    all_three = e3 ∙ ap (λ (k : Knowledge). renewed_at k slot (generation_of next)) both

    pub then_loose : k3.hand.loose ≡ Some slot
    then_loose = ap (λ (k : Knowledge). k.hand.loose) all_three

    pub then_renewed : k3.hand.renewed ≡ Some slot
    then_renewed = ap (λ (k : Knowledge). k.hand.renewed) all_three

    pub then_forgotten : IsForgotten k0.hand slot → IsForgotten k3.hand slot
    then_forgotten f = (f.0, ap (λ (k : Knowledge). k.hand.named) all_three ∙ f.1, f.2)

    pub then_free : (list : List ℕ) → k0.hand.free ≡ Some list → k3.hand.free ≡ Some list
    then_free list is = ap (λ (k : Knowledge). k.hand.free) all_three ∙ is

    zero_there : put_at k0.content.count slot count slot ≡ 0
    zero_there = put_at-same k0.content.count slot count ∙ none_left

    pub then_dead : IsDead k3.content slot
    then_dead = subst (λ (k : Knowledge). IsDead k.content slot) (sym all_three) (record {
      used = dead.used;
      spare = dead.spare;
      uncounted = zero_there;
      unpinned = dead.unpinned;
      unnamed = dead.unnamed;
    })

    module _ (ready : IsReady k0) (k4 : Knowledge) (e4 : (list : List ℕ) → k3.hand.free ≡ Some list → k4 ≡ gone k3 slot list) where
      at_last : k4 ≡ gone (renewed_at (counted_at (loose_at k0 slot) slot count) slot (generation_of next)) slot ready.free
      at_last = e4 ready.free (then_free ready.free ready.has_free) ∙ ap (λ (k : Knowledge). gone k slot ready.free) all_three

      pub freed_ready : IsReady k4
      freed_ready = subst IsReady (sym at_last) (record {
        levels = ready.levels;
        free = slot ∷ ready.free;
        has_free = refl;
        loose = refl;
        renewed = refl;
        link = refl;
        pending = ready.pending;
      })

      pub freed_named : k4.hand.named ≡ k0.hand.named
      freed_named = ap (λ (k : Knowledge). k.hand.named) at_last

      pub freed_content : k4.content ≡ record (without k0.content slot) { count = k4.content.count }
      freed_content = subst (λ (k : Knowledge). k.content ≡ record (without k0.content slot) { count = k.content.count }) (sym at_last)
          (ap (λ g. record (freed k0.content slot) { generation = put_at k0.content.generation slot g; count = put_at k0.content.count slot count }) generation_next)

      pub freed_counts : ZeroStays k0.content.count k4.content.count
      freed_counts s none = subst (λ (k : Knowledge). k.content.count s ≡ 0) (sym at_last) (elim (cases_eq s slot) [
        | inl e ↦ subst (λ t. put_at k0.content.count slot count t ≡ 0) (sym e) zero_there
        | inr ne ↦ put_at-other k0.content.count slot s count ne ∙ none
      ])

-- a slot is rewritten
abbrev rewritten_at : Knowledge → ℕ → ℕ → Node → Knowledge
rewritten_at k s bits node = record k { content = rewritten k.content s node.var (plain node.hi) node.lo; bits = put_at k.bits s bits }

abbrev Rewrites : Knowledge → Knowledge → ℕ → ℕ → Type 0
Rewrites k new s bits = (node : Node) → unpack_of bits ≡ Some (Inner node) → new ≡ rewritten_at k s bits node

module _ (k0 k1 : Knowledge) (slot bits : ℕ) (ready : IsReady k0) (e1 : k1 ≡ loose_at k0 slot)
    (can : (j : Kind) × (node : Node) × (unpack_of bits ≡ Some (Inner node)) × CanRewrite j k0.content slot node.var (plain node.hi) node.lo) where
  pub rewrite_loose : k1.hand.loose ≡ Some slot
  rewrite_loose = ap (λ (k : Knowledge). k.hand.loose) e1

  pub rewrite_can : (j : Kind) × (node : Node) × (unpack_of bits ≡ Some (Inner node)) × CanRewrite j k1.content slot node.var (plain node.hi) node.lo × HasLevel k1.hand (level_of_word k1 (Inner node))
  rewrite_can = (
    can.0,
    can.1,
    can.2,
    subst (λ (k : Knowledge). CanRewrite can.0 k.content slot can.1.var (plain can.1.hi) can.1.lo) (sym e1) can.3,
    subst (λ (k : Knowledge). HasLevel k.hand (level_of_word k (Inner can.1))) (sym e1) (has_turn k0 ready (level_of_word k0 (Inner can.1)) (variable_within k0 can.0 can.1 can.3.in_range)),
  )

  module _ (k2 : Knowledge) (e2 : Rewrites k1 k2 slot bits) where
    rewrote : k2 ≡ rewritten_at (loose_at k0 slot) slot bits can.1
    rewrote = e2 can.1 can.2 ∙ ap (λ (k : Knowledge). rewritten_at k slot bits can.1) e1

    pub still_loose : k2.hand.loose ≡ Some slot
    still_loose = ap (λ (k : Knowledge). k.hand.loose) rewrote

    pub new_bits : k2.bits slot ≡ bits
    new_bits = ap (λ (k : Knowledge). k.bits slot) rewrote ∙ put_at-same k0.bits slot bits

    pub same_heads : k2.heads ≡ k0.heads
    same_heads = ap (λ (k : Knowledge). k.heads) rewrote

    module _ (k3 : Knowledge) (e3 : k3 ≡ handed k2 (tied k2.hand)) where
      rewrote_all : k3 ≡ handed (rewritten_at k0 slot bits can.1) (tied (loosened slot k0.hand))
      rewrote_all = e3 ∙ ap (λ (k : Knowledge). handed k (tied k.hand)) rewrote

      pub rewrite_ready : IsReady k3
      rewrite_ready = subst IsReady (sym rewrote_all) (record { levels = ready.levels; free = ready.free; has_free = ready.has_free; loose = refl; renewed = refl; link = refl; pending = ready.pending })

      pub rewrite_named : k3.hand.named ≡ k0.hand.named
      rewrite_named = ap (λ (k : Knowledge). k.hand.named) rewrote_all

      pub rewrite_content : (node : Node) → unpack_of bits ≡ Some (Inner node) → k3.content ≡ rewritten k0.content slot node.var (plain node.hi) node.lo
      rewrite_content node reads =
          let both : Inner can.1 ≡ Inner node = some_same {A = Word} (Inner can.1) (Inner node) (sym can.2 ∙ reads) in
          let same : can.1 ≡ node = cc in
          ap (λ (k : Knowledge). k.content) rewrote_all ∙ ap (λ (n : Node). rewritten k0.content slot n.var (plain n.hi) n.lo) same

-- a new node is stored in the first slot of the free list
abbrev stored_at : Knowledge → ℕ → ℕ → Kind → Node → List ℕ → Knowledge
stored_at k s bits j node list = record { content = with_node k.content s node (node_function j k.content node); bits = put_at k.bits s bits; heads = k.heads; hand = record k.hand { free = Some list; loose = Some s; renewed = None; link = None } }

abbrev Stores : Knowledge → Knowledge → ℕ → ℕ → Type 0
Stores k new s bits = (j : Kind) (node : Node) (list : List ℕ) → unpack_of bits ≡ Some (Inner node) → IsNew j k.content node → k.hand.free ≡ Some (s ∷ list) → new ≡ stored_at k s bits j node list

module _ (k0 : Knowledge) (slot bits : ℕ) (ready : IsReady k0) (first : (list : List ℕ) × (k0.hand.free ≡ Some (slot ∷ list)))
    (can : (j : Kind) × (node : Node) × (unpack_of bits ≡ Some (Inner node)) × IsNew j k0.content node) where
  pub store_new_turn : (j : Kind) × (node : Node) × (unpack_of bits ≡ Some (Inner node)) × IsNew j k0.content node × HasLevel k0.hand (level_of_word k0 (Inner node))
  store_new_turn = (can.0, can.1, can.2, can.3, has_turn k0 ready (level_of_word k0 (Inner can.1)) (variable_within k0 can.0 can.1 can.3.can.in_range))

  pub store_free : Stands k0 → (slot < k0.content.limit) × (k0.content.word slot ≡ None)
  store_free stands = (stands.free_list (slot ∷ first.0) first.1).free slot (inl refl)

  module _ (k1 : Knowledge) (e1 : Stores k0 k1 slot bits) where
    stored_it : k1 ≡ stored_at k0 slot bits can.0 can.1 first.0
    stored_it = e1 can.0 can.1 first.0 can.2 can.3 first.1

    pub store_loose : k1.hand.loose ≡ Some slot
    store_loose = ap (λ (k : Knowledge). k.hand.loose) stored_it

    pub store_bits : k1.bits slot ≡ bits
    store_bits = ap (λ (k : Knowledge). k.bits slot) stored_it ∙ put_at-same k0.bits slot bits

    pub store_heads : k1.heads ≡ k0.heads
    store_heads = ap (λ (k : Knowledge). k.heads) stored_it

    module _ (k2 : Knowledge) (e2 : k2 ≡ handed k1 (tied k1.hand)) where
      stored_all : k2 ≡ handed (stored_at k0 slot bits can.0 can.1 first.0) (tied (record k0.hand { free = Some first.0 }))
      stored_all = e2 ∙ ap (λ (k : Knowledge). handed k (tied k.hand)) stored_it

      pub store_ready : IsReady k2
      store_ready = subst IsReady (sym stored_all) (record { levels = ready.levels; free = first.0; has_free = refl; loose = refl; renewed = refl; link = refl; pending = ready.pending })

      pub store_named : k2.hand.named ≡ k0.hand.named
      store_named = ap (λ (k : Knowledge). k.hand.named) stored_all

      pub store_content : (j : Kind) (node : Node) → unpack_of bits ≡ Some (Inner node) → IsNew j k0.content node → k2.content ≡ with_node k0.content slot node (node_function j k0.content node)
      store_content j node reads new =
          let f = e1 j node first.0 reads new first.1 in
          ap (λ (k : Knowledge). k.content) e2 ∙ ap (λ (k : Knowledge). k.content) f
