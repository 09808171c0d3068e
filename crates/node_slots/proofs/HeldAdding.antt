-- A store in its holder's hands, after a node was found or stored: what its words say of the node, in the middle of a swap too.
use Rattle.std.proofs.Common.{◌≡◌, ℕ, ◌+◌, ◌^◌, ◌<◌, ◌≤◌, ◌⊎◌, inl, inr, Bool, true, List, length, set, Option, Some, None, refl, ap, sym, ◌∙◌, subst, arith}
use Rattle.std.proofs.lemmas.Bool.{cases_lt}
use Rattle.std.proofs.lemmas.List.{length-set, get_or_past, get_or-set_other, get_or-set_same}
use Rattle.edge_bits.specs.declared.edges.Edge.{Edge}
use Rattle.edge_bits.specs.declared.edges.Kind.{Kind}
use Rattle.edge_bits.specs.declared.edges.Kind.TheVariants.{Bdd, Add, Zdd}
use Rattle.edge_bits.specs.declared.words.Node.{Node}
use Rattle.edge_bits.specs.declared.words.Word.{Word}
use Rattle.edge_bits.specs.declared.words.Word.TheVariants.{Inner, Leaf}
use Rattle.edge_bits.specs.Permanent.{empty_edge}
use Rattle.edge_bits.specs.Reading.{plain, slots_of}
use Rattle.edge_bits.specs.Words.{IsInRange, unpack_of}
use Rattle.function_laws.specs.Families.{empty}
use Rattle.function_laws.specs.Kinds.{Denoted, BddFunction, AddFunction, ZddFamily, ValueOf, function_of, joined_at, Lacks, flipped}
use Rattle.node_store.specs.Edges.{flip_if}
use Rattle.node_store.specs.KindLaws.{flipped-some}
use Rattle.node_store.specs.Views.{IsVariable, IsProper, CanMake, function_at, values_at, node_values}
use Rattle.node_store.specs.Contents.{Content, IsSound, constant_value, is_used, used_slots, view_of}
use Rattle.node_store.specs.Changes.{Added, CanAdd, HasRoomFor, put_at, with_node}
use Rattle.node_store.proofs.Adding.{added_sound}
use Rattle.node_store.proofs.LeafLemmas.{leaf_lacks}
use Rattle.node_store.proofs.Parting.{depends, same_kind, same_parts, same_values}
use Rattle.node_store.proofs.Rewriting.{put_at-same}
use Rattle.node_store.proofs.Standing.{flipped_up_to}
use Rattle.node_slots.specs.Placing.{IsPlaced, HasNoPlace, IsChild, HasNoChild}
use Rattle.node_slots.specs.Stores.{slots, is_word, ones, HasPermanent, IsRegular}
use Rattle.node_slots.specs.Held.{Alone, Held, IsHeld, held_view}
use Rattle.node_slots.proofs.Canonical.{edge_is, same_complement}
use Rattle.node_slots.proofs.Counting.{count_prefix, used_if}
use Rattle.node_slots.proofs.Flips.{bit-ones}
use Rattle.node_slots.proofs.HeldLaws.{after_none, slots_put}
use Rattle.held_slots.specs.Linked.{IsChangedAt, IsLinkedTo, variable_of}
use Rattle.held_slots.specs.Notes.{Notes}
use Rattle.node_slots.proofs.HeldMarks.{with_notes}
use Rattle.node_slots.proofs.HeldWalking.{noted_held, noted_view}
use Rattle.node_slots.proofs.HeldRewriting.{edge_small, unlinked, variable_small, with_words, words_become}
use Rattle.node_slots.proofs.Looking.{count_words}
use Rattle.node_slots.proofs.Making.{Normal, child_is, node_with, normal, unturned}

-- a node is told by its variable and its children
node_is : (a b i j : ℕ) (d e : Edge) → a ≡ b → i ≡ j → d ≡ e → ◌≡◌ {A = Node} (record { var = a; hi = i; lo = d }) (record { var = b; hi = j; lo = e })
node_is a b i j d e p q r = λ t. record { var = p t; hi = q t; lo = r t }

module _ (w : Content) (sound : IsSound w) where
  -- a BDD's slot is true where all variables are
  regular_at : (s : ℕ) (f : ℕ → Bool) → w.function s ≡ Some (BddFunction f) → f (ones (length w.orders.variables)) ≡ true
  regular_at s f h = sound.regular s f h (ones (length w.orders.variables)) (λ v lt. bit-ones (length w.orders.variables) v lt)

  -- no two edges denote one function
  same_edges : (a b : Edge) (f : Denoted) → function_at (view_of w) a ≡ Some f → function_at (view_of w) b ≡ Some f → a ≡ b
  same_edges a b f h i =
      let s = same_complement (length w.orders.variables) a.complement b.complement (w.function a.index) (w.function b.index) f (regular_at a.index) (regular_at b.index) h i in
      let x = flipped-some a.complement (w.function a.index) f h in
      edge_is a b (sound.apart a.index b.index x.0 x.1 (sym s.1 ∙ x.1)) s.0

  -- what a node's slot denotes, by what its children denote
  node_denotes : (s : ℕ) (node : Node) (k : Kind) (high low : ℕ → ValueOf k) → w.word s ≡ Some (Inner node) → w.function node.hi ≡ Some (function_of k high)
      → flipped node.lo.complement (w.function node.lo.index) ≡ Some (function_of k low) → w.function s ≡ Some (function_of k (joined_at k node.var high low))
  node_denotes s node k high low word h l =
      let d = sound.denotes s (Inner node, word) in
      let n = sound.nodes s node d.0 word d.1 in
      let eh : Some (function_of n.kind n.high) ≡ Some (function_of k high) = sym n.high_is ∙ h in
      let el : Some (function_of n.kind n.low) ≡ Some (function_of k low) = sym n.low_is ∙ l in
      let fh : function_of n.kind n.high ≡ function_of k high = cc in
      let fl : function_of n.kind n.low ≡ function_of k low = cc in
      d.1 ∙ ap Some (n.is ∙ by_kind n.kind (same_kind n.kind k n.high high fh) n.high n.low fh fl)
    where
      by_kind : (j : Kind) → j ≡ k → (f g : ℕ → ValueOf j) → function_of j f ≡ function_of k high → function_of j g ≡ function_of k low → function_of j (joined_at j node.var f g) ≡ function_of k (joined_at k node.var high low)
      by_kind j jk = subst (λ j. (f g : ℕ → ValueOf j) → function_of j f ≡ function_of k high → function_of j g ≡ function_of k low → function_of j (joined_at j node.var f g) ≡ function_of k (joined_at k node.var high low)) (sym jk)
          (λ f g eh el. ap (function_of k) (ap (λ x. joined_at k node.var x g) (same_values k f high eh) ∙ ap (joined_at k node.var high) (same_values k g low el)))

  -- a node's slot is none of the constants'
  node_high : (s : ℕ) (node : Node) → w.word s ≡ Some (Inner node) → 5 ≤ s
  node_high s node word = elim (cases_lt s 5) [
    | inl lt ↦ (let e : Some (Leaf (constant_value s)) ≡ Some (Inner node) = sym (sound.constants s lt) ∙ word in cc)
    | inr le ↦ le
  ]

  module _ (k : Kind) (v : ℕ) (hi lo : Edge) (can : CanAdd k w v hi lo) where
    turned : Normal k (view_of w) v hi lo
    turned = normal k (view_of w) v hi lo can.can_make

    -- the node as it is stored
    abbrev stored : Node
    stored = node_with v hi lo

    abbrev high : ℕ → ValueOf k
    high = values_at k (view_of w) (plain hi.index)

    abbrev low : ℕ → ValueOf k
    low = values_at k (view_of w) (flip_if hi.complement lo)

    -- a node of the words denotes what it should
    pub found_denotes : (s : ℕ) → w.word s ≡ Some (Inner stored) → flipped hi.complement (w.function s) ≡ Some (function_of k (node_values k (view_of w) v hi lo))
    found_denotes s word = turned.gives (w.function s) (node_denotes s stored k high low word turned.can.hi_is.is turned.can.lo_is.is)

    -- the children are not such that the node is one of them
    pub children_proper : HasNoChild v hi lo → IsProper k (values_at k (view_of w) hi) (values_at k (view_of w) lo)
    children_proper child = by_kind k can.can_make
      where
        by_kind : (k : Kind) → CanMake k (view_of w) v hi lo → IsProper k (values_at k (view_of w) hi) (values_at k (view_of w) lo)
        by_kind Bdd m = λ same. child.differ m.in_range.0 (same_edges hi lo _ m.hi_is.is (m.lo_is.is ∙ ap (λ f. Some (BddFunction f)) (sym same)))
        by_kind Add m = λ same. child.differ m.in_range.0 (same_edges hi lo _ m.hi_is.is (m.lo_is.is ∙ ap (λ f. Some (AddFunction f)) (sym same)))
        by_kind Zdd m = λ same. child.member m.in_range.0 (ap (λ (e : Edge). e.index) (same_edges hi empty_edge (ZddFamily empty) (m.hi_is.is ∙ ap (λ f. Some (ZddFamily f)) same) sound.empty_family))

    module _ (child : HasNoChild v hi lo) where
      proper : IsProper k high low
      proper = turned.proper (children_proper child)

      lacks_high : Lacks k high v
      lacks_high = turned.can.hi_below v can.can_make.in_range (omega arith)

      lacks_low : Lacks k low v
      lacks_low = turned.can.lo_below v can.can_make.in_range (omega arith)

      -- a slot of the node's function has its very word
      slot_of_node : (s : ℕ) → w.function s ≡ Some (function_of k (joined_at k v high low)) → w.word s ≡ Some (Inner stored)
      slot_of_node s h = by_word u.0 u.1
        where
          u : (word : Word) × (w.word s ≡ Some word)
          u = sound.used s (function_of k (joined_at k v high low)) h

          by_node : (node : Node) → w.word s ≡ Some (Inner node) → node.var ≡ v → stored ≡ node
          by_node node word var =
              let n = sound.nodes s node (function_of k (joined_at k v high low)) word h in
              at n.kind (same_kind n.kind k (joined_at n.kind node.var n.high n.low) (joined_at k v high low) (sym n.is)) n.high n.low n.high_is n.low_is n.high_lacks n.low_lacks n.is
            where
              at : (j : Kind) → j ≡ k → (f g : ℕ → ValueOf j) → w.function node.hi ≡ Some (function_of j f) → flipped node.lo.complement (w.function node.lo.index) ≡ Some (function_of j g)
                  → Lacks j f node.var → Lacks j g node.var → function_of k (joined_at k v high low) ≡ function_of j (joined_at j node.var f g) → stored ≡ node
              at j jk = subst (λ j. (f g : ℕ → ValueOf j) → w.function node.hi ≡ Some (function_of j f) → flipped node.lo.complement (w.function node.lo.index) ≡ Some (function_of j g)
                  → Lacks j f node.var → Lacks j g node.var → function_of k (joined_at k v high low) ≡ function_of j (joined_at j node.var f g) → stored ≡ node) (sym jk)
                  (λ f g hf hg lf lg e.
                  let lf_v = subst (Lacks k f) var lf in
                  let lg_v = subst (Lacks k g) var lg in
                  let both = same_parts k v high low f g lacks_high lacks_low lf_v lg_v (same_values k (joined_at k v high low) (joined_at k node.var f g) e ∙ ap (λ x. joined_at k x f g) var) in
                  let then_same : hi.index ≡ node.hi = sound.apart hi.index node.hi (function_of k high) turned.can.hi_is.is (hf ∙ ap (λ x. Some (function_of k x)) (sym both.0)) in
                  let else_same : flip_if hi.complement lo ≡ node.lo = same_edges (flip_if hi.complement lo) node.lo (function_of k low) turned.can.lo_is.is (hg ∙ ap (λ x. Some (function_of k x)) (sym both.1)) in
                  node_is v node.var hi.index node.hi (flip_if hi.complement lo) node.lo (sym var) then_same else_same)

          by_word : (word : Word) → w.word s ≡ Some word → w.word s ≡ Some (Inner stored)
          by_word (Leaf x) word = absurd (depends k v high low lacks_high lacks_low proper (leaf_lacks w sound s x k (joined_at k v high low) v word h))
          by_word (Inner node) word =
              let denoted = turned.gives (w.function s) h in
              let var = can.alone (children_proper child) s node word (flipped_up_to k hi.complement (w.function s) (node_values k (view_of w) v hi lo) denoted) in
              word ∙ ap (λ n. Some (Inner n)) (sym (by_node node word var))

      -- where the word stands nowhere, no slot denotes the node's function, and no edge does
      pub no_slot : ((t : ℕ) → 3 ≤ t → w.word t ≡ Some (Inner stored) → ⊥) → (s : ℕ) → w.function s ≡ Some (function_of k (joined_at k v high low)) → ⊥
      no_slot absent s h = let word = slot_of_node s h in let le = node_high s stored word in absent s (omega arith) word

      pub no_edge : ((t : ℕ) → 3 ≤ t → w.word t ≡ Some (Inner stored) → ⊥) → (e : Edge) → function_at (view_of w) e ≡ Some (function_of k (node_values k (view_of w) v hi lo)) → ⊥
      no_edge absent e h =
          no_slot absent e.index (unturned (length w.orders.variables) k (flip_if hi.complement e).complement (w.function e.index) (joined_at k v high low) (regular_at e.index)
          (regular k high low can.can_make.in_range turned.can.hi_is.is) (turned.back e h))
        where
          regular : (j : Kind) (f g : ℕ → ValueOf j) → IsVariable j (view_of w) v → w.function hi.index ≡ Some (function_of j f) → IsRegular j (length w.orders.variables) (joined_at j v f g)
          regular Bdd f g vn h = rw (bit-ones (length w.orders.variables) v vn.1) (regular_at hi.index f h)
          regular Add f g vn h = tt
          regular Zdd f g vn h = tt

-- what a call that answers the edge of a node leaves
pub record Answered (k : Kind) (h new : Held) (v : ℕ) (hi lo e : Edge) : Type 0 where
  pub held : IsHeld new
  pub added : Added Alone k (held_view h) (held_view new) v hi lo e

module _ (q : Held) (held : IsHeld q) (k : Kind) (v : ℕ) (hi lo : Edge) (can : CanAdd k (held_view q) v hi lo) where
  permanent_kept : (s bits : ℕ) → slots q.plain s ≡ None → HasPermanent (record q.plain { words = set q.plain.words s bits })
  permanent_kept s bits free = record {
    constants = λ t lt. other t (Leaf (constant_value t)) (held.permanent.constants t lt);
    projections = λ x lt. other (5 + x) (Inner _) (held.permanent.projections x lt);
  }
    where
      other : (t : ℕ) (word : Word) → slots q.plain t ≡ Some word → slots_of (set q.plain.words s bits) t ≡ Some word
      other t word is = ap unpack_of (get_or-set_other q.plain.words s t bits 0 (λ e. let c : None ≡ Some word = sym free ∙ ap (slots q.plain) (sym e) ∙ is in cc)) ∙ is

  -- the node's word stood there
  was_there : (s : ℕ) → slots q.plain s ≡ Some (Inner (node_with v hi lo)) → Answered k q (with_words q q.plain.words q.half) v hi lo (record { index = s; complement = hi.complement })
  was_there s word = record {
    held = unlinked q held;
    added = record { denotes = found_denotes (held_view q) held.sound k v hi lo can s word; way = inl (after_none q q refl held) };
  }

  -- it came to stand where no word stood
  was_written : HasNoChild v hi lo → (s bits : ℕ) → s < length q.plain.words → unpack_of bits ≡ Some (Inner (node_with v hi lo)) → slots q.plain s ≡ None
      → ((t : ℕ) → 3 ≤ t → slots q.plain t ≡ Some (Inner (node_with v hi lo)) → ⊥)
      → Answered k q (with_words q (set q.plain.words s bits) q.half) v hi lo (record { index = s; complement = hi.complement })
  was_written child s bits within reads free absent =
      let w = held_view q in
      let node = node_with v hi lo in
      let turned = normal k (view_of w) v hi lo can.can_make in
      let f = function_of k (node_values k (view_of w) v (plain hi.index) (flip_if hi.complement lo)) in
      let sound = added_sound w held.sound k s v (plain hi.index) (flip_if hi.complement lo) turned.can refl (turned.proper (children_proper w held.sound k v hi lo can child)) free within
      (no_slot w held.sound k v hi lo can child absent) in
      let new = words_become q held (with_node w s node f) sound (set q.plain.words s bits) q.half refl (length-set q.plain.words s bits) (ap (put_at (slots q.plain) s) (sym reads) ∙ slots_put q.plain.words s bits within) refl (permanent_kept s bits free) in
      record {
        held = new.held;
        added = record {
          denotes = turned.gives _ (ap (λ (g : ℕ → Option Denoted). g s) new.after.function ∙ put_at-same w.function s (Some f));
          way = inr (node, f, free, within, refl, new.after);
        };
      }

  placed : HasNoChild v hi lo → (ws : List ℕ) (s : ℕ) → IsPlaced q.plain.words ws (Inner (node_with v hi lo)) s
      → Answered k q (with_words q ws q.half) v hi lo (record { index = s; complement = hi.complement })
  placed child ws s place = elim place.way [
    | inl there ↦ subst (λ xs. Answered k q (with_words q xs q.half) v hi lo (record { index = s; complement = hi.complement })) (sym there.same) (was_there s there.here)
    | inr new ↦ subst (λ xs. Answered k q (with_words q xs q.half) v hi lo (record { index = s; complement = hi.complement })) (sym new.is)
        (was_written child s new.bits place.within new.reads new.free new.absent)
  ]

  -- each slot has a word
  all_used : ((t : ℕ) → t < length q.plain.words → slots q.plain t ≡ None → ⊥) → used_slots (held_view q) ≡ length q.plain.words
  all_used full =
      count_words q.plain is_used
      ∙ count_prefix is_word q.plain.words (length q.plain.words) (omega arith) (λ t lt. used_if (slots q.plain t) (full t lt)) (λ t le. ap is_word (get_or_past q.plain.words t 0 le))

  never_full : HasNoChild v hi lo → HasRoomFor k (held_view q) v hi lo → (ws : List ℕ) → HasNoPlace q.plain.words ws (Inner (node_with v hi lo)) → ⊥
  never_full child (inl room) ws none = let all = all_used none.full in omega (arith, all, room)
  never_full child (inr edge) ws none = no_edge (held_view q) held.sound k v hi lo can child none.absent edge.0 edge.1

-- the store as it was seen at the start of the call
pub adding : (q h : Held) → q ≡ h → IsHeld q → (k : Kind) (v : ℕ) (hi lo : Edge) → CanAdd k (held_view h) v hi lo → HasNoChild v hi lo → (node : Node) → node ≡ node_with v hi lo
    → (ws : List ℕ) (s : ℕ) → IsPlaced q.plain.words ws (Inner node) s → (e : Edge) → e ≡ record { index = s; complement = hi.complement } → Answered k h (with_words q ws q.half) v hi lo e
adding q h same held k v hi lo can child node is ws s place e edge =
    let can_q = subst (λ x. CanAdd k (held_view x) v hi lo) (sym same) can in
    let done = placed q held k v hi lo can_q child ws s (subst (λ n. IsPlaced q.plain.words ws (Inner n) s) is place) in
    subst (λ x. Answered k x (with_words q ws q.half) v hi lo e) same (subst (λ a. Answered k q (with_words q ws q.half) v hi lo a) (sym edge) done)

pub child_added : (q h : Held) → q ≡ h → IsHeld q → (k : Kind) (v : ℕ) (hi lo e : Edge) → CanAdd k (held_view h) v hi lo → IsChild v hi lo e → Added Alone k (held_view h) (held_view h) v hi lo e
child_added q h same held k v hi lo e can child =
    subst (λ x. CanAdd k (held_view x) v hi lo → Added Alone k (held_view x) (held_view x) v hi lo e) same
    (λ c. record { denotes = (child_is (view_of (held_view q)) held.sound.empty_family k v hi lo e c.can_make child).is; way = inl (after_none q q refl held) }) can

pub no_place : (q h : Held) → q ≡ h → IsHeld q → (v : ℕ) (hi lo : Edge) → (k : Kind) × CanAdd k (held_view h) v hi lo × HasRoomFor k (held_view h) v hi lo → HasNoChild v hi lo → (node : Node) → node ≡ node_with v hi lo
    → (ws : List ℕ) → HasNoPlace q.plain.words ws (Inner node) → ⊥
no_place q h same held v hi lo can child node is ws none =
    let k = can.0 in
    never_full q held k v hi lo (subst (λ x. CanAdd k (held_view x) v hi lo) (sym same) can.1) child (subst (λ x. HasRoomFor k (held_view x) v hi lo) (sym same) can.2) ws
    (subst (λ n. HasNoPlace q.plain.words ws (Inner n)) is none)

-- the node's word fits its bits
pub variable_fits : (q h : Held) → q ≡ h → IsHeld q → (k : Kind) (v : ℕ) (hi lo : Edge) → CanAdd k (held_view h) v hi lo → v < 2 ^ 15
variable_fits q h same held k v hi lo can =
    let can_q = subst (λ x. CanAdd k (held_view x) v hi lo) (sym same) can in
    variable_small q held k v can_q.can_make.in_range

pub added_fits : (q h : Held) → q ≡ h → IsHeld q → (k : Kind) (v : ℕ) (hi lo : Edge) → CanAdd k (held_view h) v hi lo → (e : Edge) → e ≡ flip_if hi.complement lo → IsInRange (Inner (record { var = v; hi = hi.index; lo = e }))
added_fits q h same held k v hi lo can e is =
    let can_q = subst (λ x. CanAdd k (held_view x) v hi lo) (sym same) can in
    (variable_small q held k v can_q.can_make.in_range, edge_small q held k hi can_q.can_make.hi_is, rw is (edge_small q held k lo can_q.can_make.lo_is))

-- what a slot that a word was placed in has now, and had
pub placed_at : (old new : List ℕ) (word : Word) (s : ℕ) → IsPlaced old new word s → IsChangedAt (slots_of old) (slots_of new) s × ((slots_of old s ≡ None) ⊎ (variable_of (slots_of old s) ≡ variable_of (Some word))) × (variable_of (slots_of new s) ≡ variable_of (Some word))
placed_at old new word s place = elim place.way [
  | inl there ↦ (λ t ne. ap (λ xs. slots_of xs t) there.same, inr (ap variable_of there.here), ap (λ xs. variable_of (slots_of xs s)) there.same ∙ ap variable_of there.here)
  | inr put ↦ (
    λ t ne. ap (λ xs. slots_of xs t) put.is ∙ ap unpack_of (get_or-set_other old s t put.bits 0 ne),
    inl put.free,
    ap (λ xs. variable_of (slots_of xs s)) put.is ∙ ap (λ x. variable_of (unpack_of x)) (get_or-set_same old s put.bits 0 place.within) ∙ ap variable_of put.reads,
  )
]

-- the links of the notes were kept beside the words
pub noted_answer : (k : Kind) (h q : Held) (v : ℕ) (hi lo e : Edge) → Answered k h q v hi lo e → (n : Notes) → n.marks ≡ q.plain.marks → n.pins ≡ q.plain.pins → IsLinkedTo (slots q.plain) n.chain → Answered k h (with_notes q n) v hi lo e
noted_answer k h q v hi lo e a n marks pins linked = record {
  held = noted_held q a.held n marks pins (slots q.plain) refl linked;
  added = subst (λ x. Added Alone k (held_view h) x v hi lo e) (noted_view q a.held n marks pins) a.added;
}
