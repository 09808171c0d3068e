-- A store in its holder's hands, after a node was put in the place of another of its function.
use Rattle.std.proofs.Common.{false, ◌≡◌, ◌≢◌, ℕ, ◌+◌, ◌-◌, ◌^◌, ◌<◌, ◌≤◌, inl, inr, List, length, get_or, set, Option, Some, refl, ap, sym, ◌∙◌, subst, arith}
use Rattle.std.proofs.lemmas.Bool.{lt-ltb, le-ltb}
use Rattle.std.proofs.lemmas.List.{length-set, get_or-set_same, get_or-set_other}
use Rattle.std.proofs.lemmas.Grind.{get_or_default_zero}
use Rattle.edge_bits.specs.declared.edges.Edge.{Edge}
use Rattle.edge_bits.specs.declared.edges.Kind.{Kind}
use Rattle.edge_bits.specs.declared.edges.Kind.TheVariants.{Bdd, Add, Zdd}
use Rattle.edge_bits.specs.declared.words.Node.{Node}
use Rattle.edge_bits.specs.declared.words.Word.TheVariants.{Inner}
use Rattle.edge_bits.specs.Words.{IsInRange, unpack_of}
use Rattle.edge_bits.specs.Reading.{element_of, slots_of}
use Rattle.edge_bits.specs.Permanent.{first_element}
use Rattle.edge_bits.specs.declared.limits.TheConstants.{MOST_LEVELS}
use Rattle.function_laws.specs.Kinds.{function_of}
use Rattle.function_laws.specs.SiftedOrders.{place_of}
use Rattle.node_store.specs.KindLaws.{flipped-some}
use Rattle.node_store.specs.Views.{IsVariable, Is, values_at}
use Rattle.node_store.specs.Contents.{Content, IsOrder, IsSound, level_of, projection_node, view_of}
use Rattle.node_store.specs.Changes.{After, CanRewrite, put_at, pair_of, rewritten, var_of}
use Rattle.node_store.proofs.Rewriting.{rewritten_sound, same_var}
use Rattle.node_slots.specs.Stores.{slots, level_in, plain_view, AreInverse, HasPermanent}
use Rattle.node_slots.specs.Held.{Alone, Held, IsHeld, held_view, pair_in}
use Rattle.node_slots.specs.declared.held_store.HalfSwap.{HalfSwap}
use Rattle.node_slots.proofs.HeldLaws.{after_same, settle, slots_put}
use Rattle.node_slots.proofs.Returning.{level_is}
use Rattle.node_slots.proofs.Settling.{variable_back}

-- the store is seen as this content, but for what others did to the counts
pub record Becomes (w : Content) (new : Held) : Type 0 where
  pub held : IsHeld new
  pub after : After Alone w (held_view new)

abbrev pub with_words : Held → List ℕ → Option HalfSwap → Held
with_words h ws half = record { plain = record h.plain { words = ws }; half = half; chain = record h.chain { linked = false } }

module _ (h : Held) (held : IsHeld h) where
  -- the level of a variable, below the most
  levels_known : (levels at : List ℕ) → AreInverse levels at → IsOrder at → length levels ≤ MOST_LEVELS → (v : ℕ) → v < length levels → (get_or levels v 0 ≡ place_of v at) × (get_or levels v 0 < MOST_LEVELS)
  levels_known levels at inverse order few v lt =
      let e = level_is levels at inverse order v lt in
      let long = inverse.as_many in
      let stands = order.stands v (omega (arith, lt, long)) in
      (e, omega (arith, e, stands, long, few))

  pub level_known : (k : Kind) (v : ℕ) → IsVariable k (plain_view h.plain) v → (level_in h.plain v ≡ level_of (held_view h).orders v) × (level_in h.plain v < MOST_LEVELS)
  level_known Bdd v vn = rw (lt-ltb v first_element vn.0) (levels_known h.plain.variable_levels h.plain.variables_at held.variables_stand held.sound.variables held.few_variables v vn.1)
  level_known Add v vn = rw (lt-ltb v first_element vn.0) (levels_known h.plain.variable_levels h.plain.variables_at held.variables_stand held.sound.variables held.few_variables v vn.1)
  level_known Zdd v vn = rw (le-ltb v first_element vn.0)
      (levels_known h.plain.element_levels h.plain.elements_at held.elements_stand held.sound.elements held.few_elements (element_of v) (let a = vn.0 in let b = vn.1 in omega arith))

  pub variable_held : (k : Kind) (v : ℕ) → IsVariable k (view_of (held_view h)) v → IsVariable k (plain_view h.plain) v
  variable_held = variable_back h.plain held.variables_stand.as_many held.elements_stand.as_many

  pub variable_small : (k : Kind) (v : ℕ) → IsVariable k (view_of (held_view h)) v → v < 2 ^ 15
  variable_small k v vn = by_kind k (variable_held k v vn)
    where
      by_kind : (k : Kind) → IsVariable k (plain_view h.plain) v → v < 2 ^ 15
      by_kind Bdd vn = let a = vn.0 in omega arith
      by_kind Add vn = let a = vn.0 in omega arith
      by_kind Zdd vn = let b = vn.1 in let f = held.few_elements in omega arith

  pub edge_small : (k : Kind) (e : Edge) → Is k (view_of (held_view h)) e → e.index < 2 ^ 23
  edge_small k e is =
      let o = flipped-some e.complement ((held_view h).function e.index) (function_of k (values_at k (view_of (held_view h)) e)) is.is in
      let within = held.sound.within e.index (held.sound.used e.index o.0 o.1) in
      let few = held.sound.few_slots in
      omega (arith, within, few)

  -- the variable of a node in a slot
  pub node_variable : (s : ℕ) (node : Node) → slots h.plain s ≡ Some (Inner node) → (k : Kind) × IsVariable k (view_of (held_view h)) node.var
  node_variable s node is =
      let d = held.sound.denotes s (Inner node, is) in
      let n = held.sound.nodes s node d.0 is d.1 in
      (n.kind, n.in_range)

  -- other words, which are those of a sound content
  pub words_become : (w : Content) → IsSound w → (ws : List ℕ) (half : Option HalfSwap) → w ≡ record (held_view h) { word = w.word; function = w.function; half = w.half }
      → length ws ≡ length h.plain.words → w.word ≡ slots_of ws → w.half ≡ pair_in half → HasPermanent (record h.plain { words = ws }) → Becomes w (with_words h ws half)
  words_become w sound ws half rest long words swap first =
      let new = with_words h ws half in
      let same = settle new w sound held.variables_stand held.elements_stand (ap (λ x. x.orders) rest) (ap (λ x. x.limit) rest ∙ sym long) words (ap (λ x. x.count) rest) (ap (λ x. x.generation) rest)
      (ap (λ x. x.marked) rest) (ap (λ x. x.pinned) rest) (ap (λ x. x.sweeping) rest) swap in
      let after = after_same w (held_view new) same sound in
      record {
        held = record {
          sound = after.sound;
          variables_stand = held.variables_stand;
          elements_stand = held.elements_stand;
          permanent = first;
          few_variables = held.few_variables;
          few_elements = held.few_elements;
          room = (let r = held.room in omega (arith, r, long));
          counted = held.counted ∙ sym long;
          marks_fit = held.marks_fit ∙ sym long;
          pins_fit = held.pins_fit ∙ sym long;
          nothing_due = held.nothing_due;
          forgotten = held.forgotten;
          linked = λ on. cc;
        };
        after = after;
      }

  module _ (k : Kind) (s v : ℕ) (hi lo : Edge) (can : CanRewrite k (held_view h) s v hi lo) where
    other_word : (bits t : ℕ) → t ≢ s → slots_of (set h.plain.words s bits) t ≡ slots h.plain t
    other_word bits t ne = ap unpack_of (get_or-set_other h.plain.words s t bits 0 ne)

    permanent_kept : (bits : ℕ) → HasPermanent (record h.plain { words = set h.plain.words s bits })
    permanent_kept bits = record {
      constants = λ t lt. other_word bits t (λ e. can.spare (inl (subst (λ x. x < 5) e lt))) ∙ held.permanent.constants t lt;
      projections = λ x lt. (
          let p = held.permanent.projections x lt in
          let l = held.variables_stand.as_many in
          other_word bits (5 + x) (λ e. can.spare (inr (x, omega (arith, lt, l), subst (λ t. slots h.plain t ≡ Some (Inner (projection_node x))) e p))) ∙ p);
    }

    pub node_within : s < length h.plain.words
    node_within = held.sound.within s (Inner can.node, can.was)

    pub node_rewritten : (bits : ℕ) → unpack_of bits ≡ Some (Inner (record { var = v; hi = hi.index; lo = lo })) → (half : HalfSwap) → pair_in (Some half) ≡ Some (pair_of (held_view h) can.node.var v)
        → Becomes (rewritten (held_view h) s v hi lo) (with_words h (set h.plain.words s bits) (Some half))
    node_rewritten bits reads half pair =
        words_become (rewritten (held_view h) s v hi lo) (rewritten_sound (held_view h) held.sound k s v hi lo can) (set h.plain.words s bits) (Some half) refl
        (length-set h.plain.words s bits) (ap (put_at (slots h.plain) s) (sym reads) ∙ slots_put h.plain.words s bits node_within)
        (ap (λ o. Some (pair_of (held_view h) (var_of o) v)) can.was ∙ sym pair) (permanent_kept bits)

-- the links are given up
pub unlinked : (h : Held) → IsHeld h → IsHeld (with_words h h.plain.words h.half)
unlinked h held = record {
  sound = held.sound;
  variables_stand = held.variables_stand;
  elements_stand = held.elements_stand;
  permanent = record { constants = held.permanent.constants; projections = held.permanent.projections };
  few_variables = held.few_variables;
  few_elements = held.few_elements;
  room = held.room;
  counted = held.counted;
  marks_fit = held.marks_fit;
  pins_fit = held.pins_fit;
  nothing_due = held.nothing_due;
  forgotten = held.forgotten;
  linked = λ on. cc;
}

-- the store as it was seen at the start of the call
pub rewriting : (q h : Held) → q ≡ h → IsHeld q → (s v : ℕ) (hi lo : Edge) → (k : Kind) × CanRewrite k (held_view h) s v hi lo → (old : Node) → slots q.plain s ≡ Some (Inner old)
    → (ws : List ℕ) (bits : ℕ) → ws ≡ set q.plain.words s bits → slots_of ws s ≡ Some (Inner (record { var = v; hi = hi.index; lo = lo }))
    → (half : HalfSwap) → pair_in (Some half) ≡ Some (pair_of (held_view h) old.var v) → Becomes (rewritten (held_view h) s v hi lo) (with_words q ws (Some half))
rewriting q h same held s v hi lo can old was ws bits is here half pair =
    let k = can.0 in
    let can_q = subst (λ x. CanRewrite k (held_view x) s v hi lo) (sym same) can.1 in
    let one : old.var ≡ can_q.node.var = same_var old can_q.node (sym was ∙ can_q.was) in
    let pair_q = subst (λ x. pair_in (Some half) ≡ Some (pair_of (held_view x) old.var v)) (sym same) pair in
    let reads = sym (ap (λ xs. slots_of xs s) is ∙ ap unpack_of (get_or-set_same q.plain.words s bits 0 (node_within q held k s v hi lo can_q))) ∙ here in
    let done = node_rewritten q held k s v hi lo can_q bits reads half (pair_q ∙ ap (λ u. Some (pair_of (held_view q) u v)) one) in
    subst (λ x. Becomes (rewritten (held_view x) s v hi lo) (with_words q ws (Some half))) same
    (subst (λ xs. Becomes (rewritten (held_view q) s v hi lo) (with_words q xs (Some half))) (sym is) done)

-- a level that is read out of an order's list
pub variable_level_few : (q h : Held) → q ≡ h → IsHeld q → (v x : ℕ) → (k : Kind) × IsVariable k (plain_view h.plain) v → v < first_element → x ≡ get_or q.plain.variable_levels v x → x < MOST_LEVELS
variable_level_few q h same held v x vn below is = subst (λ y. (k : Kind) × IsVariable k (plain_view y.plain) v → x < MOST_LEVELS) same (λ n. at n.0 n.1) vn
  where
    within : v < length q.plain.variable_levels → x < MOST_LEVELS
    within lt =
        let known = levels_known q held q.plain.variable_levels q.plain.variables_at held.variables_stand held.sound.variables held.few_variables v lt in
        let read = get_or_default_zero q.plain.variable_levels v x lt in
        omega (arith, known.1, read, is)

    at : (k : Kind) → IsVariable k (plain_view q.plain) v → x < MOST_LEVELS
    at Bdd n = within n.1
    at Add n = within n.1
    at Zdd n = let high = n.0 in absurd (omega arith)

pub element_level_few : (q h : Held) → q ≡ h → IsHeld q → (v x : ℕ) → (k : Kind) × IsVariable k (plain_view h.plain) v → first_element ≤ v → x ≡ get_or q.plain.element_levels (v - first_element) x → x < MOST_LEVELS
element_level_few q h same held v x vn above is = subst (λ y. (k : Kind) × IsVariable k (plain_view y.plain) v → x < MOST_LEVELS) same (λ n. at n.0 n.1) vn
  where
    within : v - first_element < length q.plain.element_levels → x < MOST_LEVELS
    within lt =
        let known = levels_known q held q.plain.element_levels q.plain.elements_at held.elements_stand held.sound.elements held.few_elements (v - first_element) lt in
        let read = get_or_default_zero q.plain.element_levels (v - first_element) x lt in
        omega (arith, known.1, read, is)

    at : (k : Kind) → IsVariable k (plain_view q.plain) v → x < MOST_LEVELS
    at Bdd n = let low = n.0 in absurd (omega arith)
    at Add n = let low = n.0 in absurd (omega arith)
    at Zdd n = let low = n.1 in within (omega arith)

-- the variable of a node in a slot
pub node_known : (q h : Held) → q ≡ h → IsHeld q → (s : ℕ) (node : Node) → slots q.plain s ≡ Some (Inner node) → (k : Kind) × IsVariable k (plain_view h.plain) node.var
node_known q h same held s node is =
    let n = node_variable q held s node is in
    subst (λ x. (k : Kind) × IsVariable k (plain_view x.plain) node.var) same (n.0, variable_held q held n.0 node.var n.1)

-- the word of the new node fits its bits
pub node_fits : (q h : Held) → q ≡ h → IsHeld q → (s v : ℕ) (hi lo : Edge) → (k : Kind) × CanRewrite k (held_view h) s v hi lo → IsInRange (Inner (record { var = v; hi = hi.index; lo = lo }))
node_fits q h same held s v hi lo can =
    let can_q = subst (λ x. CanRewrite can.0 (held_view x) s v hi lo) (sym same) can.1 in
    (variable_small q held can.0 v can_q.in_range, edge_small q held can.0 hi can_q.hi_is, edge_small q held can.0 lo can_q.lo_is)
