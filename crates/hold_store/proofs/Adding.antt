-- A node that a holder finds or stores, in the middle of a swap too.
use Rattle.std.proofs.Common.{◌≡◌, ℕ, ◌^◌, ◌<◌, ◌≤◌, ◌⊎◌, inl, inr, Bool, Option, Some, None, refl, ap, sym, ◌∙◌, arith}
use Rattle.std.proofs.lemmas.Bool.{cases_lt}
use Rattle.edge_bits.specs.declared.edges.Edge.{Edge}
use Rattle.edge_bits.specs.declared.edges.Kind.{Kind}
use Rattle.edge_bits.specs.declared.edges.Kind.TheVariants.{Bdd, Add, Zdd}
use Rattle.edge_bits.specs.declared.words.Node.{Node}
use Rattle.edge_bits.specs.declared.words.Word.TheVariants.{Inner, Leaf}
use Rattle.function_laws.specs.Kinds.{Denoted, function_of}
use Rattle.node_store.specs.Edges.{flip_if}
use Rattle.node_store.specs.KindLaws.{flipped-some}
use Rattle.node_store.specs.Views.{Is, IsVariable, function_at, values_at}
use Rattle.node_store.specs.Contents.{Content, IsSound, constant_value, used_slots, view_of}
use Rattle.held_slots.specs.Linked.{variable_of}
use Rattle.node_store.specs.Changes.{Added, After, CanAdd, HasRoomFor, with_node}
use Rattle.node_store.proofs.Rewriting.{put_at-same}
use Rattle.node_slots.specs.Placing.{IsChild, HasNoChild}
use Rattle.node_slots.proofs.HeldAdding.{children_proper, found_denotes, no_edge, no_slot}
use Rattle.node_slots.proofs.Making.{Normal, child_is, node_with, normal}
use Rattle.hold_store.specs.Held.{IsNew, ZeroStays, node_function}
use Rattle.hold_store.specs.Placing.{CanPlace, IsAbsent, IsPlaced}

module _ (w : Content) (sound : IsSound w) where
  pub variable_small : (k : Kind) (v : ℕ) → IsVariable k (view_of w) v → v < 2 ^ 15
  variable_small Bdd v vn = let a = vn.0 in omega (arith, a)
  variable_small Add v vn = let a = vn.0 in omega (arith, a)
  variable_small Zdd v vn = let a = vn.0 in let b = vn.1 in let f = sound.few_elements in omega (arith, a, b, f)

  pub edge_small : (k : Kind) (e : Edge) → Is k (view_of w) e → e.index < 2 ^ 23
  edge_small k e is =
      let o = flipped-some e.complement (w.function e.index) (function_of k (values_at k (view_of w) e)) is.is in
      let within = sound.within e.index (sound.used e.index o.0 o.1) in
      let few = sound.few_slots in
      omega (arith, within, few)

  -- a node's slot is none of the constants'
  node_high : (s : ℕ) (node : Node) → w.word s ≡ Some (Inner node) → 5 ≤ s
  node_high s node word = elim (cases_lt s 5) [
    | inl lt ↦ (let e : Some (Leaf (constant_value s)) ≡ Some (Inner node) = sym (sound.constants s lt) ∙ word in cc)
    | inr le ↦ le
  ]

  module _ (k : Kind) (v : ℕ) (hi lo : Edge) (can : CanAdd k w v hi lo) where
    abbrev stored : Node
    stored = node_with v hi lo

    turned : Normal k (view_of w) v hi lo
    turned = normal k (view_of w) v hi lo can.can_make

    is_new : HasNoChild v hi lo → IsAbsent w stored → IsNew k w stored
    is_new child absent = record {
      can = turned.can;
      proper = turned.proper (children_proper w sound k v hi lo can child);
      absent = λ s word. absent s (let h = node_high s stored word in omega (arith, h)) word;
      unknown = no_slot w sound k v hi lo can child absent;
    }

    pub can_place : HasNoChild v hi lo → HasRoomFor k w v hi lo → CanPlace w stored
    can_place child room = record {
      fits = (variable_small k v can.can_make.in_range, edge_small k hi can.can_make.hi_is, edge_small k (flip_if hi.complement lo) turned.can.lo_is);
      kind = k;
      in_range = can.can_make.in_range;
      new = is_new child;
      room = λ absent. with_room room absent;
    }
      where
        with_room : HasRoomFor k w v hi lo → IsAbsent w stored → used_slots w < w.limit
        with_room (inl less) absent = less
        with_room (inr edge) absent = absurd (no_edge w sound k v hi lo can child absent edge.0 edge.1)

    -- the edge of a node that was found or stored
    abbrev edge_to : ℕ → Edge
    edge_to s = record { index = s; complement = hi.complement }

    -- with marks, and a sweep on or not
    module _ (marks : ℕ → Bool) (on : Bool) where
      abbrev seen : Content
      seen = record w { marked = marks; sweeping = on }

      pub placed : HasNoChild v hi lo → (s : ℕ) (c new : Content) → IsPlaced w c stored s
          → (c ≡ w → w.word s ≡ Some (Inner stored) → After ZeroStays seen new)
          → ((f : Denoted) → c ≡ with_node w s stored f → After ZeroStays (with_node seen s stored f) new)
          → Added ZeroStays k seen new v hi lo (edge_to s)
      placed child s c new (inl there) same stores = let a = same there.0 there.1 in record {
        denotes = ap (λ (g : ℕ → Option Denoted). function_at (record (view_of w) { content = g }) (edge_to s)) a.function ∙ found_denotes w sound k v hi lo can s there.1;
        way = inl a;
      }
      placed child s c new (inr put) same stores =
          let f = node_function k w stored in
          let a = stores f (put.3 k (is_new child put.0)) in
          record {
            denotes = ap (λ (g : ℕ → Option Denoted). function_at (record (view_of w) { content = g }) (edge_to s)) a.function ∙ turned.gives _ (put_at-same w.function s (Some f));
            way = inr (stored, f, put.2, put.1, refl, a);
          }

      -- what is so whichever way it was
      pub either : {P : Type 0} → HasNoChild v hi lo → (s : ℕ) (c : Content) → IsPlaced w c stored s → (c ≡ w → w.word s ≡ Some (Inner stored) → P) → ((f : Denoted) → c ≡ with_node w s stored f → P) → P
      either child s c (inl there) same stores = same there.0 there.1
      either child s c (inr put) same stores = stores (node_function k w stored) (put.3 k (is_new child put.0))

    pub slot_within : HasNoChild v hi lo → (s : ℕ) (c : Content) → IsPlaced w c stored s → s < w.limit
    slot_within child s c (inl there) = sound.within s (Inner stored, there.1)
    slot_within child s c (inr put) = put.1

    pub slot_was : HasNoChild v hi lo → (s : ℕ) (c : Content) → IsPlaced w c stored s → (w.word s ≡ None) ⊎ (variable_of (w.word s) ≡ Some v)
    slot_was child s c (inl there) = inr (ap variable_of there.1)
    slot_was child s c (inr put) = inl put.2

    pub child_added : (e : Edge) → IsChild v hi lo e → (new : Content) (marks : ℕ → Bool) (on : Bool) → After ZeroStays (record w { marked = marks; sweeping = on }) new → Added ZeroStays k (record w { marked = marks; sweeping = on }) new v hi lo e
    child_added e child new marks on a = record {
      denotes = ap (λ (g : ℕ → Option Denoted). function_at (record (view_of w) { content = g }) e) a.function ∙ (child_is (view_of w) sound.empty_family k v hi lo e can.can_make child).is;
      way = inl a;
    }
