-- What the holder of the order knows of the store is so.
use Rattle.std.proofs.Common.{◌≡◌, ℕ, ◌+◌, ◌<◌, ◌≤◌, Bool, true, List, Some, None, refl, ap, sym, ◌∙◌, subst, inl, inr, arith}
use Rattle.std.specs.Prelude as std
use Rattle.std.proofs.lemmas.Bool.{cases_lt}
use mathlib.Core.Option.{Option, some}
use lib.ListN.{get_elem?}
use Rattle.edge_bits.specs.declared.edges.Edge.{Edge}
use Rattle.edge_bits.specs.declared.edges.Kind.{Kind}
use Rattle.edge_bits.specs.declared.edges.Kind.TheVariants.{Bdd, Add, Zdd}
use Rattle.edge_bits.specs.declared.words.Word.{Word}
use Rattle.edge_bits.specs.Permanent.{first_element}
use Rattle.edge_bits.specs.Words.{unpack_of}
use Rattle.function_laws.specs.declared.history.Function.{Function}
use Rattle.function_laws.specs.declared.orders.Order.{Order}
use Rattle.function_laws.specs.Kinds.{Denoted}
use Rattle.node_store.specs.Contents.{Content, view_of}
use Rattle.node_store.specs.Changes.{CanExchange, CanRewrite}
use Rattle.node_store.specs.Views.{Is, IsBeyond}
use Rattle.words_rule.specs.declared.cell.Cell.{Cell}
use Rattle.words_rule.specs.declared.view.Hold.TheVariants.{Holding}
use Rattle.words_rule.specs.declared.view.View.{View}
use Rattle.words_rule.specs.Views.{orders_of}
use Rattle.words_rule.specs.Shapes.{shape_in}
use Rattle.words_rule.specs.Layout.{Shape, Words, content_of}
use Rattle.words_rule.specs.Kept.{IsHeldBy, whole_of}
use Rattle.words_rule.specs.Halves.{half_in}
use Rattle.words_rule.specs.Seen.{StandsSo}
use Rattle.words_rule.specs.Rule.{Parts}
use Rattle.words_rule.specs.Known.{denoted_in, met_in, noted_bits, noted_function, word_in}
use Rattle.words_rule.specs.HeldContents.{KnowsAll, held_bits, held_content, or_zero}
use Rattle.words_rule.proofs.Decoding.{Beyond, decodes}
use Rattle.words_rule.proofs.Meeting.{kind_of, noted_true, seen_true}
use Rattle.words_rule.proofs.Stepping.{shape_is}
use Rattle.free_list.specs.FreeSlots.{FreeSlots}

-- with these counts, generations and pins
abbrev pub counted : Content → (ℕ → ℕ) → (ℕ → ℕ) → (ℕ → Bool) → Content
counted w count generation pinned = record w { count = count; generation = generation; pinned = pinned }

-- what is asked of a rewrite, of a free store and of an exchange says nothing of them, but that the freed slot has none
module _ (w : Content) (count generation : ℕ → ℕ) (pinned : ℕ → Bool) where
  is_counted : (k : Kind) (e : Edge) → Is k (view_of (counted w count generation pinned)) e → Is k (view_of w) e
  is_counted k e d = record { is = d.is; beyond = beyond k (λ v h. d.beyond v h); fits = d.fits }
    where
      beyond : (k : Kind) {P : ℕ → Type 0} → ((v : ℕ) → IsBeyond k (view_of (counted w count generation pinned)) v → P v) → (v : ℕ) → IsBeyond k (view_of w) v → P v
      beyond Bdd f v h = f v h
      beyond Add f v h = f v h
      beyond Zdd f v h = f v h

  pub can_rewrite : (k : Kind) (s x : ℕ) (hi lo : Edge) → CanRewrite k (counted w count generation pinned) s x hi lo → CanRewrite k w s x hi lo
  can_rewrite k s x hi lo c = record {
    node = c.node;
    was = c.was;
    spare = c.spare;
    in_range = c.in_range;
    half = c.half;
    hi_is = is_counted k hi c.hi_is;
    lo_is = is_counted k lo c.lo_is;
    plain = c.plain;
    hi_lacks = c.hi_lacks;
    lo_lacks = c.lo_lacks;
    proper = c.proper;
    same = c.same;
  }

  pub can_exchange : (order : Order) (level : ℕ) → CanExchange (counted w count generation pinned) order level → CanExchange w order level
  can_exchange order level c = record { within = c.within; half = c.half; lacks = c.lacks }

module _ {S : Type 0} (board : S → List (std.Option Cell)) (free_slots : S → FreeSlots) (memo : S → List ℕ) where
  module _ (z : Shape) (ws : Words) (home : ℕ → Option (Option (std.Option S))) (vs : List View) (r : Parts board free_slots memo z ws home vs) (id : ℕ) (v : View) (at : get_elem? vs id ≡ some v) where
    abbrev pub w : Content
    w = content_of z ws.node r.orders r.function r.half

    longer : (k : Kind) (u : ℕ) → Beyond z k u → IsBeyond k (view_of w) u
    longer Bdd u h = subst (λ (x : ℕ). x ≤ u) (sym r.positions.variables_long) h
    longer Add u h = subst (λ (x : ℕ). x ≤ u) (sym r.positions.variables_long) h
    longer Zdd u h = subst (λ (x : ℕ). first_element + x ≤ u) (sym r.positions.elements_long) h

    -- a function is had back from its list
    pub decoded : (s : ℕ) (f : Denoted) → r.function s ≡ Some f → denoted_in z.variables (whole_of z f) ≡ f
    decoded s f is =
        let k = kind_of f in
        ap (λ (x : Denoted). denoted_in z.variables (whole_of z x)) k.2 ∙ decodes z k.0 k.1 (λ u h. (r.sound.of_store s k.0 k.1 (is ∙ ap Some k.2)).0 u (longer k.0 u h)) ∙ sym k.2

    module _ (live : v.draws.live ≡ true) (holding : v.shares.order ≡ Holding) (k : KnowsAll v) where
      shape : z ≡ shape_in v.draws
      shape = shape_is board free_slots memo z ws home vs r id v at live

      pub limit_is : v.draws.slots ≡ z.slots
      limit_is = ap (λ (y : Shape). y.slots) (sym shape)

      -- the noted word is the word
      pub noted_is : (s bits : ℕ) → noted_bits v.known.words s ≡ Some bits → ws.node s ≡ bits
      noted_is s bits noted = (noted_true (StandsSo ws.node v) v.known.words ((r.seen id v at).words (inr holding)) s bits noted).0

      -- a word behind the last slot is none
      free_behind : (s : ℕ) → z.slots ≤ s → unpack_of (ws.node s) ≡ None
      free_behind s le = by (unpack_of (ws.node s)) refl
        where
          by : (x : std.Option Word) → unpack_of (ws.node s) ≡ x → unpack_of (ws.node s) ≡ None
          by None e = e
          by (Some word) e = absurd (let below = r.sound.within s (word, e) in omega (arith, below, le))

      pub bits_are : (s : ℕ) → s < z.slots → ws.node s ≡ held_bits v s
      bits_are s lt =
          let n = k.noted s (subst (λ (m : ℕ). s < m) (sym limit_is) lt) in noted_is s n.0 n.1 ∙ ap or_zero (sym n.1)

      pub word_same : (s : ℕ) → (held_content v).word s ≡ unpack_of (ws.node s)
      word_same s = elim (cases_lt s z.slots) [
        | inl lt ↦ let n = k.noted s (subst (λ (m : ℕ). s < m) (sym limit_is) lt) in ap word_in n.1 ∙ ap unpack_of (sym (noted_is s n.0 n.1))
        | inr le ↦ ap word_in (k.beyond s (subst (λ (m : ℕ). m ≤ s) (sym limit_is) le)) ∙ sym (free_behind s le)
      ]

      -- what it noted of a slot is what that denotes
      noted_function_is : (s : ℕ) (f : Denoted) → (held_content v).function s ≡ Some f → r.function s ≡ Some f
      noted_function_is s f is = by (noted_bits v.known.words s) (noted_function v.known.seen s) refl is
        where
          no_denoted : ◌≡◌ {A = std.Option Denoted} None (Some f) → ⊥
          no_denoted e = cc

          by : (a : std.Option ℕ) (b : std.Option Function) → noted_function v.known.seen s ≡ b → met_in v.draws.vars a b ≡ Some f → r.function s ≡ Some f
          by (Some bits) (Some g) noted met =
              let held = seen_true (IsHeldBy z r.function) v.known.seen ((r.seen id v at).held (inl (inr holding))) s g noted in
              held.1 ∙ ap Some (sym (decoded s held.0 held.1) ∙ ap (denoted_in z.variables) held.2 ∙ ap (λ n. denoted_in n g) (ap (λ (y : Shape). y.variables) shape)) ∙ met
          by (Some bits) None noted met = absurd (no_denoted met)
          by None b noted met = absurd (no_denoted met)

      pub function_same : (s : ℕ) → (held_content v).function s ≡ r.function s
      function_same s = by (r.function s) refl ((held_content v).function s) refl
        where
          by : (a : std.Option Denoted) → r.function s ≡ a → (b : std.Option Denoted) → (held_content v).function s ≡ b → (held_content v).function s ≡ r.function s
          by a is (Some f) noted = noted ∙ sym (noted_function_is s f noted)
          by None is None noted = noted ∙ sym is
          by (Some f) is None noted =
              let used = r.sound.used s f is in
              let has = k.sound.denotes s (used.0, word_same s ∙ used.1) in absurd (never has.0 (sym noted ∙ has.1))
            where
              never : (g : Denoted) → ◌≡◌ {A = std.Option Denoted} None (Some g) → ⊥
              never g e = cc

      pub orders_same : orders_of v.known ≡ r.orders
      orders_same = (r.ordered.held id v at holding).0

      -- so what it knows is the store, but for counts, generations and pins, which the rule's store has not
      pub same_content : half_in v.known ≡ r.half → held_content v ≡ counted w (held_content v).count (held_content v).generation (held_content v).pinned
      same_content half = λ i. record {
        orders = orders_same i;
        limit = limit_is i;
        word = λ s. word_same s i;
        function = λ s. function_same s i;
        count = (held_content v).count;
        generation = (held_content v).generation;
        marked = λ s. std.false;
        pinned = (held_content v).pinned;
        sweeping = std.true;
        half = half i;
      }
