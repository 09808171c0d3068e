-- The load of a node word, with the clauses of a seat's step.
use Rattle.std.proofs.Common.{◌≡◌, ⊎_elim, inl, inr, ℕ, ◌<◌, true, List, [], ◌∷◌, set, get_or, Some, None, refl, ap, sym, ◌∙◌, subst}
use Rattle.std.specs.Prelude as std
use mathlib.Core.Option.{Option, some}
use lib.ListN.{get_elem?}
use lib.Seq.{set-get_or}
use Rattle.atomic_table.specs.Table.{State, Me, keeps, Allows}
use Rattle.edge_bits.specs.declared.words.Word.{Word}
use Rattle.edge_bits.specs.declared.words.Word.TheVariants.{Inner, Leaf}
use Rattle.edge_bits.specs.Words.{unpack_of}
use Rattle.function_laws.specs.Kinds.{Denoted, function_of}
use Rattle.node_store.specs.KindLaws.{flipped-some}
use Rattle.node_store.specs.ViewLaws.{Kept-refl}
use Rattle.step_store.specs.Chains as steps
use Rattle.step_store.specs.Knowing as knowing
use Rattle.step_store.specs.Knowing.{Knowledge, Learns, Meets, IsMet, Stands}
use Rattle.words_rule.specs.declared.cell.Cell.{Cell}
use Rattle.words_rule.specs.declared.view.Held.{Held}
use Rattle.words_rule.specs.declared.view.Share.TheVariants as shares
use Rattle.words_rule.specs.declared.view.Walk.{Walk}
use Rattle.words_rule.specs.declared.view.View.{View}
use Rattle.words_rule.specs.Views.{orders_of}
use Rattle.words_rule.specs.Shapes.{shape_in}
use Rattle.words_rule.specs.Layout.{Shape, Words, words_of, node_at}
use Rattle.words_rule.specs.Chains.{Lists}
use Rattle.words_rule.specs.OneSession.{Storer, storer_of}
use Rattle.words_rule.specs.Rule.{Parts, Rule}
use Rattle.words_rule.specs.Loads.{LoadedNode, IsSeatOf}
use Rattle.words_rule.specs.Known.{Own, walk_of, known_of}
use Rattle.words_rule.proofs.Layouts.{here_node}
use Rattle.words_rule.proofs.Lists.{set_at}
use Rattle.words_rule.proofs.Stepping.{shape_is}
use Rattle.words_rule.proofs.Tabling.{stays, set_set}
use Rattle.words_rule.proofs.Handed.{hand_at}
use Rattle.words_rule.proofs.Meeting.{content_true, word_stands, meets, AreKnown}
use Rattle.words_rule.proofs.Noticing.{learns_trans, noticing, noticed_parts, noticed_orders, noticed_here, noticed_has, noticed_learns}
use Rattle.words_rule.proofs.Standing.{stands_more}
use Rattle.words_rule.proofs.Draws.{one_still}
use Rattle.free_list.specs.FreeSlots.{FreeSlots}

never : (word : Word) → ◌≡◌ {A = std.Option Word} None (Some word) → ⊥
never word e = cc

some_word : (a b : Word) → Some a ≡ Some b → a ≡ b
some_word a b e = cc

pub lists_back : (l : List ℕ) (s : ℕ) → steps.Lists l s → Lists l s
lists_back [] s h = h
lists_back (x ∷ xs) s h = ⊎_elim (λ e. inl e) (λ later. inr (lists_back xs s later)) h

pub lists_on : (l : List ℕ) (s : ℕ) → Lists l s → steps.Lists l s
lists_on [] s h = h
lists_on (x ∷ xs) s h = ⊎_elim (λ e. inl e) (λ later. inr (lists_on xs s later)) h

pub walk_in : (walk : std.Option Walk) (n : knowing.Walk) → std.option_map walk_of walk ≡ Some n → (m : Walk) × (walk ≡ Some m) × (walk_of m ≡ n)
walk_in (Some m) n e = (m, refl, (let same : walk_of m ≡ n = cc in same))
walk_in None n e = cc

pub learns_refl : (k : Knowledge) → Learns k k
learns_refl k = record { kept = Kept-refl k.view; room = refl; words = λ s b is. is; heads = refl }

module _ {S : Type 0} (board : S → List (std.Option Cell)) (free_slots : S → FreeSlots) (memo : S → List ℕ) where
  abbrev PartsOf : Shape → Words → (ℕ → Option (Option (std.Option S))) → List View → Type 0
  PartsOf = Parts board free_slots memo

  abbrev TheRule : State (std.Option S) View → Type 0
  TheRule = Rule board free_slots memo

  abbrev Sat : Type 0
  Sat = Me (std.Option S) View

  module _ (z : Shape) (ws : Words) (home : ℕ → Option (Option (std.Option S))) (vs : List View) (r : PartsOf z ws home vs) (id : ℕ) (v : View) (at : get_elem? vs id ≡ some v)
      (live : v.draws.live ≡ true) (share : v.shares.op ≡ shares.Held) (orders_noted : orders_of v.known ≡ r.orders) (o : Own) where
    abbrev K : Knowledge
    K = known_of v o

    -- a slot that the seat knows to be in use has a word
    pub met_used : (q : ℕ) → IsMet K q → (word : Word) × (unpack_of (ws.node q) ≡ Some word)
    met_used q met = ⊎_elim
        (λ (c : (f : Denoted) × (K.view.content q ≡ Some f)).
        let t = content_true board free_slots memo z ws home vs r id v at live share orders_noted o q c.0 c.1 in
        let u = word_stands board free_slots memo z ws home vs r id v at live share orders_noted o q t.0 t.1 in (u.1, ap unpack_of u.0 ∙ u.2))
        (λ (c : (n : knowing.Walk) × (K.hand.walk ≡ Some n) × steps.Lists n.rest q).
        let m = walk_in v.hand.walk c.0 c.1 in
        let there : Lists m.0.rest q = lists_back m.0.rest q (subst (λ (n : knowing.Walk). steps.Lists n.rest q) (sym m.2) c.2) in
        let u = r.linked.used q ((r.linked.walks id v.hand (hand_at board free_slots memo z ws home vs r id v at) m.0 m.1).1.all_on q there) in (u.1, u.2))
        met

    -- what is left, as parts and as clauses
    pub record LoadedAt (q : ℕ) : Type 0 where
      pub view : View
      pub parts : PartsOf z ws home (set vs id view)
      pub loaded : LoadedNode K (known_of view o) q (ws.node q)
      pub seat : IsSeatOf v view
      pub work : view.work ≡ v.work
      pub hands : view.hand ≡ v.hand
      pub same : storer_of view ≡ storer_of v

    -- a word in use is noted, and its children
    pub loads_at : (q : ℕ) (word : Word) → unpack_of (ws.node q) ≡ Some word → K.view.fulls < 18446744073709551616 → LoadedAt q
    loads_at q (Leaf x) reads few =
        let d = r.sound.denotes q (Leaf x, reads) in
        let p1 = noticed_parts board free_slots memo z ws home vs r id v at live share orders_noted o q (Leaf x) reads d.0 d.1 in
        let e1 = noticed_orders board free_slots memo z ws home vs r id v at live share orders_noted o q (Leaf x) reads d.0 d.1 in
        let v1 : View = noticing board free_slots memo z ws home vs r id v at live share orders_noted o q d.0 in
        let l1 = noticed_learns board free_slots memo z ws home vs r id v at live share orders_noted o q (Leaf x) reads d.0 d.1 in
        let at1 = set_at vs id v v1 at in record {
          view = v1;
          parts = p1;
          loaded = record {
            learns = l1;
            hand = refl;
            meets = λ word is. meets board free_slots memo z ws home (set vs id v1) p1 id v1 at1 live share (orders_noted ∙ sym e1) o q (ws.node q) word
                (noticed_here board free_slots memo z ws home vs r id v at live share orders_noted o q (Leaf x) reads d.0 d.1) is (noticed_has board free_slots memo z ws home vs r id v at live share orders_noted o q (Leaf x) reads d.0 d.1)
                (subst (AreKnown (known_of v1 o).view) (some_word (Leaf x) word (sym reads ∙ is)) tt);
            used = λ met. (Leaf x, reads);
            stands = λ st. stands_more board free_slots memo z ws home (set vs id v1) p1 id v1 at1 live share (orders_noted ∙ sym e1) o K st l1.kept.grown refl few;
          };
          seat = record { draws = refl; shares = refl; counts = refl; orders = refl };
          hands = refl;
          work = refl;
          same = refl;
        }
    loads_at q (Inner node) reads few =
        let d = r.sound.denotes q (Inner node, reads) in
        let n = r.sound.nodes q node d.0 reads d.1 in
        let high_used = r.sound.used node.hi (function_of n.kind n.high) n.high_is in
        let low_f = flipped-some node.lo.complement (r.function node.lo.index) (function_of n.kind n.low) n.low_is in
        let low_used = r.sound.used node.lo.index low_f.0 low_f.1 in
        let p1 = noticed_parts board free_slots memo z ws home vs r id v at live share orders_noted o node.lo.index low_used.0 low_used.1 low_f.0 low_f.1 in
        let e1 = noticed_orders board free_slots memo z ws home vs r id v at live share orders_noted o node.lo.index low_used.0 low_used.1 low_f.0 low_f.1 in
        let v1 : View = noticing board free_slots memo z ws home vs r id v at live share orders_noted o node.lo.index low_f.0 in
        let vs1 : List View = set vs id v1 in
        let at1 = set_at vs id v v1 at in
        let l1 : Learns K (known_of v1 o) = noticed_learns board free_slots memo z ws home vs r id v at live share orders_noted o node.lo.index low_used.0 low_used.1 low_f.0 low_f.1 in
        let low_has = noticed_has board free_slots memo z ws home vs r id v at live share orders_noted o node.lo.index low_used.0 low_used.1 low_f.0 low_f.1 in
        let on1 = orders_noted ∙ sym e1 in
        let d2 = p1.sound.denotes node.hi high_used in
        let p2 = noticed_parts board free_slots memo z ws home vs1 p1 id v1 at1 live share on1 o node.hi high_used.0 high_used.1 d2.0 d2.1 in
        let e2 = noticed_orders board free_slots memo z ws home vs1 p1 id v1 at1 live share on1 o node.hi high_used.0 high_used.1 d2.0 d2.1 in
        let v2 : View = noticing board free_slots memo z ws home vs1 p1 id v1 at1 live share on1 o node.hi d2.0 in
        let vs2 : List View = set vs1 id v2 in
        let at2 = set_at vs1 id v1 v2 at1 in
        let l2 : Learns (known_of v1 o) (known_of v2 o) = noticed_learns board free_slots memo z ws home vs1 p1 id v1 at1 live share on1 o node.hi high_used.0 high_used.1 d2.0 d2.1 in
        let high_has = noticed_has board free_slots memo z ws home vs1 p1 id v1 at1 live share on1 o node.hi high_used.0 high_used.1 d2.0 d2.1 in
        let on2 = on1 ∙ sym e2 in
        let d3 = p2.sound.denotes q (Inner node, reads) in
        let p3 = noticed_parts board free_slots memo z ws home vs2 p2 id v2 at2 live share on2 o q (Inner node) reads d3.0 d3.1 in
        let e3 = noticed_orders board free_slots memo z ws home vs2 p2 id v2 at2 live share on2 o q (Inner node) reads d3.0 d3.1 in
        let v3 : View = noticing board free_slots memo z ws home vs2 p2 id v2 at2 live share on2 o q d3.0 in
        let vs3 : List View = set vs2 id v3 in
        let at3 = set_at vs2 id v2 v3 at2 in
        let l3 : Learns (known_of v2 o) (known_of v3 o) = noticed_learns board free_slots memo z ws home vs2 p2 id v2 at2 live share on2 o q (Inner node) reads d3.0 d3.1 in
        let learns : Learns K (known_of v3 o) = learns_trans l1 (learns_trans l2 l3) in
        let low_is = l3.kept.grown.content node.lo.index low_has.0 (l2.kept.grown.content node.lo.index low_has.0 low_has.1) in
        let high_is = l3.kept.grown.content node.hi high_has.0 high_has.1 in
        let same_list : vs3 ≡ set vs id v3 = set_set vs1 id v2 v3 ∙ set_set vs id v1 v3 in record {
          view = v3;
          parts = subst (λ (l : List View). PartsOf z ws home l) same_list p3;
          loaded = record {
            learns = learns;
            hand = refl;
            meets = λ word is. meets board free_slots memo z ws home vs3 p3 id v3 at3 live share (on2 ∙ sym e3) o q (ws.node q) word
                (noticed_here board free_slots memo z ws home vs2 p2 id v2 at2 live share on2 o q (Inner node) reads d3.0 d3.1) is (noticed_has board free_slots memo z ws home vs2 p2 id v2 at2 live share on2 o q (Inner node) reads d3.0 d3.1)
                (subst (AreKnown (known_of v3 o).view) (some_word (Inner node) word (sym reads ∙ is)) ((high_has.0, high_is), (low_has.0, low_is)));
            used = λ met. (Inner node, reads);
            stands = λ st. stands_more board free_slots memo z ws home vs3 p3 id v3 at3 live share (on2 ∙ sym e3) o K st learns.kept.grown refl few;
          };
          seat = record { draws = refl; shares = refl; counts = refl; orders = refl };
          hands = refl;
          work = refl;
          same = refl;
        }

  -- the clauses of load_node, and that the rest of the seat stays
  abbrev pub LoadedSlot : Own → ℕ → Sat → ℕ → Sat → Type 0
  LoadedSlot o q m n m' = (m'.1 ≡ m.1) × (m'.0.hand ≡ m.0.hand) × (m'.0.work ≡ m.0.work) × (m'.0.stored ≡ m.0.stored) × IsSeatOf m.0 m'.0 × LoadedNode (known_of m.0 o) (known_of m'.0 o) q n

  -- The load of a node word under an operation share, whether in use or not.
  pub loads_met : (slots id : ℕ) (me : Sat) (o : Own) (q : ℕ) → me.0.draws.live ≡ true → me.0.shares.op ≡ shares.Held → q < me.0.draws.slots → o.fulls < 18446744073709551616
      → Allows TheRule slots id me (node_at (shape_in me.0.draws) q) (λ x. x) (LoadedSlot o q me)
  loads_met slots id me o q live share inside few s r long at small =
      let v = me.0 in
      let z = r.shape in
      let p = r.parts in
      let home = λ (k : ℕ). get_elem? s.homes k in
      let ws = words_of z s.words in
      let shape = shape_is board free_slots memo z ws home s.views p id v at live in
      let below : q < z.slots = subst (λ (y : Shape). q < y.slots) (sym shape) inside in
      let word : ℕ = node_at (shape_in v.draws) q in
      let n : ℕ = get_or s.words word 0 in
      let is : ws.node q ≡ n = here_node z s.words 0 q below ∙ ap (λ (y : Shape). get_or s.words (node_at y q) 0) shape in
      by_word (ws.node q) (unpack_of (ws.node q)) refl
      (λ x used.
      let l = loads_at z ws home s.views p id v at live share (p.ordered.shared id v at share) o q x used few in (
        l.view,
        keeps,
        tt,
        subst (λ (y : List ℕ). TheRule (record { words = y; homes = s.homes; views = set s.views id l.view })) (sym (set-get_or s.words word 0))
            (record { shape = z; wide = r.wide; long = r.long; parts = l.parts; one = one_still z ws.order ws.node ws.count s.views id v l.view at l.same r.one }),
        (refl, l.hands, l.work, ap (λ (x : Storer). x.stored) l.same, l.seat, subst (λ (y : ℕ). LoadedNode (known_of v o) (known_of l.view o) q y) is l.loaded),
      ))
      (λ free. (
        v,
        keeps,
        tt,
        stays board free_slots memo s word id me r at,
        (
          refl,
          refl,
          refl,
          refl,
          record { draws = refl; shares = refl; counts = refl; orders = refl },
          record {
            learns = learns_refl (known_of v o);
            hand = refl;
            meets = λ x reads. absurd (never x (sym free ∙ ap unpack_of is ∙ reads));
            used = λ met. (let u = met_used z ws home s.views p id v at live share (p.ordered.shared id v at share) o q met in (u.0, ap unpack_of (sym is) ∙ u.1));
            stands = λ st. st;
          },
        ),
      ))
    where
      by_word : {P : Type 0} (n : ℕ) (o : std.Option Word) → unpack_of n ≡ o → ((x : Word) → unpack_of n ≡ Some x → P) → (unpack_of n ≡ None → P) → P
      by_word n (std.Some x) e used free = used x e
      by_word n std.None e used free = free e
