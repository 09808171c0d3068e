-- The step of a walk's node load.
use Rattle.std.proofs.Common.{◌≡◌, inr, ℕ, ◌+◌, ◌<◌, ◌≤◌, ◌==◌, ◌&&◌, cond, Bool, true, false, List, ◌∷◌, set, get_or, eqb-true, eq-eqb, Some, None, option_map, refl, ap, sym, ◌∙◌, subst, arith}
use Rattle.std.specs.Prelude as std
use mathlib.Core.Logic.{dite}
use mathlib.Core.Option.{Option, some, some-injective}
use native.Mathlib.Decide.{ℕ_discrete}
use lib.ListN.{get_elem?}
use lib.Seq.{set-get_or}
use Rattle.atomic_table.specs.Table.{State, Me, keeps, Allows}
use Rattle.atomic_table.proofs.Lists.{set_else}
use Rattle.edge_bits.specs.declared.edges.Edge.{Edge}
use Rattle.edge_bits.specs.declared.edges.Kind.{Kind}
use Rattle.edge_bits.specs.declared.edges.Kind.TheVariants.{Bdd, Add, Zdd}
use Rattle.edge_bits.specs.declared.words.Word.{Word}
use Rattle.edge_bits.specs.declared.words.Word.TheVariants.{Inner, Leaf}
use Rattle.edge_bits.specs.Permanent.{first_element}
use Rattle.edge_bits.specs.Words.{unpack_of}
use Rattle.function_laws.specs.Kinds.{Denoted, ValueOf, function_of}
use Rattle.function_laws.specs.SessionEntries.{Each}
use Rattle.function_laws.specs.EntryOrders.{opening_orders, orders_from}
use Rattle.node_store.specs.KindLaws.{flipped-some}
use Rattle.node_store.specs.Contents.{Content, view_of, opened_of}
use Rattle.node_store.specs.Views.{IsBeyond, Is, Kept, values_at}
use Rattle.step_store.specs.Walking.{Tells}
use Rattle.words_rule.specs.Ordered.{KnowsOrders}
use Rattle.words_rule.specs.declared.cell.Cell.{Cell}
use Rattle.words_rule.specs.declared.view.Held.{Held}
use Rattle.words_rule.specs.declared.view.Hold.TheVariants.{Holding}
use Rattle.words_rule.specs.declared.view.Share.TheVariants as shares
use Rattle.words_rule.specs.declared.view.View.{View}
use Rattle.words_rule.specs.Views.{sizes_for, orders_of, told_orders}
use Rattle.words_rule.specs.Shapes.{shape_in}
use Rattle.words_rule.specs.Layout.{Shape, Words, words_of, node_at, content_of}
use Rattle.words_rule.specs.Kept.{IsHeldBy, whole_of}
use Rattle.words_rule.specs.Rule.{Parts, Rule}
use Rattle.words_rule.specs.Loads.{IsInside, LoadedWord, seeing, sees_of}
use Rattle.words_rule.specs.Known.{denoted_in, noted_function}
use Rattle.words_rule.proofs.Layouts.{here_node}
use Rattle.words_rule.proofs.Lists.{each_set, set_at}
use Rattle.words_rule.proofs.Draws.{by_full, by_pending, one_still}
use Rattle.words_rule.proofs.Rewrites.{parts_known}
use Rattle.words_rule.proofs.Stepping.{shape_is}
use Rattle.words_rule.proofs.Storing.{edge_at}
use Rattle.words_rule.proofs.Decoding.{Beyond, decodes}
use Rattle.words_rule.proofs.Meeting.{kind_of, seen_true, some_denoted}
use Rattle.words_rule.proofs.Narrowing.{Narrow, Known, is_up, values_same}
use Rattle.words_rule.proofs.HandClauses.{some_back}
use Rattle.words_rule.proofs.WalkLoads.{levelless, denotes_to, tells_word, tells_down}
use Rattle.free_list.specs.FreeSlots.{FreeSlots}

module _ {S : Type 0} (board : S → List (std.Option Cell)) (free_slots : S → FreeSlots) (memo : S → List ℕ) where
  abbrev PartsOf : Shape → Words → (ℕ → Option (Option (std.Option S))) → List View → Type 0
  PartsOf = Parts board free_slots memo

  abbrev TheRule : State (std.Option S) View → Type 0
  TheRule = Rule board free_slots memo

  abbrev Sat : Type 0
  Sat = Me (std.Option S) View

  module _ (z : Shape) (ws : Words) (home : ℕ → Option (Option (std.Option S))) (vs : List View) (r : PartsOf z ws home vs) (id : ℕ) (v : View) (at : get_elem? vs id ≡ some v) (live : v.draws.live ≡ true) where
    abbrev w : Content
    w = content_of z ws.node r.orders r.function r.half

    -- a seat notes what is true of slots
    pub parts_seeing : (l : List Held) → Each (IsHeldBy z r.function) l → PartsOf z ws home (set vs id (seeing v l))
    parts_seeing l all =
        let u : View = seeing v l in
        parts_known board free_slots memo z ws home vs r id v at u.known ws.order r.orders r.pending r.half r.sound r.remembered r.tables r.positions
        (record {
          settled = λ nobody. r.ordered.settled (λ i f there holding. dite (ℕ_discrete i id)
              (λ same. nobody id u (set_at vs id v u at) (ap (λ (y : View). y.shares.order) (some-injective v f (sym at ∙ (ap (λ j. get_elem? vs j) (sym same) ∙ there))) ∙ holding))
              (λ apart. nobody i f (set_else vs id i u apart ∙ there) holding));
          shared = each_set (λ _ (y : View). KnowsOrders r.orders y) vs id u (λ i y apart there. r.ordered.shared i y there) (r.ordered.shared id v at);
          held = each_set (λ i (f : View). f.shares.order ≡ Holding → (orders_of f.known ≡ r.orders) × (told_orders f.known ≡ orders_from (opening_orders (sizes_for z.variables z.elements)) r.log)) vs id u
              (λ i f apart there. r.ordered.held i f there) (r.ordered.held id v at);
        })
        (by_full (r.half ≡ None) vs id v u at refl r.half_by) (by_pending r.pending vs id v u at refl refl r.pending_by)
        (record { words = (r.seen id v at).words; held = λ has. all }) (r.holders id v at) (λ i y apart there. r.holders i y there)

    longer : (k : Kind) (u : ℕ) → Beyond z k u → IsBeyond k (view_of w) u
    longer Bdd u h = subst (λ (x : ℕ). x ≤ u) (sym r.positions.variables_long) h
    longer Add u h = subst (λ (x : ℕ). x ≤ u) (sym r.positions.variables_long) h
    longer Zdd u h = subst (λ (x : ℕ). first_element + x ≤ u) (sym r.positions.elements_long) h

    back : (s : ℕ) (f : Denoted) → r.function s ≡ Some f → denoted_in v.draws.vars (whole_of z f) ≡ f
    back s f is =
        let k = kind_of f in
        ap (λ n. denoted_in n (whole_of z f)) (ap (λ (y : Shape). y.variables) (sym (shape_is board free_slots memo z ws home vs r id v at live)))
        ∙ ap (λ (x : Denoted). denoted_in z.variables (whole_of z x)) k.2 ∙ decodes z k.0 k.1 (λ u h. (r.sound.of_store s k.0 k.1 (is ∙ ap Some k.2)).0 u (longer k.0 u h)) ∙ sym k.2

    abbrev content_by : List Held → ℕ → std.Option Denoted
    content_by l t = option_map (denoted_in v.draws.vars) (noted_function l t)

    -- what was noted is so
    pub list_true : (l : List Held) → Each (IsHeldBy z r.function) l → (t : ℕ) (g : Denoted) → content_by l t ≡ Some g → r.function t ≡ Some g
    list_true l all t g is =
        let x = some_back (denoted_in v.draws.vars) (noted_function l t) g is in
        let held = seen_true (IsHeldBy z r.function) l all t x.0 x.1 in
        held.1 ∙ ap Some (sym (back t held.0 held.1) ∙ ap (denoted_in v.draws.vars) held.2 ∙ x.2)

    list_here : (l : List Held) (s : ℕ) (f : Denoted) → r.function s ≡ Some f → content_by (edge_at s (whole_of z f) ∷ l) s ≡ Some f
    list_here l s f f_is = ap (λ c. option_map (denoted_in v.draws.vars) (cond (c && true) (Some (whole_of z f)) (noted_function l s))) (eq-eqb s s refl) ∙ ap Some (back s f f_is)

    list_more : (l : List Held) → Each (IsHeldBy z r.function) l → (s : ℕ) (f : Denoted) → r.function s ≡ Some f → (t : ℕ) (g : Denoted) → content_by l t ≡ Some g → content_by (edge_at s (whole_of z f) ∷ l) t ≡ Some g
    list_more l all s f f_is t g is = by (s == t) refl
      where
        by : (c : Bool) → (s == t) ≡ c → option_map (denoted_in v.draws.vars) (cond ((s == t) && true) (Some (whole_of z f)) (noted_function l t)) ≡ Some g
        by true e = ap (λ c. option_map (denoted_in v.draws.vars) (cond (c && true) (Some (whole_of z f)) (noted_function l t))) e ∙ ap Some (back s f f_is ∙ some_denoted f g (sym f_is ∙ ap r.function (eqb-true s t e) ∙ list_true l all t g is))
        by false e = ap (λ c. option_map (denoted_in v.draws.vars) (cond (c && true) (Some (whole_of z f)) (noted_function l t))) e ∙ is

    narrow_by : (l : List Held) → Each (IsHeldBy z r.function) l → Narrow (sees_of (seeing v l)) (levelless w)
    narrow_by l all = let shape = shape_is board free_slots memo z ws home vs r id v at live in record {
      vars = r.positions.variables_long ∙ ap (λ (y : Shape). y.variables) shape;
      elements = r.positions.elements_long ∙ ap (λ (y : Shape). y.elements) shape;
      level = refl;
      content = list_true l all;
      top = λ s f is. refl;
    }

    kept_by : (l : List Held) → ((t : ℕ) (g : Denoted) → content_by v.known.seen t ≡ Some g → content_by l t ≡ Some g) → Kept (sees_of v) (sees_of (seeing v l))
    kept_by l more = record {
      grown = record { vars = refl; elements = refl; slots = refl; level = refl; content = more; top = λ s f is. refl; made = λ s is. is; fulls = omega arith; counts = refl; generations = refl; holds = refl; wants = λ is. is };
      made = refl;
      fulls = refl;
      due = refl;
    }

    inside_by : (l : List Held) → Each (IsHeldBy z r.function) l → IsInside (seeing v l)
    inside_by l all s f is = subst (λ (y : Shape). s < y.slots) (shape_is board free_slots memo z ws home vs r id v at live) (r.sound.within s (r.sound.used s f (list_true l all s f is)))

    -- what is left
    pub record WalkedAt (q : ℕ) : Type 0 where
      pub list : List Held
      pub true_still : Each (IsHeldBy z r.function) list
      pub loaded : LoadedWord v (seeing v list) q (ws.node q)

    told_by : (all : Each (IsHeldBy z r.function) v.known.seen) (l : List Held) (all' : Each (IsHeldBy z r.function) l) (q : ℕ) (word : Word) → unpack_of (ws.node q) ≡ Some word
        → ((c : Bool) → Known (narrow_by l all') (opened_of word c)) → (e : Edge) → e.index ≡ q → (k : Kind) → Is k (sees_of v) e → Tells k (sees_of (seeing v l)) e (values_at k (sees_of v) e) (opened_of word e.complement)
    told_by all l all' q word reads known e at_q k is =
        let n = narrow_by v.known.seen all in
        let up = denotes_to w r.sound k e (values_at k (levelless w) e) (is_up n k e is) in
        tells_down (narrow_by l all') k e (values_at k (sees_of v) e) (opened_of word e.complement) (known e.complement)
        (subst (λ (f : ℕ → ValueOf k). Tells k (levelless w) e f (opened_of word e.complement)) (values_same n k e is) (tells_word w r.sound k e word up (ap w.word at_q ∙ reads)))

    some_word : (a b : Word) → Some a ≡ Some b → a ≡ b
    some_word a b e = cc

    pub walks_at : (all : Each (IsHeldBy z r.function) v.known.seen) (q : ℕ) (word : Word) → unpack_of (ws.node q) ≡ Some word → WalkedAt q
    walks_at all q (Leaf x) reads = record {
      list = v.known.seen;
      true_still = all;
      loaded = record {
        kept = kept_by v.known.seen (λ t g is. is);
        inside = inside_by v.known.seen all;
        used = (Leaf x, reads);
        tells = λ word is e at_q k its. subst (λ (y : Word). Tells k (sees_of v) e (values_at k (sees_of v) e) (opened_of y e.complement)) (some_word (Leaf x) word (sym reads ∙ is))
            (told_by all v.known.seen all q (Leaf x) reads (λ c. tt) e at_q k its);
      };
    }
    walks_at all q (Inner node) reads =
        let d = r.sound.denotes q (Inner node, reads) in
        let n = r.sound.nodes q node d.0 reads d.1 in
        let high : Denoted = function_of n.kind n.high in
        let low = flipped-some node.lo.complement (r.function node.lo.index) (function_of n.kind n.low) n.low_is in
        let l1 : List Held = edge_at node.lo.index (whole_of z low.0) ∷ v.known.seen in
        let all1 : Each (IsHeldBy z r.function) l1 = ((low.0, low.1, refl), all) in
        let l2 : List Held = edge_at node.hi (whole_of z high) ∷ l1 in
        let all2 : Each (IsHeldBy z r.function) l2 = ((high, n.high_is, refl), all1) in
        let low_has = list_more l1 all1 node.hi high n.high_is node.lo.index low.0 (list_here v.known.seen node.lo.index low.0 low.1) in
        let high_has = list_here l1 node.hi high n.high_is in record {
          list = l2;
          true_still = all2;
          loaded = record {
            kept = kept_by l2 (λ t g is. list_more l1 all1 node.hi high n.high_is t g (list_more v.known.seen all node.lo.index low.0 low.1 t g is));
            inside = inside_by l2 all2;
            used = (Inner node, reads);
            tells = λ word is e at_q k its. subst (λ (y : Word). Tells k (sees_of (seeing v l2)) e (values_at k (sees_of v) e) (opened_of y e.complement)) (some_word (Inner node) word (sym reads ∙ is))
                (told_by all l2 all2 q (Inner node) reads (λ c. ((high, high_has), (low.0, low_has))) e at_q k its);
          };
        }

  abbrev pub WalkedWord : ℕ → Sat → ℕ → Sat → Type 0
  WalkedWord q m n m' = (m'.1 ≡ m.1) × (m'.0 ≡ seeing m.0 m'.0.known.seen) × LoadedWord m.0 m'.0 q n

  -- The load of a node word of a slot that was met, where what the seat noted of functions is so: as it is under a walk share, once the rule says it.
  pub step_load_word : (slots id : ℕ) (me : Sat) (q : ℕ) → me.0.draws.live ≡ true → q < me.0.draws.slots → ((f : Denoted) × ((sees_of me.0).content q ≡ Some f)) → me.0.shares.walk ≡ shares.Held
      → Allows TheRule slots id me (node_at (shape_in me.0.draws) q) (λ x. x) (WalkedWord q me)
  step_load_word slots id me q live inside met share s r long at small =
      let v = me.0 in
      let z = r.shape in
      let p = r.parts in
      let home = λ (k : ℕ). get_elem? s.homes k in
      let ws = words_of z s.words in
      let shape = shape_is board free_slots memo z ws home s.views p id v at live in
      let below : q < z.slots = subst (λ (y : Shape). q < y.slots) (sym shape) inside in
      let word : ℕ = node_at (shape_in v.draws) q in
      let n : ℕ = get_or s.words word 0 in
      let is : ws.node q ≡ n = here_node z s.words 0 q below ∙ ap (λ (y : Shape). get_or s.words (node_at y q) 0) shape in
      let all = (p.seen id v at).held (inr share) in
      let u = p.sound.used q met.0 (list_true z ws home s.views p id v at live v.known.seen all q met.0 met.1) in
      let l = walks_at z ws home s.views p id v at live all q u.0 u.1 in (
        seeing v l.list,
        keeps,
        tt,
        subst (λ (y : List ℕ). TheRule (record { words = y; homes = s.homes; views = set s.views id (seeing v l.list) })) (sym (set-get_or s.words word 0))
            (record { shape = z; wide = r.wide; long = r.long; parts = parts_seeing z ws home s.views p id v at live l.list l.true_still; one = one_still z ws.order ws.node ws.count s.views id v (seeing v l.list) at refl r.one }),
        (refl, refl, subst (λ (y : ℕ). LoadedWord v (seeing v l.list) q y) is l.loaded),
      )
