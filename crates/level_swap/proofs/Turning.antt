-- The steps of a swap at one node of the upper variable.
use Rattle.std.proofs.Common.{◌≡◌, ◌≢◌, ℕ, suc, ◌+◌, ◌<◌, ◌≤◌, ◌⊎◌, inl, inr, Bool, true, false, Option, Some, None, refl, sym, ap, ◌∙◌, subst, arith, eq-eqb, cond}
use Rattle.std.proofs.lemmas.Bool.{cases_eq}
use Rattle.edge_bits.specs.declared.edges.Edge.{Edge}
use Rattle.edge_bits.specs.declared.edges.Kind.{Kind}
use Rattle.edge_bits.specs.declared.words.Node.{Node}
use Rattle.edge_bits.specs.declared.words.Word.{Word}
use Rattle.edge_bits.specs.declared.words.Word.TheVariants.{Inner}
use Rattle.function_laws.specs.declared.orders.Order.{Order}
use Rattle.function_laws.specs.Kinds.{Denoted, ValueOf, function_of, joined_at, Lacks, part_at, flipped}
use Rattle.function_laws.specs.Sizes.{Orders}
use Rattle.node_store.specs.KindLaws.{flipped-some}
use Rattle.node_store.specs.Views.{function_at}
use Rattle.node_store.specs.Contents.{Content, IsSound, IsUsed, IsHalf, view_of, var_at, level_of, used_slots, is_used, is_node_of}
use Rattle.node_store.specs.Changes.{After, Added, CanAdd, HasRoomFor, NextAbove, rewritten, pair_of, var_of, put_at, with_node}
use Rattle.node_store.proofs.Rewriting.{put_at-same, put_at-other, IsVariable-same}
use Rattle.node_store.proofs.SlotLists.{within_orders}
use Rattle.level_swap.specs.Swaps.{HasEdge, HasOneOf, HasRoomBack, IsNamedBefore}
use Rattle.level_swap.specs.Swapping.{Swapping, SwapsSlot, UpperNode, IsCut}
use Rattle.level_swap.proofs.Dues.{room_for, room_added, room_rewritten}
use Rattle.level_swap.proofs.PartFacts.{Lacks-own_part}
use Rattle.level_swap.proofs.Rooms.{Extends, extends_after, extends_then, added_extends, function_before, some_inner, some_same, lacks_same}
use Rattle.level_swap.proofs.SlotCounts.{count_kept, count_further}
use Rattle.level_swap.proofs.Steps.{used_same}
use Rattle.level_swap.proofs.SwapLoop.{room_same, count_more, named_on}
use Rattle.level_swap.proofs.UpperLemmas.{can_add, node_value, values_are, two}
use Rattle.level_swap.proofs.Withins.{IsWithin-part_at}

pub edge_same : (others : (ℕ → ℕ) → (ℕ → ℕ) → Type 0) (w x : Content) → After others w x → (e : Edge) → function_at (view_of x) e ≡ function_at (view_of w) e
edge_same others w x a e = ap (λ (h : ℕ → Option Denoted). flipped e.complement (h e.index)) a.function

none_used : (w : Content) (r : ℕ) → w.word r ≡ None → IsUsed w r → ⊥
none_used w r none u = let c : None ≡ Some u.0 = sym none ∙ u.1 in cc

-- what came into use by an addition is the edge's
pub came : (others : (ℕ → ℕ) → (ℕ → ℕ) → Type 0) (w x : Content) (upper : ℕ) (e : Edge)
    → After others w x ⊎ ((node : Node) × (m : Denoted) × (w.word e.index ≡ None) × (e.index < w.limit) × (node.var ≡ upper) × After others (with_node w e.index node m) x)
    → (r : ℕ) → w.word r ≡ None → IsUsed x r → e.index ≡ r
came others w x upper e (inl a) r none u = absurd (none_used w r none (u.0, sym (ap (λ (h : ℕ → Option Word). h r) a.word) ∙ u.1))
came others w x upper e (inr (node, m, none_there, lt, var, a)) r none u = elim (cases_eq r e.index) [
  | inl same ↦ sym same
  | inr ne ↦ absurd (none_used w r none (u.0, sym (ap (λ (h : ℕ → Option Word). h r) a.word ∙ put_at-other w.word e.index r (Some (Inner node)) ne) ∙ u.1))
]

-- the parts by a cut, of an edge's function
pub cut_at : (w : Content) (k : Kind) (v : ℕ) (e a b : Edge) (g : ℕ → ValueOf k) → function_at (view_of w) e ≡ Some (function_of k g)
    → ((upper slot : ℕ) (high low : ℕ → ValueOf k) → UpperNode k w upper v slot high low → IsCut k w v e a b
    → (function_at (view_of w) a ≡ Some (function_of k (part_at k g v true))) × (function_at (view_of w) b ≡ Some (function_of k (part_at k g v false))))
cut_at w k v e a b g h upper slot high low un parts =
    let same = values_are k w upper v slot high low un e g h in (
      parts.0 ∙ ap (λ x. Some (function_of k (part_at k x v true))) same,
      parts.1 ∙ ap (λ x. Some (function_of k (part_at k x v false))) same,
    )

module _ (others : (ℕ → ℕ) → (ℕ → ℕ) → Type 0) (both : (a b c : ℕ → ℕ) → others a b → others b c → others a c) (k : Kind) (upper lower slot : ℕ) (high low : ℕ → ValueOf k) where
  abbrev f : ℕ → ValueOf k
  f = joined_at k upper high low

  edge_kept : (w x : Content) (n : ℕ) → Extends others upper lower w x n → (e : Edge) (h : Denoted) → function_at (view_of w) e ≡ Some h → function_at (view_of x) e ≡ Some h
  edge_kept w x n ext e h is =
      let s = flipped-some e.complement (w.function e.index) h is in
      ap (flipped e.complement) (ext.function e.index s.0 s.1 ∙ sym s.1) ∙ is

  upper_kept : (w x : Content) (n : ℕ) → Extends others upper lower w x n → UpperNode k w upper lower slot high low → UpperNode k x upper lower slot high low
  upper_kept w x n ext un = record {
    sound = ext.sound;
    node = un.node;
    word = ext.word slot (Inner un.node) un.word;
    var = un.var;
    function = ext.function slot (function_of k f) un.function;
    high_lacks = un.high_lacks;
    low_lacks = un.low_lacks;
    upper_in = IsVariable-same k w x ext.orders upper un.upper_in;
    lower_in = IsVariable-same k w x ext.orders lower un.lower_in;
    next = subst (λ (o : Orders). suc (level_of o upper) ≡ level_of o lower) (sym ext.orders) un.next;
    half = elim un.half [ inl none ↦ inl (ext.half ∙ none) | inr here ↦ inr (ext.half ∙ here) ];
  }

  pub upper_after : (w x : Content) → Order → After others w x → UpperNode k w upper lower slot high low → UpperNode k x upper lower slot high low
  upper_after w x order a un = upper_kept w x 0 (extends_after others upper lower w x order a) un

  -- so far, from the store before the node was turned
  pub record Turning (order : Order) (level : ℕ) (v x : Content) (n : ℕ) : Type 0 where
    pub ext : Extends others upper lower v x n
    pub un : UpperNode k x upper lower slot high low
    pub room : HasRoomBack x order level
    pub upper_is : upper ≡ var_at x order level
    pub lower_is : lower ≡ var_at x order (level + 1)

  var_same : (v w : Content) → w.orders ≡ v.orders → (order : Order) (l : ℕ) → var_at w order l ≡ var_at v order l
  var_same v w e order l = ap (λ o. var_at (record v { orders = o }) order l) e

  pub turning_begins : (order : Order) (level : ℕ) (start v x : Content) → SwapsSlot others order level start v upper lower slot → UpperNode k v upper lower slot high low → After others v x → Turning order level v x 0
  turning_begins order level start v x ready un a = record {
    ext = extends_after others upper lower v x order a;
    un = upper_after v x order a un;
    room = room_same others v x a order level ready.so_far.room;
    upper_is = ready.upper_is ∙ sym (var_same start x (a.orders ∙ ready.so_far.orders) order level);
    lower_is = ready.lower_is ∙ sym (var_same start x (a.orders ∙ ready.so_far.orders) order (level + 1));
  }

  module _ (order : Order) (level : ℕ) (v x : Content) (n : ℕ) (t : Turning order level v x n) where
    pub turning_after : (y : Content) → After others x y → Turning order level v y n
    turning_after y a = record {
      ext = extends_then others both upper lower v x y n 0 n t.ext (extends_after others upper lower x y order a) (omega arith);
      un = upper_after x y order a t.un;
      room = room_same others x y a order level t.room;
      upper_is = t.upper_is ∙ sym (var_same x y a.orders order level);
      lower_is = t.lower_is ∙ sym (var_same x y a.orders order (level + 1));
    }

    pub turning_edge : (e : Edge) (h : Denoted) → function_at (view_of v) e ≡ Some h → function_at (view_of x) e ≡ Some h
    turning_edge e h is = edge_kept v x n t.ext e h is

    module _ (depends : Lacks k f lower → ⊥) where
      due_at : (on : Bool) → HasEdge x (function_of k (part_at k f lower on)) ⊎ HasOneOf x.orders t.room.0 (function_of k (part_at k f lower on))
      due_at on =
          subst (λ u. HasEdge x (function_of k (part_at k f u on)) ⊎ HasOneOf x.orders t.room.0 (function_of k (part_at k f u on))) (sym t.lower_is)
          (t.room.2 slot t.un.node k f on t.un.word (t.un.var ∙ t.upper_is) t.un.function (λ lacks. depends (subst (Lacks k f) (sym t.lower_is) lacks)))

      module _ (a b : Edge) (on : Bool) (a_is : function_at (view_of x) a ≡ Some (function_of k (part_at k high lower on))) (b_is : function_at (view_of x) b ≡ Some (function_of k (part_at k low lower on))) where
        pub adds : CanAdd k x upper a b
        adds = can_add k x upper lower slot high low t.un a b on a_is b_is

        pub add_asks : (j : Kind) × CanAdd j x upper a b × HasRoomFor j x upper a b
        add_asks = (k, adds, room_for x order level k upper a b (part_at k f lower on) (node_value k x upper lower slot high low t.un a b on a_is b_is) t.room (due_at on))

        pub added_is : (y : Content) (e : Edge) → Added others k x y upper a b e → function_at (view_of y) e ≡ Some (function_of k (part_at k f lower on))
        added_is y e added = added.denotes ∙ ap (λ g. Some (function_of k g)) (node_value k x upper lower slot high low t.un a b on a_is b_is)

        pub turning_added : (y : Content) (e : Edge) → Added others k x y upper a b e → Turning order level v y (n + 1)
        turning_added y e added =
            let ext = added_extends others upper lower k x y order e (part_at k f lower on) (Lacks-own_part k f lower on) (added_is y e added) t.un.sound added.way in
            record {
              ext = extends_then others both upper lower v x y n 1 (n + 1) t.ext ext refl;
              un = upper_kept x y 1 ext t.un;
              room = room_added others order level upper lower x y t.un.sound t.lower_is ext k e (part_at k f lower on) (added_is y e added)
                  (IsWithin-part_at x.orders k f lower on (within_orders x t.un.sound slot (function_of k f) t.un.function)) added.way t.room (due_at on);
              upper_is = t.upper_is ∙ sym (var_same x y ext.orders order level);
              lower_is = t.lower_is ∙ sym (var_same x y ext.orders order (level + 1));
            }

  -- an edge that denotes something still does, after an addition
  pub edge_grown : (w x : Content) → Order → (e : Edge) (h : ℕ → ValueOf k) → Lacks k h lower → function_at (view_of x) e ≡ Some (function_of k h) → IsSound w
      → After others w x ⊎ ((node : Node) × (m : Denoted) × (w.word e.index ≡ None) × (e.index < w.limit) × (node.var ≡ upper) × After others (with_node w e.index node m) x)
      → (d : Edge) (o : Denoted) → function_at (view_of w) d ≡ Some o → function_at (view_of x) d ≡ Some o
  edge_grown w x order e h lacks denotes sound way d o is = edge_kept w x 1 (added_extends others upper lower k w x order e h lacks denotes sound way) d o is

  pair_here : (w : Content) (a b : ℕ) → NextAbove w a b → pair_of w a b ≡ record { upper = a; lower = b }
  pair_here w a b next =
      let e : level_of w.orders a + 1 ≡ level_of w.orders b = omega (arith, next) in
      ap (λ c. cond c (record { upper = a; lower = b }) (record { upper = b; lower = a })) (eq-eqb (level_of w.orders a + 1) (level_of w.orders b) e)

  -- the node that is next was an upper one at the start, if it depends on the lower variable
  started : (order : Order) (level : ℕ) (start v : Content) → SwapsSlot others order level start v upper lower slot → UpperNode k v upper lower slot high low → (Lacks k f lower → ⊥)
      → is_node_of (var_at start order level) (start.word slot) ≡ true
  started order level start v ready un depends = by_word (start.word slot) refl
    where
      by_word : (o : Option Word) → start.word slot ≡ o → is_node_of (var_at start order level) o ≡ true
      by_word None none = absurd (depends (subst (Lacks k f) (sym ready.lower_is) (ready.so_far.done slot un.node k f un.word (un.var ∙ ready.upper_is) un.function (inr none))))
      by_word (Some word) is =
          let now = ready.so_far.waiting slot word is (inr (omega arith)) in
          ap (is_node_of (var_at start order level)) (sym now ∙ un.word) ∙ eq-eqb un.node.var (var_at start order level) (un.var ∙ ready.upper_is)

  -- the node has its new word
  pub turned_done : (order : Order) (level : ℕ) (start v x y : Content) → SwapsSlot others order level start v upper lower slot → UpperNode k v upper lower slot high low → Turning order level v x 2
      → (Lacks k f lower → ⊥) → (a b : Edge) → ((r : ℕ) → v.word r ≡ None → IsUsed x r → (a.index ≡ r) ⊎ (b.index ≡ r))
      → After others (rewritten x slot lower a b) y → Swapping others order level start y (slot + 1)
  turned_done order level start v x y ready un t depends a b only after = record {
    orders = after.orders ∙ t.ext.orders ∙ s.orders;
    limit = after.limit ∙ t.ext.limit ∙ s.limit;
    generation = after.generation ∙ t.ext.generation ∙ s.generation;
    marked = after.marked ∙ t.ext.marked ∙ s.marked;
    pinned = after.pinned ∙ t.ext.pinned ∙ s.pinned;
    sweeping = after.sweeping ∙ t.ext.sweeping ∙ s.sweeping;
    half = inr (subst (λ q. IsHalf y q (var_at start order (level + 1))) ready.upper_is (subst (IsHalf y upper) ready.lower_is half));
    counts = both start.count x.count y.count (both start.count v.count x.count s.counts t.ext.counts) after.counts;
    sound = after.sound;
    function = λ r h is. ap (λ (z : ℕ → Option Denoted). z r) after.function ∙ t.ext.function r h (s.function r h is);
    inside = (let lt = un.sound.within slot (Inner un.node, un.word) in let l = s.limit in omega (arith, lt, l));
    waiting = waits;
    done = does;
    stored = stores;
    room = room_rewritten others order level upper lower slot x y t.un.node a b t.un.word t.upper_is (two k x upper lower slot high low t.un) after t.room;
    few = (let u = used in let e = t.ext.few in let g = s.few in let c = count_further (λ r. is_node_of (var_at start order level) (start.word r)) slot (started order level start v ready un depends) in omega (arith, u, e, g, c));
  }
    where
      s : Swapping others order level start v slot
      s = ready.so_far

      put : Node
      put = record { var = lower; hi = a.index; lo = b }

      half : IsHalf y upper lower
      half = after.half ∙ ap (λ o. Some (pair_of x (var_of o) lower)) t.un.word ∙ ap (λ u. Some (pair_of x u lower)) t.un.var ∙ ap Some (pair_here x upper lower t.un.next)

      word_at : (r : ℕ) → y.word r ≡ put_at x.word slot (Some (Inner put)) r
      word_at r = ap (λ (z : ℕ → Option Word). z r) after.word

      used : used_slots y ≡ used_slots x
      used = used_same others (rewritten x slot lower a b) y after order ∙ count_kept is_used x.word slot (Inner put) x.limit (ap is_used t.un.word)

      waits : (r : ℕ) (word : Word) → start.word r ≡ Some word → (is_node_of (var_at start order level) (Some word) ≡ false) ⊎ (slot + 1 ≤ r) → y.word r ≡ Some word
      waits r word is (inr le) =
          word_at r ∙ put_at-other x.word slot r (Some (Inner put)) (λ e. omega (arith, e, le)) ∙ t.ext.word r word (s.waiting r word is (inr (omega (arith, le))))
      waits r word is (inl other) =
          let now = s.waiting r word is (inl other) in
          let apart : r ≢ slot = λ e.
          let stands : is_node_of (var_at start order level) (Some word) ≡ true = ap (is_node_of (var_at start order level)) (sym now ∙ ap v.word e ∙ un.word) ∙ eq-eqb un.node.var (var_at start order level) (un.var ∙ ready.upper_is) in
          let never : true ≡ false = sym stands ∙ other in cc in
          word_at r ∙ put_at-other x.word slot r (Some (Inner put)) apart ∙ t.ext.word r word now

      was_upper : is_node_of (var_at start order level) (start.word slot) ≡ true
      was_upper = started order level start v ready un depends

      stores : (r : ℕ) → start.word r ≡ None → IsUsed y r → IsNamedBefore start y (var_at start order level) (slot + 1) r
      stores r none u =
          let apart : r ≢ slot = λ e. (let c : false ≡ true = ap (is_node_of (var_at start order level)) (sym none ∙ ap start.word e) ∙ was_upper in cc) in
          let on_x : x.word r ≡ Some u.0 = sym (put_at-other x.word slot r (Some (Inner put)) apart) ∙ sym (word_at r) ∙ u.1 in
          by_word (v.word r) refl (u.0, on_x)
        where
          by_word : (o : Option Word) → v.word r ≡ o → IsUsed x r → IsNamedBefore start y (var_at start order level) (slot + 1) r
          by_word None gone used_x = (slot, put, omega arith, word_at slot ∙ put_at-same x.word slot (Some (Inner put)), only r gone used_x, was_upper)
          by_word (Some word) is used_x = earlier (s.stored r none (word, is))
            where
              earlier : IsNamedBefore start v (var_at start order level) slot r → IsNamedBefore start y (var_at start order level) (slot + 1) r
              earlier (q, node, lt, at, names, was) = (
                q,
                node,
                omega (arith, lt),
                word_at q ∙ put_at-other x.word slot q (Some (Inner put)) (λ e. omega (arith, e, lt)) ∙ t.ext.word q (Inner node) at,
                names,
                was,
              )

      does : (r : ℕ) (node : Node) (j : Kind) (h : ℕ → ValueOf j) → y.word r ≡ Some (Inner node) → node.var ≡ var_at start order level → y.function r ≡ Some (function_of j h)
          → (r < slot + 1) ⊎ (start.word r ≡ None) → Lacks j h (var_at start order (level + 1))
      does r node j h word at_upper is way =
          let apart : r ≢ slot = λ e.
          let here : Some (Inner put) ≡ Some (Inner node) = sym (put_at-same x.word slot (Some (Inner put))) ∙ ap (put_at x.word slot (Some (Inner put))) (sym e) ∙ sym (word_at r) ∙ word in
          two k x upper lower slot high low t.un (ready.upper_is ∙ sym at_upper ∙ ap (λ (m : Node). m.var) (sym (some_inner put node here))) in
          let on_x : x.word r ≡ Some (Inner node) = sym (put_at-other x.word slot r (Some (Inner put)) apart) ∙ sym (word_at r) ∙ word in
          let is_x : x.function r ≡ Some (function_of j h) = sym (ap (λ (z : ℕ → Option Denoted). z r) after.function) ∙ is in
          elim (t.ext.fresh r node on_x) [
            | inr (none, var, lacks) ↦ subst (Lacks j h) ready.lower_is (lacks j h is_x)
            | inl before ↦ s.done r node j h before at_upper (function_before others upper lower v x 2 un.sound t.ext r (Inner node) (function_of j h) before is_x)
                (elim way [ inl lt ↦ inl (omega (arith, lt, apart)) | inr none ↦ inr none ])
          ]

  -- a node that lacks the lower variable stays
  pub passed : (order : Order) (level : ℕ) (start v x : Content) → SwapsSlot others order level start v upper lower slot → UpperNode k v upper lower slot high low → After others v x
      → Lacks k f lower → Swapping others order level start x (slot + 1)
  passed order level start v x ready un a lacks = record {
    orders = a.orders ∙ s.orders;
    limit = a.limit ∙ s.limit;
    generation = a.generation ∙ s.generation;
    marked = a.marked ∙ s.marked;
    pinned = a.pinned ∙ s.pinned;
    sweeping = a.sweeping ∙ s.sweeping;
    half = elim s.half [ inl none ↦ inl (a.half ∙ none) | inr here ↦ inr (a.half ∙ here) ];
    counts = both start.count v.count x.count s.counts a.counts;
    sound = a.sound;
    function = λ r h is. ap (λ (z : ℕ → Option Denoted). z r) a.function ∙ s.function r h is;
    inside = (let lt = un.sound.within slot (Inner un.node, un.word) in let l = s.limit in omega (arith, lt, l));
    waiting = λ r word is way. ap (λ (z : ℕ → Option Word). z r) a.word ∙ s.waiting r word is (elim way [ inl other ↦ inl other | inr le ↦ inr (omega (arith, le)) ]);
    done = λ r node j h word at_upper is way.
        let before : v.word r ≡ Some (Inner node) = sym (ap (λ (z : ℕ → Option Word). z r) a.word) ∙ word in
        let was : v.function r ≡ Some (function_of j h) = sym (ap (λ (z : ℕ → Option Denoted). z r) a.function) ∙ is in
        elim (cases_eq r slot) [
          | inl e ↦ subst (Lacks j h) ready.lower_is (lacks_same j k h f lower (some_same (v.function r) (function_of j h) (function_of k f) was (ap v.function e ∙ un.function)) lacks)
          | inr ne ↦ s.done r node j h before at_upper was (elim way [ inl lt ↦ inl (omega (arith, lt, ne)) | inr none ↦ inr none ])
        ];
    stored = λ r none u. named_on others start v x (var_at start order level) slot (slot + 1) r a.word (omega arith) (s.stored r none (u.0, sym (ap (λ (z : ℕ → Option Word). z r) a.word) ∙ u.1));
    room = room_same others v x a order level s.room;
    few = (let g = s.few in let u = used_same others v x a order in
        let m = count_more (λ r. is_node_of (var_at start order level) (start.word r)) 0 slot (slot + 1) (omega arith) in omega (arith, g, u, m));
  }
    where
      s : Swapping others order level start v slot
      s = ready.so_far
