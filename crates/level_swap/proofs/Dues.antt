-- What a swap has still to store has room after a node of the upper variable was found or stored.
use Rattle.std.proofs.Common.{◌≡◌, ◌≢◌, ℕ, suc, ◌+◌, ◌<◌, ◌≤◌, ◌⊎◌, inl, inr, Bool, true, false, List, Option, Some, None, sym, ap, ◌∙◌, subst, arith}
use Rattle.edge_bits.specs.declared.edges.Edge.{Edge}
use Rattle.edge_bits.specs.declared.edges.Kind.{Kind}
use Rattle.edge_bits.specs.declared.edges.Kind.TheVariants.{Bdd, Add, Zdd}
use Rattle.edge_bits.specs.declared.words.Node.{Node}
use Rattle.edge_bits.specs.declared.words.Word.{Word}
use Rattle.edge_bits.specs.declared.words.Word.TheVariants.{Inner}
use Rattle.function_laws.specs.declared.orders.Order.{Order}
use Rattle.function_laws.specs.Kinds.{Denoted, ValueOf, function_of, Lacks, part_at, flipped, opposite}
use Rattle.function_laws.specs.Sizes.{Orders, is_one}
use Rattle.function_laws.proofs.DistinctLemmas.{without, length-without, In-without, In-list_any, list_any-In}
use Rattle.function_laws.proofs.LackingParts.{opposite-opposite}
use Rattle.function_laws.proofs.OneFunctions.{IsWithin, same_or_opposite, is_one-refl, is_one-sym, is_one-trans, is_one-opposite}
use Rattle.node_store.specs.Edges.{flip_if}
use Rattle.node_store.specs.KindLaws.{flipped-some}
use Rattle.node_store.specs.Views.{function_at, node_values}
use Rattle.node_store.specs.ViewLaws.{flipped-not}
use Rattle.node_store.specs.Contents.{Content, IsSound, view_of, var_at, used_slots, is_used}
use Rattle.node_store.specs.Changes.{After, HasRoomFor, with_node, rewritten, put_at}
use Rattle.node_store.proofs.Rewriting.{put_at-same, put_at-other}
use Rattle.node_store.proofs.SlotLists.{slot_once, within_orders}
use Rattle.level_swap.specs.Swaps.{HasEdge, HasOneOf, HasDue, HasRoomBack}
use Rattle.level_swap.proofs.SlotCounts.{count_kept}
use Rattle.level_swap.proofs.SoundEdges.{turned, at_slot}
use Rattle.level_swap.proofs.Steps.{used_same}
use Rattle.level_swap.proofs.Rooms.{Extends, function_before, no_word, some_inner}
use Rattle.level_swap.proofs.Withins.{IsWithin-part_at}

one_turned : (o : Orders) (k : Kind) (c d : Bool) (g : ℕ → ValueOf k) → is_one o (function_of k (turned k c g)) (function_of k (turned k d g)) ≡ true
one_turned o Bdd true true g = is_one-refl o (function_of Bdd (turned Bdd true g))
one_turned o Bdd false false g = is_one-refl o (function_of Bdd g)
one_turned o Bdd false true g = is_one-opposite o (function_of Bdd g)
one_turned o Bdd true false g = is_one-sym o (function_of Bdd g) (opposite (function_of Bdd g)) (is_one-opposite o (function_of Bdd g))
one_turned o Add c d g = is_one-refl o (function_of Add g)
one_turned o Zdd c d g = is_one-refl o (function_of Zdd g)

known_opposite : (x : Content) (k : Kind) (g : ℕ → ValueOf k) (e : Edge) → function_at (view_of x) e ≡ Some (function_of k g) → HasEdge x (opposite (function_of k g))
known_opposite x Bdd g e h = (flip_if true e, flipped-not e.complement (x.function e.index) g h)
known_opposite x Add g e h = (e, h)
known_opposite x Zdd g e h = (e, h)

known_kept : (w x : Content) → ((s : ℕ) (f : Denoted) → w.function s ≡ Some f → x.function s ≡ Some f) → (f : Denoted) → HasEdge w f → HasEdge x f
known_kept w x kept f (e, h) =
    let s = flipped-some e.complement (w.function e.index) f h in
    (e, ap (flipped e.complement) (kept e.index s.0 s.1 ∙ sym s.1) ∙ h)

-- a node that a swap needs is there, or fits
pub room_for : (w : Content) (order : Order) (level : ℕ) (k : Kind) (v : ℕ) (a b : Edge) (g : ℕ → ValueOf k) → node_values k (view_of w) v a b ≡ g
    → (r : HasRoomBack w order level) → HasEdge w (function_of k g) ⊎ HasOneOf w.orders r.0 (function_of k g) → HasRoomFor k w v a b
room_for w order level k v a b g same r (inl (e, h)) = inr (e, h ∙ ap (λ x. Some (function_of k x)) (sym same))
room_for w order level k v a b g same r (inr lists) =
    let m = list_any-In (is_one w.orders (function_of k g)) r.0 lists in
    let longer = length-without m.0 r.0 m.1 in
    let fits = r.1 in inl (omega (arith, longer, fits))

module _ (others : (ℕ → ℕ) → (ℕ → ℕ) → Type 0) (order : Order) (level upper lower : ℕ) (w x : Content) (n : ℕ) (sound : IsSound w) (lower_is : lower ≡ var_at w order (level + 1)) (ext : Extends others upper lower w x n) where
  var_kept : (l : ℕ) → var_at x order l ≡ var_at w order l
  var_kept l = ap (λ o. var_at (record w { orders = o }) order l) ext.orders

  -- what was due is due still, but for what came to be known
  due_kept : (fs gs : List Denoted) → HasDue w order level fs → ((f : Denoted) → IsWithin w.orders f → HasOneOf w.orders fs f → HasEdge x f ⊎ HasOneOf x.orders gs f) → HasDue x order level gs
  due_kept fs gs due still s node k f b word var is depends = elim (ext.fresh s node word) [
    | inr (none, at_upper, lacks) ↦ absurd (depends (subst (Lacks k f) (lower_is ∙ sym (var_kept (level + 1))) (lacks k f is)))
    | inl before ↦ (
        let was = function_before others upper lower w x n sound ext s (Inner node) (function_of k f) before is in
        let v = var_at w order (level + 1) in
        let part = function_of k (part_at k f v b) in
        let on_w : HasEdge x part ⊎ HasOneOf x.orders gs part =
        elim (due s node k f b before (var ∙ var_kept level) was (λ lacks. depends (subst (Lacks k f) (sym (var_kept (level + 1))) lacks))) [
          | inl known ↦ inl (known_kept w x ext.function part known)
          | inr lists ↦ still part (IsWithin-part_at w.orders k f v b (within_orders w sound s (function_of k f) was)) lists
        ] in
        subst (λ u. HasEdge x (function_of k (part_at k f u b)) ⊎ HasOneOf x.orders gs (function_of k (part_at k f u b))) (sym (var_kept (level + 1))) on_w)
  ]

  lists_kept : (gs : List Denoted) (f : Denoted) → HasOneOf w.orders gs f → HasOneOf x.orders gs f
  lists_kept gs f l = subst (λ o. HasOneOf o gs f) (sym ext.orders) l

  -- nothing was stored
  pub room_same : used_slots x ≡ used_slots w → HasRoomBack w order level → HasRoomBack x order level
  room_same same (fs, fits, due) = (fs, (let l = ext.limit in omega (arith, same, fits, l)), due_kept fs fs due (λ f within lists. inr (lists_kept fs f lists)))

  -- a node was stored that is due
  module _ (k : Kind) (e : Edge) (g : ℕ → ValueOf k) (denotes : function_at (view_of x) e ≡ Some (function_of k g)) (within : IsWithin w.orders (function_of k g))
      (none : w.word e.index ≡ None) (more : used_slots x ≤ suc (used_slots w)) where
    not_known : HasEdge w (function_of k g) → ⊥
    not_known (d, h) =
        let before = at_slot k d.complement (w.function d.index) g h in
        let after = at_slot k e.complement (x.function e.index) g denotes in
        let u = sound.used d.index (function_of k (turned k d.complement g)) before in
        let same = slot_once x ext.sound d.index e.index (function_of k (turned k d.complement g)) (function_of k (turned k e.complement g))
        (ext.function d.index (function_of k (turned k d.complement g)) before) after (one_turned x.orders k d.complement e.complement g) in
        no_word (w.word e.index) u.0 none (ap w.word (sym same) ∙ u.1)

    known_now : (f : Denoted) → (f ≡ function_of k g) ⊎ (opposite f ≡ function_of k g) → HasEdge x f
    known_now f (inl same) = (e, denotes ∙ ap Some (sym same))
    known_now f (inr other) = subst (HasEdge x) (ap opposite (sym other) ∙ opposite-opposite f) (known_opposite x k g e denotes)

    pub room_stored : (r : HasRoomBack w order level) → HasEdge w (function_of k g) ⊎ HasOneOf w.orders r.0 (function_of k g) → HasRoomBack x order level
    room_stored r (inl known) = absurd (not_known known)
    room_stored (fs, fits, due) (inr lists) =
        let m = list_any-In (is_one w.orders (function_of k g)) fs lists in
        let longer = length-without m.0 fs m.1 in
        let rest = without m.0 fs m.1 in (
          rest,
          (let l = ext.limit in omega (arith, longer, fits, more, l)),
          due_kept fs rest due (λ f f_within f_lists.
              let i = list_any-In (is_one w.orders f) fs f_lists in
              elim (In-without m.0 i.0 fs m.1 i.1) [
                | inl same ↦ inl (known_now f (same_or_opposite w.orders f (function_of k g) f_within within
                    (is_one-trans w.orders f m.0 (function_of k g) (subst (λ z. is_one w.orders f z ≡ true) same i.2) (is_one-sym w.orders (function_of k g) m.0 m.2))))
                | inr later ↦ inr (lists_kept rest f (In-list_any (is_one w.orders f) rest i.0 later i.2))
              ]),
        )

pub room_added : (others : (ℕ → ℕ) → (ℕ → ℕ) → Type 0) (order : Order) (level upper lower : ℕ) (w x : Content) → IsSound w → lower ≡ var_at w order (level + 1) → Extends others upper lower w x 1
    → (k : Kind) (e : Edge) (g : ℕ → ValueOf k) → function_at (view_of x) e ≡ Some (function_of k g) → IsWithin w.orders (function_of k g)
    → After others w x ⊎ ((node : Node) × (f : Denoted) × (w.word e.index ≡ None) × (e.index < w.limit) × (node.var ≡ upper) × After others (with_node w e.index node f) x)
    → (r : HasRoomBack w order level) → HasEdge w (function_of k g) ⊎ HasOneOf w.orders r.0 (function_of k g) → HasRoomBack x order level
room_added others order level upper lower w x sound lower_is ext k e g denotes within (inl a) r due = room_same others order level upper lower w x 1 sound lower_is ext (used_same others w x a order) r
room_added others order level upper lower w x sound lower_is ext k e g denotes within (inr (node, f, none, lt, var, a)) r due =
    room_stored others order level upper lower w x 1 sound lower_is ext k e g denotes within none (let few = ext.few in omega (arith, few)) r due

-- A node that was rewritten needs no child any more.
pub room_rewritten : (others : (ℕ → ℕ) → (ℕ → ℕ) → Type 0) (order : Order) (level upper lower slot : ℕ) (w x : Content) (node : Node) (a b : Edge) → w.word slot ≡ Some (Inner node)
    → upper ≡ var_at w order level → upper ≢ lower → After others (rewritten w slot lower a b) x → HasRoomBack w order level → HasRoomBack x order level
room_rewritten others order level upper lower slot w x node a b here upper_is two after (fs, fits, due) =
    let put : Node = record { var = lower; hi = a.index; lo = b } in
    let var : (l : ℕ) → var_at x order l ≡ var_at w order l = λ l. ap (λ o. var_at (record w { orders = o }) order l) after.orders in
    let same : used_slots x ≡ used_slots w = used_same others (rewritten w slot lower a b) x after order ∙ count_kept is_used w.word slot (Inner put) w.limit (ap is_used here) in
    let limit = after.limit in (
      fs,
      omega (arith, same, limit, fits),
      (λ s other k f on word at_upper is depends.
          let apart : s ≢ slot = λ e.
          let here_now : Some (Inner put) ≡ Some (Inner other) = sym (put_at-same w.word slot (Some (Inner put))) ∙ ap (put_at w.word slot (Some (Inner put))) (sym e) ∙ sym (ap (λ (y : ℕ → Option Word). y s) after.word) ∙ word in
          two (upper_is ∙ sym (var level) ∙ sym at_upper ∙ ap (λ (m : Node). m.var) (sym (some_inner put other here_now))) in
          let before : w.word s ≡ Some (Inner other) = sym (put_at-other w.word slot s (Some (Inner put)) apart) ∙ sym (ap (λ (y : ℕ → Option Word). y s) after.word) ∙ word in
          let was : w.function s ≡ Some (function_of k f) = sym (ap (λ (y : ℕ → Option Denoted). y s) after.function) ∙ is in
          let v = var_at w order (level + 1) in
          let part = function_of k (part_at k f v on) in
          let on_w : HasEdge x part ⊎ HasOneOf x.orders fs part =
          elim (due s other k f on before (at_upper ∙ var level) was (λ lacks. depends (subst (Lacks k f) (sym (var (level + 1))) lacks))) [
            | inl known ↦ inl (known_kept w x (λ t h e. ap (λ (y : ℕ → Option Denoted). y t) after.function ∙ e) part known)
            | inr lists ↦ inr (subst (λ o. HasOneOf o fs part) (sym after.orders) lists)
          ] in
          subst (λ u. HasEdge x (function_of k (part_at k f u on)) ⊎ HasOneOf x.orders fs (function_of k (part_at k f u on))) (sym (var (level + 1))) on_w),
    )
