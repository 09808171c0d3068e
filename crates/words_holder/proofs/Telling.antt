-- What each step of a seat with both holds tells, in the holder's own terms.
use Rattle.std.proofs.Common.{◌≡◌, ◌≢◌, ℕ, suc, ◌+◌, ◌*◌, ◌/◌, ◌%◌, ◌^◌, ◌<◌, ◌≤◌, ◌==◌, ◌++◌, cond, eqb-true, Bool, true, false, List, [], ◌∷◌, Some, None, length, set, get_or, option_map, refl, ap, sym, ◌∙◌, subst, arith, get_or-set_other, get_or-set_same, length-set}
use Rattle.std.specs.Prelude as std
use Rattle.std.specs.Prelude.{if◌then◌else◌, slice_index}
use Rattle.std.specs.List.{swap}
use Rattle.std.proofs.lemmas.List.Edits.{swap_is}
use Rattle.std.proofs.lemmas.Bool.{eqb-false}
use Rattle.std.proofs.Math.Nat.{mul-lt-mul_of_pos_right, div-lt_iff_lt-mul}
use mathlib.Core.Option.{some}
use lib.ListN.{get_elem?}
use Rattle.edge_bits.specs.declared.edges.Kind.{Kind}
use Rattle.edge_bits.specs.declared.words.Node.{Node}
use Rattle.edge_bits.specs.Reading.{plain}
use Rattle.edge_bits.specs.Mixing.{scattered, spread}
use Rattle.step_store.specs.Chains as steps
use Rattle.function_laws.specs.declared.orders.Order.{Order}
use Rattle.function_laws.specs.declared.orders.Order.TheVariants.{Variables, Elements}
use Rattle.function_laws.specs.Sizes.{Orders, in_order}
use Rattle.function_laws.specs.SiftedOrders.{place_of}
use Rattle.handle_count.specs.CountWords.{count_of, generation_of}
use Rattle.hold_store.specs.Held as held
use Rattle.hold_store.specs.Held.{IsDead, IsNew, IsWhole, Knowledge, freed, node_function}
use Rattle.hold_store.proofs.Orders.{lower_now}
use Rattle.node_store.specs.Contents.{Content, IsOrder, IsSound}
use Rattle.node_store.specs.Changes.{CanFree, exchanged, put_at, rewritten, with_node, with_pin}
use Rattle.node_store.proofs.Rewriting.{put_at-same}
use Rattle.words_holder.specs.declared.holder.Due.{Due}
use Rattle.words_holder.specs.declared.holder.Lent.{Lent}
use Rattle.words_holder.specs.Holders.{hand_of, knows}
use Rattle.words_holder.proofs.Holding.{exchanged_long, level_same, with_pending}
use Rattle.words_rule.specs.declared.view.SeenWord.{SeenWord}
use Rattle.words_rule.specs.declared.view.Stored.{Stored}
use Rattle.words_rule.specs.declared.view.View.{View}
use Rattle.words_rule.specs.Exchanges.{dues_of, item, position}
use Rattle.words_rule.specs.Hands.{without_level}
use Rattle.words_rule.specs.HeldContents.{KnowsAll, held_bits, held_content, or_zero}
use Rattle.words_rule.specs.HolderPlays.{HasAdded, HasExchanged, HasFound, HasFreed, HasPinned, HasRenewed, HasRewritten, IsAddable, IsWholeChain}
use Rattle.words_rule.specs.Known.{noted_bits}
use Rattle.words_rule.specs.Layout.{Shape, head_of, heads, places}
use Rattle.words_rule.specs.Shapes.{shape_in}
use Rattle.words_rule.specs.Tallies.{one_if}
use Rattle.words_rule.specs.Views.{orders_of}
use Rattle.words_rule.proofs.Steppers.{noted_there}

pub one_same : (b : Bool) → one_if b ≡ (if b then 1 else 0)
one_same true = refl
one_same false = refl

-- a chain that is known whole is so for the trait
pub whole_told : (v : View) (renewed : std.Option ℕ) (due : std.Option Due) (lent : Lent) (head level : ℕ) (chain : List ℕ) → KnowsAll v → IsWholeChain v head level chain → IsWhole (knows v renewed due lent) head level chain
whole_told v renewed due lent head level chain k w = record {
  chained = w.chained;
  used = w.used;
  all = λ s is. w.all s is.word is.high is.has is.head_is (is.level_is ∙ sym (level_same v k is.word));
}

pub addable : (k : Kind) (w : Content) (node : Node) → IsNew k w node → IsAddable k w node
addable k w node n = record { can = n.can; proper = n.proper; absent = n.absent; unknown = n.unknown }

-- a word that is known stands among the notes
pub head_noted : (v : View) → KnowsAll v → (slot head : ℕ) → slot < v.draws.slots → head ≡ head_of (shape_in v.draws) (held_bits v slot)
    → (bits : ℕ) × (k : ℕ) × (get_elem? v.known.words k ≡ some (record { slot = slot; bits = bits })) × (head ≡ head_of (shape_in v.draws) bits)
head_noted v know slot head inside is = let n = know.noted slot inside in let at = noted_there v.known.words slot n.0 n.1 in (n.0, at.0, at.1, is ∙ ap (λ o. head_of (shape_in v.draws) (or_zero o)) n.1)

pub can_free : (v : View) (slot : ℕ) → IsDead (held_content v) slot → CanFree (held_content v) slot
can_free v slot d = record { used = d.used; spare = d.spare; sweeping = refl; uncounted = d.uncounted; unpinned = d.unpinned; unnamed = d.unnamed }

module _ (v u : View) (renewed : std.Option ℕ) (due : std.Option Due) (lent : Lent) where
  abbrev K : Knowledge
  K = knows v renewed due lent

  pub added_told : (k : Kind) (node : Node) (list : List ℕ) (slot bits : ℕ) → lent.free ≡ true → HasAdded k node list slot bits v u
      → knows u None due lent ≡ record { content = with_node K.content slot node (node_function k K.content node); bits = put_at K.bits slot bits; heads = K.heads; hand = record K.hand { free = Some list; loose = Some slot; renewed = None; link = None } }
  added_told k node list slot bits given a =
      (λ i. record { content = a.content i; bits = a.bits_are i; heads = heads (shape_in (a.still.draws i)); hand = hand_of (a.hand i) None due lent })
      ∙ ap (λ (b : Bool). record { content = with_node K.content slot node (node_function k K.content node); bits = put_at K.bits slot bits; heads = K.heads; hand = record K.hand { free = if b then Some list else None; loose = Some slot; renewed = None; link = None } }) given

  pub rewritten_told : (node : Node) (slot bits : ℕ) → HasRewritten node slot bits v u
      → knows u renewed due lent ≡ record K { content = rewritten K.content slot node.var (record { index = node.hi; complement = false }) node.lo; bits = put_at K.bits slot bits }
  rewritten_told node slot bits a = λ i. record { content = a.content i; bits = a.bits_are i; heads = heads (shape_in (a.still.draws i)); hand = hand_of (a.hand i) renewed due lent }

  pub freed_told : (list : List ℕ) (slot : ℕ) → lent.free ≡ true → HasFreed list slot v u
      → knows u None due lent ≡ record { content = freed K.content slot; bits = put_at K.bits slot 0; heads = K.heads; hand = record K.hand { free = Some (slot ∷ list); loose = None; renewed = None; link = None } }
  freed_told list slot given a =
      (λ i. record { content = a.content i; bits = a.bits_are i; heads = heads (shape_in (a.still.draws i)); hand = hand_of (a.hand i) None due lent })
      ∙ ap (λ (b : Bool). record { content = freed K.content slot; bits = put_at K.bits slot 0; heads = K.heads; hand = record K.hand { free = if b then Some (slot ∷ list) else None; loose = None; renewed = None; link = None } }) given

  pub found_told : (slot n : ℕ) → HasFound slot n v u
      → (count : ℕ) × (knows u renewed due lent ≡ record K { content = record K.content { count = put_at K.content.count slot count } }) × (count_of n ≡ count + (if K.content.pinned slot then 1 else 0))
  found_told slot n f = (
    f.count,
    (λ i. record { content = f.content i; bits = λ s. held_bits (f.is i) s; heads = heads (shape_in (f.is i).draws); hand = hand_of (f.is i).hand renewed due lent }),
    f.counted ∙ ap (λ m. f.count + m) (one_same (K.content.pinned slot)),
  )

  pub zero_stays : (slot n : ℕ) → HasFound slot n v u → K.content.count slot ≡ 0 → (held_content u).count slot ≡ 0
  zero_stays slot n f zero = ap (λ (w : Content). w.count slot) f.content ∙ put_at-same (held_content v).count slot f.count ∙ f.stays zero

  pub renewed_told : (slot n : ℕ) → HasRenewed slot n v u
      → knows u (Some slot) due lent ≡ record K { content = record K.content { generation = put_at K.content.generation slot (generation_of n) }; hand = record K.hand { renewed = Some slot } }
  renewed_told slot n f = λ i. record { content = f.content i; bits = λ s. held_bits (f.is i) s; heads = heads (shape_in (f.is i).draws); hand = hand_of (f.is i).hand (Some slot) due lent }

  pub pinned_told : (slot : ℕ) (pinned : Bool) (pins : List ℕ) (word : ℕ) → HasPinned slot pinned pins word v u → knows u renewed due lent ≡ record K { content = with_pin K.content slot pinned }
  pinned_told slot pinned pins word f = λ i. record { content = f.content i; bits = λ s. held_bits (f.is i) s; heads = heads (shape_in (f.is i).draws); hand = hand_of (f.is i).hand renewed due lent }

  pub exchanged_told : (order : Order) (level : ℕ) (l : List ℕ) (x : Stored) → HasExchanged order level v u
      → knows (with_pending u l x) renewed (Some (record { order = order; level = level + 1 })) lent ≡ record K { content = record K.content { orders = exchanged K.content.orders order level; half = None }; hand = record K.hand { pending = Some (record { order = order; level = level + 1 }) } }
  exchanged_told order level l x r = λ i. record { content = r.content i; bits = r.bits_are i; heads = heads (shape_in (r.draws i)); hand = hand_of (r.hand i) renewed (Some (record { order = order; level = level + 1 })) lent }

-- an order as it is known has each number once
pub is_order : (w : Content) → IsSound w → (order : Order) → IsOrder (in_order w.orders order)
is_order w s Variables = s.variables
is_order w s Elements = s.elements

pub order_few : (w : Content) → IsSound w → (order : Order) → length (in_order w.orders order) ≤ 16384
order_few w s Variables = s.few_variables
order_few w s Elements = s.few_elements

-- a number of an order is small
pub number_few : (w : Content) → IsSound w → (order : Order) (level : ℕ) → level < length (in_order w.orders order) → slice_index (in_order w.orders order) level < 16384
number_few w s order level lt = let b = (is_order w s order).below level lt in let f = order_few w s order in omega (arith, b, f)

swapped_at : (xs : List ℕ) (l : ℕ) → l + 1 < length xs → slice_index (swap xs l (l + 1)) l ≡ slice_index xs (l + 1)
swapped_at xs l lt = ap (λ (ys : List ℕ). get_or ys l 0) (sym (swap_is xs l (l + 1) 0 (omega (arith, lt)) lt))
    ∙ get_or-set_other (set xs l (get_or xs (l + 1) 0)) (l + 1) l (get_or xs l 0) 0 (λ e. omega (arith, e)) ∙ get_or-set_same xs l (get_or xs (l + 1) 0) 0 (omega (arith, lt))

pub upper_now : (orders : Orders) (order : Order) (l : ℕ) → l + 1 < length (in_order orders order) → slice_index (in_order (exchanged orders order l) order) l ≡ slice_index (in_order orders order) (l + 1)
upper_now orders Variables l lt = swapped_at orders.variables l lt
upper_now orders Elements l lt = swapped_at orders.elements l lt

without_here : (a : ℕ) (xs : List ℕ) → without_level a (a ∷ xs) ≡ without_level a xs
without_here a xs = by (a == a) refl
  where
    by : (b : Bool) → (a == a) ≡ b → cond b (without_level a xs) (a ∷ without_level a xs) ≡ without_level a xs
    by true e = refl
    by false e = absurd (eqb-false a a e refl)

without_else : (a x : ℕ) (xs : List ℕ) → x ≢ a → without_level a (x ∷ xs) ≡ x ∷ without_level a xs
without_else a x xs ne = by (x == a) refl
  where
    by : (b : Bool) → (x == a) ≡ b → cond b (without_level a xs) (x ∷ without_level a xs) ≡ x ∷ without_level a xs
    by true e = absurd (ne (eqb-true x a e))
    by false e = refl

-- two levels of an order have two numbers
apart : (order : List ℕ) → IsOrder order → (l : ℕ) → l + 1 < length order → slice_index order l ≡ slice_index order (l + 1) → ⊥
apart order is l lt same = let a = is.once l (omega (arith, lt)) in let b = is.once (l + 1) lt in let e : place_of (slice_index order l) order ≡ place_of (slice_index order (l + 1)) order = ap (λ n. place_of n order) same in omega (arith, a, b, e)

item_apart : (z : Shape) (order : Order) (a b : ℕ) → item z order a ≡ item z order b → a ≡ b
item_apart z Variables a b e = e
item_apart z Elements a b e = omega (arith, e)

-- a position comes before the levels
before_levels : (v : View) → KnowsAll v → (order : Order) (level n : ℕ) → level + 1 < length (in_order (orders_of v.known) order) → position (shape_in v.draws) order level + 1 ≡ places (shape_in v.draws) + n → ⊥
before_levels v k Variables level n lt e = let long = k.long.0 in omega (arith, lt, e, long)
before_levels v k Elements level n lt e = let long = k.long.1 in omega (arith, lt, e, long)

next_position : (z : Shape) (order : Order) (level : ℕ) → position z order level + 1 ≡ position z order (level + 1)
next_position z Variables level = refl
next_position z Elements level = omega arith

-- of the three words that are due two are stored
pub due_left : (v : View) → KnowsAll v → (order : Order) (level : ℕ) → level + 1 < length (in_order (orders_of v.known) order) → (upper lower : ℕ) → upper ≡ slice_index (in_order (orders_of v.known) order) level → lower ≡ slice_index (in_order (orders_of v.known) order) (level + 1)
    → (pending : List ℕ) → pending ≡ dues_of (shape_in v.draws) (orders_of v.known) order level
    → without_level (places (shape_in v.draws) + item (shape_in v.draws) order lower) (without_level (places (shape_in v.draws) + item (shape_in v.draws) order upper) pending) ≡ position (shape_in v.draws) order (level + 1) ∷ []
due_left v k order level lt upper lower up low pending is =
    let z = shape_in v.draws in
    let first : ℕ = position z order level + 1 in
    let a : ℕ = places z + item z order upper in
    let b : ℕ = places z + item z order lower in
    let differ : b ≡ a → ⊥ = λ e. (let same = item_apart z order lower upper (omega (arith, e)) in apart (in_order (orders_of v.known) order) (is_order (held_content v) k.sound order) level lt (sym up ∙ sym same ∙ low)) in
    let told : pending ≡ first ∷ a ∷ b ∷ [] = is ∙ ap (λ n. first ∷ (places z + item z order n) ∷ (places z + item z order (slice_index (in_order (orders_of v.known) order) (level + 1))) ∷ []) (sym up) ∙ ap (λ n. first ∷ a ∷ (places z + item z order n) ∷ []) (sym low) in
    let once : without_level a pending ≡ first ∷ b ∷ [] = ap (without_level a) told ∙ without_else a first (a ∷ b ∷ []) (before_levels v k order level (item z order upper) lt) ∙ ap (λ l. first ∷ l) (without_here a (b ∷ []) ∙ without_else a b [] differ) in
    ap (without_level b) once ∙ without_else b first (b ∷ []) (before_levels v k order level (item z order lower) lt) ∙ ap (λ l. first ∷ l) (without_here b []) ∙ ap (λ n. n ∷ []) (next_position z order level)

-- the last of them is stored
pub none_left : (z : Shape) (order : Order) (level : ℕ) (due : Due) → (due.order ≡ order) × (due.level ≡ level) → (pending : List ℕ) → pending ≡ position z due.order due.level ∷ [] → without_level (position z order level) pending ≡ []
none_left z order level due same pending is = ap (without_level (position z order level)) (is ∙ λ i. position z (same.0 i) (same.1 i) ∷ []) ∙ without_here (position z order level) []

-- where the two stand once they are exchanged
module _ (v u : View) (order : Order) (level : ℕ) (k : KnowsAll v) (r : HasExchanged order level v u) (lt : level + 1 < length (in_order (orders_of v.known) order)) where
  orders_now : orders_of u.known ≡ exchanged (orders_of v.known) order level
  orders_now = ap (λ (w : Content). w.orders) r.content

  pub long_now : length (in_order (orders_of u.known) order) ≡ length (in_order (orders_of v.known) order)
  long_now = ap (λ (o : Orders). length (in_order o order)) orders_now ∙ exchanged_long (orders_of v.known) order level

  pub upper_place : level + 1 ≡ place_of (slice_index (in_order (orders_of v.known) order) level) (in_order (orders_of u.known) order)
  upper_place =
      let at : slice_index (in_order (orders_of u.known) order) (level + 1) ≡ slice_index (in_order (orders_of v.known) order) level = ap (λ (o : Orders). slice_index (in_order o order) (level + 1)) orders_now ∙ lower_now (orders_of v.known) order level lt in
      sym ((is_order (held_content u) r.knows.sound order).once (level + 1) (subst (λ n. level + 1 < n) (sym long_now) lt)) ∙ ap (λ n. place_of n (in_order (orders_of u.known) order)) at

  pub lower_place : level ≡ place_of (slice_index (in_order (orders_of v.known) order) (level + 1)) (in_order (orders_of u.known) order)
  lower_place =
      let at : slice_index (in_order (orders_of u.known) order) level ≡ slice_index (in_order (orders_of v.known) order) (level + 1) = ap (λ (o : Orders). slice_index (in_order o order) level) orders_now ∙ upper_now (orders_of v.known) order level lt in
      let below : level < length (in_order (orders_of u.known) order) = (let n = long_now in omega (arith, lt, n)) in
      sym ((is_order (held_content u) r.knows.sound order).once level below) ∙ ap (λ n. place_of n (in_order (orders_of u.known) order)) at

-- the head of a word is one of the heads
pub head_below : (bits heads : ℕ) → 0 < heads → steps.head_of heads bits < heads
unfolding scattered
head_below bits p few_heads =
    let m : ℕ = (spread bits + spread bits / 2 ^ 32) % 2 ^ 64 * 14029467366897019727 in
    let x : ℕ = m % 2 ^ 64 / 2 ^ 32 in
    let few : x < 2 ^ 32 = small m in
    let h : x * p < 2 ^ 32 * p = mul-lt-mul_of_pos_right few few_heads in
    (div-lt_iff_lt-mul {k = 2 ^ 32} {x = x * p} {y = p} (omega arith)).1 (subst (λ y. x * p < y) (omega arith) h)
  where
    small : (m : ℕ) → m % 2 ^ 64 / 2 ^ 32 < 2 ^ 32
    small m = omega arith
