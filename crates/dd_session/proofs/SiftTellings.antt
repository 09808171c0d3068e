-- What a sift may tell, and what it is for its caller.
use Rattle.std.proofs.Common.{◌≡◌, ℕ, List, length, map, true, refl, ap, sym, ◌∙◌, true≢false}
use Rattle.atomic_table.specs.Seated.{TableId}
use Rattle.function_laws.specs.declared.history.Call.{Call}
use Rattle.function_laws.specs.declared.history.Reply.TheVariants as replies
use Rattle.function_laws.specs.declared.history.Sifting.{Sifting}
use Rattle.function_laws.specs.declared.orders.Order.{Order}
use Rattle.function_laws.specs.declared.orders.Order.TheVariants.{Variables, Elements}
use Rattle.function_laws.specs.EntryOrders.{orders_done}
use Rattle.function_laws.specs.Outcomes.{is_done}
use Rattle.function_laws.specs.SiftedOrders.{Block, with_order}
use Rattle.function_laws.specs.Sizes.{Orders, in_order}
use Rattle.node_store.specs.Contents.{Content}
use Rattle.node_store.specs.Sweeps.{root_functions}
use Rattle.node_slots.specs.Held.{Alone}
use Rattle.node_slots.specs.Stores.{IsStore}
use Rattle.node_slots.specs.Wholes.{content_view}
use Rattle.group_sift.specs.declared.sifting.Sifted.{Sifted}
use Rattle.group_sift.specs.Sifts.{IsSifted}
use Rattle.seat_guard.specs.declared.view.Change.TheVariants.{Nothing}
use Rattle.seat_guard.specs.declared.view.Draws.{Draws}
use Rattle.seat_guard.specs.declared.view.Counts.{Counts}
use Rattle.function_laws.specs.SessionEntries.{Each}
use Rattle.seat_guard.specs.Finds.{IsFoundBy, carried_by}
use Rattle.seat_guard.specs.Moves.{HasNoted, MayMove}
use Rattle.seat_guard.specs.Tallies.{counts_after}
use Rattle.shared_store.specs.Counted.{AreRead}
use Rattle.dd_session.specs.Turns.{IsSettled}
use Rattle.dd_session.proofs.Movings.{moves_quiet}
use Rattle.seat_guard.specs.Views.{MayTell, orders_of, told_of}
use Rattle.shared_store.specs.declared.shared.Shared.{Shared}
use Rattle.shared_store.specs.Lasting.{Lasts}
use Rattle.shared_store.specs.Sharing.{Serving, functions, orders, view_of, whole_of}
use Rattle.shared_store.specs.Sifting.{sift_call, sifted_of, sifting_of}
use Rattle.shared_store.proofs.Lasting.{serves-under}
use Rattle.shared_store.proofs.SiftFound.{sift-known, sift-noted}
use Rattle.shared_store.proofs.SiftLaws.{orders-sifted, roots-counted}
use Rattle.dd_session.specs.Counting.{ZeroStays}
use Rattle.dd_session.specs.Siftings.{IsSiftTold, sift_telling}
use Rattle.dd_session.specs.Turns.{Told, Took, levels_in, ordered_by, seen_by}
use Rattle.dd_session.proofs.Calls.{has_rows, stands_taken}
use Rattle.dd_session.proofs.Serving.{serves-same}
use Rattle.dd_session.proofs.Sweepings.{beside}
use Rattle.dd_session.proofs.Tellings.{agrees_quiet}

-- a sift may be told of by what it found
may_tell : (d : Draws) (order : Order) (told : Sifting) → d.holds ≡ true → IsFoundBy d told → MayTell d (record { call = sift_call order told; reply = replies.Done; change = Nothing })
may_tell d Variables told holds is = record { plain = refl; step = λ t agrees. ((is_done, refl, tt), agrees_quiet d t (sift_call Variables told) replies.Done agrees); finds = is; board = λ _. refl; orders = λ not. absurd (true≢false (sym holds ∙ not)) }
may_tell d Elements told holds is = record { plain = refl; step = λ t agrees. ((is_done, refl, tt), agrees_quiet d t (sift_call Elements told) replies.Done agrees); finds = is; board = λ _. refl; orders = λ not. absurd (true≢false (sym holds ∙ not)) }

pub may_sift : (x : Shared) → IsStore x.store → (d : Draws) (c : Counts) → d.holds ≡ true → Serving x d c → AreRead x d c → (order : Order) (blocks : List Block) → MayTell d (sift_telling order blocks x)
may_sift x of d c holds serves read order blocks = may_tell d order (sifting_of order blocks x) holds (sift-known x of d c serves read order blocks)

-- what it carries was found counted
carries_noted : (c : Counts) (order : Order) (told : Sifting) → Each (HasNoted c) told.functions → Each (HasNoted c) (carried_by (sift_call order told))
carries_noted c Variables told noted = noted
carries_noted c Elements told noted = noted

pub moves_sift : (x : Shared) → IsStore x.store → (d : Draws) (c : Counts) → IsSettled c → Serving x d c → AreRead x d c → (order : Order) (blocks : List Block) → MayMove d c (sift_telling order blocks x)
moves_sift x of d c settled serves read order blocks = moves_quiet d c (sift_call order (sifting_of order blocks x)) replies.Done settled (carries_noted c order (sifting_of order blocks x) (sift-noted x of d c serves read))

-- the order that it tells is that which is left
order_told : (o : Orders) (order : Order) (told : Sifting) → with_order o order told.order ≡ orders_done o (sift_call order told)
order_told o Variables told = refl
order_told o Elements told = refl

-- what served the seat still does, under the order that is left
pub serves_sifted : (x y : Shared) → IsStore x.store → (d : Draws) (c : Counts) (order : Order) (blocks : List Block) → IsSettled c → Serving x d c → AreRead x d c → Lasts x y → orders y ≡ with_order (orders x) order (sifted_of order blocks x).order
    → Serving y (told_of d 0 (sift_telling order blocks x)) (counts_after Nothing d.cells d.rows c)
serves_sifted x y of d c order blocks settled serves read lasts left =
    serves-same y (ordered_by d (orders y)) (told_of d 0 (sift_telling order blocks x)) c (counts_after Nothing d.cells d.rows c) (serves-under x y of lasts d c read serves) (record {
      rows_are = refl;
      cells_are = refl;
      others_are = refl;
      counts_are = (refl, refl, refl);
      orders_are = sym (left ∙ ap (λ (o : Orders). with_order o order (sifted_of order blocks x).order) serves.orders_are ∙ order_told (orders_of d) order (sifting_of order blocks x));
    }) refl refl refl

-- each order has a level for each of its variables or elements
pub levels_serve : (x : Shared) (d : Draws) (c : Counts) → IsStore x.store → Serving x d c → (order : Order) → length (in_order (orders x) order) ≡ levels_in d order
levels_serve x d c of serves Variables = of.variables_stand.as_many ∙ ap (λ (p : ℕ × ℕ × ℕ). p.0) serves.counts_are
levels_serve x d c of serves Elements = of.elements_stand.as_many ∙ ap (λ (p : ℕ × ℕ × ℕ). p.1) serves.counts_are

-- others left the counts alone, so they may have changed them
sifted_beside : (order : Order) (blocks : List Block) (before after : Content) (sifted : Sifted) → IsSifted Alone order blocks before after sifted → IsSifted ZeroStays order blocks before after sifted
sifted_beside order blocks before after sifted is = record {
  is_root = is.is_root;
  zero_before = is.zero_before;
  zero_after = is.zero_after;
  orders = is.orders;
  as_many = is.as_many;
  before = is.before;
  after = is.after;
  swaps = is.swaps;
  never_larger = is.never_larger;
  in_use = is.in_use;
  left = is.left;
  function = is.function;
  generation = is.generation;
  limit = is.limit;
  idle = is.idle;
  counts = beside before.count after.count is.counts;
  sound = is.sound;
}

in_own_order : (o : Orders) (order : Order) (list : List ℕ) → in_order (with_order o order list) order ≡ list
in_own_order o Variables list = refl
in_own_order o Elements list = refl

module _ (d e : Draws) (x : Shared) (took : Took d e x) where
  -- the seat still knows what the nodes denoted that the call found
  pub found_sift : (new : Draws) (call : Call) (place : ℕ) → Told e new call replies.Done place → new.functions ≡ functions x
  found_sift new call place told = ap (λ (z : Draws). z.functions) told.4.left ∙ ap (λ (z : Draws). z.functions) took.is

  -- it was of the store that the call found
  pub sift_told : (y : Shared) (new : Draws) (order : Order) (blocks : List Block) (sifted : Sifted) (table table' : TableId) (spare spare' : ℕ)
      → IsSifted Alone order blocks (content_view x.store) (content_view y.store) sifted → new.functions ≡ functions x
      → IsSiftTold order blocks (seen_by table d spare) (seen_by table' new spare') (sifting_of order blocks x) sifted
  unfolding sifted_beside
  sift_told y new order blocks sifted table table' spare spare' is found = record {
    before = content_view x.store;
    after = content_view y.store;
    seen = view_of x;
    has = has_rows table d spare x (stands_taken d e x took);
    same = refl;
    found = sym found;
    limit_is = ap (λ (p : ℕ × ℕ × ℕ). p.2) (stands_taken d e x took).counts_are;
    is_sifted = sifted_beside order blocks (content_view x.store) (content_view y.store) sifted is;
    variables_are = refl;
    elements_are = refl;
    functions_are = sym (ap (λ p. map (whole_of (view_of x)) (root_functions (content_view x.store) p)) (roots-counted order blocks (content_view x.store) (content_view y.store) sifted is));
    order_is = sym (ap (λ (o : Orders). in_order o order) (orders-sifted x y.store order blocks sifted is) ∙ in_own_order (orders x) order (sifted_of order blocks x).order);
  }
