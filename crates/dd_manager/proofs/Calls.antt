-- What comes of calls that go over the rows more than once.
use Rattle.std.proofs.Common.{◌≡◌, ◌⊎◌, inl, inr, ℕ, ◌+◌, ◌<◌, Bool, true, false, IsTrue, ◌↔◌, pos, List, length, Option, Result, Some, None, Ok, Err, IfOk, ap, sym, subst, ◌∙◌}
use Rattle.std.specs.Prelude.{OnErr}
use Rattle.edge_bits.specs.declared.edges.Kind.{Kind}
use Rattle.edge_bits.specs.declared.edges.Kind.TheVariants as kinds
use Rattle.function_laws.specs.declared.history.Name.{Name}
use Rattle.function_laws.specs.declared.orders.Order.{Order}
use Rattle.function_laws.specs.Kinds.{ValueOf}
use Rattle.function_laws.specs.SiftedOrders.{Block, with_order}
use Rattle.function_laws.specs.Sizes.{Orders, in_order}
use Rattle.group_sift.specs.declared.sifting.Sifted.{Sifted}
use Rattle.group_sift.specs.Sifts.{IsSifted}
use Rattle.group_sift.specs.Turns.{one_block}
use Rattle.node_slots.specs.Held.{Alone}
use Rattle.node_slots.specs.Wholes.{content_view}
use Rattle.node_store.specs.Memo.{Implies}
use Rattle.store_upkeep.specs.declared.reordering.Crowded.{Crowded}
use Rattle.store_upkeep.specs.Lasting.{orders_of}
use Rattle.store_upkeep.specs.Reordering.{Reorders, orders_left}
use Rattle.store_upkeep.specs.Sifting.{sifted_of}
use Rattle.store_rows.specs.declared.nodes.Top.{Top}
use Rattle.store_rows.specs.Levels.{StandsAt}
use Rattle.store_rows.specs.Nodes.{IsChild, IsTop}
use Rattle.store_rows.specs.RowStores.{IsLive, IsLiveAs, Names, RowStoreView, Same, edge_in, view_of}
use Rattle.store_rows.proofs.Changes.{same-refl, same-then}
use Rattle.dd_manager.specs.declared.requests.Answer.{Answer}
use Rattle.dd_manager.specs.declared.requests.Request.{Request}
use Rattle.dd_manager.specs.declared.statuses.Status.TheVariants as statuses
use Rattle.dd_manager.specs.Answers.{HasValue, IsTopTold, Says}
use Rattle.dd_manager.specs.LevelCalls.{SiftsBy, Stays, SwapsBy, TellsAt, TellsLevel, count_of, swap_status}
use Rattle.dd_manager.specs.NodeCalls.{GivesChild, IsChildTold, TellsTop}
use Rattle.dd_manager.specs.Requests.{first, second}
use Rattle.dd_manager.specs.RowCalls.{TellsImplied}

-- one and the same name is told of, by the request's own manager
module _ (b : Bool) (own : b ≡ false) (r : Request) (was : RowStoreView) (a : Answer) where
  pub told-top : (now : RowStoreView) (top : Top) → IsLive was.rows.live (first r) → Same was now → IsTopTold top a
      → ((k : Kind) (f : ℕ → ValueOf k) → Names was k (first r) f → IsTop k (view_of now) (edge_in was.rows.live (first r)) f top) → TellsTop b was r now a
  told-top now top live same told tops = subst (λ c. TellsTop c was r now a) (sym own) (same, inr (live, (top, told, tops)))

  pub told-unlive : ((IsLive was.rows.live (first r) → ⊥) ⊎ (IsLive was.rows.live (second r) → ⊥)) → Says statuses.Handle a → TellsImplied b was r was a
  told-unlive none says = subst (λ c. TellsImplied c was r was a) (sym own) (same-refl was, inl (none, says))

  pub told-others : (same : Same was was) → IsLive was.rows.live (first r) → IsLive was.rows.live (second r)
      → ((IsLiveAs kinds.Bdd was.rows.live (first r) → ⊥) ⊎ (IsLiveAs kinds.Bdd was.rows.live (second r) → ⊥)) → Says statuses.Kind a → TellsImplied b was r was a
  told-others same one two other says = subst (λ c. TellsImplied c was r was a) (sym own) (same, inr (inl (one, two, other, says)))

  module _ (now : RowStoreView) (same : Same was now) (one : IsLiveAs kinds.Bdd was.rows.live (first r)) (two : IsLiveAs kinds.Bdd was.rows.live (second r)) where
    pub told-wanting : Says statuses.Memory a → TellsImplied b was r now a
    told-wanting says = subst (λ c. TellsImplied c was r now a) (sym own) (same, inr (inr (one, two, inl says)))

    pub told-implied : (told : Bool) → Says statuses.Done a → (a.value ≡ pos 1) ↔ IsTrue told
        → ((f g : ℕ → ValueOf kinds.Bdd) → Names was kinds.Bdd (first r) f → Names was kinds.Bdd (second r) g → (told ≡ true) ↔ Implies f g) → TellsImplied b was r now a
    told-implied told says value tells = subst (λ c. TellsImplied c was r now a) (sym own)
        (same, inr (inr (one, two, inr (says, λ f g x y. let t = tells f g x y in ((λ is. t.0 (value.0 is)), (λ implies. value.1 (t.1 implies)))))))

  pub given-child : {E : Type 0} (manager : ℕ) (taken : Bool) (now : RowStoreView) (made : Result (Option Name) E) → IsLive was.rows.live (first r) → IfOk made (IsChild was now (first r) taken) → OnErr made (Same was now)
      → IsChildTold manager made a → GivesChild b manager taken was r now a
  given-child manager taken now made live ok err told = subst (λ c. GivesChild c manager taken was r now a) (sym own) (by made ok err told)
    where
      by : {E : Type 0} (x : Result (Option Name) E) → IfOk x (IsChild was now (first r) taken) → OnErr x (Same was now) → IsChildTold manager x a → GivesChild false manager taken was r now a
      by (Ok (Some child)) is same says = inr (inr (inr (live, (child, is, says))))
      by (Ok None) is same says = inr (inr (inl (live, is, says)))
      by (Err e) is same says = inr (inl (live, same, says))

-- the orders stay
stays-then : (a b c : RowStoreView) → Stays a b → Stays b c → Stays a c
stays-then a b c one two = (same-then a b c one.0 two.0, two.1 ∙ one.1)

pub same-count : (a b : RowStoreView) (order : Order) → Stays a b → count_of b order ≡ count_of a order
same-count a b order stays = ap (λ (o : Orders). length (in_order o order)) stays.1

module _ (order : Order) (was mid : RowStoreView) (n : ℕ) (a : Answer) (to_mid : Stays was mid) where
  pub told-level : (now : RowStoreView) (level : ℕ) → Stays mid now → StandsAt (orders_of mid.store) order n level → HasValue (pos level) a → TellsLevel order was n now a
  told-level now level to_now stands value = (stays-then was mid now to_mid to_now, inr (level, subst (λ (o : Orders). StandsAt o order n level) to_mid.1 stands, value))

  pub told-at : (now : RowStoreView) (number : ℕ) → Stays mid now → StandsAt (orders_of mid.store) order number n → HasValue (pos number) a → TellsAt order was n now a
  told-at now number to_now stands value = (stays-then was mid now to_mid to_now, inr (number, subst (λ (o : Orders). StandsAt o order number n) to_mid.1 stands, value))

  pub told-swap : (now : RowStoreView) (done : Result (Unit {0}) Crowded) → n + 1 < count_of was order → Same mid now → Reorders Alone order n (content_view mid.store) (content_view now.store) done
      → orders_of now.store ≡ orders_left order n (orders_of mid.store) done → Says (swap_status done) a → SwapsBy order was n now a
  told-swap now done less same reorders orders says = inr (
    less,
    (
      done,
      record {
        start = mid;
        stays = to_mid;
        reorders = reorders;
        same = same-then was mid now to_mid.0 same;
        orders = orders ∙ ap (λ (o : Orders). orders_left order n o done) to_mid.1;
      },
      says,
    ),
  )

module _ (order : Order) (was mid now : RowStoreView) (a : Answer) (to_mid : Stays was mid) where
  pub told-sift : (blocks : List Block) (sifted : Sifted) → blocks ≡ one_block (count_of was order) → Same mid now → IsSifted Alone order blocks (content_view mid.store) (content_view now.store) sifted
      → orders_of now.store ≡ with_order (orders_of mid.store) order (sifted_of order blocks mid.store).order → HasValue (pos sifted.after) a → SiftsBy order was now a
  told-sift blocks sifted one same is orders value = inr (
    sifted,
    record {
      start = mid;
      stays = to_mid;
      is = subst (λ (bs : List Block). IsSifted Alone order bs (content_view mid.store) (content_view now.store) sifted) one is;
      same = same-then was mid now to_mid.0 same;
      orders = orders ∙ ap (λ (z : Orders × List Block). with_order z.0 order (sifted_of order z.1 mid.store).order) (λ i. (to_mid.1 i, one i));
    },
    value,
  )
