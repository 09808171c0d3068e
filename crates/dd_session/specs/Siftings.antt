-- What a session tells of the sift of an order.
use Rattle.std.specs.Prelude.{◌≡◌, List, map}
use Rattle.function_laws.specs.declared.history.Reply.TheVariants as replies
use Rattle.function_laws.specs.declared.history.Sifting.{Sifting}
use Rattle.function_laws.specs.declared.orders.Order.{Order}
use Rattle.function_laws.specs.SiftedOrders.{Block}
use Rattle.function_laws.specs.Sizes.{in_order}
use Rattle.node_store.specs.Contents.{Content}
use Rattle.node_store.specs.Sweeps.{root_functions}
use Rattle.node_store.specs.Views.{View}
use Rattle.group_sift.specs.declared.sifting.Sifted.{Sifted}
use Rattle.group_sift.specs.Sifts.{IsSifted}
use Rattle.seat_guard.specs.declared.view.Change.TheVariants.{Nothing}
use Rattle.seat_guard.specs.declared.view.Telling.{Telling}
use Rattle.shared_store.specs.declared.shared.Shared.{Shared}
use Rattle.shared_store.specs.Sharing.{functions_below, whole_of}
use Rattle.shared_store.specs.Sifting.{sift_call, sifting_of}
use Rattle.dd_session.specs.declared.answers.Placed.{Placed}
use Rattle.dd_session.specs.Counting.{ZeroStays}
use Rattle.dd_session.specs.Sessions.{Called, Seen}
use Rattle.dd_session.specs.Works.{HasRows}

-- what is told of a sift of what all share
abbrev pub sift_telling : Order → List Block → Shared → Telling
sift_telling order blocks x = record { call = sift_call order (sifting_of order blocks x); reply = replies.Done; change = Nothing }

-- It was of the store that the call found, which has the session's rows. Others may have changed counts meanwhile.
pub record IsSiftTold (order : Order) (blocks : List Block) (old new : Seen) (told : Sifting) (sifted : Sifted) : Type 0 where
  pub before : Content
  pub after : Content
  -- what the session saw of the store before
  pub seen : View
  pub has : HasRows seen old
  pub same : seen.content ≡ before.function
  pub found : functions_below (whole_of seen) before.function before.limit ≡ new.found
  -- it has as many slots as the manager was opened with
  pub limit_is : before.limit ≡ old.manager.limit
  pub is_sifted : IsSifted ZeroStays order blocks before after sifted
  -- the entry has both orders at the start, the functions of the slots whose count was read as above 0, and the order that was left
  pub variables_are : told.variables ≡ before.orders.variables
  pub elements_are : told.elements ≡ before.orders.elements
  pub functions_are : told.functions ≡ map (whole_of seen) (root_functions before is_sifted.is_root)
  pub order_is : told.order ≡ in_order after.orders order

-- An order was sifted in blocks.
pub record SiftsLevels (order : Order) (blocks : List Block) (old new : Seen) (result : Placed Sifted) : Type 0 where
  pub sifting : Sifting
  pub told : Called old new (sift_call order sifting) replies.Done result.place
  pub sift : IsSiftTold order blocks old new sifting result.value
  pub spare : new.spare ≡ old.spare
