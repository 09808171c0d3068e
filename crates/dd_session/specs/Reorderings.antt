-- What a session tells of the swap of two neighbouring levels.
use Rattle.std.specs.Prelude.{◌≡◌, ℕ, Result, Ok, Err, MatchResult, IsTrue, is_err}
use Rattle.function_laws.specs.declared.history.Reply.TheVariants as replies
use Rattle.function_laws.specs.declared.orders.Order.{Order}
use Rattle.function_laws.specs.declared.orders.Order.TheVariants.{Variables, Elements}
use Rattle.node_store.specs.Contents.{Content}
use Rattle.node_store.specs.Views.{View}
use Rattle.shared_store.specs.declared.reordering.Crowded.{Crowded}
use Rattle.shared_store.specs.Reordering.{Reorders, swap_call}
use Rattle.shared_store.specs.Sharing.{functions_below, whole_of}
use Rattle.dd_session.specs.declared.answers.Full.{Full}
use Rattle.dd_session.specs.declared.answers.Placed.{Placed}
use Rattle.dd_session.specs.declared.answers.Refusal.TheVariants as refusals
use Rattle.dd_session.specs.Counting.{ZeroStays}
use Rattle.dd_session.specs.Sessions.{Called, Denies, Managed, Seen, elements_in, variables_in}
use Rattle.dd_session.specs.Works.{HasRows, StoresNothing}

-- how many levels an order had as the manager was opened
abbrev pub opened_levels : Managed → Order → ℕ
opened_levels m Variables = m.vars
opened_levels m Elements = m.elements

-- how many levels an order has, as the session knows
abbrev pub levels_of : Seen → Order → ℕ
levels_of s Variables = variables_in s
levels_of s Elements = elements_in s

-- the slots in use and those that were needed, where it was refused
abbrev pub crowded_in : Result (Placed (Unit {0})) Full → Result (Unit {0}) Crowded
crowded_in (Ok placed) = Ok placed.value
crowded_in (Err full) = Err (record { in_use = full.in_use; need = full.need })

-- It was of the store that the call found, which has the session's rows. Others may have changed counts meanwhile.
pub record IsSwapOf (order : Order) (level : ℕ) (old new : Seen) (done : Result (Unit {0}) Crowded) : Type 0 where
  pub before : Content
  pub after : Content
  -- what the session saw of the store before
  pub seen : View
  pub has : HasRows seen old
  pub same : seen.content ≡ before.function
  pub found : functions_below (whole_of seen) before.function before.limit ≡ new.found
  pub reorders : Reorders ZeroStays order level before after done

-- A level of an order and the next were exchanged, or the call was refused for a full table, and then it stored nothing.
pub record SwapsLevels (order : Order) (level : ℕ) (old new : Seen) (result : Result (Placed (Unit {0})) Full) : Type 0 where
  pub told : MatchResult result (λ placed. Called old new (swap_call order level) replies.Done placed.place) (λ full. Denies old new (swap_call order level) (refusals.Full full))
  pub swap : IsSwapOf order level old new (crowded_in result)
  pub stored : IsTrue (is_err result) → StoresNothing old new
  pub spare : new.spare ≡ old.spare
