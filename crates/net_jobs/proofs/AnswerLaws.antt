-- What a call that makes a row of others leaves of the session.
use Rattle.std.proofs.Common.{ℕ, Bool, true, false, List, Result, Ok, Err, ap}
use Rattle.function_laws.specs.declared.history.Call.{Call}
use Rattle.function_laws.specs.declared.history.Call.TheVariants as calls
use Rattle.function_laws.specs.declared.history.Name.{Name}
use Rattle.function_laws.specs.declared.history.Reply.{Reply}
use Rattle.function_laws.specs.declared.history.Reply.TheVariants as laws
use Rattle.function_laws.specs.declared.making.Making.{Making}
use Rattle.function_laws.specs.Makings.{needs_nodes}
use Rattle.operator_calls.specs.declared.unmade.Unmade.{Unmade}
use Rattle.dd_session.specs.declared.answers.Placed.{Placed}
use Rattle.dd_session.specs.declared.answers.Refusal.{Refusal}
use Rattle.dd_session.specs.declared.answers.Refusal.TheVariants as refusals
use Rattle.dd_session.specs.MadeRows.{MakesOrTells, Refuses, TellsRow, chooses, with_why}
use Rattle.dd_session.specs.Sessions.{Called, Denies, Seen, reply_unmade, told_as}
use Rattle.net_jobs.specs.Saying.{IsKept}

module _ (old new : Seen) (making : Making Name (List ℕ) (List (ℕ × Name))) where
  abbrev call : Call
  call = calls.Makes making

  -- a refusal is denied, whether nodes may be needed or not
  denied : (needs : Bool) (refusal : Refusal) → Refuses needs old new call refusal → Denies old new call refusal
  denied true refusal refused = refused
  denied false refusal refused = refused.1

  -- what is told of a row, or of why there is none, is a call that was made
  was_called : (chosen : Bool) (told : Result Name Unmade) (place : ℕ) → TellsRow chosen old new call told place → (reply : Reply) × Called old new call reply place
  was_called true (Ok name) place tells = (laws.Chose name tells.0, tells.1)
  was_called true (Err why) place tells = (reply_unmade why, tells)
  was_called false told place tells = (told_as told, tells)

  denied_kept : (refusal : Refusal) → Denies old new call refusal → IsKept old new
  denied_kept refusals.Memory denies = (ap (λ (s : Seen). s.manager) denies.0, ap (λ (s : Seen). s.number) denies.0)
  denied_kept (refusals.Full full) denies = (denies.0.manager_is, denies.0.number_is)

  pub kept : (made : Result (Placed (Result Name Unmade)) Refusal) → MakesOrTells old new making made → IsKept old new
  kept (Ok placed) makes = let called = was_called (chooses making) (with_why (λ why. why) placed.value) placed.place makes.told in (called.1.manager_is, called.1.number_is)
  kept (Err refusal) makes = denied_kept refusal (denied (needs_nodes making) refusal makes.told)

-- room for more rows is no part of what a call says
pub called_spared : (old new : Seen) (spare : ℕ) (call : Call) (reply : Reply) (place : ℕ) → Called (record old { spare = spare }) new call reply place → Called old new call reply place
called_spared old new spare call reply place is = record {
  board = is.board;
  note = is.note;
  place_is = is.place_is;
  rows_noted = is.rows_noted;
  placed_are = is.placed_are;
  step = λ t seen board sizes. is.step t (record { grown = seen.grown; live = seen.live; fresh = seen.fresh }) board sizes;
  sizes_are = is.sizes_are;
  more_are = is.more_are;
  entries_are = is.entries_are;
  later = is.later;
  manager_is = is.manager_is;
  number_is = is.number_is;
  adds_are = is.adds_are;
  few = is.few;
  change = is.change;
  rows_are = is.rows_are;
  noted_are = is.noted_are;
}
