-- What a call and its answer tell.
use Rattle.std.specs.Prelude.{ℕ, List, Option, Some, None}
use Rattle.function_laws.specs.declared.history.Name.{Name}
use Rattle.function_laws.specs.declared.history.Call.{Call}
use Rattle.function_laws.specs.declared.history.Call.TheVariants as calls
use Rattle.function_laws.specs.Makings.{mapped}
use Rattle.function_laws.specs.declared.history.Reply.{Reply}
use Rattle.function_laws.specs.declared.history.Reply.TheVariants as replies
use Rattle.node_store.specs.Listed.{listed_at}
use Rattle.node_store.specs.Views.{View}
use Rattle.seat_guard.specs.declared.view.Change.{Change}
use Rattle.seat_guard.specs.declared.view.Change.TheVariants.{Nothing, Adds, Takes, Posts}
use Rattle.seat_guard.specs.declared.view.Held.{Held}
use Rattle.seat_guard.specs.declared.view.Row.{Row}
use Rattle.seat_guard.specs.declared.view.Telling.{Telling}
use Rattle.seat_guard.specs.Views.{no_held}
use Rattle.shared_store.specs.declared.shared.Cell.{Cell}
use Rattle.shared_store.specs.Reordering.{swap_call}
use Rattle.shared_store.specs.Sharing.{held_of}
use Rattle.dd_session.specs.declared.request.Request.{Request}
use Rattle.dd_session.specs.declared.request.Request.TheVariants as requests
use Rattle.dd_session.specs.declared.request.Adding.{Adding}
use Rattle.dd_session.specs.declared.request.Adding.TheVariants.{Made, Chosen, Taken}
use Rattle.dd_session.specs.declared.request.Answer.{Answer}
use Rattle.dd_session.specs.declared.request.Answer.TheVariants.{Added, Posted, Truth, Value, Done, Unmade, Full}
use Rattle.dd_session.specs.declared.request.Alone.{Alone}
use Rattle.dd_session.specs.declared.request.Alone.TheVariants.{Copied, Dropped, Compared}
use Rattle.dd_session.specs.Sessions.{held_as, reply_unmade}

abbrev pub call_of : Request → Call
call_of (requests.Makes making) = calls.Makes (mapped (λ name. name) (λ vars. vars.now) (λ pairs. pairs.now) making)
call_of (requests.Leq a b) = calls.Leq a b
call_of (requests.Eval a bits) = calls.Eval a bits.now
call_of (requests.Post i a) = calls.Post i a
call_of (requests.Fetch i a) = calls.Fetch i a
call_of requests.Sweep = calls.Sweep
call_of (requests.Swap order level) = swap_call order level

-- what a new row is replied; a function that was chosen is told in whole
abbrev pub added_as : View → Adding → Name → Cell → Reply
added_as w Made name cell = replies.Made name
added_as w Chosen name cell = replies.Chose name (listed_at cell.kind w cell.edge)
added_as w (Taken posted) name cell = replies.Fetched name posted

abbrev pub reply_of : View → Answer → Reply
reply_of w (Added adding name cell generation) = added_as w adding name cell
reply_of w (Posted i cell) = replies.Done
reply_of w (Truth told) = replies.Truth told
reply_of w (Value x) = replies.Value x
reply_of w Done = replies.Done
reply_of w (Unmade why) = reply_unmade why
reply_of w (Full in_use need) = replies.Full in_use need

abbrev pub change_of : View → Answer → Change
change_of w (Added adding name cell generation) = Adds (record { name = name; held = held_of w cell; generation = generation })
change_of w (Posted i cell) = Posts i (held_of w cell)
change_of w (Truth told) = Nothing
change_of w (Value x) = Nothing
change_of w Done = Nothing
change_of w (Unmade why) = Nothing
change_of w (Full in_use need) = Nothing

abbrev pub telling_of : View → Request → Answer → Telling
telling_of w request answer = record { call = call_of request; reply = reply_of w answer; change = change_of w answer }

-- a row's edge and function
abbrev pub held_or : Option Held → Held
held_or None = no_held
held_or (Some held) = held

abbrev pub row_held : List Row → Name → Held
row_held rows name = held_or (held_as rows name)

-- what a call on the rows alone tells
abbrev pub alone_telling : List Row → Alone → Telling
alone_telling rows (Copied h name generation) = record { call = calls.Copy h; reply = replies.Made name; change = Adds (record { name = name; held = row_held rows h; generation = generation }) }
alone_telling rows (Dropped h) = record { call = calls.DropRow h; reply = replies.Done; change = Takes h }
alone_telling rows (Compared f g told) = record { call = calls.Same f g; reply = replies.Truth told; change = Nothing }

-- whether the table was full, as a number
abbrev pub is_refusal : Answer → ℕ
is_refusal (Full in_use need) = 1
is_refusal _ = 0
