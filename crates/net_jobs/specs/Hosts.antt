-- The sessions of a manager, as those that build functions of networks.
use Rattle.std.specs.Prelude.{◌≡◌, Result, Ok, Err, length, map, option_map}
use Rattle.dd_session.specs.declared.answers.Full.{Full}
use Rattle.dd_session.specs.declared.answers.Placed.{Placed}
use Rattle.dd_session.specs.declared.answers.Refusal.{Refusal}
use Rattle.dd_session.specs.declared.answers.Refusal.TheVariants as refusals
use Rattle.dd_session.specs.Sessions.{Managed, Seen, sizes_at, stands_now, variables_in}
use Rattle.function_laws.specs.declared.history.Entry.{Entry}
use Rattle.function_laws.specs.declared.history.Name.{Name}
use Rattle.function_laws.specs.declared.history.Reply.TheVariants as replies
use Rattle.function_laws.specs.Widening.{at_sizes}
use Rattle.seat_guard.specs.declared.view.Noted.{Noted}
use Rattle.seat_guard.specs.Views.{stands_for}
use Rattle.net_builds.specs.declared.host.HostRefusal.{HostRefusal}
use Rattle.net_builds.specs.declared.host.HostRefusal.TheVariants as stops
use Rattle.net_builds.specs.Standings.{Note, Standing}

-- what a session noted at a place, as one that builds functions: the order of the variables, and what its names stood for
abbrev pub note_of : Noted → Note
note_of noted = record {
  place = noted.place;
  order = noted.variable_order;
  stands = λ name. option_map (at_sizes (sizes_at noted)) (stands_for noted.rows name);
}

-- what is seen of a session that builds functions
abbrev pub standing_of : Seen → Standing
standing_of s = record {
  vars = variables_in s;
  number = s.number;
  adds = s.adds;
  rows = length s.rows;
  stands = stands_now s;
  entries = s.entries;
  notes = map note_of s.noted;
  placed = map note_of s.placed;
}

-- the session is one of the manager's, and knows of no variable that was added
pub record IsSessionOf (manager : Managed) (s : Seen) : Type 0 where
  pub own : s.manager ≡ manager
  pub none_added : s.more_variables ≡ 0

-- the entry is of a call that was refused so, as each slot of the manager was in use
pub record TellsFullOf (manager : Managed) (full : Full) (e : Entry) : Type 0 where
  pub place_is : e.place ≡ full.place
  pub reply_is : e.reply ≡ replies.Full full.in_use full.need
  pub in_use : full.in_use ≡ manager.limit
  pub limit : full.limit ≡ manager.limit

-- the refusal of a call, as one that builds functions is stopped by it
abbrev pub stopped_by : Refusal → HostRefusal Full
stopped_by refusals.Memory = stops.Memory
stopped_by (refusals.Full full) = stops.Full full

-- the name that a call made, without its place
abbrev pub named_by : Result (Placed Name) Refusal → Result Name (HostRefusal Full)
named_by (Ok placed) = Ok placed.value
named_by (Err refusal) = Err (stopped_by refusal)
