-- Moves in one direction.
use Rattle.std.specs.Prelude.{◌≡◌, ℕ, suc, ◌+◌, ◌-◌, ◌<◌, ◌≤◌, ◌⊎◌, true, false, length}
use Rattle.function_laws.specs.declared.orders.Order.{Order}
use Rattle.function_laws.specs.SiftedOrders.{Line, Turn, met_at, down_up, up_down, moved}
use Rattle.node_store.specs.Contents.{Content}
use Rattle.group_sift.specs.declared.trips.Stand.{Stand as StandOf}
use Rattle.group_sift.specs.declared.trips.Way.{Way}
use Rattle.group_sift.specs.declared.trips.Way.TheVariants.{Down, Up}
use Rattle.group_sift.specs.Trips.{Stand, stand_at, EndsAs, CanSwap}
use Rattle.group_sift.specs.Settled.{Trip, IsAt, IsWayOpen, trip_line, measure_at}

abbrev pub neighbour_of : Way → ℕ → ℕ
neighbour_of Down q = suc q
neighbour_of Up q = q - 1

-- the upper one of a place and its neighbour
abbrev pub upper_place : Way → ℕ → ℕ
upper_place Down q = q
upper_place Up q = q - 1

-- there is a neighbour, in a list of so many
abbrev pub HasNext : Way → ℕ → ℕ → Type 0
HasNext Down q long = q + 1 < long
HasNext Up q long = (0 < q) × (q < long)

-- there are so many places that way
abbrev pub HasSteps : Way → ℕ → ℕ → ℕ → Type 0
HasSteps Down steps q long = q + steps < long
HasSteps Up steps q long = (steps ≤ q) × (q < long)

abbrev pub other_way : Way → Way
other_way Down = Up
other_way Up = Down

-- how many places lie that way in a block
abbrev pub places_ahead : Way → ℕ → ℕ → ℕ → ℕ
places_ahead Down lo hi p = hi - p
places_ahead Up lo hi p = p - lo

abbrev pub turn_of : Way → Line → ℕ → ℕ → ℕ → Turn
turn_of Down line lo hi p = down_up line lo hi p
turn_of Up line lo hi p = up_down line lo hi p

-- where a trip begins
abbrev pub home_stand : Line → ℕ → Stand
home_stand line p = record { place = p; least = line.size_at p; best = met_at line p; count = 0 }

-- the lesser and the greater of a place and a later one
abbrev pub lo_of : Way → ℕ → ℕ → ℕ
lo_of Down p q = p
lo_of Up p q = q

abbrev pub hi_of : Way → ℕ → ℕ → ℕ
hi_of Down p q = q
hi_of Up p q = p

-- so many moves lead from the first to the second
abbrev pub IsAhead : Way → ℕ → ℕ → ℕ → Type 0
IsAhead Down p moves q = q ≡ p + moves
IsAhead Up p moves q = q + moves ≡ p

abbrev pub stand_of : StandOf → Stand
stand_of s = record { place = s.place; least = s.least; best = record { place = s.best; size = s.smallest }; count = s.count }

-- There was no room for the move.
pub record IsStopped (others : (ℕ → ℕ) → (ℕ → ℕ) → Type 0) (which : Order) (t : Trip) (way : Way) (now : StandOf) (w : Content) : Type 0 where
  pub stays : IsAt others which t now.place w
  pub room : (trip_line which t).has_room now.place (neighbour_of way now.place) ≡ false

-- It was made, and may be made back and again.
pub record IsMoved (others : (ℕ → ℕ) → (ℕ → ℕ) → Type 0) (which : Order) (t : Trip) (way : Way) (now next : StandOf) (w : Content) : Type 0 where
  pub room : (trip_line which t).has_room now.place (neighbour_of way now.place) ≡ true
  pub arrives : IsAt others which t (neighbour_of way now.place) w
  pub place : next.place ≡ neighbour_of way now.place
  pub size : next.size ≡ (trip_line which t).size_at (neighbour_of way now.place)
  pub stand : stand_of next ≡ stand_at (neighbour_of way now.place) ((trip_line which t).size_at (neighbour_of way now.place)) (stand_of now)
  pub first : CanSwap (measure_at which t.start) t.start.limit (moved t.list t.home (upper_place way now.place)) (upper_place way now.place)
  pub second : CanSwap (measure_at which t.start) t.start.limit (moved t.list t.home (upper_place way now.place + 1)) (upper_place way now.place)

-- the best place is that from which the direction was taken, or one that it met
abbrev pub IsBestOf : Way → StandOf → StandOf → Type 0
IsBestOf way from now = (now.best ≡ from.best) ⊎ ((lo_of way from.place now.place ≤ now.best) × (now.best ≤ hi_of way from.place now.place))

-- After i of at most so many moves: what the rest leads to, the whole does.
pub record IsScanning (others : (ℕ → ℕ) → (ℕ → ℕ) → Type 0) (which : Order) (t : Trip) (way : Way) (from : StandOf) (steps i : ℕ) (now : StandOf) (w : Content) : Type 0 where
  pub stays : IsAt others which t now.place w
  pub free : IsWayOpen which t (lo_of way from.place now.place) (hi_of way from.place now.place)
  pub ahead : IsAhead way from.place i now.place
  pub count : now.count ≡ i
  pub best : IsBestOf way from now
  pub left : (end : Stand) → EndsAs (trip_line which t) (neighbour_of way) (steps - i) (stand_of now) end → EndsAs (trip_line which t) (neighbour_of way) steps (stand_of from) end

-- where it ended
pub record IsScanned (others : (ℕ → ℕ) → (ℕ → ℕ) → Type 0) (which : Order) (t : Trip) (way : Way) (from : StandOf) (steps : ℕ) (end : StandOf) (w : Content) : Type 0 where
  pub stays : IsAt others which t end.place w
  pub free : IsWayOpen which t (lo_of way from.place end.place) (hi_of way from.place end.place)
  pub ahead : IsAhead way from.place end.count end.place
  pub few : end.count ≤ steps
  pub best : IsBestOf way from end
  pub leads : EndsAs (trip_line which t) (neighbour_of way) steps (stand_of from) (stand_of end)

-- There is a way from one place to another over places that were met.
pub record HasPath (which : Order) (t : Trip) (from to : ℕ) : Type 0 where
  pub lo : ℕ
  pub hi : ℕ
  pub free : IsWayOpen which t lo hi
  pub from_lo : lo ≤ from
  pub from_hi : from ≤ hi
  pub to_lo : lo ≤ to
  pub to_hi : to ≤ hi
  pub within : to < length t.list

-- The trip ended where the definition says, with as many swaps.
pub record IsTurned (others : (ℕ → ℕ) → (ℕ → ℕ) → Type 0) (which : Order) (t : Trip) (turn : Turn) (swaps : ℕ) (w : Content) : Type 0 where
  pub arrives : IsAt others which t turn.place w
  pub swaps_are : swaps ≡ turn.swaps
