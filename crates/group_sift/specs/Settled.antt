-- A store in the middle of a sift.
use Rattle.std.specs.Prelude.{◌≡◌, ℕ, ◌<◌, true, false, List, length, None}
use Rattle.function_laws.specs.declared.orders.Order.{Order}
use Rattle.function_laws.specs.Sizes.{in_order}
use Rattle.function_laws.specs.SiftedOrders.{Measure, Line, line_of, measure_of, with_order, moved}
use Rattle.node_store.specs.Contents.{Content, IsSound, IsUsed}
use Rattle.group_sift.specs.Trips.{IsOpenFor}
use Rattle.node_store.specs.Sweeps.{IsReached, root_functions}

-- the sizes of orders, for the functions of the slots that are pinned
unfoldable pub measure_at : Order → Content → Measure
measure_at which start = measure_of start.orders which (root_functions start start.pinned)

-- Since the pins were made one order alone may have changed; what is pinned keeps what it denotes, and nothing else is counted.
pub record IsPinned (others : (ℕ → ℕ) → (ℕ → ℕ) → Type 0) (which : Order) (start w : Content) : Type 0 where
  pub orders : w.orders ≡ with_order start.orders which (in_order w.orders which)
  pub long : length (in_order w.orders which) ≡ length (in_order start.orders which)
  pub limit : w.limit ≡ start.limit
  pub pinned : w.pinned ≡ start.pinned
  pub sweeping : w.sweeping ≡ false
  pub half : w.half ≡ None
  pub function : (s : ℕ) → start.pinned s ≡ true → w.function s ≡ start.function s
  pub generation : (s : ℕ) → start.pinned s ≡ true → w.generation s ≡ start.generation s
  pub uncounted : (s : ℕ) → start.pinned s ≡ false → w.count s ≡ 0
  pub counts : others start.count w.count
  pub sound : IsSound w

-- and everything in use is reached from what is pinned or permanent
pub record IsSettled (others : (ℕ → ℕ) → (ℕ → ℕ) → Type 0) (which : Order) (start w : Content) : Type 0 where
  pub held : IsPinned others which start w
  pub reached : (s : ℕ) → IsUsed w s → IsReached w start.pinned s

-- the sift of one variable or element: the store when the pins were made, the order when it began to move, and its place in it
pub record Trip : Type 0 where
  pub start : Content
  pub list : List ℕ
  pub home : ℕ

-- It stands at this place now.
pub record IsAt (others : (ℕ → ℕ) → (ℕ → ℕ) → Type 0) (which : Order) (t : Trip) (place : ℕ) (w : Content) : Type 0 where
  pub settled : IsSettled others which t.start w
  pub placed : in_order w.orders which ≡ moved t.list t.home place
  pub as_long : length t.list ≡ length (in_order t.start.orders which)
  pub here : t.home < length t.list
  pub there : place < length t.list

-- It may go from each place to its neighbour, from lo to hi, both ways.
abbrev pub IsWayOpen : Order → Trip → ℕ → ℕ → Type 0
IsWayOpen which t lo hi = IsOpenFor (measure_at which t.start) t.start.limit t.list t.home lo hi

abbrev pub trip_line : Order → Trip → Line
trip_line which t = line_of (measure_at which t.start) t.start.limit t.list t.home
