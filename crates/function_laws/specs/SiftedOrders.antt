-- The order that sifting leaves (Rudell 1993), from the sizes of orders alone.
use Rattle.std.specs.Prelude.{ℕ, zero, suc, ◌+◌, ◌-◌, ◌*◌, nat_lt, nat_le, min, Bool, true, false, ◌&&◌, ◌||◌, ◌==◌, if◌then◌else◌, List, [], ◌∷◌, ◌++◌, length, slice_index, take, drop}
use Rattle.std.specs.List.{insert, remove}
use Rattle.function_laws.specs.declared.orders.Mode.{Mode}
use Rattle.function_laws.specs.declared.orders.Mode.TheVariants.{Default, Fixed}
use Rattle.function_laws.specs.declared.orders.Order.{Order}
use Rattle.function_laws.specs.declared.orders.Order.TheVariants.{Variables, Elements}
use Rattle.function_laws.specs.Kinds.{Denoted}
use Rattle.function_laws.specs.Sizes.{Orders, in_order, size, width, permanent}

-- a block of neighbouring places, from where the block before it ends up to this place; those of a fixed one are not sifted
pub record Block : Type 0 where
  pub end : ℕ
  pub mode : Mode

abbrev pub is_default : Mode → Bool
is_default Default = true
is_default Fixed = false

-- a place that was met, and the size there
pub record Met : Type 0 where
  pub place : ℕ
  pub size : ℕ

-- What a sift of one variable or one group of them goes by: the size with it at a place, and whether it may go from a place to its neighbour.
pub record Line : Type 0 where
  pub size_at : ℕ → ℕ
  pub has_room : ℕ → ℕ → Bool

abbrev pub met_at : Line → ℕ → Met
met_at line q = record { place = q; size = line.size_at q }

-- the size there is more than 120 per cent of the least
abbrev pub is_too_large : ℕ → ℕ → Bool
is_too_large size least = nat_lt (120 * least) (100 * size)

-- The places that are met in one direction, at most so many: it stops before a place for which there is no room, and after one that is too large.
unfoldable pub reach : Line → (ℕ → ℕ) → ℕ → ℕ → ℕ → List Met
reach line next zero place least = []
reach line next (suc steps) place least =
    let to = next place in
    let lower = min least (line.size_at to) in
    if line.has_room place to then
    met_at line to ∷ (if is_too_large (line.size_at to) lower then [] else reach line next steps to lower)
    else []

-- the least of this size and those that were met
abbrev pub least_of : ℕ → List Met → ℕ
least_of least [] = least
least_of least (m ∷ ms) = least_of (min least m.size) ms

-- the first that was met of the smallest size
abbrev pub first_least : Met → List Met → Met
first_least best [] = best
first_least best (m ∷ ms) = first_least (if nat_lt m.size best.size then m else best) ms

-- how many swaps lead from one place to another
abbrev pub distance : ℕ → ℕ → ℕ
distance p q = (p - q) + (q - p)

-- the place where it is left, and how many swaps were made
pub record Turn : Type 0 where
  pub place : ℕ
  pub swaps : ℕ

-- From place p of lo to hi it goes the nearer way first, back to p, the other way, and to the first place of the smallest size.
abbrev pub down_up : Line → ℕ → ℕ → ℕ → Turn
down_up line lo hi p =
    let here = met_at line p in
    let down = reach line suc (hi - p) p here.size in
    let up = reach line (λ q. q - 1) (p - lo) p (least_of here.size down) in
    let to = first_least here (down ++ up) in
    record { place = to.place; swaps = 2 * length down + length up + distance (p - length up) to.place }

abbrev pub up_down : Line → ℕ → ℕ → ℕ → Turn
up_down line lo hi p =
    let here = met_at line p in
    let up = reach line (λ q. q - 1) (p - lo) p here.size in
    let down = reach line suc (hi - p) p (least_of here.size up) in
    let to = first_least here (up ++ down) in
    record { place = to.place; swaps = 2 * length up + length down + distance (p + length down) to.place }

abbrev pub turn : Line → ℕ → ℕ → ℕ → Turn
turn line lo hi p = if nat_lt (hi - p) (p - lo) then down_up line lo hi p else up_down line lo hi p

-- the order with the one at place p moved to place q
abbrev pub moved : List ℕ → ℕ → ℕ → List ℕ
moved order p q = insert (remove order p) q (slice_index order p)

-- the first place where v stands
abbrev pub place_of : ℕ → List ℕ → ℕ
place_of v [] = 0
place_of v (u ∷ us) = if u == v then 0 else suc (place_of v us)

-- the block of a place: its first and its last place
pub record Bounds : Type 0 where
  pub lo : ℕ
  pub hi : ℕ

abbrev pub bounds_from : ℕ → List Block → ℕ → Bounds
bounds_from start [] p = record { lo = p; hi = p }
bounds_from start (b ∷ bs) p = if nat_lt p b.end then record { lo = start; hi = b.end - 1 } else bounds_from b.end bs p

-- those that stand in default blocks
abbrev pub default_ones : ℕ → List Block → List ℕ → List ℕ
default_ones start [] order = []
default_ones start (b ∷ bs) order =
    (if is_default b.mode then take (b.end - start) order else []) ++ default_ones b.end bs (drop (b.end - start) order)

-- in falling width, those of one width in rising number
abbrev pub comes_first : (ℕ → ℕ) → ℕ → ℕ → Bool
comes_first width u v = nat_lt (width v) (width u) || ((width u == width v) && nat_lt u v)

abbrev pub put_in : (ℕ → ℕ) → ℕ → List ℕ → List ℕ
put_in width v [] = v ∷ []
put_in width v (u ∷ us) = if comes_first width v u then v ∷ (u ∷ us) else u ∷ put_in width v us

abbrev pub in_falling_width : (ℕ → ℕ) → List ℕ → List ℕ
in_falling_width width [] = []
in_falling_width width (v ∷ vs) = put_in width v (in_falling_width width vs)

-- How large an order is, and how wide each variable stands in it.
pub record Measure : Type 0 where
  pub size_of : List ℕ → ℕ
  pub width_of : List ℕ → ℕ → ℕ

-- the variable at place p, in the places where it may go: a swap of two neighbours needs room for twice the upper width and the lower
abbrev pub line_of : Measure → ℕ → List ℕ → ℕ → Line
line_of m limit order p = record {
  size_at = λ q. m.size_of (moved order p q);
  has_room = λ from to. nat_le (m.size_of (moved order p from) + reserve (moved order p from) (min from to)) limit;
}
  where
    reserve : List ℕ → ℕ → ℕ
    reserve now level = 2 * m.width_of now (slice_index now level) + m.width_of now (slice_index now (level + 1))

-- an order and the swaps that led to it
pub record Reached : Type 0 where
  pub order : List ℕ
  pub swaps : ℕ

abbrev pub sift_one : Measure → ℕ → List Block → ℕ → Reached → Reached
sift_one m limit blocks v r =
    let p = place_of v r.order in
    let b = bounds_from 0 blocks p in
    let t = turn (line_of m limit r.order p) b.lo b.hi p in
    record { order = moved r.order p t.place; swaps = r.swaps + t.swaps }

abbrev pub sift_each : Measure → ℕ → List Block → List ℕ → Reached → Reached
sift_each m limit blocks [] r = r
sift_each m limit blocks (v ∷ vs) r = sift_each m limit blocks vs (sift_one m limit blocks v r)

abbrev pub sift_by : Measure → ℕ → List Block → List ℕ → Reached
sift_by m limit blocks order =
    sift_each m limit blocks (in_falling_width (m.width_of order) (default_ones 0 blocks order)) (record { order = order; swaps = 0 })

-- one of both orders changed
abbrev pub with_order : Orders → Order → List ℕ → Orders
with_order orders Variables order = record orders { variables = order }
with_order orders Elements order = record orders { elements = order }

-- the pinned functions with the permanent ones, measured in both orders, one of which is sifted
abbrev pub measure_of : Orders → Order → List Denoted → Measure
measure_of orders which pinned = record {
  size_of = λ order. size (with_order orders which order) (permanent (length orders.variables) ++ pinned);
  width_of = λ order. width (with_order orders which order) which (permanent (length orders.variables) ++ pinned);
}

-- what a sift leaves: the order, the sizes before and after, and the number of swaps
pub record SiftedOrder : Type 0 where
  pub order : List ℕ
  pub before : ℕ
  pub after : ℕ
  pub swaps : ℕ

abbrev pub sifted : Orders → Order → List Block → ℕ → List Denoted → SiftedOrder
sifted orders which blocks limit pinned =
    let m = measure_of orders which pinned in
    let start = in_order orders which in
    let r = sift_by m limit blocks start in
    record { order = r.order; before = m.size_of start; after = m.size_of r.order; swaps = r.swaps }
