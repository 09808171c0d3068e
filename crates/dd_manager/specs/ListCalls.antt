-- What comes of a call that tells one thing of a list.
use Rattle.std.specs.Prelude.{◌≡◌, ◌⊎◌, ◌<◌, ◌≤◌, ℕ, Bool, true, false, not, [], ◌∷◌, ◌++◌, length, replicate, slice_set}
use Rattle.edge_bits.specs.declared.limits.TheConstants.{MOST_LEVELS}
use Rattle.function_laws.specs.Numbers.{is_zero}
use Rattle.dd_manager.specs.declared.lists.Lists.{Lists}
use Rattle.dd_manager.specs.declared.requests.Answer.{Answer}
use Rattle.dd_manager.specs.declared.requests.ListCall.{ListCall}
use Rattle.dd_manager.specs.declared.requests.ListCall.TheVariants as calls
use Rattle.dd_manager.specs.declared.requests.Request.{Request}
use Rattle.dd_manager.specs.declared.statuses.Status.TheVariants as statuses
use Rattle.dd_manager.specs.Answers.{Says}
use Rattle.dd_manager.specs.Requests.{first, is_foreign}

-- nothing is listed, and each bit is 0
pub record AreClear (lists : Lists) : Type 0 where
  pub marks : lists.marks.items ≡ []
  pub bits : lists.bits ≡ replicate MOST_LEVELS false
  pub pairs : lists.pairs.items ≡ []

-- nothing is listed, and no memory is held for it
pub record AreEmpty (lists : Lists) : Type 0 where
  pub clear : AreClear lists
  pub marks : lists.marks.cap ≡ 0
  pub pairs : lists.pairs.cap ≡ 0

-- what is listed is the same
pub record AreSame (was now : Lists) : Type 0 where
  pub marks : now.marks.items ≡ was.marks.items
  pub bits : now.bits ≡ was.bits
  pub pairs : now.pairs.items ≡ was.pairs.items

-- a variable is marked
pub record AreMarked (was : Lists) (var : ℕ) (now : Lists) : Type 0 where
  pub marks : now.marks.items ≡ was.marks.items ++ var ∷ []
  pub bits : now.bits ≡ was.bits
  pub pairs : now.pairs.items ≡ was.pairs.items

-- the bit of a variable, or an element, is set
pub record AreSet (was : Lists) (number : ℕ) (bit : Bool) (now : Lists) : Type 0 where
  pub marks : now.marks.items ≡ was.marks.items
  pub bits : now.bits ≡ slice_set was.bits number bit
  pub pairs : now.pairs.items ≡ was.pairs.items

-- a function is put for a variable
pub record ArePut (was : Lists) (r : Request) (now : Lists) : Type 0 where
  pub marks : now.marks.items ≡ was.marks.items
  pub bits : now.bits ≡ was.bits
  pub pairs : now.pairs.items ≡ was.pairs.items ++ (r.number, first r) ∷ []

-- A name of another manager is refused, and so is one more pair than there may be levels.
abbrev pub PutsBy : Bool → Lists → Request → Lists → Answer → Type 0
PutsBy true was r now a = AreSame was now × Says statuses.Handle a
PutsBy false was r now a =
    ((MOST_LEVELS ≤ length was.pairs.items) × AreSame was now × Says statuses.Range a)
    ⊎ ((length was.pairs.items < MOST_LEVELS) × ((ArePut was r now × Says statuses.Done a) ⊎ (AreSame was now × Says statuses.Memory a)))

abbrev pub ServesList : ListCall → ℕ → Lists → Request → Lists → Answer → Type 0
ServesList calls.Mark manager was r now a = (AreMarked was r.number now × Says statuses.Done a) ⊎ (AreSame was now × Says statuses.Memory a)
ServesList calls.Bit manager was r now a =
    ((MOST_LEVELS ≤ r.number) × AreSame was now × Says statuses.Range a)
    ⊎ ((r.number < MOST_LEVELS) × AreSet was r.number (not (is_zero r.value)) now × Says statuses.Done a)
ServesList calls.Put manager was r now a = PutsBy (is_foreign manager 1 r) was r now a
ServesList calls.Clear manager was r now a = AreClear now × Says statuses.Done a
