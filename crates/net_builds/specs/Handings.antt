-- What is handed over by a cell of the board, and what is told of it.
use Rattle.std.specs.List.{AllZip}
use Rattle.std.specs.Prelude.{◌≡◌, ◌⊎◌, ℕ, zero, suc, ◌+◌, ◌<◌, ◌≤◌, Bool, false, true, List, [], ◌∷◌, ◌++◌, All, Contains, Some, length, map, slice_get, slice_set}
use Rattle.function_laws.specs.declared.history.Call.TheVariants as calls
use Rattle.function_laws.specs.declared.history.Entry.{Entry}
use Rattle.function_laws.specs.declared.history.Name.{Name}
use Rattle.function_laws.specs.declared.history.Reply.TheVariants as replies
use Rattle.function_laws.specs.Handovers.{posts_to}
use Rattle.function_laws.specs.SessionEntries.{entry}
use Rattle.net_builds.specs.Handed.{IsPlain}
use Rattle.net_builds.specs.declared.handing.Handover.{Handover}
use Rattle.net_builds.specs.declared.telling.Findings.{Findings}
use Rattle.net_builds.specs.Holdings.{AreRising}
use Rattle.net_builds.specs.Standings.{Fetches, Gains, IsLive, IsQuiet, KeepsAll, KeepsOrders, Note, Posts, Standing, values_of}

-- the elements of two lists are so, place by place, each as its number says, which goes on from this one
abbrev pub PairsFrom : {X Y : Type 0} → (ℕ → X → Y → Type 0) → ℕ → List X → List Y → Type 0
PairsFrom R k [] [] = Unit {0}
PairsFrom R k (x ∷ xs) (y ∷ ys) = R k x y × PairsFrom R (suc k) xs ys
PairsFrom R k _ _ = ⊥

-- each fetch lies above its post, and below the next post
abbrev pub AreInTurn : ℕ → List Handover → Type 0
AreInTurn low [] = Unit {0}
AreInTurn low (h ∷ hs) = (low ≤ h.post) × (h.post < h.fetch) × AreInTurn (h.fetch + 1) hs

-- the entry adds no variable and no element, and posts to no other cell
pub record IsWithin (cell : ℕ) (e : Entry) : Type 0 where
  pub plain : IsPlain e
  pub elsewhere : (other : ℕ) → (other ≡ cell → ⊥) → posts_to other e.call ≡ false

-- and where it posts to the cell it is one of these handovers
abbrev pub IsKnown : ℕ → List Handover → Entry → Type 0
IsKnown cell handovers e = IsWithin cell e × (posts_to cell e.call ≡ true → Contains (map (λ h. h.post) handovers) e.place)

-- and it leaves both orders as they are
abbrev pub IsOrderly : ℕ → List Handover → Entry → Type 0
IsOrderly cell handovers e = IsKnown cell handovers e × KeepsOrders e

-- the name was posted to the cell by the one and fetched from it by the other, which found it posted
abbrev pub IsPassed : ℕ → Standing → Standing → Handover → Type 0
IsPassed cell giver taker h =
    Contains giver.entries (entry h.post giver.number (calls.Post cell h.from) replies.Done) × Contains taker.entries (entry h.fetch taker.number (calls.Fetch cell h.other) (replies.Fetched h.to true))

-- A function went from the session that built it to the first one: at the post's place the name that was posted to the cell stood for it, and a later fetch found that cell posted.
pub record IsDelivered (cell : ℕ) (f : ℕ → Bool) (giver first : Standing) (h : Handover) : Type 0 where
  pub posting : Note
  pub among : Contains giver.placed posting
  pub at_post : posting.place ≡ h.post
  pub built : posting.stands h.from ≡ values_of giver.vars f
  pub passed : IsPassed cell giver first h

-- The wanted functions in turn were built by some sessions, each by one of them, and handed over to the first.
abbrev pub AllHandedOver : ℕ → List (ℕ → Bool) → List Standing → Standing → List Handover → Type 0
AllHandedOver cell [] sessions first [] = Unit {0}
AllHandedOver cell (f ∷ wanted) sessions first (h ∷ hs) =
    ((giver : Standing) × Contains sessions giver × IsDelivered cell f giver first h) × AllHandedOver cell wanted sessions first hs
AllHandedOver cell _ sessions first _ = ⊥

-- One session posted a name to the cell, and then the first one fetched from it, and found it posted.
pub record HandsOne (cell giver : ℕ) (old new : List Standing) (name : Name) (h : Handover) : Type 0 where
  pub from : Standing
  pub from_is : slice_get old giver ≡ Some from
  pub posted : Standing
  pub posts : Posts cell from posted name h.post
  pub first : Standing
  pub first_is : slice_get (slice_set old giver posted) 0 ≡ Some first
  pub last : Standing
  pub fetches : Fetches cell first last h.other h.to true h.fetch
  pub new_is : new ≡ slice_set (slice_set old giver posted) 0 last
  pub turn : h.post < h.fetch
  pub name_is : h.from ≡ name

-- What a session leaves that only posts and lets go: its names stand for what they did, and each of its calls was answered Done, which gives no name. If it is one of the first so many, there is a note of the place of its first post, which is an entry of its own.
pub record Offers (handovers : List Handover) (k : ℕ) (old new : Standing) (gained : List Entry) : Type 0 where
  pub done : All (λ (e : Entry). e.reply ≡ replies.Done) gained
  pub stands : (other : Name) → new.stands other ≡ old.stands other
  pub first : k < length handovers
      → (note : Note) × Contains new.placed note × Contains (map (λ (h : Handover). h.post) handovers) note.place × ((other : Name) → note.stands other ≡ old.stands other) × All (λ (e : Entry). e.place < note.place) old.entries
      × ((e : Entry) × Contains new.entries e × (e.place ≡ note.place))

-- the first session may have so many rows more
abbrev pub rows_more : ℕ → ℕ → ℕ
rows_more zero fetched = fetched
rows_more (suc k) fetched = 0

-- What is left of session k while functions are handed over, of which the first one has fetched so many.
pub record Gives (cell : ℕ) (handovers : List Handover) (fetched k : ℕ) (old new : Standing) : Type 0 where
  pub gains : Gains (IsOrderly cell handovers) old new
  pub kept : KeepsAll old new
  pub rows : new.rows ≤ old.rows + rows_more k fetched
  pub offers : (k ≡ 0 → ⊥) → Offers handovers k old new gains.gained

-- The wanted functions in turn were handed over to the first session. The names that it fetched are new, and live.
pub record Gathers (cell : ℕ) (wanted : List (ℕ → Bool)) (old new : List Standing) (handovers : List Handover) : Type 0 where
  pub each : PairsFrom (Gives cell handovers (length handovers)) 0 old new
  pub before : Standing
  pub before_is : slice_get old 0 ≡ Some before
  pub first : Standing
  pub first_is : slice_get new 0 ≡ Some first
  pub handed : AllHandedOver cell wanted new first handovers
  pub turns : AreInTurn 0 handovers
  -- its last call was a fetch, if there was one
  pub ends : (handovers ≡ []) ⊎ ((es : List Entry) × (h : Handover) × (first.entries ≡ es ++ entry h.fetch first.number (calls.Fetch cell h.other) (replies.Fetched h.to true) ∷ []))
  pub held : All (λ (h : Handover). IsLive first h.to) handovers
  pub newer : All (λ (h : Handover). before.adds ≤ h.to.generation) handovers
  pub rising : AreRising (map (λ (h : Handover). h.to) handovers)

-- A session made calls that add no variable and no element and post to no other cell, let go what names it was given, and may have noted something. Each name that was given before stands for what it stood for. It swapped and sifted nothing, where no sift was asked for.
pub record Returns (cell : ℕ) (sifts : Bool) (old new : Standing) : Type 0 where
  pub vars_are : new.vars ≡ old.vars
  pub number_is : new.number ≡ old.number
  pub gained : List Entry
  pub entries_are : new.entries ≡ old.entries ++ gained
  pub within : All (IsWithin cell) gained
  pub keeps : sifts ≡ false → All KeepsOrders gained
  pub more : old.adds ≤ new.adds
  pub kept : KeepsAll old new
  pub rows : new.rows ≤ old.rows

-- Some functions were handed over, and then a call was refused.
pub record GathersSome (cell most : ℕ) (old new : List Standing) (handovers : List Handover) : Type 0 where
  pub some : List (ℕ → Bool)
  pub few : length handovers ≤ most
  pub mid : List Standing
  pub gathers : Gathers cell some old mid handovers
  pub returns : AllZip (Returns cell false) mid new

-- A session told something, and may have noted something. Each name stands for what it stood for.
pub record Looks (old new : Standing) : Type 0 where
  pub vars_are : new.vars ≡ old.vars
  pub number_is : new.number ≡ old.number
  pub gained : List Entry
  pub entries_are : new.entries ≡ old.entries ++ gained
  pub quiet : All IsQuiet gained
  pub more : old.adds ≤ new.adds
  pub behind : List Note
  pub placed_are : new.placed ≡ old.placed ++ behind
  pub kept : (other : Name) → new.stands other ≡ old.stands other
  pub rows : new.rows ≤ old.rows

-- What is told of the functions that some names stood for at the place of a note, which lies above the session's calls so far: under the order that was noted there, behind its earlier notes. Each name stood for what it did before.
pub record IsTold (Tells : List (ℕ → Bool) → List ℕ → Findings → Type 0) (old new : Standing) (names : List Name) (found : Findings) : Type 0 where
  pub looks : Looks old new
  pub note : Note
  pub notes_are : new.notes ≡ old.notes ++ note ∷ []
  pub later : All (λ (e : Entry). e.place < note.place) old.entries
  pub stood : (other : Name) → note.stands other ≡ old.stands other
  pub functions : List (ℕ → Bool)
  pub stand : map note.stands names ≡ map (values_of new.vars) functions
  pub tells : Tells functions note.order found
