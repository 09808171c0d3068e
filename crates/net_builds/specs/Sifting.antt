-- What is told behind a sift of the outputs' functions.
use Rattle.std.specs.List.{AllZip}
use Rattle.std.specs.Prelude.{◌≡◌, ◌⊎◌, ℕ, ◌<◌, ◌≤◌, ◌^◌, Bool, List, [], ◌∷◌, ◌++◌, All, Contains, Option, Some, map}
use Rattle.function_laws.specs.declared.history.Call.TheVariants as calls
use Rattle.function_laws.specs.declared.history.Entry.{Entry}
use Rattle.function_laws.specs.declared.history.Function.{Function}
use Rattle.function_laws.specs.declared.history.Function.TheVariants.{Bdd}
use Rattle.function_laws.specs.declared.history.Name.{Name}
use Rattle.function_laws.specs.declared.history.Reply.TheVariants as replies
use Rattle.function_laws.specs.declared.history.Sifting.{Sifting}
use Rattle.function_laws.specs.declared.orders.Order.TheVariants.{Variables}
use Rattle.function_laws.specs.Kinds.{BddFunction}
use Rattle.function_laws.specs.Lists.{list_of}
use Rattle.function_laws.specs.SessionEntries.{entry}
use Rattle.function_laws.specs.SiftedOrders.{sifted}
use Rattle.function_laws.specs.Tables.{Sizes}
use Rattle.sift_laws.specs.Alike.{rising_orders, whole_block}
use Rattle.net_builds.specs.Builds.{AreUnsifted, Builds, IsLegalHistoryOf, FindingsOf}
use Rattle.net_builds.specs.Standings.{IsSiftedBy, KeepsOrders, Note, Standing}
use Rattle.net_builds.specs.declared.handing.Handover.{Handover}
use Rattle.net_builds.specs.declared.telling.Findings.{Findings}
use Rattle.net_builds.specs.declared.telling.Telling.{Telling}

-- the order that a sift of functions of n variables leaves, over one default block and by a limit, where they stood in the order 0, 1, 2, ..
abbrev pub sifted_order : ℕ → ℕ → List (ℕ → Bool) → List ℕ
sifted_order limit n wanted = (sifted (rising_orders n []) Variables (whole_block n) limit (map BddFunction wanted)).order

-- the function is one of these, of n variables
abbrev pub IsOneOf : ℕ → List (ℕ → Bool) → Function → Type 0
IsOneOf n wanted f = (g : ℕ → Bool) × Contains wanted g × (f ≡ Bdd (list_of (2 ^ n) g))

-- names stand for such functions alone
abbrev pub HoldsOnly : ℕ → List (ℕ → Bool) → (Name → Option Function) → Type 0
HoldsOnly n wanted stands = (name : Name) (f : Function) → stands name ≡ Some f → IsOneOf n wanted f

-- All that the session gained was answered Done, which gives no name; or at the place of some call of its own, which posted one of these handovers, its names stood for such functions alone, and from there on all was answered so.
abbrev pub GivesOnly : ℕ → List (ℕ → Bool) → List Handover → Standing → Standing → Type 0
GivesOnly n wanted handovers old new =
    ((gained : List Entry) × (new.entries ≡ old.entries ++ gained) × All (λ (e : Entry). e.reply ≡ replies.Done) gained)
    ⊎ ((note : Note) × Contains new.placed note × Contains (map (λ (h : Handover). h.post) handovers) note.place × ((e : Entry) × Contains new.entries e × (e.place ≡ note.place)) × HoldsOnly n wanted note.stands × All (λ (e : Entry). note.place ≤ e.place → e.reply ≡ replies.Done) new.entries)

-- The wanted functions were built and handed over, then the first session sifted the variables by this limit, and then it told of what it had fetched. At the sift's place each name of it was one that it had fetched, or stood for a wanted function; names of the others stood for wanted functions alone.
pub record BuildsSifted (Tells : List (ℕ → Bool) → List ℕ → Findings → Type 0) (limit cell : ℕ) (wanted : List (ℕ → Bool)) (old new : List Standing) (found : Findings) : Type 0 where
  pub builds : Builds Tells cell wanted old new found
  pub place : ℕ
  pub told : Sifting
  -- what the first session gained: its one sift between calls that leave the orders as they are
  pub low : List Entry
  pub high : List Entry
  pub entries_are : builds.first.entries ≡ builds.before.entries ++ low ++ entry place builds.first.number (calls.Sift told) replies.Done ∷ high
  pub low_keeps : All KeepsOrders low
  pub high_keeps : All KeepsOrders high
  pub others_keep : AreUnsifted builds.others builds.rest
  pub behind : All (λ (h : Handover). h.fetch < place) builds.handovers
  pub above : place < builds.note.place
  -- what its names stood for at the sift's place
  pub sifting : Note
  pub among : Contains builds.first.placed sifting
  pub at_place : sifting.place ≡ place
  pub stood : All (λ (h : Handover). sifting.stands h.to ≡ builds.note.stands h.to) builds.handovers
  pub own : (name : Name) (f : Function) → sifting.stands name ≡ Some f → Contains (map (λ (h : Handover). h.to) builds.handovers) name ⊎ IsOneOf builds.first.vars wanted f
  pub givers : AllZip (GivesOnly builds.first.vars wanted builds.handovers) builds.others builds.rest
  -- its last call before the sift let no row go
  pub ends : (es : List Entry) × (e : Entry) × (builds.before.entries ++ low ≡ es ++ e ∷ []) × ((a : Name) → e.call ≡ calls.DropRow a → ⊥)
  pub sift : IsSiftedBy limit builds.first.vars told

-- In a legal history of sessions that had made no call, what was told behind a sift is told of the wanted functions under the sifted order of these.
abbrev pub ToldSifted : (List (ℕ → Bool) → List ℕ → Findings → Type 0) → ℕ → List (ℕ → Bool) → Type 0
ToldSifted Tells n wanted = (limit : ℕ) (sizes : Sizes) (log : List Entry) (old new : List Standing) (cell : ℕ) (found : Findings)
    → sizes.variables ≡ n → sizes.elements ≡ 0 → All (λ (s : Standing). s.vars ≡ n) new → All (λ (s : Standing). s.entries ≡ []) old
    → IsLegalHistoryOf sizes log new → BuildsSifted Tells limit cell wanted old new found → Tells wanted (sifted_order limit n wanted) found

abbrev pub SiftedTellingsAreTrue : Type 0
SiftedTellingsAreTrue = (n : ℕ) (names : List (List ℕ)) (patterns : List (List Bool)) (telling : Telling) (wanted : List (ℕ → Bool)) → ToldSifted (FindingsOf n names patterns telling) n wanted
