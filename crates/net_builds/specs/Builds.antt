-- What sessions build, hand over and report.
use Rattle.std.specs.Prelude.{◌≡◌, ℕ, ◌<◌, Bool, List, [], ◌∷◌, ◌++◌, All, drop, length, map, take}
use Rattle.std.specs.List.{range_with_len}
use Rattle.cover_nets.specs.declared.net.Net.{Net}
use Rattle.function_laws.specs.declared.history.Entry.{Entry}
use Rattle.function_laws.specs.declared.history.Name.{Name}
use Rattle.function_laws.specs.EntryOrders.{EachWith, opening_orders, orders_from}
use Rattle.function_laws.specs.Histories.{IsLegal, table_after}
use Rattle.function_laws.specs.SessionEntries.{entries_of}
use Rattle.function_laws.specs.Tables.{Sizes, opening}
use Rattle.seat_guard.specs.Finds.{Finds}
use Rattle.seat_guard.specs.Sifted.{ArePlaced, IsHadAt}
use Rattle.diagram_dumps.specs.Listings.{IsListing}
use Rattle.net_reports.specs.Reports.{IsReport, IsSummary, Subject, output_names, root_names}
pub use Rattle.net_builds.specs.Handings.{AllHandedOver, IsDelivered}
use Rattle.net_builds.specs.Handings.{AreInTurn, IsKnown}
use Rattle.net_builds.specs.Standings.{KeepsOrders, Note, Standing, values_of}
use Rattle.net_builds.specs.declared.handing.Handover.{Handover}
use Rattle.net_builds.specs.declared.telling.Findings.{Findings}
use Rattle.net_builds.specs.declared.telling.Reported.{Reported}
use Rattle.net_builds.specs.declared.telling.Reported.TheVariants.{Diagram, Network}
use Rattle.net_builds.specs.declared.telling.Telling.{Telling}
use Rattle.net_builds.specs.declared.telling.Telling.TheVariants.{Report, Summary}

-- Each session gained entries that add no variable and no element, and those that post to the cell are of these handovers.
abbrev pub AllGain : ℕ → List Handover → List Standing → List Standing → Type 0
AllGain cell handovers [] [] = Unit {0}
AllGain cell handovers (a ∷ old) (b ∷ new) =
    (gained : List Entry) × (b.entries ≡ a.entries ++ gained) × All (IsKnown cell handovers) gained × (b.vars ≡ a.vars) × (b.number ≡ a.number) × AllGain cell handovers old new
AllGain cell handovers _ _ = ⊥

-- What is told of functions that the first session fetched, in place of the wanted ones, as they stood at the place of its last note, above all fetches: under the order that it noted there, behind its earlier notes.
pub record Builds (Tells : List (ℕ → Bool) → List ℕ → Findings → Type 0) (cell : ℕ) (wanted : List (ℕ → Bool)) (old new : List Standing) (found : Findings) : Type 0 where
  pub handovers : List Handover
  pub before : Standing
  pub others : List Standing
  pub old_is : old ≡ before ∷ others
  pub first : Standing
  pub rest : List Standing
  pub new_is : new ≡ first ∷ rest
  pub handed : AllHandedOver cell wanted new first handovers
  pub turns : AreInTurn 0 handovers
  pub gains : AllGain cell handovers old new
  pub note : Note
  pub noted : first.notes ≡ before.notes ++ note ∷ []
  pub functions : List (ℕ → Bool)
  pub later : All (λ h. h.fetch < note.place) handovers
  pub stand : map note.stands (map (λ h. h.to) handovers) ≡ map (values_of first.vars) functions
  pub tells : Tells functions note.order found

-- what is due of a subject
abbrev pub IsAs : Telling → Subject → List ℕ → Type 0
IsAs Report = IsReport
IsAs Summary = IsSummary

-- of functions of n variables, which have these names, under the order, with their values at these patterns
abbrev pub TellingOf : ℕ → List (List ℕ) → List (List Bool) → Telling → List (ℕ → Bool) → List ℕ → List ℕ → Type 0
TellingOf n names patterns telling functions order text = IsAs telling (record { n = n; names = names; functions = functions; order = order; patterns = patterns }) text

-- What was found of a subject: what is due of it, and the listing of its functions under its order.
pub record IsFound (telling : Telling) (subject : Subject) (found : Findings) : Type 0 where
  pub told : IsAs telling subject found.text.items
  pub listed : IsListing subject.order subject.functions found.listing

-- of functions of n variables, as above
abbrev pub FindingsOf : ℕ → List (List ℕ) → List (List Bool) → Telling → List (ℕ → Bool) → List ℕ → Findings → Type 0
FindingsOf n names patterns telling functions order found = IsFound telling (record { n = n; names = names; functions = functions; order = order; patterns = patterns }) found

-- of a network, with its outputs' functions or others in their place
abbrev pub FindsOf : Net → List (List Bool) → Telling → List (ℕ → Bool) → List ℕ → Findings → Type 0
FindsOf net = FindingsOf (length net.inputs) (output_names net)

-- the variables and the names of what is reported
abbrev pub inputs_of : Reported → ℕ
inputs_of (Network net) = length net.now.inputs
inputs_of (Diagram dump) = dump.now.nvars

abbrev pub names_of : Reported → List (List ℕ)
names_of (Network net) = output_names net.now
names_of (Diagram dump) = root_names (length dump.now.roots)

-- what the session noted at a place is what the entries below it leave: the order of the variables, and what its names stand for
pub record IsNoted (sizes : Sizes) (log : List Entry) (session : ℕ) (note : Note) : Type 0 where
  pub order_is : (orders_from (opening_orders sizes) (take note.place log)).variables ≡ note.order
  pub rows : (name : Name) → (table_after (opening sizes) (take note.place log)).live session name ≡ note.stands name

-- The entries are a legal history of these sessions, which had made no call, and what they noted, at their listings and at their calls, is what the entries below its place leave.
pub record IsLegalHistoryOf (sizes : Sizes) (log : List Entry) (sessions : List Standing) : Type 0 where
  pub legal : IsLegal sizes log
  -- a sift's entry carries both orders as the entries below it leave them, functions of which no two are one, and among them those of its session's rows
  pub found : EachWith Finds (opening sizes) (opening_orders sizes) log
  -- and each of them was, at a place above its session's entry before it and at most its own, that of a row or a cell, or had just gone, or was about to come
  pub had : ArePlaced (IsHadAt sizes log) log
  pub each : All (λ (s : Standing). entries_of s.number log ≡ s.entries) sessions
  pub noted : All (λ (s : Standing). All (IsNoted sizes log s.number) s.notes) sessions
  pub placed : All (λ (s : Standing). All (IsNoted sizes log s.number) s.placed) sessions
  pub no_other : (p : ℕ) → All (λ (s : Standing). s.number ≡ p → ⊥) sessions → entries_of p log ≡ []

-- What was told is told of the wanted functions of n variables themselves, under the order that was noted; and this is the order that the entries below the note's place leave.
abbrev pub ToldTrue : (List (ℕ → Bool) → List ℕ → Findings → Type 0) → ℕ → List (ℕ → Bool) → Type 0
ToldTrue Tells n wanted = (sizes : Sizes) (log : List Entry) (old new : List Standing) (cell : ℕ) (found : Findings)
    → All (λ (s : Standing). s.vars ≡ n) new → All (λ (s : Standing). s.entries ≡ []) old
    → IsLegalHistoryOf sizes log new → (built : Builds Tells cell wanted old new found)
    → Tells wanted built.note.order found × ((orders_from (opening_orders sizes) (take built.note.place log)).variables ≡ built.note.order)

-- what each session gained leaves the orders as they are
abbrev pub AreUnsifted : List Standing → List Standing → Type 0
AreUnsifted [] [] = Unit {0}
AreUnsifted (a ∷ old) (b ∷ new) = All KeepsOrders (drop (length a.entries) b.entries) × AreUnsifted old new
AreUnsifted _ _ = ⊥

-- Where the sessions left the orders as they are, it is told under the order 0, 1, 2, ..
abbrev pub ToldUnsifted : (List (ℕ → Bool) → List ℕ → Findings → Type 0) → ℕ → List (ℕ → Bool) → Type 0
ToldUnsifted Tells n wanted = (sizes : Sizes) (log : List Entry) (old new : List Standing) (cell : ℕ) (found : Findings)
    → sizes.variables ≡ n → All (λ (s : Standing). s.vars ≡ n) new → All (λ (s : Standing). s.entries ≡ []) old → AreUnsifted old new
    → IsLegalHistoryOf sizes log new → Builds Tells cell wanted old new found → Tells wanted (range_with_len 0 n) found

-- what was told of fetched functions is told of the wanted functions
abbrev pub TellingsAreTrue : Type 0
TellingsAreTrue = (n : ℕ) (names : List (List ℕ)) (patterns : List (List Bool)) (telling : Telling) (wanted : List (ℕ → Bool)) → ToldTrue (FindingsOf n names patterns telling) n wanted

abbrev pub UnsiftedTellingsAreTrue : Type 0
UnsiftedTellingsAreTrue = (n : ℕ) (names : List (List ℕ)) (patterns : List (List Bool)) (telling : Telling) (wanted : List (ℕ → Bool)) → ToldUnsifted (FindingsOf n names patterns telling) n wanted
