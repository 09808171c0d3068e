-- What a session makes of a stored diagram, and tells of it.
use Rattle.std.specs.Prelude.{◌≡◌, ℕ, ◌+◌, ◌*◌, ◌≤◌, Bool, not, List, [], ◌∷◌, ◌++◌, All, Option, Some, None, Result, IfErr, IfOk, length, map, replicate, slice_get, vec_capacity, if◌then◌else◌}
use Rattle.std.specs.List.{range_with_len}
use Rattle.std.specs.Global.{Vec}
use Rattle.edge_bits.specs.declared.limits.TheConstants.{MOST_ROWS}
use Rattle.dddmp_text.specs.Bounds.{IsBounded}
use Rattle.diagram_dumps.specs.declared.dump.Dump.{Dump}
use Rattle.diagram_dumps.specs.Dumps.{line_value}
use Rattle.function_laws.specs.declared.history.Entry.{Entry}
use Rattle.function_laws.specs.declared.history.Name.{Name}
use Rattle.function_laws.specs.Tables.{Sizes}
use Rattle.function_laws.specs.Values.{negation}
use Rattle.net_reports.specs.Reports.{dump_subject, IsReport}
use Rattle.net_reports.specs.RootClasses.{root_functions}
use Rattle.net_builds.specs.Builds.{AreUnsifted, IsLegalHistoryOf}
use Rattle.net_builds.specs.Building.{row_at}
use Rattle.net_builds.specs.Holdings.{AreRising, names_in}
use Rattle.net_builds.specs.Outputs.{IsFullTold}
use Rattle.net_builds.specs.Standings.{HasRoom, Holds, IsCaused, IsLive, IsQuiet, Note, Standing, Works, values_of}
use Rattle.net_builds.specs.declared.host.HostRefusal.{HostRefusal}
use Rattle.net_builds.specs.declared.loading.Rows.{Rows}

-- the function, or its complement
abbrev pub turned_if : Bool → (ℕ → Bool) → ℕ → Bool
turned_if complemented f k = if complemented then not (f k) else f k

-- These names are live, each given after those before it, and no further row is.
pub record IsStack (s : Standing) (made : List Name) : Type 0 where
  pub live : All (IsLive s) made
  pub rising : AreRising made
  pub counted : s.rows ≤ length made

-- the first names, up to the number of the lines and one, stand for the functions of the indices from 1 on
abbrev pub HoldLines : Standing → Dump → List Name → Type 0
HoldLines s dump made = (place : ℕ) (name : Name) → place ≤ length dump.nodes → slice_get made place ≡ Some name → Holds s name (line_value dump (place + 1))

-- All lines have rows, and some indices have one for the complement: it stands behind those of the lines.
pub record IsTurned (s : Standing) (dump : Dump) (made : List Name) (turned : List (Option Name)) : Type 0 where
  pub stack : IsStack s made
  pub lines : HoldLines s dump made
  pub wide : length turned ≡ length dump.nodes + 2
  pub long : length made ≡ length dump.nodes + 1 + length (names_in turned)
  pub complements : (index : ℕ) (name : Name) → row_at turned index ≡ Some name → Holds s name (negation (line_value dump index))

module _ {M S : Type 0} (has : M → S → Type 0) (standing : S → Standing) (manager : M) (session : S) (dump : Dump) where
  -- the session has one variable for each of the diagram's and no live row, and may have rows for the lines and as many complements
  pub record MayLoad : Type 0 where
    pub own : has manager session
    pub bounded : IsBounded dump
    pub vars : (standing session).vars ≡ dump.nvars
    pub none : (standing session).rows ≡ 0
    pub few : 2 * length dump.nodes + 6 ≤ MOST_ROWS

  -- the session has made the diagram's lines, and complements of some
  pub record MayTurn (made : List Name) (turned : List (Option Name)) : Type 0 where
    pub own : has manager session
    pub bounded : IsBounded dump
    pub few : 2 * length dump.nodes + 6 ≤ MOST_ROWS
    pub turned_are : IsTurned (standing session) dump made turned

-- What is left while a stored diagram is made: the rows are noted, also where a call was refused.
pub record StaysMade {M S F X : Type 0} (has : M → S → Type 0) (standing : S → Standing) (tells : M → F → Entry → Type 0) (manager : M) (old new : S) (made : List Name) (result : Result X (HostRefusal F)) : Type 0 where
  pub own : has manager new
  pub works : Works (standing old) (standing new)
  pub room : HasRoom (standing new)
  pub stack : IsStack (standing new) made
  pub caused : IfErr result (IsCaused (tells manager) works.gained)

-- Names stood for the functions of the diagram's roots at the place of a note, behind the earlier notes, and the text is the report of the roots under the order that was noted there.
pub record IsReportNoted (dump : Dump) (patterns : List (List Bool)) (old new : Standing) (text : List ℕ) : Type 0 where
  pub note : Note
  pub noted : new.notes ≡ old.notes ++ note ∷ []
  pub names : List Name
  pub stand : map note.stands names ≡ map (values_of new.vars) (root_functions dump)
  pub reports : IsReport (dump_subject dump note.order patterns) text

-- What is left where a diagram was made and its report was told, or that was refused: the rows are noted.
pub record LoadsUp {F : Type 0} (tells : F → Entry → Type 0) (dump : Dump) (patterns : List (List Bool)) (old new : Standing) (made : List Name) (result : Result (Vec ℕ) (HostRefusal F)) : Type 0 where
  pub vars_are : new.vars ≡ old.vars
  pub number_is : new.number ≡ old.number
  pub gained : List Entry
  pub entries_are : new.entries ≡ old.entries ++ gained
  pub quiet : All IsQuiet gained
  pub room : HasRoom new
  pub stack : IsStack new made
  pub told : IfOk result (λ text. IsReportNoted dump patterns old new text.items)
  pub full : IfErr result (IsFullTold tells old new gained)

-- What a session made of a stored diagram and told: the report of its roots. Its calls add no variable and post to no cell.
pub record Loads (dump : Dump) (patterns : List (List Bool)) (old new : Standing) (text : List ℕ) : Type 0 where
  pub vars_are : new.vars ≡ old.vars
  pub number_is : new.number ≡ old.number
  pub gained : List Entry
  pub entries_are : new.entries ≡ old.entries ++ gained
  pub quiet : All IsQuiet gained
  pub told : IsReportNoted dump patterns old new text

-- the memory of a making whose first call is not made
pub record IsRoomFor (dump : Dump) (rows : Rows) : Type 0 where
  pub none : rows.made.items ≡ []
  pub room : 2 * length dump.nodes + 3 ≤ vec_capacity rows.made
  pub unturned : rows.turned.items ≡ replicate (length dump.nodes + 2) None
  pub unnamed : rows.names.items ≡ []
  pub place : length dump.roots ≤ vec_capacity rows.names

-- where a session that had made no call told so, without a swap or a sift, it is the report under the order 0, 1, 2, ..
abbrev pub LoadsAreTrue : Type 0
LoadsAreTrue = (dump : Dump) (patterns : List (List Bool)) (sizes : Sizes) (log : List Entry) (old new : Standing) (text : List ℕ)
    → sizes.variables ≡ dump.nvars → old.entries ≡ [] → AreUnsifted (old ∷ []) (new ∷ []) → IsLegalHistoryOf sizes log (new ∷ [])
    → Loads dump patterns old new text → IsReport (dump_subject dump (range_with_len 0 dump.nvars) patterns) text
