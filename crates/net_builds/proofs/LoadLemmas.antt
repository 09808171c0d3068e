-- What is left where a stored diagram was made and told of.
use Rattle.std.proofs.Common.{◌≡◌, ℕ, Bool, List, [], ◌∷◌, ◌++◌, Result, IfErr, IfOk, length, map, drop, append_assoc, append-nil, ap, sym, subst, ◌∙◌, arith, All}
use Rattle.std.specs.Global.{Vec}
use Rattle.std.proofs.Math.Seq.{drop-append_seam}
use Rattle.std.proofs.lemmas.List.Elements.{All-append, All-nil, All-weaker, Contains-append_left}
use Rattle.diagram_dumps.specs.declared.dump.Dump.{Dump}
use Rattle.function_laws.specs.declared.history.Entry.{Entry}
use Rattle.function_laws.specs.declared.history.Name.{Name}
use Rattle.net_reports.specs.Reports.{root_names}
use Rattle.net_reports.specs.RootClasses.{root_functions}
use Rattle.net_builds.specs.Builds.{AreUnsifted, FindingsOf}
use Rattle.net_builds.specs.Handings.{IsTold, IsWithin, Looks}
use Rattle.net_builds.specs.Holdings.{LetsAllGo}
use Rattle.net_builds.specs.Loads.{IsReportNoted, IsStack, Loads, LoadsUp}
use Rattle.net_builds.specs.Outputs.{IsFullTold, IsRefused}
use Rattle.net_builds.specs.Signals.{AllHold}
use Rattle.net_builds.specs.Standings.{HasRoom, IsQuiet, KeepsOrders, Note, Standing, Works, values_of}
use Rattle.net_builds.specs.declared.host.HostRefusal.{HostRefusal}
use Rattle.net_builds.specs.declared.host.HostRefusal.TheVariants as stops
use Rattle.net_builds.specs.declared.telling.Findings.{Findings}
use Rattle.net_builds.specs.declared.telling.Telling.TheVariants.{Report}
use Rattle.net_builds.proofs.BackLemmas.{err_weaker, ok_weaker}
use Rattle.net_builds.proofs.Mapped.{map_same}
use Rattle.net_builds.proofs.Passing.{quiet_within}
use Rattle.net_builds.proofs.SameReports.{report_same}
use Rattle.net_builds.proofs.StackLemmas.{all_stand, stack_same}
use Rattle.net_builds.proofs.ToldLaws.{stand_same}

-- a session that gained calls which swap and sift nothing left the orders as they are
pub unsifted_gained : (old new : Standing) (gained : List Entry) → new.entries ≡ old.entries ++ gained → All IsQuiet gained → AreUnsifted (old ∷ []) (new ∷ [])
unsifted_gained old new gained is quiet =
    (subst (All KeepsOrders) (sym (ap (drop (length old.entries)) is ∙ drop-append_seam old.entries gained)) (All-weaker IsQuiet KeepsOrders (λ e q. q.keeps) gained quiet), tt)

pub unsifted_still : (s : Standing) → AreUnsifted (s ∷ []) (s ∷ [])
unsifted_still s = unsifted_gained s s [] (sym (append-nil s.entries)) (All-nil IsQuiet)

module _ {F : Type 0} (tells : F → Entry → Type 0) (dump : Dump) (patterns : List (List Bool)) where
  -- the diagram was made, and told of or not
  pub loads_up : (old mid new : Standing) (made : List Name) (result : Result (Vec ℕ) (HostRefusal F)) → Works old mid → HasRoom mid → IsStack mid made → Looks mid new
      → IfOk result (λ text. IsReportNoted dump patterns old new text.items) → ((gained : List Entry) → IfErr result (IsFullTold tells old new gained)) → LoadsUp tells dump patterns old new made result
  loads_up old mid new made result works room stack looks told full = record {
    vars_are = looks.vars_are ∙ works.vars_are;
    number_is = looks.number_is ∙ works.number_is;
    gained = works.gained ++ looks.gained;
    entries_are = looks.entries_are ∙ ap (λ (es : List Entry). es ++ looks.gained) works.entries_are ∙ append_assoc old.entries works.gained looks.gained;
    quiet = All-append IsQuiet works.gained looks.gained works.each looks.quiet;
    room = omega (arith, room, looks.rows);
    stack = stack_same mid new looks.more (λ other below. looks.kept other) made looks.rows stack;
    told = told;
    full = full (works.gained ++ looks.gained);
  }

  -- what was told of names that stand for the roots' functions is the report of the roots
  pub report_noted : (old mid new : Standing) (names : List Name) (found : Findings) → Works old mid → mid.vars ≡ dump.nvars → AllHold mid (root_functions dump) names
      → IsTold (FindingsOf dump.nvars (root_names (length dump.roots)) patterns Report) mid new names found → IsReportNoted dump patterns old new found.text.items
  report_noted old mid new names found works vars hold told =
      let note : Note = told.note in
      let roots = root_functions dump in
      let stands : map note.stands names ≡ map (values_of mid.vars) roots = map_same note.stands mid.stands told.stood names ∙ all_stand mid roots names hold in
      let wide : new.vars ≡ dump.nvars = told.looks.vars_are ∙ vars in
      record {
        note = note;
        noted = told.notes_are ∙ ap (λ (notes : List Note). notes ++ note ∷ []) works.notes_are;
        names = names;
        stand = stands ∙ ap (λ n. map (values_of n) roots) (sym told.looks.vars_are);
        reports = report_same dump.nvars (root_names (length dump.roots)) patterns told.functions roots
            (stand_same dump.nvars note.stands names told.functions roots (told.stand ∙ ap (λ n. map (values_of n) told.functions) wide) (stands ∙ ap (λ n. map (values_of n) roots) vars)) note.order found.text.items told.tells.told;
      }

  -- and then all rows were let go
  module _ (old late new : Standing) (made : List Name) (result : Result (Vec ℕ) (HostRefusal F)) (loads : LoadsUp tells dump patterns old late made result) (gone : LetsAllGo late new made) where
    abbrev all : List Entry
    all = loads.gained ++ gone.works.gained

    all_gained : new.entries ≡ old.entries ++ all
    all_gained = gone.works.entries_are ∙ ap (λ (es : List Entry). es ++ gone.works.gained) loads.entries_are ∙ append_assoc old.entries loads.gained gone.works.gained

    all_quiet : All IsQuiet all
    all_quiet = All-append IsQuiet loads.gained gone.works.gained loads.quiet gone.works.each

    pub loads_told : IfOk result (λ text. Loads dump patterns old new text.items)
    loads_told = ok_weaker (λ (text : Vec ℕ). IsReportNoted dump patterns old late text.items) (λ (text : Vec ℕ). Loads dump patterns old new text.items)
        (λ text told. record {
          vars_are = gone.works.vars_are ∙ loads.vars_are;
          number_is = gone.works.number_is ∙ loads.number_is;
          gained = all;
          entries_are = all_gained;
          quiet = all_quiet;
          told = record {
            note = told.note;
            noted = gone.works.notes_are ∙ told.noted;
            names = told.names;
            stand = told.stand ∙ ap (λ n. map (values_of n) (root_functions dump)) (sym gone.works.vars_are);
            reports = told.reports;
          };
        }) result loads.told

    pub loads_none : new.rows ≡ 0
    loads_none = omega (arith, gone.rows, loads.stack.counted)

    pub loads_unsifted : AreUnsifted (old ∷ []) (new ∷ [])
    loads_unsifted = unsifted_gained old new all all_gained all_quiet

    pub loads_refused : IfErr result (λ refusal. (cell : ℕ) → IsRefused tells cell old new refusal)
    loads_refused = err_weaker (IsFullTold tells old late loads.gained) (λ refusal. (cell : ℕ) → IsRefused tells cell old new refusal)
        (λ refusal full cell. record {
          vars_are = gone.works.vars_are ∙ loads.vars_are;
          number_is = gone.works.number_is ∙ loads.number_is;
          gained = all;
          entries_are = all_gained;
          within = All-weaker IsQuiet (IsWithin cell) (quiet_within cell) all all_quiet;
          full = by refusal full;
          none = loads_none;
        }) result loads.full
      where
        by : (refusal : HostRefusal F) → IsFullTold tells old late loads.gained refusal → IsFullTold tells old new all refusal
        by stops.Memory full = tt
        by (stops.Full told) (quiet, notes, (e, among, is)) = (all_quiet, gone.works.notes_are ∙ notes, (e, Contains-append_left loads.gained gone.works.gained e among, is))
