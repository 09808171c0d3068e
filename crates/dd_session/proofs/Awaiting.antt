-- A call of which another try came before the last one.
use Rattle.std.proofs.Common.{◌≡◌, ◌⊎◌, inl, inr, ℕ, ◌+◌, ◌≤◌, max, Bool, true, false, List, [], ◌∷◌, ◌++◌, Contains, Option, Result, Ok, Err, MatchResult, ap, sym, ◌∙◌, subst, arith}
use Rattle.function_laws.specs.declared.history.Call.{Call}
use Rattle.function_laws.specs.declared.history.Call.TheVariants as calls
use Rattle.function_laws.specs.declared.history.Function.{Function}
use Rattle.function_laws.specs.declared.history.Name.{Name}
use Rattle.function_laws.specs.declared.history.Reply.{Reply}
use Rattle.function_laws.specs.declared.making.Making.{Making}
use Rattle.function_laws.specs.Kinds.{Denoted}
use Rattle.function_laws.specs.Makings.{needs_nodes}
use Rattle.function_laws.specs.Sizes.{Orders}
use Rattle.node_store.specs.Views.{View}
use Rattle.operator_calls.specs.declared.unmade.Unmade.{Unmade}
use Rattle.operator_calls.specs.Making.{work}
use Rattle.dd_session.specs.declared.answers.Placed.{Placed}
use Rattle.dd_session.specs.declared.answers.Refusal.{Refusal}
use Rattle.dd_session.specs.declared.answers.Refusal.TheVariants as refusals
use Rattle.dd_session.specs.MadeRows.{Awaits, MakesOrTells, Refuses, TellsRow, by_edges, chooses, with_why}
use Rattle.dd_session.specs.Sessions.{Called, Denies, Seen}
use Rattle.std.proofs.lemmas.List.{append-nil, append_assoc}
use Rattle.function_laws.specs.SessionEntries.{Each}
use Rattle.dd_session.specs.Works.{HadNoTurn, HadTurns, HasRows, IsOfWork, StoresAt, StoresWork}

module _ (old new : Seen) (spare : ℕ) (found stored : List Function) (turns : List (List Function)) (due : Option Function) where
  abbrev mid : Seen
  mid = record old { spare = spare; found = found; stored = stored; turns = turns; due = due }

  called_later : {call : Call} {reply : Reply} {place : ℕ} → Called mid new call reply place → Called old new call reply place
  called_later c = record {
    board = c.board;
    note = c.note;
    place_is = c.place_is;
    rows_noted = c.rows_noted;
    placed_are = c.placed_are;
    step = λ t seen. c.step t (record { grown = seen.grown; live = seen.live; fresh = seen.fresh });
    sizes_are = c.sizes_are;
    more_are = c.more_are;
    entries_are = c.entries_are;
    later = c.later;
    manager_is = c.manager_is;
    number_is = c.number_is;
    adds_are = c.adds_are;
    few = c.few;
    change = c.change;
    rows_are = c.rows_are;
    noted_are = c.noted_are;
  }

  rows_later : (w : View) → HasRows w mid → HasRows w old
  rows_later w has = record { vars = has.vars; elements = has.elements; rows = has.rows }

  work_later : (o : Orders) (Work : View → Denoted → Type 0) (f : Function) → IsOfWork mid o Work f → IsOfWork old o Work f
  work_later o Work f is = (is.0, rows_later is.0 is.1, is.2, is.3)

  module _ (Work : View → Denoted → Type 0) (one : turns ≡ old.turns ++ stored ∷ []) (before : (f : Function) → Contains stored f → (o : Orders) × IsOfWork old o Work f) where
    abbrev IsPart : List Function → Type 0
    IsPart fs = (f : Function) → Contains fs f → (o : Orders) × IsOfWork old o Work f

    parts_later : (lists : List (List Function)) → Each (λ (fs : List Function). (f : Function) → Contains fs f → (o : Orders) × IsOfWork mid o Work f) lists → Each IsPart lists
    parts_later [] all = tt
    parts_later (fs ∷ lists) (here, there) = ((λ f at. let is = here f at in (is.0, work_later is.0 Work f is.1)), parts_later lists there)

    turns_later : HadTurns Work mid new → HadTurns Work old new
    turns_later (earlier, is, all) = (
      stored ∷ earlier,
      is ∙ ap (λ (ts : List (List Function)). ts ++ earlier ++ new.stored ∷ []) one ∙ ap (λ (ts : List (List Function)). ts ++ new.stored ∷ []) (append_assoc old.turns (stored ∷ []) earlier),
      (before, parts_later earlier all),
    )

    stores_later : (place : ℕ) → StoresAt Work mid new place → StoresAt Work old new place
    stores_later place stores = record { note = stores.note; place_is = stores.place_is; placed = stores.placed; turns = turns_later stores.turns; stored = λ f there. work_later _ Work f (stores.stored f there) }

    -- at want of memory
    memory_later : HadNoTurn mid new ⊎ (HadTurns Work mid new × ((f : Function) → Contains new.stored f → (o : Orders) × IsOfWork mid o Work f)) → HadNoTurn old new ⊎ (HadTurns Work old new × ((f : Function) → Contains new.stored f → (o : Orders) × IsOfWork old o Work f))
    memory_later (inl none) = inr (
      ([], none.0 ∙ one ∙ ap (λ (s : List Function). old.turns ++ s ∷ []) (sym none.1) ∙ ap (λ (ts : List (List Function)). ts ++ new.stored ∷ []) (sym (append-nil old.turns)), tt),
      subst (λ (s : List Function). IsPart s) (sym none.1) before,
    )
    memory_later (inr had) = inr (turns_later had.0, λ f at. let is = had.1 f at in (is.0, work_later is.0 Work f is.1))

  denies_later : (call : Call) (refusal : Refusal) → old.spare ≤ spare → Denies mid new call refusal → Denies old new call refusal
  denies_later call refusals.Memory more told = (told.0, (let a = told.1 in omega (arith, a, more)))
  denies_later call (refusals.Full full) more told = (called_later told.0, told.1, told.2)

  refuses_later : (b : Bool) (call : Call) (refusal : Refusal) → old.spare ≤ spare → Refuses b mid new call refusal → Refuses b old new call refusal
  refuses_later true call refusal more told = denies_later call refusal more told
  refuses_later false call refusal more told = (told.0, denies_later call refusal more told.1)

  tells_later : (b : Bool) (call : Call) (r : Result Name Unmade) (place : ℕ) → TellsRow b mid new call r place → TellsRow b old new call r place
  tells_later true call (Ok name) place told = (told.0, called_later told.1)
  tells_later true call (Err why) place told = called_later told
  tells_later false call r place told = called_later told

  module _ (making : Making Name (List ℕ) (List (ℕ × Name))) (room : spare ≡ max old.spare 1) (one : turns ≡ old.turns ++ stored ∷ []) (before : (f : Function) → Contains stored f → (o : Orders) × IsOfWork old o (work (by_edges old.rows making)) f) where
    abbrev Work : View → Denoted → Type 0
    Work = work (by_edges old.rows making)

    told_later : (r : Result (Placed (Result Name Unmade)) Refusal) → MatchResult r (λ placed. TellsRow (chooses making) mid new (calls.Makes making) (with_why (λ why. why) placed.value) placed.place) (Refuses (needs_nodes making) mid new (calls.Makes making))
        → MatchResult r (λ placed. TellsRow (chooses making) old new (calls.Makes making) (with_why (λ why. why) placed.value) placed.place) (Refuses (needs_nodes making) old new (calls.Makes making))
    told_later (Ok placed) told = tells_later (chooses making) (calls.Makes making) (with_why (λ why. why) placed.value) placed.place told
    told_later (Err refusal) told = refuses_later (needs_nodes making) (calls.Makes making) refusal (omega (arith, room)) told

    stored_later : (r : Result (Placed (Result Name Unmade)) Refusal) → StoresWork Work mid new r → StoresWork Work old new r
    unfolding stores_later
    stored_later (Ok placed) stores = stores_later Work one before placed.place stores
    stored_later (Err refusals.Memory) stores = memory_later Work one before stores
    stored_later (Err (refusals.Full full)) stores = (
      stores_later Work one before full.place stores.0,
      (let d = stores.1 in record {
        function = d.function;
        is = d.is;
        swept = d.swept;
        sweep = record { before = d.sweep.before; after = d.sweep.after; seen = d.sweep.seen; has = rows_later d.sweep.seen d.sweep.has; same = d.sweep.same; is_swept = d.sweep.is_swept };
        view = d.view;
        has = rows_later d.view d.has;
        ordered = d.ordered;
        same = d.same;
        work = d.work;
      }),
    )

    spare_later : (r : Result (Placed (Result Name Unmade)) Refusal) → MatchResult r (λ placed. MatchResult placed.value (λ name. new.spare + 1 ≡ max spare 1) (λ _. new.spare ≡ max spare 1)) (λ refusal. spare ≤ new.spare)
        → MatchResult r (λ placed. MatchResult placed.value (λ name. new.spare + 1 ≡ max old.spare 1) (λ _. new.spare ≡ max old.spare 1)) (λ refusal. old.spare ≤ new.spare)
    spare_later (Ok placed) left = by placed.value left
      where
        by : (v : Result Name Unmade) → MatchResult v (λ name. new.spare + 1 ≡ max spare 1) (λ _. new.spare ≡ max spare 1) → MatchResult v (λ name. new.spare + 1 ≡ max old.spare 1) (λ _. new.spare ≡ max old.spare 1)
        by (Ok name) left = omega (arith, left, room)
        by (Err why) left = omega (arith, left, room)
    spare_later (Err refusal) left = omega (arith, left, room)

    makes_mid : (r : Result (Placed (Result Name Unmade)) Refusal) → MakesOrTells mid new making r → MakesOrTells old new making r
    makes_mid r made = record { told = told_later r made.told; may = made.may; stored = stored_later r made.stored; spare = spare_later r made.spare }

pub makes_later : (old mid new : Seen) (making : Making Name (List ℕ) (List (ℕ × Name))) (r : Result (Placed (Result Name Unmade)) Refusal) → Awaits (work (by_edges old.rows making)) old mid → MakesOrTells mid new making r → MakesOrTells old new making r
makes_later old mid new making r awaits made =
    makes_mid old new mid.spare mid.found mid.stored mid.turns mid.due making awaits.1 awaits.3 awaits.2 r (subst (λ (s : Seen). MakesOrTells s new making r) awaits.0.0 made)
