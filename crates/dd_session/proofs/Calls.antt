-- What a call is for its caller.
use Rattle.std.proofs.Common.{◌≡◌, ◌⊎◌, inl, inr, ℕ, suc, ◌+◌, ◌≤◌, ◌^◌, Bool, true, false, cond, List, [], ◌∷◌, ◌++◌, length, max, Contains, Option, Some, Result, Ok, Err, MatchResult, OnOk, refl, ap, sym, subst, ◌∙◌, arith, true≢false}
use Rattle.std.proofs.Math.Nat.{zero-add}
use Rattle.std.proofs.lemmas.List.{append-nil}
use Rattle.dd_session.proofs.Turning.{had_turn}
use Rattle.edge_bits.specs.declared.limits.TheConstants.{CELLS}
use Rattle.atomic_table.specs.Seated.{TableId}
use Rattle.std.specs.Result.{is_err}
use Rattle.edge_bits.specs.declared.edges.Edge.{Edge}
use Rattle.edge_bits.specs.declared.lists.Memory.{Memory}
use Rattle.edge_bits.specs.declared.edges.Kind.{Kind}
use Rattle.edge_bits.specs.declared.edges.Kind.TheVariants as kinds
use Rattle.function_laws.specs.declared.history.Function.{Function}
use Rattle.function_laws.specs.declared.history.Function.TheVariants.{Bdd, Add, Zdd}
use Rattle.function_laws.specs.Lists.{list_of}
use Rattle.function_laws.specs.declared.history.Call.{Call}
use Rattle.function_laws.specs.declared.history.Reply.{Reply}
use Rattle.function_laws.specs.declared.history.Reply.TheVariants as replies
use Rattle.function_laws.specs.declared.history.Name.{Name}
use Rattle.function_laws.specs.Kinds.{Denoted, ValueOf}
use Rattle.function_laws.specs.Outcomes.{Outcome}
use Rattle.function_laws.specs.Steps.{outcome, TellsFull}
use Rattle.function_laws.specs.Sizes.{Orders}
use Rattle.function_laws.specs.Tables.{Sizes, Table, same_name}
use Rattle.handle_count.specs.RowMaps.{RowMap}
use Rattle.node_store.specs.declared.grow.Stop.{Stop}
use Rattle.node_store.specs.Listed.{listed, listed_at}
use Rattle.node_store.specs.Views.{View, Denotes, Grown}
use Rattle.node_store.specs.ViewLaws.{values_at-is}
use Rattle.seat_guard.specs.declared.seat.Guard.{Guard}
use Rattle.seat_guard.specs.declared.seat.Pass.{Pass}
use Rattle.seat_guard.specs.declared.seat.Rest.{Rest}
use Rattle.seat_guard.specs.declared.view.Change.{Change}
use Rattle.seat_guard.specs.declared.view.Change.TheVariants.{Nothing, Adds, Takes, Posts}
use Rattle.seat_guard.specs.declared.view.Counts.{Counts}
use Rattle.seat_guard.specs.declared.view.Draws.{Draws}
use Rattle.seat_guard.specs.declared.view.Held.{Held}
use Rattle.seat_guard.specs.declared.view.Leaving.{Leaving}
use Rattle.seat_guard.specs.declared.view.Row.{Row}
use Rattle.seat_guard.specs.declared.view.Telling.{Telling}
use Rattle.seat_guard.specs.Passes.{IsPassOf, known, resting}
use Rattle.seat_guard.specs.Turn.{KeepsRows}
use Rattle.seat_guard.specs.Notes.{orders_in}
use Rattle.seat_guard.specs.Views.{Agrees, sizes_for, adds_after, cell_at, holding, letting_go, note_of, rows_after, told_of, without}
use Rattle.shared_store.specs.declared.shared.Shared.{Shared}
use Rattle.shared_store.specs.Sharing.{Serving, board, counts, functions, keeps, orders, view_of}
use Rattle.shared_store.proofs.Lasting.{serves-grown}
use Rattle.shared_store.specs.Storing.{IsLeaving, IsListedWork}
use Rattle.shared_store.proofs.Storing.{stored-only}
use Rattle.dd_session.specs.declared.answers.Full.{Full}
use Rattle.dd_session.specs.declared.answers.Placed.{Placed}
use Rattle.dd_session.specs.declared.answers.Refusal.{Refusal}
use Rattle.dd_session.specs.declared.answers.Refusal.TheVariants as refusals
use Rattle.dd_session.specs.declared.book.Book.{Book}
use Rattle.dd_session.specs.Sessions.{Called, Denies, IsAsBefore, Managed, Seen, fulls_in, known_sizes, reply_unmade}
use Rattle.node_slots.specs.Stores.{IsStore}
use Rattle.node_slots.proofs.Settling.{level_same}
use Rattle.dd_session.specs.Works.{HadTurns, HasRows, IsOfWork, IsOrderedBy, StoresAt, StoresWork}
use Rattle.dd_session.specs.MadeRows.{Refuses, TellsRow, adding_by, with_why}
use Rattle.operator_calls.specs.declared.unmade.Unmade.{Unmade}
use Rattle.std.specs.Prelude.{IsErrOf, IsTrue}
use Rattle.node_store.specs.declared.grow.Stop.TheVariants as stop
use Rattle.dd_session.specs.Turns.{Gives, IsAdded, IsCausedBy, IsRefused, IsSeatOf, IsSmall, IsWorkFor, Notes, Ran, Stands, Tied, Told, Took, Tried, managed_by, names_by, seen_by, seen_of}
use Rattle.node_slots.specs.Wholes.{content_view}
use Rattle.dd_session.proofs.Sweepings.{swept_beside}
use Rattle.dd_session.proofs.Tying.{tied_room, tied_same}

-- from what a taking of the turn tells
pub took_of : {d e : Draws} {x : Shared} {c : Counts} → (others : List Held) × (e ≡ holding d (board x) others (orders x) (functions x)) × Serving x e c → length (board x) ≡ CELLS → Took d e x
took_of {c = c} took many = record { others = took.0; is = took.1; counts = c; serves = took.2; many = many }

-- a session's seat is seen as the session
pub seat_of : {s : Seen} (p : Pass Shared) (book : Book) → seen_of p book ≡ s → IsSeatOf s (known p)
seat_of p book is = record { table = p.seat.table_id; spare = book.rows.spare; is = sym is }

-- its pass is one of its manager
pub same_table : {s : Seen} {m : Managed} (g : Guard Shared) (r : Rest Shared) (p : Pass Shared) (book : Book) → seen_of p book ≡ s → s.manager ≡ m → managed_by g.table.shared.table_id (resting r) ≡ m → IsPassOf g p
same_table g r p book seen own managed = ap (λ (s : Seen). s.manager.table) seen ∙ ap (λ (m : Managed). m.table) own ∙ sym (ap (λ (m : Managed). m.table) managed)

-- a table that agrees with the one who has the turn agreed before
pub agrees_before : (d e : Draws) (x : Shared) → Took d e x → d.holds ≡ false → (t : Table) → Agrees e t → Agrees d t
agrees_before d e x took idle t agrees = by (subst (λ (z : Draws). Agrees z t) took.is agrees)
  where
    by : Agrees (holding d (board x) took.others (orders x) (functions x)) t → Agrees d t
    by a = record { sizes_are = a.sizes_are; live = a.live; fresh = a.fresh; cells = λ h. absurd (true≢false (sym h ∙ idle)) }

pub session-same : (d e : Draws) (x : Shared) → Took d e x → e.session ≡ d.session
session-same d e x took = ap (λ (z : Draws). z.session) took.is

pub gives_held : (d e : Draws) (x : Shared) (call : Call) (o : Outcome) → Took d e x → d.holds ≡ false → Gives d call o → Gives e call o
gives_held d e x call o took idle gives t agrees =
    subst (λ (s : ℕ). outcome t s call ≡ Some o) (sym (session-same d e x took)) (gives t (agrees_before d e x took idle t agrees))

-- a store is small
pub small_store : (x : Shared) → IsStore x.store → IsSmall (view_of x)
small_store x of = (of.few_variables, of.few_elements)

-- each store that serves the seat that took the turn has its rows
pub stands_of : (d e : Draws) (c : Counts) (x y : Shared) → Took d e x → Serving y e c → Stands (view_of y) d
stands_of d e c x y took serves = record {
  rows_kept = subst (KeepsRows keeps board counts orders y) (ap (λ (z : Draws). z.rows) took.is) serves.rows_kept;
  counts_are = serves.counts_are ∙ (λ i. ((took.is i).vars, (took.is i).elements, (took.is i).slots));
}

-- and the orders that it knows
orders_of_taken : (d e : Draws) (c : Counts) (x y : Shared) → Took d e x → Serving y e c → orders y ≡ orders x
orders_of_taken d e c x y took serves = serves.orders_are ∙ sym took.serves.orders_are

pub stands_taken : (d e : Draws) (x : Shared) → Took d e x → Stands (view_of x) d
stands_taken d e x took = record {
  rows_kept = subst (KeepsRows keeps board counts orders x) (ap (λ (z : Draws). z.rows) took.is) took.serves.rows_kept;
  counts_are = took.serves.counts_are ∙ (λ i. ((took.is i).vars, (took.is i).elements, (took.is i).slots));
}

-- a session knows as many variables and elements as its seat
pub seen_sizes : (table : TableId) (d : Draws) (spare : ℕ) → known_sizes (seen_by table d spare) ≡ sizes_for d.vars d.elements
seen_sizes table d spare = λ i. sizes_for (zero-add d.vars i) (zero-add d.elements i)

-- a store that stands has the session's rows
pub has_rows : (table : TableId) (d : Draws) (spare : ℕ) (x : Shared) → Stands (view_of x) d → HasRows (view_of x) (seen_by table d spare)
has_rows table d spare x stands = record { vars = ap (λ (p : ℕ × ℕ × ℕ). p.0) stands.counts_are ∙ sym (zero-add d.vars); elements = ap (λ (p : ℕ × ℕ × ℕ). p.1) stands.counts_are ∙ sym (zero-add d.elements); rows = stands.rows_kept }

-- its variables and elements stand as these orders have them
ordered_as : (v : Shared) (o : Orders) → IsStore v.store → orders v ≡ o → IsOrderedBy (view_of v) o
ordered_as v o of same = subst (IsOrderedBy (view_of v)) same (level_same v.store of)

-- what there was at the place was noted
placed_told : {call : Call} {reply : Reply} (old held new : Draws) (x : Shared) (place : ℕ) → Took old held x → Told held new call reply place → new.placed ≡ old.placed ++ note_of held place ∷ []
placed_told old held new x place took told =
    ap (λ (d : Draws). d.placed) told.4.left ∙ ap (λ (d : Draws). d.placed ++ note_of held place ∷ []) took.is

-- with the orders of the store
noted_orders : (old held : Draws) (x : Shared) (place : ℕ) → Took old held x → orders x ≡ orders_in (note_of held place)
noted_orders old held x place took = sym (ap (λ (d : Draws). orders_in (note_of d place)) took.is)

pub adds_are : (c : Change) (n : ℕ) → adds_after c n ≡ n + names_by c
adds_are (Adds row) n = omega arith
adds_are (Takes name) n = omega arith
adds_are (Posts i held) n = omega arith
adds_are Nothing n = omega arith

pub rows_few : (c : Change) (rows : List Row) → length (rows_after c rows) ≤ length rows + names_by c
rows_few (Adds row) rows = omega arith
rows_few (Takes name) rows = let a = without_few name rows in omega (arith, a)
  where
    without_few : (name : Name) (rows : List Row) → length (without name rows) ≤ length rows
    without_few name [] = omega arith
    without_few name (row ∷ rows) = by (same_name row.name name) (without_few name rows)
      where
        by : (b : Bool) → length (without name rows) ≤ length rows → length (cond b (without name rows) (row ∷ without name rows)) ≤ suc (length rows)
        by true l = omega (arith, l)
        by false l = omega (arith, l)
rows_few (Posts i held) rows = omega arith
rows_few Nothing rows = omega arith

-- what a call is for its caller
pub called : (old held new : Draws) (x : Shared) (table table' : TableId) (spare spare' : ℕ) (call : Call) (reply : Reply) (place : ℕ) → table' ≡ table → Took old held x → Told held new call reply place
    → Called (seen_by table old spare) (seen_by table' new spare') call reply place
called old held new x table table' spare spare' call reply place same took told =
    subst (λ (i : TableId). Called (seen_by table old spare) (seen_by i new spare') call reply place) (sym same)
    (subst (λ (d : Draws). Told d new call reply place → Called (seen_by table old spare) (seen_by table new spare') call reply place) (sym took.is) by told)
  where
    cells : List (Option Held)
    cells = board x

    by : Told (holding old cells took.others (orders x) (functions x)) new call reply place → Called (seen_by table old spare) (seen_by table new spare') call reply place
    by t = let y : Telling = t.1 in let drew = t.4 in
        subst (λ (z : Call × Reply). Called (seen_by table old spare) (seen_by table new spare') z.0 z.1 place) (λ i. (t.2 i, t.3 i))
        (subst (λ (d : Draws). Called (seen_by table old spare) (seen_by table d spare') y.call y.reply place) (sym drew.left) (record {
          board = cell_at (sizes_for old.vars old.elements) cells;
          note = note_of (holding old cells took.others (orders x) (functions x)) place;
          place_is = refl;
          rows_noted = refl;
          placed_are = refl;
          sizes_are = sym (seen_sizes table old spare);
          more_are = (refl, refl);
          step = λ u seen board_is sizes_are.
              let says = drew.may.step u (record { sizes_are = sizes_are; live = seen.live; fresh = seen.fresh; cells = λ _. (board_is ∙ ap (λ (z : Sizes). cell_at z cells) (sym sizes_are), took.many) }) in
              let many = says.1.sizes_are in (
                says.0,
                record {
                  grown = (let n = ap (λ (z : Sizes). z.variables) many in omega (arith, n), let n = ap (λ (z : Sizes). z.elements) many in omega (arith, n));
                  live = says.1.live;
                  fresh = says.1.fresh;
                },
                many ∙ sym (seen_sizes table (letting_go (told_of (holding old cells took.others (orders x) (functions x)) place y) drew.leaving) spare'),
              );
          entries_are = refl;
          later = drew.later;
          manager_is = refl;
          number_is = refl;
          adds_are = adds_are y.change old.adds ∙ ap (λ n. old.adds + n) drew.counted;
          few = (let a = rows_few y.change old.rows in let b = drew.counted in omega (arith, a, b));
          change = y.change;
          rows_are = refl;
          noted_are = refl;
        }))

-- want of memory
pub as_before : (old held new : Draws) (x : Shared) (table table' : TableId) (spare spare' : ℕ) (l : Leaving) → table' ≡ table → spare ≤ spare' → Took old held x → new ≡ letting_go held l → IsAsBefore (seen_by table old spare) (seen_by table' new spare')
as_before old held new x table table' spare spare' l same more took left = (
  subst (λ (i : TableId). seen_by i new spare' ≡ record (seen_by table old spare) { spare = spare'; found = new.functions; stored = new.stored; turns = new.turns; due = new.due }) (sym same)
      (subst (λ (d : Draws). seen_by table d spare' ≡ record (seen_by table old spare) { spare = spare'; found = d.functions; stored = d.stored; turns = d.turns; due = d.due }) (sym left)
      (subst (λ (d : Draws). seen_by table (letting_go d l) spare' ≡ record (seen_by table old spare) { spare = spare'; found = d.functions; stored = l.stored; turns = d.turns ++ l.stored ∷ []; due = l.due }) (sym took.is) refl)),
  more,
)

-- a full table
pub denied : (old held new : Draws) (x : Shared) (table table' : TableId) (spare spare' : ℕ) (call : Call) (full : Full) → table' ≡ table → Took old held x → IsRefused held new call (refusals.Full full)
    → Denies (seen_by table old spare) (seen_by table' new spare') call (refusals.Full full)
denied old held new x table table' spare spare' call full same took told =
    let slots : held.slots ≡ old.slots = ap (λ (d : Draws). d.slots) took.is in
    (called old held new x table table' spare spare' call (replies.Full full.in_use full.need) full.place same took told.0, told.1 ∙ slots, subst (λ (n : ℕ). TellsFull n call full.in_use full.need) slots told.2)

-- what makes a row for its caller
module _ (old held new : Draws) (x : Shared) (table table' : TableId) (spare spare' : ℕ) (call : Call) (same : table' ≡ table) (took : Took old held x) where
  told_row : (chose : Bool) (place : ℕ) (r : Result Name Unmade) → MatchResult r (λ name. IsAdded held new call (adding_by chose) name place) (λ why. Told held new call (reply_unmade why) place) → TellsRow chose (seen_by table old spare) (seen_by table' new spare') call (with_why (λ why. why) r) place
  told_row false place (Ok name) told = called old held new x table table' spare spare' call (replies.Made name) place same took told
  told_row false place (Err why) told = called old held new x table table' spare spare' call (reply_unmade why) place same took told
  told_row true place (Ok name) told = (told.0, called old held new x table table' spare spare' call (replies.Chose name told.0) place same took told.1)
  told_row true place (Err why) told = called old held new x table table' spare spare' call (reply_unmade why) place same took told

  -- what needs no node is never refused for a full table
  refused : {X : Type 0} (made : Result X Stop) (nodes : Bool) → (IsTrue (is_err made) → IsTrue nodes) → spare ≤ spare' → (refusal : Refusal) → IsCausedBy {X = X} {Y = X} made (Err refusal) → IsRefused held new call refusal
      → Refuses nodes (seen_by table old spare) (seen_by table' new spare') call refusal
  refused made true sure more refusals.Memory cause told = as_before old held new x table table' spare spare' told.0 same more took told.1
  refused made true sure more (refusals.Full full) cause told = denied old held new x table table' spare spare' call full same took told
  refused made false sure more refusals.Memory cause told = (refl, as_before old held new x table table' spare spare' told.0 same more took told.1)
  refused made false sure more (refusals.Full full) cause told = absurd (true≢false (sym (sure (ap is_err cause))))

  pub told_made : {X : Type 0} (made : Result X Stop) (nodes : Bool) → (IsTrue (is_err made) → IsTrue nodes) → (chose : Bool) (r : Result (Placed (Result Name Unmade)) Refusal) → MatchResult r (λ placed. Unit {0}) (λ refusal. spare ≤ spare') → IsCausedBy made r
      → MatchResult r (λ placed. MatchResult placed.value (λ name. IsAdded held new call (adding_by chose) name placed.place) (λ why. Told held new call (reply_unmade why) placed.place)) (IsRefused held new call)
      → MatchResult r (λ placed. TellsRow chose (seen_by table old spare) (seen_by table' new spare') call (with_why (λ why. why) placed.value) placed.place) (Refuses nodes (seen_by table old spare) (seen_by table' new spare') call)
  told_made made nodes sure chose (Ok placed) more cause told = told_row chose placed.place placed.value told
  told_made made nodes sure chose (Err refusals.Memory) more cause told = refused made nodes sure more refusals.Memory cause told
  told_made made nodes sure chose (Err (refusals.Full full)) more cause told = refused made nodes sure more (refusals.Full full) cause told

-- a full table where nodes may be needed
pub full_needs : {X : Type 0} {nodes : Bool} (made : Result X Stop) → IsErrOf made stop.Full → (IsTrue (is_err made) → IsTrue nodes) → IsTrue nodes
full_needs made is sure = sure (ap is_err is)

-- what one try stored are parts of its operation's work
pub stored_ran : {X : Type 0} (old held new : Draws) (x y : Shared) (table : TableId) (spare : ℕ) (made : Result X Stop) → Took old held x → (Answers : View → View → X → Type 0) (Work : View → Denoted → Type 0) → Ran Answers Work x y made
    → (l : Leaving) → new.stored ≡ l.stored → IsLeaving held y l → (f : Function) → Contains new.stored f → (o : Orders) × IsOfWork (seen_by table old spare) o Work f
stored_ran old held new x y table spare made took Answers Work ran l same leaving f there =
    (orders x, stored-only (IsOfWork (seen_by table old spare) (orders x) Work) x y held l (ap (λ (z : Draws). z.functions) took.is) (λ g at. by g (ran.stored g at)) leaving f (subst (λ (fs : List Function). Contains fs f) same there))
  where
    by : (g : Function) → Contains (functions x) g ⊎ IsListedWork (view_of x) (Work (view_of x)) g → Contains (functions x) g ⊎ IsOfWork (seen_by table old spare) (orders x) Work g
    by g (inl at) = inl at
    by g (inr part) = inr (view_of x, has_rows table old spare x (stands_taken old held x took), ordered_as x (orders x) ran.store refl, part)

-- an operation that was tried and settled
module _ {X : Type 0} (old held new : Draws) (x y : Shared) (table table' : TableId) (spare spare' : ℕ) (made : Result X Stop) (took : Took old held x) where
  module _ (Answers : View → View → X → Type 0) (Work : View → Denoted → Type 0) (noted : Counts) (tried : Tried held noted Answers Work x y made) (notes : Notes held new y) where
    of_work : (f : Function) → IsWorkFor held noted Work f → IsOfWork (seen_by table old spare) (orders x) Work f
    of_work f part = let v = part.0 in (view_of v, has_rows table old spare v (stands_of old held noted x v took part.1), ordered_as v (orders x) part.2 (orders_of_taken old held noted x v took part.1), part.3)

    stored_work : (f : Function) → Contains new.stored f → IsOfWork (seen_by table old spare) (orders x) Work f
    stored_work f c = stored-only (IsOfWork (seen_by table old spare) (orders x) Work) x y held notes.0 (ap (λ (z : Draws). z.functions) took.is)
        (λ g there. by g (tried.stored g there)) notes.3 f (subst (λ (fs : List Function). Contains fs f) notes.1 c)
      where
        by : (g : Function) → Contains (functions x) g ⊎ IsWorkFor held noted Work g → Contains (functions x) g ⊎ IsOfWork (seen_by table old spare) (orders x) Work g
        by g (inl there) = inl there
        by g (inr part) = inr (of_work g part)

    one_turn : HadTurns Work (seen_by table old spare) (seen_by table' new spare')
    one_turn = ([], had_turn old held x took new notes.0 notes.1 notes.4 ∙ ap (λ (ts : List (List Function)). ts ++ new.stored ∷ []) (sym (append-nil old.turns)), tt)

    stores_at : {call : Call} {reply : Reply} (place : ℕ) → Told held new call reply place → StoresAt Work (seen_by table old spare) (seen_by table' new spare') place
    stores_at place told = record {
      note = note_of held place;
      place_is = refl;
      placed = placed_told old held new x place took told;
      turns = one_turn;
      stored = λ f c. subst (λ (o : Orders). IsOfWork (seen_by table old spare) o Work f) (noted_orders old held x place took) (stored_work f c);
    }

    stored_row : (call : Call) (chose : Bool) (place : ℕ) (r : Result Name Unmade) → MatchResult r (λ name. IsAdded held new call (adding_by chose) name place) (λ why. Told held new call (reply_unmade why) place)
        → StoresAt Work (seen_by table old spare) (seen_by table' new spare') place
    stored_row call true place (Ok name) told = stores_at place told.1
    stored_row call false place (Ok name) told = stores_at place told
    stored_row call chose place (Err why) told = stores_at place told

    pub stores_work : (call : Call) (chose : Bool) (r : Result (Placed (Result Name Unmade)) Refusal) → IsCausedBy made r
        → MatchResult r (λ placed. MatchResult placed.value (λ name. IsAdded held new call (adding_by chose) name placed.place) (λ why. Told held new call (reply_unmade why) placed.place)) (IsRefused held new call)
        → StoresWork Work (seen_by table old spare) (seen_by table' new spare') r
    unfolding stores_at
    stores_work call chose (Ok placed) cause told = stored_row call chose placed.place placed.value told
    stores_work call chose (Err refusals.Memory) cause told = inr (one_turn, λ f c. (orders x, stored_work f c))
    stores_work call chose (Err (refusals.Full full)) cause told = let due = tried.ran.due_is cause in let sweep = tried.swept cause in (
      stores_at full.place told.0,
      record {
        function = due.0;
        is = notes.2 ∙ notes.3.due_is ∙ due.1;
        swept = sweep.2;
        sweep = record {
          before = content_view sweep.0.store;
          after = content_view tried.from.store;
          seen = view_of sweep.0;
          has = has_rows table old spare sweep.0 (stands_of old held noted x sweep.0 took sweep.1);
          same = refl;
          is_swept = swept_beside _ _ _ sweep.3;
        };
        view = view_of tried.from;
        has = has_rows table old spare tried.from (stands_of old held noted x tried.from took tried.serves);
        ordered = subst (IsOrderedBy (view_of tried.from)) (noted_orders old held x full.place took) (ordered_as tried.from (orders x) tried.ran.store (orders_of_taken old held noted x tried.from took tried.serves));
        same = refl;
        work = due.2;
      },
    )

-- the last try's store serves, and so does the one that it left
pub served : {X : Type 0} (e : Draws) (c : Counts) (x y : Shared) (Answers : View → View → X → Type 0) (Work : View → Denoted → Type 0) (made : Result X Stop) → Tried e c Answers Work x y made → Serving y e c
served e c x y Answers Work made tried = serves-grown tried.from y e c tried.ran.grown tried.ran.cells tried.ran.orders_are tried.serves

-- what the call makes is what the edge denotes
pub listed-made : (k : Kind) (w w' : View) (e : Edge) (f : ℕ → ValueOf k) → Grown w w' → Denotes k w' e f → listed k w f ≡ listed_at k w' e
listed-made k w w' e f grown is = sym (listed-on k w w' f grown) ∙ ap (listed k w') (sym (values_at-is k is))
  where
    listed-on : (k : Kind) (w w' : View) (f : ℕ → ValueOf k) → Grown w w' → listed k w' f ≡ listed k w f
    listed-on kinds.Bdd w w' f grown = ap (λ n. Bdd (list_of (2 ^ n) f)) grown.vars
    listed-on kinds.Add w w' f grown = ap (λ n. Add (list_of (2 ^ n) f)) grown.vars
    listed-on kinds.Zdd w w' f grown = ap (λ n. Zdd (list_of (2 ^ n) f)) grown.elements

-- rows of which the room changed, and a seat that has the turn
pub keeps_taken : (d e : Draws) (x : Shared) (rows rows' : RowMap) (calls fulls : ℕ) → Took d e x → Tied d rows → calls ≡ length d.entries → fulls ≡ fulls_in d.entries → rows'.live ≡ rows.live → rows'.adds ≡ rows.adds
    → Tied e rows' × (calls ≡ length e.entries) × (fulls ≡ fulls_in e.entries)
keeps_taken d e x rows rows' calls fulls took tied many full live adds =
    let entries = ap (λ (z : Draws). z.entries) took.is in (
      tied_same d e rows' (tied_room d rows rows' tied live adds) (ap (λ (z : Draws). z.rows) took.is) (ap (λ (z : Draws). z.adds) took.is) (let a = ap (λ (z : Draws). length z.entries) took.is in omega (arith, a)),
      many ∙ sym (ap (λ (z : Draws). length z.entries) took.is),
      full ∙ sym (ap (λ (z : Draws). fulls_in z.entries) took.is),
    )

-- there was room, or room was made
pub room_made : {X : Type 0} (r : Result X Memory) (rows rows' : RowMap) (spare : ℕ) → OnOk r (rows' ≡ record rows { spare = spare }) → is_err r ≡ false → (rows'.live ≡ rows.live) × (rows'.adds ≡ rows.adds) × (rows'.spare ≡ spare)
room_made (Ok u) rows rows' spare is ok = (ap (λ (z : RowMap). z.live) is, ap (λ (z : RowMap). z.adds) is, ap (λ (z : RowMap). z.spare) is)
room_made (Err m) rows rows' spare is ok = absurd (true≢false ok)

-- what a call that makes a row leaves of the room
pub spare_made : (r : Result (Placed (Result Name Unmade)) Refusal) (old reserved new : ℕ) → reserved ≡ max old 1 → MatchResult r (λ placed. MatchResult placed.value (λ name. new + 1 ≡ reserved) (λ why. new ≡ reserved)) (λ refusal. new ≡ reserved)
    → MatchResult r (λ placed. MatchResult placed.value (λ name. new + 1 ≡ max old 1) (λ why. new ≡ max old 1)) (λ refusal. old ≤ new)
spare_made (Ok placed) old reserved new is spare = by placed.value spare
  where
    by : (v : Result Name Unmade) → MatchResult v (λ name. new + 1 ≡ reserved) (λ why. new ≡ reserved) → MatchResult v (λ name. new + 1 ≡ max old 1) (λ why. new ≡ max old 1)
    by (Ok name) spare = spare ∙ is
    by (Err why) spare = spare ∙ is
spare_made (Err refusal) old reserved new is spare = omega (arith, is, spare)

-- a refusal leaves as much room as there was
pub spare_kept : {X : Type 0} (P : X → Type 0) (r : Result X Refusal) (old reserved new : ℕ) → reserved ≡ max old 1 → MatchResult r P (λ refusal. new ≡ reserved) → MatchResult r (λ placed. Unit {0}) (λ refusal. old ≤ new)
spare_kept P (Ok placed) old reserved new is spare = tt
spare_kept P (Err refusal) old reserved new is spare = omega (arith, is, spare)
