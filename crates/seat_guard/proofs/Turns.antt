-- Each change of a seat keeps the part of the turn.
use Rattle.std.proofs.Common.{◌≡◌, ◌≢◌, ℕ, ◌<◌, true, false, List, [], set, refl, ap, sym, subst, ap₂, ◌∙◌, arith, true≢false}
use Rattle.std.specs.Prelude as std
use mathlib.Core.Logic.{dite}
use mathlib.Core.Option.{Option, some, some-injective}
use native.Mathlib.Decide.{ℕ_discrete}
use lib.ListN.{get_elem?}
use Rattle.atomic_table.proofs.Lists.{set_else}
use Rattle.function_laws.specs.declared.history.Function.{Function}
use Rattle.function_laws.specs.Tables.{Table, Sizes}
use Rattle.function_laws.specs.SessionEntries.{Each}
use Rattle.function_laws.specs.Sizes.{Orders}
use Rattle.function_laws.specs.EntryOrders.{orders_after}
use Rattle.seat_guard.specs.declared.view.Held.{Held}
use Rattle.seat_guard.specs.declared.view.Telling.{Telling}
use Rattle.seat_guard.specs.declared.view.Draws.{Draws}
use Rattle.seat_guard.specs.declared.view.Leaving.{Leaving}
use Rattle.seat_guard.specs.declared.view.View.{View}
use Rattle.seat_guard.specs.Moves.{LeavesBoard}
use Rattle.seat_guard.specs.Tallies.{EachHeld, HasRaised, Tally, cells_after, no_counts, refs, tally_after, tally_of, times}
use Rattle.seat_guard.specs.Views.{told_with, cell_at, sizes_for, holding, letting_go, orders_of}
use Rattle.seat_guard.specs.Turn.{AreSized, Has, IsHome, IsKeptCell, IsSized, Serves, Turn}
use Rattle.seat_guard.proofs.Bools.{by_bool}
use Rattle.seat_guard.proofs.HeldLists.{all_held, all_held_each, all_held_has, cells_left, draws_held, meets}
use Rattle.seat_guard.proofs.Lists.{each_at, each_map, each_set, off}

-- a seat that holds nothing
abbrev no_tally : Tally → Tally
no_tally t = record t { rows = []; counts = no_counts }

-- a seat changes that still knows the number of slots
pub sized_set : (slots sessions : ℕ) (ds : List Draws) (id : ℕ) (d : Draws) → AreSized slots sessions ds → IsSized slots sessions d → AreSized slots sessions (set ds id d)
sized_set slots sessions ds id d all is = each_set (λ _. IsSized slots sessions) ds id d (λ j e apart here. all j e here) is

module _ {S : Type 0} (keeps_it : S → Held → Type 0) (board : S → List (std.Option Held)) (counts : S → ℕ × ℕ × ℕ) (orders : S → Orders) (slots : ℕ) where
  abbrev TurnOf : ℕ → Option (Option (std.Option S)) → List Draws → List Tally → List (std.Option Held) → Table → Orders → Type 0
  TurnOf = Turn keeps_it board counts orders slots

  abbrev HomeOf : S → List Tally → List (std.Option Held) → Table → Orders → Type 0
  HomeOf = IsHome keeps_it board counts orders slots

  -- what the holder knows of the others
  abbrev KnowsOthers : List Draws → List Tally → ℕ → Draws → Type 0
  KnowsOthers ds ts i f = f.holds ≡ true → (j : ℕ) (u : Tally) → j ≢ i → get_elem? ts j ≡ some u → EachHeld (Has f.others) u

  -- what the taker is told of the content
  pub finds_it : (home : Option (Option (std.Option S))) (ds : List Draws) (ts : List Tally) (cells : List (std.Option Held)) (t : Table) (now : Orders) (id : ℕ) (v : View) (functions : S → List Function)
      → TurnOf 0 home ds ts cells t now → get_elem? ts id ≡ some (tally_of v) → t.sizes ≡ sizes_for v.draws.vars v.draws.elements → v.draws.slots ≡ slots
      → (x : S) × (others : List Held) × (home ≡ some (some (std.Some x))) × HomeOf x ts cells t now × Serves keeps_it board counts orders x (holding v.draws (board x) others (orders x) (functions x)) v.counts
      × ((j : ℕ) (u : Tally) → j ≢ id → get_elem? ts j ≡ some u → EachHeld (Has others) u)
  finds_it home ds ts cells t now id v functions part at sizes as_many =
      let h = part.home_is refl in
      let x : S = h.0 in
      let rest : List Tally = set ts id (no_tally (tally_of v)) in
      let others : List Held = all_held rest in
      let home_of = h.2 in
      let mine = home_of.kept id (tally_of v) at in (
        x,
        others,
        h.1,
        home_of,
        record {
          rows_kept = mine.rows;
          raised_kept = mine.raised;
          owed_kept = mine.owed;
          others_kept = each_map (keeps_it x) (λ (held : Held). times held.edge.index v.counts.zeros ≡ 0 → keeps_it x held) (λ held kept _. kept) others
              (all_held_each (keeps_it x) rest (each_set (λ _ (u : Tally). EachHeld (keeps_it x) u) ts id (no_tally (tally_of v)) (λ j u apart there. home_of.kept j u there) (record { rows = tt; raised = tt; owed = tt })));
          cells_kept = subst (λ (l : List (std.Option Held)). Each (IsKeptCell keeps_it board counts orders x) l) (sym home_of.board_is) home_of.cells_kept;
          board_is = refl;
          counts_are = home_of.counts_are ∙ ap₂ (λ (z : Sizes) (n : ℕ). (z.variables, z.elements, n)) sizes (sym as_many);
          orders_are = refl;
        },
        (λ j u apart there. all_held_has rest j u (set_else ts id j (no_tally (tally_of v)) apart ∙ there)),
      )

  -- the turn is away with this seat
  pub away_with : (turn id : ℕ) (home : Option (Option (std.Option S))) (ds : List Draws) (ts : List Tally) (cells mine : List (std.Option Held)) (t : Table) (now own : Orders) (d : Draws) (others : List Held) (functions : List Function)
      → own ≡ now → mine ≡ cells → t.cells ≡ cell_at t.sizes cells → turn ≢ 0
      → ((j : ℕ) (e : Draws) → get_elem? ds j ≡ some e → e.holds ≡ true → ⊥)
      → ((j : ℕ) (u : Tally) → j ≢ id → get_elem? ts j ≡ some u → EachHeld (Has others) u)
      → TurnOf turn home (set ds id (holding d mine others own functions)) ts cells t now
  away_with turn id home ds ts cells mine t now own d others functions same board_is are away none_holds within = record {
    home_is = λ z. absurd (away z);
    cells_are = are;
    held = each_set (λ _ (f : Draws). f.holds ≡ true → f.cells ≡ cells) ds id (holding d mine others own functions) (λ i f apart there h. absurd (none_holds i f there h)) (λ h. board_is);
    away = each_set (KnowsOthers ds ts) ds id (holding d mine others own functions) (λ i f apart there h. absurd (none_holds i f there h)) (λ h. within);
    ordered = each_set (λ _ (f : Draws). f.holds ≡ true → orders_of f ≡ now) ds id (holding d mine others own functions) (λ i f apart there h. absurd (none_holds i f there h)) (λ h. same);
  }

  -- The turn comes home. Nobody holds a slot whose count the holder found at 0.
  pub comes_home : (turn id : ℕ) (home : Option (Option (std.Option S))) (ds : List Draws) (ts : List Tally) (cells : List (std.Option Held)) (t : Table) (now : Orders) (v : View) (x : S) (leaving : Leaving)
      → TurnOf turn home ds ts cells t now → get_elem? ds id ≡ some v.draws → get_elem? ts id ≡ some (tally_of v) → v.draws.holds ≡ true
      → ((j : ℕ) (e : Draws) → get_elem? ds j ≡ some e → e.holds ≡ true → j ≡ id)
      → ((j k : ℕ) (u : Tally) → j ≢ id → get_elem? ts j ≡ some u → 0 < times k v.counts.zeros → refs k u ≡ 0)
      → t.sizes ≡ sizes_for v.draws.vars v.draws.elements → v.draws.slots ≡ slots → Serves keeps_it board counts orders x v.draws v.counts
      → TurnOf 0 (some (some (std.Some x))) (set ds id (letting_go v.draws leaving)) ts cells t now
  comes_home turn id home ds ts cells t now v x leaving part at tally holds alone unheld sizes as_many serves =
      let mine : v.draws.cells ≡ cells = part.held id v.draws at holds in record {
        home_is = λ z. (
          x,
          refl,
          record {
            board_is = serves.board_is ∙ mine;
            cells_kept = subst (λ (l : List (std.Option Held)). Each (IsKeptCell keeps_it board counts orders x) l) mine serves.cells_kept;
            counts_are = serves.counts_are ∙ ap₂ (λ (z : Sizes) (n : ℕ). (z.variables, z.elements, n)) (sym sizes) as_many;
            kept = λ j u there. dite (ℕ_discrete j id)
                (λ is. subst (EachHeld (keeps_it x)) (some-injective (tally_of v) u (sym tally ∙ (ap (λ i. get_elem? ts i) (sym is) ∙ there))) (record { rows = serves.rows_kept; raised = serves.raised_kept; owed = serves.owed_kept }))
                (λ apart. meets (Has v.draws.others) (keeps_it x) u
                (λ h some_ref has. each_at (λ (held : Held). times held.edge.index v.counts.zeros ≡ 0 → keeps_it x held) v.draws.others has.0 h serves.others_kept has.1 (none_found u j apart there h.edge.index some_ref))
                (part.away id v.draws at holds j u apart there));
            orders_are = serves.orders_are ∙ part.ordered id v.draws at holds;
          },
        );
        cells_are = part.cells_are;
        held = each_set (λ _ (f : Draws). f.holds ≡ true → f.cells ≡ cells) ds id (letting_go v.draws leaving) (λ i f apart there h. absurd (apart (alone i f there h))) (λ h. absurd (off h));
        away = each_set (KnowsOthers ds ts) ds id (letting_go v.draws leaving) (λ i f apart there h. absurd (apart (alone i f there h))) (λ h. absurd (off h));
        ordered = each_set (λ _ (f : Draws). f.holds ≡ true → orders_of f ≡ now) ds id (letting_go v.draws leaving) (λ i f apart there h. absurd (apart (alone i f there h))) (λ h. absurd (off h));
      }
    where
      none_found : (u : Tally) (j : ℕ) → j ≢ id → get_elem? ts j ≡ some u → (k : ℕ) → 0 < refs k u → times k v.counts.zeros ≡ 0
      none_found u j apart there k some_ref = dite (ℕ_discrete (times k v.counts.zeros) 0) (λ z. z) (λ found. absurd (let n = unheld j k u apart there (omega (arith, found)) in omega (arith, n, some_ref)))

  -- the holder draws a place
  pub draws_away : (turn id : ℕ) (home : Option (Option (std.Option S))) (ds : List Draws) (ts : List Tally) (cells : List (std.Option Held)) (t u : Table) (now own : Orders) (v : View) (n : ℕ) (x : Telling)
      → TurnOf turn home ds ts cells t now → get_elem? ds id ≡ some v.draws → v.draws.holds ≡ true → turn ≢ 0
      → u.cells ≡ cell_at u.sizes (cells_after x.change v.draws.cells)
      → ((j : ℕ) (e : Draws) → get_elem? ds j ≡ some e → e.holds ≡ true → j ≡ id)
      → TurnOf turn home (set ds id (told_with own v.draws n x)) (set ts id (tally_after x.change cells (tally_of v))) (cells_after x.change cells) u (orders_after now x.call x.reply)
  draws_away turn id home ds ts cells t u now own v n x part at holds away_now board_now alone =
      let w : Draws = told_with own v.draws n x in
      let y : Tally = tally_after x.change cells (tally_of v) in
      let mine : v.draws.cells ≡ cells = part.held id v.draws at holds in record {
        home_is = λ z. absurd (away_now z);
        cells_are = board_now ∙ ap (λ (l : List (std.Option Held)). cell_at u.sizes (cells_after x.change l)) mine;
        held = each_set (λ _ (f : Draws). f.holds ≡ true → f.cells ≡ cells_after x.change cells) ds id w (λ i f apart there h. absurd (apart (alone i f there h))) (λ h. ap (cells_after x.change) mine);
        away = each_set (KnowsOthers ds (set ts id y)) ds id w (λ i f apart there h. absurd (apart (alone i f there h)))
            (λ h j z apart there. part.away id v.draws at holds j z apart (sym (set_else ts id j y apart) ∙ there));
        ordered = each_set (λ _ (f : Draws). f.holds ≡ true → orders_of f ≡ orders_after now x.call x.reply) ds id w (λ i f apart there h. absurd (apart (alone i f there h)))
            (λ h. ap (λ o. orders_after o x.call x.reply) (part.ordered id v.draws at holds));
      }

  -- another draws a place, who leaves the board and the orders
  pub draws_aside : (turn id : ℕ) (home : Option (Option (std.Option S))) (ds : List Draws) (ts : List Tally) (cells : List (std.Option Held)) (t u : Table) (now own : Orders) (v : View) (n : ℕ) (x : Telling)
      → TurnOf turn home ds ts cells t now → get_elem? ds id ≡ some v.draws → get_elem? ts id ≡ some (tally_of v) → v.draws.holds ≡ false → LeavesBoard x.change → HasRaised x.change cells v.counts
      → u.cells ≡ t.cells → u.sizes ≡ t.sizes → orders_after now x.call x.reply ≡ now
      → TurnOf turn home (set ds id (told_with own v.draws n x)) (set ts id (tally_after x.change cells (tally_of v))) (cells_after x.change cells) u (orders_after now x.call x.reply)
  draws_aside turn id home ds ts cells t u now own v n x part at tally without leaves up same_board same_sizes same_orders =
      let w : Draws = told_with own v.draws n x in
      let y : Tally = tally_after x.change cells (tally_of v) in
      let drawn : (P : Held → Type 0) → EachHeld P (tally_of v) → EachHeld P y = λ P e. draws_held P cells (tally_of v) x.change leaves up e in
      subst (λ (z : List (std.Option Held) × Orders). TurnOf turn home (set ds id w) (set ts id y) z.0 u z.1) (λ i. (sym (cells_left x.change cells leaves) i, sym same_orders i)) (record {
        home_is = λ z. let h = part.home_is z in let o = h.2 in (
          h.0,
          h.1,
          record {
            board_is = o.board_is;
            cells_kept = o.cells_kept;
            counts_are = o.counts_are ∙ ap (λ (z : Sizes). (z.variables, z.elements, slots)) (sym same_sizes);
            kept = each_set (λ _ (u : Tally). EachHeld (keeps_it h.0) u) ts id y (λ j z apart there. o.kept j z there) (drawn (keeps_it h.0) (o.kept id (tally_of v) tally));
            orders_are = o.orders_are;
          },
        );
        cells_are = same_board ∙ part.cells_are ∙ ap (λ (z : Sizes). cell_at z cells) (sym same_sizes);
        held = each_set (λ _ (f : Draws). f.holds ≡ true → f.cells ≡ cells) ds id w (λ i f apart there h. part.held i f there h) (λ h. absurd (true≢false (sym h ∙ without)));
        away = each_set (KnowsOthers ds (set ts id y)) ds id w
            (λ i f apart there h k q off_k lies_k. each_set (λ j (z : Tally). j ≢ i → EachHeld (Has f.others) z) ts id y (λ j z _ lies off_i. part.away i f there h j z off_i lies)
            (λ off_i. drawn (Has f.others) (part.away i f there h id (tally_of v) off_i tally)) k q lies_k off_k)
            (λ h. absurd (true≢false (sym h ∙ without)));
        ordered = each_set (λ _ (f : Draws). f.holds ≡ true → orders_of f ≡ now) ds id w (λ i f apart there h. part.ordered i f there h) (λ h. absurd (true≢false (sym h ∙ without)));
      })

  -- What a seat holds changes. Who has the turn may hold anything then, another only what it held.
  pub turn_tally : (turn id : ℕ) (home : Option (Option (std.Option S))) (ds : List Draws) (ts : List Tally) (cells : List (std.Option Held)) (t : Table) (now : Orders) (v : View) (w : Tally)
      → TurnOf turn home ds ts cells t now → get_elem? ds id ≡ some v.draws → get_elem? ts id ≡ some (tally_of v)
      → (v.draws.holds ≡ true → turn ≢ 0) → ((j : ℕ) (e : Draws) → get_elem? ds j ≡ some e → e.holds ≡ true → v.draws.holds ≡ true → j ≡ id)
      → ((P : Held → Type 0) → v.draws.holds ≡ false → EachHeld P (tally_of v) → EachHeld P w)
      → TurnOf turn home ds (set ts id w) cells t now
  turn_tally turn id home ds ts cells t now v w part at tally away_now alone holds_same = record {
    home_is = λ z. let h = part.home_is z in let o = h.2 in (
      h.0,
      h.1,
      record {
        board_is = o.board_is;
        cells_kept = o.cells_kept;
        counts_are = o.counts_are;
        kept = each_set (λ _ (u : Tally). EachHeld (keeps_it h.0) u) ts id w (λ j u apart there. o.kept j u there)
            (by_bool v.draws.holds (λ holds. absurd (away_now holds z)) (λ without. holds_same (keeps_it h.0) without (o.kept id (tally_of v) tally)));
        orders_are = o.orders_are;
      },
    );
    cells_are = part.cells_are;
    held = part.held;
    away = λ i f here h k q off_k lies_k. each_set (λ j (u : Tally). j ≢ i → EachHeld (Has f.others) u) ts id w (λ j u _ there off_i. part.away i f here h j u off_i there)
        (λ off_i. by_bool v.draws.holds (λ holds. absurd (off_i (sym (alone i f here h holds)))) (λ without. holds_same (Has f.others) without (part.away i f here h id (tally_of v) off_i tally))) k q lies_k off_k;
    ordered = part.ordered;
  }

  -- a holder is as it was
  abbrev pub IsHolder : List Draws → ℕ → Draws → Type 0
  IsHolder ds j e = (f : Draws) × (get_elem? ds j ≡ some f) × (f.holds ≡ true) × (e.cells ≡ f.cells) × (e.others ≡ f.others) × (orders_of e ≡ orders_of f)

  -- Seats are given, or taken in: a holder is as it was, and what a seat holds is what seats held.
  pub stays_so : (turn : ℕ) (home : Option (Option (std.Option S))) (ds es : List Draws) (ts us : List Tally) (cells : List (std.Option Held)) (t : Table) (now : Orders) → TurnOf turn home ds ts cells t now
      → ((j : ℕ) (e : Draws) → get_elem? es j ≡ some e → e.holds ≡ true → IsHolder ds j e)
      → ((j : ℕ) (u : Tally) → get_elem? us j ≡ some u → (P : Held → Type 0) → ((m : ℕ) (s : Tally) → get_elem? ts m ≡ some s → EachHeld P s) → EachHeld P u)
      → ((i : ℕ) (f : Draws) → get_elem? ds i ≡ some f → f.holds ≡ true → (j : ℕ) (u : Tally) → j ≢ i → get_elem? us j ≡ some u → (P : Held → Type 0) → ((m : ℕ) (s : Tally) → m ≢ i → get_elem? ts m ≡ some s → EachHeld P s) → EachHeld P u)
      → TurnOf turn home es us cells t now
  stays_so turn home ds es ts us cells t now part same stems apart_from = record {
    home_is = λ z. let h = part.home_is z in let o = h.2 in (
      h.0,
      h.1,
      record { board_is = o.board_is; cells_kept = o.cells_kept; counts_are = o.counts_are; kept = λ j u there. stems j u there (keeps_it h.0) (λ m s lies. o.kept m s lies); orders_are = o.orders_are },
    );
    cells_are = part.cells_are;
    held = λ i e here h. let s = same i e here h in s.3 ∙ part.held i s.0 s.1 s.2;
    away = λ i e here h j u off_i there. let s = same i e here h in
        subst (λ (l : List Held). EachHeld (Has l) u) (sym s.4) (apart_from i s.0 s.1 s.2 j u off_i there (Has s.0.others) (λ m y off_m lies. part.away i s.0 s.1 s.2 m y off_m lies));
    ordered = λ i e here h. let s = same i e here h in s.5 ∙ part.ordered i s.0 s.1 s.2;
  }
