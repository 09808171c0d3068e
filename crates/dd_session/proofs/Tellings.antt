-- What each call may tell, and what it then is for its caller.
use Rattle.std.proofs.Common.{◌≡◌, ◌≢◌, ℕ, zero, suc, ◌+◌, ◌<◌, ◌≤◌, Bool, true, false, cond, ◌&&◌, ◌||◌, ◌==◌, List, [], ◌∷◌, ◌++◌, length, set, Option, Some, None, option_map, IsTrue, refl, ap, ap₂, sym, subst, ◌∙◌, arith, eq-eqb, ne_eqb, true≢false, inl, inr, ℤ, nat_lt}
use Rattle.std.specs.Prelude.{slice_get, All, Contains}
use Rattle.std.proofs.Math.ListN.{length-set}
use Rattle.std.proofs.lemmas.Bool.{lt-ltb}
use mathlib.Core.Logic.{dite}
use native.Mathlib.Decide.{ℕ_discrete}
use Rattle.edge_bits.specs.declared.limits.TheConstants.{CELLS}
use Rattle.edge_bits.specs.declared.edges.Kind.{Kind}
use Rattle.function_laws.specs.declared.history.Name.{Name}
use Rattle.function_laws.specs.declared.history.Function.{Function}
use Rattle.function_laws.specs.declared.history.Call.{Call}
use Rattle.function_laws.specs.declared.history.Call.TheVariants as calls
use Rattle.function_laws.specs.declared.history.Reply.{Reply}
use Rattle.function_laws.specs.declared.history.Reply.TheVariants as replies
use Rattle.function_laws.specs.declared.history.Entry.{Entry}
use Rattle.function_laws.specs.EntryOrders.{orders_done}
use Rattle.function_laws.specs.Kinds.{Denoted}
use Rattle.function_laws.specs.Sizes.{Orders}
use Rattle.function_laws.specs.Tables.{Sizes, Table, same_name, with_name}
use Rattle.function_laws.specs.Widening.{at_sizes}
use Rattle.function_laws.specs.Outcomes.{Outcome, makes, fetches, overflows, is_apart, tells, shows, is_done, with_one, when}
use Rattle.function_laws.specs.declared.orders.Order.{Order}
use Rattle.function_laws.specs.declared.orders.Order.TheVariants.{Variables, Elements}
use Rattle.function_laws.specs.Steps.{TellsFull, may_be_full, with_result, from_cell}
use Rattle.node_store.specs.Listed.{listed_at}
use Rattle.node_store.specs.Views.{View, Is, values_at}
use Rattle.handle_count.specs.declared.rows.Held.{Held as Live}
use Rattle.handle_count.specs.RowMaps.{IsWithOne}
use Rattle.operator_calls.specs.declared.unmade.Unmade.{Unmade as Why}
use Rattle.operator_calls.specs.declared.unmade.Unmade.TheVariants as unmade
use Rattle.seat_guard.specs.declared.view.Held.{Held}
use Rattle.seat_guard.specs.declared.view.Row.{Row}
use Rattle.seat_guard.specs.declared.view.Change.TheVariants.{Nothing, Adds, Takes, Posts}
use Rattle.seat_guard.specs.declared.seat.Pass.{Pass}
use Rattle.seat_guard.specs.declared.view.Telling.{Telling}
use Rattle.seat_guard.specs.Moves.{IsChangeOf}
use Rattle.seat_guard.specs.Passes.{known}
use Rattle.seat_guard.specs.declared.view.Leaving.{Leaving}
use Rattle.seat_guard.specs.declared.view.Draws.{Draws}
use Rattle.seat_guard.specs.Known.{known_at, sizes_for}
use Rattle.seat_guard.specs.Views.{Agrees, MayTell, is_ordering, is_post, told_of, known_as, letting_go, orders_of, stands_for, without, cell_at, function_in}
use Rattle.shared_store.specs.declared.shared.Cell.{Cell}
use Rattle.shared_store.specs.declared.shared.Shared.{Shared}
use Rattle.shared_store.specs.Reordering.{swap_call}
use Rattle.shared_store.specs.Sharing.{due, held_of, keeps, noted_in, view_of, whole_of}
use Rattle.shared_store.proofs.Keeping.{kind-listed, listed-noted}
use Rattle.shared_store.specs.Storing.{IsLeaving}
use Rattle.dd_session.specs.declared.request.Request.{Request}
use Rattle.dd_session.specs.declared.request.Adding.{Adding}
use Rattle.dd_session.specs.declared.request.Adding.TheVariants.{Made, Chosen, Taken}
use Rattle.dd_session.specs.declared.request.Answer.{Answer}
use Rattle.dd_session.specs.declared.request.Answer.TheVariants.{Added, Posted, Truth, Value, Done, Unmade, Full}
use Rattle.dd_session.specs.Requests.{added_as, call_of, change_of, is_refusal, reply_of}
use Rattle.dd_session.specs.Sessions.{fulls_in, is_full, names_in, reply_unmade}
use Rattle.dd_session.specs.Turns.{sizes_in, AddsRow, Drew, Gives, IsAdded, MayBeFull, Told, levels_in, live_as, names_by, ordered_by, outcome_unmade}
use Rattle.dd_session.proofs.Naming.{cond_none, same_name-eq}
use Rattle.dd_session.proofs.Outcomes.{listed-known}
use Rattle.dd_session.proofs.RequestLemmas.{LeavesOrders, finds_none, orders_stay}
use Rattle.dd_session.proofs.Serving.{KnowsAs}

-- who has the turn is told all
held_free : (d : Draws) (b : Bool) → d.holds ≡ true → d.holds ≡ false → b ≡ false
held_free d b holds not = absurd (true≢false (sym holds ∙ not))

no_number : (w : View) (adding : Adding) (name : Name) (cell : Cell) (r : Name) (n : ℕ) → added_as w adding name cell ≡ replies.Numbered r n → ⊥
no_number w Made name cell r n e = cc
no_number w Chosen name cell r n e = cc
no_number w (Taken posted) name cell r n e = cc

not_done : (w : View) (adding : Adding) (name : Name) (cell : Cell) → added_as w adding name cell ≡ replies.Done → ⊥
not_done w Made name cell e = cc
not_done w Chosen name cell e = cc
not_done w (Taken posted) name cell e = cc

none_and : (b : Bool) → (b && false) ≡ false
none_and true = refl
none_and false = refl

abbrev pub adds : Call → Reply → Name → Held → ℕ → Telling
adds call reply name held generation = record { call = call; reply = reply; change = Adds (record { name = name; held = held; generation = generation }) }

-- a table with one name more agrees with one row more
pub agrees_made : (d : Draws) (t : Table) (name : Name) (held : Held) (generation : ℕ) (g : Function) (call : Call) (reply : Reply) → Agrees d t → name.generation ≡ d.adds → known_at d held.function ≡ g
    → Agrees (told_of d 0 (adds call reply name held generation)) (with_name t d.session name g)
agrees_made d t name held generation g call reply agrees is noted = let here = eq-eqb d.session d.session refl in record {
  sizes_are = agrees.sizes_are;
  live = λ other. ap (λ b. cond (b && same_name other name) (Some g) (t.live d.session other)) here ∙ by other (same_name other name);
  fresh = λ other le.
      let apart : same_name other name ≡ false = ap (λ b. (other.row == name.row) && b) (ne_eqb other.generation name.generation (λ e. omega (arith, e, is, le))) ∙ none_and (other.row == name.row) in
      ap (λ b. b || t.given d.session other) (ap (λ b. (d.session == d.session) && b) apart ∙ none_and (d.session == d.session)) ∙ agrees.fresh other (omega (arith, le));
  cells = agrees.cells;
}
  where
    by : (other : Name) (b : Bool) → cond (true && b) (Some g) (t.live d.session other) ≡ option_map (at_sizes t.sizes) (cond b (Some held.function) (stands_for d.rows other))
    by other true = ap Some (sym (ap (λ (z : Sizes). at_sizes z held.function) agrees.sizes_are ∙ noted))
    by other false = agrees.live other

-- a call that adds a row
module _ (d : Draws) (w : View) (r : Request) (name : Name) (cell : Cell) (generation : ℕ) (counts : sizes_in w ≡ (d.vars, d.elements, d.slots)) (new : name.generation ≡ d.adds) (holds : d.holds ≡ true) where
  abbrev held : Held
  held = held_of w cell

  noted : known_at d held.function ≡ held.function
  noted = listed-known d w counts cell.kind (values_at cell.kind w cell.edge)

  may_make : Gives d (call_of r) (makes held.function) → MayTell d (adds (call_of r) (replies.Made name) name held generation)
  may_make is_outcome = record {
    plain = refl;
    step = λ t agrees. let is = is_outcome t agrees in (
      (makes held.function, is, agrees.fresh name (omega (arith, new))),
      subst (λ (u : Table). Agrees (told_of d 0 (adds (call_of r) (replies.Made name) name held generation)) u) (sym (ap (with_result t d.session name) is)) (agrees_made d t name held generation held.function (call_of r) (replies.Made name) agrees new noted),
    );
    finds = finds_none d r;
    board = held_free d (is_post (call_of r)) holds;
    orders = held_free d (is_ordering (call_of r)) holds;
  }

  may_fetch : (posted : Bool) → Gives d (call_of r) (fetches held.function posted) → MayTell d (adds (call_of r) (replies.Fetched name posted) name held generation)
  may_fetch posted is_outcome = record {
    plain = refl;
    step = λ t agrees. let is = is_outcome t agrees in (
      (fetches held.function posted, is, (agrees.fresh name (omega (arith, new)), refl)),
      subst (λ (u : Table). Agrees (told_of d 0 (adds (call_of r) (replies.Fetched name posted) name held generation)) u) (sym (ap (with_result t d.session name) is)) (agrees_made d t name held generation held.function (call_of r) (replies.Fetched name posted) agrees new noted),
    );
    finds = finds_none d r;
    board = held_free d (is_post (call_of r)) holds;
    orders = held_free d (is_ordering (call_of r)) holds;
  }

pub may_add : (d : Draws) (w : View) (r : Request) (adding : Adding) (name : Name) (cell : Cell) (generation : ℕ) → sizes_in w ≡ (d.vars, d.elements, d.slots) → name.generation ≡ d.adds → d.holds ≡ true → AddsRow d w (call_of r) adding cell
    → MayTell d (record { call = call_of r; reply = added_as w adding name cell; change = Adds (record { name = name; held = held_of w cell; generation = generation }) })
may_add d w r Made name cell generation counts new holds gives = may_make d w r name cell generation counts new holds gives
may_add d w r (Taken posted) name cell generation counts new holds gives = may_fetch d w r name cell generation counts new holds posted gives
may_add d w r Chosen name cell generation counts new holds gives = let held = held_of w cell in record {
  plain = refl;
  step = λ t agrees. (
    (gives.outcome, gives.gives t agrees, gives.may t agrees name (agrees.fresh name (omega (arith, new)))),
    agrees_made d t name held generation held.function (call_of r) (replies.Chose name held.function) agrees new (noted d w r name cell generation counts new holds),
  );
  finds = finds_none d r;
  board = held_free d (is_post (call_of r)) holds;
  orders = held_free d (is_ordering (call_of r)) holds;
}

-- and what the seat then knows
pub knows_added : (d : Draws) (w : View) (r : Request) (adding : Adding) (name : Name) (cell : Cell) (generation : ℕ) → let x : Telling = record { call = call_of r; reply = added_as w adding name cell; change = Adds (record { name = name; held = held_of w cell; generation = generation }) } in
    KnowsAs d (told_of d 0 x) (record { name = name; held = held_of w cell; generation = generation } ∷ d.rows) d.cells
knows_added d w r adding name cell generation = record {
  rows_are = refl;
  cells_are = refl;
  others_are = refl;
  counts_are = (refl, refl, refl);
  orders_are = orders_stay (orders_of d) r (added_as w adding name cell) (record { plain = no_number w adding name cell; no_swap = λ order level a b. not_done w adding name cell b });
}

-- a call that changes nothing
abbrev pub quiet : Call → Reply → Telling
quiet call reply = record { call = call; reply = reply; change = Nothing }

pub agrees_quiet : (d : Draws) (t : Table) (call : Call) (reply : Reply) → Agrees d t → Agrees (told_of d 0 (quiet call reply)) t
agrees_quiet d t call reply agrees = record { sizes_are = agrees.sizes_are; live = agrees.live; fresh = agrees.fresh; cells = agrees.cells }

pub may_be_refused : (d : Draws) (r : Request) (in_use need : ℕ) → d.holds ≡ true → IsTrue (may_be_full (call_of r)) → MayBeFull d (call_of r) → MayTell d (quiet (call_of r) (replies.Full in_use need))
may_be_refused d r in_use need holds may is_outcome = record {
  plain = refl;
  step = λ t agrees. let o = is_outcome t agrees in ((o.0, o.1, o.2, may), agrees_quiet d t (call_of r) (replies.Full in_use need) agrees);
  finds = finds_none d r;
  board = held_free d (is_post (call_of r)) holds;
  orders = held_free d (is_ordering (call_of r)) holds;
}

-- a truth that is told
pub may_tell_truth : (d : Draws) (r : Request) (b told : Bool) → d.holds ≡ true → told ≡ b → Gives d (call_of r) (tells b) → MayTell d (quiet (call_of r) (replies.Truth told))
may_tell_truth d r b told holds is is_outcome = record {
  plain = refl;
  step = λ t agrees. ((tells b, is_outcome t agrees, is), agrees_quiet d t (call_of r) (replies.Truth told) agrees);
  finds = finds_none d r;
  board = held_free d (is_post (call_of r)) holds;
  orders = held_free d (is_ordering (call_of r)) holds;
}

pub may_show : (d : Draws) (r : Request) (x told : ℤ) → d.holds ≡ true → told ≡ x → Gives d (call_of r) (shows x) → MayTell d (quiet (call_of r) (replies.Value told))
may_show d r x told holds is is_outcome = record {
  plain = refl;
  step = λ t agrees. ((shows x, is_outcome t agrees, is), agrees_quiet d t (call_of r) (replies.Value told) agrees);
  finds = finds_none d r;
  board = held_free d (is_post (call_of r)) holds;
  orders = held_free d (is_ordering (call_of r)) holds;
}

-- a call that makes nothing
pub may_be_unmade : (d : Draws) (r : Request) (why : Why) → d.holds ≡ true → Gives d (call_of r) (outcome_unmade why) → MayTell d (quiet (call_of r) (reply_unmade why))
may_be_unmade d r unmade.Overflow holds is_outcome = record {
  plain = refl;
  step = λ t agrees. ((overflows, is_outcome t agrees, tt), agrees_quiet d t (call_of r) replies.Overflow agrees);
  finds = finds_none d r;
  board = held_free d (is_post (call_of r)) holds;
  orders = held_free d (is_ordering (call_of r)) holds;
}
may_be_unmade d r unmade.Apart holds is_outcome = record {
  plain = refl;
  step = λ t agrees. ((is_apart, is_outcome t agrees, tt), agrees_quiet d t (call_of r) replies.Apart agrees);
  finds = finds_none d r;
  board = held_free d (is_post (call_of r)) holds;
  orders = held_free d (is_ordering (call_of r)) holds;
}

pub leaves_unmade : (r : Request) (why : Why) → LeavesOrders r (reply_unmade why)
leaves_unmade r unmade.Overflow = record { plain = λ name n e. cc; no_swap = λ order level a b. cc }
leaves_unmade r unmade.Apart = record { plain = λ name n e. cc; no_swap = λ order level a b. cc }

pub may_sweep : (d : Draws) → MayTell d (quiet calls.Sweep replies.Done)
may_sweep d = record {
  plain = refl;
  step = λ t agrees. ((is_done, refl, tt), agrees_quiet d t calls.Sweep replies.Done agrees);
  finds = tt;
  board = λ _. refl;
  orders = λ _. refl;
}

pub knows_quiet : (d : Draws) (r : Request) (reply : Reply) → LeavesOrders r reply → KnowsAs d (told_of d 0 (quiet (call_of r) reply)) d.rows d.cells
knows_quiet d r reply leaves = record { rows_are = refl; cells_are = refl; others_are = refl; counts_are = (refl, refl, refl); orders_are = orders_stay (orders_of d) r reply leaves }

-- a swap of a level and the next, where there are both
swap_done : (d : Draws) (order : Order) (level : ℕ) → level + 1 < levels_in d order → Gives d (swap_call order level) is_done
swap_done d Variables level within t agrees = ap (λ (z : Sizes). when (nat_lt (level + 1) z.variables) (Some is_done)) agrees.sizes_are ∙ ap (λ b. when b (Some is_done)) (lt-ltb (level + 1) d.vars within)
swap_done d Elements level within t agrees = ap (λ (z : Sizes). when (nat_lt (level + 1) z.elements) (Some is_done)) agrees.sizes_are ∙ ap (λ b. when b (Some is_done)) (lt-ltb (level + 1) d.elements within)

pub may_swap : (d : Draws) (order : Order) (level : ℕ) → d.holds ≡ true → level + 1 < levels_in d order → MayTell d (quiet (swap_call order level) replies.Done)
may_swap d order level holds within = by order (swap_done d order level within)
  where
    by : (order : Order) → Gives d (swap_call order level) is_done → MayTell d (quiet (swap_call order level) replies.Done)
    by Variables gives = record {
      plain = refl;
      step = λ t agrees. ((is_done, gives t agrees, tt), agrees_quiet d t (swap_call Variables level) replies.Done agrees);
      finds = tt;
      board = λ _. refl;
      orders = held_free d true holds;
    }
    by Elements gives = record {
      plain = refl;
      step = λ t agrees. ((is_done, gives t agrees, tt), agrees_quiet d t (swap_call Elements level) replies.Done agrees);
      finds = tt;
      board = λ _. refl;
      orders = held_free d true holds;
    }

-- which may be refused
pub swap_refused : (d : Draws) (order : Order) (level : ℕ) → level + 1 < levels_in d order → IsTrue (may_be_full (swap_call order level)) × MayBeFull d (swap_call order level)
swap_refused d Variables level within = (refl, λ t agrees. (is_done, swap_done d Variables level within t agrees, refl))
swap_refused d Elements level within = (refl, λ t agrees. (is_done, swap_done d Elements level within t agrees, refl))

-- and whose numbers are those of a store without room for it
pub tells_crowded : (slots : ℕ) (order : Order) (level in_use need : ℕ) → in_use ≤ slots → slots < in_use + need → TellsFull slots (swap_call order level) in_use need
tells_crowded slots Variables level in_use need fits full = (fits, full)
tells_crowded slots Elements level in_use need fits full = (fits, full)

-- and what the seat then knows, whose orders are those that were exchanged
pub knows_swapped : (d : Draws) (order : Order) (level : ℕ) (o : Orders) → o ≡ orders_done (orders_of d) (swap_call order level) → KnowsAs (ordered_by d o) (told_of d 0 (quiet (swap_call order level) replies.Done)) d.rows d.cells
knows_swapped d order level o same = record { rows_are = refl; cells_are = refl; others_are = refl; counts_are = (refl, refl, refl); orders_are = sym same }

-- a post puts a function into a cell
pub may_post : (d : Draws) (i : ℕ) (a : Name) (held : Held) → d.holds ≡ true → i < CELLS → length d.cells ≡ CELLS → known_as d a ≡ Some (known_at d held.function)
    → MayTell d (record { call = calls.Post i a; reply = replies.Done; change = Posts i held })
may_post d i a held holds within len is = record {
  plain = refl;
  step = λ t agrees.
      let live : t.live d.session a ≡ Some (at_sizes t.sizes held.function) =
      agrees.live a ∙ ap (λ (z : Sizes). option_map (at_sizes z) (stands_for d.rows a)) agrees.sizes_are ∙ is ∙ ap (λ (z : Sizes). Some (at_sizes z held.function)) (sym agrees.sizes_are) in
      let there : slice_get (set d.cells i (Some held)) i ≡ Some (Some held) = get-set_same d.cells (Some held) i (omega (arith, within, len)) in
      let each : d.holds ≡ true → (k : ℕ) → cond (k == i) (t.live d.session a) (t.cells k) ≡ cell_at t.sizes (set d.cells i (Some held)) k =
      λ h k. dite (ℕ_discrete k i)
      (λ same. ap (λ b. cond b (t.live d.session a) (t.cells k)) (eq-eqb k i same) ∙ live ∙ sym (ap (λ (j : ℕ). cell_at t.sizes (set d.cells i (Some held)) j) same ∙ ap (λ o. option_map (at_sizes t.sizes) (function_in o)) there))
      (λ other. ap (λ b. cond b (t.live d.session a) (t.cells k)) (ne_eqb k i other) ∙ ap (λ (f : ℕ → Option Function). f k) (agrees.cells h).0 ∙ sym (ap (λ o. option_map (at_sizes t.sizes) (function_in o)) (get-set_other d.cells (Some held) i k other))) in (
        (
          is_done,
          ap (λ (z : Sizes). when (nat_lt i z.cells) (with_one (t.live d.session a) (λ f. is_done))) agrees.sizes_are
              ∙ ap (λ b. when b (with_one (t.live d.session a) (λ f. is_done))) (lt-ltb i CELLS within) ∙ ap (λ o. with_one o (λ f. is_done)) live,
          tt,
        ),
        record {
          sizes_are = agrees.sizes_are;
          live = agrees.live;
          fresh = agrees.fresh;
          cells = λ h. ((λ j k. each h k j), length-set d.cells i (Some held) ∙ len);
        },
      );
  finds = tt;
  board = held_free d true holds;
  orders = λ _. refl;
}
  where
    get-set_same : {X : Type 0} (xs : List X) (y : X) (i : ℕ) → i < length xs → slice_get (set xs i y) i ≡ Some y
    get-set_same [] y i below = absurd (omega arith)
    get-set_same (x ∷ xs) y zero below = refl
    get-set_same (x ∷ xs) y (suc i) below = get-set_same xs y i (omega arith)

    get-set_other : {X : Type 0} (xs : List X) (y : X) (i j : ℕ) → j ≢ i → slice_get (set xs i y) j ≡ slice_get xs j
    get-set_other [] y i j apart = refl
    get-set_other (x ∷ xs) y zero zero apart = absurd (apart refl)
    get-set_other (x ∷ xs) y zero (suc j) apart = refl
    get-set_other (x ∷ xs) y (suc i) zero apart = refl
    get-set_other (x ∷ xs) y (suc i) (suc j) apart = get-set_other xs y i j (λ e. apart (ap suc e))

-- a row is dropped
pub may_drop : (d : Draws) (a : Name) (f : Function) → stands_for d.rows a ≡ Some f → MayTell d (record { call = calls.DropRow a; reply = replies.Done; change = Takes a })
may_drop d a f is = record {
  plain = refl;
  step = λ t agrees. (
    (is_done, ap (λ o. with_one o (λ f. is_done)) (agrees.live a ∙ ap (option_map (at_sizes t.sizes)) is), tt),
    record {
      sizes_are = agrees.sizes_are;
      live = each t agrees;
      fresh = agrees.fresh;
      cells = agrees.cells;
    },
  );
  finds = tt;
  board = λ _. refl;
  orders = λ _. refl;
}
  where
    stands-without : (rows : List Row) (name : Name) → stands_for (without a rows) name ≡ cond (same_name name a) None (stands_for rows name)
    stands-without [] name = cond_none Function (same_name name a)
    stands-without (row ∷ rows) name = by (same_name row.name a) refl (same_name name row.name) refl (same_name name a) refl (stands-without rows name)
      where
        by : (p : Bool) → same_name row.name a ≡ p → (q : Bool) → same_name name row.name ≡ q → (s : Bool) → same_name name a ≡ s → stands_for (without a rows) name ≡ cond (same_name name a) None (stands_for rows name)
            → stands_for (cond (same_name row.name a) (without a rows) (row ∷ without a rows)) name ≡ cond (same_name name a) None (cond (same_name name row.name) (Some row.held.function) (stands_for rows name))
        by true gone true here true is rest = ap (λ b. stands_for (cond b (without a rows) (row ∷ without a rows)) name) gone ∙ rest ∙ ap (λ b. cond b None (stands_for rows name)) is ∙ sym (ap (λ b. cond b None (cond (same_name name row.name) (Some row.held.function) (stands_for rows name))) is)
        by true gone true here false is rest = absurd (let e : row.name ≡ a = same_name-eq row.name a gone in let x : same_name name a ≡ true = subst (λ (n : Name). same_name name n ≡ true) e here in let z : true ≡ false = sym x ∙ is in cc)
        by true gone false other s is rest = ap (λ b. stands_for (cond b (without a rows) (row ∷ without a rows)) name) gone ∙ rest ∙ sym (ap (λ b. cond (same_name name a) None (cond b (Some row.held.function) (stands_for rows name))) other)
        by false stays true here true is rest = absurd (let e : name ≡ row.name = same_name-eq name row.name here in let x : same_name row.name a ≡ true = subst (λ (n : Name). same_name n a ≡ true) e is in let z : true ≡ false = sym x ∙ stays in cc)
        by false stays true here false is rest = ap (λ b. stands_for (cond b (without a rows) (row ∷ without a rows)) name) stays ∙ ap (λ b. cond b (Some row.held.function) (stands_for (without a rows) name)) here ∙ sym (ap₂ (λ b c. cond b None (cond c (Some row.held.function) (stands_for rows name))) is here)
        by false stays false other s is rest = ap (λ b. stands_for (cond b (without a rows) (row ∷ without a rows)) name) stays ∙ ap (λ b. cond b (Some row.held.function) (stands_for (without a rows) name)) other ∙ rest ∙ sym (ap (λ b. cond (same_name name a) None (cond b (Some row.held.function) (stands_for rows name))) other)

    none_mapped : (z : Sizes) (b : Bool) (o : Option Function) → cond b None (option_map (at_sizes z) o) ≡ option_map (at_sizes z) (cond b None o)
    none_mapped z true o = refl
    none_mapped z false o = refl

    each : (t : Table) → Agrees d t → (name : Name) → cond ((d.session == d.session) && same_name name a) None (t.live d.session name) ≡ option_map (at_sizes t.sizes) (stands_for (without a d.rows) name)
    each t agrees name =
        ap (λ b. cond (b && same_name name a) None (t.live d.session name)) (eq-eqb d.session d.session refl) ∙ ap (cond (same_name name a) None) (agrees.live name)
        ∙ none_mapped t.sizes (same_name name a) (stands_for d.rows name) ∙ ap (option_map (at_sizes t.sizes)) (sym (stands-without d.rows name))

-- what a fetch finds
pub outcome-of_fetch : (d : Draws) (i : ℕ) (a : Name) (f : Function) (o : Outcome) → i < CELLS → d.holds ≡ true → known_as d a ≡ Some f → from_cell (cell_at (sizes_for d.vars d.elements) d.cells i) f ≡ o → Gives d (calls.Fetch i a) o
outcome-of_fetch d i a f o within holds is found t agrees =
    let live : t.live d.session a ≡ Some f = agrees.live a ∙ ap (λ (z : Sizes). option_map (at_sizes z) (stands_for d.rows a)) agrees.sizes_are ∙ is in
    ap (λ (z : Sizes). when (nat_lt i z.cells) (with_one (t.live d.session a) (from_cell (t.cells i)))) agrees.sizes_are
    ∙ ap (λ b. when b (with_one (t.live d.session a) (from_cell (t.cells i)))) (lt-ltb i CELLS within)
    ∙ ap (λ x. with_one x (from_cell (t.cells i))) live
    ∙ ap (λ (cells : ℕ → Option Function). Some (from_cell (cells i) f)) (agrees.cells holds).0
    ∙ ap (λ (z : Sizes). Some (from_cell (cell_at z d.cells i) f)) agrees.sizes_are
    ∙ ap Some found

-- refused calls

-- a telling gives the names that its reply has
pub counted_answer : (w : View) (answer : Answer) → names_by (change_of w answer) ≡ names_in (reply_of w answer)
counted_answer w (Added Made name cell generation) = refl
counted_answer w (Added Chosen name cell generation) = refl
counted_answer w (Added (Taken posted) name cell generation) = refl
counted_answer w (Posted i cell) = refl
counted_answer w (Truth told) = refl
counted_answer w (Value x) = refl
counted_answer w Done = refl
counted_answer w (Unmade unmade.Overflow) = refl
counted_answer w (Unmade unmade.Apart) = refl
counted_answer w (Full in_use need) = refl

pub is_full-reply : (w : View) (answer : Answer) → is_full (reply_of w answer) ≡ is_refusal answer
is_full-reply w (Added Made name cell generation) = refl
is_full-reply w (Added Chosen name cell generation) = refl
is_full-reply w (Added (Taken posted) name cell generation) = refl
is_full-reply w (Posted i cell) = refl
is_full-reply w (Truth told) = refl
is_full-reply w (Value x) = refl
is_full-reply w Done = refl
is_full-reply w (Unmade unmade.Overflow) = refl
is_full-reply w (Unmade unmade.Apart) = refl
is_full-reply w (Full in_use need) = refl

pub fulls-append : (es : List Entry) (e : Entry) → fulls_in (es ++ e ∷ []) ≡ fulls_in es + is_full e.reply
fulls-append [] e = omega arith
fulls-append (x ∷ es) e = let r = fulls-append es e in omega (arith, r)

is_full-most : (r : Reply) → is_full r ≤ 1
is_full-most (replies.Made name) = omega arith
is_full-most (replies.Chose name g) = omega arith
is_full-most (replies.Fetched name posted) = omega arith
is_full-most (replies.Numbered name n) = omega arith
is_full-most replies.Done = omega arith
is_full-most (replies.Truth b) = omega arith
is_full-most (replies.Value z) = omega arith
is_full-most replies.Overflow = omega arith
is_full-most replies.Apart = omega arith
is_full-most replies.Most = omega arith
is_full-most (replies.Full a b) = omega arith

pub fulls-most : (es : List Entry) → fulls_in es ≤ length es
fulls-most [] = omega arith
fulls-most (e ∷ es) = let a = is_full-most e.reply in let b = fulls-most es in omega (arith, a, b)

pub refusal-most : (answer : Answer) → is_refusal answer ≤ 1
refusal-most (Added adding name cell generation) = omega arith
refusal-most (Posted i cell) = omega arith
refusal-most (Truth told) = omega arith
refusal-most (Value x) = omega arith
refusal-most Done = omega arith
refusal-most (Unmade why) = omega arith
refusal-most (Full in_use need) = omega arith

-- a turn in which a place was drawn
pub drew_turn : (d told left : Draws) (y : Shared) (x : Telling) (place : ℕ) → MayTell d x → names_by x.change ≡ names_in x.reply → All (λ (e : Entry). e.place < place) d.entries → told ≡ told_of d place x → (l : Leaving) × (left ≡ letting_go told l) × IsLeaving told y l → Drew d left y x place
drew_turn d told left y x place may counted later is gave = record {
  may = may;
  counted = counted;
  later = later;
  leaving = gave.0;
  is_leaving = by (subst (λ (t : Draws). IsLeaving t y gave.0) is gave.2);
  left = gave.1 ∙ ap (λ (t : Draws). letting_go t gave.0) is;
}
  where
    by : IsLeaving (told_of d place x) y gave.0 → IsLeaving d y gave.0
    by l = record { told = l.told; new = l.new; due_is = l.due_is }

-- what the cell's edge denotes is kept
pub row-kept : (x : Shared) (cell : Cell) → Is cell.kind (view_of x) cell.edge → keeps x (held_of (view_of x) cell)
row-kept x cell is =
    subst (λ (k : Kind). Is k (view_of x) cell.edge × (listed_at k (view_of x) cell.edge ≡ noted_in (view_of x) (listed_at cell.kind (view_of x) cell.edge))) (sym (kind-listed cell.kind (view_of x) (values_at cell.kind (view_of x) cell.edge)))
    (is, sym (listed-noted cell.kind (view_of x) (values_at cell.kind (view_of x) cell.edge) (sizes_for (view_of x).vars (view_of x).elements) refl refl))

-- a row in memory is the one that the seat knows
pub held-row : (w : View) (cell : Cell) (name : Name) (old new : List Live) → IsWithOne old (record { name = name; kind = cell.kind; edge = cell.edge }) new → IsWithOne old (live_as name (held_of w cell)) new
held-row w cell name old new one = subst (λ (k : Kind). IsWithOne old (record { name = name; kind = k; edge = cell.edge }) new) (sym (kind-listed cell.kind w (values_at cell.kind w cell.edge))) one

-- what was due is what the store denotes by it
pub due_denoted : (x : Shared) (f : Function) → due x ≡ Some f → (o : Denoted) × ((view_of x).due ≡ Some o)
due_denoted x f is = by (view_of x).due refl is
  where
    by : (o : Option Denoted) → (view_of x).due ≡ o → Rattle.std.specs.Prelude.option_map (whole_of (view_of x)) o ≡ Some f → (o : Denoted) × ((view_of x).due ≡ Some o)
    by None at e = absurd (let z : None ≡ Some f = e in cc)
    by (Some o) at e = (o, at)

-- a post changes a cell
pub knows_posted : (d : Draws) (w : View) (i : ℕ) (a : Name) (cell : Cell) → KnowsAs d (told_of d 0 (record { call = calls.Post i a; reply = replies.Done; change = Posts i (held_of w cell) })) d.rows (set d.cells i (Some (held_of w cell)))
knows_posted d w i a cell = record { rows_are = refl; cells_are = refl; others_are = refl; counts_are = (refl, refl, refl); orders_are = refl }

-- what a new row is told as
pub added-told : (d d' : Draws) (call : Call) (adding : Adding) (name : Name) (w : View) (place : ℕ) (cell : Cell) → Told d d' call (added_as w adding name cell) place → IsAdded d d' call adding name place
added-told d d' call Made name w place cell told = told
added-told d d' call Chosen name w place cell told = (listed_at cell.kind w cell.edge, told)
added-told d d' call (Taken posted) name w place cell told = told

-- and is a row's
pub is_adding : (w : View) (adding : Adding) (name : Name) (cell : Cell) (generation : ℕ) → IsChangeOf (Adds (record { name = name; held = held_of w cell; generation = generation })) (calls.Sweep) (added_as w adding name cell)
is_adding w Made name cell generation = inl refl
is_adding w Chosen name cell generation = inr (inl (listed_at cell.kind w cell.edge, refl))
is_adding w (Taken posted) name cell generation = inr (inr (posted, refl))

-- a place that was drawn by a seat whose counts changed meanwhile
pub added_drew : (p q : Pass Shared) (e : Draws) (y : Shared) (x : Telling) (place : ℕ) → known q ≡ known p → Drew (known q) e y x place → Drew (known p) e y x place
added_drew p q e y x place same drew = subst (λ (d : Draws). Drew d e y x place) same drew
