-- What the calls of a session leave of it, as one that builds functions is seen.
use Rattle.std.proofs.Common.{◌≡◌, ℕ, ◌<◌, ◌^◌, Bool, true, false, List, [], ◌∷◌, ◌++◌, ◌+◌, ℤ, pos, cond, ◌||◌, Option, option_map, Some, None, Result, Ok, Err, IfOk, IfErr, MatchResult, length, map, take_all, eq-eqb, refl, ap, ap₂, sym, subst, ◌∙◌, arith}
use Rattle.std.proofs.lemmas.List.{map-append}
use Rattle.std.proofs.lemmas.List.Elements.{All-cons, All-nil}
use Rattle.diagram_dumps.specs.declared.listings.Listing.{Listing}
use Rattle.edge_bits.specs.declared.limits.TheConstants.{MOST_ROWS}
use Rattle.edge_bits.specs.declared.edges.Kind.{Kind}
use Rattle.edge_bits.specs.declared.edges.Kind.TheVariants as kinds
use Rattle.edge_bits.specs.declared.Memory.{Memory}
use Rattle.edge_bits.specs.Words.{digit}
use Rattle.function_laws.specs.declared.history.Call.{Call}
use Rattle.function_laws.specs.declared.history.Call.TheVariants as calls
use Rattle.function_laws.specs.declared.making.Making.TheVariants as makings
use Rattle.function_laws.specs.declared.making.BddMaking.TheVariants as bdds
use Rattle.function_laws.specs.declared.history.Entry.{Entry}
use Rattle.function_laws.specs.declared.history.Function.{Function}
use Rattle.function_laws.specs.declared.history.Function.TheVariants.{Bdd, Add, Zdd}
use Rattle.function_laws.specs.declared.history.Name.{Name}
use Rattle.function_laws.specs.declared.history.Reply.{Reply}
use Rattle.function_laws.specs.Tables.{Sizes}
use Rattle.function_laws.specs.Widening.{at_sizes}
use Rattle.seat_guard.specs.declared.view.Row.{Row}
use Rattle.seat_guard.specs.Views.{stands_for}
use Rattle.function_laws.specs.declared.history.Reply.TheVariants as replies
use Rattle.function_laws.specs.Handovers.{posts_to}
use Rattle.function_laws.specs.Functions.{and_of, ite_of, not_of, or_of}
use Rattle.function_laws.specs.Lists.{list_of, truth}
use Rattle.function_laws.specs.SessionEntries.{entry}
use Rattle.function_laws.specs.Outcomes.{as_bdd, makes, with_one, with_three, with_two}
use Rattle.function_laws.specs.Steps.{TellsFull, outcome}
use Rattle.function_laws.specs.Values.{assignment_of, conjunction, constant, disjunction, if_then_else, negation, projection}
use Rattle.function_laws.proofs.BridgeLemmas.{and_of-list_of, ite_of-list_of, not_of-list_of, place_two-list_of}
use Rattle.function_laws.proofs.StepLemmas.{outcome-var}
use Rattle.function_laws.specs.declared.orders.Order.TheVariants.{Variables}
use Rattle.function_laws.specs.Kinds.{Denoted, BddFunction, AddFunction, ZddFamily}
use Rattle.function_laws.specs.SiftedOrders.{sifted}
use Rattle.function_laws.specs.Sizes.{Orders}
use Rattle.node_store.specs.Sweeps.{root_functions}
use Rattle.group_sift.specs.declared.sifting.Sifted.{Sifted}
use Rattle.group_sift.specs.Turns.{one_block}
use Rattle.sift_laws.specs.Alike.{whole_block}
use Rattle.shared_store.specs.Sharing as store
use Rattle.dd_session.specs.Siftings.{SiftsLevels}
use Rattle.dd_session.specs.declared.answers.Full.{Full}
use Rattle.dd_session.specs.declared.answers.Placed.{Placed}
use Rattle.dd_session.specs.declared.answers.Refusal.{Refusal}
use Rattle.dd_session.specs.declared.answers.Refusal.TheVariants as refusals
use Rattle.dd_session.specs.Listings.{IsListed}
use Rattle.dd_session.specs.Sessions.{Called, Denies, HasRoom, IsAsBefore, IsLive as IsRow, IsLiveAs, Managed, Seen, kind_of, stands_now, variables_in}
use Rattle.dd_session.proofs.SessionLaws.{dropped_stays, evaluated_as, full_stays, live_now, made_as, posted_stays, table_of, valued_stays}
use Rattle.net_builds.specs.declared.host.HostRefusal.{HostRefusal}
use Rattle.net_builds.specs.Standings.{Asks, Fetches, IsHeld, IsLive, IsQuiet, LetsGo, Lists, Makes, Note, Posts, Sifts, Standing, Works, values_of, whole_in}
use Rattle.net_builds.specs.Asked.{ComesBack}
use Rattle.net_builds.proofs.StandingLemmas.{gains_none}
use Rattle.net_jobs.specs.Hosts.{IsSessionOf, TellsFullOf, named_by, note_of, standing_of}
use Rattle.net_jobs.proofs.CallLaws.{given, left}
use Rattle.net_jobs.proofs.CoverLemmas.{name-apart}
use Rattle.net_jobs.proofs.OutcomeKinds.{IsOfKind, fetch-kind, is_plain, kind_or}

-- a name that stands for a list of truth values is that of a row, and so is one that stands for a function
pub live_is_bdd : (s : Seen) (name : Name) → IsLive (standing_of s) name → IsLiveAs kinds.Bdd s name
live_is_bdd s name live = live_now kinds.Bdd s name (Bdd live.0) live.1 refl

pub live_is_row : (s : Seen) (name : Name) → IsLive (standing_of s) name → IsRow s name
live_is_row s name live = (kinds.Bdd, live_is_bdd s name live)

pub held_is_bdd : (s : Seen) (name : Name) → IsHeld (standing_of s) name → IsLiveAs kinds.Bdd s name
held_is_bdd s name held = live_now kinds.Bdd s name (Bdd (list_of (2 ^ variables_in s) held.0)) held.1.stands refl

pub held_is_row : (s : Seen) (name : Name) → IsHeld (standing_of s) name → IsRow s name
held_is_row s name held = (kinds.Bdd, held_is_bdd s name held)

-- a session that has few rows and has made few calls may make one more
pub has_room : (s : Seen) → length s.rows < MOST_ROWS → length s.entries < 2 ^ 47 → HasRoom s
has_room s rows calls = (rows, omega (arith, calls))

-- a call leaves as many variables as the session knew
variables_stay : (old new : Seen) (call : Call) (reply : Reply) (place : ℕ) → Called old new call reply place → variables_in new ≡ variables_in old
variables_stay old new call reply place called = ap₂ (λ (n : ℕ) (m : Managed). n + m.vars) called.more_are.0 called.manager_is

-- a call has what there was at its place
placed_more : (old new : Seen) (call : Call) (reply : Reply) (place : ℕ) (called : Called old new call reply place) → (standing_of new).placed ≡ (standing_of old).placed ++ note_of called.note ∷ []
placed_more old new call reply place called = ap (map note_of) called.placed_are ∙ map-append note_of old.placed (called.note ∷ [])

stood_there : (old new : Seen) (call : Call) (reply : Reply) (place : ℕ) (called : Called old new call reply place) (name : Name) → (note_of called.note).stands name ≡ stands_now old name
stood_there old new call reply place called name = ap₂ (λ (z : Sizes) (rows : List Row). option_map (at_sizes z) (stands_for rows name)) called.sizes_are called.rows_noted

notes_kept : (old new : Seen) → new.noted ≡ old.noted → (standing_of new).notes ≡ (standing_of old).notes
notes_kept old new is = λ i. (standing_of (record old { noted = is i })).notes

-- and is of its manager still
pub still_own : (m : Managed) (old new : Seen) (call : Call) (reply : Reply) (place : ℕ) → Called old new call reply place → IsSessionOf m old → IsSessionOf m new
still_own m old new call reply place called own = record {
  own = called.manager_is ∙ own.own;
  none_added = called.more_are.0 ∙ own.none_added;
}

-- the entry of a call that was refused, as all slots were in use
pub told_full : (m : Managed) (old : Seen) (call : Call) (full : Full) → old.manager ≡ m → full.limit ≡ old.manager.limit → full.in_use ≡ old.manager.limit
    → TellsFullOf m full (entry full.place old.number call (replies.Full full.in_use full.need))
told_full m old call full own limit in_use = record {
  place_is = refl;
  reply_is = refl;
  in_use = in_use ∙ ap (λ (x : Managed). x.limit) own;
  limit = limit ∙ ap (λ (x : Managed). x.limit) own;
}

module _ (old new : Seen) (call : Call) where
  -- a call that neither posts nor adds a variable
  module _ (reply : Reply) (place : ℕ) (called : Called old new call reply place) where
    pub works : IsQuiet (entry place old.number call reply) → Works (standing_of old) (standing_of new)
    works quiet = record {
      vars_are = variables_stay old new call reply place called;
      number_is = called.number_is;
      notes_are = notes_kept old new called.noted_are;
      gained = entry place old.number call reply ∷ [];
      entries_are = called.entries_are;
      each = All-cons IsQuiet (entry place old.number call reply) [] quiet (All-nil IsQuiet);
      more = omega (arith, called.adds_are);
      behind = note_of called.note ∷ [];
      placed_are = placed_more old new call reply place called;
    }

  -- a call that made a BDD
  module _ (name : Name) (place : ℕ) (called : Called old new call (replies.Made name) place) (plain : is_plain call ≡ true) (posts : (cell : ℕ) → posts_to cell call ≡ false) where
    pub made : (f : ℕ → Bool) → outcome (table_of old called.board) old.number call ≡ Some (makes (Bdd (list_of (2 ^ variables_in old) f))) → Makes (standing_of old) (standing_of new) name f
    made f is =
        let gave = given old new call (replies.Made name) place called name plain refl in
        record {
          works = works (replies.Made name) place called (record { plain = refl; posts = posts; keeps = λ orders. refl });
          holds = record {
            stands = made_as old new call name place called (Bdd (list_of (2 ^ variables_in old) f)) is ∙ ap (λ n. values_of n f) (sym (variables_stay old new call (replies.Made name) place called));
            given = omega (arith, gave.generation, called.adds_are);
          };
          newer = omega (arith, gave.generation);
          kept = λ other below. gave.others other (name-apart other name (λ same. omega (arith, same, below, gave.generation)));
          rows = called.few;
        }

  -- what such a call was answered
  abbrev Tells : Result (Placed Name) Refusal → Type 0
  Tells told = MatchResult told (λ placed. Called old new call (replies.Made placed.value) placed.place) (Denies old new call)

  module _ (told : Result (Placed Name) Refusal) (tells : Tells told) (result : Result Name (HostRefusal Full)) (is : result ≡ named_by told) where
    -- what each name has that the call may have made
    pub named_ok : (P : Name → Type 0) → ((name : Name) (place : ℕ) → Called old new call (replies.Made name) place → P name) → IfOk result P
    named_ok P holds = subst (λ r. IfOk r P) (sym is) (by told tells)
      where
        by : (told : Result (Placed Name) Refusal) → Tells told → IfOk (named_by told) P
        by (Ok placed) called = holds placed.value placed.place called
        by (Err refusal) denies = tt

    -- what it leaves, where a refusal tells that all slots were in use
    module _ {M : Type 0} (has : M → Seen → Type 0) (tells_of : M → Full → Entry → Type 0) (manager : M) (own : has manager new) (plain : is_plain call ≡ true) (posts : (cell : ℕ) → posts_to cell call ≡ false)
        (caused : (full : Full) → full.limit ≡ old.manager.limit → TellsFull old.manager.limit call full.in_use full.need → tells_of manager full (entry full.place old.number call (replies.Full full.in_use full.need))) where
      abbrev Back : Result Name (HostRefusal Full) → Type 0
      Back r = ComesBack has standing_of tells_of manager old new r

      pub named_back : Back result
      unfolding works
      named_back = subst Back (sym is) (by told tells)
        where
          by : (told : Result (Placed Name) Refusal) → Tells told → Back (named_by told)
          by (Ok placed) called =
              let gave = given old new call (replies.Made placed.value) placed.place called placed.value plain refl in
              record {
                own = own;
                works = works (replies.Made placed.value) placed.place called (record { plain = refl; posts = posts; keeps = λ orders. refl });
                kept = λ other below. gave.others other (name-apart other placed.value (λ same. omega (arith, same, below, gave.generation)));
                few = called.few;
                rows = tt;
                caused = tt;
              }
          by (Err refusals.Memory) denies =
              let same : standing_of new ≡ standing_of old = ap standing_of denies.0 in
              record {
                own = own;
                works = subst (Works (standing_of old)) (sym same) (gains_none IsQuiet (standing_of old));
                kept = λ other below. ap (λ (t : Standing). t.stands other) same;
                few = (let rows = ap (λ (t : Standing). t.rows) same in omega (arith, rows));
                rows = (let rows = ap (λ (t : Standing). t.rows) same in omega (arith, rows));
                caused = tt;
              }
          by (Err (refusals.Full full)) (called, limit, tells) = record {
            own = own;
            works = works (replies.Full full.in_use full.need) full.place called (record { plain = refl; posts = posts; keeps = λ orders. refl });
            kept = λ other below. full_stays old new call full.in_use full.need full.place called other;
            few = omega (arith, called.few);
            rows = omega (arith, called.few);
            caused = (entry full.place old.number call (replies.Full full.in_use full.need), (0, omega arith, refl), caused full limit tells);
          }

  -- the session is still one of its manager
  pub named_own : (m : Managed) (told : Result (Placed Name) Refusal) → Tells told → IsSessionOf m old → IsSessionOf m new
  named_own m (Ok placed) called own = still_own m old new call (replies.Made placed.value) placed.place called own
  named_own m (Err refusals.Memory) denies own = record {
    own = ap (λ (s : Seen). s.manager) denies.0 ∙ own.own;
    none_added = ap (λ (s : Seen). s.more_variables) denies.0 ∙ own.none_added;
  }
  named_own m (Err (refusals.Full full)) denies own = still_own m old new call (replies.Full full.in_use full.need) full.place denies.0 own

  -- a call that is refused for want of memory alone
  pub denied : (told : Result (Placed Name) Refusal)
      → MatchResult told (λ placed. Called old new call (replies.Made placed.value) placed.place) (λ refusal. (refusal ≡ refusals.Memory) × Denies old new call refusal) → Tells told
  denied (Ok placed) called = called
  denied (Err refusal) denies = denies.1

-- what comes of the calls, in a table in which the session is seen
module _ (s : Seen) (board : ℕ → Option Function) where
  abbrev size : ℕ
  size = 2 ^ variables_in s

  -- a name that stands for the function f
  abbrev Stands : Name → (ℕ → Bool) → Type 0
  Stands name f = stands_now s name ≡ Some (Bdd (list_of size f))

  in_table : (name : Name) (f : Function) → stands_now s name ≡ Some f → (table_of s board).live s.number name ≡ Some f
  in_table name f stands = ap (λ b. cond b (stands_now s name) None) (eq-eqb s.number s.number refl) ∙ stands

  pub outcome-one : (value : Bool) → value ≡ true → outcome (table_of s board) s.number (calls.Makes (makings.Bdd bdds.One)) ≡ Some (makes (Bdd (list_of size (constant value))))
  outcome-one value is = ap (λ b. Some (makes (Bdd (list_of size (constant b))))) (sym is)

  pub outcome-zero : (value : Bool) → value ≡ false → outcome (table_of s board) s.number (calls.Makes (makings.Bdd bdds.Zero)) ≡ Some (makes (Bdd (list_of size (constant value))))
  outcome-zero value is = ap (λ b. Some (makes (Bdd (list_of size (constant b))))) (sym is)

  pub outcome-projection : (v : ℕ) → v < variables_in s → outcome (table_of s board) s.number (calls.Makes (makings.Bdd (bdds.Var v))) ≡ Some (makes (Bdd (list_of size (projection v))))
  outcome-projection v below = outcome-var (table_of s board) s.number v below

  pub outcome-complement : (a : Name) (f : ℕ → Bool) → Stands a f → outcome (table_of s board) s.number (calls.Makes (makings.Bdd (bdds.Not a))) ≡ Some (makes (Bdd (list_of size (negation f))))
  outcome-complement a f stands = ap (λ o. with_one (as_bdd o) (λ x. makes (Bdd (not_of x)))) (in_table a (Bdd (list_of size f)) stands) ∙ ap (λ x. Some (makes (Bdd x))) (not_of-list_of size f)

  module _ (a b : Name) (f g : ℕ → Bool) (first : Stands a f) (second : Stands b g) where
    pub outcome-conjunction : outcome (table_of s board) s.number (calls.Makes (makings.Bdd (bdds.And a b))) ≡ Some (makes (Bdd (list_of size (conjunction f g))))
    outcome-conjunction =
        ap₂ (λ o p. with_two (as_bdd o) (as_bdd p) (λ x y. makes (Bdd (and_of x y)))) (in_table a (Bdd (list_of size f)) first) (in_table b (Bdd (list_of size g)) second)
        ∙ ap (λ x. Some (makes (Bdd x))) (and_of-list_of size f g)

    pub outcome-disjunction : outcome (table_of s board) s.number (calls.Makes (makings.Bdd (bdds.Or a b))) ≡ Some (makes (Bdd (list_of size (disjunction f g))))
    outcome-disjunction =
        ap₂ (λ o p. with_two (as_bdd o) (as_bdd p) (λ x y. makes (Bdd (or_of x y)))) (in_table a (Bdd (list_of size f)) first) (in_table b (Bdd (list_of size g)) second)
        ∙ ap (λ x. Some (makes (Bdd x))) (place_two-list_of (λ x y. x || y) size f g)

  module _ (a b c : Name) (f g h : ℕ → Bool) (first : Stands a f) (second : Stands b g) (third : Stands c h) where
    pub outcome-choice : outcome (table_of s board) s.number (calls.Makes (makings.Bdd (bdds.Ite a b c))) ≡ Some (makes (Bdd (list_of size (if_then_else f g h))))
    outcome-choice =
        ap₂ (λ o p. with_three (as_bdd o) (as_bdd p) (as_bdd ((table_of s board).live s.number c)) (λ x y z. makes (Bdd (ite_of x y z))))
        (in_table a (Bdd (list_of size f)) first) (in_table b (Bdd (list_of size g)) second)
        ∙ ap (λ o. with_one (as_bdd o) (λ z. makes (Bdd (ite_of (list_of size f) (list_of size g) z)))) (in_table c (Bdd (list_of size h)) third)
        ∙ ap (λ x. Some (makes (Bdd x))) (ite_of-list_of size f g h)

-- what a slot denotes, as a whole list
whole_same : (n m : ℕ) (f : Denoted) → store.whole_in n m f ≡ whole_in n m f
whole_same n m (BddFunction f) = refl
whole_same n m (AddFunction f) = refl
whole_same n m (ZddFamily p) = refl

module _ (old new : Seen) where
  pub lets_go : (a : Name) (place : ℕ) → Called old new (calls.DropRow a) replies.Done place → length new.rows + 1 ≡ length old.rows → LetsGo (standing_of old) (standing_of new) a
  unfolding works
  lets_go a place called fewer = record {
    works = works old new (calls.DropRow a) replies.Done place called (record { plain = refl; posts = λ cell. refl; keeps = λ orders. refl });
    done = All-cons (λ (e : Entry). e.reply ≡ replies.Done) (entry place old.number (calls.DropRow a) replies.Done) [] refl (All-nil (λ (e : Entry). e.reply ≡ replies.Done));
    kept = λ other apart. dropped_stays old new a place called other (name-apart other a apart);
    rows = fewer;
  }

  -- the value of a function is asked for
  module _ (a : Name) (bits : List Bool) (told : ℤ) (place : ℕ) (called : Called old new (calls.Eval a bits) (replies.Value told) place) where
    pub asks : Asks (standing_of old) (standing_of new)
    asks = record {
      works = works old new (calls.Eval a bits) (replies.Value told) place called (record { plain = refl; posts = λ cell. refl; keeps = λ orders. refl });
      kept = valued_stays old new (calls.Eval a bits) told place called;
      rows = omega (arith, called.few);
    }

    pub valued : length bits ≡ variables_in old → (f : List Bool) → stands_now old a ≡ Some (Bdd f) → told ≡ pos (digit (truth f (assignment_of bits)))
    valued long f stands = evaluated_as old new a bits told place called (Bdd f) stands ∙ ap (λ bs. pos (digit (truth f (assignment_of bs)))) (take_all (variables_in old) bits (omega (arith, long)))

  pub posts : (cell : ℕ) (a : Name) (place : ℕ) → Called old new (calls.Post cell a) replies.Done place → Posts cell (standing_of old) (standing_of new) a place
  posts cell a place called = record {
    vars_are = variables_stay old new (calls.Post cell a) replies.Done place called;
    number_is = called.number_is;
    notes_are = notes_kept old new called.noted_are;
    adds_are = omega (arith, called.adds_are);
    rows = omega (arith, called.few);
    entries_are = called.entries_are;
    later = called.later;
    note = note_of called.note;
    place_is = called.place_is;
    stood = stood_there old new (calls.Post cell a) replies.Done place called;
    placed_are = placed_more old new (calls.Post cell a) replies.Done place called;
    kept = posted_stays old new cell a place called;
  }

  is_bdd : (f : Function) → kind_of f ≡ kinds.Bdd → (g : List Bool) × (f ≡ Bdd g)
  is_bdd (Bdd g) is = (g, refl)
  is_bdd (Add g) is = cc
  is_bdd (Zdd g) is = cc

  pub fetches : (cell : ℕ) (other to : Name) (posted : Bool) (place : ℕ) → Called old new (calls.Fetch cell other) (replies.Fetched to posted) place → IsLive (standing_of old) other
      → Fetches cell (standing_of old) (standing_of new) other to posted place
  fetches cell other to posted place called live =
      let gave = given old new (calls.Fetch cell other) (replies.Fetched to posted) place called to refl refl in
      let bdd = is_bdd gave.function (gave.kind kinds.Bdd (λ z cells o at. subst (λ (k : Kind). IsOfKind k o) (ap kind_or live.1) (fetch-kind z cells (stands_now old) cell other o at))) in
      record {
        vars_are = variables_stay old new (calls.Fetch cell other) (replies.Fetched to posted) place called;
        number_is = called.number_is;
        notes_are = notes_kept old new called.noted_are;
        more = omega (arith, called.adds_are);
        entries_are = called.entries_are;
        behind = note_of called.note ∷ [];
        placed_are = placed_more old new (calls.Fetch cell other) (replies.Fetched to posted) place called;
        newer = omega (arith, gave.generation);
        held = (bdd.0, gave.stands ∙ ap Some bdd.1, omega (arith, gave.generation, called.adds_are));
        kept = λ name below. gave.others name (name-apart name to (λ same. omega (arith, same, below, gave.generation)));
        rows = called.few;
      }

  -- a sift of the variables
  pub sifts : (limit : ℕ) (result : Placed Sifted) → SiftsLevels Variables (one_block (variables_in old)) old new result → limit ≡ old.manager.limit → Sifts limit (standing_of old) (standing_of new) result.place
  sifts limit result is limit_is =
      let called = is.told in
      let told = is.sifting in
      let sift = is.sift in
      record {
        vars_are = variables_stay old new (calls.Sift told) replies.Done result.place called;
        number_is = called.number_is;
        notes_are = notes_kept old new called.noted_are;
        adds_are = omega (arith, called.adds_are);
        rows = omega (arith, called.few);
        told = told;
        sift = record {
          elements = sift.seen.elements;
          pinned = root_functions sift.before sift.is_sifted.is_root;
          functions_are = sift.functions_are ∙ (λ i. map (λ f. whole_same sift.seen.vars sift.seen.elements f i) (root_functions sift.before sift.is_sifted.is_root))
              ∙ ap (λ n. map (whole_in n sift.seen.elements) (root_functions sift.before sift.is_sifted.is_root)) sift.has.vars;
          order_is = sift.order_is ∙ ap (λ (o : Orders). o.variables) sift.is_sifted.orders
              ∙ (λ i. (sifted (record { variables = sym sift.variables_are i; elements = sym sift.elements_are i }) Variables (whole_block (variables_in old)) ((sift.limit_is ∙ sym limit_is) i) (root_functions sift.before sift.is_sifted.is_root)).order);
        };
        entries_are = called.entries_are;
        later = called.later;
        note = note_of called.note;
        place_is = called.place_is;
        stood = stood_there old new (calls.Sift told) replies.Done result.place called;
        placed_are = placed_more old new (calls.Sift told) replies.Done result.place called;
        kept = left old new (calls.Sift told) replies.Done result.place called refl;
      }

  pub lists : (names : List Name) (listing : Listing) → IsListed old new names listing → Lists (standing_of old) (standing_of new) names listing
  lists names listing is =
      let noted : note_of is.note ≡ record { place = is.note.place; order = listing.order; stands = stands_now old } =
      λ i. record { place = is.note.place; order = sym is.order_is i; stands = λ name. option_map (at_sizes (is.sizes_are i)) (stands_for (is.rows_noted i) name) } in
      record {
        place = is.note.place;
        new_is = ap standing_of is.new_is ∙ ap (λ (notes : List Note). record (standing_of old) { notes = notes })
            (map-append note_of old.noted (is.note ∷ []) ∙ ap (λ (note : Note). (standing_of old).notes ++ note ∷ []) noted);
        later = is.later;
        functions = is.lists.functions;
        stand = is.lists.stand;
        wide = is.lists.wide;
        is_listing = is.lists.is_listing;
      }

  module _ (names : List Name) (result : Result Listing Memory) (told : MatchResult result (IsListed old new names) (λ _. IsAsBefore old new)) where
    pub listed : IfOk result (Lists (standing_of old) (standing_of new) names)
    listed = by result told
      where
        by : (result : Result Listing Memory) → MatchResult result (IsListed old new names) (λ _. IsAsBefore old new) → IfOk result (Lists (standing_of old) (standing_of new) names)
        by (Ok listing) is = lists names listing is
        by (Err memory) is = tt

    -- want of memory leaves what is seen
    pub listed_same : IfErr result (λ _. standing_of new ≡ standing_of old)
    listed_same = by result told
      where
        by : (result : Result Listing Memory) → MatchResult result (IsListed old new names) (λ _. IsAsBefore old new) → IfErr result (λ _. standing_of new ≡ standing_of old)
        by (Ok listing) is = tt
        by (Err memory) is = ap standing_of is.0

    pub listed_own : (m : Managed) → IsSessionOf m old → IsSessionOf m new
    listed_own m own = by result told
      where
        by : (result : Result Listing Memory) → MatchResult result (IsListed old new names) (λ _. IsAsBefore old new) → IsSessionOf m new
        by (Ok listing) is = record {
          own = ap (λ (s : Seen). s.manager) is.new_is ∙ own.own;
          none_added = ap (λ (s : Seen). s.more_variables) is.new_is ∙ own.none_added;
        }
        by (Err memory) is = record {
          own = ap (λ (s : Seen). s.manager) is.0 ∙ own.own;
          none_added = ap (λ (s : Seen). s.more_variables) is.0 ∙ own.none_added;
        }
