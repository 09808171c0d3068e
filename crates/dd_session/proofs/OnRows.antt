-- The calls on the rows of a session alone: what they may tell, and what they are for their caller.
use Rattle.std.proofs.Common.{◌≡◌, ◌↔◌, ℕ, ◌+◌, ◌<◌, Bool, true, false, cond, List, [], ◌∷◌, Some, None, option_map, option_and_then, IsTrue, refl, ap, ap₂, sym, subst, ◌∙◌, arith, true≢false, eq-eqb, eqb}
use Rattle.std.specs.Bool.{beq}
use Rattle.atomic_table.specs.Seated.{TableId}
use Rattle.edge_bits.specs.declared.edges.Edge.{Edge}
use Rattle.edge_bits.specs.Words.{word_of_edge}
use Rattle.edge_bits.proofs.EdgeLemmas.{words_same}
use Rattle.node_slots.proofs.Canonical.{edge_is}
use Rattle.std.proofs.lemmas.Bool.{eqb-true}
use Rattle.edge_bits.specs.declared.edges.Kind.{Kind}
use Rattle.function_laws.specs.declared.history.Name.{Name}
use Rattle.function_laws.specs.declared.history.Function.{Function}
use Rattle.function_laws.specs.declared.history.Function.TheVariants.{Bdd, Add, Zdd}
use Rattle.function_laws.specs.declared.history.Call.TheVariants as calls
use Rattle.function_laws.specs.declared.history.Reply.TheVariants as replies
use Rattle.function_laws.specs.Outcomes.{compares, makes, when, with_one}
use Rattle.function_laws.specs.Steps.{outcome, same_kind, with_result}
use Rattle.function_laws.specs.Tables.{Sizes, Table, same_name}
use Rattle.function_laws.specs.Widening.{at_sizes}
use Rattle.seat_guard.specs.declared.view.Change.TheVariants.{Takes}
use Rattle.seat_guard.specs.declared.view.Counts.{Counts}
use Rattle.seat_guard.specs.declared.view.Draws.{Draws}
use Rattle.seat_guard.specs.declared.view.Held.{Held}
use Rattle.seat_guard.specs.declared.view.Row.{Row}
use Rattle.seat_guard.specs.declared.view.Telling.{Telling}
use Rattle.seat_guard.specs.CountPlays.{HasRow}
use Rattle.seat_guard.specs.Known.{known_at, sizes_for}
use Rattle.handle_count.specs.declared.rows.Held.{Held as Live}
use Rattle.handle_count.specs.RowMaps.{IsWithOne, RowMap, find_row}
use Rattle.seat_guard.specs.Tallies.{counts_after, held_count, named, one_if, paid}
use Rattle.seat_guard.specs.Views.{Agrees, MayTell, note_with, stands_for, told_of, told_with}
use Rattle.shared_store.specs.Sharing.{kind_of}
use Rattle.dd_session.specs.declared.request.Alone.{Alone}
use Rattle.dd_session.specs.declared.request.Alone.TheVariants.{Copied, Dropped, Compared}
use Rattle.dd_session.specs.Requests.{alone_telling, held_or, row_held}
use Rattle.dd_session.specs.Sessions.{Called, IsNamed, edge_in, edge_or, held_as, is_full, names_in}
use Rattle.dd_session.specs.Turns.{AreApart, AreSound, DrewAlone, Tied, live_as, names_by, seen_by}
use Rattle.dd_session.specs.Works.{HadNoTurn}
use Rattle.dd_session.proofs.Calls.{adds_are, rows_few, seen_sizes}
use Rattle.dd_session.proofs.Naming.{both_true, held_stands, same_back, same_name-eq, same_name-refl, stands_held}
use Rattle.dd_session.proofs.Soundness.{row_at}
use Rattle.dd_session.proofs.Tying.{finds-more}
use Rattle.dd_session.proofs.Tellings.{agrees_made, agrees_quiet, may_drop}

-- the row of a name
pub named_row : (d : Draws) (name : Name) → (k : Kind) × IsNamed k d.rows name → (held_as d.rows name ≡ Some (row_held d.rows name)) × (stands_for d.rows name ≡ Some (row_held d.rows name).function)
named_row d name live =
    let h = stands_held d.rows name live.1.0 live.1.1 in
    let same : h.0 ≡ row_held d.rows name = sym (ap held_or h.1) in (
      h.1 ∙ ap Some same,
      held_stands d.rows name ∙ ap (option_map (λ (z : Held). z.function)) (h.1 ∙ ap Some same),
    )

pub has_row : (d : Draws) (name : Name) → (k : Kind) × IsNamed k d.rows name → HasRow d.rows (row_held d.rows name)
has_row d name live = row_at d.rows name (row_held d.rows name) (named_row d name live).0

-- what a name stands for in a table that agrees
live_known : (d : Draws) (t : Table) (name : Name) (held : Held) → Agrees d t → stands_for d.rows name ≡ Some held.function → t.live d.session name ≡ Some (known_at d held.function)
live_known d t name held agrees is = agrees.live name ∙ ap (λ (z : Sizes). option_map (at_sizes z) (stands_for d.rows name)) agrees.sizes_are ∙ ap (option_map (known_at d)) is

pub may_copy : (d : Draws) (h name : Name) (generation : ℕ) → (k : Kind) × IsNamed k d.rows h → name.generation ≡ d.adds → MayTell d (alone_telling d.rows (Copied h name generation))
may_copy d h name generation live new =
    let held : Held = row_held d.rows h in
    let is : (t : Table) → Agrees d t → outcome t d.session (calls.Copy h) ≡ Some (makes (known_at d held.function)) = λ t agrees. ap (λ o. with_one o makes) (live_known d t h held agrees (named_row d h live).1) in record {
      plain = refl;
      step = λ t agrees. (
        (makes (known_at d held.function), is t agrees, agrees.fresh name (omega (arith, new))),
        subst (λ (u : Table). Agrees (told_of d 0 (alone_telling d.rows (Copied h name generation))) u) (sym (ap (with_result t d.session name) (is t agrees))) (agrees_made d t name held generation (known_at d held.function) (calls.Copy h) (replies.Made name) agrees new refl),
      );
      finds = tt;
      board = λ _. refl;
      orders = λ _. refl;
    }

pub may_let : (d : Draws) (h : Name) → (k : Kind) × IsNamed k d.rows h → MayTell d (alone_telling d.rows (Dropped h))
may_let d h live = may_drop d h (row_held d.rows h).function (named_row d h live).1

-- two functions of one kind
one_kind : (z : Sizes) (f g : Function) → kind_of f ≡ kind_of g → same_kind (at_sizes z f) (at_sizes z g) ≡ true
one_kind z (Bdd f) (Bdd g) e = refl
one_kind z (Add f) (Add g) e = refl
one_kind z (Zdd f) (Zdd g) e = refl
one_kind z (Bdd f) (Add g) e = cc
one_kind z (Bdd f) (Zdd g) e = cc
one_kind z (Add f) (Bdd g) e = cc
one_kind z (Add f) (Zdd g) e = cc
one_kind z (Zdd f) (Bdd g) e = cc
one_kind z (Zdd f) (Add g) e = cc

pub may_compare : (d : Draws) (f g : Name) (told : Bool) → AreSound d → (alike : (k : Kind) × IsNamed k d.rows f × IsNamed k d.rows g) → IsTrue told ↔ ((row_held d.rows f).edge ≡ (row_held d.rows g).edge) → MayTell d (alone_telling d.rows (Compared f g told))
may_compare d f g told sound alike is =
    let first : Held = row_held d.rows f in
    let second : Held = row_held d.rows g in
    let a = named_row d f (alike.0, alike.1) in
    let b = named_row d g (alike.0, alike.2) in
    let i = row_at d.rows f first a.0 in
    let j = row_at d.rows g second b.0 in
    let kinds : kind_of first.function ≡ kind_of second.function = kind_named f first a.1 alike.1 ∙ sym (kind_named g second b.1 alike.2) in
    let one = subst (λ (x : Held × Held). (x.0.edge ≡ x.1.edge) ↔ (known_at d x.0.function ≡ known_at d x.1.function)) (λ k. (i.3 k, j.3 k)) (sound.canonical i.0 j.0 i.1 j.1 i.2 j.2 (ap (λ (h : Held). kind_of h.function) i.3 ∙ kinds ∙ ap (λ (h : Held). kind_of h.function) (sym j.3))) in
    let gives : (t : Table) → Agrees d t → outcome t d.session (calls.Same f g) ≡ Some (compares (known_at d first.function) (known_at d second.function)) =
    λ t agrees. ap₂ (λ x y. option_and_then (λ p. option_and_then (λ q. when (same_kind p q) (Some (compares p q))) y) x) (live_known d t f first agrees a.1) (live_known d t g second agrees b.1)
    ∙ ap (λ c. when c (Some (compares (known_at d first.function) (known_at d second.function)))) (one_kind (sizes_for d.vars d.elements) first.function second.function kinds) in record {
      plain = refl;
      step = λ t agrees. (
        (compares (known_at d first.function) (known_at d second.function), gives t agrees, ((λ yes. one.0 (is.0 yes)), (λ same. is.1 (one.1 same)))),
        agrees_quiet d t (calls.Same f g) (replies.Truth told) agrees,
      );
      finds = tt;
      board = λ _. refl;
      orders = λ _. refl;
    }
  where
    kind_named : (name : Name) (held : Held) → stands_for d.rows name ≡ Some held.function → {k : Kind} → IsNamed k d.rows name → kind_of held.function ≡ k
    kind_named name held stands named = ap kind_of (some_same held.function named.0 (sym stands ∙ named.1)) ∙ named.2
      where
        some_same : (a b : Function) → Some a ≡ Some b → a ≡ b
        some_same a b e = cc

-- a telling gives the names that its reply has, and is no refusal
pub counted_alone : (rows : List Row) (alone : Alone) → names_by (alone_telling rows alone).change ≡ names_in (alone_telling rows alone).reply
counted_alone rows (Copied h name generation) = refl
counted_alone rows (Dropped h) = refl
counted_alone rows (Compared f g told) = refl

pub not_full : (rows : List Row) (alone : Alone) → is_full (alone_telling rows alone).reply ≡ 0
not_full rows (Copied h name generation) = refl
not_full rows (Dropped h) = refl
not_full rows (Compared f g told) = refl

-- what a call is for its caller, that had no turn
pub called_alone : (old new : Draws) (x : Telling) (table table' : TableId) (spare spare' place : ℕ) → table' ≡ table → old.holds ≡ false → DrewAlone old new x place → Called (seen_by table old spare) (seen_by table' new spare') x.call x.reply place
called_alone old new x table table' spare spare' place same idle drew =
    subst (λ (i : TableId). Called (seen_by table old spare) (seen_by i new spare') x.call x.reply place) (sym same)
    (subst (λ (d : Draws). Called (seen_by table old spare) (seen_by table d spare') x.call x.reply place) (sym drew.left) (record {
      board = λ i. None;
      note = note_with drew.now old place;
      place_is = refl;
      rows_noted = refl;
      placed_are = refl;
      sizes_are = sym (seen_sizes table old spare);
      more_are = (refl, refl);
      step = λ u seen board_is sizes_are.
          let says = drew.may.step u (record { sizes_are = sizes_are; live = seen.live; fresh = seen.fresh; cells = λ holds. absurd (true≢false (sym holds ∙ idle)) }) in
          let many = says.1.sizes_are in (
            says.0,
            record {
              grown = (let n = ap (λ (z : Sizes). z.variables) many in omega (arith, n), let n = ap (λ (z : Sizes). z.elements) many in omega (arith, n));
              live = says.1.live;
              fresh = says.1.fresh;
            },
            many ∙ sym (seen_sizes table (told_with drew.now old place x) spare'),
          );
      entries_are = refl;
      later = drew.later;
      manager_is = refl;
      number_is = refl;
      adds_are = adds_are x.change old.adds ∙ ap (λ n. old.adds + n) drew.counted;
      few = (let a = rows_few x.change old.rows in let b = drew.counted in omega (arith, a, b));
      change = x.change;
      rows_are = refl;
      noted_are = refl;
    }))

pub had_no_turn : (old new : Draws) (x : Telling) (table table' : TableId) (spare spare' place : ℕ) → DrewAlone old new x place → HadNoTurn (seen_by table old spare) (seen_by table' new spare')
had_no_turn old new x table table' spare spare' place drew = (ap (λ (d : Draws). d.turns) drew.left, ap (λ (d : Draws). d.stored) drew.left)

-- no row of a name
none_named : (rows : List Row) (name : Name) → held_as rows name ≡ None → named name rows ≡ []
none_named [] name none = refl
none_named (x ∷ xs) name none = by (same_name name x.name) refl (none_named xs name) none
  where
    by : (b : Bool) → same_name name x.name ≡ b → (held_as xs name ≡ None → named name xs ≡ []) → cond b (Some x.held) (held_as xs name) ≡ None → cond (same_name x.name name) (x.held ∷ named name xs) (named name xs) ≡ []
    by true e rest none = absurd (let z : Some x.held ≡ None = none in cc)
    by false e rest none = ap (λ b. cond b (x.held ∷ named name xs) (named name xs)) (same_back x.name name ∙ e) ∙ rest none

-- and the one
pub one_named : (rows : List Row) (name : Name) (held : Held) → AreApart rows → held_as rows name ≡ Some held → named name rows ≡ held ∷ []
one_named [] name held apart is = absurd (let z : None ≡ Some held = is in cc)
one_named (row ∷ rows) name held apart is = by (same_name name row.name) refl (one_named rows name held apart.1) is
  where
    some_same : (a b : Held) → Some a ≡ Some b → a ≡ b
    some_same a b e = cc

    by : (b : Bool) → same_name name row.name ≡ b → (held_as rows name ≡ Some held → named name rows ≡ held ∷ []) → cond b (Some row.held) (held_as rows name) ≡ Some held → cond (same_name row.name name) (row.held ∷ named name rows) (named name rows) ≡ held ∷ []
    by true e rest is =
        let gone : held_as rows name ≡ None = ap (held_as rows) (same_name-eq name row.name e) ∙ apart.0 in
        ap (λ b. cond b (row.held ∷ named name rows) (named name rows)) (same_back row.name name ∙ e) ∙ ap₂ (λ (h : Held) (l : List Held). h ∷ l) (some_same row.held held is) (none_named rows name gone)
    by false e rest is = ap (λ b. cond b (row.held ∷ named name rows) (named name rows)) (same_back row.name name ∙ e) ∙ rest is

-- one that is owed alone is paid
pub paid_one : (held : Held) (k : ℕ) → held.edge.index ≡ k → (0 < held_count k (held ∷ [])) × (paid k (held ∷ []) ≡ [])
paid_one held k is = let e = eq-eqb held.edge.index k is in ((let one = ap one_if e in omega (arith, one)), ap (λ b. cond b [] (held ∷ [])) e)

-- the edge of a name's row
pub row_edge : (d : Draws) (name : Name) → (k : Kind) × IsNamed k d.rows name → edge_in d.rows name ≡ (row_held d.rows name).edge
row_edge d name live = ap edge_or (named_row d name live).0

pub row_within : (d : Draws) (name : Name) → (k : Kind) × IsNamed k d.rows name → AreSound d → (row_held d.rows name).edge.index < d.slots
row_within d name live sound = let r = has_row d name live in subst (λ (h : Held). h.edge.index < d.slots) r.3 (sound.within r.0 r.1 r.2)

-- a place that was drawn by a seat whose counts changed meanwhile
pub alone_drew : (d q e : Draws) (alone : Alone) (place : ℕ) → q ≡ d → DrewAlone q e (alone_telling q.rows alone) place → DrewAlone d e (alone_telling d.rows alone) place
alone_drew d q e alone place same drew = subst (λ (z : Draws). DrewAlone z e (alone_telling z.rows alone) place) same drew

-- a row in memory is that of the name
pub live_held : (name h : Name) (kind : Kind) (edge : Edge) (held : Held) (old new : List Live) → kind ≡ kind_of held.function → edge ≡ held.edge → IsWithOne old (record { name = name; kind = kind; edge = edge }) new → IsWithOne old (live_as name held) new
live_held name h kind edge held old new kinds edges one = subst (λ (x : Kind × Edge). IsWithOne old (record { name = name; kind = x.0; edge = x.1 }) new) (λ i. (kinds i, edges i)) one

pub named_kind : (d : Draws) (name : Name) (k : Kind) → IsNamed k d.rows name → k ≡ kind_of (row_held d.rows name).function
named_kind d name k named = sym named.2 ∙ ap kind_of (some_same named.0 (row_held d.rows name).function (sym named.1 ∙ (named_row d name (k, named)).1))
  where
    some_same : (a b : Function) → Some a ≡ Some b → a ≡ b
    some_same a b e = cc

-- what is owed of a dropped row is paid, and nothing is left
pub owes_one : (d : Draws) (c c' : Counts) (h : Name) → AreApart d.rows → (k : Kind) × IsNamed k d.rows h → c' ≡ counts_after (Takes h) d.cells d.rows c → (i : ℕ) → (row_held d.rows h).edge.index ≡ i → (0 < held_count i c'.owed) × (paid i c'.owed ≡ [])
owes_one d c c' h apart live is i at =
    let owed : c'.owed ≡ row_held d.rows h ∷ [] = ap (λ (z : Counts). z.owed) is ∙ one_named d.rows h (row_held d.rows h) apart (named_row d h live).0 in
    subst (λ (l : List Held). (0 < held_count i l) × (paid i l ≡ [])) (sym owed) (paid_one (row_held d.rows h) i at)

-- the row that was removed has the edge of its name
pub removed_edge : (d : Draws) (rows rows' : RowMap) (name : Name) (h : Held) (kind : Kind) (edge : Edge) → Tied d rows → held_as d.rows name ≡ Some h → IsWithOne rows'.live (record { name = name; kind = kind; edge = edge }) rows.live → find_row rows'.live name ≡ None → edge ≡ h.edge
removed_edge d rows rows' name h kind edge tied held one gone =
    let found = finds-more rows'.live rows.live (record { name = name; kind = kind; edge = edge }) one gone name in
    let here : find_row rows.live name ≡ Some (record { name = name; kind = kind; edge = edge }) = found ∙ ap (λ b. cond b (Some (record { name = name; kind = kind; edge = edge })) (find_row rows'.live name)) (same_name-refl name) in
    edge_same (record { name = name; kind = kind; edge = edge }) (live_as name h) (sym here ∙ tied.found name ∙ ap (option_map (live_as name)) held)
  where
    edge_same : (a b : Live) → Some a ≡ Some b → a.edge ≡ b.edge
    edge_same a b e = ap (λ (z : Live). z.edge) (some_same a b e)
      where
        some_same : (a b : Live) → Some a ≡ Some b → a ≡ b
        some_same a b e = cc

-- what was owed was paid after it
pub after_drew : (d e q : Draws) (x : Telling) (place : ℕ) → q ≡ e → DrewAlone d e x place → DrewAlone d q x place
after_drew d e q x place same drew = subst (λ (z : Draws). DrewAlone d z x place) (sym same) drew

-- two edges are compared by their words
same_bool : (a b : Bool) → beq a b ≡ true → a ≡ b
same_bool true true e = refl
same_bool true false e = cc
same_bool false true e = cc
same_bool false false e = refl

pub same_edges : (r : Bool) (e f : Edge) → r ≡ eqb (word_of_edge e) (word_of_edge f) → IsTrue r ↔ (e ≡ f)
same_edges r e f is = (
  (λ yes. let t = both_true (eqb e.index f.index) (beq e.complement f.complement) (sym (is ∙ words_same e f) ∙ yes) in edge_is e f (eqb-true e.index f.index t.0) (same_bool e.complement f.complement t.1)),
  (λ same. is ∙ subst (λ (g : Edge). eqb (word_of_edge e) (word_of_edge g) ≡ true) same (eq-eqb (word_of_edge e) (word_of_edge e) refl)),
)
