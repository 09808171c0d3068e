-- What the first session told is true of the wanted functions.
use Rattle.std.proofs.Common.{◌≡◌, ℕ, zero, suc, ◌+◌, ◌<◌, ◌≤◌, ◌==◌, ◌⊎◌, ◌^◌, Bool, true, false, cond, Option, Some, List, [], ◌∷◌, ◌++◌, length, map, take, refl, ap, sym, ◌∙◌, subst, arith, inl, inr, eq-eqb, All}
use Rattle.std.specs.List.{Contains, range_with_len}
use Rattle.std.proofs.lemmas.Bool.{cases_eq}
use Rattle.std.proofs.lemmas.List.Elements.{All-cons, All-contains, All-head, All-nil, All-tail, Contains-push}
use Rattle.std.proofs.lemmas.Option.{same_Some}
use Rattle.std.proofs.Math.ListN.{drop}
use Rattle.function_laws.specs.declared.history.Call.TheVariants as calls
use Rattle.function_laws.specs.declared.history.Entry.{Entry}
use Rattle.function_laws.specs.declared.history.Function.{Function}
use Rattle.function_laws.specs.declared.history.Function.TheVariants.{Bdd}
use Rattle.function_laws.specs.declared.history.Name.{Name}
use Rattle.function_laws.specs.declared.history.Reply.TheVariants as replies
use Rattle.function_laws.specs.EntryOrders.{opening_orders, orders_from}
use Rattle.function_laws.specs.Handovers.{posts_to}
use Rattle.function_laws.specs.Histories.{table_after}
use Rattle.function_laws.specs.Lists.{list_of}
use Rattle.function_laws.specs.SessionEntries.{entries_of, entry}
use Rattle.function_laws.specs.Sizes.{Orders}
use Rattle.function_laws.specs.Tables.{Sizes, opening}
use Rattle.function_laws.proofs.DistinctLemmas.{In}
use Rattle.function_laws.proofs.ListLemmas.{same-list_of}
use Rattle.net_builds.proofs.Contained.{all-has, has-contained}
use Rattle.net_builds.proofs.HandedLaw.{Has, front-has, handed-at, has-front, legal-front, take-front}
use Rattle.net_builds.specs.Builds.{AllGain, AllHandedOver, AreUnsifted, Builds, IsDelivered, IsLegalHistoryOf, IsNoted}
use Rattle.net_builds.specs.Handings.{AreInTurn, IsKnown}
use Rattle.net_builds.specs.Standings.{KeepsOrders, Note, Standing, values_of}
use Rattle.net_builds.specs.declared.handing.Handover.{Handover}
use Rattle.net_builds.specs.declared.telling.Findings.{Findings}
use Rattle.diagram_dumps.specs.Agreement.{AreSame, IsSame}

pub contains_in : {X : Type 0} (xs : List X) (x : X) → Contains xs x → In x xs
contains_in [] x (k, inside, is) = absurd (omega (arith, inside))
contains_in (y ∷ ys) x (zero, inside, is) = inl (sym is)
contains_in (y ∷ ys) x (suc k, inside, is) = inr (contains_in ys x (k, omega (arith, inside), is))

-- an entry is one of its session's, and those of a session are entries of the history
pub own_has : (log : List Entry) (e : Entry) → Has e log → Has e (entries_of e.session log)
own_has [] e has = absurd has
own_has (x ∷ log) e (inl is) =
    let here : (x.session == e.session) ≡ true = eq-eqb x.session e.session (ap (λ (y : Entry). y.session) is) in
    subst (λ b. Has e (cond b (x ∷ entries_of e.session log) (entries_of e.session log))) (sym here) (inl is)
own_has (x ∷ log) e (inr has) = more (x.session == e.session) (own_has log e has)
  where
    more : (b : Bool) → Has e (entries_of e.session log) → Has e (cond b (x ∷ entries_of e.session log) (entries_of e.session log))
    more true later = inr later
    more false later = later

pub has_own : (p : ℕ) (log : List Entry) (e : Entry) → Has e (entries_of p log) → Has e log
has_own p [] e has = absurd has
has_own p (x ∷ log) e has = less (x.session == p) (has_own p log e) has
  where
    less : (b : Bool) → (Has e (entries_of p log) → Has e log) → Has e (cond b (x ∷ entries_of p log) (entries_of p log)) → Has e (x ∷ log)
    less true deeper (inl is) = inl is
    less true deeper (inr later) = inr (deeper later)
    less false deeper later = inr (deeper later)

-- entries that leave the orders, one after another
pub kept_orders : (log : List Entry) → ((e : Entry) → Has e log → KeepsOrders e) → (orders : Orders) → orders_from orders log ≡ orders
kept_orders [] keep orders = refl
kept_orders (x ∷ log) keep orders =
    ap (λ (o : Orders). orders_from o log) (keep x (inl refl) orders) ∙ kept_orders log (λ e has. keep e (inr has)) orders

-- the session's entries are such
abbrev pub AllOf : (Entry → Type 0) → Standing → Type 0
AllOf P s = All P s.entries

-- what sessions gained that had made no call is all that they did
gained_all : (cell : ℕ) (handovers : List Handover) (old new : List Standing) → AllGain cell handovers old new → All (λ (s : Standing). s.entries ≡ []) old
    → All (AllOf (IsKnown cell handovers)) new
gained_all cell handovers [] [] gains fresh = All-nil (AllOf (IsKnown cell handovers))
gained_all cell handovers [] (b ∷ new) gains fresh = absurd gains
gained_all cell handovers (a ∷ old) [] gains fresh = absurd gains
gained_all cell handovers (a ∷ old) (b ∷ new) (gained, are, known, vars, number, rest) fresh =
    let none : a.entries ≡ [] = All-head (λ (s : Standing). s.entries ≡ []) a old fresh in
    All-cons (AllOf (IsKnown cell handovers)) b new
    (subst (All (IsKnown cell handovers)) (sym (are ∙ ap (λ (es : List Entry). es ++ gained) none)) known)
    (gained_all cell handovers old new rest (All-tail (λ (s : Standing). s.entries ≡ []) a old fresh))

pub unsifted_all : (old new : List Standing) → AreUnsifted old new → All (λ (s : Standing). s.entries ≡ []) old → All (AllOf KeepsOrders) new
unsifted_all [] [] unsifted fresh = All-nil (AllOf KeepsOrders)
unsifted_all [] (b ∷ new) unsifted fresh = absurd unsifted
unsifted_all (a ∷ old) [] unsifted fresh = absurd unsifted
unsifted_all (a ∷ old) (b ∷ new) unsifted fresh =
    let none : a.entries ≡ [] = All-head (λ (s : Standing). s.entries ≡ []) a old fresh in
    All-cons (AllOf KeepsOrders) b new
    (subst (λ (es : List Entry). All KeepsOrders (drop (length es) b.entries)) none unsifted.0)
    (unsifted_all old new unsifted.1 (All-tail (λ (s : Standing). s.entries ≡ []) a old fresh))

-- the entries of a session are such, where some session has this number
owner : (P : Entry → Type 0) (log : List Entry) (p : ℕ) (new : List Standing) → All (AllOf P) new → All (λ (s : Standing). entries_of s.number log ≡ s.entries) new
    → ((e : Entry) → Has e (entries_of p log) → P e) ⊎ All (λ (s : Standing). s.number ≡ p → ⊥) new
owner P log p [] all each = inr (All-nil (λ (s : Standing). s.number ≡ p → ⊥))
owner P log p (b ∷ new) all each = elim (cases_eq b.number p) [
  | inl same ↦ (
      let are : entries_of p log ≡ b.entries = ap (λ m. entries_of m log) (sym same) ∙ All-head (λ (s : Standing). entries_of s.number log ≡ s.entries) b new each in
      inl (λ e has. all-has P b.entries (All-head (AllOf P) b new all) e (subst (λ es. Has e es) are has)))
  | inr other ↦ elim (owner P log p new (All-tail (AllOf P) b new all) (All-tail (λ (s : Standing). entries_of s.number log ≡ s.entries) b new each)) [
    | inl all ↦ inl all
    | inr none ↦ inr (All-cons (λ (s : Standing). s.number ≡ p → ⊥) b new other none)
  ]
]

-- and so are those of the history
pub all_of_history : (P : Entry → Type 0) (sizes : Sizes) (log : List Entry) (new : List Standing) → All (AllOf P) new → IsLegalHistoryOf sizes log new → (e : Entry) → Has e log → P e
all_of_history P sizes log new all history e has = elim (owner P log e.session new all history.each) [
  | inl all ↦ all e (own_has log e has)
  | inr none ↦ absurd (subst (λ es. Has e es) (history.no_other e.session none) (own_has log e has))
]

-- handovers in turn
turn_of : (low : ℕ) (hs : List Handover) (h : Handover) → AreInTurn low hs → In h hs → (low ≤ h.post) × (h.post < h.fetch)
turn_of low [] h turns i = absurd i
turn_of low (x ∷ hs) h turns (inl is) = subst (λ (y : Handover). (low ≤ y.post) × (y.post < y.fetch)) (sym is) (turns.0, turns.1)
turn_of low (x ∷ hs) h turns (inr i) =
    let later = turn_of (x.fetch + 1) hs h turns.2 i in
    (omega (arith, later.0, turns.0, turns.1), later.1)

-- no other one is posted between a post and its fetch
none_between : (low : ℕ) (hs : List Handover) (h other : Handover) → AreInTurn low hs → In h hs → In other hs → h.post < other.post → other.post < h.fetch → ⊥
none_between low [] h other turns i j after before = i
none_between low (x ∷ hs) h other turns (inl is) (inl other_is) after before =
    omega (arith, after, ap (λ (y : Handover). y.post) (is ∙ sym other_is))
none_between low (x ∷ hs) h other turns (inl is) (inr j) after before =
    let later = turn_of (x.fetch + 1) hs other turns.2 j in omega (arith, before, later.0, ap (λ (y : Handover). y.fetch) is)
none_between low (x ∷ hs) h other turns (inr i) (inl other_is) after before =
    let later = turn_of (x.fetch + 1) hs h turns.2 i in omega (arith, after, later.0, turns.1, ap (λ (y : Handover). y.post) other_is)
none_between low (x ∷ hs) h other turns (inr i) (inr j) after before = none_between (x.fetch + 1) hs h other turns.2 i j after before

pub posted_by : (hs : List Handover) (place : ℕ) → In place (map (λ (h : Handover). h.post) hs) → (h : Handover) × In h hs × (h.post ≡ place)
posted_by [] place i = absurd i
posted_by (h ∷ hs) place (inl is) = (h, inl refl, sym is)
posted_by (h ∷ hs) place (inr i) = let later = posted_by hs place i in (later.0, inr later.1, later.2)

same_values : (n : ℕ) (f g : ℕ → Bool) → Bdd (list_of (2 ^ n) f) ≡ Bdd (list_of (2 ^ n) g) → IsSame n f g
same_values n f g is =
    let lists : list_of (2 ^ n) f ≡ list_of (2 ^ n) g = cc in
    same-list_of (2 ^ n) f g lists

-- A legal history of sessions which had made no call, and gained entries that add nothing and post to the cell in these handovers alone.
module _ (n : ℕ) (sizes : Sizes) (log : List Entry) (old new : List Standing) (cell : ℕ) (handovers : List Handover) (first : Standing) (has_first : Contains new first)
    (wide : All (λ (s : Standing). s.vars ≡ n) new) (fresh : All (λ (s : Standing). s.entries ≡ []) old) (history : IsLegalHistoryOf sizes log new)
    (turns : AreInTurn 0 handovers) (gains : AllGain cell handovers old new) where
  pub known : (e : Entry) → Has e log → IsKnown cell handovers e
  known = all_of_history (IsKnown cell handovers) sizes log new (gained_all cell handovers old new gains fresh) history

  -- between a post and its fetch none posts to the cell
  alone : (h : Handover) → In h handovers → (e : Entry) → Has e log → h.post < e.place → e.place < h.fetch → posts_to cell e.call ≡ false
  alone h i e has after before = by (posts_to cell e.call) refl
    where
      by : (b : Bool) → posts_to cell e.call ≡ b → posts_to cell e.call ≡ false
      by false is = is
      by true is =
          let one = posted_by handovers e.place (contains_in (map (λ (x : Handover). x.post) handovers) e.place ((known e has).1 is)) in
          absurd (none_between 0 handovers h one.0 turns i one.1 (omega (arith, after, one.2)) (omega (arith, before, one.2)))

  pub entries_in : (s : Standing) → Contains new s → (e : Entry) → Contains s.entries e → Has e log
  entries_in s among e has =
      let are : entries_of s.number log ≡ s.entries = All-contains (λ (x : Standing). entries_of x.number log ≡ x.entries) new s history.each among in
      has_own s.number log e (subst (λ es. Has e es) (sym are) (has-contained s.entries e has))

  -- what a session noted, and what there was at the places of its calls
  noted_of : (s : Standing) → Contains new s → (note : Note) → Contains s.notes note → IsNoted sizes log s.number note
  noted_of s among note noted =
      All-contains (IsNoted sizes log s.number) s.notes note (All-contains (λ (x : Standing). All (IsNoted sizes log x.number) x.notes) new s history.noted among) noted

  pub placed_of : (s : Standing) → Contains new s → (note : Note) → Contains s.placed note → IsNoted sizes log s.number note
  placed_of s among note placed =
      All-contains (IsNoted sizes log s.number) s.placed note (All-contains (λ (x : Standing). All (IsNoted sizes log x.number) x.placed) new s history.placed among) placed

  pub wide_of : (s : Standing) → Contains new s → s.vars ≡ n
  wide_of s among = All-contains (λ (x : Standing). x.vars ≡ n) new s wide among

  module _ (note : Note) (noted : Contains first.notes note) where
    abbrev front : List Entry
    front = take note.place log

    -- what the first session fetched is what was built
    handed_same : (g : ℕ → Bool) (h : Handover) (giver : Standing) → In h handovers → Contains new giver → IsDelivered cell g giver first h → h.fetch < note.place
        → (f : ℕ → Bool) → note.stands h.to ≡ values_of first.vars f → IsSame n f g
    handed_same g h giver i among handed below f stands =
        let turn = turn_of 0 handovers h turns i in
        let post = entry h.post giver.number (calls.Post cell h.from) replies.Done in
        let fetch = entry h.fetch first.number (calls.Fetch cell h.other) (replies.Fetched h.to true) in
        let posting = handed.posting in
        let at_post = placed_of giver among posting handed.among in
        let back : (e : Entry) → Has e front → Has e log = front-has note.place log in
        let stood : (table_after (opening sizes) (take h.post front)).live giver.number h.from ≡ Some (Bdd (list_of (2 ^ n) g)) =
        ap (λ (es : List Entry). (table_after (opening sizes) es).live giver.number h.from) (take-front h.post note.place log (omega (arith, below, turn.1)) ∙ ap (λ p. take p log) (sym handed.at_post))
        ∙ at_post.rows h.from ∙ handed.built ∙ ap (λ m. values_of m g) (wide_of giver among) in
        let agreed : Bdd (list_of (2 ^ n) g) ≡ Bdd (list_of (2 ^ n) f) =
        handed-at sizes front (legal-front 0 note.place (opening sizes) log history.legal) (λ e has. (known e (back e has)).0.plain) cell post fetch h.from h.to
        (has-front 0 note.place (opening sizes) log post history.legal (entries_in giver among _ handed.passed.0) (omega (arith, below, turn.1)))
        (has-front 0 note.place (opening sizes) log fetch history.legal (entries_in first has_first _ handed.passed.1) (omega (arith, below))) turn.1
        (λ e has after before. ((known e (back e has)).0.plain, alone h i e (back e has) after before))
        refl refl h.other refl refl (Bdd (list_of (2 ^ n) f))
        ((noted_of first has_first note noted).rows h.to ∙ stands ∙ ap (λ m. values_of m f) (wide_of first has_first))
        (Bdd (list_of (2 ^ n) g)) stood in
        same_values n f g (sym agreed)

    all_same : (wanted : List (ℕ → Bool)) (hs : List Handover) (functions : List (ℕ → Bool)) → ((h : Handover) → In h hs → In h handovers)
        → AllHandedOver cell wanted new first hs → All (λ (h : Handover). h.fetch < note.place) hs
        → map note.stands (map (λ (h : Handover). h.to) hs) ≡ map (values_of first.vars) functions
        → AreSame n functions wanted
    all_same [] [] [] among handed later stand = tt
    all_same [] [] (f ∷ functions) among handed later stand = absurd (cc stand)
    all_same [] (h ∷ hs) functions among handed later stand = absurd handed
    all_same (g ∷ wanted) [] functions among handed later stand = absurd handed
    all_same (g ∷ wanted) (h ∷ hs) [] among handed later stand = absurd (cc stand)
    all_same (g ∷ wanted) (h ∷ hs) (f ∷ functions) among handed later stand =
        let here : note.stands h.to ≡ values_of first.vars f = cc in
        let rest : map note.stands (map (λ (x : Handover). x.to) hs) ≡ map (values_of first.vars) functions = cc in (
          handed_same g h handed.0.0 (among h (inl refl)) handed.0.1 handed.0.2 (All-head (λ (x : Handover). x.fetch < note.place) h hs later) f here,
          all_same wanted hs functions (λ x i. among x (inr i)) handed.1 (All-tail (λ (x : Handover). x.fetch < note.place) h hs later) rest,
        )

    -- what it noted is the order that the entries below leave
    noted_order : (orders_from (opening_orders sizes) (take note.place log)).variables ≡ note.order
    noted_order = (noted_of first has_first note noted).order_is

module _ (Tells : List (ℕ → Bool) → List ℕ → Findings → Type 0) (n : ℕ) (wanted : List (ℕ → Bool)) (sizes : Sizes) (log : List Entry) (old new : List Standing) (cell : ℕ) (found : Findings)
    (wide : All (λ (s : Standing). s.vars ≡ n) new) (fresh : All (λ (s : Standing). s.entries ≡ []) old)
    (history : IsLegalHistoryOf sizes log new) (builds : Builds Tells cell wanted old new found) where
  pub has_first : Contains new builds.first
  has_first = subst (λ (ss : List Standing). Contains ss builds.first) (sym builds.new_is) (0, omega arith, refl)

  has_note : Contains builds.first.notes builds.note
  has_note = subst (λ (notes : List Note). Contains notes builds.note) (sym builds.noted) (Contains-push builds.before.notes builds.note)

  -- the functions that were told of have the values of the wanted ones
  pub told_same : AreSame n builds.functions wanted
  told_same =
      all_same n sizes log old new cell builds.handovers builds.first has_first wide fresh history builds.turns builds.gains builds.note has_note wanted builds.handovers builds.functions
      (λ h i. i) builds.handed builds.later builds.stand

  -- the order that was noted behind the earlier notes is that of the history
  pub told_order : (orders_from (opening_orders sizes) (take builds.note.place log)).variables ≡ builds.note.order
  told_order = noted_order n sizes log old new cell builds.handovers builds.first has_first wide fresh history builds.turns builds.gains builds.note has_note

  -- and where none swapped or sifted, it is 0, 1, 2, ..
  pub unsifted_order : sizes.variables ≡ n → AreUnsifted old new → builds.note.order ≡ range_with_len 0 n
  unsifted_order all unsifted =
      let keep = all_of_history KeepsOrders sizes log new (unsifted_all old new unsifted fresh) history in
      sym told_order ∙ ap (λ (o : Orders). o.variables) (kept_orders (take builds.note.place log) (λ e has. keep e (front-has builds.note.place log e has)) (opening_orders sizes)) ∙ ap (range_with_len 0) all

-- what one session noted that had made no call, where it neither swapped nor sifted, is the order 0, 1, 2, ..
pub rising_order : (n : ℕ) (sizes : Sizes) (log : List Entry) (old new : Standing) (note : Note) → sizes.variables ≡ n → old.entries ≡ [] → AreUnsifted (old ∷ []) (new ∷ [])
    → IsLegalHistoryOf sizes log (new ∷ []) → Contains new.notes note → note.order ≡ range_with_len 0 n
rising_order n sizes log old new note all fresh unsifted history among =
    let none : All (λ (s : Standing). s.entries ≡ []) (old ∷ []) = All-cons (λ (s : Standing). s.entries ≡ []) old [] fresh (All-nil (λ (s : Standing). s.entries ≡ [])) in
    let keep = all_of_history KeepsOrders sizes log (new ∷ []) (unsifted_all (old ∷ []) (new ∷ []) unsifted none) history in
    let notes = All-head (λ (s : Standing). All (IsNoted sizes log s.number) s.notes) new [] history.noted in
    let noted = All-contains (IsNoted sizes log new.number) new.notes note notes among in
    sym noted.order_is ∙ ap (λ (o : Orders). o.variables) (kept_orders (take note.place log) (λ e has. keep e (front-has note.place log e has)) (opening_orders sizes)) ∙ ap (range_with_len 0) all

-- functions that names stand for have the values of others that they stand for
pub stand_same : (n : ℕ) (stands : Name → Option Function) (names : List Name) (fs gs : List (ℕ → Bool)) → map stands names ≡ map (values_of n) fs → map stands names ≡ map (values_of n) gs → AreSame n fs gs
stand_same n stands [] [] [] first second = tt
stand_same n stands [] [] (g ∷ gs) first second = absurd (cc second)
stand_same n stands [] (f ∷ fs) gs first second = absurd (cc first)
stand_same n stands (name ∷ names) [] gs first second = absurd (cc first)
stand_same n stands (name ∷ names) (f ∷ fs) [] first second = absurd (cc second)
stand_same n stands (name ∷ names) (f ∷ fs) (g ∷ gs) first second =
    let one : stands name ≡ values_of n f = cc in
    let other : stands name ≡ values_of n g = cc in
    let rest : map stands names ≡ map (values_of n) fs = cc in
    let others : map stands names ≡ map (values_of n) gs = cc in
    let same : Bdd (list_of (2 ^ n) f) ≡ Bdd (list_of (2 ^ n) g) = same_Some (Bdd (list_of (2 ^ n) f)) (Bdd (list_of (2 ^ n) g)) (sym one ∙ other) in
    (same_values n f g same, stand_same n stands names fs gs rest others)
