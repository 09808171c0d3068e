-- What the first session told behind its sift is told under the sifted order of the wanted functions.
use Rattle.std.proofs.Common.{◌≡◌, ◌⊎◌, ℕ, zero, suc, ◌+◌, ◌<◌, ◌≤◌, ◌^◌, Bool, true, false, cond, List, [], ◌∷◌, ◌++◌, length, map, take, drop, get_or, Some, None, refl, ap, sym, subst, ◌∙◌, append_assoc, length-append, inl, inr, arith, eq-eqb, ne_eqb, true≢false, All}
use mathlib.Core.Option.{some}
use lib.ListN.{get_elem?}
use Rattle.std.specs.List.{AllZip, Contains, range_with_len}
use Rattle.std.proofs.lemmas.Bool.{cases_eq}
use Rattle.std.proofs.lemmas.List.{length-take, take-append-drop}
use Rattle.std.proofs.lemmas.List.Elements.{All-cons, All-contains, All-contains_itself, All-head, All-nil, All-tail}
use Rattle.std.proofs.lemmas.Option.{same_Some}
use Rattle.std.proofs.Math.Seq.{take-append_seam}
use Rattle.function_laws.specs.declared.history.Call.{Call}
use Rattle.function_laws.specs.declared.history.Call.TheVariants as calls
use Rattle.function_laws.specs.declared.history.Entry.{Entry}
use Rattle.function_laws.specs.declared.history.Function.{Function}
use Rattle.function_laws.specs.declared.history.Function.TheVariants.{Bdd}
use Rattle.function_laws.specs.declared.history.Name.{Name}
use Rattle.function_laws.specs.declared.history.Reply.{Reply}
use Rattle.function_laws.specs.declared.history.Reply.TheVariants as replies
use Rattle.function_laws.specs.declared.orders.Order.TheVariants.{Variables}
use Rattle.function_laws.specs.EntryOrders.{EachWith, opening_orders, orders_after, orders_from}
use Rattle.function_laws.specs.Handovers.{is_numbered, posts_to}
use Rattle.function_laws.specs.Histories.{IsLegal, IsLegalFrom, after_entry, table_after}
use Rattle.function_laws.specs.Lists.{list_of}
use Rattle.function_laws.specs.SessionEntries.{Each, entries_of, entry}
use Rattle.function_laws.specs.SiftEntries.{AreOne, IsAmong, IsOfCell, IsOfRow}
use Rattle.function_laws.specs.SiftedOrders.{sifted}
use Rattle.function_laws.specs.Sizes.{Orders}
use Rattle.function_laws.specs.Tables.{Sizes, Table, opening}
use Rattle.function_laws.proofs.DistinctLemmas.{In}
use Rattle.function_laws.proofs.HistoryLemmas.{table_after-append}
use Rattle.function_laws.proofs.ListLemmas.{list_of-same}
use Rattle.function_laws.proofs.OrderLemmas.{EachWith-parts, orders_from-append}
use Rattle.seat_guard.specs.Finds.{Finds, IsFoundIn}
use Rattle.seat_guard.specs.Sifted.{FirstGains, Gains, IsHadAt, IsPlaced, LastLoses, Loses}
use Rattle.diagram_dumps.specs.Agreement.{AreSame}
use Rattle.sift_laws.specs.Alike.{SiftsGoByFunctions, WholesAreAlike, rising_orders, whole_block}
use Rattle.net_builds.proofs.Contained.{all-has, has-at, has-contained}
use Rattle.net_builds.proofs.HandedLaw.{Has, front-has, has-front, has-right, legal-front, legal-left, legal-right, places, take-front}
use Rattle.net_builds.proofs.SiftedAlike.{IsWanted, contains-later, sifted_alike}
use Rattle.net_builds.proofs.SiftedRows.{PostsOnly, at_place, cells_have, same_entry, stays_live, stood_before}
use Rattle.net_builds.proofs.ToldLaws.{AllOf, all_of_history, contains_in, entries_in, has_first, has_own, kept_orders, known, own_has, placed_of, posted_by, told_order, told_same, unsifted_all, wide_of}
use Rattle.net_builds.specs.Builds.{AllHandedOver, Builds, IsDelivered, IsLegalHistoryOf, IsNoted}
use Rattle.net_builds.specs.Handings.{AreInTurn, IsKnown}
use Rattle.net_builds.specs.Sifting.{BuildsSifted, GivesOnly, IsOneOf, sifted_order}
use Rattle.net_builds.specs.Standings.{IsSiftedBy, KeepsOrders, Note, Standing, values_of}
use Rattle.net_builds.specs.declared.handing.Handover.{Handover}
use Rattle.net_builds.specs.declared.telling.Findings.{Findings}

has-parts : (e : Entry) (xs ys : List Entry) → Has e (xs ++ ys) → Has e xs ⊎ Has e ys
has-parts e [] ys has = inr has
has-parts e (x ∷ xs) ys (inl is) = inl (inl is)
has-parts e (x ∷ xs) ys (inr has) = elim (has-parts e xs ys has) [ inl left ↦ inl (inr left) | inr right ↦ inr right ]

each_map : {X : Type 0} (P Q : X → Type 0) → ((x : X) → P x → Q x) → (xs : List X) → Each P xs → Each Q xs
each_map P Q change [] each = tt
each_map P Q change (x ∷ xs) each = (change x each.0, each_map P Q change xs each.1)

-- the wanted function of a handover
wanted_of : (cell : ℕ) (wanted : List (ℕ → Bool)) (sessions : List Standing) (first : Standing) (hs : List Handover) (h : Handover) → AllHandedOver cell wanted sessions first hs → In h hs
    → (f : ℕ → Bool) × Contains wanted f × ((giver : Standing) × Contains sessions giver × IsDelivered cell f giver first h)
wanted_of cell [] sessions first [] h handed i = absurd i
wanted_of cell [] sessions first (x ∷ hs) h handed i = absurd handed
wanted_of cell (f ∷ wanted) sessions first [] h handed i = absurd handed
wanted_of cell (f ∷ wanted) sessions first (x ∷ hs) h handed (inl is) =
    (f, (0, omega arith, refl), subst (λ (y : Handover). (giver : Standing) × Contains sessions giver × IsDelivered cell f giver first y) (sym is) handed.0)
wanted_of cell (f ∷ wanted) sessions first (x ∷ hs) h handed (inr i) =
    let later = wanted_of cell wanted sessions first hs h handed.1 i in (later.0, contains-later later.0 f wanted later.1, later.2)

post_same : (i cell : ℕ) (a from : Name) → calls.Post i a ≡ calls.Post cell from → a ≡ from
post_same i cell a from is = cc

-- the place of a post among handovers in turn, all fetches of which lie below a place
post_below : (low place p : ℕ) (hs : List Handover) → AreInTurn low hs → All (λ (h : Handover). h.fetch < place) hs → Contains (map (λ (h : Handover). h.post) hs) p → p < place
post_below low place p [] turns below (i, inside, is) = absurd (omega (arith, inside))
post_below low place p (h ∷ hs) turns below (zero, inside, is) = omega (arith, is, turns.1, All-head (λ (x : Handover). x.fetch < place) h hs below)
post_below low place p (h ∷ hs) turns below (suc i, inside, is) =
    post_below (h.fetch + 1) place p hs turns.2 (All-tail (λ (x : Handover). x.fetch < place) h hs below) (i, omega (arith, inside), is)

at_seam : (xs : List Entry) (y : Entry) (ys : List Entry) → get_elem? (xs ++ y ∷ ys) (length xs) ≡ some y
at_seam [] y ys = refl
at_seam (x ∷ xs) y ys = at_seam xs y ys

-- an entry of a session is its own
own_session : (s : ℕ) (es : List Entry) (e : Entry) → Has e (entries_of s es) → e.session ≡ s
own_session s [] e has = absurd has
own_session s (x ∷ es) e has = elim (cases_eq x.session s) [
  | inl same ↦ by same (own_session s es e) (subst (λ b. Has e (cond b (x ∷ entries_of s es) (entries_of s es))) (eq-eqb x.session s same) has)
  | inr apart ↦ own_session s es e (subst (λ b. Has e (cond b (x ∷ entries_of s es) (entries_of s es))) (ne_eqb x.session s apart) has)
]
  where
    by : x.session ≡ s → (Has e (entries_of s es) → e.session ≡ s) → Has e (x ∷ entries_of s es) → e.session ≡ s
    by same rest (inl is) = ap (λ (y : Entry). y.session) (sym is) ∙ same
    by same rest (inr has) = rest has

-- the places of a session's entries rise
behind_it : (n : ℕ) (t : Table) (s : ℕ) (log low : List Entry) (x : Entry) (high : List Entry) (e : Entry) → IsLegalFrom n t log → entries_of s log ≡ low ++ x ∷ high → Has e high → x.place < e.place
behind_it n t s [] [] x high e legal are has = cc
behind_it n t s [] (l ∷ low) x high e legal are has = cc
behind_it n t s (y ∷ log) low x high e legal are has = elim (cases_eq y.session s) [
  | inl same ↦ by (λ front rest. behind_it (n + 1) (after_entry t y) s log front x high e legal.2 rest has) low (ap (λ b. cond b (y ∷ entries_of s log) (entries_of s log)) (sym (eq-eqb y.session s same)) ∙ are)
  | inr apart ↦ behind_it (n + 1) (after_entry t y) s log low x high e legal.2 (ap (λ b. cond b (y ∷ entries_of s log) (entries_of s log)) (sym (ne_eqb y.session s apart)) ∙ are) has
]
  where
    by : ((front : List Entry) → entries_of s log ≡ front ++ x ∷ high → x.place < e.place) → (front : List Entry) → y ∷ entries_of s log ≡ front ++ x ∷ high → x.place < e.place
    by later [] same =
        let here : y ≡ x = cc in
        let rest : entries_of s log ≡ high = cc in
        let at = places (n + 1) (after_entry t y) log e legal.2 (has_own s log e (subst (λ (es : List Entry). Has e es) (sym rest) has)) in
        omega (arith, at.0, legal.0, ap (λ (z : Entry). z.place) here)
    by later (l ∷ front) same = let rest : entries_of s log ≡ front ++ x ∷ high = cc in later front rest

before_it : (n : ℕ) (t : Table) (s : ℕ) (log low : List Entry) (x : Entry) (high : List Entry) (e : Entry) → IsLegalFrom n t log → entries_of s log ≡ low ++ x ∷ high → Has e low → e.place < x.place
before_it n t s [] [] x high e legal are has = absurd has
before_it n t s [] (l ∷ low) x high e legal are has = cc
before_it n t s (y ∷ log) low x high e legal are has = elim (cases_eq y.session s) [
  | inl same ↦ by (λ front rest there. before_it (n + 1) (after_entry t y) s log front x high e legal.2 rest there) low (ap (λ b. cond b (y ∷ entries_of s log) (entries_of s log)) (sym (eq-eqb y.session s same)) ∙ are) has
  | inr apart ↦ before_it (n + 1) (after_entry t y) s log low x high e legal.2 (ap (λ b. cond b (y ∷ entries_of s log) (entries_of s log)) (sym (ne_eqb y.session s apart)) ∙ are) has
]
  where
    by : ((front : List Entry) → entries_of s log ≡ front ++ x ∷ high → Has e front → e.place < x.place) → (front : List Entry) → y ∷ entries_of s log ≡ front ++ x ∷ high → Has e front → e.place < x.place
    by later [] same there = absurd there
    by later (l ∷ front) same (inl is) =
        let here : y ≡ l = cc in
        let rest : entries_of s log ≡ front ++ x ∷ high = cc in
        let at = places (n + 1) (after_entry t y) log x legal.2 (has_own s log x (subst (λ (es : List Entry). Has x es) (sym rest) (has-right x front (x ∷ high) (inl refl)))) in
        omega (arith, at.0, legal.0, ap (λ (z : Entry). z.place) (here ∙ is))
    by later (l ∷ front) same (inr there) = let rest : entries_of s log ≡ front ++ x ∷ high = cc in later front rest there

-- A legal history in which what was built was sifted once.
module _ (Tells : List (ℕ → Bool) → List ℕ → Findings → Type 0) (n : ℕ) (wanted : List (ℕ → Bool)) (limit : ℕ) (sizes : Sizes) (log : List Entry) (old new : List Standing) (cell : ℕ) (found : Findings)
    (all : sizes.variables ≡ n) (none : sizes.elements ≡ 0) (wide : All (λ (s : Standing). s.vars ≡ n) new) (fresh : All (λ (s : Standing). s.entries ≡ []) old)
    (history : IsLegalHistoryOf sizes log new) (behind : BuildsSifted Tells limit cell wanted old new found) where
  abbrev builds : Builds Tells cell wanted old new found
  builds = behind.builds

  abbrev sift : Entry
  sift = entry behind.place builds.first.number (calls.Sift behind.told) replies.Done

  among_first : Contains new builds.first
  among_first = has_first Tells n wanted sizes log old new cell found wide fresh history builds

  -- what is known of each entry of the history, and of what was there at the places of a session's calls
  know : (e : Entry) → Has e log → IsKnown cell builds.handovers e
  know = known n sizes log old new cell builds.handovers builds.first among_first wide fresh history builds.turns builds.gains

  placed : (s : Standing) → Contains new s → (note : Note) → Contains s.placed note → IsNoted sizes log s.number note
  placed = placed_of n sizes log old new cell builds.handovers builds.first among_first wide fresh history builds.turns builds.gains

  all_wide : (s : Standing) → Contains new s → s.vars ≡ n
  all_wide = wide_of n sizes log old new cell builds.handovers builds.first among_first wide fresh history builds.turns builds.gains

  first_wide : builds.first.vars ≡ n
  first_wide = all_wide builds.first among_first

  fresh_all : All (λ (s : Standing). s.entries ≡ []) (builds.before ∷ builds.others)
  fresh_all = subst (All (λ (s : Standing). s.entries ≡ [])) builds.old_is fresh

  entries_are : builds.first.entries ≡ behind.low ++ sift ∷ behind.high
  entries_are =
      behind.entries_are
      ∙ ap (λ (es : List Entry). es ++ behind.low ++ sift ∷ behind.high) (All-head (λ (s : Standing). s.entries ≡ []) builds.before builds.others fresh_all)

  first_entries : entries_of builds.first.number log ≡ builds.first.entries
  first_entries = All-contains (λ (s : Standing). entries_of s.number log ≡ s.entries) new builds.first history.each among_first

  has_sift : Has sift log
  has_sift =
      has_own builds.first.number log sift
      (subst (λ (es : List Entry). Has sift es) (sym (first_entries ∙ entries_are)) (has-right sift behind.low (sift ∷ behind.high) (inl refl)))

  -- every other entry keeps the orders
  abbrev Keeps : Entry → Type 0
  Keeps e = (e.place ≡ behind.place → ⊥) → KeepsOrders e

  first_keeps : (e : Entry) → Has e builds.first.entries → Keeps e
  first_keeps e has apart = elim (has-parts e behind.low (sift ∷ behind.high) (subst (λ (es : List Entry). Has e es) entries_are has)) [
    | inl low ↦ all-has KeepsOrders behind.low behind.low_keeps e low
    | inr here ↦ elim here [ inl is ↦ absurd (apart (ap (λ (y : Entry). y.place) (sym is))) | inr high ↦ all-has KeepsOrders behind.high behind.high_keeps e high ]
  ]

  all_keep : All (AllOf Keeps) new
  all_keep =
      let rest = unsifted_all builds.others builds.rest behind.others_keep (All-tail (λ (s : Standing). s.entries ≡ []) builds.before builds.others fresh_all) in
      subst (All (AllOf Keeps)) (sym builds.new_is)
      (All-cons (AllOf Keeps) builds.first builds.rest (λ k d inside. first_keeps _ (has-at builds.first.entries k d inside))
      (λ k d inside j e within apart. rest k d inside j e within))

  keeps : (e : Entry) → Has e log → Keeps e
  keeps = all_of_history Keeps sizes log new all_keep history

  -- the entries below the sift
  abbrev front : List Entry
  front = take behind.place log

  abbrev table : Table
  table = table_after (opening sizes) front

  front_legal : IsLegal sizes front
  front_legal = legal-front 0 behind.place (opening sizes) log history.legal

  front_in : (e : Entry) → Has e front → Has e log
  front_in = front-has behind.place log

  front_below : (e : Entry) → Has e front → e.place < behind.place
  front_below e has = let at = places 0 (opening sizes) front e front_legal has in omega (arith, at.1, length-take behind.place log)

  log_is : (rest : List Entry) × (log ≡ front ++ sift ∷ rest)
  log_is = at_place sizes log sift history.legal has_sift

  front_long : length front ≡ behind.place
  front_long =
      let at = legal-right 0 (opening sizes) front (sift ∷ log_is.0) (subst (λ (es : List Entry). IsLegal sizes es) log_is.1 history.legal) in
      omega (arith, at.0)

  front_orders : orders_from (opening_orders sizes) front ≡ opening_orders sizes
  front_orders = kept_orders front (λ e has. keeps e (front_in e has) (λ is. omega (arith, front_below e has, is))) (opening_orders sizes)

  carries : IsFoundIn table (orders_from (opening_orders sizes) front) builds.first.number behind.told
  carries = (EachWith-parts Finds (opening sizes) (opening_orders sizes) front (sift ∷ log_is.0) (subst (EachWith Finds (opening sizes) (opening_orders sizes)) log_is.1 history.found)).1.0

  variables_are : behind.told.variables ≡ range_with_len 0 n
  variables_are = carries.variables_are ∙ ap (λ (o : Orders). o.variables) front_orders ∙ ap (range_with_len 0) all

  elements_are : behind.told.elements ≡ []
  elements_are = carries.elements_are ∙ ap (λ (o : Orders). o.elements) front_orders ∙ ap (range_with_len 0) none

  orders_are : record { variables = behind.told.variables; elements = behind.told.elements } ≡ rising_orders n []
  orders_are = λ k. record { variables = variables_are k; elements = elements_are k }

  -- the table at a place
  abbrev table_at : ℕ → Table
  table_at p = table_after (opening sizes) (take p log)

  legal_at : (p : ℕ) → IsLegal sizes (take p log)
  legal_at p = legal-front 0 p (opening sizes) log history.legal

  below_at : (p : ℕ) (e : Entry) → Has e (take p log) → e.place < p
  below_at p e has = let at = places 0 (opening sizes) (take p log) e (legal_at p) has in omega (arith, at.1, length-take p log)

  -- what a session's names stand for there, if it gave no name, or none from a place on
  no_rows : (p s : ℕ) (name : Name) (g : Function) → ((e : Entry) → Has e (entries_of s log) → e.reply ≡ replies.Done) → (table_at p).live s name ≡ Some g → ⊥
  no_rows p s name g done stands =
      let was : None ≡ Some g =
      stood_before s name g (opening sizes) (take p log)
      (λ e has. ((know e (front-has p log e has)).0.plain, λ is. done e (subst (λ q. Has e (entries_of q log)) is (own_has log e (front-has p log e has))))) stands in
      cc

  noted_rows : (p s : ℕ) (name : Name) (g : Function) (note : Note) → p ≤ length log → IsNoted sizes log s note → note.place ≤ p
      → ((e : Entry) → Has e (entries_of s log) → note.place ≤ e.place → e.reply ≡ replies.Done) → (table_at p).live s name ≡ Some g → note.stands name ≡ Some g
  noted_rows p s name g note inside noted below done stands =
      let low : List Entry = take p log in
      let early : List Entry = take note.place low in
      let later : List Entry = drop note.place low in
      let parts : early ++ later ≡ low = take-append-drop note.place low in
      let legal : IsLegal sizes (early ++ later) = subst (λ (es : List Entry). IsLegal sizes es) (sym parts) (legal_at p) in
      let has : (e : Entry) → Has e later → Has e log = λ e i. front-has p log e (subst (λ (es : List Entry). Has e es) parts (has-right e early later i)) in
      let long : length early ≡ note.place = omega (arith, length-take note.place low, length-take p log, inside, below) in
      let late : (e : Entry) → Has e later → note.place ≤ e.place = λ e i. let at = places (0 + length early) (table_after (opening sizes) early) later e (legal-right 0 (opening sizes) early later legal) i in omega (arith, at.0, long) in
      let at_end : (table_after (table_after (opening sizes) early) later).live s name ≡ Some g =
      ap (λ (t : Table). t.live s name) (sym (table_after-append (opening sizes) early later) ∙ ap (table_after (opening sizes)) parts) ∙ stands in
      let was : (table_after (opening sizes) early).live s name ≡ Some g =
      stood_before s name g (table_after (opening sizes) early) later
      (λ e i. ((know e (has e i)).0.plain, λ is. done e (subst (λ q. Has e (entries_of q log)) is (own_has log e (has e i))) (late e i))) at_end in
      sym (noted.rows name) ∙ ap (λ (es : List Entry). (table_after (opening sizes) es).live s name) (sym (take-front note.place p log below)) ∙ was

  -- a session that gives has an entry of its own where it noted what it has
  abbrev IsOwnAt : ℕ → ℕ → Type 0
  IsOwnAt s place = (e : Entry) × Has e log × (e.session ≡ s) × (e.place ≡ place)

  own_entries : (b : Standing) (s : ℕ) → Contains new b → b.number ≡ s → entries_of s log ≡ b.entries
  own_entries b s in_new same = ap (λ p. entries_of p log) (sym same) ∙ All-contains (λ (x : Standing). entries_of x.number log ≡ x.entries) new b history.each in_new

  own_at : (b : Standing) (s place : ℕ) → Contains new b → b.number ≡ s → (e : Entry) × Contains b.entries e × (e.place ≡ place) → IsOwnAt s place
  own_at b s place in_new same (e, there, at) =
      let has : Has e (entries_of s log) = subst (λ (es : List Entry). Has e es) (sym (own_entries b s in_new same)) (has-contained b.entries e there) in
      (e, has_own s log e has, own_session s log e has, at)

  -- of a session that gained what the sift's record says
  module _ (p s : ℕ) (name : Name) (g : Function) (inside : p ≤ length log) (late : (place : ℕ) → Contains (map (λ (h : Handover). h.post) builds.handovers) place → IsOwnAt s place → place ≤ p)
      (stands : (table_at p).live s name ≡ Some g) where
    given_rows : (others rest : List Standing) → AllZip (GivesOnly builds.first.vars wanted builds.handovers) others rest
        → All (λ (x : Standing). x.entries ≡ []) others → All (Contains new) rest
        → IsOneOf n wanted g ⊎ All (λ (x : Standing). x.number ≡ s → ⊥) rest
    given_rows [] [] gives empty among = inr (All-nil (λ (x : Standing). x.number ≡ s → ⊥))
    given_rows [] (b ∷ rest) gives empty among = absurd gives
    given_rows (a ∷ others) [] gives empty among = absurd gives
    given_rows (a ∷ others) (b ∷ rest) gives empty among = elim (cases_eq b.number s) [
      | inl same ↦ inl (by_gift same gives.0)
      | inr apart ↦ elim (given_rows others rest gives.1 (All-tail (λ (x : Standing). x.entries ≡ []) a others empty) (All-tail (Contains new) b rest among)) [
        | inl one ↦ inl one
        | inr others ↦ inr (All-cons (λ (x : Standing). x.number ≡ s → ⊥) b rest apart others)
      ]
    ]
      where
        in_new : Contains new b
        in_new = All-head (Contains new) b rest among

        by_gift : b.number ≡ s → GivesOnly builds.first.vars wanted builds.handovers a b → IsOneOf n wanted g
        by_gift same (inl (gained, are, done)) =
            let all_are : entries_of s log ≡ gained = own_entries b s in_new same ∙ are ∙ ap (λ (es : List Entry). es ++ gained) (All-head (λ (x : Standing). x.entries ≡ []) a others empty) in
            absurd (no_rows p s name g (λ e i. all-has (λ (x : Entry). x.reply ≡ replies.Done) gained done e (subst (λ (es : List Entry). Has e es) all_are i)) stands)
        by_gift same (inr (note, has, post, own, holds, done)) =
            let noted = placed b in_new note has in
            let stood : note.stands name ≡ Some g =
            noted_rows p s name g note inside (subst (λ q. IsNoted sizes log q note) same noted) (late note.place post (own_at b s note.place in_new same own))
            (λ e i. all-has (λ (x : Entry). note.place ≤ x.place → x.reply ≡ replies.Done) b.entries done e (subst (λ (es : List Entry). Has e es) (own_entries b s in_new same) i)) stands in
            subst (λ m. IsOneOf m wanted g) first_wide (holds name g stood)

  -- and what it was answered
  module _ (s : ℕ) (e : Entry) (has : Has e log) (of : e.session ≡ s) (late : (place : ℕ) → Contains (map (λ (h : Handover). h.post) builds.handovers) place → place ≤ e.place) where
    given_done : (others rest : List Standing) → AllZip (GivesOnly builds.first.vars wanted builds.handovers) others rest
        → All (λ (x : Standing). x.entries ≡ []) others → All (Contains new) rest
        → (e.reply ≡ replies.Done) ⊎ All (λ (x : Standing). x.number ≡ s → ⊥) rest
    given_done [] [] gives empty among = inr (All-nil (λ (x : Standing). x.number ≡ s → ⊥))
    given_done [] (b ∷ rest) gives empty among = absurd gives
    given_done (a ∷ others) [] gives empty among = absurd gives
    given_done (a ∷ others) (b ∷ rest) gives empty among = elim (cases_eq b.number s) [
      | inl same ↦ inl (by_gift same gives.0)
      | inr apart ↦ elim (given_done others rest gives.1 (All-tail (λ (x : Standing). x.entries ≡ []) a others empty) (All-tail (Contains new) b rest among)) [
        | inl one ↦ inl one
        | inr others ↦ inr (All-cons (λ (x : Standing). x.number ≡ s → ⊥) b rest apart others)
      ]
    ]
      where
        in_new : Contains new b
        in_new = All-head (Contains new) b rest among

        own : Has e (entries_of s log)
        own = subst (λ q. Has e (entries_of q log)) of (own_has log e has)

        by_gift : b.number ≡ s → GivesOnly builds.first.vars wanted builds.handovers a b → e.reply ≡ replies.Done
        by_gift same (inl (gained, are, done)) =
            let all_are : entries_of s log ≡ gained = own_entries b s in_new same ∙ are ∙ ap (λ (es : List Entry). es ++ gained) (All-head (λ (x : Standing). x.entries ≡ []) a others empty) in
            all-has (λ (x : Entry). x.reply ≡ replies.Done) gained done e (subst (λ (es : List Entry). Has e es) all_are own)
        by_gift same (inr (note, there, post, at, holds, done)) =
            all-has (λ (x : Entry). note.place ≤ x.place → x.reply ≡ replies.Done) b.entries done e (subst (λ (es : List Entry). Has e es) (own_entries b s in_new same) own) (late note.place post)

  -- what the first session fetched stands for the wanted functions there
  abbrev StandsFor : Handover → (ℕ → Bool) → Type 0
  StandsFor h g = behind.sifting.stands h.to ≡ Some (Bdd (list_of (2 ^ n) g))

  fetched_stand : (hs : List Handover) (functions gs : List (ℕ → Bool)) → map builds.note.stands (map (λ (h : Handover). h.to) hs) ≡ map (values_of builds.first.vars) functions
      → AreSame n functions gs → All (λ (h : Handover). behind.sifting.stands h.to ≡ builds.note.stands h.to) hs → AllZip StandsFor hs gs
  fetched_stand [] [] [] stand same stood = tt
  fetched_stand (h ∷ hs) [] gs stand same stood = absurd (cc stand)
  fetched_stand [] (f ∷ functions) gs stand same stood = absurd (cc stand)
  fetched_stand hs [] (g ∷ gs) stand same stood = absurd same
  fetched_stand hs (f ∷ functions) [] stand same stood = absurd same
  fetched_stand (h ∷ hs) (f ∷ functions) (g ∷ gs) stand same stood =
      let here : builds.note.stands h.to ≡ values_of builds.first.vars f = cc in
      let rest : map builds.note.stands (map (λ (x : Handover). x.to) hs) ≡ map (values_of builds.first.vars) functions = cc in (
        All-head (λ (x : Handover). behind.sifting.stands x.to ≡ builds.note.stands x.to) h hs stood ∙ here ∙ ap (λ m. values_of m f) first_wide
            ∙ ap (λ (values : List Bool). Some (Bdd values)) (list_of-same (2 ^ n) f g same.0),
        fetched_stand hs functions gs rest same.1 (All-tail (λ (x : Handover). behind.sifting.stands x.to ≡ builds.note.stands x.to) h hs stood),
      )

  all_stand : AllZip StandsFor builds.handovers wanted
  all_stand = fetched_stand builds.handovers builds.functions wanted builds.stand (told_same Tells n wanted sizes log old new cell found wide fresh history builds) behind.stood

  name_for : (hs : List Handover) (gs : List (ℕ → Bool)) (name : Name) → AllZip StandsFor hs gs → In name (map (λ (h : Handover). h.to) hs)
      → (g : ℕ → Bool) × Contains gs g × (behind.sifting.stands name ≡ Some (Bdd (list_of (2 ^ n) g)))
  name_for [] [] name stand i = absurd i
  name_for [] (g ∷ gs) name stand i = absurd i
  name_for (h ∷ hs) [] name stand i = absurd stand
  name_for (h ∷ hs) (g ∷ gs) name stand (inl is) = (g, (0, omega arith, refl), ap behind.sifting.stands is ∙ stand.0)
  name_for (h ∷ hs) (g ∷ gs) name stand (inr i) = let later = name_for hs gs name stand.1 i in (later.0, contains-later later.0 g gs later.1, later.2)

  fetched_one : (name : Name) (g : Function) → Contains (map (λ (h : Handover). h.to) builds.handovers) name → behind.sifting.stands name ≡ Some g → IsOneOf n wanted g
  fetched_one name g among stood =
      let one = name_for builds.handovers wanted name all_stand (contains_in (map (λ (h : Handover). h.to) builds.handovers) name among) in
      (one.0, one.1, same_Some g (Bdd (list_of (2 ^ n) one.0)) (sym stood ∙ one.2))

  sifting_rows : (name : Name) → table.live builds.first.number name ≡ behind.sifting.stands name
  sifting_rows name =
      let noted = placed builds.first among_first behind.sifting behind.among in
      ap (λ p. (table_after (opening sizes) (take p log)).live builds.first.number name) (sym behind.at_place) ∙ noted.rows name

  -- so the wanted functions are among those that were pinned
  fetched_among : (hs : List Handover) (gs : List (ℕ → Bool)) → AllZip StandsFor hs gs → All (λ (g : ℕ → Bool). IsAmong behind.told.functions (Bdd (list_of (2 ^ n) g))) gs
  fetched_among hs [] stand = All-nil (λ (g : ℕ → Bool). IsAmong behind.told.functions (Bdd (list_of (2 ^ n) g)))
  fetched_among [] (g ∷ gs) stand = absurd stand
  fetched_among (h ∷ hs) (g ∷ gs) stand =
      All-cons (λ (x : ℕ → Bool). IsAmong behind.told.functions (Bdd (list_of (2 ^ n) x))) g gs
      (carries.own h.to (Bdd (list_of (2 ^ n) g)) (sifting_rows h.to ∙ stand.0)) (fetched_among hs gs stand.1)

  rest_among : All (Contains new) builds.rest
  rest_among =
      subst (λ (ss : List Standing). All (Contains ss) builds.rest) (sym builds.new_is)
      (λ k d inside. contains-later (get_or builds.rest k d) builds.first builds.rest (All-contains_itself builds.rest k d inside))

  -- a session that is none of these has no entry
  none_other : (s : ℕ) → (builds.first.number ≡ s → ⊥) → All (λ (x : Standing). x.number ≡ s → ⊥) builds.rest → entries_of s log ≡ []
  none_other s apart others = history.no_other s (subst (All (λ (x : Standing). x.number ≡ s → ⊥)) (sym builds.new_is) (All-cons (λ (x : Standing). x.number ≡ s → ⊥) builds.first builds.rest apart others))

  others_fresh : All (λ (s : Standing). s.entries ≡ []) builds.others
  others_fresh = All-tail (λ (s : Standing). s.entries ≡ []) builds.before builds.others fresh_all

  first_row : (name : Name) (g : Function) → table.live builds.first.number name ≡ Some g → IsOneOf n wanted g
  first_row name g stands =
      let stood : behind.sifting.stands name ≡ Some g = sym (sifting_rows name) ∙ stands in
      elim (behind.own name g stood) [ inl fetched ↦ fetched_one name g fetched stood | inr one ↦ subst (λ m. IsOneOf m wanted g) first_wide one ]

  -- a row of another session
  other_row : (p s : ℕ) (name : Name) (g : Function) → p ≤ length log → (builds.first.number ≡ s → ⊥)
      → ((place : ℕ) → Contains (map (λ (h : Handover). h.post) builds.handovers) place → IsOwnAt s place → place ≤ p) → (table_at p).live s name ≡ Some g → IsOneOf n wanted g
  other_row p s name g inside apart late stands = elim (given_rows p s name g inside late stands builds.others builds.rest behind.givers others_fresh rest_among) [
    | inl one ↦ one
    | inr others ↦ absurd (no_rows p s name g (λ e i. absurd (subst (λ (es : List Entry). Has e es) (none_other s apart others) i)) stands)
  ]

  -- each post to a cell is that of a handover
  post_of : (e : Entry) → Has e log → (i : ℕ) (a : Name) → e.call ≡ calls.Post i a → (h : Handover) × In h builds.handovers × (h.post ≡ e.place)
  post_of e has i a post =
      let knows = know e has in
      let here : i ≡ cell = elim (cases_eq i cell) [ inl same ↦ same | inr apart ↦ absurd (true≢false (sym (ap (posts_to i) post ∙ eq-eqb i i refl) ∙ knows.0.elsewhere i apart)) ] in
      let posts : posts_to cell e.call ≡ true = ap (posts_to cell) post ∙ eq-eqb cell i (sym here) in
      posted_by builds.handovers e.place (contains_in (map (λ (h : Handover). h.post) builds.handovers) e.place (knows.1 posts))

  -- where the name that was posted stood for the wanted function
  module _ (f : ℕ → Bool) (h : Handover) (giver : Standing) (in_new : Contains new giver) (handed : IsDelivered cell f giver builds.first h) where
    posted_function : (table_after (opening sizes) (take h.post log)).live giver.number h.from ≡ Some (Bdd (list_of (2 ^ n) f))
    posted_function =
        ap (λ p. (table_after (opening sizes) (take p log)).live giver.number h.from) (sym handed.at_post)
        ∙ (placed giver in_new handed.posting handed.among).rows h.from ∙ handed.built ∙ ap (λ m. values_of m f) (all_wide giver in_new)

    its_post : Has (entry h.post giver.number (calls.Post cell h.from) replies.Done) log
    its_post =
        entries_in n sizes log old new cell builds.handovers builds.first among_first wide fresh history builds.turns builds.gains giver in_new
        (entry h.post giver.number (calls.Post cell h.from) replies.Done) handed.passed.0

    posted_is : (e : Entry) → Has e log → h.post ≡ e.place → (i : ℕ) (a : Name) → e.call ≡ calls.Post i a → (g : Function)
        → (table_after (opening sizes) (take e.place log)).live e.session a ≡ Some g → g ≡ Bdd (list_of (2 ^ n) f)
    posted_is e has at i a post g stands =
        let same : e ≡ entry h.post giver.number (calls.Post cell h.from) replies.Done = same_entry 0 (opening sizes) log e _ history.legal has its_post (sym at) in
        let name : a ≡ h.from = post_same i cell a h.from (sym post ∙ ap (λ (y : Entry). y.call) same) in
        let then : (table_after (opening sizes) (take e.place log)).live e.session a ≡ Some (Bdd (list_of (2 ^ n) f)) =
        ap (λ (x : Name). (table_after (opening sizes) (take e.place log)).live e.session x) name
        ∙ ap (λ (y : Entry). (table_after (opening sizes) (take y.place log)).live y.session h.from) same ∙ posted_function in
        same_Some g (Bdd (list_of (2 ^ n) f)) (sym stands ∙ then)

  posted_by_it : (e : Entry) → Has e log → (i : ℕ) (a : Name) → e.call ≡ calls.Post i a → (g : Function) → (table_at e.place).live e.session a ≡ Some g → IsOneOf n wanted g
  posted_by_it e has i a post g stands =
      let one = post_of e has i a post in
      let due = wanted_of cell wanted new builds.first builds.handovers one.0 builds.handed one.1 in
      (due.0, due.1, posted_is due.0 one.0 due.2.0 due.2.1 due.2.2 e has one.2 i a post g stands)

  -- the entries below one are those of the lower places
  early_at : (p : ℕ) (before : List Entry) (e : Entry) (rest : List Entry) → take p log ≡ before ++ e ∷ rest → (take e.place log ≡ before) × (e.place ≡ length before)
  early_at p before e rest is =
      let has : Has e (take p log) = subst (λ (es : List Entry). Has e es) (sym is) (has-right e before (e ∷ rest) (inl refl)) in
      let at : e.place ≡ 0 + length before = (legal-right 0 (opening sizes) before (e ∷ rest) (subst (λ (es : List Entry). IsLegal sizes es) is (legal_at p))).0 in (
        sym (take-front e.place p log (omega (arith, below_at p e has))) ∙ ap (λ q. take q (take p log)) (omega (arith, at)) ∙ ap (take (length before)) is ∙ take-append_seam before (e ∷ rest),
        omega (arith, at),
      )

  posted_one : (p : ℕ) (before rest : List Entry) (e : Entry) → take p log ≡ before ++ e ∷ rest → PostsOnly (IsOneOf n wanted) (table_after (opening sizes) before) e.session e.call
  posted_one p before rest e is i a post g stands =
      let has : Has e (take p log) = subst (λ (es : List Entry). Has e es) (sym is) (has-right e before (e ∷ rest) (inl refl)) in
      posted_by_it e (front-has p log e has) i a post g (ap (λ (es : List Entry). (table_after (opening sizes) es).live e.session a) (early_at p before e rest is).0 ∙ stands)

  cell_one : (p i : ℕ) (g : Function) → (table_at p).cells i ≡ Some g → IsOneOf n wanted g
  cell_one p = cells_have (IsOneOf n wanted) (opening sizes) (take p log)
      (λ before e rest is. (
        (know e (front-has p log e (subst (λ (es : List Entry). Has e es) (sym is) (has-right e before (e ∷ rest) (inl refl))))).0.plain,
        posted_one p before rest e is,
      ))
      (λ i g stands. absurd (none_some g stands))
    where
      none_some : (g : Function) → None ≡ Some g → ⊥
      none_some g is = cc

  one_wanted : (f g : Function) → IsOneOf n wanted g → AreOne f g → IsWanted n wanted f
  one_wanted f g (h, among, is) one = (h, among, subst (AreOne f) is one)

  -- the last call of the first session before the sift
  abbrev last_own : Entry
  last_own = behind.ends.1

  low_is : behind.low ≡ behind.ends.0 ++ last_own ∷ []
  low_is = sym (ap (λ (es : List Entry). es ++ behind.low) (All-head (λ (s : Standing). s.entries ≡ []) builds.before builds.others fresh_all)) ∙ behind.ends.2

  first_are : entries_of builds.first.number log ≡ behind.ends.0 ++ last_own ∷ (sift ∷ behind.high)
  first_are = first_entries ∙ entries_are ∙ ap (λ (es : List Entry). es ++ sift ∷ behind.high) low_is ∙ append_assoc behind.ends.0 (last_own ∷ []) (sift ∷ behind.high)

  own_last : Has last_own (entries_of builds.first.number log)
  own_last = subst (λ (es : List Entry). Has last_own es) (sym first_are) (has-right last_own behind.ends.0 (last_own ∷ (sift ∷ behind.high)) (inl refl))

  has_last : Has last_own log
  has_last = has_own builds.first.number log last_own own_last

  of_last : last_own.session ≡ builds.first.number
  of_last = own_session builds.first.number log last_own own_last

  last_below : last_own.place < behind.place
  last_below = before_it 0 (opening sizes) builds.first.number log behind.low sift behind.high last_own history.legal (first_entries ∙ entries_are)
      (subst (λ (es : List Entry). Has last_own es) (sym low_is) (has-right last_own behind.ends.0 (last_own ∷ []) (inl refl)))

  -- so any other of its calls before the sift lies below that
  own_below : (e : Entry) → Has e log → e.session ≡ builds.first.number → e.place < behind.place → e.place ≤ last_own.place
  own_below e has of less = by (has-parts e behind.ends.0 (last_own ∷ (sift ∷ behind.high)) (subst (λ (es : List Entry). Has e es) first_are (subst (λ q. Has e (entries_of q log)) of (own_has log e has))))
    where
      by : Has e behind.ends.0 ⊎ Has e (last_own ∷ (sift ∷ behind.high)) → e.place ≤ last_own.place
      by (inl early) = let lt = before_it 0 (opening sizes) builds.first.number log behind.ends.0 last_own (sift ∷ behind.high) e history.legal first_are early in omega (arith, lt)
      by (inr (inl is)) = omega (arith, ap (λ (y : Entry). y.place) is)
      by (inr (inr (inl is))) = absurd (omega (arith, less, ap (λ (y : Entry). y.place) is))
      by (inr (inr (inr high))) = let lt = behind_it 0 (opening sizes) builds.first.number log behind.low sift behind.high e history.legal (first_entries ∙ entries_are) high in absurd (omega (arith, less, lt))

  -- a place at which the sift may have found a function
  module _ (j : ℕ) (least : j ≤ behind.place) (late : All (λ (e : Entry). e.place < j) (entries_of builds.first.number front)) where
    own_late : (e : Entry) → Has e log → e.session ≡ builds.first.number → e.place < behind.place → e.place < j
    own_late e has of less =
        all-has (λ (x : Entry). x.place < j) (entries_of builds.first.number front) late e
        (subst (λ q. Has e (entries_of q front)) of (own_has front e (has-front 0 behind.place (opening sizes) log e history.legal has (omega (arith, less)))))

    log_long : behind.place ≤ length log
    log_long = omega (arith, front_long, length-take behind.place log)

    fetch_late : (h : Handover) → In h builds.handovers → h.fetch < j
    fetch_late h i =
        let due = wanted_of cell wanted new builds.first builds.handovers h builds.handed i in
        let e : Entry = entry h.fetch builds.first.number (calls.Fetch cell h.other) (replies.Fetched h.to true) in
        let has : Has e log = has_own builds.first.number log e (subst (λ (es : List Entry). Has e es) (sym first_entries) (has-contained builds.first.entries e due.2.2.passed.1)) in
        own_late e has refl (below_of builds.handovers behind.behind i)
      where
        below_of : (hs : List Handover) → All (λ (x : Handover). x.fetch < behind.place) hs → In h hs → h.fetch < behind.place
        below_of [] all i = absurd i
        below_of (x ∷ hs) all (inl is) = omega (arith, ap (λ (y : Handover). y.fetch) is, All-head (λ (y : Handover). y.fetch < behind.place) x hs all)
        below_of (x ∷ hs) all (inr i) = below_of hs (All-tail (λ (y : Handover). y.fetch < behind.place) x hs all) i

    post_late : (place : ℕ) → Contains (map (λ (h : Handover). h.post) builds.handovers) place → place < j
    post_late place there =
        post_below 0 j place builds.handovers builds.turns (λ k d inside. fetch_late (get_or builds.handovers k d) (contains_in builds.handovers (get_or builds.handovers k d) (All-contains_itself builds.handovers k d inside))) there

    -- the first session has there what it has at the sift's place
    abbrev between : List Entry
    between = drop j front

    early_is : take j front ≡ take j log
    early_is = take-front j behind.place log least

    first_same : (name : Name) → table.live builds.first.number name ≡ (table_at j).live builds.first.number name
    first_same name =
        let parts : take j front ++ between ≡ front = take-append-drop j front in
        let legal : IsLegal sizes (take j front ++ between) = subst (λ (es : List Entry). IsLegal sizes es) (sym parts) front_legal in
        let long : length (take j front) ≡ j = omega (arith, length-take j front, front_long, least) in
        let apart : (e : Entry) → Has e between → e.session ≡ builds.first.number → ⊥ =
        λ e i of. let has : Has e front = subst (λ (es : List Entry). Has e es) parts (has-right e (take j front) between i) in
        let at = places (0 + length (take j front)) (table_after (opening sizes) (take j front)) between e (legal-right 0 (opening sizes) (take j front) between legal) i in
        let lt = own_late e (front_in e has) of (front_below e has) in omega (arith, at.0, lt, long) in
        let plain : (e : Entry) → Has e between → is_numbered e.reply ≡ false = λ e i. (know e (front_in e (subst (λ (es : List Entry). Has e es) parts (has-right e (take j front) between i)))).0.plain in
        ap (λ (es : List Entry). (table_after (opening sizes) es).live builds.first.number name) (sym parts)
        ∙ ap (λ (t : Table). t.live builds.first.number name) (table_after-append (opening sizes) (take j front) between)
        ∙ stays_live builds.first.number name (table_after (opening sizes) (take j front)) between plain apart
        ∙ ap (λ (es : List Entry). (table_after (opening sizes) es).live builds.first.number name) early_is

    row_one : (s : ℕ) (name : Name) (g : Function) → (table_at j).live s name ≡ Some g → IsOneOf n wanted g
    row_one s name g stands = elim (cases_eq builds.first.number s) [
      | inl same ↦ first_row name g (first_same name ∙ ap (λ q. (table_at j).live q name) same ∙ stands)
      | inr apart ↦ other_row j s name g (omega (arith, least, log_long)) apart (λ place there own. let lt = post_late place there in omega (arith, lt)) stands
    ]

    of_table : (f : Function) → IsOfRow (table_at j) f ⊎ IsOfCell (table_at j) f → IsWanted n wanted f
    of_table f (inl (s, name, g, stands, one)) = one_wanted f g (row_one s name g stands) one
    of_table f (inr (i, g, stands, one)) = one_wanted f g (cell_one j i g stands) one

    -- what a session's last call took away was a wanted function
    module _ (f : Function) (l : LastLoses sizes (take j log) f) where
      lost_at : (take l.entry.place log ≡ l.before) × (l.entry.place ≡ length l.before)
      lost_at = early_at j l.before l.entry l.behind l.are

      lost_has : Has l.entry (take j log)
      lost_has = subst (λ (es : List Entry). Has l.entry es) (sym l.are) (has-right l.entry l.before (l.entry ∷ l.behind) (inl refl))

      lost_low : l.entry.place < j
      lost_low = below_at j l.entry lost_has

      -- any other entry of its session there is an earlier one
      lost_last : (e : Entry) → Has e log → e.session ≡ l.entry.session → e.place < j → (l.entry ≡ e) ⊎ (e.place < l.entry.place)
      lost_last e has of less = by (has-parts e l.before (l.entry ∷ l.behind) (subst (λ (es : List Entry). Has e es) l.are (has-front 0 j (opening sizes) log e history.legal has (omega (arith, less)))))
        where
          by : Has e l.before ⊎ Has e (l.entry ∷ l.behind) → (l.entry ≡ e) ⊎ (e.place < l.entry.place)
          by (inl early) =
              let at = places 0 (opening sizes) l.before e (legal-left 0 (opening sizes) l.before (l.entry ∷ l.behind) (subst (λ (es : List Entry). IsLegal sizes es) l.are (legal_at j))) early in
              inr (omega (arith, at.1, lost_at.1))
          by (inr (inl is)) = inl is
          by (inr (inr high)) = absurd (subst (λ (es : List Entry). Has e es) l.last (subst (λ q. Has e (entries_of q l.behind)) of (own_has l.behind e high)))

      lost_row : (a : Name) → l.entry.call ≡ calls.DropRow a → (table_at l.entry.place).live l.entry.session a ≡ Some l.function → IsOneOf n wanted l.function
      lost_row a drops stands = elim (cases_eq builds.first.number l.entry.session) [
        | inl same ↦ absurd (by (lost_last last_own has_last (of_last ∙ same) (own_late last_own has_last of_last last_below)) (own_below l.entry (front-has j log l.entry lost_has) (sym same) (omega (arith, lost_low, least))))
        | inr apart ↦ other_row l.entry.place l.entry.session a l.function (omega (arith, lost_low, least, log_long)) apart own_early stands
      ]
        where
          by : (l.entry ≡ last_own) ⊎ (last_own.place < l.entry.place) → l.entry.place ≤ last_own.place → ⊥
          by (inl is) le = behind.ends.3 a (sym (ap (λ (y : Entry). y.call) is) ∙ drops)
          by (inr lt) le = omega (arith, lt, le)

          own_early : (place : ℕ) → Contains (map (λ (h : Handover). h.post) builds.handovers) place → IsOwnAt l.entry.session place → place ≤ l.entry.place
          own_early place there (e, has, of, at) =
              let low = post_late place there in
              elim (lost_last e has of (omega (arith, at, low))) [ inl is ↦ omega (arith, at, ap (λ (y : Entry). y.place) is) | inr lt ↦ omega (arith, at, lt) ]

      loses_one : (call : Call) → l.entry.call ≡ call → Loses (table_after (opening sizes) l.before) l.entry.session call l.function → IsOneOf n wanted l.function
      loses_one (calls.DropRow a) is stands = lost_row a is (ap (λ (es : List Entry). (table_after (opening sizes) es).live l.entry.session a) lost_at.0 ∙ stands)
      loses_one (calls.Post i a) is stands = cell_one l.entry.place i l.function (ap (λ (es : List Entry). (table_after (opening sizes) es).cells i) lost_at.0 ∙ stands)
      loses_one _ is stands = absurd stands

      lost_wanted : IsWanted n wanted f
      lost_wanted = one_wanted f l.function (loses_one l.entry.call refl l.loses) l.one

    -- and so was what a session's next call adds
    module _ (f : Function) (l : FirstGains sizes (take j log) (drop j log) f) where
      abbrev below : List Entry
      below = take j log ++ l.before

      gained_is : log ≡ below ++ l.entry ∷ l.behind
      gained_is = sym (take-append-drop j log) ∙ ap (λ (es : List Entry). take j log ++ es) l.are ∙ sym (append_assoc (take j log) l.before (l.entry ∷ l.behind))

      gained_has : Has l.entry log
      gained_has = subst (λ (es : List Entry). Has l.entry es) (sym gained_is) (has-right l.entry below (l.entry ∷ l.behind) (inl refl))

      gained_legal : IsLegalFrom (0 + length below) (table_after (opening sizes) below) (l.entry ∷ l.behind)
      gained_legal = legal-right 0 (opening sizes) below (l.entry ∷ l.behind) (subst (λ (es : List Entry). IsLegal sizes es) gained_is history.legal)

      gained_high : j ≤ l.entry.place
      gained_high = omega (arith, gained_legal.0, length-append (take j log) l.before, length-take j log, least, log_long)

      gained_at : take l.entry.place log ≡ below
      gained_at = ap (λ (q : ℕ). take q log) (let at : l.entry.place ≡ length below = omega (arith, gained_legal.0) in at) ∙ ap (take (length below)) gained_is ∙ take-append_seam below (l.entry ∷ l.behind)

      -- it is none of the first session, whose next call is the sift
      not_first : builds.first.number ≡ l.entry.session → Gains (table_after (opening sizes) below) l.entry.session l.entry.call l.entry.reply l.function → ⊥
      not_first same gains = by (has-parts sift below (l.entry ∷ l.behind) (subst (λ (es : List Entry). Has sift es) gained_is has_sift))
        where
          in_parts : Has sift (take j log) ⊎ Has sift l.before → ⊥
          in_parts (inl low) = let lt = below_at j sift low in omega (arith, lt, least)
          in_parts (inr early) = subst (λ (es : List Entry). Has sift es) l.first (subst (λ q. Has sift (entries_of q l.before)) same (own_has l.before sift early))

          by : Has sift below ⊎ Has sift (l.entry ∷ l.behind) → ⊥
          by (inl low) = in_parts (has-parts sift (take j log) l.before low)
          by (inr (inl is)) = subst (λ (y : Entry). Gains (table_after (opening sizes) below) l.entry.session y.call y.reply l.function) is gains
          by (inr (inr high)) =
              let at = places (0 + length below + 1) (after_entry (table_after (opening sizes) below) l.entry) l.behind sift gained_legal.2 high in
              let lt = own_late l.entry gained_has (sym same) (omega (arith, at.0, gained_legal.0)) in
              omega (arith, lt, gained_high)

      is_done : (builds.first.number ≡ l.entry.session → ⊥) → l.entry.reply ≡ replies.Done
      is_done apart = elim (given_done l.entry.session l.entry gained_has refl (λ place there. let lt = post_late place there in omega (arith, lt, gained_high)) builds.others builds.rest behind.givers others_fresh rest_among) [
        | inl done ↦ done
        | inr others ↦ absurd (subst (λ (es : List Entry). Has l.entry es) (none_other l.entry.session apart others) (own_has log l.entry gained_has))
      ]

      gains_done : (call : Call) → l.entry.call ≡ call → Gains (table_after (opening sizes) below) l.entry.session call replies.Done l.function → IsOneOf n wanted l.function
      gains_done (calls.Post i a) is stands = posted_by_it l.entry gained_has i a is l.function (ap (λ (es : List Entry). (table_after (opening sizes) es).live l.entry.session a) gained_at ∙ stands)
      gains_done _ is stands = absurd stands

      gained_wanted : IsWanted n wanted f
      gained_wanted = one_wanted f l.function
          (elim (cases_eq builds.first.number l.entry.session) [
            | inl same ↦ absurd (not_first same l.gains)
            | inr apart ↦ gains_done l.entry.call refl (subst (λ (r : Reply). Gains (table_after (opening sizes) below) l.entry.session l.entry.call r l.function) (is_done apart) l.gains)
          ]) l.one

    had_wanted : (f : Function) → IsHadAt sizes log j f → IsWanted n wanted f
    had_wanted f (inl here) = of_table f here
    had_wanted f (inr (inl lost)) = lost_wanted f lost
    had_wanted f (inr (inr gained)) = gained_wanted f gained

  placed_wanted : (f : Function) → IsPlaced (IsHadAt sizes log) (entries_of builds.first.number front) behind.place f → IsWanted n wanted f
  placed_wanted f had = had_wanted had.place had.within had.later f had.is

  sift_at : get_elem? log behind.place ≡ some sift
  sift_at = ap (λ (es : List Entry). get_elem? es behind.place) log_is.1 ∙ ap (get_elem? (front ++ sift ∷ log_is.0)) (sym front_long) ∙ at_seam front sift log_is.0

  -- what was noted behind the sift is the order that the sift left
  noted_order : builds.note.order ≡ behind.told.order
  noted_order =
      let whole : List Entry = take builds.note.place log in
      let legal : IsLegal sizes whole = legal-front 0 builds.note.place (opening sizes) log history.legal in
      let has : Has sift whole = has-front 0 builds.note.place (opening sizes) log sift history.legal has_sift (omega (arith, behind.above)) in
      let parts = at_place sizes whole sift legal has in
      let rest : List Entry = parts.0 in
      let below : take behind.place whole ≡ front = take-front behind.place builds.note.place log (omega (arith, behind.above)) in
      let is : whole ≡ front ++ sift ∷ rest = parts.1 ∙ ap (λ (es : List Entry). es ++ sift ∷ rest) below in
      let later : IsLegalFrom (0 + length front) table (sift ∷ rest) = legal-right 0 (opening sizes) front (sift ∷ rest) (subst (λ (es : List Entry). IsLegal sizes es) is legal) in
      let keep : (e : Entry) → Has e rest → KeepsOrders e =
      λ e i. let at = places (0 + length front + 1) _ rest e later.2 i in
      keeps e (front-has builds.note.place log e (subst (λ (es : List Entry). Has e es) (sym is) (has-right e front (sift ∷ rest) (inr i)))) (λ same. omega (arith, same, at.0, front_long)) in
      let left : Orders = orders_after (orders_from (opening_orders sizes) front) (calls.Sift behind.told) replies.Done in
      sym (told_order Tells n wanted sizes log old new cell found wide fresh history builds)
      ∙ ap (λ (es : List Entry). (orders_from (opening_orders sizes) es).variables) is
      ∙ ap (λ (o : Orders). o.variables) (orders_from-append (opening_orders sizes) front (sift ∷ rest) ∙ kept_orders rest keep left)

  -- and that is the sifted order of the wanted functions
  pub sifted_told : SiftsGoByFunctions → WholesAreAlike → builds.note.order ≡ sifted_order limit n wanted
  sifted_told by_functions wholes =
      let by : IsSiftedBy limit n behind.told = subst (λ m. IsSiftedBy limit m behind.told) first_wide behind.sift in
      let each : Each (IsWanted n wanted) behind.told.functions = each_map (IsPlaced (IsHadAt sizes log) (entries_of builds.first.number front) behind.place) (IsWanted n wanted) placed_wanted behind.told.functions (history.had behind.place sift sift_at) in
      let among : All (λ (g : ℕ → Bool). IsAmong behind.told.functions (Bdd (list_of (2 ^ n) g))) wanted =
      fetched_among builds.handovers wanted all_stand in
      noted_order ∙ by.order_is ∙ ap (λ (o : Orders). (sifted o Variables (whole_block n) limit by.pinned).order) orders_are
      ∙ sifted_alike wholes n wanted by_functions limit by.elements by.pinned (subst (Each (IsWanted n wanted)) by.functions_are each)
      (subst (λ (fs : List Function). All (λ (g : ℕ → Bool). IsAmong fs (Bdd (list_of (2 ^ n) g))) wanted) by.functions_are among)
