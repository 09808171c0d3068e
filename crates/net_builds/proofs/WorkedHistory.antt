-- A worked history: a second session builds the one output of a network, which is its one input, and hands it over to the first.
use Rattle.std.proofs.Common.{◌≡◌, ◌<◌, ℕ, zero, suc, true, false, cond, List, [], ◌∷◌, refl, ap, ◌∙◌, arith, inl, inr, ne_eqb, codes, sym, subst, take, true≢false}
use Rattle.std.specs.Prelude.{Some, None, slice_get}
use Rattle.std.specs.List.{All}
use Rattle.std.specs.Fmt.{digits}
use Rattle.std.proofs.lemmas.List.Sorted.{IsPermutation-refl}
use Rattle.std.proofs.lemmas.Option.{slice_get_within}
use Rattle.edge_bits.specs.declared.limits.TheConstants.{CELLS}
use Rattle.edge_bits.specs.Assignments.{set_bit}
use Rattle.cover_nets.specs.declared.net.Net.{Net}
use Rattle.cover_nets.specs.Networks.{value_within}
use Rattle.diagram_dumps.specs.Listings.{IsListing}
use Rattle.diagram_dumps.specs.declared.listings.Listing.{Listing}
use Rattle.function_laws.specs.declared.history.Call.TheVariants as calls
use Rattle.function_laws.specs.declared.making.Making.TheVariants as makings
use Rattle.function_laws.specs.declared.making.BddMaking.TheVariants as bdds
use Rattle.function_laws.specs.declared.history.Entry.{Entry}
use Rattle.function_laws.specs.declared.history.Function.TheVariants.{Bdd}
use Rattle.function_laws.specs.declared.history.Name.{Name}
use Rattle.function_laws.specs.declared.history.Reply.TheVariants as replies
use Rattle.function_laws.specs.EntryOrders.{opening_orders, orders_from}
use Rattle.function_laws.specs.Handovers.{posts_to}
use Rattle.function_laws.specs.Histories.{IsLegal, table_after}
use Rattle.function_laws.specs.Lists.{all_below, list_of}
use Rattle.function_laws.specs.SessionEntries.{Each, entries_of, entry}
use Rattle.seat_guard.specs.Finds.{carried_by}
use Rattle.seat_guard.specs.Sifted.{IsHadAt, IsPlaced}
use Rattle.net_builds.proofs.Contained.{each_placed}
use Rattle.function_laws.specs.Sizes.{all_parts, distinct, parts}
use Rattle.function_laws.specs.Outcomes.{fetches, is_done, makes}
use Rattle.function_laws.specs.Tables.{Sizes, opening}
use Rattle.function_laws.specs.Values.{constant, projection}
use Rattle.net_builds.proofs.HandedLaw.{Has}
use Rattle.net_reports.specs.Classes.{AreClasses, Function as Values, IsClass}
use Rattle.net_reports.specs.Reports.{output_functions, report_text}
use Rattle.net_reports.specs.declared.classes.Class.{Class}
use Rattle.net_builds.specs.Builds.{Builds, FindsOf, IsLegalHistoryOf, IsNoted}
use Rattle.net_builds.specs.declared.telling.Findings.{Findings}
use Rattle.net_builds.specs.declared.telling.Telling.TheVariants.{Report}
use Rattle.net_builds.specs.Handings.{IsKnown}
use Rattle.net_builds.specs.Handed.{IsPlain}
use Rattle.net_builds.specs.Standings.{Note, Standing}
use Rattle.net_builds.specs.declared.handing.Handover.{Handover}
use Rattle.net_builds.proofs.WorkedListings.{lone, lone_listed}

abbrev name : ℕ → Name
name i = record { row = i; generation = i }

abbrev net : Net
net = record { inputs = codes "a" ∷ []; outputs = record { name = codes "f"; signal = 0 } ∷ []; gates = [] }

abbrev sizes : Sizes
sizes = record { variables = 1; elements = 0; most_variables = 1; most_elements = 0; cells = CELLS }

abbrev other : Entry
other = entry 0 0 (calls.Makes (makings.Bdd bdds.One)) (replies.Made (name 0))

abbrev built : Entry
built = entry 1 1 (calls.Makes (makings.Bdd (bdds.Var 0))) (replies.Made (name 0))

abbrev post : Entry
post = entry 2 1 (calls.Post 0 (name 0)) replies.Done

abbrev fetch : Entry
fetch = entry 3 0 (calls.Fetch 0 (name 0)) (replies.Fetched (name 1) true)

abbrev log : List Entry
log = other ∷ built ∷ post ∷ fetch ∷ []

-- a session before its first call, and after the calls of the history
abbrev before : ℕ → Standing
before s = record { vars = 1; number = s; adds = 0; rows = 0; stands = λ name. None; entries = []; notes = []; placed = [] }

-- what the session notes at a place
abbrev noted_at : ℕ → ℕ → Note
noted_at s place = record { place = place; order = 0 ∷ []; stands = (table_after (opening sizes) (take place log)).live s }

-- the names are let go at the end
abbrev after : ℕ → ℕ → List Entry → List Note → List Note → Standing
after s adds entries notes placed = record { vars = 1; number = s; adds = adds; rows = 0; stands = λ name. None; entries = entries; notes = notes; placed = placed }

abbrev note : Note
note = noted_at 0 4

abbrev first : Standing
first = after 0 2 (other ∷ fetch ∷ []) (note ∷ []) (noted_at 0 0 ∷ noted_at 0 3 ∷ [])

abbrev second : Standing
second = after 1 1 (built ∷ post ∷ []) [] (noted_at 1 1 ∷ noted_at 1 2 ∷ [])

abbrev handover : Handover
handover = record { from = name 0; to = name 1; other = name 0; post = 2; fetch = 3 }

all_one : {X : Type 0} (P : X → Type 0) (a : X) → P a → All P (a ∷ [])
all_one P a here zero d inside = here
all_one P a here (suc k) d inside = absurd (omega (arith, inside))

all_two : {X : Type 0} (P : X → Type 0) (a b : X) → P a → P b → All P (a ∷ b ∷ [])
all_two P a b here there zero d inside = here
all_two P a b here there (suc k) d inside = all_one P b there k d (omega (arith, inside))

legal : IsLegal sizes log
unfolding list_of
legal = (
  refl,
  (makes (Bdd (list_of 2 (constant true))), refl, refl),
  (
    refl,
    (makes (Bdd (list_of 2 (projection 0))), refl, refl),
    (refl, (is_done, refl, tt), (refl, (fetches (Bdd (list_of 2 (projection 0))) true, refl, (refl, refl)), tt)),
  ),
)

none_of : (es : List Entry) (p : ℕ) → ((e : Entry) → Has e es → e.session ≡ p → ⊥) → entries_of p es ≡ []
none_of [] p none = refl
none_of (e ∷ es) p none =
    ap (λ b. cond b (e ∷ entries_of p es) (entries_of p es)) (ne_eqb e.session p (none e (inl refl))) ∙ none_of es p (λ x has. none x (inr has))

no_other : (p : ℕ) → All (λ (s : Standing). s.number ≡ p → ⊥) (first ∷ second ∷ []) → entries_of p log ≡ []
no_other p none = none_of log p by
  where
    by : (e : Entry) → Has e log → e.session ≡ p → ⊥
    by e (inl is) same = none 0 first (omega arith) (ap (λ (x : Entry). x.session) is ∙ same)
    by e (inr (inl is)) same = none 1 first (omega arith) (ap (λ (x : Entry). x.session) is ∙ same)
    by e (inr (inr (inl is))) same = none 1 first (omega arith) (ap (λ (x : Entry). x.session) is ∙ same)
    by e (inr (inr (inr (inl is)))) same = none 0 first (omega arith) (ap (λ (x : Entry). x.session) is ∙ same)
    by e (inr (inr (inr (inr none)))) same = none

right : (s place : ℕ) → (orders_from (opening_orders sizes) (take place log)).variables ≡ 0 ∷ [] → IsNoted sizes log s (noted_at s place)
right s place order = record { order_is = order; rows = λ x. refl }

-- the entries are a legal history of the two
history : IsLegalHistoryOf sizes log (first ∷ second ∷ [])
history = record {
  legal = legal;
  found = (tt, (tt, (tt, (tt, tt))));
  had = each_placed (λ (i : ℕ) (e : Entry). Each (IsPlaced (IsHadAt sizes log) (entries_of e.session (take i log)) i) (carried_by e.call)) log (tt, (tt, (tt, (tt, tt))));
  each = all_two (λ (s : Standing). entries_of s.number log ≡ s.entries) first second refl refl;
  noted = all_two (λ (s : Standing). All (IsNoted sizes log s.number) s.notes) first second (all_one (IsNoted sizes log 0) note (right 0 4 refl)) (λ k d inside. absurd (omega (arith, inside)));
  placed = all_two (λ (s : Standing). All (IsNoted sizes log s.number) s.placed) first second
      (all_two (IsNoted sizes log 0) (noted_at 0 0) (noted_at 0 3) (right 0 0 refl) (right 0 3 refl))
      (all_two (IsNoted sizes log 1) (noted_at 1 1) (noted_at 1 2) (right 1 1 refl) (right 1 2 refl));
  no_other = no_other;
}

-- an entry that does not post to the cell is known
quiet : (e : Entry) → IsPlain e → ((cell : ℕ) → posts_to cell e.call ≡ false) → IsKnown 0 (handover ∷ []) e
quiet e plain posts = (record { plain = plain; elsewhere = λ cell apart. posts cell }, λ is. absurd (true≢false (sym is ∙ posts 0)))

abbrev own_class : Class
own_class = record { first = 0; complement = false }

of_first : IsClass 1 (projection 0 ∷ []) 0 own_class
of_first = record {
  not_later = omega arith;
  agrees = λ f g at_f at_g k below. (let is : f ≡ g = cc in ap (λ (h : Values). h k) is);
  none_before = λ j complement f g less at_f at_g agree. omega (arith, less);
}

one_class : AreClasses 1 (projection 0 ∷ []) (own_class ∷ [])
one_class = record { as_many = refl; each = each }
  where
    each : (i : ℕ) (class : Class) → slice_get (own_class ∷ []) i ≡ Some class → IsClass 1 (projection 0 ∷ []) i class
    each zero class at = (let is : own_class ≡ class = cc in subst (IsClass 1 (projection 0 ∷ []) 0) is of_first)
    each (suc i) class at = absurd (let less = slice_get_within (own_class ∷ []) (suc i) class at in omega (arith, less))

-- the two built the output and told of it, whatever memory the text takes
told : (found : Findings) → found.text.items ≡ codes "inputs 1\noutputs 1\nout 0 f 0 +\norder 0\nnodes 2\n" → found.listing ≡ lone
    → Builds (FindsOf net [] Report) 0 (output_functions net) (before 0 ∷ before 1 ∷ []) (first ∷ second ∷ []) found
unfolding list_of value_within report_text digits all_below all_parts distinct parts set_bit
told found text listing = record {
  handovers = handover ∷ [];
  before = before 0;
  others = before 1 ∷ [];
  old_is = refl;
  first = first;
  rest = second ∷ [];
  new_is = refl;
  handed = ((second, (1, omega arith, refl), record { posting = noted_at 1 2; among = (1, omega arith, refl); at_post = refl; built = refl; passed = ((1, omega arith, refl), (1, omega arith, refl)) }), tt);
  turns = (omega arith, omega arith, tt);
  gains = (
    other ∷ fetch ∷ [],
    refl,
    all_two (IsKnown 0 (handover ∷ [])) other fetch (quiet other refl (λ cell. refl)) (quiet fetch refl (λ cell. refl)),
    refl,
    refl,
    (
      built ∷ post ∷ [],
      refl,
      all_two (IsKnown 0 (handover ∷ [])) built post (quiet built refl (λ cell. refl))
          (record { plain = refl; elsewhere = λ cell apart. ne_eqb cell 0 apart }, λ posts. (0, omega arith, refl)),
      refl,
      refl,
      tt,
    ),
  );
  note = note;
  noted = refl;
  functions = projection 0 ∷ [];
  later = all_one (λ (h : Handover). h.fetch < 4) handover (omega arith);
  stand = refl;
  tells = record {
    told = record { orders = IsPermutation-refl (0 ∷ []); classes = own_class ∷ []; are_classes = one_class; bytes = text };
    listed = subst (λ (shown : Listing). IsListing (0 ∷ []) (projection 0 ∷ []) shown) (sym listing) lone_listed;
  };
}
