-- A worked history with a sift: a second session builds a multiplexer whose selector is the lowest variable, and hands it over to the first, which sifts the variables. The sift moves the selector up.
use Rattle.std.proofs.Common.{◌≡◌, ◌<◌, ◌≤◌, ℕ, Bool, zero, suc, true, false, cond, ◌++◌, List, [], ◌∷◌, refl, ap, sym, ◌∙◌, arith, get_or, inl, inr, ne_eqb, codes, subst, take, true≢false}
use Rattle.std.specs.Prelude.{Some, None, slice_get}
use Rattle.std.specs.List.{All}
use Rattle.std.specs.Fmt.{digits}
use Rattle.std.proofs.lemmas.List.Elements.{All-cons, All-nil}
use Rattle.std.proofs.lemmas.List.Sorted.{IsPermutation-to_front}
use Rattle.std.proofs.lemmas.Option.{same_Some, slice_get_within}
use Rattle.edge_bits.specs.declared.limits.TheConstants.{CELLS}
use Rattle.edge_bits.specs.Assignments.{set_bit}
use Rattle.diagram_dumps.specs.Listings.{IsListing}
use Rattle.diagram_dumps.specs.declared.listings.Listing.{Listing}
use Rattle.function_laws.specs.declared.history.Call.TheVariants as calls
use Rattle.function_laws.specs.declared.making.BddMaking.{BddMaking}
use Rattle.function_laws.specs.declared.making.Making.TheVariants as makings
use Rattle.function_laws.specs.declared.making.BddMaking.TheVariants as bdds
use Rattle.function_laws.specs.declared.history.Entry.{Entry}
use Rattle.function_laws.specs.declared.history.Function.{Function}
use Rattle.function_laws.specs.declared.history.Function.TheVariants.{Bdd}
use Rattle.function_laws.specs.declared.history.Name.{Name}
use Rattle.function_laws.specs.declared.history.Reply.TheVariants as replies
use Rattle.function_laws.specs.declared.history.Sifting.{Sifting}
use Rattle.function_laws.specs.EntryOrders.{opening_orders, orders_from}
use Rattle.function_laws.specs.Handovers.{posts_to}
use Rattle.function_laws.specs.Histories.{IsLegal, table_after}
use Rattle.function_laws.specs.Kinds.{BddFunction}
use Rattle.function_laws.specs.Lists.{all_below, any_below, list_of}
use Rattle.function_laws.specs.SessionEntries.{Each, entries_of, entry}
use Rattle.function_laws.specs.SiftEntries.{IsAmong}
use Rattle.function_laws.specs.SiftedOrders.{reach}
use Rattle.function_laws.specs.Sizes.{all_parts, distinct, parts, topmost}
use Rattle.function_laws.specs.Outcomes.{fetches, is_done, makes}
use Rattle.function_laws.specs.Tables.{Sizes, opening, same_name}
use Rattle.function_laws.specs.Values.{constant, if_then_else, projection}
use Rattle.seat_guard.specs.Finds.{IsFoundIn, carried_by}
use Rattle.seat_guard.specs.Sifted.{ArePlaced, IsHadAt, IsPlaced}
use Rattle.net_builds.proofs.Contained.{each_placed, has-at}
use Rattle.net_builds.proofs.HandedLaw.{legal-front, places}
use Rattle.net_builds.proofs.ToldLaws.{has_own}
use Rattle.net_reports.specs.Classes.{AreClasses, Function as Values, IsClass}
use Rattle.net_reports.specs.Reports.{report_text}
use Rattle.net_reports.specs.declared.classes.Class.{Class}
use Rattle.net_builds.specs.Builds.{Builds, FindingsOf, IsLegalHistoryOf, IsNoted}
use Rattle.net_builds.specs.declared.telling.Findings.{Findings}
use Rattle.net_builds.specs.declared.telling.Telling.TheVariants.{Report}
use Rattle.net_builds.specs.Handings.{IsKnown}
use Rattle.net_builds.specs.Handed.{IsPlain}
use Rattle.net_builds.specs.Sifting.{BuildsSifted, GivesOnly}
use Rattle.net_builds.specs.Standings.{IsSiftedBy, KeepsOrders, Note, Standing}
use Rattle.net_builds.specs.declared.handing.Handover.{Handover}
use Rattle.net_builds.proofs.WorkedListings.{selected, selected_listed}

all_of : {X : Type 0} (P : X → Type 0) (xs : List X) → Each P xs → All P xs
all_of P [] each = All-nil P
all_of P (x ∷ xs) each = All-cons P x xs each.0 (all_of P xs each.1)

abbrev name : ℕ → Name
name i = record { row = i; generation = i }

-- variable 0 where variable 2 holds, else variable 1
abbrev chosen : ℕ → Bool
chosen = if_then_else (projection 2) (projection 0) (projection 1)

abbrev whole : (ℕ → Bool) → Function
whole f = Bdd (list_of 8 f)

abbrev sizes : Sizes
sizes = record { variables = 3; elements = 0; most_variables = 3; most_elements = 0; cells = CELLS }

abbrev makes_at : ℕ → ℕ → BddMaking Name (List ℕ) (List (ℕ × Name)) → ℕ → Entry
makes_at place s making row = entry place s (calls.Makes (makings.Bdd making)) (replies.Made (name row))

abbrev drops_at : ℕ → ℕ → ℕ → Entry
drops_at place s row = entry place s (calls.DropRow (name row)) replies.Done

abbrev post : Entry
post = entry 7 1 (calls.Post 0 (name 3)) replies.Done

abbrev fetch : Entry
fetch = entry 9 0 (calls.Fetch 0 (name 0)) (replies.Fetched (name 1) true)

abbrev told : Sifting
told = record { variables = 0 ∷ 1 ∷ 2 ∷ []; elements = []; functions = whole chosen ∷ []; order = 2 ∷ 0 ∷ 1 ∷ [] }

abbrev sift : Entry
sift = entry 12 0 (calls.Sift told) replies.Done

abbrev sweep : Entry
sweep = entry 11 0 calls.Sweep replies.Done

abbrev building : List Entry
building = makes_at 0 1 (bdds.Var 2) 0 ∷ makes_at 1 1 (bdds.Var 0) 1 ∷ makes_at 2 1 (bdds.Var 1) 2 ∷ makes_at 3 1 (bdds.Ite (name 0) (name 1) (name 2)) 3
    ∷ drops_at 4 1 0 ∷ drops_at 5 1 1 ∷ drops_at 6 1 2 ∷ post ∷ []

abbrev low : List Entry
low = makes_at 8 0 bdds.One 0 ∷ fetch ∷ drops_at 10 0 0 ∷ sweep ∷ []

abbrev log : List Entry
log = building ++ low ++ sift ∷ []

-- a session before its first call, and after the calls of the history
abbrev before : ℕ → Standing
before s = record { vars = 3; number = s; adds = 0; rows = 0; stands = λ name. None; entries = []; notes = []; placed = [] }

abbrev noted_at : ℕ → ℕ → List ℕ → Note
noted_at s place order = record { place = place; order = order; stands = (table_after (opening sizes) (take place log)).live s }

-- the names are let go at the end
abbrev after : ℕ → ℕ → List Entry → List Note → List Note → Standing
after s adds entries notes placed = record { vars = 3; number = s; adds = adds; rows = 0; stands = λ name. None; entries = entries; notes = notes; placed = placed }

abbrev posting : Note
posting = noted_at 1 7 (0 ∷ 1 ∷ 2 ∷ [])

abbrev sifting : Note
sifting = noted_at 0 12 (0 ∷ 1 ∷ 2 ∷ [])

abbrev note : Note
note = noted_at 0 13 (2 ∷ 0 ∷ 1 ∷ [])

abbrev first : Standing
first = after 0 2 (low ++ sift ∷ []) (note ∷ []) (sifting ∷ [])

abbrev second : Standing
second = after 1 4 building [] (posting ∷ [])

abbrev handover : Handover
handover = record { from = name 3; to = name 1; other = name 0; post = 7; fetch = 9 }

legal : IsLegal sizes log
unfolding list_of
legal = (
  refl,
  (makes (whole (projection 2)), refl, refl),
  (
    refl,
    (makes (whole (projection 0)), refl, refl),
    (
      refl,
      (makes (whole (projection 1)), refl, refl),
      (
        refl,
        (makes (whole chosen), refl, refl),
        (
          refl,
          (is_done, refl, tt),
          (
            refl,
            (is_done, refl, tt),
            (
              refl,
              (is_done, refl, tt),
              (
                refl,
                (is_done, refl, tt),
                (
                  refl,
                  (makes (whole (constant true)), refl, refl),
                  (refl, (fetches (whole chosen) true, refl, (refl, refl)), (refl, (is_done, refl, tt), (refl, (is_done, refl, tt), (refl, (is_done, refl, tt), tt)))),
                ),
              ),
            ),
          ),
        ),
      ),
    ),
  ),
)

none_of : (es : List Entry) (p : ℕ) → Each (λ (e : Entry). e.session ≡ p → ⊥) es → entries_of p es ≡ []
none_of [] p none = refl
none_of (e ∷ es) p none = ap (λ b. cond b (e ∷ entries_of p es) (entries_of p es)) (ne_eqb e.session p none.0) ∙ none_of es p none.1

no_other : (p : ℕ) → All (λ (s : Standing). s.number ≡ p → ⊥) (first ∷ second ∷ []) → entries_of p log ≡ []
no_other p none =
    let one : 0 ≡ p → ⊥ = none 0 first (omega arith) in
    let two : 1 ≡ p → ⊥ = none 1 first (omega arith) in
    none_of log p (two, (two, (two, (two, (two, (two, (two, (two, (one, (one, (one, (one, (one, tt)))))))))))))

-- the first session has one name at the sift's place, and so has the second one at its post's place
first_has : (x y : Function) (b c : Bool) (f : Function) → cond b None (cond c (Some x) (cond b (Some y) None)) ≡ Some f → x ≡ f
first_has x y true c f is = cc
first_has x y false true f is = same_Some x f is
first_has x y false false f is = cc

second_has : (u v w x : Function) (a b c d : Bool) (f : Function)
    → cond c None (cond b None (cond a None (cond d (Some x) (cond c (Some w) (cond b (Some v) (cond a (Some u) None)))))) ≡ Some f → x ≡ f
second_has u v w x a b true d f is = cc
second_has u v w x a true false d f is = cc
second_has u v w x true false false d f is = cc
second_has u v w x false false false true f is = same_Some x f is
second_has u v w x false false false false f is = cc

fetched_alone : (at : Name) (f : Function) → sifting.stands at ≡ Some f → whole chosen ≡ f
unfolding list_of
fetched_alone at f stands = first_has (whole chosen) (whole (constant true)) (same_name at (name 0)) (same_name at (name 1)) f stands

posted_alone : (at : Name) (f : Function) → posting.stands at ≡ Some f → whole chosen ≡ f
unfolding list_of
posted_alone at f stands =
    second_has (whole (projection 2)) (whole (projection 0)) (whole (projection 1)) (whole chosen) (same_name at (name 0)) (same_name at (name 1)) (same_name at (name 2)) (same_name at (name 3)) f stands

carries : IsFoundIn (table_after (opening sizes) (take 12 log)) (opening_orders sizes) 0 told
unfolding list_of
carries = record {
  variables_are = refl;
  elements_are = refl;
  apart = (tt, tt);
  own = λ at f stands. subst (IsAmong (whole chosen ∷ [])) (fetched_alone at f stands) (inl (inl refl));
}

no_drop : (a : Name) → calls.Sweep ≡ calls.DropRow a → ⊥
no_drop a is = cc

-- the sift's function was that of a row of its session
own_low : All (λ (e : Entry). e.place < 12) (entries_of 0 (take 12 log))
own_low k d inside =
    let e : Entry = get_or (entries_of 0 (take 12 log)) k d in
    let at = places 0 (opening sizes) (take 12 log) e (legal-front 0 12 (opening sizes) log legal) (has_own 0 (take 12 log) e (has-at (entries_of 0 (take 12 log)) k d inside)) in
    omega (arith, at.1)

sifted_row : IsPlaced (IsHadAt sizes log) (entries_of 0 (take 12 log)) 12 (whole chosen)
unfolding list_of
sifted_row = record { place = 12; within = omega arith; later = own_low; is = inl (inl (0, name 1, whole chosen, refl, inl refl)) }

had : ArePlaced (IsHadAt sizes log) log
had = each_placed (λ (i : ℕ) (e : Entry). Each (IsPlaced (IsHadAt sizes log) (entries_of e.session (take i log)) i) (carried_by e.call)) log
    (tt, (tt, (tt, (tt, (tt, (tt, (tt, (tt, (tt, (tt, (tt, (tt, ((sifted_row, tt), tt)))))))))))))

noted : (s place : ℕ) (order : List ℕ) → (orders_from (opening_orders sizes) (take place log)).variables ≡ order → IsNoted sizes log s (noted_at s place order)
noted s place order is = record { order_is = is; rows = λ x. refl }

-- the entries are a legal history of the two
history : IsLegalHistoryOf sizes log (first ∷ second ∷ [])
history = record {
  legal = legal;
  found = (tt, (tt, (tt, (tt, (tt, (tt, (tt, (tt, (tt, (tt, (tt, (tt, (carries, tt)))))))))))));
  had = had;
  each = all_of (λ (s : Standing). entries_of s.number log ≡ s.entries) (first ∷ second ∷ []) (refl, (refl, tt));
  noted = all_of (λ (s : Standing). All (IsNoted sizes log s.number) s.notes) (first ∷ second ∷ [])
      (all_of (IsNoted sizes log 0) (note ∷ []) (noted 0 13 (2 ∷ 0 ∷ 1 ∷ []) refl, tt), (All-nil (IsNoted sizes log 1), tt));
  placed = all_of (λ (s : Standing). All (IsNoted sizes log s.number) s.placed) (first ∷ second ∷ []) (
    all_of (IsNoted sizes log 0) (sifting ∷ []) (noted 0 12 (0 ∷ 1 ∷ 2 ∷ []) refl, tt),
    (all_of (IsNoted sizes log 1) (posting ∷ []) (noted 1 7 (0 ∷ 1 ∷ 2 ∷ []) refl, tt), tt),
  );
  no_other = no_other;
}

-- an entry that does not post to the cell is known
quiet : (e : Entry) → IsPlain e → ((cell : ℕ) → posts_to cell e.call ≡ false) → IsKnown 0 (handover ∷ []) e
quiet e plain posts = (record { plain = plain; elsewhere = λ cell apart. posts cell }, λ is. absurd (true≢false (sym is ∙ posts 0)))

its_post : IsKnown 0 (handover ∷ []) post
its_post = (record { plain = refl; elsewhere = λ cell apart. ne_eqb cell 0 apart }, λ posts. (0, omega arith, refl))

first_known : All (IsKnown 0 (handover ∷ [])) (low ++ sift ∷ [])
first_known = all_of (IsKnown 0 (handover ∷ [])) (low ++ sift ∷ [])
    (quiet _ refl (λ cell. refl), (quiet _ refl (λ cell. refl), (quiet _ refl (λ cell. refl), (quiet _ refl (λ cell. refl), (quiet _ refl (λ cell. refl), tt)))))

second_known : All (IsKnown 0 (handover ∷ [])) building
second_known = all_of (IsKnown 0 (handover ∷ [])) building (
  quiet _ refl (λ cell. refl),
  (
    quiet _ refl (λ cell. refl),
    (
      quiet _ refl (λ cell. refl),
      (quiet _ refl (λ cell. refl), (quiet _ refl (λ cell. refl), (quiet _ refl (λ cell. refl), (quiet _ refl (λ cell. refl), (its_post, tt))))),
    ),
  ),
)

-- the one function is its own class
abbrev own_class : Class
own_class = record { first = 0; complement = false }

of_first : IsClass 3 (chosen ∷ []) 0 own_class
of_first = record {
  not_later = omega arith;
  agrees = λ f g at_f at_g k below. (let is : f ≡ g = cc in ap (λ (h : Values). h k) is);
  none_before = λ j complement f g less at_f at_g agree. omega (arith, less);
}

one_class : AreClasses 3 (chosen ∷ []) (own_class ∷ [])
one_class = record { as_many = refl; each = each }
  where
    each : (i : ℕ) (class : Class) → slice_get (own_class ∷ []) i ≡ Some class → IsClass 3 (chosen ∷ []) i class
    each zero class at = (let is : own_class ≡ class = cc in subst (IsClass 3 (chosen ∷ []) 0) is of_first)
    each (suc i) class at = absurd (let less = slice_get_within (own_class ∷ []) (suc i) class at in omega (arith, less))

abbrev Tells : List (ℕ → Bool) → List ℕ → Findings → Type 0
Tells = FindingsOf 3 (codes "f" ∷ []) [] Report

gives : GivesOnly 3 (chosen ∷ []) (handover ∷ []) (before 1) second
gives = inr (
  posting,
  (0, omega arith, refl),
  (0, omega arith, refl),
  (post, (7, omega arith, refl), refl),
  λ at f stands. (chosen, (0, omega arith, refl), sym (posted_alone at f stands)),
  all_of (λ (e : Entry). 7 ≤ e.place → e.reply ≡ replies.Done) building
      ((λ le. absurd (omega (arith, le))), ((λ le. absurd (omega (arith, le))), ((λ le. absurd (omega (arith, le))), ((λ le. absurd (omega (arith, le))), ((λ le. refl), ((λ le. refl), ((λ le. refl), ((λ le. refl), tt)))))))),
)

sifted_by : IsSiftedBy 100 3 told
unfolding list_of parts all_parts distinct topmost any_below all_below set_bit reach
sifted_by = record { elements = 0; pinned = BddFunction chosen ∷ []; functions_are = refl; order_is = refl }

-- what it tells, whatever memory the text takes
module _ (found : Findings) (text : found.text.items ≡ codes "inputs 3\noutputs 1\nout 0 f 0 +\norder 2 0 1\nnodes 4\n") (listing : found.listing ≡ selected) where
  -- its report under the order that the sift left, in which it has a node of its own, beside two variables and a constant
  tells : Tells (chosen ∷ []) (2 ∷ 0 ∷ 1 ∷ []) found
  unfolding list_of report_text digits all_below all_parts distinct parts set_bit
  tells = record {
    told = record { orders = IsPermutation-to_front (0 ∷ 1 ∷ []) 2; classes = own_class ∷ []; are_classes = one_class; bytes = text };
    listed = subst (λ (shown : Listing). IsListing (2 ∷ 0 ∷ 1 ∷ []) (chosen ∷ []) shown) (sym listing) selected_listed;
  }

  -- the two built the function and told of it behind the sift
  builds : Builds Tells 0 (chosen ∷ []) (before 0 ∷ before 1 ∷ []) (first ∷ second ∷ []) found
  unfolding list_of
  builds = record {
    handovers = handover ∷ [];
    before = before 0;
    others = before 1 ∷ [];
    old_is = refl;
    first = first;
    rest = second ∷ [];
    new_is = refl;
    handed = ((second, (1, omega arith, refl), record { posting = posting; among = (0, omega arith, refl); at_post = refl; built = refl; passed = ((7, omega arith, refl), (1, omega arith, refl)) }), tt);
    turns = (omega arith, omega arith, tt);
    gains = (low ++ sift ∷ [], refl, first_known, refl, refl, (building, refl, second_known, refl, refl, tt));
    note = note;
    noted = refl;
    functions = chosen ∷ [];
    later = all_of (λ (h : Handover). h.fetch < 13) (handover ∷ []) (omega arith, tt);
    stand = refl;
    tells = tells;
  }

  behind : BuildsSifted Tells 100 0 (chosen ∷ []) (before 0 ∷ before 1 ∷ []) (first ∷ second ∷ []) found
  unfolding list_of builds
  behind = record {
    builds = builds;
    place = 12;
    told = told;
    low = low;
    high = [];
    entries_are = refl;
    low_keeps = all_of KeepsOrders low ((λ o. refl), ((λ o. refl), ((λ o. refl), ((λ o. refl), tt))));
    high_keeps = All-nil KeepsOrders;
    others_keep = (
      all_of KeepsOrders building ((λ o. refl), ((λ o. refl), ((λ o. refl), ((λ o. refl), ((λ o. refl), ((λ o. refl), ((λ o. refl), ((λ o. refl), tt)))))))),
      tt,
    );
    behind = all_of (λ (h : Handover). h.fetch < 12) (handover ∷ []) (omega arith, tt);
    above = omega arith;
    sifting = sifting;
    among = (0, omega arith, refl);
    at_place = refl;
    stood = all_of (λ (h : Handover). sifting.stands h.to ≡ note.stands h.to) (handover ∷ []) (refl, tt);
    own = λ at f stands. inr (chosen, (0, omega arith, refl), sym (fetched_alone at f stands));
    givers = (gives, tt);
    ends = (makes_at 8 0 bdds.One 0 ∷ fetch ∷ drops_at 10 0 0 ∷ [], sweep, refl, λ a. no_drop a);
    sift = sifted_by;
  }
