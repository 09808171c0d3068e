-- What is told of the functions of names.
use Rattle.std.proofs.Common.{◌≡◌, ℕ, ◌+◌, ◌<◌, ◌^◌, Bool, List, [], ◌∷◌, ◌++◌, Some, length, get_or, map, take, refl, ap, ap₂, sym, ◌∙◌, subst, arith}
use Rattle.std.specs.Prelude.{IsPermutation}
use Rattle.std.specs.List.{range_with_len}
use Rattle.std.proofs.lemmas.List.{append-nil, length-map, map_more}
use Rattle.std.proofs.lemmas.List.Elements.{All-nil, All-weaker}
use Rattle.std.proofs.lemmas.Simd.{map-map}
use Rattle.function_laws.specs.declared.history.Function.TheVariants.{Bdd}
use Rattle.function_laws.specs.declared.history.Name.{Name}
use Rattle.function_laws.specs.Lists.{truth}
use Rattle.function_laws.proofs.ListLemmas.{truth-list_of}
use Rattle.cover_nets.specs.declared.net.Net.{Net}
use Rattle.diagram_dumps.specs.declared.listings.Listing.{Listing}
use Rattle.net_reports.specs.Classes.{AreClasses}
use Rattle.net_reports.specs.Evaluations.{assignment, evaluation_at, values_at}
use Rattle.net_reports.specs.Reports.{count_firsts, node_count, output_names, report_text, summary_text}
use Rattle.net_reports.specs.declared.classes.Class.{Class}
use Rattle.net_reports.specs.declared.patterns.Evaluation.{Evaluation}
use Rattle.net_builds.specs.Asked.{MayReport}
use Rattle.net_builds.specs.Builds.{TellingOf}
use Rattle.net_builds.specs.Handings.{IsTold, Looks}
use Rattle.net_builds.specs.Standings.{Asks, HasRoom, IsLive, IsQuiet, Lists, Standing, values_of}
use Rattle.net_builds.specs.declared.telling.Findings.{Findings}
use Rattle.net_builds.specs.declared.telling.Telling.TheVariants.{Report, Summary}
use Rattle.net_builds.specs.Tellings.{evaluation_in, value_in, values_in}
use Rattle.net_builds.proofs.StandingLemmas.{gains_none, gains_then, live_list, still_live}
use Rattle.net_builds.proofs.Mapped.{length_same, map_same}
use Rattle.net_builds.proofs.OnceEach.{once_each}
use Rattle.net_builds.proofs.SameReports.{assignment_below}

pub asks_none : (a : Standing) → Asks a a
asks_none a = record { works = gains_none IsQuiet a; kept = λ other. refl; rows = omega arith }

pub asks_on : (a b c : Standing) → Asks a b → Asks b c → Asks a c
asks_on a b c first second = record {
  works = gains_then IsQuiet a b c first.works second.works;
  kept = λ other. second.kept other ∙ first.kept other;
  rows = omega (arith, first.rows, second.rows);
}

pub held_asked : (a b : Standing) → Asks a b → (name : Name) → IsLive a name → IsLive b name
held_asked a b asks name held = still_live a b name asks.works.more (asks.kept name) held

-- what names stand for has one value where it stands for the same
values_asked : (a b : Standing) → Asks a b → (names : List Name) (k : ℕ) → values_in b names k ≡ values_in a names k
values_asked a b asks names k = map_same (λ name. value_in k (b.stands name)) (λ name. value_in k (a.stands name)) (λ name. ap (value_in k) (asks.kept name)) names

evaluation_asked : (a b : Standing) → Asks a b → (names : List Name) (pattern : List Bool) → evaluation_in b names pattern ≡ evaluation_in a names pattern
evaluation_asked a b asks names pattern =
    let with_values : List Bool → Evaluation = λ values. record { pattern = pattern; values = values } in
    ap with_values (values_asked a b asks names (assignment b.vars pattern) ∙ ap (λ vars. values_in a names (assignment vars pattern)) asks.works.vars_are)

-- one more of the patterns is evaluated at
pub evaluations_more : (a b : Standing) (names : List Name) (patterns : List (List Bool)) (i : ℕ) (pattern seen : List Bool) (one : Evaluation) (before after : List Evaluation)
    → i < length patterns → pattern ≡ get_or patterns i pattern → seen ≡ pattern → Asks a b → before ≡ map (evaluation_in a names) (take i patterns)
    → one ≡ evaluation_in b names seen → after ≡ before ++ one ∷ [] → after ≡ map (evaluation_in a names) (take (i + 1) patterns)
evaluations_more a b names patterns i pattern seen one before after inside at same asks so_far next is =
    is ∙ ap₂ (λ (all : List Evaluation) (last : Evaluation). all ++ last ∷ []) so_far (next ∙ evaluation_asked a b asks names seen ∙ ap (evaluation_in a names) (same ∙ at))
    ∙ sym (map_more (evaluation_in a names) patterns i pattern inside)

-- the value of a held name
pub value_held : (s : Standing) (name : Name) (k : ℕ) (value : Bool) → IsLive s name → ((f : List Bool) → s.stands name ≡ Some (Bdd f) → value ≡ truth f k)
    → value ≡ value_in k (s.stands name)
value_held s name k value held is =
    let list = live_list s name held in
    is list.0 list.1 ∙ ap (value_in k) (sym list.1)

pub value_of_row : (n k : ℕ) (f : ℕ → Bool) → k < 2 ^ n → value_in k (values_of n f) ≡ f k
value_of_row n k f below = truth-list_of (2 ^ n) k f below

-- the functions that names stand for have the names' values
values_told : (s : Standing) (names : List Name) (functions : List (ℕ → Bool)) → map s.stands names ≡ map (values_of s.vars) functions
    → (pattern : List Bool) → values_in s names (assignment s.vars pattern) ≡ values_at s.vars functions pattern
values_told s names functions stand pattern =
    let k = assignment s.vars pattern in
    sym (map-map (value_in k) s.stands names) ∙ ap (map (value_in k)) stand ∙ map-map (value_in k) (values_of s.vars) functions
    ∙ map_same (λ (f : ℕ → Bool). value_in k (values_of s.vars f)) (λ (f : ℕ → Bool). f k) (λ f. value_of_row s.vars k f (assignment_below s.vars pattern)) functions

evaluations_told : (s : Standing) (names : List Name) (functions : List (ℕ → Bool)) → map s.stands names ≡ map (values_of s.vars) functions
    → (patterns : List (List Bool)) → map (evaluation_in s names) patterns ≡ map (evaluation_at s.vars functions) patterns
evaluations_told s names functions stand patterns =
    map_same (evaluation_in s names) (evaluation_at s.vars functions)
    (λ pattern. ap (λ values. record { pattern = pattern; values = values }) (values_told s names functions stand pattern)) patterns

pub stands_in : (old mid : Standing) (names : List Name) (listing : Listing) (lists : Lists old mid names listing) → map mid.stands names ≡ map (values_of mid.vars) lists.functions
stands_in old mid names listing lists = subst (λ (s : Standing). map s.stands names ≡ map (values_of s.vars) lists.functions) (sym lists.new_is) lists.stand

-- what tells something changes no name
pub looks_none : (a : Standing) → Looks a a
looks_none a = record {
  vars_are = refl;
  number_is = refl;
  gained = [];
  entries_are = sym (append-nil a.entries);
  quiet = All-nil IsQuiet;
  more = omega arith;
  behind = [];
  placed_are = sym (append-nil a.placed);
  kept = λ other. refl;
  rows = omega arith;
}

pub looks_same : (a b : Standing) → b ≡ a → Looks a b
looks_same a b same = subst (Looks a) (sym same) (looks_none a)

-- a listing, and then some calls that change nothing
pub looks_listed : (old mid new : Standing) (names : List Name) (listing : Listing) → Lists old mid names listing → Asks mid new → Looks old new
looks_listed old mid new names listing lists asks = record {
  vars_are = asks.works.vars_are ∙ ap (λ (s : Standing). s.vars) lists.new_is;
  number_is = asks.works.number_is ∙ ap (λ (s : Standing). s.number) lists.new_is;
  gained = asks.works.gained;
  entries_are = asks.works.entries_are ∙ ap (λ (s : Standing). s.entries ++ asks.works.gained) lists.new_is;
  quiet = asks.works.each;
  more = omega (arith, asks.works.more, ap (λ (s : Standing). s.adds) lists.new_is);
  behind = asks.works.behind;
  placed_are = asks.works.placed_are ∙ ap (λ (s : Standing). s.placed ++ asks.works.behind) lists.new_is;
  kept = λ other. asks.kept other ∙ ap (λ (s : Standing). s.stands other) lists.new_is;
  rows = omega (arith, asks.rows, ap (λ (s : Standing). s.rows) lists.new_is);
}

-- what is told of a listing, after some calls that change nothing
pub is_told : (Tells : List (ℕ → Bool) → List ℕ → Findings → Type 0) (old mid new : Standing) (names : List Name) (listing : Listing) (found : Findings)
    (lists : Lists old mid names listing) → Asks mid new → Tells lists.functions listing.order found → IsTold Tells old new names found
is_told Tells old mid new names listing found lists asks tells = record {
  looks = looks_listed old mid new names listing lists asks;
  note = record { place = lists.place; order = listing.order; stands = old.stands };
  notes_are = asks.works.notes_are ∙ ap (λ (s : Standing). s.notes) lists.new_is;
  later = lists.later;
  stood = λ other. refl;
  functions = lists.functions;
  stand = lists.stand ∙ ap (λ n. map (values_of n) lists.functions) (sym (asks.works.vars_are ∙ ap (λ (s : Standing). s.vars) lists.new_is));
  tells = tells;
}

-- what is listed stays held
pub held_listed : (old mid : Standing) (names : List Name) (listing : Listing) → Lists old mid names listing → (name : Name) → IsLive old name → IsLive mid name
held_listed old mid names listing lists name held =
    still_live old mid name (omega (arith, ap (λ (s : Standing). s.adds) lists.new_is)) (ap (λ (s : Standing). s.stands name) lists.new_is) held

-- and leaves room for as many rows
pub room_listed : (old mid : Standing) (names : List Name) (listing : Listing) → Lists old mid names listing → HasRoom old → HasRoom mid
room_listed old mid names listing lists room = subst HasRoom (sym lists.new_is) room

-- a listing has as many functions as there are names, and as many classes
pub many_classes : (seen classes : List Class) (old mid : Standing) (names : List Name) (listing : Listing) (lists : Lists old mid names listing) → seen ≡ classes
    → AreClasses (length listing.order) lists.functions classes → length seen ≡ length names
many_classes seen classes old mid names listing lists same are =
    ap length same ∙ are.as_many ∙ sym (length_same old.stands (values_of old.vars) names lists.functions lists.stand)

-- the classes of a listing are those of the functions
classes_told : (old mid : Standing) (names : List Name) (listing : Listing) (lists : Lists old mid names listing) (n : ℕ) (classes : List Class) → old.vars ≡ n
    → AreClasses (length listing.order) lists.functions classes → AreClasses n lists.functions classes
classes_told old mid names listing lists n classes vars are =
    subst (λ m. AreClasses m lists.functions classes) (lists.wide ∙ vars) are

-- the order of a listing has each variable once
once_listed : (old mid : Standing) (names : List Name) (listing : Listing) (lists : Lists old mid names listing) (n : ℕ) → old.vars ≡ n → IsPermutation (range_with_len 0 n) listing.order
once_listed old mid names listing lists n vars =
    let under = lists.is_listing.under in
    once_each n listing.order (lists.wide ∙ vars) under.below under.once

-- the report of a listing of n variables whose functions have these names
pub reported : (n : ℕ) (outputs : List (List ℕ)) (patterns : List (List Bool)) (old mid : Standing) (names : List Name) (listing : Listing) (lists : Lists old mid names listing)
    (classes : List Class) (nodes : ℕ) (text : List ℕ) → mid.vars ≡ n → AreClasses (length listing.order) lists.functions classes
    → nodes ≡ node_count listing.order lists.functions
    → (seen : List Class) (all : List Evaluation) (order : List ℕ) → seen ≡ classes → all ≡ map (evaluation_in mid names) patterns → order ≡ listing.order
    → text ≡ report_text n outputs seen all order nodes
    → TellingOf n outputs patterns Report lists.functions listing.order text
reported n outputs patterns old mid names listing lists classes nodes text mid_vars are count seen all order same_classes same_evaluations same_order is =
    let vars : old.vars ≡ n = sym (ap (λ (s : Standing). s.vars) lists.new_is) ∙ mid_vars in
    let evaluations : map (evaluation_in mid names) patterns ≡ map (evaluation_at n lists.functions) patterns =
    evaluations_told mid names lists.functions (stands_in old mid names listing lists) patterns ∙ ap (λ m. map (evaluation_at m lists.functions) patterns) mid_vars in
    record {
      orders = once_listed old mid names listing lists n vars;
      classes = classes;
      are_classes = classes_told old mid names listing lists n classes vars are;
      bytes = is ∙ ap (λ (cs : List Class). report_text n outputs cs all order nodes) same_classes
          ∙ ap (λ (es : List Evaluation). report_text n outputs classes es order nodes) (same_evaluations ∙ evaluations)
          ∙ ap (λ (vs : List ℕ). report_text n outputs classes (map (evaluation_at n lists.functions) patterns) vs nodes) same_order
          ∙ ap (λ m. report_text n outputs classes (map (evaluation_at n lists.functions) patterns) listing.order m) count;
    }

pub summed_up : (net : Net) (patterns : List (List Bool)) (old mid : Standing) (names : List Name) (listing : Listing) (lists : Lists old mid names listing)
    (classes : List Class) (nodes : ℕ) (text : List ℕ) → old.vars ≡ length net.inputs → AreClasses (length listing.order) lists.functions classes
    → nodes ≡ node_count listing.order lists.functions
    → (seen : List Class) → seen ≡ classes → text ≡ summary_text (length net.inputs) (length net.outputs) (count_firsts seen) nodes
    → TellingOf (length net.inputs) (output_names net) patterns Summary lists.functions listing.order text
summed_up net patterns old mid names listing lists classes nodes text vars are count seen same_classes is =
    let n = length net.inputs in
    record {
      orders = once_listed old mid names listing lists n vars;
      classes = classes;
      are_classes = classes_told old mid names listing lists n classes vars are;
      bytes = is ∙ ap (λ (cs : List Class). summary_text n (length net.outputs) (count_firsts cs) nodes) same_classes
          ∙ ap (λ m. summary_text n m (count_firsts classes) nodes) (sym (length-map net.outputs (λ output. output.name)))
          ∙ ap (λ m. summary_text n (length (output_names net)) (count_firsts classes) m) count;
    }

-- what is listed may be told of
pub may_tell : {M S : Type 0} (has : M → S → Type 0) (standing : S → Standing) (manager : M) (a b : S) (n many : ℕ) (names : List Name) (listing : Listing) → has manager b
    → Lists (standing a) (standing b) names listing → MayReport has standing manager a n many names → MayReport has standing manager b n many names
may_tell has standing manager a b n many names listing own lists may = record {
  own = own;
  room = room_listed (standing a) (standing b) names listing lists may.room;
  vars = ap (λ (s : Standing). s.vars) lists.new_is ∙ may.vars;
  held = All-weaker (IsLive (standing a)) (IsLive (standing b)) (held_listed (standing a) (standing b) names listing lists) names may.held;
  many_are = may.many_are;
}
