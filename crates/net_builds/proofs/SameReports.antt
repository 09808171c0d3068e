-- What is told of functions of n variables depends on their values below 2 ^ n alone.
use Rattle.std.proofs.Common.{◌≡◌, ℕ, suc, ◌<◌, ◌≤◌, ◌^◌, Bool, List, [], ◌∷◌, length, map, take, refl, ap, sym, ◌∙◌, subst, arith, inl, inr, pow_mono, All}
use Rattle.std.specs.Prelude.{IsPermutation}
use Rattle.std.specs.List.{range_with_len}
use Rattle.std.proofs.lemmas.List.{length-take}
use Rattle.std.proofs.lemmas.List.FromFn.{get_or-range_with_len, length-range_with_len}
use Rattle.std.proofs.lemmas.List.Sorted.{All-permutation, length_permutation}
use Rattle.function_laws.proofs.BitLists.{assignment_of-below}
use Rattle.function_laws.proofs.DistinctLemmas.{In}
use Rattle.net_reports.specs.Classes.{Function}
use Rattle.net_reports.specs.Evaluations.{assignment, evaluation_at, values_at}
use Rattle.net_reports.specs.Reports.{count_firsts, node_count, report_text, summary_text}
use Rattle.net_reports.specs.declared.patterns.Evaluation.{Evaluation}
use Rattle.diagram_dumps.specs.Agreement.{AreSame}
use Rattle.diagram_dumps.proofs.Sameness.{size_same}
use Rattle.net_reports.proofs.SameClasses.{classes_same}
use Rattle.diagram_dumps.specs.Dumps.{root_value}
use Rattle.diagram_dumps.specs.Listings.{IsListing, dump_of}
use Rattle.diagram_dumps.specs.declared.listings.Listing.{Listing}
use Rattle.net_builds.specs.Builds.{FindingsOf, TellingOf}
use Rattle.net_builds.specs.declared.telling.Findings.{Findings}
use Rattle.net_builds.specs.declared.telling.Telling.{Telling}
use Rattle.net_builds.specs.declared.telling.Telling.TheVariants.{Report, Summary}

-- a pattern's assignment
pub assignment_below : (n : ℕ) (pattern : List Bool) → assignment n pattern < 2 ^ n
assignment_below n pattern =
    let short : length (take n pattern) ≤ n = omega (arith, length-take n pattern) in
    let below = assignment_of-below (take n pattern) in
    let more : 2 ^ length (take n pattern) ≤ 2 ^ n = pow_mono short in
    omega (arith, below, more)

values_same : (n : ℕ) (fs gs : List Function) → AreSame n fs gs → (pattern : List Bool) → values_at n fs pattern ≡ values_at n gs pattern
values_same n [] [] same pattern = refl
values_same n [] (g ∷ gs) same pattern = absurd same
values_same n (f ∷ fs) [] same pattern = absurd same
values_same n (f ∷ fs) (g ∷ gs) same pattern =
    ap (λ b. b ∷ values_at n fs pattern) (same.0 (assignment n pattern) (assignment_below n pattern))
    ∙ ap (λ bs. g (assignment n pattern) ∷ bs) (values_same n fs gs same.1 pattern)

evaluations_same : (n : ℕ) (fs gs : List Function) → AreSame n fs gs → (patterns : List (List Bool)) → map (evaluation_at n fs) patterns ≡ map (evaluation_at n gs) patterns
evaluations_same n fs gs same [] = refl
evaluations_same n fs gs same (pattern ∷ patterns) =
    let with_values : List Bool → Evaluation = λ values. record { pattern = pattern; values = values } in
    ap (λ (one : Evaluation). one ∷ map (evaluation_at n fs) patterns) (ap with_values (values_same n fs gs same pattern))
    ∙ ap (λ (rest : List Evaluation). evaluation_at n gs pattern ∷ rest) (evaluations_same n fs gs same patterns)

in_all : (n : ℕ) (vs : List ℕ) → All (λ v. v < n) vs → (v : ℕ) → In v vs → v < n
in_all n [] all v i = absurd i
in_all n (x ∷ vs) all v (inl is) = omega (arith, is, all 0 x (omega arith))
in_all n (x ∷ vs) all v (inr i) = in_all n vs (λ k d less. all (suc k) d (omega (arith, less))) v i

range_below : (n : ℕ) → All (λ v. v < n) (range_with_len 0 n)
range_below n k d less = omega (arith, less, length-range_with_len 0 n, get_or-range_with_len 0 n k d (omega (arith, less, length-range_with_len 0 n)))

-- an order of the n variables has n
wide_order : (n : ℕ) (order : List ℕ) → IsPermutation (range_with_len 0 n) order → length order ≡ n
wide_order n order once = length_permutation (range_with_len 0 n) order once ∙ length-range_with_len 0 n

-- under which the functions have as many nodes
nodes_same : (n : ℕ) (order : List ℕ) → IsPermutation (range_with_len 0 n) order → (fs gs : List Function) → AreSame n fs gs → node_count order fs ≡ node_count order gs
nodes_same n order once fs gs same =
    let wide = wide_order n order once in
    let below = All-permutation (λ v. v < n) (range_with_len 0 n) order once (range_below n) in
    size_same (record { variables = order; elements = [] }) (λ v i. omega (arith, in_all n order below v i, wide)) fs gs
    (subst (λ m. AreSame m fs gs) (sym wide) same)

-- a listing of functions is one of those that have their values
same_on : (n : ℕ) (fs gs hs : List Function) → AreSame n fs gs → AreSame n gs hs → AreSame n fs hs
same_on n [] [] [] first second = tt
same_on n [] [] (h ∷ hs) first second = absurd second
same_on n [] (g ∷ gs) hs first second = absurd first
same_on n (f ∷ fs) [] hs first second = absurd first
same_on n (f ∷ fs) (g ∷ gs) [] first second = absurd second
same_on n (f ∷ fs) (g ∷ gs) (h ∷ hs) first second = (λ k below. first.0 k below ∙ second.0 k below, same_on n fs gs hs first.1 second.1)

listed_same : (n : ℕ) (order : List ℕ) (fs gs : List Function) (listing : Listing) → length order ≡ n → AreSame n fs gs → IsListing order fs listing → IsListing order gs listing
listed_same n order fs gs listing wide same is = record {
  order_is = is.order_is;
  writable = is.writable;
  under = is.under;
  roots = same_on (length order) (map (root_value (dump_of listing)) listing.roots) fs gs is.roots (subst (λ m. AreSame m fs gs) (sym wide) same);
  few_variables = is.few_variables;
  few_lines = is.few_lines;
}

-- and so is what is due of functions
module _ (n : ℕ) (names : List (List ℕ)) (patterns : List (List Bool)) (fs gs : List Function) (same : AreSame n fs gs) (order : List ℕ) where
  pub report_same : (text : List ℕ) → TellingOf n names patterns Report fs order text → TellingOf n names patterns Report gs order text
  report_same text is = record {
    orders = is.orders;
    classes = is.classes;
    are_classes = classes_same n fs gs same is.classes is.are_classes;
    bytes = is.bytes
        ∙ ap (λ (evaluations : List Evaluation). report_text n names is.classes evaluations order (node_count order fs)) (evaluations_same n fs gs same patterns)
        ∙ ap (report_text n names is.classes (map (evaluation_at n gs) patterns) order) (nodes_same n order is.orders fs gs same);
  }

  telling_same : (text : List ℕ) (telling : Telling) → TellingOf n names patterns telling fs order text → TellingOf n names patterns telling gs order text
  telling_same text Report is = report_same text is
  telling_same text Summary is = record {
    orders = is.orders;
    classes = is.classes;
    are_classes = classes_same n fs gs same is.classes is.are_classes;
    bytes = is.bytes ∙ ap (summary_text n (length names) (count_firsts is.classes)) (nodes_same n order is.orders fs gs same);
  }

  -- each tells under an order that has each variable once
  told_once : (text : List ℕ) (telling : Telling) → TellingOf n names patterns telling fs order text → IsPermutation (range_with_len 0 n) order
  told_once text Report is = is.orders
  told_once text Summary is = is.orders

  pub found_same : (found : Findings) (telling : Telling) → FindingsOf n names patterns telling fs order found → FindingsOf n names patterns telling gs order found
  found_same found telling is = record {
    told = telling_same found.text.items telling is.told;
    listed = listed_same n order fs gs found.listing (wide_order n order (told_once found.text.items telling is.told)) same is.listed;
  }
