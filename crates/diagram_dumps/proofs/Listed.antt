-- What a listing's stored diagram has: its functions, its variables and their places.
use Rattle.std.proofs.Common.{◌≡◌, ℕ, zero, suc, ◌+◌, ◌<◌, Bool, cond, List, [], ◌∷◌, ◌++◌, length, map, get_or, refl, sym, ap, ◌∙◌, subst, inl, inr, arith}
use Rattle.std.specs.Prelude.{◌==◌, All}
use Rattle.std.specs.List.{filter, list_any, range_with_len}
use Rattle.std.proofs.lemmas.List.{get_or_default, same_lists}
use Rattle.std.proofs.lemmas.List.Elements.{All-filter, All-head, All-tail, filter-append}
use Rattle.std.proofs.lemmas.List.FromFn.{get_or-map-range_with_len, get_or-range_with_len, length-map-range_with_len, length-range_with_len}
use Rattle.edge_bits.specs.declared.edges.Line.{Line}
use Rattle.function_laws.specs.Kinds.{BddFunction}
use Rattle.function_laws.specs.Sizes.{Orders, size}
use Rattle.function_laws.proofs.DistinctLemmas.{In}
use Rattle.diagram_dumps.proofs.Sameness.{size_same}
use Rattle.diagram_dumps.specs.Dumps.{root_value}
use Rattle.diagram_dumps.specs.declared.listings.Listing.{Listing}
use Rattle.diagram_dumps.specs.Listings.{IsListing, dump_of, ids_of}
use Rattle.diagram_dumps.specs.Under.{functions_of}

all_within : (v : ℕ) (vs : List ℕ) (n : ℕ) → All (λ u. u < n) vs → In v vs → v < n
all_within v [] n all i = absurd i
all_within v (u ∷ us) n all (inl e) = subst (λ x. x < n) (sym e) (All-head (λ x. x < n) u us all)
all_within v (u ∷ us) n all (inr i) = all_within v us n (All-tail (λ x. x < n) u us all) i

map-map : {X Y Z : Type 0} (f : Y → Z) (g : X → Y) (xs : List X) → map (λ x. f (g x)) xs ≡ map f (map g xs)
map-map f g [] = refl
map-map f g (x ∷ xs) = ap (λ t. f (g x) ∷ t) (map-map f g xs)

-- the roots' functions have the size of those that are listed
pub listed_size : (orders : Orders) (listing : Listing) (functions : List (ℕ → Bool)) → IsListing orders.variables functions listing
    → size orders (functions_of (dump_of listing)) ≡ size orders (map (λ f. BddFunction f) functions)
listed_size orders listing functions is =
    ap (size orders) (map-map (λ f. BddFunction f) (root_value (dump_of listing)) listing.roots)
    ∙ size_same orders (λ v i. all_within v orders.variables (length orders.variables) is.under.below i) (map (root_value (dump_of listing)) listing.roots) functions is.roots

-- a list that is known by its places
pub all_told : {X : Type 0} (xs : List X) (f : ℕ → X) (n : ℕ) (d : X) → length xs ≡ n → ((v : ℕ) → v < n → get_or xs v d ≡ f v) → xs ≡ map f (range_with_len 0 n)
all_told xs f n d long told =
    same_lists xs (map f (range_with_len 0 n)) (long ∙ sym (length-map-range_with_len f 0 n))
    (λ k e lt.
    let less : k < n = omega (arith, long) in
    let same : 0 + k ≡ k = omega arith in
    get_or_default xs k e d lt ∙ told k less ∙ sym (get_or-map-range_with_len f 0 n k k e less same))

range_more : (from n : ℕ) → range_with_len from (n + 1) ≡ range_with_len from n ++ (from + n) ∷ []
range_more from zero = ap (λ (m : ℕ). m ∷ []) (let e : from ≡ from + 0 = omega arith in e)
range_more from (suc n) =
    let more : suc n + 1 ≡ suc (n + 1) = omega arith in
    let last : from + 1 + n ≡ from + suc n = omega arith in
    ap (range_with_len from) more ∙ ap (λ t. from ∷ t) (range_more (from + 1) n ∙ ap (λ (m : ℕ). range_with_len (from + 1) n ++ m ∷ []) last)

-- one variable more
pub ids_more : (n : ℕ) (lines : List Line) → ids_of (n + 1) lines ≡ ids_of n lines ++ cond (list_any (λ line. line.var == n) lines) (n ∷ []) []
ids_more n lines =
    let last : 0 + n ≡ n = omega arith in
    ap (filter (λ v. list_any (λ line. line.var == v) lines)) (range_more 0 n ∙ ap (λ (m : ℕ). range_with_len 0 n ++ m ∷ []) last)
    ∙ filter-append (λ v. list_any (λ line. line.var == v) lines) (range_with_len 0 n) (n ∷ [])

range_below : (n : ℕ) → All (λ v. v < n) (range_with_len 0 n)
range_below n k d lt =
    let less : k < n = omega (arith, length-range_with_len 0 n) in
    omega (arith, get_or-range_with_len 0 n k d less)

pub ids_below : (n : ℕ) (lines : List Line) → All (λ v. v < n) (ids_of n lines)
ids_below n lines = All-filter (λ v. list_any (λ line. line.var == v) lines) (λ v. v < n) (range_with_len 0 n) (range_below n)
