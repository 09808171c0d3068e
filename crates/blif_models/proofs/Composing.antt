-- What a main model adds in numbers that are capped, and what its layout asks for.
use Rattle.std.proofs.Common.{◌≡◌, ℕ, zero, suc, ◌+◌, ◌-◌, ◌^◌, ◌==◌, ◌<◌, ◌≤◌, ◌||◌, Bool, true, false, List, [], ◌∷◌, ◌++◌, Option, Some, length, map, get_or, nat_lt, refl, ap, sym, ◌∙◌, subst, arith, if◌then◌else◌}
use Rattle.std.specs.Prelude.{All, slice_get}
use Rattle.std.specs.List.{list_all}
use Rattle.std.proofs.lemmas.Bool.{and_parts, or_right}
use Rattle.std.proofs.lemmas.Bool.Decides.{nat_tests}
use Rattle.std.proofs.lemmas.List.Elements.{All-cons, All-head, All-nil, All-tail}
use Rattle.blif_order.specs.Orders.{is_in}
use Rattle.blif_order.proofs.Ends.{order_length}
use Rattle.blif_order.proofs.Walks.{own}
use Rattle.edge_bits.specs.declared.limits.TheConstants.{MOST_SIGNALS, MOST_VARIABLES}
use Rattle.blif_models.specs.declared.expanding.Counts.{Counts}
use Rattle.blif_models.specs.declared.limits.Adding.{Adding}
use Rattle.blif_models.specs.declared.numbered.Entry.{Entry}
use Rattle.blif_models.specs.declared.numbered.Entry.TheVariants as entries
use Rattle.blif_models.specs.declared.numbered.NumberedModel.{NumberedModel}
use Rattle.blif_models.specs.Additions.{AreFrom, AreRising, HoldsWithin, adding_by}
use Rattle.blif_models.specs.Arrangements.{IsArranged}
use Rattle.blif_models.specs.Expanding.{AreCounts, CountsAre, limit_in, total_in}
use Rattle.blif_models.specs.Graphs.{capped, is_reached}
use Rattle.blif_models.specs.Kept.{emptied, kept_from, reached_models}
use Rattle.blif_models.specs.Layouts.{AreNumbered, EntryIs, IsRanked, model_at, no_model}
use Rattle.blif_models.specs.ModelFaults.{by_line, passing_line, put_by_line}
use Rattle.blif_models.specs.NumberedGraphs.{all_held, latches_of, signals_of}
use Rattle.blif_models.specs.Orderings.{place_in}
use Rattle.blif_models.proofs.Arranged.{reached_self}
use Rattle.blif_models.proofs.NumberedGraphs.{numbered_are_graphs}

-- two lists that are the same up to caps

abbrev Alike : Adding → Adding → Type 0
Alike one other = (one.line ≡ other.line) × (capped one.signals ≡ capped other.signals) × (capped one.inputs ≡ capped other.inputs)

abbrev AllAlike : List Adding → List Adding → Type 0
AllAlike [] [] = Unit {0}
AllAlike (one ∷ ones) (other ∷ others) = Alike one other × AllAlike ones others
AllAlike _ _ = ⊥

put_alike : (a b : Adding) (xs ys : List Adding) → Alike a b → AllAlike xs ys → AllAlike (put_by_line a xs) (put_by_line b ys)
put_alike a b [] [] h k = (h, tt)
put_alike a b [] (y ∷ ys) h k = absurd k
put_alike a b (x ∷ xs) [] h k = absurd k
put_alike a b (x ∷ xs) (y ∷ ys) h k =
    subst (λ (t : Bool). AllAlike (put_by_line a (x ∷ xs)) (if t then y ∷ put_by_line b ys else b ∷ (y ∷ ys))) (λ j. nat_lt ((k.0).0 j) (h.0 j)) (by_cases (nat_lt x.line a.line) (put_alike a b xs ys h k.1))
  where
    by_cases : (t : Bool) → AllAlike (put_by_line a xs) (put_by_line b ys) → AllAlike (if t then x ∷ put_by_line a xs else a ∷ (x ∷ xs)) (if t then y ∷ put_by_line b ys else b ∷ (y ∷ ys))
    by_cases true rest = (k.0, rest)
    by_cases false rest = (h, k)

by_line_alike : (xs ys : List Adding) → AllAlike xs ys → AllAlike (by_line xs) (by_line ys)
by_line_alike [] [] k = tt
by_line_alike [] (y ∷ ys) k = absurd k
by_line_alike (x ∷ xs) [] k = absurd k
by_line_alike (x ∷ xs) (y ∷ ys) k = put_alike x y (by_line xs) (by_line ys) k.0 (by_line_alike xs ys k.1)

same_test : (most sum a b : ℕ) → most < 2 ^ 64 - 1 → capped a ≡ capped b → nat_lt most (sum + a) ≡ nat_lt most (sum + b)
same_test most sum a b lt e = by_cases (nat_lt most (sum + a)) refl (nat_lt most (sum + b)) refl
  where
    by_cases : (t : Bool) → nat_lt most (sum + a) ≡ t → (u : Bool) → nat_lt most (sum + b) ≡ u → t ≡ u
    by_cases true f true g = refl
    by_cases false f false g = refl
    by_cases true f false g = let more : most < sum + a = grind (arith, nat_tests) in let less : sum + b ≤ most = grind (arith, nat_tests) in absurd (omega (arith, more, less, lt, e))
    by_cases false f true g = let less : sum + a ≤ most = grind (arith, nat_tests) in let more : most < sum + b = grind (arith, nat_tests) in absurd (omega (arith, more, less, lt, e))

same_number_below : (most sum a b : ℕ) → most < 2 ^ 64 - 1 → capped a ≡ capped b → nat_lt most (sum + a) ≡ false → a ≡ b
same_number_below most sum a b lt e f = let less : sum + a ≤ most = grind (arith, nat_tests) in omega (arith, less, lt, e)

pub passing_alike : (most_signals most_inputs signals inputs : ℕ) → most_signals < 2 ^ 64 - 1 → most_inputs < 2 ^ 64 - 1 → (xs ys : List Adding) → AllAlike xs ys → passing_line most_signals most_inputs signals inputs xs ≡ passing_line most_signals most_inputs signals inputs ys
passing_alike ms mi s i ls li [] [] k = refl
passing_alike ms mi s i ls li [] (y ∷ ys) k = absurd k
passing_alike ms mi s i ls li (x ∷ xs) [] k = absurd k
passing_alike ms mi s i ls li (x ∷ xs) (y ∷ ys) k =
    by_cases (nat_lt ms (s + x.signals)) refl (nat_lt mi (i + x.inputs)) refl (λ a b. passing_alike ms mi a b ls li xs ys k.1)
    ∙ (λ j. if nat_same j || inputs_same j then Some y.line else passing_line ms mi (s + y.signals) (i + y.inputs) ys)
  where
    nat_same : nat_lt ms (s + x.signals) ≡ nat_lt ms (s + y.signals)
    nat_same = same_test ms s x.signals y.signals ls (k.0).1

    inputs_same : nat_lt mi (i + x.inputs) ≡ nat_lt mi (i + y.inputs)
    inputs_same = same_test mi i x.inputs y.inputs li (k.0).2

    by_cases : (t : Bool) → nat_lt ms (s + x.signals) ≡ t → (u : Bool) → nat_lt mi (i + x.inputs) ≡ u → ((a b : ℕ) → passing_line ms mi a b xs ≡ passing_line ms mi a b ys)
        → (if t || u then Some x.line else passing_line ms mi (s + x.signals) (i + x.inputs) xs) ≡ (if t || u then Some y.line else passing_line ms mi (s + y.signals) (i + y.inputs) ys)
    by_cases true e u f more = ap Some (k.0).0
    by_cases false e true f more = ap Some (k.0).0
    by_cases false e false f more =
        more (s + x.signals) (i + x.inputs)
        ∙ (λ j. passing_line ms mi (s + same_number_below ms s x.signals y.signals ls (k.0).1 e j) (i + same_number_below mi i x.inputs y.inputs li (k.0).2 f j) ys)

alike_self : (xs ys zs : List Adding) → AllAlike ys zs → AllAlike (xs ++ ys) (xs ++ zs)
alike_self [] ys zs k = k
alike_self (x ∷ xs) ys zs k = ((refl, refl, refl), alike_self xs ys zs k)

capped_again : (n m : ℕ) → n ≡ capped m → capped n ≡ capped m
capped_again n m e = omega (arith, e)

entries_alike : (count : ℕ) (f g f' g' : ℕ → ℕ) → ((m : ℕ) → m < count → f m ≡ capped (f' m)) → ((m : ℕ) → m < count → g m ≡ capped (g' m)) → (others : List Entry) → All (HoldsWithin count) others → AllAlike (map (adding_by f g) others) (map (adding_by f' g') others)
entries_alike count f g f' g' h k [] a = tt
entries_alike count f g f' g' h k (entries.Cover one ∷ others) a = ((refl, refl, refl), entries_alike count f g f' g' h k others (All-tail (HoldsWithin count) (entries.Cover one) others a))
entries_alike count f g f' g' h k (entries.Latch one ∷ others) a = ((refl, refl, refl), entries_alike count f g f' g' h k others (All-tail (HoldsWithin count) (entries.Latch one) others a))
entries_alike count f g f' g' h k (entries.Instance one ∷ others) a =
    let lt = All-head (HoldsWithin count) (entries.Instance one) others a in (
      (refl, capped_again (f one.model) (f' one.model) (h one.model lt), capped_again (g one.model) (g' one.model) (k one.model lt)),
      entries_alike count f g f' g' h k others (All-tail (HoldsWithin count) (entries.Instance one) others a),
    )

-- so the line that passes the limits is the same
pub limits_alike : (count most_signals most_inputs : ℕ) → most_signals < 2 ^ 64 - 1 → most_inputs < 2 ^ 64 - 1 → (f g f' g' : ℕ → ℕ) → ((m : ℕ) → m < count → f m ≡ capped (f' m)) → ((m : ℕ) → m < count → g m ≡ capped (g' m)) → (inputs : List Adding) (others : List Entry)
    → All (HoldsWithin count) others → passing_line most_signals most_inputs 0 0 (by_line (inputs ++ map (adding_by f g) others)) ≡ passing_line most_signals most_inputs 0 0 (by_line (inputs ++ map (adding_by f' g') others))
limits_alike count ms mi ls li f g f' g' h k inputs others a =
    passing_alike ms mi 0 0 ls li (by_line (inputs ++ map (adding_by f g) others)) (by_line (inputs ++ map (adding_by f' g') others))
    (by_line_alike (inputs ++ map (adding_by f g) others) (inputs ++ map (adding_by f' g') others) (alike_self inputs (map (adding_by f g) others) (map (adding_by f' g') others) (entries_alike count f g f' g' h k others a)))

-- totals of an order of all models
pub totals_at : (models : List NumberedModel) (order : List ℕ) (of_one : NumberedModel → ℕ) (counts : List ℕ) → IsArranged models order → CountsAre models order of_one counts → (m : ℕ) → m < length models → get_or counts m 0 ≡ capped (total_in models of_one m)
totals_at models order of_one counts a c m lt = c.1 (length models) m (order_length order (length models) a.once a.within) (a.each m lt)

all_below : (n : ℕ) (xs : List ℕ) → ((m : ℕ) → is_in xs m ≡ true → m < n) → All (λ m. m < n) xs
all_below n [] h = All-nil (λ m. m < n)
all_below n (x ∷ xs) h = All-cons (λ m. m < n) x xs (h x (ap (λ b. b || is_in xs x) (own x))) (all_below n xs (λ m e. h m (or_right (x == m) (is_in xs m) e)))

pub order_below : (models : List NumberedModel) (order : List ℕ) → IsArranged models order → All (λ m. m < length models) order
order_below models order a = all_below (length models) order a.within

-- the entries of a model

holds_within : (models : List NumberedModel) (names : ℕ) (others : List Entry) → All (EntryIs models names) others → All (HoldsWithin (length models)) others
holds_within models names [] h = All-nil (HoldsWithin (length models))
holds_within models names (entry ∷ others) h =
    All-cons (HoldsWithin (length models)) entry others (of_one entry (All-head (EntryIs models names) entry others h)) (holds_within models names others (All-tail (EntryIs models names) entry others h))
  where
    of_one : (entry : Entry) → EntryIs models names entry → HoldsWithin (length models) entry
    of_one (entries.Cover one) k = tt
    of_one (entries.Latch one) k = tt
    of_one (entries.Instance one) k = k.0

pub entries_within : (models : List NumberedModel) (m : ℕ) → m < length models → AreNumbered models → All (HoldsWithin (length models)) (model_at models m).entries
entries_within models m lt h = holds_within models (model_at models m).names (model_at models m).entries (h m no_model lt)

from_alike : (f g f' g' : ℕ → ℕ) (n : ℕ) (others : List Entry) → AreFrom n (map (adding_by f g) others) → AreFrom n (map (adding_by f' g') others)
from_alike f g f' g' n [] h = tt
from_alike f g f' g' n (entries.Cover one ∷ others) h = (h.0, from_alike f g f' g' n others h.1)
from_alike f g f' g' n (entries.Latch one ∷ others) h = (h.0, from_alike f g f' g' n others h.1)
from_alike f g f' g' n (entries.Instance one ∷ others) h = (h.0, from_alike f g f' g' n others h.1)

pub rising_alike : (f g f' g' : ℕ → ℕ) (others : List Entry) → AreRising (map (adding_by f g) others) → AreRising (map (adding_by f' g') others)
rising_alike f g f' g' [] h = tt
rising_alike f g f' g' (entries.Cover one ∷ others) h = (from_alike f g f' g' (suc one.line) others h.0, rising_alike f g f' g' others h.1)
rising_alike f g f' g' (entries.Latch one ∷ others) h = (from_alike f g f' g' (suc one.line) others h.0, rising_alike f g f' g' others h.1)
rising_alike f g f' g' (entries.Instance one ∷ others) h = (from_alike f g f' g' (suc one.line) others h.0, rising_alike f g f' g' others h.1)

-- the main model keeps its entries
pub kept_at : (among : ℕ → Bool) (k m : ℕ) (models : List NumberedModel) → among (k + m) ≡ true → model_at (kept_from among k models) m ≡ model_at models m
kept_at among k m [] e = refl
kept_at among k zero (one ∷ models) e = let same : k + 0 ≡ k = omega arith in ap (λ (b : Bool). if b then one else emptied one) (sym (ap among same) ∙ e)
kept_at among k (suc m) (one ∷ models) e = let same : k + suc m ≡ suc k + m = omega arith in kept_at among (suc k) m models (sym (ap among same) ∙ e)

pub main_kept : (models : List NumberedModel) (main : ℕ) → model_at (reached_models models main) main ≡ model_at models main
main_kept models main = let same : 0 + main ≡ main = omega arith in kept_at (is_reached (all_held models) (length models) main) 0 main models (ap (is_reached (all_held models) (length models) main) same ∙ reached_self (all_held models) (length models) main)

-- what a layout asks for

place_within : (order : List ℕ) (m : ℕ) → place_in order m ≤ length order
place_within [] m = omega arith
place_within (n ∷ order) m = by_cases (n == m)
    (place_within order m)
  where
    by_cases : (b : Bool) → place_in order m ≤ length order → (if b then 0 else suc (place_in order m)) ≤ suc (length order)
    by_cases true le = omega arith
    by_cases false le = omega (arith, le)

some_entry : (models : List NumberedModel) (m place : ℕ) (entry : Entry) → slice_get (model_at models m).entries place ≡ Some entry → m < length models
some_entry [] m place entry e = cc
some_entry (one ∷ models) zero place entry e = omega arith
some_entry (one ∷ models) (suc m) place entry e = omega (arith, some_entry models m place entry e)

pub places_ranked : (models : List NumberedModel) (order : List ℕ) → IsArranged models order → IsRanked models (place_in order)
places_ranked models order a = numbered_are_graphs.ranks models order a.ordered (λ m place instance e. a.each m (some_entry models m place (entries.Instance instance) e))

pub place_low : (models : List NumberedModel) (order : List ℕ) (m : ℕ) → IsArranged models order → place_in order m ≤ length models
place_low models order m a = omega (arith, place_within order m, order_length order (length models) a.once a.within)

pub all_lower : (most : ℕ) (counts : List ℕ) → 0 < most → list_all (λ n. nat_lt n most) counts ≡ true → (m : ℕ) → get_or counts m 0 < most
all_lower most [] pos e m = pos
all_lower most (n ∷ counts) pos e zero = let both = and_parts (nat_lt n most) (list_all (λ k. nat_lt k most) counts) e in grind (arith, nat_tests)
all_lower most (n ∷ counts) pos e (suc m) = let both = and_parts (nat_lt n most) (list_all (λ k. nat_lt k most) counts) e in all_lower most counts pos both.1 m

-- a place that is there needs no default
pub any_default : (models : List NumberedModel) (m : ℕ) (d e : NumberedModel) → m < length models → get_or models m d ≡ get_or models m e
any_default [] m d e lt = absurd (omega (arith, lt))
any_default (one ∷ models) zero d e lt = refl
any_default (one ∷ models) (suc m) d e lt = any_default models m d e (omega (arith, lt))

-- the line that is told of capped numbers is that of a main model
pub limit_told : (models : List NumberedModel) (order : List ℕ) (main : ℕ) (inputs : List Adding) (counts : Counts) (signals latches : List ℕ) (others : List Entry) (line : Option ℕ) → IsArranged models order → AreCounts models order counts → main < length models → AreNumbered models
    → signals ≡ counts.signals.items → latches ≡ counts.latches.items → others ≡ (model_at models main).entries
    → line ≡ passing_line MOST_SIGNALS MOST_VARIABLES 0 0 (by_line (inputs ++ map (adding_by (λ m. get_or signals m 0) (λ m. get_or latches m 0)) others)) → line ≡ limit_in models main inputs
limit_told models order main inputs counts signals latches others line a told lt numbered s l o e =
    e
    ∙ (λ j. passing_line MOST_SIGNALS MOST_VARIABLES 0 0 (by_line (inputs ++ map (adding_by (λ m. get_or (s j) m 0) (λ m. get_or (l j) m 0)) (o j))))
    ∙ limits_alike (length models) MOST_SIGNALS MOST_VARIABLES (omega arith) (omega arith) (λ m. get_or counts.signals.items m 0) (λ m. get_or counts.latches.items m 0) (total_in models signals_of) (total_in models latches_of)
    (totals_at models order signals_of counts.signals.items a told.of_signals) (totals_at models order latches_of counts.latches.items a told.of_latches) inputs (model_at models main).entries (entries_within models main lt numbered)
