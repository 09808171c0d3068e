-- What it means that a header or a node line has no fault.
use Rattle.std.proofs.Common.{◌≡◌, ℕ, zero, suc, ◌+◌, ◌<◌, ◌≤◌, ◌==◌, nat_lt, Bool, true, false, cond, not, ◌||◌, List, [], ◌∷◌, ℤ, Option, Some, None, length, get_or, nat_abs, refl, arith}
use Rattle.std.specs.Prelude.{find}
use Rattle.std.specs.Bool.{then_some}
use Rattle.std.specs.List.{list_all, list_any, range_with_len}
use Rattle.std.specs.Option.{option_or, unwrap_or}
use Rattle.std.specs.Str.Parse.{digits_value}
use Rattle.std.proofs.lemmas.Bool.Decides.{nat_tests}
use Rattle.std.proofs.lemmas.List.{length-map}
use Rattle.edge_bits.specs.declared.limits.TheConstants.{MOST_VARIABLES}
use Rattle.job_words.specs.Text.{integer_value, is_integer}
use Rattle.dddmp_text.specs.Bounds.{IsEarlier}
use Rattle.dddmp_text.specs.declared.faults.FaultKind.TheVariants as kinds
use Rattle.dddmp_text.specs.declared.fields.Field.{Field}
use Rattle.dddmp_text.specs.declared.fields.Field.TheVariants as fields
use Rattle.dddmp_text.specs.declared.fields.Given.{Given}
use Rattle.dddmp_text.specs.Faults.{fields_fault, is_bad_root, is_other_count, node_of, nodes_fault}
use Rattle.dddmp_text.specs.Fields.{Fields, all_fields, is_given, is_node, number, numbers, whole_numbers}
use Rattle.dddmp_text.specs.Ranks.{place_of, rank_of, variable_of}
use Rattle.dddmp_text.proofs.Spelled.{and_first, and_second}

-- no fault of either kind
pub none_or : {T : Type 0} (a b : Option T) → option_or a b ≡ None → (a ≡ None) × (b ≡ None)
none_or None b e = (refl, e)
none_or (Some x) b e = absurd (cc e)

pub is_false : {T : Type 0} (b : Bool) (x : T) → then_some b x ≡ None → b ≡ false
is_false false x e = refl
is_false true x e = absurd (cc e)

pub not_false : (b : Bool) → not b ≡ false → b ≡ true
not_false true e = refl
not_false false e = absurd (cc e)

pub not_true : (b : Bool) → not b ≡ true → b ≡ false
not_true false e = refl
not_true true e = absurd (cc e)

pub or_false : (a b : Bool) → (a || b) ≡ false → (a ≡ false) × (b ≡ false)
or_false false b e = (refl, e)
or_false true b e = absurd (cc e)

-- What `.nodes` without a fault says of the fields.
pub record Header (given : List Given) : Type 0 where
  pub ids : length (whole_numbers given fields.Ids) ≡ number given fields.Nsuppvars
  pub positions : length (whole_numbers given fields.Permids) ≡ number given fields.Nsuppvars
  pub few : number given fields.Nvars ≤ MOST_VARIABLES
  pub below : list_all (λ id. nat_lt id (number given fields.Nvars)) (numbers given fields.Ids) ≡ true
  pub roots : list_any (is_bad_root (number given fields.Nnodes)) (whole_numbers given fields.Rootids) ≡ false

counted : (given : List Given) (list count : Field) → is_other_count given list count ≡ false → length (whole_numbers given list) ≡ number given count
counted given list count e = let same = not_false (length (whole_numbers given list) == number given count) e in grind (arith, nat_tests)

not_more : (a b : ℕ) → nat_lt a b ≡ false → b ≤ a
not_more a b e = grind (arith, nat_tests)

pub header : (given : List Given) → nodes_fault given ≡ None → Header given
header given e =
    let n = number given fields.Nvars in
    let due = none_or (then_some (not (list_all (is_given given) all_fields)) kinds.Missing) _ e in
    let counts = none_or _ _ due.1 in
    let kept = none_or _ _ counts.1 in
    let lists = or_false (is_other_count given fields.Ids fields.Nsuppvars || is_other_count given fields.Permids fields.Nsuppvars) (is_other_count given fields.Rootids fields.Nroots) (is_false _ kinds.Count counts.0) in
    let both = or_false (is_other_count given fields.Ids fields.Nsuppvars) (is_other_count given fields.Permids fields.Nsuppvars) lists.0 in
    let variables = or_false (nat_lt MOST_VARIABLES n) (not (list_all (λ id. nat_lt id n) (numbers given fields.Ids))) (is_false _ kinds.Variable kept.0) in
    record {
      ids = counted given fields.Ids fields.Nsuppvars both.0;
      positions = counted given fields.Permids fields.Nsuppvars both.1;
      few = not_more MOST_VARIABLES n variables.0;
      below = not_false _ variables.1;
      roots = is_false _ kinds.Root kept.1;
    }

-- each number of a list is below
pub all_below : (n : ℕ) (xs : List ℕ) → list_all (λ x. nat_lt x n) xs ≡ true → (i : ℕ) → i < length xs → get_or xs i 0 < n
all_below n [] e i within = absurd (omega (arith, within))
all_below n (x ∷ xs) e zero within = let first = and_first (nat_lt x n) (list_all (λ x. nat_lt x n) xs) e in grind (arith, nat_tests)
all_below n (x ∷ xs) e (suc i) within = all_below n xs (and_second (nat_lt x n) (list_all (λ x. nat_lt x n) xs) e) i (omega (arith, within))

-- what is found among places is one
found_below : (p : ℕ → Bool) (n a m : ℕ) → 0 < n → a + m ≤ n → unwrap_or (find p (range_with_len a m)) 0 < n
found_below p n a zero some within = some
found_below p n a (suc m) some within = by (p a) (found_below p n (a + 1) m some (omega (arith, within)))
  where
    by : (b : Bool) → unwrap_or (find p (range_with_len (a + 1) m)) 0 < n → unwrap_or (cond b (Some a) (find p (range_with_len (a + 1) m))) 0 < n
    by true rest = omega (arith, within)
    by false rest = rest

place_below : (entries : List ℕ) (rank : ℕ) → 0 < length entries → place_of entries rank < length entries
place_below entries rank some = found_below (λ i. rank_of entries i == rank) (length entries) 0 (length entries) some (omega arith)

-- the variable of an internal index that is there
variable_below : (given : List Given) (internal : ℕ) → Header given → internal < number given fields.Nsuppvars
    → variable_of (numbers given fields.Ids) (numbers given fields.Permids) internal < number given fields.Nvars
variable_below given internal h below =
    let positions = numbers given fields.Permids in
    let many = length-map (whole_numbers given fields.Permids) nat_abs in
    let ids = length-map (whole_numbers given fields.Ids) nat_abs in
    let place = place_below positions internal (omega (arith, many, h.positions, below)) in
    all_below (number given fields.Nvars) (numbers given fields.Ids) h.below (place_of positions internal) (omega (arith, place, many, ids, h.positions, h.ids))

-- What a node line without a fault gives.
pub record Node (given : List Given) (index : ℕ) (read : Fields) : Type 0 where
  pub earlier : IsEarlier (node_of given read) index
  pub below : (node_of given read).var < number given fields.Nvars

pub node : (given : List Given) (index : ℕ) (read : Fields) → Header given → fields_fault given index (Some read) ≡ None → Node given index read
node given index read h e =
    let hi = digits_value 10 read.hi in
    let lo = nat_abs (integer_value read.lo) in
    let formed = none_or (then_some (not (is_node index read)) kinds.Node) _ e in
    let ordered = none_or _ _ formed.1 in
    let form = not_false (is_node index read) (is_false _ kinds.Node formed.0) in
    let low = not_true (lo == 0) (and_second _ (not (lo == 0)) form) in
    let six = and_first _ (not (lo == 0)) form in
    let five = and_first _ (is_integer read.lo) six in
    let high = not_true (hi == 0) (and_second _ (not (hi == 0)) five) in
    let order = not_false _ (is_false _ kinds.Order ordered.0) in
    let then_below = and_first (nat_lt hi index) (nat_lt lo index) order in
    let else_below = and_second (nat_lt hi index) (nat_lt lo index) order in
    let internal = not_false (nat_lt (digits_value 10 read.internal) (number given fields.Nsuppvars)) (is_false _ kinds.Variable ordered.1) in
    record {
      earlier = (grind (arith, nat_tests), grind (arith, nat_tests), grind (arith, nat_tests), grind (arith, nat_tests));
      below = variable_below given (digits_value 10 read.internal) h (grind (arith, nat_tests));
    }

-- the roots are nodes
pub roots_are_nodes : (nodes most : ℕ) (roots : List ℤ) → nodes ≤ most → list_any (is_bad_root nodes) roots ≡ false
    → (i : ℕ) (d : ℤ) → i < length roots → (1 ≤ nat_abs (get_or roots i d)) × (nat_abs (get_or roots i d) ≤ most)
roots_are_nodes nodes most [] few e i d within = absurd (omega (arith, within))
roots_are_nodes nodes most (root ∷ roots) few e zero d within =
    let good = (or_false (is_bad_root nodes root) (list_any (is_bad_root nodes) roots) e).0 in
    let both = or_false (nat_abs root == 0) (nat_lt nodes (nat_abs root)) good in
    let some = both.0 in
    let there = both.1 in
    (grind (arith, nat_tests), grind (arith, nat_tests))
roots_are_nodes nodes most (root ∷ roots) few e (suc i) d within =
    roots_are_nodes nodes most roots few (or_false (is_bad_root nodes root) (list_any (is_bad_root nodes) roots) e).1 i d (omega (arith, within))
