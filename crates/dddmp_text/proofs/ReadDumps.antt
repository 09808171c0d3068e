-- What a header and the lines behind it give.
use Rattle.std.proofs.Common.{◌≡◌, ℕ, ◌<◌, ◌≤◌, ◌^◌, ◌==◌, nat_lt, Bool, true, false, not, ◌&&◌, ◌||◌, List, ℤ, None, min, length, nat_abs, refl, sym, ◌∙◌, ap, arith, eqb-true}
use Rattle.std.specs.Prelude.{slice_index}
use Rattle.std.specs.Bool.{then_some}
use Rattle.std.specs.Option.{option_or}
use Rattle.std.specs.List.{list_all}
use Rattle.std.specs.Str.Parse.{digits_value}
use Rattle.std.proofs.lemmas.Bool.Decides.{nat_tests}
use Rattle.std.proofs.lemmas.List.{length-map}
use Rattle.std.proofs.lemmas.List.Folds.{list_all-map}
use Rattle.job_words.specs.Text.{integer_value}
use Rattle.edge_bits.specs.declared.edges.Line.{Line}
use Rattle.edge_bits.specs.declared.limits.TheConstants.{MOST_VARIABLES}
use Rattle.diagram_dumps.specs.declared.dump.Dump.{Dump}
use Rattle.dddmp_text.specs.declared.faults.FaultKind.TheVariants as kinds
use Rattle.dddmp_text.specs.declared.fields.Field.TheVariants as fields
use Rattle.dddmp_text.specs.declared.fields.Given.{Given}
use Rattle.dddmp_text.specs.Fields.{Fields, is_node, number, numbers, whole_numbers}
use Rattle.dddmp_text.specs.Faults.{Context, dump_in, ended, is_other_count, nodes_fault}
use Rattle.dddmp_text.specs.Ranks.{AreVariables, variable_of}
use Rattle.dddmp_text.specs.Reading.{AreOfHeader, has_bad_variable, is_ordered, line_of, read_fault}
use Rattle.dddmp_text.proofs.HeadedLines.{counts-hold}

less : (n m : ℕ) → n < m → nat_lt n m ≡ true
less n m h = grind (arith, nat_tests)

not-less : (n m : ℕ) → m ≤ n → nat_lt n m ≡ false
not-less n m h = grind (arith, nat_tests)

pub bad-variable : (given : List Given) (vars : ℕ) (ids : List ℤ) (below : Bool) → vars ≡ number given fields.Nvars → vars ≤ MOST_VARIABLES → ids ≡ whole_numbers given fields.Ids
    → below ≡ list_all (λ id. nat_lt (nat_abs id) vars) ids → not below ≡ has_bad_variable given
bad-variable given vars ids below vars_are few ids_are is =
    let under : nat_lt MOST_VARIABLES (number given fields.Nvars) ≡ false = not-less MOST_VARIABLES (number given fields.Nvars) (omega (arith, vars_are, few)) in
    ap not (is ∙ ap (list_all (λ id. nat_lt (nat_abs id) vars)) ids_are ∙ ap (λ v. list_all (λ id. nat_lt (nat_abs id) v) (whole_numbers given fields.Ids)) vars_are
    ∙ sym (list_all-map (λ id. nat_lt id (number given fields.Nvars)) nat_abs (whole_numbers given fields.Ids)))
    ∙ ap (λ b. b || not (list_all (λ id. nat_lt id (number given fields.Nvars)) (numbers given fields.Ids))) (sym under)

-- a node line without a fault
no-fault : (form order variable : Bool) → form ≡ true → order ≡ true → variable ≡ true
    → option_or (then_some (not form) kinds.Node) (option_or (then_some (not order) kinds.Order) (then_some (not variable) kinds.Variable)) ≡ None
no-fault true true true f o v = refl
no-fault true true false f o v = cc
no-fault true false variable f o v = cc
no-fault false order variable f o v = cc

both : (a b : Bool) → a ≡ true → b ≡ true → (a && b) ≡ true
both true true a b = refl
both true false a b = cc
both false b' a b = cc

abbrev line : List ℕ → ℕ → ℕ → ℤ → Line
line variables internal hi lo = record { var = slice_index variables internal; hi = hi; lo = lo }

pub node-read : (variables : List ℕ) (index : ℕ) (read : Fields) (hi internal : ℕ) (lo : ℤ) → length variables ≤ 2 ^ 31 → is_node index read ≡ true → index < 2 ^ 31
    → hi ≡ min (digits_value 10 read.hi) 4000000000 → hi < index → nat_lt (nat_abs (integer_value read.lo)) index ≡ true → integer_value read.lo ≡ lo
    → internal ≡ min (digits_value 10 read.internal) 4000000000 → internal < length variables
    → (read_fault (length variables) index read ≡ None) × (◌≡◌ {A = Line} (record { var = slice_index variables internal; hi = hi; lo = lo }) (line_of variables read))
node-read variables index read hi internal lo few form small hi_is hi_less lo_less lo_is internal_is internal_less =
    let h : hi ≡ digits_value 10 read.hi = omega (arith, hi_is, hi_less, small) in
    let i : internal ≡ digits_value 10 read.internal = omega (arith, internal_is, internal_less, few) in
    let ordered : is_ordered index read ≡ true = both (nat_lt (digits_value 10 read.hi) index) (nat_lt (nat_abs (integer_value read.lo)) index) (less (digits_value 10 read.hi) index (omega (arith, h, hi_less))) lo_less in
    let known : nat_lt (digits_value 10 read.internal) (length variables) ≡ true = less (digits_value 10 read.internal) (length variables) (omega (arith, i, internal_less)) in (
      no-fault (is_node index read) (is_ordered index read) (nat_lt (digits_value 10 read.internal) (length variables)) form ordered known,
      ap (λ (k : ℕ). line variables k hi lo) i ∙ ap (λ (k : ℕ). line variables (digits_value 10 read.internal) k lo) h ∙ ap (λ (z : ℤ). line variables (digits_value 10 read.internal) (digits_value 10 read.hi) z) (sym lo_is),
    )

-- the lists have the lengths that are said
same-length : (n m : ℕ) → not (n == m) ≡ false → n ≡ m
same-length n m h = by_test (n == m) refl
  where
    by_test : (b : Bool) → (n == m) ≡ b → n ≡ m
    by_test true e = eqb-true n m e
    by_test false e = let bad : true ≡ false = sym (ap not e) ∙ h in cc

neither : (a b c : Bool) → (a || b || c) ≡ false → (a ≡ false) × (b ≡ false)
neither false false c h = (refl, refl)
neither false true c h = cc
neither true b c h = cc

pub lists-long : (given : List Given) → nodes_fault given ≡ None
    → (length (numbers given fields.Ids) ≡ number given fields.Nsuppvars) × (length (numbers given fields.Permids) ≡ number given fields.Nsuppvars)
lists-long given whole =
    let counts = neither (is_other_count given fields.Ids fields.Nsuppvars) (is_other_count given fields.Permids fields.Nsuppvars) (is_other_count given fields.Rootids fields.Nroots) (counts-hold given whole) in (
      length-map (whole_numbers given fields.Ids) nat_abs ∙ same-length (length (whole_numbers given fields.Ids)) (number given fields.Nsuppvars) counts.0,
      length-map (whole_numbers given fields.Permids) nat_abs ∙ same-length (length (whole_numbers given fields.Permids)) (number given fields.Nsuppvars) counts.1,
    )

pub of-header : (given : List Given) (ids permids variables : List ℕ) → nodes_fault given ≡ None → ids ≡ numbers given fields.Ids → permids ≡ numbers given fields.Permids → length permids ≤ 2 ^ 31
    → AreVariables ids permids variables → AreOfHeader given variables
of-header given ids permids variables whole ids_are permids_are few by =
    let long : length permids ≡ number given fields.Nsuppvars = ap length permids_are ∙ (lists-long given whole).1 in
    record {
      as_many = by.as_many ∙ long;
      few = omega (arith, by.as_many, few);
      told = λ internal below. by.told internal (omega (arith, below, long)) ∙ ap (λ xs. variable_of xs permids internal) ids_are ∙ ap (λ ys. variable_of (numbers given fields.Ids) ys internal) permids_are;
    }

pub as-many : (given : List Given) (ids permids : List ℕ) → nodes_fault given ≡ None → ids ≡ numbers given fields.Ids → permids ≡ numbers given fields.Permids → length permids ≡ length ids
as-many given ids permids whole ids_are permids_are = ap length permids_are ∙ (lists-long given whole).1 ∙ sym (lists-long given whole).0 ∙ sym (ap length ids_are)

abbrev mk : ℕ → List ℕ → List ℕ → List Line → List ℤ → Dump
mk nvars ids permids nodes roots = record { nvars = nvars; ids = ids; permids = permids; nodes = nodes; roots = roots }

pub dump-of-parts : (given : List Given) (c : Context) (nvars : ℕ) (ids permids : List ℕ) (nodes : List Line) (roots : List ℤ) → c ≡ ended given nodes → nvars ≡ number given fields.Nvars
    → ids ≡ numbers given fields.Ids → permids ≡ numbers given fields.Permids → roots ≡ whole_numbers given fields.Rootids
    → mk nvars ids permids nodes roots ≡ dump_in c
dump-of-parts given c nvars ids permids nodes roots is nvars_are ids_are permids_are roots_are =
    ap (λ v. mk v ids permids nodes roots) nvars_are ∙ ap (λ xs. mk (number given fields.Nvars) xs permids nodes roots) ids_are
    ∙ ap (λ ys. mk (number given fields.Nvars) (numbers given fields.Ids) ys nodes roots) permids_are
    ∙ ap (λ rs. mk (number given fields.Nvars) (numbers given fields.Ids) (numbers given fields.Permids) nodes rs) roots_are ∙ sym (ap dump_in is)
