-- An order that words ask for is in range.
use Rattle.std.proofs.Common.{◌≡◌, ℕ, ◌≤◌, ◌==◌, nat_le, Bool, true, false, not, ◌&&◌, ◌||◌, get_or, List, [], Option, Some, None, IfSome, map, length, codes, option_and_then, if◌then◌else◌, refl, arith}
use Rattle.std.specs.List.{list_all}
use Rattle.std.specs.Option.{option_map, unwrap_or}
use Rattle.std.specs.Str.{bytes_eq}
use Rattle.std.specs.Str.Parse.{digits_value}
use Rattle.std.proofs.lemmas.Bool.Decides.{nat_tests}
use Rattle.std.proofs.lemmas.List.{length-map}
use Rattle.std.proofs.lemmas.List.Elements.{All-map}
use Rattle.std.proofs.lemmas.List.Sums.{AllPass-from_list_all}
use Rattle.job_words.specs.Text.{Word, is_number}
use Rattle.clap.specs.Walk.{Row, Text, all_of, first_of}
use Rattle.clap.specs.Simple.{subcommand_of}
use Rattle.clap.specs.Faults.{fault_of}
use Rattle.edge_bits.specs.declared.limits.TheConstants.{LONGEST_PATTERN, MOST_BITS, MOST_LIMIT, USUAL_LIMIT}
use Rattle.command_words.specs.declared.reading.TheConstants.{MOST_WORKERS}
use Rattle.command_words.specs.declared.order.Order.TheVariants.{Load, Gen}
use Rattle.command_words.specs.Table.{table}
use Rattle.command_words.specs.Values.{is_pattern, number_in, number_or, pattern_of, patterns_of}
use Rattle.command_words.specs.Orders.{ArePatterns, IsInRange, build_in, gen_in, limit_in, load_in, order_in, patterns_in, table_order, workers_in}

-- what holds of each value that a choice, a map or a chain may give
pub chosen : {A : Type 0} (P : A → Type 0) (b : Bool) (x y : Option A) → (b ≡ true → IfSome x P) → (b ≡ false → IfSome y P) → IfSome (if b then x else y) P
chosen P true x y then_holds else_holds = then_holds refl
chosen P false x y then_holds else_holds = else_holds refl

pub mapped : {A B : Type 0} (Q : A → Type 0) (P : B → Type 0) (f : A → B) (o : Option A) → IfSome o Q → ((x : A) → Q x → P (f x)) → IfSome (option_map f o) P
mapped Q P f None holds next = tt
mapped Q P f (Some x) holds next = next x holds

pub chained : {A B : Type 0} (Q : A → Type 0) (P : B → Type 0) (f : A → Option B) (o : Option A) → IfSome o Q → ((x : A) → Q x → IfSome (f x) P) → IfSome (option_and_then f o) P
chained Q P f None holds next = tt
chained Q P f (Some x) holds next = next x holds

-- nothing is known of the value
pub anything : {A : Type 0} (o : Option A) → IfSome o (λ _. Unit {0})
anything None = tt
anything (Some x) = tt

abbrev IsBetween : ℕ → ℕ → ℕ → Type 0
IsBetween least most n = (least ≤ n) × (n ≤ most)

both_tests : (a : Bool) (least n most : ℕ) → (a && nat_le least n && nat_le n most) ≡ true → IsBetween least most n
both_tests a least n most h = (grind (arith, nat_tests), grind (arith, nat_tests))

number_in-range : (least most : ℕ) (word : Word) → IfSome (number_in least most word) (IsBetween least most)
number_in-range least most word =
    chosen (IsBetween least most) (is_number word && nat_le least (digits_value 10 word) && nat_le (digits_value 10 word) most)
    (Some (digits_value 10 word)) None (both_tests (is_number word) least (digits_value 10 word) most) (λ _. tt)

number_or-range : (usual least most : ℕ) (o : Option Word) → least ≤ usual → usual ≤ most → IfSome (number_or usual least most o) (IsBetween least most)
number_or-range usual least most None low high = (low, high)
number_or-range usual least most (Some word) low high = number_in-range least most word

length_tests : (n most : ℕ) (b : Bool) → (not (n == 0) && nat_le n most && b) ≡ true → IsBetween 1 most n
length_tests n most b h = (grind (arith, nat_tests), grind (arith, nat_tests))

pattern-range : (word : Word) → is_pattern word ≡ true → IsBetween 1 LONGEST_PATTERN (length (pattern_of word))
pattern-range word h =
    rw (length-map word (λ b. b == 49)) (length_tests (length word) LONGEST_PATTERN (list_all (λ b. b == 48 || b == 49) word) h)

patterns-range : (words : List Word) → list_all is_pattern words ≡ true → ArePatterns (map pattern_of words)
patterns-range words h =
    All-map (λ bits. IsBetween 1 LONGEST_PATTERN (length bits)) pattern_of words
    (λ i d within. pattern-range (get_or words i d) (AllPass-from_list_all is_pattern words h i d within))

patterns_of-range : (words : List Word) → IfSome (patterns_of words) ArePatterns
patterns_of-range words = chosen ArePatterns (list_all is_pattern words) (Some (map pattern_of words)) None (patterns-range words) (λ _. tt)

patterns_in-range : (rows : List Row) → IfSome (patterns_in rows) ArePatterns
patterns_in-range rows = patterns_of-range (unwrap_or (all_of (codes "bits") rows) [])

workers-range : (rows : List Row) → IfSome (workers_in rows) (IsBetween 1 MOST_WORKERS)
workers-range rows = number_or-range 1 1 MOST_WORKERS (first_of (codes "workers") rows) (omega arith) (omega arith)

limit-range : (rows : List Row) → IfSome (limit_in rows) (IsBetween 0 MOST_LIMIT)
limit-range rows = number_or-range USUAL_LIMIT 0 MOST_LIMIT (first_of (codes "limit") rows) (omega arith) (omega arith)

build-range : (rows : List Row) → IfSome (build_in rows) IsInRange
build-range rows =
    chained (IsBetween 1 MOST_WORKERS) IsInRange _ (workers_in rows) (workers-range rows) (λ workers few.
    chained (IsBetween 0 MOST_LIMIT) IsInRange _ (limit_in rows) (limit-range rows) (λ limit small.
    mapped ArePatterns IsInRange _ (patterns_in rows) (patterns_in-range rows) (λ patterns are. (few.0, few.1, small.1, are))))

load-range : (rows : List Row) → IfSome (load_in rows) IsInRange
load-range rows = mapped ArePatterns IsInRange Load (patterns_in rows) (patterns_in-range rows) (λ patterns are. are)

gen-range : (rows : List Row) → IfSome (gen_in rows) IsInRange
gen-range rows =
    chained (IsBetween 1 MOST_WORKERS) IsInRange _ (workers_in rows) (workers-range rows) (λ workers few.
    chained (λ _. Unit {0}) IsInRange _ (first_of (codes "count") rows) (anything (first_of (codes "count") rows)) (λ word _.
    mapped (IsBetween 1 MOST_BITS) IsInRange (Gen workers) (number_in 1 MOST_BITS word) (number_in-range 1 MOST_BITS word) (λ bits several. (few.0, few.1, several.0, several.1))))

met-range : (met : Text × List Row) → IfSome (order_in met) IsInRange
met-range met =
    chosen IsInRange (bytes_eq met.0 (codes "build")) _ _ (λ _. build-range met.1) (λ _.
    chosen IsInRange (bytes_eq met.0 (codes "load")) _ _ (λ _. load-range met.1) (λ _.
    chosen IsInRange (bytes_eq met.0 (codes "gen")) _ _ (λ _. gen-range met.1) (λ _. tt)))

-- what the table gives is in range
pub table_order-range : (words : List Text) → IfSome (table_order words) IsInRange
table_order-range words =
    chosen IsInRange (length (fault_of table words) == 0) _ _
    (λ _. chained (λ _. Unit {0}) IsInRange order_in (subcommand_of table words) (anything (subcommand_of table words)) (λ met _. met-range met)) (λ _. tt)
