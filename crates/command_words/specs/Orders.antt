-- What the words of the command line ask for.
use Rattle.std.specs.Prelude.{ℕ, ◌==◌, ◌≤◌, Bool, false, List, [], ◌∷◌, Option, Some, None, All, length, codes, option_and_then, if◌then◌else◌}
use Rattle.std.specs.Option.{unwrap_or, option_map}
use Rattle.std.specs.Str.{bytes_eq}
use Rattle.clap.specs.Walk.{Row, Text, all_of, first_of}
use Rattle.clap.specs.Simple.{subcommand_of}
use Rattle.clap.specs.Faults.{fault_of}
use Rattle.edge_bits.specs.declared.limits.TheConstants.{LONGEST_PATTERN, MOST_BITS, MOST_LIMIT, USUAL_LIMIT}
use Rattle.command_words.specs.declared.reading.TheConstants.{MOST_WORKERS}
use Rattle.command_words.specs.declared.order.Order.{Order}
use Rattle.command_words.specs.declared.order.Order.TheVariants.{Play, Build, Load, Gen}
use Rattle.command_words.specs.Table.{table}
use Rattle.command_words.specs.Values.{number_in, number_or, patterns_of}

-- `--workers`
abbrev pub workers_in : List Row → Option ℕ
workers_in rows = number_or 1 1 MOST_WORKERS (first_of (codes "workers") rows)

-- `--limit`
abbrev pub limit_in : List Row → Option ℕ
limit_in rows = number_or USUAL_LIMIT 0 MOST_LIMIT (first_of (codes "limit") rows)

-- a flag was given
abbrev pub is_true : Option Text → Bool
is_true None = false
is_true (Some text) = bytes_eq text (codes "true")

abbrev pub is_set : Text → List Row → Bool
is_set name rows = is_true (first_of name rows)

-- the words of `bits`
abbrev pub patterns_in : List Row → Option (List (List Bool))
patterns_in rows = patterns_of (unwrap_or (all_of (codes "bits") rows) [])

-- behind `build`
abbrev pub build_in : List Row → Option Order
build_in rows =
    option_and_then (λ workers. option_and_then (λ limit. option_map (λ patterns.
    Build workers limit (record { sift = is_set (codes "sift") rows; store = is_set (codes "store") rows; blif = is_set (codes "blif") rows; patterns = patterns }))
    (patterns_in rows)) (limit_in rows)) (workers_in rows)

-- behind `load`
abbrev pub load_in : List Row → Option Order
load_in rows = option_map Load (patterns_in rows)

-- behind `gen`
abbrev pub gen_in : List Row → Option Order
gen_in rows = option_and_then (λ workers. option_and_then (λ word. option_map (Gen workers) (number_in 1 MOST_BITS word)) (first_of (codes "count") rows)) (workers_in rows)

-- of a command of the table with what was found behind it
abbrev pub order_in : Text × List Row → Option Order
order_in met =
    if bytes_eq met.0 (codes "build") then build_in met.1 else
    if bytes_eq met.0 (codes "load") then load_in met.1 else
    if bytes_eq met.0 (codes "gen") then gen_in met.1 else None

-- of words that the table takes
abbrev pub table_order : List Text → Option Order
table_order words = if length (fault_of table words) == 0 then option_and_then order_in (subcommand_of table words) else None

-- `play` alone
abbrev pub is_play : List Text → Bool
is_play (word ∷ []) = bytes_eq word (codes "play")
is_play _ = false

-- `play` alone, or words that the table takes, with numbers and bits in range
unfoldable pub order_of : List Text → Option Order
order_of words = if is_play words then Some Play else table_order words

-- each pattern has a bit, and not more than it may
abbrev pub ArePatterns : List (List Bool) → Type 0
ArePatterns patterns = All (λ bits. (1 ≤ length bits) × (length bits ≤ LONGEST_PATTERN)) patterns

-- the numbers and bits of an order are in range
abbrev pub IsInRange : Order → Type 0
IsInRange Play = Unit {0}
IsInRange (Build workers limit options) = (1 ≤ workers) × (workers ≤ MOST_WORKERS) × (limit ≤ MOST_LIMIT) × ArePatterns options.patterns
IsInRange (Load patterns) = ArePatterns patterns
IsInRange (Gen workers bits) = (1 ≤ workers) × (workers ≤ MOST_WORKERS) × (1 ≤ bits) × (bits ≤ MOST_BITS)
