-- No words but `play` alone ask for `play`.
use Rattle.std.proofs.Common.{◌≡◌, ◌==◌, Bool, true, false, List, Option, Some, IfSome, length, codes, if◌then◌else◌, refl, subst}
use Rattle.std.specs.Str.{bytes_eq}
use Rattle.clap.specs.Walk.{Row, Text, first_of}
use Rattle.clap.specs.Simple.{subcommand_of}
use Rattle.clap.specs.Faults.{fault_of}
use Rattle.edge_bits.specs.declared.limits.TheConstants.{MOST_BITS}
use Rattle.command_words.specs.declared.order.Order.{Order}
use Rattle.command_words.specs.declared.order.Order.TheVariants.{Play, Build, Load, Gen}
use Rattle.command_words.specs.Table.{table}
use Rattle.command_words.specs.Values.{number_in}
use Rattle.command_words.specs.Orders.{build_in, gen_in, is_play, limit_in, load_in, order_in, order_of, patterns_in, table_order, workers_in}
use Rattle.command_words.proofs.Ranges.{anything, chained, chosen, mapped}

-- every command but `play`
abbrev pub HasOptions : Order → Type 0
HasOptions Play = ⊥
HasOptions (Build workers limit options) = Unit {0}
HasOptions (Load patterns) = Unit {0}
HasOptions (Gen workers bits) = Unit {0}

abbrev Any : {A : Type 0} → A → Type 0
Any x = Unit {0}

of_build : (rows : List Row) → IfSome (build_in rows) HasOptions
of_build rows =
    chained Any HasOptions _ (workers_in rows) (anything (workers_in rows)) (λ workers _.
    chained Any HasOptions _ (limit_in rows) (anything (limit_in rows)) (λ limit _.
    mapped Any HasOptions _ (patterns_in rows) (anything (patterns_in rows)) (λ patterns _. tt)))

of_load : (rows : List Row) → IfSome (load_in rows) HasOptions
of_load rows = mapped Any HasOptions Load (patterns_in rows) (anything (patterns_in rows)) (λ patterns _. tt)

of_gen : (rows : List Row) → IfSome (gen_in rows) HasOptions
of_gen rows =
    chained Any HasOptions _ (workers_in rows) (anything (workers_in rows)) (λ workers _.
    chained Any HasOptions _ (first_of (codes "count") rows) (anything (first_of (codes "count") rows)) (λ word _.
    mapped Any HasOptions (Gen workers) (number_in 1 MOST_BITS word) (anything (number_in 1 MOST_BITS word)) (λ bits _. tt)))

of_met : (met : Text × List Row) → IfSome (order_in met) HasOptions
of_met met =
    chosen HasOptions (bytes_eq met.0 (codes "build")) _ _ (λ _. of_build met.1) (λ _.
    chosen HasOptions (bytes_eq met.0 (codes "load")) _ _ (λ _. of_load met.1) (λ _.
    chosen HasOptions (bytes_eq met.0 (codes "gen")) _ _ (λ _. of_gen met.1) (λ _. tt)))

-- what the table gives
pub of_table : (words : List Text) → IfSome (table_order words) HasOptions
of_table words =
    chosen HasOptions (length (fault_of table words) == 0) _ _
    (λ _. chained Any HasOptions order_in (subcommand_of table words) (anything (subcommand_of table words)) (λ met _. of_met met)) (λ _. tt)

only_play : (b : Bool) (o : Option Order) → IfSome o HasOptions → (if b then Some Play else o) ≡ Some Play → b ≡ true
only_play true o has e = refl
only_play false o has e = absurd (subst (λ (p : Option Order). IfSome p HasOptions) e has)

pub play_alone : (words : List Text) → order_of words ≡ Some Play → is_play words ≡ true
unfolding order_of
play_alone words = only_play (is_play words) (table_order words) (of_table words)
