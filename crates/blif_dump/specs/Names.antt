-- How the names of inputs, outputs and node lines are written.
use Rattle.std.specs.Prelude.{ℕ, ◌+◌, ◌==◌, nat_eq, Bool, not, ◌||◌, List, [], ◌∷◌, ◌++◌, Option, Some, None, codes, find, length, replicate, unwrap_or, if◌then◌else◌}
use Rattle.std.specs.Fmt.{decimal}
use Rattle.std.specs.List.{ends_with, list_any, position_from, range_with_len, starts_with, sum_by}
use Rattle.std.specs.Str.{bytes_eq}
use Rattle.job_words.specs.Text.{Word}

-- `n` and so many `_`
abbrev pub prefix_with : ℕ → Word
prefix_with count = 110 ∷ replicate count 95

-- one of the names begins with this
abbrev pub begins_some : List Word → Word → Bool
begins_some names front = list_any (λ name. starts_with nat_eq name front) names

-- the fewest `_` behind an `n` with which no name begins; there are no more of them than bytes in all names
abbrev pub mark_count : List Word → ℕ
mark_count names =
    unwrap_or (find (λ count. not (begins_some names (prefix_with count))) (range_with_len 0 (1 + sum_by (λ (name : Word). length name) names))) 0

-- the shortest of these that begins no name
unfoldable pub prefix_for : List Word → Word
prefix_for names = prefix_with (mark_count names)

-- a name that would not be read again as it stands: it has a `#`, or ends with `\`
abbrev pub is_odd : Word → Bool
is_odd name = list_any (λ b. b == 35) name || ends_with nat_eq name (92 ∷ [])

-- the first place of a name among these, if it stands there
abbrev pub place_in : List Word → Word → Option ℕ
place_in names name = position_from (bytes_eq name) 0 names

-- what is written for an odd name: its first place among the inputs, or else among the outputs
abbrev pub by_place : Word → Option ℕ → Option ℕ → Word
by_place front (Some place) output = front ++ codes "i" ++ decimal place
by_place front None (Some place) = front ++ codes "o" ++ decimal place
by_place front None None = front

-- How names are written: what those of node lines begin with, and where a name stands first among the inputs and among the outputs.
pub record Naming : Type 0 where
  pub front : Word
  pub input_place : Word → Option ℕ
  pub output_place : Word → Option ℕ

-- how the names of these inputs and outputs are written
abbrev pub naming_of : List Word → List Word → Naming
naming_of inputs outputs = record { front = prefix_for (inputs ++ outputs); input_place = place_in inputs; output_place = place_in outputs }

-- what is written for a name
abbrev pub called : Naming → Word → Word
called naming name = if is_odd name then by_place naming.front (naming.input_place name) (naming.output_place name) else name

-- the name of the signal of a line, by its index
abbrev pub node_name : Word → ℕ → Word
node_name front index = front ++ decimal index
