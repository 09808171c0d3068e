-- Tables of names with their first places.
use Rattle.std.specs.Prelude.{◌≡◌, ℕ, List, Option}
use Rattle.std.specs.Borrow.{Bor}
use Rattle.std.specs.BTreeMap.{BTreeMap, get_by}
use Rattle.std.specs.Cmp.Lexicographic.{slice_cmp}
use Rattle.std.specs.Ordering.{nat_cmp}
use Rattle.job_words.specs.Text.{Word}
use Rattle.blif_dump.specs.Names.{place_in}

-- what a table of names has for a name
abbrev pub found_in : BTreeMap (Bor Word) ℕ → Word → Option ℕ
found_in table name = get_by (λ key. slice_cmp nat_cmp name key.now) table

-- the table has the first places of these names
abbrev pub ArePlaces : BTreeMap (Bor Word) ℕ → List Word → Type 0
ArePlaces table names = (name : Word) → found_in table name ≡ place_in names name
