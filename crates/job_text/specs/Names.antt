-- What the index of a section's registers has.
use Rattle.std.specs.Prelude.{◌≡◌, ℕ, ◌<◌, ◌^◌, length, false, List, [], ◌∷◌, Option, position}
use Rattle.std.specs.BTreeMap.{BTreeMap, get_by}
use Rattle.std.specs.Cmp.Lexicographic.{slice_cmp}
use Rattle.std.specs.Global.{Vec}
use Rattle.std.specs.List.{list_any}
use Rattle.std.specs.Ordering.{nat_cmp}
use Rattle.job_text.specs.declared.job.Register.{Register}
use Rattle.job_words.specs.Text.{Word}
use Rattle.job_text.specs.Places.{is_called}

-- no two registers have the same name
abbrev pub AreDistinct : List Register → Type 0
AreDistinct [] = Unit {0}
AreDistinct (register ∷ registers) = (list_any (is_called register.name) registers ≡ false) × AreDistinct registers

-- what is found by a word
abbrev pub found_by : BTreeMap (Vec ℕ) ℕ → Word → Option ℕ
found_by places word = get_by (λ name. slice_cmp nat_cmp word name.items) places

-- by each name its register's place is found, and by other words that memory can hold nothing
abbrev pub IsIndex : BTreeMap (Vec ℕ) ℕ → List Register → Type 0
IsIndex places registers = (word : Word) → length word < 2 ^ 63 → found_by places word ≡ position (is_called word) registers
