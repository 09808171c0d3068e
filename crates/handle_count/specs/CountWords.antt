-- The two parts of a count word.
use Rattle.std.specs.Prelude.{ℕ, ◌/◌, ◌%◌, ◌^◌}

-- how many rows, cells and pins hold the slot
abbrev pub count_of : ℕ → ℕ
count_of word = word % 2 ^ 32

-- how often the slot was freed, modulo 2^32
abbrev pub generation_of : ℕ → ℕ
generation_of word = word / 2 ^ 32
