-- What contracts see of the scratch of a run.
use Rattle.std.specs.Prelude.{ℕ, ◌+◌, ◌/◌, min, List, length, Option}
use Rattle.node_store.specs.declared.operator.Frame.{Frame}
use Rattle.node_store.specs.declared.answers.Answer.{Answer}

-- the frames that wait, how many more fit with no memory, the table of the present call's answers, and the variable that
-- is marked at each level
pub record Scratch : Type 0 where
  pub frames : List Frame
  pub free : ℕ
  pub answers : List (Option Answer)
  pub marks : List (Option ℕ)

-- how many frames fit in all
abbrev pub room_of : Scratch → ℕ
room_of s = length s.frames + s.free

-- for how many levels there is room: two frames and a mark a level
abbrev pub levels_in : Scratch → ℕ
levels_in s = min (s.free / 2) (length s.marks)
