-- What a run within another operator leaves of its scratch.
use Rattle.std.specs.Prelude.{◌≡◌}
use Rattle.node_store.specs.Stacks.{Scratch}

-- its frames, its room and its marks, but not the table of answers
pub record KeepsRoom (old new : Scratch) : Type 0 where
  pub frames : new.frames ≡ old.frames
  pub free : new.free ≡ old.free
  pub marks : new.marks ≡ old.marks
