-- The classes of roots of a stored diagram, by their indices.
use Rattle.std.specs.Prelude.{◌==◌, List, ℤ, pos, nat_abs, slice_index_or, map}
use Rattle.std.specs.Int.{is_negative}
use Rattle.std.specs.List.{position_or_len}
use Rattle.function_laws.specs.Values.{differs}
use Rattle.diagram_dumps.specs.declared.dump.Dump.{Dump}
use Rattle.diagram_dumps.specs.Dumps.{root_value}
use Rattle.net_reports.specs.Classes.{Function}
use Rattle.net_reports.specs.declared.classes.Class.{Class}

-- the first root of the same magnitude, and whether the one is complemented and the other isn't
abbrev pub class_among : List ℤ → ℤ → Class
class_among roots root =
    let first = position_or_len (λ other. nat_abs other == nat_abs root) roots in
    record { first = first; complement = differs (is_negative root) (is_negative (slice_index_or roots first (pos 0))) }

-- the functions of the roots
abbrev pub root_functions : Dump → List Function
root_functions dump = map (root_value dump) dump.roots
