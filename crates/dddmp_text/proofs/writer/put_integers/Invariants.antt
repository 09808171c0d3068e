use Rattle.std.proofs.Common.{◌≡◌, ◌++◌, ◌∷◌, map, take, string_bytes}
use Rattle.std.specs.List.{flat_map}
use Rattle.std.specs.Fmt.{signed_decimal}
use Rattle.dddmp_text.proofs.writer.put_integers.Given as goal

abbrev pub invariant-loop-whole : goal.invariant-loop-whole
invariant-loop-whole l =
    string_bytes l.text ≡ string_bytes l.initial.text ++ flat_map (λ word. 32 ∷ word) (map signed_decimal (take l.whole-index l.numbers))
