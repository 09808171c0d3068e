-- In a well made dump children come before their parents, and the roots are lines.
use Rattle.std.proofs.Common.{◌≡◌, ℕ, ◌+◌, ◌-◌, ◌<◌, ◌≤◌, nat_lt, Bool, true, false, List, [], ◌∷◌, ℤ, Some, length, nat_abs, slice_get, refl, sym, ◌∙◌, ap, subst, arith}
use Rattle.std.proofs.lemmas.Option.{same_Some}
use Rattle.std.proofs.lemmas.Bool.Decides.{nat_tests}
use Rattle.edge_bits.specs.declared.edges.Line.{Line}
use Rattle.diagram_dumps.specs.declared.dump.Dump.{Dump}
use Rattle.diagram_dumps.specs.WellMade.{IsWellMade, Numbers, NumbersAll, fresh, numbered}

-- the children of the line of this index are below it
abbrev pub IsEarlier : Line → ℕ → Type 0
IsEarlier line index = (1 ≤ line.hi) × (line.hi < index) × (1 ≤ nat_abs line.lo) × (nat_abs line.lo < index)

-- what a walk says of the lines that it numbers
abbrev AreEarlier : Dump → ℕ → ℕ → Type 0
AreEarlier dump next after = (i : ℕ) (line : Line) → next ≤ i → i < after → slice_get dump.nodes (i - 2) ≡ Some line → IsEarlier line i

record Walked (dump : Dump) (next index after : ℕ) : Type 0 where
  grows : next ≤ after
  low : 1 ≤ index
  high : index < after
  lines : AreEarlier dump next after

-- two walks one after another
both : (dump : Dump) (next middle after : ℕ) → AreEarlier dump next middle → AreEarlier dump middle after → AreEarlier dump next after
both dump next middle after first second i line from to at = by_test (nat_lt i middle) refl
  where
    by_test : (b : Bool) → nat_lt i middle ≡ b → IsEarlier line i
    by_test true e = let lower : i < middle = grind (arith, nat_tests) in first i line from lower at
    by_test false e = let upper : middle ≤ i = grind (arith, nat_tests) in second i line upper to at

-- and the line that is numbered last
last_line : (dump : Dump) (index : ℕ) (known : Line) → slice_get dump.nodes (index - 2) ≡ Some known → IsEarlier known index → AreEarlier dump index (index + 1)
last_line dump index known at earlier i line from to here =
    let same : i ≡ index = omega arith in
    let found : Some known ≡ Some line = sym at ∙ ap (λ k. slice_get dump.nodes (k - 2)) (sym same) ∙ here in
    subst (λ k. IsEarlier line k) (sym same) (subst (λ (l : Line). IsEarlier l index) (same_Some known line found) earlier)

walked : (dump : Dump) (next index after : ℕ) → Numbers dump next index after → Walked dump next index after
walked dump _ _ _ (numbered {next} {index} low high) = record { grows = omega arith; low = low; high = high; lines = λ i line from to at. absurd (omega arith) }
walked dump _ _ _ (fresh {next} {middle} own line at two first second) =
    let a = walked dump next line.hi middle first in
    let b = walked dump middle (nat_abs line.lo) own second in
    let earlier : IsEarlier line own = (a.low, omega (arith, a.high, b.grows), b.low, b.high) in
    record {
      grows = omega (arith, a.grows, b.grows);
      low = omega arith;
      high = omega arith;
      lines = both dump next own (own + 1) (both dump next middle own a.lines b.lines) (last_line dump own line at earlier);
    }

-- the roots are lines, or the constant
abbrev pub AreLines : List ℤ → ℕ → Type 0
AreLines [] after = Unit {0}
AreLines (root ∷ roots) after = (1 ≤ nat_abs root) × (nat_abs root < after) × AreLines roots after

record WalkedAll (dump : Dump) (next : ℕ) (roots : List ℤ) (after : ℕ) : Type 0 where
  grows : next ≤ after
  roots_are : AreLines roots after
  lines : AreEarlier dump next after

walked_all : (dump : Dump) (next : ℕ) (roots : List ℤ) (after : ℕ) → NumbersAll dump next roots after → WalkedAll dump next roots after
walked_all dump next [] after same = record { grows = omega (arith, same); roots_are = tt; lines = λ i line from to at. absurd (omega (arith, same)) }
walked_all dump next (root ∷ roots) after (middle, first, rest) =
    let a = walked dump next (nat_abs root) middle first in
    let b = walked_all dump middle roots after rest in
    record {
      grows = omega (arith, a.grows, b.grows);
      roots_are = (a.low, omega (arith, a.high, b.grows), b.roots_are);
      lines = both dump next middle after a.lines b.lines;
    }

-- of a well made dump
pub are_earlier : (dump : Dump) → IsWellMade dump → (place : ℕ) (line : Line) → slice_get dump.nodes place ≡ Some line → place < length dump.nodes → IsEarlier line (place + 2)
are_earlier dump well place line at within =
    let all = walked_all dump 2 dump.roots (2 + length dump.nodes) well.order in
    let back : (place + 2) - 2 ≡ place = omega arith in
    all.lines (place + 2) line (omega arith) (omega arith) (ap (λ i. slice_get dump.nodes i) back ∙ at)

pub are_lines : (dump : Dump) → IsWellMade dump → AreLines dump.roots (2 + length dump.nodes)
are_lines dump well = (walked_all dump 2 dump.roots (2 + length dump.nodes) well.order).roots_are
