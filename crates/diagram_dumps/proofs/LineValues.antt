-- What the lines of a dump are, as functions, where children come before parents.
use Rattle.std.proofs.Common.{◌≡◌, ℕ, zero, suc, ◌+◌, ◌-◌, ◌<◌, ◌≤◌, nat_le, Bool, true, false, not, cond, ℤ, pos, negsuc, Option, Some, length, get_or, nat_abs, slice_get, if◌then◌else◌, refl, sym, ap, ◌∙◌, subst, arith}
use Rattle.std.proofs.lemmas.Bool.Decides.{nat_tests}
use Rattle.std.proofs.lemmas.Option.{slice_get-get_or, slice_get_within}
use Rattle.edge_bits.specs.Assignments.{bit}
use Rattle.edge_bits.specs.declared.edges.Line.{Line}
use Rattle.diagram_dumps.specs.declared.dump.Dump.{Dump}
use Rattle.diagram_dumps.specs.Dumps.{line_value, node_value, signed, value_within}
use Rattle.diagram_dumps.proofs.Walks.{IsEarlier}
use Rattle.function_laws.specs.Values.{choice, constant}
use Rattle.function_laws.proofs.ValueLemmas.{everywhere}

-- an index is the constant, or that of a line
pub data Indexed (dump : Dump) : ℕ → Type 0 where
  at_one : Indexed dump 1
  at_line : (place : ℕ) (line : Line) → slice_get dump.nodes place ≡ Some line → Indexed dump (place + 2)

a_line : Line
a_line = record { var = 0; hi = 0; lo = pos 0 }

pub indexed : (dump : Dump) (index : ℕ) → 1 ≤ index → index < 2 + length dump.nodes → Indexed dump index
indexed dump zero low high = absurd (omega arith)
indexed dump (suc zero) low high = at_one
indexed dump (suc (suc place)) low high =
    subst (Indexed dump) (omega arith)
    (at_line place (get_or dump.nodes place a_line) (slice_get-get_or dump.nodes place a_line (omega arith)))

-- the function of a signed index, and that of a line's else child
abbrev pub signed_value : Dump → ℤ → ℕ → Bool
signed_value dump z k = signed (λ index. line_value dump index k) z

abbrev pub low_of : Dump → Line → ℕ → Bool
low_of dump line = signed_value dump line.lo

-- a signed index reads its magnitude alone
signed_same : (f g : ℕ → Bool) (z : ℤ) → f (nat_abs z) ≡ g (nat_abs z) → signed f z ≡ signed g z
signed_same f g (pos index) e = e
signed_same f g (negsuc lower) e =
    let more : suc lower ≡ lower + 1 = omega arith in ap not (subst (λ i. f i ≡ g i) more e)

pub within : (dump : Dump) (place : ℕ) (line : Line) → slice_get dump.nodes place ≡ Some line → place < length dump.nodes
within dump place line at = slice_get_within dump.nodes place line at

-- each line's children are below it
abbrev pub AreEarlier : Dump → Type 0
AreEarlier dump = (place : ℕ) (line : Line) → slice_get dump.nodes place ≡ Some line → IsEarlier line (place + 2)

module _ (dump : Dump) (earlier : AreEarlier dump) where
  -- of the constant, through any number of lines
  pub value_of_one : (limit k : ℕ) → value_within dump limit 1 k ≡ true
  unfolding value_within
  value_of_one zero k = refl
  value_of_one (suc limit) k = refl

  -- of a line, from its children's
  value_of_line : (limit place : ℕ) (line : Line) (k : ℕ) → slice_get dump.nodes place ≡ Some line
      → value_within dump (suc limit) (place + 2) k ≡ node_value (Some line) k (λ child. value_within dump limit child k)
  unfolding value_within
  value_of_line limit place line k at =
      let back : (place + 2) - 2 ≡ place = omega arith in
      let large : nat_le (place + 2) 1 ≡ false = grind (arith, nat_tests) in
      ap (λ b. cond b true (node_value (slice_get dump.nodes ((place + 2) - 2)) k (λ child. value_within dump limit child k))) large
      ∙ ap (λ i. node_value (slice_get dump.nodes i) k (λ child. value_within dump limit child k)) back
      ∙ ap (λ (o : Option Line). node_value o k (λ child. value_within dump limit child k)) at

  same_nodes : (line : Line) (k : ℕ) (f g : ℕ → Bool) (b : Bool) → f line.hi ≡ g line.hi → f (nat_abs line.lo) ≡ g (nat_abs line.lo)
      → (if b then f line.hi else signed f line.lo) ≡ (if b then g line.hi else signed g line.lo)
  same_nodes line k f g true high low = high
  same_nodes line k f g false high low = signed_same f g line.lo low

  -- more lines to go through than there are below change nothing
  enough_for : (a b index k : ℕ) → Indexed dump index → index ≤ a + 1 → index ≤ b + 1 → value_within dump a index k ≡ value_within dump b index k
  enough_for a b _ k at_one more other = value_of_one a k ∙ sym (value_of_one b k)
  enough_for zero b _ k (at_line place line at) more other = absurd (omega arith)
  enough_for (suc a) zero _ k (at_line place line at) more other = absurd (omega arith)
  enough_for (suc a) (suc b) _ k (at_line place line at) more other =
      let e = earlier place line at in
      let fits = within dump place line at in
      value_of_line a place line k at
      ∙ same_nodes line k (λ child. value_within dump a child k) (λ child. value_within dump b child k) (bit k line.var)
      (enough_for a b line.hi k (indexed dump line.hi e.0 (omega (arith, e.1))) (omega (arith, e.1)) (omega (arith, e.1)))
      (enough_for a b (nat_abs line.lo) k (indexed dump (nat_abs line.lo) e.2 (omega (arith, e.3))) (omega (arith, e.3)) (omega (arith, e.3)))
      ∙ sym (value_of_line b place line k at)

  -- the functions of the lines
  pub one_is : line_value dump 1 ≡ constant true
  one_is = everywhere (line_value dump 1) (constant true) (λ k. value_of_one (length dump.nodes) k)

  pub line_is : (place : ℕ) (line : Line) → slice_get dump.nodes place ≡ Some line
      → line_value dump (place + 2) ≡ choice line.var (line_value dump line.hi) (low_of dump line)
  line_is place line at =
      let fits = within dump place line at in
      everywhere (line_value dump (place + 2)) (choice line.var (line_value dump line.hi) (low_of dump line)) (λ k.
      enough_for (length dump.nodes) (suc (length dump.nodes)) (place + 2) k (at_line place line at) (omega arith) (omega arith)
      ∙ value_of_line (length dump.nodes) place line k at)
