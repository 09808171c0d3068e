-- What a command says lets it be called.
use Rattle.std.proofs.Common.{◌≡◌, ℕ, ◌<◌, Bool, true, ℤ, List, [], ◌∷◌, ◌++◌, length, map, int_le, int_lt, arith, sym, ap, ◌∙◌, subst}
use Rattle.std.specs.List.{All, flat_map}
use Rattle.std.proofs.lemmas.Bool.{and_parts}
use Rattle.std.proofs.lemmas.Int.{ints}
use Rattle.std.proofs.lemmas.List.Elements.{All-cons, All-nil}
use Rattle.edge_bits.specs.Permanent.{least_value, value_end}
use Rattle.edge_bits.specs.Words.{IsLeafValue}
use Rattle.edge_bits.specs.declared.edges.Kind.{Kind}
use Rattle.edge_bits.specs.declared.edges.Kind.TheVariants as kinds
use Rattle.job_commands.specs.declared.acts.Act.{Act}
use Rattle.job_commands.specs.declared.acts.Act.TheVariants.{Makes, Copy, Fetch, Post, Drop, Same, Leq, Eval, Sweep, Swap, Sift}
use Rattle.job_text.specs.declared.job.Counts.{Counts}
use Rattle.job_text.specs.declared.job.Register.{Register}
use Rattle.job_text.specs.declared.operands.Operand.TheVariants as operands
use Rattle.job_words.specs.Text.{Word}
use Rattle.job_text.specs.declared.operands.Operand.{Operand}
use Rattle.function_laws.specs.Numbers.{is_value}
use Rattle.function_laws.specs.Makings.{Taken, bit, element, function, literals, number, pairs, taken, value, variable, variables}
use Rattle.job_text.specs.Places.{Refers, StandsFor, bits_for, kind_at, kind_of}
use Rattle.job_text.specs.Grammar.{Says}
use Rattle.job_text.proofs.Effects.{EachStands, operands_stand}
use Rattle.job_text.proofs.Naming.{pair_operands}
use Rattle.job_text.proofs.Rows.{AreOfCommand, Takes, operands_for, takes}
use Rattle.dd_session.specs.Sessions.{Seen}
use Rattle.net_jobs.specs.declared.registers.Assigned.{Assigned}
use Rattle.operator_calls.specs.Taking.{CanTake, CanTakeAll}
use Rattle.net_jobs.specs.Saying.{CanCall, Covers, IsHeldAs}

-- a register that a word stands for is live and of its kind
held : (n : Counts) (registers : List Register) (s : Seen) (names : List Assigned) (k : Kind) (a : ℕ) → Covers registers s names → (word : Word) × StandsFor n registers word (operands.Register k a) → IsHeldAs k s names a
held n registers s names k a covers stands = covers.held a stands.0 k stands.1.1

-- variables that words stand for are variables
variables_stand : (n : Counts) (registers : List Register) (vs : List ℕ) → EachStands n registers (map operands.Variable vs) → All (λ v. v < n.vars) vs
variables_stand n registers [] each = All-nil (λ v. v < n.vars)
variables_stand n registers (v ∷ vs) each = All-cons (λ v. v < n.vars) v vs each.0.1.1 (variables_stand n registers vs each.1)

-- and so are those of pairs
pair_variables_stand : (n : Counts) (registers : List Register) (ps : List (ℕ × ℕ)) → EachStands n registers (flat_map pair_operands ps) → All (λ pair. pair.0 < n.vars) ps
pair_variables_stand n registers [] each = All-nil (λ pair. pair.0 < n.vars)
pair_variables_stand n registers (pair ∷ ps) each = All-cons (λ pair. pair.0 < n.vars) pair ps each.0.1.1 (pair_variables_stand n registers ps each.1.1)

-- whose registers are live
pair_registers_stand : (n : Counts) (registers : List Register) (s : Seen) (names : List Assigned) (ps : List (ℕ × ℕ)) → Covers registers s names → EachStands n registers (flat_map pair_operands ps)
    → All (λ pair. IsHeldAs kinds.Bdd s names pair.1) ps
pair_registers_stand n registers s names [] covers each = All-nil (λ pair. IsHeldAs kinds.Bdd s names pair.1)
pair_registers_stand n registers s names (pair ∷ ps) covers each =
    All-cons (λ pair. IsHeldAs kinds.Bdd s names pair.1) pair ps (held n registers s names kinds.Bdd pair.1 covers each.1.0) (pair_registers_stand n registers s names ps covers each.1.1)

-- a value that is in range is one of a leaf
leaf_value : (z : ℤ) → is_value z ≡ true → IsLeafValue z
leaf_value z in_range =
    let both = and_parts (int_le least_value z) (int_lt z value_end) in_range in
    let low = both.0 in
    let high = both.1 in (grind (arith, ints), grind (arith, ints))

-- the kind of a register that a word names
pub refers-kind : (registers : List Register) (word : Word) (a : ℕ) (k : Kind) → Refers registers word a k → kind_at registers a ≡ k
refers-kind registers word a k refers = ap kind_of refers.1

-- two registers of one kind are live and of one kind
alike : (n : Counts) (registers : List Register) (s : Seen) (names : List Assigned) (a b : ℕ) → Covers registers s names → (word : Word) × StandsFor n registers word (operands.Any a) → (word : Word) × StandsFor n registers word (operands.Alike b)
    → kind_at registers a ≡ kind_at registers b → (k : Kind) × IsHeldAs k s names a × IsHeldAs k s names b
alike n registers s names a b covers first second same =
    let k = first.1.0 in
    let one : second.1.0 ≡ k = sym (refers-kind registers second.0 b second.1.0 second.1.1) ∙ sym same ∙ refers-kind registers first.0 a k first.1.1 in
    (k, covers.held a first.0 k first.1.1.1, subst (λ (j : Kind). IsHeldAs j s names b) one (covers.held b second.0 second.1.0 second.1.1.1))

-- a register that is evaluated has as many bits as its kind asks for
evaluated : (n : Counts) (registers : List Register) (s : Seen) (names : List Assigned) (a : ℕ) (bits : List Bool) → Covers registers s names → (word : Word) × StandsFor n registers word (operands.Any a)
    → length bits ≡ bits_for n (kind_at registers a) → (k : Kind) × IsHeldAs k s names a × (length bits ≡ bits_for n k)
evaluated n registers s names a bits covers stands long =
    let k = stands.1.0 in
    (k, covers.held a stands.0 k stands.1.1.1, long ∙ ap (bits_for n) (refers-kind registers stands.0 a k stands.1.1))

-- the operands of several
stand_front : (n : Counts) (registers : List Register) (xs ys : List Operand) → EachStands n registers (xs ++ ys) → EachStands n registers xs
stand_front n registers [] ys each = tt
stand_front n registers (x ∷ xs) ys each = (each.0, stand_front n registers xs ys each.1)

stand_back : (n : Counts) (registers : List Register) (xs ys : List Operand) → EachStands n registers (xs ++ ys) → EachStands n registers ys
stand_back n registers [] ys each = each
stand_back n registers (x ∷ xs) ys each = stand_back n registers xs ys each.1

-- what an operation takes, where words stand for it
can_take : (n : Counts) (registers : List Register) (s : Seen) (names : List Assigned) (one : Taken ℕ) → Covers registers s names → EachStands n registers (operands_for one) → AreOfCommand (one ∷ []) → CanTake (λ k a. IsHeldAs k s names a) n.vars n.vars n.elements one
can_take n registers s names (function k a) covers each once = held n registers s names k a covers each.0
can_take n registers s names (variable v) covers each once = each.0.1.1
can_take n registers s names (element e) covers each once = each.0.1.1
can_take n registers s names (value z) covers each once = leaf_value z each.0.1.1
can_take n registers s names (number z) covers each once = tt
can_take n registers s names (bit b) covers each once = tt
can_take n registers s names (variables vs) covers each once = variables_stand n registers vs each
can_take n registers s names (pairs ps) covers each once = (pair_variables_stand n registers ps each, pair_registers_stand n registers s names ps covers each, once.0)
can_take n registers s names literals covers each once = each.0.1.1

once_first : (one : Taken ℕ) (more : List (Taken ℕ)) → AreOfCommand (one ∷ more) → AreOfCommand (one ∷ []) × AreOfCommand more
once_first (pairs ps) more once = ((once.0, tt), once.1)
once_first one more once = (tt, once)

can_take_all : (n : Counts) (registers : List Register) (s : Seen) (names : List Assigned) (all : List (Taken ℕ)) → Covers registers s names → EachStands n registers (flat_map operands_for all) → AreOfCommand all → CanTakeAll (λ k a. IsHeldAs k s names a) n.vars n.vars n.elements all
can_take_all n registers s names [] covers each once = tt
can_take_all n registers s names (one ∷ more) covers each once =
    let apart = once_first one more once in (
      can_take n registers s names one covers (stand_front n registers (operands_for one) (flat_map operands_for more) each) apart.0,
      can_take_all n registers s names more covers (stand_back n registers (operands_for one) (flat_map operands_for more) each) apart.1,
    )

-- what a command says lets it be called
can_each : (n : Counts) (registers : List Register) (s : Seen) (names : List Assigned) (act : Act) (os : List Operand) → Covers registers s names → EachStands n registers os → Takes n registers act os → CanCall n s names act
can_each n registers s names (Makes making) os covers each takes = can_take_all n registers s names (taken making) covers (subst (EachStands n registers) takes.0 each) takes.1
can_each n registers s names (Copy a) os covers each takes = let one = subst (EachStands n registers) takes each in (one.0.1.0, covers.held a one.0.0 one.0.1.0 one.0.1.1.1)
can_each n registers s names (Fetch cell a) os covers each takes = let both = subst (EachStands n registers) takes each in (both.1.0.1.0, covers.held a both.1.0.0 both.1.0.1.0 both.1.0.1.1.1, both.0.1.1)
can_each n registers s names (Post cell a) os covers each takes = let both = subst (EachStands n registers) takes each in (both.1.0.1.0, covers.held a both.1.0.0 both.1.0.1.0 both.1.0.1.1.1, both.0.1.1)
can_each n registers s names Sweep os covers each takes = tt
can_each n registers s names (Sift order) os covers each takes = tt
can_each n registers s names (Swap order level) os covers each takes = let one = subst (EachStands n registers) takes each in one.0.1.1
can_each n registers s names (Drop a) os covers each takes = let one = subst (EachStands n registers) takes each in (one.0.1.0, covers.held a one.0.0 one.0.1.0 one.0.1.1.1)
can_each n registers s names (Same a b) os covers each takes = let both = subst (EachStands n registers) takes.0 each in alike n registers s names a b covers both.0 both.1.0 takes.1
can_each n registers s names (Leq a b) os covers each takes = let both = subst (EachStands n registers) takes each in (held n registers s names kinds.Bdd a covers both.0, held n registers s names kinds.Bdd b covers both.1.0)
can_each n registers s names (Eval a bits) os covers each takes = let one = subst (EachStands n registers) takes.0 each in evaluated n registers s names a bits covers one.0 takes.1

pub can_call : (n : Counts) (registers : List Register) (s : Seen) (names : List Assigned) (words : List Word) (act : Act) → Says n registers words act → Covers registers s names → CanCall n s names act
can_call n registers s names words act says covers = can_each n registers s names act says.operands covers (operands_stand n registers words act says) (takes n registers words act says)
