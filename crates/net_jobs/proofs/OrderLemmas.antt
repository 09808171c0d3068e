-- The commands were said in order.
use Rattle.std.proofs.Common.{◌≡◌, ℕ, zero, suc, List, [], ◌∷◌, ◌++◌, length, map, Some, refl, sym, ap, ◌∙◌, subst}
use Rattle.std.specs.Prelude.{option_map, slice_get}
use Rattle.std.specs.List.{cons_option}
use Rattle.std.proofs.lemmas.List.Elements.{All-weaker, filter_map-append}
use Rattle.std.proofs.lemmas.Option.{slice_get-map}
use Rattle.edge_bits.specs.declared.edges.Kind.{Kind}
use Rattle.edge_bits.specs.declared.edges.Kind.TheVariants as kinds
use Rattle.function_laws.specs.declared.history.Call.{Call}
use Rattle.function_laws.specs.declared.history.Name.{Name}
use Rattle.function_laws.specs.declared.history.Sifting.{Sifting}
use Rattle.function_laws.specs.declared.orders.Order.TheVariants.{Variables, Elements}
use Rattle.job_commands.specs.declared.acts.Act.{Act}
use Rattle.job_commands.specs.declared.acts.Act.TheVariants.{Makes, Copy, Fetch, Post, Drop, Same, Leq, Eval, Sweep, Swap, Sift}
use Rattle.function_laws.specs.Makings.{Taken, bit, element, function, literals, number, pairs, taken, value, variable, variables}
use Rattle.job_text.specs.declared.job.Command.{Command}
use Rattle.job_text.specs.declared.job.Counts.{Counts}
use Rattle.job_text.specs.Histories.{AreNamed, IsCallOf, NamedRegister, HistoryLine, IsNamedAs, SayInOrder, held_by, registers_of}
use Rattle.dd_session.specs.Sessions.{Seen}
use Rattle.net_jobs.specs.declared.registers.Assigned.{Assigned}
use Rattle.operator_calls.specs.Taking.{CanTakeAll}
use Rattle.net_jobs.specs.Saying.{CanCall, IsHeldAs, call_of, name_at, name_in, register_of}
use Rattle.net_jobs.proofs.ListLemmas.{some_at}

-- what is named among some registers is named among more
named-more : (registers more : List NamedRegister) (a : ℕ) (name : Name) → IsNamedAs registers a name → IsNamedAs (registers ++ more) a name
named-more registers more a name is = (is.0, slice_get-more registers more a _ is.1)
  where
    slice_get-more : (xs ys : List NamedRegister) (i : ℕ) (x : NamedRegister) → slice_get xs i ≡ Some x → slice_get (xs ++ ys) i ≡ Some x
    slice_get-more [] ys i x is = cc
    slice_get-more (y ∷ xs) ys zero x is = is
    slice_get-more (y ∷ xs) ys (suc i) x is = slice_get-more xs ys i x is

are_named-more : (registers more : List NamedRegister) (name : ℕ → Name) (all : List (Taken ℕ)) → AreNamed registers name all → AreNamed (registers ++ more) name all
are_named-more registers more name [] are = are
are_named-more registers more name (function k a ∷ all) are = (named-more registers more a (name a) are.0, are_named-more registers more name all are.1)
are_named-more registers more name (pairs ps ∷ all) are =
    (All-weaker (λ pair. IsNamedAs registers pair.1 (name pair.1)) (λ pair. IsNamedAs (registers ++ more) pair.1 (name pair.1)) (λ pair is. named-more registers more pair.1 (name pair.1) is) ps are.0, are_named-more registers more name all are.1)
are_named-more registers more name (variable v ∷ all) are = are_named-more registers more name all are
are_named-more registers more name (element e ∷ all) are = are_named-more registers more name all are
are_named-more registers more name (value z ∷ all) are = are_named-more registers more name all are
are_named-more registers more name (number z ∷ all) are = are_named-more registers more name all are
are_named-more registers more name (literals ∷ all) are = are_named-more registers more name all are
are_named-more registers more name (bit b ∷ all) are = are_named-more registers more name all are
are_named-more registers more name (variables vs ∷ all) are = are_named-more registers more name all are

calls-more : (registers more : List NamedRegister) (act : Act) (call : Call) → IsCallOf registers act call → IsCallOf (registers ++ more) act call
calls-more registers more (Makes making) call is = (is.0, are_named-more registers more is.0 (taken making) is.1, is.2)
calls-more registers more (Copy a) call is = (is.0, named-more registers more a is.0 is.1, is.2)
calls-more registers more (Fetch cell a) call is = (is.0, named-more registers more a is.0 is.1, is.2)
calls-more registers more (Post cell a) call is = (is.0, named-more registers more a is.0 is.1, is.2)
calls-more registers more Sweep call is = is
calls-more registers more (Swap Variables level) call is = is
calls-more registers more (Swap Elements level) call is = is
calls-more registers more (Sift Variables) call is = is
calls-more registers more (Sift Elements) call is = is
calls-more registers more (Drop a) call is = (is.0, named-more registers more a is.0 is.1, is.2)
calls-more registers more (Same a b) call is = (is.0, is.1, named-more registers more a is.0 is.2, named-more registers more b is.1 is.3, is.4)
calls-more registers more (Leq a b) call is = (is.0, is.1, named-more registers more a is.0 is.2, named-more registers more b is.1 is.3, is.4)
calls-more registers more (Eval a bits) call is = (is.0, named-more registers more a is.0 is.1, is.2)

in_order-more : (registers more : List NamedRegister) (lines : List HistoryLine) (commands : List Command) → SayInOrder registers lines commands → SayInOrder (registers ++ more) lines commands
in_order-more registers more [] commands says = says
in_order-more registers more (line ∷ lines) [] says = says
in_order-more registers more (line ∷ lines) (command ∷ commands) says =
    (says.0, calls-more registers more command.act line.entry.call says.1, in_order-more registers more lines commands says.2)

in_order-push : (registers : List NamedRegister) (lines : List HistoryLine) (commands : List Command) (line : HistoryLine) (command : Command) → SayInOrder registers lines commands
    → slice_get commands (length lines) ≡ Some command → line.words ≡ command.words → IsCallOf registers command.act line.entry.call
    → SayInOrder registers (lines ++ line ∷ []) commands
in_order-push registers [] [] line command says at words call = cc
in_order-push registers [] (first ∷ commands) line command says at words call =
    let same : first ≡ command = cc in
    (words ∙ ap (λ (c : Command). c.words) (sym same), subst (λ (c : Command). IsCallOf registers c.act line.entry.call) (sym same) call, tt)
in_order-push registers (x ∷ lines) [] line command says at words call = says
in_order-push registers (x ∷ lines) (first ∷ commands) line command says at words call =
    (says.0, says.1, in_order-push registers lines commands line command says.2 at words call)

-- the registers after one more line
registers-grow : (said : List HistoryLine) (line : HistoryLine) → registers_of (said ++ line ∷ []) ≡ registers_of said ++ cons_option (held_by line) []
registers-grow said line = filter_map-append held_by said (line ∷ [])

module _ (n : Counts) (s : Seen) (commands : List Command) (names : List Assigned) (said : List HistoryLine) (registers : registers_of said ≡ map (register_of commands) names) where
  -- the name of a register, by its number
  named : (k : Kind) (a : ℕ) → IsHeldAs k s names a → IsNamedAs (registers_of said) a (name_at names a)
  named k a held =
      let at = some_at names a held.0 in
      let name : name_at names a ≡ (at.0).name = ap name_in at.1 in
      subst (IsNamedAs (registers_of said) a) (sym name)
      ((register_of commands at.0).word, ap (λ rs. slice_get rs a) registers ∙ slice_get-map (register_of commands) names a ∙ ap (option_map (register_of commands)) at.1)

  are_named : (all : List (Taken ℕ)) → CanTakeAll (λ k a. IsHeldAs k s names a) n.vars n.vars n.elements all → AreNamed (registers_of said) (name_at names) all
  are_named [] can = tt
  are_named (function k a ∷ all) can = (named k a can.0, are_named all can.1)
  are_named (pairs ps ∷ all) can =
      (All-weaker (λ pair. IsHeldAs kinds.Bdd s names pair.1) (λ pair. IsNamedAs (registers_of said) pair.1 (name_at names pair.1)) (λ pair held. named kinds.Bdd pair.1 held) ps can.0.1, are_named all can.1)
  are_named (variable v ∷ all) can = are_named all can.1
  are_named (element e ∷ all) can = are_named all can.1
  are_named (value z ∷ all) can = are_named all can.1
  are_named (number z ∷ all) can = are_named all can.1
  are_named (literals ∷ all) can = are_named all can.1
  are_named (bit b ∷ all) can = are_named all can.1
  are_named (variables vs ∷ all) can = are_named all can.1

  calls_of : (told : Sifting) (act : Act) → CanCall n s names act → IsCallOf (registers_of said) act (call_of told names act)
  calls_of told (Makes making) can = (name_at names, are_named (taken making) can, refl)
  calls_of told (Copy a) can = (name_at names a, named can.0 a can.1, refl)
  calls_of told (Fetch cell a) can = (name_at names a, named can.0 a can.1, refl)
  calls_of told (Post cell a) can = (name_at names a, named can.0 a can.1, refl)
  calls_of told Sweep can = refl
  calls_of told (Swap Variables level) can = refl
  calls_of told (Swap Elements level) can = refl
  calls_of told (Sift Variables) can = (told, refl)
  calls_of told (Sift Elements) can = (told, refl)
  calls_of told (Drop a) can = (name_at names a, named can.0 a can.1, refl)
  calls_of told (Same a b) can = (name_at names a, name_at names b, named can.0 a can.1, named can.0 b can.2, refl)
  calls_of told (Leq a b) can = (name_at names a, name_at names b, named kinds.Bdd a can.0, named kinds.Bdd b can.1, refl)
  calls_of told (Eval a bits) can = (name_at names a, named can.0 a can.1, refl)

  -- the commands were said in order, with one more
  pub in_order-after : (told : Sifting) (line : HistoryLine) (command : Command) → SayInOrder (registers_of said) said commands → slice_get commands (length said) ≡ Some command
      → line.words ≡ command.words → line.entry.call ≡ call_of told names command.act → CanCall n s names command.act
      → SayInOrder (registers_of (said ++ line ∷ [])) (said ++ line ∷ []) commands
  in_order-after told line command says at words call can =
      subst (λ rs. SayInOrder rs (said ++ line ∷ []) commands) (sym (registers-grow said line))
      (in_order-more (registers_of said) (cons_option (held_by line) []) (said ++ line ∷ []) commands
      (in_order-push (registers_of said) said commands line command says at words
      (subst (λ (c : Call). IsCallOf (registers_of said) command.act c) (sym call) (calls_of told command.act can))))
