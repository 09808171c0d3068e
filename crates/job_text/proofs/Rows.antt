-- What each command of the tables takes: its operands, by what it does.
use Rattle.std.proofs.Common.{◌≡◌, ℕ, ◌==◌, Bool, true, false, cond, subst, List, [], ◌∷◌, ◌++◌, length, map, Some, None, refl, ap, sym, ◌∙◌, arith, append_assoc}
use Rattle.std.specs.Prelude.{ℤ}
use Rattle.std.specs.List.{flat_map, zip}
use Rattle.std.specs.Str.{bytes_eq}
use Rattle.std.proofs.lemmas.Bool.Decides.{nat_tests}
use Rattle.std.proofs.lemmas.List.{append-nil}
use Rattle.std.proofs.lemmas.Slice.Eq.{bytes_eq-Decides}
use Rattle.edge_bits.specs.declared.edges.Kind.TheVariants.{Bdd}
use Rattle.function_laws.specs.Makings.{are_distinct}
use Rattle.job_commands.specs.declared.acts.Act.{Act}
use Rattle.job_commands.specs.declared.acts.Act.TheVariants as acts
use Rattle.function_laws.specs.declared.making.BddMaking.TheVariants as bdds
use Rattle.function_laws.specs.declared.making.Making.TheVariants as makings
use Rattle.job_text.specs.declared.job.Counts.{Counts}
use Rattle.job_text.specs.declared.job.Register.{Register}
use Rattle.job_commands.specs.declared.commands.Opcode.{Opcode}
use Rattle.job_commands.specs.declared.commands.Opcode.TheVariants as does
use Rattle.job_commands.specs.declared.commands.Place.{Place}
use Rattle.job_commands.specs.declared.commands.Place.TheVariants.{Fresh, Held, Any, Alike, Variable, NewVariable, Element, Level, Cell, Value, Bit, Bits, Literals}
use Rattle.job_text.specs.declared.faults.FaultKind.TheVariants as kinds
use Rattle.job_text.specs.declared.operands.Operand.{Operand}
use Rattle.job_text.specs.declared.operands.Operand.TheVariants as operands
use Rattle.job_commands.specs.declared.operands.Operands.{Operands}
use Rattle.job_words.specs.Text.{Word}
use Rattle.job_commands.specs.Commands.{Form, form_in, assigning, telling, bdd as bdd_place}
use Rattle.function_laws.specs.Makings.{Taken, bit, element, function, literals, number, pairs, taken, value, variable, variables}
use Rattle.job_commands.specs.Commands.{act_of}
use Rattle.job_commands.specs.Commands.{no_operands}
use Rattle.job_text.specs.Places.{AllFit, Follows, bits_for, kind_at, place_of, with_operand, with_operands}
use Rattle.job_text.specs.Grammar.{Forms, Says, assigns, tells}
use Rattle.job_text.proofs.Naming.{pair_operands, pairs_distinct}
use Rattle.job_text.proofs.RegisterLists.{alike_are}

-- a property of each command of a table
abbrev pub EachRow : (Form → Type 0) → List Form → Type 0
EachRow P [] = Unit {0}
EachRow P (own ∷ forms) = P own × EachRow P forms

-- holds of the one that is found
pub row_has : (P : Form → Type 0) (forms : List Form) (command : Word) (own : Form) → form_in forms command ≡ Some own → EachRow P forms → P own × (own.word ≡ command)
row_has P [] command own e each = cc
row_has P (first ∷ forms) command own e each =
    by_cases (bytes_eq first.word command) refl (λ f. row_has P forms command own (sym (ap (λ b. cond b (Some first) (form_in forms command)) f) ∙ e) each.1)
  where
    by_cases : (b : Bool) → bytes_eq first.word command ≡ b → (bytes_eq first.word command ≡ false → P own × (own.word ≡ command)) → P own × (own.word ≡ command)
    by_cases true f later =
        let k : Some first ≡ Some own = sym (ap (λ b. cond b (Some first) (form_in forms command)) f) ∙ e in
        let same : first ≡ own = cc in
        (subst P same each.0, ap (λ (t : Form). t.word) (sym same) ∙ (bytes_eq-Decides first.word command).0 f)
    by_cases false f later = later f

-- what the operand of a place carries
abbrev Carried : Place → Type 0
Carried Fresh = Unit {0}
Carried (Held kind) = ℕ
Carried Any = ℕ
Carried Alike = ℕ
Carried Variable = ℕ
Carried NewVariable = ℕ
Carried Element = ℕ
Carried (Level order) = ℕ
Carried Cell = ℕ
Carried Value = ℤ
Carried Bit = Bool
Carried Bits = List Bool
Carried Literals = Unit {0}

abbrev operand_with : (place : Place) → Carried place → Operand
operand_with Fresh x = operands.Target
operand_with (Held kind) a = operands.Register kind a
operand_with Any a = operands.Any a
operand_with Alike a = operands.Alike a
operand_with Variable v = operands.Variable v
operand_with NewVariable v = operands.NewVariable v
operand_with Element e = operands.Element e
operand_with (Level order) l = operands.Level order l
operand_with Cell k = operands.Cell k
operand_with Value w = operands.Value w
operand_with Bit b = operands.Bit b
operand_with Bits bits = operands.Bits bits
operand_with Literals x = operands.Literals

abbrev IsAt : Operand → Place → Type 0
IsAt o place = (x : Carried place) × (o ≡ operand_with place x)

at_own : (o : Operand) → IsAt o (place_of o)
at_own operands.Target = (tt, refl)
at_own (operands.Register kind a) = (a, refl)
at_own (operands.Any a) = (a, refl)
at_own (operands.Alike a) = (a, refl)
at_own (operands.Variable v) = (v, refl)
at_own (operands.NewVariable v) = (v, refl)
at_own (operands.Element e) = (e, refl)
at_own (operands.Level order l) = (l, refl)
at_own (operands.Cell k) = (k, refl)
at_own (operands.Value w) = (w, refl)
at_own (operands.Bit b) = (b, refl)
at_own (operands.Bits bits) = (bits, refl)
at_own operands.Literals = (tt, refl)

at_due : (o : Operand) (place : Place) → place_of o ≡ place → IsAt o place
at_due o place e = subst (IsAt o) e (at_own o)

-- the operand of the first place, and then what follows
first_due : (place : Place) (due repeated : List Place) (os : List Operand) → Follows (place ∷ due) repeated os → (x : Carried place) × (rest : List Operand) × (os ≡ operand_with place x ∷ rest) × Follows due repeated rest
first_due place due repeated [] h = absurd h
first_due place due repeated (o ∷ os) h = let x = at_due o place h.0 in (x.0, os, ap (λ t. t ∷ os) x.1, h.1)

-- what the operands of some places carry
abbrev Given : List Place → Type 0
Given [] = Unit {0}
Given (place ∷ due) = Carried place × Given due

abbrev operands_with : (due : List Place) → Given due → List Operand
operands_with [] given = []
operands_with (place ∷ due) given = operand_with place given.0 ∷ operands_with due given.1

all_given : (due : List Place) (os : List Operand) → Follows due [] os → (given : Given due) × (os ≡ operands_with due given)
all_given [] [] h = (tt, refl)
all_given [] (o ∷ os) h = absurd h
all_given (place ∷ due) [] h = absurd h
all_given (place ∷ due) (o ∷ os) h =
    let x = at_due o place h.0 in
    let more = all_given due os h.1 in
    ((x.0, more.0), ap (λ t. t ∷ os) x.1 ∙ ap (λ t. operand_with place x.0 ∷ t) more.1)

-- the operands of what is taken
abbrev pub operands_for : Taken ℕ → List Operand
operands_for (function k a) = operands.Register k a ∷ []
operands_for (variable v) = operands.Variable v ∷ []
operands_for (element e) = operands.Element e ∷ []
operands_for (value w) = operands.Value w ∷ []
operands_for (number w) = operands.Value w ∷ []
operands_for (bit b) = operands.Bit b ∷ []
operands_for (variables vs) = map operands.Variable vs
operands_for (pairs ps) = flat_map pair_operands ps
operands_for literals = operands.Literals ∷ []

-- as a command takes it: no variable is put twice
abbrev pub AreOfCommand : List (Taken ℕ) → Type 0
AreOfCommand [] = Unit {0}
AreOfCommand (pairs ps ∷ more) = (are_distinct (map (λ pair. pair.0) ps) ≡ true) × AreOfCommand more
AreOfCommand (_ ∷ more) = AreOfCommand more

module _ (n : Counts) (rs : List Register) where
  -- the operands of what a command does
  abbrev pub Takes : Act → List Operand → Type 0
  Takes (acts.Makes making) os = (os ≡ flat_map operands_for (taken making)) × AreOfCommand (taken making)
  Takes (acts.Copy a) os = os ≡ operands.Any a ∷ []
  Takes (acts.Fetch k a) os = os ≡ operands.Cell k ∷ operands.Any a ∷ []
  Takes (acts.Post k a) os = os ≡ operands.Cell k ∷ operands.Any a ∷ []
  Takes (acts.Drop a) os = os ≡ operands.Any a ∷ []
  Takes (acts.Same a b) os = (os ≡ operands.Any a ∷ operands.Alike b ∷ []) × (kind_at rs a ≡ kind_at rs b)
  Takes (acts.Leq a b) os = os ≡ operands.Register Bdd a ∷ operands.Register Bdd b ∷ []
  Takes (acts.Eval a bits) os = (os ≡ operands.Any a ∷ operands.Bits bits ∷ []) × (length bits ≡ bits_for n (kind_at rs a))
  Takes acts.Sweep os = os ≡ []
  Takes (acts.Swap order level) os = os ≡ operands.Level order level ∷ []
  Takes (acts.Sift order) os = os ≡ []

  -- The operands that follow the places of a command are those of what it does.
  record IsRow (own : Form) : Type 0 where
    takes : (os : List Operand) → Follows own.places own.repeated os → AllFit n rs no_operands os → Takes (act_of own.opcode (with_operands rs no_operands os)) os

  -- where that is so of the operands as the places have them
  along : (opcode : Opcode) (os given : List Operand) → os ≡ given → Takes (act_of opcode (with_operands rs no_operands given)) given → Takes (act_of opcode (with_operands rs no_operands os)) os
  along opcode os given e h = subst (λ (t : List Operand). Takes (act_of opcode (with_operands rs no_operands t)) t) (sym e) h

  plain : (word : Word) (opcode : Opcode) (due : List Place)
      → ((given : Given due) → Takes (act_of opcode (with_operands rs no_operands (operands_with due given))) (operands_with due given))
      → IsRow (record { word = word; opcode = opcode; places = due; repeated = [] })
  plain word opcode due h = record { takes = λ os follows fit. let g = all_given due os follows in along opcode os (operands_with due g.0) g.1 (h g.0) }

  -- variables that repeat
  only_variables : (os : List Operand) → Follows [] (Variable ∷ []) os → (vs : List ℕ) × (os ≡ map operands.Variable vs)
  only_variables [] h = ([], refl)
  only_variables (o ∷ os) h =
      let v = at_due o Variable h.0 in
      let more = only_variables os h.1 in
      (v.0 ∷ more.0, ap (λ t. t ∷ os) v.1 ∙ ap (λ t. operands.Variable v.0 ∷ t) more.1)

  with_variables : (given : Operands) (vs : List ℕ) → with_operands rs given (map operands.Variable vs) ≡ record given { variables = given.variables ++ vs }
  with_variables given [] = ap (λ us. record given { variables = us }) (sym (append-nil given.variables))
  with_variables given (v ∷ vs) =
      with_variables (record given { variables = given.variables ++ v ∷ [] }) vs ∙ ap (λ us. record given { variables = us }) (append_assoc given.variables (v ∷ []) vs)

  -- a register and variables
  one_and_variables : (opcode : Opcode) (a : ℕ) (vs : List ℕ)
      → Takes (act_of opcode (record (with_operand rs no_operands (operands.Register Bdd a)) { variables = vs })) (operands.Register Bdd a ∷ map operands.Variable vs)
      → Takes (act_of opcode (with_operands rs no_operands (operands.Register Bdd a ∷ map operands.Variable vs))) (operands.Register Bdd a ∷ map operands.Variable vs)
  one_and_variables opcode a vs h =
      let given = operands.Register Bdd a ∷ map operands.Variable vs in
      subst (λ (t : Operands). Takes (act_of opcode t) given) (sym (with_variables (with_operand rs no_operands (operands.Register Bdd a)) vs)) h

  quantified : (word : Word) (opcode : Opcode)
      → ((a : ℕ) (vs : List ℕ) → Takes (act_of opcode (record (with_operand rs no_operands (operands.Register Bdd a)) { variables = vs })) (operands.Register Bdd a ∷ map operands.Variable vs))
      → IsRow (record { word = word; opcode = opcode; places = bdd_place ∷ []; repeated = Variable ∷ [] })
  quantified word opcode h = record {
    takes = λ os follows fit.
        let x = first_due bdd_place [] (Variable ∷ []) os follows in
        let vs = only_variables x.1 x.3 in
        let given = operands.Register Bdd x.0 ∷ map operands.Variable vs.0 in
        along opcode os given (x.2 ∙ ap (λ t. operands.Register Bdd x.0 ∷ t) vs.1) (one_and_variables opcode x.0 vs.0 (h x.0 vs.0));
  }

  -- two registers and variables
  conjoined : (word : Word) (opcode : Opcode)
      → ((a b : ℕ) (vs : List ℕ) → Takes (act_of opcode (record (with_operands rs no_operands (operands.Register Bdd a ∷ operands.Register Bdd b ∷ [])) { variables = vs })) (operands.Register Bdd a ∷ operands.Register Bdd b ∷ map operands.Variable vs))
      → IsRow (record { word = word; opcode = opcode; places = bdd_place ∷ bdd_place ∷ []; repeated = Variable ∷ [] })
  conjoined word opcode h = record {
    takes = λ os follows fit.
        let x = first_due bdd_place (bdd_place ∷ []) (Variable ∷ []) os follows in
        let y = first_due bdd_place [] (Variable ∷ []) x.1 x.3 in
        let vs = only_variables y.1 y.3 in
        let two = operands.Register Bdd x.0 ∷ operands.Register Bdd y.0 ∷ [] in
        let given = operands.Register Bdd x.0 ∷ operands.Register Bdd y.0 ∷ map operands.Variable vs.0 in
        along opcode os given (x.2 ∙ ap (λ t. operands.Register Bdd x.0 ∷ t) (y.2 ∙ ap (λ t. operands.Register Bdd y.0 ∷ t) vs.1))
        (subst (λ (t : Operands). Takes (act_of opcode t) given) (sym (with_variables (with_operands rs no_operands two) vs.0)) (h x.0 y.0 vs.0));
  }

  -- pairs that repeat
  only_pairs : (os : List Operand) → Follows [] (NewVariable ∷ bdd_place ∷ []) os → (ps : List (ℕ × ℕ)) × (os ≡ flat_map pair_operands ps)
  only_pairs [] h = ([], refl)
  only_pairs (o ∷ []) h = absurd h.1
  only_pairs (o ∷ p ∷ os) h =
      let v = at_due o NewVariable h.0 in
      let b = at_due p bdd_place h.1.0 in
      let more = only_pairs os h.1.1 in
      ((v.0, b.0) ∷ more.0, ap (λ t. t ∷ p ∷ os) v.1 ∙ ap (λ t. operands.NewVariable v.0 ∷ t ∷ os) b.1 ∙ ap (λ t. operands.NewVariable v.0 ∷ operands.Register Bdd b.0 ∷ t) more.1)

  -- the registers and the variables of pairs
  with_pairs : (given : Operands) (ps : List (ℕ × ℕ)) → ((with_operands rs given (flat_map pair_operands ps)).registers ≡ given.registers ++ map (λ (pair : ℕ × ℕ). pair.1) ps)
      × ((with_operands rs given (flat_map pair_operands ps)).variables ≡ given.variables ++ map (λ (pair : ℕ × ℕ). pair.0) ps)
  with_pairs given [] = (sym (append-nil given.registers), sym (append-nil given.variables))
  with_pairs given (pair ∷ ps) =
      let firsts = map (λ (pair : ℕ × ℕ). pair.0) ps in
      let seconds = map (λ (pair : ℕ × ℕ). pair.1) ps in
      let more = with_pairs (with_operands rs given (pair_operands pair)) ps in
      (more.0 ∙ append_assoc given.registers (pair.1 ∷ []) seconds, more.1 ∙ append_assoc given.variables (pair.0 ∷ []) firsts)

  zipped : (ps : List (ℕ × ℕ)) → zip (map (λ (pair : ℕ × ℕ). pair.0) ps) (map (λ (pair : ℕ × ℕ). pair.1) ps) ≡ ps
  zipped [] = refl
  zipped (pair ∷ ps) = ap (λ t. pair ∷ t) (zipped ps)

  made_of_pairs : (a : ℕ) (ps : List (ℕ × ℕ)) (given : Operands) → given.registers ≡ a ∷ map (λ (pair : ℕ × ℕ). pair.1) ps → given.variables ≡ map (λ (pair : ℕ × ℕ). pair.0) ps
      → act_of (does.Makes (makings.Bdd (bdds.VectorCompose tt tt))) given ≡ acts.Makes (makings.Bdd (bdds.VectorCompose a ps))
  made_of_pairs a ps given r v =
      ap (λ (t : List ℕ). act_of (does.Makes (makings.Bdd (bdds.VectorCompose tt tt))) (record given { registers = t })) r
      ∙ ap (λ (t : List ℕ). act_of (does.Makes (makings.Bdd (bdds.VectorCompose tt tt))) (record given { registers = a ∷ map (λ (pair : ℕ × ℕ). pair.1) ps; variables = t })) v
      ∙ ap (λ t. acts.Makes (makings.Bdd (bdds.VectorCompose a t))) (zipped ps)

  composed : (word : Word) → IsRow (record { word = word; opcode = does.Makes (makings.Bdd (bdds.VectorCompose tt tt)); places = bdd_place ∷ NewVariable ∷ bdd_place ∷ []; repeated = NewVariable ∷ bdd_place ∷ [] })
  composed word = record {
    takes = λ os follows fit.
        let x = first_due bdd_place (NewVariable ∷ bdd_place ∷ []) (NewVariable ∷ bdd_place ∷ []) os follows in
        let y = first_due NewVariable (bdd_place ∷ []) (NewVariable ∷ bdd_place ∷ []) x.1 x.3 in
        let z = first_due bdd_place [] (NewVariable ∷ bdd_place ∷ []) y.1 y.3 in
        let more = only_pairs z.1 z.3 in
        let ps = (y.0, z.0) ∷ more.0 in
        let first = operands.Register Bdd x.0 in
        let given = first ∷ flat_map pair_operands ps in
        let is : os ≡ given = x.2 ∙ ap (λ t. first ∷ t) (y.2 ∙ ap (λ t. operands.NewVariable y.0 ∷ t) (z.2 ∙ ap (λ t. operands.Register Bdd z.0 ∷ t) more.1)) in
        let all : AllFit n rs no_operands given = subst (AllFit n rs no_operands) is fit in
        let made = with_pairs (with_operand rs no_operands first) ps in
        let means = made_of_pairs x.0 ps (with_operands rs no_operands given) made.0 made.1 in
        along (does.Makes (makings.Bdd (bdds.VectorCompose tt tt))) os given is (subst (λ (t : Act). Takes t given) (sym means) (ap (λ t. first ∷ t) (sym (append-nil (flat_map pair_operands ps))), (pairs_distinct n rs (with_operand rs no_operands first) ps refl all.1, tt)));
  }

  -- `same` and `eval`, whose operands must fit
  as_many : (a b : ℕ) → cond (a == b) None (Some kinds.Range) ≡ None → a ≡ b
  as_many a b h = by_cases (a == b) refl
    where
      is_number : (a == b) ≡ true → a ≡ b
      is_number e = grind (arith, nat_tests)

      by_cases : (t : Bool) → (a == b) ≡ t → a ≡ b
      by_cases true e = is_number e
      by_cases false e =
          let k : Some kinds.Range ≡ None = sym (ap (λ t. cond t None (Some kinds.Range)) e) ∙ h in
          cc

  compared : (word : Word) → IsRow (record { word = word; opcode = does.Same; places = Any ∷ Alike ∷ []; repeated = [] })
  compared word = record {
    takes = λ os follows fit.
        let g = all_given (Any ∷ Alike ∷ []) os follows in
        let given = operands_with (Any ∷ Alike ∷ []) g.0 in
        let all : AllFit n rs no_operands given = subst (AllFit n rs no_operands) g.1 fit in
        along does.Same os given g.1 (refl, alike_are (kind_at rs g.0.0) (kind_at rs g.0.1.0) all.1.0);
  }

  evaluated : (word : Word) → IsRow (record { word = word; opcode = does.Eval; places = Any ∷ Bits ∷ []; repeated = [] })
  evaluated word = record {
    takes = λ os follows fit.
        let g = all_given (Any ∷ Bits ∷ []) os follows in
        let given = operands_with (Any ∷ Bits ∷ []) g.0 in
        let all : AllFit n rs no_operands given = subst (AllFit n rs no_operands) g.1 fit in
        along does.Eval os given g.1 (refl, as_many (length g.0.1.0) (bits_for n (kind_at rs g.0.0)) all.1.0);
  }

  -- a command that makes a function, from operands that its places give alone
  makes : {word : Word} {opcode : Opcode} {due : List Place}
      → ((given : Given due) → Takes (act_of opcode (with_operands rs no_operands (operands_with due given))) (operands_with due given))
      → IsRow (record { word = word; opcode = opcode; places = due; repeated = [] })
  makes {word} {opcode} {due} h = plain word opcode due h

  -- each command that assigns, in the order of the table
  each_assigns : EachRow IsRow assigning
  each_assigns = (
    makes (λ g. (refl, tt)),
    (
      makes (λ g. (refl, tt)),
      (
        makes (λ g. (refl, tt)),
        (
          makes (λ g. (refl, tt)),
          (
            makes (λ g. (refl, tt)),
            (
              makes (λ g. (refl, tt)),
              (
                makes (λ g. (refl, tt)),
                (
                  makes (λ g. (refl, tt)),
                  (
                    makes (λ g. (refl, tt)),
                    (
                      quantified _ _ (λ a vs. (ap (λ t. operands.Register Bdd a ∷ t) (sym (append-nil (map operands.Variable vs))), tt)),
                      (
                        quantified _ _ (λ a vs. (ap (λ t. operands.Register Bdd a ∷ t) (sym (append-nil (map operands.Variable vs))), tt)),
                        (
                          conjoined _ _ (λ a b vs. (ap (λ t. operands.Register Bdd a ∷ operands.Register Bdd b ∷ t) (sym (append-nil (map operands.Variable vs))), tt)),
                          (
                            makes (λ g. (refl, tt)),
                            (
                              composed _,
                              (
                                makes (λ g. (refl, tt)),
                                (
                                  makes (λ g. (refl, tt)),
                                  (
                                    makes (λ g. (refl, tt)),
                                    (
                                      makes (λ g. (refl, tt)),
                                      (
                                        makes (λ g. (refl, tt)),
                                        (
                                          makes (λ g. (refl, tt)),
                                          (
                                            makes (λ g. (refl, tt)),
                                            (
                                              makes (λ g. (refl, tt)),
                                              (
                                                makes (λ g. (refl, tt)),
                                                (
                                                  makes (λ g. (refl, tt)),
                                                  (
                                                    makes (λ g. (refl, tt)),
                                                    (
                                                      makes (λ g. (refl, tt)),
                                                      (
                                                        makes (λ g. (refl, tt)),
                                                        (
                                                          makes (λ g. (refl, tt)),
                                                          (
                                                            makes (λ g. (refl, tt)),
                                                            (
                                                              makes (λ g. (refl, tt)),
                                                              (
                                                                makes (λ g. (refl, tt)),
                                                                (
                                                                  makes (λ g. (refl, tt)),
                                                                  (
                                                                    makes (λ g. (refl, tt)),
                                                                    (
                                                                      makes (λ g. (refl, tt)),
                                                                      (
                                                                        makes (λ g. (refl, tt)),
                                                                        (
                                                                          makes (λ g. (refl, tt)),
                                                                          (
                                                                            makes (λ g. (refl, tt)),
                                                                            (
                                                                              makes (λ g. (refl, tt)),
                                                                              (makes (λ g. (refl, tt)), (makes (λ g. (refl, tt)), (makes (λ g. (refl, tt)), (makes (λ g. refl), (makes (λ g. refl), tt))))),
                                                                            ),
                                                                          ),
                                                                        ),
                                                                      ),
                                                                    ),
                                                                  ),
                                                                ),
                                                              ),
                                                            ),
                                                          ),
                                                        ),
                                                      ),
                                                    ),
                                                  ),
                                                ),
                                              ),
                                            ),
                                          ),
                                        ),
                                      ),
                                    ),
                                  ),
                                ),
                              ),
                            ),
                          ),
                        ),
                      ),
                    ),
                  ),
                ),
              ),
            ),
          ),
        ),
      ),
    ),
  )

  -- and each that tells
  each_tells : EachRow IsRow telling
  each_tells = (makes (λ g. refl), (makes (λ g. refl), (compared _, (makes (λ g. refl), (evaluated _, (makes (λ g. refl), (makes (λ g. refl), (makes (λ g. refl), (makes (λ g. refl), (makes (λ g. refl), tt))))))))))

  -- the operands of the words of a command are those of what it does
  pub takes : (words : List Word) (act : Act) (says : Says n rs words act) → Takes act says.operands
  takes words act says = subst (λ (t : Act). Takes t says.operands) (sym says.means) (by says.forms)
    where
      by : Forms n rs words says.own says.operands → Takes (act_of says.own.opcode (with_operands rs no_operands says.operands)) says.operands
      by (assigns r command rest e fresh is) = (row_has IsRow assigning command says.own is.found each_assigns).0.takes says.operands is.follows is.fit
      by (tells command rest e is) = (row_has IsRow telling command says.own is.found each_tells).0.takes says.operands is.follows is.fit
