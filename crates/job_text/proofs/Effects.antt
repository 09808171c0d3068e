-- What the operands of a command are, and what it leaves of the registers.
use Rattle.edge_bits.specs.declared.edges.Kind.{Kind}
use Rattle.edge_bits.specs.declared.edges.Kind.TheVariants.{Bdd}
use Rattle.std.proofs.Common.{◌≡◌, ℕ, Bool, false, cond, List, [], ◌∷◌, ◌++◌, map, drop, refl, ap, sym, ◌∙◌, subst, codes}
use Rattle.std.specs.List.{list_any}
use Rattle.std.specs.Str.{bytes_eq}
use Rattle.job_commands.specs.declared.acts.Act.{Act}
use Rattle.job_commands.specs.declared.acts.Act.TheVariants as acts
use Rattle.job_commands.specs.declared.commands.Place.{Place}
use Rattle.job_text.specs.declared.job.Counts.{Counts}
use Rattle.job_text.specs.declared.job.Register.{Register}
use Rattle.job_text.specs.declared.operands.Operand.{Operand}
use Rattle.job_text.specs.declared.operands.Operand.TheVariants as operands
use Rattle.job_words.specs.Text.{Word, is_assignment}
use Rattle.function_laws.specs.declared.making.Making.{Making}
use Rattle.function_laws.specs.Makings.{kind_made as kind_of_making}
use Rattle.job_commands.specs.Commands.{act_of}
use Rattle.job_commands.specs.Commands.{no_operands}
use Rattle.job_text.specs.Places.{AllStandFor, IsFresh, Refers, StandsFor, is_called, kind_at, with_operands}
use Rattle.job_text.specs.Grammar.{Forms, Says, assigns, is_drop, kind_called, kind_given, register_made, registers_after, target_of, tells, without}
use Rattle.job_commands.specs.Commands.{Form, assigning, is_at_word, kind_made, telling, words_at}
use Rattle.job_text.proofs.Meanings.{any_none, no_assignment}
use Rattle.job_commands.specs.declared.operands.Operands.{Operands}
use Rattle.job_text.proofs.RegisterLists.{kind_is}
use Rattle.job_text.proofs.Rows.{EachRow, Takes, row_has, takes}

-- for each operand there is a word that stands for it
abbrev pub EachStands : Counts → List Register → List Operand → Type 0
EachStands n rs [] = Unit {0}
EachStands n rs (o ∷ os) = ((word : Word) × StandsFor n rs word o) × EachStands n rs os

each_stands : (n : Counts) (rs : List Register) (words : List Word) (os : List Operand) → AllStandFor n rs words os → EachStands n rs os
each_stands n rs words [] h = tt
each_stands n rs [] (o ∷ os) h = absurd h
each_stands n rs (word ∷ words) (o ∷ os) h = ((word, h.0), each_stands n rs words os h.1)

forms_stand : (n : Counts) (rs : List Register) (words : List Word) (own : Form) (os : List Operand) → Forms n rs words own os → EachStands n rs os
forms_stand n rs words own os (assigns r command rest e fresh is) = each_stands n rs (words_at own.places command rest) os is.stand
forms_stand n rs words own os (tells command rest e is) = each_stands n rs rest os is.stand

pub operands_stand : (n : Counts) (rs : List Register) (words : List Word) (act : Act) (says : Says n rs words act) → EachStands n rs says.operands
operands_stand n rs words act says = forms_stand n rs words says.own says.operands says.forms

abbrev after_tests : Bool → Bool → List Register → Word → Kind → Word → List Register
after_tests more less rs r kind x = cond more (rs ++ register_made r kind ∷ []) (cond less (map (without x) rs) rs)

-- an assignment adds a register
pub one_register_more : (rs : List Register) (words : List Word) (r command : Word) (rest : List Word) → words ≡ r ∷ codes "=" ∷ command ∷ rest → registers_after rs words ≡ rs ++ register_made r (kind_given rs command rest) ∷ []
one_register_more rs words r command rest e = ap (registers_after rs) e

-- of the kind that its word tells, unless it hands a diagram on
pub kind_by_word : (rs : List Register) (command : Word) (rest : List Word) → bytes_eq command (codes "copy") ≡ false → bytes_eq command (codes "fetch") ≡ false → kind_given rs command rest ≡ kind_made command
kind_by_word rs command rest e f =
    ap (λ b. cond b (kind_called rs (target_of rest)) (cond (bytes_eq command (codes "fetch")) (kind_called rs (target_of (drop 1 rest))) (kind_made command))) e
    ∙ ap (λ b. cond b (kind_called rs (target_of (drop 1 rest))) (kind_made command)) f

-- a copy is of the kind of its register
pub kind_of_copy : (n : Counts) (rs : List Register) (rest : List Word) (a : ℕ) → AllStandFor n rs rest (operands.Any a ∷ []) → kind_given rs (codes "copy") rest ≡ kind_at rs a
kind_of_copy n rs [] a h = absurd h
kind_of_copy n rs (x ∷ rest) a h = kind_is rs x a h.0.0 h.0.1

-- and so is what is fetched in its place
pub kind_of_fetch : (n : Counts) (rs : List Register) (rest : List Word) (k a : ℕ) → AllStandFor n rs rest (operands.Cell k ∷ operands.Any a ∷ []) → kind_given rs (codes "fetch") rest ≡ kind_at rs a
kind_of_fetch n rs [] k a h = absurd h
kind_of_fetch n rs (x ∷ []) k a h = absurd h.1
kind_of_fetch n rs (x ∷ y ∷ rest) k a h = kind_is rs y a h.1.0.0 h.1.0.1

not_assigning : (rs : List Register) (words : List Word) (drops : Bool) → is_assignment words ≡ false → is_drop words ≡ drops → registers_after rs words ≡ after_tests false drops rs [] Bdd (target_of (drop 1 words))
not_assigning rs words drops e f =
    ap (λ b. after_tests b (is_drop words) rs (target_of words) (kind_given rs (target_of (drop 2 words)) (drop 3 words)) (target_of (drop 1 words))) e ∙ ap (λ b. after_tests false b rs [] Bdd (target_of (drop 1 words))) f

no_drop : (command : Word) (rest : List Word) → bytes_eq command (codes "drop") ≡ false → is_drop (command ∷ rest) ≡ false
no_drop command [] h = refl
no_drop command (x ∷ []) h = h
no_drop command (x ∷ y ∷ rest) h = refl

-- a command that neither assigns nor drops leaves the registers
pub same_registers : (n : Counts) (rs : List Register) (words : List Word) (command : Word) (rest : List Word) (os : List Operand) → words ≡ command ∷ rest → AllStandFor n rs rest os → bytes_eq command (codes "drop") ≡ false → registers_after rs words ≡ rs
same_registers n rs words command rest os e stand other =
    ap (registers_after rs) e ∙ not_assigning rs (command ∷ rest) false (no_assignment n rs command rest os stand) (no_drop command rest other)

-- a drop takes the register of its word away
pub one_register_less : (n : Counts) (rs : List Register) (words rest : List Word) (a : ℕ) → words ≡ codes "drop" ∷ rest → AllStandFor n rs rest (operands.Any a ∷ []) → (x : Word) × (kind : Kind) × Refers rs x a kind × (registers_after rs words ≡ map (without x) rs)
one_register_less n rs words [] a e h = absurd h
one_register_less n rs words (x ∷ []) a e h = (x, h.0.0, h.0.1, ap (registers_after rs) e)
one_register_less n rs words (x ∷ y ∷ rest) a e h = absurd h.1

-- no register has the name that an assignment says
-- What the words of a command leave of the registers, by what it does
module _ (n : Counts) (rs : List Register) where
  -- the word of a command that assigns tells the kind of what it makes, or of which of the words behind it that is the kind
  abbrev TellsKind : Word → List Place → Act → Type 0
  TellsKind word places (acts.Makes making) = (rest : List Word) → kind_given rs word rest ≡ kind_of_making making
  TellsKind word places (acts.Copy a) = (word ≡ codes "copy") × (is_at_word places ≡ false)
  TellsKind word places (acts.Fetch k a) = (word ≡ codes "fetch") × (is_at_word places ≡ false)
  TellsKind word places _ = ⊥

  each_tells_kind : EachRow (λ own. (given : Operands) → TellsKind own.word own.places (act_of own.opcode given)) assigning
  each_tells_kind = (
    (λ g rest. refl),
    (
      (λ g rest. refl),
      (
        (λ g rest. refl),
        (
          (λ g rest. refl),
          (
            (λ g rest. refl),
            (
              (λ g rest. refl),
              (
                (λ g rest. refl),
                (
                  (λ g rest. refl),
                  (
                    (λ g rest. refl),
                    (
                      (λ g rest. refl),
                      (
                        (λ g rest. refl),
                        (
                          (λ g rest. refl),
                          (
                            (λ g rest. refl),
                            (
                              (λ g rest. refl),
                              (
                                (λ g rest. refl),
                                (
                                  (λ g rest. refl),
                                  (
                                    (λ g rest. refl),
                                    (
                                      (λ g rest. refl),
                                      (
                                        (λ g rest. refl),
                                        (
                                          (λ g rest. refl),
                                          (
                                            (λ g rest. refl),
                                            (
                                              (λ g rest. refl),
                                              (
                                                (λ g rest. refl),
                                                (
                                                  (λ g rest. refl),
                                                  (
                                                    (λ g rest. refl),
                                                    (
                                                      (λ g rest. refl),
                                                      (
                                                        (λ g rest. refl),
                                                        (
                                                          (λ g rest. refl),
                                                          (
                                                            (λ g rest. refl),
                                                            (
                                                              (λ g rest. refl),
                                                              (
                                                                (λ g rest. refl),
                                                                (
                                                                  (λ g rest. refl),
                                                                  (
                                                                    (λ g rest. refl),
                                                                    (
                                                                      (λ g rest. refl),
                                                                      (
                                                                        (λ g rest. refl),
                                                                        ((λ g rest. refl), ((λ g rest. refl), ((λ g rest. refl), ((λ g rest. refl), ((λ g rest. refl), ((λ g rest. refl), ((λ g. (refl, refl)), ((λ g. (refl, refl)), tt)))))))),
                                                                      ),
                                                                    ),
                                                                  ),
                                                                ),
                                                              ),
                                                            ),
                                                          ),
                                                        ),
                                                      ),
                                                    ),
                                                  ),
                                                ),
                                              ),
                                            ),
                                          ),
                                        ),
                                      ),
                                    ),
                                  ),
                                ),
                              ),
                            ),
                          ),
                        ),
                      ),
                    ),
                  ),
                ),
              ),
            ),
          ),
        ),
      ),
    ),
  )

  -- and that of another command, whether it drops a register
  abbrev TellsDrop : Word → Act → Type 0
  TellsDrop word (acts.Makes making) = ⊥
  TellsDrop word (acts.Copy a) = ⊥
  TellsDrop word (acts.Fetch k a) = ⊥
  TellsDrop word (acts.Drop a) = word ≡ codes "drop"
  TellsDrop word _ = bytes_eq word (codes "drop") ≡ false

  each_tells_drop : EachRow (λ own. (given : Operands) → TellsDrop own.word (act_of own.opcode given)) telling
  each_tells_drop = ((λ g. refl), ((λ g. refl), ((λ g. refl), ((λ g. refl), ((λ g. refl), ((λ g. refl), ((λ g. refl), ((λ g. refl), ((λ g. refl), ((λ g. refl), tt))))))))))

  -- the first word, which no register has as its name
  abbrev pub IsTarget : List Word → Word → Type 0
  IsTarget words r = (target_of words ≡ r) × (list_any (is_called r) rs ≡ false)

  abbrev pub Leaves : List Word → Act → Type 0
  Leaves words (acts.Makes making) = (r : Word) × (registers_after rs words ≡ rs ++ register_made r (kind_of_making making) ∷ []) × IsTarget words r
  Leaves words (acts.Copy a) = (r : Word) × (registers_after rs words ≡ rs ++ register_made r (kind_at rs a) ∷ []) × IsTarget words r
  Leaves words (acts.Fetch k a) = (r : Word) × (registers_after rs words ≡ rs ++ register_made r (kind_at rs a) ∷ []) × IsTarget words r
  Leaves words (acts.Drop a) = (x : Word) × (kind : Kind) × Refers rs x a kind × (registers_after rs words ≡ map (without x) rs)
  Leaves words _ = registers_after rs words ≡ rs

  with_more : (words : List Word) (r command : Word) (rest : List Word) (k : Kind) → words ≡ r ∷ codes "=" ∷ command ∷ rest → kind_given rs command rest ≡ k → registers_after rs words ≡ rs ++ register_made r k ∷ []
  with_more words r command rest k e kind = one_register_more rs words r command rest e ∙ ap (λ j. rs ++ register_made r j ∷ []) kind

  is_target : (words : List Word) (r command : Word) (rest : List Word) → words ≡ r ∷ codes "=" ∷ command ∷ rest → IsFresh rs r → IsTarget words r
  is_target words r command rest e fresh = (ap target_of e, any_none rs r fresh.1)

  -- the words behind that of a command stand for its operands, where nothing is due at that
  behind_stand : (places : List Place) (command : Word) (rest : List Word) (os given : List Operand) → is_at_word places ≡ false → os ≡ given → AllStandFor n rs (words_at places command rest) os → AllStandFor n rs rest given
  behind_stand places command rest os given none is stand =
      subst (λ (words : List Word). AllStandFor n rs words given) (ap (λ b. cond b (command ∷ rest) rest) none) (subst (AllStandFor n rs (words_at places command rest)) is stand)

  assigned : (words : List Word) (act : Act) (places : List Place) (r command : Word) (rest : List Word) (os : List Operand) → words ≡ r ∷ codes "=" ∷ command ∷ rest → IsFresh rs r → TellsKind command places act → Takes n rs act os
      → AllStandFor n rs (words_at places command rest) os → Leaves words act
  assigned words (acts.Makes making) places r command rest os e fresh kind takes stand = (r, with_more words r command rest (kind_of_making making) e (kind rest), is_target words r command rest e fresh)
  assigned words (acts.Copy a) places r command rest os e fresh kind takes stand =
      let behind = behind_stand places command rest os (operands.Any a ∷ []) kind.1 takes stand in
      (r, with_more words r command rest (kind_at rs a) e (ap (λ c. kind_given rs c rest) kind.0 ∙ kind_of_copy n rs rest a behind), is_target words r command rest e fresh)
  assigned words (acts.Fetch k a) places r command rest os e fresh kind takes stand =
      let behind = behind_stand places command rest os (operands.Cell k ∷ operands.Any a ∷ []) kind.1 takes stand in
      (r, with_more words r command rest (kind_at rs a) e (ap (λ c. kind_given rs c rest) kind.0 ∙ kind_of_fetch n rs rest k a behind), is_target words r command rest e fresh)
  assigned words act places r command rest os e fresh kind takes stand = absurd kind

  told : (words : List Word) (act : Act) (command : Word) (rest : List Word) (os : List Operand) → words ≡ command ∷ rest → TellsDrop command act → Takes n rs act os → AllStandFor n rs rest os → Leaves words act
  told words (acts.Makes making) command rest os e drops takes stand = absurd drops
  told words (acts.Copy a) command rest os e drops takes stand = absurd drops
  told words (acts.Fetch k a) command rest os e drops takes stand = absurd drops
  told words (acts.Drop a) command rest os e drops takes stand = one_register_less n rs words rest a (e ∙ ap (λ c. c ∷ rest) drops) (subst (AllStandFor n rs rest) takes stand)
  told words act command rest os e drops takes stand = same_registers n rs words command rest os e stand drops

  pub leaves : (words : List Word) (act : Act) → Says n rs words act → Leaves words act
  leaves words act says = by says.forms
    where
      by : Forms n rs words says.own says.operands → Leaves words act
      by (assigns r command rest e fresh is) =
          let row = row_has (λ own. (given : Operands) → TellsKind own.word own.places (act_of own.opcode given)) assigning command says.own is.found each_tells_kind in
          let kind = subst (λ (t : Act). TellsKind command says.own.places t) (sym says.means)
          (subst (λ (w : Word). TellsKind w says.own.places (act_of says.own.opcode (with_operands rs no_operands says.operands))) row.1 (row.0 (with_operands rs no_operands says.operands))) in
          assigned words act says.own.places r command rest says.operands e fresh kind (takes n rs words act says) is.stand
      by (tells command rest e is) =
          let row = row_has (λ own. (given : Operands) → TellsDrop own.word (act_of own.opcode given)) telling command says.own is.found each_tells_drop in
          let drops = subst (λ (t : Act). TellsDrop command t) (sym says.means)
          (subst (λ (w : Word). TellsDrop w (act_of says.own.opcode (with_operands rs no_operands says.operands))) row.1 (row.0 (with_operands rs no_operands says.operands))) in
          told words act command rest says.operands e drops (takes n rs words act says) is.stand

  -- a command that neither assigns nor drops leaves them as they are
  pub stays : (words : List Word) (act : Act) → ((making : Making ℕ (List ℕ) (List (ℕ × ℕ))) → act ≡ acts.Makes making → ⊥) → ((a : ℕ) → act ≡ acts.Copy a → ⊥) → ((k a : ℕ) → act ≡ acts.Fetch k a → ⊥) → ((a : ℕ) → act ≡ acts.Drop a → ⊥)
      → Leaves words act → registers_after rs words ≡ rs
  stays words (acts.Makes making) made copied fetched dropped leave = absurd (made making refl)
  stays words (acts.Copy a) made copied fetched dropped leave = absurd (copied a refl)
  stays words (acts.Fetch k a) made copied fetched dropped leave = absurd (fetched k a refl)
  stays words (acts.Drop a) made copied fetched dropped leave = absurd (dropped a refl)
  stays words _ made copied fetched dropped leave = leave
