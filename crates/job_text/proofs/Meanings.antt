-- Words that say something have no fault.
use Rattle.std.proofs.Common.{◌≡◌, ◌≢◌, ℕ, suc, ◌+◌, ◌*◌, ◌<◌, ◌≤◌, ◌&&◌, ◌||◌, Bool, true, false, cond, List, [], ◌∷◌, ◌++◌, Some, None, option_map, option_and_then, refl, ap, sym, ◌∙◌, subst, arith, codes}
use Rattle.std.specs.Prelude.{◌-◌, nat_le, nat_lt}
use Rattle.std.specs.List.{list_any, list_all, All}
use Rattle.std.specs.Str.{bytes_eq}
use Rattle.std.specs.Str.Parse.{digits_value}
use Rattle.std.proofs.lemmas.Bool.{false≢true}
use Rattle.std.proofs.lemmas.Bool.Decides.{nat_tests}
use Rattle.std.proofs.lemmas.Slice.Eq.{bytes_eq-Decides}
use Rattle.edge_bits.specs.declared.limits.TheConstants.{CELLS}
use Rattle.edge_bits.specs.declared.edges.Kind.{Kind}
use Rattle.function_laws.specs.declared.orders.Order.{Order}
use Rattle.function_laws.specs.Numbers.{is_value}
use Rattle.job_commands.specs.declared.acts.Act.{Act}
use Rattle.job_text.specs.declared.job.Counts.{Counts}
use Rattle.job_commands.specs.declared.commands.Place.{Place}
use Rattle.job_commands.specs.declared.commands.Place.TheVariants as places
use Rattle.job_text.specs.declared.job.Register.{Register}
use Rattle.job_text.specs.declared.operands.Operand.{Operand}
use Rattle.job_text.specs.declared.operands.Operand.TheVariants as operands
use Rattle.job_commands.specs.declared.operands.Operands.{Operands}
use Rattle.job_text.specs.declared.faults.FaultKind.TheVariants as kinds
use Rattle.job_words.specs.Text.{Word, IsNumber, is_name, is_number, is_integer, bit_word, is_assignment, is_bit, is_bits}
use Rattle.job_commands.specs.Commands.{no_operands}
use Rattle.job_text.specs.Places.{AllFit, AllStandFor, Follows, IsFresh, Refers, StandsFor, is_called, kind_fault, kind_of, levels_of, misfit, place_of, with_operand}
use Rattle.job_text.specs.Grammar.{Forms, Says, assigns, register_called, tells}
use Rattle.job_text.specs.Faults.{slot_fault, beside_fault, word_fault, left_after, nothing_left, first_fault, fault_in, or_else, command_fault, is_session, name_fault}
use Rattle.job_commands.specs.Commands.{Form, form_in, assigning, telling, filled, command_in, has_form, command_of, words_at}
use Rattle.job_text.specs.Drafts.{AreOperands, IsOperand, left_by}
use Rattle.job_words.proofs.Bits.{form_of_bits}
use Rattle.job_commands.proofs.Forms.{telling_is}
use Rattle.job_text.proofs.Naming.{left_is, beside_is}
use Rattle.job_text.proofs.RegisterLists.{called_is, kind_itself}

-- the word has the form that is due, and no fault
abbrev pub Fits : Counts → List Register → Place × Word → Type 0
Fits n registers slot = (has_form slot ≡ true) × (slot_fault n registers slot ≡ None)

other_name : (r : Register) (w : Word) → r.name ≢ w → bytes_eq r.name w ≡ false
other_name r w h = by_cases (bytes_eq r.name w) refl
  where
    by_cases : (b : Bool) → bytes_eq r.name w ≡ b → bytes_eq r.name w ≡ false
    by_cases false e = e
    by_cases true e = absurd (h ((bytes_eq-Decides r.name w).0 e))

pub any_none : (rs : List Register) (w : Word) → All (λ register. register.name ≢ w) rs → list_any (is_called w) rs ≡ false
any_none [] w h = refl
any_none (r ∷ rs) w h = ap (λ b. b || list_any (is_called w) rs) (other_name r w (h 0 r (omega arith))) ∙ any_none rs w (λ k d lt. h (suc k) d (omega arith))

pub fresh_fits : (n : Counts) (rs : List Register) (w : Word) → IsFresh rs w → Fits n rs (places.Fresh, w)
fresh_fits n rs w h = (h.0, ap (λ b. cond b (Some kinds.Again) None) (any_none rs w h.1))

pub held_fits : (n : Counts) (rs : List Register) (w : Word) (a : ℕ) (kind : Kind) → Refers rs w a kind → Fits n rs (places.Held kind, w)
held_fits n rs w a kind h = (h.0, ap (λ o. or_else (name_fault o) (kind_fault kind (kind_of o))) (called_is rs w a kind h) ∙ kind_itself kind)

named_well : (rs : List Register) (w : Word) (a : ℕ) (kind : Kind) → Refers rs w a kind → name_fault (register_called rs w) ≡ None
named_well rs w a kind h = ap name_fault (called_is rs w a kind h)

below : (v d n : ℕ) → d ≡ v → v < n → nat_lt d n ≡ true
below v d n e h = grind (arith, nat_tests)

pub variable_fits : (n : Counts) (rs : List Register) (w : Word) (v : ℕ) → IsNumber w v → v < n.vars → Fits n rs (places.Variable, w)
variable_fits n rs w v h lt = (h.0, ap (λ b. cond b None (Some kinds.Range)) (below v (digits_value 10 w) n.vars h.1 lt))

pub element_fits : (n : Counts) (rs : List Register) (w : Word) (e : ℕ) → IsNumber w e → e < n.elements → Fits n rs (places.Element, w)
element_fits n rs w e h lt = (h.0, ap (λ b. cond b None (Some kinds.Range)) (below e (digits_value 10 w) n.elements h.1 lt))

below_next : (l d n : ℕ) → d ≡ l → l + 1 < n → nat_lt d (n - 1) ≡ true
below_next l d n e h = grind (arith, nat_tests)

pub level_fits : (n : Counts) (rs : List Register) (w : Word) (order : Order) (l : ℕ) → IsNumber w l → l + 1 < levels_of n order → Fits n rs (places.Level order, w)
level_fits n rs w order l h lt = (h.0, ap (λ b. cond b None (Some kinds.Range)) (below_next l (digits_value 10 w) (levels_of n order) h.1 lt))

pub cell_fits : (n : Counts) (rs : List Register) (w : Word) (k : ℕ) → IsNumber w k → k < CELLS → Fits n rs (places.Cell, w)
cell_fits n rs w k h lt = (h.0, ap (λ b. cond b None (Some kinds.Range)) (below k (digits_value 10 w) CELLS h.1 lt))

pub bit_fits : (n : Counts) (rs : List Register) (w : Word) (b : Bool) → w ≡ bit_word (b ∷ []) → Fits n rs (places.Bit, w)
bit_fits n rs w true e = (ap is_bit e, refl)
bit_fits n rs w false e = (ap is_bit e, refl)

enough : (m n : ℕ) → m ≤ n → nat_le m n ≡ true
enough m n h = grind (arith, nat_tests)

pub literals_fit : (n : Counts) (rs : List Register) (w : Word) → is_name w ≡ true → 2 * n.vars ≤ n.elements → Fits n rs (places.Literals, w)
literals_fit n rs w h le = (h, ap (λ b. cond b None (Some kinds.Range)) (enough (2 * n.vars) n.elements le))

-- A word that stands for the operand of its place has no fault there.
pub operand_fits : (n : Counts) (rs : List Register) (slot : Place × Word) (operand : Operand) → IsOperand n rs slot operand → Fits n rs slot
operand_fits n rs slot operands.Target h = subst (λ (p : Place). Fits n rs (p, slot.1)) h.0 (fresh_fits n rs slot.1 h.1)
operand_fits n rs slot (operands.Register kind a) h = subst (λ (p : Place). Fits n rs (p, slot.1)) h.0 (held_fits n rs slot.1 a kind h.1)
operand_fits n rs slot (operands.Any a) h = subst (λ (p : Place). Fits n rs (p, slot.1)) h.0 (h.1.1.0, named_well rs slot.1 a h.1.0 h.1.1)
operand_fits n rs slot (operands.Alike a) h = subst (λ (p : Place). Fits n rs (p, slot.1)) h.0 (h.1.1.0, named_well rs slot.1 a h.1.0 h.1.1)
operand_fits n rs slot (operands.Variable v) h = subst (λ (p : Place). Fits n rs (p, slot.1)) h.0 (variable_fits n rs slot.1 v h.1.0 h.1.1)
operand_fits n rs slot (operands.NewVariable v) h = subst (λ (p : Place). Fits n rs (p, slot.1)) h.0 (variable_fits n rs slot.1 v h.1.0 h.1.1)
operand_fits n rs slot (operands.Element e) h = subst (λ (p : Place). Fits n rs (p, slot.1)) h.0 (element_fits n rs slot.1 e h.1.0 h.1.1)
operand_fits n rs slot (operands.Level order l) h = subst (λ (p : Place). Fits n rs (p, slot.1)) h.0 (level_fits n rs slot.1 order l h.1.0 h.1.1)
operand_fits n rs slot (operands.Cell k) h = subst (λ (p : Place). Fits n rs (p, slot.1)) h.0 (cell_fits n rs slot.1 k h.1.0 h.1.1)
operand_fits n rs slot (operands.Value w) h = subst (λ (p : Place). Fits n rs (p, slot.1)) h.0 (h.1.0.0, ap (λ b. cond b None (Some kinds.Range)) (ap is_value h.1.0.1 ∙ h.1.1))
operand_fits n rs slot (operands.Bit b) h = subst (λ (p : Place). Fits n rs (p, slot.1)) h.0 (bit_fits n rs slot.1 b h.1)
operand_fits n rs slot (operands.Bits bs) h = subst (λ (p : Place). Fits n rs (p, slot.1)) h.0 (ap is_bits h.1 ∙ form_of_bits bs, refl)
operand_fits n rs slot operands.Literals h = subst (λ (p : Place). Fits n rs (p, slot.1)) h.0 (literals_fit n rs slot.1 h.1.0 h.1.1)

-- all that may be wrong with it there is that the operand doesn't fit those to its left
pub word_fault_is : (n : Counts) (rs : List Register) (others : Operands) (slot : Place × Word) (o : Operand) → IsOperand n rs slot o → word_fault n rs (left_by others) slot ≡ misfit n rs others o
word_fault_is n rs others slot o h = ap (λ t. or_else t (beside_fault n rs (left_by others) slot)) (operand_fits n rs slot o h).1 ∙ beside_is n rs others slot o h

pub no_word_fault : (n : Counts) (rs : List Register) (others : Operands) (slot : Place × Word) (o : Operand) → IsOperand n rs slot o → misfit n rs others o ≡ None → word_fault n rs (left_by others) slot ≡ None
no_word_fault n rs others slot o h new = word_fault_is n rs others slot o h ∙ new

all_forms : (n : Counts) (rs : List Register) (slots : List (Place × Word)) (os : List Operand) → AreOperands n rs slots os → list_all has_form slots ≡ true
all_forms n rs [] [] h = refl
all_forms n rs [] (o ∷ os) h = absurd h
all_forms n rs (slot ∷ slots) [] h = absurd h
all_forms n rs (slot ∷ slots) (o ∷ os) h = ap (λ b. b && list_all has_form slots) (operand_fits n rs slot o h.0).0 ∙ all_forms n rs slots os h.1

no_fault : (n : Counts) (rs : List Register) (others : Operands) (slots : List (Place × Word)) (os : List Operand) → AreOperands n rs slots os → AllFit n rs others os → first_fault n rs (left_by others) slots ≡ None
no_fault n rs others [] [] h new = refl
no_fault n rs others [] (o ∷ os) h new = absurd h
no_fault n rs others (slot ∷ slots) [] h new = absurd h
no_fault n rs others (slot ∷ slots) (o ∷ os) h new =
    ap (λ t. or_else t (first_fault n rs (left_after rs (left_by others) slot) slots)) (no_word_fault n rs others slot o h.0 new.0)
    ∙ ap (λ t. first_fault n rs t slots) (left_is n rs others slot o h.0) ∙ no_fault n rs (with_operand rs others o) slots os h.1 new.1

pub fits_all : (n : Counts) (rs : List Register) (slots : List (Place × Word)) (os : List Operand) → AreOperands n rs slots os → AllFit n rs no_operands os → fault_in n rs (Some slots) ≡ None
fits_all n rs slots os h new = ap (λ b. cond b (first_fault n rs nothing_left slots) (Some kinds.Word)) (all_forms n rs slots os h) ∙ no_fault n rs no_operands slots os h new

-- the words with the places of their operands
abbrev pub slots_for : List Operand → List Word → List (Place × Word)
slots_for [] words = []
slots_for (o ∷ os) [] = []
slots_for (o ∷ os) (word ∷ words) = (place_of o, word) ∷ slots_for os words

pub are_operands : (n : Counts) (rs : List Register) (words : List Word) (os : List Operand) → AllStandFor n rs words os → AreOperands n rs (slots_for os words) os
are_operands n rs [] [] h = tt
are_operands n rs [] (o ∷ os) h = absurd h
are_operands n rs (word ∷ words) [] h = absurd h
are_operands n rs (word ∷ words) (o ∷ os) h = ((refl, h.0), are_operands n rs words os h.1)

pub filled_by : (n : Counts) (rs : List Register) (due repeated : List Place) (words : List Word) (os : List Operand) → AllStandFor n rs words os → Follows due repeated os
    → filled due repeated words ≡ Some (slots_for os words)
filled_by n rs [] repeated [] [] h f = refl
filled_by n rs (p ∷ ps) repeated [] [] h f = absurd f
filled_by n rs due repeated [] (o ∷ os) h f = absurd h
filled_by n rs due repeated (w ∷ words) [] h f = absurd h
filled_by n rs [] [] (w ∷ words) (o ∷ os) h f = absurd f
filled_by n rs [] (p ∷ ps) (w ∷ words) (o ∷ os) h f =
    ap (λ slots. option_map (λ more. (p, w) ∷ more) slots) (filled_by n rs ps (p ∷ ps) words os h.1 f.1) ∙ ap (λ q. Some ((q, w) ∷ slots_for os words)) (sym f.0)
filled_by n rs (p ∷ ps) repeated (w ∷ words) (o ∷ os) h f =
    ap (λ slots. option_map (λ more. (p, w) ∷ more) slots) (filled_by n rs ps repeated words os h.1 f.1) ∙ ap (λ q. Some ((q, w) ∷ slots_for os words)) (sym f.0)

pub command_is : (forms : List Form) (before : List (Place × Word)) (command : Word) (due : Form → List Word) (own : Form) (slots : List (Place × Word)) → form_in forms command ≡ Some own
    → filled own.places own.repeated (due own) ≡ Some slots → command_in forms before command due ≡ Some (own.opcode, before ++ slots)
command_is forms before command due own slots e f =
    ap (λ o. option_and_then (λ known. option_map (λ slots. (known.opcode, before ++ slots)) (filled known.places known.repeated (due known))) o) e
    ∙ ap (λ o. option_map (λ slots. (own.opcode, before ++ slots)) o) f

-- `=` stands for nothing
equals_is_none : (is_name (codes "=") ≡ false) × (is_number (codes "=") ≡ false) × (is_integer (codes "=") ≡ false)
unfolding is_name is_number
equals_is_none = (refl, refl, refl)

bits_no_equals : (bs : List Bool) → bytes_eq (bit_word bs) (codes "=") ≡ false
bits_no_equals [] = refl
bits_no_equals (true ∷ bs) = refl
bits_no_equals (false ∷ bs) = refl

unlike_equals : (p : Word → Bool) (w : Word) → p (codes "=") ≡ false → p w ≡ true → bytes_eq w (codes "=") ≡ false
unlike_equals p w none h = by_cases (bytes_eq w (codes "=")) refl
  where
    by_cases : (b : Bool) → bytes_eq w (codes "=") ≡ b → bytes_eq w (codes "=") ≡ false
    by_cases false e = e
    by_cases true e = absurd (false≢true (sym none ∙ ap p (sym ((bytes_eq-Decides w (codes "=")).0 e)) ∙ h))

pub no_equals : (n : Counts) (rs : List Register) (w : Word) (o : Operand) → StandsFor n rs w o → bytes_eq w (codes "=") ≡ false
no_equals n rs w operands.Target h = unlike_equals is_name w equals_is_none.0 h.0
no_equals n rs w (operands.Register kind a) h = unlike_equals is_name w equals_is_none.0 h.0
no_equals n rs w (operands.Any a) h = unlike_equals is_name w equals_is_none.0 h.1.0
no_equals n rs w (operands.Alike a) h = unlike_equals is_name w equals_is_none.0 h.1.0
no_equals n rs w (operands.Variable v) h = unlike_equals is_number w equals_is_none.1 h.0.0
no_equals n rs w (operands.NewVariable v) h = unlike_equals is_number w equals_is_none.1 h.0.0
no_equals n rs w (operands.Element e) h = unlike_equals is_number w equals_is_none.1 h.0.0
no_equals n rs w (operands.Level order l) h = unlike_equals is_number w equals_is_none.1 h.0.0
no_equals n rs w (operands.Cell k) h = unlike_equals is_number w equals_is_none.1 h.0.0
no_equals n rs w (operands.Value v) h = unlike_equals is_integer w equals_is_none.2 h.0.0
no_equals n rs w (operands.Bit b) h = ap (λ t. bytes_eq t (codes "=")) h ∙ bits_no_equals (b ∷ [])
no_equals n rs w (operands.Bits bs) h = ap (λ t. bytes_eq t (codes "=")) h ∙ bits_no_equals bs
no_equals n rs w operands.Literals h = unlike_equals is_name w equals_is_none.0 h.0

pub no_assignment : (n : Counts) (rs : List Register) (command : Word) (words : List Word) (os : List Operand) → AllStandFor n rs words os → is_assignment (command ∷ words) ≡ false
no_assignment n rs command [] os h = refl
no_assignment n rs command (w ∷ []) os h = refl
no_assignment n rs command (w ∷ x ∷ words) [] h = absurd h
no_assignment n rs command (w ∷ x ∷ words) (o ∷ os) h = no_equals n rs w o h.0

-- what says something is no faulty command
formed_well : (n : Counts) (rs : List Register) (words : List Word) (own : Form) (os : List Operand) → Forms n rs words own os → command_fault n rs words ≡ None
unfolding command_fault
formed_well n rs words own os (assigns r command rest e fresh is) =
    let due = words_at own.places command rest in
    ap (λ ws. fault_in n rs (option_map (λ known. known.1) (command_of ws))) e
    ∙ ap (λ o. fault_in n rs (option_map (λ known. known.1) o))
    (command_is assigning ((places.Fresh, r) ∷ []) command (λ known. words_at known.places command rest) own (slots_for os due) is.found (filled_by n rs own.places own.repeated due os is.stand is.follows))
    ∙ fits_all n rs ((places.Fresh, r) ∷ slots_for os due) (operands.Target ∷ os) ((refl, fresh), are_operands n rs due os is.stand) (refl, is.fit)
formed_well n rs words own os (tells command rest e is) =
    ap (λ ws. fault_in n rs (option_map (λ known. known.1) (command_of ws))) e
    ∙ ap (λ o. fault_in n rs (option_map (λ known. known.1) o))
    (telling_is command rest (no_assignment n rs command rest os is.stand)
    ∙ command_is telling [] command (λ known. rest) own (slots_for os rest) is.found (filled_by n rs own.places own.repeated rest os is.stand is.follows))
    ∙ fits_all n rs (slots_for os rest) os (are_operands n rs rest os is.stand) is.fit

pub says_well : (n : Counts) (rs : List Register) (words : List Word) (act : Act) → Says n rs words act → command_fault n rs words ≡ None
says_well n rs words act says = formed_well n rs words says.own says.operands says.forms

-- a command has words, and is no `session`
no_session : (command : Word) (own : Form) → form_in telling command ≡ Some own → bytes_eq command (codes "session") ≡ false
no_session command own found = by_cases (bytes_eq command (codes "session")) refl
  where
    by_cases : (b : Bool) → bytes_eq command (codes "session") ≡ b → bytes_eq command (codes "session") ≡ false
    by_cases false e = e
    by_cases true e =
        let none : form_in telling (codes "session") ≡ None = refl in
        let k : None ≡ Some own = sym none ∙ ap (form_in telling) (sym ((bytes_eq-Decides command (codes "session")).0 e)) ∙ found in
        cc

one_word : (command : Word) (rest : List Word) → bytes_eq command (codes "session") ≡ false → is_session (command ∷ rest) ≡ false
one_word command [] h = h
one_word command (word ∷ rest) h = refl

formed_words : (n : Counts) (rs : List Register) (words : List Word) (own : Form) (os : List Operand) → Forms n rs words own os
    → (first : Word) × (rest : List Word) × (words ≡ first ∷ rest) × (is_session words ≡ false)
formed_words n rs words own os (assigns r command rest e fresh is) = (r, codes "=" ∷ command ∷ rest, e, ap is_session e)
formed_words n rs words own os (tells command rest e is) = (command, rest, e, ap is_session e ∙ one_word command rest (no_session command own is.found))

pub says_words : (n : Counts) (rs : List Register) (words : List Word) (act : Act) → Says n rs words act → (first : Word) × (rest : List Word) × (words ≡ first ∷ rest) × (is_session words ≡ false)
says_words n rs words act says = formed_words n rs words says.own says.operands says.forms
