-- Words at their places, and the operands that they stand for.
use Rattle.std.proofs.Common.{◌≡◌, ◌&&◌, Bool, true, false, cond, List, [], ◌∷◌, ◌++◌, Option, Some, None, option_map, refl, ap, sym, ◌∙◌, subst, append_assoc}
use Rattle.std.specs.List.{list_all}
use Rattle.std.proofs.lemmas.Bool.{false≢true}
use Rattle.job_commands.specs.declared.slots.Line.{Line}
use Rattle.job_commands.specs.declared.commands.Place.{Place}
use Rattle.job_text.specs.declared.faults.FaultKind.{FaultKind}
use Rattle.job_text.specs.declared.faults.FaultKind.TheVariants as kinds
use Rattle.job_text.specs.declared.faults.JobStop.{JobStop}
use Rattle.job_text.specs.declared.faults.JobStop.TheVariants as stops
use Rattle.job_text.specs.declared.job.Counts.{Counts}
use Rattle.job_text.specs.declared.job.Register.{Register}
use Rattle.job_text.specs.declared.operands.Operand.{Operand}
use Rattle.job_commands.specs.declared.operands.Operands.{Operands}
use Rattle.job_words.specs.Text.{Word}
use Rattle.job_text.specs.Faults.{Left, beside_fault, word_fault, left_after, nothing_left, first_fault, fault_in, command_fault, or_else}
use Rattle.job_commands.specs.Commands.{command_of, has_form}
use Rattle.job_commands.specs.Commands.{no_operands}
use Rattle.job_text.specs.Places.{AllFit, misfit, with_operand, with_operands}
use Rattle.job_text.specs.Drafts.{AreOperands, CommandStop, IsOperand, SlotStop, SlotsStop, left_by}
use Rattle.job_commands.specs.Slots.{slots_of, line_of}
use Rattle.job_text.proofs.Meanings.{word_fault_is, no_word_fault}
use Rattle.job_text.proofs.Naming.{left_is}

-- Words at their places stand for operands, up to one that has a fault.
pub operands_more : (n : Counts) (rs : List Register) (slots : List (Place × Word)) (slot : Place × Word) (os : List Operand) (o : Operand) → AreOperands n rs slots os → IsOperand n rs slot o
    → AreOperands n rs (slots ++ slot ∷ []) (os ++ o ∷ [])
operands_more n rs [] slot [] o h more = (more, tt)
operands_more n rs [] slot (x ∷ os) o h more = absurd h
operands_more n rs (s ∷ slots) slot [] o h more = absurd h
operands_more n rs (s ∷ slots) slot (x ∷ os) o h more = (h.0, operands_more n rs slots slot os o h.1 more)

pub with_more : (rs : List Register) (given : Operands) (os : List Operand) (o : Operand) → with_operands rs given (os ++ o ∷ []) ≡ with_operand rs (with_operands rs given os) o
with_more rs given [] o = refl
with_more rs given (x ∷ os) o = with_more rs (with_operand rs given x) os o

pub fit_more : (n : Counts) (rs : List Register) (others : Operands) (os : List Operand) (o : Operand) → AllFit n rs others os → misfit n rs (with_operands rs others os) o ≡ None → AllFit n rs others (os ++ o ∷ [])
fit_more n rs others [] o h new = (new, tt)
fit_more n rs others (x ∷ os) o h new = (h.0, fit_more n rs (with_operand rs others x) os o h.1 new)

fault_behind : (n : Counts) (rs : List Register) (others : Operands) (slots : List (Place × Word)) (slot : Place × Word) (rest : List (Place × Word)) (os : List Operand) (fault : FaultKind) → AreOperands n rs slots os
    → AllFit n rs others os → word_fault n rs (left_by (with_operands rs others os)) slot ≡ Some fault → first_fault n rs (left_by others) (slots ++ slot ∷ rest) ≡ Some fault
fault_behind n rs others [] slot rest [] fault h new e = ap (λ o. or_else o (first_fault n rs (left_after rs (left_by others) slot) rest)) e
fault_behind n rs others [] slot rest (o ∷ os) fault h new e = absurd h
fault_behind n rs others (s ∷ slots) slot rest [] fault h new e = absurd h
fault_behind n rs others (s ∷ slots) slot rest (o ∷ os) fault h new e =
    ap (λ t. or_else t (first_fault n rs (left_after rs (left_by others) s) (slots ++ slot ∷ rest))) (no_word_fault n rs others s o h.0 new.0)
    ∙ ap (λ t. first_fault n rs t (slots ++ slot ∷ rest)) (left_is n rs others s o h.0)
    ∙ fault_behind n rs (with_operand rs others o) slots slot rest os fault h.1 new.1 e

first_at : (n : Counts) (rs : List Register) (slots front : List (Place × Word)) (slot : Place × Word) (rest : List (Place × Word)) (os : List Operand) (fault : FaultKind) → slots ≡ front ++ slot ∷ rest
    → AreOperands n rs front os → AllFit n rs no_operands os → word_fault n rs (left_by (with_operands rs no_operands os)) slot ≡ Some fault → first_fault n rs nothing_left slots ≡ Some fault
first_at n rs slots front slot rest os fault at h new e = ap (first_fault n rs nothing_left) at ∙ fault_behind n rs no_operands front slot rest os fault h new e

-- one more slot stands in front
pub slots_more : (slots front : List (Place × Word)) (slot : Place × Word) (left rest : List (Place × Word)) → slots ≡ front ++ left → left ≡ slot ∷ rest → slots ≡ (front ++ slot ∷ []) ++ rest
slots_more slots front slot left rest e at = e ∙ ap (λ t. front ++ t) at ∙ sym (append_assoc front (slot ∷ []) rest)

-- the word at the first place has its form, and those behind it have theirs
both : (a b : Bool) → (a && b) ≡ true → (a ≡ true) × (b ≡ true)
both true b h = (refl, h)
both false b h = absurd (false≢true h)

pub forms_of : (slots : List (Place × Word)) (slot : Place × Word) (rest : List (Place × Word)) → slots ≡ slot ∷ rest → list_all has_form slots ≡ true → (has_form slot ≡ true) × (list_all has_form rest ≡ true)
forms_of slots slot rest at h = both (has_form slot) (list_all has_form rest) (sym (ap (list_all has_form) at) ∙ h)

-- why a line is no command
pub no_command : (n : Counts) (rs : List Register) (words : List Word) (o : Option Line) → option_map line_of o ≡ command_of words → o ≡ None → command_fault n rs words ≡ Some kinds.Word
unfolding command_fault
no_command n rs words o e none = ap (λ t. fault_in n rs (option_map (λ known. known.1) t)) (sym e ∙ ap (option_map line_of) none)

pub of_line : (n : Counts) (rs : List Register) (words : List Word) (o : Option Line) (line : Line) → option_map line_of o ≡ command_of words → o ≡ Some line
    → command_fault n rs words ≡ fault_in n rs (Some (slots_of line.slots))
unfolding command_fault
of_line n rs words o line e some = ap (λ t. fault_in n rs (option_map (λ known. known.1) t)) (sym e ∙ ap (option_map line_of) some)

pub ill_formed : (n : Counts) (rs : List Register) (slots : List (Place × Word)) → list_all has_form slots ≡ false → fault_in n rs (Some slots) ≡ Some kinds.Word
ill_formed n rs slots h = ap (λ b. cond b (first_fault n rs nothing_left slots) (Some kinds.Word)) h

-- what stops a word at its place stops it beside whatever stands to its left
pub word_stop : (n : Counts) (rs : List Register) (left : Left) (slot : Place × Word) (stop : JobStop) → SlotStop n rs slot stop → (fault : FaultKind) → stop ≡ stops.Fault fault → word_fault n rs left slot ≡ Some fault
word_stop n rs left slot stop h fault e = ap (λ t. or_else t (beside_fault n rs left slot)) (subst (λ s. SlotStop n rs slot s) e h)

abbrev fault_of : JobStop → Option FaultKind
fault_of stops.Memory = None
fault_of (stops.Fault fault) = Some fault

-- an operand that doesn't fit those to its left
pub misfit_stop : (n : Counts) (rs : List Register) (others : Operands) (slot : Place × Word) (o : Operand) (wrong : FaultKind) → IsOperand n rs slot o → misfit n rs others o ≡ Some wrong
    → (fault : FaultKind) → stops.Fault wrong ≡ stops.Fault fault → word_fault n rs (left_by others) slot ≡ Some fault
misfit_stop n rs others slot o wrong own h fault e = word_fault_is n rs others slot o own ∙ h ∙ ap fault_of e

pub slots_stop : (n : Counts) (rs : List Register) (slots front : List (Place × Word)) (slot : Place × Word) (rest : List (Place × Word)) (os : List Operand) (stop : JobStop) → slots ≡ front ++ slot ∷ rest
    → AreOperands n rs front os → AllFit n rs no_operands os → ((fault : FaultKind) → stop ≡ stops.Fault fault → word_fault n rs (left_by (with_operands rs no_operands os)) slot ≡ Some fault) → SlotsStop n rs slots stop
slots_stop n rs slots front slot rest os stops.Memory at h new e = tt
slots_stop n rs slots front slot rest os (stops.Fault fault) at h new e = first_at n rs slots front slot rest os fault at h new (e fault refl)

pub command_stop : (n : Counts) (rs : List Register) (words : List Word) (slots : List (Place × Word)) (stop : JobStop) → command_fault n rs words ≡ fault_in n rs (Some slots) → list_all has_form slots ≡ true
    → SlotsStop n rs slots stop → CommandStop n rs words stop
command_stop n rs words slots stops.Memory e h stop = tt
command_stop n rs words slots (stops.Fault fault) e h stop = e ∙ ap (λ b. cond b (first_fault n rs nothing_left slots) (Some kinds.Word)) h ∙ stop
