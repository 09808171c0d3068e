-- What is made of a line that has the form of a command.
use Rattle.std.proofs.Common.{◌≡◌, Bool, true, false, cond, List, [], ◌∷◌, ◌++◌, Option, Some, None, option_map, option_and_then, refl, ap, sym, ◌∙◌, subst, codes}
use Rattle.std.specs.Str.{bytes_eq}
use Rattle.std.proofs.lemmas.Slice.Eq.{bytes_eq-Decides}
use Rattle.job_commands.specs.declared.commands.Opcode.{Opcode}
use Rattle.job_commands.specs.declared.commands.Place.{Place}
use Rattle.job_commands.specs.declared.commands.Place.TheVariants.{Fresh}
use Rattle.job_text.specs.declared.job.Counts.{Counts}
use Rattle.job_text.specs.declared.job.Register.{Register}
use Rattle.job_text.specs.declared.operands.Operand.{Operand}
use Rattle.job_text.specs.declared.operands.Operand.TheVariants as operands
use Rattle.job_commands.specs.declared.operands.Operands.{Operands}
use Rattle.job_words.specs.Text.{Word}
use Rattle.job_commands.specs.Commands.{act_of}
use Rattle.job_commands.specs.Commands.{no_operands}
use Rattle.job_text.specs.Places.{AllFit, AllStandFor, Follows, IsFresh, with_operand, with_operands}
use Rattle.job_text.specs.Grammar.{Says, assigns, tells}
use Rattle.job_commands.specs.Commands.{Form, form_in, filled, command_in, command_of, assignment_of, telling_of, assigning, telling, words_at}
use Rattle.job_text.specs.Drafts.{AreOperands, IsOperand}

-- The command of a line in a table, and its places.
record IsFilled (forms : List Form) (before : List (Place × Word)) (command : Word) (due : Form → List Word) (opcode : Opcode) (slots : List (Place × Word)) : Type 0 where
  own : Form
  found : form_in forms command ≡ Some own
  behind : List (Place × Word)
  fills : filled own.places own.repeated (due own) ≡ Some behind
  does : own.opcode ≡ opcode
  all : before ++ behind ≡ slots

filled_from : (forms : List Form) (before : List (Place × Word)) (command : Word) (due : Form → List Word) (opcode : Opcode) (slots : List (Place × Word)) → command_in forms before command due ≡ Some (opcode, slots)
    → IsFilled forms before command due opcode slots
filled_from forms before command due opcode slots h = by_form (form_in forms command) refl h
  where
    by_slots : (own : Form) → form_in forms command ≡ Some own → (o : Option (List (Place × Word))) → filled own.places own.repeated (due own) ≡ o
        → option_map {U = Opcode × List (Place × Word)} (λ more. (own.opcode, before ++ more)) o ≡ Some (opcode, slots) → IsFilled forms before command due opcode slots
    by_slots own e None f g = cc
    by_slots own e (Some behind) f g =
        let one : Opcode × List (Place × Word) = (own.opcode, before ++ behind) in
        let other : Opcode × List (Place × Word) = (opcode, slots) in
        let same : one ≡ other = cc in
        record { own = own; found = e; behind = behind; fills = f; does = ap (λ t. t.0) same; all = ap (λ t. t.1) same }

    by_form : (o : Option Form) → form_in forms command ≡ o
        → option_and_then (λ own. option_map {U = Opcode × List (Place × Word)} (λ more. (own.opcode, before ++ more)) (filled own.places own.repeated (due own))) o ≡ Some (opcode, slots) → IsFilled forms before command due opcode slots
    by_form None e g = cc
    by_form (Some own) e g = by_slots own e (filled own.places own.repeated (due own)) refl g

-- the operands of words at their places
abbrev Meant : Counts → List Register → List Place → List Place → List Word → List Operand → Type 0
Meant n rs due repeated words os = Follows due repeated os × AllStandFor n rs words os

one_more : (n : Counts) (rs : List Register) (place : Place) (w : Word) (o : Option (List (Place × Word))) (slots : List (Place × Word)) (os : List Operand) → option_map (λ more. (place, w) ∷ more) o ≡ Some slots
    → AreOperands n rs slots os → (more : List (Place × Word)) × (operand : Operand) × (rest : List Operand) × (o ≡ Some more) × (os ≡ operand ∷ rest) × IsOperand n rs (place, w) operand × AreOperands n rs more rest
one_more n rs place w None slots os e h = cc
one_more n rs place w (Some more) [] os e h = cc
one_more n rs place w (Some more) (slot ∷ slots) [] e h = absurd h
one_more n rs place w (Some more) (slot ∷ slots) (o ∷ os) e h =
    let same : (place, w) ≡ slot = cc in
    let rest : more ≡ slots = cc in
    (more, o, os, refl, refl, subst (λ (t : Place × Word). IsOperand n rs t o) (sym same) h.0, subst (λ (t : List (Place × Word)). AreOperands n rs t os) (sym rest) h.1)

meant : (n : Counts) (rs : List Register) (due repeated : List Place) (words : List Word) (slots : List (Place × Word)) (os : List Operand) → filled due repeated words ≡ Some slots → AreOperands n rs slots os
    → Meant n rs due repeated words os
meant n rs [] repeated [] [] [] e h = (tt, tt)
meant n rs [] repeated [] [] (o ∷ os) e h = absurd h
meant n rs [] repeated [] (slot ∷ slots) os e h = cc
meant n rs (p ∷ ps) repeated [] slots os e h = cc
meant n rs [] [] (w ∷ words) slots os e h = cc
meant n rs [] (p ∷ ps) (w ∷ words) slots os e h =
    let k = one_more n rs p w (filled ps (p ∷ ps) words) slots os e h in
    let more = meant n rs ps (p ∷ ps) words k.0 k.2 k.3 k.6 in
    subst (λ (t : List Operand). Meant n rs [] (p ∷ ps) (w ∷ words) t) (sym k.4) ((k.5.0, more.0), (k.5.1, more.1))
meant n rs (p ∷ ps) repeated (w ∷ words) slots os e h =
    let k = one_more n rs p w (filled ps repeated words) slots os e h in
    let more = meant n rs ps repeated words k.0 k.2 k.3 k.6 in
    subst (λ (t : List Operand). Meant n rs (p ∷ ps) repeated (w ∷ words) t) (sym k.4) ((k.5.0, more.0), (k.5.1, more.1))

-- a target is fresh, and nothing more
target_is : (n : Counts) (rs : List Register) (r : Word) (o : Operand) → IsOperand n rs (Fresh, r) o → IsFresh rs r × (with_operand rs no_operands o ≡ no_operands)
target_is n rs r operands.Target h = (h.1, refl)
target_is n rs r (operands.Register kind a) h = cc h.0
target_is n rs r (operands.Any a) h = cc h.0
target_is n rs r (operands.Alike a) h = cc h.0
target_is n rs r (operands.Variable v) h = cc h.0
target_is n rs r (operands.NewVariable v) h = cc h.0
target_is n rs r (operands.Element e) h = cc h.0
target_is n rs r (operands.Level order l) h = cc h.0
target_is n rs r (operands.Cell k) h = cc h.0
target_is n rs r (operands.Value w) h = cc h.0
target_is n rs r (operands.Bit b) h = cc h.0
target_is n rs r (operands.Bits bits) h = cc h.0
target_is n rs r operands.Literals h = cc h.0

assigns_from : (n : Counts) (rs : List Register) (words : List Word) (r command : Word) (rest : List Word) (opcode : Opcode) (slots : List (Place × Word)) (os : List Operand)
    → words ≡ r ∷ codes "=" ∷ command ∷ rest → IsFilled assigning ((Fresh, r) ∷ []) command (λ known. words_at known.places command rest) opcode slots → AreOperands n rs slots os → AllFit n rs no_operands os → Says n rs words (act_of opcode (with_operands rs no_operands os))
assigns_from n rs words r command rest opcode slots [] e h a new = absurd (subst (λ (t : List (Place × Word)). AreOperands n rs t []) (sym h.all) a)
assigns_from n rs words r command rest opcode slots (o ∷ os) e h a new =
    let all : IsOperand n rs (Fresh, r) o × AreOperands n rs h.behind os = subst (λ (t : List (Place × Word)). AreOperands n rs t (o ∷ os)) (sym h.all) a in
    let target = target_is n rs r o all.0 in
    let own = meant n rs h.own.places h.own.repeated (words_at h.own.places command rest) h.behind os h.fills all.1 in
    record {
      own = h.own;
      operands = os;
      forms = assigns r command rest e target.0 (record { found = h.found; follows = own.0; stand = own.1; fit = subst (λ (t : Operands). AllFit n rs t os) target.1 new.1 });
      means = ap (λ t. act_of opcode (with_operands rs t os)) target.1 ∙ ap (λ t. act_of t (with_operands rs no_operands os)) (sym h.does);
    }

tells_from : (n : Counts) (rs : List Register) (words : List Word) (command : Word) (rest : List Word) (opcode : Opcode) (slots : List (Place × Word)) (os : List Operand)
    → words ≡ command ∷ rest → IsFilled telling [] command (λ known. rest) opcode slots → AreOperands n rs slots os → AllFit n rs no_operands os → Says n rs words (act_of opcode (with_operands rs no_operands os))
tells_from n rs words command rest opcode slots os e h a new =
    let all : AreOperands n rs h.behind os = subst (λ (t : List (Place × Word)). AreOperands n rs t os) (sym h.all) a in
    let own = meant n rs h.own.places h.own.repeated rest h.behind os h.fills all in
    record {
      own = h.own;
      operands = os;
      forms = tells command rest e (record { found = h.found; follows = own.0; stand = own.1; fit = new });
      means = ap (λ t. act_of t (with_operands rs no_operands os)) (sym h.does);
    }

pub says_from : (n : Counts) (rs : List Register) (words : List Word) (opcode : Opcode) (slots : List (Place × Word)) (os : List Operand) → command_of words ≡ Some (opcode, slots) → AreOperands n rs slots os
    → AllFit n rs no_operands os → Says n rs words (act_of opcode (with_operands rs no_operands os))
says_from n rs [] opcode slots os e h new = cc
says_from n rs (first ∷ []) opcode slots os e h new = tells_from n rs (first ∷ []) first [] opcode slots os refl (filled_from telling [] first (λ known. []) opcode slots e) h new
says_from n rs (first ∷ second ∷ []) opcode slots os e h new =
    tells_from n rs (first ∷ second ∷ []) first (second ∷ []) opcode slots os refl (filled_from telling [] first (λ known. second ∷ []) opcode slots e) h new
says_from n rs (first ∷ second ∷ third ∷ words) opcode slots os e h new = by_cases (bytes_eq second (codes "=")) refl
  where
    by_cases : (b : Bool) → bytes_eq second (codes "=") ≡ b → Says n rs (first ∷ second ∷ third ∷ words) (act_of opcode (with_operands rs no_operands os))
    by_cases true f =
        assigns_from n rs (first ∷ second ∷ third ∷ words) first third words opcode slots os (ap (λ t. first ∷ t ∷ third ∷ words) ((bytes_eq-Decides second (codes "=")).0 f))
        (filled_from assigning ((Fresh, first) ∷ []) third (λ known. words_at known.places third words) opcode slots (sym (ap (λ b. cond b (assignment_of first third words) (telling_of first (second ∷ third ∷ words))) f) ∙ e)) h new
    by_cases false f =
        tells_from n rs (first ∷ second ∷ third ∷ words) first (second ∷ third ∷ words) opcode slots os refl
        (filled_from telling [] first (λ known. second ∷ third ∷ words) opcode slots (sym (ap (λ b. cond b (assignment_of first third words) (telling_of first (second ∷ third ∷ words))) f) ∙ e)) h new
