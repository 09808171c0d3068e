-- Words without a fault say something, and each text has a reading.
use Rattle.std.proofs.Common.{◌≡◌, ◌⊎◌, ℕ, ◌+◌, ◌*◌, ◌==◌, ◌<◌, ◌≤◌, ◌&&◌, ◌||◌, Bool, true, false, not, cond, List, [], ◌∷◌, ◌++◌, length, map, Option, Some, None, option_map, Result, Ok, inl, inr, refl, ap, sym, ◌∙◌, subst, arith, codes, append_assoc}
use Rattle.std.specs.Prelude.{◌-◌, nat_lt, nat_le, is_some}
use Rattle.std.specs.List.{list_any, list_all, position_or_len}
use Rattle.std.specs.Str.{bytes_eq}
use Rattle.std.specs.Str.Parse.{digits_value}
use Rattle.std.proofs.lemmas.Bool.{false≢true}
use Rattle.std.proofs.lemmas.Bool.Decides.{nat_tests}
use Rattle.std.proofs.lemmas.List.{append-nil}
use Rattle.std.proofs.lemmas.Slice.Eq.{bytes_eq-Decides}
use Rattle.edge_bits.specs.declared.limits.TheConstants.{CELLS, MOST_ELEMENTS, MOST_SESSIONS, MOST_SLOTS, MOST_VARIABLES}
use Rattle.edge_bits.specs.declared.edges.Kind.{Kind}
use Rattle.function_laws.specs.declared.orders.Order.{Order}
use Rattle.function_laws.specs.Numbers.{is_value}
use Rattle.job_commands.specs.declared.acts.Act.{Act}
use Rattle.job_text.specs.declared.job.Command.{Command}
use Rattle.job_text.specs.declared.job.Counts.{Counts}
use Rattle.job_commands.specs.declared.commands.Opcode.{Opcode}
use Rattle.job_commands.specs.declared.commands.Place.{Place}
use Rattle.job_commands.specs.declared.commands.Place.TheVariants as places
use Rattle.job_text.specs.declared.operands.Operand.{Operand}
use Rattle.job_text.specs.declared.operands.Operand.TheVariants as operands
use Rattle.job_commands.specs.declared.operands.Operands.{Operands}
use Rattle.job_text.specs.declared.job.Job.{Job}
use Rattle.job_text.specs.declared.job.Register.{Register}
use Rattle.job_text.specs.declared.draft.Draft.{Draft}
use Rattle.job_text.specs.declared.draft.Draft.TheVariants.{Nothing, Sized, Begun}
use Rattle.job_text.specs.declared.draft.Section.{Section}
use Rattle.job_text.specs.declared.faults.FaultKind.{FaultKind}
use Rattle.job_text.specs.declared.faults.FaultKind.TheVariants as kinds
use Rattle.job_text.specs.declared.faults.JobError.{JobError}
use Rattle.job_words.specs.Text.{Word, IsNumber, is_name, integer_value, is_number, is_allowed, lines_of, words_of, line_words, bit_word, is_bit, is_bits}
use Rattle.job_commands.specs.Commands.{act_of}
use Rattle.job_commands.specs.Commands.{no_operands}
use Rattle.job_text.specs.Places.{AllFit, IsFresh, Refers, is_called, kind_fault, kind_of, levels_of, misfit, with_operand, with_operands}
use Rattle.job_text.specs.Grammar.{IsJobText, Says, kind_called, register_called}
use Rattle.job_text.specs.Faults.{slot_fault, beside_fault, word_fault, left_after, nothing_left, first_fault, fault_in, or_else, command_fault, name_fault, is_session, number_fault, has_begun, words_fault, line_fault, IsFaultText}
use Rattle.job_commands.specs.Commands.{has_form, command_of}
use Rattle.job_text.specs.Drafts.{AreOperands, IsOperand, left_by, context_in, Adds, adds_nothing, adds_vars, adds_elements, adds_limit, adds_session, adds_further, adds_command}
use Rattle.job_text.specs.Readings.{EachHasOne}
use Rattle.job_words.proofs.Bits.{bits_are}
use Rattle.job_text.proofs.Meanings.{Fits, word_fault_is}
use Rattle.job_text.proofs.Naming.{left_is}
use Rattle.job_text.proofs.Makings.{says_from}
use Rattle.job_text.proofs.Reading.{IsRead, nothing_read, read_more, job_from}
use Rattle.job_text.proofs.RegisterLists.{fresh_from, no_name_fault, refers, alike_are}

-- What no fault at each place means
whole : (b : Bool) (later : Option FaultKind) → cond b later (Some kinds.Word) ≡ None → (b ≡ true) × (later ≡ None)
whole true later h = (refl, h)
whole false later h = cc

both : (o later : Option FaultKind) → or_else o later ≡ None → (o ≡ None) × (later ≡ None)
both None later h = (refl, h)
both (Some fault) later h = cc

and_true : (a b : Bool) → (a && b) ≡ true → (a ≡ true) × (b ≡ true)
and_true true b h = (refl, h)
and_true false b h = absurd (false≢true h)

unless : (b : Bool) (fault : FaultKind) → cond b (Some fault) None ≡ None → b ≡ false
unless true fault h = cc
unless false fault h = refl

where_true : (b : Bool) (fault : FaultKind) → cond b None (Some fault) ≡ None → b ≡ true
where_true true fault h = refl
where_true false fault h = cc

fresh_of : (n : Counts) (rs : List Register) (w : Word) → Fits n rs (places.Fresh, w) → IsFresh rs w
fresh_of n rs w h = (h.0, fresh_from rs w (unless (list_any (is_called w) rs) kinds.Again h.1))

-- a register of any kind
named_of : (rs : List Register) (w : Word) → is_name w ≡ true → name_fault (register_called rs w) ≡ None → (a : ℕ) × (kind : Kind) × Refers rs w a kind
named_of rs w form h =
    let r = no_name_fault (register_called rs w) h in
    (position_or_len (is_called w) rs, (r.0).kind, refers rs w r.0 form r.1 r.2)

-- and one of the kind that is due
held_of : (n : Counts) (rs : List Register) (w : Word) (due : Kind) → Fits n rs (places.Held due, w) → (a : ℕ) × Refers rs w a due
held_of n rs w due h =
    let none = both (name_fault (register_called rs w)) (kind_fault due (kind_called rs w)) h.1 in
    let r = no_name_fault (register_called rs w) none.0 in
    let same : (r.0).kind ≡ due = ap kind_of (sym r.1) ∙ sym (alike_are due (kind_called rs w) none.1) in
    (position_or_len (is_called w) rs, subst (λ (kind : Kind). Refers rs w (position_or_len (is_called w) rs) kind) same (refers rs w r.0 h.0 r.1 r.2))

below : (d n : ℕ) → nat_lt d n ≡ true → d < n
below d n e = grind (arith, nat_tests)

variable_of : (n : Counts) (rs : List Register) (w : Word) → Fits n rs (places.Variable, w) → (v : ℕ) × IsNumber w v × (v < n.vars)
variable_of n rs w h = (digits_value 10 w, (h.0, refl), below (digits_value 10 w) n.vars (where_true (nat_lt (digits_value 10 w) n.vars) kinds.Range h.1))

element_of : (n : Counts) (rs : List Register) (w : Word) → Fits n rs (places.Element, w) → (e : ℕ) × IsNumber w e × (e < n.elements)
element_of n rs w h = (digits_value 10 w, (h.0, refl), below (digits_value 10 w) n.elements (where_true (nat_lt (digits_value 10 w) n.elements) kinds.Range h.1))

not_above : (m n : ℕ) → nat_le m n ≡ true → m ≤ n
not_above m n e = grind (arith, nat_tests)

below_next : (d n : ℕ) → nat_lt d (n - 1) ≡ true → d + 1 < n
below_next d n e = grind (arith, nat_tests)

level_of : (n : Counts) (rs : List Register) (order : Order) (w : Word) → Fits n rs (places.Level order, w) → (l : ℕ) × IsNumber w l × (l + 1 < levels_of n order)
level_of n rs order w h = (digits_value 10 w, (h.0, refl), below_next (digits_value 10 w) (levels_of n order) (where_true (nat_lt (digits_value 10 w) (levels_of n order - 1)) kinds.Range h.1))

cell_of : (n : Counts) (rs : List Register) (w : Word) → Fits n rs (places.Cell, w) → (k : ℕ) × IsNumber w k × (k < CELLS)
cell_of n rs w h = (digits_value 10 w, (h.0, refl), below (digits_value 10 w) CELLS (where_true (nat_lt (digits_value 10 w) CELLS) kinds.Range h.1))

word_of_bits : (w : Word) → is_bits w ≡ true → (bs : List Bool) × (w ≡ bit_word bs)
word_of_bits w h = by_cases (bytes_eq w (codes "none")) refl
  where
    by_cases : (b : Bool) → bytes_eq w (codes "none") ≡ b → (bs : List Bool) × (w ≡ bit_word bs)
    by_cases true e = ([], (bytes_eq-Decides w (codes "none")).0 e)
    by_cases false e = (map (λ b. b == 49) w, (bits_are w (map (λ b. b == 49) w) h e refl).0)

bit_of : (w : Word) → is_bit w ≡ true → (b : Bool) × (w ≡ bit_word (b ∷ []))
bit_of w h = by_cases (bytes_eq w (codes "0")) refl
  where
    by_cases : (b : Bool) → bytes_eq w (codes "0") ≡ b → (b : Bool) × (w ≡ bit_word (b ∷ []))
    by_cases true e = (false, (bytes_eq-Decides w (codes "0")).0 e)
    by_cases false e = (true, (bytes_eq-Decides w (codes "1")).0 (sym (ap (λ b. b || bytes_eq w (codes "1")) e) ∙ h))

-- What words without a fault stand for
operand_at : (n : Counts) (rs : List Register) (place : Place) (w : Word) → Fits n rs (place, w) → (o : Operand) × IsOperand n rs (place, w) o
operand_at n rs places.Fresh w h = (operands.Target, (refl, fresh_of n rs w h))
operand_at n rs (places.Held kind) w h = let a = held_of n rs w kind h in (operands.Register kind a.0, (refl, a.1))
operand_at n rs places.Any w h = let a = named_of rs w h.0 h.1 in (operands.Any a.0, (refl, (a.1, a.2)))
operand_at n rs places.Alike w h = let a = named_of rs w h.0 h.1 in (operands.Alike a.0, (refl, (a.1, a.2)))
operand_at n rs places.Variable w h = let v = variable_of n rs w h in (operands.Variable v.0, (refl, (v.1, v.2)))
operand_at n rs places.NewVariable w h = let v = variable_of n rs w h in (operands.NewVariable v.0, (refl, (v.1, v.2)))
operand_at n rs places.Element w h = let e = element_of n rs w h in (operands.Element e.0, (refl, (e.1, e.2)))
operand_at n rs (places.Level order) w h = let l = level_of n rs order w h in (operands.Level order l.0, (refl, (l.1, l.2)))
operand_at n rs places.Cell w h = let k = cell_of n rs w h in (operands.Cell k.0, (refl, (k.1, k.2)))
operand_at n rs places.Value w h = (operands.Value (integer_value w), (refl, ((h.0, refl), where_true (is_value (integer_value w)) kinds.Range h.1)))
operand_at n rs places.Bit w h = let b = bit_of w h.0 in (operands.Bit b.0, (refl, b.1))
operand_at n rs places.Bits w h = let bs = word_of_bits w h.0 in (operands.Bits bs.0, (refl, bs.1))
operand_at n rs places.Literals w h = (operands.Literals, (refl, (h.0, not_above (2 * n.vars) n.elements (where_true (nat_le (2 * n.vars) n.elements) kinds.Range h.1))))

operands_at : (n : Counts) (rs : List Register) (others : Operands) (slots : List (Place × Word)) → list_all has_form slots ≡ true → first_fault n rs (left_by others) slots ≡ None
    → (os : List Operand) × AreOperands n rs slots os × AllFit n rs others os
operands_at n rs others [] h e = ([], tt, tt)
operands_at n rs others (slot ∷ slots) h e =
    let form = and_true (has_form slot) (list_all has_form slots) h in
    let none = both (word_fault n rs (left_by others) slot) (first_fault n rs (left_after rs (left_by others) slot) slots) e in
    let o = operand_at n rs slot.0 slot.1 (form.0, (both (slot_fault n rs slot) (beside_fault n rs (left_by others) slot) none.0).0) in
    let fits : misfit n rs others o.0 ≡ None = sym (word_fault_is n rs others slot o.0 o.1) ∙ none.0 in
    let more = operands_at n rs (with_operand rs others o.0) slots form.1 (sym (ap (λ t. first_fault n rs t slots) (left_is n rs others slot o.0 o.1)) ∙ none.1) in
    (o.0 ∷ more.0, (o.1, more.1), (fits, more.2))

-- what a command without a fault says
of_command : (n : Counts) (rs : List Register) (words : List Word) (o : Option (Opcode × List (Place × Word))) → command_of words ≡ o → fault_in n rs (option_map (λ known. known.1) o) ≡ None
    → (act : Act) × Says n rs words act
of_command n rs words None e h = cc h
of_command n rs words (Some known) e h =
    let well = whole (list_all has_form known.1) (first_fault n rs nothing_left known.1) h in
    let os = operands_at n rs no_operands known.1 well.0 well.1 in
    (act_of known.0 (with_operands rs no_operands os.0), says_from n rs words known.0 known.1 os.0 e os.1 os.2)

command_says : (n : Counts) (rs : List Register) (words : List Word) → command_fault n rs words ≡ None → (act : Act) × Says n rs words act
unfolding command_fault
command_says n rs words h = of_command n rs words (command_of words) refl h

-- What a line without a fault adds
is_word : (w due : Word) → bytes_eq w due ≡ true → w ≡ due
is_word w due e = (bytes_eq-Decides w due).0 e

number_form : (due : Word) (in_range : ℕ → Bool) (fault : FaultKind) (words : List Word) → number_fault due in_range fault words ≡ None
    → (number : Word) × (words ≡ due ∷ number ∷ []) × (is_number number ≡ true) × (in_range (digits_value 10 number) ≡ true)
number_form due in_range fault [] h = cc h
number_form due in_range fault (first ∷ []) h = cc h
number_form due in_range fault (first ∷ second ∷ []) h =
    let k = whole (bytes_eq first due && is_number second) (cond (in_range (digits_value 10 second)) None (Some fault)) h in
    let form = and_true (bytes_eq first due) (is_number second) k.0 in
    (second, ap (λ w. w ∷ second ∷ []) (is_word first due form.0), form.1, where_true (in_range (digits_value 10 second)) fault k.1)
number_form due in_range fault (first ∷ second ∷ third ∷ words) h = cc h

session_form : (words : List Word) → is_session words ≡ true → words ≡ codes "session" ∷ []
session_form [] h = absurd (false≢true h)
session_form (word ∷ []) h = ap (λ w. w ∷ []) (is_word word (codes "session") h)
session_form (word ∷ second ∷ words) h = absurd (false≢true h)

few : (most d : ℕ) → nat_le d most ≡ true → d ≤ most
few most d e = grind (arith, nat_tests)

limit_low : (d n : ℕ) → nat_le (5 + n) d ≡ true → 5 + n ≤ d
limit_low d n e = grind (arith, nat_tests)

limit_high : (d : ℕ) → nat_le d MOST_SLOTS ≡ true → d ≤ MOST_SLOTS
limit_high d e = grind (arith, nat_tests)

abbrev is_limit : ℕ → ℕ → Bool
is_limit n limit = nat_le (5 + n) limit && nat_le limit MOST_SLOTS

abbrev is_few : ℕ → Bool
is_few m = nat_le m MOST_ELEMENTS

limit_adds : (n : ℕ) (elements : Option ℕ) (words : List Word) → number_fault (codes "limit") (is_limit n) kinds.Limit words ≡ None → (next : Draft) × Adds (Sized n elements None) words next
limit_adds n elements words h =
    let form = number_form (codes "limit") (is_limit n) kinds.Limit words h in
    let d = digits_value 10 form.0 in
    let range = and_true (nat_le (5 + n) d) (nat_le d MOST_SLOTS) form.3 in
    (_, adds_limit (form.0, n, d, elements, form.1, (form.2, refl), limit_low d n range.0, limit_high d range.1, refl, refl))

elements_add : (n : ℕ) (words : List Word) → number_fault (codes "elements") is_few kinds.Range words ≡ None → (next : Draft) × Adds (Sized n None None) words next
elements_add n words h =
    let form = number_form (codes "elements") is_few kinds.Range words h in
    (_, adds_elements (form.0, n, digits_value 10 form.0, form.1, (form.2, refl), few MOST_ELEMENTS (digits_value 10 form.0) form.3, refl, refl))

-- a line between `vars` and `session`: of elements, or of the limit
sized_adds : (n : ℕ) (elements given : Option ℕ) (words : List Word) (b c : Bool) → is_session words ≡ b
    → cond b None (cond (is_some given) (Some kinds.Word)
    (cond (c && not (is_some elements)) (number_fault (codes "elements") is_few kinds.Range words) (number_fault (codes "limit") (is_limit n) kinds.Limit words))) ≡ None
    → (next : Draft) × Adds (Sized n elements given) words next
sized_adds n elements given words true c e h = (_, adds_session (n, elements, given, session_form words e, refl, refl))
sized_adds n elements (Some limit) words false c e h = cc h
sized_adds n None None words false true e h = elements_add n words h
sized_adds n (Some m) None words false true e h = limit_adds n (Some m) words h
sized_adds n elements None words false false e h = limit_adds n elements words h

begun_adds : (limit : ℕ) (done : List (List Command)) (section : Section) (words : List Word) (b : Bool) → is_session words ≡ b
    → cond b (cond (nat_lt (length done + 1) MOST_SESSIONS) None (Some kinds.Limit)) (command_fault section.scope.counts section.scope.registers words) ≡ None
    → (next : Draft) × Adds (Begun limit done section) words next
begun_adds limit done section words true e h =
    let few = below (length done + 1) MOST_SESSIONS (where_true (nat_lt (length done + 1) MOST_SESSIONS) kinds.Limit h) in
    (_, adds_further (limit, done, section, session_form words e, few, refl, refl))
begun_adds limit done section words false e h =
    let says = command_says section.scope.counts section.scope.registers words h in
    (_, adds_command (limit, done, section, says.0, refl, says.1, refl))

adds : (draft : Draft) (words : List Word) → words_fault (context_in draft) words ≡ None → (next : Draft) × Adds draft words next
adds draft [] h = (draft, adds_nothing refl refl)
adds Nothing (word ∷ words) h =
    let form = number_form (codes "vars") (λ n. nat_le n MOST_VARIABLES) kinds.Range (word ∷ words) h in
    (_, adds_vars (form.0, digits_value 10 form.0, form.1, (form.2, refl), few MOST_VARIABLES (digits_value 10 form.0) form.3, refl, refl))
adds (Sized n elements given) (word ∷ words) h = sized_adds n elements given (word ∷ words) (is_session (word ∷ words)) (bytes_eq word (codes "elements")) refl h
adds (Begun limit done section) (word ∷ words) h = begun_adds limit done section (word ∷ words) (is_session (word ∷ words)) refl h

-- Each text has a reading: line by line
clean_line : (draft : Draft) (line : List ℕ) → line_fault (context_in draft) line ≡ None → (line_words line ≡ Some (words_of line)) × (words_fault (context_in draft) (words_of line) ≡ None)
clean_line draft line h =
    let k = whole (list_all is_allowed line) (words_fault (context_in draft) (words_of line)) h in
    (ap (λ b. cond b (Some (words_of line)) None) k.0, k.1)

abbrev HasReading : List ℕ → Type 0
HasReading text = ((job : Job) × IsJobText text job) ⊎ ((place : ℕ) × (kind : FaultKind) × IsFaultText text place kind)

at_end : (text : List ℕ) (draft : Draft) → IsRead (lines_of text) draft → HasReading text
at_end text Nothing read = inr (length (lines_of text) + 1, kinds.Word, inr (record { faultless = read.faultless; early = ap has_begun read.context; counted = refl; word = refl }))
at_end text (Sized n elements given) read = inr (length (lines_of text) + 1, kinds.Word, inr (record { faultless = read.faultless; early = ap has_begun read.context; counted = refl; word = refl }))
at_end text (Begun limit done section) read =
    let job : Job = record { vars = section.scope.counts.vars; elements = section.scope.counts.elements; limit = limit; sections = done ++ section.commands ∷ [] } in
    let result : Result Job JobError = Ok job in
    inl (job, job_from text (Begun limit done section) result read (limit, done, section, refl, refl))

read_on : (text : List ℕ) (done todo : List (List ℕ)) (draft : Draft) → lines_of text ≡ done ++ todo → IsRead done draft → HasReading text
read_on text done [] draft e read = at_end text draft (subst (λ (t : List (List ℕ)). IsRead t draft) (sym (e ∙ append-nil done)) read)
read_on text done (line ∷ todo) draft e read =
    by_fault (line_fault (context_in draft) line) refl
    (λ (next : Draft) (more : IsRead (done ++ line ∷ []) next). read_on text (done ++ line ∷ []) todo next (e ∙ sym (append_assoc done (line ∷ []) todo)) more)
  where
    by_fault : (o : Option FaultKind) → line_fault (context_in draft) line ≡ o → ((next : Draft) → IsRead (done ++ line ∷ []) next → HasReading text) → HasReading text
    by_fault (Some fault) f go =
        inr (
          length done + 1,
          fault,
          inl (record {
            good = done;
            bad = line;
            rest = todo;
            lines = e;
            counted = refl;
            faultless = read.faultless;
            faulty = ap (λ c. line_fault c line) read.context ∙ f;
          }),
        )
    by_fault None f go =
        let clean = clean_line draft line f in
        let next = adds draft (words_of line) clean.1 in
        go next.0 (read_more done line draft next.0 (words_of line) read clean.0 next.1)

pub each_has_one : EachHasOne
each_has_one text = read_on text [] (lines_of text) Nothing refl nothing_read
