-- A job is read line by line.
use Rattle.std.proofs.Common.{◌≡◌, ℕ, suc, ◌+◌, ◌≤◌, ◌==◌, ◌&&◌, Bool, true, false, not, cond, List, [], ◌∷◌, ◌++◌, length, map, filter, Option, Some, None, Result, Ok, Err, IfOk, IfErr, IfSome, unwrap_or, inl, inr, refl, ap, sym, ◌∙◌, subst, arith, codes, append_assoc, length-append, ◌<◌}
use Rattle.std.specs.Prelude.{nat_le, nat_lt}
use Rattle.std.specs.List.{list_all, flat_map, All}
use Rattle.std.specs.Str.Parse.{digits_value}
use Rattle.std.proofs.lemmas.Bool.Decides.{nat_tests}
use Rattle.std.proofs.lemmas.List.{append-nil, map-append}
use Rattle.std.proofs.lemmas.List.Folds.{list_all-append}
use Rattle.std.proofs.lemmas.List.Elements.{filter-append, All-append, All-cons}
use Rattle.std.proofs.lemmas.Grind.{flat_map-append}
use Rattle.edge_bits.specs.declared.limits.TheConstants.{MOST_ELEMENTS, MOST_SESSIONS, MOST_SLOTS, MOST_VARIABLES, USUAL_LIMIT}
use Rattle.job_commands.specs.declared.acts.Act.{Act}
use Rattle.job_text.specs.declared.job.Command.{Command}
use Rattle.job_text.specs.declared.job.Job.{Job}
use Rattle.job_text.specs.declared.job.Counts.{Counts}
use Rattle.job_text.specs.declared.job.Register.{Register}
use Rattle.job_text.specs.declared.draft.Draft.{Draft}
use Rattle.job_text.specs.declared.draft.Draft.TheVariants.{Nothing, Sized, Begun}
use Rattle.job_text.specs.declared.draft.Section.{Section}
use Rattle.job_text.specs.declared.faults.FaultKind.{FaultKind}
use Rattle.job_text.specs.declared.faults.FaultKind.TheVariants as kinds
use Rattle.job_text.specs.declared.faults.JobError.{JobError}
use Rattle.job_text.specs.declared.faults.JobError.TheVariants as errors
use Rattle.job_words.specs.Text.{Word, IsNumber, is_number, is_allowed, lines_of, words_of, line_words}
use Rattle.job_text.specs.Grammar.{Says, CommandsSay, registers_after, section_lines, said_lines, ElementLines, LimitLines, IsJobText}
use Rattle.job_text.specs.Faults.{Context, at_start, sized, within, counts_with, has_begun, words_fault, line_fault, context_after, context_behind, Faultless, FaultyLine, HasFault, command_fault, is_session}
use Rattle.job_text.specs.Drafts.{context_in, Adds, adds_nothing, adds_vars, adds_elements, adds_limit, adds_session, adds_further, adds_command, IsSmall, EndStop}
use Rattle.job_text.proofs.Meanings.{says_well, says_words}

abbrev pub has_words : List Word → Bool
has_words words = not (length words == 0)

-- the registers behind these commands
abbrev pub registers_behind : List Register → List Command → List Register
registers_behind registers [] = registers
registers_behind registers (command ∷ commands) = registers_behind (registers_after registers command.words) commands

-- the line of a number that was given
abbrev pub GivenLine : Word → Option ℕ → List (List Word) → Type 0
GivenLine word None lines = lines ≡ []
GivenLine word (Some n) lines = (number : Word) × (lines ≡ (word ∷ number ∷ []) ∷ []) × IsNumber number n

-- the line of the number of variables
abbrev pub line_of_vars : Word → List Word
line_of_vars number = codes "vars" ∷ number ∷ []

-- the lines with words that make a draft
abbrev pub Spelled : Draft → List (List Word) → Type 0
Spelled Nothing said = said ≡ []
Spelled (Sized n elements given) said = (number : Word) × (counted limits : List (List Word)) × IsNumber number n × GivenLine (codes "elements") elements counted
    × GivenLine (codes "limit") given limits
    × (said ≡ line_of_vars number ∷ counted ++ limits)
Spelled (Begun limit done section) said = (number : Word) × (counted limits : List (List Word)) × IsNumber number section.scope.counts.vars × ElementLines section.scope.counts.elements counted
    × LimitLines limit limits
    × (said ≡ line_of_vars number ∷ counted ++ (limits ++ (flat_map section_lines done ++ section_lines section.commands)))
    × All (CommandsSay section.scope.counts []) done
    × CommandsSay section.scope.counts [] section.commands
    × (section.scope.registers ≡ registers_behind [] section.commands)

-- These lines have no fault, and make this draft.
pub record IsRead (lines : List (List ℕ)) (draft : Draft) : Type 0 where
  pub faultless : Faultless at_start lines
  pub context : context_behind at_start lines ≡ context_in draft
  pub clean : list_all (list_all is_allowed) lines ≡ true
  pub spelled : Spelled draft (said_lines lines)
  pub small : IsSmall draft

pub nothing_read : IsRead [] Nothing
nothing_read = record { faultless = tt; context = refl; clean = refl; spelled = refl; small = tt }

-- One line more
clean_words : (b : Bool) (own words : List Word) → cond b (Some own) None ≡ Some words → (b ≡ true) × (own ≡ words)
clean_words true own words h = (refl, cc)
clean_words false own words h = cc

pub no_words : (b : Bool) (own : List Word) → cond b (Some own) None ≡ None → b ≡ false
no_words true own h = cc
no_words false own h = refl

pub faultless_more : (c : Context) (lines : List (List ℕ)) (line : List ℕ) → Faultless c lines → line_fault (context_behind c lines) line ≡ None → Faultless c (lines ++ line ∷ [])
faultless_more c [] line h e = (e, tt)
faultless_more c (x ∷ lines) line h e = (h.0, faultless_more (context_after c (words_of x)) lines line h.1 e)

pub context_more : (c : Context) (lines : List (List ℕ)) (line : List ℕ) → context_behind c (lines ++ line ∷ []) ≡ context_after (context_behind c lines) (words_of line)
context_more c [] line = refl
context_more c (x ∷ lines) line = context_more (context_after c (words_of x)) lines line

said_more : (lines : List (List ℕ)) (line : List ℕ) → said_lines (lines ++ line ∷ []) ≡ said_lines lines ++ filter has_words (words_of line ∷ [])
said_more lines line = ap (filter has_words) (map-append words_of lines (line ∷ [])) ∙ filter-append has_words (map words_of lines) (words_of line ∷ [])

pub not_zero : (n : ℕ) → (suc n == 0) ≡ false
not_zero n = grind (arith, nat_tests)

pub some_words : (word : Word) (words : List Word) → filter has_words ((word ∷ words) ∷ []) ≡ (word ∷ words) ∷ []
some_words word words = ap (λ b. cond (not b) ((word ∷ words) ∷ []) []) (not_zero (length words))

pub say_more : (n : Counts) (rs : List Register) (commands : List Command) (words : List Word) (act : Act) → CommandsSay n rs commands → Says n (registers_behind rs commands) words act
    → CommandsSay n rs (commands ++ record { words = words; act = act } ∷ [])
say_more n rs [] words act h says = (says, tt)
say_more n rs (c ∷ commands) words act h says = (h.0, say_more n (registers_after rs c.words) commands words act h.1 says)

behind_more : (rs : List Register) (commands : List Command) (words : List Word) (act : Act) → registers_behind rs (commands ++ record { words = words; act = act } ∷ []) ≡ registers_after (registers_behind rs commands) words
behind_more rs [] words act = refl
behind_more rs (c ∷ commands) words act = behind_more (registers_after rs c.words) commands words act

section_more : (commands : List Command) (words : List Word) (act : Act) → section_lines (commands ++ record { words = words; act = act } ∷ []) ≡ section_lines commands ++ words ∷ []
section_more commands words act = ap (λ t. (codes "session" ∷ []) ∷ t) (map-append (λ (c : Command). c.words) commands (record { words = words; act = act } ∷ []))

-- What a line that adds something has: no fault, and what it leaves.
in_range : (most d n : ℕ) → d ≡ n → n ≤ most → nat_le d most ≡ true
in_range most d n e h = grind (arith, nat_tests)

limit_in_range : (d l n : ℕ) → d ≡ l → 5 + n ≤ l → l ≤ MOST_SLOTS → (nat_le (5 + n) d && nat_le d MOST_SLOTS) ≡ true
limit_in_range d l n e low high = grind (arith, nat_tests)

number_well : (b c : Bool) (fault : FaultKind) → b ≡ true → c ≡ true → cond (true && b) (cond c None (Some fault)) (Some kinds.Word) ≡ None
number_well b c fault e f = ap (λ t. cond (true && t) (cond c None (Some fault)) (Some kinds.Word)) e ∙ ap (λ t. cond t None (Some fault)) f

-- a line of a section that is no `session`
no_session : (n : Counts) (k : ℕ) (rs : List Register) (first : Word) (rest : List Word) → is_session (first ∷ rest) ≡ false
    → (words_fault (within n k rs) (first ∷ rest) ≡ command_fault n rs (first ∷ rest)) × (context_after (within n k rs) (first ∷ rest) ≡ within n k (registers_after rs (first ∷ rest)))
no_session n k rs first rest e = (
  ap (λ b. cond b (cond (nat_lt k MOST_SESSIONS) None (Some kinds.Limit)) (command_fault n rs (first ∷ rest))) e,
  ap (λ b. cond b (within n (k + 1) []) (within n k (registers_after rs (first ∷ rest)))) e,
)

pub command_line : (c : Context) (n : Counts) (k : ℕ) (rs : List Register) (words : List Word) (act : Act) → c ≡ within n k rs → Says n rs words act
    → (words_fault c words ≡ None) × (context_after c words ≡ within n k (registers_after rs words))
command_line c n k rs words act e says =
    let some = says_words n rs words act says in
    let line = no_session n k rs some.0 some.1 (ap is_session (sym some.2) ∙ some.3) in (
      ap (λ t. words_fault t words) e ∙ ap (words_fault (within n k rs)) some.2 ∙ line.0 ∙ sym (ap (command_fault n rs) some.2) ∙ says_well n rs words act says,
      ap (λ t. context_after t words) e ∙ ap (context_after (within n k rs)) some.2 ∙ line.1 ∙ sym (ap (λ t. within n k (registers_after rs t)) some.2),
    )

-- the line of a further section
may_begin : (k : ℕ) → k < MOST_SESSIONS → nat_lt k MOST_SESSIONS ≡ true
may_begin k h = grind (arith, nat_tests)

pub session_line : (c : Context) (n : Counts) (k : ℕ) (rs : List Register) → c ≡ within n k rs → k < MOST_SESSIONS
    → (words_fault c (codes "session" ∷ []) ≡ None) × (context_after c (codes "session" ∷ []) ≡ within n (k + 1) [])
session_line c n k rs e few = (
  ap (λ t. words_fault t (codes "session" ∷ [])) e ∙ ap (λ b. cond b None (Some kinds.Limit)) (may_begin k few),
  ap (λ t. context_after t (codes "session" ∷ [])) e,
)

pub vars_line : (number : Word) (n : ℕ) → IsNumber number n → n ≤ MOST_VARIABLES
    → (words_fault at_start (codes "vars" ∷ number ∷ []) ≡ None) × (context_after at_start (codes "vars" ∷ number ∷ []) ≡ sized n None false)
vars_line number n h le = (
  number_well (is_number number) (nat_le (digits_value 10 number) MOST_VARIABLES) kinds.Range h.0 (in_range MOST_VARIABLES (digits_value 10 number) n h.1 le),
  ap (λ k. sized k None false) h.1,
)

pub elements_line : (n : ℕ) (number : Word) (m : ℕ) → IsNumber number m → m ≤ MOST_ELEMENTS
    → (words_fault (sized n None false) (codes "elements" ∷ number ∷ []) ≡ None) × (context_after (sized n None false) (codes "elements" ∷ number ∷ []) ≡ sized n (Some m) false)
elements_line n number m h le = (
  number_well (is_number number) (nat_le (digits_value 10 number) MOST_ELEMENTS) kinds.Range h.0 (in_range MOST_ELEMENTS (digits_value 10 number) m h.1 le),
  ap (λ k. sized n (Some k) false) h.1,
)

pub limit_line : (n : ℕ) (elements : Option ℕ) (number : Word) (limit : ℕ) → IsNumber number limit → 5 + n ≤ limit → limit ≤ MOST_SLOTS → words_fault (sized n elements false) (codes "limit" ∷ number ∷ []) ≡ None
limit_line n elements number limit h low high =
    number_well (is_number number) (nat_le (5 + n) (digits_value 10 number) && nat_le (digits_value 10 number) MOST_SLOTS) kinds.Limit h.0
    (limit_in_range (digits_value 10 number) limit n h.1 low high)

pub adds_well : (old new : Draft) (words : List Word) → Adds old words new → (words_fault (context_in old) words ≡ None) × (context_after (context_in old) words ≡ context_in new)
adds_well old new words (adds_nothing e f) =
    (ap (words_fault (context_in old)) e, ap (context_after (context_in old)) e ∙ sym (ap context_in f))
adds_well old new words (adds_vars h) =
    let line = vars_line h.0 h.1 h.3 h.4 in (
      ap (λ t. words_fault (context_in t) words) h.5 ∙ ap (words_fault at_start) h.2 ∙ line.0,
      ap (λ t. context_after (context_in t) words) h.5 ∙ ap (context_after at_start) h.2 ∙ line.1 ∙ sym (ap context_in h.6),
    )
adds_well old new words (adds_elements h) =
    let line = elements_line h.1 h.0 h.2 h.4 h.5 in (
      ap (λ t. words_fault (context_in t) words) h.6 ∙ ap (words_fault (sized h.1 None false)) h.3 ∙ line.0,
      ap (λ t. context_after (context_in t) words) h.6 ∙ ap (context_after (sized h.1 None false)) h.3 ∙ line.1 ∙ sym (ap context_in h.7),
    )
adds_well old new words (adds_limit h) = (
  ap (λ t. words_fault (context_in t) words) h.8 ∙ ap (words_fault (sized h.1 h.3 false)) h.4 ∙ limit_line h.1 h.3 h.0 h.2 h.5 h.6 h.7,
  ap (λ t. context_after (context_in t) words) h.8 ∙ ap (context_after (sized h.1 h.3 false)) h.4 ∙ sym (ap context_in h.9),
)
adds_well old new words (adds_session h) = (
  ap (λ t. words_fault (context_in t) words) h.4 ∙ ap (words_fault (context_in (Sized h.0 h.1 h.2))) h.3,
  ap (λ t. context_after (context_in t) words) h.4 ∙ ap (context_after (context_in (Sized h.0 h.1 h.2))) h.3 ∙ sym (ap context_in h.5),
)
adds_well old new words (adds_further h) =
    let n = (h.2).scope.counts in
    let line = session_line (context_in old) n (length h.1 + 1) (h.2).scope.registers (ap context_in h.5) h.4 in (
      ap (words_fault (context_in old)) h.3 ∙ line.0,
      ap (context_after (context_in old)) h.3 ∙ line.1 ∙ sym (ap context_in h.6 ∙ ap (λ k. within n (k + 1) []) (length-append h.1 ((h.2).commands ∷ []))),
    )
adds_well old new words (adds_command h) =
    let line = command_line (context_in old) (h.2).scope.counts (length h.1 + 1) (h.2).scope.registers words h.3 (ap context_in h.4) h.5 in
    (line.0, line.1 ∙ sym (ap context_in h.6))

-- What it makes of the lines with words
limit_lines : (given : Option ℕ) (limits : List (List Word)) → GivenLine (codes "limit") given limits → LimitLines (unwrap_or given USUAL_LIMIT) limits
limit_lines None limits h = inl (h, refl)
limit_lines (Some limit) limits h = inr h

element_lines : (elements : Option ℕ) (counted : List (List Word)) → GivenLine (codes "elements") elements counted → ElementLines (unwrap_or elements 0) counted
element_lines None counted h = inl (h, refl)
element_lines (Some m) counted h = inr h

-- sections, and one more behind them
all_one : (P : List Command → Type 0) (commands : List Command) → P commands → All P (commands ∷ [])
all_one P commands h = All-cons P commands [] h (λ k d lt. absurd (omega arith))

none_say : (n : Counts) → All (CommandsSay n []) []
none_say n = λ k d lt. absurd (omega arith)

whole_sections : (done : List (List Command)) (commands : List Command) → flat_map section_lines (done ++ commands ∷ []) ≡ flat_map section_lines done ++ section_lines commands
whole_sections done commands = flat_map-append section_lines done (commands ∷ []) ∙ ap (λ t. flat_map section_lines done ++ t) (append-nil (section_lines commands))

-- one line more behind others
one_line_more : (front lines : List (List Word)) (line : List Word) (more : List (List Word)) → lines ++ line ∷ [] ≡ more → (front ++ lines) ++ line ∷ [] ≡ front ++ more
one_line_more front lines line more e = append_assoc front lines (line ∷ []) ∙ ap (λ t. front ++ t) e

said_behind : (said front lines more own : List (List Word)) (line : List Word) → said ≡ front ++ lines → own ≡ line ∷ [] → lines ++ line ∷ [] ≡ more → said ++ own ≡ front ++ more
said_behind said front lines more own line e one same = ap (λ t. said ++ t) one ∙ ap (λ t. t ++ line ∷ []) e ∙ one_line_more front lines line more same

pub adds_spelled : (old new : Draft) (words : List Word) (said : List (List Word)) → Adds old words new → Spelled old said → Spelled new (said ++ filter has_words (words ∷ []))
adds_spelled old new words said (adds_nothing e f) h =
    subst (λ (t : List (List Word)). Spelled new t) (sym (append-nil said) ∙ ap (λ ws. said ++ filter has_words (ws ∷ [])) (sym e))
    (subst (λ (t : Draft). Spelled t said) (sym f) h)
adds_spelled old new words said (adds_vars g) h =
    let empty : said ≡ [] = subst (λ (t : Draft). Spelled t said) g.5 h in
    subst (λ (t : Draft). Spelled t (said ++ filter has_words (words ∷ []))) (sym g.6)
    (g.0, [], [], g.3, refl, refl, ap (λ t. t ++ filter has_words (words ∷ [])) empty ∙ ap (λ ws. filter has_words (ws ∷ [])) g.2 ∙ some_words (codes "vars") (g.0 ∷ []))
adds_spelled old new words said (adds_elements g) h =
    let k : Spelled (Sized g.1 None None) said = subst (λ (t : Draft). Spelled t said) g.6 h in
    let line = codes "elements" ∷ g.0 ∷ [] in
    let before : said ≡ line_of_vars k.0 ∷ [] = k.6 ∙ ap (λ t. line_of_vars k.0 ∷ t ++ k.2) k.4 ∙ ap (λ t. line_of_vars k.0 ∷ t) k.5 in
    let behind : filter has_words (words ∷ []) ≡ line ∷ [] = ap (λ ws. filter has_words (ws ∷ [])) g.3 ∙ some_words (codes "elements") (g.0 ∷ []) in
    subst (λ (t : Draft). Spelled t (said ++ filter has_words (words ∷ []))) (sym g.7) (
      k.0,
      line ∷ [],
      [],
      k.3,
      (g.0, refl, g.4),
      refl,
      ap (λ t. t ++ filter has_words (words ∷ [])) before ∙ ap (λ t. line_of_vars k.0 ∷ t) behind,
    )
adds_spelled old new words said (adds_limit g) h =
    let k : Spelled (Sized g.1 g.3 None) said = subst (λ (t : Draft). Spelled t said) g.8 h in
    let line = codes "limit" ∷ g.0 ∷ [] in
    let before : said ≡ line_of_vars k.0 ∷ k.1 = k.6 ∙ ap (λ t. line_of_vars k.0 ∷ k.1 ++ t) k.5 ∙ append-nil (line_of_vars k.0 ∷ k.1) in
    let behind : filter has_words (words ∷ []) ≡ line ∷ [] = ap (λ ws. filter has_words (ws ∷ [])) g.4 ∙ some_words (codes "limit") (g.0 ∷ []) in
    subst (λ (t : Draft). Spelled t (said ++ filter has_words (words ∷ []))) (sym g.9) (
      k.0,
      k.1,
      line ∷ [],
      k.3,
      k.4,
      (g.0, refl, g.5),
      ap (λ t. t ++ filter has_words (words ∷ [])) before ∙ ap (λ t. line_of_vars k.0 ∷ k.1 ++ t) behind,
    )
adds_spelled old new words said (adds_session g) h =
    let k : Spelled (Sized g.0 g.1 g.2) said = subst (λ (t : Draft). Spelled t said) g.4 h in
    let behind : filter has_words (words ∷ []) ≡ section_lines [] = ap (λ ws. filter has_words (ws ∷ [])) g.3 ∙ some_words (codes "session") [] in
    subst (λ (t : Draft). Spelled t (said ++ filter has_words (words ∷ []))) (sym g.5) (
      k.0,
      k.1,
      k.2,
      k.3,
      element_lines g.1 k.1 k.4,
      limit_lines g.2 k.2 k.5,
      ap (λ t. t ++ filter has_words (words ∷ [])) k.6 ∙ append_assoc (line_of_vars k.0 ∷ k.1) k.2 (filter has_words (words ∷ [])) ∙ ap (λ t. line_of_vars k.0 ∷ k.1 ++ (k.2 ++ t)) behind,
      none_say (counts_with g.0 g.1),
      tt,
      refl,
    )
adds_spelled old new words said (adds_further g) h =
    let k : Spelled (Begun g.0 g.1 g.2) said = subst (λ (t : Draft). Spelled t said) g.5 h in
    let n = (g.2).scope.counts in
    let commands = (g.2).commands in
    let one : filter has_words (words ∷ []) ≡ section_lines [] = ap (λ ws. filter has_words (ws ∷ [])) g.3 ∙ some_words (codes "session") [] in
    let more = one_line_more k.2 (flat_map section_lines g.1 ++ section_lines commands) (codes "session" ∷ []) (flat_map section_lines (g.1 ++ commands ∷ []) ++ section_lines [])
    (ap (λ t. t ++ section_lines []) (sym (whole_sections g.1 commands))) in
    subst (λ (t : Draft). Spelled t (said ++ filter has_words (words ∷ []))) (sym g.6) (
      k.0,
      k.1,
      k.2,
      k.3,
      k.4,
      k.5,
      said_behind said (line_of_vars k.0 ∷ k.1) _ _ _ (codes "session" ∷ []) k.6 one more,
      All-append (CommandsSay n []) g.1 (commands ∷ []) k.7 (all_one (CommandsSay n []) commands k.8),
      tt,
      refl,
    )
adds_spelled old new words said (adds_command g) h =
    let k : Spelled (Begun g.0 g.1 g.2) said = subst (λ (t : Draft). Spelled t said) g.4 h in
    let n = (g.2).scope.counts in
    let rs = (g.2).scope.registers in
    let commands = (g.2).commands in
    let some = says_words n rs words g.3 g.5 in
    let one : filter has_words (words ∷ []) ≡ words ∷ [] = ap (λ ws. filter has_words (ws ∷ [])) some.2 ∙ some_words some.0 some.1 ∙ sym (ap (λ ws. ws ∷ []) some.2) in
    let last = one_line_more (flat_map section_lines g.1) (section_lines commands) words (section_lines (commands ++ record { words = words; act = g.3 } ∷ [])) (sym (section_more commands words g.3)) in
    let more = one_line_more k.2 (flat_map section_lines g.1 ++ section_lines commands) words (flat_map section_lines g.1 ++ section_lines (commands ++ record { words = words; act = g.3 } ∷ [])) last in
    subst (λ (t : Draft). Spelled t (said ++ filter has_words (words ∷ []))) (sym g.6) (
      k.0,
      k.1,
      k.2,
      k.3,
      k.4,
      k.5,
      said_behind said (line_of_vars k.0 ∷ k.1) _ _ _ words k.6 one more,
      k.7,
      say_more n [] commands words g.3 k.8 (subst (λ (t : List Register). Says n t words g.3) k.9 g.5),
      ap (λ t. registers_after t words) k.9 ∙ sym (behind_more [] commands words g.3),
    )

default_limit : (n : ℕ) (given : Option ℕ) → n ≤ MOST_VARIABLES → IfSome given (λ limit. (5 + n ≤ limit) × (limit ≤ MOST_SLOTS)) → (5 + n ≤ unwrap_or given USUAL_LIMIT) × (unwrap_or given USUAL_LIMIT ≤ MOST_SLOTS)
default_limit n None le h = (omega arith, omega arith)
default_limit n (Some limit) le h = h

few_elements : (elements : Option ℕ) → IfSome elements (λ m. m ≤ MOST_ELEMENTS) → unwrap_or elements 0 ≤ MOST_ELEMENTS
few_elements None h = omega arith
few_elements (Some m) h = h

pub adds_small : (old new : Draft) (words : List Word) → Adds old words new → IsSmall old → IsSmall new
adds_small old new words (adds_nothing e f) h = subst IsSmall (sym f) h
adds_small old new words (adds_vars g) h = subst IsSmall (sym g.6) (g.4, tt, tt)
adds_small old new words (adds_elements g) h =
    let k : IsSmall (Sized g.1 None None) = subst IsSmall g.6 h in
    subst IsSmall (sym g.7) (k.0, g.5, tt)
adds_small old new words (adds_limit g) h =
    let k : IsSmall (Sized g.1 g.3 None) = subst IsSmall g.8 h in
    subst IsSmall (sym g.9) (k.0, k.1, (g.6, g.7))
adds_small old new words (adds_session g) h =
    let k : IsSmall (Sized g.0 g.1 g.2) = subst IsSmall g.4 h in
    let limit = default_limit g.0 g.2 k.0 k.2 in
    subst IsSmall (sym g.5) (k.0, few_elements g.1 k.1, limit.0, limit.1, omega arith)
adds_small old new words (adds_further g) h =
    let k : IsSmall (Begun g.0 g.1 g.2) = subst IsSmall g.5 h in
    subst IsSmall (sym g.6) (k.0, k.1, k.2, k.3, omega (arith, length-append g.1 ((g.2).commands ∷ []), g.4))
adds_small old new words (adds_command g) h =
    let k : IsSmall (Begun g.0 g.1 g.2) = subst IsSmall g.4 h in
    subst IsSmall (sym g.6) (k.0, k.1, k.2, k.3, k.4)

pub read_more : (lines : List (List ℕ)) (line : List ℕ) (old new : Draft) (words : List Word) → IsRead lines old → line_words line ≡ Some words → Adds old words new → IsRead (lines ++ line ∷ []) new
read_more lines line old new words read e adds =
    let own = clean_words (list_all is_allowed line) (words_of line) words e in
    let well = adds_well old new words adds in
    record {
      faultless = faultless_more at_start lines line read.faultless
          (ap (λ b. cond b (words_fault (context_behind at_start lines) (words_of line)) (Some kinds.Word)) own.0
          ∙ ap (λ c. words_fault c (words_of line)) read.context ∙ ap (words_fault (context_in old)) own.1 ∙ well.0);
      context = context_more at_start lines line ∙ ap (λ c. context_after c (words_of line)) read.context ∙ ap (context_after (context_in old)) own.1 ∙ well.1;
      clean = list_all-append (list_all is_allowed) lines (line ∷ []) ∙ ap (λ b. b && (list_all is_allowed line && true)) read.clean ∙ ap (λ b. b && true) own.0;
      spelled = subst (λ (t : List (List Word)). Spelled new t) (sym (said_more lines line ∙ ap (λ ws. said_lines lines ++ filter has_words (ws ∷ [])) own.1))
          (adds_spelled old new words (said_lines lines) adds read.spelled);
      small = adds_small old new words adds read.small;
    }

pub lines_more : (all lines : List (List ℕ)) (text rest front : List ℕ) → all ≡ lines ++ lines_of rest → lines_of rest ≡ front ∷ lines_of text → all ≡ (lines ++ front ∷ []) ++ lines_of text
lines_more all lines text rest front h e = h ∙ ap (λ t. lines ++ t) e ∙ sym (append_assoc lines (front ∷ []) (lines_of text))

-- The first faulty line
pub faulty : (text : List ℕ) (lines : List (List ℕ)) (front rest after : List ℕ) (place : ℕ) (draft : Draft) (kind : FaultKind)
    → lines_of text ≡ lines ++ lines_of rest → lines_of rest ≡ front ∷ lines_of after → IsRead lines draft → place ≡ length lines → line_fault (context_in draft) front ≡ Some kind → FaultyLine text (place + 1) kind
faulty text lines front rest after place draft fault h e read n f =
    record {
      good = lines;
      bad = front;
      rest = lines_of after;
      lines = h ∙ ap (λ t. lines ++ t) e;
      counted = ap (λ k. k + 1) n;
      faultless = read.faultless;
      faulty = ap (λ c. line_fault c front) read.context ∙ f;
    }

pub unclean_line : (c : Context) (line : List ℕ) → line_words line ≡ None → line_fault c line ≡ Some kinds.Word
unclean_line c line e = ap (λ b. cond b (words_fault c (words_of line)) (Some kinds.Word)) (no_words (list_all is_allowed line) (words_of line) e)

pub faulty_words : (c : Context) (line : List ℕ) (words : List Word) (kind : FaultKind) → line_words line ≡ Some words → words_fault c words ≡ Some kind → line_fault c line ≡ Some kind
faulty_words c line words fault e f =
    let own = clean_words (list_all is_allowed line) (words_of line) words e in
    ap (λ b. cond b (words_fault c (words_of line)) (Some kinds.Word)) own.0 ∙ ap (words_fault c) own.1 ∙ f

-- The end of the text
no_lines : lines_of [] ≡ []
unfolding lines_of
no_lines = refl

is_zero : (n : ℕ) → (n == 0) ≡ true → n ≡ 0
is_zero n h = grind (arith, nat_tests)

empty_is : (xs : List ℕ) → (length xs == 0) ≡ true → xs ≡ []
empty_is [] h = refl
empty_is (x ∷ xs) h = absurd (omega (arith, is_zero (length (x ∷ xs)) h))

pub all_read : (all lines : List (List ℕ)) (rest : List ℕ) → all ≡ lines ++ lines_of rest → (length rest == 0) ≡ true → lines ≡ all
all_read all lines rest h e = sym (h ∙ ap (λ t. lines ++ lines_of t) (empty_is rest e) ∙ ap (λ t. lines ++ t) no_lines ∙ append-nil lines)

pub job_from : (text : List ℕ) (draft : Draft) (r : Result Job JobError) → IsRead (lines_of text) draft
    → IfOk r (λ job. (limit : ℕ) × (done : List (List Command)) × (section : Section) × (draft ≡ Begun limit done section)
    × (job ≡ record { vars = section.scope.counts.vars; elements = section.scope.counts.elements; limit = limit; sections = done ++ section.commands ∷ [] }))
    → IfOk r (λ job. IsJobText text job)
job_from text draft (Err e) read h = h
job_from text draft (Ok job) read h =
    let done = h.1 in
    let section = h.2 in
    let spelled : Spelled (Begun h.0 done section) (said_lines (lines_of text)) = subst (λ (t : Draft). Spelled t (said_lines (lines_of text))) h.3 read.spelled in
    let small : IsSmall (Begun h.0 done section) = subst IsSmall h.3 read.small in
    let count = length-append done (section.commands ∷ []) in
    subst (λ (t : Job). IsJobText text t) (sym h.4)
    (record {
      clean = read.clean;
      number = spelled.0;
      vars = spelled.3;
      element_lines = spelled.1;
      elements = spelled.4;
      limits = spelled.2;
      limit = spelled.5;
      lines = spelled.6 ∙ sym (append_assoc (line_of_vars spelled.0 ∷ spelled.1) spelled.2 (flat_map section_lines done ++ section_lines section.commands))
          ∙ ap (λ t. line_of_vars spelled.0 ∷ spelled.1 ++ spelled.2 ++ t) (sym (whole_sections done section.commands));
      is_job = record {
        few_variables = small.0;
        few_elements = small.1;
        lowest_limit = small.2;
        highest_limit = small.3;
        some_sections = omega (arith, count);
        few_sections = omega (arith, count, small.4);
        commands = All-append (CommandsSay section.scope.counts []) done (section.commands ∷ []) spelled.7 (all_one (CommandsSay section.scope.counts []) section.commands spelled.8);
      };
    })

pub end_from : (text : List ℕ) (count : ℕ) (draft : Draft) (r : Result Job JobError) → IsRead (lines_of text) draft → count ≡ length (lines_of text)
    → IfErr r (λ error. EndStop draft count error) → IfErr r (λ error. HasFault text error)
end_from text count draft (Ok job) read n h = h
end_from text count draft (Err errors.Memory) read n h = h
end_from text count draft (Err (errors.Fault fault)) read n h =
    inr (record { faultless = read.faultless; early = ap has_begun read.context ∙ h.0; counted = h.1 ∙ ap (λ k. k + 1) n; word = h.2 })
