-- A text has one reading.
use Rattle.std.proofs.Common.{◌≡◌, ℕ, suc, ◌+◌, ◌≤◌, ◌&&◌, Bool, true, false, not, cond, List, [], ◌∷◌, ◌++◌, length, map, filter, Option, Some, None, inl, inr, refl, ap, sym, ◌∙◌, subst, arith, codes, append_assoc}
use Rattle.std.specs.List.{list_all, flat_map, All}
use Rattle.std.specs.Str.Parse.{digits_value}
use Rattle.std.proofs.lemmas.Bool.{false≢true}
use Rattle.std.proofs.lemmas.Slice.Eq.{bytes_eq-Decides}
use Rattle.edge_bits.specs.declared.limits.TheConstants.{MOST_ELEMENTS, MOST_SESSIONS}
use Rattle.job_text.specs.declared.job.Command.{Command}
use Rattle.job_text.specs.declared.job.Job.{Job}
use Rattle.job_text.specs.declared.job.Counts.{Counts}
use Rattle.job_text.specs.declared.job.Register.{Register}
use Rattle.job_text.specs.declared.faults.FaultKind.{FaultKind}
use Rattle.job_text.specs.declared.faults.FaultKind.TheVariants as kinds
use Rattle.job_words.specs.Text.{Word, is_allowed, lines_of, words_of}
use Rattle.job_text.specs.Grammar.{CommandsSay, counts_of, registers_after, section_lines, said_lines, ElementLines, LimitLines, IsJobText}
use Rattle.job_text.specs.Faults.{Context, at_start, sized, within, counts_with, has_begun, words_fault, line_fault, context_after, context_behind, Faultless, FaultyLine}
use Rattle.job_text.specs.Readings.{OneJob, OneFault, JobOrFault}
use Rattle.job_text.proofs.Acts.{same_sections}
use Rattle.job_text.proofs.Reading.{has_words, not_zero, command_line, session_line, vars_line, elements_line, limit_line}

-- Where there is a fault, that line is not without one.
at_bad : (c : Context) (good : List (List ℕ)) (bad : List ℕ) (rest : List (List ℕ)) (fault : FaultKind) → Faultless c (good ++ bad ∷ rest) → line_fault (context_behind c good) bad ≡ Some fault → ⊥
at_bad c [] bad rest fault h e = cc (h.0)
at_bad c (x ∷ good) bad rest fault h e = at_bad (context_after c (words_of x)) good bad rest fault h.1 e

one_bad : (c : Context) (good good' : List (List ℕ)) (bad bad' : List ℕ) (rest rest' : List (List ℕ)) (fault fault' : FaultKind) → good ++ bad ∷ rest ≡ good' ++ bad' ∷ rest'
    → Faultless c good → Faultless c good' → line_fault (context_behind c good) bad ≡ Some fault → line_fault (context_behind c good') bad' ≡ Some fault' → (length good ≡ length good') × (fault ≡ fault')
one_bad c [] [] bad bad' rest rest' fault fault' e h h' f f' =
    let same : bad ≡ bad' = cc in
    let both : Some fault ≡ Some fault' = sym f ∙ ap (line_fault c) same ∙ f' in
    (refl, cc)
one_bad c [] (y ∷ good') bad bad' rest rest' fault fault' e h h' f f' =
    let same : bad ≡ y = cc in
    let both : Some fault ≡ None = sym f ∙ ap (line_fault c) same ∙ h'.0 in
    cc
one_bad c (x ∷ good) [] bad bad' rest rest' fault fault' e h h' f f' =
    let same : bad' ≡ x = cc in
    let both : Some fault' ≡ None = sym f' ∙ ap (line_fault c) same ∙ h.0 in
    cc
one_bad c (x ∷ good) (y ∷ good') bad bad' rest rest' fault fault' e h h' f f' =
    let same : y ≡ x = cc in
    let tails : good ++ bad ∷ rest ≡ good' ++ bad' ∷ rest' = cc in
    let more = one_bad (context_after c (words_of x)) good good' bad bad' rest rest' fault fault' tails h.1
    (subst (λ (t : List ℕ). Faultless (context_after c (words_of t)) good') same h'.1) f
    (subst (λ (t : List ℕ). line_fault (context_behind (context_after c (words_of t)) good') bad' ≡ Some fault') same f') in
    (ap suc more.0, more.1)

bad_within : (text : List ℕ) (place : ℕ) (fault : FaultKind) → FaultyLine text place fault → Faultless at_start (lines_of text) → ⊥
bad_within text place fault h good =
    at_bad at_start h.good h.bad h.rest fault (subst (λ (t : List (List ℕ)). Faultless at_start t) h.lines good) h.faulty

pub one_fault : OneFault
one_fault text place place' fault fault' (inl h) (inl h') =
    let one = one_bad at_start h.good h'.good h.bad h'.bad h.rest h'.rest fault fault' (sym h.lines ∙ h'.lines) h.faultless h'.faultless h.faulty h'.faulty in
    (h.counted ∙ ap (λ k. k + 1) one.0 ∙ sym h'.counted, one.1)
one_fault text place place' fault fault' (inl h) (inr h') = absurd (bad_within text place fault h h'.faultless)
one_fault text place place' fault fault' (inr h) (inl h') = absurd (bad_within text place' fault' h' h.faultless)
one_fault text place place' fault fault' (inr h) (inr h') = (h.counted ∙ sym h'.counted, h.word ∙ sym h'.word)

-- Lines by their words
abbrev SaidWell : Context → List (List Word) → Type 0
SaidWell c [] = Unit {0}
SaidWell c (words ∷ said) = (words_fault c words ≡ None) × SaidWell (context_after c words) said

abbrev behind_said : Context → List (List Word) → Context
behind_said c [] = c
behind_said c (words ∷ said) = behind_said (context_after c words) said

and_true : (a b : Bool) → (a && b) ≡ true → (a ≡ true) × (b ≡ true)
and_true true b h = (refl, h)
and_true false b h = absurd (false≢true h)

said_cons : (line : List ℕ) (lines : List (List ℕ)) (word : Word) (words : List Word) → words_of line ≡ word ∷ words → said_lines (line ∷ lines) ≡ (word ∷ words) ∷ said_lines lines
said_cons line lines word words e =
    ap (λ t. filter has_words (t ∷ map words_of lines)) e
    ∙ ap (λ b. cond (not b) ((word ∷ words) ∷ said_lines lines) (said_lines lines)) (not_zero (length words))

-- these lines have no fault, where those with words have none
abbrev GoesWell : List (List ℕ) → Context → Type 0
GoesWell lines c = Faultless c lines × (context_behind c lines ≡ behind_said c (said_lines lines))

one_line : (c : Context) (line : List ℕ) (lines : List (List ℕ)) → list_all is_allowed line ≡ true → ((c' : Context) → SaidWell c' (said_lines lines) → GoesWell lines c')
    → (own : List Word) → words_of line ≡ own → SaidWell c (said_lines (line ∷ lines)) → GoesWell (line ∷ lines) c
one_line c line lines clean more [] e h =
    let said : said_lines (line ∷ lines) ≡ said_lines lines = ap (λ t. filter has_words (t ∷ map words_of lines)) e in
    let next : context_after c (words_of line) ≡ c = ap (context_after c) e in
    let rest = more c (subst (SaidWell c) said h) in (
      (ap (λ b. cond b (words_fault c (words_of line)) (Some kinds.Word)) clean ∙ ap (words_fault c) e, subst (λ (t : Context). Faultless t lines) (sym next) rest.0),
      ap (λ t. context_behind t lines) next ∙ rest.1 ∙ ap (behind_said c) (sym said),
    )
one_line c line lines clean more (word ∷ words) e h =
    let said : said_lines (line ∷ lines) ≡ (word ∷ words) ∷ said_lines lines = said_cons line lines word words e in
    let next : context_after c (words_of line) ≡ context_after c (word ∷ words) = ap (context_after c) e in
    let split : SaidWell c ((word ∷ words) ∷ said_lines lines) = subst (SaidWell c) said h in
    let rest = more (context_after c (word ∷ words)) split.1 in (
      (ap (λ b. cond b (words_fault c (words_of line)) (Some kinds.Word)) clean ∙ ap (words_fault c) e ∙ split.0, subst (λ (t : Context). Faultless t lines) (sym next) rest.0),
      ap (λ t. context_behind t lines) next ∙ rest.1 ∙ ap (behind_said c) (sym said),
    )

from_said : (c : Context) (lines : List (List ℕ)) → list_all (list_all is_allowed) lines ≡ true → SaidWell c (said_lines lines) → GoesWell lines c
from_said c [] clean h = (tt, refl)
from_said c (line ∷ lines) clean h =
    let both = and_true (list_all is_allowed line) (list_all (list_all is_allowed) lines) clean in
    one_line c line lines both.0 (λ c' g. from_said c' lines both.1 g) (words_of line) refl h

-- these lines have no fault, and behind them a section has begun
abbrev BeginsWell : Counts → Context → List (List Word) → Type 0
BeginsWell n c said = SaidWell c said × ((k : ℕ) × (rs : List Register) × (behind_said c said ≡ within n k rs))

-- the lines of some commands, and what follows
commands_well : (c : Context) (n : Counts) (k : ℕ) (rs : List Register) (commands : List Command) (rest : List (List Word)) → c ≡ within n k rs → CommandsSay n rs commands
    → ((c' : Context) (rs' : List Register) → c' ≡ within n k rs' → BeginsWell n c' rest) → BeginsWell n c (map (λ (command : Command). command.words) commands ++ rest)
commands_well c n k rs [] rest e h more = more c rs e
commands_well c n k rs (command ∷ commands) rest e h more =
    let line = command_line c n k rs command.words command.act e h.0 in
    let others = commands_well (context_after c command.words) n k (registers_after rs command.words) commands rest line.1 h.1 more in
    ((line.0, others.0), others.1)

sections_well : (c : Context) (n : Counts) (k : ℕ) (rs : List Register) (sections : List (List Command)) → c ≡ within n k rs → k + length sections ≤ MOST_SESSIONS → All (CommandsSay n []) sections
    → BeginsWell n c (flat_map section_lines sections)
sections_well c n k rs [] e few says = (tt, (k, rs, e))
sections_well c n k rs (commands ∷ sections) e few says =
    let line = session_line c n k rs e (omega (arith, few)) in
    let others = commands_well (context_after c (codes "session" ∷ [])) n (k + 1) [] commands (flat_map section_lines sections) line.1 (says 0 commands (omega arith))
    (λ c' rs' e'. sections_well c' n (k + 1) rs' sections e' (omega (arith, few)) (λ i d lt. says (suc i) d (omega arith))) in
    ((line.0, others.0), others.1)

-- the sections of a job: 1 to so many
abbrev AreSections : Counts → List (List Command) → Type 0
AreSections n sections = (1 ≤ length sections) × (length sections ≤ MOST_SESSIONS) × All (CommandsSay n []) sections

-- the lines of the limit and the sections, behind `vars`
first_well : (c : Context) (n : ℕ) (elements : Option ℕ) (limited : Bool) (sections : List (List Command)) → c ≡ sized n elements limited → AreSections (counts_with n elements) sections
    → BeginsWell (counts_with n elements) c (flat_map section_lines sections)
first_well c n elements limited [] e h = absurd (omega (arith, h.0))
first_well c n elements limited (commands ∷ sections) e h =
    let own = counts_with n elements in
    let line = codes "session" ∷ [] in
    let others = commands_well (context_after c line) own 1 [] commands (flat_map section_lines sections) (ap (λ t. context_after t line) e) (h.2 0 commands (omega arith))
    (λ c' rs' e'. sections_well c' own 1 rs' sections e' (omega (arith, h.1)) (λ i d lt. h.2 (suc i) d (omega arith))) in
    ((ap (λ t. words_fault t line) e, others.0), others.1)

behind_limit : (c : Context) (n : ℕ) (elements : Option ℕ) (limit : ℕ) (limits : List (List Word)) (sections : List (List Command)) → c ≡ sized n elements false → LimitLines limit limits → 5 + n ≤ limit → limit ≤ 8388607
    → AreSections (counts_with n elements) sections → BeginsWell (counts_with n elements) c (limits ++ flat_map section_lines sections)
behind_limit c n elements limit limits sections e (inl h) low high says =
    subst (λ (t : List (List Word)). BeginsWell (counts_with n elements) c (t ++ flat_map section_lines sections)) (sym h.0) (first_well c n elements false sections e says)
behind_limit c n elements limit limits sections e (inr h) low high says =
    let line = codes "limit" ∷ h.0 ∷ [] in
    let rest = first_well (context_after c line) n elements true sections (ap (λ t. context_after t line) e) says in
    subst (λ (t : List (List Word)). BeginsWell (counts_with n elements) c (t ++ flat_map section_lines sections)) (sym h.1)
    ((ap (λ t. words_fault t line) e ∙ limit_line n elements h.0 limit h.2 low high, rest.0), rest.1)

abbrev counts : ℕ → ℕ → Counts
counts n m = record { vars = n; elements = m }

behind_elements : (c : Context) (n m limit : ℕ) (counted limits : List (List Word)) (sections : List (List Command)) → c ≡ sized n None false → ElementLines m counted → m ≤ MOST_ELEMENTS → LimitLines limit limits → 5 + n ≤ limit → limit ≤ 8388607
    → AreSections (counts n m) sections → BeginsWell (counts n m) c (counted ++ (limits ++ flat_map section_lines sections))
behind_elements c n m limit counted limits sections e (inl h) few limited low high says =
    let said = limits ++ flat_map section_lines sections in
    let rest = behind_limit c n None limit limits sections e limited low high (subst (λ (k : ℕ). AreSections (counts n k) sections) h.1 says) in
    subst (λ (t : List (List Word)). BeginsWell (counts n m) c (t ++ said)) (sym h.0) (subst (λ (k : ℕ). BeginsWell (counts n k) c said) (sym h.1) rest)
behind_elements c n m limit counted limits sections e (inr h) few limited low high says =
    let said = limits ++ flat_map section_lines sections in
    let line = codes "elements" ∷ h.0 ∷ [] in
    let own = elements_line n h.0 m h.2 few in
    let rest = behind_limit (context_after c line) n (Some m) limit limits sections (ap (λ t. context_after t line) e ∙ own.1) limited low high says in
    subst (λ (t : List (List Word)). BeginsWell (counts n m) c (t ++ said)) (sym h.1) ((ap (λ t. words_fault t line) e ∙ own.0, rest.0), rest.1)

-- the lines with words of a job
job_lines : (text : List ℕ) (job : Job) (h : IsJobText text job)
    → said_lines (lines_of text) ≡ (codes "vars" ∷ h.number ∷ []) ∷ h.element_lines ++ (h.limits ++ flat_map section_lines job.sections)
job_lines text job h = h.lines ∙ append_assoc ((codes "vars" ∷ h.number ∷ []) ∷ h.element_lines) h.limits (flat_map section_lines job.sections)

job_faultless : (text : List ℕ) (job : Job) → IsJobText text job
    → (k : ℕ) × (rs : List Register) × Faultless at_start (lines_of text) × (context_behind at_start (lines_of text) ≡ within (counts_of job) k rs)
job_faultless text job h =
    let said = job_lines text job h in
    let line = codes "vars" ∷ h.number ∷ [] in
    let first = vars_line h.number job.vars h.vars h.is_job.few_variables in
    let rest = behind_elements (context_after at_start line) job.vars job.elements job.limit h.element_lines h.limits job.sections first.1 h.elements h.is_job.few_elements h.limit h.is_job.lowest_limit h.is_job.highest_limit
    (h.is_job.some_sections, h.is_job.few_sections, h.is_job.commands) in
    let well : SaidWell at_start (line ∷ h.element_lines ++ (h.limits ++ flat_map section_lines job.sections)) = (first.0, rest.0) in
    let all = from_said at_start (lines_of text) h.clean (subst (SaidWell at_start) (sym said) well) in
    (rest.1.0, rest.1.1, all.0, all.1 ∙ ap (behind_said at_start) said ∙ rest.1.2)

pub job_or_fault : JobOrFault
job_or_fault text job place fault h (inl bad) = bad_within text place fault bad (job_faultless text job h).2
job_or_fault text job place fault h (inr early) =
    let good = job_faultless text job h in
    false≢true (sym early.early ∙ ap has_begun good.3)

same_job : (one other : Job) → one.vars ≡ other.vars → one.elements ≡ other.elements → one.limit ≡ other.limit → one.sections ≡ other.sections → one ≡ other
same_job one other v e l s =
    ap (λ t. record { vars = t; elements = one.elements; limit = one.limit; sections = one.sections }) v
    ∙ ap (λ t. record { vars = other.vars; elements = t; limit = one.limit; sections = one.sections }) e
    ∙ ap (λ t. record { vars = other.vars; elements = other.elements; limit = t; sections = one.sections }) l
    ∙ ap (λ t. record { vars = other.vars; elements = other.elements; limit = other.limit; sections = t }) s

-- sections begin with a line of their own
begins : (sections : List (List Command)) → 1 ≤ length sections → (rest : List (List Word)) × (flat_map section_lines sections ≡ (codes "session" ∷ []) ∷ rest)
begins [] some = absurd (omega (arith, some))
begins (commands ∷ sections) some = (_, refl)

-- the limit and the lines of the sections are told apart
same_rest : (limit limit' : ℕ) (limits limits' rest rest' : List (List Word)) → LimitLines limit limits → LimitLines limit' limits' → limits ++ (codes "session" ∷ []) ∷ rest ≡ limits' ++ (codes "session" ∷ []) ∷ rest'
    → (limit ≡ limit') × (rest ≡ rest')
same_rest limit limit' limits limits' rest rest' (inl h) (inl h') e =
    let lines : (codes "session" ∷ []) ∷ rest ≡ (codes "session" ∷ []) ∷ rest' = sym (ap (λ t. t ++ (codes "session" ∷ []) ∷ rest) h.0) ∙ e ∙ ap (λ t. t ++ (codes "session" ∷ []) ∷ rest') h'.0 in
    (h.1 ∙ sym h'.1, cc)
same_rest limit limit' limits limits' rest rest' (inl h) (inr h') e =
    let lines : (codes "session" ∷ []) ∷ rest ≡ (codes "limit" ∷ h'.0 ∷ []) ∷ (codes "session" ∷ []) ∷ rest' = sym (ap (λ t. t ++ (codes "session" ∷ []) ∷ rest) h.0) ∙ e ∙ ap (λ t. t ++ (codes "session" ∷ []) ∷ rest') h'.1 in
    cc
same_rest limit limit' limits limits' rest rest' (inr h) (inl h') e =
    let lines : (codes "limit" ∷ h.0 ∷ []) ∷ (codes "session" ∷ []) ∷ rest ≡ (codes "session" ∷ []) ∷ rest' = sym (ap (λ t. t ++ (codes "session" ∷ []) ∷ rest) h.1) ∙ e ∙ ap (λ t. t ++ (codes "session" ∷ []) ∷ rest') h'.0 in
    cc
same_rest limit limit' limits limits' rest rest' (inr h) (inr h') e =
    let lines : (codes "limit" ∷ h.0 ∷ []) ∷ (codes "session" ∷ []) ∷ rest ≡ (codes "limit" ∷ h'.0 ∷ []) ∷ (codes "session" ∷ []) ∷ rest' =
    sym (ap (λ t. t ++ (codes "session" ∷ []) ∷ rest) h.1) ∙ e ∙ ap (λ t. t ++ (codes "session" ∷ []) ∷ rest') h'.1 in
    let numbers : h.0 ≡ h'.0 = cc in
    (sym (h.2).1 ∙ ap (digits_value 10) numbers ∙ (h'.2).1, cc)

-- a limit and the lines of the sections don't begin with a number of elements
no_elements_first : (limit : ℕ) (limits lines : List (List Word)) (number : Word) (rest : List (List Word)) → LimitLines limit limits
    → limits ++ (codes "session" ∷ []) ∷ lines ≡ (codes "elements" ∷ number ∷ []) ∷ rest → ⊥
no_elements_first limit limits lines number rest (inl h) e =
    let same : (codes "session" ∷ []) ∷ lines ≡ (codes "elements" ∷ number ∷ []) ∷ rest = sym (ap (λ t. t ++ (codes "session" ∷ []) ∷ lines) h.0) ∙ e in
    cc
no_elements_first limit limits lines number rest (inr h) e =
    let same : (codes "limit" ∷ h.0 ∷ []) ∷ (codes "session" ∷ []) ∷ lines ≡ (codes "elements" ∷ number ∷ []) ∷ rest = sym (ap (λ t. t ++ (codes "session" ∷ []) ∷ lines) h.1) ∙ e in
    let words : codes "limit" ≡ codes "elements" = cc in
    false≢true ((bytes_eq-Decides (codes "limit") (codes "elements")).1 words)

-- the number of elements is told from what follows
same_elements : (m m' : ℕ) (counted counted' rest rest' : List (List Word)) → ElementLines m counted → ElementLines m' counted'
    → ((number : Word) (more : List (List Word)) → rest ≡ (codes "elements" ∷ number ∷ []) ∷ more → ⊥)
    → ((number : Word) (more : List (List Word)) → rest' ≡ (codes "elements" ∷ number ∷ []) ∷ more → ⊥) → counted ++ rest ≡ counted' ++ rest' → (m ≡ m') × (rest ≡ rest')
same_elements m m' counted counted' rest rest' (inl h) (inl h') other other' e =
    (h.1 ∙ sym h'.1, sym (ap (λ t. t ++ rest) h.0) ∙ e ∙ ap (λ t. t ++ rest') h'.0)
same_elements m m' counted counted' rest rest' (inl h) (inr h') other other' e =
    absurd (other h'.0 rest' (sym (ap (λ t. t ++ rest) h.0) ∙ e ∙ ap (λ t. t ++ rest') h'.1))
same_elements m m' counted counted' rest rest' (inr h) (inl h') other other' e =
    absurd (other' h.0 rest (sym (sym (ap (λ t. t ++ rest) h.1) ∙ e ∙ ap (λ t. t ++ rest') h'.0)))
same_elements m m' counted counted' rest rest' (inr h) (inr h') other other' e =
    let lines : (codes "elements" ∷ h.0 ∷ []) ∷ rest ≡ (codes "elements" ∷ h'.0 ∷ []) ∷ rest' = sym (ap (λ t. t ++ rest) h.1) ∙ e ∙ ap (λ t. t ++ rest') h'.1 in
    let numbers : h.0 ≡ h'.0 = cc in
    (sym (h.2).1 ∙ ap (digits_value 10) numbers ∙ (h'.2).1, cc)

same_counts : (v v' m m' : ℕ) → v ≡ v' → m ≡ m' → ◌≡◌ {A = Counts} (record { vars = v; elements = m }) (record { vars = v'; elements = m' })
same_counts v v' m m' e f = ap (λ (t : ℕ). record { vars = t; elements = m }) e ∙ ap (λ (t : ℕ). record { vars = v'; elements = t }) f

pub one_job : OneJob
one_job text one other h h' =
    let first = begins one.sections h.is_job.some_sections in
    let first' = begins other.sections h'.is_job.some_sections in
    let said = job_lines text one h ∙ ap (λ t. (codes "vars" ∷ h.number ∷ []) ∷ h.element_lines ++ (h.limits ++ t)) first.1 in
    let said' = job_lines text other h' ∙ ap (λ t. (codes "vars" ∷ h'.number ∷ []) ∷ h'.element_lines ++ (h'.limits ++ t)) first'.1 in
    let rest = h.limits ++ (codes "session" ∷ []) ∷ first.0 in
    let rest' = h'.limits ++ (codes "session" ∷ []) ∷ first'.0 in
    let lines : (codes "vars" ∷ h.number ∷ []) ∷ h.element_lines ++ rest ≡ (codes "vars" ∷ h'.number ∷ []) ∷ h'.element_lines ++ rest' = sym said ∙ said' in
    let numbers : h.number ≡ h'.number = cc in
    let behind : h.element_lines ++ rest ≡ h'.element_lines ++ rest' = cc in
    let counted = same_elements one.elements other.elements h.element_lines h'.element_lines rest rest' h.elements h'.elements
    (λ number more e. no_elements_first one.limit h.limits first.0 number more h.limit e) (λ number more e. no_elements_first other.limit h'.limits first'.0 number more h'.limit e) behind in
    let same = same_rest one.limit other.limit h.limits h'.limits first.0 first'.0 h.limit h'.limit counted.1 in
    let vars : one.vars ≡ other.vars = sym h.vars.1 ∙ ap (digits_value 10) numbers ∙ h'.vars.1 in
    let counts : counts_of one ≡ counts_of other = same_counts one.vars other.vars one.elements other.elements vars counted.0 in
    same_job one other vars counted.0 same.0
    (same_sections (counts_of one) one.sections other.sections h.is_job.commands (subst (λ (n : Counts). All (CommandsSay n []) other.sections) (sym counts) h'.is_job.commands)
    (first.1 ∙ ap (λ t. (codes "session" ∷ []) ∷ t) same.1 ∙ sym first'.1))
