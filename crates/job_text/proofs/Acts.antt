-- Words say one thing at most.
use Rattle.std.proofs.Common.{◌≡◌, ◌==◌, Bool, true, false, cond, List, [], ◌∷◌, ◌++◌, suc, arith, map, Some, refl, ap, sym, ◌∙◌, subst, codes}
use Rattle.std.specs.List.{All, flat_map, position_or_len}
use Rattle.std.specs.Str.{bytes_eq}
use Rattle.std.specs.Str.Parse.{digits_value}
use Rattle.std.proofs.lemmas.Bool.{false≢true}
use Rattle.job_commands.specs.declared.acts.Act.{Act}
use Rattle.job_commands.specs.declared.commands.Place.{Place}
use Rattle.job_commands.specs.declared.commands.Place.TheVariants as places
use Rattle.job_text.specs.declared.job.Command.{Command}
use Rattle.job_text.specs.declared.job.Counts.{Counts}
use Rattle.job_text.specs.declared.job.Register.{Register}
use Rattle.job_text.specs.declared.operands.Operand.{Operand}
use Rattle.job_text.specs.declared.operands.Operand.TheVariants as operands
use Rattle.job_words.specs.Text.{Word, bit_word, integer_value, is_assignment}
use Rattle.job_commands.specs.Commands.{act_of}
use Rattle.job_commands.specs.Commands.{no_operands}
use Rattle.job_text.specs.Places.{AllStandFor, Follows, StandsFor, is_called, place_of as due_at, with_operands}
use Rattle.job_text.specs.Grammar.{CommandsSay, Forms, IsCommand, Says, assigns, registers_after, section_lines, tells}
use Rattle.job_text.specs.Faults.{is_session}
use Rattle.job_commands.specs.Commands.{Form, assigning, form_in, telling, words_at}
use Rattle.job_words.proofs.Bits.{digits_of, no_none}
use Rattle.job_text.proofs.Meanings.{no_assignment, says_words}

-- the bits of a word
bits_from : Word → List Bool
bits_from w = cond (bytes_eq w (codes "none")) [] (map (λ b. b == 49) w)

bit_is : (b : Bool) → (cond b 49 48 == 49) ≡ b
bit_is true = refl
bit_is false = refl

bits_are : (bs : List Bool) → map (λ b. b == 49) (digits_of bs) ≡ bs
bits_are [] = refl
bits_are (b ∷ bs) = ap (λ t. t ∷ map (λ b. b == 49) (digits_of bs)) (bit_is b) ∙ ap (λ t. b ∷ t) (bits_are bs)

bits_back : (bs : List Bool) → bits_from (bit_word bs) ≡ bs
unfolding bits_from
bits_back [] = refl
bits_back (b ∷ bs) = ap (λ t. cond t [] (map (λ b. b == 49) (bit_word (b ∷ bs)))) (no_none b bs) ∙ bits_are (b ∷ bs)

-- what a word stands for, at its place
operand_at : List Register → Place → Word → Operand
operand_at rs places.Fresh w = operands.Target
operand_at rs (places.Held kind) w = operands.Register kind (position_or_len (is_called w) rs)
operand_at rs places.Any w = operands.Any (position_or_len (is_called w) rs)
operand_at rs places.Alike w = operands.Alike (position_or_len (is_called w) rs)
operand_at rs places.Variable w = operands.Variable (digits_value 10 w)
operand_at rs places.NewVariable w = operands.NewVariable (digits_value 10 w)
operand_at rs places.Element w = operands.Element (digits_value 10 w)
operand_at rs (places.Level order) w = operands.Level order (digits_value 10 w)
operand_at rs places.Cell w = operands.Cell (digits_value 10 w)
operand_at rs places.Value w = operands.Value (integer_value w)
operand_at rs places.Bit w = operands.Bit (bytes_eq w (codes "1"))
operand_at rs places.Bits w = operands.Bits (bits_from w)
operand_at rs places.Literals w = operands.Literals

bit_back : (b : Bool) → bytes_eq (bit_word (b ∷ [])) (codes "1") ≡ b
bit_back true = refl
bit_back false = refl

at_its_place : (n : Counts) (rs : List Register) (w : Word) (o : Operand) → StandsFor n rs w o → operand_at rs (due_at o) w ≡ o
unfolding operand_at
at_its_place n rs w operands.Target h = refl
at_its_place n rs w (operands.Register kind a) h = ap (operands.Register kind) h.2
at_its_place n rs w (operands.Any a) h = ap operands.Any h.1.2
at_its_place n rs w (operands.Alike a) h = ap operands.Alike h.1.2
at_its_place n rs w (operands.Variable v) h = ap operands.Variable h.0.1
at_its_place n rs w (operands.NewVariable v) h = ap operands.NewVariable h.0.1
at_its_place n rs w (operands.Element e) h = ap operands.Element h.0.1
at_its_place n rs w (operands.Level order l) h = ap (operands.Level order) h.0.1
at_its_place n rs w (operands.Cell k) h = ap operands.Cell h.0.1
at_its_place n rs w (operands.Value v) h = ap operands.Value h.0.1
at_its_place n rs w (operands.Bit b) h = ap operands.Bit (ap (λ t. bytes_eq t (codes "1")) h ∙ bit_back b)
at_its_place n rs w (operands.Bits bs) h = ap operands.Bits (ap bits_from h ∙ bits_back bs)
at_its_place n rs w operands.Literals h = refl

one_operand : (n : Counts) (rs : List Register) (w : Word) (o o' : Operand) (place : Place) → due_at o ≡ place → due_at o' ≡ place → StandsFor n rs w o → StandsFor n rs w o' → o ≡ o'
one_operand n rs w o o' place e e' h h' =
    sym (at_its_place n rs w o h) ∙ ap (λ p. operand_at rs p w) (e ∙ sym e') ∙ at_its_place n rs w o' h'

-- the same words at the same places stand for the same
same_operands : (n : Counts) (rs : List Register) (due repeated : List Place) (words : List Word) (os os' : List Operand) → Follows due repeated os → Follows due repeated os'
    → AllStandFor n rs words os → AllStandFor n rs words os' → os ≡ os'
same_operands n rs due repeated [] [] [] f f' h h' = refl
same_operands n rs due repeated [] (o ∷ os) os' f f' h h' = absurd h
same_operands n rs due repeated [] [] (o' ∷ os') f f' h h' = absurd h'
same_operands n rs due repeated (w ∷ words) [] os' f f' h h' = absurd h
same_operands n rs due repeated (w ∷ words) (o ∷ os) [] f f' h h' = absurd h'
same_operands n rs [] [] (w ∷ words) (o ∷ os) (o' ∷ os') f f' h h' = absurd f
same_operands n rs [] (p ∷ ps) (w ∷ words) (o ∷ os) (o' ∷ os') f f' h h' =
    ap (λ t. t ∷ os) (one_operand n rs w o o' p f.0 f'.0 h.0 h'.0) ∙ ap (λ t. o' ∷ t) (same_operands n rs ps (p ∷ ps) words os os' f.1 f'.1 h.1 h'.1)
same_operands n rs (p ∷ ps) repeated (w ∷ words) (o ∷ os) (o' ∷ os') f f' h h' =
    ap (λ t. t ∷ os) (one_operand n rs w o o' p f.0 f'.0 h.0 h'.0) ∙ ap (λ t. o' ∷ t) (same_operands n rs ps repeated words os os' f.1 f'.1 h.1 h'.1)

-- commands of one word, for which the same words are due, are one, with the same operands
one_command : (n : Counts) (rs : List Register) (forms : List Form) (command command' : Word) (due due' : Form → List Word) (own own' : Form) (os os' : List Operand)
    → IsCommand n rs forms command (due own) own os → IsCommand n rs forms command' (due' own') own' os' → command ≡ command' → due own' ≡ due' own' → (own ≡ own') × (os ≡ os')
one_command n rs forms command command' due due' own own' os os' k k' e e' =
    let found : Some own ≡ Some own' = sym k.found ∙ ap (form_in forms) e ∙ k'.found in
    let same : own ≡ own' = cc in (
      same,
      same_operands n rs own'.places own'.repeated (due' own') os os' (subst (λ (t : Form). Follows t.places t.repeated os) same k.follows) k'.follows
          (subst (λ (t : List Word). AllStandFor n rs t os) e' (subst (λ (t : Form). AllStandFor n rs (due t) os) same k.stand)) k'.stand,
    )

told_apart : (n : Counts) (rs : List Register) (words : List Word) (r command command' : Word) (rest rest' : List Word) (os' : List Operand) → words ≡ r ∷ codes "=" ∷ command ∷ rest
    → words ≡ command' ∷ rest' → AllStandFor n rs rest' os' → ⊥
told_apart n rs words r command command' rest rest' os' e e' h' =
    false≢true (sym (no_assignment n rs command' rest' os' h') ∙ ap is_assignment (sym e' ∙ e))

one_form : (n : Counts) (rs : List Register) (words : List Word) (own own' : Form) (os os' : List Operand) → Forms n rs words own os → Forms n rs words own' os' → (own ≡ own') × (os ≡ os')
one_form n rs words own own' os os' (assigns r command rest e fresh k) (assigns r' command' rest' e' fresh' k') =
    let lines : r ∷ codes "=" ∷ command ∷ rest ≡ r' ∷ codes "=" ∷ command' ∷ rest' = sym e ∙ e' in
    let words : command ≡ command' = cc in
    let others : rest ≡ rest' = cc in
    one_command n rs assigning command command' (λ f. words_at f.places command rest) (λ f. words_at f.places command' rest') own own' os os' k k' words
    (ap (λ w. words_at own'.places w rest) words ∙ ap (λ t. words_at own'.places command' t) others)
one_form n rs words own own' os os' (assigns r command rest e fresh k) (tells command' rest' e' k') =
    absurd (told_apart n rs words r command command' rest rest' os' e e' k'.stand)
one_form n rs words own own' os os' (tells command rest e k) (assigns r' command' rest' e' fresh' k') =
    absurd (told_apart n rs words r' command' command rest' rest os e' e k.stand)
one_form n rs words own own' os os' (tells command rest e k) (tells command' rest' e' k') =
    let lines : command ∷ rest ≡ command' ∷ rest' = sym e ∙ e' in
    one_command n rs telling command command' (λ f. rest) (λ f. rest') own own' os os' k k' (cc) (cc)

one_act : (n : Counts) (rs : List Register) (words words' : List Word) (act act' : Act) → words ≡ words' → Says n rs words act → Says n rs words' act' → act ≡ act'
one_act n rs words words' act act' e h h' =
    let same = one_form n rs words h.own h'.own h.operands h'.operands h.forms (subst (λ (t : List Word). Forms n rs t h'.own h'.operands) (sym e) h'.forms) in
    h.means ∙ ap (λ (t : Form). act_of t.opcode (with_operands rs no_operands h.operands)) same.0 ∙ ap (λ t. act_of h'.own.opcode (with_operands rs no_operands t)) same.1 ∙ sym h'.means

-- a command is no line that begins a section
no_begin : (n : Counts) (rs : List Register) (c : Command) (words : List Word) → Says n rs c.words c.act → is_session words ≡ true → words ≡ c.words → ⊥
no_begin n rs c words h begins e = false≢true (sym (says_words n rs c.words c.act h).3 ∙ ap is_session (sym e) ∙ begins)

-- the lines of some sections: none, or first one that begins a section
abbrev AtBegin : List (List Word) → Type 0
AtBegin [] = Unit {0}
AtBegin (words ∷ lines) = is_session words ≡ true

sections_begin : (sections : List (List Command)) → AtBegin (flat_map section_lines sections)
sections_begin [] = tt
sections_begin (commands ∷ sections) = refl

abbrev words_in : List Command → List (List Word)
words_in commands = map (λ (command : Command). command.words) commands

-- commands of the same words are the same, up to where a section begins
same_commands : (n : Counts) (rs : List Register) (commands commands' : List Command) (rest rest' : List (List Word)) → CommandsSay n rs commands → CommandsSay n rs commands' → AtBegin rest → AtBegin rest'
    → words_in commands ++ rest ≡ words_in commands' ++ rest' → (commands ≡ commands') × (rest ≡ rest')
same_commands n rs [] [] rest rest' h h' b b' e = (refl, e)
same_commands n rs [] (c' ∷ commands') [] rest' h h' b b' e = cc
same_commands n rs [] (c' ∷ commands') (words ∷ rest) rest' h h' b b' e = absurd (no_begin n rs c' words h'.0 b (cc))
same_commands n rs (c ∷ commands) [] rest [] h h' b b' e = cc
same_commands n rs (c ∷ commands) [] rest (words ∷ rest') h h' b b' e = absurd (no_begin n rs c words h.0 b' (cc))
same_commands n rs (c ∷ commands) (c' ∷ commands') rest rest' h h' b b' e =
    let words : c.words ≡ c'.words = cc in
    let others : words_in commands ++ rest ≡ words_in commands' ++ rest' = cc in
    let more = same_commands n (registers_after rs c.words) commands commands' rest rest' h.1 (subst (λ (w : List Word). CommandsSay n (registers_after rs w) commands') (sym words) h'.1) b b' others in (
      ap (λ w. record { words = w; act = c.act } ∷ commands) words
          ∙ ap (λ a. record { words = c'.words; act = a } ∷ commands) (one_act n rs c.words c'.words c.act c'.act words h.0 h'.0)
          ∙ ap (λ cs. c' ∷ cs) more.0,
      more.1,
    )

-- sections of the same lines are the same
pub same_sections : (n : Counts) (sections sections' : List (List Command)) → All (CommandsSay n []) sections → All (CommandsSay n []) sections' → flat_map section_lines sections ≡ flat_map section_lines sections' → sections ≡ sections'
same_sections n [] [] h h' e = refl
same_sections n [] (commands' ∷ sections') h h' e = cc
same_sections n (commands ∷ sections) [] h h' e = cc
same_sections n (commands ∷ sections) (commands' ∷ sections') h h' e =
    let lines : words_in commands ++ flat_map section_lines sections ≡ words_in commands' ++ flat_map section_lines sections' = cc in
    let same = same_commands n [] commands commands' (flat_map section_lines sections) (flat_map section_lines sections') (h 0 commands (omega arith)) (h' 0 commands' (omega arith)) (sections_begin sections) (sections_begin sections') lines in
    ap (λ t. t ∷ sections) same.0
    ∙ ap (λ t. commands' ∷ t) (same_sections n sections sections' (λ k d lt. h (suc k) d (omega arith)) (λ k d lt. h' (suc k) d (omega arith)) same.1)
