-- A text is read line by line.
use Rattle.std.proofs.Common.{◌≡◌, ◌≤◌, ◌<◌, ℕ, suc, true, List, [], ◌∷◌, ◌++◌, Some, None, refl, ap, sym, ◌∙◌, subst, append_assoc, append-nil}
use Rattle.std.specs.Prelude.{option_map}
use Rattle.std.specs.List.{list_all}
use Rattle.std.specs.Option.{option_or}
use Rattle.std.proofs.lemmas.Bool.{and_parts}
use Rattle.std.proofs.lemmas.List.Folds.{list_all-append}
use Rattle.blif_text.specs.Marks.{is_plain}
use Rattle.blif_text.specs.Text.{Line, joined_from, joined_lines, line_at, lines_of, words_of}
use Rattle.blif_text.proofs.Marks.{words_are_plain}
use Rattle.blif_net.specs.declared.faults.BlifError.{BlifError}
use Rattle.blif_net.specs.declared.faults.BlifStop.{BlifStop}
use Rattle.blif_net.specs.declared.faults.BlifStop.TheVariants as stops
use Rattle.blif_net.specs.declared.faults.FaultKind.{FaultKind}
use Rattle.blif_net.specs.declared.reading.Reading.{Reading}
use Rattle.cover_nets.specs.declared.net.Net.{Net}
use Rattle.blif_wholes.specs.Networks.{IsNetOf}
use Rattle.blif_net.specs.declared.faults.BlifError.TheVariants as errors
use Rattle.blif_net.specs.Circuits.{Context, after_line, at_start, behind, circuit_of, close, models_in}
use Rattle.blif_net.specs.Ending.{ErrorIs, IsNetFrom}
use Rattle.blif_net.specs.Faults.{HasFault, fault_at, fault_in, fault_of, faulty_line, last_number, line_fault, models_fault}
use Rattle.blif_net.specs.Networks.{IsBlifText}
use Rattle.blif_net.specs.Reading.{Closes, IsReadFrom, IsReadWhole, IsReadingOf, StopsLine, TakesLine, stopped_at}
use Rattle.blif_net.specs.Sound.{ArePlainLines}
use Rattle.blif_net.proofs.ModelLines.{drafts_follow}
use Rattle.blif_net.proofs.NoFaults.{none_of}
use Rattle.blif_drafts.specs.declared.open_models.OpenModels.{OpenModels}
use Rattle.blif_drafts.specs.OpenModels.{NamesPass}
use Rattle.blif_net.specs.ModelLines.{AreLeftBy}

-- lines and one behind them
behind_last : (c : Context) (lines : List Line) (line : Line) → behind c (lines ++ line ∷ []) ≡ after_line (behind c lines) line
unfolding behind
behind_last c [] line = refl
behind_last c (x ∷ lines) line = behind_last (after_line c x) lines line

first_faulty : (c : Context) (lines : List Line) (line : Line) (more : List Line) → faulty_line c lines ≡ None → faulty_line c (lines ++ line ∷ more) ≡ faulty_line (behind c lines) (line ∷ more)
unfolding behind faulty_line
first_faulty c [] line more h = refl
first_faulty c (x ∷ lines) line more h =
    let both = none_of (option_map (λ kind. fault_at kind x.number) (line_fault c x)) (faulty_line (after_line c x) lines) h in
    ap (λ t. option_or t (faulty_line (after_line c x) (lines ++ line ∷ more))) both.0 ∙ first_faulty (after_line c x) lines line more both.1

none_there : (c : Context) (line : Line) → line_fault c line ≡ None → faulty_line c (line ∷ []) ≡ None
unfolding faulty_line
none_there c line h = ap (λ t. option_or (option_map (λ kind. fault_at kind line.number) t) None) h

some_there : (c : Context) (line : Line) (more : List Line) (kind : FaultKind) → line_fault c line ≡ Some kind → faulty_line c (line ∷ more) ≡ Some (fault_at kind line.number)
unfolding faulty_line
some_there c line more kind h = ap (λ t. option_or (option_map (λ one. fault_at one line.number) t) (faulty_line (after_line c line) more)) h

last_is : (lines : List Line) (line : Line) → last_number (lines ++ line ∷ []) ≡ line.number
last_is [] line = refl
last_is (x ∷ []) line = refl
last_is (x ∷ y ∷ lines) line = last_is (y ∷ lines) line

-- What was read of a text: its first lines.
pub record IsReadOf (text rest : List ℕ) (number last : ℕ) (one : Reading) : Type 0 where
  pub lines : List Line
  pub so_far : joined_lines text ≡ lines ++ joined_from number (lines_of rest)
  pub read : IsReadFrom lines number one
  pub last_line : last ≡ last_number lines

pub nothing_read : (one : Reading) → IsReadingOf 1 at_start one → IsReadFrom [] 1 one
unfolding behind faulty_line
nothing_read one h = record { faultless = refl; reading = h }

-- no word of a text has a `#`
pub text_plain : (text : List ℕ) → ArePlainLines (joined_lines text)
text_plain text = words_are_plain text

plain_here : (text : List ℕ) (lines more : List Line) (line : Line) → joined_lines text ≡ lines ++ line ∷ more → list_all is_plain (words_of line.bytes) ≡ true
plain_here text lines more line e =
    let test = λ (one : Line). list_all is_plain (words_of one.bytes) in
    let all : list_all test (lines ++ line ∷ more) ≡ true = sym (ap (list_all test) e) ∙ words_are_plain text in
    let back = and_parts (list_all test lines) (list_all test (line ∷ more)) (sym (list_all-append test lines (line ∷ more)) ∙ all) in
    (and_parts (test line) (list_all test more) back.1).0

later : (n number : ℕ) (c : Context) (one : Reading) → n ≤ number → IsReadingOf n c one → IsReadingOf number c one
later n number c one le h = record { models = drafts_follow.later n number c one.models le h.models; plain = h.plain; left = h.left }

-- one line more
pub read_step : (text rest rest' bytes : List ℕ) (number number' last : ℕ) (old new : Reading) → IsReadOf text rest number last old → joined_from number (lines_of rest) ≡ line_at number bytes ∷ joined_from number' (lines_of rest') → number < number'
    → TakesLine old (line_at number bytes) new → IsReadOf text rest' number' number new
read_step text rest rest' bytes number number' last old new r e less t =
    let line = line_at number bytes in
    let more = joined_from number' (lines_of rest') in
    let whole : joined_lines text ≡ r.lines ++ line ∷ more = r.so_far ∙ ap (λ l. r.lines ++ l) e in
    let c = behind at_start r.lines in
    record {
      lines = r.lines ++ line ∷ [];
      so_far = whole ∙ sym (append_assoc r.lines (line ∷ []) more);
      read = record {
        faultless = first_faulty at_start r.lines line [] (r.read).faultless ∙ none_there c line (t.faultless c (r.read).reading);
        reading = subst (λ (d : Context). IsReadingOf number' d new) (sym (behind_last at_start r.lines line)) (later (suc number) number' (after_line c line) new less (t.after c (plain_here text r.lines more line whole) (r.read).reading));
      };
      last_line = sym (last_is r.lines line);
    }

-- why the next line was not taken
line_fails : (text rest rest' bytes : List ℕ) (number number' last : ℕ) (old : Reading) (kind : FaultKind) → IsReadOf text rest number last old → joined_from number (lines_of rest) ≡ line_at number bytes ∷ joined_from number' (lines_of rest')
    → StopsLine old (line_at number bytes) (stops.Fault kind) → fault_of text ≡ Some (fault_at kind number)
unfolding fault_of
line_fails text rest rest' bytes number number' last old kind r e s =
    let line = line_at number bytes in
    let more = joined_from number' (lines_of rest') in
    let all : joined_lines text ≡ r.lines ++ line ∷ more = r.so_far ∙ ap (λ l. r.lines ++ l) e in
    ap fault_in all
    ∙ ap (λ t. option_or t (models_fault (r.lines ++ line ∷ more) (models_in (behind at_start (r.lines ++ line ∷ more)))))
    (first_faulty at_start r.lines line more (r.read).faultless ∙ some_there (behind at_start r.lines) line more kind (s (behind at_start r.lines) (r.read).reading))

pub line_stops : (text rest rest' bytes : List ℕ) (number number' last : ℕ) (old : Reading) (stop : BlifStop) → IsReadOf text rest number last old → joined_from number (lines_of rest) ≡ line_at number bytes ∷ joined_from number' (lines_of rest')
    → StopsLine old (line_at number bytes) stop → HasFault text (stopped_at number stop)
line_stops text rest rest' bytes number number' last old stops.Memory r e s = tt
line_stops text rest rest' bytes number number' last old (stops.Fault kind) r e s = line_fails text rest rest' bytes number number' last old kind r e s

-- the whole was read
no_lines : (number : ℕ) (rest : List ℕ) → rest ≡ [] → joined_from number (lines_of rest) ≡ []
unfolding joined_from lines_of
no_lines number rest e = ap (λ t. joined_from number (lines_of t)) e

pub all_lines : (text rest : List ℕ) (number last : ℕ) (one : Reading) (r : IsReadOf text rest number last one) → rest ≡ [] → joined_lines text ≡ r.lines
all_lines text rest number last one r e = r.so_far ∙ ap (λ l. r.lines ++ l) (no_lines number rest e) ∙ append-nil r.lines

pub read_whole : (lines : List Line) (number : ℕ) (old new : Reading) → IsReadFrom lines number old → Closes old new → IsReadWhole lines new
read_whole lines number old new r a = record {
  faultless = r.faultless;
  number = number;
  reading = record {
    models = subst (λ (t : OpenModels). AreLeftBy number (close (behind at_start lines)) t) (sym a.models) (drafts_follow.closes number (behind at_start lines) old.models (r.reading).models);
    plain = subst (λ (t : OpenModels). NamesPass is_plain t) (sym a.models) (r.reading).plain;
    left = a.left (behind at_start lines) (r.reading).left;
  };
}

pub text_net : (text : List ℕ) (lines : List Line) (net : Net) → joined_lines text ≡ lines → IsNetFrom lines net → IsBlifText text net
unfolding fault_of
text_net text lines net e n = record { faultless = ap fault_in e ∙ n.0; net_of = subst (λ (l : List Line). IsNetOf (circuit_of l) net) (sym e) n.1 }

pub text_fault : (text : List ℕ) (lines : List Line) (error : BlifError) → joined_lines text ≡ lines → ErrorIs (fault_in lines) error → HasFault text error
unfolding fault_of
text_fault text lines errors.Memory e h = tt
text_fault text lines (errors.Fault fault) e h = ap fault_in e ∙ h
