-- The lines of a text, taken one after another.
use Rattle.std.proofs.Common.{◌≡◌, ℕ, ◌+◌, List, [], ◌∷◌, Option, Some, None, refl, sym, ◌∙◌, ap, subst}
use Rattle.std.specs.Option.{option_map, option_or}
use Rattle.job_words.specs.Text.{lines_of, split_words}
use Rattle.edge_bits.specs.declared.edges.Line.{Line}
use Rattle.diagram_dumps.specs.declared.dump.Dump.{Dump}
use Rattle.dddmp_text.specs.declared.faults.DddmpError.{DddmpError}
use Rattle.dddmp_text.specs.declared.faults.DddmpFault.{DddmpFault}
use Rattle.dddmp_text.specs.declared.faults.DddmpStop.{DddmpStop}
use Rattle.dddmp_text.specs.declared.faults.DddmpStop.TheVariants as stops
use Rattle.dddmp_text.specs.declared.faults.FaultKind.{FaultKind}
use Rattle.dddmp_text.specs.declared.fields.Given.{Given}
use Rattle.dddmp_text.specs.Faults.{Context, IsDddmpText, after_words, at_start, behind, dump_in, dump_of, end_fault, ended, fault_at, fault_of, faulty_line, words_fault}
use Rattle.dddmp_text.specs.Reading.{AreLeft, ErrorIs, HasFault, StopIs, stopped_at}

-- all lines are left
pub all-left : (number : ℕ) (c : Context) (rest : List ℕ) → AreLeft number c (lines_of rest) number c rest
all-left number c rest = record { faults = refl; leaves = refl }

nothing-there : lines_of [] ≡ []
unfolding lines_of
nothing-there = refl

pub no-lines : (rest : List ℕ) → rest ≡ [] → lines_of rest ≡ []
no-lines rest e = ap lines_of e ∙ nothing-there

module _ (number0 : ℕ) (c0 : Context) (lines0 : List (List ℕ)) (number : ℕ) (c : Context) (rest : List ℕ) (left : AreLeft number0 c0 lines0 number c rest) where
  -- one line without a fault was taken
  pub one-less : (line behind' : List ℕ) (c' : Context) → lines_of rest ≡ line ∷ lines_of behind' → words_fault c (split_words line) ≡ None → after_words c (split_words line) ≡ c'
      → AreLeft number0 c0 lines0 (number + 1) c' behind'
  unfolding faulty_line behind
  one-less line behind' c' lines faultless leaves = record {
    faults = left.faults ∙ ap (faulty_line number c) lines
        ∙ ap (λ (fault : Option FaultKind). option_or (option_map (fault_at number) fault) (faulty_line (number + 1) (after_words c (split_words line)) (lines_of behind'))) faultless
        ∙ ap (λ (t : Context). faulty_line (number + 1) t (lines_of behind')) leaves;
    leaves = left.leaves ∙ ap (behind c) lines ∙ ap (λ (t : Context). behind t (lines_of behind')) leaves;
  }

  line-faulty : (line behind' : List ℕ) (kind : FaultKind) → lines_of rest ≡ line ∷ lines_of behind' → words_fault c (split_words line) ≡ Some kind → faulty_line number0 c0 lines0 ≡ Some (fault_at number kind)
  unfolding faulty_line
  line-faulty line behind' kind lines fault =
      left.faults ∙ ap (faulty_line number c) lines
      ∙ ap (λ (t : Option FaultKind). option_or (option_map (fault_at number) t) (faulty_line (number + 1) (after_words c (split_words line)) (lines_of behind'))) fault

  -- the next line was not taken
  pub line-stops : (line behind' : List ℕ) (stop : DddmpStop) → lines_of rest ≡ line ∷ lines_of behind' → StopIs (words_fault c (split_words line)) stop → ErrorIs (faulty_line number0 c0 lines0) (stopped_at number stop)
  line-stops line behind' stops.Memory lines h = tt
  line-stops line behind' (stops.Fault kind) lines h = line-faulty line behind' kind lines h

  -- no line is left
  pub none-left : (kind : FaultKind) → rest ≡ [] → end_fault c ≡ Some kind → faulty_line number0 c0 lines0 ≡ Some (fault_at number kind)
  unfolding faulty_line
  none-left kind nothing fault = left.faults ∙ ap (faulty_line number c) (no-lines rest nothing) ∙ ap (option_map (fault_at number)) fault

-- lines behind `.end`
passed-faults : (number : ℕ) (given : List Given) (nodes : List Line) (lines : List (List ℕ)) → faulty_line number (ended given nodes) lines ≡ None
unfolding faulty_line
passed-faults number given nodes [] = refl
passed-faults number given nodes (line ∷ lines) = passed-faults (number + 1) given nodes lines

passed-leaves : (given : List Given) (nodes : List Line) (lines : List (List ℕ)) → behind (ended given nodes) lines ≡ ended given nodes
unfolding behind
passed-leaves given nodes [] = refl
passed-leaves given nodes (line ∷ lines) = passed-leaves given nodes lines

module _ (number0 : ℕ) (c0 : Context) (lines0 : List (List ℕ)) (number : ℕ) (given : List Given) (nodes : List Line) (rest : List ℕ) (left : AreLeft number0 c0 lines0 number (ended given nodes) rest) where
  pub ended-faultless : faulty_line number0 c0 lines0 ≡ None
  ended-faultless = left.faults ∙ passed-faults number given nodes (lines_of rest)

  pub ended-leaves : behind c0 lines0 ≡ ended given nodes
  ended-leaves = left.leaves ∙ passed-leaves given nodes (lines_of rest)

-- of a whole text
fault-is : (text : List ℕ) → fault_of text ≡ faulty_line 1 at_start (lines_of text)
unfolding fault_of
fault-is text = refl

dump-is : (text : List ℕ) → dump_of text ≡ dump_in (behind at_start (lines_of text))
unfolding dump_of
dump-is text = refl

pub text-fault : (text : List ℕ) (error : DddmpError) → ErrorIs (faulty_line 1 at_start (lines_of text)) error → HasFault text error
text-fault text error h = subst (λ (fault : Option DddmpFault). ErrorIs fault error) (sym (fault-is text)) h

module _ (text : List ℕ) (number : ℕ) (c : Context) (rest : List ℕ) where
  pub text-fault-left : (error : DddmpError) → AreLeft 1 at_start (lines_of text) number c rest → ErrorIs (faulty_line number c (lines_of rest)) error → HasFault text error
  text-fault-left error left h = text-fault text error (subst (λ (fault : Option DddmpFault). ErrorIs fault error) (sym left.faults) h)

  pub text-dump : (dump : Dump) → AreLeft 1 at_start (lines_of text) number c rest → faulty_line number c (lines_of rest) ≡ None → dump ≡ dump_in (behind c (lines_of rest)) → IsDddmpText text dump
  text-dump dump left faultless is = record { faultless = fault-is text ∙ left.faults ∙ faultless; dump_is = is ∙ ap dump_in (sym left.leaves) ∙ sym (dump-is text) }
