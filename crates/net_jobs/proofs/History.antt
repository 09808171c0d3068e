-- What all sessions of a manager played is a history of the job.
use Rattle.std.proofs.Common.{◌≡◌, ℕ, zero, suc, ◌+◌, ◌<◌, ◌≤◌, ◌==◌, Bool, true, false, cond, List, [], ◌∷◌, ◌++◌, length, map, Some, All, slice_get, refl, ap, sym, subst, ◌∙◌, arith, ne_eqb}
use mathlib.Core.Logic.{dite}
use mathlib.Core.Option.{some}
use native.Mathlib.Decide.{dec_lt}
use lib.ListN.{get_elem?}
use Rattle.std.proofs.lemmas.List.Elements.{All-head, All-tail}
use Rattle.function_laws.specs.Tables.{opening}
use Rattle.function_laws.specs.Histories.{IsLegal}
use Rattle.function_laws.specs.SessionEntries.{entries_of}
use Rattle.function_laws.proofs.PlaceOrder.{one_order}
use Rattle.job_text.specs.declared.job.Job.{Job}
use Rattle.job_text.specs.declared.job.Command.{Command}
use Rattle.job_text.specs.Histories.{HistoryLine, IsHistory, IsScript, IsSession, sizes_of}
use Rattle.dd_session.specs.Managing.{IsHistoryOf, Managed, Seen, sizes_for}
use Rattle.net_jobs.specs.Sections.{entry_of}
use Rattle.net_jobs.specs.Plays.{AllGain, AreNumbered, Gains, PlaysIn, lines_of}

-- the entries of one session's lines are its entries
entries_lines : (lines : List HistoryLine) (s : ℕ) → entries_of s (map entry_of lines) ≡ map entry_of (lines_of s lines)
entries_lines [] s = refl
entries_lines (line ∷ lines) s = by (line.entry.session == s) (entries_lines lines s)
  where
    by : (b : Bool) → entries_of s (map entry_of lines) ≡ map entry_of (lines_of s lines) → cond b (line.entry ∷ entries_of s (map entry_of lines)) (entries_of s (map entry_of lines)) ≡ map entry_of (cond b (line ∷ lines_of s lines) (lines_of s lines))
    by true is = ap (λ l. line.entry ∷ l) is
    by false is = is

-- what the session of this number gained
pub record Found (n k : ℕ) (sections : List (List Command)) (old new : List Seen) (lines : List HistoryLine) : Type 0 where
  pub commands : List Command
  pub was : Seen
  pub is : Seen
  pub section : slice_get sections k ≡ Some commands
  pub before : get_elem? old k ≡ some was
  pub after : get_elem? new k ≡ some is
  pub gains : Gains commands was is (lines_of (n + k) lines)
  pub number : was.number ≡ n + k

pub found : (n k : ℕ) (sections : List (List Command)) (old new : List Seen) (lines : List HistoryLine) → AllGain n sections old new lines → AreNumbered n old → k < length sections → Found n k sections old new lines
found n k [] [] [] lines all numbers lt = absurd (omega (arith, lt))
found n k [] [] (b ∷ new) lines all numbers lt = absurd all
found n k [] (a ∷ old) new lines all numbers lt = absurd all
found n k (c ∷ sections) [] new lines all numbers lt = absurd all
found n k (c ∷ sections) (a ∷ old) [] lines all numbers lt = absurd all
found n zero (c ∷ sections) (a ∷ old) (b ∷ new) lines all numbers lt = record {
  commands = c;
  was = a;
  is = b;
  section = refl;
  before = refl;
  after = refl;
  gains = subst (λ (m : ℕ). Gains c a b (lines_of m lines)) (omega arith) all.0;
  number = numbers.0 ∙ omega arith;
}
found n (suc k) (c ∷ sections) (a ∷ old) (b ∷ new) lines all numbers lt =
    let r = found (suc n) k sections old new lines all.1 numbers.1 (omega (arith, lt)) in record {
      commands = r.commands;
      was = r.was;
      is = r.is;
      section = r.section;
      before = r.before;
      after = r.after;
      gains = subst (λ (m : ℕ). Gains r.commands r.was r.is (lines_of m lines)) (omega arith) r.gains;
      number = r.number ∙ omega arith;
    }

-- a session of the second list is one that gained
few : (n k : ℕ) (sections : List (List Command)) (old new : List Seen) (lines : List HistoryLine) (b : Seen) → AllGain n sections old new lines → get_elem? new k ≡ some b → k < length sections
few n k [] [] [] lines b all at = absurd (none_at k at)
  where
    none_at : (k : ℕ) → get_elem? {A = Seen} [] k ≡ some b → ⊥
    none_at zero e = cc
    none_at (suc k) e = cc
few n k [] [] (x ∷ new) lines b all at = absurd all
few n k [] (a ∷ old) new lines b all at = absurd all
few n k (c ∷ sections) [] new lines b all at = absurd all
few n k (c ∷ sections) (a ∷ old) [] lines b all at = absurd all
few n zero (c ∷ sections) (a ∷ old) (x ∷ new) lines b all at = omega arith
few n (suc k) (c ∷ sections) (a ∷ old) (x ∷ new) lines b all at = let r = few (suc n) k sections old new lines b all.1 at in omega (arith, r)

-- the sessions had made no call
abbrev pub AreFresh : List Seen → Type 0
AreFresh sessions = (k : ℕ) (a : Seen) → get_elem? sessions k ≡ some a → (a.entries ≡ []) × (a.adds ≡ 0)

-- All sessions of a manager with the job's numbers, which had made no call, have played a legal history of the job.
pub is_history : (job : Job) (m : Managed) (old new : List Seen) (n : ℕ) (text : List ℕ) → m.vars ≡ job.vars → m.elements ≡ job.elements → (p : PlaysIn m job.sections old new text)
    → AreNumbered 0 old → AreFresh old → IsHistoryOf m new n → IsHistory job p.lines
is_history job m old new n text vars elements p numbers fresh whole = record {
  legal = subst (λ es. IsLegal (sizes_of job) es) (sym same) (subst (λ z. IsLegal z whole.log) (λ i. sizes_for (vars i) (elements i)) whole.legal);
  told = p.told;
  sessions = says;
  no_other = p.no_other;
}
  where
    some_same : {X : Type 0} (x y : X) → Some x ≡ Some y → x ≡ y
    some_same x y e = cc

    at : (s : ℕ) → s < length job.sections → Found 0 s job.sections old new p.lines
    at s lt = found 0 s job.sections old new p.lines p.each numbers lt

    gains_at : (s : ℕ) (lt : s < length job.sections) → let f = at s lt in Gains f.commands f.was f.is (lines_of s p.lines)
    gains_at s lt = let f = at s lt in subst (λ (j : ℕ). Gains f.commands f.was f.is (lines_of j p.lines)) (omega arith) f.gains

    number_at : (s : ℕ) (lt : s < length job.sections) → (at s lt).was.number ≡ s
    number_at s lt = (at s lt).number ∙ omega arith

    below : (sections : List (List Command)) (s : ℕ) (commands : List Command) → slice_get sections s ≡ Some commands → s < length sections
    below [] s commands is = absurd (let a = is in cc)
    below (c ∷ sections) zero commands is = omega arith
    below (c ∷ sections) (suc s) commands is = let r = below sections s commands is in omega (arith, r)

    says : (s : ℕ) (commands : List Command) → slice_get job.sections s ≡ Some commands → IsSession commands (lines_of s p.lines)
    says s commands is =
        let lt = below job.sections s commands is in
        let f = at s lt in
        subst (λ (c : List Command). IsSession c (lines_of s p.lines)) (some_same f.commands commands (sym f.section ∙ is))
        (subst (λ (first : ℕ). IsScript first f.commands (lines_of s p.lines)) (fresh s f.was f.before).1 (gains_at s lt).says)

    none_of : (lines : List HistoryLine) (s : ℕ) → All (λ (line : HistoryLine). line.entry.session < length job.sections) lines → length job.sections ≤ s → entries_of s (map entry_of lines) ≡ []
    none_of [] s all le = refl
    none_of (line ∷ lines) s all le =
        let here : line.entry.session < length job.sections = All-head (λ (line : HistoryLine). line.entry.session < length job.sections) line lines all in
        ap (λ b. cond b (line.entry ∷ entries_of s (map entry_of lines)) (entries_of s (map entry_of lines))) (ne_eqb line.entry.session s (λ is. omega (arith, here, is, le)))
        ∙ none_of lines s (All-tail (λ (line : HistoryLine). line.entry.session < length job.sections) line lines all) le

    numbers_are : (k : ℕ) (b : Seen) → get_elem? new k ≡ some b → b.number ≡ k
    numbers_are k b is =
        let lt = few 0 k job.sections old new p.lines b p.each is in
        let f = at k lt in
        ap (λ (s : Seen). s.number) (sym (some_injective f.is b (sym f.after ∙ is))) ∙ (gains_at k lt).number_is ∙ number_at k lt
      where
        some_injective : (x y : Seen) → some x ≡ some y → x ≡ y
        some_injective x y e = cc

    each : (s : ℕ) → entries_of s (map entry_of p.lines) ≡ entries_of s whole.log
    each s = dite (dec_lt s (length job.sections))
        (λ lt.
        let f = at s lt in
        entries_lines p.lines s ∙ sym ((gains_at s lt).gained ∙ ap (λ l. l ++ map entry_of (lines_of s p.lines)) (fresh s f.was f.before).0)
        ∙ sym (ap (λ q. entries_of q whole.log) (sym ((gains_at s lt).number_is ∙ number_at s lt)) ∙ whole.each s f.is f.after))
        (λ above. none_of p.lines s p.no_other (omega (arith, above))
        ∙ sym (whole.no_other s (λ k b at is. let a = few 0 k job.sections old new p.lines b p.each at in let c = numbers_are k b at in omega (arith, a, c, is, above))))

    same : map entry_of p.lines ≡ whole.log
    same = one_order whole.log (map entry_of p.lines) 0 (opening (sizes_for m.vars m.elements)) whole.legal p.sorted each
