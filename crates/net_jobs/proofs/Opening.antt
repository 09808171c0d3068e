-- The sessions of a manager that was opened for a job, before and after they play.
use Rattle.std.proofs.Common.{◌≡◌, ℕ, zero, suc, ◌+◌, ◌<◌, ◌≤◌, List, [], ◌∷◌, ◌++◌, length, take, drop, All, refl, ap, ap₂, sym, subst, ◌∙◌, arith}
use mathlib.Core.Option.{some}
use lib.ListN.{get_elem?}
use Rattle.std.proofs.lemmas.List.{append_assoc, append-nil}
use Rattle.std.proofs.lemmas.List.Elements.{All-cons, All-head, All-nil, All-tail}
use Rattle.edge_bits.specs.declared.limits.TheConstants.{MOST_ROWS, MOST_SESSIONS}
use Rattle.job_text.specs.declared.job.Command.{Command}
use Rattle.job_text.specs.declared.job.Counts.{Counts}
use Rattle.job_text.specs.declared.job.Job.{Job}
use Rattle.job_text.specs.Grammar.{CommandsSay, IsJob}
use Rattle.job_text.specs.Grammar as grammar
use Rattle.job_text.specs.Histories.{HistoryLine, IsFullOf, IsPlayed, left_text}
use Rattle.dd_session.specs.Managing.{AreAll, IsClosed, Managed, Seen, newcomer, newcomers, opened}
use Rattle.net_jobs.specs.Plays.{AllCan, AllGain, AreNumbered, PlaysIn}
use Rattle.net_jobs.specs.Sections.{counts_of}
use Rattle.net_jobs.proofs.History.{AreFresh, found, is_history}
use Rattle.net_jobs.proofs.ListLemmas.{taken_back}

-- sessions from number k on, as they are opened
abbrev from : Managed → ℕ → ℕ → List Seen
from m k zero = []
from m k (suc n) = newcomer m k ∷ from m (suc k) n

so_many : (m : Managed) (j k : ℕ) → j ≡ k → newcomers m j ≡ newcomers m k
so_many m j k is = ap (newcomers m) is

newcomers_from : (m : Managed) (k n : ℕ) → newcomers m k ++ from m k n ≡ newcomers m (n + k)
newcomers_from m k zero = append-nil (newcomers m k) ∙ so_many m k (zero + k) (omega arith)
newcomers_from m k (suc n) = sym (append_assoc (newcomers m k) (newcomer m k ∷ []) (from m (suc k) n)) ∙ newcomers_from m (suc k) n ∙ so_many m (n + suc k) (suc n + k) (omega arith)

opened_from : (m : Managed) → from m 0 m.sessions ≡ opened m
opened_from m = newcomers_from m 0 m.sessions ∙ so_many m (m.sessions + 0) m.sessions (omega arith)

numbered_from : (m : Managed) (k n : ℕ) → AreNumbered k (from m k n)
numbered_from m k zero = tt
numbered_from m k (suc n) = (refl, numbered_from m (suc k) n)

long_from : (m : Managed) (k n : ℕ) → length (from m k n) ≡ n
long_from m k zero = refl
long_from m k (suc n) = ap suc (long_from m (suc k) n)

-- as many sessions as the manager is opened with, with the numbers from 0 on
pub opened_many : (m : Managed) → length (opened m) ≡ m.sessions
opened_many m = ap (length {A = Seen}) (sym (opened_from m)) ∙ long_from m 0 m.sessions

pub opened_numbered : (m : Managed) → AreNumbered 0 (opened m)
opened_numbered m = subst (AreNumbered 0) (opened_from m) (numbered_from m 0 m.sessions)

can_from : (m : Managed) (k : ℕ) (sections : List (List Command)) → All (CommandsSay (counts_of m) []) sections → All (λ (commands : List Command). length commands < MOST_ROWS) sections → AllCan m sections (from m k (length sections))
can_from m k [] say few = tt
can_from m k (c ∷ sections) say few = (
  record {
    own = refl;
    empty = refl;
    say = All-head (CommandsSay (counts_of m) []) c sections say;
    few = All-head (λ (commands : List Command). length commands < MOST_ROWS) c sections few;
    calls = omega arith;
  },
  can_from m (suc k) sections (All-tail (CommandsSay (counts_of m) []) c sections say) (All-tail (λ (commands : List Command). length commands < MOST_ROWS) c sections few),
)

fresh_from : (m : Managed) (k n j : ℕ) (a : Seen) → get_elem? (from m k n) j ≡ some a → (a.entries ≡ []) × (a.adds ≡ 0)
fresh_from m k zero zero a at = absurd (none_at at)
  where
    none_at : get_elem? {A = Seen} [] zero ≡ some a → ⊥
    none_at e = cc
fresh_from m k zero (suc j) a at = absurd (none_at at)
  where
    none_at : get_elem? {A = Seen} [] (suc j) ≡ some a → ⊥
    none_at e = cc
fresh_from m k (suc n) zero a at = let is = some_same (newcomer m k) a at in (ap (λ (s : Seen). s.entries) (sym is), ap (λ (s : Seen). s.adds) (sym is))
  where
    some_same : (x y : Seen) → some x ≡ some y → x ≡ y
    some_same x y e = cc
fresh_from m k (suc n) (suc j) a at = fresh_from m (suc k) n j a at

-- A manager that was opened for a job.
pub record IsFor (job : Job) (m : Managed) : Type 0 where
  pub vars : m.vars ≡ job.vars
  pub elements : m.elements ≡ job.elements
  pub limit : m.limit ≡ job.limit
  pub sessions : m.sessions ≡ length job.sections

module _ (job : Job) (m : Managed) (is_job : IsJob job) (is : IsFor job m) where
  from_opened : from m 0 (length job.sections) ≡ opened m
  from_opened = ap (from m 0) (sym is.sessions) ∙ opened_from m

  counts_are : counts_of m ≡ grammar.counts_of job
  counts_are i = record { vars = is.vars i; elements = is.elements i }

  pub can_play : All (λ (commands : List Command). length commands < MOST_ROWS) job.sections → AllCan m job.sections (opened m)
  can_play few = subst (AllCan m job.sections) from_opened (can_from m 0 job.sections (subst (λ (n : Counts). All (CommandsSay n []) job.sections) (sym counts_are) is_job.commands) few)

  pub are_numbered : AreNumbered 0 (opened m)
  are_numbered = subst (AreNumbered 0) from_opened (numbered_from m 0 (length job.sections))

  pub few_sessions : length (opened m) ≤ MOST_SESSIONS
  few_sessions = let n = ap (length {A = Seen}) from_opened in let l = long_from m 0 (length job.sections) in let few = is_job.few_sections in omega (arith, n, l, few)

  are_fresh : AreFresh (opened m)
  are_fresh = subst AreFresh from_opened (λ k a at. fresh_from m 0 (length job.sections) k a at)

  all_gain : (new : List Seen) (text : List ℕ) (p : PlaysIn m job.sections (opened m) new text) → (n : ℕ) (sections : List (List Command)) (olds news : List Seen) → All (λ (s : Seen). s.manager ≡ m) olds → AllGain n sections olds news p.lines
      → All (λ (s : Seen). s.manager ≡ m) news × (length news ≡ length sections)
  all_gain new text p n [] [] [] own all = (All-nil (λ (s : Seen). s.manager ≡ m), refl)
  all_gain new text p n [] [] (b ∷ news) own all = absurd all
  all_gain new text p n [] (a ∷ olds) news own all = absurd all
  all_gain new text p n (c ∷ sections) [] news own all = absurd all
  all_gain new text p n (c ∷ sections) (a ∷ olds) [] own all = absurd all
  all_gain new text p n (c ∷ sections) (a ∷ olds) (b ∷ news) own all =
      let r = all_gain new text p (suc n) sections olds news (All-tail (λ (s : Seen). s.manager ≡ m) a olds own) all.1 in
      (All-cons (λ (s : Seen). s.manager ≡ m) b news (all.0.manager_is ∙ All-head (λ (s : Seen). s.manager ≡ m) a olds own) r.0, ap suc r.1)

  own_from : (k n : ℕ) → All (λ (s : Seen). s.manager ≡ m) (from m k n)
  own_from k zero = All-nil (λ (s : Seen). s.manager ≡ m)
  own_from k (suc n) = All-cons (λ (s : Seen). s.manager ≡ m) (newcomer m k) (from m (suc k) n) refl (own_from (suc k) n)

  as_many : (new : List Seen) (text : List ℕ) → PlaysIn m job.sections (opened m) new text → length new ≡ length (opened m)
  as_many new text p =
      let g = all_gain new text p 0 job.sections (opened m) new (subst (All (λ (s : Seen). s.manager ≡ m)) from_opened (own_from 0 (length job.sections))) p.each in
      let n = ap (length {A = Seen}) from_opened in let l = long_from m 0 (length job.sections) in let k = g.1 in omega (arith, k, n, l)

  -- the slice that was lent has all sessions
  pub written_back : (new items : List Seen) (text : List ℕ) (n : ℕ) → PlaysIn m job.sections (opened m) new text → items ≡ opened m → n ≡ length items → take n (new ++ drop (length new) items) ≡ new
  written_back new items text n p at long = taken_back new items n (as_many new text p ∙ sym (ap (length {A = Seen}) at)) long

  -- they are all sessions of the manager
  pub are_all : (new : List Seen) (text : List ℕ) → PlaysIn m job.sections (opened m) new text → AreAll m new
  are_all new text p =
      let g = all_gain new text p 0 job.sections (opened m) new (subst (All (λ (s : Seen). s.manager ≡ m)) from_opened (own_from 0 (length job.sections))) p.each in record {
        own = g.0;
        as_many = g.1 ∙ sym is.sessions;
        covered = λ k lt.
            let f = found 0 k job.sections (opened m) new p.lines p.each are_numbered (let n = is.sessions in omega (arith, n, lt)) in
            (k, f.is, f.after, f.gains.number_is ∙ f.number ∙ omega arith);
      }

  -- and with the last line
  pub is_played : (new : List Seen) (text whole : List ℕ) (n left : ℕ) → PlaysIn m job.sections (opened m) new text → IsClosed m new n left → left ≡ 5 + m.vars → whole ≡ text ++ left_text left → IsPlayed job whole
  is_played new text whole n left p closed is_left is_whole = record {
    lines = p.lines;
    history = is_history job m (opened m) new n text is.vars is.elements p are_numbered are_fresh closed.history;
    full = subst (λ (k : ℕ). All (λ (line : HistoryLine). IsFullOf k line.entry.call line.entry.reply) p.lines) is.limit p.full;
    bytes = is_whole ∙ ap₂ (λ xs k. xs ++ left_text k) p.bytes (is_left ∙ ap (λ k. 5 + k) is.vars);
  }
