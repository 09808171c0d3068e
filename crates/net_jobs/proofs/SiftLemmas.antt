-- What a sift told is what the session's last entry has.
use Rattle.std.proofs.Common.{◌≡◌, ℕ, ◌-◌, false, List, [], ◌∷◌, ◌++◌, length, Some, refl, sym, ap, subst, ◌∙◌, arith}
use Rattle.std.specs.Prelude.{slice_get}
use Rattle.std.proofs.lemmas.List.{length_push}
use Rattle.function_laws.specs.declared.history.Call.{Call}
use Rattle.function_laws.specs.declared.history.Call.TheVariants as calls
use Rattle.function_laws.specs.declared.history.Entry.{Entry}
use Rattle.function_laws.specs.declared.history.Reply.TheVariants as replies
use Rattle.function_laws.specs.declared.history.Sifting.{Sifting}
use Rattle.function_laws.specs.declared.orders.Order.TheVariants.{Variables, Elements}
use Rattle.function_laws.specs.SessionEntries.{entry}
use Rattle.job_commands.specs.declared.acts.Act.TheVariants as acts
use Rattle.dd_session.specs.Sessions.{Called, Seen}
use Rattle.net_jobs.specs.declared.answering.Answered.{Answered}
use Rattle.net_jobs.specs.declared.registers.Assigned.{Assigned}
use Rattle.net_jobs.specs.Saying.{AnswersAct, IsAnswered, last_told, makes_row, told_by, told_in}

at_end : (es : List Entry) (e : Entry) → slice_get (es ++ e ∷ []) (length es) ≡ Some e
at_end [] e = refl
at_end (x ∷ es) e = at_end es e

pub last_is : (es : List Entry) (e : Entry) → last_told (es ++ e ∷ []) ≡ told_by e.call
last_is es e =
    let longer = length_push es e in
    let at : length (es ++ e ∷ []) - 1 ≡ length es = omega (arith, longer) in
    ap (λ n. told_in (slice_get (es ++ e ∷ []) n)) at ∙ ap told_in (at_end es e)

-- a sift's call is that of its last entry
pub sift_called : (old new : Seen) (told : Sifting) (place : ℕ) → Called old new (calls.Sift told) replies.Done place → Called old new (calls.Sift (last_told new.entries)) replies.Done place
sift_called old new told place called =
    subst (λ t. Called old new (calls.Sift t) replies.Done place) (sym (ap last_told called.entries_are ∙ last_is old.entries (entry place old.number (calls.Sift told) replies.Done))) called

pub sift_elements_called : (old new : Seen) (told : Sifting) (place : ℕ) → Called old new (calls.SiftElements told) replies.Done place → Called old new (calls.SiftElements (last_told new.entries)) replies.Done place
sift_elements_called old new told place called =
    subst (λ t. Called old new (calls.SiftElements t) replies.Done place) (sym (ap last_told called.entries_are ∙ last_is old.entries (entry place old.number (calls.SiftElements told) replies.Done))) called

-- so it is answered as done
pub variables_answered : (old new : Seen) (told : Sifting) (place : ℕ) (answered : Answered) → Called old new (calls.Sift told) replies.Done place
    → ((call : Call) → makes_row call ≡ false → Called old new call replies.Done place → IsAnswered old new call answered) → (names : List Assigned) → AnswersAct old new names (acts.Sift Variables) answered
variables_answered old new told place answered called says names = says (calls.Sift (last_told new.entries)) refl (sift_called old new told place called)

pub elements_answered : (old new : Seen) (told : Sifting) (place : ℕ) (answered : Answered) → Called old new (calls.SiftElements told) replies.Done place
    → ((call : Call) → makes_row call ≡ false → Called old new call replies.Done place → IsAnswered old new call answered) → (names : List Assigned) → AnswersAct old new names (acts.Sift Elements) answered
elements_answered old new told place answered called says names = says (calls.SiftElements (last_told new.entries)) refl (sift_elements_called old new told place called)
