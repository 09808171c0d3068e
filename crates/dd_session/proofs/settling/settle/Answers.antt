use Rattle.std.proofs.Common.{◌≡◌, ℕ, Some, rules, ap, sym, subst, ◌∙◌, arith, length}
use Rattle.function_laws.specs.declared.history.Function.{Function}
use Rattle.function_laws.specs.Steps.{TellsFull}
use Rattle.seat_guard.specs.Passes.{known}
use Rattle.seat_guard.specs.declared.view.Draws.{Draws}
use Rattle.shared_store.specs.Sharing.{due}
use Rattle.dd_session.specs.Sessions.{fulls_in}
use Rattle.dd_session.specs.Requests.{call_of}
use Rattle.dd_session.proofs.Tellings.{added-told, due_denoted}
use Rattle.dd_session.proofs.Tying.{tied_same}
use Rattle.dd_session.proofs.Soundness.{sizes_of, sound_same}
use Rattle.seat_guard.specs.declared.view.Counts.{Counts}
use Rattle.dd_session.specs.Turns.{IsSettled}
use Rattle.dd_session.proofs.settling.settle.Goals as goal

pub returns-in-Err-Memory-clause-keeps : goal.returns-in-Err-Memory-clause-keeps
returns-in-Err-Memory-clause-keeps c =
    let d = known c.args.pass.now in
    let e = known c.put_back.new.pass in
    let left = c.put_back.ensures.gave.1 in
    record {
      rows = tied_same d e c.args.book.now.rows c.requires.keeps.rows (ap (λ (z : Draws). z.rows) left) (ap (λ (z : Draws). z.adds) left) (let a = ap (λ (z : Draws). length z.entries) left in omega (arith, a));
      sound = sound_same d e (ap (λ (z : Draws). z.rows) left) (ap sizes_of left) c.requires.keeps.sound;
      calls = c.requires.keeps.calls ∙ sym (ap (λ (z : Draws). length z.entries) left);
      fulls = c.requires.keeps.fulls ∙ sym (ap (λ (z : Draws). fulls_in z.entries) left);
    }

pub returns-in-Err-Memory-clause-notes : goal.returns-in-Err-Memory-clause-notes
returns-in-Err-Memory-clause-notes c = let gave = c.put_back.ensures.gave in (gave.0, ap (λ (z : Draws). z.stored) gave.1, ap (λ (z : Draws). z.due) gave.1, gave.2, ap (λ (z : Draws). z.turns) gave.1)

pub returns-in-Ok-Ok-clause-told : goal.returns-in-Ok-Ok-clause-told
returns-in-Ok-Ok-clause-told c = added-told (known c.args.pass.now) (known c.add_row-added.new.pass) (call_of c.args.request) c.args.adding c.add_row-added.result.value _ c.add_row-added.result.place _ c.add_row-added.ensures.told

-- all slots are in use where a function was due
pub be_full-full-requires-clause-numbers : goal.be_full-full-requires-clause-numbers
be_full-full-requires-clause-numbers c =
    let d = known c.args.pass.now in
    let due : (f : Function) × (due c.args.shared ≡ Some f) = search (rules, c.requires, c.in-Err-Full) in
    let o = due_denoted c.args.shared due.0 due.1 in
    let slots = ap (λ (p : ℕ × ℕ × ℕ). p.2) c.requires.serves.counts_are in
    subst (λ (n : ℕ). TellsFull d.slots (call_of c.args.request) n 1) (sym (c.in_use-in_use.ensures.full o.0 o.1 ∙ slots)) (c.requires.one d.slots)

pub returns-in-Err-Memory-clause-settles : goal.returns-in-Err-Memory-clause-settles
returns-in-Err-Memory-clause-settles c = (subst IsSettled (sym c.put_back.ensures.stands.1) c.requires.hold.5, ap (λ (z : Counts). z.zeros) c.put_back.ensures.stands.1)
