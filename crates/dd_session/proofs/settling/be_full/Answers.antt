use Rattle.std.proofs.Common.{ℕ, refl, ap, sym, subst, ◌∙◌, arith}
use Rattle.function_laws.specs.declared.history.Reply.TheVariants as replies
use Rattle.seat_guard.specs.Passes.{known, counts_of}
use Rattle.seat_guard.specs.declared.view.Draws.{Draws}
use Rattle.dd_session.specs.Requests.{call_of}
use Rattle.dd_session.specs.Turns.{Tied}
use Rattle.dd_session.proofs.Serving.{serves-same}
use Rattle.dd_session.proofs.Tellings.{knows_quiet, may_be_refused, quiet}
use Rattle.dd_session.proofs.Tying.{longer_by, tied_same}
use Rattle.dd_session.proofs.Movings.{moves_quiet, settles_quiet}
use Rattle.dd_session.proofs.RequestLemmas.{carries_none}
use Rattle.dd_session.proofs.Soundness.{sizes_of, sound_same}
use Rattle.dd_session.proofs.settling.be_full.Goals as goal

pub finish-place-requires-clause-step : goal.finish-place-requires-clause-step
finish-place-requires-clause-step c = may_be_refused (known c.args.pass.now) c.args.request c.args.in_use c.args.need c.requires.hold.2 c.requires.fits c.requires.outcome

pub finish-place-requires-clause-serves : goal.finish-place-requires-clause-serves
finish-place-requires-clause-serves c = serves-same c.args.shared (known c.args.pass.now) _ (counts_of c.args.pass.now) _ c.requires.serves (knows_quiet (known c.args.pass.now) c.args.request (replies.Full c.args.in_use c.args.need) (record { plain = λ name n e. cc; no_swap = λ order level a b. cc })) refl refl refl

pub returns-clause-keeps : goal.returns-clause-keeps
returns-clause-keeps c =
    let d = known c.args.pass.now in
    let e = known c.finish-place.new.pass in
    let left = c.finish-place.ensures.drew.left in
    let more = longer_by d e _ (ap (λ (z : Draws). z.entries) left) in record {
      rows = subst (Tied e) (sym c.finish-place.ensures.rows) (tied_same d e c.args.book.now.rows c.requires.keeps.rows (ap (λ (z : Draws). z.rows) left) (ap (λ (z : Draws). z.adds) left) (omega (arith, more)));
      sound = sound_same d e (ap (λ (z : Draws). z.rows) left) (ap sizes_of left) c.requires.keeps.sound;
      calls = c.finish-place.ensures.calls.0;
      fulls = c.finish-place.ensures.calls.1;
    }

pub returns-clause-told : goal.returns-clause-told
returns-clause-told c = (
  (c.args.shared, quiet (call_of c.args.request) (replies.Full c.args.in_use c.args.need), refl, refl, c.finish-place.ensures.drew),
  c.limit-limit.ensures.limit ∙ ap (λ (p : ℕ × ℕ × ℕ). p.2) c.requires.serves.counts_are,
  c.requires.numbers,
)

pub returns-clause-notes : goal.returns-clause-notes
returns-clause-notes c = let drew = c.finish-place.ensures.drew in (drew.leaving, ap (λ (z : Draws). z.stored) drew.left, ap (λ (z : Draws). z.due) drew.left, drew.is_leaving, ap (λ (z : Draws). z.turns) drew.left)

pub finish-place-requires-clause-moves : goal.finish-place-requires-clause-moves
finish-place-requires-clause-moves c = moves_quiet (known c.args.pass.now) (counts_of c.args.pass.now) (call_of c.args.request) (replies.Full c.args.in_use c.args.need) c.requires.hold.5 (carries_none (counts_of c.args.pass.now) c.args.request)

pub returns-clause-settles : goal.returns-clause-settles
returns-clause-settles c = settles_quiet (counts_of c.args.pass.now) (counts_of c.finish-place.new.pass) c.requires.hold.5 c.finish-place.ensures.moved
