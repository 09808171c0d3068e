use Rattle.std.proofs.Common.{◌≡◌, ◌↔◌, Bool, true, Result, IfOk, ap, refl, subst, sym, ◌∙◌}
use Rattle.edge_bits.specs.declared.lists.Memory.{Memory}
use Rattle.node_store.specs.Memo.{Implies}
use Rattle.node_store.specs.Views.{bdd_at}
use Rattle.shared_store.specs.Sharing.{view_of}
use Rattle.seat_guard.specs.declared.view.Draws.{Draws}
use Rattle.edge_bits.specs.declared.edges.Kind.TheVariants as kinds
use Rattle.function_laws.specs.declared.history.Call.TheVariants as calls
use Rattle.function_laws.specs.declared.history.Reply.TheVariants as replies
use Rattle.seat_guard.specs.Passes.{known, counts_of}
use Rattle.dd_session.specs.declared.request.Request.TheVariants as requests
use Rattle.dd_session.proofs.Calls.{called, took_of}
use Rattle.dd_session.proofs.OperationLaws.{gives_leq, two_held}
use Rattle.dd_session.proofs.Serving.{serves-same}
use Rattle.dd_session.proofs.Tellings.{knows_quiet, may_tell_truth, quiet}
use Rattle.dd_session.proofs.Turning.{drew_nothing, kept_book, stored_nothing}
use Rattle.dd_session.proofs.Movings.{moves_quiet, settles_quiet}
use Rattle.dd_session.proofs.RequestLemmas.{carries_none}
use Rattle.dd_session.proofs.Calm.{drawn_calm, left_calm}
use Rattle.dd_session.specs.Requests.{call_of}
use Rattle.dd_session.specs.Turns.{IsSettled}
use Rattle.dd_session.proofs.ListingLaws.{keeps_uncalled}
use Rattle.dd_session.proofs.Soundness.{sizes_of}
use Rattle.dd_session.proofs.asking.leq.Goals as goal

pub implies-requires : goal.implies-requires
implies-requires g c = two_held (known c.args.pass.now) (known c.take-shared.new.pass) c.take-shared.result (took_of c.take-shared.ensures.took c.take-shared.ensures.board) c.args.f c.args.g c.edge_at-first.result c.edge_at-second.result (c.edge_at-first.ensures.edge kinds.Bdd c.requires.first) (c.edge_at-second.ensures.edge kinds.Bdd c.requires.second)

pub finish-place-requires-clause-step : goal.finish-place-requires-clause-step
finish-place-requires-clause-step g c =
    let e = known c.take-shared.new.pass in
    let gives = gives_leq (known c.args.pass.now) e c.take-shared.result (took_of c.take-shared.ensures.took c.take-shared.ensures.board) c.requires.idle.2 c.args.f c.args.g c.edge_at-first.result c.edge_at-second.result (c.edge_at-first.ensures.edge kinds.Bdd c.requires.first) (c.edge_at-second.ensures.edge kinds.Bdd c.requires.second) c.in-Ok.told (subst (λ (r : Result Bool Memory). IfOk r (λ told. (told ≡ true) ↔ Implies (bdd_at (view_of c.take-shared.result) c.edge_at-first.result) (bdd_at (view_of c.take-shared.result) c.edge_at-second.result))) c.in-Ok.is c.implies.ensures.implies) in
    may_tell_truth e (requests.Leq c.args.f c.args.g) gives.0 c.in-Ok.told (ap (λ (z : Draws). z.holds) c.take-shared.ensures.took.1) gives.1 gives.2

pub finish-place-requires-clause-serves : goal.finish-place-requires-clause-serves
finish-place-requires-clause-serves g c =
    let e = known c.take-shared.new.pass in
    let stays = c.implies.ensures.asked in
    serves-same c.implies.new.shared e _ (counts_of c.take-shared.new.pass) _ (stays.serves e (counts_of c.take-shared.new.pass) c.take-shared.ensures.took.2) (knows_quiet e (requests.Leq c.args.f c.args.g) (replies.Truth c.in-Ok.told) (record { plain = λ name n e. cc; no_swap = λ order level a b. cc })) refl refl refl

pub put_back-requires-clause-serves : goal.put_back-requires-clause-serves
put_back-requires-clause-serves g c =
    let stays = c.implies.ensures.asked in
    stays.serves (known c.take-shared.new.pass) (counts_of c.take-shared.new.pass) c.take-shared.ensures.took.2

pub returns-in-Ok-clause-keeps : goal.returns-in-Ok-clause-keeps
returns-in-Ok-clause-keeps g c = kept_book (known c.args.pass.now) (known c.take-shared.new.pass) c.take-shared.result (took_of c.take-shared.ensures.took c.take-shared.ensures.board) (known c.finish-place.new.pass) _ _ c.finish-place.result c.args.book.now c.finish-place.new.book c.requires.keeps c.finish-place.ensures.drew refl refl c.finish-place.ensures.rows c.finish-place.ensures.calls

pub returns-in-Ok-clause-told : goal.returns-in-Ok-clause-told
returns-in-Ok-clause-told g c =
    (called (known c.args.pass.now) (known c.take-shared.new.pass) (known c.finish-place.new.pass) c.take-shared.result _ _ _ _ (calls.Leq c.args.f c.args.g) (replies.Truth c.in-Ok.told) c.finish-place.result (c.finish-place.ensures.own.0 ∙ sym c.requires.idle.0)
    (took_of c.take-shared.ensures.took c.take-shared.ensures.board) (c.implies.new.shared, quiet (calls.Leq c.args.f c.args.g) (replies.Truth c.in-Ok.told), refl, refl, c.finish-place.ensures.drew))

pub returns-in-Ok-clause-stored : goal.returns-in-Ok-clause-stored
returns-in-Ok-clause-stored g c = drew_nothing (known c.args.pass.now) (known c.take-shared.new.pass) c.take-shared.result (took_of c.take-shared.ensures.took c.take-shared.ensures.board) (known c.finish-place.new.pass) _ _ c.finish-place.result c.implies.ensures.asked.stored c.finish-place.ensures.drew

pub returns-in-Err-clause-stored : goal.returns-in-Err-clause-stored
returns-in-Err-clause-stored g c = let gave = c.put_back.ensures.gave in stored_nothing (known c.args.pass.now) (known c.take-shared.new.pass) c.take-shared.result (took_of c.take-shared.ensures.took c.take-shared.ensures.board) (known c.put_back.new.pass) c.implies.new.shared gave.0 c.implies.ensures.asked.stored (ap (λ (d : Draws). d.stored) gave.1) gave.2 (ap (λ (d : Draws). d.turns) gave.1)

pub finish-place-requires-clause-moves : goal.finish-place-requires-clause-moves
finish-place-requires-clause-moves g c =
    let n = counts_of c.take-shared.new.pass in
    moves_quiet (known c.take-shared.new.pass) n (call_of (requests.Leq c.args.f c.args.g)) (replies.Truth c.in-Ok.told) (subst IsSettled (sym c.take-shared.ensures.stands.1) c.requires.idle.4.0) (carries_none n (requests.Leq c.args.f c.args.g))

pub returns-in-Ok-clause-idle : goal.returns-in-Ok-clause-idle
returns-in-Ok-clause-idle g c = drawn_calm c.args.guard.now c.args.pass.now c.take-shared.new.pass c.finish-place.new.pass _ _ c.finish-place.result c.requires.idle c.take-shared.ensures.took.1 c.take-shared.ensures.stands.1 c.finish-place.ensures.own c.finish-place.ensures.drew (settles_quiet (counts_of c.take-shared.new.pass) (counts_of c.finish-place.new.pass) (subst IsSettled (sym c.take-shared.ensures.stands.1) c.requires.idle.4.0) c.finish-place.ensures.moved)

pub returns-in-Err-clause-idle : goal.returns-in-Err-clause-idle
returns-in-Err-clause-idle g c = left_calm c.args.guard.now c.args.pass.now c.take-shared.new.pass c.put_back.new.pass c.requires.idle c.take-shared.ensures.took.1 c.take-shared.ensures.stands.1 c.put_back.ensures.own c.put_back.ensures.gave.0 c.put_back.ensures.gave.1 c.put_back.ensures.stands.1

pub returns-in-Err-clause-keeps : goal.returns-in-Err-clause-keeps
returns-in-Err-clause-keeps g c =
    let d = known c.args.pass.now in
    let left = c.put_back.ensures.gave.1 in
    let took = c.take-shared.ensures.took.1 in
    keeps_uncalled d (known c.put_back.new.pass) c.args.book.now c.requires.keeps
    (ap sizes_of left ∙ ap sizes_of took)
    (ap (λ (z : Draws). z.rows) left ∙ ap (λ (z : Draws). z.rows) took)
    (ap (λ (z : Draws). z.adds) left ∙ ap (λ (z : Draws). z.adds) took)
    (ap (λ (z : Draws). z.entries) left ∙ ap (λ (z : Draws). z.entries) took)
