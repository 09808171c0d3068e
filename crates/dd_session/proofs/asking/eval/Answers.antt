use Rattle.std.proofs.lemmas.List.{length-take-le}
use Rattle.std.proofs.Common.{◌≡◌, ◌≤◌, ℕ, take, ap, refl, sym, subst, ◌∙◌, length, rules, SFits, w64}
use Rattle.std.proofs.lemmas.Int.{to_z-of_z}
use mir.Val.{of_z, to_z}
use Rattle.function_laws.specs.declared.history.Call.TheVariants as calls
use Rattle.function_laws.specs.declared.history.Reply.TheVariants as replies
use Rattle.function_laws.specs.Values.{assignment_of}
use Rattle.node_store.specs.Listed.{number_of}
use Rattle.node_store.specs.Views.{levels, values_at}
use Rattle.seat_guard.specs.Passes.{known, counts_of}
use Rattle.shared_store.specs.Sharing.{view_of}
use Rattle.dd_session.specs.declared.request.Request.TheVariants as requests
use Rattle.dd_session.specs.Turns.{Took, IsSettled}
use Rattle.dd_session.proofs.Calls.{called, stands_taken, took_of}
use Rattle.dd_session.proofs.Outcomes.{gives_eval, levels_managed, walked_bits}
use Rattle.dd_session.proofs.Serving.{serves-same}
use Rattle.dd_session.proofs.Tellings.{knows_quiet, may_show, quiet}
use Rattle.dd_session.proofs.Turning.{drew_nothing, kept_book}
use Rattle.dd_session.proofs.Movings.{moves_quiet, settles_quiet}
use Rattle.dd_session.proofs.RequestLemmas.{carries_none}
use Rattle.dd_session.proofs.Calm.{drawn_calm}
use Rattle.dd_session.specs.Requests.{call_of}
use Rattle.seat_guard.specs.declared.view.Draws.{Draws}
use Rattle.dd_session.proofs.asking.eval.Goals as goal

pub walked-value-requires-clause-edge : goal.walked-value-requires-clause-edge
walked-value-requires-clause-edge g c = (c.edge_at-edge.ensures.edge c.args.kind c.requires.live (view_of c.take-shared.result) (stands_taken (known c.args.pass.now) (known c.take-shared.new.pass) c.take-shared.result (took_of c.take-shared.ensures.took c.take-shared.ensures.board))).0

pub walked-value-requires-clause-bits : goal.walked-value-requires-clause-bits
walked-value-requires-clause-bits g c =
    let t : Took (known c.args.pass.now) (known c.take-shared.new.pass) c.take-shared.result = took_of c.take-shared.ensures.took c.take-shared.ensures.board in
    length-take-le c.args.count c.args.bits.now c.requires.bits ∙ c.requires.count
    ∙ sym (levels_managed c.args.pass.now.seat.table_id (known c.args.pass.now) (known c.take-shared.new.pass) c.take-shared.result t c.args.kind)

pub finish-place-requires-clause-step : goal.finish-place-requires-clause-step
finish-place-requires-clause-step g c =
    let d = known c.args.pass.now in
    let e = known c.take-shared.new.pass in
    let x = c.take-shared.result in
    let t : Took d e x = took_of c.take-shared.ensures.took c.take-shared.ensures.board in
    let k = c.args.kind in
    let long = walked_bits c.args.pass.now.seat.table_id d e x t k c.args.bits.now (subst (λ (n : ℕ). n ≤ length c.args.bits.now) c.requires.count c.requires.bits) in
    let many : c.args.count ≡ levels k (view_of x) = c.requires.count ∙ sym (levels_managed c.args.pass.now.seat.table_id d e x t k) in
    let at = assignment_of (take (levels k (view_of x)) c.args.bits.now) in
    let fit : SFits w64 c.walked-value.result = search rules in
    may_show e (requests.Eval c.args.f c.args.bits) (number_of k (values_at k (view_of x) c.edge_at-edge.result at)) (to_z w64 (of_z w64 c.walked-value.result)) (ap (λ (z : Draws). z.holds) t.is)
    (to_z-of_z w64 c.walked-value.result fit ∙ c.walked-value.ensures.value ∙ ap (λ n. number_of k (values_at k (view_of x) c.edge_at-edge.result (assignment_of (take n c.args.bits.now)))) many)
    (gives_eval d e x t c.requires.idle.2 k c.args.f c.edge_at-edge.result c.args.bits.now long (c.edge_at-edge.ensures.edge k c.requires.live))

pub finish-place-requires-clause-serves : goal.finish-place-requires-clause-serves
finish-place-requires-clause-serves g c =
    let e = known c.take-shared.new.pass in
    let stays = c.walked-value.ensures.asked in
    serves-same c.walked-value.new.shared e _ (counts_of c.take-shared.new.pass) _ (stays.serves e (counts_of c.take-shared.new.pass) c.take-shared.ensures.took.2) (knows_quiet e (requests.Eval c.args.f c.args.bits) (replies.Value (to_z w64 (of_z w64 c.walked-value.result))) (record { plain = λ name n e. cc; no_swap = λ order level a b. cc })) refl refl refl

pub returns-clause-keeps : goal.returns-clause-keeps
returns-clause-keeps g c = kept_book (known c.args.pass.now) (known c.take-shared.new.pass) c.take-shared.result (took_of c.take-shared.ensures.took c.take-shared.ensures.board) (known c.finish-place.new.pass) _ _ c.finish-place.result c.args.book.now c.finish-place.new.book c.requires.keeps c.finish-place.ensures.drew refl refl c.finish-place.ensures.rows c.finish-place.ensures.calls

pub returns-clause-told : goal.returns-clause-told
returns-clause-told g c =
    (called (known c.args.pass.now) (known c.take-shared.new.pass) (known c.finish-place.new.pass) c.take-shared.result _ _ _ _ (calls.Eval c.args.f c.args.bits.now) (replies.Value (to_z w64 (of_z w64 c.walked-value.result))) c.finish-place.result (c.finish-place.ensures.own.0 ∙ sym c.requires.idle.0)
    (took_of c.take-shared.ensures.took c.take-shared.ensures.board) (c.walked-value.new.shared, quiet (calls.Eval c.args.f c.args.bits.now) (replies.Value (to_z w64 (of_z w64 c.walked-value.result))), refl, refl, c.finish-place.ensures.drew))

pub returns-clause-stored : goal.returns-clause-stored
returns-clause-stored g c = drew_nothing (known c.args.pass.now) (known c.take-shared.new.pass) c.take-shared.result (took_of c.take-shared.ensures.took c.take-shared.ensures.board) (known c.finish-place.new.pass) _ _ c.finish-place.result c.walked-value.ensures.asked.stored c.finish-place.ensures.drew

pub finish-place-requires-clause-moves : goal.finish-place-requires-clause-moves
finish-place-requires-clause-moves g c =
    let n = counts_of c.take-shared.new.pass in
    moves_quiet (known c.take-shared.new.pass) n (call_of (requests.Eval c.args.f c.args.bits)) (replies.Value (to_z w64 (of_z w64 c.walked-value.result))) (subst IsSettled (sym c.take-shared.ensures.stands.1) c.requires.idle.4.0) (carries_none n (requests.Eval c.args.f c.args.bits))

pub returns-clause-idle : goal.returns-clause-idle
returns-clause-idle g c = drawn_calm c.args.guard.now c.args.pass.now c.take-shared.new.pass c.finish-place.new.pass _ _ c.finish-place.result c.requires.idle c.take-shared.ensures.took.1 c.take-shared.ensures.stands.1 c.finish-place.ensures.own c.finish-place.ensures.drew (settles_quiet (counts_of c.take-shared.new.pass) (counts_of c.finish-place.new.pass) (subst IsSettled (sym c.take-shared.ensures.stands.1) c.requires.idle.4.0) c.finish-place.ensures.moved)
