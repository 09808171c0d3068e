use Rattle.std.proofs.Common.{ap, [], ◌∷◌, length, length-append, arith}
use Rattle.function_laws.specs.declared.history.Entry.{Entry}
use Rattle.function_laws.specs.SessionEntries.{entry}
use Rattle.seat_guard.specs.Passes.{known}
use Rattle.seat_guard.specs.declared.view.Draws.{Draws}
use Rattle.shared_store.specs.Sharing.{view_of}
use Rattle.dd_session.specs.Requests.{reply_of, call_of, telling_of}
use Rattle.dd_session.specs.Sessions.{fulls_in}
use Rattle.dd_session.proofs.Tellings.{counted_answer, drew_turn, fulls-append, fulls-most, is_full-reply, refusal-most}
use Rattle.dd_session.proofs.drawing.finish.Goals as goal

pub overflow_add-book-2 : goal.overflow_add-book-2
overflow_add-book-2 c =
    let a = fulls-most (known c.args.pass.now).entries in
    let b = c.requires.calls.1 in
    let r = c.requires.room in
    let n = refusal-most c.args.answer in
    let f = c.fullness-full.ensures in
    omega (arith, a, b, r, n, f)

pub returns-clause-drew : goal.returns-clause-drew
returns-clause-drew c = drew_turn (known c.args.pass.now) (known c.draw-place.new.pass) (known c.put_back.new.pass) c.args.shared _ c.draw-place.result c.requires.step (counted_answer (view_of c.args.shared) c.args.answer) c.draw-place.ensures.later c.draw-place.ensures.drew c.put_back.ensures.gave

pub returns-clause-calls : goal.returns-clause-calls
returns-clause-calls c =
    let d = known c.args.pass.now in
    let w = view_of c.args.shared in
    let e : Entry = entry c.draw-place.result d.session (call_of c.args.request) (reply_of w c.args.answer) in
    let drew = drew_turn d (known c.draw-place.new.pass) (known c.put_back.new.pass) c.args.shared (telling_of w c.args.request c.args.answer) c.draw-place.result c.requires.step (counted_answer w c.args.answer) c.draw-place.ensures.later c.draw-place.ensures.drew c.put_back.ensures.gave in
    let many = ap (λ (x : Draws). length x.entries) drew.left in
    let fulls = ap (λ (x : Draws). fulls_in x.entries) drew.left in
    let a = length-append d.entries (e ∷ []) in
    let b = fulls-append d.entries e in
    let m = is_full-reply w c.args.answer in
    let f = c.fullness-full.ensures in
    let n = c.requires.calls.0 in
    let o = c.requires.calls.1 in
    (omega (arith, many, a, n), omega (arith, fulls, b, m, f, o))
