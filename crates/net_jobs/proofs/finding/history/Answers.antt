use Rattle.std.proofs.Common.{◌≤◌, ◌∙◌, ◌++◌, List, ap, length, subst, sym}
use Rattle.edge_bits.specs.declared.limits.TheConstants.{MOST_SESSIONS}
use Rattle.dd_session.specs.Managing.{AreAll, IsClosed, Seen, opened}
use Rattle.net_jobs.specs.Plays.{AllCan, AreNumbered, PlaysIn}
use Rattle.net_jobs.proofs.Opening.{IsFor, are_all, are_numbered, can_play, few_sessions, is_played, written_back}
use Rattle.net_jobs.proofs.finding.history.Goals as goal

pub play-requires-clause-can : goal.play-requires-clause-can
play-requires-clause-can g c κs within =
    let ok = c.in-Ok.ensures.ok in
    let is : IsFor c.args.job.now c.in-Ok.opened.0 = record { vars = ok.0; elements = ok.1; limit = c.in-Ok.ensures.limit; sessions = ok.2 ∙ c.len.ensures } in
    subst (AllCan c.in-Ok.opened.0 c.args.job.now.sections) (sym (c.deref_mut.ensures.value ∙ ok.3)) (can_play c.args.job.now c.in-Ok.opened.0 c.requires.job is c.requires.few)

pub play-requires-clause-numbers : goal.play-requires-clause-numbers
play-requires-clause-numbers g c κs within =
    let ok = c.in-Ok.ensures.ok in
    let is : IsFor c.args.job.now c.in-Ok.opened.0 = record { vars = ok.0; elements = ok.1; limit = c.in-Ok.ensures.limit; sessions = ok.2 ∙ c.len.ensures } in
    subst (AreNumbered 0) (sym (c.deref_mut.ensures.value ∙ ok.3)) (are_numbered c.args.job.now c.in-Ok.opened.0 c.requires.job is)

pub play-requires-clause-few : goal.play-requires-clause-few
play-requires-clause-few g c κs within =
    let ok = c.in-Ok.ensures.ok in
    let is : IsFor c.args.job.now c.in-Ok.opened.0 = record { vars = ok.0; elements = ok.1; limit = c.in-Ok.ensures.limit; sessions = ok.2 ∙ c.len.ensures } in
    subst (λ (l : List Seen). length l ≤ MOST_SESSIONS) (sym (c.deref_mut.ensures.value ∙ ok.3)) (few_sessions c.args.job.now c.in-Ok.opened.0 c.requires.job is)

pub close-closed-requires : goal.close-closed-requires
close-closed-requires g c =
    let ok = c.in-Ok.ensures.ok in
    let m = c.in-Ok.opened.0 in
    let is : IsFor c.args.job.now m = record { vars = ok.0; elements = ok.1; limit = c.in-Ok.ensures.limit; sessions = ok.2 ∙ c.len.ensures } in
    let new = c.play.new.sessions in
    let text = c.in_ok-text.text.items in
    let p : PlaysIn m c.args.job.now.sections (opened m) new text = subst (λ (l : List Seen). PlaysIn m c.args.job.now.sections l new text) (c.deref_mut.ensures.value ∙ ok.3) c.in_ok-text.ensures.played in
    subst (AreAll m) (sym (written_back c.args.job.now m c.requires.job is new c.in-Ok.opened.1.items text c.in-Ok.opened.1.len p ok.3 c.in-Ok.opened.1.ok.0)) (are_all c.args.job.now m c.requires.job is new text p)

pub returns : goal.returns
returns g c =
    let ok = c.in-Ok.ensures.ok in
    let m = c.in-Ok.opened.0 in
    let is : IsFor c.args.job.now m = record { vars = ok.0; elements = ok.1; limit = c.in-Ok.ensures.limit; sessions = ok.2 ∙ c.len.ensures } in
    let new = c.play.new.sessions in
    let text = c.in_ok-text.text.items in
    let p : PlaysIn m c.args.job.now.sections (opened m) new text = subst (λ (l : List Seen). PlaysIn m c.args.job.now.sections l new text) (c.deref_mut.ensures.value ∙ ok.3) c.in_ok-text.ensures.played in
    let closed = c.close-closed.ensures in
    is_played c.args.job.now m c.requires.job is new text c.extend_from_slice.new.self.items c.close-closed.result.calls c.close-closed.result.left p
    (subst (λ (l : List Seen). IsClosed m l c.close-closed.result.calls c.close-closed.result.left) (written_back c.args.job.now m c.requires.job is new c.in-Ok.opened.1.items text c.in-Ok.opened.1.len p ok.3 c.in-Ok.opened.1.ok.0) closed.history)
    closed.left (c.in_ok-extend_from_slice.ensures.items ∙ ap (λ xs. text ++ xs) (c.as_bytes.ensures.value ∙ c.in_ok-left_line.ensures))
