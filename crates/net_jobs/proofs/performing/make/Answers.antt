use Rattle.std.proofs.Common.{ℕ, List, sym, subst, ap, ◌∙◌}
use Rattle.std.proofs.lemmas.Result.{IfOk-weaker}
use Rattle.function_laws.specs.declared.history.Call.TheVariants as calls
use Rattle.function_laws.specs.declared.making.Making.{Making}
use Rattle.operator_calls.specs.Taking.{of_lent, renamed_by, with_lists}
use Rattle.operator_calls.proofs.MakingLaws.{can-renamed, with-lists}
use Rattle.dd_session.specs.MadeRows.{HasTaken}
use Rattle.dd_session.specs.Sessions.{IsLiveAs, Seen}
use Rattle.dd_session.proofs.SessionLaws.{can_still}
use Rattle.net_jobs.specs.declared.registers.Assigned.{Assigned}
use Rattle.net_jobs.specs.Saying.{CanMake, IsAnswered, IsHeldAs, name_at}
use Rattle.net_jobs.specs.Sections.{counts_of}
use Rattle.net_jobs.proofs.AnswerLaws.{kept}
use Rattle.net_jobs.proofs.performing.make.Goals as goal

-- the lists are their own
can_as_lists : (s : Seen) (names : List Assigned) (making : Making ℕ (List ℕ) (List (ℕ × ℕ))) → CanMake (counts_of s.manager) s names making → CanMake (counts_of s.manager) s names (with_lists (λ vars. vars) (λ pairs. pairs) making)
can_as_lists s names making can = subst (CanMake (counts_of s.manager) s names) (sym (with-lists making)) can

pub renamed_pairs-requires : goal.renamed_pairs-requires
renamed_pairs-requires g c = can_as_lists c.args.session.now c.args.names.now c.args.making.now c.requires.can

pub renamed-named-requires-clause-can : goal.renamed-named-requires-clause-can
renamed-named-requires-clause-can g c = can_as_lists c.args.session.now c.args.names.now c.args.making.now c.requires.can

pub make-requires : goal.make-requires
make-requires g c =
    let s = c.args.session.now in
    let names = c.args.names.now in
    let can = can-renamed (name_at names) (λ k a. IsHeldAs k s names a) (λ k a. IsLiveAs k s a) (λ k a held. held.1) s.manager.vars s.manager.vars s.manager.elements (with_lists (λ vars. vars) (λ pairs. pairs) c.args.making.now)
    (can_as_lists s names c.args.making.now c.requires.can) in
    record { own = c.requires.own; room = c.requires.room; can = subst (HasTaken s) (sym c.renamed-named.ensures.same) (can_still s (renamed_by (name_at names) (with_lists (λ vars. vars) (λ pairs. pairs) c.args.making.now)) can) }

pub returns-clause-answered : goal.returns-clause-answered
returns-clause-answered g c =
    let old = c.args.session.now in
    let new = c.make.new.self in
    let is = c.renamed-named.ensures.same ∙ ap (renamed_by (name_at c.args.names.now)) (with-lists c.args.making.now) in
    IfOk-weaker c.answer_of.result _ _ (λ answered says. subst (λ m. IsAnswered old new (calls.Makes m) answered) is (says old new (of_lent c.renamed-named.result) c.make.ensures)) c.answer_of.ensures

pub returns-clause-kept : goal.returns-clause-kept
returns-clause-kept g c = kept c.args.session.now c.make.new.self (of_lent c.renamed-named.result) c.make.result c.make.ensures
