use Rattle.std.proofs.Common.{◌≡◌, inl, subst, sym, length, Some, Option, IfSome, refl}
use Rattle.std.specs.Prelude.{slice_get}
use Rattle.std.proofs.lemmas.Option.{slice_get_read}
use Rattle.dd_session.specs.Sessions.{IsLive}
use Rattle.net_jobs.specs.declared.registers.Assigned.{Assigned}
use Rattle.net_jobs.specs.Sections.{counts_of}
use Rattle.net_jobs.specs.Saying.{DropsOne, last_told}
use Rattle.net_jobs.proofs.DropLemmas.{can_drop, drops_live, gone_if, kept_if}
use Rattle.net_jobs.proofs.section.drop_at.Goals as goal

pub returns-then-not-is_live-clause-dropped : goal.returns-then-not-is_live-clause-dropped
returns-then-not-is_live-clause-dropped g c =
    let old = c.args.session.now in
    let script = c.args.script.now in
    let assigned = c.index.result.now in
    let at : slice_get script.names.items c.args.a ≡ Some assigned = slice_get_read script.names.items (length script.names.items) c.args.a assigned refl c.requires.within c.index.ensures in
    subst (λ (o : Option Assigned). IfSome o (λ x. DropsOne c.args.commands.now old old script script c.args.a x)) (sym at)
    (inl (gone_if old assigned.name c.is_live.result c.is_live.ensures c.if-not-is_live.true, refl, refl))

pub speak-requires-clause-can : goal.speak-requires-clause-can
speak-requires-clause-can g c =
    let old = c.args.session.now in
    let script = c.args.script.now in
    let assigned = c.index.result.now in
    let at : slice_get script.names.items c.args.a ≡ Some assigned = slice_get_read script.names.items (length script.names.items) c.args.a assigned refl c.requires.within c.index.ensures in
    let live : IsLive old assigned.name = c.is_live.ensures.0 c.if-not-is_live.false in
    can_drop (counts_of old.manager) old script.names.items c.args.a assigned c.in_ok-command.command.act at c.in_ok-command.ensures.act live

pub returns-clause-dropped : goal.returns-clause-dropped
returns-clause-dropped g c =
    let old = c.args.session.now in
    let new = c.speak.new.session in
    let script = c.args.script.now in
    let assigned = c.index.result.now in
    let commands = c.args.commands.now in
    let at : slice_get script.names.items c.args.a ≡ Some assigned = slice_get_read script.names.items (length script.names.items) c.args.a assigned refl c.requires.within c.index.ensures in
    let live : IsLive old assigned.name = c.is_live.ensures.0 c.if-not-is_live.false in
    subst (λ (o : Option Assigned). IfSome o (λ x. DropsOne commands old new script c.speak.new.script c.args.a x)) (sym at)
    (drops_live commands old new script c.speak.new.script c.args.a assigned c.in_ok-command.command c.in_ok-_answered._answered (last_told new.entries) at c.in_ok-command.ensures.act
    c.in_ok-command.ensures.words (kept_if old assigned.name live) c.in_ok-_answered.ensures.answered c.in_ok-_answered.ensures.lines c.in_ok-_answered.ensures.names)
