use Rattle.std.proofs.Common.{ap, sym, ◌∙◌}
use Rattle.dd_session.specs.Reorderings.{levels_of, opened_levels}
use Rattle.dd_session.specs.Sessions.{Managed, Seen}
use Rattle.dd_session.proofs.AtRest.{levels_at}
use Rattle.dd_session.proofs.session.Session.levels.Goals as goal

pub returns : goal.returns
returns c =
    c.levels.ensures ∙ ap (λ (m : Managed). opened_levels m c.args.order) (sym c.requires) ∙ ap (λ (s : Seen). opened_levels s.manager c.args.order) (sym c.self.view_is)
    ∙ sym (levels_at c.self.inside.seat c.self.inside.book c.args.order c.self.invariant) ∙ ap (λ (s : Seen). levels_of s c.args.order) c.self.view_is
