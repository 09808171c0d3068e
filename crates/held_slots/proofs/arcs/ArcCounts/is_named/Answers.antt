use Rattle.std.proofs.Common.{ap, sym, ◌∙◌}
use Rattle.std.specs.Prelude.{nat_lt}
use Rattle.held_slots.proofs.ArcLaws.{told_named, told_unnamed}
use Rattle.held_slots.proofs.arcs.ArcCounts.is_named.Goals as goal

pub returns-clause-yes : goal.returns-clause-yes
returns-clause-yes c = λ told. told_named c.args.self.now c.args.slot c.requires.slot c.requires.known (ap (nat_lt 0) (sym c.count_of.ensures) ∙ told)

pub returns-clause-no : goal.returns-clause-no
returns-clause-no c = λ told. told_unnamed c.args.self.now c.args.slot c.requires.slot c.requires.known (ap (nat_lt 0) (sym c.count_of.ensures) ∙ told)
