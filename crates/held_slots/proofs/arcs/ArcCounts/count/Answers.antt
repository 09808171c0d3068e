use Rattle.std.proofs.Common.{◌∙◌}
use Rattle.held_slots.proofs.ArcLaws.{same_arcs}
use Rattle.held_slots.proofs.arcs.ArcCounts.count.Goals as goal

pub returns-clause-of : goal.returns-clause-of
returns-clause-of c = λ all first known slot lt. c.add_words.ensures.counted slot lt ∙ same_arcs c.args.words.now all slot first
