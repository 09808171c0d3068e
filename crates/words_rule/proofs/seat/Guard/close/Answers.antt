use Rattle.std.proofs.Common.{refl, ap, sym, ◌∙◌}
use Rattle.std.specs.Slots.{slots_counts}
use Rattle.words_rule.proofs.Closes.{ends_of, three_slots}
use Rattle.words_rule.proofs.seat.Guard.close.Goals as goal

pub returns-clause-ends : goal.returns-clause-ends
returns-clause-ends g c = let closing = c.args.closing in ends_of g.S.Content.board g.S.Content.free_slots g.S.Content.memo closing.seat.id closing.seat.me.0.draws closing.seat.me.0 _ _ refl closing.closes.0 c.requires.back c.close_with.ensures.values.2

pub returns-clause-counts : goal.returns-clause-counts
returns-clause-counts g c = let closing = c.args.closing in (
  c.close_with.ensures.counts.0 ∙ ap (λ i. i.words) (sym c.requires.own) ∙ closing.words_are,
  (slots_counts c.close_with.result.slots).0 ∙ three_slots g.S.Content.board g.S.Content.free_slots g.S.Content.memo closing.seat.id closing.seat.me.0 _ _ c.close_with.ensures.values.2,
)
