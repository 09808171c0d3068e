use Rattle.std.proofs.Common.{rules, ap, arith}
use Rattle.seat_guard.proofs.CountSteps.{counts_up}
use Rattle.seat_guard.proofs.seat.Guard.count_up.Goals as goal

pub fetch_add-found-requires : goal.fetch_add-found-requires
fetch_add-found-requires g c = (
  search rules,
  (let w = c.args.pass.now.words_are in let s = ap (λ i. i.words) c.requires.at.0 in let l = c.requires.at.2 in omega (arith, w, s, l)),
  counts_up g.S.Content.keeps g.S.Content.board g.S.Content.counts g.S.Content.orders _ _ _ c.requires.at.1 c.args.slot c.requires.at.2 g.E.Raises.held c.requires.edge c.requires.may c.requires.room,
)
