use Rattle.std.proofs.Common.{rules, ap, arith}
use Rattle.seat_guard.proofs.CountSteps.{reads_generation}
use Rattle.seat_guard.proofs.seat.Guard.generation.Goals as goal

pub load-word-requires : goal.load-word-requires
load-word-requires g c = (
  search rules,
  (let w = c.args.pass.now.words_are in let s = ap (λ i. i.words) c.requires.at.0 in let l = c.requires.at.2 in omega (arith, w, s, l)),
  reads_generation g.S.Content.keeps g.S.Content.board g.S.Content.counts g.S.Content.orders _ _ _ c.requires.at.1 c.args.slot c.requires.at.2,
)
