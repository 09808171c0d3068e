use Rattle.std.proofs.Common.{rules, ap, arith}
use Rattle.words_rule.proofs.Closes.{looks_last}
use Rattle.words_rule.proofs.seat.Guard.calls.Goals as goal

pub load-requires : goal.load-requires
load-requires g c = let closing = c.args.closing.now in let w = closing.words_are in let s = ap (λ i. i.words) c.requires in (search rules, omega (arith, w, s), looks_last g.S.Content.board g.S.Content.free_slots g.S.Content.memo _ _ _)
