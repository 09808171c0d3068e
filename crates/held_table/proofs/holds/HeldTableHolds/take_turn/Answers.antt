use Rattle.std.proofs.Common.{List, ℕ, ap}
use Rattle.hold_store.specs.Held.{handed}
use Rattle.held_table.specs.Tables.{hand_of, known_of}
use Rattle.held_table.proofs.Hands.{one_more}
use Rattle.held_table.proofs.holds.HeldTableHolds.take_turn.Goals as goal

pub returns-clause-taken : goal.returns-clause-taken
returns-clause-taken c = λ is. let t = c.args.self.now in ap (λ (l : List ℕ). handed (known_of t) (record (hand_of t) { levels = l })) (one_more t.turns c.args.level c.if-self-level.false)
