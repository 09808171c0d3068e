use Rattle.std.proofs.Common.{List, None, ℕ, ap}
use Rattle.hold_store.specs.Held.{handed}
use Rattle.held_table.specs.Tables.{hand_of, known_of}
use Rattle.held_table.proofs.Hands.{one_less}
use Rattle.held_table.proofs.holds.HeldTableHolds.give_turn.Goals as goal

pub returns-clause-given : goal.returns-clause-given
returns-clause-given c = let t = c.args.self.now in ap (λ (l : List ℕ). handed (known_of t) (record (hand_of t) { levels = l; walk = None })) (one_less t.turns c.args.level c.requires.last.0 c.requires.last.1)
