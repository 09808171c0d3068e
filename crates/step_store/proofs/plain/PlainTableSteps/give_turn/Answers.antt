use Rattle.std.proofs.Common.{None, List, ℕ, ap, sym}
use Rattle.step_store.specs.Knowing.{handed}
use Rattle.step_store.specs.Plain.{hand_of, known_of}
use Rattle.step_store.proofs.Moves.{gives_level}
use Rattle.step_store.proofs.plain.PlainTableSteps.give_turn.Goals as goal

pub returns-clause-given : goal.returns-clause-given
returns-clause-given c = let t = c.args.self.now in ap (λ (l : List ℕ). handed (known_of t) (record (hand_of t) { levels = l; walk = None })) (sym (gives_level t.turn c.args._level c.requires.has))
