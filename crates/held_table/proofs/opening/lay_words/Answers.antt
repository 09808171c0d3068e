use Rattle.std.proofs.Common.{ℕ, ◌∙◌, subst}
use Rattle.held_table.specs.Opened.{AreAllFree}
use Rattle.held_table.proofs.opening.lay_words.Goals as goal

pub returns-clause-long : goal.returns-clause-long
returns-clause-long c = (c.in_ok-words.ensures.long, c.in_ok-nexts.ensures.nexts ∙ c.in_ok-words.ensures.long)

pub returns-clause-free : goal.returns-clause-free
returns-clause-free c = subst (λ (n : ℕ). AreAllFree c.in_ok-words.words.items n c.in_ok-freed.freed.items) c.in_ok-words.ensures.long c.in_ok-freed.ensures.free
