use Rattle.std.proofs.Common.{sym, ◌∙◌}
use Rattle.job_words.proofs.Split.{is_nothing, no_words}
use Rattle.job_words.proofs.text.first_word.Goals as goal

pub returns-clause-words : goal.returns-clause-words
returns-clause-words c = c.loop-rest.invariant ∙ no_words c.loop-rest.rest.now (is_nothing c.loop-rest.rest.now (sym c.is_empty.ensures ∙ c.loop-rest-test.false))
