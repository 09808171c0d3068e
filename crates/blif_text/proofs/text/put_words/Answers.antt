use Rattle.std.proofs.Common.{ap, sym, ◌∙◌, ◌++◌, append-nil, map, arith}
use Rattle.std.proofs.lemmas.Grind.{common_steps}
use Rattle.blif_text.proofs.Split.{is_nothing, no_words}
use Rattle.blif_text.proofs.text.put_words.Goals as goal

pub returns-clause-words : goal.returns-clause-words
returns-clause-words c =
    let found = map (λ word. word.now) c.loop-rest.words.items in
    sym (c.loop-rest.invariant.words ∙ ap (λ t. found ++ t) (no_words c.loop-rest.rest.now (is_nothing c.loop-rest.rest.now (sym c.is_empty.ensures ∙ c.loop-rest-test.false))) ∙ append-nil found)

pub loop-rest-preserved : goal.loop-rest-preserved
loop-rest-preserved c = grind (arith, common_steps)
