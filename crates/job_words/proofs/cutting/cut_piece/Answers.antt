use Rattle.std.proofs.Common.{◌∙◌, length, arith}
use Rattle.std.proofs.lemmas.List.{take_rest, drop_all}
use Rattle.job_words.proofs.Split.{words_at, words_none}
use Rattle.job_words.proofs.cutting.cut_piece.Goals as goal

pub returns-in-Some-clause-words : goal.returns-in-Some-clause-words
returns-in-Some-clause-words c = words_at c.args.separator c.args.line.now c.in-Some.parts.0.now c.in-Some.parts.1.now c.in-Some.ensures.parts

pub returns-in-None-clause-words : goal.returns-in-None-clause-words
returns-in-None-clause-words c =
    words_none c.args.separator c.args.line.now _ c.in-None.ensures.parts
    (take_rest c.args.line.now (length c.args.line.now) ∙ drop_all (length c.args.line.now) c.args.line.now (omega arith))
