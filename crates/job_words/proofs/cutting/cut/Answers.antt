use Rattle.std.proofs.Common.{◌+◌, arith}
use Rattle.std.proofs.lemmas.List.{take_rest}
use Rattle.job_words.specs.Classes.{is_in}
use Rattle.job_words.proofs.Split.{clean_front, one_part, parts_at, whole_line}
use Rattle.job_words.proofs.cutting.cut.Goals as goal

pub returns-then-end-bytes-clause-parts : goal.returns-then-end-bytes-clause-parts
returns-then-end-bytes-clause-parts c =
    rw (take_rest c.args.bytes.now (c.place_of-end.result + 1))
    (parts_at (is_in c.args.class) c.args.bytes.now c.place_of-end.result c.place_of-end.ensures.place c.if-end-bytes.true)

pub returns-then-end-bytes-clause-free : goal.returns-then-end-bytes-clause-free
returns-then-end-bytes-clause-free c = clean_front (is_in c.args.class) c.args.bytes.now c.place_of-end.result (omega (arith, c.place_of-end.ensures.place))

pub returns-else-end-bytes-clause-parts : goal.returns-else-end-bytes-clause-parts
returns-else-end-bytes-clause-parts c = one_part (is_in c.args.class) c.args.bytes.now (omega (arith, c.place_of-end.ensures.place, c.if-end-bytes.false))

pub returns-else-end-bytes-clause-free : goal.returns-else-end-bytes-clause-free
returns-else-end-bytes-clause-free c = whole_line (is_in c.args.class) c.args.bytes.now (omega (arith, c.place_of-end.ensures.place, c.if-end-bytes.false))
