use Rattle.std.proofs.Common.{arith, rules}
use Rattle.byte_streams.proofs.Known.{appends_part}
use Rattle.byte_streams.proofs.writing.write_to_end.Goals as goal

pub loop-done-preserved : goal.loop-done-preserved
loop-done-preserved g c =
    record {
      within = omega (arith, c.in-Ok.ensures.bound);
      front = appends_part _ _ _ c.args.bytes.now c.loop-done.done c.in-Ok.count c.loop-done.invariant.front c.in-Ok.ensures.bytes;
      later = omega (arith, c.in-Ok.ensures.cause.later);
    }

pub returns-in-Err-clause-whole : goal.returns-in-Err-clause-whole
returns-in-Err-clause-whole g c = search (rules, c.requires)

pub returns-in-Ok-eq0-clause-whole : goal.returns-in-Ok-eq0-clause-whole
returns-in-Ok-eq0-clause-whole g c = search (rules, c.requires)
