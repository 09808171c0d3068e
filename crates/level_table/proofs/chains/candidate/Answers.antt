use Rattle.std.proofs.Common.{length, get_or, arith}
use Rattle.level_table.proofs.Latest.{sought_here, sought_on, sought_none}
use Rattle.level_table.proofs.Chaining.{bucket-within}
use Rattle.level_table.proofs.chains.candidate.Goals as goal

pub returns-then-hashes-place : goal.returns-then-hashes-place
returns-then-hashes-place c = λ heads n chains first.
    sought_here c.args.hashes.now (length heads) c.args.hash n c.loop-place.link (c.loop-place.invariant.sought heads n chains first) c.in-Some.place c.in-Some.ensures c.if-hashes-place.true

pub loop-place-preserved : goal.loop-place-preserved
loop-place-preserved c =
    let place = c.in-Some.place in
    record {
      within = (let f = c.requires.fall place in let w = c.loop-place.invariant.within in let l = c.in-Some.ensures in omega arith);
      sought = λ heads n chains first.
          sought_on c.args.hashes.now (length heads) c.args.hash n c.loop-place.link (c.loop-place.invariant.sought heads n chains first) place (get_or c.args.links.now place 0) c.in-Some.ensures c.if-hashes-place.false
          (chains.chained.links_are place (let w = c.loop-place.invariant.within in let l = c.in-Some.ensures in omega arith) (bucket-within c.args.hashes.now (length heads) place chains.bucket));
    }

pub returns : goal.returns
returns c = λ heads n chains first.
    sought_none c.args.hashes.now (length heads) c.args.hash n c.loop-place.link (c.loop-place.invariant.sought heads n chains first) (grind arith)
