use Rattle.std.proofs.Common.{arith}
use Rattle.std.proofs.lemmas.Grind.{common_steps, elements}
use Rattle.level_table.proofs.chains.Chains.swap_remove.Goals as goal

pub rehash-requires-clause-chains : goal.rehash-requires-clause-chains
rehash-requires-clause-chains c = grind (arith, common_steps)

pub invariant_of-self : goal.invariant_of-self
invariant_of-self c = grind (arith, common_steps)

pub invariant_of-self-else-place-len : goal.invariant_of-self-else-place-len
invariant_of-self-else-place-len c = grind (arith, common_steps)

pub returns-then-place-len-clause-hashes : goal.returns-then-place-len-clause-hashes
returns-then-place-len-clause-hashes c = grind (arith, elements)

pub returns-then-place-len-clause-spare : goal.returns-then-place-len-clause-spare
returns-then-place-len-clause-spare c = grind (arith, common_steps)

pub returns-else-place-len-clause-hashes : goal.returns-else-place-len-clause-hashes
returns-else-place-len-clause-hashes c = grind (arith, common_steps)

pub returns-else-place-len-clause-spare : goal.returns-else-place-len-clause-spare
returns-else-place-len-clause-spare c = grind (arith, common_steps)
