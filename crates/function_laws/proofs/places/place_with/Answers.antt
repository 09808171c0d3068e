use Rattle.std.proofs.Common.{◌<◌, arith, subst, sym}
use Rattle.function_laws.proofs.SizeLemmas.{size_bound, var_bound, set_bit-within}
use Rattle.function_laws.proofs.places.place_with.Goals as goal

pub with_bit-requires-clause-var : goal.with_bit-requires-clause-var
with_bit-requires-clause-var c = omega (arith, var_bound c.args.size c.args.var c.requires.size c.requires.var)

pub with_bit-requires-clause-k : goal.with_bit-requires-clause-k
with_bit-requires-clause-k c = omega (arith, size_bound c.args.size c.requires.size)

pub returns-clause-within : goal.returns-clause-within
returns-clause-within c =
    subst (λ x. x < c.args.size) (sym c.with_bit.ensures)
    (set_bit-within c.args.size c.args.k c.args.var c.args.value c.requires.size c.requires.var c.requires.place)
