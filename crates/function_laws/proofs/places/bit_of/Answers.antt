use Rattle.std.proofs.Common.{ap, arith}
use Rattle.std.specs.Prelude.{◌/◌, ◌%◌, ◌==◌}
use Rattle.std.proofs.lemmas.Nat.{one_shl}
use Rattle.function_laws.proofs.SizeLemmas.{var_bound}
use Rattle.function_laws.proofs.places.bit_of.Goals as goal

pub returns : goal.returns
returns c = ap (λ unit. c.args.k / unit % 2 == 1) (one_shl c.args.var 64 (omega (arith, var_bound c.args.size c.args.var c.requires.size c.requires.var)))

pub overflow_shl-result : goal.overflow_shl-result
overflow_shl-result c = omega (arith, var_bound c.args.size c.args.var c.requires.size c.requires.var)
