use Rattle.std.proofs.Common.{ℕ, List, subst, arith, get_or}
use Rattle.cover_nets.specs.Bounds.{signal_count}
use Rattle.net_builds.specs.Uses.{Raises}
use Rattle.net_builds.proofs.UseLemmas.{told-own}
use Rattle.net_builds.proofs.uses.note.Goals as goal

pub returns : goal.returns
returns c = record {
  long = c.follow.ensures.long;
  own_noted = λ k d less. omega (arith, c.raise.ensures.noted k d less, c.follow.ensures.raised (get_or c.args.own.now k d));
  reads = c.follow.ensures.reads;
  told = told-own c.args.net.now c.args.own.now c.raise.new.last c.follow.new.last (signal_count c.args.net.now) 4294967295
      (subst (λ (zeros : List ℕ). Raises c.args.own.now 4294967295 zeros c.raise.new.last) c.requires.none c.raise.ensures) c.follow.ensures.told;
}
