use Rattle.std.proofs.Common.{ap, ◌∙◌, length}
use Rattle.shared_store.proofs.Beginning.{cells_many, new_shared, opening_idle}
use Rattle.shared_store.proofs.shared.Shared.new.Goals as goal

pub invariant_of-result : goal.invariant_of-result
invariant_of-result c = record {
  as_many = ap length c.in_ok-cells.ensures ∙ cells_many;
  idle = opening_idle c.args.vars c.args.elements c.args.limit c.in_ok-store.store c.in_ok-store.ensures;
}

pub returns : goal.returns
returns c = new_shared c.args.vars c.args.elements c.args.limit _ c.in_ok-store.ensures c.in_ok-cells.ensures
