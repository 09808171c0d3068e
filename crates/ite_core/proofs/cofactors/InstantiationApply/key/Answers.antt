use Rattle.ite_core.proofs.CofactorLaws.{IsKey-literal}
use Rattle.ite_core.proofs.cofactors.InstantiationApply.key.Goals as goal

pub returns : goal.returns
returns g c = let o = c.args.self.now in λ w d. rw c.key_of.ensures (record {
  is_key = IsKey-literal w c.args.task.f o.literal o.var o.bit d.literal d.edge;
  holds = λ e a. record { variable = o.var; bit = o.bit; in_range = d.root.in_range; literal = d.literal; f = d.edge; answer = a };
})
