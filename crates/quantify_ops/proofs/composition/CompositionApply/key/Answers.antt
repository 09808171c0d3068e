use Rattle.quantify_ops.proofs.CompositionLaws.{IsKey-projection}
use Rattle.quantify_ops.proofs.composition.CompositionApply.key.Goals as goal

pub returns : goal.returns
returns g c = let o = c.args.self.now in λ w d. rw c.key_of.ensures (record {
  is_key = IsKey-projection w c.args.task.f c.args.task.g o.projection o.var d.projection d.two;
  holds = λ e a. record { variable = o.var; in_range = d.root.in_range; projection = d.projection; f = d.two.first; g = d.two.second; answer = a };
})
