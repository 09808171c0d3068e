use Rattle.std.proofs.Common.{◌≡◌, Bool, true, false, not, eqb, pos, w64, of_z, refl, ap, ◌∙◌}
use Rattle.edge_bits.specs.Words.{digit}
use Rattle.function_laws.specs.Lists.{truth}
use Rattle.function_laws.specs.Values.{assignment_of}
use Rattle.function_laws.specs.declared.history.Call.TheVariants as calls
use Rattle.function_laws.specs.declared.history.Reply.TheVariants as replies
use Rattle.net_jobs.proofs.HostLaws.{asks, still_own, valued}
use Rattle.net_jobs.proofs.hosting.SessionHostHost.value.Goals as goal

pub returns-clause-own : goal.returns-clause-own
returns-clause-own g c =
    still_own c.args.self.now.manager.now c.args.session.now c.evaluate.new.session (calls.Eval c.args.f c.args.bits.now) (replies.Value c.evaluate.result.value) c.evaluate.result.place
    c.evaluate.ensures.told c.requires.may.own

pub returns-clause-asks : goal.returns-clause-asks
returns-clause-asks g c = asks c.args.session.now c.evaluate.new.session c.args.f c.args.bits.now c.evaluate.result.value c.evaluate.result.place c.evaluate.ensures.told

is_set : (b : Bool) → not (eqb (of_z w64 (pos (digit b))) 0) ≡ b
is_set true = refl
is_set false = refl

pub returns-clause-value : goal.returns-clause-value
returns-clause-value g c = λ a stands.
    let told = valued c.args.session.now c.evaluate.new.session c.args.f c.args.bits.now c.evaluate.result.value c.evaluate.result.place c.evaluate.ensures.told c.requires.long a stands in
    ap (λ z. not (eqb (of_z w64 z) 0)) told ∙ is_set (truth a (assignment_of c.args.bits.now))
