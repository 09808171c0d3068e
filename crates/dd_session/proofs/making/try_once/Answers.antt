use Rattle.std.proofs.Common.{refl, subst, sym}
use Rattle.node_slots.specs.Stores.{Plain, plain_view}
use Rattle.operator_calls.specs.Making.{RunsMaking, takes}
use Rattle.operator_calls.specs.Taking.{of_lent}
use Rattle.dd_session.proofs.Tries.{ran_told}
use Rattle.dd_session.proofs.making.try_once.Goals as goal

pub returns-clause-ran : goal.returns-clause-ran
returns-clause-ran c =
    let making = of_lent c.args.making.now in
    let runs = subst (λ (p : Plain). RunsMaking making (plain_view p) (plain_view c.run-made.new.store) c.run-made.result) c.get_mut.ensures.value c.run-made.ensures.runs in
    ran_told making c.args.shared.now _ c.run-made.result c.tell_sound.ensures.store c.tell_sound-2.ensures.store refl runs

pub run-made-requires : goal.run-made-requires
run-made-requires c = subst (λ (p : Plain). takes (of_lent c.args.making.now) (plain_view p)) (sym c.get_mut.ensures.value) (c.requires c.tell_sound.ensures.store)
