use Rattle.std.proofs.Common.{refl, subst}
use Rattle.node_slots.specs.Stores.{Plain, plain_view}
use Rattle.node_store.specs.Views.{Kept}
use Rattle.dd_session.proofs.Tries.{asked}
use Rattle.dd_session.proofs.nodeless.walked.Goals as goal

pub returns-clause-asked : goal.returns-clause-asked
returns-clause-asked c =
    let kept = subst (λ (p : Plain). Kept (plain_view p) (plain_view c.value_of-value.new.store)) c.get_mut.ensures.value c.value_of-value.ensures.kept in
    asked c.args.shared.now _ c.tell_sound.ensures.store c.tell_sound-2.ensures.store kept refl
