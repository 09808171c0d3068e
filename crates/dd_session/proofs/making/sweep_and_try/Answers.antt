use Rattle.operator_calls.specs.Making.{told_by, work}
use Rattle.operator_calls.specs.Taking.{of_lent}
use Rattle.dd_session.proofs.Tries.{tried_after}
use Rattle.seat_guard.specs.Passes.{counts_of, known}
use Rattle.shared_store.proofs.Lasting.{serves-lasts}
use Rattle.dd_session.proofs.making.sweep_and_try.Goals as goal

pub try_once-made-requires : goal.try_once-made-requires
try_once-made-requires c = c.requires.takes _ (serves-lasts c.args.shared _ c.tell_sound.ensures.store c.sweep-shared.ensures.lasts (known c.args.pass.now) (counts_of c.args.pass.now) c.requires.read c.sweep-shared.ensures.orders c.requires.serves)

pub returns-clause-tried : goal.returns-clause-tried
returns-clause-tried c = tried_after (told_by (of_lent c.args.making.now)) (work (of_lent c.args.making.now)) (known c.args.pass.now) (counts_of c.args.pass.now) c.args.shared _ _ c.try_once-made.result c.sweep-shared.result.1 c.sweep-shared.ensures.swept c.requires.serves
    (serves-lasts c.args.shared _ c.tell_sound.ensures.store c.sweep-shared.ensures.lasts (known c.args.pass.now) (counts_of c.args.pass.now) c.requires.read c.sweep-shared.ensures.orders c.requires.serves) c.sweep-shared.ensures.stored c.try_once-made.ensures.ran
