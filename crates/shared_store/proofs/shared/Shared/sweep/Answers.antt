use Rattle.std.proofs.Common.{refl}
use Rattle.shared_store.proofs.Emptied.{emptied}
use Rattle.shared_store.proofs.Handed.{still_idle, swept_back}
use Rattle.shared_store.proofs.Stored.{stores-swept}
use Rattle.shared_store.proofs.Swept.{generations-swept, lasts-swept}
use Rattle.shared_store.proofs.shared.Shared.sweep.Goals as goal

pub invariant_of-result : goal.invariant_of-result
invariant_of-result c =
    let is = swept_back c.args.self.store c.release-store.result c.hold-held.result.0 c.sweep-swept.new.w c.sweep-swept.result c.hold-held.ensures.content c.release-store.ensures c.sweep-swept.ensures in
    record { as_many = c.args.self.as_many; idle = still_idle c.args.self.store c.release-store.result c.sweep-swept.result c.args.self.idle is }

pub returns-clause-lasts : goal.returns-clause-lasts
returns-clause-lasts c =
    let is = swept_back c.args.self.store c.release-store.result c.hold-held.result.0 c.sweep-swept.new.w c.sweep-swept.result c.hold-held.ensures.content c.release-store.ensures c.sweep-swept.ensures in
    lasts-swept c.args.self _ c.sweep-swept.result c.tell_sound.ensures.store c.tell_sound-2.ensures.store is refl

pub returns-clause-generations : goal.returns-clause-generations
returns-clause-generations c =
    let is = swept_back c.args.self.store c.release-store.result c.hold-held.result.0 c.sweep-swept.new.w c.sweep-swept.result c.hold-held.ensures.content c.release-store.ensures c.sweep-swept.ensures in
    generations-swept c.args.self.store c.release-store.result c.sweep-swept.result c.tell_sound.ensures.store is

pub returns-clause-stored : goal.returns-clause-stored
returns-clause-stored c =
    let is = swept_back c.args.self.store c.release-store.result c.hold-held.result.0 c.sweep-swept.new.w c.sweep-swept.result c.hold-held.ensures.content c.release-store.ensures c.sweep-swept.ensures in
    stores-swept c.args.self (record { store = c.release-store.result; cells = c.args.self.cells; as_many = c.args.self.as_many; idle = still_idle c.args.self.store c.release-store.result c.sweep-swept.result c.args.self.idle is }) c.tell_sound.ensures.store c.tell_sound-2.ensures.store (λ _. ⊥) c.sweep-swept.result is

pub returns-clause-emptied : goal.returns-clause-emptied
returns-clause-emptied c uncounted =
    let is = swept_back c.args.self.store c.release-store.result c.hold-held.result.0 c.sweep-swept.new.w c.sweep-swept.result c.hold-held.ensures.content c.release-store.ensures c.sweep-swept.ensures in
    emptied c.args.self.store c.release-store.result c.tell_sound.ensures.store c.tell_sound-2.ensures.store c.sweep-swept.result is c.args.self.idle uncounted
