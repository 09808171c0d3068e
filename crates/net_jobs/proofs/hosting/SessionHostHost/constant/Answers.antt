use Rattle.std.proofs.Common.{arith, refl}
use Rattle.function_laws.specs.declared.history.Call.TheVariants as calls
use Rattle.function_laws.specs.declared.making.Making.TheVariants as makings
use Rattle.function_laws.specs.declared.making.BddMaking.TheVariants as bdds
use Rattle.function_laws.specs.Values.{constant as constantly}
use Rattle.net_jobs.proofs.HostLaws.{denied, has_room, made, named_back, named_ok, named_own, outcome-one, outcome-zero, told_full}
use Rattle.net_jobs.proofs.hosting.SessionHostHost.constant.Goals as goal

pub one-requires : goal.one-requires
one-requires g c = record { own = c.requires.may.own.own; room = has_room c.args.session.now (omega (arith, c.requires.may.room)) c.ready.ensures; can = tt }

pub zero-requires : goal.zero-requires
zero-requires g c = record { own = c.requires.may.own.own; room = has_room c.args.session.now (omega (arith, c.requires.may.room)) c.ready.ensures; can = tt }

pub returns-then-value-clause-made : goal.returns-then-value-clause-made
returns-then-value-clause-made g c =
    let old = c.args.session.now in
    let new = c.one.new.self in
    named_ok old new (calls.Makes (makings.Bdd bdds.One)) c.one.result (denied old new (calls.Makes (makings.Bdd bdds.One)) c.one.result c.one.ensures.told) c.named.result c.named.ensures _
    (λ name place called. made old new (calls.Makes (makings.Bdd bdds.One)) name place called refl (λ cell. refl) (constantly c.args.value) (outcome-one old called.board c.args.value c.if-value.true))

pub returns-then-value-clause-back : goal.returns-then-value-clause-back
returns-then-value-clause-back g c =
    let old = c.args.session.now in
    let new = c.one.new.self in
    let call = calls.Makes (makings.Bdd bdds.One) in
    let m = c.args.self.now.manager.now in
    named_back old new call c.one.result (denied old new call c.one.result c.one.ensures.told) c.named.result c.named.ensures _ _ c.args.self.now
    (named_own old new call m c.one.result (denied old new call c.one.result c.one.ensures.told) c.requires.may.own) refl (λ cell. refl)
    (λ full limit tells. told_full m old call full c.requires.may.own.own limit tells.0)

pub returns-else-value-clause-made : goal.returns-else-value-clause-made
returns-else-value-clause-made g c =
    let old = c.args.session.now in
    let new = c.zero.new.self in
    named_ok old new (calls.Makes (makings.Bdd bdds.Zero)) c.zero.result (denied old new (calls.Makes (makings.Bdd bdds.Zero)) c.zero.result c.zero.ensures.told) c.named-else-value.result c.named-else-value.ensures _
    (λ name place called. made old new (calls.Makes (makings.Bdd bdds.Zero)) name place called refl (λ cell. refl) (constantly c.args.value) (outcome-zero old called.board c.args.value c.if-value.false))

pub returns-else-value-clause-back : goal.returns-else-value-clause-back
returns-else-value-clause-back g c =
    let old = c.args.session.now in
    let new = c.zero.new.self in
    let call = calls.Makes (makings.Bdd bdds.Zero) in
    let m = c.args.self.now.manager.now in
    named_back old new call c.zero.result (denied old new call c.zero.result c.zero.ensures.told) c.named-else-value.result c.named-else-value.ensures _ _ c.args.self.now
    (named_own old new call m c.zero.result (denied old new call c.zero.result c.zero.ensures.told) c.requires.may.own) refl (λ cell. refl)
    (λ full limit tells. told_full m old call full c.requires.may.own.own limit tells.0)
