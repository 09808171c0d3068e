use Rattle.std.proofs.Common.{arith, refl}
use Rattle.function_laws.specs.declared.history.Call.TheVariants as calls
use Rattle.function_laws.specs.declared.making.Making.TheVariants as makings
use Rattle.function_laws.specs.declared.making.BddMaking.TheVariants as bdds
use Rattle.function_laws.specs.Values.{negation}
use Rattle.net_jobs.proofs.HostLaws.{denied, has_room, held_is_bdd, made, named_back, named_ok, named_own, outcome-complement, told_full}
use Rattle.net_jobs.proofs.hosting.SessionHostHost.complement.Goals as goal

pub not-requires : goal.not-requires
not-requires g c = let s = c.args.session.now in record { own = c.requires.may.own.own; room = has_room s (omega (arith, c.requires.may.room)) c.ready.ensures; can = (held_is_bdd s c.args.f c.requires.held, tt) }

pub returns-clause-made : goal.returns-clause-made
returns-clause-made g c =
    let old = c.args.session.now in
    let new = c.not.new.self in
    let call = calls.Makes (makings.Bdd (bdds.Not c.args.f)) in
    named_ok old new call c.not.result (denied old new call c.not.result c.not.ensures.told) c.named.result c.named.ensures _
    (λ name place called a holds. made old new call name place called refl (λ cell. refl) (negation a) (outcome-complement old called.board c.args.f a holds.stands))

pub returns-clause-back : goal.returns-clause-back
returns-clause-back g c =
    let old = c.args.session.now in
    let new = c.not.new.self in
    let call = calls.Makes (makings.Bdd (bdds.Not c.args.f)) in
    let m = c.args.self.now.manager.now in
    named_back old new call c.not.result (denied old new call c.not.result c.not.ensures.told) c.named.result c.named.ensures _ _ c.args.self.now
    (named_own old new call m c.not.result (denied old new call c.not.result c.not.ensures.told) c.requires.may.own) refl (λ cell. refl)
    (λ full limit tells. told_full m old call full c.requires.may.own.own limit tells.0)
