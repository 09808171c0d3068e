use Rattle.std.proofs.Common.{arith, refl}
use Rattle.function_laws.specs.declared.history.Call.TheVariants as calls
use Rattle.function_laws.specs.declared.making.Making.TheVariants as makings
use Rattle.function_laws.specs.declared.making.BddMaking.TheVariants as bdds
use Rattle.function_laws.specs.Values.{if_then_else}
use Rattle.net_jobs.proofs.HostLaws.{has_room, held_is_bdd, made, named_back, named_ok, named_own, outcome-choice, told_full}
use Rattle.net_jobs.proofs.hosting.SessionHostHost.choice.Goals as goal

pub ite-requires : goal.ite-requires
ite-requires g c =
    let s = c.args.session.now in
    record {
      own = c.requires.may.own.own;
      room = has_room s (omega (arith, c.requires.may.room)) c.ready.ensures;
      can = (held_is_bdd s c.args.f c.requires.first, (held_is_bdd s c.args.g c.requires.second, (held_is_bdd s c.args.h c.requires.third, tt)));
    }

pub returns-clause-made : goal.returns-clause-made
returns-clause-made g c =
    let old = c.args.session.now in
    let new = c.ite.new.self in
    let call = calls.Makes (makings.Bdd (bdds.Ite c.args.f c.args.g c.args.h)) in
    named_ok old new call c.ite.result c.ite.ensures.told c.named.result c.named.ensures _
    (λ name place called a b d first second third. made old new call name place called refl (λ cell. refl) (if_then_else a b d)
    (outcome-choice old called.board c.args.f c.args.g c.args.h a b d first.stands second.stands third.stands))

pub returns-clause-back : goal.returns-clause-back
returns-clause-back g c =
    let old = c.args.session.now in
    let new = c.ite.new.self in
    let call = calls.Makes (makings.Bdd (bdds.Ite c.args.f c.args.g c.args.h)) in
    let m = c.args.self.now.manager.now in
    named_back old new call c.ite.result c.ite.ensures.told c.named.result c.named.ensures _ _ c.args.self.now
    (named_own old new call m c.ite.result c.ite.ensures.told c.requires.may.own) refl (λ cell. refl)
    (λ full limit tells. told_full m old call full c.requires.may.own.own limit tells.0)
