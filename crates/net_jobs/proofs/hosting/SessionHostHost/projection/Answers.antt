use Rattle.std.proofs.Common.{arith, refl}
use Rattle.function_laws.specs.declared.history.Call.TheVariants as calls
use Rattle.function_laws.specs.declared.making.Making.TheVariants as makings
use Rattle.function_laws.specs.declared.making.BddMaking.TheVariants as bdds
use Rattle.function_laws.specs.Values.{projection}
use Rattle.net_jobs.proofs.HostLaws.{denied, has_room, made, named_back, named_ok, named_own, outcome-projection, told_full}
use Rattle.net_jobs.proofs.hosting.SessionHostHost.projection.Goals as goal

pub var-requires : goal.var-requires
var-requires g c = record { own = c.requires.may.own.own; room = has_room c.args.session.now (omega (arith, c.requires.may.room)) c.ready.ensures; can = (c.requires.variable, tt) }

pub returns-clause-made : goal.returns-clause-made
returns-clause-made g c =
    let old = c.args.session.now in
    let new = c.var.new.self in
    let call = calls.Makes (makings.Bdd (bdds.Var c.args.variable)) in
    named_ok old new call c.var.result (denied old new call c.var.result c.var.ensures.told) c.named.result c.named.ensures _
    (λ name place called. made old new call name place called refl (λ cell. refl) (projection c.args.variable) (outcome-projection old called.board c.args.variable c.requires.variable))

pub returns-clause-back : goal.returns-clause-back
returns-clause-back g c =
    let old = c.args.session.now in
    let new = c.var.new.self in
    let call = calls.Makes (makings.Bdd (bdds.Var c.args.variable)) in
    let m = c.args.self.now.manager.now in
    named_back old new call c.var.result (denied old new call c.var.result c.var.ensures.told) c.named.result c.named.ensures _ _ c.args.self.now
    (named_own old new call m c.var.result (denied old new call c.var.result c.var.ensures.told) c.requires.may.own) refl (λ cell. refl)
    (λ full limit tells. told_full m old call full c.requires.may.own.own limit tells.0)
