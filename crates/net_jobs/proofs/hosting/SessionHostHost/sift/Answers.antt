use Rattle.std.proofs.Common.{List, ap, subst, sym, ◌∙◌}
use Rattle.function_laws.specs.SiftedOrders.{Block}
use Rattle.function_laws.specs.declared.history.Call.TheVariants as calls
use Rattle.function_laws.specs.declared.history.Reply.TheVariants as replies
use Rattle.function_laws.specs.declared.orders.Order.TheVariants.{Variables}
use Rattle.group_sift.specs.Turns.{one_block}
use Rattle.dd_session.specs.Siftings.{SiftsLevels}
use Rattle.net_jobs.proofs.Counted.{is_counted}
use Rattle.net_jobs.proofs.HostLaws.{sifts, still_own}
use Rattle.net_jobs.proofs.hosting.SessionHostHost.sift.Goals as goal

pub returns-clause-own : goal.returns-clause-own
returns-clause-own g c =
    let sifted = c.sift-sifted.ensures.sifted in
    still_own c.args.self.now.manager.now c.args.session.now c.sift-sifted.new.self (calls.Sift sifted.sifting) replies.Done c.sift-sifted.result.place sifted.told c.requires.may.own

pub returns-clause-sifts : goal.returns-clause-sifts
returns-clause-sifts g c =
    let old = c.args.session.now in
    let new = c.sift-sifted.new.self in
    let result = c.sift-sifted.result in (
      result.place,
      sifts old new c.args.self.now.manager.now.limit result
          (subst (λ (blocks : List Block). SiftsLevels Variables blocks old new result) (c.in_ok-blocks.ensures ∙ ap one_block c.requires.variables) c.sift-sifted.ensures.sifted)
          (ap (λ m. m.limit) (sym c.requires.may.own.own)),
    )

pub returns-clause-counted : goal.returns-clause-counted
returns-clause-counted g c = is_counted c.args.session.now

pub returns-in_err-blocks-clause-counted : goal.returns-in_err-blocks-clause-counted
returns-in_err-blocks-clause-counted g c = is_counted c.args.session.now
