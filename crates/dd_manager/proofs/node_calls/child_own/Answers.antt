use Rattle.std.proofs.Common.{◌≡◌, ◌∙◌, false, IfOk, rules, subst, sym}
use Rattle.function_laws.specs.declared.history.Name.{Name}
use Rattle.store_rows.specs.Nodes.{IsChild}
use Rattle.store_rows.specs.RowStores.{IsLive}
use Rattle.dd_manager.specs.Requests.{is_foreign}
use Rattle.dd_manager.proofs.Calls.{given-child}
use Rattle.dd_manager.proofs.node_calls.child_own.Goals as goal

pub returns-clause-serves : goal.returns-clause-serves
returns-clause-serves c =
    let live : IsLive c.args.rows.now.rows.live c.first_of-h.result = search rules in
    let own : is_foreign c.args.manager 1 c.args.request.now ≡ false = sym c.is_foreign.ensures ∙ c.if-is_foreign.false in
    given-child (is_foreign c.args.manager 1 c.args.request.now) own c.args.request.now c.args.rows.now c.child_told.result c.args.manager c.args.taken c.child-made.new.self c.child-made.result
    (subst (λ (h : Name). IsLive c.args.rows.now.rows.live h) c.first_of-h.ensures live)
    (subst (λ (h : Name). IfOk c.child-made.result (IsChild c.args.rows.now c.child-made.new.self h c.args.taken)) c.first_of-h.ensures c.child-made.ensures.ok) c.child-made.ensures.err c.child_told.ensures
