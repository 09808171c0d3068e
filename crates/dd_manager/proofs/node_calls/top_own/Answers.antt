use Rattle.std.proofs.Common.{◌≡◌, ◌∙◌, ℕ, false, rules, subst, sym}
use Rattle.edge_bits.specs.declared.edges.Kind.{Kind}
use Rattle.function_laws.specs.declared.history.Name.{Name}
use Rattle.function_laws.specs.Kinds.{ValueOf}
use Rattle.store_rows.specs.Nodes.{IsTop}
use Rattle.store_rows.specs.RowStores.{IsLive, Names, edge_in, view_of}
use Rattle.dd_manager.specs.Requests.{is_foreign}
use Rattle.dd_manager.proofs.Calls.{told-top}
use Rattle.dd_manager.proofs.node_calls.top_own.Goals as goal

pub returns-clause-serves : goal.returns-clause-serves
returns-clause-serves c =
    let live : IsLive c.args.rows.now.rows.live c.first_of-h.result = search rules in
    let own : is_foreign c.args.manager 1 c.args.request.now ≡ false = sym c.is_foreign.ensures ∙ c.if-is_foreign.false in
    told-top (is_foreign c.args.manager 1 c.args.request.now) own c.args.request.now c.args.rows.now c.topped.result c.top-top.new.self c.top-top.result
    (subst (λ (h : Name). IsLive c.args.rows.now.rows.live h) c.first_of-h.ensures live) c.top-top.ensures.same c.topped.ensures
    (subst (λ (h : Name). (k : Kind) (f : ℕ → ValueOf k) → Names c.args.rows.now k h f → IsTop k (view_of c.top-top.new.self) (edge_in c.args.rows.now.rows.live h) f c.top-top.result) c.first_of-h.ensures c.top-top.ensures.top)
