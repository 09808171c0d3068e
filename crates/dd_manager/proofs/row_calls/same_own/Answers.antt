use Rattle.std.proofs.Common.{◌≡◌, ◌∙◌, IsTrue, ◌↔◌, ℕ, false, rules, subst, sym}
use Rattle.edge_bits.specs.declared.edges.Kind.{Kind}
use Rattle.function_laws.specs.declared.history.Name.{Name}
use Rattle.function_laws.specs.Kinds.{ValueOf}
use Rattle.store_rows.specs.RowStores.{IsLive, IsLiveAs, Names}
use Rattle.dd_manager.specs.Requests.{is_foreign}
use Rattle.dd_manager.proofs.Comparing.{matched, told-kinds, told-same, unmatched}
use Rattle.dd_manager.proofs.row_calls.same_own.Goals as goal

pub returns-then-not-has_kind : goal.returns-then-not-has_kind
returns-then-not-has_kind c =
    let live : IsLive c.args.rows.now.rows.live c.second_of-g.result = search rules in
    let own : is_foreign c.args.manager 2 c.args.request.now ≡ false = sym c.is_foreign.ensures ∙ c.if-is_foreign.false in
    told-kinds (is_foreign c.args.manager 2 c.args.request.now) c.args.rows.now c.args.request.now c.told-then-not-has_kind.result own c.kind-kind.result
    (subst (λ (h : Name). IsLiveAs c.kind-kind.result c.args.rows.now.rows.live h) c.first_of-f.ensures c.kind-kind.ensures)
    (subst (λ (h : Name). IsLive c.args.rows.now.rows.live h) c.second_of-g.ensures live)
    (subst (λ (h : Name). IsLiveAs c.kind-kind.result c.args.rows.now.rows.live h → ⊥) c.second_of-g.ensures (unmatched c.has_kind.result _ _ c.has_kind.ensures c.if-not-has_kind.true))
    c.told-then-not-has_kind.ensures

pub same-requires : goal.same-requires
same-requires c = (c.kind-kind.result, c.kind-kind.ensures, matched c.has_kind.result _ _ c.has_kind.ensures c.if-not-has_kind.false)

pub returns : goal.returns
returns c =
    let own : is_foreign c.args.manager 2 c.args.request.now ≡ false = sym c.is_foreign.ensures ∙ c.if-is_foreign.false in
    told-same (is_foreign c.args.manager 2 c.args.request.now) c.args.rows.now c.args.request.now c.truth.result own c.kind-kind.result
    (subst (λ (h : Name). IsLiveAs c.kind-kind.result c.args.rows.now.rows.live h) c.first_of-f.ensures c.kind-kind.ensures)
    c.same.result
    (subst (λ (h : Name). IsLiveAs c.kind-kind.result c.args.rows.now.rows.live h) c.second_of-g.ensures (matched c.has_kind.result _ _ c.has_kind.ensures c.if-not-has_kind.false))
    c.truth.ensures.status c.truth.ensures.value
    (subst (λ (z : Name × Name). (l : Kind) (f g : ℕ → ValueOf l) → Names c.args.rows.now l z.0 f → Names c.args.rows.now l z.1 g → IsTrue c.same.result ↔ (f ≡ g)) (λ i. (c.first_of-f.ensures i, c.second_of-g.ensures i)) c.same.ensures)
