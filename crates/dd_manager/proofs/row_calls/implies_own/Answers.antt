use Rattle.std.proofs.Common.{◌≡◌, ◌∙◌, inl, inr, ℕ, true, false, ◌↔◌, rules, subst, sym}
use Rattle.edge_bits.specs.declared.edges.Kind.TheVariants as kinds
use Rattle.function_laws.specs.declared.history.Name.{Name}
use Rattle.function_laws.specs.Kinds.{ValueOf}
use Rattle.node_store.specs.Memo.{Implies}
use Rattle.store_rows.specs.RowStores.{IsLive, IsLiveAs, Names}
use Rattle.store_rows.proofs.Changes.{same-refl}
use Rattle.dd_manager.specs.Requests.{is_foreign}
use Rattle.dd_manager.proofs.Calls.{told-implied, told-others, told-unlive, told-wanting}
use Rattle.dd_manager.proofs.Comparing.{matched, unmatched}
use Rattle.dd_manager.proofs.row_calls.implies_own.Goals as goal

pub returns-then-not-is_live-2-clause-serves : goal.returns-then-not-is_live-2-clause-serves
returns-then-not-is_live-2-clause-serves c =
    let own : is_foreign c.args.manager 2 c.args.request.now ≡ false = sym c.is_foreign.ensures ∙ c.if-is_foreign.false in
    let none : IsLive c.args.rows.now.rows.live c.second_of-g.result → ⊥ = λ live. let z : true ≡ false = sym (c.is_live-2.ensures.1 live) ∙ c.if-not-is_live-2.true in cc in
    told-unlive (is_foreign c.args.manager 2 c.args.request.now) own c.args.request.now c.args.rows.now c.told-then-not-is_live-2.result
    (inr (subst (λ (h : Name). IsLive c.args.rows.now.rows.live h → ⊥) c.second_of-g.ensures none)) c.told-then-not-is_live-2.ensures

pub returns-then-not-has_kind-clause-serves : goal.returns-then-not-has_kind-clause-serves
returns-then-not-has_kind-clause-serves c =
    let one : IsLive c.args.rows.now.rows.live c.first_of-f.result = search rules in
    let two : IsLive c.args.rows.now.rows.live c.second_of-g.result = search rules in
    let own : is_foreign c.args.manager 2 c.args.request.now ≡ false = sym c.is_foreign.ensures ∙ c.if-is_foreign.false in
    told-others (is_foreign c.args.manager 2 c.args.request.now) own c.args.request.now c.args.rows.now c.told-then-not-has_kind.result (same-refl c.args.rows.now)
    (subst (λ (h : Name). IsLive c.args.rows.now.rows.live h) c.first_of-f.ensures one) (subst (λ (h : Name). IsLive c.args.rows.now.rows.live h) c.second_of-g.ensures two)
    (inl (subst (λ (h : Name). IsLiveAs kinds.Bdd c.args.rows.now.rows.live h → ⊥) c.first_of-f.ensures (unmatched c.has_kind.result _ _ c.has_kind.ensures c.if-not-has_kind.true))) c.told-then-not-has_kind.ensures

pub returns-then-not-has_kind-2-clause-serves : goal.returns-then-not-has_kind-2-clause-serves
returns-then-not-has_kind-2-clause-serves c =
    let one : IsLive c.args.rows.now.rows.live c.first_of-f.result = search rules in
    let two : IsLive c.args.rows.now.rows.live c.second_of-g.result = search rules in
    let own : is_foreign c.args.manager 2 c.args.request.now ≡ false = sym c.is_foreign.ensures ∙ c.if-is_foreign.false in
    told-others (is_foreign c.args.manager 2 c.args.request.now) own c.args.request.now c.args.rows.now c.told-then-not-has_kind-2.result (same-refl c.args.rows.now)
    (subst (λ (h : Name). IsLive c.args.rows.now.rows.live h) c.first_of-f.ensures one) (subst (λ (h : Name). IsLive c.args.rows.now.rows.live h) c.second_of-g.ensures two)
    (inr (subst (λ (h : Name). IsLiveAs kinds.Bdd c.args.rows.now.rows.live h → ⊥) c.second_of-g.ensures (unmatched c.has_kind-2.result _ _ c.has_kind-2.ensures c.if-not-has_kind-2.true))) c.told-then-not-has_kind-2.ensures

pub leq-implied-requires : goal.leq-implied-requires
leq-implied-requires c = (matched c.has_kind.result _ _ c.has_kind.ensures c.if-not-has_kind.false, matched c.has_kind-2.result _ _ c.has_kind-2.ensures c.if-not-has_kind-2.false)

pub returns-in-Ok-clause-serves : goal.returns-in-Ok-clause-serves
returns-in-Ok-clause-serves c =
    let own : is_foreign c.args.manager 2 c.args.request.now ≡ false = sym c.is_foreign.ensures ∙ c.if-is_foreign.false in
    told-implied (is_foreign c.args.manager 2 c.args.request.now) own c.args.request.now c.args.rows.now c.truth.result c.leq-implied.new.self c.leq-implied.ensures.same
    (subst (λ (h : Name). IsLiveAs kinds.Bdd c.args.rows.now.rows.live h) c.first_of-f.ensures (matched c.has_kind.result _ _ c.has_kind.ensures c.if-not-has_kind.false))
    (subst (λ (h : Name). IsLiveAs kinds.Bdd c.args.rows.now.rows.live h) c.second_of-g.ensures (matched c.has_kind-2.result _ _ c.has_kind-2.ensures c.if-not-has_kind-2.false))
    c.in-Ok.yes c.truth.ensures.status c.truth.ensures.value
    (subst (λ (z : Name × Name). (f g : ℕ → ValueOf kinds.Bdd) → Names c.args.rows.now kinds.Bdd z.0 f → Names c.args.rows.now kinds.Bdd z.1 g → (c.in-Ok.yes ≡ true) ↔ Implies f g) (λ i. (c.first_of-f.ensures i, c.second_of-g.ensures i)) c.in-Ok.ensures.leq)

pub returns-in-Err-clause-serves : goal.returns-in-Err-clause-serves
returns-in-Err-clause-serves c =
    let own : is_foreign c.args.manager 2 c.args.request.now ≡ false = sym c.is_foreign.ensures ∙ c.if-is_foreign.false in
    told-wanting (is_foreign c.args.manager 2 c.args.request.now) own c.args.request.now c.args.rows.now c.told-in-Err.result c.leq-implied.new.self c.leq-implied.ensures.same
    (subst (λ (h : Name). IsLiveAs kinds.Bdd c.args.rows.now.rows.live h) c.first_of-f.ensures (matched c.has_kind.result _ _ c.has_kind.ensures c.if-not-has_kind.false))
    (subst (λ (h : Name). IsLiveAs kinds.Bdd c.args.rows.now.rows.live h) c.second_of-g.ensures (matched c.has_kind-2.result _ _ c.has_kind-2.ensures c.if-not-has_kind-2.false))
    c.told-in-Err.ensures
