use Rattle.std.proofs.Common.{rules, ◌≡◌, ◌∙◌, ◌+◌, ◌≤◌, ◌++◌, ◌∷◌, [], List, ℕ, ℤ, ap, sym, subst, arith, map, take}
use Rattle.std.proofs.lemmas.Grind.{common_steps}
use Rattle.std.proofs.lemmas.List.{map_push, take_all, take_more}
use Rattle.std.proofs.lemmas.List.Elements.{All-push, All-same, All-weaker}
use Rattle.edge_bits.specs.declared.edges.Edge.{Edge}
use Rattle.diagram_dumps.specs.WellMade.{Numbers, NumbersAll}
use Rattle.diagram_dumps.specs.Listings.{IsListing}
use Rattle.node_store.specs.Views.{bdd_at}
use Rattle.node_slots.specs.Stores.{plain_view}
use Rattle.diagram_lists.specs.Walks.{Leads, index_of, next, number}
use Rattle.diagram_lists.proofs.Listings.{is_listing}
use Rattle.diagram_lists.proofs.Numberings.{magnitude, number_below}
use Rattle.diagram_lists.proofs.Roots.{further, same_indices}
use Rattle.diagram_lists.proofs.lister.list.Goals as goal

pub index_of-requires-clause-small : goal.index_of-requires-clause-small
index_of-requires-clause-small c =
    let w = c.walk_from.new.self in
    let e = c.in_ok-walk_from.ensures in
    let below = number_below c.args.store.now w.numbers.items w.lines e.walk c.edge-item.result.index in
    omega (arith, below, e.walk.count, e.walk.as_many, c.limit.ensures.store.few_words)

pub loop-edge-preserved : goal.loop-edge-preserved
loop-edge-preserved c =
    let i = c.loop-edge.invariant in
    let e = c.in_ok-walk_from.ensures in
    let old = c.loop-edge.walk in
    let new = c.walk_from.new.self in
    let edges = c.args.edges.now in
    let at = c.loop-edge.edge-index in
    let edge = c.edge-item.result in
    let taken : take (at + 1) edges ≡ take at edges ++ edge ∷ [] =
    take_more edges at edge c.loop-edge-test.true ∙ ap (λ (x : Edge). take at edges ++ x ∷ []) (sym c.edge-item.is) in
    let has : 1 ≤ number new.numbers.items edge.index = subst (λ s. 1 ≤ number new.numbers.items s) c.index.ensures e.has in
    let leads : Leads new.lines (next old.lines) (number new.numbers.items edge.index) (next new.lines) =
    subst (λ s. Leads new.lines (next old.lines) (number new.numbers.items s) (next new.lines)) c.index.ensures e.leads in
    let grown : c.push.new.self ≡ c.loop-edge.roots ++ c.index_of.result ∷ [] = search rules in
    let pushed : c.push.new.self ≡ c.loop-edge.roots ++ index_of new.numbers.items edge ∷ [] =
    grown ∙ ap (λ (z : ℤ). c.loop-edge.roots ++ z ∷ []) c.index_of.ensures in
    record {
      walk = e.walk;
      stack = e.stack;
      have = All-same (λ (x : Edge). 1 ≤ number new.numbers.items x.index) (take (at + 1) edges) (take at edges ++ edge ∷ []) taken
          (All-push (λ (x : Edge). 1 ≤ number new.numbers.items x.index) (take at edges) edge
          (All-weaker (λ (x : Edge). 1 ≤ number old.numbers.items x.index) (λ (x : Edge). 1 ≤ number new.numbers.items x.index)
          (λ x h. subst (λ m. 1 ≤ m) (sym (e.extended.numbers x.index h)) h) (take at edges) i.have) has);
      roots = pushed ∙ ap (λ (rs : List ℤ). rs ++ index_of new.numbers.items edge ∷ [])
          (i.roots ∙ sym (same_indices old.numbers.items new.numbers.items e.extended.numbers (take at edges) i.have))
          ∙ sym (map_push (index_of new.numbers.items) (take at edges) edge) ∙ ap (map (index_of new.numbers.items)) (sym taken);
      leads = λ dump begins.
          subst (λ (rs : List ℤ). NumbersAll dump 2 rs (next new.lines)) (sym pushed)
          (further dump 2 c.loop-edge.roots (index_of new.numbers.items edge) (next old.lines) (next new.lines)
          (i.leads dump (λ k l h. begins k l (e.extended.lines k l h)))
          (subst (λ m. Numbers dump (next old.lines) m (next new.lines)) (sym (magnitude edge.complement (number new.numbers.items edge.index))) (leads dump begins)));
    }

pub returns : goal.returns
returns c =
    let i = c.loop-edge.invariant in
    let w = c.loop-edge.walk in
    let p = c.args.store.now in
    let edges = c.args.edges.now in
    let all : take c.loop-edge.edge-index edges ≡ edges = take_all c.loop-edge.edge-index edges c.loop-edge-test.false in
    let have = All-same (λ (x : Edge). 1 ≤ number w.numbers.items x.index) edges (take c.loop-edge.edge-index edges) (sym all) i.have in
    subst (λ (order : List ℕ). IsListing p.variables_at (map (bdd_at (plain_view p)) edges) (record { order = order; nodes = w.lines; roots = c.loop-edge.roots })) (sym c.in_ok-order.ensures)
    (is_listing p c.limit.ensures.store w.numbers.items w.lines i.walk c.loop-edge.roots i.leads edges (i.roots ∙ ap (map (index_of w.numbers.items)) all) c.requires have)

pub index_of-requires-clause-within : goal.index_of-requires-clause-within
index_of-requires-clause-within c = grind (arith, common_steps)

pub loop-edge-init : goal.loop-edge-init
loop-edge-init c = grind (arith, common_steps)
