use Rattle.std.proofs.Common.{◌≡◌, ◌+◌, List, ℕ, length, ap, sym, ◌∙◌}
use Rattle.std.specs.List.{swap}
use Rattle.std.proofs.lemmas.List.Edits.{length-swap}
use Rattle.node_slots.specs.contracts.held_store.HeldStore.{the_view}
use Rattle.node_slots.proofs.Exchanging.{written_back, variables_exchanged, elements_exchanged}
use Rattle.node_slots.proofs.held_store.HeldStoreWhole.exchange.Goals as goal

pub invariant_of-self : goal.invariant_of-self
invariant_of-self c =
    let e = c.exchange_places.ensures in
    let first : c.self.inside.variable_levels.len ≡ length c.exchange_places.new.levels = sym (e.as_many ∙ c.deref_mut.ensures.len) in
    let second : c.self.inside.variables_at.len ≡ length c.exchange_places.new.at = sym (ap length e.at ∙ length-swap c.deref_mut-in-Variables.result.now c.args.level (c.args.level + 1) ∙ c.deref_mut-in-Variables.ensures.len) in
    let levels = written_back c.self.inside.variable_levels.len c.exchange_places.new.levels c.self.inside.variable_levels.items first in
    let at = written_back c.self.inside.variables_at.len c.exchange_places.new.at c.self.inside.variables_at.items second in
    rw (levels, at)
    (variables_exchanged (the_view c.self.inside) c.args.self.now c.self.view_is c.self.invariant c.args.order c.in-Variables.is c.args.level c.requires c.exchange_places.new.levels c.exchange_places.new.at e.inverse
    (e.at ∙ ap (λ (xs : List ℕ). swap xs c.args.level (c.args.level + 1)) c.deref_mut-in-Variables.ensures.value) (e.as_many ∙ ap length c.deref_mut.ensures.value)).held

pub returns-in-Variables : goal.returns-in-Variables
returns-in-Variables c =
    let e = c.exchange_places.ensures in
    let first : c.self.inside.variable_levels.len ≡ length c.exchange_places.new.levels = sym (e.as_many ∙ c.deref_mut.ensures.len) in
    let second : c.self.inside.variables_at.len ≡ length c.exchange_places.new.at = sym (ap length e.at ∙ length-swap c.deref_mut-in-Variables.result.now c.args.level (c.args.level + 1) ∙ c.deref_mut-in-Variables.ensures.len) in
    let levels = written_back c.self.inside.variable_levels.len c.exchange_places.new.levels c.self.inside.variable_levels.items first in
    let at = written_back c.self.inside.variables_at.len c.exchange_places.new.at c.self.inside.variables_at.items second in
    rw (levels, at)
    (variables_exchanged (the_view c.self.inside) c.args.self.now c.self.view_is c.self.invariant c.args.order c.in-Variables.is c.args.level c.requires c.exchange_places.new.levels c.exchange_places.new.at e.inverse
    (e.at ∙ ap (λ (xs : List ℕ). swap xs c.args.level (c.args.level + 1)) c.deref_mut-in-Variables.ensures.value) (e.as_many ∙ ap length c.deref_mut.ensures.value)).after

pub invariant_of-self-in-Elements : goal.invariant_of-self-in-Elements
invariant_of-self-in-Elements c =
    let e = c.exchange_places-in-Elements.ensures in
    let first : c.self.inside.element_levels.len ≡ length c.exchange_places-in-Elements.new.levels = sym (e.as_many ∙ c.deref_mut-in-Elements.ensures.len) in
    let second : c.self.inside.elements_at.len ≡ length c.exchange_places-in-Elements.new.at = sym (ap length e.at ∙ length-swap c.deref_mut-in-Elements-2.result.now c.args.level (c.args.level + 1) ∙ c.deref_mut-in-Elements-2.ensures.len) in
    let levels = written_back c.self.inside.element_levels.len c.exchange_places-in-Elements.new.levels c.self.inside.element_levels.items first in
    let at = written_back c.self.inside.elements_at.len c.exchange_places-in-Elements.new.at c.self.inside.elements_at.items second in
    rw (levels, at)
    (elements_exchanged (the_view c.self.inside) c.args.self.now c.self.view_is c.self.invariant c.args.order c.in-Elements.is c.args.level c.requires c.exchange_places-in-Elements.new.levels c.exchange_places-in-Elements.new.at e.inverse
    (e.at ∙ ap (λ (xs : List ℕ). swap xs c.args.level (c.args.level + 1)) c.deref_mut-in-Elements-2.ensures.value) (e.as_many ∙ ap length c.deref_mut-in-Elements.ensures.value)).held

pub returns-in-Elements : goal.returns-in-Elements
returns-in-Elements c =
    let e = c.exchange_places-in-Elements.ensures in
    let first : c.self.inside.element_levels.len ≡ length c.exchange_places-in-Elements.new.levels = sym (e.as_many ∙ c.deref_mut-in-Elements.ensures.len) in
    let second : c.self.inside.elements_at.len ≡ length c.exchange_places-in-Elements.new.at = sym (ap length e.at ∙ length-swap c.deref_mut-in-Elements-2.result.now c.args.level (c.args.level + 1) ∙ c.deref_mut-in-Elements-2.ensures.len) in
    let levels = written_back c.self.inside.element_levels.len c.exchange_places-in-Elements.new.levels c.self.inside.element_levels.items first in
    let at = written_back c.self.inside.elements_at.len c.exchange_places-in-Elements.new.at c.self.inside.elements_at.items second in
    rw (levels, at)
    (elements_exchanged (the_view c.self.inside) c.args.self.now c.self.view_is c.self.invariant c.args.order c.in-Elements.is c.args.level c.requires c.exchange_places-in-Elements.new.levels c.exchange_places-in-Elements.new.at e.inverse
    (e.at ∙ ap (λ (xs : List ℕ). swap xs c.args.level (c.args.level + 1)) c.deref_mut-in-Elements-2.ensures.value) (e.as_many ∙ ap length c.deref_mut-in-Elements.ensures.value)).after
