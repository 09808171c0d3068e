-- A count word that was written changes nothing else.
use Rattle.std.proofs.Common.{◌≡◌, ℕ, set, refl, ap, sym, subst, ◌∙◌}
use Rattle.std.proofs.lemmas.List.{get_or-set_other}
use mathlib.Core.Logic.{dite}
use native.Mathlib.Decide.{ℕ_discrete}
use Rattle.handle_count.specs.CountWords.{generation_of}
use Rattle.node_slots.specs.Stores.{Plain, count_at, generation_at, plain_view}
use Rattle.shared_store.specs.declared.shared.Shared.{Shared}
use Rattle.shared_store.specs.Sharing.{count, generation, view_of}
use Rattle.node_store.specs.Views.{View}
use Rattle.shared_store.specs.Lasting.{IsRecounted}

pub recounted : (x y : Shared) (s word : ℕ) → y.store ≡ record x.store { counts = set x.store.counts s word } → generation_at y.store s ≡ generation_at x.store s → y.cells.items ≡ x.cells.items → IsRecounted x y
recounted x y s word is at_slot cells = record {
  view = subst (λ (p : Plain). plain_view p ≡ record (view_of x) { count = count_at p; generation = generation_at p }) (sym is) refl
      ∙ ap (λ (g : ℕ → ℕ). record (view_of x) { count = count_at y.store; generation = g }) (λ i k. each k i);
  cells = cells;
  orders_are = λ i. record { variables = (is i).variables_at; elements = (is i).elements_at };
  generations = λ i k. each k i;
}
  where
    each : (k : ℕ) → generation y k ≡ generation x k
    each k = dite (ℕ_discrete k s)
        (λ same. ap (generation y) same ∙ at_slot ∙ ap (generation x) (sym same))
        (λ other. ap (λ (p : Plain). generation_at p k) is ∙ ap generation_of (get_or-set_other x.store.counts s k word 0 other))

-- a change of counts after another
pub recounted-both : (x y z : Shared) → IsRecounted x y → IsRecounted y z → IsRecounted x z
recounted-both x y z a b = record {
  view = b.view ∙ ap (λ (w : View). record w { count = count z }) a.view;
  cells = b.cells ∙ a.cells;
  orders_are = b.orders_are ∙ a.orders_are;
  generations = b.generations ∙ a.generations;
}

pub recounted-none : (x : Shared) → IsRecounted x x
recounted-none x = record { view = refl; cells = refl; orders_are = refl; generations = refl }
