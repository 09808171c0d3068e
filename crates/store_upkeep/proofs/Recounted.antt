-- A count word that was written changes nothing else.
use Rattle.std.proofs.Common.{◌≡◌, ℕ, set, refl, ap, sym, subst, ◌∙◌}
use Rattle.std.proofs.lemmas.List.{get_or-set_other}
use mathlib.Core.Logic.{dite}
use native.Mathlib.Decide.{ℕ_discrete}
use Rattle.handle_count.specs.CountWords.{generation_of}
use Rattle.node_slots.specs.Stores.{Plain, count_at, generation_at, is_held, plain_view}
use Rattle.store_upkeep.specs.Lasting.{IsCounted}

pub recounted : (p q : Plain) (s word : ℕ) → q ≡ record p { counts = set p.counts s word } → generation_at q s ≡ generation_at p s → IsCounted p q
recounted p q s word is at_slot = record {
  view = subst (λ (x : Plain). plain_view x ≡ record (plain_view p) { count = count_at x; generation = generation_at x }) (sym is) refl
      ∙ ap (λ (g : ℕ → ℕ). record (plain_view p) { count = count_at q; generation = g }) (λ i k. each k i);
  orders = λ i. record { variables = (is i).variables_at; elements = (is i).elements_at };
  holds = ap is_held is;
}
  where
    each : (k : ℕ) → generation_at q k ≡ generation_at p k
    each k = dite (ℕ_discrete k s)
        (λ same. ap (generation_at q) same ∙ at_slot ∙ ap (generation_at p) (sym same))
        (λ other. ap (λ (x : Plain). generation_at x k) is ∙ ap generation_of (get_or-set_other p.counts s k word 0 other))
