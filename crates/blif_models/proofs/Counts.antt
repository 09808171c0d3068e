-- What is counted through levels of models is what the models of a graph have in all.
use Rattle.std.proofs.Common.{◌≡◌, ℕ, zero, suc, ◌+◌, Bool, true, List, [], ◌∷◌, Option, Some, None, map, option_to_list, refl, sym, ◌∙◌, arith}
use Rattle.std.specs.Prelude.{All, sum_by, slice_get}
use Rattle.std.proofs.lemmas.List.Elements.{All-head, All-tail}
use Rattle.std.proofs.lemmas.List.Sums.{sum_by-append, sum_by-cons}
use Rattle.blif_order.specs.Orders.{reads_of}
use Rattle.blif_models.specs.Circuits.{Cover}
use Rattle.blif_models.specs.Models.{Model, Item, covered, latched, held, Instance, Latch, copies_by, copies_within, items_in, model_of}
use Rattle.blif_models.specs.ModelFaults.{latches_by, latches_in_all, signals_by, signals_within}
use Rattle.blif_models.specs.Graphs.{total_within}
use Rattle.blif_models.specs.ModelGraphs.{AreCounts, CountsAreTotals, held_models}

-- a sum over models is the sum over their numbers
sum_over : (models : List Model) (f : Model → ℕ) (g : ℕ → ℕ) (among : ℕ → Bool) → ((n : ℕ) (model : Model) → among n ≡ true → slice_get models n ≡ Some model → f model ≡ g n)
    → (ms : List Model) (numbers : List ℕ) → All (λ n. among n ≡ true) numbers → map (slice_get models) numbers ≡ map Some ms → sum_by f ms ≡ sum_by g numbers
sum_over models f g among h [] [] a e = refl
sum_over models f g among h [] (n ∷ numbers) a e = cc
sum_over models f g among h (m ∷ ms) [] a e = cc
sum_over models f g among h (m ∷ ms) (n ∷ numbers) a e =
    let here : slice_get models n ≡ Some m = cc in
    let rest : map (slice_get models) numbers ≡ map Some ms = cc in
    sum_by-cons f m ms
    ∙ (λ j. h n m (All-head (λ k. among k ≡ true) n numbers a) here j + sum_over models f g among h ms numbers (All-tail (λ k. among k ≡ true) n numbers a) rest j)
    ∙ sym (sum_by-cons g n numbers)

-- what the instances of some items have is what the models have that they hold
module _ (by : (Instance → ℕ) → Item → ℕ) (count : List Item → ℕ) (none : count [] ≡ 0)
    (of_cover : (inside : Instance → ℕ) (cover : Cover) → by inside (covered cover) ≡ by (λ instance. 0) (covered cover))
    (of_latch : (inside : Instance → ℕ) (latch : Latch) → by inside (latched latch) ≡ by (λ instance. 0) (latched latch))
    (of_instance : (inside : Instance → ℕ) (instance : Instance) → by inside (held instance) ≡ by (λ instance. 0) (held instance) + inside instance) where
  of_model : (found : Option Model) → count (items_in found) ≡ sum_by (λ model. count model.items) (option_to_list found)
  of_model None = none
  of_model (Some model) = omega (arith, sum_by-cons (λ (one : Model). count one.items) model [])

  parted : (models : List Model) (items : List Item) → sum_by (by (λ instance. count (items_in (model_of models instance)))) items ≡ sum_by (by (λ instance. 0)) items + sum_by (λ model. count model.items) (held_models models items)
  parted models [] = refl
  parted models (covered cover ∷ items) =
      let inside : Instance → ℕ = λ instance. count (items_in (model_of models instance)) in
      omega (arith, sum_by-cons (by inside) (covered cover) items, sum_by-cons (by (λ instance. 0)) (covered cover) items, of_cover inside cover, parted models items)
  parted models (latched latch ∷ items) =
      let inside : Instance → ℕ = λ instance. count (items_in (model_of models instance)) in
      omega (arith, sum_by-cons (by inside) (latched latch) items, sum_by-cons (by (λ instance. 0)) (latched latch) items, of_latch inside latch, parted models items)
  parted models (held instance ∷ items) =
      let inside : Instance → ℕ = λ instance. count (items_in (model_of models instance)) in
      let found = model_of models instance in
      omega (
        arith,
        sum_by-cons (by inside) (held instance) items,
        sum_by-cons (by (λ instance. 0)) (held instance) items,
        of_instance inside instance,
        of_model found,
        sum_by-append (λ (model : Model). count model.items) (option_to_list found) (held_models models items),
        parted models items,
      )

-- so through one more level of models
module _ (by : (Instance → ℕ) → Item → ℕ) (count : List Model → ℕ → List Item → ℕ)
    (of_cover : (inside : Instance → ℕ) (cover : Cover) → by inside (covered cover) ≡ by (λ instance. 0) (covered cover))
    (of_latch : (inside : Instance → ℕ) (latch : Latch) → by inside (latched latch) ≡ by (λ instance. 0) (latched latch))
    (of_instance : (inside : Instance → ℕ) (instance : Instance) → by inside (held instance) ≡ by (λ instance. 0) (held instance) + inside instance)
    (nothing : (models : List Model) (levels : ℕ) → count models levels [] ≡ 0)
    (own_count : (models : List Model) (items : List Item) → count models zero items ≡ sum_by (by (λ instance. 0)) items)
    (one_more : (models : List Model) (levels : ℕ) (items : List Item) → count models (suc levels) items ≡ sum_by (by (λ instance. count models levels (items_in (model_of models instance)))) items) where
  are_counts : AreCounts (λ items. sum_by (by (λ instance. 0)) items) count
  unfolding total_within
  are_counts models among holds own graph noted zero m model in_it at = own_count models model.items ∙ sym (noted m model in_it at)
  are_counts models among holds own graph noted (suc levels) m model in_it at =
      one_more models levels model.items
      ∙ parted by (count models levels) (nothing models levels) of_cover of_latch of_instance models model.items
      ∙ (λ j. sym (noted m model in_it at) j + sum_over models (λ one. count models levels one.items) (total_within holds own levels) among (λ n one inside there. are_counts models among holds own graph noted levels n one inside there)
      (held_models models model.items) (reads_of holds m) (graph.closed m model in_it at) (graph.told m model in_it at) j)

no_signals : (models : List Model) (levels : ℕ) → signals_within models levels [] ≡ 0
unfolding signals_within
no_signals models zero = refl
no_signals models (suc levels) = refl

no_latches : (models : List Model) (levels : ℕ) → latches_in_all models levels [] ≡ 0
unfolding latches_in_all
no_latches models zero = refl
no_latches models (suc levels) = refl

no_copies : (models : List Model) (levels : ℕ) → copies_within models levels [] ≡ 0
unfolding copies_within
no_copies models zero = refl
no_copies models (suc levels) = refl

pub counts_are_totals : CountsAreTotals
unfolding signals_within latches_in_all copies_within
counts_are_totals = record {
  signals = are_counts signals_by signals_within (λ inside cover. refl) (λ inside latch. refl) (λ inside instance. omega arith) no_signals (λ models items. refl) (λ models levels items. refl);
  latches = are_counts latches_by latches_in_all (λ inside cover. refl) (λ inside latch. refl) (λ inside instance. omega arith) no_latches (λ models items. refl) (λ models levels items. refl);
  copies = are_counts copies_by copies_within (λ inside cover. refl) (λ inside latch. refl) (λ inside instance. omega arith) no_copies (λ models items. refl) (λ models levels items. refl);
}
