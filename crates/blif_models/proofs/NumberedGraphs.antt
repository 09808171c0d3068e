-- What numbered models hold and have.
use Rattle.std.proofs.Common.{◌≡◌, ℕ, zero, suc, ◌+◌, ◌||◌, Bool, true, List, [], ◌∷◌, ◌++◌, Option, Some, map, get_or, option_to_list, ◌==◌, refl, ap, sym, ◌∙◌, subst, arith}
use Rattle.std.specs.Prelude.{All, slice_get, sum_by}
use Rattle.std.proofs.lemmas.Bool.{or_right}
use Rattle.std.proofs.lemmas.List.Elements.{All-cons, All-nil}
use Rattle.std.proofs.lemmas.List.Sums.{sum_by-cons}
use Rattle.job_words.specs.Text.{Word}
use Rattle.blif_order.specs.Orders.{is_in, reads_of}
use Rattle.blif_order.proofs.Walks.{own}
use Rattle.blif_models.specs.declared.numbered.Entry.{Entry}
use Rattle.blif_models.specs.declared.numbered.Entry.TheVariants as entries
use Rattle.blif_models.specs.declared.numbered.NumberedInstance.{NumberedInstance}
use Rattle.blif_models.specs.declared.numbered.NumberedModel.{NumberedModel}
use Rattle.blif_models.specs.Models.{Model, Item, Instance, covered, latched, held, copies_by}
use Rattle.blif_models.specs.ModelFaults.{latches_by, signals_by}
use Rattle.blif_models.specs.Layouts.{model_at, no_model}
use Rattle.blif_models.specs.ModelGraphs.{held_models}
use Rattle.blif_models.specs.NumberedGraphs.{NumberedAreGraphs, all_held, copies_of, held_by, latches_of, own_of, signals_of}
use Rattle.blif_models.specs.Numberings.{AreEntriesOf}
use Rattle.blif_models.proofs.Orderings.{places_are_ranks}

-- what a model of the list holds, also behind its end
pub held_of : (numbered : List NumberedModel) (m : ℕ) → reads_of (all_held numbered) m ≡ held_by (model_at numbered m).entries
held_of [] m = refl
held_of (one ∷ numbered) zero = refl
held_of (one ∷ numbered) (suc m) = held_of numbered m

noted_of : (f : NumberedModel → ℕ) → f no_model ≡ 0 → (numbered : List NumberedModel) (m : ℕ) → get_or (map f numbered) m 0 ≡ f (model_at numbered m)
noted_of f none [] m = sym none
noted_of f none (one ∷ numbered) zero = refl
noted_of f none (one ∷ numbered) (suc m) = noted_of f none numbered m

same_models : (models : List Model) (among : ℕ → Bool) (words : List (List Word)) (m place : ℕ) (items : List Item) (others : List Entry) → AreEntriesOf models among words m place items others
    → map (slice_get models) (held_by others) ≡ map Some (held_models models items)
same_models models among words m place [] [] a = refl
same_models models among words m place [] (one ∷ others) a = absurd a
same_models models among words m place (one ∷ items) [] a = absurd a
same_models models among words m place (covered cover ∷ items) (entries.Latch one ∷ others) a = absurd a.0
same_models models among words m place (covered cover ∷ items) (entries.Instance one ∷ others) a = absurd a.0
same_models models among words m place (latched latch ∷ items) (entries.Cover one ∷ others) a = absurd a.0
same_models models among words m place (latched latch ∷ items) (entries.Instance one ∷ others) a = absurd a.0
same_models models among words m place (held instance ∷ items) (entries.Cover one ∷ others) a = absurd a.0
same_models models among words m place (held instance ∷ items) (entries.Latch one ∷ others) a = absurd a.0
same_models models among words m place (covered cover ∷ items) (entries.Cover one ∷ others) a = same_models models among words m (place + 1) items others a.1
same_models models among words m place (latched latch ∷ items) (entries.Latch one ∷ others) a = same_models models among words m (place + 1) items others a.1
same_models models among words m place (held instance ∷ items) (entries.Instance one ∷ others) a =
    let found = a.0.1 in
    (λ j. found.1 j ∷ same_models models among words m (place + 1) items others a.1 j) ∙ sym (ap (λ (o : Option Model). map Some (option_to_list o ++ held_models models items)) found.2)

all_among : (models : List Model) (among : ℕ → Bool) (words : List (List Word)) (m place : ℕ) (items : List Item) (others : List Entry) → AreEntriesOf models among words m place items others → All (λ n. among n ≡ true) (held_by others)
all_among models among words m place [] [] a = All-nil (λ n. among n ≡ true)
all_among models among words m place [] (one ∷ others) a = absurd a
all_among models among words m place (one ∷ items) [] a = absurd a
all_among models among words m place (covered cover ∷ items) (entries.Latch one ∷ others) a = absurd a.0
all_among models among words m place (covered cover ∷ items) (entries.Instance one ∷ others) a = absurd a.0
all_among models among words m place (latched latch ∷ items) (entries.Cover one ∷ others) a = absurd a.0
all_among models among words m place (latched latch ∷ items) (entries.Instance one ∷ others) a = absurd a.0
all_among models among words m place (held instance ∷ items) (entries.Cover one ∷ others) a = absurd a.0
all_among models among words m place (held instance ∷ items) (entries.Latch one ∷ others) a = absurd a.0
all_among models among words m place (covered cover ∷ items) (entries.Cover one ∷ others) a = all_among models among words m (place + 1) items others a.1
all_among models among words m place (latched latch ∷ items) (entries.Latch one ∷ others) a = all_among models among words m (place + 1) items others a.1
all_among models among words m place (held instance ∷ items) (entries.Instance one ∷ others) a = All-cons (λ n. among n ≡ true) one.model (held_by others) a.0.0 (all_among models among words m (place + 1) items others a.1)

-- a count over entries is one over items, where each kind counts alike
module _ (f : Entry → ℕ) (g : Item → ℕ) (of_cover : (cover : _) (one : _) → f (entries.Cover one) ≡ g (covered cover)) (of_latch : (latch : _) (one : _) → f (entries.Latch one) ≡ g (latched latch)) (of_instance : (instance : Instance) (one : NumberedInstance) → f (entries.Instance one) ≡ g (held instance)) where
  same_counts : (models : List Model) (among : ℕ → Bool) (words : List (List Word)) (m place : ℕ) (items : List Item) (others : List Entry) → AreEntriesOf models among words m place items others → sum_by f others ≡ sum_by g items
  same_counts models among words m place [] [] a = refl
  same_counts models among words m place [] (one ∷ others) a = absurd a
  same_counts models among words m place (one ∷ items) [] a = absurd a
  same_counts models among words m place (covered cover ∷ items) (entries.Latch one ∷ others) a = absurd a.0
  same_counts models among words m place (covered cover ∷ items) (entries.Instance one ∷ others) a = absurd a.0
  same_counts models among words m place (latched latch ∷ items) (entries.Cover one ∷ others) a = absurd a.0
  same_counts models among words m place (latched latch ∷ items) (entries.Instance one ∷ others) a = absurd a.0
  same_counts models among words m place (held instance ∷ items) (entries.Cover one ∷ others) a = absurd a.0
  same_counts models among words m place (held instance ∷ items) (entries.Latch one ∷ others) a = absurd a.0
  same_counts models among words m place (covered cover ∷ items) (entries.Cover one ∷ others) a =
      omega (arith, sum_by-cons f (entries.Cover one) others, sum_by-cons g (covered cover) items, of_cover cover one, same_counts models among words m (place + 1) items others a.1)
  same_counts models among words m place (latched latch ∷ items) (entries.Latch one ∷ others) a =
      omega (arith, sum_by-cons f (entries.Latch one) others, sum_by-cons g (latched latch) items, of_latch latch one, same_counts models among words m (place + 1) items others a.1)
  same_counts models among words m place (held instance ∷ items) (entries.Instance one ∷ others) a =
      omega (arith, sum_by-cons f (entries.Instance one) others, sum_by-cons g (held instance) items, of_instance instance one, same_counts models among words m (place + 1) items others a.1)

-- what stands among entries is held by them
held_at_place : (others : List Entry) (place : ℕ) (instance : NumberedInstance) → slice_get others place ≡ Some (entries.Instance instance) → is_in (held_by others) instance.model ≡ true
held_at_place [] place instance e = cc
held_at_place (entries.Cover one ∷ others) zero instance e = cc
held_at_place (entries.Latch one ∷ others) zero instance e = cc
held_at_place (entries.Instance one ∷ others) zero instance e = let same : one ≡ instance = cc in ap (λ (k : NumberedInstance). is_in (k.model ∷ held_by others) instance.model) same ∙ ap (λ b. b || is_in (held_by others) instance.model) (own instance.model)
held_at_place (entries.Cover one ∷ others) (suc place) instance e = held_at_place others place instance e
held_at_place (entries.Latch one ∷ others) (suc place) instance e = held_at_place others place instance e
held_at_place (entries.Instance one ∷ others) (suc place) instance e = or_right (one.model == instance.model) (is_in (held_by others) instance.model) (held_at_place others place instance e)

-- entries, one by one

pub held_more : (es : List Entry) (e : Entry) → held_by (es ++ e ∷ []) ≡ held_by es ++ held_by (e ∷ [])
held_more [] e = refl
held_more (entries.Cover one ∷ es) e = held_more es e
held_more (entries.Latch one ∷ es) e = held_more es e
held_more (entries.Instance one ∷ es) e = ap (λ (ns : List ℕ). one.model ∷ ns) (held_more es e)

pub no_instance : (e : Entry) → ((one : NumberedInstance) → e ≡ entries.Instance one → ⊥) → held_by (e ∷ []) ≡ []
no_instance (entries.Cover one) h = refl
no_instance (entries.Latch one) h = refl
no_instance (entries.Instance one) h = absurd (h one refl)

pub numbered_are_graphs : NumberedAreGraphs
numbered_are_graphs = record {
  graph = λ models among words numbered numbering. record {
    told = λ m model in_it at. ap (map (slice_get models)) (held_of numbered m) ∙ same_models models among words m 0 model.items (model_at numbered m).entries (numbering.entries_are m model in_it at);
    closed = λ m model in_it at. subst (λ (ns : List ℕ). All (λ n. among n ≡ true) ns) (sym (held_of numbered m)) (all_among models among words m 0 model.items (model_at numbered m).entries (numbering.entries_are m model in_it at));
  };
  signals = λ models among words numbered numbering m model in_it at.
      noted_of signals_of refl numbered m
      ∙ same_counts (λ entry. (own_of entry).signals) (signals_by (λ instance. 0)) (λ cover one. refl) (λ latch one. refl) (λ instance one. refl) models among words m 0 model.items (model_at numbered m).entries (numbering.entries_are m model in_it at);
  latches = λ models among words numbered numbering m model in_it at.
      noted_of latches_of refl numbered m
      ∙ same_counts (λ entry. (own_of entry).latches) (latches_by (λ instance. 0)) (λ cover one. refl) (λ latch one. refl) (λ instance one. refl) models among words m 0 model.items (model_at numbered m).entries (numbering.entries_are m model in_it at);
  copies = λ models among words numbered numbering m model in_it at.
      noted_of copies_of refl numbered m
      ∙ same_counts (λ entry. (own_of entry).copies) (copies_by (λ instance. 0)) (λ cover one. refl) (λ latch one. refl) (λ instance one. refl) models among words m 0 model.items (model_at numbered m).entries (numbering.entries_are m model in_it at);
  ranks = λ numbered order ordered all m place instance at.
      places_are_ranks (all_held numbered) order ordered m instance.model (all m place instance at) (ap (λ (ns : List ℕ). is_in ns instance.model) (held_of numbered m) ∙ held_at_place (model_at numbered m).entries place instance at);
}
