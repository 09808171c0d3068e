-- What models hold through levels, and by which instances they hold themselves, by numbers and by names.
use Rattle.std.proofs.Common.{◌≡◌, ℕ, zero, suc, ◌==◌, ◌||◌, Bool, true, false, List, [], ◌∷◌, Option, Some, length, map, flat_map, option_to_list, refl, ap, sym, ◌∙◌}
use Rattle.std.specs.Prelude.{All, slice_get}
use Rattle.std.specs.List.{list_any}
use Rattle.std.proofs.lemmas.Bool.{false≢true}
use Rattle.std.proofs.lemmas.List.Elements.{All-head, All-tail}
use Rattle.std.proofs.lemmas.List.Folds.{list_any-append}
use Rattle.blif_order.specs.Orders.{reads_of}
use Rattle.blif_order.proofs.Walks.{or_none, own, same_number}
use Rattle.blif_models.specs.Agreement.{AreApart, ReachedAgrees}
use Rattle.blif_models.specs.Graphs.{is_reached}
use Rattle.blif_models.specs.ModelFaults.{instances_in, is_model, reached}
use Rattle.blif_models.specs.ModelGraphs.{IsGraph, held_models}
use Rattle.blif_models.specs.Models.{Model, Item, Instance, model_of}
use Rattle.blif_models.specs.NumberedGraphs.{all_held}
use Rattle.blif_models.proofs.Arranged.{how_many}
use Rattle.blif_models.proofs.NumberedGraphs.{numbered_are_graphs}

any_flat : {X Y : Type 0} (p : Y → Bool) (f : X → List Y) (xs : List X) → list_any p (flat_map f xs) ≡ list_any (λ x. list_any p (f x)) xs
any_flat p f [] = refl
any_flat p f (x ∷ xs) = list_any-append p (f x) (flat_map f xs) ∙ ap (λ b. list_any p (f x) || b) (any_flat p f xs)

-- what is reached through one level more is what is held, and what each of these reaches
reached_any : (models : List Model) (p : Model → Bool) (levels : ℕ) (items : List Item) → list_any p (reached models (suc levels) items) ≡ list_any (λ inner. p inner || list_any p (reached models levels inner.items)) (held_models models items)
unfolding reached
reached_any models p levels items =
    let inside : Model → List Model = λ inner. inner ∷ reached models levels inner.items in
    let found : Instance → List Model = λ instance. option_to_list (model_of models instance) in
    any_flat p (λ instance. flat_map inside (found instance)) (instances_in items)
    ∙ (λ j. list_any (λ instance. any_flat p inside (found instance) j) (instances_in items))
    ∙ sym (any_flat (λ inner. list_any p (inside inner)) found (instances_in items))

-- some model passes where its number does
any_over : (models : List Model) (f : Model → Bool) (g : ℕ → Bool) (among : ℕ → Bool) → ((n : ℕ) (model : Model) → among n ≡ true → slice_get models n ≡ Some model → f model ≡ g n)
    → (ms : List Model) (numbers : List ℕ) → All (λ n. among n ≡ true) numbers → map (slice_get models) numbers ≡ map Some ms → list_any f ms ≡ list_any g numbers
any_over models f g among h [] [] a e = refl
any_over models f g among h [] (n ∷ numbers) a e = cc
any_over models f g among h (m ∷ ms) [] a e = cc
any_over models f g among h (m ∷ ms) (n ∷ numbers) a e =
    let here : slice_get models n ≡ Some m = cc in
    let rest : map (slice_get models) numbers ≡ map Some ms = cc in
    λ j. h n m (All-head (λ k. among k ≡ true) n numbers a) here j || any_over models f g among h ms numbers (All-tail (λ k. among k ≡ true) n numbers a) rest j

module _ (models : List Model) (among : ℕ → Bool) (holds : List (List ℕ)) (graph : IsGraph models among holds) (apart : AreApart models among) where
  same_model : (m n : ℕ) (one other : Model) → among m ≡ true → among n ≡ true → slice_get models m ≡ Some one → slice_get models n ≡ Some other → is_model other one ≡ (m == n)
  same_model m n one other i k at there = by_cases (m == n) refl (other.line == one.line) refl
    where
      by_cases : (b : Bool) → (m == n) ≡ b → (t : Bool) → (other.line == one.line) ≡ t → t ≡ b
      by_cases true e true f = refl
      by_cases false e false f = refl
      by_cases true e false f =
          let both : Some one ≡ Some other = sym at ∙ ap (slice_get models) (same_number m n e) ∙ there in
          let same : one ≡ other = cc in
          absurd (false≢true (sym f ∙ ap (λ (x : Model). other.line == x.line) same ∙ own other.line))
      by_cases false e true f = absurd (false≢true (sym e ∙ ap (λ k. k == n) (apart m n one other i k at there (sym (same_number other.line one.line f))) ∙ own n))

  pub agrees : (levels m n : ℕ) (one other : Model) → among m ≡ true → among n ≡ true → slice_get models m ≡ Some one → slice_get models n ≡ Some other → (is_model other one || list_any (is_model other) (reached models levels one.items)) ≡ is_reached holds levels m n
  unfolding is_reached reached
  agrees zero m n one other i k at there = or_none (is_model other one) ∙ same_model m n one other i k at there
  agrees (suc levels) m n one other i k at there =
      let within : list_any (is_model other) (reached models (suc levels) one.items) ≡ list_any (λ next. is_reached holds levels next n) (reads_of holds m) =
      reached_any models (is_model other) levels one.items
      ∙ any_over models (λ inner. is_model other inner || list_any (is_model other) (reached models levels inner.items)) (λ next. is_reached holds levels next n) among
      (λ next inner in_it found. agrees levels next n inner other in_it k found there) (held_models models one.items) (reads_of holds m) (graph.closed m one i at) (graph.told m one i at) in
      λ j. same_model m n one other i k at there j || within j

pub reached_agrees : ReachedAgrees
reached_agrees = record {
  reached = λ models among words numbered numbering apart levels m n one other i k at there. agrees models among (all_held numbered) (numbered_are_graphs.graph models among words numbered numbering) apart levels m n one other i k at there;
  holds_itself = λ models among words numbered numbering apart many m n model inner instance i k at there found.
      ap (λ (o : Option Model). list_any (λ one. is_model model one || list_any (is_model model) (reached models (length models) one.items)) (option_to_list o)) found
      ∙ or_none (is_model model inner || list_any (is_model model) (reached models (length models) inner.items))
      ∙ agrees models among (all_held numbered) (numbered_are_graphs.graph models among words numbered numbering) apart (length models) n m inner model k i there at
      ∙ ap (λ l. is_reached (all_held numbered) l n m) (sym many ∙ sym (how_many numbered));
}
