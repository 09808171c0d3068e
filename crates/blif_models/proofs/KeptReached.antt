-- What a main model reaches is reached through models that keep their entries.
use Rattle.std.proofs.Common.{◌≡◌, ℕ, zero, suc, ◌+◌, ◌==◌, ◌≤◌, ◌||◌, Bool, true, false, List, [], ◌∷◌, length, refl, ap, sym, ◌∙◌, subst, ⊎_elim, arith, if◌then◌else◌}
use Rattle.std.specs.List.{list_any}
use Rattle.std.proofs.lemmas.Bool.{false≢true, or_right}
use Rattle.blif_order.specs.Orders.{is_in, reads_of}
use Rattle.blif_order.proofs.Walks.{or_cases, own}
use Rattle.blif_models.specs.declared.numbered.NumberedModel.{NumberedModel}
use Rattle.blif_models.specs.Graphs.{is_reached}
use Rattle.blif_models.specs.Kept.{emptied, kept_from, reached_models}
use Rattle.blif_models.specs.KeptReached.{KeptAgree}
use Rattle.blif_models.specs.Layouts.{model_at}
use Rattle.blif_models.specs.NumberedGraphs.{all_held, held_by}
use Rattle.blif_models.specs.Numberings.{AreEntriesOf}
use Rattle.blif_models.proofs.Arranged.{reached_self}
use Rattle.blif_models.proofs.Composing.{kept_at}
use Rattle.blif_models.proofs.KeptModels.{kept_many, kept_names}
use Rattle.blif_models.proofs.NumberedGraphs.{held_of}
use Rattle.blif_models.proofs.Searches.{reached_next, reached_up}

same_at : (numbered : List NumberedModel) (main m : ℕ) → is_reached (all_held numbered) (length numbered) main m ≡ true → model_at (reached_models numbered main) m ≡ model_at numbered m
same_at numbered main m e = let same : 0 + m ≡ m = omega arith in kept_at (is_reached (all_held numbered) (length numbered) main) 0 m numbered (ap (is_reached (all_held numbered) (length numbered) main) same ∙ e)

-- a model that is not kept
emptied_at : (among : ℕ → Bool) (k m : ℕ) (models : List NumberedModel) → among (k + m) ≡ false → (model_at (kept_from among k models) m).entries ≡ []
emptied_at among k m [] e = refl
emptied_at among k zero (one ∷ models) e = let same : k + 0 ≡ k = omega arith in ap (λ (b : Bool). (if b then one else emptied one).entries) (sym (ap among same) ∙ e)
emptied_at among k (suc m) (one ∷ models) e = let same : k + suc m ≡ suc k + m = omega arith in emptied_at among (suc k) m models (sym (ap among same) ∙ e)

others_at : (numbered : List NumberedModel) (main m : ℕ) → is_reached (all_held numbered) (length numbered) main m ≡ false → (model_at (reached_models numbered main) m).entries ≡ []
others_at numbered main m e = let same : 0 + m ≡ m = omega arith in emptied_at (is_reached (all_held numbered) (length numbered) main) 0 m numbered (ap (is_reached (all_held numbered) (length numbered) main) same ∙ e)

any_along : (p q : ℕ → Bool) (xs : List ℕ) → ((x : ℕ) → is_in xs x ≡ true → p x ≡ true → q x ≡ true) → list_any p xs ≡ true → list_any q xs ≡ true
any_along p q [] h e = absurd (false≢true e)
any_along p q (x ∷ xs) h e =
    ⊎_elim (λ here. ap (λ b. b || list_any q xs) (h x (ap (λ b. b || is_in xs x) (own x)) here))
    (λ more. or_right (q x) (list_any q xs) (any_along p q xs (λ y f. h y (or_right (x == y) (is_in xs y) f)) more)) (or_cases (p x) (list_any p xs) e)

-- along a way from the main model each model keeps what it holds
along : (numbered : List NumberedModel) (main j k from m : ℕ) → is_reached (all_held numbered) j main from ≡ true → j + k ≤ length numbered → is_reached (all_held numbered) k from m ≡ true → is_reached (all_held (reached_models numbered main)) k from m ≡ true
unfolding is_reached
along numbered main j zero from m there le e = e
along numbered main j (suc k) from m there le e =
    let holds = all_held numbered in
    let kept = all_held (reached_models numbered main) in
    let here : is_reached holds (length numbered) main from ≡ true = reached_up holds j (length numbered) main from (omega (arith, le)) there in
    let same : reads_of kept from ≡ reads_of holds from = held_of (reached_models numbered main) from ∙ ap (λ (one : NumberedModel). held_by one.entries) (same_at numbered main from here) ∙ sym (held_of numbered from) in
    ⊎_elim (λ (own_self : (from == m) ≡ true). ap (λ b. b || list_any (λ next. is_reached kept k next m) (reads_of kept from)) own_self)
    (λ more.
    or_right (from == m) (list_any (λ next. is_reached kept k next m) (reads_of kept from))
    (ap (list_any (λ next. is_reached kept k next m)) same
    ∙ any_along (λ next. is_reached holds k next m) (λ next. is_reached kept k next m) (reads_of holds from)
    (λ next f g. along numbered main (suc j) k next m (reached_next holds j main from next there f) (omega (arith, le)) g) more))
    (or_cases (from == m) (list_any (λ next. is_reached holds k next m) (reads_of holds from)) e)

still_reached : (numbered : List NumberedModel) (main m : ℕ) → is_reached (all_held numbered) (length numbered) main m ≡ true → is_reached (all_held (reached_models numbered main)) (length (reached_models numbered main)) main m ≡ true
still_reached numbered main m e =
    ap (λ n. is_reached (all_held (reached_models numbered main)) n main m) (kept_many (is_reached (all_held numbered) (length numbered) main) 0 numbered)
    ∙ along numbered main 0 (length numbered) main m (reached_self (all_held numbered) 0 main) (omega arith) e

pub kept_agree : KeptAgree
kept_agree = record {
  same = same_at;
  reached = still_reached;
  others = others_at;
  named = λ models words numbered main model is.
      let among : ℕ → Bool = is_reached (all_held numbered) (length numbered) main in
      let many = kept_many among 0 numbered in
      record {
        numbering = record {
          entries_are = λ m one in_it at. subst (λ (k : NumberedModel). AreEntriesOf models among words m 0 one.items k.entries) (sym (same_at numbered main m in_it)) (is.numbering.entries_are m one in_it at);
          names_are = λ m in_it. kept_names among 0 m numbered ∙ is.numbering.names_are m in_it;
          apart = is.numbering.apart;
        };
        within = λ m in_it. omega (arith, is.within m in_it, many);
        as_many = many ∙ is.as_many;
        is_among = is.is_among;
        is_there = is.is_there;
      };
}
