-- Models that are reached by instances.
use Rattle.std.proofs.Common.{◌≡◌, ℕ, suc, ◌<◌, Bool, true, false, List, [], ◌∷◌, ◌++◌, Option, Some, None, get_or, length, map, option_map, option_to_list, refl, ap, sym, ◌∙◌, subst, arith, if◌then◌else◌}
use Rattle.std.specs.Prelude.{All}
use Rattle.std.proofs.lemmas.List.{length-map}
use Rattle.std.proofs.lemmas.List.Elements.{All-cons, All-nil}
use Rattle.blif_models.specs.Graphs.{AreWithin}
use Rattle.blif_formals.specs.declared.calls.Call.{Call}
use Rattle.blif_formals.specs.declared.titles.Heading.{Heading}
use Rattle.blif_formals.specs.declared.titles.Title.{Title}
use Rattle.blif_formals.specs.Calls.{held_by, model_by}
use Rattle.blif_formals.specs.Titles.{first_titled, has_title, is_again, title_of}

titled_below : (headings : List Heading) (n m : ℕ) → first_titled headings n ≡ Some m → m < length headings
titled_below [] n m e = cc
titled_below (h ∷ headings) n m e = by_cases (has_title n h) e (first_titled headings n) refl (titled_below headings n)
  where
    by_cases : (t : Bool) → (if t then Some 0 else option_map suc (first_titled headings n)) ≡ Some m → (o : Option ℕ) → first_titled headings n ≡ o → ((k : ℕ) → first_titled headings n ≡ Some k → k < length headings) → m < suc (length headings)
    by_cases true f o g more = let same : 0 ≡ m = cc in omega (arith, same)
    by_cases false f None g more = let bad : None ≡ Some m = sym (ap (option_map suc) g) ∙ f in cc
    by_cases false f (Some k) g more =
        let both : Some (suc k) ≡ Some m = sym (ap (option_map suc) g) ∙ f in
        let same : suc k ≡ m = cc in
        let low = more k g in
        omega (arith, same, low)

module _ (headings : List Heading) (titles : List (Option Title)) (told : (n : ℕ) → get_or titles n None ≡ title_of headings n) where
  pub model_below : (title : Option ℕ) (m : ℕ) → model_by titles title ≡ Some m → m < length headings
  model_below None m e = cc
  model_below (Some n) m e = titled_below headings n m (sym (ap (option_map (λ (title : Title). title.model)) (told n) ∙ by_cases (first_titled headings n)) ∙ e)
    where
      by_cases : (o : Option ℕ) → option_map (λ (title : Title). title.model) (option_map (λ m. record { model = m; again = is_again headings n }) o) ≡ o
      by_cases None = refl
      by_cases (Some m) = refl

  held_below : (ones : List Call) → All (λ m. m < length headings) (held_by titles ones)
  held_below [] = All-nil (λ m. m < length headings)
  held_below (call ∷ ones) = by_cases (model_by titles call.title) refl (held_below ones)
    where
      by_cases : (o : Option ℕ) → model_by titles call.title ≡ o → All (λ m. m < length headings) (held_by titles ones) → All (λ m. m < length headings) (option_to_list o ++ held_by titles ones)
      by_cases None e more = more
      by_cases (Some m) e more = All-cons (λ m. m < length headings) m (held_by titles ones) (model_below call.title m e) more

  all_below : (calls : List (List Call)) → AreWithin (length headings) (map (held_by titles) calls)
  all_below [] = All-nil (λ held. All (λ m. m < length headings) held)
  all_below (ones ∷ calls) = All-cons (λ held. All (λ m. m < length headings) held) (held_by titles ones) (map (held_by titles) calls) (held_below ones) (all_below calls)

  pub are_within : (calls : List (List Call)) → length calls ≡ length headings → AreWithin (length (map (held_by titles) calls)) (map (held_by titles) calls)
  are_within calls many = subst (λ n. AreWithin n (map (held_by titles) calls)) (sym (length-map calls (held_by titles) ∙ many)) (all_below calls)
