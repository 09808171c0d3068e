-- Models by the numbers of their names.
use Rattle.std.proofs.Common.{◌≡◌, ℕ, suc, ◌+◌, ◌==◌, ◌<◌, ◌≤◌, ◌||◌, Bool, true, false, cond, not, List, [], ◌∷◌, ◌++◌, Option, Some, None, drop, filter, get_or, length, map, option_to_list, option_map, refl, set, ap, sym, ◌∙◌, subst, arith, if◌then◌else◌}
use Rattle.std.specs.Prelude.{count_by, slice_get}
use Rattle.std.specs.List.{list_any}
use Rattle.std.specs.Str.{bytes_eq}
use Rattle.std.proofs.lemmas.Bool.{false≢true}
use Rattle.std.proofs.lemmas.Bool.Decides.{nat_tests}
use Rattle.std.proofs.lemmas.List.{get_or-set_other, get_or-set_same}
use Rattle.std.proofs.lemmas.List.Sums.{length-filter, sum_by-append, sum_by-cons}
use Rattle.std.proofs.lemmas.Slice.Eq.{bytes_eq-Decides}
use Rattle.job_words.specs.Text.{Word}
use Rattle.blif_order.proofs.Walks.{or_none, own, same_number}
use Rattle.blif_models.specs.Models.{Model, has_name, model_called}
use Rattle.blif_models.specs.ModelFaults.{is_misnamed}
use Rattle.blif_formals.specs.declared.titles.Heading.{Heading}
use Rattle.blif_formals.specs.declared.titles.Title.{Title}
use Rattle.blif_formals.specs.Titles.{AreHeadingsOf, IsTitleOf, TitlesAgree, again_in, first_titled, got_model, has_title, is_again, is_mistitled, is_title, mistitled_by, mistitled_lines, noted, title_of}
use Rattle.blif_formals.specs.Words.{HaveOneNumber}

-- one model more

or_last : Option ℕ → Bool → ℕ → Option ℕ
or_last (Some m) t last = Some m
or_last None t last = if t then Some last else None

first_more : (headings : List Heading) (one : Heading) (n : ℕ) → first_titled (headings ++ one ∷ []) n ≡ or_last (first_titled headings n) (has_title n one) (length headings)
unfolding or_last
first_more [] one n = refl
first_more (x ∷ headings) one n = by_cases (has_title n x) (first_more headings one n)
  where
    later : (o : Option ℕ) (t : Bool) (last : ℕ) → option_map suc (or_last o t last) ≡ or_last (option_map suc o) t (suc last)
    later (Some m) t last = refl
    later None true last = refl
    later None false last = refl

    by_cases : (s : Bool) → first_titled (headings ++ one ∷ []) n ≡ or_last (first_titled headings n) (has_title n one) (length headings)
        → (if s then Some 0 else option_map suc (first_titled (headings ++ one ∷ []) n)) ≡ or_last (if s then Some 0 else option_map suc (first_titled headings n)) (has_title n one) (suc (length headings))
    by_cases true more = refl
    by_cases false more = ap (option_map suc) more ∙ later (first_titled headings n) (has_title n one) (length headings)

count_last : (headings : List Heading) (one : Heading) (n : ℕ) → count_by (has_title n) (headings ++ one ∷ []) ≡ count_by (has_title n) headings + cond (has_title n one) 1 0
count_last headings one n =
    let both = sum_by-append (λ (h : Heading). cond (has_title n h) 1 0) headings (one ∷ []) in
    let last = sum_by-cons (λ (h : Heading). cond (has_title n h) 1 0) one [] in
    omega (arith, both, last)

-- as many as there are, if there is a first one
counted : Option ℕ → ℕ → Type 0
counted None count = count ≡ 0
counted (Some m) count = 1 ≤ count

count_first : (headings : List Heading) (n : ℕ) → counted (first_titled headings n) (count_by (has_title n) headings)
unfolding counted
count_first [] n = refl
count_first (x ∷ headings) n = by_cases (has_title n x) (sum_by-cons (λ (h : Heading). cond (has_title n h) 1 0) x headings) (first_titled headings n) (count_first headings n)
  where
    by_cases : (s : Bool) → count_by (has_title n) (x ∷ headings) ≡ cond s 1 0 + count_by (has_title n) headings → (o : Option ℕ) → counted o (count_by (has_title n) headings)
        → counted (if s then Some 0 else option_map suc o) (count_by (has_title n) (x ∷ headings))
    by_cases true e o more = omega (arith, e)
    by_cases false e None more = omega (arith, e, more)
    by_cases false e (Some m) more = omega (arith, e, more)

pub title_more : (headings : List Heading) (one : Heading) (n : ℕ) → title_of (headings ++ one ∷ []) n ≡ (if has_title n one then Some (noted (title_of headings n) (length headings)) else title_of headings n)
unfolding counted or_last
title_more headings one n =
    ap (option_map (λ m. record { model = m; again = is_again (headings ++ one ∷ []) n })) (first_more headings one n)
    ∙ by_cases (first_titled headings n) (count_first headings n) (has_title n one) (count_last headings one n)
  where
    by_cases : (o : Option ℕ) → counted o (count_by (has_title n) headings) → (t : Bool) → count_by (has_title n) (headings ++ one ∷ []) ≡ count_by (has_title n) headings + cond t 1 0
        → option_map (λ m. record { model = m; again = is_again (headings ++ one ∷ []) n }) (or_last o t (length headings))
        ≡ (if t then Some (noted (option_map (λ m. record { model = m; again = is_again headings n }) o) (length headings)) else option_map (λ m. record { model = m; again = is_again headings n }) o)
    by_cases None c true e =
        let alone : count_by (has_title n) (headings ++ one ∷ []) ≡ 1 = omega (arith, c, e) in
        ap (λ k. Some (record { model = length headings; again = not (k == 1) })) alone
    by_cases None c false e = refl
    by_cases (Some m) c true e =
        let test : (count_by (has_title n) (headings ++ one ∷ []) == 1) ≡ false = more (count_by (has_title n) (headings ++ one ∷ [])) (omega (arith, c, e)) in
        ap (λ b. Some (record { model = m; again = not b })) test
      where
        more : (k : ℕ) → 1 < k → (k == 1) ≡ false
        more k lt = grind (arith, nat_tests)
    by_cases (Some m) c false e =
        let same : count_by (has_title n) (headings ++ one ∷ []) ≡ count_by (has_title n) headings = omega (arith, e) in
        ap (λ k. Some (record { model = m; again = not (k == 1) })) same

pub title_kept : (headings : List Heading) (one : Heading) → one.title ≡ None → (n : ℕ) → title_of (headings ++ one ∷ []) n ≡ title_of headings n
title_kept headings one e n = title_more headings one n ∙ ap (λ title. if is_title n title then Some (noted (title_of headings n) (length headings)) else title_of headings n) e

pub title_noted : (headings : List Heading) (one : Heading) (k : ℕ) → one.title ≡ Some k → (titles : List (Option Title)) → ((n : ℕ) → get_or titles n None ≡ title_of headings n) → k < length titles
    → (n : ℕ) → get_or (set titles k (Some (noted (title_of headings k) (length headings)))) n None ≡ title_of (headings ++ one ∷ []) n
title_noted headings one k e titles h lt n =
    by_cases (k == n) refl ∙ sym (title_more headings one n ∙ ap (λ title. if is_title n title then Some (noted (title_of headings n) (length headings)) else title_of headings n) e)
  where
    by_cases : (t : Bool) → (k == n) ≡ t → get_or (set titles k (Some (noted (title_of headings k) (length headings)))) n None ≡ (if t then Some (noted (title_of headings n) (length headings)) else title_of headings n)
    by_cases true f =
        let same : k ≡ n = same_number k n f in
        ap (λ x. get_or (set titles k (Some (noted (title_of headings k) (length headings)))) x None) (sym same)
        ∙ get_or-set_same titles k (Some (noted (title_of headings k) (length headings))) None lt ∙ ap (λ x. Some (noted (title_of headings x) (length headings))) same
    by_cases false f = get_or-set_other titles k n (Some (noted (title_of headings k) (length headings))) None (λ same. false≢true (sym f ∙ subst (λ x. (k == x) ≡ true) (sym same) (own k))) ∙ h n

-- what is told of a title
again_told : (headings : List Heading) (n : ℕ) → again_in (title_of headings n) ≡ is_again headings n
unfolding counted
again_told headings n = by_cases (first_titled headings n) (count_first headings n)
  where
    by_cases : (o : Option ℕ) → counted o (count_by (has_title n) headings) → again_in (option_map (λ m. record { model = m; again = is_again headings n }) o) ≡ is_again headings n
    by_cases None c = ap (λ k. not (k == 1)) (sym c)
    by_cases (Some m) c = refl

pub mistitled_told : (headings : List Heading) (titles : List (Option Title)) → ((n : ℕ) → get_or titles n None ≡ title_of headings n) → (title : Option ℕ) → mistitled_by titles title ≡ is_mistitled headings title
mistitled_told headings titles h None = refl
mistitled_told headings titles h (Some n) = ap again_in (h n) ∙ again_told headings n

-- by names

module _ (words : List Word) (h : HaveOneNumber words) where
  named : (n : ℕ) (word : Word) → slice_get words n ≡ Some word → (name : Option Word) (title : Option ℕ) → IsTitleOf words name title → list_any (bytes_eq word) (option_to_list name) ≡ is_title n title
  named n word at None None is = refl
  named n word at None (Some k) is = absurd is
  named n word at (Some v) None is = absurd is
  named n word at (Some v) (Some k) is = or_none (bytes_eq word v) ∙ by_cases (bytes_eq word v) refl (k == n) refl
    where
      by_cases : (s : Bool) → bytes_eq word v ≡ s → (t : Bool) → (k == n) ≡ t → s ≡ t
      by_cases true e true f = refl
      by_cases false e false f = refl
      by_cases true e false f =
          let same : k ≡ n = h k n word (is ∙ ap Some (sym ((bytes_eq-Decides word v).0 e))) at in
          absurd (false≢true (sym f ∙ ap (λ x. x == n) same ∙ own n))
      by_cases false e true f =
          let both : Some v ≡ Some word = sym is ∙ ap (slice_get words) (same_number k n f) ∙ at in
          let same : word ≡ v = cc in
          absurd (false≢true (sym e ∙ (bytes_eq-Decides word v).1 same))

  called : (models : List Model) (headings : List Heading) (n : ℕ) (word : Word) → AreHeadingsOf words models headings → slice_get words n ≡ Some word → model_called models word ≡ got_model models (first_titled headings n)
  called [] [] n word a at = refl
  called [] (x ∷ headings) n word a at = absurd a
  called (model ∷ models) [] n word a at = absurd a
  called (model ∷ models) (x ∷ headings) n word a at =
      ap (λ b. cond b (Some model) (model_called models word)) (named n word at model.name x.title a.1) ∙ by_cases (has_title n x) (called models headings n word a.2 at)
    where
      onward : (o : Option ℕ) → got_model models o ≡ got_model (model ∷ models) (option_map suc o)
      onward None = refl
      onward (Some m) = refl

      by_cases : (t : Bool) → model_called models word ≡ got_model models (first_titled headings n)
          → cond t (Some model) (model_called models word) ≡ got_model (model ∷ models) (if t then Some 0 else option_map suc (first_titled headings n))
      by_cases true more = refl
      by_cases false more = more ∙ onward (first_titled headings n)

  as_often : (models : List Model) (headings : List Heading) (n : ℕ) (word : Word) → AreHeadingsOf words models headings → slice_get words n ≡ Some word
      → length (filter (λ other. has_name word other || false) models) ≡ length (filter (has_title n) headings)
  as_often [] [] n word a at = refl
  as_often [] (x ∷ headings) n word a at = absurd a
  as_often (model ∷ models) [] n word a at = absurd a
  as_often (model ∷ models) (x ∷ headings) n word a at =
      ap (λ b. length (cond b (model ∷ filter (λ other. has_name word other || false) models) (filter (λ other. has_name word other || false) models)))
      (or_none (has_name word model) ∙ named n word at model.name x.title a.1) ∙ by_cases (has_title n x) (as_often models headings n word a.2 at)
    where
      by_cases : (t : Bool) → length (filter (λ other. has_name word other || false) models) ≡ length (filter (has_title n) headings)
          → length (cond t (model ∷ filter (λ other. has_name word other || false) models) (filter (λ other. has_name word other || false) models)) ≡ length (cond t (x ∷ filter (has_title n) headings) (filter (has_title n) headings))
      by_cases true more = ap suc more
      by_cases false more = more

  misnamed : (models : List Model) (headings : List Heading) → AreHeadingsOf words models headings → (name : Option Word) (title : Option ℕ) → IsTitleOf words name title
      → not (length (filter (λ other. list_any (λ word. has_name word other) (option_to_list name)) models) == 1) ≡ is_mistitled headings title
  misnamed models headings a None None is = ap (λ k. not (k == 1)) (none_pass models)
    where
      none_pass : (ms : List Model) → length (filter (λ other. false) ms) ≡ 0
      none_pass [] = refl
      none_pass (x ∷ ms) = none_pass ms
  misnamed models headings a None (Some n) is = absurd is
  misnamed models headings a (Some word) None is = absurd is
  misnamed models headings a (Some word) (Some n) is = ap (λ k. not (k == 1)) (as_often models headings n word a is ∙ length-filter (has_title n) headings)

  lines : (models : List Model) (headings : List Heading) → AreHeadingsOf words models headings → (ms : List Model) (hs : List Heading) → AreHeadingsOf words ms hs
      → map (λ model. model.line) (filter (is_misnamed models) ms) ≡ map (λ heading. heading.line) (filter (λ heading. is_mistitled headings heading.title) hs)
  lines models headings a [] [] b = refl
  lines models headings a [] (x ∷ hs) b = absurd b
  lines models headings a (m ∷ ms) [] b = absurd b
  lines models headings a (m ∷ ms) (x ∷ hs) b =
      ap (λ t. map (λ (k : Model). k.line) (cond t (m ∷ filter (is_misnamed models) ms) (filter (is_misnamed models) ms))) (misnamed models headings a m.name x.title b.1)
      ∙ by_cases (is_mistitled headings x.title) (lines models headings a ms hs b.2)
    where
      by_cases : (t : Bool) → map (λ (k : Model). k.line) (filter (is_misnamed models) ms) ≡ map (λ (k : Heading). k.line) (filter (λ k. is_mistitled headings k.title) hs)
          → map (λ (k : Model). k.line) (cond t (m ∷ filter (is_misnamed models) ms) (filter (is_misnamed models) ms))
          ≡ map (λ (k : Heading). k.line) (cond t (x ∷ filter (λ k. is_mistitled headings k.title) hs) (filter (λ k. is_mistitled headings k.title) hs))
      by_cases true more = λ j. sym b.0 j ∷ more j
      by_cases false more = more

  further_lines : (models : List Model) (headings : List Heading) → AreHeadingsOf words models headings → map (λ model. model.line) (filter (is_misnamed models) (drop 1 models)) ≡ mistitled_lines headings
  further_lines [] [] a = refl
  further_lines [] (x ∷ headings) a = absurd a
  further_lines (m ∷ models) [] a = absurd a
  further_lines (m ∷ models) (x ∷ headings) a = lines (m ∷ models) (x ∷ headings) a models headings a.2

pub titles_agree : TitlesAgree
titles_agree = record {
  called = λ words models headings n word h a at. called words h models headings n word a at;
  misnamed = λ words models headings h a. further_lines words h models headings a;
}
