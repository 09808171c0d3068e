-- What an instance joins: an output that is joined stands among the actual outputs, and two that are joined to one signal are one.
use Rattle.std.proofs.Common.{◌≡◌, Bool, true, false, cond, List, [], ◌∷◌, filter, map, Option, Some, refl, ap, sym, ◌∙◌}
use Rattle.std.specs.Prelude.{find, option_map}
use Rattle.std.specs.List.{list_all}
use Rattle.std.specs.Str.{bytes_eq}
use Rattle.std.proofs.lemmas.Bool.{and_parts}
use Rattle.job_words.specs.Text.{Word, is_among}
use Rattle.blif_models.specs.Models.{Join, actual_of}
use Rattle.blif_wholes.specs.Defined.{Once}
use Rattle.blif_wholes.proofs.Words.{first_among, later_among, never, same_word}

-- the actual names of those joins whose formal names are outputs
abbrev pub outputs_joined : List Word → List Join → List Word
outputs_joined outputs joins = map (λ join. join.actual) (filter (λ join. is_among outputs join.formal) joins)

-- a formal name that is joined is known
pub joined_formal : (known : List Word) (joins : List Join) (name actual : Word) → list_all (is_among known) (map (λ join. join.formal) joins) ≡ true → actual_of joins name ≡ Some actual → is_among known name ≡ true
joined_formal known [] name actual h e = cc
joined_formal known (join ∷ joins) name actual h e =
    let both = and_parts (is_among known join.formal) (list_all (is_among known) (map (λ (one : Join). one.formal) joins)) h in
    by_cases (bytes_eq join.formal name) refl e both.0 (λ k. joined_formal known joins name actual both.1 k)
  where
    by_cases : (b : Bool) → bytes_eq join.formal name ≡ b → option_map (λ (one : Join). one.actual) (cond b (Some join) (find (λ (one : Join). bytes_eq one.formal name) joins)) ≡ Some actual → is_among known join.formal ≡ true
        → (actual_of joins name ≡ Some actual → is_among known name ≡ true) → is_among known name ≡ true
    by_cases true t k here more = ap (is_among known) (sym (same_word join.formal name t)) ∙ here
    by_cases false t k here more = more k

-- an output that is joined has its actual name among those of outputs
pub joined_among : (outputs : List Word) (joins : List Join) (name actual : Word) → actual_of joins name ≡ Some actual → is_among outputs name ≡ true → is_among (outputs_joined outputs joins) actual ≡ true
joined_among outputs [] name actual e h = cc
joined_among outputs (join ∷ joins) name actual e h = by_cases (bytes_eq join.formal name) refl (is_among outputs join.formal) refl e (λ k. joined_among outputs joins name actual k h)
  where
    kept : List Join
    kept = filter (λ one. is_among outputs one.formal) joins

    by_cases : (b : Bool) → bytes_eq join.formal name ≡ b → (c : Bool) → is_among outputs join.formal ≡ c
        → option_map (λ (one : Join). one.actual) (cond b (Some join) (find (λ (one : Join). bytes_eq one.formal name) joins)) ≡ Some actual
        → (actual_of joins name ≡ Some actual → is_among (map (λ (one : Join). one.actual) kept) actual ≡ true) → is_among (map (λ (one : Join). one.actual) (cond c (join ∷ kept) kept)) actual ≡ true
    by_cases true t true f k more =
        let same : join.actual ≡ actual = cc in
        ap (is_among (join.actual ∷ map (λ (one : Join). one.actual) kept)) (sym same) ∙ first_among join.actual (map (λ (one : Join). one.actual) kept)
    by_cases true t false f k more = never (is_among outputs name) h (ap (is_among outputs) (sym (same_word join.formal name t)) ∙ f)
    by_cases false t true f k more = later_among join.actual (map (λ (one : Join). one.actual) kept) actual (more k)
    by_cases false t false f k more = more k

-- where each actual name stands once, two outputs that are joined to one are one
pub one_join : (outputs : List Word) (joins : List Join) (name other actual : Word) → Once (outputs_joined outputs joins) → actual_of joins name ≡ Some actual → actual_of joins other ≡ Some actual → is_among outputs name ≡ true
    → is_among outputs other ≡ true → name ≡ other
one_join outputs [] name other actual o e f h k = cc
one_join outputs (join ∷ joins) name other actual o e f h k =
    by_cases (bytes_eq join.formal name) refl (bytes_eq join.formal other) refl (is_among outputs join.formal) refl o e f (λ o' e' f'. one_join outputs joins name other actual o' e' f' h k)
  where
    kept : List Join
    kept = filter (λ one. is_among outputs one.formal) joins

    found : Bool → Word → Option Word
    found b word = option_map (λ (one : Join). one.actual) (cond b (Some join) (find (λ (one : Join). bytes_eq one.formal word) joins))

    by_cases : (b : Bool) → bytes_eq join.formal name ≡ b → (c : Bool) → bytes_eq join.formal other ≡ c → (d : Bool) → is_among outputs join.formal ≡ d → Once (map (λ (one : Join). one.actual) (cond d (join ∷ kept) kept))
        → found b name ≡ Some actual → found c other ≡ Some actual → (Once (map (λ (one : Join). one.actual) kept) → actual_of joins name ≡ Some actual → actual_of joins other ≡ Some actual → name ≡ other) → name ≡ other
    by_cases true s true t d u o' e' f' more = sym (same_word join.formal name s) ∙ same_word join.formal other t
    by_cases true s false t false u o' e' f' more = never (is_among outputs name) h (ap (is_among outputs) (sym (same_word join.formal name s)) ∙ u)
    by_cases true s false t true u o' e' f' more =
        let same : join.actual ≡ actual = cc in
        never (is_among (map (λ (one : Join). one.actual) kept) actual) (joined_among outputs joins other actual f' k) (ap (is_among (map (λ (one : Join). one.actual) kept)) (sym same) ∙ o'.0)
    by_cases false s true t false u o' e' f' more = never (is_among outputs other) k (ap (is_among outputs) (sym (same_word join.formal other t)) ∙ u)
    by_cases false s true t true u o' e' f' more =
        let same : join.actual ≡ actual = cc in
        never (is_among (map (λ (one : Join). one.actual) kept) actual) (joined_among outputs joins name actual e' h) (ap (is_among (map (λ (one : Join). one.actual) kept)) (sym same) ∙ o'.0)
    by_cases false s false t true u o' e' f' more = more o'.1 e' f'
    by_cases false s false t false u o' e' f' more = more o' e' f'
