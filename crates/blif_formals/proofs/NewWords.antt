-- Which words come to others.
use Rattle.std.proofs.Common.{◌≡◌, ◌+◌, ◌<◌, ℕ, ◌&&◌, Bool, Bor, true, false, List, [], ◌∷◌, ◌++◌, drop, get_or, map, take, ap, sym, ◌∙◌, subst, if◌then◌else◌, length}
use Rattle.std.specs.List.{list_all}
use Rattle.std.proofs.lemmas.Bool.{and_parts}
use Rattle.std.proofs.lemmas.List.{map-append, take-append-drop, take_more}
use Rattle.std.proofs.lemmas.List.Folds.{list_all-append}
use Rattle.job_words.specs.Text.{Word, is_among}
use Rattle.blif_formals.specs.Formals.{words_in}
use Rattle.blif_formals.specs.Words.{AddsOnly, with_word}

both_pass : (p : Word → Bool) (first second : List Word) → list_all p (first ++ second) ≡ true → (list_all p first ≡ true) × (list_all p second ≡ true)
both_pass p first second h = and_parts (list_all p first) (list_all p second) (sym (list_all-append p first second) ∙ h)

pub adds_one : (old : List Word) (word : Word) (new : List Word) → new ≡ with_word old word → AddsOnly old (word ∷ []) new
adds_one old word new e = subst (AddsOnly old (word ∷ [])) (sym e) (by_cases (is_among old word))
  where
    by_cases : (t : Bool) → AddsOnly old (word ∷ []) (if t then old else old ++ word ∷ [])
    by_cases true p h k = h
    by_cases false p h k = list_all-append p old (word ∷ []) ∙ (λ j. h j && k j)

pub adds_then : (old first mid second new : List Word) → AddsOnly old first mid → AddsOnly mid second new → AddsOnly old (first ++ second) new
adds_then old first mid second new a b p h k = let both = both_pass p first second k in b p (a p h both.0) both.1

adds_among : (old first second new : List Word) → AddsOnly old first new → AddsOnly old (first ++ second) new
adds_among old first second new a p h k = a p h (both_pass p first second k).0

-- of words that a loop goes over, by what it takes of each

pub taken_more : (f : Word → Word) (ws : List (Bor (List ℕ))) (i : ℕ) (d : Bor (List ℕ)) → i < length ws → map f (words_in (take (i + 1) ws)) ≡ map f (words_in (take i ws)) ++ f (get_or ws i d).now ∷ []
taken_more f ws i d lt = ap (λ (t : List (Bor (List ℕ))). map f (words_in t)) (take_more ws i d lt) ∙ ap (map f) (map-append (λ w. w.now) (take i ws) (get_or ws i d ∷ [])) ∙ map-append f (words_in (take i ws)) ((get_or ws i d).now ∷ [])

pub adds_of_some : (f : Word → Word) (ws : List (Bor (List ℕ))) (i : ℕ) (old new : List Word) → AddsOnly old (map f (words_in (take i ws))) new → AddsOnly old (map f (words_in ws)) new
adds_of_some f ws i old new a =
    let all : map f (words_in ws) ≡ map f (words_in (take i ws)) ++ map f (words_in (drop i ws)) =
    ap (λ (t : List (Bor (List ℕ))). map f (words_in t)) (sym (take-append-drop i ws)) ∙ ap (map f) (map-append (λ w. w.now) (take i ws) (drop i ws)) ∙ map-append f (words_in (take i ws)) (words_in (drop i ws)) in
    subst (λ (t : List Word). AddsOnly old t new) (sym all) (adds_among old (map f (words_in (take i ws))) (map f (words_in (drop i ws))) new a)
