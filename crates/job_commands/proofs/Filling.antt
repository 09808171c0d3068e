-- Commands in a table, and words at their places.
use Rattle.std.proofs.Common.{◌≡◌, ℕ, zero, suc, ◌+◌, ◌<◌, ◌==◌, Bool, true, false, cond, List, [], ◌∷◌, ◌++◌, length, map, take, get_or, Option, Some, None, is_some, option_map, option_and_then, add-one, refl, ap, sym, ◌∙◌, arith}
use Rattle.std.specs.Str.{bytes_eq}
use Rattle.std.proofs.lemmas.Bool.{false≢true}
use Rattle.std.proofs.lemmas.Bool.Decides.{nat_tests}
use Rattle.job_commands.specs.declared.commands.Known.{Known}
use Rattle.job_commands.specs.declared.commands.Opcode.{Opcode}
use Rattle.job_commands.specs.declared.commands.Place.{Place}
use Rattle.job_words.specs.Text.{Word}
use Rattle.job_commands.specs.Commands.{Form, form_in, filled, command_in}
use Rattle.job_commands.specs.Slots.{form_of, or_again, placed}

-- the first command of this word
pub found_here : (ks : List Known) (w : Word) (i : ℕ) (d : Known) → i < length ks → form_in (map form_of (take i ks)) w ≡ None → bytes_eq (get_or ks i d).word.now w ≡ true
    → form_in (map form_of ks) w ≡ Some (form_of (get_or ks i d))
found_here [] w i d lt none e = absurd (omega arith)
found_here (x ∷ ks) w zero d lt none e = ap (λ b. cond b (Some (form_of x)) (form_in (map form_of ks) w)) e
found_here (x ∷ ks) w (suc i) d lt none e = by_cases (bytes_eq x.word.now w) refl (λ h. found_here ks w i d (omega arith) h e)
  where
    by_cases : (b : Bool) → bytes_eq x.word.now w ≡ b → (form_in (map form_of (take i ks)) w ≡ None → form_in (map form_of ks) w ≡ Some (form_of (get_or ks i d))) → form_in (map form_of (x ∷ ks)) w ≡ Some (form_of (get_or ks i d))
    by_cases true f later =
        let some : Some (form_of x) ≡ None = sym (ap (λ b. cond b (Some (form_of x)) (form_in (map form_of (take i ks)) w)) f) ∙ none in
        cc
    by_cases false f later =
        ap (λ b. cond b (Some (form_of x)) (form_in (map form_of ks) w)) f
        ∙ later (sym (ap (λ b. cond b (Some (form_of x)) (form_in (map form_of (take i ks)) w)) f) ∙ none)

none_again : (b : Bool) (one : Form) (o o' : Option Form) → cond b (Some one) o ≡ None → (o ≡ None → o' ≡ None) → cond b (Some one) o' ≡ None
none_again true one o o' h f = cc
none_again false one o o' h f = f h

none_next : (ks : List Known) (w : Word) (i : ℕ) (d : Known) → i < length ks → form_in (map form_of (take i ks)) w ≡ None → bytes_eq (get_or ks i d).word.now w ≡ false
    → form_in (map form_of (take (suc i) ks)) w ≡ None
none_next [] w i d lt none e = absurd (omega arith)
none_next (x ∷ ks) w zero d lt none e = ap (λ b. cond b (Some (form_of x)) None) e
none_next (x ∷ ks) w (suc i) d lt none e =
    none_again (bytes_eq x.word.now w) (form_of x) (form_in (map form_of (take i ks)) w) (form_in (map form_of (take (suc i) ks)) w) none (λ h. none_next ks w i d (omega arith) h e)

pub none_here : (ks : List Known) (w : Word) (i : ℕ) (d : Known) → i < length ks → form_in (map form_of (take i ks)) w ≡ None → bytes_eq (get_or ks i d).word.now w ≡ false
    → form_in (map form_of (take (i + 1) ks)) w ≡ None
none_here ks w i d lt none e = ap (λ j. form_in (map form_of (take j ks)) w) (add-one i) ∙ none_next ks w i d lt none e

-- one word more at its place
is_some_map : {A B : Type 0} → (f : A → B) (o : Option A) → is_some (option_map f o) ≡ is_some o
is_some_map f None = refl
is_some_map f (Some x) = refl

pub fits_more : (due repeated : List Place) (words : List Word) (w : Word) (place : Place) (rest : List Place) → or_again due repeated ≡ place ∷ rest
    → is_some (filled due repeated (w ∷ words)) ≡ is_some (filled rest repeated words)
fits_more [] [] words w place rest e = cc
fits_more [] (p ∷ ps) words w place rest e =
    let others : ps ≡ rest = cc in
    is_some_map (λ more. (p, w) ∷ more) (filled ps (p ∷ ps) words) ∙ ap (λ (t : List Place). is_some (filled t (p ∷ ps) words)) others
fits_more (p ∷ ps) repeated words w place rest e =
    let others : ps ≡ rest = cc in
    is_some_map (λ more. (p, w) ∷ more) (filled ps repeated words) ∙ ap (λ (t : List Place). is_some (filled t repeated words)) others

pub fits_none : (due repeated : List Place) (w : Word) (words : List Word) → or_again due repeated ≡ [] → is_some (filled due repeated (w ∷ words)) ≡ false
fits_none [] [] w words e = refl
fits_none [] (p ∷ ps) w words e = cc
fits_none (p ∷ due) repeated w words e = cc

-- no word is left
pub fits_at_end : (due repeated : List Place) → is_some (filled due repeated []) ≡ (length due == 0)
fits_at_end [] repeated = refl
fits_at_end (p ∷ due) repeated = sym (not_none (length due))
  where
    not_none : (n : ℕ) → (suc n == 0) ≡ false
    not_none n = grind (arith, nat_tests)

-- words that fit, at their places
pub placed_more : (due repeated : List Place) (words : List Word) (w : Word) (place : Place) (rest : List Place) → or_again due repeated ≡ place ∷ rest
    → placed due repeated (w ∷ words) ≡ (place, w) ∷ placed rest repeated words
placed_more [] [] words w place rest e = cc
placed_more [] (p ∷ ps) words w place rest e =
    let first : p ≡ place = cc in
    let others : ps ≡ rest = cc in
    ap (λ (t : Place). (t, w) ∷ placed ps (p ∷ ps) words) first ∙ ap (λ (t : List Place). (place, w) ∷ placed t (p ∷ ps) words) others
placed_more (p ∷ ps) repeated words w place rest e =
    let first : p ≡ place = cc in
    let others : ps ≡ rest = cc in
    ap (λ (t : Place). (t, w) ∷ placed ps repeated words) first ∙ ap (λ (t : List Place). (place, w) ∷ placed t repeated words) others

pub placed_none : (due repeated : List Place) (w : Word) (words : List Word) → or_again due repeated ≡ [] → placed due repeated (w ∷ words) ≡ []
placed_none [] [] w words e = refl
placed_none [] (p ∷ ps) w words e = cc
placed_none (p ∷ due) repeated w words e = cc

pub no_more : (o : Option (List (Place × Word))) → is_some o ≡ false → o ≡ None
no_more None h = refl
no_more (Some slots) h = absurd (false≢true (sym h))

-- words that fit are at their places
pub fitting : (due repeated : List Place) (words : List Word) → is_some (filled due repeated words) ≡ true → filled due repeated words ≡ Some (placed due repeated words)
fitting [] repeated [] h = refl
fitting (p ∷ due) repeated [] h = absurd (false≢true h)
fitting [] [] (w ∷ words) h = absurd (false≢true h)
fitting [] (p ∷ ps) (w ∷ words) h =
    ap (option_map (λ more. (p, w) ∷ more)) (fitting ps (p ∷ ps) words (sym (is_some_map (λ more. (p, w) ∷ more) (filled ps (p ∷ ps) words)) ∙ h))
fitting (p ∷ ps) repeated (w ∷ words) h =
    ap (option_map (λ more. (p, w) ∷ more)) (fitting ps repeated words (sym (is_some_map (λ more. (p, w) ∷ more) (filled ps repeated words)) ∙ h))

-- the line of a command that was found
pub filled_is : (forms : List Form) (before : List (Place × Word)) (command : Word) (due : Form → List Word) (own : Known) → Some (form_of own) ≡ form_in forms command
    → option_map {U = Opcode × List (Place × Word)} (λ more. (own.opcode, before ++ more)) (filled own.places.now own.repeated.now (due (form_of own))) ≡ command_in forms before command due
filled_is forms before command due own found =
    ap (λ o. option_and_then (λ known. option_map {U = Opcode × List (Place × Word)} (λ more. (known.opcode, before ++ more)) (filled known.places known.repeated (due known))) o) found
