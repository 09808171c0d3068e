-- Names and their first places, one name after another.
use Rattle.std.proofs.Common.{◌≡◌, ℕ, suc, ◌+◌, ◌<◌, Bool, true, false, cond, List, [], ◌∷◌, ◌++◌, length, take, get_or, Option, Some, None, refl, ap, sym, ◌∙◌, arith}
use Rattle.std.specs.Prelude.{is_some}
use Rattle.std.specs.Borrow.{Bor}
use Rattle.std.specs.BTreeMap.{BTreeMap}
use Rattle.std.specs.List.{position_from}
use Rattle.std.specs.Map.{update}
use Rattle.std.specs.Option.{option_or}
use Rattle.std.specs.Str.{bytes_eq}
use Rattle.std.proofs.lemmas.Bool.{false_from_ne_true}
use Rattle.std.proofs.lemmas.List.{length-map, length-take, map-append, take_more}
use Rattle.std.proofs.lemmas.Slice.Eq.{bytes_eq-Decides}
use Rattle.job_words.specs.Text.{Word}
use Rattle.blif_dump.specs.Calls.{names_in}
use Rattle.blif_dump.specs.Names.{place_in}
use Rattle.blif_dump.specs.Tables.{ArePlaces, found_in}

-- the names behind the first so many references
pub names_more : (names : List (Bor Word)) (i : ℕ) (d : Bor Word) → i < length names → names_in (take (i + 1) names) ≡ names_in (take i names) ++ (get_or names i d).now ∷ []
names_more names i d h = ap names_in (take_more names i d h) ∙ map-append (λ (name : Bor Word). name.now) (take i names) (get_or names i d ∷ [])

pub names_count : (names : List (Bor Word)) (i : ℕ) → i < length names → length (names_in (take i names)) ≡ i
names_count names i h = omega (arith, length-map (take i names) (λ (name : Bor Word). name.now), length-take i names)

-- the place of a name among names and one more
next_place : (n : ℕ) (b : Bool) (o before rest : Option ℕ) → o ≡ option_or before rest → cond b (Some n) o ≡ option_or (cond b (Some n) before) rest
next_place n true o before rest e = refl
next_place n false o before rest e = e

place_behind : (t : Word → Bool) (n : ℕ) (names : List Word) (name : Word)
    → position_from t n (names ++ name ∷ []) ≡ option_or (position_from t n names) (cond (t name) (Some (n + length names)) None)
place_behind t n [] name = ap (λ m. cond (t name) (Some m) None) (omega arith)
place_behind t n (x ∷ names) name =
    let same : n + 1 + length names ≡ n + suc (length names) = omega arith in
    next_place n (t x) (position_from t (n + 1) (names ++ name ∷ [])) (position_from t (n + 1) names) (cond (t name) (Some (n + suc (length names))) None)
    (place_behind t (n + 1) names name ∙ ap (λ m. option_or (position_from t (n + 1) names) (cond (t name) (Some m) None)) same)

or_none : (o : Option ℕ) → option_or o None ≡ o
or_none None = refl
or_none (Some n) = refl

-- a name that stood before keeps its place
pub noted_before : (table : BTreeMap (Bor Word) ℕ) (names : List Word) (name : Word) → ArePlaces table names → is_some (found_in table name) ≡ true → ArePlaces table (names ++ name ∷ [])
noted_before table names name h some q = h q ∙ by_cases (bytes_eq q name) refl ∙ sym (place_behind (bytes_eq q) 0 names name)
  where
    kept : (o rest : Option ℕ) → is_some o ≡ true → o ≡ option_or o rest
    kept None rest e = cc
    kept (Some n) rest e = refl

    by_cases : (b : Bool) → bytes_eq q name ≡ b → place_in names q ≡ option_or (place_in names q) (cond (bytes_eq q name) (Some (0 + length names)) None)
    by_cases true e =
        let same : q ≡ name = (bytes_eq-Decides q name).0 e in
        kept (place_in names q) (cond (bytes_eq q name) (Some (0 + length names)) None) (ap is_some (sym (h q)) ∙ ap (λ (t : Word). is_some (found_in table t)) same ∙ some)
    by_cases false e = sym (or_none (place_in names q)) ∙ ap (λ b. option_or (place_in names q) (cond b (Some (0 + length names)) None)) (sym e)

-- a name that did not is noted
pub noted_first : (old new : BTreeMap (Bor Word) ℕ) (names : List Word) (name : Word) (place : ℕ) → length names ≡ place → ArePlaces old names → is_some (found_in old name) ≡ false
    → ((q : Word) → found_in new q ≡ update bytes_eq (found_in old) name (Some place) q) → ArePlaces new (names ++ name ∷ [])
noted_first old new names name place count h none more q = more q ∙ by_cases (bytes_eq name q) refl ∙ sym (place_behind (bytes_eq q) 0 names name)
  where
    no_place : (o : Option ℕ) → is_some o ≡ false → o ≡ None
    no_place None e = refl
    no_place (Some n) e = cc

    by_cases : (b : Bool) → bytes_eq name q ≡ b → cond (bytes_eq name q) (Some place) (found_in old q) ≡ option_or (place_in names q) (cond (bytes_eq q name) (Some (0 + length names)) None)
    by_cases true e =
        let same : name ≡ q = (bytes_eq-Decides name q).0 e in
        let nothing : place_in names q ≡ None = sym (h q) ∙ ap (found_in old) (sym same) ∙ no_place (found_in old name) none in
        ap (λ b. cond b (Some place) (found_in old q)) e ∙ ap (λ n. Some n) (let at : place ≡ 0 + length names = omega (arith, count) in at)
        ∙ sym (ap (λ o. option_or o (cond (bytes_eq q name) (Some (0 + length names)) None)) nothing ∙ ap (λ b. cond b (Some (0 + length names)) None) ((bytes_eq-Decides q name).1 (sym same)))
    by_cases false e =
        let other : bytes_eq q name ≡ false = false_from_ne_true (bytes_eq q name) (λ t. let wrong : true ≡ false = sym ((bytes_eq-Decides name q).1 (sym ((bytes_eq-Decides q name).0 t))) ∙ e in cc) in
        ap (λ b. cond b (Some place) (found_in old q)) e ∙ h q ∙ sym (or_none (place_in names q)) ∙ ap (λ b. option_or (place_in names q) (cond b (Some (0 + length names)) None)) (sym other)
