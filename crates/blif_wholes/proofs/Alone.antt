-- Where no signal of a circuit is defined twice, a name is that of one place.
use Rattle.std.proofs.Common.{◌≡◌, ℕ, zero, suc, ◌+◌, ◌||◌, Bool, true, false, not, cond, List, [], ◌∷◌, ◌++◌, Some, refl, ap, sym, ◌∙◌, subst, arith}
use Rattle.std.specs.Prelude.{find, option_map, slice_get}
use Rattle.std.specs.List.{list_all, position_or_len}
use Rattle.std.specs.Str.{bytes_eq}
use Rattle.std.proofs.lemmas.Bool.{and_parts, false≢true}
use Rattle.std.proofs.lemmas.Option.{same_Some, slice_get-map}
use Rattle.std.proofs.lemmas.Slice.Eq.{bytes_eq-Decides}
use Rattle.job_words.specs.Text.{Word, is_among}
use Rattle.blif_models.specs.Circuits.{Circuit, Cover, defined_in, is_signal}
use Rattle.blif_wholes.specs.Built.{IsSound}
use Rattle.blif_wholes.specs.Defined.{Once}
use Rattle.blif_wholes.proofs.Words.{not_so, once_parts}

-- no two inputs are one, no two covers define one signal, and no input is defined
pub record Alone (ins defined : List Word) : Type 0 where
  pub inputs : Once ins
  pub covers : Once defined
  pub apart : (z : Word) → is_among ins z ≡ true → is_among defined z ≡ false

pub alone : (circuit : Circuit) → IsSound circuit → Alone circuit.inputs (defined_in circuit.covers)
alone circuit sound =
    let parts = once_parts circuit.inputs (defined_in circuit.covers) sound.once in
    record { inputs = parts.0; covers = parts.1; apart = λ z e. not_so (is_among (defined_in circuit.covers) z) (λ f. parts.2 z e f) }

pub get_front : {X : Type 0} (xs ys : List X) (i : ℕ) (x : X) → slice_get xs i ≡ Some x → slice_get (xs ++ ys) i ≡ Some x
get_front [] ys i x h = cc
get_front (y ∷ xs) ys zero x h = h
get_front (y ∷ xs) ys (suc i) x h = get_front xs ys i x h

-- a name that stands in a list is among its words
pub among_got : (names : List Word) (i : ℕ) (z : Word) → slice_get names i ≡ Some z → is_among names z ≡ true
among_got [] i z h = cc
among_got (name ∷ names) zero z h = ap (λ b. b || is_among names z) ((bytes_eq-Decides z name).1 (sym (same_Some name z h)))
among_got (name ∷ names) (suc i) z h = by_cases (bytes_eq z name) refl (among_got names i z h)
  where
    by_cases : (b : Bool) → bytes_eq z name ≡ b → is_among names z ≡ true → is_among (name ∷ names) z ≡ true
    by_cases true e more = ap (λ b. b || is_among names z) e
    by_cases false e more = ap (λ b. b || is_among names z) e ∙ more

one_more : (i : ℕ) → 1 + i ≡ suc i
one_more i = omega arith

pub place_once : (names : List Word) (i : ℕ) (z : Word) → Once names → slice_get names i ≡ Some z → position_or_len (bytes_eq z) names ≡ i
place_once [] i z o h = cc
place_once (name ∷ names) zero z o h = ap (λ b. cond (not b) (1 + position_or_len (bytes_eq z) names) 0) ((bytes_eq-Decides z name).1 (sym (same_Some name z h)))
place_once (name ∷ names) (suc i) z o h = by_cases (bytes_eq z name) refl (place_once names i z o.1 h)
  where
    by_cases : (b : Bool) → bytes_eq z name ≡ b → position_or_len (bytes_eq z) names ≡ i → position_or_len (bytes_eq z) (name ∷ names) ≡ suc i
    by_cases true e more =
        let same : z ≡ name = (bytes_eq-Decides z name).0 e in
        absurd (false≢true (sym o.0 ∙ subst (λ (t : Word). is_among names t ≡ true) same (among_got names i z h)))
    by_cases false e more = ap (λ b. cond (not b) (1 + position_or_len (bytes_eq z) names) 0) e ∙ ap (λ t. 1 + t) more ∙ one_more i

pub found_once : (covers : List Cover) (i : ℕ) (cover : Cover) → Once (defined_in covers) → slice_get covers i ≡ Some cover → find (λ (one : Cover). bytes_eq cover.name one.name) covers ≡ Some cover
found_once [] i cover o h = cc
found_once (one ∷ covers) zero cover o h =
    let same : one ≡ cover = same_Some one cover h in
    ap (λ b. cond b (Some one) (find (λ (other : Cover). bytes_eq cover.name other.name) covers)) ((bytes_eq-Decides cover.name one.name).1 (ap (λ (t : Cover). t.name) (sym same))) ∙ ap Some same
found_once (one ∷ covers) (suc i) cover o h = by_cases (bytes_eq cover.name one.name) refl (found_once covers i cover o.1 h)
  where
    named : slice_get (defined_in covers) i ≡ Some cover.name
    named = slice_get-map (λ (t : Cover). t.name) covers i ∙ ap (option_map (λ (t : Cover). t.name)) h

    by_cases : (b : Bool) → bytes_eq cover.name one.name ≡ b → find (λ (other : Cover). bytes_eq cover.name other.name) covers ≡ Some cover → find (λ (other : Cover). bytes_eq cover.name other.name) (one ∷ covers) ≡ Some cover
    by_cases true e more =
        let same : cover.name ≡ one.name = (bytes_eq-Decides cover.name one.name).0 e in
        absurd (false≢true (sym o.0 ∙ subst (λ (t : Word). is_among (defined_in covers) t ≡ true) same (among_got (defined_in covers) i cover.name named)))
    by_cases false e more = ap (λ b. cond b (Some one) (find (λ (other : Cover). bytes_eq cover.name other.name) covers)) e ∙ more

pub covered : (arranged : List Cover) (i : ℕ) (name : Word) → slice_get (defined_in arranged) i ≡ Some name → (cover : Cover) × (slice_get arranged i ≡ Some cover) × (cover.name ≡ name)
covered [] i name h = cc
covered (cover ∷ arranged) zero name h = (cover, refl, same_Some cover.name name h)
covered (cover ∷ arranged) (suc i) name h = covered arranged i name h

pub not_input : (circuit : Circuit) (i : ℕ) (cover : Cover) → Alone circuit.inputs (defined_in circuit.covers) → slice_get circuit.covers i ≡ Some cover → is_among circuit.inputs cover.name ≡ false
not_input circuit i cover a h = by_cases (is_among circuit.inputs cover.name) refl
  where
    named : slice_get (defined_in circuit.covers) i ≡ Some cover.name
    named = slice_get-map (λ (t : Cover). t.name) circuit.covers i ∙ ap (option_map (λ (t : Cover). t.name)) h

    by_cases : (b : Bool) → is_among circuit.inputs cover.name ≡ b → is_among circuit.inputs cover.name ≡ false
    by_cases false e = e
    by_cases true e = absurd (false≢true (sym (a.apart cover.name e) ∙ among_got (defined_in circuit.covers) i cover.name named))

-- what covers read are signals

pub all_of_cover : (p : Cover → Bool) (covers : List Cover) (i : ℕ) (cover : Cover) → list_all p covers ≡ true → slice_get covers i ≡ Some cover → p cover ≡ true
all_of_cover p [] i cover h e = cc
all_of_cover p (x ∷ covers) zero cover h e = ap p (sym (same_Some x cover e)) ∙ (and_parts (p x) (list_all p covers) h).0
all_of_cover p (x ∷ covers) (suc i) cover h e = all_of_cover p covers i cover (and_parts (p x) (list_all p covers) h).1 e

pub all_of_word : (p : Word → Bool) (words : List Word) (z : Word) → list_all p words ≡ true → is_among words z ≡ true → p z ≡ true
all_of_word p [] z h e = absurd (false≢true e)
all_of_word p (word ∷ words) z h e = by_cases (bytes_eq z word) refl e (λ k. all_of_word p words z (and_parts (p word) (list_all p words) h).1 k)
  where
    by_cases : (b : Bool) → bytes_eq z word ≡ b → (b || is_among words z) ≡ true → (is_among words z ≡ true → p z ≡ true) → p z ≡ true
    by_cases true f k more = ap p ((bytes_eq-Decides z word).0 f) ∙ (and_parts (p word) (list_all p words) h).0
    by_cases false f k more = more k

pub signal_read : (circuit : Circuit) (c : ℕ) (cover : Cover) (z : Word) → IsSound circuit → slice_get circuit.covers c ≡ Some cover → is_among cover.ins z ≡ true → is_signal circuit z ≡ true
signal_read circuit c cover z sound at e =
    all_of_word (is_signal circuit) cover.ins z (all_of_cover (λ (one : Cover). list_all (is_signal circuit) one.ins) circuit.covers c cover sound.reads at) e
