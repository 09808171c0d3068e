-- Where no name in a model has a `#`, no signal that it defines has one.
use Rattle.std.proofs.Common.{◌≡◌, ℕ, zero, suc, ◌+◌, ◌<◌, ◌==◌, ◌&&◌, Bool, true, false, not, List, [], ◌∷◌, drop, filter, length, map, Option, Some, None, refl, ap, sym, ◌∙◌, arith}
use Rattle.std.specs.List.{list_all, list_any}
use Rattle.std.proofs.lemmas.Bool.{and_from, and_parts, cond-true, or_parts}
use Rattle.std.proofs.lemmas.Bool.Decides.{nat_tests}
use Rattle.std.proofs.lemmas.List.Folds.{list_all-append, list_all-map}
use Rattle.job_words.specs.Classes.{has_bytes, some_word}
use Rattle.job_words.specs.Text.{is_among}
use Rattle.blif_drafts.proofs.NamesApart.{no_mark}
use Rattle.blif_models.specs.ModelFaults.{actual_outputs, formal_outputs}
use Rattle.blif_models.specs.Models.{Item, Join, Model, covered, held, join_of, joins_of, latched, model_of, names_of}
use Rattle.blif_text.specs.Marks.{is_plain}
use Rattle.blif_text.specs.Text.{Word}
use Rattle.blif_wholes.specs.Defined.{words_defined}
use Rattle.blif_wholes.proofs.DefinedOnce.{all_defined}
use Rattle.blif_wholes.proofs.WholeOnce.{all_words}
use Rattle.blif_net.proofs.LineWords.{item_passes, model_passes}
use Rattle.blif_net.proofs.NoFaults.{all_filtered, all_weaker}

any_behind : (p : ℕ → Bool) (n : ℕ) (xs : List ℕ) → list_any p xs ≡ false → list_any p (drop n xs) ≡ false
any_behind p zero xs h = h
any_behind p (suc n) [] h = h
any_behind p (suc n) (x ∷ xs) h = any_behind p n xs (or_parts (p x) (list_any p xs) h).1

pub actual_plain : (word : Word) → is_plain word ≡ true → is_plain (join_of word).actual ≡ true
actual_plain word h = ap not (any_behind (λ b. b == 35) (length (join_of word).formal + 1) word (no_mark word h))

-- what a model defines, and what may be an output of what it holds

pub some_bytes : (word : Word) → 0 < length word → has_bytes word ≡ true
some_bytes word h = by_length (length word) h
  where
    by_length : (n : ℕ) → 0 < n → not (n == 0) ≡ true
    by_length n some = grind (arith, nat_tests)

name_plain : (word : Word) → list_all is_plain (some_word word) ≡ true → is_plain word ≡ true
name_plain [] h = refl
name_plain (b ∷ word) h =
    let named : some_word (b ∷ word) ≡ (b ∷ word) ∷ [] = cond-true (has_bytes (b ∷ word)) ((b ∷ word) ∷ []) [] (some_bytes (b ∷ word) (omega arith)) in
    (and_parts (is_plain (b ∷ word)) true (sym (ap (list_all is_plain) named) ∙ h)).0

actuals_plain : (words : List Word) → list_all is_plain words ≡ true → list_all (λ join. is_plain join.actual) (map join_of words) ≡ true
actuals_plain words h = list_all-map (λ (join : Join). is_plain join.actual) join_of words ∙ all_weaker is_plain (λ word. is_plain (join_of word).actual) words actual_plain h

outputs_plain : (o : Option Model) (joins : List Join) → list_all (λ join. is_plain join.actual) joins ≡ true → list_all is_plain (actual_outputs o joins) ≡ true
outputs_plain None joins h = refl
outputs_plain (Some one) joins h =
    let test : Join → Bool = λ join. is_among (formal_outputs one) join.formal in
    list_all-map is_plain (λ (join : Join). join.actual) (filter test joins) ∙ all_filtered (λ (join : Join). is_plain join.actual) test joins h

items_plain : (models : List Model) (items : List Item) → list_all (item_passes is_plain) items ≡ true → list_all is_plain (all_defined models items) ≡ true
items_plain models [] h = refl
items_plain models (covered cover ∷ items) h =
    let both = and_parts (list_all is_plain (some_word cover.name)) (list_all (item_passes is_plain) items) h in
    and_from (is_plain cover.name) (list_all is_plain (all_defined models items)) (name_plain cover.name both.0) (items_plain models items both.1)
items_plain models (latched one ∷ items) h =
    let both = and_parts (is_plain one.input && is_plain one.output) (list_all (item_passes is_plain) items) h in
    and_from (is_plain one.output) (list_all is_plain (all_defined models items)) (and_parts (is_plain one.input) (is_plain one.output) both.0).1 (items_plain models items both.1)
items_plain models (held instance ∷ items) h =
    let words = drop 1 instance.words in
    let both = and_parts (list_all is_plain words) (list_all (item_passes is_plain) items) h in
    let own = actual_outputs (model_of models instance) (joins_of instance) in
    list_all-append is_plain own (all_defined models items)
    ∙ and_from (list_all is_plain own) (list_all is_plain (all_defined models items)) (outputs_plain (model_of models instance) (joins_of instance) (actuals_plain words both.0)) (items_plain models items both.1)

pub defined_plain : (models : List Model) (one : Model) → model_passes is_plain one ≡ true → list_all is_plain (words_defined models one) ≡ true
defined_plain models one h =
    let items = list_all (item_passes is_plain) one.items in
    let both = and_parts (list_all is_plain (names_of one.inputs)) (list_all is_plain (names_of one.outputs) && items) h in
    let rest = and_parts (list_all is_plain (names_of one.outputs)) items both.1 in
    ap (list_all is_plain) (all_words models one) ∙ list_all-append is_plain (names_of one.inputs) (all_defined models one.items)
    ∙ and_from (list_all is_plain (names_of one.inputs)) (list_all is_plain (all_defined models one.items)) both.0 (items_plain models one.items rest.1)
