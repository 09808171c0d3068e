-- What an instance joins, and which signals are defined twice, by numbers and by names.
use Rattle.std.proofs.Common.{◌≡◌, ℕ, zero, suc, ◌==◌, ◌<◌, ◌&&◌, ◌||◌, Bool, true, false, cond, not, List, [], ◌∷◌, ◌++◌, Some, drop, filter, flat_map, get_or, length, map, nat_lt, refl, ap, sym, subst, ◌∙◌, arith, if◌then◌else◌}
use Rattle.std.specs.List.{list_all}
use Rattle.std.specs.Str.{bytes_eq}
use Rattle.std.proofs.lemmas.Bool.{false≢true}
use Rattle.std.proofs.lemmas.List.Folds.{list_any-append}
use Rattle.std.proofs.lemmas.Slice.Eq.{bytes_eq-Decides}
use Rattle.job_words.specs.Text.{Word, is_among}
use Rattle.blif_order.specs.Orders.{is_in}
use Rattle.blif_order.proofs.Walks.{own, same_number}
use Rattle.blif_models.specs.Circuits.{some_again}
use Rattle.blif_models.specs.Models.{Instance, Model, Use, join_of, names_of}
use Rattle.blif_models.specs.ModelFaults as faults
use Rattle.blif_models.specs.ModelFaults.{formal_inputs, formal_outputs, is_join, is_misjoined}
use Rattle.blif_models.specs.Numberings.{AreNumbersOf, IsNumberOf, own_word, words_at}
use Rattle.blif_formals.specs.declared.clashes.Definition.{Definition}
use Rattle.blif_formals.specs.declared.interface.Interface.{Interface}
use Rattle.blif_formals.specs.ByNames.{AreApart, AreDefinitionsOf, ClashesAgree, FormalsAgree, IsInterfaceOf, formals_of, joins_one_of}
use Rattle.blif_formals.specs.Clashes.{clash_with, clashes}
use Rattle.blif_formals.specs.Joining.{is_once, joins_well}
use Rattle.blif_formals.proofs.Once.{flips}

own_word_same : (w : Word) → bytes_eq w w ≡ true
own_word_same w = (bytes_eq-Decides w w).1 refl

in_list : (ws : List Word) (n : ℕ) → n < length ws → is_among ws (get_or ws n []) ≡ true
in_list [] n lt = absurd (omega (arith, lt))
in_list (w ∷ ws) zero lt = ap (λ b. b || is_among ws w) (own_word_same w)
in_list (w ∷ ws) (suc n) lt = right (bytes_eq (get_or ws n []) w) (in_list ws n (omega (arith, lt)))
  where
    right : (b : Bool) → is_among ws (get_or ws n []) ≡ true → (b || is_among ws (get_or ws n [])) ≡ true
    right true h = refl
    right false h = h

all_pass : (ns : List ℕ) → list_all (λ n. true) ns ≡ true
all_pass [] = refl
all_pass (n ∷ ns) = all_pass ns

right_false : (s : Bool) → (s && false) ≡ false
right_false true = refl
right_false false = refl

-- what is a number's is not any of these, nor this one
neither : (bs : List ℕ) (n : ℕ) (ns : List ℕ) → list_all (λ k. not (is_in (bs ++ n ∷ []) k)) ns ≡ (list_all (λ k. not (is_in bs k)) ns && not (is_in ns n))
neither bs n [] = refl
neither bs n (k ∷ ns) =
    (λ j. not (list_any-append (λ x. x == k) bs (n ∷ []) j) && neither bs n ns j) ∙ by_cases (is_in bs k) (n == k) (k == n) (flips n k) (list_all (λ x. not (is_in bs x)) ns) (is_in ns n)
  where
    by_cases : (a b c : Bool) → b ≡ c → (l i : Bool) → (not (a || (b || false)) && (l && not i)) ≡ ((not a && l) && not (c || i))
    by_cases true b c e l i = refl
    by_cases false true true e l i = sym (right_false l)
    by_cases false true false e l i = absurd (false≢true (sym e))
    by_cases false false true e l i = absurd (false≢true e)
    by_cases false false false e l i = refl

module _ (words : List (List Word)) (m : ℕ) (apart : AreApart words m) where
  test : (n k : ℕ) (v w : Word) → IsNumberOf words m n v → IsNumberOf words m k w → bytes_eq w v ≡ (n == k)
  test n k v w a b = by_cases (bytes_eq w v) refl (n == k) refl
    where
      by_cases : (s : Bool) → bytes_eq w v ≡ s → (t : Bool) → (n == k) ≡ t → s ≡ t
      by_cases true e true f = refl
      by_cases false e false f = refl
      by_cases true e false f = absurd (false≢true (sym f ∙ subst (λ x. (n == x) ≡ true) (apart n k a.0 b.0 (a.1 ∙ sym ((bytes_eq-Decides w v).0 e) ∙ sym b.1)) (own n)))
      by_cases false e true f = absurd (false≢true (sym e ∙ (bytes_eq-Decides w v).1 (sym b.1 ∙ ap (own_word words m) (sym (same_number n k f)) ∙ a.1)))

  pub among : (ns : List ℕ) (names : List Word) → AreNumbersOf words m ns names → (k : ℕ) (w : Word) → IsNumberOf words m k w → is_among names w ≡ is_in ns k
  among [] [] a k w b = refl
  among [] (v ∷ names) a k w b = absurd a
  among (n ∷ ns) [] a k w b = absurd a
  among (n ∷ ns) (v ∷ names) a k w b = λ j. test n k v w a.0 b j || among ns names a.1 k w b j

  all_among : (ns : List ℕ) (names : List Word) → AreNumbersOf words m ns names → (ks : List ℕ) (others : List Word) → AreNumbersOf words m ks others → list_all (is_among names) others ≡ list_all (is_in ns) ks
  all_among ns names a [] [] b = refl
  all_among ns names a [] (w ∷ others) b = absurd b
  all_among ns names a (k ∷ ks) [] b = absurd b
  all_among ns names a (k ∷ ks) (w ∷ others) b = λ j. among ns names a k w b.0 j && all_among ns names a ks others b.1 j

  one_more : (bs : List ℕ) (before : List Word) → AreNumbersOf words m bs before → (n : ℕ) (w : Word) → IsNumberOf words m n w → AreNumbersOf words m (bs ++ n ∷ []) (before ++ w ∷ [])
  one_more [] [] a n w b = (b, tt)
  one_more [] (v ∷ before) a n w b = absurd a
  one_more (k ∷ bs) [] a n w b = absurd a
  one_more (k ∷ bs) (v ∷ before) a n w b = (a.0, one_more bs before a.1 n w b)

  none_again : (bs : List ℕ) (before : List Word) → AreNumbersOf words m bs before → (ns : List ℕ) (names : List Word) → AreNumbersOf words m ns names
      → not (some_again before names) ≡ (list_all (λ n. not (is_in bs n)) ns && is_once ns)
  none_again bs before a [] [] b = refl
  none_again bs before a [] (w ∷ names) b = absurd b
  none_again bs before a (n ∷ ns) [] b = absurd b
  none_again bs before a (n ∷ ns) (w ∷ names) b =
      (λ j. not (if among bs before a n w b.0 j then true else some_again (before ++ w ∷ []) names))
      ∙ by_cases (is_in bs n) (none_again (bs ++ n ∷ []) (before ++ w ∷ []) (one_more bs before a n w b.0) ns names b.1)
    where
      moved : (l i o : Bool) → ((l && not i) && o) ≡ (l && (not i && o))
      moved true i o = refl
      moved false i o = refl

      by_cases : (t : Bool) → not (some_again (before ++ w ∷ []) names) ≡ (list_all (λ k. not (is_in (bs ++ n ∷ []) k)) ns && is_once ns)
          → not (if t then true else some_again (before ++ w ∷ []) names) ≡ ((not t && list_all (λ k. not (is_in bs k)) ns) && (not (is_in ns n) && is_once ns))
      by_cases true more = refl
      by_cases false more = more ∙ ap (λ l. l && is_once ns) (neither bs n ns) ∙ moved (list_all (λ k. not (is_in bs k)) ns) (is_in ns n) (is_once ns)

  one_clash : (one : Definition) (used : Use) → IsNumberOf words m one.name used.word → one.line ≡ used.line → (ones : List Definition) (others : List Use) → AreDefinitionsOf words m ones others
      → flat_map (clash_with one) ones ≡ flat_map (faults.clash_with used) others
  one_clash one used a e [] [] b = refl
  one_clash one used a e [] (v ∷ others) b = absurd b
  one_clash one used a e (k ∷ ones) [] b = absurd b
  one_clash one used a e (k ∷ ones) (v ∷ others) b =
      λ j. (if sym (test k.name one.name v.word used.word b.0 a ∙ flips k.name one.name) j then (if nat_lt (e j) (b.1 j) then b.1 j else e j) ∷ [] else []) ++ one_clash one used a e ones others b.2 j

  pub same_clashes : (ones : List Definition) (others : List Use) → AreDefinitionsOf words m ones others → clashes ones ≡ faults.clashes others
  same_clashes [] [] a = refl
  same_clashes [] (v ∷ others) a = absurd a
  same_clashes (k ∷ ones) [] a = absurd a
  same_clashes (k ∷ ones) (v ∷ others) a = λ j. one_clash k v a.0 a.1 ones others a.2 j ++ same_clashes ones others a.2 j

  pub once_again : (ns : List ℕ) (names : List Word) → AreNumbersOf words m ns names → not (some_again [] names) ≡ is_once ns
  once_again ns names a = none_again [] [] tt ns names a ∙ ap (λ l. l && is_once ns) (all_pass ns)

  both_numbers : (ns : List ℕ) (names : List Word) → AreNumbersOf words m ns names → (ks : List ℕ) (others : List Word) → AreNumbersOf words m ks others → AreNumbersOf words m (ns ++ ks) (names ++ others)
  both_numbers [] [] a ks others b = b
  both_numbers [] (v ∷ names) a ks others b = absurd a
  both_numbers (n ∷ ns) [] a ks others b = absurd a
  both_numbers (n ∷ ns) (v ∷ names) a ks others b = (a.0, both_numbers ns names a.1 ks others b)

  -- what is no name has no number
  without : (w : Word) → is_among (words_at words m) w ≡ false → (ns : List ℕ) (names : List Word) → AreNumbersOf words m ns names → is_among names w ≡ false
  without w none [] [] a = refl
  without w none [] (v ∷ names) a = absurd a
  without w none (n ∷ ns) [] a = absurd a
  without w none (n ∷ ns) (v ∷ names) a = by_cases (bytes_eq w v) refl (without w none ns names a.1)
    where
      by_cases : (t : Bool) → bytes_eq w v ≡ t → is_among names w ≡ false → (t || is_among names w) ≡ false
      by_cases false e more = more
      by_cases true e more =
          let same : own_word words m n ≡ w = a.0.1 ∙ sym ((bytes_eq-Decides w v).0 e) in
          absurd (false≢true (sym none ∙ ap (is_among (words_at words m)) (sym same) ∙ in_list (words_at words m) n a.0.0))

-- what is an input or an output is a formal name

pub kept_among : (w : Word) (ins outs : List Word) → is_among ins w ≡ false → is_among (filter (λ name. not (is_among ins name)) outs) w ≡ is_among outs w
kept_among w ins [] e = refl
kept_among w ins (v ∷ outs) e = by_cases (is_among ins v) refl (kept_among w ins outs e)
  where
    by_cases : (t : Bool) → is_among ins v ≡ t → is_among (filter (λ name. not (is_among ins name)) outs) w ≡ is_among outs w
        → is_among (cond (not t) (v ∷ filter (λ name. not (is_among ins name)) outs) (filter (λ name. not (is_among ins name)) outs)) w ≡ (bytes_eq w v || is_among outs w)
    by_cases false f more = ap (λ b. bytes_eq w v || b) more
    by_cases true f more = more ∙ by_test (bytes_eq w v) refl
      where
        by_test : (t : Bool) → bytes_eq w v ≡ t → is_among outs w ≡ (t || is_among outs w)
        by_test false g = refl
        by_test true g = absurd (false≢true (sym e ∙ ap (is_among ins) ((bytes_eq-Decides w v).0 g) ∙ f))

formal_among : (model : Model) (w : Word) → is_among (formal_inputs model ++ formal_outputs model) w ≡ is_among (formal_inputs model ++ names_of model.outputs) w
formal_among model w =
    list_any-append (bytes_eq w) (formal_inputs model) (formal_outputs model) ∙ by_cases (is_among (formal_inputs model) w) refl ∙ sym (list_any-append (bytes_eq w) (formal_inputs model) (names_of model.outputs))
  where
    by_cases : (t : Bool) → is_among (formal_inputs model) w ≡ t → (t || is_among (formal_outputs model) w) ≡ (t || is_among (names_of model.outputs) w)
    by_cases true e = refl
    by_cases false e = kept_among w (formal_inputs model) (names_of model.outputs) e

module _ (words : List (List Word)) (m : ℕ) (model : Model) (interface : Interface) (is : IsInterfaceOf words m model interface) where
  formal_numbers : AreNumbersOf words m (interface.inputs ++ interface.outputs) (formal_inputs model ++ names_of model.outputs)
  formal_numbers = both_numbers words m is.apart interface.inputs (formal_inputs model) is.inputs interface.outputs (names_of model.outputs) is.outputs

  misjoined : (instance : Instance) (formals : List ℕ) → list_all is_join (drop 1 instance.words) ≡ true → AreNumbersOf words m formals (formals_of instance)
      → is_misjoined (Some model) instance ≡ not (joins_well interface.inputs interface.outputs formals)
  misjoined instance formals joins a =
      let known : list_all (is_among (formal_inputs model ++ formal_outputs model)) (formals_of instance) ≡ list_all (is_in (interface.inputs ++ interface.outputs)) formals =
      (λ j. list_all (λ w. formal_among model w j) (formals_of instance))
      ∙ all_among words m is.apart (interface.inputs ++ interface.outputs) (formal_inputs model ++ names_of model.outputs) formal_numbers formals (formals_of instance) a in
      let once = once_again words m is.apart formals (formals_of instance) a in
      let each = all_among words m is.apart formals (formals_of instance) a interface.inputs (formal_inputs model) is.inputs in
      λ j. not (joins j && known j && once j && each j)

  none_joined : (others : List Word) → list_all (joins_one_of (words_at words m)) others ≡ false
      → (list_all is_join others && list_all (is_among (formal_inputs model ++ formal_outputs model)) (map (λ join. join.formal) (map join_of others))) ≡ false
  none_joined [] e = absurd (false≢true (sym e))
  none_joined (w ∷ others) e = by_cases (is_join w) (is_among (words_at words m) (join_of w).formal) refl e (none_joined others)
    where
      passed : (a b c : Bool) → (a && b) ≡ false → (a && (c && b)) ≡ false
      passed true b true f = f
      passed true b false f = refl
      passed false b c f = refl

      by_cases : (s t : Bool) → is_among (words_at words m) (join_of w).formal ≡ t → ((s && t) && list_all (joins_one_of (words_at words m)) others) ≡ false
          → (list_all (joins_one_of (words_at words m)) others ≡ false
          → (list_all is_join others && list_all (is_among (formal_inputs model ++ formal_outputs model)) (map (λ join. join.formal) (map join_of others))) ≡ false)
          → ((s && list_all is_join others)
          && (is_among (formal_inputs model ++ formal_outputs model) (join_of w).formal && list_all (is_among (formal_inputs model ++ formal_outputs model)) (map (λ join. join.formal) (map join_of others)))) ≡ false
      by_cases false t f g more = refl
      by_cases true true f g more =
          passed (list_all is_join others) (list_all (is_among (formal_inputs model ++ formal_outputs model)) (map (λ join. join.formal) (map join_of others)))
          (is_among (formal_inputs model ++ formal_outputs model) (join_of w).formal) (more g)
      by_cases true false f g more =
          let none : is_among (formal_inputs model ++ formal_outputs model) (join_of w).formal ≡ false =
          formal_among model (join_of w).formal
          ∙ without words m is.apart (join_of w).formal f (interface.inputs ++ interface.outputs) (formal_inputs model ++ names_of model.outputs) formal_numbers in
          ap (λ b. list_all is_join others && (b && list_all (is_among (formal_inputs model ++ formal_outputs model)) (map (λ join. join.formal) (map join_of others)))) none
          ∙ right_false (list_all is_join others)

  unknown_joined : (instance : Instance) → list_all (joins_one_of (words_at words m)) (drop 1 instance.words) ≡ false → is_misjoined (Some model) instance ≡ true
  unknown_joined instance e =
      ap (λ b. not (b && not (some_again [] (formals_of instance)) && list_all (is_among (formals_of instance)) (formal_inputs model))) (none_joined (drop 1 instance.words) e)

pub formals_agree : FormalsAgree
formals_agree = record {
  once = λ words m model interface is. sym (once_again words m is.apart interface.inputs (formal_inputs model) is.inputs);
  joined = λ words m model interface instance formals is joins a. misjoined words m model interface is instance formals joins a;
  unknown = λ words m model interface instance is e. unknown_joined words m model interface is instance e;
}

pub clashes_agree : ClashesAgree
clashes_agree words m ones by_names apart a = same_clashes words m apart ones by_names a
