-- The first of some lines is that of the first of what stands in the order of lines.
use Rattle.std.proofs.Common.{◌≡◌, ℕ, zero, suc, ◌<◌, ◌≤◌, ◌==◌, ◌&&◌, ◌||◌, not, Bool, true, false, cond, List, [], ◌∷◌, filter, get_or, length, map, nat_lt, Option, None, Some, refl, ap, sym, ◌∙◌, arith, if◌then◌else◌}
use Rattle.std.specs.Prelude.{IsPermutation, find, option_map}
use Rattle.std.specs.List.{list_all, list_any}
use Rattle.std.specs.List.Sorted.{IsNonDecreasingBy}
use Rattle.std.specs.Str.{bytes_eq}
use Rattle.std.proofs.lemmas.Bool.{false≢true}
use Rattle.std.proofs.lemmas.Bool.Decides.{nat_tests}
use Rattle.std.proofs.lemmas.List.Sorted.{length_permutation, list_any-IsPermutation}
use Rattle.job_words.specs.Text.{Word, is_among}
use Rattle.blif_models.specs.Circuits.{Circuit, Cover, is_settled, settles}
use Rattle.blif_models.specs.Models.{circuit_from, covers_among}
use Rattle.blif_models.specs.ModelFaults.{least, lesser}
use Rattle.blif_wholes.specs.LineOrder.{CyclesByLine, with_covers}

-- how covers are led back does not depend on their order

module _ (circuit : Circuit) (covers : List Cover) (moved : IsPermutation circuit.covers covers) where
  same_settles : (limit : ℕ) (name : Word) → settles circuit limit name ≡ settles (with_covers circuit covers) limit name
  unfolding settles
  same_settles zero name = refl
  same_settles (suc limit) name =
      ap (λ (led : Word → Bool). is_among circuit.inputs name || list_any (λ (cover : Cover). bytes_eq name cover.name && list_all led cover.ins) circuit.covers) (λ i z. same_settles limit z i)
      ∙ ap (λ b. is_among circuit.inputs name || b)
      (list_any-IsPermutation (λ (cover : Cover). bytes_eq name cover.name && list_all (settles (with_covers circuit covers) limit) cover.ins) circuit.covers covers moved)

  same_settled : (cover : Cover) → is_settled circuit cover ≡ is_settled (with_covers circuit covers) cover
  same_settled cover =
      ap (λ (led : Word → Bool). list_all led cover.ins) (λ i z. same_settles (length circuit.covers) z i)
      ∙ ap (λ n. list_all (settles (with_covers circuit covers) n) cover.ins) (sym (length_permutation circuit.covers covers moved))

-- the first line of those that pass a test

NotBelow : ℕ → Option ℕ → Type 0
NotBelow m None = Unit {0}
NotBelow m (Some n) = nat_lt n m ≡ false

lesser_not_below : (m n : ℕ) (o : Option ℕ) → nat_lt n m ≡ false → NotBelow m o → nat_lt (lesser n o) m ≡ false
unfolding NotBelow
lesser_not_below m n None h k = h
lesser_not_below m n (Some b) h k = by_cases (nat_lt b n)
  where
    by_cases : (t : Bool) → nat_lt (if t then b else n) m ≡ false
    by_cases true = k
    by_cases false = h

lesser_stays : (m : ℕ) (o : Option ℕ) → NotBelow m o → lesser m o ≡ m
unfolding NotBelow
lesser_stays m None k = refl
lesser_stays m (Some b) k = ap (λ t. if t then b else m) k

-- covers in the order of lines: each stands on no lower line than the one before it, and the first on none lower than this
AreByLine : ℕ → List Cover → Type 0
AreByLine line [] = Unit {0}
AreByLine line (cover ∷ covers) = (line ≤ cover.line) × AreByLine cover.line covers

by_line : (line : ℕ) (covers : List Cover) → ((k : ℕ) (d : Cover) → k < length covers → line ≤ (get_or covers k d).line) → IsNonDecreasingBy (λ (cover : Cover). cover.line) covers → AreByLine line covers
unfolding AreByLine
by_line line [] first h = tt
by_line line (cover ∷ covers) first h = (
  first 0 cover (omega arith),
  by_line cover.line covers (λ k d lt. h 0 (suc k) d (omega arith) (omega (arith, lt))) (λ i j d le lt. h (suc i) (suc j) d (omega (arith, le)) (omega (arith, lt))),
)

module _ (p : Cover → Bool) where
  abbrev lines_passing : List Cover → List ℕ
  lines_passing covers = map (λ cover. cover.line) (filter p covers)

  none_passes : (covers : List Cover) → list_any p covers ≡ false → least (lines_passing covers) ≡ None
  none_passes [] h = refl
  none_passes (cover ∷ covers) h = by_cases (p cover) h (λ k. none_passes covers k)
    where
      by_cases : (b : Bool) → (b || list_any p covers) ≡ false → (list_any p covers ≡ false → least (lines_passing covers) ≡ None) → least (map (λ (one : Cover). one.line) (cond b (cover ∷ filter p covers) (filter p covers))) ≡ None
      by_cases true k more = absurd (false≢true (sym k))
      by_cases false k more = more k

  all_from : (m : ℕ) (covers : List Cover) → list_any (λ cover. p cover && nat_lt cover.line m) covers ≡ false → NotBelow m (least (lines_passing covers))
  unfolding NotBelow
  all_from m [] h = tt
  all_from m (cover ∷ covers) h = by_cases (p cover) (nat_lt cover.line m) refl h (λ k. all_from m covers k)
    where
      by_cases : (b c : Bool) → nat_lt cover.line m ≡ c → ((b && c) || list_any (λ one. p one && nat_lt one.line m) covers) ≡ false
          → (list_any (λ one. p one && nat_lt one.line m) covers ≡ false → NotBelow m (least (lines_passing covers))) → NotBelow m (least (map (λ (one : Cover). one.line) (cond b (cover ∷ filter p covers) (filter p covers))))
      by_cases true true t k more = absurd (false≢true (sym k))
      by_cases true false t k more = lesser_not_below m cover.line (least (lines_passing covers)) t (more k)
      by_cases false c t k more = more k

  least_is : (m : ℕ) (covers : List Cover) → list_any (λ cover. p cover && (cover.line == m)) covers ≡ true → list_any (λ cover. p cover && nat_lt cover.line m) covers ≡ false → least (lines_passing covers) ≡ Some m
  least_is m [] h k = absurd (false≢true h)
  least_is m (cover ∷ covers) h k = by_cases (p cover) (cover.line == m) refl (nat_lt cover.line m) refl h k (λ h' k'. least_is m covers h' k') (λ k'. all_from m covers k')
    where
      by_cases : (b c : Bool) → (cover.line == m) ≡ c → (d : Bool) → nat_lt cover.line m ≡ d → ((b && c) || list_any (λ one. p one && (one.line == m)) covers) ≡ true → ((b && d) || list_any (λ one. p one && nat_lt one.line m) covers) ≡ false
          → (list_any (λ one. p one && (one.line == m)) covers ≡ true → list_any (λ one. p one && nat_lt one.line m) covers ≡ false → least (lines_passing covers) ≡ Some m)
          → (list_any (λ one. p one && nat_lt one.line m) covers ≡ false → NotBelow m (least (lines_passing covers))) → least (map (λ (one : Cover). one.line) (cond b (cover ∷ filter p covers) (filter p covers))) ≡ Some m
      by_cases false c e d f h' k' more from = more h' k'
      by_cases true c e true f h' k' more from = absurd (false≢true (sym k'))
      by_cases true true e false f h' k' more from =
          let same : cover.line ≡ m = grind (arith, nat_tests) in
          ap (λ n. Some (lesser n (least (lines_passing covers)))) same ∙ ap Some (lesser_stays m (least (lines_passing covers)) (from k'))
      by_cases true false e false f h' k' more from =
          let later : nat_lt m cover.line ≡ true = grind (arith, nat_tests) in
          ap (λ o. Some (lesser cover.line o)) (more h' k') ∙ ap (λ t. Some (if t then m else cover.line)) later

  none_lower : (line m : ℕ) (covers : List Cover) → m ≤ line → AreByLine line covers → list_any (λ cover. p cover && nat_lt cover.line m) covers ≡ false
  unfolding AreByLine
  none_lower line m [] h a = refl
  none_lower line m (cover ∷ covers) h a =
      let high : nat_lt cover.line m ≡ false = grind (arith, nat_tests) in
      ap (λ t. (p cover && t) || list_any (λ one. p one && nat_lt one.line m) covers) high
      ∙ ap (λ t. t || list_any (λ one. p one && nat_lt one.line m) covers) (never (p cover))
      ∙ none_lower cover.line m covers (omega (arith, h, a.0)) a.1
    where
      never : (b : Bool) → (b && false) ≡ false
      never true = refl
      never false = refl

  -- What is found is told: its line, or nothing.
  Told : List Cover → Option Cover → Type 0
  Told covers None = list_any p covers ≡ false
  Told covers (Some found) = (list_any (λ cover. p cover && (cover.line == found.line)) covers ≡ true) × (list_any (λ cover. p cover && nat_lt cover.line found.line) covers ≡ false)

  found_first : (line : ℕ) (covers : List Cover) → AreByLine line covers → Told covers (find p covers)
  unfolding Told AreByLine
  found_first line [] a = refl
  found_first line (cover ∷ covers) a = by_cases (p cover) refl (find p covers) (found_first cover.line covers a.1)
    where
      own : (n : ℕ) → (n == n) ≡ true
      own n = grind (arith, nat_tests)

      behind : (b t : Bool) → b ≡ true → (t || b) ≡ true
      behind b true e = refl
      behind b false e = e

      by_cases : (b : Bool) → p cover ≡ b → (o : Option Cover) → Told covers o → Told (cover ∷ covers) (cond b (Some cover) o)
      by_cases true e o more = (
        ap (λ t. (t && (cover.line == cover.line)) || list_any (λ one. p one && (one.line == cover.line)) covers) e ∙ ap (λ t. t || list_any (λ one. p one && (one.line == cover.line)) covers) (own cover.line),
        ap (λ t. (t && nat_lt cover.line cover.line) || list_any (λ one. p one && nat_lt one.line cover.line) covers) e
            ∙ ap (λ t. t || list_any (λ one. p one && nat_lt one.line cover.line) covers) (not_own cover.line)
            ∙ none_lower cover.line cover.line covers (omega arith) a.1,
      )
        where
          not_own : (n : ℕ) → nat_lt n n ≡ false
          not_own n = grind (arith, nat_tests)
      by_cases false e None more = ap (λ t. t || list_any p covers) e ∙ more
      by_cases false e (Some found) more = (
        behind (list_any (λ one. p one && (one.line == found.line)) covers) (p cover && (cover.line == found.line)) more.0,
        ap (λ t. (t && nat_lt cover.line found.line) || list_any (λ one. p one && nat_lt one.line found.line) covers) e ∙ more.1,
      )

  least_found : (before covers : List Cover) → IsPermutation before covers → (o : Option Cover) → Told covers o → least (lines_passing before) ≡ option_map (λ (cover : Cover). cover.line) o
  unfolding Told
  least_found before covers moved None told = none_passes before (list_any-IsPermutation p before covers moved ∙ told)
  least_found before covers moved (Some found) told =
      least_is found.line before (list_any-IsPermutation (λ cover. p cover && (cover.line == found.line)) before covers moved ∙ told.0)
      (list_any-IsPermutation (λ cover. p cover && nat_lt cover.line found.line) before covers moved ∙ told.1)

pub cycles_by_line : CyclesByLine
cycles_by_line main items covers moved rising =
    let circuit = circuit_from main items in
    let p = λ (cover : Cover). not (is_settled circuit cover) in
    let q = λ (cover : Cover). not (is_settled (with_covers circuit covers) cover) in
    let same : p ≡ q = λ i cover. not (same_settled circuit covers moved cover i) in
    least_found p (covers_among items) covers moved (find p covers) (found_first p 0 covers (by_line 0 covers (λ k d lt. omega arith) rising)) ∙ ap (λ (t : Cover → Bool). option_map (λ (cover : Cover). cover.line) (find t covers)) same
