-- Words that become signals one after another.
use Rattle.std.proofs.Common.{◌≡◌, ℕ, ◌==◌, ◌||◌, Bool, true, false, List, [], ◌∷◌, ◌++◌, Some, append_assoc, refl, ap, sym, ◌∙◌, subst, if◌then◌else◌}
use Rattle.std.specs.Prelude.{slice_get}
use Rattle.std.specs.Str.{bytes_eq}
use Rattle.std.proofs.lemmas.Bool.{false≢true}
use Rattle.std.proofs.lemmas.List.Folds.{list_any-append}
use Rattle.std.proofs.lemmas.Option.{get_or_from_slice_get, slice_get_within}
use Rattle.job_words.specs.Text.{Word, is_among}
use Rattle.blif_models.specs.Circuits.{some_again}
use Rattle.blif_models.specs.Numberings.{IsNumberOf}
use Rattle.blif_formals.specs.Actuals.{Keeps}
use Rattle.blif_formals.specs.Words.{with_word}
use Rattle.blif_formals.proofs.ByNames.{among}
use Rattle.blif_formals.proofs.Numbering.{keeps_all, keeps_more}
use Rattle.blif_drafts.specs.declared.stops.LineStop.{LineStop}
use Rattle.blif_drafts.specs.declared.stops.LineStop.TheVariants as stops
use Rattle.blif_drafts.specs.declared.stops.Refusal.TheVariants as refusals
use Rattle.blif_drafts.specs.Signals.{AreSignals, DefineStop, Defines, is_marked}
use Rattle.blif_drafts.proofs.Lasting.{append_numbers, keeps_both, numbers_kept}
use Rattle.blif_drafts.proofs.OfDrafts.{apart_in}

pub nothing_more : {X : Type 0} (xs : List X) → xs ++ [] ≡ xs
nothing_more [] = refl
nothing_more (x ∷ xs) = ap (λ t. x ∷ t) (nothing_more xs)

-- a word again

pub again_both : (before words others : List Word) → some_again before words ≡ false → some_again before (words ++ others) ≡ some_again (before ++ words) others
again_both before [] others e = ap (λ t. some_again t others) (sym (nothing_more before))
again_both before (word ∷ words) others e = by_cases (is_among before word) e (again_both (before ++ word ∷ []) words others)
  where
    by_cases : (t : Bool) → (if t then true else some_again (before ++ word ∷ []) words) ≡ false
        → (some_again (before ++ word ∷ []) words ≡ false → some_again (before ++ word ∷ []) (words ++ others) ≡ some_again ((before ++ word ∷ []) ++ words) others)
        → (if t then true else some_again (before ++ word ∷ []) (words ++ others)) ≡ some_again (before ++ word ∷ words) others
    by_cases true f more = absurd (false≢true (sym f))
    by_cases false f more = more f ∙ ap (λ t. some_again t others) (append_assoc before (word ∷ []) words)

pub again_longer : (before words others : List Word) → some_again before words ≡ true → some_again before (words ++ others) ≡ true
again_longer before [] others e = absurd (false≢true e)
again_longer before (word ∷ words) others e = by_cases (is_among before word) e (again_longer (before ++ word ∷ []) words others)
  where
    by_cases : (t : Bool) → (if t then true else some_again (before ++ word ∷ []) words) ≡ true → (some_again (before ++ word ∷ []) words ≡ true → some_again (before ++ word ∷ []) (words ++ others) ≡ true)
        → (if t then true else some_again (before ++ word ∷ []) (words ++ others)) ≡ true
    by_cases true f more = refl
    by_cases false f more = more f

-- fewer words before
pub again_fewer : (fewer more : List Word) → ((w : Word) → is_among more w ≡ false → is_among fewer w ≡ false) → (words : List Word) → some_again more words ≡ false → some_again fewer words ≡ false
again_fewer fewer more within [] e = refl
again_fewer fewer more within (word ∷ words) e = by_cases (is_among more word) refl e (again_fewer (fewer ++ word ∷ []) (more ++ word ∷ []) next words)
  where
    next : (w : Word) → is_among (more ++ word ∷ []) w ≡ false → is_among (fewer ++ word ∷ []) w ≡ false
    next w f = list_any-append (bytes_eq w) fewer (word ∷ []) ∙ by_tests (is_among more w) refl (is_among (word ∷ []) w) refl (sym (list_any-append (bytes_eq w) more (word ∷ [])) ∙ f)
      where
        by_tests : (s : Bool) → is_among more w ≡ s → (t : Bool) → is_among (word ∷ []) w ≡ t → (s || t) ≡ false → (is_among fewer w || t) ≡ false
        by_tests true g t h bad = absurd (false≢true (sym bad))
        by_tests false g true h bad = absurd (false≢true (sym bad))
        by_tests false g false h good = ap (λ b. b || false) (within w g)

    by_cases : (t : Bool) → is_among more word ≡ t → (if t then true else some_again (more ++ word ∷ []) words) ≡ false → (some_again (more ++ word ∷ []) words ≡ false → some_again (fewer ++ word ∷ []) words ≡ false)
        → (if is_among fewer word then true else some_again (fewer ++ word ∷ []) words) ≡ false
    by_cases true g f rest = absurd (false≢true (sym f))
    by_cases false g f rest = ap (λ b. if b then true else some_again (fewer ++ word ∷ []) words) (within word g) ∙ rest f

-- words that become signals

pub none_define : (names : List Word) (marks : List Bool) → Defines names marks [] [] names marks
none_define names marks = record {
  keeps = keeps_all names;
  numbers_are = tt;
  new = λ before signals a. refl;
  after = λ before signals a. subst (λ ns. AreSignals names marks ns (signals ++ [])) (sym (nothing_more before)) (subst (AreSignals names marks before) (sym (nothing_more signals)) a);
}

signal_there : (names names' : List Word) (marks : List Bool) (word : Word) (number : ℕ) → Keeps names names' → slice_get names' number ≡ Some word
    → (before : List ℕ) (signals : List Word) → AreSignals names marks before signals → is_among signals word ≡ is_marked marks number
signal_there names names' marks word number keeps at before signals a =
    among (names' ∷ []) 0 (apart_in (names' ∷ []) 0 (keeps.one a.one_number)) before signals (numbers_kept names names' keeps before signals a.numbers_are) number word
    (slice_get_within names' number word at, get_or_from_slice_get names' number word [] at)
    ∙ sym (a.marked number)

pub one_defines : (names names' : List Word) (marks marks' : List Bool) (word : Word) (number : ℕ) → names' ≡ with_word names word → slice_get names' number ≡ Some word → is_marked marks number ≡ false
    → ((n : ℕ) → is_marked marks' n ≡ (is_marked marks n || number == n)) → Defines names marks (word ∷ []) (number ∷ []) names' marks'
one_defines names names' marks marks' word number e at free marked =
    let keeps : Keeps names names' = keeps_more names names names' word (keeps_all names) e in
    let is : IsNumberOf (names' ∷ []) 0 number word = (slice_get_within names' number word at, get_or_from_slice_get names' number word [] at) in
    record {
      keeps = keeps;
      numbers_are = (is, tt);
      new = λ before signals a. ap (λ b. if b then true else false) (signal_there names names' marks word number keeps at before signals a ∙ free);
      after = λ before signals a. record {
        one_number = keeps.one a.one_number;
        numbers_are = append_numbers names' before signals (numbers_kept names names' keeps before signals a.numbers_are) (number ∷ []) (word ∷ []) (is, tt);
        marked = λ n. marked n ∙ by_cases (number == n) (is_marked marks n) ∙ ap (λ b. b || (number == n || false)) (a.marked n) ∙ sym (list_any-append (λ k. k == n) before (number ∷ []));
      };
    }
  where
    by_cases : (t b : Bool) → (b || t) ≡ (b || (t || false))
    by_cases true b = refl
    by_cases false b = refl

pub both_define : (names mid new : List Word) (marks marks1 marks2 : List Bool) (words others : List Word) (ns ks : List ℕ) → Defines names marks words ns mid marks1 → Defines mid marks1 others ks new marks2
    → Defines names marks (words ++ others) (ns ++ ks) new marks2
both_define names mid new marks marks1 marks2 words others ns ks a b = record {
  keeps = keeps_both names mid new a.keeps b.keeps;
  numbers_are = append_numbers new ns words (numbers_kept mid new b.keeps ns words a.numbers_are) ks others b.numbers_are;
  new = λ before signals s. again_both signals words others (a.new before signals s) ∙ b.new (before ++ ns) (signals ++ words) (a.after before signals s);
  after = λ before signals s.
      subst (λ t. AreSignals new marks2 t (signals ++ (words ++ others))) (append_assoc before ns ks)
      (subst (λ t. AreSignals new marks2 ((before ++ ns) ++ ks) t) (append_assoc signals words others) (b.after (before ++ ns) (signals ++ words) (a.after before signals s)));
}

-- and words of which one does not

pub one_stops : (names names' : List Word) (marks : List Bool) (word : Word) (number : ℕ) → names' ≡ with_word names word → slice_get names' number ≡ Some word → is_marked marks number ≡ true
    → DefineStop names marks (word ∷ []) (stops.Refused refusals.Twice)
one_stops names names' marks word number e at taken =
    (refl, λ before signals a. ap (λ b. if b then true else false) (signal_there names names' marks word number (keeps_more names names names' word (keeps_all names) e) at before signals a ∙ taken))

pub later_stops : (names mid : List Word) (marks marks1 : List Bool) (words others rest : List Word) (ns : List ℕ) (stop : LineStop) → Defines names marks words ns mid marks1 → DefineStop mid marks1 others stop
    → DefineStop names marks (words ++ (others ++ rest)) stop
later_stops names mid marks marks1 words others rest ns stops.Memory a b = tt
later_stops names mid marks marks1 words others rest ns (stops.Refused refusal) a b =
    (b.0, λ before signals s. again_both signals words (others ++ rest) (a.new before signals s) ∙ again_longer (signals ++ words) others rest (b.1 (before ++ ns) (signals ++ words) (a.after before signals s)))
