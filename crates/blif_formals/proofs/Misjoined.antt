-- The first line of an instance that joins formal names wrongly, in the models that a main one reaches.
use Rattle.std.proofs.Common.{◌≡◌, ℕ, zero, suc, ◌<◌, Bool, true, false, Bor, cond, List, [], ◌∷◌, ◌++◌, Option, Some, None, drop, filter, get_or, length, map, refl, ap, sym, ◌∙◌, subst, if◌then◌else◌}
use Rattle.std.specs.Prelude.{slice_get}
use Rattle.std.proofs.lemmas.List.{get_or-map, length-map}
use Rattle.job_words.specs.Text.{Word}
use Rattle.blif_models.specs.ModelFaults.{instances_in, is_misjoined, least, lesser}
use Rattle.blif_models.specs.Models.{Instance, Model, called_by, model_of}
use Rattle.blif_formals.specs.declared.calls.Call.{Call}
use Rattle.blif_formals.specs.declared.formals.Callees.{Callees}
use Rattle.blif_formals.specs.declared.titles.Heading.{Heading}
use Rattle.blif_formals.specs.ByNames.{IsInterfaceOf}
use Rattle.blif_formals.specs.Calls.{AreAllCallsOf, AreCallsOf, AreNamed, held_by, model_by}
use Rattle.blif_formals.specs.Clashes.{least_of}
use Rattle.blif_formals.specs.Definitions.{AreInterfacesOf}
use Rattle.blif_formals.specs.Formals.{AreAllWordsOf, AreLinesOf, AreMisjoined, AreWordsOf, IsFormalLine, IsLineOf, IsToldBy, IsToldOf, words_in}
use Rattle.blif_formals.specs.Reached.{lines_met}
use Rattle.blif_formals.specs.Titles.{IsTitleOf, got_model}
use Rattle.blif_formals.proofs.Calling.{as_many, found_by, held_graph, there}
use Rattle.blif_formals.proofs.Clashing.{least_both, turned}
use Rattle.blif_formals.proofs.ReachedLines.{reached_lines_agree}

-- one instance more

abbrev line_if : Bool → ℕ → List ℕ
line_if told line = if told then line ∷ [] else []

pub one_told : (callees : Callees) (calls : List Call) (joined : List (List (Bor (List ℕ)))) (lines : List ℕ) → AreMisjoined callees calls joined lines → (call : Call) (words : List (Bor (List ℕ))) (told : Bool) → IsToldOf callees call.title words told
    → AreMisjoined callees (calls ++ call ∷ []) (joined ++ words ∷ []) (lines ++ line_if told call.line)
one_told callees [] [] lines a call words told t = (told, [], t, ap (λ ls. ls ++ line_if told call.line) a, refl)
one_told callees [] (w ∷ joined) lines a call words told t = absurd a
one_told callees (k ∷ calls) [] lines a call words told t = absurd a
one_told callees (k ∷ calls) (w ∷ joined) lines a call words told t =
    (a.0, a.1 ++ line_if told call.line, a.2, ap (λ ls. ls ++ line_if told call.line) a.3 ∙ behind a.0, one_told callees calls joined a.1 a.4 call words told t)
  where
    behind : (b : Bool) → (if b then k.line ∷ a.1 else a.1) ++ line_if told call.line ≡ (if b then k.line ∷ (a.1 ++ line_if told call.line) else a.1 ++ line_if told call.line)
    behind true = refl
    behind false = refl

pub least_more : (lines : List ℕ) (told : Bool) (line : ℕ) → least (lines ++ line_if told line) ≡ (if told then Some (lesser line (least lines)) else least lines)
least_more lines told line = least_both lines (line_if told line) ∙ by_cases told
  where
    by_cases : (t : Bool) → least_of (least lines) (least (line_if t line)) ≡ (if t then Some (lesser line (least lines)) else least lines)
    by_cases true = turned (least lines) (Some line)
    by_cases false = turned (least lines) None

-- one model more
pub one_line : (callees : Callees) (calls : List (List Call)) (joined : List (List (List (Bor (List ℕ))))) (lines : List (Option ℕ)) → AreLinesOf callees calls joined lines → (ones : List Call) (words : List (List (Bor (List ℕ)))) (line : Option ℕ)
    → IsLineOf callees ones words line → AreLinesOf callees (calls ++ ones ∷ []) (joined ++ words ∷ []) (lines ++ line ∷ [])
one_line callees [] [] [] a ones words line is = (is, tt)
one_line callees [] (ws ∷ joined) lines a ones words line is = absurd a
one_line callees [] [] (l ∷ lines) a ones words line is = absurd a
one_line callees (os ∷ calls) [] lines a ones words line is = absurd a
one_line callees (os ∷ calls) (ws ∷ joined) [] a ones words line is = absurd a
one_line callees (os ∷ calls) (ws ∷ joined) (l ∷ lines) a ones words line is = (a.0, one_line callees calls joined lines a.1 ones words line is)

pub as_many_lines : (callees : Callees) (calls : List (List Call)) (joined : List (List (List (Bor (List ℕ))))) (lines : List (Option ℕ)) → AreLinesOf callees calls joined lines → length lines ≡ length calls
as_many_lines callees [] [] [] a = refl
as_many_lines callees [] (ws ∷ joined) lines a = absurd a
as_many_lines callees [] [] (l ∷ lines) a = absurd a
as_many_lines callees (os ∷ calls) [] lines a = absurd a
as_many_lines callees (os ∷ calls) (ws ∷ joined) [] a = absurd a
as_many_lines callees (os ∷ calls) (ws ∷ joined) (l ∷ lines) a = ap suc (as_many_lines callees calls joined lines a.1)

-- by name

module _ (callees : Callees) (words : List Word) (models : List Model) (headings : List Heading) (calls : List (List Call)) (named : AreNamed words models headings callees.titles.now calls)
    (have : AreInterfacesOf models (λ m. true) callees.names.now callees.interfaces.now) where
  told_is : (instance : Instance) (title : Option ℕ) (joins : List (Bor (List ℕ))) (told : Bool) → IsTitleOf words (called_by instance) title → drop 1 instance.words ≡ words_in joins → IsToldOf callees title joins told
      → is_misjoined (model_of models instance) instance ≡ told
  told_is instance title joins told is behind t =
      ap (λ o. is_misjoined o instance) (found_by words models headings callees.titles.now calls named (called_by instance) title is) ∙ by_cases (model_by callees.titles.now title) refl t
    where
      by_cases : (o : Option ℕ) → model_by callees.titles.now title ≡ o → IsToldBy callees o (words_in joins) told → is_misjoined (got_model models o) instance ≡ told
      by_cases None e none = sym none
      by_cases (Some m) e some =
          let x = there words models headings callees.titles.now calls named title m e in
          let face = have m x.0 refl x.1 in
          let both : Some face.0 ≡ Some some.0 = sym face.1 ∙ some.1 in
          let same : face.0 ≡ some.0 = cc in
          ap (λ o. is_misjoined o instance) x.1 ∙ some.2 callees.names.now m x.0 instance refl (subst (IsInterfaceOf callees.names.now m x.0) same face.3) behind

  same_lines : (instances : List Instance) (ones : List Call) (joined : List (List (Bor (List ℕ)))) (lines : List ℕ) → AreCallsOf words instances ones → AreWordsOf instances joined → AreMisjoined callees ones joined lines
      → map (λ instance. instance.line) (filter (λ instance. is_misjoined (model_of models instance) instance) instances) ≡ lines
  same_lines [] [] [] lines a b c = sym c
  same_lines [] [] (ws ∷ joined) lines a b c = absurd b
  same_lines [] (call ∷ ones) joined lines a b c = absurd a
  same_lines (instance ∷ instances) [] joined lines a b c = absurd a
  same_lines (instance ∷ instances) (call ∷ ones) [] lines a b c = absurd b
  same_lines (instance ∷ instances) (call ∷ ones) (ws ∷ joined) lines a b c =
      let others = filter (λ (k : Instance). is_misjoined (model_of models k) k) instances in
      ap (λ t. map (λ (k : Instance). k.line) (cond t (instance ∷ others) others)) (told_is instance call.title ws c.0 a.1 b.0 c.2)
      ∙ by_cases c.0 (same_lines instances ones joined c.1 a.2 b.1 c.4) ∙ sym c.3
    where
      by_cases : (t : Bool) → map (λ (k : Instance). k.line) (filter (λ k. is_misjoined (model_of models k) k) instances) ≡ c.1
          → map (λ (k : Instance). k.line) (cond t (instance ∷ filter (λ k. is_misjoined (model_of models k) k) instances) (filter (λ k. is_misjoined (model_of models k) k) instances)) ≡ (if t then call.line ∷ c.1 else c.1)
      by_cases true more = λ j. sym a.0 j ∷ more j
      by_cases false more = more

  told : Model → List ℕ
  told model = map (λ instance. instance.line) (filter (λ instance. is_misjoined (model_of models instance) instance) (instances_in model.items))

  told_at : (ms : List Model) (cs : List (List Call)) (joined : List (List (List (Bor (List ℕ))))) (lines : List (Option ℕ)) → AreAllCallsOf words ms cs → AreAllWordsOf ms joined → AreLinesOf callees cs joined lines
      → (m : ℕ) (model : Model) → slice_get ms m ≡ Some model → get_or lines m None ≡ least (told model)
  unfolding told
  told_at [] cs joined lines a b c m model at = cc
  told_at (x ∷ ms) [] joined lines a b c m model at = absurd a
  told_at (x ∷ ms) (ones ∷ cs) [] lines a b c m model at = absurd b
  told_at (x ∷ ms) (ones ∷ cs) (ws ∷ joined) [] a b c m model at = absurd c
  told_at (x ∷ ms) (ones ∷ cs) (ws ∷ joined) (line ∷ lines) a b c zero model at =
      let same : x ≡ model = cc in
      (c.0).2 ∙ ap least (sym (same_lines (instances_in x.items) ones ws (c.0).0 a.0 b.0 (c.0).1))
      ∙ ap (λ (y : Model). least (map (λ (k : Instance). k.line) (filter (λ k. is_misjoined (model_of models k) k) (instances_in y.items)))) same
  told_at (x ∷ ms) (ones ∷ cs) (ws ∷ joined) (line ∷ lines) a b c (suc m) model at = told_at ms cs joined lines a.1 b.1 c.1 m model at

pub formal_told : (callees : Callees) (calls : List (List Call)) (joined : List (List (List (Bor (List ℕ))))) (met : List Bool) (lines : List (Option ℕ)) (line : Option ℕ) → AreLinesOf callees calls joined lines → line ≡ least (lines_met met lines)
    → IsFormalLine callees calls joined met line
unfolding told
formal_told callees calls joined met lines line are is words models headings main named words_are have apart at reached =
    let titles = callees.titles.now in
    sym (reached_lines_agree models (map (held_by titles) calls) met lines (told callees words models headings calls named have) 0 main (held_graph words models headings titles calls named) apart
    (as_many words models headings titles calls named models calls named.calls_are) at reached
    (λ m one found is_met. told_at callees words models headings calls named have models calls joined lines named.calls_are words_are are m one found)) ∙ sym is

-- as many words of instances as instances, in each model

pub as_many_models : {X Y : Type 0} (xs : List (List X)) (ys : List (List Y)) → map (λ ones. length ones) xs ≡ map (λ ones. length ones) ys → length xs ≡ length ys
as_many_models xs ys e = sym (length-map xs (λ ones. length ones)) ∙ ap length e ∙ length-map ys (λ ones. length ones)

pub as_many_in : {X Y : Type 0} (xs : List (List X)) (ys : List (List Y)) → map (λ ones. length ones) xs ≡ map (λ ones. length ones) ys → (m : ℕ) (d : List X) (e : List Y) → m < length ys → length (get_or xs m d) ≡ length (get_or ys m e)
as_many_in {X} {Y} xs ys same m d e lt =
    sym (get_or-map (λ (ones : List X). length ones) xs m d 0 (subst (λ k. m < k) (sym (as_many_models xs ys same)) lt)) ∙ ap (λ ns. get_or ns m 0) same ∙ get_or-map (λ (ones : List Y). length ones) ys m e 0 lt
