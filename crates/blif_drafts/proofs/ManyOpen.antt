-- Several models whose lines are read.
use Rattle.std.proofs.Common.{◌≡◌, ℕ, suc, List, [], ◌∷◌, ◌++◌, Option, None, sym, subst}
use Rattle.std.specs.Global.{Vec}
use Rattle.job_words.specs.Text.{Word}
use Rattle.blif_models.specs.Models.{Model}
use Rattle.blif_formals.specs.declared.titles.Heading.{Heading}
use Rattle.blif_formals.specs.Actuals.{Keeps}
use Rattle.blif_formals.specs.Titles.{IsTitleOf}
use Rattle.blif_formals.specs.Words.{HaveOneNumber}
use Rattle.blif_drafts.specs.declared.drafts.Draft.{Draft}
use Rattle.blif_drafts.specs.declared.open_draft.OpenDraft.{OpenDraft}
use Rattle.blif_drafts.specs.declared.open_models.OpenModels.{OpenModels}
use Rattle.blif_drafts.specs.declared.stops.LineStop.{LineStop}
use Rattle.blif_drafts.specs.declared.stops.Refusal.{Refusal}
use Rattle.blif_drafts.specs.Drafts.{AreDrafts, AreDraftsOf}
use Rattle.blif_drafts.specs.Lasting.{AreBelow}
use Rattle.blif_drafts.specs.OpenDrafts.{Begins, Holds, IsOpenOf, Stops, Takes, bare_model, instance_at}
use Rattle.blif_drafts.specs.OpenModels.{AreOpen, BeginsFurther, BeginsMain, HoldsLine, StopsLine, TakesLine}
use Rattle.blif_drafts.proofs.GoingOn.{lines_go_on, one_draft_more}
use Rattle.blif_drafts.proofs.Lasting.{draft_kept, drafts_kept}

no_words : HaveOneNumber []
no_words i j word at there = cc

pub none_open : (one : OpenModels) (heading : Heading) → one.titles ≡ [] → one.closed.items ≡ [] → heading.line ≡ 0 → heading.title ≡ None → Begins heading one.current → AreOpen 1 [] (bare_model 0 None) one
none_open one heading e f g h begins = record {
  one_number = subst HaveOneNumber (sym e) no_words;
  closed = subst (AreDrafts one.titles []) (sym f) tt;
  current = subst (λ n. IsOpenOf one.titles (bare_model n None) one.current) g (begins one.titles None (subst (IsTitleOf one.titles None) (sym h) tt));
  below = lines_go_on.begun 0 None [] (lines_go_on.none 0);
}

-- a model that begins

begun_at : (titles : List Word) (heading : Heading) (current : OpenDraft) (line : ℕ) (name : Option Word) → heading.line ≡ line → IsTitleOf titles name heading.title → Begins heading current → IsOpenOf titles (bare_model line name) current
begun_at titles heading current line name e t begins = subst (λ n. IsOpenOf titles (bare_model n name) current) e (begins titles name t)

pub main_begun : (old : OpenModels) (titles' : List Word) (heading : Heading) (current' : OpenDraft) (line : ℕ) (name : Option Word) → Keeps old.titles titles' → heading.line ≡ line → IsTitleOf titles' name heading.title → Begins heading current'
    → BeginsMain old line name (record { titles = titles'; closed = old.closed; current = current' })
main_begun old titles' heading current' line name k e t begins = λ n model is. record {
  one_number = k.one is.one_number;
  closed = drafts_kept old.titles titles' k [] old.closed.items is.closed;
  current = begun_at titles' heading current' line name e t begins;
  below = lines_go_on.begun line name [] (lines_go_on.none line);
}

pub further_begun : (old : OpenModels) (titles' : List Word) (heading : Heading) (closed' : Vec Draft) (current' : OpenDraft) (line : ℕ) (name : Option Word) → Keeps old.titles titles' → heading.line ≡ line → IsTitleOf titles' name heading.title → Begins heading current'
    → closed'.items ≡ old.closed.items ++ old.current.draft ∷ [] → BeginsFurther old line name (record { titles = titles'; closed = closed'; current = current' })
further_begun old titles' heading closed' current' line name k e t begins f = λ before model is. record {
  one_number = k.one is.one_number;
  closed =
      subst (AreDrafts titles' (before ++ model ∷ [])) (sym f)
      (one_draft_more titles' before model old.closed.items old.current.draft (drafts_kept old.titles titles' k before old.closed.items is.closed) (draft_kept old.titles titles' k model old.current.draft is.current.draft_of));
  current = begun_at titles' heading current' line name e t begins;
  below = lines_go_on.begun line name (before ++ model ∷ []) is.below;
}

-- a line more in the model that goes on

pub taken : (old : OpenModels) (current' : OpenDraft) (line : ℕ) (refused : Model → Option Refusal) (more : Model → Model)
    → ((before : List Model) (model : Model) → AreBelow line (before ++ model ∷ []) → AreBelow (suc line) (before ++ more model ∷ []))
    → Takes old.current refused more current' → TakesLine old line refused more (record { titles = old.titles; closed = old.closed; current = current' })
taken old current' line refused more rise takes = record {
  faultless = λ before model is. takes.faultless old.titles model is.current;
  after = λ before model is. record { one_number = is.one_number; closed = is.closed; current = takes.after old.titles model is.current; below = rise before model is.below };
}

pub stopped : (old : OpenModels) (refused : Model → Option Refusal) (stop : LineStop) → Stops old.current refused stop → StopsLine old refused stop
stopped old refused stop stops = λ line before model is. stops old.titles model is.current

pub held_more : (old : OpenModels) (titles' : List Word) (current' : OpenDraft) (line : ℕ) (words : List Word) → Holds old.titles old.current line words titles' current'
    → HoldsLine old line words (record { titles = titles'; closed = old.closed; current = current' })
held_more old titles' current' line words holds = λ before model is. record {
  one_number = holds.keeps.one is.one_number;
  closed = drafts_kept old.titles titles' holds.keeps before old.closed.items is.closed;
  current = holds.after model is.current;
  below = lines_go_on.item (instance_at line words) before model is.below;
}

-- all models

pub all_drafts : (one : OpenModels) (line : ℕ) (before : List Model) (model : Model) (closed' : List Draft) → closed' ≡ one.closed.items ++ one.current.draft ∷ [] → AreOpen line before model one → AreDraftsOf one.titles (before ++ model ∷ []) closed'
all_drafts one line before model closed' e is = record {
  one_number = is.one_number;
  drafts_are = subst (AreDrafts one.titles (before ++ model ∷ [])) (sym e) (one_draft_more one.titles before model one.closed.items one.current.draft is.closed is.current.draft_of);
  rising = is.below.rising;
}
