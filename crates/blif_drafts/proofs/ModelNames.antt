-- Which names open models have.
use Rattle.std.proofs.Common.{◌≡◌, ℕ, zero, suc, List, [], ◌∷◌, ◌++◌, Bool, true, map, refl, sym, subst}
use Rattle.std.specs.Prelude.{All}
use Rattle.std.specs.Global.{Vec}
use Rattle.std.specs.List.{list_all}
use Rattle.std.proofs.lemmas.List.Elements.{All-append, All-cons, All-map, All-nil}
use Rattle.job_words.specs.Text.{Word}
use Rattle.blif_models.specs.Models.{Model}
use Rattle.blif_models.specs.Numberings.{words_at}
use Rattle.blif_formals.specs.Words.{AddsOnly, HaveOneNumber}
use Rattle.blif_drafts.specs.declared.drafts.Draft.{Draft}
use Rattle.blif_drafts.specs.declared.open_draft.OpenDraft.{OpenDraft}
use Rattle.blif_drafts.specs.declared.open_models.OpenModels.{OpenModels}
use Rattle.blif_drafts.specs.Drafts.{AreDrafts}
use Rattle.blif_drafts.specs.OpenModels.{AddNames, NamesPass}

abbrev Passes : (Word → Bool) → Draft → Type 0
Passes p draft = list_all p draft.names ≡ true

-- a draft without names behind others
pub none_pass : (p : Word → Bool) (titles : List Word) (closed : Vec Draft) (current : OpenDraft) → All (Passes p) closed.items → current.draft.names ≡ [] → NamesPass p (record { titles = titles; closed = closed; current = current })
none_pass p titles closed current h e = (h, subst (λ (ws : List Word). list_all p ws ≡ true) (sym e) refl)

all_pass : (p : Word → Bool) (one : OpenModels) → NamesPass p one → All (Passes p) (one.closed.items ++ one.current.draft ∷ [])
all_pass p one h = All-append (Passes p) one.closed.items (one.current.draft ∷ []) h.0 (All-cons (Passes p) one.current.draft [] h.1 (All-nil (Passes p)))

pub new_names : (titles : List Word) (closed : Vec Draft) (current : OpenDraft) → closed.items ≡ [] → current.draft.names ≡ [] → (p : Word → Bool) → NamesPass p (record { titles = titles; closed = closed; current = current })
new_names titles closed current e f p = none_pass p titles closed current (subst (All (Passes p)) (sym e) (All-nil (Passes p))) f

pub main_names : (old : OpenModels) (titles : List Word) (current : OpenDraft) → current.draft.names ≡ [] → AddNames old [] (record { titles = titles; closed = old.closed; current = current })
main_names old titles current e p k h = none_pass p titles old.closed current h.0 e

pub further_names : (old : OpenModels) (titles : List Word) (closed : Vec Draft) (current : OpenDraft) → closed.items ≡ old.closed.items ++ old.current.draft ∷ [] → current.draft.names ≡ []
    → AddNames old [] (record { titles = titles; closed = closed; current = current })
further_names old titles closed current e f p k h = none_pass p titles closed current (subst (All (Passes p)) (sym e) (all_pass p old h)) f

-- a line more in the model that goes on
pub line_names : (old : OpenModels) (titles words : List Word) (current : OpenDraft) → AddsOnly old.current.draft.names words current.draft.names → AddNames old words (record { titles = titles; closed = old.closed; current = current })
line_names old titles words current a p k h = (h.0, a p h.1 k)

-- of all drafts

pub judged_names : (one : OpenModels) (drafts : List Draft) (names : List (List Word)) → drafts ≡ one.closed.items ++ one.current.draft ∷ [] → names ≡ map (λ draft. draft.names) drafts
    → (p : Word → Bool) → NamesPass p one → All (λ (ws : List Word). list_all p ws ≡ true) names
judged_names one drafts names e f p h =
    subst (All (λ (ws : List Word). list_all p ws ≡ true)) (sym f) (All-map (λ (ws : List Word). list_all p ws ≡ true) (λ (draft : Draft). draft.names) drafts (subst (All (Passes p)) (sym e) (all_pass p one h)))

pub one_number_each : (titles : List Word) (models : List Model) (drafts : List Draft) → AreDrafts titles models drafts → (m : ℕ) → HaveOneNumber (words_at (map (λ draft. draft.names) drafts) m)
one_number_each titles [] [] a m = λ i j word at there. cc
one_number_each titles [] (draft ∷ drafts) a m = absurd a
one_number_each titles (model ∷ models) [] a m = absurd a
one_number_each titles (model ∷ models) (draft ∷ drafts) a zero = a.0.one_number
one_number_each titles (model ∷ models) (draft ∷ drafts) a (suc m) = one_number_each titles models drafts a.1 m
