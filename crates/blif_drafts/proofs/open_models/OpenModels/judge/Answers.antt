use Rattle.std.proofs.Common.{◌≡◌, ℕ, Bool, List, true, ◌++◌, ◌∷◌, [], map, subst, sym}
use Rattle.std.specs.Prelude.{All}
use Rattle.std.specs.List.{list_all}
use Rattle.std.proofs.lemmas.Result.{IfOk-weaker}
use Rattle.job_words.specs.Text.{Word}
use Rattle.blif_models.specs.Models.{Model}
use Rattle.blif_models.specs.Numberings.{words_at}
use Rattle.blif_formals.specs.Words.{HaveOneNumber}
use Rattle.blif_drafts.specs.declared.verdicts.Judged.{Judged}
use Rattle.blif_drafts.specs.OpenModels.{AreOpen, IsToldOfOpen, NamesPass}
use Rattle.blif_drafts.specs.Verdicts.{IsJudgedOf}
use Rattle.blif_drafts.proofs.ManyOpen.{all_drafts}
use Rattle.blif_drafts.proofs.ModelNames.{judged_names, one_number_each}
use Rattle.blif_drafts.proofs.open_models.OpenModels.judge.Goals as goal

pub judge-requires-clause-drafts : goal.judge-requires-clause-drafts
judge-requires-clause-drafts c =
    let some = c.requires.1 in
    (some.before ++ some.model ∷ [], all_drafts c.args.self c.requires.0 some.before some.model c.push.new.self.items c.in_ok-push.ensures.items some.are)

pub returns-clause-told : goal.returns-clause-told
returns-clause-told c =
    IfOk-weaker c.judge.result (IsJudgedOf c.args.self.titles c.push.new.self.items) (IsToldOfOpen c.args.self)
    (λ judged is line before model are main at. is (before ++ model ∷ []) main (all_drafts c.args.self line before model c.push.new.self.items c.in_ok-push.ensures.items are) at) c.judge.ensures.judged

pub returns-clause-names : goal.returns-clause-names
returns-clause-names c =
    IfOk-weaker c.judge.result (λ (judged : Judged). judged.names.items ≡ map (λ draft. draft.names) c.push.new.self.items)
    (λ (judged : Judged). (p : Word → Bool) → NamesPass p c.args.self → All (λ (names : List Word). list_all p names ≡ true) judged.names.items)
    (λ judged same. judged_names c.args.self c.push.new.self.items judged.names.items c.in_ok-push.ensures.items same) c.judge.ensures.names

pub returns-clause-one_number : goal.returns-clause-one_number
returns-clause-one_number c =
    let drafts = c.push.new.self.items in
    IfOk-weaker c.judge.result (λ (judged : Judged). judged.names.items ≡ map (λ draft. draft.names) drafts)
    (λ (judged : Judged). (line : ℕ) (before : List Model) (model : Model) → AreOpen line before model c.args.self → (m : ℕ) → HaveOneNumber (words_at judged.names.items m))
    (λ judged same line before model are m.
    subst (λ (all : List (List Word)). HaveOneNumber (words_at all m)) (sym same)
    (one_number_each c.args.self.titles (before ++ model ∷ []) drafts (all_drafts c.args.self line before model drafts c.in_ok-push.ensures.items are).drafts_are m))
    c.judge.ensures.names
