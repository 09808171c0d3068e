use Rattle.std.proofs.Common.{◌≡◌, ◌<◌, List, [], Option, None, Some, ℕ, get_or, length, subst, sym, ◌∙◌}
use Rattle.std.proofs.lemmas.List.{get_or_default}
use Rattle.std.proofs.lemmas.Option.{slice_get-get_or}
use Rattle.std.proofs.lemmas.Result.{IfOk-weaker}
use Rattle.job_words.specs.Text.{Word}
use Rattle.blif_formals.specs.declared.formals.Callees.{Callees}
use Rattle.blif_formals.specs.Calls.{model_by}
use Rattle.blif_formals.specs.Formals.{AreCallees, IsToldBy, IsToldOf, words_in}
use Rattle.blif_formals.specs.Parting.{IsMisjoined}
use Rattle.blif_formals.proofs.formals.joins_wrongly.Goals as goal

within : (callees : Callees) → AreCallees callees → (title : Option ℕ) (m : ℕ) → model_by callees.titles.now title ≡ Some m → m < length callees.names.now
within callees h None m e = cc
within callees h (Some n) m e = h.models n m e

pub returns-in-Some : goal.returns-in-Some
returns-in-Some c =
    let callees = c.args.callees.now in
    let m = c.in-Some.model in
    let words = words_in c.args.words.now in
    let model : model_by callees.titles.now c.args.title ≡ Some m = sym c.model_by.ensures ∙ c.in-Some.is in
    let low = within callees c.requires.callees c.args.title m model in
    let interface = get_or callees.interfaces.now m c.index-callees-place-in-Some.result in
    let names = get_or callees.names.now m c.index-callees-place.result in
    IfOk-weaker c.is_misjoined.result (IsMisjoined names interface words) (IsToldOf callees c.args.title c.args.words.now)
    (λ told is. subst (λ o. IsToldBy callees o words told) (sym model) (
      interface,
      slice_get-get_or callees.interfaces.now m c.index-callees-place-in-Some.result (subst (λ n. m < n) (sym c.requires.callees.as_many) low),
      subst (λ (own : List Word). IsMisjoined own interface words told) (get_or_default callees.names.now m c.index-callees-place.result [] low) is,
    )) c.is_misjoined.ensures
