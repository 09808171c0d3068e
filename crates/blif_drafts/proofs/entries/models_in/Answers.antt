use Rattle.std.proofs.Common.{rules, ◌≡◌, ◌++◌, ◌∷◌, ◌<◌, [], List, ℕ, true, false, get_or, length, length-append, ap, sym, ◌∙◌, subst, append_assoc, arith}
use Rattle.std.proofs.lemmas.List.{get_or_default}
use Rattle.std.specs.Vec.Iter.{into_iter_items}
use Rattle.blif_models.specs.declared.numbered.NumberedModel.{NumberedModel}
use Rattle.blif_models.specs.Graphs.{is_met}
use Rattle.blif_models.specs.Layouts.{model_at}
use Rattle.blif_models.specs.Numberings.{words_at}
use Rattle.blif_drafts.specs.declared.drafts.DraftItem.{DraftItem}
use Rattle.blif_drafts.specs.Entries.{AreEntriesBy}
use Rattle.blif_drafts.proofs.Known.{one_more, seam}
use Rattle.blif_drafts.proofs.entries.models_in.Goals as goal

pub loop-own-preserved : goal.loop-own-preserved
loop-own-preserved c =
    let callees = c.args.callees.now in
    let calls = c.args.calls.now in
    let joined = c.args.joined.now in
    let met = c.args.met.now in
    let items = c.args.items.items in
    let front = c.loop-own.yielded in
    let own = c.in-Some.own in
    let rest = into_iter_items c.next.new.self in
    let models = c.loop-own.models.items in
    let one = c.in_ok-model_in.field-0 in
    let m = c.len-m.result in
    let inv = c.loop-own.invariant in
    let steps = c.in-Some.ensures.steps in
    let all : items ≡ front ++ own ∷ rest = inv.0 ∙ ap (λ (xs : List (List DraftItem)). front ++ xs) steps.0 in
    let place : m ≡ length models = search rules in
    let many = inv.2 in
    let seen = ap length all in
    let parts = length-append front (own ∷ rest) in
    let low : m < length items = omega (arith, place, many, seen, parts) in
    let so_many_calls = c.requires.calls in
    let so_many_joined = c.requires.joined in
    let so_many_names = c.requires.names in
    let ones : c.as_slice-ones.result.now ≡ get_or calls m [] = c.as_slice-ones.ensures ∙ c.index-calls-m.is ∙ get_or_default calls m c.index-calls-m.result [] (omega (arith, low, so_many_calls)) in
    let words : c.as_slice-words.result.now ≡ get_or joined m [] = c.as_slice-words.ensures ∙ c.index-joined-m.is ∙ get_or_default joined m c.index-joined-m.result [] (omega (arith, low, so_many_joined)) in
    let names : get_or callees.names.now m c.index-callees-m.result ≡ words_at callees.names.now m = get_or_default callees.names.now m c.index-callees-m.result [] (omega (arith, low, so_many_names)) in
    let here : own ≡ get_or items m [] = sym (ap (λ (xs : List (List DraftItem)). get_or xs m []) all ∙ seam front own rest [] m (omega (arith, place, many))) in
    let Q : ℕ → NumberedModel → Type 0 =
    λ k model. (model.names ≡ length (words_at callees.names.now k)) × (is_met met k ≡ true → AreEntriesBy callees (get_or calls k []) (get_or joined k []) 0 (get_or items k []) model.entries) × (is_met met k ≡ false → model.entries ≡ []) in
    let new : Q m one = (
      c.in_ok-model_in.ensures.names ∙ ap length names,
      λ e. subst (λ xs. AreEntriesBy callees (get_or calls m []) (get_or joined m []) 0 xs one.entries) here
          (subst (λ ws. AreEntriesBy callees (get_or calls m []) ws 0 own one.entries) words
          (subst (λ cs. AreEntriesBy callees cs c.as_slice-words.result.now 0 own one.entries) ones (c.in_ok-model_in.ensures.met e))),
      λ e. c.in_ok-model_in.ensures.unmet e,
    ) in
    let grown = c.in_ok-push.ensures.items in
    let each = one_more Q models one m place (λ k lt. (inv.3 k lt, inv.4 k lt, inv.5 k lt)) new in
    let each_now : (k : ℕ) → k < length c.push.new.self.items → Q k (model_at c.push.new.self.items k) = subst (λ (ms : List NumberedModel). (k : ℕ) → k < length ms → Q k (model_at ms k)) (sym {A = List NumberedModel} grown) each in (
      all ∙ sym (append_assoc front (own ∷ []) rest),
      (let a = inv.1 in let b = ap length steps.0 in let d = steps.1 in omega (arith, a, b, d)),
      (let a = ap length grown in let b = length-append models (one ∷ []) in let d = length-append front (own ∷ []) in omega (arith, a, b, d, many)),
      λ k lt. (each_now k lt).0,
      λ k lt. (each_now k lt).1,
      λ k lt. (each_now k lt).2,
    )
