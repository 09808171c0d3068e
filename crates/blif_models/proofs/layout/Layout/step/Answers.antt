use Rattle.std.proofs.Common.{arith, ap, sym, subst, ◌∙◌, ◌≡◌, ◌<◌, ◌++◌, ◌∷◌, [], List, None, Some, refl, ℕ}
use Rattle.std.specs.Prelude.{All, slice_get}
use Rattle.blif_models.specs.declared.numbered.Entry.TheVariants as entries
use Rattle.blif_models.specs.declared.numbered.Laid.{Laid}
use Rattle.blif_models.specs.declared.numbered.Laid.TheVariants as laid
use Rattle.blif_models.specs.Layouts.{counted, model_at, numbered_cover, numbered_latch}
use Rattle.blif_models.proofs.GoingOn.{at_next, entries_at, entry_is, goes_back, goes_cover, goes_latch, nothing_next, past_next}
use Rattle.blif_models.proofs.layout.Layout.step.Goals as goal

pub returns-in_default : goal.returns-in_default
returns-in_default c =
    let models = c.args.models.now in
    let frame = c.args.frame in
    let same : c.as_slice-entries.result.now ≡ (model_at models frame.model).entries = c.as_slice-entries.ensures ∙ entries_at models frame.model c.index-models-frame.result c.requires.frame.model c.index-models-frame.is in
    let none : slice_get (model_at models frame.model).entries frame.next ≡ None = past_next c.as_slice-entries.result.now (model_at models frame.model).entries frame.next c.in_default.ensures.lookup.0 same in
    goes_back models (counted c.args.copies.now c.args.signals.now) c.args.self.now c.args.self.now frame (nothing_next (model_at models frame.model).entries frame.next none) refl refl refl

pub enter-requires-clause-next : goal.enter-requires-clause-next
enter-requires-clause-next c =
    let models = c.args.models.now in
    let frame = c.args.frame in
    let same : c.as_slice-entries.result.now ≡ (model_at models frame.model).entries = c.as_slice-entries.ensures ∙ entries_at models frame.model c.index-models-frame.result c.requires.frame.model c.index-models-frame.is in
    at_next c.as_slice-entries.result.now (model_at models frame.model).entries frame.next c.in-Some.entry.now (entries.Instance c.in-Instance.instance) c.in-Some.ensures.lookup.0 c.in-Some.ensures.lookup.1 same c.in-Instance.is

pub returns-in_ok-lay-in-Cover : goal.returns-in_ok-lay-in-Cover
returns-in_ok-lay-in-Cover c =
    let models = c.args.models.now in
    let frame = c.args.frame in
    let table = frame.table.items in
    let cover = c.in-Cover.cover in
    let same : c.as_slice-entries.result.now ≡ (model_at models frame.model).entries = c.as_slice-entries.ensures ∙ entries_at models frame.model c.index-models-frame.result c.requires.frame.model c.index-models-frame.is in
    let at : slice_get (model_at models frame.model).entries frame.next ≡ Some (entries.Cover cover) = at_next c.as_slice-entries.result.now (model_at models frame.model).entries frame.next c.in-Some.entry.now (entries.Cover cover) c.in-Some.ensures.lookup.0 c.in-Some.ensures.lookup.1 same c.in-Cover.is in
    let is = entry_is models frame.model frame.next (entries.Cover cover) c.requires.numbered c.requires.frame.model at in
    goes_cover models (counted c.args.copies.now c.args.signals.now) c.args.self.now c.lay.new.self frame cover at
    (subst (λ n. All (λ k. k < n) cover.ins) (sym c.requires.frame.many) is.0) (omega (arith, is.1, c.requires.frame.many))
    (ap (λ v. v.items) c.in_ok-lay-in-Cover.ensures.spots) (c.in_ok-lay-in-Cover.ensures.laid ∙ ap (λ (one : Laid). c.args.self.now.laid.items ++ one ∷ []) (c.in_ok-laid-in-Cover.ensures ∙ ap (λ (ns : List ℕ). laid.Cover (numbered_cover ns cover) frame.model frame.next) c.deref.ensures.value)) c.in_ok-lay-in-Cover.ensures.stack

pub returns-in_ok-lay-in-Latch : goal.returns-in_ok-lay-in-Latch
returns-in_ok-lay-in-Latch c =
    let models = c.args.models.now in
    let frame = c.args.frame in
    let table = frame.table.items in
    let latch = c.in-Latch.latch in
    let same : c.as_slice-entries.result.now ≡ (model_at models frame.model).entries = c.as_slice-entries.ensures ∙ entries_at models frame.model c.index-models-frame.result c.requires.frame.model c.index-models-frame.is in
    let at : slice_get (model_at models frame.model).entries frame.next ≡ Some (entries.Latch latch) = at_next c.as_slice-entries.result.now (model_at models frame.model).entries frame.next c.in-Some.entry.now (entries.Latch latch) c.in-Some.ensures.lookup.0 c.in-Some.ensures.lookup.1 same c.in-Latch.is in
    let is = entry_is models frame.model frame.next (entries.Latch latch) c.requires.numbered c.requires.frame.model at in
    goes_latch models (counted c.args.copies.now c.args.signals.now) c.args.self.now c.lay-in-Latch.new.self frame latch at
    (omega (arith, is.0, c.requires.frame.many)) (omega (arith, is.1, c.requires.frame.many))
    (ap (λ v. v.items) c.in_ok-lay-in-Latch.ensures.spots) (c.in_ok-lay-in-Latch.ensures.laid ∙ ap (λ (one : Laid). c.args.self.now.laid.items ++ one ∷ []) (c.latch_of-laid.ensures ∙ ap (λ (ns : List ℕ). laid.Latch (numbered_latch ns latch)) c.deref-in-Latch.ensures.value)) c.in_ok-lay-in-Latch.ensures.stack
