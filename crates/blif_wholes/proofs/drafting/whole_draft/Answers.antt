use Rattle.std.proofs.Common.{ℕ, ◌<◌, ◌++◌, List, get_or, length, map, refl, ap, sym, ◌∙◌, subst}
use Rattle.std.specs.Prelude.{All}
use Rattle.blif_models.specs.declared.numbered.NumberedLatch.{NumberedLatch}
use Rattle.blif_wholes.specs.declared.parting.WholeCover.{WholeCover}
use Rattle.blif_wholes.specs.declared.uses.SpotUse.{SpotUse}
use Rattle.blif_wholes.specs.Parting.{latches_laid}
use Rattle.blif_wholes.specs.Roles.{IsRoleOf, role_at}
use Rattle.blif_wholes.proofs.WholeDrafting.{all_inputs_within, draft_of_whole, moved_within, spots_are_names}
use Rattle.blif_wholes.proofs.drafting.whole_draft.Goals as goal

pub roles_of-requires-clause-inputs : goal.roles_of-requires-clause-inputs
roles_of-requires-clause-inputs c =
    let whole = c.args.whole in
    let many = c.len.ensures ∙ (whole.spots.ok).0 in
    let latches = c.deref.ensures.value ∙ c.in_ok-covers.ensures.latches in
    let are = c.deref-3.ensures.value ∙ c.in_ok-inputs.ensures ∙ ap (λ (ones : List NumberedLatch). c.args.inputs.now ++ map (λ (one : NumberedLatch). one.output) ones) latches in
    subst (All (λ n. n < c.len.result)) (sym are)
    (subst (λ m. All (λ n. n < m) (c.args.inputs.now ++ map (λ (one : NumberedLatch). one.output) (latches_laid whole.laid.items))) (sym many) (all_inputs_within c.requires.0 c.args.words.items c.requires.1 whole c.args.inputs.now c.args.outputs.now c.requires.2))

pub roles_of-requires-clause-covers : goal.roles_of-requires-clause-covers
roles_of-requires-clause-covers c = λ k d inside.
    let whole = c.args.whole in
    let many = c.len.ensures ∙ (whole.spots.ok).0 in
    let covers = c.in_ok-covers.field-0.covers.items in
    let within = moved_within c.requires.0 c.args.words.items c.requires.1 whole c.args.inputs.now c.args.outputs.now c.requires.2 covers c.in_ok-covers.ensures.covers in
    let there : k < length covers = subst (λ (all : List WholeCover). k < length all) c.deref-4.ensures.value inside in
    subst (λ (all : List WholeCover). (get_or all k d).cover.name < c.len.result) (sym c.deref-4.ensures.value)
    (subst (λ m. (get_or covers k d).cover.name < m) (sym many) (within k d there).1)

pub new-requires-clause-spots : goal.new-requires-clause-spots
new-requires-clause-spots c = spots_are_names c.args.words.items c.args.whole.spots.items c.requires.2.laid_out.named

pub returns : goal.returns
returns c = λ models main h.
    let whole = c.args.whole in
    let own = c.args.inputs.now in
    let outputs = c.args.outputs.now in
    let covers = c.in_ok-covers.field-0.covers.items in
    let roles = c.in_ok-roles.roles.items in
    let many = sym (c.in_ok-roles.roles.ok).0 ∙ c.in_ok-roles.ensures.many ∙ c.len.ensures ∙ (whole.spots.ok).0 in
    let shown = c.deref.ensures.value ∙ c.in_ok-covers.ensures.latches in
    let read = c.deref-2.ensures.value ∙ c.in_ok-covers.ensures.latches in
    let inputs_are = c.in_ok-inputs.ensures ∙ ap (λ (ones : List NumberedLatch). own ++ map (λ (one : NumberedLatch). one.output) ones) shown in
    let outputs_are = c.in_ok-outputs.ensures ∙ ap (λ (ones : List NumberedLatch). map (λ (one : SpotUse). one.spot) outputs ++ map (λ (one : NumberedLatch). one.input) ones) read in
    let given = λ (n : ℕ).
    subst (λ (ins : List ℕ). IsRoleOf ins (map (λ (one : WholeCover). one.cover.name) covers) n (role_at roles n)) (c.deref-3.ensures.value ∙ inputs_are)
    (subst (λ (all : List WholeCover). IsRoleOf c.deref-3.result.now (map (λ (one : WholeCover). one.cover.name) all) n (role_at roles n)) c.deref-4.ensures.value (c.in_ok-roles.ensures.roles n)) in
    draft_of_whole models c.args.words.items main whole own outputs h roles covers _ many c.in_ok-covers.ensures.covers c.in_ok-covers.ensures.rising given c.new.ensures inputs_are outputs_are refl
