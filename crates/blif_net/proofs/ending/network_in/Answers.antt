use Rattle.std.proofs.Common.{◌==◌, List, Some, length, ap, sym, ◌∙◌, subst}
use Rattle.cover_nets.specs.declared.net.Output.{Output}
use Rattle.blif_models.specs.Models.{whole_items}
use Rattle.blif_net.specs.declared.faults.FaultKind.TheVariants as kinds
use Rattle.blif_net.specs.Ending.{ErrorIs}
use Rattle.blif_net.specs.Faults.{expanded_fault, fault_at}
use Rattle.blif_net.proofs.WholeEnding.{cyclic_fault, net_of_whole, outputs_fault, sound_whole, undefined_fault}
use Rattle.blif_net.proofs.ending.network_in.Goals as goal

pub returns-in-Some-clause-fault : goal.returns-in-Some-clause-fault
returns-in-Some-clause-fault c = λ lines models main e same.
    subst (ErrorIs (expanded_fault lines main (whole_items models main))) (sym c.fault_at.ensures)
    (undefined_fault models c.args.words.items main c.args.whole c.args.inputs.now c.args.outputs.now c.args.kept.now e lines c.in-Some.line (sym c.in-Some.is ∙ c.in_ok-line.ensures))

pub network_of-requires : goal.network_of-requires
network_of-requires c =
    let models = c.requires.0 in
    let main = c.requires.1 in
    let e = c.requires.2 in
    let d = c.in_ok-draft.ensures models main e.named in
    (models, d.circuit, d.draft_of, sound_whole models c.args.words.items main c.args.whole c.args.inputs.now c.args.outputs.now c.args.kept.now e (sym c.in_default.is ∙ c.in_ok-line.ensures) c.in_ok-draft.draft d)

pub returns-in-Cyclic-clause-fault : goal.returns-in-Cyclic-clause-fault
returns-in-Cyclic-clause-fault c = λ lines models main e same.
    subst (ErrorIs (expanded_fault lines main (whole_items models main))) (sym c.fault_at-in-Cyclic.ensures)
    (cyclic_fault models c.args.words.items main c.args.whole c.args.inputs.now c.args.outputs.now c.args.kept.now e
    (sym c.in_default.is ∙ c.in_ok-line.ensures) c.in_ok-draft.draft (c.in_ok-draft.ensures models main e.named) c.in_ok-line-2.field-0 c.in_ok-line-2.ensures lines c.in-Cyclic.line c.in-Cyclic.is)

pub returns-then-is_empty-clause-fault : goal.returns-then-is_empty-clause-fault
returns-then-is_empty-clause-fault c = λ lines models main e same.
    let empty = ap (λ (outs : List Output). length outs == 0) (sym c.outputs.ensures) ∙ sym c.is_empty.ensures ∙ c.if-is_empty.true in
    subst (ErrorIs (expanded_fault lines main (whole_items models main))) (sym c.fault_at-then-is_empty.ensures)
    (outputs_fault models c.args.words.items main c.args.whole c.args.inputs.now c.args.outputs.now c.args.kept.now e
    (sym c.in_default.is ∙ c.in_ok-line.ensures) c.in_ok-draft.draft (c.in_ok-draft.ensures models main e.named) c.in_ok-line-2.field-0 c.in_ok-line-2.ensures c.in-Network.net c.in-Network.is lines empty
    ∙ ap (λ n. Some (fault_at kinds.NoOutputs n)) (sym same))

pub returns-clause-net : goal.returns-clause-net
returns-clause-net c = λ lines models main e.
    let some = ap (λ (outs : List Output). length outs == 0) (sym c.outputs.ensures) ∙ sym c.is_empty.ensures ∙ c.if-is_empty.false in
    net_of_whole models c.args.words.items main c.args.whole c.args.inputs.now c.args.outputs.now c.args.kept.now e
    (sym c.in_default.is ∙ c.in_ok-line.ensures) c.in_ok-draft.draft (c.in_ok-draft.ensures models main e.named) c.in_ok-line-2.field-0 c.in_ok-line-2.ensures c.in-Network.net c.in-Network.is lines some
