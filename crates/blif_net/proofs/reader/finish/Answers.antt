use Rattle.std.proofs.Common.{◌≡◌, List, ap, length, map, sym, ◌∙◌}
use Rattle.std.proofs.lemmas.Result.{IfErr-weaker, IfOk-weaker, err_from_is_err_and}
use Rattle.blif_formals.specs.declared.interface.Interface.{Interface}
use Rattle.blif_wholes.specs.declared.uses.SpotUse.{SpotUse}
use Rattle.blif_models.specs.Models.{Model, whole_items}
use Rattle.blif_text.specs.Text.{Line}
use Rattle.blif_net.specs.Ending.{ErrorIs, IsExpanded, IsNetFrom, IsNetOfWhole}
use Rattle.blif_net.specs.Faults.{expanded_fault, fault_in, last_number}
use Rattle.blif_net.specs.Reading.{IsReadWhole}
use Rattle.blif_net.specs.Sound.{ArePlainLines}
use Rattle.blif_net.proofs.Finishing.{expanded_from, first_is, lines_as_many, main_in, main_interface, models_of, net_from, some_open, some_there, verdict_error, whole_fault}
use Rattle.blif_net.proofs.reader.finish.Goals as goal

pub judge-requires : goal.judge-requires
judge-requires c = some_open c.requires.0 c.args.reading c.requires.2

pub returns-in_err-whole-clause-fault : goal.returns-in_err-whole-clause-fault
returns-in_err-whole-clause-fault c =
    let p = err_from_is_err_and c.from_residual-in_err-whole.result c.from_residual-in_err-whole.ensures.1 in
    rw (p.1, p.2)
    (λ lines plain h last.
    verdict_error lines c.args.reading c.in_ok-names.field-0 c.in_err-whole.field-0.0 h c.in_ok-names.ensures.told (c.in_err-whole.ensures.fault lines (main_in lines) (whole_items (models_of lines) (main_in lines))))

pub index-main-requires : goal.index-main-requires
index-main-requires c =
    let is = main_interface c.requires.0 c.args.reading c.in_ok-names.field-0 c.requires.2 c.in_ok-names.ensures.told in
    some_there c.in_ok-names.field-0.interfaces is.0 is.1

pub uses_of-requires : goal.uses_of-requires
uses_of-requires c =
    let is = main_interface c.requires.0 c.args.reading c.in_ok-names.field-0 c.requires.2 c.in_ok-names.ensures.told in
    let same : c.index-main.result.now ≡ is.0 = first_is c.in_ok-names.field-0.interfaces.items is.0 c.index-main.result.now is.1 c.index-main.ensures in
    ap length c.deref.ensures.value ∙ lines_as_many c.requires.0 c.args.reading c.in_ok-names.field-0 is.0 c.requires.2 is.3 ∙ ap (λ (t : Interface). length t.outputs) (sym same) ∙ ap length (sym c.as_slice.ensures)

pub network_in-requires : goal.network_in-requires
network_in-requires c =
    let lines = c.requires.0 in (
      models_of lines,
      main_in lines,
      (expanded_from lines c.args.reading c.in_ok-names.field-0 c.in_ok-whole.whole c.index-main.result.now c.as_slice-inputs.result.now c.deref-2.result.now c.deref-3.result.now c.requires.1 c.requires.2 c.in_ok-names.ensures.told c.in_ok-names.ensures.names c.in_ok-names.ensures.one_number
          c.in_ok-whole.ensures.whole c.index-main.ensures c.as_slice-inputs.ensures (ap (map (λ (some : SpotUse). some.spot)) c.deref-2.ensures.value ∙ c.in_ok-uses.ensures.spots ∙ c.as_slice.ensures)
          (ap (map (λ (some : SpotUse). some.line)) c.deref-2.ensures.value ∙ c.in_ok-uses.ensures.lines ∙ c.deref.ensures.value) (c.deref-3.ensures.value ∙ c.in_ok-push.ensures.items)),
    )

pub returns-clause-net : goal.returns-clause-net
returns-clause-net c =
    IfOk-weaker c.network_in.result
    (λ net. (lines : List Line) (models : List Model) (main : Model) → IsExpanded models c.in_ok-names.field-0.names.items main c.in_ok-whole.whole c.as_slice-inputs.result.now c.deref-2.result.now c.deref-3.result.now → IsNetOfWhole lines models main net)
    (λ net. (lines : List Line) → ArePlainLines lines → IsReadWhole lines c.args.reading → IsNetFrom lines net)
    (λ net n lines plain h. net_from lines c.args.reading c.in_ok-names.field-0 c.in_ok-whole.whole net h c.in_ok-names.ensures.told c.in_ok-whole.ensures.whole (n lines (models_of lines) (main_in lines)
    (expanded_from lines c.args.reading c.in_ok-names.field-0 c.in_ok-whole.whole c.index-main.result.now c.as_slice-inputs.result.now c.deref-2.result.now c.deref-3.result.now plain h c.in_ok-names.ensures.told c.in_ok-names.ensures.names c.in_ok-names.ensures.one_number
    c.in_ok-whole.ensures.whole c.index-main.ensures c.as_slice-inputs.ensures (ap (map (λ (some : SpotUse). some.spot)) c.deref-2.ensures.value ∙ c.in_ok-uses.ensures.spots ∙ c.as_slice.ensures)
    (ap (map (λ (some : SpotUse). some.line)) c.deref-2.ensures.value ∙ c.in_ok-uses.ensures.lines ∙ c.deref.ensures.value) (c.deref-3.ensures.value ∙ c.in_ok-push.ensures.items)))) c.network_in.ensures.net

pub returns-clause-fault : goal.returns-clause-fault
returns-clause-fault c =
    IfErr-weaker c.network_in.result
    (λ error. (lines : List Line) (models : List Model) (main : Model) → IsExpanded models c.in_ok-names.field-0.names.items main c.in_ok-whole.whole c.as_slice-inputs.result.now c.deref-2.result.now c.deref-3.result.now → c.args.last ≡ last_number lines → ErrorIs (expanded_fault lines main (whole_items models main)) error)
    (λ error. (lines : List Line) → ArePlainLines lines → IsReadWhole lines c.args.reading → c.args.last ≡ last_number lines → ErrorIs (fault_in lines) error)
    (λ error f lines plain h last. whole_fault lines c.args.reading c.in_ok-names.field-0 c.in_ok-whole.whole error h c.in_ok-names.ensures.told c.in_ok-whole.ensures.whole (f lines (models_of lines) (main_in lines)
    (expanded_from lines c.args.reading c.in_ok-names.field-0 c.in_ok-whole.whole c.index-main.result.now c.as_slice-inputs.result.now c.deref-2.result.now c.deref-3.result.now plain h c.in_ok-names.ensures.told c.in_ok-names.ensures.names c.in_ok-names.ensures.one_number
    c.in_ok-whole.ensures.whole c.index-main.ensures c.as_slice-inputs.ensures (ap (map (λ (some : SpotUse). some.spot)) c.deref-2.ensures.value ∙ c.in_ok-uses.ensures.spots ∙ c.as_slice.ensures)
    (ap (map (λ (some : SpotUse). some.line)) c.deref-2.ensures.value ∙ c.in_ok-uses.ensures.lines ∙ c.deref.ensures.value) (c.deref-3.ensures.value ∙ c.in_ok-push.ensures.items)) last)) c.network_in.ensures.fault
