use Rattle.std.proofs.Common.{◌∷◌, []}
use Rattle.std.proofs.lemmas.Option.{get_or_from_slice_get, slice_get_within}
use Rattle.std.proofs.lemmas.Result.{err_from_is_err_and}
use Rattle.blif_formals.specs.Actuals.{Keeps}
use Rattle.blif_formals.proofs.NewWords.{adds_one, adds_then}
use Rattle.blif_formals.proofs.Numbering.{keeps_all, keeps_more}
use Rattle.blif_drafts.proofs.Refusing.{latch_stop, latch_take}
use Rattle.blif_drafts.proofs.open_draft.OpenDraft.add_latch.Goals as goal

pub returns-in_err-output-clause-stop : goal.returns-in_err-output-clause-stop
returns-in_err-output-clause-stop c =
    let names = c.args.self.now.draft.names in
    let kept : Keeps names c.number_of.new.self = keeps_more names names c.number_of.new.self c.args.input.now (keeps_all names) c.in_ok-input.ensures.words in
    let p = err_from_is_err_and c.from_residual-in_err-output.result c.from_residual-in_err-output.ensures.1 in
    rw (p.1, p.2) (latch_stop c.args.self.now c.number_of.new.self kept c.args.output.now c.in_err-output.field-0.0 c.in_err-output.ensures.stop)

pub returns-clause-ok : goal.returns-clause-ok
returns-clause-ok c =
    let names = c.args.self.now.draft.names in
    let mid = c.number_of.new.self in
    let input = c.in_ok-input.input in
    let kept : Keeps names mid = keeps_more names names mid c.args.input.now (keeps_all names) c.in_ok-input.ensures.words in
    let at = c.in_ok-input.ensures.number in
    latch_take c.args.self.now mid kept c.args.output.now c.args.line c.args.input.now input c.in_ok-output.output c.define.new.names c.define.new.marks c.push.new.self c.in_ok-self.field-0
    ((slice_get_within mid input c.args.input.now at, get_or_from_slice_get mid input c.args.input.now [] at), tt) c.in_ok-output.ensures.ok c.in_ok-push.ensures.ok c.in_ok-self.ensures

pub returns-clause-names : goal.returns-clause-names
returns-clause-names c =
    let names = c.args.self.now.draft.names in
    let mid = c.number_of.new.self in
    adds_then names (c.args.input.now ∷ []) mid (c.args.output.now ∷ []) c.define.new.names (adds_one names c.args.input.now mid c.in_ok-input.ensures.words) c.in_ok-output.ensures.added
