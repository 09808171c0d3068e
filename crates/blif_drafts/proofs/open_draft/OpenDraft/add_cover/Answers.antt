use Rattle.std.proofs.Common.{◌∙◌, ◌∷◌, [], sym}
use Rattle.std.proofs.lemmas.Result.{err_from_is_err_and}
use Rattle.blif_formals.specs.Formals.{words_in}
use Rattle.blif_formals.proofs.NewWords.{adds_then}
use Rattle.blif_drafts.proofs.Refusing.{cover_stop, cover_take, cover_too_many}
use Rattle.blif_drafts.proofs.open_draft.OpenDraft.add_cover.Goals as goal

pub returns-in_err-name-clause-stop : goal.returns-in_err-name-clause-stop
returns-in_err-name-clause-stop c =
    let p = err_from_is_err_and c.from_residual-in_err-name.result c.from_residual-in_err-name.ensures.1 in
    rw (p.1, p.2) (cover_stop c.args.self.now c.numbers_of.new.names c.in_ok-ins.ensures.names c.args.name.now c.in_err-name.field-0.0 c.in_err-name.ensures.stop)

pub returns-then-are_more-clause-stop : goal.returns-then-are_more-clause-stop
returns-then-are_more-clause-stop c =
    cover_too_many c.args.self.now c.numbers_of.new.names c.in_ok-ins.ensures.names c.args.name.now c.in_ok-name.name c.define.new.names c.define.new.marks.items c.in_ok-name.ensures.ok (sym c.are_more.ensures ∙ c.if-are_more.true)

pub returns-clause-ok : goal.returns-clause-ok
returns-clause-ok c =
    cover_take c.args.self.now c.numbers_of.new.names c.in_ok-ins.ensures.names c.args.name.now c.args.line (words_in c.args.ins.now) c.in_ok-ins.ins c.in_ok-name.name c.define.new.names c.define.new.marks c.push.new.self c.in_ok-self.field-0
    c.in_ok-ins.ensures.numbers c.in_ok-name.ensures.ok (sym c.are_more.ensures ∙ c.if-are_more.false) c.in_ok-push.ensures.ok c.in_ok-self.ensures

pub returns-clause-names : goal.returns-clause-names
returns-clause-names c = adds_then c.args.self.now.draft.names (words_in c.args.ins.now) c.numbers_of.new.names (c.args.name.now ∷ []) c.define.new.names c.in_ok-ins.ensures.added c.in_ok-name.ensures.added
