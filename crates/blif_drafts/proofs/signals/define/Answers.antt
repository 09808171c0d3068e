use Rattle.std.proofs.Common.{◌≡◌, ◌∙◌, ap, false, sym, true}
use Rattle.blif_drafts.specs.Signals.{is_marked}
use Rattle.blif_formals.proofs.NewWords.{adds_one}
use Rattle.blif_drafts.proofs.Marking.{one_defines, one_stops}
use Rattle.blif_drafts.proofs.signals.define.Goals as goal

pub returns-then-is_marked-clause-stop : goal.returns-then-is_marked-clause-stop
returns-then-is_marked-clause-stop c =
    let number = c.in_ok-number.number in
    let taken : is_marked c.args.marks.now.items number ≡ true = ap (λ ms. is_marked ms number) (sym c.deref.ensures.value) ∙ sym c.is_marked.ensures ∙ c.if-is_marked.true in
    one_stops c.args.names.now c.number_of_new.new.self c.args.marks.now.items c.args.word.now number c.in_ok-number.ensures.words c.in_ok-number.ensures.number taken

pub returns-clause-ok : goal.returns-clause-ok
returns-clause-ok c =
    let number = c.in_ok-number.number in
    let free : is_marked c.args.marks.now.items number ≡ false = ap (λ ms. is_marked ms number) (sym c.deref.ensures.value) ∙ sym c.is_marked.ensures ∙ c.if-is_marked.false in
    one_defines c.args.names.now c.number_of_new.new.self c.args.marks.now.items c.mark.new.marks.items c.args.word.now number c.in_ok-number.ensures.words c.in_ok-number.ensures.number free c.in_ok-mark.ensures

pub returns-clause-added : goal.returns-clause-added
returns-clause-added c = adds_one c.args.names.now c.args.word.now c.number_of_new.new.self c.in_ok-number.ensures.words
