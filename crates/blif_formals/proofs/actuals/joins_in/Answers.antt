use Rattle.std.proofs.Common.{Bor, List, ℕ, length, ap, sym, ◌∙◌}
use Rattle.std.proofs.lemmas.List.{length-map}
use Rattle.blif_formals.specs.Formals.{words_in}
use Rattle.blif_formals.proofs.Numbering.{as_many_numbers}
use Rattle.blif_formals.proofs.Parted.{numbered}
use Rattle.blif_formals.proofs.actuals.joins_in.Goals as goal

pub joins_from-requires : goal.joins_from-requires
joins_from-requires c =
    let words = words_in c.args.words.now in
    ap length c.deref.ensures.value
    ∙ as_many_numbers c.args.names.now words c.in-Some.formals.items (numbered c.args.names.now words c.in_ok-formals.field-0 c.in-Some.formals c.in-Some.is c.in_ok-formals.ensures)
    ∙ length-map c.args.words.now (λ (w : Bor (List ℕ)). w.now) ∙ sym c.requires
