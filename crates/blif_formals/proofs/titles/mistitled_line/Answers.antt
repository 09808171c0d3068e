use Rattle.std.proofs.Common.{List, drop, filter, length, map, ap, subst, sym, ◌∙◌}
use Rattle.std.specs.Prelude.{All}
use Rattle.std.proofs.lemmas.List.Elements.{All-tail}
use Rattle.blif_models.specs.ModelFaults.{least}
use Rattle.blif_formals.specs.declared.titles.Heading.{Heading}
use Rattle.blif_formals.specs.Titles.{IsTitleBelow, is_mistitled}
use Rattle.blif_formals.proofs.Titled.{mistitled_told}
use Rattle.blif_formals.proofs.titles.mistitled_line.Goals as goal

pub first_mistitled-requires : goal.first_mistitled-requires
first_mistitled-requires c =
    let below = λ (heading : Heading). IsTitleBelow (length c.args.titles.now) heading.title in
    All-tail below c.in_ok-_main._main.now c.in_ok-_main.further.now (subst (λ (xs : List Heading). All below xs) c.in_ok-_main.ensures.cases.0 c.requires.within)

pub returns : goal.returns
returns c =
    let headings = c.args.headings.now in
    c.first_mistitled.ensures
    ∙ (λ j. least (map (λ heading. heading.line) (filter (λ heading. mistitled_told headings c.args.titles.now c.requires.titles heading.title j) c.in_ok-_main.further.now)))
    ∙ ap (λ xs. least (map (λ heading. heading.line) (filter (λ heading. is_mistitled headings heading.title) (drop 1 xs)))) (sym c.in_ok-_main.ensures.cases.0)
