use Rattle.std.proofs.Common.{◌∙◌, ap, sym, subst, List, ℕ, map, nat_abs}
use Rattle.dddmp_text.specs.declared.fields.Field.TheVariants as fields
use Rattle.dddmp_text.specs.declared.fields.Given.{Given}
use Rattle.dddmp_text.specs.Fields.{whole_numbers}
use Rattle.dddmp_text.specs.Reading.{AreOfHeader}
use Rattle.dddmp_text.proofs.ReadDumps.{as-many, of-header}
use Rattle.dddmp_text.proofs.reader.read_dump.Goals as goal

pub variables_of-requires : goal.variables_of-requires
variables_of-requires c =
    let given = c.args.headed.now.given in
    let ids = c.in_ok-ids.ensures ∙ ap (map nat_abs) (c.numbers_in.ensures ∙ ap (λ (g : List Given). whole_numbers g fields.Ids) c.as_slice-given.ensures) in
    let permids = c.in_ok-permids.ensures ∙ ap (map nat_abs) (c.numbers_in-2.ensures ∙ ap (λ (g : List Given). whole_numbers g fields.Permids) c.as_slice-given.ensures) in
    as-many given c.deref.result.now c.deref-2.result.now c.requires.whole (c.deref.ensures.value ∙ ids) (c.deref-2.ensures.value ∙ permids)

pub read_nodes-requires-clause-variables : goal.read_nodes-requires-clause-variables
read_nodes-requires-clause-variables c =
    let given = c.args.headed.now.given in
    let ids = c.in_ok-ids.ensures ∙ ap (map nat_abs) (c.numbers_in.ensures ∙ ap (λ (g : List Given). whole_numbers g fields.Ids) c.as_slice-given.ensures) in
    let permids = c.in_ok-permids.ensures ∙ ap (map nat_abs) (c.numbers_in-2.ensures ∙ ap (λ (g : List Given). whole_numbers g fields.Permids) c.as_slice-given.ensures) in
    subst (λ (variables : List ℕ). AreOfHeader given variables) (sym c.deref-3.ensures.value)
    (of-header given c.deref.result.now c.deref-2.result.now c.in_ok-variables.variables.items c.requires.whole (c.deref.ensures.value ∙ ids) (c.deref-2.ensures.value ∙ permids) c.in_ok-variables.ensures.few
    c.in_ok-variables.ensures.told)
